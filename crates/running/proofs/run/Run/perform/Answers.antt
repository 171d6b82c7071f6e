use Rattle.std.proofs.Common.{◌≡◌, map, length, get_or, sym, refl, ◌∙◌, subst, rules, arith}
use Rattle.std.proofs.lemmas.List.{drop-set-lt}
use Rattle.std.proofs.lemmas.Option.{slice_get-get_or}
use Rattle.yard.specs.declared.run.Call.TheVariants.{Step as StepOn}
use Rattle.yard.specs.Batches.{listed}
use Rattle.yard.specs.Runs.{reply_of}
use Rattle.dealing.specs.Openings.{numbers_in}
use Rattle.books.specs.Scripts.{State}
use Rattle.books.specs.Law.{Law}
use Rattle.books.proofs.Proving.{law_of_runs}
use Rattle.running.specs.Run.{script_of, state_in}
use Rattle.running.proofs.Heard.{kept, state_more, heard_more, worked}
use Rattle.running.proofs.run.Run.perform.Goals as goal

pub loop-i-init : goal.loop-i-init
loop-i-init g c = record { state = refl; heard = λ j d l e. absurd (omega arith); keeps = search rules; past = refl }

pub loop-i-preserved : goal.loop-i-preserved
loop-i-preserved g c =
    let R = g.K.Kind.rules in
    let run = c.args.self.now in
    let S = script_of run.script in
    let start = state_in g.B.Board.values run in
    let now = state_in g.B.Board.values c.loop-i.self in
    let next = state_in g.B.Board.values c.serve.new.self in
    let calls = c.args.calls.now in
    let i = c.loop-i.i in
    let call = get_or calls i (StepOn 0) in
    let so = c.loop-i.invariant in
    let there = slice_get-get_or calls i (StepOn 0) c.loop-i-test.true in
    record {
      state = state_more R S start calls i call now next there so.state (rw so.keeps.script at c.serve.ensures.after);
      heard = heard_more R S start calls i call now c.loop-i.answers c.serve.result there (omega arith)
          so.state so.heard (rw so.keeps.script at c.serve.ensures.reply);
      keeps = kept g.B.Board.around run c.loop-i.self c.serve.new.self so.keeps c.serve.ensures.keeps;
      past = drop-set-lt (length calls) c.loop-i.answers i c.serve.result c.loop-i-test.true ∙ so.past;
    }

pub returns : goal.returns
returns g c =
    let R = g.K.Kind.rules in
    let run = c.args.self.now in
    let S = script_of run.script in
    let start = state_in g.B.Board.values run in
    let now = state_in g.B.Board.values c.loop-i.self in
    let calls = c.args.calls.now in
    let so = c.loop-i.invariant in
    let all : c.loop-i.i ≡ length calls = omega arith in
    let done = worked R S start calls c.loop-i.i now c.args.answers.now c.loop-i.answers all (omega arith) so.state so.heard so.past in
    record {
      performed = done;
      keeps = so.keeps;
      law = λ _ opened.
          subst (λ (final : State g.row.K-Value.Denot). Law R S start calls (map reply_of c.loop-i.answers) final) (sym done.state)
          (law_of_runs R g.met.K.Kind.looks (listed run.script.batch) (numbers_in run.script.opening) run.script.line_up.now run.lanes.now run.outcomes.now
          (g.B.Board.values run.board.now) run.saved.now calls (map reply_of c.loop-i.answers) opened done.answers);
    }
