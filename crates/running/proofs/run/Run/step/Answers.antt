use Rattle.std.proofs.Common.{refl, ap, ◌∙◌, rules}
use Rattle.books.specs.Calls.{Turn, turn}
use Rattle.running.specs.Lanes.{row_in}
use Rattle.running.specs.Run.{script_of, state_in}
use Rattle.running.proofs.Admitted.{let_through}
use Rattle.running.proofs.run.Run.step.Goals as goal

pub take_turn-answer-requires : goal.take_turn-answer-requires
take_turn-answer-requires g c =
    let run = c.args.self.now in
    (let_through g.K.Kind.rules (script_of run.script) (state_in g.B.Board.values run) run.script.opening.few_steps c.args.lane (row_in c.in_ok-found.found) c.in_ok-found.ensures).is_due

pub returns : goal.returns
returns g c =
    let R = g.K.Kind.rules in
    let run = c.args.self.now in
    let S = script_of run.script in
    let st = state_in g.B.Board.values run in
    let row = row_in c.in_ok-found.found in
    let so = c.take_turn-answer.ensures in
    let free = let_through R S st run.script.opening.few_steps c.args.lane row c.in_ok-found.ensures in
    record {
      after = rw (so.lanes, free.none, ← free.its_row, ← so.turn) refl;
      reply = rw free.none (ap (λ (t : Turn g.row.K-Value.Denot). t.reply) (so.turn ∙ ap (turn R S st) free.its_row));
      keeps = search rules;
    }
