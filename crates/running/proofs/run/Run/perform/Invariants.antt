use Rattle.std.proofs.Common.{◌≡◌, length, drop}
use Rattle.books.specs.Calls.{stage}
use Rattle.running.specs.Run.{script_of, state_in, Keeps}
use Rattle.running.proofs.Heard.{Heard}
use Rattle.running.proofs.run.Run.perform.Given as goal

-- the lists and the answers so far are those of the calls so far
abbrev pub invariant-loop-i : goal.invariant-loop-i
invariant-loop-i g l =
    let R = g.K.Kind.rules in
    let S = script_of l.initial.self.script in
    let start = state_in g.B.Board.values l.initial.self in
    record {
      state : state_in g.B.Board.values l.self ≡ stage R S start l.calls l.i;
      heard : Heard R S start l.calls l.answers l.i;
      keeps : Keeps g.B.Board.around l.initial.self l.self;
      past : drop (length l.calls) l.answers ≡ drop (length l.calls) l.initial.answers;
    }
