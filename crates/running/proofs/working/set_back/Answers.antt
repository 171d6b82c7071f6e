use Rattle.std.proofs.Common.{◌+◌, ◌-◌, length, take, drop, sym, ◌∙◌, rules, arith}
use Rattle.std.proofs.lemmas.List.{length_push}
use Rattle.std.proofs.lemmas.Iterator.{YieldsList-from_zip}
use Rattle.std.proofs.lemmas.Iterator.Adapters.{YieldsList-from_rev_slice}
use Rattle.std.proofs.lemmas.Iterator.Consumers.{YieldsList-turn}
use Rattle.running.proofs.Stepped.{back_written, back_looked}
use Rattle.running.proofs.working.set_back.Goals as goal

pub loop-step-preserved-then-writes : goal.loop-step-preserved-then-writes
loop-step-preserved-then-writes g c =
    let first = c.args.first in
    let n = c.args.count in
    let j = first + n - first in
    let steps = c.args.steps.now in
    let saved = c.args.saved.now in
    let m = length c.loop-step.yielded in
    let vs = g.B.Board.values c.loop-step.board in
    let t = YieldsList-turn (YieldsList-from_zip (YieldsList-from_rev_slice (take j (drop first steps)) (search rules)) (YieldsList-from_rev_slice (take j (drop first saved)) (search rules)))
    c.loop-step.yielded c.loop-step.step-iterator c.loop-step.yielded_by c.next.result c.next.new.self (c.in-Some.step, c.in-Some.old) c.in-Some.is c.next.ensures.steps in
    rw (length_push c.loop-step.yielded (c.in-Some.step, c.in-Some.old)) (
      back_written g.K.Kind.rules steps saved first n j m vs c.in-Some.step.now c.in-Some.old.now (omega arith) c.requires.steps c.requires.saved t
          c.from.result (g.B.Board.values c.set.new.self) c.from.ensures (sym c.writes.ensures ∙ c.if-writes.true) c.set.ensures.values
          ∙ c.loop-step.invariant.0,
      c.set.ensures.around ∙ c.loop-step.invariant.1,
    )

pub loop-step-preserved : goal.loop-step-preserved
loop-step-preserved g c =
    let first = c.args.first in
    let n = c.args.count in
    let j = first + n - first in
    let steps = c.args.steps.now in
    let saved = c.args.saved.now in
    let m = length c.loop-step.yielded in
    let vs = g.B.Board.values c.loop-step.board in
    let t = YieldsList-turn (YieldsList-from_zip (YieldsList-from_rev_slice (take j (drop first steps)) (search rules)) (YieldsList-from_rev_slice (take j (drop first saved)) (search rules)))
    c.loop-step.yielded c.loop-step.step-iterator c.loop-step.yielded_by c.next.result c.next.new.self (c.in-Some.step, c.in-Some.old) c.in-Some.is c.next.ensures.steps in
    rw (length_push c.loop-step.yielded (c.in-Some.step, c.in-Some.old)) (
      back_looked g.K.Kind.rules steps saved first n j m vs c.in-Some.step.now c.in-Some.old.now (omega arith) c.requires.steps c.requires.saved t
          (sym c.writes.ensures ∙ c.if-writes.false)
          ∙ c.loop-step.invariant.0,
      c.loop-step.invariant.1,
    )
