use Rattle.std.proofs.Common.{ℕ, ◌||◌, eqb, List, length, get_or, sym, ap, ◌∙◌, arith}
use Rattle.std.proofs.lemmas.List.{length-set}
use Rattle.clusters.specs.Roots.{roots_of}
use Rattle.dealing.specs.Stages.{rooted}
use Rattle.dealing.proofs.Naming.{counted_some, counted_none}
use Rattle.dealing.proofs.Touching.{mark_more}
use Rattle.dealing.proofs.examining.mark_roots.Goals as goal
use Rattle.dealing.proofs.examining.mark_roots.Goals.{in-Some, in_default}

pub loop-step-preserved : goal.loop-step-preserved
loop-step-preserved c =
    let rs = roots_of c.args.parents.now in
    let act = c.args.cells.active.now in
    let ss = c.args.cells.steps.now in
    let i = c.loop-step.step-index in
    elim c.match-counted.branch [
      | in-Some w ↦
          let marks = w.mark.ensures.marks in
          let long = length-set c.loop-step.marked.marks.now w.root.result 1 in
          rw w.marked-is (
            w.mark.ensures.lent ∙ c.loop-step.invariant.0,
            ap length marks ∙ long ∙ c.loop-step.invariant.1,
            rw marks
                (λ k h.
                mark_more rs c.loop-step.marked.marks.now _ _ w.in-Some.cell w.root.result k _ w.root.ensures.root (omega (arith, w.root.ensures.within, c.loop-step.invariant.1))
                (counted_some act ss i (omega arith) w.in-Some.cell w.in-Some.ensures.counted)
                (c.loop-step.invariant.2 k (omega (arith, long)))),
          )
      | in_default w ↦
          rw w.marked-is (
            c.loop-step.invariant.0,
            c.loop-step.invariant.1,
            λ k h.
                ap (λ (l : List ℕ). rooted rs l k || eqb (get_or c.loop-step.marked.marks.now k 0) 1)
                (sym (counted_none act ss i (omega arith) w.in_default.ensures.counted))
                ∙ c.loop-step.invariant.2 k h,
          )
    ]
