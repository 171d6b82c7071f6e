use Rattle.std.proofs.Common.{true, false, sym, ◌∙◌, arith}
use Rattle.std.proofs.lemmas.List.{length-set}
use Rattle.clusters.specs.Roots.{roots_of}
use Rattle.dealing.specs.Special.{cells_known}
use Rattle.dealing.proofs.Specials.{cell_at, cells_long}
use Rattle.dealing.proofs.Touching.{hits_more, count_more, hits_all, count_all}
use Rattle.dealing.proofs.examining.marked_ones.Goals as goal
use Rattle.dealing.proofs.examining.marked_ones.Goals.{then-touched, else-touched}

pub root-requires : goal.root-requires
root-requires c =
    let special = c.args.special.now in
    let i = c.loop-i.i in
    omega (arith, c.from.ensures, cell_at special i, c.requires.special.below i (omega (arith, cells_long special)))

pub loop-i-preserved : goal.loop-i-preserved
loop-i-preserved c =
    let ms = c.args.marked.now.marks.now in
    let rs = roots_of c.args.parents.now in
    let special = cells_known c.args.special.now in
    let i = c.loop-i.i in
    let t = c.is_marked-touched.result in
    let place = c.from.ensures ∙ sym (cell_at c.args.special.now i) in
    let long = cells_long c.args.special.now in
    let count = count_more ms rs special c.loop-i.hit i c.from.result c.root.result t (omega arith) (omega (arith, c.requires.room))
    place c.root.ensures.root c.is_marked-touched.ensures c.loop-i.count in (
      hits_more ms rs special c.loop-i.hit i c.from.result c.root.result t (omega arith) (omega (arith, c.requires.room))
          place c.root.ensures.root c.is_marked-touched.ensures c.loop-i.invariant.0,
      elim c.if-touched.branch [
        | then-touched w ↦ omega (arith, w.count-is, count true w.if-touched.true c.loop-i.invariant.1)
        | else-touched w ↦ omega (arith, w.count-is, count false w.if-touched.false c.loop-i.invariant.1)
      ],
      elim c.if-touched.branch [ then-touched w ↦ omega (arith, w.count-is) | else-touched w ↦ omega (arith, w.count-is) ],
      length-set c.loop-i.hit i t ∙ c.loop-i.invariant.3,
    )

pub returns : goal.returns
returns c =
    let ms = c.args.marked.now.marks.now in
    let rs = roots_of c.args.parents.now in
    let special = cells_known c.args.special.now in
    let long = cells_long c.args.special.now in
    record {
      which = hits_all ms rs special c.loop-i.hit c.loop-i.i (omega arith) (omega (arith, c.requires.room)) c.loop-i.invariant.0;
      count = count_all ms rs special c.loop-i.count c.loop-i.i (omega arith) c.loop-i.invariant.1;
      kept = c.loop-i.invariant.3;
    }
