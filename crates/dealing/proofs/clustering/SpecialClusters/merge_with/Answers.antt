use Rattle.std.proofs.Common.{◌≡◌, ℕ, List, length, get_or, sym, ap, ◌∙◌, arith}
use Rattle.arrayvec.specs.ArrayVec.{ArrayVec}
use Rattle.dealing.specs.declared.special.Special.{Special}
use Rattle.dealing.specs.Clustering.{roots_in, known, sizes}
use Rattle.dealing.specs.Counting.{pair_count}
use Rattle.dealing.specs.Special.{no_special}
use Rattle.dealing.proofs.Continuing.{and_then}
use Rattle.dealing.proofs.Merged.{row_more}
use Rattle.dealing.proofs.Specials.{cell_at, size_at, cells_long}
use Rattle.dealing.proofs.clustering.SpecialClusters.merge_with.Goals as goal
use Rattle.dealing.proofs.clustering.SpecialClusters.merge_with.Goals.{then-share_enough, else-share_enough}

pub join_at-requires-clause-one : goal.join_at-requires-clause-one
join_at-requires-clause-one c =
    let special = c.args.self.now.special.items in
    let cell = ap (λ (l : List Special). (get_or l c.args.i no_special).cell) c.deref.ensures.0 ∙ sym (cell_at special c.args.i) in
    omega (arith, c.from.ensures ∙ cell, c.args.self.now.known.below c.args.i c.requires, c.loop-j.invariant.3.clusters.long)

pub join_at-requires-clause-other : goal.join_at-requires-clause-other
join_at-requires-clause-other c =
    let special = c.args.self.now.special.items in
    let j = c.loop-j.j in
    let here : c.deref-in-loop-j.result.now ≡ special = c.deref-in-loop-j.ensures.0 ∙ ap (λ (v : ArrayVec Special). v.items) c.loop-j.invariant.1 in
    let cell = ap (λ (l : List Special). (get_or l j no_special).cell) here ∙ sym (cell_at special j) in
    omega (arith, c.from-then-share_enough.ensures ∙ cell, c.args.self.now.known.below j (omega (arith, c.len-j-end.ensures.value, cells_long special)), c.loop-j.invariant.3.clusters.long)

pub loop-j-preserved : goal.loop-j-preserved
loop-j-preserved c =
    let special = c.args.self.now.special.items in
    let i = c.args.i in
    let j = c.loop-j.j in
    let so_far = c.loop-j.invariant.3 in
    let first : c.deref.result.now ≡ special = c.deref.ensures.0 in
    let here : c.deref-in-loop-j.result.now ≡ special = c.deref-in-loop-j.ensures.0 ∙ ap (λ (v : ArrayVec Special). v.items) c.loop-j.invariant.1 in
    let both = c.loop-j.self.pairs.now in
    let x = get_or c.deref.result.now i no_special in
    let y = get_or c.deref-in-loop-j.result.now j no_special in
    let xc : x.cell ≡ get_or (known c.args.self.now) i 0 = ap (λ (l : List Special). (get_or l i no_special).cell) first ∙ sym (cell_at special i) in
    let yc : y.cell ≡ get_or (known c.args.self.now) j 0 = ap (λ (l : List Special). (get_or l j no_special).cell) here ∙ sym (cell_at special j) in (
      row_more c.args.share (known c.args.self.now) (sizes c.args.self.now) (pair_count c.args.self.now.pairs.now) i j (length (known c.args.self.now))
          x.size y.size (get_or both c.pair_place.result 0) (roots_in c.loop-j.self.clusters) (roots_in c.if-share_enough.self.clusters) _ c.share_enough.result
          (omega (arith, c.len-j-end.ensures.value, cells_long special))
          (ap (λ (l : List Special). (get_or l i no_special).size) first ∙ sym (size_at special i))
          (ap (λ (l : List Special). (get_or l j no_special).size) here ∙ sym (size_at special j))
          (ap (λ (k : ℕ). get_or both k 0) c.pair_place.ensures ∙ ap (λ (l : List ℕ). pair_count l i j) c.loop-j.invariant.2)
          c.share_enough.ensures
          (elim c.if-share_enough.branch [
            | then-share_enough w ↦
                let p = w.from.ensures ∙ xc in
                let q = w.from-then-share_enough.ensures ∙ yc in
                rw (w.self-is, w.if-share_enough.true) (w.join_at.ensures.roots ∙ (rw (p, q)))
            | else-share_enough w ↦ rw (w.self-is, w.if-share_enough.false)
          ])
          c.loop-j.invariant.0,
      elim c.if-share_enough.branch [ then-share_enough w ↦ rw w.self-is c.loop-j.invariant.1 | else-share_enough w ↦ rw w.self-is c.loop-j.invariant.1 ],
      elim c.if-share_enough.branch [ then-share_enough w ↦ rw w.self-is c.loop-j.invariant.2 | else-share_enough w ↦ rw w.self-is c.loop-j.invariant.2 ],
      elim c.if-share_enough.branch [
        | then-share_enough w ↦ rw w.self-is (record { clusters = and_then so_far.clusters w.join_at.ensures.same; known = so_far.known; pairs = so_far.pairs })
        | else-share_enough w ↦ rw w.self-is so_far
      ],
    )
