use Rattle.std.proofs.Common.{◌≡◌, ◌-◌, ◌<◌, Bool, cond, length, ap, ◌∙◌, arith}
use Rattle.std.specs.List.{range_with_len}
use Rattle.dealing.specs.Clustering.{roots_in, move_total, known, sizes}
use Rattle.dealing.specs.Counting.{pair_count}
use Rattle.dealing.specs.Stages.{merge_rows}
use Rattle.dealing.proofs.Continuing.{goes_further}
use Rattle.dealing.proofs.Merged.{rows_more, merge_is}
use Rattle.dealing.proofs.Specials.{cells_long}
use Rattle.dealing.proofs.clustering.SpecialClusters.merge.Goals as goal

pub loop-i-preserved : goal.loop-i-preserved
loop-i-preserved c =
    let s = c.args.self.now in
    let inv = c.loop-i.invariant in
    let inside : c.loop-i.i < length (known s) = omega (arith, c.len-i-end.ensures.value, cells_long s.special.items) in (
      rows_more c.args.share (known s) (sizes s) (pair_count s.pairs.now) c.loop-i.i (roots_in c.loop-i.self.clusters) (roots_in c.merge_with.new.self.clusters) _ inside
          (rw (inv.3.known, inv.1, inv.2) at c.merge_with.ensures.roots) inv.0,
      c.merge_with.ensures.sizes ∙ inv.1,
      c.merge_with.ensures.pairs ∙ inv.2,
      goes_further inv.3 c.merge_with.ensures.same,
    )

pub returns-clause-roots : goal.returns-clause-roots
returns-clause-roots c f at =
    let s = c.args.self.now in
    let rs = roots_in s.clusters in
    let rows = merge_rows c.args.share (known s) (sizes s) (pair_count s.pairs.now) (range_with_len 0 (length (known s))) rs in
    let z : length (known s) - c.loop-i.i ≡ 0 = omega (arith, c.len-i-end.ensures.value, cells_long s.special.items) in
    let e : roots_in c.loop-i.self.clusters ≡ rows = rw z at c.loop-i.invariant.0 in
    merge_is c.args.share (move_total s.clusters) (known s) f rs (sizes s) s.pairs.now (roots_in c.loop-i.self.clusters) s.skipped at
    (e ∙ ap (λ (b : Bool). cond b rows rs) c.if-not-enough.ensures)
