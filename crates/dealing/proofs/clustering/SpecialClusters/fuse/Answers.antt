use Rattle.std.proofs.Common.{◌≡◌, ◌+◌, [], length, get_or, take, sym, ap, ◌∙◌, rules, arith}
use Rattle.std.proofs.lemmas.List.{length-take-le, take_all}
use Rattle.dealing.specs.Active.{no_move}
use Rattle.dealing.specs.Clustering.{roots_in, named_by, named_by_all, known, sizes}
use Rattle.dealing.specs.Stages.{fused_of, fuse}
use Rattle.dealing.proofs.Continuing.{going_on, goes_further}
use Rattle.dealing.proofs.NoConflict.{cells_at, length_cells}
use Rattle.dealing.proofs.Specials.{cells_long, sizes_long}
use Rattle.dealing.proofs.Staged.{fusing_none, fuse_more, fuse_small, countable}
use Rattle.dealing.proofs.clustering.SpecialClusters.fuse.Goals as goal

pub loop-found-init : goal.loop-found-init
loop-found-init c =
    let s = c.args.self.now in
    (rw c.requires.skipped (fusing_none (known s) (roots_in s.clusters) (sizes s) s.pairs.now c.requires.pairs s.known.few), going_on s, search rules)

pub fuse_move-requires-clause-growable : goal.fuse_move-requires-clause-growable
fuse_move-requires-clause-growable c =
    let s = c.args.self.now in
    let p = s.clusters.prepared in
    let css = named_by_all s.clusters in
    let i = c.loop-found.found-index in
    let now = c.loop-found.self in
    let long : length css ≡ length p.moves.now = length_cells p.active.now p.steps.now p.moves.now in
    let part : length (take i css) ≡ i = length-take-le i css (omega arith) in
    let small = fuse_small (known s) (take i css) (length (known s)) (roots_in s.clusters) (sizes s) c.requires.sizes in
    record {
      countable =
          countable (known now) (1 + length (take i css)) (length (take i css)) _ (roots_in now.clusters) (sizes now) now.pairs.now now.skipped c.loop-found.invariant.0 small
          (omega (arith, p.few_moves)) (omega (arith, p.few_moves)) (sizes_long now.special.items ∙ sym (cells_long now.special.items)) now.paired;
      skipped = omega (arith, c.loop-found.invariant.0.skipped, small.skips, p.few_moves);
    }

pub loop-found-preserved : goal.loop-found-preserved
loop-found-preserved c =
    let s = c.args.self.now in
    let p = s.clusters.prepared in
    let css = named_by_all s.clusters in
    let i = c.loop-found.found-index in
    let now = c.loop-found.self in
    let start = fused_of (roots_in s.clusters) (sizes s) [] in
    let so_far = c.loop-found.invariant.1 in
    let found = get_or p.moves.now i no_move in
    let cells : named_by now.clusters found ≡ get_or css i [] = rw so_far.clusters.prepared (sym (cells_at p.active.now p.steps.now p.moves.now i (omega arith))) in
    let more = c.fuse_move.ensures.fused (fuse (known s) (take i css) start) c.loop-found.invariant.0 in
    let state = fuse_more (known s) css i (named_by now.clusters found) start (omega (arith, length_cells p.active.now p.steps.now p.moves.now)) cells in
    let same = c.fuse_move.ensures.same in (
      rw (so_far.known, state) at more,
      goes_further so_far same,
      omega (
        arith,
        c.fuse_move.ensures.long,
        c.loop-found.invariant.2,
        cells_long now.special.items,
        cells_long c.fuse_move.new.self.special.items,
        ap length same.known,
      ),
    )

pub returns-clause-fused : goal.returns-clause-fused
returns-clause-fused c =
    let p = c.args.self.now.clusters.prepared in
    let css = named_by_all c.args.self.now.clusters in
    let long : length css ≡ length p.moves.now = length_cells p.active.now p.steps.now p.moves.now in
    rw (take_all c.loop-found.found-index css (omega arith)) at c.loop-found.invariant.0

pub returns-clause-few : goal.returns-clause-few
returns-clause-few c =
    let s = c.args.self.now in
    let p = s.clusters.prepared in
    let css = named_by_all s.clusters in
    let long : length css ≡ length p.moves.now = length_cells p.active.now p.steps.now p.moves.now in
    let done = rw (take_all c.loop-found.found-index css (omega arith)) at c.loop-found.invariant.0 in
    omega (arith, done.skipped, (fuse_small (known s) css (length (known s)) (roots_in s.clusters) (sizes s) c.requires.sizes).skips)
