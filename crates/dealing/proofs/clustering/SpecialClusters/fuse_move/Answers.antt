use Rattle.std.proofs.Common.{◌≡◌, ◌<◌, length, ap, ◌∙◌, arith}
use Rattle.std.proofs.lemmas.Bool.{lt-ltb}
use Rattle.dealing.specs.Clustering.{roots_in, named_by, known, sizes}
use Rattle.dealing.specs.Counting.{Counted, both_hit}
use Rattle.dealing.specs.Stages.{hits, trues}
use Rattle.dealing.proofs.Staged.{fusing_skip, length_hits}
use Rattle.dealing.proofs.clustering.SpecialClusters.fuse_move.Goals as goal

pub returns-then-hits-gt1-clause-fused : goal.returns-then-hits-gt1-clause-fused
returns-then-hits-gt1-clause-fused c f old =
    let special = known c.args.self.now in
    let rs = roots_in c.args.self.now.clusters in
    let cs = named_by c.args.self.now.clusters c.args.found in
    let which = rw c.deref.ensures.0 at c.hits.ensures.hits in
    let many : 1 < trues (hits rs special cs) = omega (arith, rw c.deref.ensures.0 at c.hits.ensures.count) in
    let long : length c.hits.new.hit ≡ length special = ap length which ∙ length_hits rs special cs in
    let counted : Counted (length special) (both_hit (hits rs special cs)) c.args.self.now.pairs.now c.count_pairs.new.pairs = λ a b h k. rw which at (c.count_pairs.ensures a b h (omega arith)) in
    rw c.hits.ensures.parents
    (fusing_skip special cs rs (sizes c.args.self.now) c.args.self.now.pairs.now c.args.self.now.skipped f old c.count_pairs.new.pairs many counted (lt-ltb 1 (trues (hits rs special cs)) many))
