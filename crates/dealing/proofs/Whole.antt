-- The stages put together.
use Rattle.std.proofs.Common.{◌≡◌, ℕ, Bool, List, [], length, replicate, ap, ◌∙◌}
use Rattle.std.specs.List.{range_with_len}
use Rattle.yard.specs.Rules.{Rules}
use Rattle.yard.specs.declared.batch.Step.{Step}
use Rattle.yard.specs.declared.batch.Move.{Move}
use Rattle.dealing.specs.Active.{active_flags, move_cells}
use Rattle.dealing.specs.Stages.{Clusters, clusters_of, spot, fuse, fused_of, fused_all, merge, clustered}
use Rattle.dealing.specs.Lanes.{allocated, dealt}

-- spot, fuse and merge; us is the list of special clusters that spot left, and special the part of it that is lent on
pub cluster_is : (cells share moves : ℕ) (css : List (List ℕ)) (choices rs0 rs special us sizes rt : List ℕ) → rs0 ≡ range_with_len 0 cells → clusters_of rs us ≡ spot css choices (clusters_of rs0 []) →
    moves ≡ length css → special ≡ us → sizes ≡ replicate (length special) 0 → rt ≡ merge share moves special (fuse special css (fused_of rs sizes [])) → rt ≡ clustered cells share css choices
unfolding clustered
cluster_is cells share moves css choices rs0 rs special us sizes rt e0 e em er es et =
    let k : clusters_of rs us ≡ spot css choices (clusters_of (range_with_len 0 cells) []) = rw e0 at e in
    et ∙ (rw (es, em, er)) ∙ ap (λ (c : Clusters). merge share (length css) c.special (fused_all css c)) k

-- prepare, the clusters, and allocate
pub deal_is : {V : Type 0} (R : Rules V) (cells n share : ℕ) (steps : List Step) (moves : List Move) (choices : List ℕ) (act : List Bool) (rs : List ℕ) → act ≡ active_flags R cells steps → n ≡ cells →
    rs ≡ clustered n share (move_cells act steps moves) choices → allocated rs (move_cells act steps moves) ≡ dealt R cells share steps moves choices
unfolding dealt
deal_is R cells n share steps moves choices act rs ea en er = rw (er, ea, en)
