use Rattle.std.proofs.Common.{◌≡◌, ℕ, ◌<◌, List, length, get_or, sym, ◌∙◌, inl, arith}
use Rattle.std.specs.List.{range_with_len}
use Rattle.std.proofs.lemmas.List.FromFn.{length-range_with_len, get_or-range_with_len}
use Rattle.std.proofs.lemmas.List.{same_lists}
use Rattle.clusters.specs.Roots.{roots_of}
use Rattle.clusters.proofs.Climbing.{root_stays, up_stops}
use Rattle.clusters.proofs.RootLists.{length-roots_of, get_or-roots_of}
use Rattle.dealing.proofs.rooting.separate.Goals as goal

-- where each cell is its own parent, each is its own root
own_roots : (n : ℕ) (ps : List ℕ) → length ps ≡ n → ((k : ℕ) → k < n → get_or ps k 0 ≡ k) → roots_of ps ≡ range_with_len 0 n
own_roots n ps len own =
    same_lists (roots_of ps) (range_with_len 0 n) (length-roots_of ps ∙ len ∙ sym (length-range_with_len 0 n))
    (λ k d h.
    let l : k < n = omega (arith, length-roots_of ps) in
    get_or-roots_of ps k d (omega arith) ∙ root_stays ps k (up_stops ps k (inl (omega (arith, own k l)))) ∙ sym (get_or-range_with_len 0 n k d l ∙ omega arith))

pub returns : goal.returns
returns c = own_roots _ c.loop-cell.parents c.loop-cell.auto.parents (λ k h. c.loop-cell.invariant k (omega arith))
