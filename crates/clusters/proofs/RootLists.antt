-- From the root of each cell to the list of roots.
use Rattle.std.proofs.Common.{◌≡◌, ℕ, ◌<◌, ◌≤◌, min, max, List, map, length, get_or, set, sym, refl, ap, ◌∙◌, inl, inr, arith}
use Rattle.std.proofs.lemmas.List.{same_lists, get_or-map, length-map, length-set}
use Rattle.std.proofs.lemmas.List.FromFn.{length-map-range_with_len, get_or-map-range_with_len}
use Rattle.std.proofs.lemmas.Bool.{cases_lt}
use Rattle.std.proofs.lemmas.Bool.Decides.{nat_tests}
use Rattle.clusters.proofs.Climbing.{root_below, root_top, write_fuses, fused_same}
use Rattle.clusters.specs.Roots.{root_of, roots_of, fused, put_under, joined, joined_roots}

pub length-roots_of : (ps : List ℕ) → length (roots_of ps) ≡ length ps
unfolding roots_of
length-roots_of ps = length-map-range_with_len (root_of ps) 0 (length ps)

pub get_or-roots_of : (ps : List ℕ) (x d : ℕ) → x < length ps → get_or (roots_of ps) x d ≡ root_of ps x
unfolding roots_of
get_or-roots_of ps x d h = get_or-map-range_with_len (root_of ps) 0 (length ps) x x d h (omega arith)

-- a join writes where the two roots differ
put_apart : (ps : List ℕ) (low high : ℕ) → low < high → high < length ps → length ps ≤ 65536 → put_under low high ps ≡ set ps low high
put_apart ps low high l h s = grind (arith, nat_tests)

put_none : (ps : List ℕ) (low high : ℕ) → high ≤ low → put_under low high ps ≡ ps
put_none ps low high l = grind (arith, nat_tests)

-- from each cell to the list
pub joined_lists : (ps qs : List ℕ) (a b : ℕ) → length qs ≡ length ps → a < length ps → b < length ps →
    ((x : ℕ) → root_of qs x ≡ fused (root_of ps a) (root_of ps b) (root_of ps x)) → roots_of qs ≡ joined_roots a b (roots_of ps)
unfolding joined_roots
joined_lists ps qs a b e ha hb each =
    rw (get_or-roots_of ps a 0 ha, get_or-roots_of ps b 0 hb)
    (same_lists (roots_of qs) (map (fused (root_of ps a) (root_of ps b)) (roots_of ps))
    (length-roots_of qs ∙ e ∙ sym (length-map (roots_of ps) (fused (root_of ps a) (root_of ps b)) ∙ length-roots_of ps))
    (λ k d h.
    let l : k < length ps = omega (arith, length-roots_of qs) in
    let f : ℕ → ℕ = fused (root_of ps a) (root_of ps b) in
    let s : get_or (roots_of qs) k d ≡ root_of qs k = get_or-roots_of qs k d (omega arith) in
    let t = each k in
    let u : get_or (map f (roots_of ps)) k d ≡ f (get_or (roots_of ps) k 0) = get_or-map f (roots_of ps) k 0 d (omega (arith, length-roots_of ps)) in
    s ∙ t ∙ sym (u ∙ ap f (get_or-roots_of ps k 0 l))))

-- a join of two cells of a list, by their roots
pub join_roots : (ps : List ℕ) (a b : ℕ) → a < length ps → b < length ps → length ps ≤ 65536 → roots_of (joined a b ps) ≡ joined_roots a b (roots_of ps)
join_roots ps a b ha hb small =
    let p = root_of ps a in
    let q = root_of ps b in
    let hp : p < length ps = root_below ps a ha in
    let hq : q < length ps = root_below ps b hb in
    elim (cases_lt (min p q) (max p q)) [
      | inl l ↦
          let within : max p q < length ps = omega arith in
          let e : joined a b ps ≡ set ps (min p q) (max p q) = put_apart ps (min p q) (max p q) l within small in
          ap roots_of e
          ∙ joined_lists ps (set ps (min p q) (max p q)) a b (length-set ps (min p q) (max p q)) ha hb
          (write_fuses ps p q (root_top ps a) (root_top ps b) l within)
      | inr g ↦
          let e : joined a b ps ≡ ps = put_none ps (min p q) (max p q) g in
          ap roots_of e ∙ joined_lists ps ps a b refl ha hb (λ x. fused_same p q (root_of ps x) (omega arith))
    ]
