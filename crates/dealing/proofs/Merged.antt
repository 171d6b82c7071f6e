-- Merge: one turn of the loops over pairs, and the whole.
use Rattle.std.proofs.Common.{◌≡◌, ℕ, zero, suc, ◌+◌, ◌-◌, ◌*◌, ◌<◌, ◌≤◌, Bool, cond, leb, List, ◌∷◌, length, get_or, sym, refl, ap, ◌∙◌, arith}
use Rattle.std.specs.List.{range_with_len}
use Rattle.clusters.specs.Roots.{joined_roots}
use Rattle.dealing.specs.Counting.{Fusing, pair_count}
use Rattle.dealing.specs.Stages.{merge_at, merge_row, merge_rows, merge, Fused, count_pair}

pub counting_from : (j n : ℕ) → j < n → range_with_len j (n - j) ≡ j ∷ range_with_len (j + 1) (n - (j + 1))
counting_from j n h = let e : n - j ≡ suc (n - (j + 1)) = omega arith in rw e

module _ (share : ℕ) (special sizes : List ℕ) (count : ℕ → ℕ → ℕ) where
  pub row_more : (i j n x y z : ℕ) (rs rt K : List ℕ) (b : Bool) → j < n → x ≡ get_or sizes i 0 → y ≡ get_or sizes j 0 → z ≡ count i j →
      b ≡ leb (share * (x + y + z)) (1000 * z) → rt ≡ cond b (joined_roots (get_or special i 0) (get_or special j 0) rs) rs →
      merge_row share special sizes count i (range_with_len j (n - j)) rs ≡ K → merge_row share special sizes count i (range_with_len (j + 1) (n - (j + 1))) rt ≡ K
  row_more i j n x y z rs rt K b h ex ey ez eb er inv =
      let t : leb (share * (get_or sizes i 0 + get_or sizes j 0 + count i j)) (1000 * count i j) ≡ b = rw (← ex, ← ey, ← ez) (sym eb) in
      ap (merge_row share special sizes count i (range_with_len (j + 1) (n - (j + 1)))) (er ∙ ap (λ (u : Bool). cond u (joined_roots (get_or special i 0) (get_or special j 0) rs) rs) (sym t))
      ∙ sym (ap (λ (l : List ℕ). merge_row share special sizes count i l rs) (counting_from j n h)) ∙ inv

  pub rows_more : (i : ℕ) (rs rt K : List ℕ) → i < length special → rt ≡ merge_row share special sizes count i (range_with_len (i + 1) (length special - (i + 1))) rs →
      merge_rows share special sizes count (range_with_len i (length special - i)) rs ≡ K → merge_rows share special sizes count (range_with_len (i + 1) (length special - (i + 1))) rt ≡ K
  rows_more i rs rt K h er inv =
      ap (merge_rows share special sizes count (range_with_len (i + 1) (length special - (i + 1)))) er
      ∙ sym (ap (λ (l : List ℕ). merge_rows share special sizes count l rs) (counting_from i (length special) h)) ∙ inv

-- counts that agree on the pairs give the same
module _ (share : ℕ) (special sizes : List ℕ) (one two : ℕ → ℕ → ℕ) (same : (i j : ℕ) → i < j → j < length special → one i j ≡ two i j) where
  row_same : (i a m : ℕ) (rs : List ℕ) → i < a → a + m ≤ length special → merge_row share special sizes one i (range_with_len a m) rs ≡ merge_row share special sizes two i (range_with_len a m) rs
  row_same i a zero rs h k = refl
  row_same i a (suc m) rs h k =
      ap (λ (n : ℕ). merge_row share special sizes one i (range_with_len (a + 1) m) (cond (leb (share * (get_or sizes i 0 + get_or sizes a 0 + n)) (1000 * n)) (joined_roots (get_or special i 0) (get_or special a 0) rs) rs)) (same i a h (omega arith))
      ∙ row_same i (a + 1) m (merge_at share special sizes two i a rs) (omega arith) (omega arith)

  pub rows_same : (a m : ℕ) (rs : List ℕ) → a + m ≤ length special → merge_rows share special sizes one (range_with_len a m) rs ≡ merge_rows share special sizes two (range_with_len a m) rs
  rows_same a zero rs k = refl
  rows_same a (suc m) rs k =
      ap (merge_rows share special sizes one (range_with_len (a + 1) m)) (row_same a (a + 1) (length special - (a + 1)) rs (omega arith) (omega arith))
      ∙ rows_same (a + 1) m (merge_row share special sizes two a (range_with_len (a + 1) (length special - (a + 1))) rs) (omega arith)

pub merge_is : (share moves : ℕ) (special : List ℕ) (f : Fused) (rs sizes pairs rt : List ℕ) (n : ℕ) → Fusing special f rs sizes pairs n →
    rt ≡ cond (leb (share * moves) (1000 * n)) (merge_rows share special sizes (pair_count pairs) (range_with_len 0 (length special)) rs) rs → rt ≡ merge share moves special f
merge_is share moves special f rs sizes pairs rt n w e =
    let p : merge_rows share special sizes (pair_count pairs) (range_with_len 0 (length special)) rs ≡ merge_rows share special f.sizes (λ i j. count_pair i j f.skips) (range_with_len 0 (length special)) f.roots =
    rows_same share special sizes (pair_count pairs) (λ i j. count_pair i j f.skips) (λ i j h k. w.pairs i j h k) 0 (length special) rs (omega arith) ∙ (rw (w.roots, w.sizes)) in
    e ∙ (rw (w.skipped, p, w.roots))
