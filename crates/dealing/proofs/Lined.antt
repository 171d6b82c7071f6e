-- The loop that lays out the line-up and the lanes' rows.
use Rattle.std.proofs.Common.{◌≡◌, ℕ, zero, suc, ◌+◌, ◌-◌, ◌<◌, ◌≤◌, List, [], ◌∷◌, ◌++◌, length, get_or, take, drop, set, sym, ap, ◌∙◌, inl, inr, append_assoc, add-one, arith}
use Rattle.std.specs.List.{range_with_len}
use Rattle.std.proofs.lemmas.Bool.{cases_eq, eq-eqb, ne_eqb}
use Rattle.std.proofs.lemmas.List.{length-append, append-nil, drop-drop, take-append-drop}
use Rattle.std.proofs.lemmas.List.Edits.{fill_by_more}
use Rattle.std.proofs.lemmas.List.FromFn.{fill_by_all, length-map-range_with_len}
use Rattle.yard.specs.declared.run.LaneRow.{LaneRow}
use Rattle.yard.specs.Fronts.{laid}
use Rattle.dealing.specs.Lanes.{places_from, lined, line_up_of, dealt_of, row_from, row_of, lane_rows}
use Rattle.dealing.specs.Facts.{times}
use Rattle.dealing.proofs.StandsOnce.{times-append, counting_before, going, length-lined}

-- the lanes one after the other
counting_push : (a n : ℕ) → range_with_len a (suc n) ≡ range_with_len a n ++ (a + n) ∷ []
counting_push a zero = let e : a + 0 ≡ a = omega arith in rw e
counting_push a (suc n) = let e : a + 1 + n ≡ a + suc n = omega arith in ap (λ (l : List ℕ). a ∷ l) (counting_push (a + 1) n ∙ (rw e))

pub lined_push : (ls xs : List ℕ) (y : ℕ) → lined ls (xs ++ y ∷ []) ≡ lined ls xs ++ places_from 0 y ls
lined_push ls [] y = append-nil (places_from 0 y ls)
lined_push ls (x ∷ xs) y = ap (λ (l : List ℕ). places_from 0 x ls ++ l) (lined_push ls xs y) ∙ sym (append_assoc (places_from 0 x ls) (lined ls xs) (places_from 0 y ls))

pub lined_more : (ls : List ℕ) (q : ℕ) → lined ls (range_with_len 1 (q + 1)) ≡ lined ls (range_with_len 1 q) ++ places_from 0 (q + 1) ls
lined_more ls q = let e : 1 + q ≡ q + 1 = omega arith in ap (lined ls) (ap (range_with_len 1) (add-one q) ∙ counting_push 1 q ∙ (rw e)) ∙ lined_push ls (range_with_len 1 q) (q + 1)

counting_few : (x a n : ℕ) → times x (range_with_len a n) ≤ 1
counting_few x a zero = omega arith
counting_few x a (suc n) =
    elim (cases_eq a x) [
      | inl e ↦ rw (eq-eqb a x e) (omega (arith, counting_before x (a + 1) n (omega arith)))
      | inr e ↦ rw (ne_eqb a x e) (omega (arith, counting_few x (a + 1) n))
    ]

lanes_few : (x n : ℕ) → times x (range_with_len 1 n ++ 0 ∷ []) ≤ 1
lanes_few zero n = omega (arith, times-append 0 (range_with_len 1 n) (0 ∷ []), counting_before 0 1 n (omega arith))
lanes_few (suc x) n = let e : times (suc x) (0 ∷ []) ≡ 0 = rw (ne_eqb 0 (suc x) (λ p. omega arith)) in omega (arith, times-append (suc x) (range_with_len 1 n) (0 ∷ []), counting_few (suc x) 1 n)

going_few : (ls qs : List ℕ) → ((x : ℕ) → times x qs ≤ 1) → going ls qs ≤ length ls
going_few [] qs each = omega arith
going_few (l ∷ ls) qs each = omega (arith, each l, going_few ls qs each)

pub lined_short : (ls : List ℕ) (q : ℕ) → length (lined ls (range_with_len 1 q)) ≤ length ls
lined_short ls q = omega (arith, length-lined ls (range_with_len 1 q), going_few ls (range_with_len 1 q) (λ x. counting_few x 1 q))

pub lane_room : (ls : List ℕ) (q : ℕ) → length (lined ls (range_with_len 1 q)) + length (places_from 0 (q + 1) ls) ≤ length ls
lane_room ls q = omega (arith, lined_short ls (q + 1), ap length (lined_more ls q), length-append (lined ls (range_with_len 1 q)) (places_from 0 (q + 1) ls))

pub rest_room : (ls : List ℕ) (q : ℕ) → length (lined ls (range_with_len 1 q)) + length (places_from 0 0 ls) ≤ length ls
rest_room ls q =
    omega (
      arith,
      length-lined ls (range_with_len 1 q ++ 0 ∷ []),
      going_few ls (range_with_len 1 q ++ 0 ∷ []) (λ x. lanes_few x q),
      ap length (lined_push ls (range_with_len 1 q) 0),
      length-append (lined ls (range_with_len 1 q)) (places_from 0 0 ls),
    )

pub drop_further : {X : Type 0} (at n : ℕ) (xs ys zs : List X) → drop (at + n) xs ≡ drop (at + n) ys → drop at ys ≡ drop at zs → drop (at + n) xs ≡ drop (at + n) zs
drop_further at n xs ys zs e f = e ∙ sym (drop-drop n at ys) ∙ ap (drop n) f ∙ drop-drop n at zs

-- one more row
pub rows_more : (ls : List ℕ) (Q q at end : ℕ) (row : LaneRow) (rows : List LaneRow) → q < length rows → at ≡ length (lined ls (range_with_len 1 q)) → end ≡ at + length (places_from 0 (q + 1) ls) → row ≡ row_from at end →
    ((k : ℕ) → k < q → get_or rows k (row_from 0 0) ≡ row_of (dealt_of ls Q) (k + 1)) →
    (k : ℕ) → k < q + 1 → get_or (set rows q row) k (row_from 0 0) ≡ row_of (dealt_of ls Q) (k + 1)
rows_more ls Q q at end row rows room ea ee er each =
    let e : row ≡ row_of (dealt_of ls Q) (q + 1) = er ∙ (rw (ee, ea, add-one q)) in
    rw e (fill_by_more (λ k. row_of (dealt_of ls Q) (k + 1)) rows q (row_from 0 0) room each)

-- the row of lane 0 comes last
pub rows_all : (ls : List ℕ) (Q at end : ℕ) (row : LaneRow) (rows old : List LaneRow) → length rows ≡ Q → Q < length old → at ≡ length (lined ls (range_with_len 1 Q)) → end ≡ at + length (places_from 0 0 ls) → row ≡ row_from at end →
    ((k : ℕ) → k < Q → get_or rows k (row_from 0 0) ≡ row_of (dealt_of ls Q) (k + 1)) →
    set (take 1 old ++ (rows ++ drop (Q + 1 - 1) (drop 1 old))) 0 row ≡ laid (lane_rows (dealt_of ls Q)) old
unfolding lane_rows
rows_all ls Q at end row rows [] long room ea ee er each = absurd (omega arith)
rows_all ls Q at end row rows (x ∷ xs) long room ea ee er each =
    let rest : suc (Q + 1 - 1) ≡ length (lane_rows (dealt_of ls Q)) = omega (arith, length-map-range_with_len (row_of (dealt_of ls Q)) 0 (Q + 1)) in
    ap (λ (l : List LaneRow). l ++ drop (Q + 1 - 1) xs) (fill_by_all (row_of (dealt_of ls Q)) (row ∷ rows) (Q + 1) (row_from 0 0) (omega arith) at_row)
    ∙ ap (λ (n : ℕ). lane_rows (dealt_of ls Q) ++ drop n (x ∷ xs)) rest
  where
    at_row : (k : ℕ) → k < Q + 1 → get_or (row ∷ rows) k (row_from 0 0) ≡ row_of (dealt_of ls Q) k
    at_row zero h = er ∙ (rw (ee, ea))
    at_row (suc k) h = rw (add-one k) at (each k (omega arith))

-- the line-up once the rest list is in it
pub line_whole : (ls : List ℕ) (Q at end : ℕ) (lu old : List ℕ) → take end lu ≡ lined ls (range_with_len 1 Q) ++ places_from 0 0 ls → end ≡ at + length (places_from 0 0 ls) → at ≡ length (lined ls (range_with_len 1 Q)) →
    drop end lu ≡ drop end old → lu ≡ laid (line_up_of (dealt_of ls Q)) old
unfolding line_up_of
line_whole ls Q at end lu old t ee ea d =
    let whole : take end lu ≡ lined ls (range_with_len 1 Q ++ 0 ∷ []) = t ∙ sym (lined_push ls (range_with_len 1 Q) 0) in
    let long : end ≡ length (lined ls (range_with_len 1 Q ++ 0 ∷ [])) = omega (arith, ap length (lined_push ls (range_with_len 1 Q) 0), length-append (lined ls (range_with_len 1 Q)) (places_from 0 0 ls)) in
    sym (take-append-drop end lu) ∙ ap (λ (l : List ℕ). l ++ drop end lu) whole ∙ ap (λ (l : List ℕ). lined ls (range_with_len 1 Q ++ 0 ∷ []) ++ l) (d ∙ ap (λ (n : ℕ). drop n old) long)
