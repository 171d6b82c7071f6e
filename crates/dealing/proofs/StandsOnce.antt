-- Each move stands just once in the line-up.
use Rattle.std.proofs.Common.{◌≡◌, ℕ, zero, suc, ◌+◌, ◌<◌, ◌≤◌, Bool, true, false, cond, eqb, List, [], ◌∷◌, ◌++◌, length, get_or, Some, None, Option, unwrap_or, sym, refl, ap, ◌∙◌, inl, inr, arith}
use Rattle.std.specs.List.{range_with_len}
use Rattle.std.specs.Option.{option_map}
use Rattle.std.proofs.lemmas.Bool.{cases_eq, eq-eqb, ne_eqb}
use Rattle.std.proofs.lemmas.List.{length-append}
use Rattle.yard.specs.Rules.{Rules}
use Rattle.yard.specs.declared.batch.Step.{Step}
use Rattle.yard.specs.declared.batch.Move.{Move}
use Rattle.dealing.specs.Active.{active_flags, move_cells}
use Rattle.dealing.specs.Stages.{clustered}
use Rattle.dealing.specs.Lanes.{together, key_of, queue_in, lane_in, lanes_in, dealt, queues_made, places_from, lined, line_up_of}
use Rattle.dealing.specs.Facts.{times}
use Rattle.dealing.proofs.NoConflict.{lane_at_lem, length_cells}

pub times-append : (x : ℕ) (xs ys : List ℕ) → times x (xs ++ ys) ≡ times x xs + times x ys
times-append x [] ys = omega arith
times-append x (y ∷ xs) ys = omega (arith, times-append x xs ys)

places_before : (x k q : ℕ) (ls : List ℕ) → x < k → times x (places_from k q ls) ≡ 0
places_before x k q [] h = refl
places_before x k q (l ∷ ls) h = step (eqb l q) (places_before x (suc k) q ls (omega arith))
  where
    step : (b : Bool) → times x (places_from (suc k) q ls) ≡ 0 → times x (cond b (k ∷ places_from (suc k) q ls) (places_from (suc k) q ls)) ≡ 0
    step true e = rw (ne_eqb k x (λ p. omega arith)) (omega arith)
    step false e = e

-- a place stands among the places of its lane once, and not among those of another
places_times : (k q j : ℕ) (ls : List ℕ) → j < length ls → times (k + j) (places_from k q ls) ≡ cond (eqb (get_or ls j 0) q) 1 0
places_times k q j [] h = absurd (omega arith)
places_times k q zero (l ∷ ls) h = step (eqb l q) (places_before (k + 0) (suc k) q ls (omega arith))
  where
    step : (b : Bool) → times (k + 0) (places_from (suc k) q ls) ≡ 0 → times (k + 0) (cond b (k ∷ places_from (suc k) q ls) (places_from (suc k) q ls)) ≡ cond b 1 0
    step true e = rw (eq-eqb k (k + 0) (omega arith)) (omega arith)
    step false e = e
places_times k q (suc j) (l ∷ ls) h = step (eqb l q) (ap (λ (x : ℕ). times x (places_from (suc k) q ls)) (omega arith) ∙ places_times (suc k) q j ls (omega arith))
  where
    step : (b : Bool) → times (k + suc j) (places_from (suc k) q ls) ≡ cond (eqb (get_or ls j 0) q) 1 0 →
        times (k + suc j) (cond b (k ∷ places_from (suc k) q ls) (places_from (suc k) q ls)) ≡ cond (eqb (get_or ls j 0) q) 1 0
    step true e = rw (ne_eqb k (k + suc j) (λ p. omega arith)) (omega arith)
    step false e = e

eqb_swap : (a b : ℕ) → eqb a b ≡ eqb b a
eqb_swap a b = elim (cases_eq a b) [ inl e ↦ rw e | inr e ↦ ne_eqb a b e ∙ sym (ne_eqb b a (λ p. e (sym p))) ]

abbrev one : Bool → ℕ
one b = cond b 1 0

one_swap : (a b : ℕ) → one (eqb a b) ≡ one (eqb b a)
one_swap a b = ap one (eqb_swap a b)

pub lined_times : (m : ℕ) (ls qs : List ℕ) → m < length ls → times m (lined ls qs) ≡ times (get_or ls m 0) qs
lined_times m ls [] h = refl
lined_times m ls (q ∷ qs) h =
    times-append m (places_from 0 q ls) (lined ls qs)
    ∙ (omega (
      arith,
      ap (λ (x : ℕ). times x (places_from 0 q ls)) (zero_plus m),
      places_times 0 q m ls h,
      one_swap (get_or ls m 0) q,
      lined_times m ls qs h,
    ))
  where
    zero_plus : (x : ℕ) → 0 + x ≡ x
    zero_plus x = omega arith

pub counting_before : (x a n : ℕ) → x < a → times x (range_with_len a n) ≡ 0
counting_before x a zero h = refl
counting_before x a (suc n) h = rw (ne_eqb a x (λ p. omega arith)) (omega (arith, counting_before x (a + 1) n (omega arith)))

counting_times : (x a n : ℕ) → a ≤ x → x < a + n → times x (range_with_len a n) ≡ 1
counting_times x a zero h k = absurd (omega arith)
counting_times x a (suc n) h k =
    elim (cases_eq a x) [
      | inl e ↦ rw (eq-eqb a x e) (omega (arith, counting_before x (a + 1) n (omega arith)))
      | inr e ↦ rw (ne_eqb a x e) (omega (arith, counting_times x (a + 1) n (omega arith) (omega arith)))
    ]

pub lanes_times : (l n : ℕ) → l ≤ n → times l (range_with_len 1 n ++ 0 ∷ []) ≡ 1
lanes_times zero n h = times-append 0 (range_with_len 1 n) (0 ∷ []) ∙ omega (arith, counting_before 0 1 n (omega arith))
lanes_times (suc l) n h = times-append (suc l) (range_with_len 1 n) (0 ∷ []) ∙ (rw (ne_eqb 0 (suc l) (λ p. omega arith)) (omega (arith, counting_times (suc l) 1 n (omega arith) (omega arith))))

pub queue_small : (made : List ℕ) (k : ℕ) → unwrap_or (queue_in made k) 0 ≤ length made
queue_small [] k = omega arith
queue_small (x ∷ xs) k = step (eqb x k) (queue_in xs k) (queue_small xs k)
  where
    step : (b : Bool) (o : Option ℕ) → unwrap_or o 0 ≤ length xs → unwrap_or (cond b (Some 1) (option_map suc o)) 0 ≤ suc (length xs)
    step true o h = omega arith
    step false None h = omega arith
    step false (Some q) h = omega arith

pub lane_small : (rs made cs : List ℕ) → lane_in rs made cs ≤ length made
lane_small rs made cs = step (together rs cs) (queue_small made (key_of rs cs))
  where
    step : (b : Bool) → unwrap_or (queue_in made (key_of rs cs)) 0 ≤ length made → cond b (unwrap_or (queue_in made (key_of rs cs)) 0) 0 ≤ length made
    step true h = h
    step false h = omega arith

pub length_lanes : (rs made : List ℕ) (css : List (List ℕ)) → length (lanes_in rs made css) ≡ length css
length_lanes rs made [] = refl
length_lanes rs made (cs ∷ css) = ap (λ (n : ℕ). suc n) (length_lanes rs made css)

-- the length of the line-up: how often the lanes stand among those lined up
abbrev pub going : List ℕ → List ℕ → ℕ
going [] qs = 0
going (l ∷ ls) qs = times l qs + going ls qs

going_none : (ls : List ℕ) → going ls [] ≡ 0
going_none [] = refl
going_none (l ∷ ls) = omega (arith, going_none ls)

going_more : (ls : List ℕ) (q : ℕ) (qs : List ℕ) → going ls (q ∷ qs) ≡ times q ls + going ls qs
going_more [] q qs = omega arith
going_more (l ∷ ls) q qs = omega (arith, going_more ls q qs, one_swap l q)

pub length_places : (k q : ℕ) (ls : List ℕ) → length (places_from k q ls) ≡ times q ls
length_places k q [] = refl
length_places k q (l ∷ ls) = step (eqb l q) (length_places (suc k) q ls)
  where
    step : (b : Bool) → length (places_from (suc k) q ls) ≡ times q ls → length (cond b (k ∷ places_from (suc k) q ls) (places_from (suc k) q ls)) ≡ cond b 1 0 + times q ls
    step true e = omega arith
    step false e = omega arith

pub length-lined : (ls qs : List ℕ) → length (lined ls qs) ≡ going ls qs
length-lined ls [] = sym (going_none ls)
length-lined ls (q ∷ qs) =
    length-append (places_from 0 q ls) (lined ls qs) ∙ omega (arith, length_places 0 q ls, length-lined ls qs, going_more ls q qs)

going_once : (ls qs : List ℕ) → ((k : ℕ) → k < length ls → times (get_or ls k 0) qs ≡ 1) → going ls qs ≡ length ls
going_once [] qs each = refl
going_once (l ∷ ls) qs each = omega (arith, each 0 (omega arith), going_once ls qs (λ k h. each (suc k) (omega arith)))

module _ {V : Type 0} (R : Rules V) (cells share : ℕ) (steps : List Step) (moves : List Move) (choices : List ℕ) where
  abbrev css : List (List ℕ)
  css = move_cells (active_flags R cells steps) steps moves

  abbrev rs : List ℕ
  rs = clustered cells share css choices

  abbrev made : List ℕ
  made = queues_made rs css []

  lane_once : (m : ℕ) → m < length css → times (get_or (lanes_in rs made css) m 0) (range_with_len 1 (length made) ++ 0 ∷ []) ≡ 1
  lane_once m h = rw (lane_at_lem rs made css m h) (lanes_times (lane_in rs made (get_or css m [])) (length made) (lane_small rs made (get_or css m [])))

  pub stands_once : (length (line_up_of (dealt R cells share steps moves choices)) ≡ length moves)
      × ((m : ℕ) → m < length moves → times m (line_up_of (dealt R cells share steps moves choices)) ≡ 1)
  unfolding dealt line_up_of
  stands_once = (
    length-lined (lanes_in rs made css) (range_with_len 1 (length made) ++ 0 ∷ [])
        ∙ going_once (lanes_in rs made css) (range_with_len 1 (length made) ++ 0 ∷ []) (λ k h. lane_once k (omega (arith, length_lanes rs made css)))
        ∙ length_lanes rs made css ∙ length_cells (active_flags R cells steps) steps moves,
    λ m h.
        lined_times m (lanes_in rs made css) (range_with_len 1 (length made) ++ 0 ∷ []) (omega (arith, length_lanes rs made css, length_cells (active_flags R cells steps) steps moves))
        ∙ lane_once m (omega (arith, length_cells (active_flags R cells steps) steps moves)),
  )
