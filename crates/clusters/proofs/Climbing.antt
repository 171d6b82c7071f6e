-- Climbing from a cell to its root, and what a write at a root does to all roots.
use Rattle.std.proofs.Common.{◌≡◌, ℕ, zero, suc, ◌+◌, ◌<◌, ◌≤◌, min, max, cond, eqb, ◌≢◌, ◌⊎◌, List, length, get_or, set, Some, None, unwrap_or, sym, refl, ap, ◌∙◌, inl, inr, arith}
use Rattle.std.proofs.lemmas.List.{length-set, get_or-set_same, get_or-set_other, get_or_past}
use Rattle.std.proofs.lemmas.Bool.{cases_eq, cases_lt}
use Rattle.std.proofs.lemmas.Bool.Decides.{nat_tests}
use Rattle.clusters.specs.Roots.{above_of, up_of, climb, root_of, fused}

-- a cell stays, or goes up within the row
pub up_cases : (ps : List ℕ) (x : ℕ) → (up_of ps x ≡ x) ⊎ ((x < up_of ps x) × (up_of ps x < length ps))
unfolding up_of
up_cases ps x = grind (arith, nat_tests)

pub up_past : (ps : List ℕ) (x : ℕ) → length ps ≤ x → up_of ps x ≡ x
unfolding up_of
up_past ps x h = rw (get_or_past ps x 0 h) (grind (arith, nat_tests))

-- a parent that is not a higher cell of the list does not count
pub up_stops : (ps : List ℕ) (x : ℕ) → (get_or ps x 0 ≤ x) ⊎ (length ps ≤ get_or ps x 0) → up_of ps x ≡ x
unfolding up_of
up_stops ps x h = grind (arith, nat_tests)

pub up_goes : (ps : List ℕ) (x : ℕ) → x < get_or ps x 0 → get_or ps x 0 < length ps → up_of ps x ≡ get_or ps x 0
unfolding up_of
up_goes ps x h k = grind (arith, nat_tests)

-- a root stays where it is
pub climb_root : (n : ℕ) (ps : List ℕ) (x : ℕ) → up_of ps x ≡ x → climb n ps x ≡ x
climb_root zero ps x e = refl
climb_root (suc n) ps x e = ap (climb n ps) e ∙ climb_root n ps x e

-- steps past the length of the row change nothing
pub climb_enough : (n m : ℕ) (ps : List ℕ) (x : ℕ) → length ps ≤ n + x → length ps ≤ m + x → climb n ps x ≡ climb m ps x
climb_enough zero m ps x h k = sym (climb_root m ps x (up_past ps x (omega arith)))
climb_enough (suc n) zero ps x h k = climb_root (suc n) ps x (up_past ps x (omega arith))
climb_enough (suc n) (suc m) ps x h k =
    elim (up_cases ps x) [
      | inl e ↦ climb_root (suc n) ps x e ∙ sym (climb_root (suc m) ps x e)
      | inr w ↦ climb_enough n m ps (up_of ps x) (omega (arith, w.0)) (omega (arith, w.0))
    ]

pub root_stays : (ps : List ℕ) (x : ℕ) → up_of ps x ≡ x → root_of ps x ≡ x
unfolding root_of
root_stays ps x e = climb_root (length ps) ps x e

pub root_up : (ps : List ℕ) (x : ℕ) → root_of ps x ≡ root_of ps (up_of ps x)
unfolding root_of
root_up ps x = climb_enough (length ps) (suc (length ps)) ps x (omega arith) (omega arith)

-- a root stays a root after a write elsewhere; the cell that is written goes up to what is written
pub up_other : (ps : List ℕ) (lo hi x : ℕ) → x ≢ lo → up_of (set ps lo hi) x ≡ up_of ps x
unfolding up_of
up_other ps lo hi x ne = rw (get_or-set_other ps lo x hi 0 ne, length-set)

pub up_same : (ps : List ℕ) (lo hi : ℕ) → lo < hi → hi < length ps → up_of (set ps lo hi) lo ≡ hi
up_same ps lo hi l h =
    let e : get_or (set ps lo hi) lo 0 ≡ hi = get_or-set_same ps lo hi 0 (omega arith) in
    up_goes (set ps lo hi) lo (rw e l) (rw (e, length-set) h) ∙ e

-- a root is a root
pub climb_up : (n : ℕ) (ps : List ℕ) (x : ℕ) → length ps ≤ n + x → up_of ps (climb n ps x) ≡ climb n ps x
climb_up zero ps x h = up_past ps x (omega arith)
climb_up (suc n) ps x h =
    elim (up_cases ps x) [
      | inl e ↦ rw (climb_root n ps (up_of ps x) (ap (up_of ps) e)) (ap (up_of ps) e)
      | inr w ↦ climb_up n ps (up_of ps x) (omega (arith, w.0))
    ]

pub root_top : (ps : List ℕ) (x : ℕ) → up_of ps (root_of ps x) ≡ root_of ps x
unfolding root_of
root_top ps x = climb_up (length ps) ps x (omega arith)

pub climb_below : (n : ℕ) (ps : List ℕ) (x : ℕ) → x < length ps → climb n ps x < length ps
climb_below zero ps x h = h
climb_below (suc n) ps x h =
    climb_below n ps (up_of ps x) (elim (up_cases ps x) [ inl e ↦ rw e h | inr w ↦ w.1 ])

pub root_below : (ps : List ℕ) (x : ℕ) → x < length ps → root_of ps x < length ps
unfolding root_of
root_below ps x h = climb_below (length ps) ps x h

-- the law of a write: what led to lo leads to hi, and the rest as before
module _ (ps : List ℕ) (lo hi : ℕ) (less : lo < hi) (within : hi < length ps)
    (lo_top : up_of ps lo ≡ lo) (hi_top : up_of ps hi ≡ hi) where
  hi_root : root_of (set ps lo hi) hi ≡ hi
  hi_root = root_stays (set ps lo hi) hi (up_other ps lo hi hi (λ e. omega arith) ∙ hi_top)

  -- one cell, from the cell above it
  write_step : (x : ℕ) → (x < up_of ps x → root_of (set ps lo hi) (up_of ps x) ≡ cond (eqb (root_of ps (up_of ps x)) lo) hi (root_of ps (up_of ps x))) → root_of (set ps lo hi) x ≡ cond (eqb (root_of ps x) lo) hi (root_of ps x)
  write_step x above =
      elim (cases_eq x lo) [
        | inl e ↦
            let a : root_of (set ps lo hi) x ≡ hi = rw e (root_up (set ps lo hi) lo ∙ (rw (up_same ps lo hi less within) hi_root)) in
            let b : root_of ps x ≡ lo = rw e (root_stays ps lo lo_top) in
            grind (arith, nat_tests)
        | inr ne ↦
            elim (up_cases ps x) [
              | inl e ↦
                  let a : root_of (set ps lo hi) x ≡ x = root_stays (set ps lo hi) x (up_other ps lo hi x ne ∙ e) in
                  let b : root_of ps x ≡ x = root_stays ps x e in
                  grind (arith, nat_tests)
              | inr w ↦ rw (root_up ps x, root_up (set ps lo hi) x, up_other ps lo hi x ne) (above w.0)
            ]
      ]

  write_climb : (n x : ℕ) → length ps ≤ n + x → root_of (set ps lo hi) x ≡ cond (eqb (root_of ps x) lo) hi (root_of ps x)
  write_climb zero x h = write_step x (λ l. absurd (omega (arith, up_past ps x (omega arith))))
  write_climb (suc n) x h = write_step x (λ l. write_climb n (up_of ps x) (omega arith))

  pub write_law : (x : ℕ) → root_of (set ps lo hi) x ≡ cond (eqb (root_of ps x) lo) hi (root_of ps x)
  write_law x = write_climb (length ps) x (omega arith)

module _ (ps : List ℕ) (p q : ℕ) (p_top : up_of ps p ≡ p) (q_top : up_of ps q ≡ q) where
  min_top : up_of ps (min p q) ≡ min p q
  min_top =
      elim (cases_lt q p) [
        | inl l ↦ let e : min p q ≡ q = omega arith in rw e q_top
        | inr g ↦ let e : min p q ≡ p = omega arith in rw e p_top
      ]

  max_top : up_of ps (max p q) ≡ max p q
  max_top =
      elim (cases_lt q p) [
        | inl l ↦ let e : max p q ≡ p = omega arith in rw e p_top
        | inr g ↦ let e : max p q ≡ q = omega arith in rw e q_top
      ]

  -- the write of the higher of two roots at the lower fuses them
  pub write_fuses : min p q < max p q → max p q < length ps → (x : ℕ) → root_of (set ps (min p q) (max p q)) x ≡ fused p q (root_of ps x)
  write_fuses l h x = rw (write_law ps (min p q) (max p q) l h min_top max_top x) (grind (arith, nat_tests))

pub fused_swap : (p q r : ℕ) → fused p q r ≡ fused q p r
fused_swap p q r = grind (arith, nat_tests)

pub fused_same : (p q r : ℕ) → p ≡ q → r ≡ fused p q r
fused_same p q r e = grind (arith, nat_tests)

-- a climb of the code goes on where there is a cell above, and stops where there is none
pub find_goes : (ps : List ℕ) (x u r : ℕ) → Some u ≡ above_of ps x → r ≡ root_of ps u → r ≡ root_of ps x
unfolding up_of
find_goes ps x u r e g = g ∙ ap (root_of ps) (ap (λ o. unwrap_or o x) e) ∙ sym (root_up ps x)

pub find_stops : (ps : List ℕ) (x : ℕ) → None ≡ above_of ps x → x ≡ root_of ps x
unfolding up_of
find_stops ps x e = sym (root_stays ps x (sym (ap (λ o. unwrap_or o x) e)))
