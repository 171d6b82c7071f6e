-- What setting steps back reads and changes.
use Rattle.std.proofs.Common.{◌≡◌, ℕ, zero, suc, ◌+◌, ◌<◌, ◌≤◌, Bool, true, false, cond, ◌≢◌, List, length, get_or, set, Some, Option, refl, ap, ◌∙◌, subst, arith}
use Rattle.std.specs.List.{slice_get}
use Rattle.yard.specs.declared.batch.Step.{Step}
use Rattle.yard.specs.Moves.{writes}
use Rattle.yard.specs.Rules.{Rules}
use Rattle.dealing.specs.Active.{no_step}
use Rattle.books.specs.Steps.{put, put_back, set_back}
use Rattle.books.proofs.Places.{Alike, nth_set_other, put_alike, put_other, put_long}
use Rattle.books.proofs.Near.{Spares, spared}

module _ {V : Type 0} (R : Rules V) where
  pub put_back_written : (vs : List V) (s : Step) (o : Option V) (v : V) → o ≡ Some v → writes R s ≡ true → put_back R vs s o ≡ set vs s.cell v
  put_back_written vs s o v e w = ap (λ b. cond b (put vs s.cell o) vs) w ∙ ap (put vs s.cell) e

  pub put_back_looked : (vs : List V) (s : Step) (o : Option V) → writes R s ≡ false → put_back R vs s o ≡ vs
  put_back_looked vs s o w = ap (λ b. cond b (put vs s.cell o) vs) w

  put_back_alike : (P : ℕ → Type 0) (s : Step) (o : Option V) (vs us : List V) → P s.cell → Alike P vs us → Alike P (put_back R vs s o) (put_back R us s o)
  put_back_alike P s o vs us p h =
      elim (writes R s) as (λ b. Alike P (cond b (put vs s.cell o) vs) (cond b (put us s.cell o) us))
      [ true ↦ put_alike P s.cell o vs us p h | false ↦ h ]

  put_back_long : (s : Step) (o : Option V) (vs : List V) → length (put_back R vs s o) ≡ length vs
  put_back_long s o vs = elim (writes R s) as (λ b. length (cond b (put vs s.cell o) vs) ≡ length vs) [ true ↦ put_long vs s.cell o | false ↦ refl ]

  module _ (steps : List Step) where
    -- what is saved past the steps does not matter
    pub set_back_past : (saved : List V) (first k i : ℕ) (v : V) (vs : List V) → first + k ≤ i →
        set_back R steps (set saved i v) first k vs ≡ set_back R steps saved first k vs
    set_back_past saved first zero i v vs h = refl
    set_back_past saved first (suc k) i v vs h =
        let apart : first + k ≢ i = omega arith in
        ap (λ o. set_back R steps (set saved i v) first k (put_back R vs (get_or steps (first + k) no_step) o)) (nth_set_other saved i (first + k) v apart)
        ∙ set_back_past saved first k i v (put_back R vs (get_or steps (first + k) no_step) (slice_get saved (first + k))) (omega arith)

    pub set_back_alike : (P : ℕ → Type 0) (saved kept : List V) (first k : ℕ) → ((j : ℕ) → j < k → P (get_or steps (first + j) no_step).cell) →
        ((j : ℕ) → j < k → slice_get saved (first + j) ≡ slice_get kept (first + j)) →
        (vs us : List V) → Alike P vs us → Alike P (set_back R steps saved first k vs) (set_back R steps kept first k us)
    set_back_alike P saved kept first zero p same vs us h = h
    set_back_alike P saved kept first (suc k) p same vs us h =
        let s = get_or steps (first + k) no_step in
        let back = put_back R vs s (slice_get saved (first + k)) in
        set_back_alike P saved kept first k (λ j l. p j (omega arith)) (λ j l. same j (omega arith)) back (put_back R us s (slice_get kept (first + k)))
        (subst (λ (o : Option V). Alike P back (put_back R us s o)) (same k (omega arith)) (put_back_alike P s (slice_get saved (first + k)) vs us (p k (omega arith)) h))

    pub set_back_long : (saved : List V) (first k : ℕ) (vs : List V) → length (set_back R steps saved first k vs) ≡ length vs
    set_back_long saved first zero vs = refl
    set_back_long saved first (suc k) vs =
        let s = get_or steps (first + k) no_step in
        set_back_long saved first k (put_back R vs s (slice_get saved (first + k))) ∙ put_back_long s (slice_get saved (first + k)) vs

    -- a cell that none of the steps writes
    module _ (x : ℕ) where
      put_back_still : (s : Step) (o : Option V) (vs : List V) → Spares R x s → (b : Bool) → writes R s ≡ b → slice_get (cond b (put vs s.cell o) vs) x ≡ slice_get vs x
      put_back_still s o vs free true e = put_other vs s.cell x o (spared R x s free e)
      put_back_still s o vs free false e = refl

      pub set_back_still : (saved : List V) (first k : ℕ) → ((j : ℕ) → j < k → Spares R x (get_or steps (first + j) no_step)) →
          (vs : List V) → slice_get (set_back R steps saved first k vs) x ≡ slice_get vs x
      set_back_still saved first zero free vs = refl
      set_back_still saved first (suc k) free vs =
          let s = get_or steps (first + k) no_step in
          set_back_still saved first k (λ j l. free j (omega arith)) (put_back R vs s (slice_get saved (first + k)))
          ∙ put_back_still s (slice_get saved (first + k)) vs (free k (omega arith)) (writes R s) refl
