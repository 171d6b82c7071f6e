-- Work reads only what its steps name, and changes only what they write.
use Rattle.std.proofs.Common.{◌≡◌, ℕ, suc, true, false, ◌&&◌, ◌≢◌, List, [], ◌∷◌, length, set, Some, None, Option, sym, refl, ap, ◌∙◌, subst, inl, inr}
use Rattle.std.specs.List.{slice_get}
use Rattle.std.proofs.lemmas.List.{length-set}
use Rattle.std.proofs.lemmas.Bool.{and_from, or_left, or_right, cases_Bool, eq-eqb}
use Rattle.yard.specs.declared.batch.Step.{Step}
use Rattle.yard.specs.Moves.{is_in, names, named, writes, written}
use Rattle.yard.specs.Rules.{Rules, Looks, Effect, passes, fails}
use Rattle.yard.specs.Runs.{done, failed}
use Rattle.books.specs.Scripts.{Script, move_steps}
use Rattle.books.specs.Steps.{Went, goes, stuck, lands, meets, applied}
use Rattle.books.specs.Whole.{Worked, through, halted, Stand, went_on, ended, works, whole, wholes}
use Rattle.books.specs.Law.{In}
use Rattle.books.proofs.Naming.{Writes}
use Rattle.books.proofs.Places.{Alike, set_alike, set_same, nth_set_other, in_here, in_there}

module _ {V : Type 0} (R : Rules V) where
  -- a step keeps the number of cells
  abbrev pub Long : ℕ → Went V → Type 0
  Long n (goes ws) = length ws ≡ n
  Long n (stuck k) = Unit {0}

  lands_long : (vs : List V) (s : Step) (q : Effect V) → Long (length vs) (lands R vs s q)
  lands_long vs s (passes w) = length-set vs s.cell w
  lands_long vs s (fails k) = tt

  meets_long : (vs : List V) (s : Step) (o : Option V) → Long (length vs) (meets R vs s o)
  meets_long vs s None = tt
  meets_long vs s (Some v) = lands_long vs s (R.makes s.order.letter s.order.number v)

  pub applied_long : (vs : List V) (s : Step) → Long (length vs) (applied R vs s)
  applied_long vs s = meets_long vs s (slice_get vs s.cell)

  -- two boards that hold the same in the cells of P
  module _ (P : ℕ → Type 0) where
    abbrev Near : Went V → Went V → Type 0
    Near (goes ws) (goes zs) = Alike P ws zs
    Near (goes ws) (stuck n) = ⊥
    Near (stuck n) (goes zs) = ⊥
    Near (stuck n) (stuck k) = n ≡ k

    lands_near : (vs us : List V) (s : Step) → P s.cell → Alike P vs us → (q : Effect V) → Near (lands R vs s q) (lands R us s q)
    lands_near vs us s p h (passes w) = set_alike P s.cell w vs us p h
    lands_near vs us s p h (fails n) = refl

    meets_near : (vs us : List V) (s : Step) → P s.cell → Alike P vs us → (o : Option V) → Near (meets R vs s o) (meets R us s o)
    meets_near vs us s p h None = refl
    meets_near vs us s p h (Some v) = lands_near vs us s p h (R.makes s.order.letter s.order.number v)

    applied_near : (vs us : List V) (s : Step) → P s.cell → Alike P vs us → Near (applied R vs s) (applied R us s)
    applied_near vs us s p h = subst (λ (o : Option V). Near (applied R vs s) (meets R us s o)) (h s.cell p) (meets_near vs us s p h (slice_get vs s.cell))

    abbrev NearWorked : Worked V → Worked V → Type 0
    NearWorked (through ws) (through zs) = Alike P ws zs
    NearWorked (through ws) (halted k n) = ⊥
    NearWorked (halted k n) (through zs) = ⊥
    NearWorked (halted k n) (halted j m) = (k ≡ j) × (n ≡ m)

    went_near : (k : ℕ) (f : List V → Worked V) → ((ws zs : List V) → Alike P ws zs → NearWorked (f ws) (f zs)) →
        (w z : Went V) → Near w z → NearWorked (went_on k f w) (went_on k f z)
    went_near k f same (goes ws) (goes zs) h = same ws zs h
    went_near k f same (goes ws) (stuck n) h = absurd h
    went_near k f same (stuck n) (goes zs) h = absurd h
    went_near k f same (stuck n) (stuck m) h = (refl, h)

    works_near : (ss : List Step) (k : ℕ) (vs us : List V) → ((x : ℕ) → named ss x ≡ true → P x) → Alike P vs us → NearWorked (works R vs k ss) (works R us k ss)
    works_near [] k vs us p h = h
    works_near (s ∷ ss) k vs us p h =
        went_near (suc k) (λ ws. works R ws (suc k) ss)
        (λ ws zs a. works_near ss (suc k) ws zs (λ x n. p x (or_right (is_in x (names s)) (named ss x) n)) a)
        (applied R vs s) (applied R us s)
        (applied_near vs us s (p s.cell (or_left (is_in s.cell (names s)) (named ss s.cell) (in_here s.cell []))) h)

    -- two stands that are the same in the cells of P and for the moves of Q
    module _ (Q : ℕ → Type 0) where
      pub record StandNear (st su : Stand V) : Type 0 where
        pub values : Alike P st.values su.values
        pub ends : Alike Q st.ends su.ends

      ended_near : (st su : Stand V) (m : ℕ) → Q m → StandNear st su → (w z : Worked V) → NearWorked w z → StandNear (ended st m w) (ended su m z)
      ended_near st su m q n (through ws) (through zs) h = record { values = h; ends = set_alike Q m done st.ends su.ends q n.ends }
      ended_near st su m q n (through ws) (halted k c) h = absurd h
      ended_near st su m q n (halted k c) (through zs) h = absurd h
      ended_near st su m q n (halted k c) (halted j d) h = record {
        values = n.values;
        ends = λ y p. set_alike Q m (failed k c) st.ends su.ends q n.ends y p
            ∙ ap (λ a. slice_get (set su.ends m (failed a c)) y) h.0 ∙ ap (λ b. slice_get (set su.ends m (failed j b)) y) h.1;
      }

      pub wholes_near : (S : Script) (ms : List ℕ) (st su : Stand V) → ((m : ℕ) → In ms m → Q m) → ((m x : ℕ) → In ms m → named (move_steps S m) x ≡ true → P x) →
          StandNear st su → StandNear (wholes R S st ms) (wholes R S su ms)
      wholes_near S [] st su q p n = n
      wholes_near S (m ∷ ms) st su q p n =
          wholes_near S ms (whole R S st m) (whole R S su m) (λ j h. q j (in_there j m ms h)) (λ j x h. p j x (in_there j m ms h))
          (ended_near st su m (q m (in_here m ms)) n (works R st.values 0 (move_steps S m)) (works R su.values 0 (move_steps S m))
          (works_near (move_steps S m) 0 st.values su.values (λ x. p m x (in_here m ms)) n.values))

  -- an end of a move that is not worked stays
  module _ (S : Script) (x : ℕ) where
    ended_told : (st : Stand V) (m : ℕ) → x ≢ m → (w : Worked V) → slice_get (ended st m w).ends x ≡ slice_get st.ends x
    ended_told st m ne (through ws) = nth_set_other st.ends m x done ne
    ended_told st m ne (halted k n) = nth_set_other st.ends m x (failed k n) ne

    pub wholes_told : (ms : List ℕ) (st : Stand V) → (In ms x → ⊥) → slice_get (wholes R S st ms).ends x ≡ slice_get st.ends x
    wholes_told [] st p = refl
    wholes_told (m ∷ ms) st p =
        wholes_told ms (whole R S st m) (λ h. p (in_there x m ms h))
        ∙ ended_told st m (λ e. p (or_left _ _ (eq-eqb m x (sym e)))) (works R st.values 0 (move_steps S m))

  -- a step that does not write a cell, and what goes on without changing it
  abbrev pub Spares : ℕ → Step → Type 0
  Spares x s = writes R s ≡ true → In (names s) x → ⊥

  pub spared : (x : ℕ) (s : Step) → Spares x s → writes R s ≡ true → x ≢ s.cell
  spared x s free w e = free w (ap (λ y. is_in y (names s)) e ∙ in_here s.cell [])

  abbrev pub Still : ℕ → List V → Went V → Type 0
  Still x vs (goes ws) = slice_get ws x ≡ slice_get vs x
  Still x vs (stuck n) = Unit {0}

  module _ (looks : Looks R) where
    -- a looking step that passes leaves the board as it was
    pub set_looked : (vs : List V) (s : Step) (v w : V) → slice_get vs s.cell ≡ Some v → writes R s ≡ false → R.makes s.order.letter s.order.number v ≡ passes w →
        set vs s.cell w ≡ vs
    set_looked vs s v w held look made = ap (λ y. set vs s.cell y) (looks s.order.letter s.order.number v w look made) ∙ set_same vs s.cell v held

    -- a cell that no step writes
    module _ (x : ℕ) where
      lands_still : (vs : List V) (s : Step) → Spares x s → (v : V) → slice_get vs s.cell ≡ Some v → (q : Effect V) → R.makes s.order.letter s.order.number v ≡ q →
          Still x vs (lands R vs s q)
      lands_still vs s free v held (passes w) made =
          elim (cases_Bool (writes R s)) [
            | inl e ↦ nth_set_other vs s.cell x w (spared x s free e)
            | inr e ↦ ap (λ ws. slice_get ws x) (set_looked vs s v w held e made)
          ]
      lands_still vs s free v held (fails n) made = tt

      meets_still : (vs : List V) (s : Step) → Spares x s → (o : Option V) → slice_get vs s.cell ≡ o → Still x vs (meets R vs s o)
      meets_still vs s free None held = tt
      meets_still vs s free (Some v) held = lands_still vs s free v held (R.makes s.order.letter s.order.number v) refl

      pub applied_still : (vs : List V) (s : Step) → Spares x s → Still x vs (applied R vs s)
      applied_still vs s free = meets_still vs s free (slice_get vs s.cell) refl

      abbrev StillWorked : List V → Worked V → Type 0
      StillWorked vs (through ws) = slice_get ws x ≡ slice_get vs x
      StillWorked vs (halted k n) = Unit {0}

      went_still : (k : ℕ) (f : List V → Worked V) (us vs : List V) → ((ws : List V) → slice_get ws x ≡ slice_get us x → StillWorked us (f ws)) → slice_get vs x ≡ slice_get us x →
          (w : Went V) → Still x vs w → StillWorked us (went_on k f w)
      went_still k f us vs same e (goes ws) h = same ws (h ∙ e)
      went_still k f us vs same e (stuck n) h = tt

      works_still : (ss : List Step) (k : ℕ) (us vs : List V) → (written R ss x ≡ true → ⊥) → slice_get vs x ≡ slice_get us x → StillWorked us (works R vs k ss)
      works_still [] k us vs free e = e
      works_still (s ∷ ss) k us vs free e =
          let here = writes R s && is_in x (names s) in
          went_still (suc k) (λ ws. works R ws (suc k) ss) us vs
          (λ ws g. works_still ss (suc k) us ws (λ w. free (or_right here (written R ss x) w)) g) e
          (applied R vs s) (applied_still vs s (λ w n. free (or_left here (written R ss x) (and_from (writes R s) (is_in x (names s)) w n))))

      ended_still : (st : Stand V) (m : ℕ) (w : Worked V) → StillWorked st.values w → slice_get (ended st m w).values x ≡ slice_get st.values x
      ended_still st m (through ws) h = h
      ended_still st m (halted k n) h = refl

      pub wholes_still : (S : Script) (ms : List ℕ) (st : Stand V) → (Writes R S ms x → ⊥) → slice_get (wholes R S st ms).values x ≡ slice_get st.values x
      wholes_still S [] st free = refl
      wholes_still S (m ∷ ms) st free =
          wholes_still S ms (whole R S st m) (λ w. free (w.0, in_there w.0 m ms w.1, w.2))
          ∙ ended_still st m (works R st.values 0 (move_steps S m)) (works_still (move_steps S m) 0 st.values st.values (λ w. free (m, in_here m ms, w)) refl)
