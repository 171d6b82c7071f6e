-- Which cells are active, and which of them a move names: one turn of each loop over steps.
use Rattle.std.proofs.Common.{◌≡◌, ℕ, ◌+◌, ◌-◌, ◌<◌, ◌≤◌, Bool, true, false, cond, ◌&&◌, ◌||◌, eqb, List, [], ◌∷◌, length, get_or, take, drop, set, Some, None, sym, refl, ap, ◌∙◌, inl, inr, arith}
use Rattle.std.proofs.lemmas.List.{drop_more, drop_all, get_or-set_same, get_or-set_other, get_or-take, get_or-drop, length-take-le, length-drop}
use Rattle.std.proofs.lemmas.Bool.{cases_eq, eq-eqb, ne_eqb}
use Rattle.std.proofs.lemmas.List.FromFn.{fill_by_all}
use Rattle.yard.specs.Rules.{Rules}
use Rattle.yard.specs.Moves.{written}
use Rattle.yard.specs.declared.batch.Step.{Step}
use Rattle.dealing.specs.Active.{active_flags, active_cells, no_step, Within, head_of}

pub or_false : (b : Bool) → (b || false) ≡ b
or_false true = refl
or_false false = refl

-- a flag that was set at one place
pub flag_same : (e w a b : Bool) → b ≡ cond e true a → (w || b) ≡ ((e || w) || a)
flag_same true true a b h = refl
flag_same true false a b h = h
flag_same false w a b h = ap (λ (x : Bool). w || x) h

flag_set : (fs : List Bool) (c k : ℕ) → c < length fs → get_or (set fs c true) k false ≡ cond (eqb c k) true (get_or fs k false)
flag_set fs c k h =
    elim (cases_eq k c) [
      | inl e ↦ rw (e, eq-eqb c c refl) (get_or-set_same fs c true false h)
      | inr e ↦ rw (ne_eqb c k (λ p. e (sym p))) (get_or-set_other fs c k true false e)
    ]

-- prepare: what the steps seen so far write is flagged
module _ {V : Type 0} (R : Rules V) (ss : List Step) (i : ℕ) (fs : List Bool) (hi : i < length ss) where
  written_more : (k : ℕ) → written R (drop i ss) k ≡ ((R.writes (get_or ss i no_step).order.letter (get_or ss i no_step).order.number && (eqb (get_or ss i no_step).cell k || false)) || written R (drop (i + 1) ss) k)
  written_more k = ap (λ (l : List Step). written R l k) (drop_more ss i no_step hi)

pub prepare_all : {V : Type 0} (R : Rules V) (ss : List Step) (i n : ℕ) (fs : List Bool) → length ss ≤ i → length fs ≡ n →
    ((k : ℕ) → k < length fs → (written R (drop i ss) k || get_or fs k false) ≡ written R ss k) → fs ≡ active_flags R n ss
unfolding active_flags
prepare_all R ss i n fs h len each =
    fill_by_all (written R ss) fs n false len (λ k l. ap (λ (xs : List Step). written R xs k || get_or fs k false) (sym (drop_all i ss h)) ∙ each k (omega arith))

-- one more step of a move: its cell counts, or it does not
module _ (act : List Bool) (ss : List Step) (i : ℕ) (hi : i < length ss) where
  step_more : active_cells act (drop i ss) ≡ active_cells act (get_or ss i no_step ∷ drop (i + 1) ss)
  step_more = ap (active_cells act) (drop_more ss i no_step hi)

  pub counted_some : (c : ℕ) → Some c ≡ head_of (active_cells act (get_or ss i no_step ∷ [])) → active_cells act (drop i ss) ≡ c ∷ active_cells act (drop (i + 1) ss)
  counted_some c e = step_more ∙ split (get_or act (get_or ss i no_step).cell false) e
    where
      split : (b : Bool) → Some c ≡ head_of (cond b ((get_or ss i no_step).cell ∷ []) []) →
          cond b ((get_or ss i no_step).cell ∷ active_cells act (drop (i + 1) ss)) (active_cells act (drop (i + 1) ss)) ≡ c ∷ active_cells act (drop (i + 1) ss)
      split true h = let p : (get_or ss i no_step).cell ≡ c = cc in ap (λ (x : ℕ). x ∷ active_cells act (drop (i + 1) ss)) p
      split false h = absurd (let z : ◌≡◌ {A = ℕ} 0 1 = cc in omega arith)

  pub counted_none : None ≡ head_of (active_cells act (get_or ss i no_step ∷ [])) → active_cells act (drop i ss) ≡ active_cells act (drop (i + 1) ss)
  counted_none e = step_more ∙ split (get_or act (get_or ss i no_step).cell false) e
    where
      split : (b : Bool) → None ≡ head_of (cond b ((get_or ss i no_step).cell ∷ []) []) →
          cond b ((get_or ss i no_step).cell ∷ active_cells act (drop (i + 1) ss)) (active_cells act (drop (i + 1) ss)) ≡ active_cells act (drop (i + 1) ss)
      split true h = absurd (let z : ◌≡◌ {A = ℕ} 0 1 = cc in omega arith)
      split false h = refl

-- the first active cell
pub head_is : (cs : List ℕ) (c : ℕ) → Some c ≡ head_of cs → c ≡ get_or cs 0 0
head_is [] c e = absurd (let z : ◌≡◌ {A = ℕ} 0 1 = cc in omega arith)
head_is (d ∷ cs) c e = cc

pub head_none : (cs : List ℕ) → None ≡ head_of cs → cs ≡ []
head_none [] e = refl
head_none (d ∷ cs) e = absurd (let z : ◌≡◌ {A = ℕ} 0 1 = cc in omega arith)

-- a part of steps within some cells is within them
pub part_within : (n f c : ℕ) (steps : List Step) → f + c ≤ length steps → Within n steps → Within n (take (f + c - f) (drop f steps))
part_within n f c steps h w k l =
    let e : length (take (f + c - f) (drop f steps)) ≡ f + c - f = length-take-le (f + c - f) (drop f steps) (omega (arith, length-drop f steps)) in
    rw (get_or-take (f + c - f) (drop f steps) k no_step (omega arith), get_or-drop f steps k no_step) (w (f + k) (omega arith))
