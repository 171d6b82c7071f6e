-- What a shadow board shows while its changes are read, set and cleared.
use Rattle.std.proofs.Common.{◌≡◌, ℕ, zero, suc, ◌+◌, ◌<◌, min, List, [], ◌∷◌, length, replicate, ◌≤◌, ◌++◌, get_or, take, drop, set, Some, None, Option, unwrap_or, sym, refl, ap, ◌∙◌, add-one, arith}
use lib.Seq.{take-nil}
use Rattle.yard.specs.Cells.{value_at}
use Rattle.yard.specs.Told.{gives}
use Rattle.boards.specs.Shadow.{shown, cleared}
use Rattle.boards.proofs.Cells.{value_within}

module _ {V : Type 0} where
  pub length_shown : (cs : List (Option V)) (bs : List V) → length (shown cs bs) ≡ min (length cs) (length bs)
  length_shown [] bs = omega arith
  length_shown (c ∷ cs) [] = omega arith
  length_shown (c ∷ cs) (b ∷ bs) = let h = length_shown cs bs in omega arith

  get_or-shown : (cs : List (Option V)) (bs : List V) (i : ℕ) (o : Option V) (b v : V) → i < length cs → i < length bs → get_or (shown cs bs) i v ≡ unwrap_or (get_or cs i o) (get_or bs i b)
  get_or-shown [] bs i o b v h k = absurd (omega arith)
  get_or-shown (c ∷ cs) [] i o b v h k = absurd (omega arith)
  get_or-shown (c ∷ cs) (x ∷ bs) zero o b v h k = refl
  get_or-shown (c ∷ cs) (x ∷ bs) (suc i) o b v h k = get_or-shown cs bs i o b v (omega arith) (omega arith)

  pub shown_at : (cs : List (Option V)) (bs : List V) (i : ℕ) (o : Option V) (b v : V) → i < min (length cs) (length bs) → v ≡ unwrap_or (get_or cs i o) (get_or bs i b) → gives v ≡ value_at (shown cs bs) i
  shown_at cs bs i o b v h is =
      let k : i < length (shown cs bs) = omega (arith, length_shown cs bs) in
      value_within (shown cs bs) i v k (is ∙ sym (get_or-shown cs bs i o b v (omega arith) (omega arith)))

  pub shown_set : (cs : List (Option V)) (bs : List V) (i : ℕ) (v : V) → shown (set cs i (Some v)) bs ≡ set (shown cs bs) i v
  shown_set [] bs i v = refl
  shown_set (c ∷ cs) [] zero v = refl
  shown_set (c ∷ cs) [] (suc i) v = refl
  shown_set (c ∷ cs) (b ∷ bs) zero v = refl
  shown_set (c ∷ cs) (b ∷ bs) (suc i) v = ap (λ t. unwrap_or c b ∷ t) (shown_set cs bs i v)

  -- where the first places are empty, and those past them as they were
  emptied : (cs : List (Option V)) (n : ℕ) → n ≤ length cs → replicate n None ++ drop n cs ≡ cleared n cs
  emptied cs zero h = refl
  emptied [] (suc n) h = absurd (omega arith)
  emptied (c ∷ cs) (suc n) h = ap (λ t. None ∷ t) (emptied cs n (omega arith))

  cleared_suc : (n : ℕ) (cs : List (Option V)) → set (cleared n cs) n None ≡ cleared (suc n) cs
  cleared_suc zero [] = refl
  cleared_suc zero (c ∷ cs) = refl
  cleared_suc (suc n) [] = refl
  cleared_suc (suc n) (c ∷ cs) = ap (λ t. None ∷ t) (cleared_suc n cs)

  -- one place more emptied
  pub cleared_more : (n : ℕ) (cs : List (Option V)) → set (cleared n cs) n None ≡ cleared (n + 1) cs
  cleared_more n cs = rw add-one (cleared_suc n cs)

  cleared_nil : (n : ℕ) → cleared {V = V} n [] ≡ []
  cleared_nil zero = refl
  cleared_nil (suc n) = refl

  -- there is nothing to empty past the end
  cleared_all : (cs : List (Option V)) (n k : ℕ) → k ≡ min (length cs) n → cleared k cs ≡ cleared n cs
  cleared_all [] n k e = cleared_nil k ∙ sym (cleared_nil n)
  cleared_all (c ∷ cs) zero zero e = refl
  cleared_all (c ∷ cs) zero (suc k) e = absurd (omega arith)
  cleared_all (c ∷ cs) (suc n) zero e = absurd (omega arith)
  cleared_all (c ∷ cs) (suc n) (suc k) e = ap (λ t. None ∷ t) (cleared_all cs n k (omega arith))

  shown_nil : (cs : List (Option V)) → shown cs [] ≡ []
  shown_nil [] = refl
  shown_nil (c ∷ cs) = refl

  cleared_shown : (cs : List (Option V)) (bs : List V) → shown (cleared (length bs) cs) bs ≡ take (length cs) bs
  cleared_shown cs [] = shown_nil cs ∙ sym (take-nil (length cs))
  cleared_shown [] (b ∷ bs) = refl
  cleared_shown (c ∷ cs) (b ∷ bs) = ap (λ t. b ∷ t) (cleared_shown cs bs)

  cleared_past : (n : ℕ) (cs : List (Option V)) → drop n (cleared n cs) ≡ drop n cs
  cleared_past zero cs = refl
  cleared_past (suc n) [] = refl
  cleared_past (suc n) (c ∷ cs) = cleared_past n cs

  -- once as many places are empty as there are cells
  module _ (cs ds : List (Option V)) (bs : List V) (n : ℕ) (all : n ≡ min (length cs) (length bs)) (empty : ds ≡ replicate n None) where
    pub end_changes : ds ++ drop n cs ≡ cleared (length bs) cs
    end_changes = rw empty (emptied cs n (omega arith) ∙ cleared_all cs (length bs) n all)

    pub end_values : shown (ds ++ drop n cs) bs ≡ take (length cs) bs
    end_values = rw end_changes (cleared_shown cs bs)

    pub end_past : drop (length bs) (ds ++ drop n cs) ≡ drop (length bs) cs
    end_past = rw end_changes (cleared_past (length bs) cs)
