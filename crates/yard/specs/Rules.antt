-- The rules of a kind of order, apart from any code. An order is a letter, by its code, and a number.
use Rattle.std.specs.Prelude.{◌≡◌, ℕ, Bool, false, cond, Some, None, Option}

-- what an order makes of a value: a new value, or the number of the cause why it cannot
pub data Effect (V : Type 0) : Type 0 where
  passes : V → Effect V
  fails : ℕ → Effect V

pub record Rules (V : Type 0) : Type 0 where
  pub letters : ℕ → Bool  -- some order has this letter
  pub knows : ℕ → ℕ → Bool  -- the order is one of the kind's
  pub writes : ℕ → ℕ → Bool  -- the order writes its cell; else it looks
  pub makes : ℕ → ℕ → V → Effect V  -- what a known order makes of a value

-- a looking order that passes gives back the value that it saw
abbrev pub Looks : {V : Type 0} → Rules V → Type 0
Looks {V} R = (l n : ℕ) (v w : V) → R.writes l n ≡ false → R.makes l n v ≡ passes w → w ≡ v

-- what a kind answers: nothing where it does not know the order
abbrev pub asked : {V : Type 0} → Rules V → ℕ → ℕ → V → Option (Effect V)
asked R l n v = cond (R.knows l n) (Some (R.makes l n v)) None
