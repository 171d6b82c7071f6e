-- What an answer tells, whatever the type that it comes in: a number of the table, 0 where nothing is refused, and the value that comes with it.
use Rattle.std.specs.Prelude.{ℕ, Some, None, Ok, Err, Option, Result}
use Rattle.yard.specs.declared.refusal.Refusal.{Refusal}
use Rattle.yard.specs.declared.cause.Cause.{Cause}
use Rattle.yard.specs.Numbers.{refusal_number, cause_number}
use Rattle.yard.specs.Rules.{Effect, passes, fails}

pub record Told (A : Type 0) : Type 0 where
  pub number : ℕ
  pub value : Option A

abbrev pub gives : {A : Type 0} → A → Told A
gives a = record { number = 0; value = Some a }

abbrev pub refuses : {A : Type 0} → ℕ → Told A
refuses n = record { number = n; value = None }

abbrev pub told : {A : Type 0} → Result A Refusal → Told A
told (Ok a) = gives a
told (Err r) = refuses (refusal_number r)

-- what an order made of a value, or the number of the cause why it could not
abbrev pub effect : {V : Type 0} → Result V Cause → Effect V
effect (Ok v) = passes v
effect (Err c) = fails (cause_number c)

-- a kind's answer: what the order makes of the value, or nothing where the order is unknown
abbrev pub made : {V : Type 0} → Option (Result V Cause) → Option (Effect V)
made (Some r) = Some (effect r)
made None = None
