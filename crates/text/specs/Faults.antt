-- Results that tell where a fault stands, and one reading after another.
use Rattle.std.specs.Prelude.{ℕ, Bool, cond, Ok, Err, Result}
use Rattle.text.specs.declared.faults.WordFault.{WordFault}
use Rattle.text.specs.declared.faults.At.{At}
use Rattle.text.specs.declared.faults.LineFault.{LineFault}
use Rattle.text.specs.declared.faults.LineFault.TheVariants.{Word}

abbrev pub on_err : {A E F : Type 0} → (E → F) → Result A E → Result A F
on_err f (Ok x) = Ok x
on_err f (Err e) = Err (f e)

abbrev pub and_then : {A B E : Type 0} → Result A E → (A → Result B E) → Result B E
and_then (Ok x) f = f x
and_then (Err e) f = Err e

-- what a test lets pass
abbrev pub passing : {A E : Type 0} → Bool → E → A → Result A E
passing t e a = cond t (Ok a) (Err e)

abbrev pub at_number : {F : Type 0} → ℕ → F → At F
at_number k f = record { number = k; fault = f }

-- a fault of the word k, as its line has it
abbrev pub in_word : ℕ → WordFault → LineFault
in_word k f = Word (at_number k f)
