-- A text laid over the front of a list, and what is told of that.
use Rattle.std.specs.Prelude.{ℕ, cond, List, length, nat_le}
use Rattle.yard.specs.Fronts.{laid}
use Rattle.yard.specs.Told.{Told, gives, refuses}

-- what a call answers, and the list after it
pub record Answered : Type 0 where
  pub answer : Told ℕ
  pub listing : List ℕ

abbrev pub listed_as : Told ℕ → List ℕ → Answered
listed_as answer listing = record { answer = answer; listing = listing }

-- a text goes to the front of a list that has room for it; a refusal leaves the list as it was
abbrev pub laid_into : List ℕ → List ℕ → Answered
laid_into text list = cond (nat_le (length text) (length list)) (listed_as (gives (length text)) (laid text list)) (listed_as (refuses 11) list)
