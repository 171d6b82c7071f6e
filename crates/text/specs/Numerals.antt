-- Decimal numerals: digits, with no leading zero but for 0 itself. 48 is the digit 0.
use Rattle.std.specs.Prelude.{ℕ, ◌+◌, ◌-◌, ◌*◌, Bool, false, cond, not, ◌&&◌, List, [], ◌∷◌, Ok, Err, Result, ◌==◌, nat_le}
use Rattle.std.specs.Char.{is_ascii_digit}
use Rattle.std.specs.List.{list_all}
use Rattle.text.specs.declared.faults.WordFault.{WordFault}
use Rattle.text.specs.declared.faults.WordFault.TheVariants.{NotNumber, TooLarge}

-- a digit alone, or digits of which the first is not 0
abbrev pub numeral : List ℕ → Bool
numeral [] = false
numeral (c ∷ []) = is_ascii_digit c
numeral (c ∷ d ∷ cs) = not (c == 48) && list_all is_ascii_digit (c ∷ d ∷ cs)

-- what digits are worth, after those that are worth n
abbrev pub worth_from : ℕ → List ℕ → ℕ
worth_from n [] = n
worth_from n (c ∷ cs) = worth_from (n * 10 + (c - 48)) cs

abbrev pub sized : ℕ → Result ℕ WordFault
sized n = cond (nat_le n 65535) (Ok n) (Err TooLarge)

-- what a numeral is worth, if that is at most 65,535
abbrev pub worth : List ℕ → Result ℕ WordFault
worth cs = sized (worth_from 0 cs)

-- the number that some bytes write
abbrev pub number_of : List ℕ → Result ℕ WordFault
number_of cs = cond (numeral cs) (worth cs) (Err NotNumber)
