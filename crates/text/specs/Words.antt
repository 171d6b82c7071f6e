-- What kind of word some bytes are.
use Rattle.std.specs.Prelude.{ℕ, Bool, false, cond, List, [], ◌∷◌, Ok, Err, Result}
use Rattle.std.specs.Char.{is_ascii_uppercase}
use Rattle.text.specs.declared.faults.WordFault.{WordFault}
use Rattle.text.specs.declared.faults.WordFault.TheVariants.{NotNumber, WrongLetter}
use Rattle.text.specs.declared.words.Sort.{Sort}
use Rattle.text.specs.declared.words.Sort.TheVariants.{Letter, Number, Unknown}
use Rattle.text.specs.declared.words.Word.{Word}
use Rattle.text.specs.Numerals.{numeral, worth}

-- a word by its bytes and its place, apart from the memory that they stand in
pub record Seen : Type 0 where
  pub sort : Sort
  pub bytes : List ℕ
  pub place : ℕ

abbrev pub seen : Word → Seen
seen w = record { sort = w.sort; bytes = w.part.now; place = w.place }

-- one capital letter
abbrev pub single : List ℕ → Bool
single [] = false
single (c ∷ []) = is_ascii_uppercase c
single (c ∷ d ∷ cs) = false

-- a numeral, one capital letter, or neither
abbrev pub sort_of : List ℕ → Sort
sort_of cs = cond (numeral cs) Number (cond (single cs) Letter Unknown)

abbrev pub sorted : List ℕ → ℕ → Seen
sorted cs p = record { sort = sort_of cs; bytes = cs; place = p }

abbrev pub number_in : Sort → List ℕ → Result ℕ WordFault
number_in Letter cs = Err NotNumber
number_in Number cs = worth cs
number_in Unknown cs = Err NotNumber

abbrev pub number_seen : Seen → Result ℕ WordFault
number_seen w = number_in w.sort w.bytes

abbrev pub only : List ℕ → Result ℕ WordFault
only [] = Err WrongLetter
only (c ∷ []) = Ok c
only (c ∷ d ∷ cs) = Err WrongLetter

abbrev pub letter_in : Sort → List ℕ → Result ℕ WordFault
letter_in Letter cs = only cs
letter_in Number cs = Err WrongLetter
letter_in Unknown cs = Err WrongLetter

abbrev pub letter_seen : Seen → Result ℕ WordFault
letter_seen w = letter_in w.sort w.bytes

-- the letter that some bytes are
abbrev pub letter_of : List ℕ → Result ℕ WordFault
letter_of cs = cond (single cs) (only cs) (Err WrongLetter)
