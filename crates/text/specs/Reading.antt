-- What a reader has before it, and what it makes of its next word.
use Rattle.std.specs.Prelude.{◌≡◌, ℕ, zero, suc, ◌+◌, Bool, cond, ◌&&◌, List, length, drop, Result, ◌==◌, nat_le, nat_lt, slice_index}
use Rattle.text.specs.declared.faults.WordFault.TheVariants.{OutOfRange, WrongLetter}
use Rattle.text.specs.declared.faults.At.{At}
use Rattle.text.specs.declared.faults.WordFault.{WordFault}
use Rattle.text.specs.declared.reader.Reader.{Reader}
use Rattle.text.specs.Faults.{on_err, and_then, at_number, passing}
use Rattle.text.specs.Lines.{word_length, word_of}
use Rattle.text.specs.Numerals.{number_of}
use Rattle.text.specs.Words.{letter_of}

-- where a reader stands: the number of its line, and the bytes from its place on
pub record Here : Type 0 where
  pub line : ℕ
  pub bytes : List ℕ

abbrev pub here : Reader → Here
here r = record { line = r.line; bytes = drop r.place r.sheet.now }

abbrev pub start : List ℕ → Here
start bs = record { line = 1; bytes = bs }

abbrev pub nothing_left : Here → Bool
nothing_left h = length h.bytes == 0

-- past the next word and the space or LF after it; after an LF begins a line
abbrev pub past_word : Here → Here
past_word h = record {
  line = h.line + cond (slice_index h.bytes (word_length h.bytes) == 10) 1 0;
  bytes = drop (word_length h.bytes + 1) h.bytes;
}

-- what a reader is before and after it read a word: the sheet under it stays the same
abbrev pub WentPastWord : Reader → Reader → Type 0
WentPastWord before after = (after.sheet ≡ before.sheet) × (here after ≡ past_word (here before))

-- past so many words
abbrev pub past : ℕ → Here → Here
past zero h = h
past (suc k) h = past k (past_word h)

-- the next word, which is word k of its line, as a number or a letter
abbrev pub number_at : ℕ → Here → Result ℕ (At WordFault)
number_at k h = on_err (at_number k) (number_of (word_of h.bytes))

abbrev pub letter_at : ℕ → Here → Result ℕ (At WordFault)
letter_at k h = on_err (at_number k) (letter_of (word_of h.bytes))

abbrev pub number_within : ℕ → ℕ → ℕ → Here → Result ℕ (At WordFault)
number_within k least most h = and_then (number_at k h) (λ n. passing (nat_le least n && nat_le n most) (at_number k OutOfRange) n)

abbrev pub number_below : ℕ → ℕ → Here → Result ℕ (At WordFault)
number_below k end h = and_then (number_at k h) (λ n. passing (nat_lt n end) (at_number k OutOfRange) n)

abbrev pub letter_is : ℕ → ℕ → Here → Result ℕ (At WordFault)
letter_is k l h = and_then (letter_at k h) (λ c. passing (c == l) (at_number k WrongLetter) c)
