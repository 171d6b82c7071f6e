-- Lines and words of a sheet, as lists of bytes. 10 is LF, 32 is the space.
use Rattle.std.specs.Prelude.{ℕ, Bool, cond, not, ◌&&◌, ◌||◌, List, length, take, position, Some, None, Ok, Err, Option, Result, ◌==◌}
use Rattle.std.specs.List.{list_all, position_or_len, slice_split}
use Rattle.std.specs.Option.{option_map}
use Rattle.text.specs.declared.faults.LineFault.{LineFault}
use Rattle.text.specs.declared.faults.LineFault.TheVariants.{Lacking, Shape}

-- the line that some bytes begin with, without its LF, if the LF is there
abbrev pub line_of : List ℕ → Option (List ℕ)
line_of bs = option_map (λ end. take end bs) (position (λ b. b == 10) bs)

-- how many bytes the word has that some bytes begin with: it ends before a space or an LF
abbrev pub word_length : List ℕ → ℕ
word_length bs = position_or_len (λ b. b == 32 || b == 10) bs

-- the word that some bytes begin with
abbrev pub word_of : List ℕ → List ℕ
word_of bs = take (word_length bs) bs

-- the parts of a line between its spaces; some may be empty
abbrev pub parts : List ℕ → List (List ℕ)
parts line = slice_split (λ b. b == 32) line

-- a line has just n words: n parts, none of them empty
abbrev pub has_words : ℕ → List ℕ → Bool
has_words n line = list_all (λ part. not (length part == 0)) (parts line) && length (parts line) == n

abbrev pub well_formed : ℕ → Option (List ℕ) → Result (Unit {0}) LineFault
well_formed n None = Err Lacking
well_formed n (Some line) = cond (has_words n line) (Ok tt) (Err Shape)

-- the line that some bytes begin with is there, with its LF, and has n words
abbrev pub line_there : ℕ → List ℕ → Result (Unit {0}) LineFault
line_there n bs = well_formed n (line_of bs)
