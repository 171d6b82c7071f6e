-- Lines as bytes: numbers without leading zeros, parted by one space (32) and ended by LF (10).
use Rattle.std.specs.Prelude.{ℕ, List, [], ◌∷◌, ◌++◌, length, decimal}
use Rattle.std.specs.List.{flat_map}

-- the rest of a line, a space before each of its numbers
abbrev pub spaced : List ℕ → List ℕ
spaced [] = 10 ∷ []
spaced (n ∷ ns) = 32 ∷ decimal n ++ spaced ns

abbrev pub line : List ℕ → List ℕ
line [] = 10 ∷ []
line (n ∷ ns) = decimal n ++ spaced ns

-- a letter and how many lines follow, and those lines
abbrev pub section : ℕ → List (List ℕ) → List ℕ
section letter lines = letter ∷ spaced (length lines ∷ []) ++ flat_map line lines

-- the line of a slip: N (78), and its number, line and word
abbrev pub slip_bytes : ℕ → ℕ → ℕ → List ℕ
slip_bytes number line word = 78 ∷ spaced (number ∷ line ∷ word ∷ [])
