-- The text that tells where a sheet is wrong: N, the number of the refusal, the line and the word. 78 is N, 32 is the space.
use Rattle.std.specs.Prelude.{List, ◌∷◌, ◌++◌, decimal, ℕ}
use Rattle.text.specs.declared.slip.Slip.{Slip}

abbrev pub slip_text : Slip → List ℕ
slip_text s = 78 ∷ 32 ∷ decimal s.number ++ 32 ∷ decimal s.line ++ 32 ∷ decimal s.word
