-- A list laid over the front of another: what lies past it stays.
use Rattle.std.specs.Prelude.{List, ◌++◌, length, drop}

abbrev pub laid : {A : Type 0} → List A → List A → List A
laid xs ys = xs ++ drop (length xs) ys
