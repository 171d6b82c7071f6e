-- The kind of a sheet by its first byte; F is 70.
use Rattle.std.specs.Prelude.{ℕ, cond, List, [], ◌∷◌, ◌==◌}
use Rattle.planner.specs.declared.kind.YardKind.{YardKind}
use Rattle.planner.specs.declared.kind.YardKind.TheVariants.{Stands, Feeders}

abbrev pub kind_of : List ℕ → YardKind
kind_of [] = Stands
kind_of (b ∷ bs) = cond (b == 70) Feeders Stands
