-- What a live board's cells hold, and what lies around them.
use Rattle.std.specs.Prelude.{ℕ, List, [], ◌∷◌}
use Rattle.yard.specs.Cells.{Surroundings}
use Rattle.boards.specs.declared.live.LiveBoard.{LiveBoard}

-- nothing but the name of the memory that the cells are lent from
abbrev pub only_lent : {V : Type 0} → ℕ → Surroundings V
only_lent lender = record { values = []; changes = []; lent = lender ∷ [] }

abbrev pub live_values : {V : Type 0} → LiveBoard V → List V
live_values b = b.cells.now

abbrev pub live_around : {V : Type 0} → LiveBoard V → Surroundings V
live_around b = only_lent b.cells.ghost_name
