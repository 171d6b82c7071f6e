-- What a batch whose active cells are known says of its moves.
use Rattle.std.specs.Prelude.{ℕ, List, length}
use Rattle.yard.specs.declared.batch.Move.{Move}
use Rattle.yard.specs.Moves.{steps_of}
use Rattle.dealing.specs.declared.prepared.ActiveCells.{ActiveCells}
use Rattle.dealing.specs.declared.prepared.Prepared.{Prepared}
use Rattle.dealing.specs.Active.{active_cells, move_cells}

-- the active cells that one move names, and how many cells there are in all
abbrev pub cells_in : ActiveCells → List ℕ
cells_in c = active_cells c.active.now c.steps.now

abbrev pub cell_count : ActiveCells → ℕ
cell_count c = length c.active.now

-- the active cells of a move, and of each move of the batch
abbrev pub cells_of : Prepared → Move → List ℕ
cells_of p m = active_cells p.active.now (steps_of p.steps.now m)

abbrev pub all_cells : Prepared → List (List ℕ)
all_cells p = move_cells p.active.now p.steps.now p.moves.now

abbrev pub move_count : Prepared → ℕ
move_count p = length p.moves.now
