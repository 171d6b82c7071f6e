-- The script and the lists of a run, as the definitions of what calls do take them.
use Rattle.std.specs.Prelude.{◌≡◌, List, map}
use Rattle.yard.specs.declared.run.LaneRow.{LaneRow}
use Rattle.yard.specs.declared.run.Outcome.{Outcome}
use Rattle.yard.specs.Cells.{Surroundings}
use Rattle.yard.specs.Runs.{end_of}
use Rattle.dealing.specs.Openings.{numbers_in}
use Rattle.books.specs.Scripts.{Script as ScriptLists, script, State, state}
use Rattle.running.specs.declared.run.Run.{Run}
use Rattle.running.specs.declared.script.Script.{Script}

-- what no call alters
abbrev pub script_of : Script → ScriptLists
script_of s = script (numbers_in s.opening) s.batch.moves.now s.batch.steps.now s.line_up.now

-- what calls alter: the values of the board, the saved list, the outcomes by how the moves ended, the rows of the lanes
abbrev pub state_of : {V : Type 0} → List V → List V → List Outcome → List LaneRow → State V
state_of values saved outcomes lanes = state values saved (map end_of outcomes) lanes

-- that of a run, where `values` says what a board's cells hold
abbrev pub state_in : {K B V : Type 0} → (B → List V) → Run K B V → State V
state_in values run = state_of (values run.board.now) run.saved.now run.outcomes.now run.lanes.now

-- a run after a call has its script and the lists that were lent to it, and what `around` says of its board is as it was
pub record Keeps {K B V : Type 0} (around : B → Surroundings V) (before after : Run K B V) : Type 0 where
  pub script : after.script ≡ before.script
  pub board : after.board.ghost_name ≡ before.board.ghost_name
  pub saved : after.saved.ghost_name ≡ before.saved.ghost_name
  pub lanes : after.lanes.ghost_name ≡ before.lanes.ghost_name
  pub outcomes : after.outcomes.ghost_name ≡ before.outcomes.ghost_name
  pub surroundings : around after.board.now ≡ around before.board.now
