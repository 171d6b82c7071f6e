-- A run that works every lane through, one after the other.
use Rattle.std.specs.Prelude.{◌≡◌, ℕ, ◌≤◌, List, [], ◌∷◌, ◌++◌, map, length, replicate}
use Rattle.std.specs.List.{range_with_len}
use Rattle.yard.specs.declared.run.LaneRow.{LaneRow}
use Rattle.yard.specs.declared.run.Outcome.{Outcome}
use Rattle.yard.specs.declared.run.Call.{Call}
use Rattle.yard.specs.declared.run.Call.TheVariants.{Step as StepOn}
use Rattle.yard.specs.Batches.{Listed}
use Rattle.yard.specs.Rules.{Rules}
use Rattle.yard.specs.Runs.{Numbers, end_of}
use Rattle.dealing.specs.Opening.{AsOpened}
use Rattle.books.specs.Scripts.{Script, script, State, state, lane_moves}
use Rattle.books.specs.Calls.{stage}
use Rattle.books.specs.Whole.{stand}
use Rattle.books.specs.Books.{steps_in}
use Rattle.books.specs.Law.{Order, NoneLeft, serial_from}

-- the step calls that work lanes through, one after the other: as many on each as its moves have steps
abbrev pub calls_through : {V : Type 0} → Script → State V → List ℕ → List Call
calls_through S start [] = []
calls_through S start (a ∷ lanes) = replicate (steps_in S (lane_moves S start a)) (StepOn a) ++ calls_through S start lanes

-- all queues in order, then the rest list
abbrev pub all_through : {V : Type 0} → Script → State V → List Call
all_through S start = calls_through S start (range_with_len 1 S.numbers.queues ++ 0 ∷ [])

-- what holds of a run that was worked through and ended with these lists
pub record WorkedThrough {V : Type 0} (R : Rules V) (S : Script) (start final : State V) : Type 0 where
  pub none_left : NoneLeft S.numbers.queues final
  -- the queues by their numbers are an order of them, and board and ends are those of every move worked whole in it
  pub in_order : Order S.numbers.queues (range_with_len 1 S.numbers.queues)
  pub as_whole : stand final.values final.ends ≡ serial_from R S start (range_with_len 1 S.numbers.queues)

-- so it is from lists that open filled for a batch and a board, where the saved list has a place for each step
abbrev pub WorksThrough : {V : Type 0} → Rules V → Type 0
WorksThrough {V} R =
    (b : Listed) (n : Numbers) (line_up : List ℕ) (lanes : List LaneRow) (outcomes : List Outcome) (values saved : List V) →
    AsOpened R b (length values) n line_up lanes outcomes → n.steps ≤ length saved →
    let S = script n b.moves b.steps line_up in
    let start = state values saved (map end_of outcomes) lanes in
    WorkedThrough R S start (stage R S start (all_through S start) (length (all_through S start)))
