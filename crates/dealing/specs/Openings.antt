-- What an opening tells, what an answer of open tells, and what holds of the lists after it.
use Rattle.std.specs.Prelude.{ℕ, List, Ok, Err, Result}
use Rattle.yard.specs.declared.refusal.Refusal.{Refusal}
use Rattle.yard.specs.declared.run.LaneRow.{LaneRow}
use Rattle.yard.specs.Batches.{Listed}
use Rattle.yard.specs.Numbers.{refusal_number}
use Rattle.yard.specs.Rules.{Rules}
use Rattle.yard.specs.Runs.{Numbers}
use Rattle.yard.specs.Told.{Told, gives, refuses}
use Rattle.dealing.specs.declared.opening.Opening.{Opening}
use Rattle.dealing.specs.Facts.{WellDealt}

abbrev pub numbers_in : Opening → Numbers
numbers_in o = record { cells = o.cells; moves = o.moves; steps = o.steps; queues = o.queues }

abbrev pub told_opening : Result Opening Refusal → Told Numbers
told_opening (Ok o) = gives (numbers_in o)
told_opening (Err r) = refuses (refusal_number r)

-- the lists that open filled say what they should of the batch
abbrev pub Sound : {V : Type 0} → Rules V → Listed → Result Opening Refusal → List ℕ → List LaneRow → Type 0
Sound R b (Ok o) line_up lanes = WellDealt R b o.queues line_up lanes
Sound R b (Err r) line_up lanes = Unit {0}
