-- The numbers of refusals and causes in the table that users see.
use Rattle.std.specs.Prelude.{ℕ}
use Rattle.yard.specs.declared.cause.Cause.{Cause}
use Rattle.yard.specs.declared.cause.Cause.TheVariants.{NoTram, OtherTram, StandTaken, NotAsLooked, AboveLimit, BelowZero, NoHeadroom}
use Rattle.yard.specs.declared.refusal.Refusal.{Refusal}
use Rattle.yard.specs.declared.refusal.Refusal.TheVariants.{ResultTooShort, MisshapenBatch, OutOfRange, UnknownOrder, NoSuchMove, WorkTooShort, BoardTooSmall, NotThisRun, NoSuchLane, LaneAtEnd, QueuesBusy, NoSuchCell}

abbrev pub refusal_number : Refusal → ℕ
refusal_number ResultTooShort = 11
refusal_number MisshapenBatch = 12
refusal_number OutOfRange = 13
refusal_number UnknownOrder = 14
refusal_number NoSuchMove = 15
refusal_number WorkTooShort = 16
refusal_number BoardTooSmall = 17
refusal_number NotThisRun = 18
refusal_number NoSuchLane = 19
refusal_number LaneAtEnd = 20
refusal_number QueuesBusy = 21
refusal_number NoSuchCell = 22

abbrev pub cause_number : Cause → ℕ
cause_number NoTram = 23
cause_number OtherTram = 24
cause_number StandTaken = 25
cause_number NotAsLooked = 26
cause_number AboveLimit = 27
cause_number BelowZero = 28
cause_number NoHeadroom = 29
