-- What plan makes of a sheet: reading, dealing, every move worked whole, and listing.
use Rattle.std.specs.Prelude.{ℕ, Bool, cond, List, [], map, length, replicate, Some, None, Ok, Err, Option, Result, nat_eq, nat_le}
use Rattle.std.specs.List.{range_with_len}
use Rattle.yard.specs.declared.run.Outcome.TheVariants.{NotEnded}
use Rattle.yard.specs.Batches.{Listed}
use Rattle.yard.specs.Rows.{Rows}
use Rattle.yard.specs.Rules.{Rules}
use Rattle.yard.specs.Runs.{Numbers, end_of}
use Rattle.yard.specs.Told.{refuses}
use Rattle.kinds.specs.Stands.{stand_rules, stand_rows}
use Rattle.kinds.specs.Feeders.{feeder_rules, feeder_rows, same_section}
use Rattle.dealing.specs.Opening.{Lists, lists, Opened, open_into}
use Rattle.books.specs.Scripts.{script, state, no_row}
use Rattle.books.specs.Law.{serial_from}
use Rattle.sheets.specs.declared.faults.SheetFault.{SheetFault}
use Rattle.text.specs.declared.slip.Slip.{Slip}
use Rattle.sheets.specs.Faults.{told}
use Rattle.sheets.specs.Sheet.{Sheet, sheet_of}
use Rattle.listings.specs.Laying.{Answered, listed_as, laid_into}
use Rattle.listings.specs.Lines.{slip_bytes}
use Rattle.listings.specs.Listings.{Run, list_into}
use Rattle.planner.specs.declared.kind.YardKind.{YardKind}
use Rattle.planner.specs.declared.kind.YardKind.TheVariants.{Stands, Feeders}
use Rattle.planner.specs.Kind.{kind_of}

-- lists of full lengths with nothing in them, for open to fill
abbrev pub empty_lists : Lists
empty_lists = lists (replicate 256 0) (replicate 257 no_row) (replicate 256 NotEnded) (replicate 1024 0) (replicate 1024 0) (replicate 4096 0)

module _ {V : Type 0} (R : Rules V) (rows : Rows V) (equals : V → V → Bool) where
  -- the run that open leaves for a batch on the values, when every move has been worked whole: queue after queue, then the rest list
  abbrev pub worked_run : Listed → List V → Numbers → Lists → Run V
  worked_run b values n l =
      let S = script n b.moves b.steps l.line_up in
      let start = state values [] (map end_of l.outcomes) l.lanes in
      let end = serial_from R S start (range_with_len 1 n.queues) in
      record { numbers = n; moves = b.moves; line_up = l.line_up; lanes = l.lanes; ends = end.ends; opening = values; closing = end.values }

  abbrev pub listed_run : Listed → List V → Opened → Option Numbers → List ℕ → Answered
  listed_run b values o (Some n) listing = list_into rows equals (worked_run b values n o.lists) listing
  listed_run b values o None listing = listed_as (refuses o.answer.number) listing

  -- a batch on the values of its cells: opened, worked and listed; what open refuses is handed on
  abbrev pub planned_batch : Listed → List V → List ℕ → Answered
  planned_batch b values listing = let o = open_into R b (length values) empty_lists in listed_run b values o o.answer.value listing

  abbrev pub batch_of : Sheet V → Listed
  batch_of s = record { cells = s.cells; share = s.share; moves = s.moves; steps = s.steps; choices = s.choices }

  abbrev pub slip_of : Slip → List ℕ
  slip_of s = slip_bytes s.number s.line s.word

  -- a sheet that was read is planned; of a refused one the slip is told
  abbrev pub planned_as : Result (Sheet V) SheetFault → List ℕ → Answered
  planned_as (Ok s) listing = planned_batch (batch_of s) s.values listing
  planned_as (Err fault) listing = laid_into (slip_of (told fault)) listing

  abbrev pub planned : List ℕ → List ℕ → Answered
  planned sheet listing = planned_as (sheet_of R rows sheet) listing

abbrev pub planned_by : YardKind → List ℕ → List ℕ → Answered
planned_by Stands = planned stand_rules stand_rows nat_eq
planned_by Feeders = planned feeder_rules feeder_rows same_section

-- the listing has its full length, or nothing is done
abbrev pub plan_into : List ℕ → List ℕ → Answered
plan_into sheet listing = cond (nat_le 24576 (length listing)) (planned_by (kind_of sheet) sheet listing) (listed_as (refuses 11) listing)
