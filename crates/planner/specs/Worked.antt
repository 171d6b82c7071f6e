-- Worked examples: what a sheet says, and what orders make of values.
use Rattle.std.specs.Prelude.{◌≡◌, ℕ, Bool, cond, List, [], ◌∷◌, ◌++◌, map, length, replicate, Some, None, Ok, Err, codes, Option, Result, ◌==◌, nat_eq}
use Prim.Native.String.{String}
use Rattle.text.specs.Faults.{on_err}
use Rattle.yard.specs.declared.batch.Move.{Move}
use Rattle.yard.specs.declared.batch.Step.{Step}
use Rattle.yard.specs.Rows.{Rows}
use Rattle.yard.specs.Rules.{Rules, passes, fails, asked}
use Rattle.yard.specs.declared.run.Call.TheVariants.{Step as StepOn}
use Rattle.yard.specs.Runs.{Numbers, end_of, ends, refuses}
use Rattle.yard.specs.Told.{gives}
use Rattle.books.specs.Scripts.{Script, script, State, state}
use Rattle.books.specs.Calls.{reply, after}
use Rattle.kinds.specs.Stands.{stand_rules, stand_rows}
use Rattle.kinds.specs.Feeders.{feeder_rules, feeder_rows, same_section, section}
use Rattle.dealing.specs.Lanes.{Dealt, dealt_of, dealt, lane_moves, queues_of, line_up_of}
use Rattle.dealing.specs.Opening.{Opened, open_into}
use Rattle.sheets.specs.declared.faults.SheetFault.{SheetFault}
use Rattle.sheets.specs.Faults.{told, slip}
use Rattle.sheets.specs.Sheet.{Sheet, sheet_of}
use Rattle.listings.specs.Listings.{listing_bytes}
use Rattle.planner.specs.Plan.{empty_lists, worked_run, batch_of, slip_of}

-- a text with / for LF, as bytes; 47 is /
abbrev pub bytes_of : String → List ℕ
bytes_of s = map (λ b. cond (b == 47) 10 b) (codes s)

abbrev pub worked_sheet : List ℕ
worked_sheet = bytes_of "S 8 300/O 3/0 31/1 32/7 0/M 5/11 2/T 0 31/P 4 31/12 2/T 1 32/P 5 32/13 3/L 7 0/T 4 31/P 6 31/14 2/T 5 32/P 0 32/15 1/L 7 0/C 2/0/1/"

-- the same with no rows
abbrev pub rowless_sheet : List ℕ
rowless_sheet = bytes_of "S 8 300/O 0/0 31/1 32/7 0/M 5/11 2/T 0 31/P 4 31/12 2/T 1 32/P 5 32/13 3/L 7 0/T 4 31/P 6 31/14 2/T 5 32/P 0 32/15 1/L 7 0/C 2/0/1/"

abbrev move : ℕ → ℕ → ℕ → Move
move label first count = record { label = label; first = first; count = count }

-- T is 84, P is 80, L is 76
abbrev step : ℕ → ℕ → ℕ → Step
step letter cell number = record { cell = cell; order = record { letter = letter; number = number } }

abbrev pub worked_yard : Sheet ℕ
worked_yard = record {
  cells = 8;
  share = 300;
  rows = 3;
  values = 31 ∷ 32 ∷ 0 ∷ 0 ∷ 0 ∷ 0 ∷ 0 ∷ 0 ∷ [];
  moves = move 11 0 2 ∷ move 12 2 2 ∷ move 13 4 3 ∷ move 14 7 2 ∷ move 15 9 1 ∷ [];
  steps = step 84 0 31 ∷ step 80 4 31 ∷ step 84 1 32 ∷ step 80 5 32 ∷ step 76 7 0 ∷ step 84 4 31 ∷ step 80 6 31 ∷ step 84 5 32 ∷ step 80 0 32 ∷ step 76 7 0 ∷ [];
  choices = 0 ∷ 1 ∷ [];
}

pub record SheetAsWorked : Type 0 where
  pub reads : sheet_of stand_rules stand_rows worked_sheet ≡ Ok worked_yard
  pub without_rows : on_err told (sheet_of stand_rules stand_rows rowless_sheet) ≡ Err (slip 6 2 2)

-- A is 65, S is 83, H is 72
pub record OrdersAsWorked : Type 0 where
  pub tram_taken : asked stand_rules 84 31 31 ≡ Some (passes 0)
  pub tram_taken_again : asked stand_rules 84 31 0 ≡ Some (fails 23)
  pub up_to_the_limit : asked feeder_rules 65 100 (section 900 1000) ≡ Some (passes (section 1000 1000))
  pub past_the_limit : asked feeder_rules 65 101 (section 900 1000) ≡ Some (fails 27)
  pub no_headroom : asked feeder_rules 72 0 (section 5 4) ≡ Some (fails 29)
  pub all_shed : asked feeder_rules 83 5 (section 5 4) ≡ Some (passes (section 0 4))

-- the worked sheet's batch, dealt with a share and choices
abbrev dealt_with : ℕ → List ℕ → Dealt
dealt_with share choices = dealt stand_rules 8 share worked_yard.steps worked_yard.moves choices

-- the text that planning a sheet gives: its listing, or the line of its slip
module _ {V : Type 0} (R : Rules V) (rows : Rows V) (equals : V → V → Bool) where
  abbrev run_text : Sheet V → Opened → Option Numbers → List ℕ
  run_text s o (Some n) = listing_bytes rows equals (worked_run R rows equals (batch_of R rows equals s) s.values n o.lists)
  run_text s o None = []

  abbrev text_of : Result (Sheet V) SheetFault → List ℕ
  text_of (Ok s) = let o = open_into R (batch_of R rows equals s) (length s.values) empty_lists in run_text s o o.answer.value
  text_of (Err fault) = slip_of R rows equals (told fault)

-- a sheet of stands, and a sheet of feeders
abbrev stands : String → List ℕ
stands sheet = text_of stand_rules stand_rows nat_eq (sheet_of stand_rules stand_rows (bytes_of sheet))

abbrev feeders : String → List ℕ
feeders sheet = text_of feeder_rules feeder_rows same_section (sheet_of feeder_rules feeder_rows (bytes_of sheet))

-- the worked sheet with a share, and its end from the choices on
abbrev worked_with : String → String → List ℕ
worked_with share choices =
    text_of stand_rules stand_rows nat_eq (sheet_of stand_rules stand_rows (bytes_of share ++ bytes_of "/O 3/0 31/1 32/7 0/M 5/11 2/T 0 31/P 4 31/12 2/T 1 32/P 5 32/13 3/L 7 0/T 4 31/P 6 31/14 2/T 5 32/P 0 32/15 1/L 7 0/" ++ bytes_of choices))

-- its listing when two queues never meet, and when all that move trams are in one queue
abbrev in_three_queues : List ℕ
in_three_queues = bytes_of "Q 3/2 0 2/1 1/1 4/R 1/3/E 5/11 1 0 0/12 1 0 0/13 1 0 0/14 1 0 0/15 1 0 0/V 3/0 32/1 0/6 31/"

abbrev in_two_queues : List ℕ
in_two_queues = bytes_of "Q 2/4 0 1 2 3/1 4/R 0/E 5/11 1 0 0/12 1 0 0/13 1 0 0/14 1 0 0/15 1 0 0/V 3/0 32/1 0/6 31/"

-- the worked run, as open leaves it
abbrev worked_opening : Opened
worked_opening = open_into stand_rules (batch_of stand_rules stand_rows nat_eq worked_yard) 8 empty_lists

abbrev worked_script : Script
worked_script = script (record { cells = 8; moves = 5; steps = 10; queues = 3 }) worked_yard.moves worked_yard.steps worked_opening.lists.line_up

abbrev worked_start : State ℕ
worked_start = state worked_yard.values (replicate 10 0) (map end_of worked_opening.lists.outcomes) worked_opening.lists.lanes

pub record ListingsAsWorked : Type 0 where
  pub worked : worked_with "S 8 300" "C 2/0/1/" ≡ in_three_queues
  pub share_200 : worked_with "S 8 200" "C 2/0/1/" ≡ in_two_queues
  pub share_201 : worked_with "S 8 201" "C 2/0/1/" ≡ in_three_queues
  pub no_choices : worked_with "S 8 300" "C 0/" ≡ in_two_queues
  pub no_moves : stands "S 8 300/O 1/0 31/M 0/C 0/" ≡ bytes_of "Q 0/R 0/E 0/V 0/"
  -- a tram that is taken twice: the move fails at its second step, and the tram is back
  pub tram_back : stands "S 2 300/O 1/0 31/M 1/7 2/T 0 31/T 0 31/C 0/" ≡ bytes_of "Q 1/1 0/R 0/E 1/7 2 2 23/V 0/"
  pub up_to_the_limit : feeders "F 1 300/O 1/0 900 1000/M 1/7 1/A 0 100/C 0/" ≡ bytes_of "Q 1/1 0/R 0/E 1/7 1 0 0/V 1/0 1000 1000/"
  pub past_the_limit : feeders "F 1 300/O 1/0 900 1000/M 1/7 1/A 0 101/C 0/" ≡ bytes_of "Q 1/1 0/R 0/E 1/7 2 1 27/V 0/"
  pub no_headroom : feeders "F 1 300/O 1/0 5 4/M 1/7 1/H 0 0/C 0/" ≡ bytes_of "Q 1/1 0/R 0/E 1/7 2 1 29/V 0/"
  pub all_shed : feeders "F 1 300/O 1/0 5 4/M 1/7 1/S 0 5/C 0/" ≡ bytes_of "Q 1/1 0/R 0/E 1/7 1 0 0/V 1/0 0 4/"
  pub without_rows : stands "S 8 300/O 0/M 0/C 0/" ≡ bytes_of "N 6 2 2/"
  -- lane 3 has one step: stepped twice, it answers done and then 20
  pub opening : worked_opening.answer ≡ gives worked_script.numbers
  pub lane_3 : reply stand_rules worked_script worked_start (StepOn 3) ≡ ends
  pub lane_3_again : reply stand_rules worked_script (after stand_rules worked_script worked_start (StepOn 3)) (StepOn 3) ≡ refuses 20

pub record DealingsAsWorked : Type 0 where
  pub queues : queues_of (dealt_with 300 (0 ∷ 1 ∷ [])) ≡ (0 ∷ 2 ∷ []) ∷ (1 ∷ []) ∷ (4 ∷ []) ∷ []
  pub rest : lane_moves (dealt_with 300 (0 ∷ 1 ∷ [])) 0 ≡ 3 ∷ []
  pub line_up : line_up_of (dealt_with 300 (0 ∷ 1 ∷ [])) ≡ 0 ∷ 2 ∷ 1 ∷ 4 ∷ 3 ∷ []
  pub share_200 : queues_of (dealt_with 200 (0 ∷ 1 ∷ [])) ≡ (0 ∷ 1 ∷ 2 ∷ 3 ∷ []) ∷ (4 ∷ []) ∷ []
  pub share_200_rest : lane_moves (dealt_with 200 (0 ∷ 1 ∷ [])) 0 ≡ []
  pub share_201 : dealt_with 201 (0 ∷ 1 ∷ []) ≡ dealt_with 300 (0 ∷ 1 ∷ [])
  pub no_choices : dealt_with 300 [] ≡ dealt_with 200 (0 ∷ 1 ∷ [])
  pub no_moves : dealt stand_rules 8 300 [] [] [] ≡ dealt_of [] 0
