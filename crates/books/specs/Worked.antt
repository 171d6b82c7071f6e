-- A worked run: two queues and a rest list on four cells of a small kind, with a move that fails.
use Rattle.std.specs.Prelude.{◌≡◌, ℕ, ◌+◌, ◌-◌, cond, List, [], ◌∷◌, map, take, replicate, ◌==◌, nat_le}
use Rattle.yard.specs.declared.batch.Step.{Step}
use Rattle.yard.specs.declared.batch.Move.{Move}
use Rattle.yard.specs.declared.run.Call.{Call}
use Rattle.yard.specs.declared.run.Call.TheVariants.{Step as StepOn, Look, Tally}
use Rattle.yard.specs.declared.run.Outcome.TheVariants.{NotEnded}
use Rattle.yard.specs.Batches.{Listed}
use Rattle.yard.specs.Rules.{Rules, Effect, passes as makes_value, fails as gives_cause}
use Rattle.yard.specs.Runs.{Numbers, done, failed, end_of, Reply, passes, ends, fails, holds, counts, refuses}
use Rattle.dealing.specs.Opening.{Lists, lists, Opened, open_into, AsOpened}
use Rattle.books.specs.Scripts.{Script, script, State, state, no_row, lane_moves}
use Rattle.books.specs.Tallies.{tally_of}
use Rattle.books.specs.Calls.{reply, after, stage}
use Rattle.books.specs.Law.{board_at, serial_from}

abbrev took_away : ℕ → ℕ → Effect ℕ
took_away n v = cond (nat_le n v) (makes_value (v - n)) (gives_cause 28)

abbrev looked_for : ℕ → ℕ → Effect ℕ
looked_for n v = cond (v == n) (makes_value v) (gives_cause 26)

-- a small kind: order 0 adds its number to the cell, 1 takes it away, 2 looks for it
abbrev pub sums : Rules ℕ
sums = record {
  letters = λ l. nat_le l 2;
  knows = λ l n. nat_le l 2;
  writes = λ l n. nat_le l 1;
  makes = λ l n v. cond (l == 0) (makes_value (v + n)) (cond (l == 1) (took_away n v) (looked_for n v));
}

abbrev move : ℕ → ℕ → ℕ → Move
move label first count = record { label = label; first = first; count = count }

abbrev adds : ℕ → ℕ → Step
adds cell number = record { cell = cell; order = record { letter = 0; number = number } }

abbrev takes : ℕ → ℕ → Step
takes cell number = record { cell = cell; order = record { letter = 1; number = number } }

-- 5 from cell 0 to cell 1; 7 to cell 2 and 9 from cell 3, where there is none; 5 from cell 1 to cell 2
abbrev pub worked_batch : Listed
worked_batch = record {
  cells = 4;
  share = 1000;
  moves = move 11 0 2 ∷ move 12 2 2 ∷ move 13 4 2 ∷ [];
  steps = takes 0 5 ∷ adds 1 5 ∷ adds 2 7 ∷ takes 3 9 ∷ takes 1 5 ∷ adds 2 5 ∷ [];
  choices = 0 ∷ 1 ∷ [];
}

abbrev pub full_lists : Lists
full_lists = lists (replicate 256 0) (replicate 257 no_row) (replicate 256 NotEnded) (replicate 1024 0) (replicate 1024 0) (replicate 4096 0)

abbrev pub worked_opening : Opened
worked_opening = open_into sums worked_batch 4 full_lists

abbrev pub worked_numbers : Numbers
worked_numbers = record { cells = 4; moves = 3; steps = 6; queues = 2 }

abbrev pub worked_script : Script
worked_script = script worked_numbers worked_batch.moves worked_batch.steps worked_opening.lists.line_up

abbrev pub worked_start : State ℕ
worked_start = state (5 ∷ 0 ∷ 0 ∷ 0 ∷ []) (replicate 6 0) (map end_of worked_opening.lists.outcomes) worked_opening.lists.lanes

-- the rest list is called while the queues are busy, and each lane past its end or not at all
abbrev pub worked_calls : List Call
worked_calls = StepOn 1 ∷ StepOn 0 ∷ StepOn 2 ∷ Look 2 ∷ StepOn 2 ∷ Look 2 ∷ StepOn 1 ∷ StepOn 1 ∷ StepOn 0 ∷ StepOn 0 ∷ Look 4 ∷ StepOn 3 ∷ Tally ∷ []

abbrev replies_from : State ℕ → List Call → List (Reply ℕ)
replies_from st [] = []
replies_from st (c ∷ cs) = reply sums worked_script st c ∷ replies_from (after sums worked_script st c) cs

abbrev pub worked_replies : List (Reply ℕ)
worked_replies =
    passes ∷ refuses 21 ∷ passes ∷ holds 7 ∷ fails 2 28 ∷ holds 0 ∷ ends ∷ refuses 20 ∷ passes ∷ ends ∷ refuses 22 ∷ refuses 19
    ∷ counts (tally_of 3 6 2 1) ∷ []

pub record RunAsWorked : Type 0 where
  pub opens : AsOpened sums worked_batch 4 worked_numbers worked_opening.lists.line_up worked_opening.lists.lanes worked_opening.lists.outcomes
  pub queue_1 : lane_moves worked_script worked_start 1 ≡ 0 ∷ []
  pub queue_2 : lane_moves worked_script worked_start 2 ≡ 1 ∷ []
  pub rest_list : lane_moves worked_script worked_start 0 ≡ 2 ∷ []
  pub replies : replies_from worked_start worked_calls ≡ worked_replies
  pub half_way : board_at sums worked_script worked_start worked_calls worked_replies 4 ≡ 0 ∷ 0 ∷ 7 ∷ 0 ∷ []
  pub board : board_at sums worked_script worked_start worked_calls worked_replies 13 ≡ 0 ∷ 0 ∷ 5 ∷ 0 ∷ []
  pub values : (stage sums worked_script worked_start worked_calls 13).values ≡ 0 ∷ 0 ∷ 5 ∷ 0 ∷ []
  pub outcomes : take 3 (stage sums worked_script worked_start worked_calls 13).ends ≡ done ∷ failed 2 28 ∷ done ∷ []
  pub queue_2_first : serial_from sums worked_script worked_start (2 ∷ 1 ∷ []) ≡ serial_from sums worked_script worked_start (1 ∷ 2 ∷ [])
