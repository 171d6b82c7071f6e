-- What a list of calls does to any lists, and when the lists are those that open filled.
use Rattle.std.specs.Prelude.{◌≡◌, ◌<◌, ◌≤◌, List, map, length, drop, Ok, Err, Result}
use Rattle.yard.specs.declared.refusal.Refusal.{Refusal}
use Rattle.yard.specs.declared.run.Answer.{Answer}
use Rattle.yard.specs.declared.run.Call.{Call}
use Rattle.yard.specs.declared.run.LaneRow.{LaneRow}
use Rattle.yard.specs.declared.run.Outcome.{Outcome}
use Rattle.yard.specs.Batches.{listed}
use Rattle.yard.specs.Numbers.{refusal_number}
use Rattle.yard.specs.Rules.{Rules}
use Rattle.yard.specs.Runs.{reply_of}
use Rattle.dealing.specs.Opening.{AsOpened}
use Rattle.dealing.specs.Openings.{numbers_in}
use Rattle.books.specs.Scripts.{Script as ScriptLists, State}
use Rattle.books.specs.Calls.{stage, Answered}
use Rattle.running.specs.declared.script.Script.{Script}

-- the lists are those that open filled for the script's batch, on a board with as many cells as there are values
abbrev pub OpenedFor : {V : Type 0} → Rules V → Script → List V → List Outcome → List LaneRow → Type 0
OpenedFor R s values outcomes lanes = AsOpened R (listed s.batch) (length values) (numbers_in s.opening) s.line_up.now lanes outcomes

-- the lists and the answers before the calls and after them
module _ {V : Type 0} (R : Rules V) (S : ScriptLists) (calls : List Call) (start : State V) (before : List (Result (Answer V) Refusal)) (final : State V) (after : List (Result (Answer V) Refusal)) where
  -- all calls were worked, with an answer for each; the answers past those are as they were
  pub record Worked : Type 0 where
    pub enough : length calls ≤ length before
    pub state : final ≡ stage R S start calls (length calls)
    pub answers : Answered R S start calls (map reply_of after)
    pub past : drop (length calls) after ≡ drop (length calls) before

  -- there are fewer places for answers than calls, and all is as it was
  pub record Refused (refusal : Refusal) : Type 0 where
    pub short : length before < length calls
    pub number : refusal_number refusal ≡ 11
    pub state : final ≡ start
    pub answers : after ≡ before

  abbrev pub Performed : Result (Unit {0}) Refusal → Type 0
  Performed (Ok u) = Worked
  Performed (Err refusal) = Refused refusal
