-- A run that was opened, worked through and listed is what planning its batch gives.
use Rattle.std.proofs.Common.{◌≡◌, ℕ, ◌≤◌, Bool, List, map, length, Ok, Err, Result, ap, ◌∙◌, arith}
use Rattle.std.specs.List.{range_with_len}
use Rattle.yard.specs.declared.refusal.Refusal.{Refusal}
use Rattle.yard.specs.declared.run.Answer.{Answer}
use Rattle.yard.specs.declared.run.Call.{Call}
use Rattle.yard.specs.declared.run.LaneRow.{LaneRow}
use Rattle.yard.specs.declared.run.Outcome.{Outcome}
use Rattle.yard.specs.Batches.{Listed}
use Rattle.yard.specs.Rows.{Rows}
use Rattle.yard.specs.Rules.{Rules, Looks}
use Rattle.yard.specs.Runs.{Numbers, End, end_of}
use Rattle.yard.specs.Told.{Told, gives, refuses}
use Rattle.dealing.specs.Opening.{Lists, lists, Opened, opened, open_into, AsOpened}
use Rattle.books.specs.Scripts.{Script, script, State, state}
use Rattle.books.specs.Calls.{stage}
use Rattle.books.specs.Law.{serial_from}
use Rattle.books.specs.Whole.{Stand, stand}
use Rattle.books.proofs.Through.{works_through}
use Rattle.listings.specs.Laying.{Answered, listed_as}
use Rattle.listings.specs.Listings.{list_into}
use Rattle.running.specs.Performed.{Performed}
use Rattle.planner.specs.Calling.{step_calls_of}
use Rattle.planner.proofs.OpenedCalls.{calls_are_all}
use Rattle.planner.specs.Plan.{empty_lists, listed_run, planned_batch}

-- calls with a place for each answer leave the lists as they do one after the other
worked_state : {V : Type 0} (R : Rules V) (S : Script) (calls : List Call) (start : State V) (before : List (Result (Answer V) Refusal)) (final : State V) (after : List (Result (Answer V) Refusal)) (r : Result (Unit {0}) Refusal) →
    length calls ≤ length before → Performed R S calls start before final after r → final ≡ stage R S start calls (length calls)
worked_state R S calls start before final after (Ok u) h p = p.state
worked_state R S calls start before final after (Err e) h p = absurd (omega (arith, p.short))

-- the step calls of a run that was opened work every move whole
pub worked_whole : {V : Type 0} (R : Rules V) (b : Listed) (n : Numbers) (line_up : List ℕ) (lanes : List LaneRow) (outcomes : List Outcome) (values saved : List V) →
    Looks R → AsOpened R b (length values) n line_up lanes outcomes → n.steps ≤ length saved →
    (calls : List Call) (before : List (Result (Answer V) Refusal)) (final : State V) (after : List (Result (Answer V) Refusal)) (r : Result (Unit {0}) Refusal) →
    calls ≡ step_calls_of n b.moves line_up lanes → length calls ≤ length before →
    let S = script n b.moves b.steps line_up in
    let start = state values saved (map end_of outcomes) lanes in
    Performed R S calls start before final after r → stand final.values final.ends ≡ serial_from R S start (range_with_len 1 n.queues)
worked_whole R b n line_up lanes outcomes values saved looks w room calls before final after r e h p =
    let S = script n b.moves b.steps line_up in
    let start = state values saved (map end_of outcomes) lanes in
    let all = e ∙ calls_are_all R b (length values) n line_up lanes outcomes values saved (map end_of outcomes) w in
    let through = works_through R looks b n line_up lanes outcomes values saved w room in
    rw (worked_state R S calls start before final after r h p, all) through.as_whole

-- a batch on a board that holds the values
module _ {V : Type 0} (R : Rules V) (rows : Rows V) (equals : V → V → Bool) (b : Listed) (values : List V) (listing : List ℕ) (held : List V) (eh : held ≡ values) where
  listed_as_lem : (o : Opened) → o ≡ open_into R b (length held) empty_lists → listed_run R rows equals b values o o.answer.value listing ≡ planned_batch R rows equals b values listing
  listed_as_lem o e = ap (λ (x : Opened). listed_run R rows equals b values x x.answer.value listing) (e ∙ ap (λ (vs : List V). open_into R b (length vs) empty_lists) eh)

  -- what open refuses is handed on
  pub planned_refused : (k : ℕ) (l : Lists) → opened (refuses k) l ≡ open_into R b (length held) empty_lists → listed_as (refuses k) listing ≡ planned_batch R rows equals b values listing
  planned_refused k l e = listed_as_lem (opened (refuses k) l) e

  -- a run that was opened and worked is listed
  pub planned_run : (n : Numbers) (l : Lists) (saved : List V) (end : Stand V) (ends : List End) (closing : List V) (answer : Answered) → opened (gives n) l ≡ open_into R b (length held) empty_lists →
      end ≡ serial_from R (script n b.moves b.steps l.line_up) (state held saved (map end_of l.outcomes) l.lanes) (range_with_len 1 n.queues) →
      ends ≡ end.ends → closing ≡ end.values →
      answer ≡ list_into rows equals (record { numbers = n; moves = b.moves; line_up = l.line_up; lanes = l.lanes; ends = ends; opening = values; closing = closing }) listing →
      answer ≡ planned_batch R rows equals b values listing
  planned_run n l saved end ends closing answer e es en ec ea =
      let whole : end ≡ serial_from R (script n b.moves b.steps l.line_up) (state values saved (map end_of l.outcomes) l.lanes) (range_with_len 1 n.queues) =
      es ∙ ap (λ (vs : List V). serial_from R (script n b.moves b.steps l.line_up) (state vs saved (map end_of l.outcomes) l.lanes) (range_with_len 1 n.queues)) eh in
      let listed_with : List End → List V → Answered =
      λ es vs. list_into rows equals (record { numbers = n; moves = b.moves; line_up = l.line_up; lanes = l.lanes; ends = es; opening = values; closing = vs }) listing in
      ea ∙ ap (λ (es : List End). listed_with es closing) en ∙ ap (listed_with end.ends) ec ∙ ap (λ (s : Stand V). listed_with s.ends s.values) whole
      ∙ listed_as_lem (opened (gives n) l) e

-- the lists of a run by what they are found to hold after opening
pub opens_with : {line_up line_up' : List ℕ} {lanes lanes' : List LaneRow} {outcomes outcomes' : List Outcome} {parents marks pairs : List ℕ} {answer : Told Numbers} {o : Opened} →
    line_up' ≡ line_up → lanes' ≡ lanes → outcomes' ≡ outcomes →
    opened answer (lists line_up lanes outcomes parents marks pairs) ≡ o → opened answer (lists line_up' lanes' outcomes' parents marks pairs) ≡ o
opens_with a b c e = rw (a, b, c) e
