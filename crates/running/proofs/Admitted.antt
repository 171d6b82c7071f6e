-- What holds when a step call is not refused.
use Rattle.std.proofs.Common.{◌≡◌, ℕ, zero, suc, ◌+◌, ◌<◌, ◌≤◌, true, List, [], ◌∷◌, length, get_or, take, drop, Some, None, Option, sym, refl, ap, ◌∙◌, subst, arith}
use Rattle.std.proofs.lemmas.List.{length-take, length-drop, get_or-take, get_or-drop}
use Rattle.std.proofs.lemmas.Bool.Decides.{nat_tests}
use Rattle.std.proofs.lemmas.Bool.{and_parts}
use Rattle.yard.specs.declared.batch.Step.{Step}
use Rattle.yard.specs.declared.run.LaneRow.{LaneRow}
use Rattle.yard.specs.Rules.{Rules}
use Rattle.yard.specs.Told.{Told, gives}
use Rattle.dealing.specs.Active.{no_step}
use Rattle.dealing.specs.Opening.{known, all_known}
use Rattle.books.specs.Scripts.{Script, State, row_of, move_at, step_at, due, due_place}
use Rattle.books.specs.Calls.{long_enough, fits, barred, steps_to_due}
use Rattle.running.specs.Admitting.{LongScript, unless_barred, admitted}
use Rattle.running.specs.Turning.{Due}

-- an answer with a row, and a refusal
free : (row' row : LaneRow) (o : Option ℕ) → gives row' ≡ unless_barred row o → (o ≡ None) × (row' ≡ row)
free row' row None e = let f : Some row' ≡ Some row = ap (λ (t : Told LaneRow). t.value) e in (refl, cc)
free row' row (Some n) e = absurd (let f : Some row' ≡ None = ap (λ (t : Told LaneRow). t.value) e in let z : ◌≡◌ {A = ℕ} 0 1 = cc in omega arith)

-- one of some known steps
known_at : {V : Type 0} (R : Rules V) (n : ℕ) (ss : List Step) (k : ℕ) → all_known R n ss ≡ true → k < length ss → known R n (get_or ss k no_step) ≡ true
known_at R n [] k e h = absurd (omega arith)
known_at R n (s ∷ ss) zero e h = (and_parts (known R n s) (all_known R n ss) e).0
known_at R n (s ∷ ss) (suc k) e h = known_at R n ss k (and_parts (known R n s) (all_known R n ss) e).1 (omega arith)

module _ {V : Type 0} (R : Rules V) (S : Script) (st : State V) (few : S.numbers.steps ≤ 1024) where
  -- what the tests of the lengths and of a row say
  record Long : Type 0 where
    script : LongScript S
    lanes : S.numbers.queues < length st.lanes
    ends : S.numbers.moves ≤ length st.ends
    values : S.numbers.cells ≤ length st.values
    saved : S.numbers.steps ≤ length st.saved

  long : long_enough R S st ≡ true → Long
  long e = grind (arith, nat_tests)

  record Fitting (row : LaneRow) : Type 0 where
    waits : row.next < row.end
    within : row.end ≤ S.numbers.moves
    a_move : due S row < S.numbers.moves
    inside : (move_at S (due S row)).first + (move_at S (due S row)).count ≤ S.numbers.steps
    left : row.taken < (move_at S (due S row)).count
    all_known : all_known R S.numbers.cells (steps_to_due S row) ≡ true

  fitting : (row : LaneRow) → fits R S row ≡ true → Fitting row
  fitting row e = grind (arith, nat_tests)

  -- the step that is due is known, on a cell of the board
  due_known : (row : LaneRow) → Long → Fitting row → known R S.numbers.cells (step_at S (due_place S row)) ≡ true
  due_known row l f =
      let first = (move_at S (due S row)).first in
      let part = drop first S.steps in
      let left : row.taken < length part = omega (arith, length-drop first S.steps, l.script.steps, f.inside, f.left) in
      let there : row.taken < length (take (row.taken + 1) part) = omega (arith, length-take (row.taken + 1) part) in
      subst (λ (s : Step). known R S.numbers.cells s ≡ true)
      (get_or-take (row.taken + 1) part row.taken no_step (omega arith) ∙ get_or-drop first S.steps row.taken no_step)
      (known_at R S.numbers.cells (steps_to_due S row) row.taken f.all_known there)

  due_now : (row : LaneRow) → Long → Fitting row → Due R S st row
  due_now row l f = let known = due_known row l f in grind (arith, nat_tests)

  -- a step call that was let through
  pub record Free (a : ℕ) (row : LaneRow) : Type 0 where
    pub none : barred R S st a ≡ None
    pub its_row : row ≡ row_of st a
    pub a_lane : a < length st.lanes
    pub is_due : Due R S st row

  passed : (a : ℕ) → barred R S st a ≡ None → (a ≤ S.numbers.queues) × (long_enough R S st ≡ true) × (fits R S (row_of st a) ≡ true)
  passed a e = grind (arith, nat_tests)

  pub let_through : (a : ℕ) (row : LaneRow) → gives row ≡ admitted R S st a → Free a row
  let_through a row e =
      let p = free row (row_of st a) (barred R S st a) e in
      let t = passed a p.0 in
      let l = long t.1 in
      record {
        none = p.0;
        its_row = p.1;
        a_lane = omega (arith, l.lanes, t.0);
        is_due = subst (λ (x : LaneRow). Due R S st x) (sym p.1) (due_now (row_of st a) l (fitting (row_of st a) t.2));
      }
