-- A step of a lane: what it leaves of the lists, apart from what it is there to change.
use Rattle.std.proofs.Common.{◌≡◌, ℕ, ◌+◌, ◌<◌, ◌≤◌, Bool, true, false, cond, ◌≢◌, List, length, set, refl, arith}
use Rattle.std.specs.List.{slice_get}
use Rattle.std.proofs.lemmas.List.{length-set}
use Rattle.std.proofs.lemmas.Bool.{ltb-true}
use Rattle.yard.specs.declared.batch.Step.{Step}
use Rattle.yard.specs.declared.run.LaneRow.{LaneRow}
use Rattle.yard.specs.Moves.{writes}
use Rattle.yard.specs.Rules.{Rules}
use Rattle.yard.specs.Runs.{End, done, failed}
use Rattle.books.specs.Scripts.{Script, State, row_of, move_at, step_at, lane_moves, due, due_place, more, onward, over}
use Rattle.books.specs.Steps.{Went, goes, stuck, put, applied}
use Rattle.books.specs.Calls.{turn, turn_went}
use Rattle.books.proofs.Places.{nth_set_other, put_other, put_long}
use Rattle.books.proofs.Naming.{Writes}
use Rattle.books.proofs.Near.{Long, applied_long, Still, applied_still}
use Rattle.books.proofs.SetBack.{set_back_still, set_back_long}
use Rattle.books.proofs.Opened.{Opened}
use Rattle.books.proofs.Rows.{RowOk, move_at_lem, spares_it}

-- lengths, what is saved for other steps, and how other moves ended
module _ {V : Type 0} (R : Rules V) (S : Script) (row : LaneRow) (st : State V) where
  abbrev here : Step
  here = step_at S (due_place S row)

  abbrev went : Went V
  went = applied R st.values here

  went_long : (w : Went V) → Long R (length st.values) w → length (turn_went R S st row w).values ≡ length st.values
  went_long (goes ws) h = h
  went_long (stuck n) h = set_back_long R S.steps st.saved (move_at S (due S row)).first row.taken st.values

  pub turn_long : length (turn R S st row).values ≡ length st.values
  turn_long = went_long went (applied_long R st.values here)

  went_saved : (P : List V → Type 0) → P st.saved → P (put st.saved (due_place S row) (slice_get st.values here.cell)) →
      (w : Went V) → P (turn_went R S st row w).saved
  went_saved P p q (goes ws) =
      elim (writes R here) as (λ b. P (cond b (put st.saved (due_place S row) (slice_get st.values here.cell)) st.saved)) [ true ↦ q | false ↦ p ]
  went_saved P p q (stuck n) = p

  pub turn_saved_long : length (turn R S st row).saved ≡ length st.saved
  turn_saved_long = went_saved (λ xs. length xs ≡ length st.saved) refl (put_long st.saved (due_place S row) (slice_get st.values here.cell)) went

  pub turn_saved : (i : ℕ) → i ≢ due_place S row → slice_get (turn R S st row).saved i ≡ slice_get st.saved i
  turn_saved i ne = went_saved (λ xs. slice_get xs i ≡ slice_get st.saved i) refl (put_other st.saved (due_place S row) i (slice_get st.values here.cell) ne) went

  went_ends : (P : List End → Type 0) → P st.ends → ((e : End) → P (set st.ends (due S row) e)) → (w : Went V) → P (turn_went R S st row w).ends
  went_ends P p q (goes ws) = elim (more S row) as (λ b. P (cond b st.ends (set st.ends (due S row) done))) [ true ↦ p | false ↦ q done ]
  went_ends P p q (stuck n) = q (failed (row.taken + 1) n)

  pub turn_ends_long : length (turn R S st row).ends ≡ length st.ends
  turn_ends_long = went_ends (λ es. length es ≡ length st.ends) refl (length-set st.ends (due S row)) went

  pub turn_told : (m : ℕ) → m ≢ due S row → slice_get (turn R S st row).ends m ≡ slice_get st.ends m
  turn_told m ne = went_ends (λ es. slice_get es m ≡ slice_get st.ends m) refl (λ e. nth_set_other st.ends (due S row) m e ne) went

module _ {V : Type 0} {R : Rules V} {S : Script} {start : State V} (o : Opened R S start)
    (a : ℕ) (la : a ≤ S.numbers.queues) (row : LaneRow) (ok : RowOk S (row_of start a) row) (l : row.next < row.end) (st : State V) where
  -- a cell that the lane does not write
  module _ (x : ℕ) (free : Writes R S (lane_moves S start a) x → ⊥) where
    went_still : (w : Went V) → Still R x st.values w → slice_get (turn_went R S st row w).values x ≡ slice_get st.values x
    went_still (goes ws) h = h
    went_still (stuck n) h =
        set_back_still R S.steps x st.saved (move_at S (due S row)).first row.taken (λ j h. spares_it o a la row ok l j (omega arith) x free) st.values

    pub turn_still : slice_get (turn R S st row).values x ≡ slice_get st.values x
    turn_still =
        let s = step_at S (due_place S row) in
        went_still (applied R st.values s) (applied_still R o.looks x st.values s (spares_it o a la row ok l row.taken (omega arith) x free))

  -- the lane's row
  over_ok : RowOk S (row_of start a) (over row)
  over_ok =
      let e = ok.same_end in
      let f = ok.from in
      record {
        same_end = ok.same_end;
        from = omega arith;
        upto = omega arith;
        inside = λ h. let p = o.has_step (due S (over row)) (move_at_lem o a la (row.next + 1) (omega arith) (omega arith)) in omega arith;
        done = λ _. refl;
      }

  went_ok : (w : Went V) → RowOk S (row_of start a) (turn_went R S st row w).row
  went_ok (goes ws) = past_ok (more S row) refl
    where
      past_ok : (t : Bool) → more S row ≡ t → RowOk S (row_of start a) (cond t (onward row) (over row))
      past_ok true e = record {
        same_end = ok.same_end;
        from = ok.from;
        upto = ok.upto;
        inside = λ _. ltb-true (row.taken + 1) (move_at S (due S row)).count e;
        done = λ h. absurd (omega arith);
      }
      past_ok false e = over_ok
  went_ok (stuck n) = over_ok

  pub turn_ok : RowOk S (row_of start a) (turn R S st row).row
  turn_ok = went_ok (applied R st.values (step_at S (due_place S row)))
