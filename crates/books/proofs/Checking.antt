-- The checks of step calls and tallies, where the lists are those that open and the run left.
use Rattle.std.proofs.Common.{◌≡◌, ℕ, zero, suc, ◌+◌, ◌<◌, ◌≤◌, Bool, true, cond, ◌&&◌, eqb, ltb, leb, List, [], ◌∷◌, length, take, drop, Some, None, Option, refl, ap, ◌∙◌, inl, inr, arith}
use Rattle.std.proofs.lemmas.Bool.{lt-ltb, le-ltb, le-leb, lt-leb, eq-eqb, ne_eqb, cases_lt, and_parts, and_from}
use Rattle.yard.specs.declared.batch.Step.{Step}
use Rattle.yard.specs.Moves.{names}
use Rattle.yard.specs.Rules.{Rules}
use Rattle.dealing.specs.Opening.{all_known, all_below}
use Rattle.books.specs.Scripts.{Script, State, row_of, move_at, room_to_save, due}
use Rattle.books.specs.Tallies.{rows_within, tally_fits}
use Rattle.books.specs.Calls.{busy, long_enough, fits, barred}
use Rattle.books.proofs.Opened.{Opened}
use Rattle.books.proofs.Rows.{row_within, due_in}
use Rattle.books.proofs.Tracking.{Kept}

-- what is left of the checks: room to save, a step left, and for lane 0 that no queue is busy
abbrev pub bar : Bool → Bool → Bool → Bool → Option ℕ
bar room step_left is_rest is_busy = cond room (cond step_left (cond (is_rest && is_busy) (Some 21) None) (Some 20)) (Some 18)

-- a part of steps that are all known
module _ {V : Type 0} (R : Rules V) (cells : ℕ) where
  known-take : (n : ℕ) (ss : List Step) → all_known R cells ss ≡ true → all_known R cells (take n ss) ≡ true
  known-take zero ss e = refl
  known-take (suc n) [] e = refl
  known-take (suc n) (s ∷ ss) e =
      let known = R.knows s.order.letter s.order.number && all_below cells (names s) in
      let p = and_parts known (all_known R cells ss) e in
      and_from known (all_known R cells (take n ss)) p.0 (known-take n ss p.1)

  known-drop : (n : ℕ) (ss : List Step) → all_known R cells ss ≡ true → all_known R cells (drop n ss) ≡ true
  known-drop zero ss e = e
  known-drop (suc n) [] e = e
  known-drop (suc n) (s ∷ ss) e = known-drop n ss (and_parts (R.knows s.order.letter s.order.number && all_below cells (names s)) (all_known R cells ss) e).1

module _ {V : Type 0} {R : Rules V} {S : Script} {start : State V} (o : Opened R S start) (st : State V) (k : Kept S start st) where
  long_is : long_enough R S st ≡ room_to_save S start
  long_is =
      rw (
        le-leb S.numbers.moves (length S.moves) o.moves_long,
        le-leb S.numbers.steps (length S.steps) o.steps_long,
        le-leb S.numbers.moves (length S.line_up) o.line_up_long,
        lt-ltb S.numbers.queues (length st.lanes) (omega (arith, o.lanes_long, k.lanes_long)),
        le-leb S.numbers.moves (length st.ends) (omega (arith, o.ends_long, k.ends_long)),
        le-leb S.numbers.cells (length st.values) (omega (arith, o.values_long, k.values_long)),
      )
      (ap (leb S.numbers.steps) k.saved_long)

  fits_is : (a : ℕ) → a ≤ S.numbers.queues → (row_of st a).next < (row_of st a).end → fits R S (row_of st a) ≡ true
  fits_is a la l =
      let row = row_of st a in
      let ok = k.rows a la in
      let m = due_in o a la row ok l in
      rw (
        lt-ltb row.next row.end l,
        le-leb row.end S.numbers.moves (row_within o a la row ok),
        lt-ltb (due S row) S.numbers.moves m,
        le-leb ((move_at S (due S row)).first + (move_at S (due S row)).count) S.numbers.steps (o.steps_within (due S row) m),
        lt-ltb row.taken (move_at S (due S row)).count (ok.inside l),
      )
      (known-take R S.numbers.cells (row.taken + 1) (drop (move_at S (due S row)).first S.steps)
      (known-drop R S.numbers.cells (move_at S (due S row)).first S.steps o.known))

  -- the checks of a step call on a lane
  pub barred_in : (a : ℕ) → a ≤ S.numbers.queues →
      barred R S st a ≡ bar (room_to_save S start) (ltb (row_of st a).next (row_of st a).end) (eqb a 0) (busy st.lanes S.numbers.queues)
  barred_in a la =
      let row = row_of st a in
      elim (cases_lt row.next row.end) [
        | inl l ↦ rw (le-leb a S.numbers.queues la, long_is, ne_eqb row.next row.end (λ e. (omega arith)), fits_is a la l, lt-ltb row.next row.end l)
        | inr g ↦ rw (le-leb a S.numbers.queues la, long_is, eq-eqb row.next row.end (omega (arith, (k.rows a la).upto)), le-ltb row.next row.end g)
      ]

  pub bar_is : (a : ℕ) → a ≤ S.numbers.queues → (t u v w : Bool) → room_to_save S start ≡ t → ltb (row_of st a).next (row_of st a).end ≡ u → eqb a 0 ≡ v →
      busy st.lanes S.numbers.queues ≡ w → barred R S st a ≡ bar t u v w
  bar_is a la t u v w et eu ev ew = barred_in a la ∙ rw (et, eu, ev, ew)

  pub barred_out : (a : ℕ) → S.numbers.queues < a → barred R S st a ≡ Some 19
  barred_out a h = rw (lt-leb a S.numbers.queues h)

  within_is : (n : ℕ) → n ≤ suc S.numbers.queues → rows_within st.lanes n ≡ true
  within_is zero h = refl
  within_is (suc n) h = rw (le-leb (row_of st n).next (row_of st n).end (k.rows n (omega arith)).upto) (within_is n (omega arith))

  pub tally_fits_lem : tally_fits S.numbers S.moves st.lanes st.ends ≡ true
  tally_fits_lem =
      rw (
        le-leb S.numbers.moves (length S.moves) o.moves_long,
        lt-ltb S.numbers.queues (length st.lanes) (omega (arith, o.lanes_long, k.lanes_long)),
        le-leb S.numbers.moves (length st.ends) (omega (arith, o.ends_long, k.ends_long)),
      )
      (within_is (suc S.numbers.queues) (omega arith))
