-- The lanes of an opened run: what their moves are, and what their rows have due.
use Rattle.std.proofs.Common.{◌≡◌, ℕ, ◌+◌, ◌-◌, ◌<◌, ◌≤◌, true, ◌≢◌, List, ◌∷◌, length, get_or, drop, sym, ap, ◌∙◌, subst, inl, inr, arith}
use Rattle.std.proofs.lemmas.List.{length-take, length-drop, get_or-take, get_or-drop}
use Rattle.std.proofs.lemmas.Bool.{cases_eq, or_right}
use Rattle.yard.specs.declared.batch.Step.{Step}
use Rattle.yard.specs.declared.run.LaneRow.{LaneRow}
use Rattle.yard.specs.Moves.{named, written}
use Rattle.yard.specs.Rules.{Rules}
use Rattle.dealing.specs.Active.{no_step}
use Rattle.dealing.specs.Facts.{times}
use Rattle.books.specs.Scripts.{Script, State, row_of, part, move_at, step_at, move_steps, lane_moves, due}
use Rattle.books.specs.Books.{lane_cells}
use Rattle.books.specs.Law.{In}
use Rattle.books.proofs.Places.{length_part, get_d_part, part_more, in_at, once_at}
use Rattle.books.proofs.Naming.{Writes, named_at, written_at, written_named, in_cells, from_cells}
use Rattle.books.proofs.Near.{Spares}
use Rattle.books.proofs.Opened.{Queue, Opened}

module _ {V : Type 0} {R : Rules V} {S : Script} {start : State V} (o : Opened R S start) where
  -- no move is of two lanes
  pub parted : (a b m : ℕ) → a ≤ S.numbers.queues → b ≤ S.numbers.queues → a ≢ b → In (lane_moves S start a) m → In (lane_moves S start b) m → ⊥
  parted a b m la lb ne ha hb = ne (sym (o.in_lane a m la ha).1 ∙ (o.in_lane b m lb hb).1)

  -- no queue names a cell that another writes
  pub apart : (q r x : ℕ) → Queue S q → Queue S r → q ≢ r → In (lane_cells S start q) x → Writes R S (lane_moves S start r) x → ⊥
  apart q r x iq ir ne c w =
      let p = from_cells S (lane_moves S start q) x c in
      o.no_conflict q r p.0 w.0 iq ir ne p.1 w.1 (record {
        cell = x;
        one = p.2;
        other = written_named R (move_steps S w.0) x w.2;
        writes_it = or_right (written R (move_steps S p.0) x) (written R (move_steps S w.0) x) w.2;
      })

  -- the steps of a move
  pub steps_long : (m : ℕ) → m < S.numbers.moves → length (move_steps S m) ≡ (move_at S m).count
  steps_long m h =
      let p = o.steps_within m h in
      let q = o.steps_long in
      let a = length-take (move_at S m).count (drop (move_at S m).first S.steps) in
      let b = length-drop (move_at S m).first S.steps in
      omega arith

  pub steps_at : (m k : ℕ) → k < (move_at S m).count → get_or (move_steps S m) k no_step ≡ step_at S ((move_at S m).first + k)
  steps_at m k l = get_or-take (move_at S m).count (drop (move_at S m).first S.steps) k no_step l ∙ get_or-drop (move_at S m).first S.steps k no_step

  module _ (a : ℕ) (la : a ≤ S.numbers.queues) where
    abbrev home : LaneRow
    home = row_of start a

    abbrev moves : List ℕ
    moves = lane_moves S start a

    -- the moves at the places of the lane's part of the line-up
    part_at : (j : ℕ) → home.first ≤ j → j < home.end → (j - home.first < length moves) × (get_or moves (j - home.first) 0 ≡ get_or S.line_up j 0)
    part_at j f t =
        let fresh = o.fresh a la in
        let long = o.line_up_long in
        let n = length_part S.line_up home.first home.end (omega arith) in
        let e : home.first + (j - home.first) ≡ j = omega arith in
        (omega arith, get_d_part S.line_up home.first home.end (j - home.first) 0 (omega arith) ∙ ap (λ i. get_or S.line_up i 0) e)

    pub lane_at_lem : (j : ℕ) → home.first ≤ j → j < home.end → In moves (get_or S.line_up j 0)
    lane_at_lem j f t = let p = part_at j f t in subst (In moves) p.1 (in_at moves (j - home.first) p.0)

    pub move_at_lem : (j : ℕ) → home.first ≤ j → j < home.end → get_or S.line_up j 0 < S.numbers.moves
    move_at_lem j f t = (o.in_lane a (get_or S.line_up j 0) la (lane_at_lem j f t)).0

    -- a move is at one place of them
    once : (m : ℕ) → m < S.numbers.moves → times m moves ≤ 1
    once m h =
        let s = o.stands_once m h in
        elim (cases_eq a s.where_it_is) [
          | inl e ↦ let t = subst (λ (b : ℕ). times m (lane_moves S start b) ≡ 1) (sym e) s.once_there in omega arith
          | inr n ↦ let t = s.nowhere_else a la n in omega arith
        ]

    pub one_place : (i j : ℕ) → home.first ≤ i → i < home.end → home.first ≤ j → j < home.end → get_or S.line_up i 0 ≡ get_or S.line_up j 0 → i ≡ j
    one_place i j fi ti fj tj e =
        let p = part_at i fi ti in
        let q = part_at j fj tj in
        let t = subst (λ (m : ℕ). times m moves ≤ 1) (sym p.1) (once (get_or S.line_up i 0) (move_at_lem i fi ti)) in
        let s = once_at moves (i - home.first) (j - home.first) p.0 q.0 (p.1 ∙ e ∙ sym q.1) t in
        omega arith

-- a lane's row at any time, beside its row at the start
pub record RowOk (S : Script) (home row : LaneRow) : Type 0 where
  pub same_end : row.end ≡ home.end
  pub from : home.first ≤ row.next
  pub upto : row.next ≤ row.end
  pub inside : row.next < row.end → row.taken < (move_at S (due S row)).count
  pub done : row.end ≤ row.next → row.taken ≡ 0

module _ {V : Type 0} {R : Rules V} {S : Script} {start : State V} (o : Opened R S start)
    (a : ℕ) (la : a ≤ S.numbers.queues) (row : LaneRow) (ok : RowOk S (row_of start a) row) where
  pub row_within : row.end ≤ S.numbers.moves
  row_within = let f = o.fresh a la in let e = ok.same_end in omega arith

  -- a row with a move under way
  module _ (l : row.next < row.end) where
    pub left_more : part S.line_up row.next row.end ≡ due S row ∷ part S.line_up (row.next + 1) row.end
    left_more = part_more S.line_up row.next row.end 0 l (let f = row_within in let g = o.line_up_long in omega arith)

    pub due_there : In (lane_moves S start a) (due S row)
    due_there = let e = ok.same_end in lane_at_lem o a la row.next ok.from (omega arith)

    pub due_in : due S row < S.numbers.moves
    due_in = (o.in_lane a (due S row) la due_there).0

    -- the steps of that move, up to the one due, name and write cells of the lane
    module _ (k : ℕ) (h : k ≤ row.taken) where
      abbrev step : Step
      step = step_at S ((move_at S (due S row)).first + k)

      inside_it : k < length (move_steps S (due S row))
      inside_it = let i = ok.inside l in let n = steps_long o (due S row) due_in in omega arith

      step_is : get_or (move_steps S (due S row)) k no_step ≡ step
      step_is = steps_at o (due S row) k (let i = ok.inside l in omega arith)

      pub names_it : In (lane_cells S start a) step.cell
      names_it =
          in_cells S (lane_moves S start a) (due S row) step.cell due_there
          (subst (λ (s : Step). named (move_steps S (due S row)) s.cell ≡ true) step_is (named_at (move_steps S (due S row)) k inside_it))

      pub spares_it : (x : ℕ) → (Writes R S (lane_moves S start a) x → ⊥) → Spares R x step
      spares_it x free = subst (Spares R x) step_is (λ w c. free (due S row, due_there, written_at R (move_steps S (due S row)) k inside_it x w c))
