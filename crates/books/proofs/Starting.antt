-- The lists at the start of a run, beside its books.
use Rattle.std.proofs.Common.{◌≡◌, ℕ, ◌≤◌, false, sym, refl, ap, ◌∙◌, arith}
use Rattle.std.specs.List.{slice_get}
use Rattle.yard.specs.Rules.{Rules}
use Rattle.books.specs.Scripts.{Script, State, row_of, part, move_at, lane_moves, due}
use Rattle.books.specs.Steps.{set_back}
use Rattle.books.specs.Books.{Book, queue_opens, rest_opens}
use Rattle.books.proofs.Ending.{Full}
use Rattle.books.proofs.Opened.{Opened}
use Rattle.books.proofs.Rows.{move_at_lem, steps_long}
use Rattle.books.proofs.Tracking.{Kept, RowTracks, Invariant}

module _ {V : Type 0} {R : Rules V} {S : Script} {start : State V} (o : Opened R S start) where
  -- each move of a lane has a step
  pub full : (a : ℕ) → a ≤ S.numbers.queues → Full R S (lane_moves S start a)
  full a la m h =
      let l = (o.in_lane a m la h).0 in
      let p = o.has_step m l in
      let q = steps_long o m l in
      omega arith

  start_kept : Kept S start start
  start_kept = record {
    lanes_long = refl;
    saved_long = refl;
    values_long = refl;
    ends_long = refl;
    rows = λ a la. let f = o.fresh a la in record {
      same_end = refl;
      from = omega arith;
      upto = omega arith;
      inside = λ l. let p = o.has_step (due S (row_of start a)) (move_at_lem o a la (row_of start a).next (omega arith) l) in omega arith;
      done = λ _. f.none_taken;
    };
  }

  start_row : (a : ℕ) → a ≤ S.numbers.queues → (b : Book V) → b.left ≡ lane_moves S start a → b.taken ≡ 0 → b.ends ≡ start.ends →
      RowTracks S start a (row_of start a) start.ends b
  start_row a la b l t e = let f = o.fresh a la in record {
    left = l ∙ ap (λ n. part S.line_up n (row_of start a).end) (sym f.at_first);
    took = t ∙ sym f.none_taken;
    ends = λ m _. ap (λ es. slice_get es m) (sym e);
  }

  pub start_invariant : Invariant R S start start (queue_opens S start) (rest_opens R S start) false
  start_invariant = record {
    kept = start_kept;
    queue = λ q h. start_row q h.1 (queue_opens S start q) refl refl refl;
    rest_row = start_row 0 (omega arith) (rest_opens R S start) refl refl refl;
    strange = λ m free. refl;
    phase = record {
      cells = λ q h. let first = (move_at S (due S (row_of start q))).first in record {
        values = λ x n. refl;
        before = λ x n. ap (λ k. slice_get (set_back R S.steps start.saved first k start.values) x) (o.fresh q h.1).none_taken;
      };
      others = λ x free. refl;
      unopened = refl;
    };
  }
