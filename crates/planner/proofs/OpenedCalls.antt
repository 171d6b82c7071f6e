-- The step calls of a run that was opened.
use Rattle.std.proofs.Common.{◌≡◌, ℕ, zero, suc, ◌+◌, ◌≤◌, true, List, [], ◌∷◌, ◌++◌, length, get_or, drop, replicate, sym, refl, ap, ◌∙◌, subst, inl, inr, arith}
use Rattle.std.specs.List.{range_with_len}
use Rattle.std.proofs.lemmas.List.{get_or_past, length-append, length-drop, length-replicate, length-take-le}
use Rattle.std.proofs.lemmas.List.Sums.{sum_by-cons, sum_by-append, sum_by-le}
use Rattle.std.proofs.lemmas.Bool.{cases_lt, and_parts}
use Rattle.yard.specs.declared.batch.Move.{Move}
use Rattle.yard.specs.declared.batch.Step.{Step}
use Rattle.yard.specs.declared.run.Call.{Call}
use Rattle.yard.specs.declared.run.Call.TheVariants.{Step as StepOn}
use Rattle.yard.specs.declared.run.LaneRow.{LaneRow}
use Rattle.yard.specs.declared.run.Outcome.{Outcome}
use Rattle.yard.specs.Batches.{Listed}
use Rattle.yard.specs.Fronts.{laid}
use Rattle.yard.specs.Moves.{steps_of}
use Rattle.yard.specs.Rules.{Rules}
use Rattle.yard.specs.Runs.{Numbers, End}
use Rattle.dealing.specs.Active.{no_move, Inside}
use Rattle.dealing.specs.Examining.{AllBelow}
use Rattle.dealing.specs.Lanes.{Dealt, dealing, lined, line_up_of, lane_moves as dealt_moves, row_of as dealt_row, lane_rows}
use Rattle.dealing.specs.Opening.{Lists, lists, begins_at, end_to_end, roomy, refusal, numbers_of, AsOpened}
use Rattle.dealing.proofs.Checked.{Accepted, accepted, shape_of, begins, end_inside}
use Rattle.dealing.proofs.StandsOnce.{stands_once}
use Rattle.books.specs.Scripts.{no_row, part, script, state}
use Rattle.books.specs.Books.{steps_in}
use Rattle.books.specs.Through.{calls_through, all_through}
use Rattle.books.proofs.Opens.{Left, left}
use Rattle.books.proofs.Places.{in_at}
use Rattle.books.proofs.Shown.{places_in, row_within, row_shows, rows_long, row_at, lanes_long}
use Rattle.planner.specs.Calling.{counts_in, moves_in, lane_calls, step_calls_of, Callable, CallsOfOpened}

-- moves within the steps have as many steps as they count
module _ {V : Type 0} (n : Numbers) (moves : List Move) (steps : List Step) (line_up : List ℕ) (lanes : List LaneRow)
    (values saved : List V) (ends : List End) (inside : Inside steps moves) where
  steps_long : (m : ℕ) → (get_or moves m no_move).count ≡ length (steps_of steps (get_or moves m no_move))
  steps_long m =
      elim (cases_lt m (length moves)) [
        | inl h ↦ sym (length-take-le (get_or moves m no_move).count (drop (get_or moves m no_move).first steps)
            (omega (arith, inside m h, length-drop (get_or moves m no_move).first steps)))
        | inr h ↦ rw (get_or_past moves m no_move h)
      ]

  counts_are : (ms : List ℕ) → counts_in moves ms ≡ steps_in (script n moves steps line_up) ms
  counts_are [] = refl
  counts_are (m ∷ ms) = omega (arith, steps_long m, counts_are ms, sum_by-cons (λ k. (get_or moves k no_move).count) m ms)

  lanes_are : (qs : List ℕ) → lane_calls moves line_up lanes qs ≡ calls_through (script n moves steps line_up) (state values saved ends lanes) qs
  lanes_are [] = refl
  lanes_are (q ∷ qs) =
      ap (λ (k : ℕ). replicate k (StepOn q) ++ lane_calls moves line_up lanes qs) (counts_are (moves_in line_up lanes q))
      ∙ ap (λ (l : List Call). replicate (steps_in (script n moves steps line_up) (moves_in line_up lanes q)) (StepOn q) ++ l) (lanes_are qs)

  pub calls_through_lem : step_calls_of n moves line_up lanes ≡ all_through (script n moves steps line_up) (state values saved ends lanes)
  calls_through_lem = lanes_are (range_with_len 1 n.queues ++ 0 ∷ [])

-- moves end to end have at most 8 steps each
eight : (at : ℕ) (ms : List Move) (end : ℕ) → end_to_end at ms end ≡ true → (k : ℕ) → (get_or ms k no_move).count ≤ 8
eight at [] end e k = omega arith
eight at (m ∷ ms) end e zero = (begins at m (and_parts (begins_at at m) (end_to_end (at + m.count) ms end) e).0).2
eight at (m ∷ ms) end e (suc k) = eight (at + m.count) ms end (and_parts (begins_at at m) (end_to_end (at + m.count) ms end) e).1 k

-- the lists that open fills, laid over what they held before
module _ {V : Type 0} (R : Rules V) (b : Listed) (old : Lists) (count : ℕ) (ok : Accepted R b (roomy old) count) where
  abbrev d : Dealt
  d = dealing R b

  abbrev line : List ℕ
  line = laid (line_up_of d) old.line_up

  abbrev rows : List LaneRow
  rows = laid (lane_rows d) old.lanes

  row_is : (a : ℕ) → a ≤ d.queues → get_or rows a no_row ≡ dealt_row d a
  row_is = row_at d (drop (length (lane_rows d)) old.lanes)

  lane_is : (a : ℕ) → a ≤ d.queues → moves_in line rows a ≡ dealt_moves d a
  lane_is a h = ap (λ (r : LaneRow). part line r.first r.end) (row_is a h) ∙ row_shows d (drop (length (line_up_of d)) old.line_up) a h

  -- each lane has as many calls as the moves dealt to it have steps
  lane_counts : (a : ℕ) (qs : List ℕ) → a ≤ d.queues → length (lane_calls b.moves line rows qs) ≡ counts_in b.moves (lined d.lanes qs) →
      length (lane_calls b.moves line rows (a ∷ qs)) ≡ counts_in b.moves (lined d.lanes (a ∷ qs))
  lane_counts a qs h e =
      let k = counts_in b.moves (moves_in line rows a) in
      omega (
        arith,
        length-append (replicate k (StepOn a)) (lane_calls b.moves line rows qs),
        length-replicate k (StepOn a),
        ap (counts_in b.moves) (lane_is a h),
        sum_by-append (λ k. (get_or b.moves k no_move).count) (dealt_moves d a) (lined d.lanes qs),
      )

  all_counts : (a k : ℕ) → a + k ≤ d.queues + 1 →
      length (lane_calls b.moves line rows (range_with_len a k ++ 0 ∷ [])) ≡ counts_in b.moves (lined d.lanes (range_with_len a k ++ 0 ∷ []))
  all_counts a zero h = lane_counts 0 [] (omega arith) refl
  all_counts a (suc k) h = lane_counts a (range_with_len (a + 1) k ++ 0 ∷ []) (omega arith) (all_counts (a + 1) k (omega arith))

  few_calls : length (step_calls_of (numbers_of b d) b.moves line rows) ≤ 2048
  unfolding line_up_of
  few_calls =
      let shape = shape_of b ok.shape in
      omega (
        arith,
        all_counts 1 d.queues (omega arith),
        sum_by-le (λ k. (get_or b.moves k no_move).count) 8 (line_up_of d) (λ k x h. eight 0 b.moves (length b.steps) shape.laid_out (get_or (line_up_of d) k x)),
        (stands_once R b.cells b.share b.steps b.moves b.choices).0,
      )

  only_moves : (a : ℕ) → a ≤ d.queues → AllBelow (length b.moves) (moves_in line rows a)
  only_moves a h = subst (AllBelow (length b.moves)) (sym (lane_is a h)) below
    where
      below : AllBelow (length b.moves) (dealt_moves d a)
      below k l = let w = places_in 0 a d.lanes (get_or (dealt_moves d a) k 0) (in_at (dealt_moves d a) k l) in omega (arith, w.1, w.2, lanes_long R b)

  pub laid_callable : (room : ℕ) → 2048 ≤ room → Callable (numbers_of b d) b.moves line rows room
  laid_callable room h = record {
    lanes_long = omega (arith, rows_long d, length-append (lane_rows d) (drop (length (lane_rows d)) old.lanes));
    forward = λ a l. subst (λ (r : LaneRow). r.first ≤ r.end) (sym (row_is a l)) (omega arith);
    within = λ a l. subst (λ (r : LaneRow). r.end ≤ length line) (sym (row_is a l))
        (omega (arith, row_within d a l, length-append (line_up_of d) (drop (length (line_up_of d)) old.line_up)));
    only_moves = only_moves;
    few = omega (arith, few_calls);
  }

module _ {V : Type 0} (R : Rules V) (b : Listed) (count : ℕ) (n : Numbers) (line_up : List ℕ) (lanes : List LaneRow) (outcomes : List Outcome) where
  opened_left : (w : AsOpened R b count n line_up lanes outcomes) →
      Left (refusal R b (roomy w.before) count) b (dealing R b) w.before n (lists line_up lanes outcomes w.parents w.marks w.pairs)
  opened_left w =
      left (refusal R b (roomy w.before) count) b (dealing R b) w.before n (lists line_up lanes outcomes w.parents w.marks w.pairs) w.opens

  pub callable : (room : ℕ) → AsOpened R b count n line_up lanes outcomes → 2048 ≤ room → Callable n b.moves line_up lanes room
  callable room w h =
      let l = opened_left w in
      let From : Numbers → Lists → Type 0 = λ k x. Callable k b.moves x.line_up x.lanes room in
      subst (λ (k : Numbers). From k (lists line_up lanes outcomes w.parents w.marks w.pairs)) (sym l.numbers)
      (subst (From (numbers_of b (dealing R b))) (sym l.lists) (laid_callable R b w.before count (accepted R b (roomy w.before) count l.not_refused) room h))

  pub calls_are_all : (values saved : List V) (ends : List End) → AsOpened R b count n line_up lanes outcomes →
      step_calls_of n b.moves line_up lanes ≡ all_through (script n b.moves b.steps line_up) (state values saved ends lanes)
  calls_are_all values saved ends w =
      let ok = accepted R b (roomy w.before) count (opened_left w).not_refused in
      calls_through_lem n b.moves b.steps line_up lanes values saved ends (λ k h. end_inside 0 b.moves (length b.steps) k (shape_of b ok.shape).laid_out h)

pub calls_of_opened : {V : Type 0} (R : Rules V) → CallsOfOpened R
calls_of_opened R = record { callable = callable R; calls_are_all = calls_are_all R }
