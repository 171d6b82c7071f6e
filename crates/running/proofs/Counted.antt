-- Sums over the first moves, one more at a time, and rows that are not past their ends.
use Rattle.std.proofs.Common.{◌≡◌, ℕ, zero, suc, ◌+◌, ◌<◌, ◌≤◌, true, ◌&&◌, List, map, length, get_or, take, refl, ap, ◌∙◌, add-one, arith}
use Rattle.std.proofs.Math.Bool.{and_comm, and-true}
use Rattle.std.proofs.Math.Seq.{take-suc}
use Rattle.std.proofs.lemmas.List.Folds.{list_all-append}
use Rattle.std.specs.List.{list_all}
use Rattle.std.proofs.lemmas.List.{get_or-map, get_or-take, length-take-le}
use Rattle.yard.specs.declared.batch.Move.{Move}
use Rattle.yard.specs.declared.run.LaneRow.{LaneRow}
use Rattle.yard.specs.declared.run.Outcome.{Outcome}
use Rattle.yard.specs.declared.run.Outcome.TheVariants.{NotEnded}
use Rattle.yard.specs.Runs.{End, not_ended, end_of}
use Rattle.dealing.specs.Active.{no_move}
use Rattle.books.specs.Scripts.{no_row}
use Rattle.books.specs.Tallies.{sum_to, accepted_of, one_done, one_failed, accepted_in, done_in, failed_in, rows_within}
use Rattle.running.specs.Lanes.{is_within}

sum_more : (n : ℕ) (f : ℕ → ℕ) → sum_to (n + 1) f ≡ sum_to n f + f n
sum_more n f = ap (λ k. sum_to k f) (add-one n)

-- one move more
module _ (outcomes : List Outcome) (m : ℕ) (h : m < length outcomes) where
  ends_more : (f : ℕ → End → ℕ) (o : Outcome) → get_or outcomes m NotEnded ≡ o →
      sum_to (m + 1) (λ k. f k (get_or (map end_of outcomes) k not_ended)) ≡ sum_to m (λ k. f k (get_or (map end_of outcomes) k not_ended)) + f m (end_of o)
  ends_more f o is =
      sum_more m (λ k. f k (get_or (map end_of outcomes) k not_ended))
      ∙ ap (λ (e : End). sum_to m (λ k. f k (get_or (map end_of outcomes) k not_ended)) + f m e) (get_or-map end_of outcomes m NotEnded not_ended h ∙ ap end_of is)

  accepted_more : (moves : List Move) →
      accepted_in moves (map end_of outcomes) (m + 1) ≡ accepted_in moves (map end_of outcomes) m + accepted_of (get_or moves m no_move).count (end_of (get_or outcomes m NotEnded))
  accepted_more moves = ends_more (λ k. accepted_of (get_or moves k no_move).count) (get_or outcomes m NotEnded) refl

  done_more : (o : Outcome) → get_or outcomes m NotEnded ≡ o → done_in (map end_of outcomes) (m + 1) ≡ done_in (map end_of outcomes) m + one_done (end_of o)
  done_more = ends_more (λ k. one_done)

  failed_more : (o : Outcome) → get_or outcomes m NotEnded ≡ o → failed_in (map end_of outcomes) (m + 1) ≡ failed_in (map end_of outcomes) m + one_failed (end_of o)
  failed_more = ends_more (λ k. one_failed)

-- one pair more of the first n moves with their outcomes: `found`, which ended as `o`
pub one_more : (moves : List Move) (outcomes : List Outcome) (n m : ℕ) (found : Move) (o : Outcome) → n ≤ length moves → n ≤ length outcomes →
    (m < length (take n moves)) × (m < length (take n outcomes)) × ((d : Move) → found ≡ get_or (take n moves) m d) × ((d : Outcome) → o ≡ get_or (take n outcomes) m d) →
    (accepted_in moves (map end_of outcomes) (m + 1) ≡ accepted_in moves (map end_of outcomes) m + accepted_of found.count (end_of o))
    × (done_in (map end_of outcomes) (m + 1) ≡ done_in (map end_of outcomes) m + one_done (end_of o))
    × (failed_in (map end_of outcomes) (m + 1) ≡ failed_in (map end_of outcomes) m + one_failed (end_of o))
one_more moves outcomes n m found o long there t =
    let below : m < n = omega (arith, length-take-le n moves) in
    let h : m < length outcomes = omega arith in
    let f = t.2 no_move ∙ get_or-take n moves m no_move below in
    let e = t.3 NotEnded ∙ get_or-take n outcomes m NotEnded below in
    rw (f, e) (accepted_more outcomes m h moves, done_more outcomes m h (get_or outcomes m NotEnded) refl, failed_more outcomes m h (get_or outcomes m NotEnded) refl)

-- the rows from the front
pub all_within : (lanes : List LaneRow) (n : ℕ) → n ≤ length lanes → list_all is_within (take n lanes) ≡ rows_within lanes n
all_within lanes zero h = refl
all_within lanes (suc n) h =
    rw (take-suc lanes n no_row (omega arith), list_all-append, all_within lanes n (omega arith))
    (and_comm (rows_within lanes n) (is_within (get_or lanes n no_row) && true) ∙ ap (λ b. b && rows_within lanes n) (and-true (is_within (get_or lanes n no_row))))
