-- From open's own definition: the facts of the lists that it leaves.
use Rattle.std.proofs.Common.{◌≡◌, ℕ, ◌+◌, ◌<◌, ◌≤◌, true, cond, eqb, ◌≢◌, List, map, length, get_or, take, drop, replicate, Some, None, Option, sym, refl, ap, ◌∙◌, subst, inl, inr, arith}
use Rattle.std.proofs.lemmas.List.{take_at, length-append, length-map, length-replicate, get_or_append_left, get_or-map, get_or-replicate}
use Rattle.std.proofs.lemmas.Bool.{eq-eqb, ne_eqb, cases_order}
use Rattle.yard.specs.declared.run.LaneRow.{LaneRow}
use Rattle.yard.specs.declared.run.Outcome.{Outcome}
use Rattle.yard.specs.declared.run.Outcome.TheVariants.{NotEnded}
use Rattle.yard.specs.Batches.{Listed}
use Rattle.yard.specs.Fronts.{laid}
use Rattle.yard.specs.Moves.{Conflict}
use Rattle.yard.specs.Rules.{Rules, Looks}
use Rattle.yard.specs.Runs.{Numbers, not_ended, end_of}
use Rattle.yard.specs.Told.{gives}
use Rattle.dealing.specs.Active.{no_move}
use Rattle.dealing.specs.Facts.{times}
use Rattle.dealing.specs.Lanes.{Dealt, dealing, line_up_of, lane_moves as dealt_moves, row_of as dealt_row, lane_rows}
use Rattle.dealing.specs.Opening.{end_to_end, roomy, refusal}
use Rattle.dealing.specs.Opening.{Lists, lists, Opened as Settled, opened, numbers_of, filled, settled, AsOpened}
use Rattle.dealing.proofs.Checked.{Accepted, accepted, shape_of, known_within}
use Rattle.dealing.proofs.NoConflict.{never}
use Rattle.dealing.proofs.StandsOnce.{stands_once}
use Rattle.books.specs.Scripts.{Script, script, State, state, row_of, part, move_at, move_steps, lane_moves}
use Rattle.books.specs.Law.{In, IsQueue, StandsOnce}
use Rattle.books.proofs.Shown.{places_in, row_within, row_shows, rows_long, row_at, lane_times, lanes_long, lane_there}
use Rattle.books.proofs.EndToEnd.{Lies, lies, after_it}
use Rattle.books.proofs.Opened.{Fresh, Opened}

-- what open left, where it did not refuse
pub record Left (r : Option ℕ) (b : Listed) (d : Dealt) (l : Lists) (n : Numbers) (after : Lists) : Type 0 where
  pub not_refused : r ≡ None
  pub numbers : n ≡ numbers_of b d
  pub lists : after ≡ filled b d l

pub left : (r : Option ℕ) (b : Listed) (d : Dealt) (l : Lists) (n : Numbers) (after : Lists) → settled r b d l ≡ opened (gives n) after → Left r b d l n after
left None b d l n after e =
    let f : Some (numbers_of b d) ≡ Some n = ap (λ (s : Settled). s.answer.value) e in
    record { not_refused = refl; numbers = cc; lists = sym (ap (λ (s : Settled). s.lists) e) }
left (Some k) b d l n after e = absurd (let f : None ≡ Some n = ap (λ (s : Settled). s.answer.value) e in let z : ◌≡◌ {A = ℕ} 0 1 = cc in omega arith)

-- the lists that open fills, laid over what they held before
module _ {V : Type 0} (R : Rules V) (looks : Looks R) (b : Listed) (values saved : List V) (old : Lists) (ok : Accepted R b (roomy old) (length values)) where
  abbrev d : Dealt
  d = dealing R b

  abbrev line : List ℕ
  line = laid (line_up_of d) old.line_up

  abbrev rows : List LaneRow
  rows = laid (lane_rows d) old.lanes

  abbrev outcomes : List Outcome
  outcomes = laid (replicate (length b.moves) NotEnded) old.outcomes

  abbrev S : Script
  S = script (numbers_of b d) b.moves b.steps line

  abbrev start : State V
  start = state values saved (map end_of outcomes) rows

  once : (length (line_up_of d) ≡ length b.moves) × ((m : ℕ) → m < length b.moves → times m (line_up_of d) ≡ 1)
  once = stands_once R b.cells b.share b.steps b.moves b.choices

  line_long : length (line_up_of d) ≡ length b.moves
  line_long = once.0

  laid_out : end_to_end 0 b.moves (length b.steps) ≡ true
  laid_out = (shape_of b ok.shape).laid_out

  move_lies : (m : ℕ) → m < length b.moves → Lies 0 (get_or b.moves m no_move) (length b.steps)
  move_lies = lies 0 b.moves (length b.steps) laid_out

  row_is : (a : ℕ) → a ≤ d.queues → row_of start a ≡ dealt_row d a
  row_is = row_at d (drop (length (lane_rows d)) old.lanes)

  lane_is : (a : ℕ) → a ≤ d.queues → lane_moves S start a ≡ dealt_moves d a
  lane_is a h = ap (λ (r : LaneRow). part line r.first r.end) (row_is a h) ∙ row_shows d (drop (length (line_up_of d)) old.line_up) a h

  fresh_row : (a : ℕ) → a ≤ d.queues → Fresh (length b.moves) (dealt_row d a)
  fresh_row a h = record { at_first = refl; none_taken = refl; from_to = omega arith; within = (let w = row_within d a h in let l = line_long in omega arith) }

  lane_of_lem : (a m : ℕ) → a ≤ d.queues → In (lane_moves S start a) m → (m < length b.moves) × (get_or d.lanes m 0 ≡ a)
  lane_of_lem a m h e =
      let w = places_in 0 a d.lanes m (subst (λ (ms : List ℕ). In ms m) (lane_is a h) e) in
      let j : m ≡ w.0 = omega (arith, w.1) in
      (omega (arith, w.2, lanes_long R b), ap (λ (x : ℕ). get_or d.lanes x 0) j ∙ w.3)

  times_is : (a m : ℕ) → a ≤ d.queues → m < length b.moves → times m (lane_moves S start a) ≡ cond (eqb a (get_or d.lanes m 0)) 1 0
  times_is a m h l = ap (times m) (lane_is a h) ∙ lane_times d a m (omega (arith, lanes_long R b))

  stands : (m : ℕ) → m < length b.moves → StandsOnce (take (length b.moves) line) d.queues (lane_moves S start) m
  stands m h =
      let q = get_or d.lanes m 0 in
      record {
        in_line_up = ap (times m) (take_at (line_up_of d) (drop (length (line_up_of d)) old.line_up) (length b.moves) line_long) ∙ once.1 m h;
        where_it_is = q;
        a_lane = lane_there R b m h;
        once_there = times_is q m (lane_there R b m h) h ∙ ap (λ t. cond t 1 0) (eq-eqb q q refl);
        nowhere_else = λ a l ne. times_is a m l h ∙ ap (λ t. cond t 1 0) (ne_eqb a q ne);
      }

  apart : (q r m n : ℕ) → IsQueue d.queues q → IsQueue d.queues r → q ≢ r →
      In (lane_moves S start q) m → In (lane_moves S start r) n → Conflict R (move_steps S m) (move_steps S n) → ⊥
  apart q r m n iq ir ne hm hn =
      let a = lane_of_lem q m iq.1 hm in
      let c = lane_of_lem r n ir.1 hn in
      let u = iq.0 in
      let v = ir.0 in
      never R b.cells b.share b.steps b.moves b.choices (known_within R b.cells b.steps ok.orders) m n a.0 c.0
      (λ e. omega (arith, a.1)) (λ e. omega (arith, c.1)) (λ e. ne (sym a.1 ∙ e ∙ c.1))

  one_move : (m n i : ℕ) → m < length b.moves → n < length b.moves → (move_at S m).first ≤ i → i < (move_at S m).first + (move_at S m).count →
      (move_at S n).first ≤ i → i < (move_at S n).first + (move_at S n).count → m ≡ n
  one_move m n i hm hn a c e f =
      elim (cases_order m n) [
        | inl g ↦ g
        | inr g ↦ absurd (elim g [
          | inl h ↦ let k = after_it 0 b.moves (length b.steps) laid_out m n h hn in omega arith
          | inr h ↦ let k = after_it 0 b.moves (length b.steps) laid_out n m h hm in omega arith
        ])
      ]

  none_ended : (m : ℕ) → m < length b.moves → get_or (map end_of outcomes) m not_ended ≡ not_ended
  none_ended m h =
      let k = length b.moves in
      let more = drop (length (replicate k NotEnded)) old.outcomes in
      let r = length-replicate k NotEnded in
      let a = length-append (replicate k NotEnded) more in
      get_or-map end_of outcomes m NotEnded not_ended (omega arith)
      ∙ ap end_of (get_or_append_left (replicate k NotEnded) more NotEnded m (omega arith) ∙ get_or-replicate k m NotEnded NotEnded h)

  laid_opened : Opened R S start
  laid_opened = record {
    looks = looks;
    moves_long = omega arith;
    steps_long = omega arith;
    line_up_long = omega (arith, line_long, length-append (line_up_of d) (drop (length (line_up_of d)) old.line_up));
    lanes_long = omega (arith, rows_long d, length-append (lane_rows d) (drop (length (lane_rows d)) old.lanes));
    ends_long =
        (let k = length b.moves in
        let more = drop (length (replicate k NotEnded)) old.outcomes in
        omega (arith, length-map outcomes end_of, length-replicate k NotEnded, length-append (replicate k NotEnded) more));
    values_long = ok.board;
    known = ok.orders;
    has_step = λ m h. (move_lies m h).has_step;
    steps_within = λ m h. (move_lies m h).to;
    one_move = one_move;
    none_ended = none_ended;
    fresh = λ a h. subst (Fresh (length b.moves)) (sym (row_is a h)) (fresh_row a h);
    lane_of = λ m. get_or d.lanes m 0;
    in_lane = lane_of_lem;
    stands_once = stands;
    no_conflict = apart;
  }

pub as_opened : {V : Type 0} (R : Rules V) → Looks R → (b : Listed) (n : Numbers) (line_up : List ℕ) (lanes : List LaneRow) (outcomes : List Outcome) →
    (values saved : List V) → AsOpened R b (length values) n line_up lanes outcomes →
    Opened R (script n b.moves b.steps line_up) (state values saved (map end_of outcomes) lanes)
as_opened {V} R looks b n line_up lanes outs values saved w =
    let d = dealing R b in
    let after = lists line_up lanes outs w.parents w.marks w.pairs in
    let l = left (refusal R b (roomy w.before) (length values)) b d w.before n after w.opens in
    let From : Numbers → Lists → Type 0 = λ k x. Opened R (script k b.moves b.steps x.line_up) (state values saved (map end_of x.outcomes) x.lanes) in
    subst (λ (k : Numbers). From k after) (sym l.numbers)
    (subst (From (numbers_of b d)) (sym l.lists) (laid_opened R looks b values saved w.before (accepted R b (roomy w.before) (length values) l.not_refused)))
