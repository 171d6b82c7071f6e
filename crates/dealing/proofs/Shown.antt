-- What the lists that a dealing filled say of its batch.
use Rattle.std.proofs.Common.{◌≡◌, ℕ, zero, suc, ◌+◌, ◌-◌, ◌<◌, ◌≤◌, true, eqb, List, [], ◌∷◌, ◌++◌, length, get_or, take, drop, sym, refl, ap, ◌∙◌, inl, inr, append_assoc, add-one, arith}
use Rattle.std.specs.List.{range_with_len}
use Rattle.std.proofs.lemmas.Bool.{eqb-true, eq-eqb, cases_eq, cond_both}
use Rattle.std.proofs.lemmas.List.{take_at, drop_at, get_or_append_left}
use Rattle.std.proofs.lemmas.List.FromFn.{get_or-map-range_with_len, length-map-range_with_len}
use Rattle.yard.specs.declared.run.LaneRow.{LaneRow}
use Rattle.yard.specs.Batches.{Listed}
use Rattle.yard.specs.Fronts.{laid}
use Rattle.yard.specs.Moves.{is_in}
use Rattle.yard.specs.Rules.{Rules}
use Rattle.dealing.specs.Active.{active_flags, move_cells, Within}
use Rattle.dealing.specs.Lanes.{Dealt, dealt, dealing, queues_made, lane_moves, lined, line_up_of, places_from, lane_rows, row_from, row_of}
use Rattle.dealing.specs.Stages.{clustered}
use Rattle.dealing.specs.Facts.{shown_by, shown_moves, WellDealt}
use Rattle.dealing.proofs.NoConflict.{or_case, or_right, never, length_cells, lane_at_lem}
use Rattle.dealing.proofs.StandsOnce.{stands_once, length_lanes, lane_small}
use Rattle.dealing.proofs.Lined.{lined_push, lined_more}
use Rattle.dealing.proofs.Made.{First, first}

-- the move m is the one at j, counted from k, and is of lane q
abbrev Placed : ℕ → ℕ → List ℕ → ℕ → Type 0
Placed k q ls m = (j : ℕ) × (m ≡ k + j) × (j < length ls) × (get_or ls j 0 ≡ q)

-- a place of a lane is a move of that lane
places_in : (k q : ℕ) (ls : List ℕ) (m : ℕ) → is_in m (places_from k q ls) ≡ true → Placed k q ls m
places_in k q [] m = λ e. absurd (let z : ◌≡◌ {A = ℕ} 0 1 = cc in omega arith)
places_in k q (l ∷ ls) m =
    let rest = places_from (suc k) q ls in
    let next : is_in m rest ≡ true → Placed k q (l ∷ ls) m =
    λ e. let w = places_in (suc k) q ls m e in (suc w.0, omega (arith, w.1), omega (arith, w.2), w.3) in
    cond_both (eqb l q) (k ∷ rest) rest (λ (xs : List ℕ). is_in m xs ≡ true → Placed k q (l ∷ ls) m)
    (λ p e. elim (or_case (eqb k m) (is_in m rest) e) [ inl r ↦ (0, omega (arith, eqb-true k m r), omega arith, eqb-true l q p) | inr r ↦ next r ])
    (λ p. next)

-- and each move of the lane has its place there
in_places : (k q j : ℕ) (ls : List ℕ) → j < length ls → get_or ls j 0 ≡ q → is_in (k + j) (places_from k q ls) ≡ true
in_places k q j [] h e = absurd (omega arith)
in_places k q zero (l ∷ ls) h e = rw (eq-eqb l q e, eq-eqb k (k + 0) (omega arith))
in_places k q (suc j) (l ∷ ls) h e =
    let rest = places_from (suc k) q ls in
    let next : is_in (k + suc j) rest ≡ true = ap (λ (x : ℕ). is_in x rest) (omega arith) ∙ in_places (suc k) q j ls (omega arith) e in
    cond_both (eqb l q) (k ∷ rest) rest (λ (xs : List ℕ). is_in (k + suc j) xs ≡ true)
    (λ p. or_right (eqb k (k + suc j)) (is_in (k + suc j) rest) next) (λ p. next)

in_some : (m : ℕ) (xs : List ℕ) → is_in m xs ≡ true → 0 < length xs
in_some m [] e = absurd (let z : ◌≡◌ {A = ℕ} 0 1 = cc in omega arith)
in_some m (x ∷ xs) e = omega arith

-- the numbers of a list are at least k; they rise
abbrev From : ℕ → List ℕ → Type 0
From k xs = (i : ℕ) → i < length xs → k ≤ get_or xs i 0

abbrev Rises : List ℕ → Type 0
Rises xs = (i j : ℕ) → i < j → j < length xs → get_or xs i 0 < get_or xs j 0

from_cons : (k : ℕ) (xs : List ℕ) → From (suc k) xs → From k (k ∷ xs)
from_cons k xs from zero h = omega arith
from_cons k xs from (suc i) h = omega (arith, from i (omega arith))

rises_cons : (k : ℕ) (xs : List ℕ) → From (suc k) xs → Rises xs → Rises (k ∷ xs)
rises_cons k xs from rises i zero g h = absurd (omega arith)
rises_cons k xs from rises zero (suc j) g h = omega (arith, from j (omega arith))
rises_cons k xs from rises (suc i) (suc j) g h = rises i j (omega arith) (omega arith)

places_from_lem : (k q : ℕ) (ls : List ℕ) → From k (places_from k q ls)
places_from_lem k q [] = λ i h. absurd (omega arith)
places_from_lem k q (l ∷ ls) =
    let rest = places_from (suc k) q ls in
    let next = places_from_lem (suc k) q ls in
    cond_both (eqb l q) (k ∷ rest) rest (From k) (λ p. from_cons k rest next) (λ p i h. omega (arith, next i h))

places_rise : (k q : ℕ) (ls : List ℕ) → Rises (places_from k q ls)
places_rise k q [] = λ i j g h. absurd (omega arith)
places_rise k q (l ∷ ls) =
    let rest = places_from (suc k) q ls in
    let next = places_rise (suc k) q ls in
    cond_both (eqb l q) (k ∷ rest) rest Rises (λ p. rises_cons k rest (places_from_lem (suc k) q ls) next) (λ p. next)

-- the row of a lane shows the moves of that lane
cut : (front part more xs : List ℕ) → xs ≡ front ++ (part ++ more) → take (length front + length part - length front) (drop (length front) xs) ≡ part
cut front part more xs e =
    let n : length front + length part - length front ≡ length part = omega arith in
    rw (e, n, drop_at front (part ++ more) (length front) refl) (take_at part more (length part) refl)

module _ (d : Dealt) where
  abbrev queued : ℕ → List ℕ
  queued n = lined d.lanes (range_with_len 1 n)

  queue_shows : (rest : List ℕ) (k n : ℕ) → k < n → shown_by (row_of d (suc k)) (queued n ++ rest) ≡ lane_moves d (suc k)
  queue_shows rest k zero h = absurd (omega arith)
  queue_shows rest k (suc n) h =
      let e : queued (suc n) ++ rest ≡ queued n ++ (lane_moves d (suc n) ++ rest) =
      ap (λ (l : List ℕ). l ++ rest) (rw (add-one n) at (lined_more d.lanes n)) ∙ append_assoc (queued n) (lane_moves d (suc n)) rest in
      elim (cases_eq k n) [
        | inl p ↦ cut (queued k) (lane_moves d (suc k)) rest (queued (suc n) ++ rest) (rw p e)
        | inr p ↦ rw e (queue_shows (lane_moves d (suc n) ++ rest) k n (omega arith))
      ]

  line : (rest : List ℕ) → line_up_of d ++ rest ≡ queued d.queues ++ (lane_moves d 0 ++ rest)
  unfolding line_up_of
  line rest = ap (λ (l : List ℕ). l ++ rest) (lined_push d.lanes (range_with_len 1 d.queues) 0) ∙ append_assoc (queued d.queues) (lane_moves d 0) rest

  row_shows : (rest : List ℕ) (q : ℕ) → q ≤ d.queues → shown_by (row_of d q) (line_up_of d ++ rest) ≡ lane_moves d q
  row_shows rest zero h = cut (queued d.queues) (lane_moves d 0) rest (line_up_of d ++ rest) (line rest)
  row_shows rest (suc k) h = rw (line rest) (queue_shows (lane_moves d 0 ++ rest) k d.queues (omega arith))

  lane_shows : (rest : List ℕ) (more : List LaneRow) (q : ℕ) → q ≤ d.queues → shown_moves (line_up_of d ++ rest) (lane_rows d ++ more) q ≡ lane_moves d q
  unfolding lane_rows
  lane_shows rest more q h =
      let e : get_or (lane_rows d ++ more) q (row_from 0 0) ≡ row_of d q =
      get_or_append_left (lane_rows d) more (row_from 0 0) q (omega (arith, length-map-range_with_len (row_of d) 0 (d.queues + 1)))
      ∙ get_or-map-range_with_len (row_of d) 0 (d.queues + 1) q q (row_from 0 0) (omega arith) (omega arith) in
      ap (λ (r : LaneRow). shown_by r (line_up_of d ++ rest)) e ∙ row_shows rest q h

module _ {V : Type 0} (R : Rules V) (b : Listed) where
  abbrev D : Dealt
  D = dealing R b

  abbrev count : ℕ
  count = length b.moves

  abbrev css : List (List ℕ)
  css = move_cells (active_flags R b.cells b.steps) b.steps b.moves

  abbrev rs : List ℕ
  rs = clustered b.cells b.share css b.choices

  css_long : length css ≡ count
  css_long = length_cells (active_flags R b.cells b.steps) b.steps b.moves

  lanes_long : length D.lanes ≡ count
  unfolding dealt
  lanes_long = length_lanes rs (queues_made rs css []) css ∙ css_long

  lane_exists : (m : ℕ) → m < count → get_or D.lanes m 0 ≤ D.queues
  unfolding dealt
  lane_exists m h = rw (lane_at_lem rs (queues_made rs css []) css m (omega (arith, css_long))) (lane_small rs (queues_made rs css []) (get_or css m []))

  first_of : (p : ℕ) → 0 < p → p ≤ D.queues → First D.lanes p
  unfolding dealt
  first_of = first rs [] css

  module _ (old_line : List ℕ) (old_lanes : List LaneRow) where
    abbrev shown : ℕ → List ℕ
    shown q = shown_moves (laid (line_up_of D) old_line) (laid (lane_rows D) old_lanes) q

    shows : (q : ℕ) → q ≤ D.queues → shown q ≡ lane_moves D q
    shows = lane_shows D (drop (length (line_up_of D)) old_line) (drop (length (lane_rows D)) old_lanes)

    in_lane : (q m : ℕ) → q ≤ D.queues → is_in m (shown q) ≡ true → (m < count) × (get_or D.lanes m 0 ≡ q)
    in_lane q m h e =
        let w = places_in 0 q D.lanes m (ap (is_in m) (sym (shows q h)) ∙ e) in
        let j : m ≡ w.0 = omega (arith, w.1) in
        (omega (arith, w.2, lanes_long), ap (λ (x : ℕ). get_or D.lanes x 0) j ∙ w.3)

    of_lane : (q m : ℕ) → q ≤ D.queues → m < count → get_or D.lanes m 0 ≡ q → is_in m (shown q) ≡ true
    of_lane q m h k e = ap (is_in m) (shows q h) ∙ ap (λ (x : ℕ). is_in x (lane_moves D q)) (omega arith) ∙ in_places 0 q m D.lanes (omega (arith, lanes_long)) e

    of_queue : (p : ℕ) (h : 0 < p) (k : p ≤ D.queues) → is_in (first_of p h k).move (shown p) ≡ true
    of_queue p h k = of_lane p (first_of p h k).move k (omega (arith, (first_of p h k).within, lanes_long)) (first_of p h k).lane

    pub well_dealt : Within b.cells b.steps → WellDealt R b D.queues (laid (line_up_of D) old_line) (laid (lane_rows D) old_lanes)
    well_dealt within =
        let once = stands_once R b.cells b.share b.steps b.moves b.choices in
        record {
          stands_once = λ m h. rw (take_at (line_up_of D) (drop (length (line_up_of D)) old_line) count once.0) (once.1 m h);
          only_moves = λ m q h e. (in_lane q m h e).0;
          some_lane = λ m h. (get_or D.lanes m 0, lane_exists m h, of_lane (get_or D.lanes m 0) m (lane_exists m h) h refl);
          one_lane = λ m p q hp hq ep eq. sym (in_lane p m hp ep).1 ∙ (in_lane q m hq eq).1;
          batch_order = λ q i j h. rw (shows q h) (places_rise 0 q D.lanes i j);
          no_empty_queue = λ q h k. in_some (first_of q h k).move (shown q) (of_queue q h k);
          order_of_making = λ p q n hp l hq e.
              let k : p ≤ D.queues = omega arith in
              ((first_of p hp k).move, (first_of p hp k).before n (omega (arith, (in_lane q n hq e).1)), of_queue p hp k);
          never_conflict = λ p q m n hp kp hq kq ne em en.
              let x = in_lane p m kp em in
              let y = in_lane q n kq en in
              never R b.cells b.share b.steps b.moves b.choices within m n x.0 y.0
              (λ e. omega (arith, x.1)) (λ e. omega (arith, y.1)) (λ e. ne (sym x.1 ∙ e ∙ y.1));
        }
