-- What the line-up and the rows that a dealing leaves show of its lanes.
use Rattle.std.proofs.Common.{◌≡◌, ℕ, zero, suc, ◌+◌, ◌-◌, ◌<◌, ◌≤◌, cond, eqb, List, [], ◌∷◌, ◌++◌, length, get_or, sym, refl, ap, ◌∙◌, inl, inr, append_assoc, arith}
use Rattle.std.specs.List.{range_with_len}
use Rattle.std.proofs.lemmas.Bool.{eqb-true, cases_Bool}
use Rattle.std.proofs.lemmas.List.{append-nil, take_at, drop_at, length-append, get_or_append_left}
use Rattle.std.proofs.lemmas.List.FromFn.{get_or-map-range_with_len, length-map-range_with_len}
use Rattle.yard.specs.declared.run.LaneRow.{LaneRow}
use Rattle.yard.specs.Batches.{Listed}
use Rattle.yard.specs.Rules.{Rules}
use Rattle.dealing.specs.Active.{active_flags, move_cells}
use Rattle.dealing.specs.Stages.{clustered}
use Rattle.dealing.specs.Lanes.{Dealt, dealt, dealing, queues_made, places_from, lined, line_up_of, lane_moves, start_of, row_of, lane_rows}
use Rattle.dealing.specs.Facts.{times}
use Rattle.dealing.proofs.NoConflict.{length_cells, lane_at_lem}
use Rattle.dealing.proofs.StandsOnce.{lined_times, lane_small, length_lanes}
use Rattle.books.specs.Scripts.{part, no_row}
use Rattle.books.specs.Law.{In}
use Rattle.books.proofs.Places.{in_none, in_cases}

-- a place of a lane is a move of that lane
abbrev pub OfLane : ℕ → ℕ → List ℕ → ℕ → Type 0
OfLane k q ls m = (j : ℕ) × (m ≡ k + j) × (j < length ls) × (get_or ls j 0 ≡ q)

of_later : (k q l : ℕ) (ls : List ℕ) (m : ℕ) → OfLane (suc k) q ls m → OfLane k q (l ∷ ls) m
of_later k q l ls m w = (suc w.0, omega (arith, w.1), omega (arith, w.2), w.3)

pub places_in : (k q : ℕ) (ls : List ℕ) (m : ℕ) → In (places_from k q ls) m → OfLane k q ls m
places_in k q [] m e = absurd (in_none m e)
places_in k q (l ∷ ls) m e =
    elim (cases_Bool (eqb l q)) [
      | inl p ↦ elim (in_cases m k (places_from (suc k) q ls) (rw p at e)) [
        | inl r ↦ (0, omega arith, omega arith, eqb-true l q p)
        | inr r ↦ of_later k q l ls m (places_in (suc k) q ls m r)
      ]
      | inr p ↦ of_later k q l ls m (places_in (suc k) q ls m (rw p at e))
    ]

lined-append : (ls xs ys : List ℕ) → lined ls (xs ++ ys) ≡ lined ls xs ++ lined ls ys
lined-append ls [] ys = refl
lined-append ls (x ∷ xs) ys =
    ap (λ (l : List ℕ). places_from 0 x ls ++ l) (lined-append ls xs ys) ∙ sym (append_assoc (places_from 0 x ls) (lined ls xs) (lined ls ys))

counting_split : (a k m : ℕ) → range_with_len a (k + m) ≡ range_with_len a k ++ range_with_len (a + k) m
counting_split a zero m = let p : 0 + m ≡ m = omega arith in let q : a + 0 ≡ a = omega arith in rw (p, q)
counting_split a (suc k) m =
    let p : suc k + m ≡ suc (k + m) = omega arith in
    let q : a + suc k ≡ a + 1 + k = omega arith in
    rw (p, q) (ap (λ (l : List ℕ). a ∷ l) (counting_split (a + 1) k m))

-- the part of the line-up that is a lane's
pub record ItsPart (d : Dealt) (q : ℕ) : Type 0 where
  pub front : List ℕ
  pub back : List ℕ
  pub whole : line_up_of d ≡ front ++ (lane_moves d q ++ back)
  pub starts : start_of d q ≡ length front

module _ (d : Dealt) where
  its_part : (q : ℕ) → q ≤ d.queues → ItsPart d q
  unfolding line_up_of
  its_part zero h = record {
    front = lined d.lanes (range_with_len 1 d.queues);
    back = [];
    whole = lined-append d.lanes (range_with_len 1 d.queues) (0 ∷ []);
    starts = refl;
  }
  its_part (suc k) h =
      let m = d.queues - suc k in
      let after = range_with_len (suc k + 1) m ++ 0 ∷ [] in
      let n : d.queues ≡ k + suc m = omega arith in
      let one : 1 + k ≡ suc k = omega arith in
      let e : range_with_len 1 d.queues ++ 0 ∷ [] ≡ range_with_len 1 k ++ (suc k ∷ after) =
      ap (λ (l : List ℕ). l ++ 0 ∷ []) (ap (range_with_len 1) n ∙ counting_split 1 k (suc m) ∙ ap (λ (x : ℕ). range_with_len 1 k ++ range_with_len x (suc m)) one)
      ∙ append_assoc (range_with_len 1 k) (suc k ∷ range_with_len (suc k + 1) m) (0 ∷ []) in
      record {
        front = lined d.lanes (range_with_len 1 k);
        back = lined d.lanes after;
        whole = ap (lined d.lanes) e ∙ lined-append d.lanes (range_with_len 1 k) (suc k ∷ after);
        starts = refl;
      }

  -- a row's end is in the line-up, and its part of the line-up is the moves of its lane
  pub row_within : (q : ℕ) → q ≤ d.queues → (row_of d q).end ≤ length (line_up_of d)
  row_within q h =
      let p = its_part q h in
      let e = ap length p.whole in
      let a = length-append p.front (lane_moves d q ++ p.back) in
      let b = length-append (lane_moves d q) p.back in
      let s = p.starts in
      omega arith

  cut : (front moves more xs : List ℕ) (n : ℕ) → n ≡ length front → xs ≡ front ++ (moves ++ more) → part xs n (n + length moves) ≡ moves
  cut front moves more xs n s e =
      let l : length front + length moves - length front ≡ length moves = omega arith in
      rw (s, e, l, drop_at front (moves ++ more) (length front) refl) (take_at moves more (length moves) refl)

  pub row_shows : (rest : List ℕ) (q : ℕ) → q ≤ d.queues → part (line_up_of d ++ rest) (row_of d q).first (row_of d q).end ≡ lane_moves d q
  row_shows rest q h =
      let p = its_part q h in
      cut p.front (lane_moves d q) (p.back ++ rest) (line_up_of d ++ rest) (start_of d q) p.starts
      (ap (λ (l : List ℕ). l ++ rest) p.whole ∙ append_assoc p.front (lane_moves d q ++ p.back) rest
      ∙ ap (λ (l : List ℕ). p.front ++ l) (append_assoc (lane_moves d q) p.back rest))

  pub rows_long : length (lane_rows d) ≡ d.queues + 1
  unfolding lane_rows
  rows_long = length-map-range_with_len (row_of d) 0 (d.queues + 1)

  pub row_at : (more : List LaneRow) (q : ℕ) → q ≤ d.queues → get_or (lane_rows d ++ more) q no_row ≡ row_of d q
  unfolding lane_rows
  row_at more q h =
      get_or_append_left (lane_rows d) more no_row q (omega (arith, length-map-range_with_len (row_of d) 0 (d.queues + 1)))
      ∙ get_or-map-range_with_len (row_of d) 0 (d.queues + 1) q q no_row (omega arith) (omega arith)

  -- how often a move stands in a lane
  pub lane_times : (q m : ℕ) → m < length d.lanes → times m (lane_moves d q) ≡ cond (eqb q (get_or d.lanes m 0)) 1 0
  lane_times q m h =
      let e = ap (times m) (append-nil (places_from 0 q d.lanes)) in
      let t = lined_times m d.lanes (q ∷ []) h in
      omega arith

module _ {V : Type 0} (R : Rules V) (b : Listed) where
  pub lanes_long : length (dealing R b).lanes ≡ length b.moves
  unfolding dealt
  lanes_long =
      let css = move_cells (active_flags R b.cells b.steps) b.steps b.moves in
      let rs = clustered b.cells b.share css b.choices in
      length_lanes rs (queues_made rs css []) css ∙ length_cells (active_flags R b.cells b.steps) b.steps b.moves

  pub lane_there : (m : ℕ) → m < length b.moves → get_or (dealing R b).lanes m 0 ≤ (dealing R b).queues
  unfolding dealt
  lane_there m h =
      let css = move_cells (active_flags R b.cells b.steps) b.steps b.moves in
      let rs = clustered b.cells b.share css b.choices in
      let made = queues_made rs css [] in
      rw (lane_at_lem rs made css m (omega (arith, length_cells (active_flags R b.cells b.steps) b.steps b.moves))) (lane_small rs made (get_or css m []))
