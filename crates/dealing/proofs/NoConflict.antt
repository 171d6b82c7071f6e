-- Two moves of different queues never conflict: a cell that both name and one writes is active, so both touch its cluster.
use Rattle.std.proofs.Common.{◌≡◌, ℕ, zero, suc, ◌<◌, Bool, true, false, cond, ◌&&◌, ◌||◌, eqb, ◌≢◌, ◌⊎◌, List, [], ◌∷◌, length, get_or, take, drop, unwrap_or, sym, refl, ap, ◌∙◌, inl, inr, arith}
use Rattle.std.proofs.lemmas.Bool.{eqb-true, eq-eqb}
use Rattle.std.proofs.lemmas.List.FromFn.{get_or-map-range_with_len}
use Rattle.yard.specs.Rules.{Rules}
use Rattle.yard.specs.declared.batch.Step.{Step}
use Rattle.yard.specs.declared.batch.Move.{Move}
use Rattle.yard.specs.Moves.{Conflict, is_in, named, written, names, steps_of}
use Rattle.dealing.specs.Active.{active_flags, active_cells, move_cells, no_move, Within}
use Rattle.dealing.specs.Lanes.{all_at, together, key_of, queue_in, lane_in, lanes_in, dealt, queues_made}
use Rattle.dealing.specs.Stages.{clustered}

pub or_case : (a b : Bool) → (a || b) ≡ true → (a ≡ true) ⊎ (b ≡ true)
or_case true b e = inl refl
or_case false b e = inr e

pub or_left : (a b : Bool) → a ≡ true → (a || b) ≡ true
or_left a b e = rw e

pub or_right : (a b : Bool) → b ≡ true → (a || b) ≡ true
or_right true b e = refl
or_right false b e = e

pub and_left : (a b : Bool) → (a && b) ≡ true → a ≡ true
and_left true b e = refl
and_left false b e = e

pub and_right : (a b : Bool) → (a && b) ≡ true → b ≡ true
and_right true b e = e
and_right false b e = absurd (let z : ◌≡◌ {A = ℕ} 0 1 = cc in omega arith)

-- a step of a part is a step of the whole
pub written-take : {V : Type 0} (R : Rules V) (n : ℕ) (ss : List Step) (c : ℕ) → written R (take n ss) c ≡ true → written R ss c ≡ true
written-take R zero ss c e = absurd (let z : ◌≡◌ {A = ℕ} 0 1 = cc in omega arith)
written-take R (suc n) [] c e = e
written-take R (suc n) (s ∷ ss) c e =
    elim (or_case (R.writes s.order.letter s.order.number && is_in c (names s)) (written R (take n ss) c) e) [
      | inl h ↦ or_left (R.writes s.order.letter s.order.number && is_in c (names s)) (written R ss c) h
      | inr h ↦ or_right (R.writes s.order.letter s.order.number && is_in c (names s)) (written R ss c) (written-take R n ss c h)
    ]

pub written-drop : {V : Type 0} (R : Rules V) (n : ℕ) (ss : List Step) (c : ℕ) → written R (drop n ss) c ≡ true → written R ss c ≡ true
written-drop R zero ss c e = e
written-drop R (suc n) [] c e = e
written-drop R (suc n) (s ∷ ss) c e = or_right (R.writes s.order.letter s.order.number && is_in c (names s)) (written R ss c) (written-drop R n ss c e)

pub written_part : {V : Type 0} (R : Rules V) (steps : List Step) (m : Move) (c : ℕ) → written R (steps_of steps m) c ≡ true → written R steps c ≡ true
written_part R steps m c e = written-drop R m.first steps c (written-take R m.count (drop m.first steps) c e)

pub flag : {V : Type 0} (R : Rules V) (cells : ℕ) (steps : List Step) (c : ℕ) → c < cells → get_or (active_flags R cells steps) c false ≡ written R steps c
unfolding active_flags
flag R cells steps c h = get_or-map-range_with_len (written R steps) 0 cells c c false h (omega arith)

-- a written cell is a cell of some step
pub written_below : {V : Type 0} (R : Rules V) (n : ℕ) (ss : List Step) (c : ℕ) → Within n ss → written R ss c ≡ true → c < n
written_below R n [] c w e = absurd (let z : ◌≡◌ {A = ℕ} 0 1 = cc in omega arith)
written_below R n (s ∷ ss) c w e =
    elim (or_case (R.writes s.order.letter s.order.number && is_in c (names s)) (written R ss c) e) [
      | inl h ↦ elim (or_case (eqb s.cell c) false (and_right (R.writes s.order.letter s.order.number) (is_in c (names s)) h)) [
        | inl q ↦ let p : s.cell ≡ c = eqb-true s.cell c q in let v : s.cell < n = w 0 (omega arith) in omega arith
        | inr q ↦ absurd (let z : ◌≡◌ {A = ℕ} 0 1 = cc in omega arith)
      ]
      | inr h ↦ written_below R n ss c (λ k l. w (suc k) (omega arith)) h
    ]

-- an active cell that the steps name is one of their active cells
pub kept : (act : List Bool) (ss : List Step) (c : ℕ) → named ss c ≡ true → get_or act c false ≡ true → is_in c (active_cells act ss) ≡ true
kept act [] c e a = e
kept act (s ∷ ss) c e a =
    elim (or_case (is_in c (names s)) (named ss c) e) [
      | inl h ↦ elim (or_case (eqb s.cell c) false h) [
        | inl q ↦ let p : s.cell ≡ c = eqb-true s.cell c q in rw (p, a, q' c)
        | inr q ↦ absurd (let z : ◌≡◌ {A = ℕ} 0 1 = cc in omega arith)
      ]
      | inr h ↦ more (get_or act s.cell false) (kept act ss c h a)
    ]
  where
    q' : (x : ℕ) → eqb x x ≡ true
    q' x = eq-eqb x x refl

    more : (b : Bool) → is_in c (active_cells act ss) ≡ true → is_in c (cond b (s.cell ∷ active_cells act ss) (active_cells act ss)) ≡ true
    more true h = or_right (eqb s.cell c) (is_in c (active_cells act ss)) h
    more false h = h

-- a cell of a move that stands in one cluster has that cluster's root
pub all_at_lem : (rs : List ℕ) (r : ℕ) (cs : List ℕ) (c : ℕ) → all_at rs r cs ≡ true → is_in c cs ≡ true → get_or rs c 0 ≡ r
all_at_lem rs r [] c a e = absurd (let z : ◌≡◌ {A = ℕ} 0 1 = cc in omega arith)
all_at_lem rs r (d ∷ cs) c a e =
    elim (or_case (eqb d c) (is_in c cs) e) [
      | inl h ↦ rw (eqb-true d c h) at (eqb-true (get_or rs d 0) r (and_left (eqb (get_or rs d 0) r) (all_at rs r cs) a))
      | inr h ↦ all_at_lem rs r cs c (and_right (eqb (get_or rs d 0) r) (all_at rs r cs) a) h
    ]

pub key_of_lem : (rs cs : List ℕ) (c : ℕ) → together rs cs ≡ true → is_in c cs ≡ true → key_of rs cs ≡ suc (get_or rs c 0)
key_of_lem rs [] c t e = absurd (let z : ◌≡◌ {A = ℕ} 0 1 = cc in omega arith)
key_of_lem rs (d ∷ cs) c t e =
    elim (or_case (eqb d c) (is_in c cs) e) [
      | inl h ↦ ap (λ (x : ℕ). suc (get_or rs x 0)) (eqb-true d c h)
      | inr h ↦ ap (λ (x : ℕ). suc x) (sym (all_at_lem rs (get_or rs d 0) cs c t h))
    ]

in_queue : (t : Bool) (q : ℕ) → cond t q 0 ≢ 0 → t ≡ true
in_queue true q h = refl
in_queue false q h = absurd (h refl)

-- two moves of queues that share an active cell are of one queue
pub one_queue : (rs made xs ys : List ℕ) (c : ℕ) → is_in c xs ≡ true → is_in c ys ≡ true → lane_in rs made xs ≢ 0 → lane_in rs made ys ≢ 0 → lane_in rs made xs ≡ lane_in rs made ys
one_queue rs made xs ys c a b p q =
    let t : together rs xs ≡ true = in_queue (together rs xs) (unwrap_or (queue_in made (key_of rs xs)) 0) p in
    let u : together rs ys ≡ true = in_queue (together rs ys) (unwrap_or (queue_in made (key_of rs ys)) 0) q in
    rw (t, u, key_of_lem rs xs c t a, key_of_lem rs ys c u b)

pub lane_at_lem : (rs made : List ℕ) (css : List (List ℕ)) (m : ℕ) → m < length css → get_or (lanes_in rs made css) m 0 ≡ lane_in rs made (get_or css m [])
lane_at_lem rs made [] m h = absurd (omega arith)
lane_at_lem rs made (cs ∷ css) zero h = refl
lane_at_lem rs made (cs ∷ css) (suc m) h = lane_at_lem rs made css m (omega arith)

pub cells_at : (act : List Bool) (steps : List Step) (ms : List Move) (m : ℕ) → m < length ms → get_or (move_cells act steps ms) m [] ≡ active_cells act (steps_of steps (get_or ms m no_move))
cells_at act steps [] m h = absurd (omega arith)
cells_at act steps (x ∷ ms) zero h = refl
cells_at act steps (x ∷ ms) (suc m) h = cells_at act steps ms m (omega arith)

pub length_cells : (act : List Bool) (steps : List Step) (ms : List Move) → length (move_cells act steps ms) ≡ length ms
length_cells act steps [] = refl
length_cells act steps (x ∷ ms) = ap (λ (n : ℕ). suc n) (length_cells act steps ms)

module _ {V : Type 0} (R : Rules V) (cells share : ℕ) (steps : List Step) (moves : List Move) (choices : List ℕ) (within : Within cells steps) where
  abbrev act : List Bool
  act = active_flags R cells steps

  abbrev css : List (List ℕ)
  css = move_cells act steps moves

  abbrev rs : List ℕ
  rs = clustered cells share css choices

  abbrev made : List ℕ
  made = queues_made rs css []

  abbrev cells_of : ℕ → List ℕ
  cells_of m = active_cells act (steps_of steps (get_or moves m no_move))

  pub lane_is : (m : ℕ) → m < length moves → get_or (dealt R cells share steps moves choices).lanes m 0 ≡ lane_in rs made (cells_of m)
  unfolding dealt
  lane_is m h = lane_at_lem rs made css m (omega (arith, length_cells act steps moves)) ∙ ap (lane_in rs made) (cells_at act steps moves m h)

  pub never : (m n : ℕ) → m < length moves → n < length moves →
      get_or (dealt R cells share steps moves choices).lanes m 0 ≢ 0 → get_or (dealt R cells share steps moves choices).lanes n 0 ≢ 0 →
      get_or (dealt R cells share steps moves choices).lanes m 0 ≢ get_or (dealt R cells share steps moves choices).lanes n 0 →
      Conflict R (steps_of steps (get_or moves m no_move)) (steps_of steps (get_or moves n no_move)) → ⊥
  never m n hm hn p q r k =
      let a = steps_of steps (get_or moves m no_move) in
      let b = steps_of steps (get_or moves n no_move) in
      let w : written R steps k.cell ≡ true =
      elim (or_case (written R a k.cell) (written R b k.cell) k.writes_it)
      [ inl h ↦ written_part R steps (get_or moves m no_move) k.cell h | inr h ↦ written_part R steps (get_or moves n no_move) k.cell h ] in
      let f : get_or act k.cell false ≡ true = flag R cells steps k.cell (written_below R cells steps k.cell within w) ∙ w in
      let s = one_queue rs made (cells_of m) (cells_of n) k.cell (kept act a k.cell k.one f) (kept act b k.cell k.other f)
      (rw (lane_is m hm) at p) (rw (lane_is n hn) at q) in
      r (lane_is m hm ∙ s ∙ sym (lane_is n hn))
