-- The steps accepted and the moves done and failed, as the lists have them, over one accepted step.
use Rattle.std.proofs.Common.{◌≡◌, ℕ, zero, suc, ◌+◌, ◌<◌, ◌≤◌, Bool, true, false, cond, ◌≢◌, List, length, get_or, set, Some, Option, sym, refl, ap, ◌∙◌, subst, inl, inr, arith}
use Rattle.std.proofs.lemmas.List.{get_or-set_same, get_or-set_other}
use Rattle.std.proofs.lemmas.Bool.{ltb-false, cases_eq}
use Rattle.yard.specs.declared.run.LaneRow.{LaneRow}
use Rattle.yard.specs.Rules.{Rules}
use Rattle.yard.specs.Runs.{End, not_ended, done, failed, Reply, passes, ends}
use Rattle.books.specs.Scripts.{Script, State, state, no_row, row_of, move_at, step_at, lane_moves, due, due_place, more, onward, over}
use Rattle.books.specs.Steps.{Went, goes, stuck, applied}
use Rattle.books.specs.Tallies.{sum_to, accepted_of, one_done, one_failed, accepted_in, done_in, failed_in, taken_in}
use Rattle.books.specs.Calls.{turn, turn_went, turned}
use Rattle.books.specs.Law.{In, accepts, tells_done, tells_failed, such}
use Rattle.books.proofs.Opened.{Opened}
use Rattle.books.proofs.Rows.{RowOk, parted, lane_at_lem, one_place, due_there, due_in}
use Rattle.books.proofs.Tracking.{Kept}

-- sums that are the same, that are 0, and that differ at one place
sum_same : (n : ℕ) (f g : ℕ → ℕ) → ((j : ℕ) → j < n → g j ≡ f j) → sum_to n g ≡ sum_to n f
sum_same zero f g h = refl
sum_same (suc n) f g h = let a = sum_same n f g (λ j l. h j (omega arith)) in let b = h n (omega arith) in omega arith

pub sum_none : (n : ℕ) (f : ℕ → ℕ) → ((j : ℕ) → j < n → f j ≡ 0) → sum_to n f ≡ 0
sum_none zero f h = refl
sum_none (suc n) f h = let a = sum_none n f (λ j l. h j (omega arith)) in let b = h n (omega arith) in omega arith

sum_one : (n : ℕ) (f g : ℕ → ℕ) (k : ℕ) → k < n → ((j : ℕ) → j ≢ k → g j ≡ f j) → sum_to n g + f k ≡ sum_to n f + g k
sum_one zero f g k l h = absurd (omega arith)
sum_one (suc n) f g k l h =
    elim (cases_eq k n) [
      | inl e ↦ let a = sum_same n f g (λ j i. h j (λ q. (omega arith))) in let b = ap f e in let c = ap g e in omega arith
      | inr ne ↦ let a = sum_one n f g k (omega arith) h in let b = h n (λ q. ne (sym q)) in omega arith
    ]

-- the moves of a row that it has not reached have not ended
abbrev pub Waits : Script → List End → LaneRow → Type 0
Waits S es row = (j : ℕ) → row.next ≤ j → j < row.end → get_or es (get_or S.line_up j 0) not_ended ≡ not_ended

-- so many steps accepted and moves done and failed
pub record Counts {V : Type 0} (S : Script) (st : State V) (a d f : ℕ) : Type 0 where
  pub waiting : (b : ℕ) → b ≤ S.numbers.queues → Waits S st.ends (row_of st b)
  pub accepted : a ≡ accepted_in S.moves st.ends S.numbers.moves + taken_in st.lanes (suc S.numbers.queues)
  pub done : d ≡ done_in st.ends S.numbers.moves
  pub failed : f ≡ failed_in st.ends S.numbers.moves

-- the same with one more reply
abbrev pub CountsOn : {V : Type 0} → Script → State V → ℕ → ℕ → ℕ → Option (Reply V) → Type 0
CountsOn S st a d f r = Counts S st (cond (such accepts r) (suc a) a) (cond (such tells_done r) (suc d) d) (cond (such tells_failed r) (suc f) f)

-- an accepted step of lane b
module _ {V : Type 0} {R : Rules V} {S : Script} {start : State V} (o : Opened R S start)
    (st : State V) (k : Kept S start st) (b : ℕ) (lb : b ≤ S.numbers.queues) (l : (row_of st b).next < (row_of st b).end) (a d f : ℕ) (c : Counts S st a d f) where
  abbrev row : LaneRow
  row = row_of st b

  abbrev it : ℕ
  it = due S row

  abbrev ok : RowOk S (row_of start b) row
  ok = k.rows b lb

  -- the end of its move, in a sum over the moves
  sum_ended : (F : ℕ → End → ℕ) → ((m : ℕ) → F m not_ended ≡ 0) → (e : End) →
      sum_to S.numbers.moves (λ m. F m (get_or (set st.ends it e) m not_ended)) ≡ sum_to S.numbers.moves (λ m. F m (get_or st.ends m not_ended)) + F it e
  sum_ended F z e =
      let inside = due_in o b lb row ok l in
      let there : it < length st.ends = (let m = k.ends_long in let n = o.ends_long in omega arith) in
      let s = sum_one S.numbers.moves (λ m. F m (get_or st.ends m not_ended)) (λ m. F m (get_or (set st.ends it e) m not_ended)) it inside
      (λ m ne. ap (F m) (get_or-set_other st.ends it m e not_ended ne)) in
      let p : F it (get_or st.ends it not_ended) ≡ 0 = ap (F it) (c.waiting b lb row.next (omega arith) l) ∙ z it in
      let q : F it (get_or (set st.ends it e) it not_ended) ≡ F it e = ap (F it) (get_or-set_same st.ends it e not_ended there) in
      omega arith

  -- its row's steps, in the sum over the lanes
  b_there : b < length st.lanes
  b_there = let m = k.lanes_long in let n = o.lanes_long in omega arith

  sum_row : (r : LaneRow) → taken_in (set st.lanes b r) (suc S.numbers.queues) + row.taken ≡ taken_in st.lanes (suc S.numbers.queues) + r.taken
  sum_row r =
      let taken : LaneRow → ℕ = λ x. x.taken in
      let s = sum_one (suc S.numbers.queues) (λ n. (get_or st.lanes n no_row).taken) (λ n. (get_or (set st.lanes b r) n no_row).taken) b (omega arith)
      (λ j ne. ap taken (get_or-set_other st.lanes b j r no_row ne)) in
      let e = ap taken (get_or-set_same st.lanes b r no_row b_there) in
      omega arith

  -- the places not reached, of other lanes and of this one, have other moves
  elsewhere : (n j : ℕ) → n ≤ S.numbers.queues → (row_of st n).next ≤ j → j < (row_of st n).end → n ≢ b → get_or S.line_up j 0 ≢ it
  elsewhere n j ln h g ne e =
      let okn = k.rows n ln in
      let same = okn.same_end in
      let from = okn.from in
      parted o n b it ln lb ne (subst (In (lane_moves S start n)) e (lane_at_lem o n ln j (omega arith) (omega arith))) (due_there o b lb row ok l)

  further : (j : ℕ) → row.next < j → j < row.end → get_or S.line_up j 0 ≢ it
  further j h g e =
      let same = ok.same_end in
      let from = ok.from in
      let i = one_place o b lb j row.next (omega arith) (omega arith) from (omega arith) e in
      omega arith

  waits_on : (r : LaneRow) (es : List End) → Waits S es r → ((m : ℕ) → m ≢ it → get_or es m not_ended ≡ get_or st.ends m not_ended) →
      (n : ℕ) → n ≤ S.numbers.queues → Waits S es (get_or (set st.lanes b r) n no_row)
  waits_on r es own same n ln =
      elim (cases_eq n b) [
        | inl e ↦ subst (λ (x : ℕ). Waits S es (get_or (set st.lanes b r) x no_row)) (sym e)
            (subst (Waits S es) (sym (get_or-set_same st.lanes b r no_row b_there)) own)
        | inr ne ↦ subst (Waits S es) (sym (get_or-set_other st.lanes b n r no_row ne))
            (λ j h g. same (get_or S.line_up j 0) (elsewhere n j ln h g ne) ∙ c.waiting n ln j h g)
      ]

  over_waits : (e : End) (n : ℕ) → n ≤ S.numbers.queues → Waits S (set st.ends it e) (get_or (set st.lanes b (over row)) n no_row)
  over_waits e =
      waits_on (over row) (set st.ends it e)
      (λ j h g. get_or-set_other st.ends it (get_or S.line_up j 0) e not_ended (further j (omega arith) g) ∙ c.waiting b lb j (omega arith) g)
      (λ m ne. get_or-set_other st.ends it m e not_ended ne)

  -- its move ends
  done_is : (e : End) → done_in (set st.ends it e) S.numbers.moves ≡ done_in st.ends S.numbers.moves + one_done e
  done_is = sum_ended (λ m. one_done) (λ m. refl)

  failed_is : (e : End) → failed_in (set st.ends it e) S.numbers.moves ≡ failed_in st.ends S.numbers.moves + one_failed e
  failed_is = sum_ended (λ m. one_failed) (λ m. refl)

  accepted_is : (e : End) → accepted_of (move_at S it).count e ≡ row.taken + 1 →
      suc a ≡ accepted_in S.moves (set st.ends it e) S.numbers.moves + taken_in (set st.lanes b (over row)) (suc S.numbers.queues)
  accepted_is e h =
      let p = c.accepted in
      let q = sum_row (over row) in
      let r = sum_ended (λ m. accepted_of (move_at S m).count) (λ m. refl) e in
      omega arith

  past_counts : (ws saved : List V) (m : Bool) → more S row ≡ m →
      CountsOn S (state ws saved (cond m st.ends (set st.ends it done)) (set st.lanes b (cond m (onward row) (over row)))) a d f
      (Some (cond m passes ends))
  past_counts ws saved true m = record {
    waiting = waits_on (onward row) st.ends (c.waiting b lb) (λ n ne. refl);
    accepted = (let p = c.accepted in let q = sum_row (onward row) in omega arith);
    done = c.done;
    failed = c.failed;
  }
  past_counts ws saved false m = record {
    waiting = over_waits done;
    accepted = accepted_is done (let i = ok.inside l in let j = ltb-false (row.taken + 1) (move_at S it).count m in omega arith);
    done = (let p = c.done in let r = done_is done in omega arith);
    failed = (let p = c.failed in let r = failed_is done in omega arith);
  }

  went_counts : (w : Went V) → CountsOn S (turned st b (turn_went R S st row w)) a d f (Some (turn_went R S st row w).reply)
  went_counts (goes ws) = past_counts ws (turn_went R S st row (goes ws)).saved (more S row) refl
  went_counts (stuck n) = let e = failed (row.taken + 1) n in record {
    waiting = over_waits e;
    accepted = accepted_is e refl;
    done = (let p = c.done in let r = done_is e in omega arith);
    failed = (let p = c.failed in let r = failed_is e in omega arith);
  }

  pub turn_counts : CountsOn S (turned st b (turn R S st row)) a d f (Some (turn R S st row).reply)
  turn_counts = went_counts (applied R st.values (step_at S (due_place S row)))
