-- A run that works every lane through leaves no step, and its board and ends are those of every move worked whole.
use Rattle.std.proofs.Common.{◌≡◌, ℕ, zero, suc, ◌+◌, ◌-◌, ◌<◌, ◌≤◌, Bool, true, false, cond, eqb, ◌≢◌, List, [], ◌∷◌, ◌++◌, length, replicate, Some, sym, refl, ap, ◌∙◌, ⊎_elim, arith}
use Rattle.std.specs.List.{slice_get, range_with_len}
use Rattle.std.proofs.lemmas.List.{length-append, length-replicate}
use Rattle.std.proofs.lemmas.Bool.{le-leb, eq-eqb, eqb-true, ne_eqb, cases_eq, cases_lt}
use Rattle.std.proofs.lemmas.Bool.Decides.{nat_tests}
use Rattle.yard.specs.declared.run.Call.{Call}
use Rattle.yard.specs.declared.run.Call.TheVariants.{Step as StepOn}
use Rattle.yard.specs.Rules.{Rules, Looks}
use Rattle.yard.specs.Runs.{Reply, refuses}
use Rattle.dealing.specs.Facts.{times}
use Rattle.dealing.proofs.StandsOnce.{times-append, counting_before, lanes_times}
use Rattle.books.specs.Scripts.{Script, State, row_of, lane_moves, room_to_save}
use Rattle.books.specs.Calls.{reply, after, after_next, stage, Answered}
use Rattle.books.specs.Whole.{stand}
use Rattle.books.specs.Books.{Book, entry, new_book, is_on, calls_on, steps_in, all_at_end, queue_opens, fed_left, fed, feeds, rest_fed, rest_opens, queue_book, rest_next, rest_book}
use Rattle.books.specs.Law.{IsQueue, Order, NoneLeft, begun}
use Rattle.books.specs.Through.{calls_through, all_through, WorkedThrough, WorksThrough}
use Rattle.books.proofs.Places.{times_here, times_tail}
use Rattle.books.proofs.Ending.{new_sound, closed_ends, closed_from}
use Rattle.books.proofs.Orders.{times_other}
use Rattle.books.proofs.Opened.{Queue, Opened}
use Rattle.books.proofs.Tracking.{RowTracks, Invariant, some_left}
use Rattle.books.proofs.Starting.{full}
use Rattle.books.proofs.Running.{invariant}
use Rattle.books.proofs.Serial.{serial}
use Rattle.books.proofs.Opens.{as_opened}

-- the queues by their numbers are an order of them
counting_past : (x a n : ℕ) → a + n ≤ x → times x (range_with_len a n) ≡ 0
counting_past x a zero h = refl
counting_past x a (suc n) h = rw (ne_eqb a x (λ p. omega arith)) (omega (arith, counting_past x (a + 1) n (omega arith)))

pub counting_order : (n : ℕ) → Order n (range_with_len 1 n)
counting_order n = record {
  each_once = λ q h.
      let e : times q (0 ∷ []) ≡ 0 = (let l = h.0 in rw (ne_eqb 0 q (λ p. omega arith))) in
      let t = times-append q (range_with_len 1 n) (0 ∷ []) in
      let o = lanes_times q n h.1 in
      omega arith;
  no_other = λ q h. ⊎_elim
      (λ (l : q < 1). absurd (let e = counting_before q 1 n l in omega arith))
      (λ (l : 1 ≤ q). ⊎_elim
      (λ (g : n < q). absurd (let e = counting_past q 1 n (omega arith) in omega arith))
      (λ (g : q ≤ n). (l, g))
      (cases_lt n q))
      (cases_lt q 1);
}

-- how many calls are on a lane, past the first call and past so many calls on one lane
calls_first : (a : ℕ) (c : Call) (cs : List Call) (i : ℕ) → calls_on a (c ∷ cs) (suc i) ≡ cond (is_on a (Some c)) 1 0 + calls_on a cs i
calls_first a c cs zero = grind (arith, nat_tests)
calls_first a c cs (suc i) = let e = calls_first a c cs i in grind (arith, nat_tests)

calls_past : (a b n i k : ℕ) (cs : List Call) → k ≡ n + i → calls_on a (replicate n (StepOn b) ++ cs) k ≡ cond (eqb b a) n 0 + calls_on a cs i
calls_past a b zero i k cs h = let e : calls_on a cs k ≡ calls_on a cs i = ap (calls_on a cs) (omega arith) in grind (arith, nat_tests)
calls_past a b (suc n) i zero cs h = absurd (omega arith)
calls_past a b (suc n) i (suc k) cs h =
    let e = calls_past a b n i k cs (omega arith) in
    let f = calls_first a (StepOn b) (replicate n (StepOn b) ++ cs) k in
    grind (arith, nat_tests)

-- what stands among so many calls, and past them
nth_among : (c : Call) (n i : ℕ) (cs : List Call) → i < n → slice_get (replicate n c ++ cs) i ≡ Some c
nth_among c zero i cs h = absurd (omega arith)
nth_among c (suc n) zero cs h = refl
nth_among c (suc n) (suc i) cs h = nth_among c n i cs (omega arith)

nth_past_them : (c : Call) (n i k : ℕ) (cs : List Call) → k ≡ n + i → slice_get (replicate n c ++ cs) k ≡ slice_get cs i
nth_past_them c zero i k cs h = ap (slice_get cs) (omega arith)
nth_past_them c (suc n) i zero cs h = absurd (omega arith)
nth_past_them c (suc n) i (suc k) cs h = nth_past_them c n i k cs (omega arith)

module _ {V : Type 0} (S : Script) (start : State V) where
  abbrev steps_on : ℕ → ℕ
  steps_on a = steps_in S (lane_moves S start a)

  -- a lane is called as often as its moves have steps: on its own turn, or on a later one
  on_turn : (a b i k : ℕ) (cs : List Call) → k ≡ steps_on b + i → (b ≢ a → steps_on a ≤ calls_on a cs i) →
      steps_on a ≤ calls_on a (replicate (steps_on b) (StepOn b) ++ cs) k
  on_turn a b i k cs h later =
      let e = calls_past a b (steps_on b) i k cs h in
      ⊎_elim
      (λ (g : b ≡ a). let t = ap (λ t. cond t (steps_on b) 0) (eq-eqb b a g) in let s = ap steps_on g in omega arith)
      (λ (g : b ≢ a). let l = later g in omega arith)
      (cases_eq b a)

  by_the_end : (lanes : List ℕ) (a : ℕ) → 1 ≤ times a lanes → steps_on a ≤ calls_on a (calls_through S start lanes) (length (calls_through S start lanes))
  by_the_end [] a h = absurd (omega arith)
  by_the_end (b ∷ lanes) a h =
      let cs = calls_through S start lanes in
      on_turn a b (length cs) (length (calls_through S start (b ∷ lanes))) cs
      (omega (arith, length-append (replicate (steps_on b) (StepOn b)) cs, length-replicate (steps_on b) (StepOn b)))
      (λ ne. by_the_end lanes a (let t = times_other a b lanes ne in omega arith))

  -- a call on the rest list comes after all those on the queues
  by_the_rest : (lanes : List ℕ) (i q : ℕ) → times 0 lanes ≡ 0 → 1 ≤ times q lanes → is_on 0 (slice_get (calls_through S start (lanes ++ 0 ∷ [])) i) ≡ true →
      steps_on q ≤ calls_on q (calls_through S start (lanes ++ 0 ∷ [])) i
  by_the_rest [] i q z h on = absurd (omega arith)
  by_the_rest (b ∷ lanes) i q z h on =
      let n = steps_on b in
      let cs = calls_through S start (lanes ++ 0 ∷ []) in
      ⊎_elim
      (λ (l : i < n). absurd
      (let e = eqb-true b 0 (ap (is_on 0) (sym (nth_among (StepOn b) n i cs l)) ∙ on) in
      let t = ap (λ x. times 0 (x ∷ lanes)) e in
      let u = times_here 0 lanes in
      omega arith))
      (λ (l : n ≤ i).
      let k : i ≡ n + (i - n) = omega arith in
      on_turn q b (i - n) i cs k (λ ne. by_the_rest lanes (i - n) q (let t = times_tail 0 b lanes in omega arith) (let t = times_other q b lanes ne in omega arith)
      (ap (is_on 0) (sym (nth_past_them (StepOn b) n (i - n) i cs k)) ∙ on)))
      (cases_lt i n)

-- the replies that calls get
module _ {V : Type 0} (R : Rules V) (S : Script) where
  abbrev replies_from : State V → List Call → List (Reply V)
  replies_from st [] = []
  replies_from st (c ∷ cs) = reply R S st c ∷ replies_from (after R S st c) cs

  stage_first : (st : State V) (c : Call) (cs : List Call) (i : ℕ) → stage R S st (c ∷ cs) (suc i) ≡ stage R S (after R S st c) cs i
  stage_first st c cs zero = refl
  stage_first st c cs (suc i) = ap (λ s. after_next R S s (slice_get cs i)) (stage_first st c cs i)

  replies_answer : (st : State V) (calls : List Call) → Answered R S st calls (replies_from st calls)
  replies_answer st [] i c e = absurd (let z : ◌≡◌ {A = ℕ} 0 1 = cc in omega arith)
  replies_answer st (d ∷ cs) zero c e = let h : d ≡ c = cc in ap (λ x. Some (reply R S st x)) h
  replies_answer st (d ∷ cs) (suc i) c e = replies_answer (after R S st d) cs i c e ∙ ap (λ s. Some (reply R S s c)) (sym (stage_first st d cs i))

  -- the rest list's book fed a call, when all queues are at their ends
  rest_fed_lem : (b : Book V) (left : List ℕ) → (cond (eqb (length left) 0) (entry b (refuses 20)) (fed_left R S b left)).book ≡ (fed_left R S b left).book
  rest_fed_lem b [] = refl
  rest_fed_lem b (m ∷ ms) = ap (λ t. (cond t (entry b (refuses 20)) (fed_left R S b (m ∷ ms))).book) (ne_eqb (length (m ∷ ms)) 0 (λ e. omega arith))

-- books that are all at their ends
all_at_end_lem : {V : Type 0} (books : ℕ → Book V) (n : ℕ) → ((q : ℕ) → IsQueue n q → (books q).left ≡ []) → all_at_end books n ≡ true
all_at_end_lem books zero h = refl
all_at_end_lem books (suc n) h =
    rw (eq-eqb (length (books (suc n)).left) 0 (ap length (h (suc n) (omega arith, omega arith))))
    (all_at_end_lem books n (λ q k. h q (k.0, (let l = k.1 in omega arith))))

module _ {V : Type 0} {R : Rules V} {S : Script} {start : State V} (o : Opened R S start) (room : room_to_save S start ≡ true) where
  -- a lane's book that was fed often enough is at its end
  fed_out : (values : List V) (a n : ℕ) → a ≤ S.numbers.queues → steps_on S start a ≤ n →
      (feeds R S true (new_book values (lane_moves S start a) start.ends) n).left ≡ []
  fed_out values a n la h =
      let st = stand values start.ends in
      let ms = lane_moves S start a in
      let b = new_book values ms start.ends in
      let s = new_sound R S values ms start.ends (full o a la) in
      ap (λ (c : Book V). c.left) (closed_from R S st ms b n s refl h) ∙ closed_ends R S st ms b s refl

  module _ (calls : List Call) where
    queue_out : (i q : ℕ) → Queue S q → steps_on S start q ≤ calls_on q calls i → (queue_book R S start calls i q).left ≡ []
    queue_out i q h l = ap (λ t. (feeds R S t (queue_opens S start q) (calls_on q calls i)).left) room ∙ fed_out start.values q (calls_on q calls i) h.1 l

    -- the rest list's book where no call on it comes too early
    rest_feeds : ((i : ℕ) → is_on 0 (slice_get calls i) ≡ true → all_at_end (queue_book R S start calls i) S.numbers.queues ≡ true) → (i : ℕ) →
        rest_book R S start calls i ≡ feeds R S true (rest_opens R S start) (calls_on 0 calls i)
    rest_feeds out zero = refl
    rest_feeds out (suc i) = step (is_on 0 (slice_get calls i)) refl (rest_feeds out i)
      where
        step : (t : Bool) → is_on 0 (slice_get calls i) ≡ t → rest_book R S start calls i ≡ feeds R S true (rest_opens R S start) (calls_on 0 calls i) →
            cond t (rest_next R S start (rest_book R S start calls i) (queue_book R S start calls i)).book (rest_book R S start calls i)
            ≡ feeds R S true (rest_opens R S start) (cond t (suc (calls_on 0 calls i)) (calls_on 0 calls i))
        step true on e =
            let b = rest_book R S start calls i in
            ap (λ r. (rest_fed R S r b (all_at_end (queue_book R S start calls i) S.numbers.queues)).book) room
            ∙ ap (λ d. (rest_fed R S true b d).book) (out i on) ∙ rest_fed_lem R S b b.left ∙ ap (λ c. (fed R S true c).book) e
        step false on e = e

  -- the run that works every lane through
  abbrev calls : List Call
  calls = all_through S start

  abbrev replies : List (Reply V)
  replies = replies_from R S start calls

  abbrev end : ℕ
  end = length calls

  abbrev final : State V
  final = stage R S start calls end

  abbrev queues : ℕ
  queues = S.numbers.queues

  abbrev books : ℕ → ℕ → Book V
  books i = queue_book R S start calls i

  abbrev rest : Book V
  rest = rest_book R S start calls end

  enough : (a : ℕ) → a ≤ queues → steps_on S start a ≤ calls_on a calls end
  enough a la = by_the_end S start (range_with_len 1 queues ++ 0 ∷ []) a (let e = lanes_times a queues la in omega arith)

  -- at a call on the rest list all queues are at their ends
  queues_out : (i : ℕ) → is_on 0 (slice_get calls i) ≡ true → all_at_end (books i) queues ≡ true
  queues_out i on = all_at_end_lem (books i) queues (λ q h. queue_out calls i q h
      (by_the_rest S start (range_with_len 1 queues) i q (counting_before 0 1 queues (omega arith)) (let e = (counting_order queues).each_once q h in omega arith) on))

  inv : Invariant R S start final (books end) rest (begun R S start calls replies end)
  inv = invariant o calls replies (replies_answer R S start calls) end

  -- a lane whose book is at its end
  row_out : (a : ℕ) → a ≤ queues → (b : Book V) → RowTracks S start a (row_of final a) final.ends b → b.left ≡ [] → (row_of final a).end ≤ (row_of final a).next
  row_out a la b r e =
      ⊎_elim
      (λ (l : (row_of final a).next < (row_of final a).end). absurd (some_left o final inv.kept a la l b r e))
      (λ l. l)
      (cases_lt (row_of final a).next (row_of final a).end)

  none_left : NoneLeft queues final
  none_left zero la =
      row_out 0 la rest inv.rest_row
      (ap (λ (b : Book V). b.left) (rest_feeds calls queues_out end) ∙ fed_out (rest_opens R S start).values 0 (calls_on 0 calls end) la (enough 0 la))
  none_left (suc q) la =
      let h : Queue S (suc q) = (omega arith, la) in
      row_out (suc q) la (books end (suc q)) (inv.queue (suc q) h) (queue_out calls end (suc q) h (enough (suc q) la))

  worked_through : WorkedThrough R S start final
  worked_through = record {
    none_left = none_left;
    in_order = counting_order queues;
    as_whole = serial o (range_with_len 1 queues) (counting_order queues) calls replies (replies_answer R S start calls) end none_left;
  }

pub works_through : {V : Type 0} (R : Rules V) → Looks R → WorksThrough R
works_through R looks = λ b n line_up lanes outcomes values saved opens room.
    worked_through (as_opened R looks b n line_up lanes outcomes values saved opens) (le-leb n.steps (length saved) room)
