-- The lists of a run beside its books, over every list of calls.
use Rattle.std.proofs.Common.{◌≡◌, ℕ, zero, suc, ◌<◌, ◌≤◌, Bool, true, false, cond, ◌&&◌, ◌||◌, eqb, List, Some, None, Option, sym, refl, ap, ◌∙◌, subst, inl, inr, arith}
use Rattle.std.specs.List.{slice_get}
use Rattle.std.proofs.lemmas.Bool.{ne_eqb, cases_lt, both_ways}
use Rattle.yard.specs.declared.run.Call.{Call}
use Rattle.yard.specs.declared.run.Call.TheVariants.{Step as StepOn, Look, Tally}
use Rattle.yard.specs.Rules.{Rules}
use Rattle.yard.specs.Runs.{Reply, refuses}
use Rattle.books.specs.Scripts.{Script, State, lane_moves, room_to_save}
use Rattle.books.specs.Calls.{reply, after_next, stage, Answered}
use Rattle.books.specs.Whole.{stand}
use Rattle.books.specs.Books.{Book, is_on, calls_on, lane_cells, joint, queue_opens, fed, feeds, queue_book, rest_next, rest_book, book_reply}
use Rattle.books.specs.Law.{In, accepts, such, begun, board_at}
use Rattle.books.proofs.Places.{same_nth}
use Rattle.books.proofs.Ending.{new_sound, closed_is}
use Rattle.books.proofs.Joint.{queue_wide}
use Rattle.books.proofs.Opened.{Queue, Opened}
use Rattle.books.proofs.Tracking.{Invariant, Lawful, joint_board, with_books}
use Rattle.books.proofs.Starting.{full, start_invariant}
use Rattle.books.proofs.Stepping.{Nexts, queue_step, no_lane_step}
use Rattle.books.proofs.Resting.{rest_step}

-- what the invariant says of the board
module _ {V : Type 0} {R : Rules V} {S : Script} {start : State V} (st : State V) (books : ℕ → Book V) (rest : Book V) where
  board_now : (bg : Bool) → Invariant R S start st books rest bg → Lawful R S start books →
      st.values ≡ cond bg rest.values (joint S start books S.numbers.queues)
  board_now true i good = same_nth st.values rest.values (λ x. i.phase.cells.values x tt)
  board_now false i good = joint_board R S start st books rest i good

  named_now : (bg : Bool) → Invariant R S start st books rest bg → bg ≡ false → (q x : ℕ) → Queue S q → In (lane_cells S start q) x →
      slice_get st.values x ≡ slice_get (books q).values x
  named_now true i e q x h n = absurd (both_ways true e refl)
  named_now false i e q x h n = (i.phase.cells q h).values x n

  other_now : (bg : Bool) → Invariant R S start st books rest bg → bg ≡ false → (x : ℕ) →
      ((q : ℕ) → Queue S q → In (lane_cells S start q) x → ⊥) → slice_get st.values x ≡ slice_get start.values x
  other_now true i e x free = absurd (both_ways true e refl)
  other_now false i e x free = i.phase.others x free

module _ {V : Type 0} {R : Rules V} {S : Script} {start : State V} (o : Opened R S start)
    (calls : List Call) (replies : List (Reply V)) (heard : Answered R S start calls replies) where
  abbrev now : ℕ → State V
  now i = stage R S start calls i

  abbrev books : ℕ → ℕ → Book V
  books i = queue_book R S start calls i

  abbrev rest : ℕ → Book V
  rest i = rest_book R S start calls i

  abbrev started : ℕ → Bool
  started i = begun R S start calls replies i

  pub lawful : (i : ℕ) → Lawful R S start (books i)
  lawful i = record {
    wide = λ q. queue_wide R S start (room_to_save S start) q (calls_on q calls i);
    closing = λ q h e. closed_is R S (stand start.values start.ends) (lane_moves S start q) (room_to_save S start) (queue_opens S start q) (calls_on q calls i)
        (new_sound R S start.values (lane_moves S start q) start.ends (full o q h.1)) refl e;
  }

  -- the queue books one call on
  abbrev feed : Book V → Book V
  feed b = (fed R S (room_to_save S start) b).book

  feeds_if : (b : Book V) (n : ℕ) (t : Bool) →
      feeds R S (room_to_save S start) b (cond t (suc n) n) ≡ cond t (feed (feeds R S (room_to_save S start) b n)) (feeds R S (room_to_save S start) b n)
  feeds_if b n true = refl
  feeds_if b n false = refl

  books_next : (i : ℕ) (x : Option Call) → slice_get calls i ≡ x → (q : ℕ) → books (suc i) q ≡ cond (is_on q x) (feed (books i q)) (books i q)
  books_next i x e q =
      ap (λ y. feeds R S (room_to_save S start) (queue_opens S start q) (cond (is_on q y) (suc (calls_on q calls i)) (calls_on q calls i))) e
      ∙ feeds_if (queue_opens S start q) (calls_on q calls i) (is_on q x)

  -- the lists beside the books one call on, where the call is on the rest list or not, and by its reply
  abbrev NextBy : ℕ → Option Call → Bool → Option (Reply V) → Type 0
  NextBy i x on_rest r =
      Invariant R S start (after_next R S (now i) x) (books (suc i)) (cond on_rest (rest_next R S start (rest i) (books i)).book (rest i))
      ((on_rest && such accepts r) || started i)

  abbrev Next : ℕ → Option Call → Type 0
  Next i x = NextBy i x (is_on 0 x) (slice_get replies i)

  -- a step call
  pub record StepCall (i b : ℕ) : Type 0 where
    pub next : Next i (Some (StepOn b))
    pub on_lane : b ≤ S.numbers.queues → reply R S (now i) (StepOn b) ≡ book_reply R S start calls i b
    pub on_none : S.numbers.queues < b → reply R S (now i) (StepOn b) ≡ refuses 19

  step_call : (i b : ℕ) → Invariant R S start (now i) (books i) (rest i) (started i) → slice_get calls i ≡ Some (StepOn b) → StepCall i b
  step_call i zero inv e =
      let r = rest_step o (now i) (books i) (rest i) (lawful i) (books (suc i)) (books_next i (Some (StepOn 0)) e) (started i) inv in
      record { next = subst (NextBy i (Some (StepOn 0)) true) (sym (heard i (StepOn 0) e)) r.0; on_lane = λ _. r.1; on_none = λ l. absurd (omega arith) }
  step_call i (suc b) inv e =
      let n : Nexts R S start (suc b) (books i) (books (suc i)) = books_next i (Some (StepOn (suc b))) e in
      let By : Bool → Type 0 = λ t. NextBy i (Some (StepOn (suc b))) t (slice_get replies i) in
      let off : eqb (suc b) 0 ≡ false = ne_eqb (suc b) 0 (λ g. omega arith) in
      elim (cases_lt S.numbers.queues (suc b)) [
        | inl g ↦ let r = no_lane_step o (now i) (books i) (books (suc i)) (rest i) (suc b) n g (started i) inv in
            record { next = subst By (sym off) r.0; on_lane = λ l. absurd (omega arith); on_none = λ _. r.1 }
        | inr g ↦ let r = queue_step o (now i) (books i) (books (suc i)) (rest i) (suc b) n (omega arith, g) (started i) inv in
            record { next = subst By (sym off) r.0; on_lane = λ _. r.1; on_none = λ l. absurd (omega arith) }
      ]

  -- a call that no lane heeds
  idle : (i : ℕ) → Invariant R S start (now i) (books i) (rest i) (started i) → ((q : ℕ) → books (suc i) q ≡ books i q) →
      Invariant R S start (now i) (books (suc i)) (rest i) (started i)
  idle i inv same = with_books R S start (now i) (books i) (books (suc i)) (rest i) (λ q h. same q) (started i) inv

  next_invariant : (i : ℕ) → Invariant R S start (now i) (books i) (rest i) (started i) → (x : Option Call) → slice_get calls i ≡ x → Next i x
  next_invariant i inv None e = idle i inv (books_next i None e)
  next_invariant i inv (Some (Look x)) e = idle i inv (books_next i (Some (Look x)) e)
  next_invariant i inv (Some Tally) e = idle i inv (books_next i (Some Tally) e)
  next_invariant i inv (Some (StepOn b)) e = (step_call i b inv e).next

  pub invariant : (i : ℕ) → Invariant R S start (now i) (books i) (rest i) (started i)
  invariant zero = start_invariant o
  invariant (suc i) = next_invariant i (invariant i) (slice_get calls i) refl

  pub board_then : (i : ℕ) → (now i).values ≡ board_at R S start calls replies i
  board_then i = board_now (now i) (books i) (rest i) (started i) (invariant i) (lawful i)

  pub named_then : (i q x : ℕ) → started i ≡ false → Queue S q → In (lane_cells S start q) x → slice_get (now i).values x ≡ slice_get (books i q).values x
  named_then i q x e = named_now (now i) (books i) (rest i) (started i) (invariant i) e q x

  pub other_then : (i x : ℕ) → started i ≡ false → ((q : ℕ) → Queue S q → In (lane_cells S start q) x → ⊥) → slice_get (now i).values x ≡ slice_get start.values x
  other_then i x e = other_now (now i) (books i) (rest i) (started i) (invariant i) e x

  pub answered : (i a : ℕ) → slice_get calls i ≡ Some (StepOn a) → a ≤ S.numbers.queues → slice_get replies i ≡ Some (book_reply R S start calls i a)
  answered i a e l = heard i (StepOn a) e ∙ ap Some ((step_call i a (invariant i) e).on_lane l)

  pub no_such_lane : (i a : ℕ) → slice_get calls i ≡ Some (StepOn a) → S.numbers.queues < a → slice_get replies i ≡ Some (refuses 19)
  no_such_lane i a e l = heard i (StepOn a) e ∙ ap Some ((step_call i a (invariant i) e).on_none l)
