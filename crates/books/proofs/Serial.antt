-- When no lane has a step left, the run has left what every move worked whole leaves, in every order of the queues.
use Rattle.std.proofs.Common.{◌≡◌, ℕ, zero, suc, ◌≤◌, Bool, true, false, cond, ◌≢◌, ◌⊎◌, List, [], sym, refl, ap, ◌∙◌, subst, inl, inr, arith}
use Rattle.std.specs.List.{slice_get}
use Rattle.std.proofs.lemmas.Bool.{cases_eq, cases_lt, cases_Bool, both_ways}
use Rattle.yard.specs.declared.run.Call.{Call}
use Rattle.yard.specs.Moves.{is_in}
use Rattle.yard.specs.Rules.{Rules}
use Rattle.yard.specs.Runs.{Reply, refuses}
use Rattle.dealing.specs.Facts.{times}
use Rattle.books.specs.Scripts.{Script, State, lane_moves, room_to_save}
use Rattle.books.specs.Calls.{stage, Answered}
use Rattle.books.specs.Whole.{Stand, stand, wholes, lanes_whole}
use Rattle.books.specs.Books.{Book, entry, is_on, calls_on, lane_cells, steps_in, all_at_end, at_end, fed, feeds, closed}
use Rattle.books.specs.Books.{queue_opens, rest_opens, queue_book, rest_next, rest_book}
use Rattle.books.specs.Law.{In, Order, NoneLeft, begun, serial_from}
use Rattle.books.proofs.Places.{same_nth}
use Rattle.books.proofs.Naming.{writes_named}
use Rattle.books.proofs.Near.{StandNear, wholes_near, wholes_told}
use Rattle.books.proofs.Ending.{Sound, new_sound, fed_sound, feeds_sound, ended_is, closed_ends}
use Rattle.books.proofs.Orders.{order_still, order_told, order_near}
use Rattle.books.proofs.Joint.{queue_wide, joint_is}
use Rattle.books.proofs.Opened.{Queue, Opened}
use Rattle.books.proofs.Rows.{parted, apart}
use Rattle.books.proofs.Tracking.{All, Invariant}
use Rattle.books.proofs.Stepping.{left_none}
use Rattle.books.proofs.Resting.{rest_board}
use Rattle.books.proofs.Starting.{full}
use Rattle.books.proofs.Running.{lawful, invariant}

module _ {V : Type 0} {R : Rules V} {S : Script} {start : State V} (o : Opened R S start) where
  abbrev lane : ℕ → List ℕ
  lane a = lane_moves S start a

  abbrev opening : Stand V
  opening = stand start.values start.ends

  -- what the rest list's book starts from
  abbrev first : Stand V
  first = stand (rest_opens R S start).values start.ends

  -- a queue's book is its moves worked whole, when it is at its end
  queue_sound : (q : ℕ) → Queue S q → (room : Bool) (n : ℕ) → Sound R S opening (lane q) (feeds R S room (queue_opens S start q) n)
  queue_sound q h room n = feeds_sound R S opening (lane q) room (queue_opens S start q) n (new_sound R S start.values (lane q) start.ends (full o q h.1))

  closed_whole : (q : ℕ) → Queue S q → let c = closed R S (queue_opens S start q) in stand c.values c.ends ≡ wholes R S opening (lane q)
  closed_whole q h =
      ended_is R S opening (lane q) (closed R S (queue_opens S start q)) (queue_sound q h true (steps_in S (lane q)))
      (closed_ends R S opening (lane q) (queue_opens S start q) (queue_sound q h true 0) refl)

  -- so is the rest list's book
  module _ (calls : List Call) where
    abbrev RestSound : Book V → Type 0
    RestSound b = Sound R S first (lane 0) b

    fed_rest_sound : (b : Book V) → RestSound b → (t u d : Bool) →
        RestSound (cond t (cond u (entry b (refuses 20)) (cond d (fed R S (room_to_save S start) b) (entry b (refuses 21)))) (entry b (refuses 18))).book
    fed_rest_sound b s true true d = s
    fed_rest_sound b s true false true = fed_sound R S first (lane 0) (room_to_save S start) b s
    fed_rest_sound b s true false false = s
    fed_rest_sound b s false u d = s

    if_sound : (t : Bool) (b c : Book V) → RestSound b → RestSound c → RestSound (cond t b c)
    if_sound true b c s z = s
    if_sound false b c s z = z

    rest_sound : (i : ℕ) → RestSound (rest_book R S start calls i)
    rest_sound zero = new_sound R S first.values (lane 0) start.ends (full o 0 (omega arith))
    rest_sound (suc i) =
        let b = rest_book R S start calls i in
        let queues = queue_book R S start calls i in
        if_sound (is_on 0 (slice_get calls i)) (rest_next R S start b queues).book b
        (fed_rest_sound b (rest_sound i) (room_to_save S start) (at_end b) (all_at_end queues S.numbers.queues)) (rest_sound i)

  -- a move is of one lane or of none
  lane_or_none : (m : ℕ) → ((a : ℕ) × (a ≤ S.numbers.queues) × In (lane a) m) ⊎ ((a : ℕ) → a ≤ S.numbers.queues → In (lane a) m → ⊥)
  lane_or_none m =
      let q = o.lane_of m in
      elim (cases_lt S.numbers.queues q) [
        | inl h ↦ inr (λ a la w. let e = (o.in_lane a m la w).1 in omega arith)
        | inr h ↦ elim (cases_Bool (is_in m (lane q))) [
          | inl k ↦ inl (q, h, k)
          | inr k ↦ inr (λ a la w. both_ways (is_in m (lane q)) k (subst (λ (p : ℕ). In (lane p) m) (sym (o.in_lane a m la w).1) w))
        ]
      ]

  -- the queues worked whole, in an order
  module _ (qs : List ℕ) (order : Order S.numbers.queues qs) where
    abbrev queued : Stand V
    queued = lanes_whole R S lane opening qs

    once : (q : ℕ) → times q qs ≤ 1
    once q =
        elim (cases_lt 0 (times q qs)) [
          | inl h ↦ let e = order.each_once q (order.no_other q h) in omega arith
          | inr h ↦ omega arith
        ]

    parted_queues : (q r m : ℕ) → Queue S q → Queue S r → q ≢ r → In (lane q) m → In (lane r) m → ⊥
    parted_queues q r m h k = parted o q r m h.1 k.1

    not_rest : (q m : ℕ) → Queue S q → In (lane q) m → In (lane 0) m → ⊥
    not_rest q m h = parted o q 0 m h.1 (omega arith) (λ e. (let a = h.0 in omega arith))

    queue_near : (q : ℕ) → Queue S q → StandNear R (In (lane_cells S start q)) (In (lane q)) queued (wholes R S opening (lane q))
    queue_near q h =
        let e = order.each_once q h in
        order_near R o.looks S lane (Queue S) (apart o) parted_queues qs opening once order.no_other q (omega arith)

    not_queued : (m : ℕ) → ((q : ℕ) → Queue S q → In (lane q) m → ⊥) → slice_get queued.ends m ≡ slice_get start.ends m
    not_queued m free = order_told R o.looks S lane (Queue S) (apart o) parted_queues qs opening m (λ q k. free q (order.no_other q k))

    not_written : (x : ℕ) → ((q : ℕ) → Queue S q → In (lane_cells S start q) x → ⊥) → slice_get queued.values x ≡ slice_get start.values x
    not_written x free =
        order_still R o.looks S lane (Queue S) (apart o) parted_queues qs opening x (λ q h w. free q (order.no_other q h) (writes_named R S (lane q) x w))

    -- what they leave is the same in every order
    first_is : first.values ≡ queued.values
    first_is =
        sym (same_nth queued.values first.values (λ x. joint_is S start (λ q. closed R S (queue_opens S start q))
        (λ q. queue_wide R S start true q (steps_in S (lane q))) queued.values x S.numbers.queues
        (λ q h n. (queue_near q h).values x n ∙ ap (λ (s : Stand V). slice_get s.values x) (sym (closed_whole q h))) (not_written x)))

    rest_near : StandNear R All (In (lane 0)) (wholes R S first (lane 0)) (wholes R S queued (lane 0))
    rest_near =
        wholes_near R All (In (lane 0)) S (lane 0) first queued (λ m h. h) (λ m x h n. tt) (record {
          values = λ x _. ap (λ ws. slice_get ws x) first_is;
          ends = λ m h. sym (not_queued m (λ q k w. not_rest q m k w h));
        })

    -- a run in which no lane has a step left after so many of the calls
    module _ (calls : List Call) (replies : List (Reply V)) (heard : Answered R S start calls replies) (i : ℕ)
        (none : NoneLeft S.numbers.queues (stage R S start calls i)) where
      abbrev now : State V
      now = stage R S start calls i

      abbrev books : ℕ → Book V
      books = queue_book R S start calls i

      abbrev rest : Book V
      rest = rest_book R S start calls i

      abbrev serially : Stand V
      serially = serial_from R S start qs

      inv : Invariant R S start now books rest (begun R S start calls replies i)
      inv = invariant o calls replies heard i

      queues_done_lem : (q : ℕ) → Queue S q → (books q).left ≡ []
      queues_done_lem q h = left_none (inv.queue q h) (none q h.1)

      queue_whole : (q : ℕ) → Queue S q → stand (books q).values (books q).ends ≡ wholes R S opening (lane q)
      queue_whole q h = ended_is R S opening (lane q) (books q) (queue_sound q h (room_to_save S start) (calls_on q calls i)) (queues_done_lem q h)

      rest_whole : stand rest.values rest.ends ≡ wholes R S first (lane 0)
      rest_whole = ended_is R S first (lane 0) rest (rest_sound calls i) (left_none inv.rest_row (none 0 (omega arith)))

      values_then : (x : ℕ) → slice_get now.values x ≡ slice_get serially.values x
      values_then x =
          (rest_board o now books rest (lawful o calls replies heard i) queues_done_lem (begun R S start calls replies i) inv).values x tt
          ∙ ap (λ (s : Stand V). slice_get s.values x) rest_whole ∙ rest_near.values x tt

      -- how the moves ended: of the rest list, of a queue, of no lane
      rest_ends : (m : ℕ) → In (lane 0) m → slice_get now.ends m ≡ slice_get serially.ends m
      rest_ends m h = inv.rest_row.ends m h ∙ ap (λ (s : Stand V). slice_get s.ends m) rest_whole ∙ rest_near.ends m h

      queue_ends : (q m : ℕ) → Queue S q → In (lane q) m → slice_get now.ends m ≡ slice_get serially.ends m
      queue_ends q m h w =
          (inv.queue q h).ends m w ∙ ap (λ (s : Stand V). slice_get s.ends m) (queue_whole q h) ∙ sym ((queue_near q h).ends m w)
          ∙ sym (wholes_told R S m (lane 0) queued (not_rest q m h w))

      other_ends : (m : ℕ) → ((a : ℕ) → a ≤ S.numbers.queues → In (lane a) m → ⊥) → slice_get now.ends m ≡ slice_get serially.ends m
      other_ends m free = inv.strange m free ∙ sym (not_queued m (λ q h. free q h.1)) ∙ sym (wholes_told R S m (lane 0) queued (free 0 (omega arith)))

      ends_then : (m : ℕ) → slice_get now.ends m ≡ slice_get serially.ends m
      ends_then m =
          elim (lane_or_none m) [
            | inl g ↦ elim (cases_eq g.0 0) [
              | inl e ↦ rest_ends m (subst (λ (a : ℕ). In (lane a) m) e g.2)
              | inr ne ↦ queue_ends g.0 m (omega arith, g.1) g.2
            ]
            | inr free ↦ other_ends m free
          ]

      pub serial : stand now.values now.ends ≡ serially
      serial =
          ap (λ vs. stand vs now.ends) (same_nth now.values serially.values values_then)
          ∙ ap (stand serially.values) (same_nth now.ends serially.ends ends_then)
