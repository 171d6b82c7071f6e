-- A step call on the rest list: the lists stay beside the books, and the answer is that of the rest list's book.
use Rattle.std.proofs.Common.{◌≡◌, ℕ, zero, suc, ◌<◌, ◌≤◌, Bool, true, false, cond, not, ◌&&◌, ◌||◌, ltb, [], length, None, Option, sym, refl, ap, ◌∙◌, subst, inl, inr, arith}
use Rattle.std.specs.List.{slice_get}
use Rattle.std.proofs.lemmas.Bool.{lt-ltb, le-ltb, ltb-false, eq-eqb, ne_eqb, or_parts, cases_eq, cases_lt, cases_Bool}
use Rattle.yard.specs.declared.run.LaneRow.{LaneRow}
use Rattle.yard.specs.Rules.{Rules}
use Rattle.yard.specs.Runs.{passes, ends, refuses}
use Rattle.books.specs.Scripts.{Script, State, row_of, move_at, step_at, room_to_save, due, due_place, more}
use Rattle.books.specs.Steps.{Went, goes, stuck, applied, set_back}
use Rattle.books.specs.Calls.{busy, barred, turn, turn_went, turned, step_state, step_reply}
use Rattle.books.specs.Books.{Book, Entry, entry, at_end, all_at_end, queue_opens, fed, closed, rest_opens, rest_next}
use Rattle.books.specs.Law.{IsQueue, accepts}
use Rattle.books.proofs.Joint.{joint_same}
use Rattle.books.proofs.Opened.{Queue, Opened}
use Rattle.books.proofs.Rows.{left_more}
use Rattle.books.proofs.Tracking.{All, Kept, RowTracks, CellsTrack, Invariant, Lawful, joint_board, with_books, turned_kept, strange_still}
use Rattle.books.proofs.Tracking.{row_tracks_other, own_follows, own_row, own_cells}
use Rattle.books.proofs.Checking.{bar, bar_is}
use Rattle.books.proofs.Stepping.{Nexts, next_other, left_none}

-- an accepted step is told as such
module _ {V : Type 0} (R : Rules V) (S : Script) (st : State V) (row : LaneRow) where
  went_accepts : (w : Went V) → accepts (turn_went R S st row w).reply ≡ true
  went_accepts (goes ws) = elim (more S row) as (λ m. accepts {V = V} (cond m passes ends) ≡ true) [ true ↦ refl | false ↦ refl ]
  went_accepts (stuck n) = refl

  turn_accepts : accepts (turn R S st row).reply ≡ true
  turn_accepts = went_accepts (applied R st.values (step_at S (due_place S row)))

not_or : (t u : Bool) → (not t && not u) ≡ not (t || u)
not_or true u = refl
not_or false u = refl

not_busy : {V : Type 0} (n : ℕ) (st : State V) → busy st.lanes n ≡ false → (q : ℕ) → IsQueue n q → (row_of st q).end ≤ (row_of st q).next
not_busy zero st e q h = absurd (let a = h.0 in let b = h.1 in omega arith)
not_busy (suc n) st e q h =
    let p = or_parts (ltb (row_of st (suc n)).next (row_of st (suc n)).end) (busy st.lanes n) e in
    elim (cases_eq q (suc n)) [
      | inl g ↦ subst (λ (r : ℕ). (row_of st r).end ≤ (row_of st r).next) (sym g) (ltb-false (row_of st (suc n)).next (row_of st (suc n)).end p.0)
      | inr g ↦ not_busy n st p.1 q (h.0, (let b = h.1 in omega arith))
    ]

module _ {V : Type 0} {R : Rules V} {S : Script} {start : State V} (o : Opened R S start) (st : State V) (books : ℕ → Book V) (rest : Book V) where
  -- whether a book is at its end, by its lane's row
  row_end : Kept S start st → (a : ℕ) → a ≤ S.numbers.queues → (b : Book V) → RowTracks S start a (row_of st a) st.ends b →
      at_end b ≡ not (ltb (row_of st a).next (row_of st a).end)
  row_end k a la b r =
      let row = row_of st a in
      elim (cases_lt row.next row.end) [
        | inl l ↦ let h = ap length (r.left ∙ left_more o a la row (k.rows a la) l) in
            rw (lt-ltb row.next row.end l) (ne_eqb (length b.left) 0 (λ e. omega arith))
        | inr g ↦ rw (le-ltb row.next row.end g) (eq-eqb (length b.left) 0 (ap length (left_none r g)))
      ]

  all_at_end_lem : (begun : Bool) → Invariant R S start st books rest begun → (n : ℕ) → n ≤ S.numbers.queues → all_at_end books n ≡ not (busy st.lanes n)
  all_at_end_lem begun i zero h = refl
  all_at_end_lem begun i (suc n) h =
      rw (row_end i.kept (suc n) h (books (suc n)) (i.queue (suc n) (omega arith, h)), all_at_end_lem begun i n (omega arith))
      (not_or (ltb (row_of st (suc n)).next (row_of st (suc n)).end) (busy st.lanes n))

  -- when the queues are done, the board is what the rest list's book starts from
  module _ (good : Lawful R S start books) (none : (q : ℕ) → Queue S q → (books q).left ≡ []) where
    board_opens : Invariant R S start st books rest false → st.values ≡ (rest_opens R S start).values
    board_opens i =
        joint_board R S start st books rest i good
        ∙ joint_same S start books (λ q. closed R S (queue_opens S start q)) S.numbers.queues (λ r h. good.closing r h (none r h))

    pub rest_board : (begun : Bool) → Invariant R S start st books rest begun → CellsTrack R S All (row_of st 0) st rest
    rest_board true i = i.phase.cells
    rest_board false i =
        let p = i.phase in
        let took : (row_of st 0).taken ≡ 0 = sym i.rest_row.took ∙ ap (λ (b : Book V). b.taken) p.unopened in
        record {
          values = λ x _. ap (λ ws. slice_get ws x) (board_opens i ∙ ap (λ (b : Book V). b.values) (sym p.unopened));
          before = λ x _.
              ap (λ n. slice_get (set_back R S.steps st.saved (move_at S (due S (row_of st 0))).first n st.values) x) took
              ∙ ap (λ ws. slice_get ws x) (board_opens i ∙ ap (λ (b : Book V). b.before) (sym p.unopened));
        }

  module _ (good : Lawful R S start books) (books' : ℕ → Book V) (next : Nexts R S start 0 books books') where
    same_books : (q : ℕ) → Queue S q → books' q ≡ books q
    same_books q h = next_other R S start 0 books books' next q (λ e. (let a = h.0 in omega arith))

    abbrev fed_rest : Entry V
    fed_rest = fed R S (room_to_save S start) rest

    -- what a call leads to, by what the book makes of it and by the refusal
    abbrev Leads : Bool → Entry V → Option ℕ → Type 0
    Leads begun e x = Invariant R S start (step_state R S st 0 x) books' e.book (accepts (step_reply R S st 0 x) || begun) × (step_reply R S st 0 x ≡ e.reply)

    -- the step is accepted
    module _ (room : room_to_save S start ≡ true) (l : (row_of st 0).next < (row_of st 0).end) (free : busy st.lanes S.numbers.queues ≡ false) (begun : Bool)
        (i : Invariant R S start st books rest begun) where
      abbrev st' : State V
      st' = turned st 0 (turn R S st (row_of st 0))

      l0 : 0 ≤ S.numbers.queues
      l0 = omega arith

      none_left : (q : ℕ) → Queue S q → (books q).left ≡ []
      none_left q h = left_none (i.queue q h) (not_busy S.numbers.queues st free q h)

      accepts_it : Leads begun fed_rest None
      accepts_it =
          let k = i.kept in
          let f = own_follows o st k 0 l0 l All (λ x h. tt) room rest i.rest_row (rest_board good none_left begun i) in (
            subst (λ (t : Bool). Invariant R S start st' books' fed_rest.book (t || begun)) (sym (turn_accepts R S st (row_of st 0))) (record {
              kept = turned_kept o st k 0 l0 l;
              queue = λ q h. subst (RowTracks S start q (row_of st' q) st'.ends) (sym (same_books q h))
                  (row_tracks_other o st k 0 l0 l q h.1 (λ e. (let a = h.0 in omega arith)) (books q) (i.queue q h));
              rest_row = own_row o st k 0 l0 l All fed_rest f;
              strange = λ m none. strange_still o st k 0 l0 l m none ∙ i.strange m none;
              phase = record { done = λ q h. ap (λ (b : Book V). b.left) (same_books q h) ∙ none_left q h; cells = own_cells o st k 0 l0 l All fed_rest f };
            }),
            f.reply,
          )

    -- what the book makes of the call, by its tests
    abbrev chosen : Bool → Bool → Bool → Entry V
    chosen room is_done queues_done =
        cond room (cond is_done (entry rest (refuses 20)) (cond queues_done fed_rest (entry rest (refuses 21)))) (entry rest (refuses 18))

    module _ (begun : Bool) (i : Invariant R S start st books rest begun) where
      by_tests : (t u w : Bool) → room_to_save S start ≡ t → ltb (row_of st 0).next (row_of st 0).end ≡ u → busy st.lanes S.numbers.queues ≡ w →
          Leads begun (chosen t (not u) (not w)) (bar t u true w) → Leads begun (rest_next R S start rest books) (barred R S st 0)
      by_tests t u w et eu ew h =
          let e : rest_next R S start rest books ≡ chosen t (not u) (not w) =
          ap (λ x. chosen x (at_end rest) (all_at_end books S.numbers.queues)) et
          ∙ ap (λ x. chosen t x (all_at_end books S.numbers.queues)) (row_end i.kept 0 (omega arith) rest i.rest_row ∙ ap not eu)
          ∙ ap (chosen t (not u)) (all_at_end_lem begun i S.numbers.queues (omega arith) ∙ ap not ew) in
          subst (Leads begun (rest_next R S start rest books)) (sym (bar_is o st i.kept 0 (omega arith) t u true w et eu (eq-eqb 0 0 refl) ew))
          (subst (λ (d : Entry V). Leads begun d (bar t u true w)) (sym e) h)

      stays : Invariant R S start st books' rest begun
      stays = with_books R S start st books books' rest same_books begun i

      pub rest_step : Leads begun (rest_next R S start rest books) (barred R S st 0)
      rest_step =
          let row = row_of st 0 in
          let waits = busy st.lanes S.numbers.queues in
          elim (cases_Bool (room_to_save S start)) [
            | inl rt ↦ elim (cases_lt row.next row.end) [
              | inl l ↦ elim (cases_Bool waits) [
                | inl w ↦ by_tests true true true rt (lt-ltb row.next row.end l) w (stays, refl)
                | inr w ↦ by_tests true true false rt (lt-ltb row.next row.end l) w (accepts_it rt l w begun i)
              ]
              | inr g ↦ by_tests true false waits rt (le-ltb row.next row.end g) refl (stays, refl)
            ]
            | inr rf ↦ by_tests false (ltb row.next row.end) waits rf refl refl (stays, refl)
          ]
