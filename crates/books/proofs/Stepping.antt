-- A step call on a queue, or on no lane: the lists stay beside the books, and the answer is that of the queue's book.
use Rattle.std.proofs.Common.{◌≡◌, ℕ, ◌<◌, ◌≤◌, Bool, true, false, cond, eqb, ltb, ◌≢◌, List, [], Some, Option, sym, refl, ap, ◌∙◌, subst, inl, inr, arith}
use Rattle.std.proofs.lemmas.Bool.{lt-ltb, le-ltb, eq-eqb, ne_eqb, cases_eq, cases_lt, cases_Bool}
use Rattle.yard.specs.declared.run.LaneRow.{LaneRow}
use Rattle.yard.specs.declared.run.Call.TheVariants.{Step as StepOn}
use Rattle.yard.specs.Rules.{Rules}
use Rattle.yard.specs.Runs.{End, refuses}
use Rattle.books.specs.Scripts.{Script, State, row_of, lane_moves, room_to_save}
use Rattle.books.specs.Calls.{busy, barred, turn, turned, step_state, step_reply, after, reply}
use Rattle.books.specs.Books.{Book, Entry, entry, lane_cells, fed, fed_left}
use Rattle.books.specs.Law.{In}
use Rattle.books.proofs.Places.{part_done}
use Rattle.books.proofs.Naming.{writes_named}
use Rattle.books.proofs.Opened.{Queue, Opened}
use Rattle.books.proofs.Rows.{apart}
use Rattle.books.proofs.Turning.{turn_still}
use Rattle.books.proofs.Tracking.{RowTracks, CellsTrack, Invariant, with_books, turned_kept, strange_still}
use Rattle.books.proofs.Tracking.{row_tracks_other, cells_track_other, own_follows, own_row, own_cells, some_left}
use Rattle.books.proofs.Checking.{bar, bar_is, barred_out}

-- the queue books after a step call on lane b
abbrev pub Nexts : {V : Type 0} → Rules V → Script → State V → ℕ → (ℕ → Book V) → (ℕ → Book V) → Type 0
Nexts R S start b books books' = (q : ℕ) → books' q ≡ cond (eqb b q) (fed R S (room_to_save S start) (books q)).book (books q)

pub next_other : {V : Type 0} (R : Rules V) (S : Script) (start : State V) (b : ℕ) (books books' : ℕ → Book V) → Nexts R S start b books books' →
    (q : ℕ) → b ≢ q → books' q ≡ books q
next_other R S start b books books' next q ne = next q ∙ ap (λ t. cond t (fed R S (room_to_save S start) (books q)).book (books q)) (ne_eqb b q ne)

-- at the end of its row a lane's book has no move left
pub left_none : {V : Type 0} {S : Script} {start : State V} {a : ℕ} {row : LaneRow} {es : List End} {b : Book V} →
    RowTracks S start a row es b → row.end ≤ row.next → b.left ≡ []
left_none {S = S} {row = row} r h = r.left ∙ part_done S.line_up row.next row.end h

module _ {V : Type 0} {R : Rules V} {S : Script} {start : State V} (o : Opened R S start)
    (st : State V) (books books' : ℕ → Book V) (rest : Book V) (b : ℕ) (next : Nexts R S start b books books') where
  abbrev fed_b : Entry V
  fed_b = fed R S (room_to_save S start) (books b)

  next_here : books' b ≡ fed_b.book
  next_here = next b ∙ ap (λ t. cond t fed_b.book (books b)) (eq-eqb b b refl)

  -- a call that no book heeds
  idle : (Queue S b → fed_b.book ≡ books b) → (begun : Bool) → Invariant R S start st books rest begun → Invariant R S start st books' rest begun
  idle e = with_books R S start st books books' rest (λ q h. elim (cases_eq b q) [
    | inl g ↦ subst (λ (p : ℕ). books' p ≡ books p) g (next_here ∙ e (subst (Queue S) (sym g) h))
    | inr g ↦ next_other R S start b books books' next q g
  ])

  pub no_lane_step : S.numbers.queues < b → (begun : Bool) → Invariant R S start st books rest begun →
      Invariant R S start (after R S st (StepOn b)) books' rest begun × (reply R S st (StepOn b) ≡ refuses 19)
  no_lane_step h begun i =
      let Leads : Option ℕ → Type 0 = λ x. Invariant R S start (step_state R S st b x) books' rest begun × (step_reply R S st b x ≡ refuses 19) in
      subst Leads (sym (barred_out o st i.kept b h)) (idle (λ q. absurd (let g = q.1 in omega arith)) begun i, refl)

  module _ (ib : Queue S b) where
    abbrev st' : State V
    st' = turned st b (turn R S st (row_of st b))

    -- what a call leads to, by the refusal
    abbrev Leads : Bool → Option ℕ → Type 0
    Leads begun x = Invariant R S start (step_state R S st b x) books' rest begun × (step_reply R S st b x ≡ fed_b.reply)

    -- the step is accepted
    accepts_it : room_to_save S start ≡ true → (row_of st b).next < (row_of st b).end → (begun : Bool) → Invariant R S start st books rest begun →
        Invariant R S start st' books' rest begun × ((turn R S st (row_of st b)).reply ≡ fed_b.reply)
    accepts_it room l true i = absurd (some_left o st i.kept b ib.1 l (books b) (i.queue b ib) (i.phase.done b ib))
    accepts_it room l false i =
        let k = i.kept in
        let lb = ib.1 in
        let P = In (lane_cells S start b) in
        let f = own_follows o st k b lb l P (λ x h. h) room (books b) (i.queue b ib) (i.phase.cells b ib) in (
          record {
            kept = turned_kept o st k b lb l;
            queue = λ q h. elim (cases_eq b q) [
              | inl e ↦ subst (λ (p : ℕ). RowTracks S start p (row_of st' p) st'.ends (books' p)) e
                  (subst (RowTracks S start b (row_of st' b) st'.ends) (sym next_here) (own_row o st k b lb l P fed_b f))
              | inr ne ↦ subst (RowTracks S start q (row_of st' q) st'.ends) (sym (next_other R S start b books books' next q ne))
                  (row_tracks_other o st k b lb l q h.1 (λ e. ne (sym e)) (books q) (i.queue q h))
            ];
            rest_row = row_tracks_other o st k b lb l 0 (omega arith) (λ e. (let h = ib.0 in omega arith)) rest i.rest_row;
            strange = λ m free. strange_still o st k b lb l m free ∙ i.strange m free;
            phase = record {
              cells = λ q h. elim (cases_eq b q) [
                | inl e ↦ subst (λ (p : ℕ). CellsTrack R S (In (lane_cells S start p)) (row_of st' p) st' (books' p)) e
                    (subst (CellsTrack R S P (row_of st' b) st') (sym next_here) (own_cells o st k b lb l P fed_b f))
                | inr ne ↦ subst (CellsTrack R S (In (lane_cells S start q)) (row_of st' q) st') (sym (next_other R S start b books books' next q ne))
                    (cells_track_other o st k b lb l q h.1 (λ e. ne (sym e)) (λ x. apart o q b x h ib (λ e. ne (sym e))) (books q) (i.phase.cells q h))
              ];
              others = λ x free.
                  turn_still o b lb (row_of st b) (k.rows b lb) l st x (λ w. free b ib (writes_named R S (lane_moves S start b) x w)) ∙ i.phase.others x free;
              unopened = i.phase.unopened;
            };
          },
          f.reply,
        )

    -- the step is refused
    refuses_it : (begun : Bool) → Invariant R S start st books rest begun → (n : ℕ) → fed_b ≡ entry (books b) (refuses n) → Leads begun (Some n)
    refuses_it begun i n e = (idle (λ _. ap (λ (x : Entry V). x.book) e) begun i, sym (ap (λ (x : Entry V). x.reply) e))

    by_tests : (begun : Bool) → Invariant R S start st books rest begun → (t u : Bool) → room_to_save S start ≡ t → ltb (row_of st b).next (row_of st b).end ≡ u →
        Leads begun (bar t u false (busy st.lanes S.numbers.queues)) → Leads begun (barred R S st b)
    by_tests begun i t u et eu =
        let no_rest : eqb b 0 ≡ false = ne_eqb b 0 (λ e. (let h = ib.0 in omega arith)) in
        subst (Leads begun) (sym (bar_is o st i.kept b ib.1 t u false (busy st.lanes S.numbers.queues) et eu no_rest refl))

    pub queue_step : (begun : Bool) → Invariant R S start st books rest begun → Leads begun (barred R S st b)
    queue_step begun i =
        let row = row_of st b in
        elim (cases_Bool (room_to_save S start)) [
          | inl rt ↦ elim (cases_lt row.next row.end) [
            | inl l ↦ by_tests begun i true true rt (lt-ltb row.next row.end l) (accepts_it rt l begun i)
            | inr g ↦ by_tests begun i true false rt (le-ltb row.next row.end g)
                (refuses_it begun i 20 (ap (λ t. fed R S t (books b)) rt ∙ ap (fed_left R S (books b)) (left_none (i.queue b ib) g)))
          ]
          | inr rf ↦ by_tests begun i false (ltb row.next row.end) rf refl (refuses_it begun i 18 (ap (λ t. fed R S t (books b)) rf))
        ]
