-- A step of a lane beside the same step of its book.
use Rattle.std.proofs.Common.{◌≡◌, ℕ, suc, ◌+◌, ◌<◌, ◌≤◌, Bool, true, false, cond, ltb, List, ◌∷◌, length, set, Some, None, Option, sym, refl, ap, ◌∙◌, subst, add-one, arith}
use Rattle.std.specs.List.{slice_get}
use Rattle.std.proofs.lemmas.List.{set-set}
use Rattle.yard.specs.declared.batch.Step.{Step}
use Rattle.yard.specs.declared.run.LaneRow.{LaneRow}
use Rattle.yard.specs.Moves.{writes}
use Rattle.yard.specs.Rules.{Rules, Effect, passes as makes_value, fails as gives_cause}
use Rattle.yard.specs.Runs.{End, done, failed, passes, ends as ends_move}
use Rattle.books.specs.Scripts.{Script, State, row_of, part, move_at, step_at, due, due_place, more, onward, over}
use Rattle.books.specs.Steps.{goes, stuck, put, lands, meets, applied, kept, set_back}
use Rattle.books.specs.Calls.{Turn, turn, turn_went, move_back}
use Rattle.books.specs.Books.{Book, Entry, book_of, fed_past, fed_went, fed_left, lane_cells}
use Rattle.books.specs.Law.{In}
use Rattle.books.proofs.Places.{Alike, nth_set_same, set_same, set_alike}
use Rattle.books.proofs.Near.{set_looked}
use Rattle.books.proofs.SetBack.{put_back_written, put_back_looked, set_back_past}
use Rattle.books.proofs.Opened.{Opened}
use Rattle.books.proofs.Rows.{RowOk, steps_long, steps_at, left_more, due_in, names_it}

-- what the step left and what the book made of it agree, on the cells of P and for the moves of Q
pub record Follows {V : Type 0} (R : Rules V) (S : Script) (P Q : ℕ → Type 0) (t : Turn V) (e : Entry V) : Type 0 where
  pub left : e.book.left ≡ part S.line_up t.row.next t.row.end
  pub took : e.book.taken ≡ t.row.taken
  pub values : Alike P t.values e.book.values
  pub before : Alike P (move_back R S t.saved t.row t.values) e.book.before
  pub ends : Alike Q t.ends e.book.ends
  pub reply : t.reply ≡ e.reply

-- a lane with a move under way, and its book, that agree before the step
module _ {V : Type 0} {R : Rules V} {S : Script} {start : State V} (o : Opened R S start) (P Q : ℕ → Type 0)
    (a : ℕ) (la : a ≤ S.numbers.queues) (row : LaneRow) (ok : RowOk S (row_of start a) row) (l : row.next < row.end)
    (in_p : (x : ℕ) → In (lane_cells S start a) x → P x) (in_q : Q (due S row)) (st : State V) (room : due_place S row < length st.saved)
    (us bs : List V) (es : List End) (values : Alike P st.values us) (before : Alike P (move_back R S st.saved row st.values) bs)
    (ends : Alike Q st.ends es) where
  abbrev first : ℕ
  first = (move_at S (due S row)).first

  abbrev place : ℕ
  place = due_place S row

  abbrev here : Step
  here = step_at S place

  abbrev cell : ℕ
  cell = here.cell

  abbrev after_it : List ℕ
  after_it = part S.line_up (row.next + 1) row.end

  abbrev book : Book V
  book = book_of us bs (due S row ∷ after_it) row.taken es

  in_p_here : P cell
  in_p_here = in_p cell (names_it o a la row ok l row.taken (omega arith))

  noted : (e : End) → Alike Q (set st.ends (due S row) e) (set es (due S row) e)
  noted e = set_alike Q (due S row) e st.ends es in_q ends

  -- the step fails
  stuck_follows : (n : ℕ) → Follows R S P Q (turn_went R S st row (stuck n)) (fed_went R S book (due S row) after_it (stuck n))
  stuck_follows n = record { left = refl; took = refl; values = before; before = before; ends = noted (failed (row.taken + 1) n); reply = refl }

  -- the step passes: to set it back too gives what setting back the steps before it gave
  back_more : (w old : V) → slice_get st.values cell ≡ Some old → R.makes here.order.letter here.order.number old ≡ makes_value w → (b : Bool) → writes R here ≡ b →
      set_back R S.steps (cond b (put st.saved place (slice_get st.values cell)) st.saved) first (suc row.taken) (set st.values cell w)
      ≡ move_back R S st.saved row st.values
  back_more w old held made true e =
      ap (λ v. set_back R S.steps (put st.saved place v) first (suc row.taken) (set st.values cell w)) held
      ∙ ap (set_back R S.steps (set st.saved place old) first row.taken)
      (put_back_written R (set st.values cell w) here (slice_get (set st.saved place old) place) old (nth_set_same st.saved place old room) e
      ∙ set-set st.values cell w old ∙ set_same st.values cell old held)
      ∙ set_back_past R S.steps st.saved first row.taken place old st.values (omega arith)
  back_more w old held made false e =
      ap (set_back R S.steps st.saved first row.taken)
      (put_back_looked R (set st.values cell w) here (slice_get st.saved place) e ∙ set_looked R o.looks st.values here old w held e made)

  past_follows : (ws saved zs : List V) → Alike P ws zs → Alike P (set_back R S.steps saved first (row.taken + 1) ws) bs → (t : Bool) →
      Follows R S P Q (record {
        values = ws;
        saved = saved;
        ends = cond t st.ends (set st.ends (due S row) done);
        row = cond t (onward row) (over row);
        reply = cond t passes ends_move;
      }) (fed_past book (due S row) after_it zs t)
  past_follows ws saved zs h k true = record { left = sym (left_more o a la row ok l); took = refl; values = h; before = k; ends = ends; reply = refl }
  past_follows ws saved zs h k false = record { left = refl; took = refl; values = h; before = h; ends = noted done; reply = refl }

  lands_follows : (old : V) → slice_get st.values cell ≡ Some old → (q : Effect V) → R.makes here.order.letter here.order.number old ≡ q →
      Follows R S P Q (turn_went R S st row (lands R st.values here q)) (fed_went R S book (due S row) after_it (lands R us here q))
  lands_follows old held (gives_cause n) made = stuck_follows n
  lands_follows old held (makes_value w) made =
      let ws = set st.values cell w in
      let saved = kept R st.values here st.saved place in
      let e : set_back R S.steps saved first (row.taken + 1) ws ≡ move_back R S st.saved row st.values =
      ap (λ n. set_back R S.steps saved first n ws) (add-one row.taken) ∙ back_more w old held made (writes R here) refl in
      let same_count = ap (λ n. ltb (row.taken + 1) n) (steps_long o (due S row) (due_in o a la row ok l)) in
      subst (λ (t : Bool). Follows R S P Q (turn_went R S st row (goes ws)) (fed_past book (due S row) after_it (set us cell w) t)) (sym same_count)
      (past_follows ws saved (set us cell w) (set_alike P cell w st.values us in_p_here values) (λ x n. ap (λ zs. slice_get zs x) e ∙ before x n) (more S row))

  meets_follows : (v : Option V) → slice_get st.values cell ≡ v →
      Follows R S P Q (turn_went R S st row (meets R st.values here v)) (fed_went R S book (due S row) after_it (meets R us here v))
  meets_follows None held = stuck_follows 0
  meets_follows (Some v) held = lands_follows v held (R.makes here.order.letter here.order.number v) refl

  step_follows : Follows R S P Q (turn R S st row) (fed_left R S book (due S row ∷ after_it))
  step_follows =
      subst (λ (s : Step). Follows R S P Q (turn R S st row) (fed_went R S book (due S row) after_it (applied R us s)))
      (sym (steps_at o (due S row) row.taken (ok.inside l)))
      (subst (λ (v : Option V). Follows R S P Q (turn R S st row) (fed_went R S book (due S row) after_it (meets R us here v)))
      (values cell in_p_here) (meets_follows (slice_get st.values cell) refl))

  pub turn_follows : (left : List ℕ) (k : ℕ) → left ≡ part S.line_up row.next row.end → k ≡ row.taken →
      Follows R S P Q (turn R S st row) (fed_left R S (book_of us bs left k es) left)
  turn_follows left k e f =
      let F : List ℕ → ℕ → Type 0 = λ ms j. Follows R S P Q (turn R S st row) (fed_left R S (book_of us bs ms j es) ms) in
      subst (F left) (sym f) (subst (λ (ms : List ℕ). F ms row.taken) (sym (e ∙ left_more o a la row ok l)) step_follows)
