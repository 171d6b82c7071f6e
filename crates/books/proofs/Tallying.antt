-- Each tally tells what the replies before it count to.
use Rattle.std.proofs.Common.{◌≡◌, ℕ, zero, suc, ◌+◌, ◌≤◌, Bool, true, false, eqb, ltb, List, [], ◌∷◌, length, get_or, Some, Option, sym, refl, ap, ◌∙◌, subst, inl, inr, arith}
use Rattle.std.specs.List.{slice_get}
use Rattle.std.proofs.lemmas.Option.{slice_get-get_or}
use Rattle.std.proofs.lemmas.Bool.{ltb-true, cases_lt}
use Rattle.yard.specs.declared.run.Call.{Call}
use Rattle.yard.specs.declared.run.Call.TheVariants.{Step as StepOn, Look, Tally}
use Rattle.yard.specs.Cells.{value_at}
use Rattle.yard.specs.Rules.{Rules}
use Rattle.yard.specs.Runs.{End, not_ended, Reply, holds, counts, refuses}
use Rattle.books.specs.Scripts.{Script, State, row_of, move_at, room_to_save}
use Rattle.books.specs.Tallies.{sum_to, accepted_of, one_done, one_failed, accepted_in, done_in, failed_in, taken_in, tally_of}
use Rattle.books.specs.Calls.{busy, step_state, step_reply, reply, replied, after, after_next, stage, Answered}
use Rattle.books.specs.Law.{accepts, tells_done, tells_failed, how_many, NoneLeft}
use Rattle.books.proofs.Places.{nth_some}
use Rattle.books.proofs.Opened.{Opened}
use Rattle.books.proofs.Rows.{move_at_lem}
use Rattle.books.proofs.Tracking.{Kept}
use Rattle.books.proofs.Checking.{bar, barred_in, barred_out, tally_fits_lem}
use Rattle.books.proofs.Counting.{sum_none, Counts, CountsOn, turn_counts}
use Rattle.books.proofs.Running.{invariant}

-- a look tells a value or 22
look_is : {V : Type 0} (P : Reply V → Type 0) → ((v : V) → P (holds v)) → P (refuses 22) → (vs : List V) (x : ℕ) → P (replied holds (value_at vs x))
look_is P h r [] x = r
look_is P h r (v ∷ vs) zero = h v
look_is P h r (v ∷ vs) (suc x) = look_is P h r vs x

module _ {V : Type 0} {R : Rules V} {S : Script} {start : State V} (o : Opened R S start) where
  -- one call
  module _ (st : State V) (k : Kept S start st) (a d f : ℕ) (c : Counts S st a d f) where
    step_counts : (b : ℕ) → b ≤ S.numbers.queues → (t u v w : Bool) → ltb (row_of st b).next (row_of st b).end ≡ u →
        CountsOn S (step_state R S st b (bar t u v w)) a d f (Some (step_reply R S st b (bar t u v w)))
    step_counts b lb false u v w e = c
    step_counts b lb true false v w e = c
    step_counts b lb true true true true e = c
    step_counts b lb true true true false e = turn_counts o st k b lb (ltb-true (row_of st b).next (row_of st b).end e) a d f c
    step_counts b lb true true false w e = turn_counts o st k b lb (ltb-true (row_of st b).next (row_of st b).end e) a d f c

    tally_is : reply R S st Tally
        ≡ counts (tally_of S.numbers.moves (accepted_in S.moves st.ends S.numbers.moves + taken_in st.lanes (suc S.numbers.queues))
        (done_in st.ends S.numbers.moves) (failed_in st.ends S.numbers.moves))
    tally_is = rw (tally_fits_lem o st k)

    tally_counts : reply R S st Tally ≡ counts (tally_of S.numbers.moves a d f)
    tally_counts = rw (c.accepted, c.done, c.failed) tally_is

    call_counts : (x : Call) → CountsOn S (after R S st x) a d f (Some (reply R S st x))
    call_counts (StepOn b) =
        let On : Option ℕ → Type 0 = λ x. CountsOn S (step_state R S st b x) a d f (Some (step_reply R S st b x)) in
        elim (cases_lt S.numbers.queues b) [
          | inl g ↦ subst On (sym (barred_out o st k b g)) c
          | inr g ↦ subst On (sym (barred_in o st k b g))
              (step_counts b g (room_to_save S start) (ltb (row_of st b).next (row_of st b).end) (eqb b 0) (busy st.lanes S.numbers.queues) refl)
        ]
    call_counts (Look x) = look_is (λ r. CountsOn S st a d f (Some r)) (λ v. c) c st.values x
    call_counts Tally = subst (λ (r : Reply V). CountsOn S st a d f (Some r)) (sym tally_counts) c

  -- the start
  none_counted : (F : ℕ → End → ℕ) → ((m : ℕ) → F m not_ended ≡ 0) → sum_to S.numbers.moves (λ m. F m (get_or start.ends m not_ended)) ≡ 0
  none_counted F z = sum_none S.numbers.moves (λ m. F m (get_or start.ends m not_ended)) (λ m h. ap (F m) (o.none_ended m h) ∙ z m)

  none_taken : taken_in start.lanes (suc S.numbers.queues) ≡ 0
  none_taken = sum_none (suc S.numbers.queues) (λ a. (row_of start a).taken) (λ a h. (o.fresh a (omega arith)).none_taken)

  start_counts : Counts S start 0 0 0
  start_counts = record {
    waiting = λ b lb j h g. let f = o.fresh b lb in o.none_ended (get_or S.line_up j 0) (move_at_lem o b lb j (omega arith) g);
    accepted = omega (arith, none_counted (λ m. accepted_of (move_at S m).count) (λ m. refl), none_taken);
    done = sym (none_counted (λ m. one_done) (λ m. refl));
    failed = sym (none_counted (λ m. one_failed) (λ m. refl));
  }

  -- every list of calls
  module _ (calls : List Call) (replies : List (Reply V)) (heard : Answered R S start calls replies) where
    abbrev now : ℕ → State V
    now i = stage R S start calls i

    abbrev CountsAt : ℕ → Type 0
    CountsAt i = Counts S (now i) (how_many accepts replies i) (how_many tells_done replies i) (how_many tells_failed replies i)

    kept_at : (i : ℕ) → Kept S start (now i)
    kept_at i = (invariant o calls replies heard i).kept

    next_counts : (i : ℕ) → CountsAt i → (x : Call) → slice_get calls i ≡ Some x → CountsAt (suc i)
    next_counts i c x e =
        let a = how_many accepts replies i in
        let d = how_many tells_done replies i in
        let f = how_many tells_failed replies i in
        subst (λ (y : Option Call). CountsOn S (after_next R S (now i) y) a d f (slice_get replies i)) (sym e)
        (subst (CountsOn S (after R S (now i) x) a d f) (sym (heard i x e)) (call_counts (now i) (kept_at i) a d f c x))

    counts_at : (i : ℕ) → i ≤ length calls → CountsAt i
    counts_at zero h = start_counts
    counts_at (suc i) h = next_counts i (counts_at i (omega arith)) (get_or calls i Tally) (slice_get-get_or calls i Tally (omega arith))

    pub accepted_all : NoneLeft S.numbers.queues (now (length calls)) →
        how_many accepts replies (length calls) ≡ accepted_in S.moves (now (length calls)).ends S.numbers.moves
    accepted_all none =
        let n = length calls in
        let c = (counts_at n (omega arith)).accepted in
        let z = sum_none (suc S.numbers.queues) (λ a. (row_of (now n) a).taken) (λ a h. ((kept_at n).rows a (omega arith)).done (none a (omega arith))) in
        omega arith

    pub tally_then : (i : ℕ) → slice_get calls i ≡ Some Tally →
        slice_get replies i ≡ Some (counts (tally_of S.numbers.moves (how_many accepts replies i) (how_many tells_done replies i) (how_many tells_failed replies i)))
    tally_then i e =
        let c = counts_at i (let h = nth_some calls i Tally e in omega arith) in
        heard i Tally e ∙ ap Some (tally_counts (now i) (kept_at i) (how_many accepts replies i) (how_many tells_done replies i) (how_many tells_failed replies i) c)
