-- One call more, and what holds when all calls are worked.
use Rattle.std.proofs.Common.{◌≡◌, ℕ, ◌+◌, ◌<◌, ◌≤◌, ◌≢◌, List, map, length, drop, set, Some, Result, sym, ap, ◌∙◌, subst, ⊎_elim, add-one, arith}
use Rattle.std.specs.List.{slice_get}
use Rattle.std.proofs.lemmas.List.{length-map, map-set}
use Rattle.std.proofs.lemmas.Bool.{cases_eq}
use Rattle.yard.specs.declared.refusal.Refusal.{Refusal}
use Rattle.yard.specs.declared.run.Answer.{Answer}
use Rattle.yard.specs.declared.run.Call.{Call}
use Rattle.yard.specs.Cells.{Surroundings}
use Rattle.yard.specs.Rules.{Rules}
use Rattle.yard.specs.Runs.{reply_of}
use Rattle.books.specs.Scripts.{Script, State}
use Rattle.books.specs.Calls.{after, reply, after_next, stage}
use Rattle.books.proofs.Places.{nth_set_other, nth_set_same, nth_some}
use Rattle.running.specs.declared.run.Run.{Run}
use Rattle.running.specs.Performed.{Worked}
use Rattle.running.specs.Run.{Keeps}

-- what two calls in a row keep
pub kept : {K B V : Type 0} (around : B → Surroundings V) (one two three : Run K B V) → Keeps around one two → Keeps around two three → Keeps around one three
kept around one two three k l = record {
  script = l.script ∙ k.script;
  board = l.board ∙ k.board;
  saved = l.saved ∙ k.saved;
  lanes = l.lanes ∙ k.lanes;
  outcomes = l.outcomes ∙ k.outcomes;
  surroundings = l.surroundings ∙ k.surroundings;
}

module _ {V : Type 0} (R : Rules V) (S : Script) (start : State V) (calls : List Call) where
  -- the first calls were answered
  abbrev pub Heard : List (Result (Answer V) Refusal) → ℕ → Type 0
  Heard answers i = (j : ℕ) (c : Call) → j < i → slice_get calls j ≡ Some c → slice_get (map reply_of answers) j ≡ Some (reply R S (stage R S start calls j) c)

  pub state_more : (i : ℕ) (c : Call) (now next : State V) → slice_get calls i ≡ Some c → now ≡ stage R S start calls i → next ≡ after R S now c → next ≡ stage R S start calls (i + 1)
  state_more i c now next n e f =
      f ∙ ap (λ s. after R S s c) e ∙ sym (ap (after_next R S (stage R S start calls i)) n) ∙ sym (ap (stage R S start calls) (add-one i))

  pub heard_more : (i : ℕ) (c : Call) (now : State V) (answers : List (Result (Answer V) Refusal)) (r : Result (Answer V) Refusal) → slice_get calls i ≡ Some c → i < length answers →
      now ≡ stage R S start calls i → Heard answers i → reply_of r ≡ reply R S now c → Heard (set answers i r) (i + 1)
  heard_more i c now answers r n h e old a j d l m =
      let replies = map reply_of answers in
      ap (λ rs. slice_get rs j) (map-set reply_of answers i r)
      ∙ ⊎_elim
      (λ (q : j ≡ i).
      let here : slice_get calls i ≡ Some d = subst (λ (x : ℕ). slice_get calls x ≡ Some d) q m in
      let same : c ≡ d = cc in
      ap (slice_get (set replies i (reply_of r))) q ∙ nth_set_same replies i (reply_of r) (omega (arith, length-map answers reply_of))
      ∙ ap Some (a ∙ ap (λ s. reply R S s c) e ∙ ap (reply R S (stage R S start calls i)) same) ∙ ap (λ k. Some (reply R S (stage R S start calls k) d)) (sym q))
      (λ (q : j ≢ i). nth_set_other replies i j (reply_of r) q ∙ old j d (omega arith) m)
      (cases_eq j i)

  -- all calls are worked
  pub worked : (i : ℕ) (now : State V) (before answers : List (Result (Answer V) Refusal)) → i ≡ length calls → length calls ≤ length before → now ≡ stage R S start calls i → Heard answers i →
      drop (length calls) answers ≡ drop (length calls) before → Worked R S calls start before now answers
  worked i now before answers all h e heard past = record {
    enough = h;
    state = e ∙ ap (stage R S start calls) all;
    answers = λ j c n. heard j c (let l = nth_some calls j c n in omega arith) n;
    past = past;
  }
