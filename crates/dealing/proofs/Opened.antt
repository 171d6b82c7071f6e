-- What open leaves, from what it found out and what dealing left.
use Rattle.std.proofs.Common.{◌≡◌, ℕ, ◌-◌, ◌≤◌, true, leb, List, ◌++◌, length, take, replicate, None, ap, ◌∙◌, arith}
use borrow.Rule.Slice.PartMut.{post_of}
use Rattle.std.proofs.lemmas.List.{length-replicate, length-take-le}
use Rattle.std.proofs.lemmas.Bool.{leb-true}
use Rattle.yard.specs.declared.run.LaneRow.{LaneRow}
use Rattle.yard.specs.declared.run.Outcome.{Outcome}
use Rattle.yard.specs.Batches.{Listed}
use Rattle.yard.specs.Fronts.{laid}
use Rattle.yard.specs.Rules.{Rules}
use Rattle.yard.specs.Runs.{Numbers}
use Rattle.yard.specs.Told.{gives}
use Rattle.dealing.specs.Active.{Within}
use Rattle.dealing.specs.Dealable.{Roomy}
use Rattle.dealing.specs.Facts.{WellDealt}
use Rattle.dealing.specs.Lanes.{dealing, line_up_of, lane_rows}
use Rattle.dealing.specs.Opening.{Lists, lists, roomy, refusal, opened, numbers_of, filled, settled, open_into}
use Rattle.dealing.proofs.NoConflict.{and_left, and_right}
use Rattle.dealing.proofs.Shown.{well_dealt}

module _ {V : Type 0} (R : Rules V) (b : Listed) (count : ℕ) (l : Lists) where
  pub open_fills : (n : Numbers) (after : Lists) → None ≡ refusal R b (roomy l) count → n ≡ numbers_of b (dealing R b) → after ≡ filled b (dealing R b) l → opened (gives n) after ≡ open_into R b count l
  open_fills n after e en ea = (rw (en, ea)) ∙ ap (λ o. settled o b (dealing R b) l) e

-- what the filled lists say
pub sound_lists : {V : Type 0} (R : Rules V) (b : Listed) (queues : ℕ) (line old_line : List ℕ) (rows old_rows : List LaneRow) → Within b.cells b.steps → queues ≡ (dealing R b).queues →
    line ≡ laid (line_up_of (dealing R b)) old_line → rows ≡ laid (lane_rows (dealing R b)) old_rows → WellDealt R b queues line rows
sound_lists R b queues line old_line rows old_rows within eq el er = rw (eq, el, er) (well_dealt R b old_line old_rows within)

pub lists_same : {u u' : List ℕ} {r r' : List LaneRow} {o o' : List Outcome} {p p' m m' c c' : List ℕ} → u ≡ u' → r ≡ r' → o ≡ o' → p ≡ p' → m ≡ m' → c ≡ c' → lists u r o p m c ≡ lists u' r' o' p' m' c'
lists_same a b c d e f = rw (a, b, c, d, e, f)

-- what the test of the lists says
pub room_in : (l : Lists) → roomy l ≡ true → Roomy l
room_in l e =
    let five = and_left _ (leb 4096 (length l.pairs)) e in
    let four = and_left _ (leb 1024 (length l.marks)) five in
    let three = and_left _ (leb 1024 (length l.parents)) four in
    let two = and_left _ (leb 256 (length l.outcomes)) three in
    record {
      line_up_long = leb-true 256 (length l.line_up) (and_left (leb 256 (length l.line_up)) (leb 257 (length l.lanes)) two);
      lanes_long = leb-true 257 (length l.lanes) (and_right (leb 256 (length l.line_up)) (leb 257 (length l.lanes)) two);
      outcomes_long = leb-true 256 (length l.outcomes) (and_right _ (leb 256 (length l.outcomes)) three);
      parents_long = leb-true 1024 (length l.parents) (and_right _ (leb 1024 (length l.parents)) four);
      marks_long = leb-true 1024 (length l.marks) (and_right _ (leb 1024 (length l.marks)) five);
      pairs_long = leb-true 4096 (length l.pairs) (and_right _ (leb 4096 (length l.pairs)) e);
    }

-- the front of a list was lent and came back as n times x
pub front_filled : {A : Type 0} (n m : ℕ) (x : A) (xs front : List A) → n - 0 ≡ m → m ≤ length xs → front ≡ replicate (length (take (n - 0) xs)) x → front ++ post_of 0 (n - 0) xs ≡ laid (replicate m x) xs
front_filled n m x xs front e h f =
    let k : length (take (n - 0) xs) ≡ m = length-take-le (n - 0) xs (omega arith) ∙ e in
    let g : front ≡ replicate m x = f ∙ ap (λ (i : ℕ). replicate i x) k in
    rw (g, e, length-replicate m x)
