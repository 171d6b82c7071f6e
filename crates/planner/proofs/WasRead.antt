-- What reading a sheet leaves in lists of full lengths: planning that is planning the sheet.
use Rattle.std.proofs.Common.{◌≡◌, ℕ, Bool, true, cond, List, length, replicate, slice_range, Ok, Err, Result, IfOk, is_ok, refl, ap, ◌∙◌, arith}
use Rattle.std.proofs.lemmas.Grind.{common_steps}
use Rattle.text.specs.Faults.{and_then, on_err}
use Rattle.text.specs.Reading.{start, nothing_left}
use Rattle.text.specs.declared.slip.Slip.{Slip}
use Rattle.yard.specs.declared.batch.Move.{Move}
use Rattle.yard.specs.declared.batch.Step.{Step}
use Rattle.yard.specs.Fronts.{laid}
use Rattle.yard.specs.Rows.{Rows}
use Rattle.yard.specs.Rules.{Rules}
use Rattle.sheets.specs.declared.counts.Counts.{Counts}
use Rattle.sheets.specs.declared.faults.SheetFault.{SheetFault}
use Rattle.sheets.specs.declared.faults.SheetFault.TheVariants.{TooLong, Line}
use Rattle.sheets.specs.Faults.{told}
use Rattle.sheets.specs.Sections.{rows_read}
use Rattle.sheets.specs.Sheet.{Sheet, head, batch, choices, sections, sheet_of, Lists, lists, roomy, filled, counts_of, Answer, answering, handed_out, read_into}
use Rattle.sheets.proofs.Rising.{values_long}
use Rattle.listings.specs.Laying.{Answered, laid_into}
use Rattle.listings.specs.Lines.{slip_bytes}
use Rattle.planner.specs.Plan.{planned_batch, planned_as, planned}

-- what holds of what comes last holds of the whole
and_then_if : {A B E : Type 0} (P : B → Type 0) (r : Result A E) (f : A → Result B E) → ((a : A) → r ≡ Ok a → IfOk (f a) P) → IfOk (and_then r f) P
and_then_if P (Ok a) f h = h a refl
and_then_if P (Err e) f h = tt

on_err_if : {A E F : Type 0} (P : A → Type 0) (f : E → F) (r : Result A E) → IfOk r P → IfOk (on_err f r) P
on_err_if P f (Ok a) h = h
on_err_if P f (Err e) h = tt

cond_if : {A E : Type 0} (P : A → Type 0) (t : Bool) (r : Result A E) (x : E) → IfOk r P → IfOk (cond t r (Err x)) P
cond_if P true r x h = h
cond_if P _ r x h = tt

-- a sheet has a value for each of its cells
module _ {V : Type 0} (R : Rules V) (rows : Rows V) where
  abbrev full : Sheet V → Type 0
  full s = length s.values ≡ s.cells

  cells_long : (bs : List ℕ) → IfOk (sheet_of R rows bs) full
  cells_long bs =
      cond_if full _ _ TooLong (on_err_if full Line (sections R rows (start bs))
      (and_then_if full (head rows.letter (start bs)) _ (λ d _.
      and_then_if full (rows_read rows d.got.size.cells d.got.rows d.then) _ (λ v e.
      and_then_if full (batch R d.got.size.cells v.then) _ (λ m _.
      and_then_if full (choices (length m.got.moves) m.then) _ (λ c _.
      cond_if full (nothing_left c.then) _ _
      (let long = values_long rows d.got.size.cells d.got.rows d.then (ap is_ok e) in rw e at long)))))))

-- the front of a list that another was laid over is that other
front : {A : Type 0} (n : ℕ) (xs ys : List A) → length xs ≡ n → slice_range (laid xs ys) 0 n ≡ xs
front n xs ys e = grind (arith, common_steps)

module _ {V : Type 0} (R : Rules V) (rows : Rows V) (equals : V → V → Bool) (bs listing : List ℕ) (answer : Answered) where
  as_read : (l after : Lists V) (n : Counts) (r : Result (Sheet V) SheetFault) → IfOk r (full R rows) → answering (Ok n) after ≡ handed_out r l →
      answer ≡ planned_batch R rows equals
      (record { cells = n.cells; share = n.share; moves = slice_range after.moves 0 n.moves; steps = slice_range after.steps 0 n.steps; choices = slice_range after.choices 0 n.choices })
      (slice_range after.values 0 n.cells) listing → answer ≡ planned_as R rows equals r listing
  as_read l after n (Ok s) long e a =
      let counts : n ≡ counts_of s = let p : Ok n ≡ Ok (counts_of s) = ap (λ (a : Answer _). a.answer) e in cc in
      let lists : after ≡ filled s l = ap (λ (a : Answer _). a.lists) e in
      rw (counts, lists, front _ s.moves l.moves refl, front _ s.steps l.steps refl, front _ s.choices l.choices refl, front s.cells s.values l.values long) at a
  as_read l after n (Err f) long e a = let p : Ok n ≡ Err f = ap (λ (a : Answer _). a.answer) e in cc

  as_refused : (l after : Lists V) (f : SheetFault) (r : Result (Sheet V) SheetFault) → answering (Err f) after ≡ handed_out r l →
      answer ≡ planned_as R rows equals (Err f) listing → answer ≡ planned_as R rows equals r listing
  as_refused l after f (Ok s) e a = let p : Err f ≡ Ok (counts_of s) = ap (λ (a : Answer _). a.answer) e in cc
  as_refused l after f (Err g) e a =
      let p : Err f ≡ Err g = ap (λ (a : Answer _). a.answer) e in
      let q : f ≡ g = cc in
      a ∙ ap (λ (x : SheetFault). planned_as R rows equals (Err x) listing) q

  -- lists of full lengths with nothing in them, and what reading left in them
  module _ (values : List V) (move : Move) (step : Step) (room : length values ≡ 1024) (after : Lists V) where
    abbrev l : Lists V
    l = lists values (replicate 256 move) (replicate 1024 step) (replicate 64 0)

    roomy_lists : roomy l ≡ true
    roomy_lists = rw room

    pub planned_read : (n : Counts) (moves : List Move) (steps : List Step) (choices : List ℕ) (vs : List V) → answering (Ok n) after ≡ read_into R rows bs l →
        moves ≡ slice_range after.moves 0 n.moves → steps ≡ slice_range after.steps 0 n.steps → choices ≡ slice_range after.choices 0 n.choices → vs ≡ slice_range after.values 0 n.cells →
        answer ≡ planned_batch R rows equals (record { cells = n.cells; share = n.share; moves = moves; steps = steps; choices = choices }) vs listing → answer ≡ planned R rows equals bs listing
    planned_read n moves steps choices vs e em es ec ev a =
        as_read l after n (sheet_of R rows bs) (cells_long R rows bs) (rw roomy_lists at e) (rw (em, es, ec, ev) at a)

    pub planned_slip : (f : SheetFault) (slip : Slip) → answering (Err f) after ≡ read_into R rows bs l → slip ≡ told f →
        answer ≡ laid_into (slip_bytes slip.number slip.line slip.word) listing → answer ≡ planned R rows equals bs listing
    planned_slip f slip e es a =
        as_refused l after f (sheet_of R rows bs) (rw roomy_lists at e) (a ∙ ap (λ (s : Slip). laid_into (slip_bytes s.number s.line s.word) listing) es)
