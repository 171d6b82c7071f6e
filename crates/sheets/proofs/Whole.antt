-- A whole sheet, put together from what its parts gave.
use Rattle.std.proofs.Common.{◌≡◌, ℕ, ◌≤◌, true, cond, List, ◌++◌, length, drop, is_ok, Ok, Err, Result, sym, refl, ap, ◌∙◌, arith}
use Rattle.std.proofs.lemmas.Bool.{le-leb}
use Rattle.text.specs.declared.faults.At.{At}
use Rattle.text.specs.declared.faults.LineFault.{LineFault}
use Rattle.text.specs.Faults.{and_then, on_err}
use Rattle.text.specs.Reading.{Here, start}
use Rattle.yard.specs.Fronts.{laid}
use Rattle.yard.specs.Rules.{Rules}
use Rattle.yard.specs.Rows.{Rows}
use Rattle.sheets.specs.declared.faults.SheetFault.TheVariants.{ListTooShort, TooLong, Line}
use Rattle.sheets.specs.declared.lines.Head.{Head}
use Rattle.sheets.specs.declared.sheet.Found.{Found}
use Rattle.sheets.specs.Lines.{Read, read}
use Rattle.sheets.specs.Sections.{rows_read, values_read}
use Rattle.sheets.specs.Sheet.{Sheet, head, body, sections, sheet_of, sheet_by, Lists, lists, roomy, counts_of, answering, handed_out, read_into}
use Rattle.sheets.proofs.Rising.{values_long}

first_ok : {A B E : Type 0} (r : Result A E) (f : A → Result B E) (b : B) → and_then r f ≡ Ok b → is_ok r ≡ true
first_ok (Ok a) f b e = refl
first_ok (Err x) f b e = grind arith

module _ {V : Type 0} (R : Rules V) (rows : Rows V) (bs : List ℕ) (l : Lists V) (big : roomy l ≡ true) (small : length bs ≤ 32768) where
  taken_in : read_into R rows bs l ≡ handed_out (on_err Line (sections R rows (start bs))) l
  taken_in =
      ap (λ t. handed_out (cond t (sheet_of R rows bs) (Err ListTooShort)) l) big
      ∙ ap (λ t. handed_out (cond t (on_err Line (sections R rows (start bs))) (Err TooLong)) l) (le-leb (length bs) 32768 small)

  module _ (d : Head) (h : Here) (f : Found) where
    abbrev W : Result (Read (List V)) (At LineFault)
    W = rows_read rows d.size.cells d.rows h

    abbrev found : Sheet V
    found = sheet_by d (values_read W) f

    pub whole_read : Ok (read d h) ≡ head rows.letter (start bs) → Ok found ≡ body R rows d h
        → (vs : List V) → (is_ok W ≡ true → vs ≡ values_read W ++ drop d.size.cells l.values)
        → answering (Ok (counts_of found)) (lists vs (laid f.batch.moves.items l.moves) (laid f.batch.steps.items l.steps) (laid f.choices.items l.choices)) ≡ read_into R rows bs l
    whole_read hd bd vs ev =
        let good = first_ok W _ found (sym bd) in
        let vals : vs ≡ laid (values_read W) l.values = ev good ∙ ap (λ k. values_read W ++ drop k l.values) (sym (values_long rows d.size.cells d.rows h good)) in
        let all : sections R rows (start bs) ≡ Ok found = ap (λ r. and_then r (λ d. body R rows d.got d.then)) (sym hd) ∙ sym bd in
        ap (λ vs. answering (Ok (counts_of found)) (lists vs (laid f.batch.moves.items l.moves) (laid f.batch.steps.items l.steps) (laid f.choices.items l.choices))) vals
        ∙ ap (λ r. handed_out (on_err Line r) l) (sym all)
        ∙ sym taken_in
