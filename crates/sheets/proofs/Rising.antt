-- Rows, one after another, over the values of the cells.
use Rattle.std.proofs.Common.{◌≡◌, ℕ, zero, suc, ◌+◌, true, List, length, set, replicate, is_ok, IfOk, Ok, Err, Result, sym, refl, ap, ◌∙◌, arith}
use Rattle.std.proofs.lemmas.List.{length-set, length-replicate}
use Rattle.std.proofs.lemmas.Result.{IfOk-weaker}
use Rattle.text.specs.declared.faults.At.{At}
use Rattle.text.specs.declared.faults.LineFault.{LineFault}
use Rattle.text.specs.Faults.{and_then}
use Rattle.text.specs.Reading.{Here}
use Rattle.yard.specs.Rows.{Rows}
use Rattle.sheets.specs.declared.lines.Row.{Row}
use Rattle.sheets.specs.Lines.{Read, read, row_line}
use Rattle.sheets.specs.Sections.{in_line, row_into, occupied, Occupied, repeat, rows_over, rows_read, leaves, values_read}

abbrev after : {V : Type 0} → List V → Read (Row V) → Result (Read (Occupied V)) (At LineFault)
after vs r = Ok (read (occupied (r.got.cell + 1) (set vs r.got.cell r.got.value)) r.then)

abbrev last : {V : Type 0} → Result (Read (Occupied V)) (At LineFault) → Result (Read (List V)) (At LineFault)
last r = and_then r (λ r. Ok (read r.got.values r.then))

-- where a reading ends, or its fault
abbrev ending : {A E : Type 0} → Result (Read A) E → Result Here E
ending (Ok r) = Ok r.then
ending (Err e) = Err e

-- so many cells were read
abbrev Holding : {V : Type 0} → ℕ → Read (Occupied V) → Type 0
Holding k r = length r.got.values ≡ k

module _ {V : Type 0} (rows : Rows V) (cells : ℕ) where
  one_ending : (n low : ℕ) (vs ws : List V) (r : Result (Read (Row V)) (At LineFault))
      → ((low : ℕ) (vs ws : List V) (h : Here) → ending (repeat n (row_into rows cells) (occupied low vs) h) ≡ ending (repeat n (row_into rows cells) (occupied low ws) h))
      → ending (and_then (and_then r (after vs)) (λ r. repeat n (row_into rows cells) r.got r.then)) ≡ ending (and_then (and_then r (after ws)) (λ r. repeat n (row_into rows cells) r.got r.then))
  one_ending n low vs ws (Ok r) ih = ih (r.got.cell + 1) (set vs r.got.cell r.got.value) (set ws r.got.cell r.got.value) r.then
  one_ending n low vs ws (Err e) ih = refl

  -- the values that were there before do not matter to where rows end
  same_ending : (n low : ℕ) (vs ws : List V) (h : Here) → ending (repeat n (row_into rows cells) (occupied low vs) h) ≡ ending (repeat n (row_into rows cells) (occupied low ws) h)
  same_ending zero low vs ws h = refl
  same_ending (suc n) low vs ws h = one_ending n low vs ws (in_line (row_line rows cells low) h) (same_ending n)

  one_long : (n low : ℕ) (vs : List V) (r : Result (Read (Row V)) (At LineFault))
      → ((low : ℕ) (vs : List V) (h : Here) → IfOk (repeat n (row_into rows cells) (occupied low vs) h) (Holding (length vs)))
      → IfOk (and_then (and_then r (after vs)) (λ r. repeat n (row_into rows cells) r.got r.then)) (Holding (length vs))
  one_long n low vs (Ok r) ih =
      IfOk-weaker (repeat n (row_into rows cells) (occupied (r.got.cell + 1) (set vs r.got.cell r.got.value)) r.then) (Holding (length (set vs r.got.cell r.got.value))) (Holding (length vs)) (λ x e. e ∙ length-set vs r.got.cell r.got.value) (ih (r.got.cell + 1) (set vs r.got.cell r.got.value) r.then)
  one_long n low vs (Err e) ih = tt

  -- rows keep the number of cells
  long : (n low : ℕ) (vs : List V) (h : Here) → IfOk (repeat n (row_into rows cells) (occupied low vs) h) (Holding (length vs))
  long zero low vs h = refl
  long (suc n) low vs h = one_long n low vs (in_line (row_line rows cells low) h) (long n)

last_long : {V : Type 0} (r : Result (Read (Occupied V)) (At LineFault)) (k : ℕ) → IfOk r (Holding k) → is_ok (last r) ≡ true → length (values_read (last r)) ≡ k
last_long (Ok r) k h e = h
last_long (Err f) k h e = grind arith

pub values_long : {V : Type 0} (rows : Rows V) (cells n : ℕ) (h : Here) → is_ok (rows_read rows cells n h) ≡ true → length (values_read (rows_read rows cells n h)) ≡ cells
values_long rows cells n h e =
    last_long (repeat n (row_into rows cells) (occupied 0 (replicate cells rows.unnamed)) h) _ (long rows cells n 0 (replicate cells rows.unnamed) h) e
    ∙ length-replicate cells rows.unnamed

last_ending : {V : Type 0} (r : Result (Read (Occupied V)) (At LineFault)) → ending (last r) ≡ ending r
last_ending (Ok r) = refl
last_ending (Err e) = refl

known : {A V : Type 0} (r : Result A (At LineFault)) (us : List V) (h : Here) (whole : Result (Read (List V)) (At LineFault)) → ending whole ≡ ending (leaves r us h) → leaves r (values_read whole) h ≡ whole
known (Ok a) us h (Ok w) e = let t : w.then ≡ h = cc in ap (λ h. Ok (read w.got h)) (sym t)
known (Ok a) us h (Err f) e = grind arith
known (Err f) us h (Ok w) e = grind arith
known (Err f) us h (Err f') e = cc

-- rows that were read over some values say how rows over any others are read
pub anyhow : {A V : Type 0} (rows : Rows V) (cells n : ℕ) (vs ws us : List V) (h h' : Here) (r : Result A (At LineFault)) → leaves r us h' ≡ rows_over rows cells n vs h → leaves r (values_read (rows_over rows cells n ws h)) h' ≡ rows_over rows cells n ws h
anyhow rows cells n vs ws us h h' r e =
    known r us h' (rows_over rows cells n ws h)
    (last_ending (repeat n (row_into rows cells) (occupied 0 ws) h) ∙ same_ending rows cells n 0 ws vs h ∙ sym (last_ending (repeat n (row_into rows cells) (occupied 0 vs) h)) ∙ ap ending (sym e))

left : {A V : Type 0} (r : Result A (At LineFault)) (us : List V) (h : Here) → is_ok (leaves r us h) ≡ true → us ≡ values_read (leaves r us h)
left (Ok a) us h e = refl
left (Err f) us h e = grind arith

-- what rows that are as they should be leave in cells that no row has named
pub written : {A V : Type 0} (rows : Rows V) (cells n : ℕ) (vs us : List V) (h h' : Here) (r : Result A (At LineFault)) → vs ≡ replicate (length vs) rows.unnamed → length vs ≡ cells → leaves r us h' ≡ rows_over rows cells n vs h → is_ok (rows_read rows cells n h) ≡ true → us ≡ values_read (rows_read rows cells n h)
written rows cells n vs us h h' r e long g ok =
    let same : leaves r us h' ≡ rows_read rows cells n h = g ∙ ap (λ vs. rows_over rows cells n vs h) (e ∙ ap (λ k. replicate k rows.unnamed) long) in
    left r us h' (ap is_ok same ∙ ok) ∙ ap values_read same
