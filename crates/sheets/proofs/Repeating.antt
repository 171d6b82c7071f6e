-- Readings one after another: so many lines less one to go.
use Rattle.std.proofs.Common.{◌≡◌, ℕ, suc, ◌+◌, ◌-◌, ◌<◌, Result, ap, arith}
use Rattle.text.specs.declared.faults.LineFault.{LineFault}
use Rattle.text.specs.declared.faults.At.{At}
use Rattle.text.specs.Faults.{and_then}
use Rattle.text.specs.Reading.{Here}
use Rattle.sheets.specs.Lines.{Read}
use Rattle.sheets.specs.Sections.{repeat}

-- the next reading, and those after it
pub next : {S : Type 0} (f : S → Here → Result (Read S) (At LineFault)) (n i : ℕ) (s : S) (h : Here) → i < n → repeat (n - i) f s h ≡ and_then (f s h) (λ r. repeat (n - (i + 1)) f r.got r.then)
next f n i s h l =
    let more : n - i ≡ suc (n - (i + 1)) = omega arith in
    ap (λ k. repeat k f s h) more
