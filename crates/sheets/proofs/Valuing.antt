-- A row's value, word by word.
use Rattle.std.proofs.Common.{◌≡◌, ℕ, suc, ◌+◌, ◌-◌, ◌<◌, ap, arith}
use Rattle.text.specs.declared.faults.LineFault.TheVariants.{Word}
use Rattle.text.specs.declared.faults.WordFault.TheVariants.{OutOfRange}
use Rattle.text.specs.Faults.{and_then, on_err, in_word}
use Rattle.text.specs.Reading.{Here, number_at, past_word}
use Rattle.yard.specs.Rows.{Rows}
use Rattle.sheets.specs.Lines.{given, row_value}

-- the word at place k, and those after it
pub next_word : {V : Type 0} (rows : Rows V) (k : ℕ) (v : V) (h : Here) → k < rows.words → row_value rows (rows.words - k) k v h
    ≡ and_then (on_err Word (number_at (k + 1) h)) (λ word. given (rows.takes k word v) (in_word (k + 1) OutOfRange) (λ w. row_value rows (rows.words - (k + 1)) (k + 1) w (past_word h)))
next_word rows k v h l =
    let more : rows.words - k ≡ suc (rows.words - (k + 1)) = omega arith in
    ap (λ n. row_value rows n k v h) more
