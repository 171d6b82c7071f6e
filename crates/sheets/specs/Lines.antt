-- The lines of a sheet, one by one. Each is read from where the reader stands to past its last word.
use Rattle.std.specs.Prelude.{◌≡◌, ℕ, zero, suc, ◌+◌, ◌-◌, cond, Some, None, Ok, Err, Option, Result, ◌==◌, nat_le}
use Rattle.std.specs.Borrow.{MutBor}
use Rattle.std.specs.Fn.{Shared}
use Rattle.text.specs.declared.faults.WordFault.TheVariants.{OutOfRange, WrongLetter, NoRows}
use Rattle.text.specs.declared.faults.LineFault.{LineFault}
use Rattle.text.specs.declared.faults.LineFault.TheVariants.{NotRising, TooManySteps, Word}
use Rattle.text.specs.Faults.{and_then, on_err, in_word, passing}
use Rattle.text.specs.Lines.{line_there}
use Rattle.text.specs.declared.reader.Reader.{Reader}
use Rattle.text.specs.Reading.{Here, here, past, past_word, number_at, number_within, number_below, letter_at, letter_is}
use Rattle.yard.specs.declared.batch.Move.{Move}
use Rattle.yard.specs.declared.batch.Step.{Step}
use Rattle.yard.specs.Rules.{Rules}
use Rattle.yard.specs.Rows.{Rows}
use Rattle.sheets.specs.declared.lines.Size.{Size}
use Rattle.sheets.specs.declared.lines.Row.{Row}

-- what was read, and where the reader then stands
pub record Read (A : Type 0) : Type 0 where
  pub got : A
  pub then : Here

abbrev pub read : {A : Type 0} → A → Here → Read A
read a h = record { got = a; then = h }

-- the answer of a call and where the reader stands after it, as a reading gives them
abbrev pub answered : {A E : Type 0} → Result A E → Here → Result (Read A) E
answered (Ok a) h = Ok (read a h)
answered (Err e) h = Err e

-- each call of f reads a line as `line` says
abbrev pub ReadsAs : {F T : Type 0} → Shared F (MutBor Reader × Unit {0}) (Result T LineFault × (MutBor Reader × Unit {0})) → F → (Here → Result (Read T) LineFault) → Type 0
ReadsAs {F} {T} g f line = (p q : MutBor Reader) (r : Result T LineFault) → g.post f (p, tt) (r, (q, tt)) → answered r (here q.now) ≡ line (here p.now)

-- the first line: the kind's letter, the cells and the share
abbrev pub kind_line : ℕ → Here → Result (Read Size) LineFault
kind_line letter h =
    and_then (line_there 3 h.bytes) (λ _.
    and_then (on_err Word (letter_is 1 letter h)) (λ _.
    and_then (on_err Word (number_within 2 1 1024 (past 1 h))) (λ cells.
    and_then (on_err Word (number_within 3 1 1000 (past 2 h))) (λ share.
    Ok (read (record { cells = cells; share = share }) (past 3 h))))))

-- the first line of a section: its letter, and how many come
abbrev pub count_line : ℕ → ℕ → Here → Result (Read ℕ) LineFault
count_line letter most h =
    and_then (line_there 2 h.bytes) (λ _.
    and_then (on_err Word (letter_is 1 letter h)) (λ _.
    and_then (on_err Word (number_within 2 0 most (past 1 h))) (λ n.
    Ok (read n (past 2 h)))))

-- O is 79
abbrev pub occupancy_line : Here → Result (Read ℕ) LineFault
occupancy_line h = and_then (count_line 79 1024 h) (λ r. cond (r.got == 0) (Err (in_word 2 NoRows)) (Ok r))

-- what comes of a value that may lack
abbrev pub given : {A B E : Type 0} → Option A → E → (A → Result B E) → Result B E
given None e f = Err e
given (Some a) e f = f a

-- the words of a row's value, n of them from the place k on, after those that made the value v
abbrev pub row_value : {V : Type 0} → Rows V → ℕ → ℕ → V → Here → Result (Read V) LineFault
row_value rows zero k v h = Ok (read v h)
row_value rows (suc n) k v h =
    and_then (on_err Word (number_at (k + 1) h)) (λ word.
    given (rows.takes k word v) (in_word (k + 1) OutOfRange) (λ w. row_value rows n (k + 1) w (past_word h)))

-- a row: its cell, which is not below `low`, and its value
abbrev pub row_line : {V : Type 0} → Rows V → ℕ → ℕ → Here → Result (Read (Row V)) LineFault
row_line rows cells low h =
    and_then (line_there rows.words h.bytes) (λ _.
    and_then (on_err Word (number_below 1 cells h)) (λ cell.
    and_then (row_value rows (rows.words - 1) 1 rows.unnamed (past 1 h)) (λ v.
    cond (nat_le low cell) (Ok (read (record { cell = cell; value = v.got }) v.then)) (Err NotRising))))

-- a move's first line; `first` steps stand before it
abbrev pub move_line : ℕ → Here → Result (Read Move) LineFault
move_line first h =
    and_then (line_there 2 h.bytes) (λ _.
    and_then (on_err Word (number_within 1 1 65535 h)) (λ label.
    and_then (on_err Word (number_within 2 1 8 (past 1 h))) (λ count.
    cond (nat_le (first + count) 1024) (Ok (read (record { label = label; first = first; count = count }) (past 2 h))) (Err TooManySteps))))

abbrev pub step_line : {V : Type 0} → Rules V → ℕ → Here → Result (Read Step) LineFault
step_line R cells h =
    and_then (line_there 3 h.bytes) (λ _.
    and_then (on_err Word (letter_at 1 h)) (λ letter.
    and_then (passing (R.letters letter) (in_word 1 WrongLetter) letter) (λ _.
    and_then (on_err Word (number_below 2 cells (past 1 h))) (λ cell.
    and_then (on_err Word (number_at 3 (past 2 h))) (λ number.
    cond (R.knows letter number) (Ok (read (record { cell = cell; order = record { letter = letter; number = number } }) (past 3 h))) (Err (in_word 3 OutOfRange)))))))

-- a choice: the place of one of the moves
abbrev pub choice_line : ℕ → Here → Result (Read ℕ) LineFault
choice_line moves h =
    and_then (line_there 1 h.bytes) (λ _.
    and_then (on_err Word (number_below 1 moves h)) (λ m.
    Ok (read m (past 1 h))))
