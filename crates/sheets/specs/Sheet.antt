-- A whole sheet: what its bytes say, or its first fault.
use Rattle.std.specs.Prelude.{ℕ, Bool, cond, ◌&&◌, List, [], length, Ok, Err, Result, nat_le}
use Rattle.text.specs.declared.faults.At.{At}
use Rattle.text.specs.declared.faults.LineFault.{LineFault}
use Rattle.text.specs.declared.faults.LineFault.TheVariants.{Lacking}
use Rattle.text.specs.Faults.{and_then, on_err, at_number}
use Rattle.text.specs.Reading.{Here, start, nothing_left}
use Rattle.yard.specs.Fronts.{laid}
use Rattle.yard.specs.declared.batch.Move.{Move}
use Rattle.yard.specs.declared.batch.Step.{Step}
use Rattle.yard.specs.Rules.{Rules}
use Rattle.yard.specs.Rows.{Rows}
use Rattle.sheets.specs.declared.faults.SheetFault.{SheetFault}
use Rattle.sheets.specs.declared.faults.SheetFault.TheVariants.{ListTooShort, TooLong, Line}
use Rattle.sheets.specs.declared.counts.Counts.{Counts}
use Rattle.sheets.specs.declared.lines.Head.{Head}
use Rattle.sheets.specs.declared.lines.Size.{Size}
use Rattle.sheets.specs.declared.sheet.Found.{Found}
use Rattle.sheets.specs.Lines.{Read, read, kind_line, count_line, occupancy_line, choice_line}
use Rattle.sheets.specs.Sections.{in_line, repeat, listing, rows_read, Moves, moves_of, move_into}

pub record Sheet (V : Type 0) : Type 0 where
  pub cells : ℕ
  pub share : ℕ
  pub rows : ℕ
  pub values : List V
  pub moves : List Move
  pub steps : List Step
  pub choices : List ℕ

-- the two lines before the rows: the size of the yard, and how many rows come
abbrev pub head_by : Size → ℕ → Head
head_by size rows = record { size = size; rows = rows }

abbrev pub head : ℕ → Here → Result (Read Head) (At LineFault)
head letter h =
    and_then (in_line (kind_line letter) h) (λ size.
    and_then (in_line occupancy_line size.then) (λ n.
    Ok (read (head_by size.got n.got) n.then)))

-- the moves; M is 77
abbrev pub batch : {V : Type 0} → Rules V → ℕ → Here → Result (Read Moves) (At LineFault)
batch R cells h = and_then (in_line (count_line 77 256) h) (λ n. repeat n.got (move_into R cells) (moves_of [] []) n.then)

-- the choices among so many moves; C is 67
abbrev pub choices : ℕ → Here → Result (Read (List ℕ)) (At LineFault)
choices moves h = and_then (in_line (count_line 67 64) h) (λ n. repeat n.got (listing (choice_line moves)) [] n.then)

-- bytes that follow the last line are a line too many
abbrev pub at_end : {A : Type 0} → A → Here → Result A (At LineFault)
at_end a h = cond (nothing_left h) (Ok a) (Err (at_number h.line Lacking))

-- what follows the head: the rows, the moves, the choices, and nothing else
abbrev pub body : {V : Type 0} → Rules V → Rows V → Head → Here → Result (Sheet V) (At LineFault)
body R rows d h =
    and_then (rows_read rows d.size.cells d.rows h) (λ v.
    and_then (batch R d.size.cells v.then) (λ m.
    and_then (choices (length m.got.moves) m.then) (λ c.
    at_end (record {
      cells = d.size.cells;
      share = d.size.share;
      rows = d.rows;
      values = v.got;
      moves = m.got.moves;
      steps = m.got.steps;
      choices = c.got;
    }) c.then)))

abbrev pub sections : {V : Type 0} → Rules V → Rows V → Here → Result (Sheet V) (At LineFault)
sections R rows h = and_then (head rows.letter h) (λ d. body R rows d.got d.then)

-- a sheet has at most 32,768 bytes
abbrev pub sheet_of : {V : Type 0} → Rules V → Rows V → List ℕ → Result (Sheet V) SheetFault
sheet_of R rows bs = cond (nat_le (length bs) 32768) (on_err Line (sections R rows (start bs))) (Err TooLong)

-- a sheet by its head, its values and what follows its rows
abbrev pub sheet_by : {V : Type 0} → Head → List V → Found → Sheet V
sheet_by d vs f = record {
  cells = d.size.cells;
  share = d.size.share;
  rows = d.rows;
  values = vs;
  moves = f.batch.moves.items;
  steps = f.batch.steps.items;
  choices = f.choices.items;
}

-- the lists of a caller that a sheet is read into
pub record Lists (V : Type 0) : Type 0 where
  pub values : List V
  pub moves : List Move
  pub steps : List Step
  pub choices : List ℕ

abbrev pub lists : {V : Type 0} → List V → List Move → List Step → List ℕ → Lists V
lists vs ms ss cs = record { values = vs; moves = ms; steps = ss; choices = cs }

-- they have their full lengths
abbrev pub roomy : {V : Type 0} → Lists V → Bool
roomy l = nat_le 1024 (length l.values) && nat_le 256 (length l.moves) && nat_le 1024 (length l.steps) && nat_le 64 (length l.choices)

abbrev pub filled : {V : Type 0} → Sheet V → Lists V → Lists V
filled s l = lists (laid s.values l.values) (laid s.moves l.moves) (laid s.steps l.steps) (laid s.choices l.choices)

abbrev pub counts_of : {V : Type 0} → Sheet V → Counts
counts_of s = record { cells = s.cells; share = s.share; rows = s.rows; moves = length s.moves; steps = length s.steps; choices = length s.choices }

-- what a call of read answers, and the lists after it
pub record Answer (V : Type 0) : Type 0 where
  pub answer : Result Counts SheetFault
  pub lists : Lists V

abbrev pub answering : {V : Type 0} → Result Counts SheetFault → Lists V → Answer V
answering r l = record { answer = r; lists = l }

-- what was read goes into the lists; a refusal leaves them as they were
abbrev pub handed_out : {V : Type 0} → Result (Sheet V) SheetFault → Lists V → Answer V
handed_out (Ok s) l = answering (Ok (counts_of s)) (filled s l)
handed_out (Err e) l = answering (Err e) l

abbrev pub read_into : {V : Type 0} → Rules V → Rows V → List ℕ → Lists V → Answer V
read_into R rows bs l = handed_out (cond (roomy l) (sheet_of R rows bs) (Err ListTooShort)) l
