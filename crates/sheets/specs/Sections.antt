-- The sections of a sheet: so many lines of one sort, read one after another.
use Rattle.std.specs.Prelude.{ℕ, zero, suc, ◌+◌, List, [], ◌∷◌, ◌++◌, length, replicate, Ok, Err, Result, slice_set}
use Rattle.text.specs.declared.faults.LineFault.{LineFault}
use Rattle.text.specs.declared.faults.At.{At}
use Rattle.text.specs.Faults.{and_then, on_err, at_number}
use Rattle.text.specs.Reading.{Here}
use Rattle.yard.specs.declared.batch.Move.{Move}
use Rattle.yard.specs.declared.batch.Step.{Step}
use Rattle.yard.specs.Rules.{Rules}
use Rattle.yard.specs.Rows.{Rows}
use Rattle.sheets.specs.Lines.{Read, read, row_line, move_line, step_line}

-- a line's reading, whose fault tells the line
abbrev pub in_line : {A : Type 0} → (Here → Result (Read A) LineFault) → Here → Result (Read A) (At LineFault)
in_line f h = on_err (at_number h.line) (f h)

-- n readings one after another, each of which adds to what was read before it
abbrev pub repeat : {S : Type 0} → ℕ → (S → Here → Result (Read S) (At LineFault)) → S → Here → Result (Read S) (At LineFault)
repeat zero f s h = Ok (read s h)
repeat (suc n) f s h = and_then (f s h) (λ r. repeat n f r.got r.then)

-- one line more, at the end of a list
abbrev pub listing : {A : Type 0} → (Here → Result (Read A) LineFault) → List A → Here → Result (Read (List A)) (At LineFault)
listing f xs h = and_then (in_line f h) (λ r. Ok (read (xs ++ r.got ∷ []) r.then))

-- the values of the cells so far, and the least cell that the next row may name
pub record Occupied (V : Type 0) : Type 0 where
  pub low : ℕ
  pub values : List V

abbrev pub occupied : {V : Type 0} → ℕ → List V → Occupied V
occupied low vs = record { low = low; values = vs }

abbrev pub row_into : {V : Type 0} → Rows V → ℕ → Occupied V → Here → Result (Read (Occupied V)) (At LineFault)
row_into rows cells o h =
    and_then (in_line (row_line rows cells o.low) h) (λ r.
    Ok (read (occupied (r.got.cell + 1) (slice_set o.values r.got.cell r.got.value)) r.then))

-- n rows, over the values vs
abbrev pub rows_over : {V : Type 0} → Rows V → ℕ → ℕ → List V → Here → Result (Read (List V)) (At LineFault)
rows_over rows cells n vs h = and_then (repeat n (row_into rows cells) (occupied 0 vs) h) (λ r. Ok (read r.got.values r.then))

-- n rows, over cells that no row has named
abbrev pub rows_read : {V : Type 0} → Rows V → ℕ → ℕ → Here → Result (Read (List V)) (At LineFault)
rows_read rows cells n h = rows_over rows cells n (replicate cells rows.unnamed) h

-- the values that were read, if they were
abbrev pub values_read : {V : Type 0} → Result (Read (List V)) (At LineFault) → List V
values_read (Ok r) = r.got
values_read (Err e) = []

-- a move and all the steps up to its end
pub record Moved : Type 0 where
  pub move : Move
  pub steps : List Step

abbrev pub moved : Move → List Step → Moved
moved m ss = record { move = m; steps = ss }

-- a move, whose steps come after the steps ss
abbrev pub move_after : {V : Type 0} → Rules V → ℕ → List Step → Here → Result (Read Moved) (At LineFault)
move_after R cells ss h =
    and_then (in_line (move_line (length ss)) h) (λ m.
    and_then (repeat m.got.count (listing (step_line R cells)) ss m.then) (λ r.
    Ok (read (moved m.got r.got) r.then)))

-- moves, and the steps of all of them
pub record Moves : Type 0 where
  pub moves : List Move
  pub steps : List Step

abbrev pub moves_of : List Move → List Step → Moves
moves_of ms ss = record { moves = ms; steps = ss }

abbrev pub move_into : {V : Type 0} → Rules V → ℕ → Moves → Here → Result (Read Moves) (At LineFault)
move_into R cells l h =
    and_then (move_after R cells l.steps h) (λ r.
    Ok (read (moves_of (l.moves ++ r.got.move ∷ []) r.got.steps) r.then))

-- what a call that fills a list leaves: the list and where the reader stands, or its fault
abbrev pub leaves : {A B E : Type 0} → Result A E → B → Here → Result (Read B) E
leaves (Ok a) b h = Ok (read b h)
leaves (Err e) b h = Err e

-- the same where what is left is said of the answer
abbrev pub leaves_at : {A B E : Type 0} → Result A E → (A → B) → Here → Result (Read B) E
leaves_at (Ok a) f h = Ok (read (f a) h)
leaves_at (Err e) f h = Err e
