-- Open: when it refuses, and what it leaves in the lists that are lent to it.
use Rattle.std.specs.Prelude.{◌≡◌, ℕ, ◌+◌, Bool, cond, ◌&&◌, List, [], ◌∷◌, length, replicate, Some, None, Ok, Err, Option, Result, ◌==◌, nat_le, nat_lt}
use Rattle.std.specs.List.{list_all}
use Rattle.yard.specs.declared.refusal.Refusal.{Refusal}
use Rattle.yard.specs.declared.batch.Step.{Step}
use Rattle.yard.specs.declared.batch.Move.{Move}
use Rattle.yard.specs.declared.run.LaneRow.{LaneRow}
use Rattle.yard.specs.declared.run.Outcome.{Outcome}
use Rattle.yard.specs.declared.run.Outcome.TheVariants.{NotEnded}
use Rattle.yard.specs.Batches.{Listed}
use Rattle.yard.specs.Fronts.{laid}
use Rattle.yard.specs.Moves.{names}
use Rattle.yard.specs.Numbers.{refusal_number}
use Rattle.yard.specs.Rules.{Rules}
use Rattle.yard.specs.Runs.{Numbers}
use Rattle.yard.specs.Told.{Told, gives, refuses}
use Rattle.dealing.specs.Lanes.{Dealt, dealing, line_up_of, lane_rows}

-- a move of 1 to 8 steps that begins at a place
abbrev pub begins_at : ℕ → Move → Bool
begins_at at m = m.first == at && nat_le 1 m.count && nat_le m.count 8

-- such moves end to end from one place among the steps to another
abbrev pub end_to_end : ℕ → List Move → ℕ → Bool
end_to_end at [] end = at == end
end_to_end at (m ∷ ms) end = begins_at at m && end_to_end (at + m.count) ms end

-- the batch has its shape: few enough of everything, and its moves end to end over all its steps
abbrev pub shaped : Listed → Bool
shaped b = nat_le (length b.moves) 256 && nat_le (length b.steps) 1024 && nat_le (length b.choices) 64 && end_to_end 0 b.moves (length b.steps)

-- the share is 1 to 1,000, the cells are 1 to 1,024
abbrev pub in_range : Listed → Bool
in_range b = nat_le 1 b.share && nat_le b.share 1000 && nat_le 1 b.cells && nat_le b.cells 1024

abbrev pub all_below : ℕ → List ℕ → Bool
all_below n xs = list_all (λ x. nat_lt x n) xs

-- a step is an order that the kind knows, and the cells that it names are below the cells
abbrev pub known : {V : Type 0} → Rules V → ℕ → Step → Bool
known R cells s = R.knows s.order.letter s.order.number && all_below cells (names s)

abbrev pub all_known : {V : Type 0} → Rules V → ℕ → List Step → Bool
all_known R cells ss = list_all (known R cells) ss

-- the lists that open writes: what it fills, and what it works with
pub record Lists : Type 0 where
  pub line_up : List ℕ
  pub lanes : List LaneRow
  pub outcomes : List Outcome
  pub parents : List ℕ
  pub marks : List ℕ
  pub pairs : List ℕ

abbrev pub lists : List ℕ → List LaneRow → List Outcome → List ℕ → List ℕ → List ℕ → Lists
lists line_up lanes outcomes parents marks pairs =
    record { line_up = line_up; lanes = lanes; outcomes = outcomes; parents = parents; marks = marks; pairs = pairs }

-- they have their full lengths
abbrev pub roomy : Lists → Bool
roomy l =
    nat_le 256 (length l.line_up) && nat_le 257 (length l.lanes) && nat_le 256 (length l.outcomes)
    && nat_le 1024 (length l.parents) && nat_le 1024 (length l.marks) && nat_le 4096 (length l.pairs)

-- why open refuses, by number: `room` says whether its lists have their full lengths, `count` how many cells the board has
abbrev pub refusal : {V : Type 0} → Rules V → Listed → Bool → ℕ → Option ℕ
refusal R b room count =
    cond (shaped b) (cond (in_range b) (cond (all_known R b.cells b.steps) (cond (all_below (length b.moves) b.choices)
    (cond room (cond (nat_le b.cells count) None (Some 17)) (Some 16)) (Some 15)) (Some 14)) (Some 13)) (Some 12)

abbrev pub refused_by : Result (Unit {0}) Refusal → Option ℕ
refused_by (Ok u) = None
refused_by (Err r) = Some (refusal_number r)

-- what a call of open answers, and the lists after it
pub record Opened : Type 0 where
  pub answer : Told Numbers
  pub lists : Lists

abbrev pub opened : Told Numbers → Lists → Opened
opened r l = record { answer = r; lists = l }

abbrev pub numbers_of : Listed → Dealt → Numbers
numbers_of b d = record { cells = b.cells; moves = length b.moves; steps = length b.steps; queues = d.queues }

-- the line-up, the rows of the lanes, and no move ended; the lists that it worked with hold 0
abbrev pub filled : Listed → Dealt → Lists → Lists
filled b d l =
    lists (laid (line_up_of d) l.line_up) (laid (lane_rows d) l.lanes) (laid (replicate (length b.moves) NotEnded) l.outcomes)
    (laid (replicate b.cells 0) l.parents) (laid (replicate b.cells 0) l.marks) (laid (replicate 4096 0) l.pairs)

-- a refusal leaves every list as it was
abbrev pub settled : Option ℕ → Listed → Dealt → Lists → Opened
settled None b d l = opened (gives (numbers_of b d)) (filled b d l)
settled (Some n) b d l = opened (refuses n) l

abbrev pub open_into : {V : Type 0} → Rules V → Listed → ℕ → Lists → Opened
open_into R b count l = settled (refusal R b (roomy l) count) b (dealing R b) l

-- lists that open left for a batch on a board of so many cells, whatever they held before
pub record AsOpened {V : Type 0} (R : Rules V) (b : Listed) (count : ℕ) (n : Numbers) (line_up : List ℕ) (lanes : List LaneRow) (outcomes : List Outcome) : Type 0 where
  pub before : Lists
  pub parents : List ℕ
  pub marks : List ℕ
  pub pairs : List ℕ
  pub opens : open_into R b count before ≡ opened (gives n) (lists line_up lanes outcomes parents marks pairs)
