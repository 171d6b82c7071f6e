-- Allocate: the lane of each move, and the line-up. Lane 0 is the rest list, lane q is queue q.
use Rattle.std.specs.Prelude.{ℕ, zero, suc, ◌+◌, Bool, true, cond, ◌&&◌, List, [], ◌∷◌, ◌++◌, map, length, is_some, Some, None, Option, ◌==◌, slice_index}
use Rattle.std.specs.List.{range_with_len}
use Rattle.std.specs.Option.{option_map, unwrap_or}
use Rattle.yard.specs.declared.batch.Step.{Step}
use Rattle.yard.specs.declared.batch.Move.{Move}
use Rattle.yard.specs.declared.run.LaneRow.{LaneRow}
use Rattle.yard.specs.Batches.{Listed}
use Rattle.yard.specs.Rules.{Rules}
use Rattle.dealing.specs.Active.{active_flags, move_cells}
use Rattle.dealing.specs.Stages.{clustered}

-- all the cells have the root r
abbrev pub all_at : List ℕ → ℕ → List ℕ → Bool
all_at rs r [] = true
all_at rs r (c ∷ cs) = slice_index rs c == r && all_at rs r cs

-- the move touches at most one cluster
abbrev pub together : List ℕ → List ℕ → Bool
together rs [] = true
together rs (c ∷ cs) = all_at rs (slice_index rs c) cs

-- what its queue goes by: 0 without active cells, else 1 and the cluster's root
abbrev pub key_of : List ℕ → List ℕ → ℕ
key_of rs [] = 0
key_of rs (c ∷ cs) = suc (slice_index rs c)

-- the number of a key's queue; the list has the keys of the queues made, in order
abbrev pub queue_in : List ℕ → ℕ → Option ℕ
queue_in [] k = None
queue_in (x ∷ xs) k = cond (x == k) (Some 1) (option_map suc (queue_in xs k))

abbrev pub noted : List ℕ → ℕ → List ℕ
noted made k = cond (is_some (queue_in made k)) made (made ++ k ∷ [])

abbrev pub queues_made : List ℕ → List (List ℕ) → List ℕ → List ℕ
queues_made rs [] made = made
queues_made rs (cs ∷ css) made = queues_made rs css (cond (together rs cs) (noted made (key_of rs cs)) made)

-- the lane of a move: 0 is the rest list
abbrev pub lane_in : List ℕ → List ℕ → List ℕ → ℕ
lane_in rs made cs = cond (together rs cs) (unwrap_or (queue_in made (key_of rs cs)) 0) 0

abbrev pub lanes_in : List ℕ → List ℕ → List (List ℕ) → List ℕ
lanes_in rs made [] = []
lanes_in rs made (cs ∷ css) = lane_in rs made cs ∷ lanes_in rs made css

-- the lane of each move, and how many queues there are
pub record Dealt : Type 0 where
  pub lanes : List ℕ
  pub queues : ℕ

abbrev pub dealt_of : List ℕ → ℕ → Dealt
dealt_of lanes queues = record { lanes = lanes; queues = queues }

abbrev pub allocated : List ℕ → List (List ℕ) → Dealt
allocated rs moves = let made = queues_made rs moves [] in dealt_of (lanes_in rs made moves) (length made)

-- a batch dealt: prepare, spot, fuse, merge, allocate
unfoldable pub dealt : {V : Type 0} → Rules V → ℕ → ℕ → List Step → List Move → List ℕ → Dealt
dealt R cells share steps moves choices =
    let css = move_cells (active_flags R cells steps) steps moves in allocated (clustered cells share css choices) css

abbrev pub dealing : {V : Type 0} → Rules V → Listed → Dealt
dealing R b = dealt R b.cells b.share b.steps b.moves b.choices

-- the moves of a lane, in batch order; k is the number of the first
abbrev pub places_from : ℕ → ℕ → List ℕ → List ℕ
places_from k q [] = []
places_from k q (l ∷ ls) = cond (l == q) (k ∷ places_from (suc k) q ls) (places_from (suc k) q ls)

abbrev pub lined : List ℕ → List ℕ → List ℕ
lined lanes [] = []
lined lanes (q ∷ qs) = places_from 0 q lanes ++ lined lanes qs

-- the queues in order, then the rest list
unfoldable pub line_up_of : Dealt → List ℕ
line_up_of d = lined d.lanes (range_with_len 1 d.queues ++ 0 ∷ [])

-- the moves of a lane, and the queues one by one
abbrev pub lane_moves : Dealt → ℕ → List ℕ
lane_moves d q = places_from 0 q d.lanes

abbrev pub queues_of : Dealt → List (List ℕ)
queues_of d = map (lane_moves d) (range_with_len 1 d.queues)

-- where the moves of a lane begin in the line-up
abbrev pub start_of : Dealt → ℕ → ℕ
start_of d zero = length (lined d.lanes (range_with_len 1 d.queues))
start_of d (suc q) = length (lined d.lanes (range_with_len 1 q))

-- a lane from a to before b, no step of it taken
abbrev pub row_from : ℕ → ℕ → LaneRow
row_from a b = record { first = a; next = a; end = b; taken = 0 }

abbrev pub row_of : Dealt → ℕ → LaneRow
row_of d q = row_from (start_of d q) (start_of d q + length (lane_moves d q))

-- the rows of lane 0 and of the queues
unfoldable pub lane_rows : Dealt → List LaneRow
lane_rows d = map (row_of d) (range_with_len 0 (d.queues + 1))
