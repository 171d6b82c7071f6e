-- The worked listing, of stands: 3 queues, a rest list of one move, all 5 moves done.
use Rattle.std.specs.Prelude.{◌≡◌, ℕ, cond, List, [], ◌∷◌, map, Some, codes, ◌==◌, nat_eq}
use Prim.Native.String.{String}
use Rattle.yard.specs.declared.batch.Move.{Move}
use Rattle.yard.specs.declared.run.LaneRow.{LaneRow}
use Rattle.yard.specs.declared.run.Outcome.TheVariants.{Done}
use Rattle.yard.specs.Rows.{Rows}
use Rattle.listings.specs.Lines.{slip_bytes}
use Rattle.listings.specs.Listings.{Run, run_of, listing_bytes}

-- a text with / for LF, as bytes; 47 is /
abbrev pub bytes_of : String → List ℕ
bytes_of s = map (λ b. cond (b == 47) 10 b) (codes s)

-- a row is a cell and a tram
abbrev trams : Rows ℕ
trams = record { letter = 83; words = 2; unnamed = 0; takes = λ place word v. Some word; tells = λ place v. v }

abbrev move : ℕ → ℕ → ℕ → Move
move label first count = record { label = label; first = first; count = count }

-- a lane that was worked to its end
abbrev worked : ℕ → ℕ → LaneRow
worked first end = record { first = first; next = end; end = end; taken = 0 }

abbrev pub worked_run : Run ℕ
worked_run = run_of (record { cells = 8; moves = 5; steps = 10; queues = 3 })
    (move 11 0 2 ∷ move 12 2 2 ∷ move 13 4 3 ∷ move 14 7 2 ∷ move 15 9 1 ∷ [])
    (0 ∷ 2 ∷ 1 ∷ 4 ∷ 3 ∷ [])
    (worked 4 5 ∷ worked 0 2 ∷ worked 2 3 ∷ worked 3 4 ∷ [])
    (Done ∷ Done ∷ Done ∷ Done ∷ Done ∷ [])
    (31 ∷ 32 ∷ 0 ∷ 0 ∷ 0 ∷ 0 ∷ 0 ∷ 0 ∷ [])
    (32 ∷ 0 ∷ 0 ∷ 0 ∷ 0 ∷ 0 ∷ 31 ∷ 0 ∷ [])

pub record ListingAsWorked : Type 0 where
  pub listing : listing_bytes trams nat_eq worked_run ≡ bytes_of "Q 3/2 0 2/1 1/1 4/R 1/3/E 5/11 1 0 0/12 1 0 0/13 1 0 0/14 1 0 0/15 1 0 0/V 3/0 32/1 0/6 31/"
  pub slip : slip_bytes 4 17 1 ≡ bytes_of "N 4 17 1/"
