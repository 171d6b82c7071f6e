-- Moves worked whole: all the steps of a move in order, or, where one fails, the board untouched.
use Rattle.std.specs.Prelude.{ℕ, suc, List, [], ◌∷◌, slice_set}
use Rattle.yard.specs.declared.batch.Step.{Step}
use Rattle.yard.specs.Rules.{Rules}
use Rattle.yard.specs.Runs.{End, done, failed}
use Rattle.books.specs.Scripts.{Script, move_steps}
use Rattle.books.specs.Steps.{Went, goes, stuck, applied}

-- the values after the last step, or the failing step, from 1, and its cause
pub data Worked (V : Type 0) : Type 0 where
  through : List V → Worked V
  halted : ℕ → ℕ → Worked V

-- the values of a board, and how each move ended
pub record Stand (V : Type 0) : Type 0 where
  pub values : List V
  pub ends : List End

abbrev pub stand : {V : Type 0} → List V → List End → Stand V
stand values ends = record { values = values; ends = ends }

abbrev pub went_on : {V : Type 0} → ℕ → (List V → Worked V) → Went V → Worked V
went_on k on (goes ws) = on ws
went_on k on (stuck cause) = halted k cause

-- steps in their order, after k others
abbrev pub works : {V : Type 0} → Rules V → List V → ℕ → List Step → Worked V
works R vs k [] = through vs
works R vs k (s ∷ ss) = went_on (suc k) (λ ws. works R ws (suc k) ss) (applied R vs s)

abbrev pub ended : {V : Type 0} → Stand V → ℕ → Worked V → Stand V
ended st m (through ws) = stand ws (slice_set st.ends m done)
ended st m (halted k cause) = stand st.values (slice_set st.ends m (failed k cause))

module _ {V : Type 0} (R : Rules V) (S : Script) where
  -- a move, moves one after the other, and lanes one after the other
  abbrev pub whole : Stand V → ℕ → Stand V
  whole st m = ended st m (works R st.values 0 (move_steps S m))

  abbrev pub wholes : Stand V → List ℕ → Stand V
  wholes st [] = st
  wholes st (m ∷ ms) = wholes (whole st m) ms

  abbrev pub lanes_whole : (ℕ → List ℕ) → Stand V → List ℕ → Stand V
  lanes_whole lane st [] = st
  lanes_whole lane st (q ∷ qs) = lanes_whole lane (wholes st (lane q)) qs
