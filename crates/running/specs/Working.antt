-- One step of a move on a board: what it stands on, and how it turned out.
use Rattle.std.specs.Prelude.{◌≡◌, ℕ, ◌+◌, ◌<◌, true, List, length, get_or, Ok, Err, Result, slice_index_or}
use Rattle.yard.specs.declared.batch.Step.{Step}
use Rattle.yard.specs.declared.cause.Cause.{Cause}
use Rattle.yard.specs.Numbers.{cause_number}
use Rattle.yard.specs.Rules.{Rules}
use Rattle.dealing.specs.Active.{no_step}
use Rattle.books.specs.Steps.{goes, stuck, applied, kept, set_back}

module _ {V : Type 0} (R : Rules V) (steps : List Step) where
  -- the step at a place is a known order on a cell of the board, and there is room to save what the cell holds
  pub record Workable (values saved : List V) (place : ℕ) : Type 0 where
    pub a_step : place < length steps
    pub room : place < length saved
    pub a_cell : (get_or steps place no_step).cell < length values
    pub known : R.knows (get_or steps place no_step).order.letter (get_or steps place no_step).order.number ≡ true

  -- the step after `taken` others of the move that begins at `first`: the board held vs before it and holds vs' after it, and old and old' were saved
  module _ (first taken : ℕ) (vs old vs' old' : List V) where
    pub record Passed : Type 0 where
      pub values : applied R vs (slice_index_or steps (first + taken) no_step) ≡ goes vs'
      pub saved : old' ≡ kept R vs (slice_index_or steps (first + taken) no_step) old (first + taken)

    -- with the number of its cause: the steps before it are set back
    pub record Failed (n : ℕ) : Type 0 where
      pub cause : applied R vs (slice_index_or steps (first + taken) no_step) ≡ stuck n
      pub values : vs' ≡ set_back R steps old first taken vs
      pub saved : old' ≡ old

    abbrev pub Stepped : Result (Unit {0}) Cause → Type 0
    Stepped (Ok u) = Passed
    Stepped (Err cause) = Failed (cause_number cause)
