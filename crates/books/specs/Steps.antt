-- What a step makes of the values of a board, what it saves, and how steps are set back.
use Rattle.std.specs.Prelude.{ℕ, zero, suc, ◌+◌, cond, List, Some, None, Option, slice_index_or, slice_set}
use Rattle.std.specs.List.{slice_get}
use Rattle.yard.specs.declared.batch.Step.{Step}
use Rattle.yard.specs.Moves.{writes}
use Rattle.yard.specs.Rules.{Rules, Effect, passes, fails}
use Rattle.dealing.specs.Active.{no_step}

-- the new values, or the number of the cause why not
pub data Went (V : Type 0) : Type 0 where
  goes : List V → Went V
  stuck : ℕ → Went V

-- a list with a value at a place, where there is one to put there
abbrev pub put : {V : Type 0} → List V → ℕ → Option V → List V
put vs place None = vs
put vs place (Some v) = slice_set vs place v

module _ {V : Type 0} (R : Rules V) where
  abbrev pub lands : List V → Step → Effect V → Went V
  lands vs s (passes w) = goes (slice_set vs s.cell w)
  lands vs s (fails n) = stuck n

  -- every step call whose cell is outside the board is refused before
  abbrev pub meets : List V → Step → Option V → Went V
  meets vs s None = stuck 0
  meets vs s (Some v) = lands vs s (R.makes s.order.letter s.order.number v)

  -- one step: its cell is set to what the order makes of it, be it a writing or a looking order
  abbrev pub applied : List V → Step → Went V
  applied vs s = meets vs s (slice_get vs s.cell)

  -- the saved list after a step at a place among the steps: a writing step keeps the old value of its cell there
  abbrev pub kept : List V → Step → List V → ℕ → List V
  kept vs s saved place = cond (writes R s) (put saved place (slice_get vs s.cell)) saved

  -- a writing step's old value goes back to its cell
  abbrev pub put_back : List V → Step → Option V → List V
  put_back vs s old = cond (writes R s) (put vs s.cell old) vs

  -- the values with so many steps from a place on set back, the latest first
  abbrev pub set_back : List Step → List V → ℕ → ℕ → List V → List V
  set_back steps saved first zero vs = vs
  set_back steps saved first (suc k) vs = set_back steps saved first k (put_back vs (slice_index_or steps (first + k) no_step) (slice_get saved (first + k)))
