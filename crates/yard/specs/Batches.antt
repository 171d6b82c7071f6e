-- A batch by what it lists, wherever its lists lie.
use Rattle.std.specs.Prelude.{ℕ, List}
use Rattle.yard.specs.declared.batch.Step.{Step}
use Rattle.yard.specs.declared.batch.Move.{Move}
use Rattle.yard.specs.declared.batch.Batch.{Batch}

pub record Listed : Type 0 where
  pub cells : ℕ
  pub share : ℕ
  pub moves : List Move
  pub steps : List Step
  pub choices : List ℕ

abbrev pub listed : Batch → Listed
listed b = record { cells = b.cells; share = b.share; moves = b.moves.now; steps = b.steps.now; choices = b.choices.now }
