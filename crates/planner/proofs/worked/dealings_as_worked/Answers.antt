use Rattle.std.proofs.Common.{refl}
use Rattle.clusters.specs.Roots.{joined_roots}
use Rattle.dealing.specs.Active.{active_flags}
use Rattle.dealing.specs.Lanes.{dealt, line_up_of}
use Rattle.dealing.specs.Stages.{clustered}
use Rattle.planner.proofs.worked.dealings_as_worked.Goals as goal

pub returns : goal.returns
unfolding active_flags clustered dealt line_up_of joined_roots
returns c = record {
  queues = refl;
  rest = refl;
  line_up = refl;
  share_200 = refl;
  share_200_rest = refl;
  share_201 = refl;
  no_choices = refl;
  no_moves = refl;
}
