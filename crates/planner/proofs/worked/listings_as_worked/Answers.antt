use Rattle.std.proofs.Common.{refl}
use Rattle.clusters.specs.Roots.{joined_roots}
use Rattle.dealing.specs.Active.{active_flags}
use Rattle.dealing.specs.Lanes.{dealt, line_up_of, lane_rows}
use Rattle.dealing.specs.Stages.{clustered}
use Rattle.std.specs.Fmt.{digits}
use Rattle.planner.proofs.worked.listings_as_worked.Goals as goal

pub returns : goal.returns
unfolding active_flags clustered dealt line_up_of lane_rows joined_roots digits
returns c = record {
  worked = refl;
  share_200 = refl;
  share_201 = refl;
  no_choices = refl;
  no_moves = refl;
  tram_back = refl;
  up_to_the_limit = refl;
  past_the_limit = refl;
  no_headroom = refl;
  all_shed = refl;
  without_rows = refl;
  opening = refl;
  lane_3 = refl;
  lane_3_again = refl;
}
