use Rattle.std.proofs.Common.{refl}
use Rattle.clusters.specs.Roots.{joined_roots}
use Rattle.dealing.specs.Active.{active_flags}
use Rattle.dealing.specs.Lanes.{dealt, line_up_of, lane_rows}
use Rattle.dealing.specs.Stages.{clustered}
use Rattle.books.specs.Worked.{full_lists, worked_opening}
use Rattle.books.proofs.worked.run_as_worked.Goals as goal

pub returns : goal.returns
unfolding active_flags clustered dealt line_up_of lane_rows joined_roots
returns c = record {
  opens = record {
    before = full_lists;
    parents = worked_opening.lists.parents;
    marks = worked_opening.lists.marks;
    pairs = worked_opening.lists.pairs;
    opens = refl;
  };
  queue_1 = refl;
  queue_2 = refl;
  rest_list = refl;
  replies = refl;
  half_way = refl;
  board = refl;
  values = refl;
  outcomes = refl;
  queue_2_first = refl;
}
