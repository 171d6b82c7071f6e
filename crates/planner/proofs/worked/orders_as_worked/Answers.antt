use Rattle.std.proofs.Common.{refl}
use Rattle.planner.proofs.worked.orders_as_worked.Goals as goal

pub returns : goal.returns
returns c = record { tram_taken = refl; tram_taken_again = refl; up_to_the_limit = refl; past_the_limit = refl; no_headroom = refl; all_shed = refl }
