use Rattle.dealing.proofs.StandsOnce.{stands_once}
use Rattle.dealing.proofs.facts.each_move_stands_once.Goals as goal

pub returns : goal.returns
returns g c = stands_once g.K.Kind.rules
