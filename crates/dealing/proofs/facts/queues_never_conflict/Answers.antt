use Rattle.dealing.proofs.NoConflict.{never}
use Rattle.dealing.proofs.facts.queues_never_conflict.Goals as goal

pub returns : goal.returns
returns g c = never g.K.Kind.rules
