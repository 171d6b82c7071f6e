use Rattle.dealing.proofs.Shown.{well_dealt}
use Rattle.dealing.proofs.facts.dealings_are_sound.Goals as goal

pub returns : goal.returns
returns g c = well_dealt g.K.Kind.rules
