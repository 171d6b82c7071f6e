use Rattle.std.proofs.Common.{rules}
use Rattle.std.proofs.lemmas.List.{map-set}
use Rattle.running.proofs.run.Run.take_turn.Goals as goal

pub returns-in-Ok-2-clause-turn : goal.returns-in-Ok-2-clause-turn
returns-in-Ok-2-clause-turn g c = rw map-set (search rules)

pub returns-in-Err-clause-turn : goal.returns-in-Err-clause-turn
returns-in-Err-clause-turn g c = rw map-set (search rules)
