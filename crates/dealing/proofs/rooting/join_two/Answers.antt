use Rattle.std.proofs.Common.{ap, ◌∙◌, arith}
use Rattle.clusters.specs.Roots.{roots_of}
use Rattle.clusters.proofs.RootLists.{join_roots}
use Rattle.dealing.proofs.rooting.join_two.Goals as goal

pub returns : goal.returns
returns c = ap roots_of c.join.ensures ∙ join_roots c.args.parents.now c.args.one c.args.other c.requires.one c.requires.other (omega arith)
