use Rattle.std.proofs.Common.{sym, ◌∙◌}
use Rattle.clusters.proofs.Climbing.{root_below}
use Rattle.clusters.proofs.RootLists.{get_or-roots_of}
use Rattle.dealing.proofs.rooting.root.Goals as goal

pub returns : goal.returns
returns c =
    record {
      root = c.find.ensures ∙ sym (get_or-roots_of c.args.parents.now c.args.cell 0 c.requires);
      within = rw c.find.ensures (root_below c.args.parents.now c.args.cell c.requires);
    }
