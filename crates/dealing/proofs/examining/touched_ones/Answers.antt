use Rattle.std.proofs.Common.{ap, ◌∙◌}
use Rattle.dealing.specs.Prepared.{cells_in}
use Rattle.dealing.specs.Special.{cells_known}
use Rattle.dealing.specs.Stages.{trues}
use Rattle.dealing.proofs.Touching.{marks_hits}
use Rattle.dealing.proofs.examining.touched_ones.Goals as goal

pub returns-clause-hits : goal.returns-clause-hits
returns-clause-hits c =
    c.marked_ones.ensures.which
    ∙ marks_hits c.args.parents.now (cells_in c.args.cells) c.mark_roots.new.marked.marks.now (cells_known c.args.special.now) c.mark_roots.ensures.long c.mark_roots.ensures.marks c.requires.special.below

pub returns-clause-count : goal.returns-clause-count
returns-clause-count c =
    c.marked_ones.ensures.count
    ∙ ap trues (marks_hits c.args.parents.now (cells_in c.args.cells) c.mark_roots.new.marked.marks.now (cells_known c.args.special.now) c.mark_roots.ensures.long c.mark_roots.ensures.marks c.requires.special.below)
