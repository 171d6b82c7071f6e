use Rattle.std.proofs.Common.{◌∙◌, arith}
use Rattle.dealing.proofs.Naming.{prepare_all}
use Rattle.dealing.proofs.prepared.naming.prepare.Goals as goal

pub returns : goal.returns
returns g c =
    prepare_all g.K.Kind.rules c.args.steps.now c.loop-step.step-index _ c.loop-step.active (omega arith) (c.loop-step.auto.active ∙ c.fill.ensures.len) c.loop-step.invariant
