use Rattle.std.proofs.Common.{rules}
use Rattle.listings.specs.Lines.{slip_bytes}
use Rattle.listings.proofs.slip.list_slip.Goals as goal

pub returns : goal.returns
returns c = c.lay.ensures (slip_bytes c.args.slip.number c.args.slip.line c.args.slip.word) (λ given left call. search rules)
