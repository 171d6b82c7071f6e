use Rattle.std.proofs.Common.{◌≡◌, drop}
use Rattle.listings.specs.Pens.{penned, wrote}
use Rattle.listings.proofs.pen.Pen.write.Given as goal

abbrev pub invariant-loop-byte : goal.invariant-loop-byte
invariant-loop-byte l = wrote (drop l.byte-index l.text) (penned l.self) ≡ wrote l.text (penned l.initial.self)
