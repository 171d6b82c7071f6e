use Rattle.std.proofs.Common.{◌≡◌, drop}
use Rattle.listings.specs.Lines.{spaced}
use Rattle.listings.specs.Pens.{penned, wrote}
use Rattle.listings.proofs.pen.Pen.last_words.Given as goal

abbrev pub invariant-loop-word : goal.invariant-loop-word
invariant-loop-word l = wrote (spaced (drop l.word-index l.words)) (penned l.self) ≡ wrote (spaced l.words) (penned l.initial.self)
