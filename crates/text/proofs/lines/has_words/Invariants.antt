use Rattle.std.proofs.Common.{◌≡◌, true, not, eqb, length, take}
use Rattle.std.specs.List.{list_all}
use Rattle.text.specs.Lines.{parts}
use Rattle.text.proofs.lines.has_words.Given as goal

abbrev pub invariant-loop-word : goal.invariant-loop-word
invariant-loop-word l = record { seen : l.words ≡ length l.yielded; filled : list_all (λ part. not (eqb (length part) 0)) (take l.words (parts l.line)) ≡ true }
