use Rattle.std.proofs.Common.{◌≡◌, ◌≤◌, drop}
use Rattle.text.specs.Numerals.{worth_from}
use Rattle.text.proofs.numerals.value_of.Given as goal

abbrev pub invariant-loop-byte : goal.invariant-loop-byte
invariant-loop-byte l = record { small : l.value ≤ 65535; worth : worth_from l.value (drop l.byte-index l.part) ≡ worth_from 0 l.part }
