use Rattle.std.proofs.Common.{◌≡◌, map}
use Rattle.std.specs.List.{flat_map}
use Rattle.yard.specs.Runs.{end_of}
use Rattle.listings.specs.Lines.{line}
use Rattle.listings.specs.Listings.{outcome_lines}
use Rattle.listings.specs.Pens.{penned, wrote}
use Rattle.listings.proofs.sections.list_outcomes.Given as goal

-- what is left is that of the moves and outcomes that are left
abbrev pub invariant-loop-found : goal.invariant-loop-found
invariant-loop-found l =
    wrote (flat_map line (outcome_lines l.found-iterator.a.rest.now (map end_of l.found-iterator.b.rest.now))) (penned l.pen)
    ≡ wrote (flat_map line (outcome_lines l.moves (map end_of l.outcomes))) (penned l.initial.pen)
