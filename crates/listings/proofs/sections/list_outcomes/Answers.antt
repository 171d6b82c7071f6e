use Rattle.std.proofs.Common.{map, inl, inr, arith}
use Rattle.std.proofs.lemmas.List.{length-map, nil_from_length}
use Rattle.std.proofs.lemmas.Slice.Zip.{length-zip}
use Rattle.std.specs.List.{zip}
use Rattle.yard.specs.Runs.{end_of}
use Rattle.listings.proofs.Penned.{turns}
use Rattle.listings.proofs.sections.list_outcomes.Goals as goal

pub returns : goal.returns
returns c =
    let it = c.loop-found.found-iterator in
    let moves = it.a.rest.now in
    let ends = map end_of it.b.rest.now in
    let none = nil_from_length (zip moves ends) (elim c.in-None.ensures.steps [ inl p ↦ omega (arith, p.1.0, length-zip moves ends) | inr p ↦ omega (arith, p.1.0, length-zip moves ends, length-map it.b.rest.now end_of) ]) in
    grind (arith, turns)
