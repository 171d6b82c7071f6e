-- All places that are counted are empty at the end.
use Rattle.std.proofs.Common.{◌≡◌, ◌∙◌, min, length, replicate, None, ap, rules, arith}
use Rattle.std.proofs.lemmas.List.{length-take}
use Rattle.yard.proofs.Filling.{filled}
use Rattle.boards.proofs.Changes.{end_changes, end_values, end_past}
use Rattle.boards.proofs.shadow.clear.Goals as goal

pub returns : goal.returns
returns g c =
    let cs = c.args.changes.now in
    let ds = c.fill_with.new.self in
    let bs = c.args.base.now in
    let n = c.min-cells.result in
    let all : n ≡ min (length cs) (length bs) = omega arith in
    let long : length ds ≡ n = omega (arith, c.fill_with.ensures.len, length-take n cs) in
    let empty : ds ≡ replicate n None = filled _ None (λ p x q k. search rules) _ _ _ c.fill_with.ensures.ran.1 ∙ ap (λ k. replicate k None) long in
    record {
      changes = end_changes cs ds bs n all empty;
      values = end_values cs ds bs n all empty;
      past = end_past cs ds bs n all empty;
    }
