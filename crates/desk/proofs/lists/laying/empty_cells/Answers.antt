use Rattle.std.proofs.Common.{◌≡◌, [], ◌∷◌, ◌++◌, replicate, ap, ◌∙◌, arith}
use Rattle.std.proofs.lemmas.List.{replicate_more}
use Rattle.desk.proofs.lists.laying.empty_cells.Goals as goal

pub loop-preserved : goal.loop-preserved
loop-preserved g c =
    c.in_ok-push.ensures.items
    ∙ (λ j. c.loop.invariant j ++ c.unnamed.ensures j ∷ [])
    ∙ replicate_more c.loop.counter g.K.Kind.rows.unnamed

pub returns : goal.returns
returns g c =
    let all : c.loop.counter ≡ 1024 = omega arith in
    c.loop.invariant ∙ ap (λ n. replicate n g.K.Kind.rows.unnamed) all
