use Rattle.std.proofs.Common.{◌<◌, ◌≤◌, length, ◌^◌, ap, ◌∙◌, arith, rules}
use Rattle.std.proofs.lemmas.Bool.{le-leb, lt-leb}
use Rattle.listings.specs.Pens.{Penned, wrote}
use Rattle.listings.proofs.Penned.{wrote_at, wrote_whole}
use Rattle.listings.proofs.laying.lay.Goals as goal

pub returns-then-count-listing : goal.returns-then-count-listing
returns-then-count-listing g c =
    λ text writes.
    let list = c.args.listing.now in
    let short : length list < 2 ^ 63 = search rules in
    let counted = ap (λ (u : Penned). u.at) (writes _ _ c.write.ensures ∙ ap (wrote text) c.over-counting.ensures) ∙ wrote_at text _ (omega arith) in
    rw (lt-leb (length text) (length list) (omega (arith, counted, c.count.ensures)))

pub returns : goal.returns
returns g c =
    λ text writes.
    let list = c.args.listing.now in
    let short : length list < 2 ^ 63 = search rules in
    let counted = ap (λ (u : Penned). u.at) (writes _ _ c.write.ensures ∙ ap (wrote text) c.over-counting.ensures) ∙ wrote_at text _ (omega arith) in
    let room : length text ≤ length list = omega (arith, counted, c.count.ensures) in
    let written = writes _ _ c.write-2.ensures ∙ ap (wrote text) c.over-pen.ensures ∙ wrote_whole text list _ room (omega arith) in
    let kept = ap (λ (u : Penned). u.lent) written in
    rw (le-leb (length text) (length list) room) (search rules)
