use Rattle.std.proofs.Common.{◌≡◌, ℕ, suc, ◌+◌, ◌-◌, ◌<◌, ◌∷◌, ap, arith}
use Rattle.yard.specs.Rows.{Rows}
use Rattle.listings.specs.Listings.{words_from}
use Rattle.listings.proofs.Penned.{turns}
use Rattle.listings.proofs.changes.list_cell.Goals as goal

words_more : {V : Type 0} (rows : Rows V) (place : ℕ) (v : V) → place < rows.words → words_from rows place (rows.words - place) v ≡ rows.tells place v ∷ words_from rows (place + 1) (rows.words - (place + 1)) v
words_more rows place v h = let left : rows.words - place ≡ suc (rows.words - (place + 1)) = omega arith in ap (λ n. words_from rows place n v) left

pub loop-place-preserved : goal.loop-place-preserved
loop-place-preserved g c =
    let more = words_more g.K.Kind.rows c.loop-place.place c.args.value (omega (arith, g.met.K.Kind.row_words)) in
    grind (arith, turns)
