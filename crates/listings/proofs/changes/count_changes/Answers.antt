use Rattle.std.proofs.Common.{◌∙◌, rules}
use Rattle.std.proofs.lemmas.Iterator.{YieldsList-from_slice}
use Rattle.std.proofs.lemmas.Iterator.Consumers.{YieldsList-from_enumerate, YieldsList-from_filter, count_from_yields_List}
use Rattle.std.specs.List.{slice_get}
use Rattle.std.specs.Option.{is_some}
use Rattle.listings.specs.Listings.{change_of}
use Rattle.listings.proofs.Changed.{counted}
use Rattle.listings.proofs.changes.count_changes.Goals as goal

pub returns : goal.returns
returns g c =
    let equals = g.K.Kind.equals in
    let closing = g.B.Board.values c.args.board.now in
    let values = c.args.values.now in
    count_from_yields_List _ _ c.count.ensures.ran
    (YieldsList-from_filter _ (λ p. is_some (change_of equals p.1 (slice_get closing p.0))) (YieldsList-from_enumerate (YieldsList-from_slice values cc) cc) c.filter.ensures.closure (λ x b q k. search rules))
    ∙ counted g.K.Kind.rows equals closing 0 values
