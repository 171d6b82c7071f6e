use Rattle.std.proofs.Common.{◌≡◌, rules}
use Rattle.yard.specs.Told.{told}
use Rattle.listings.specs.Laying.{listed_as, laid_into}
use Rattle.listings.specs.Listings.{listing_bytes}
use Rattle.listings.specs.Lists.{run_in}
use Rattle.listings.proofs.listing.list.Goals as goal

pub returns : goal.returns
returns g c =
    let text = listing_bytes g.K.Kind.rows g.K.Kind.equals (run_in c.args.run (g.B.Board.values c.args.board.now)) in
    let laid : listed_as (told c.lay.result) c.lay.new.listing ≡ laid_into text c.args.listing.now = c.lay.ensures text (λ given left call. search rules) in
    search rules
