use Rattle.std.proofs.Common.{refl}
use Rattle.std.specs.Fmt.{digits}
use Rattle.listings.proofs.worked.listing_as_worked.Goals as goal

pub returns : goal.returns
unfolding digits
returns c = record { listing = refl; slip = refl }
