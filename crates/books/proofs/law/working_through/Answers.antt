use Rattle.books.proofs.Through.{works_through}
use Rattle.books.proofs.law.working_through.Goals as goal

pub returns : goal.returns
returns g c = works_through g.K.Kind.rules g.met.K.Kind.looks
