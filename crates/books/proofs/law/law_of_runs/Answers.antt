use Rattle.books.proofs.Proving.{law_of_runs}
use Rattle.books.proofs.law.law_of_runs.Goals as goal

pub returns : goal.returns
returns g c = law_of_runs g.K.Kind.rules g.met.K.Kind.looks
