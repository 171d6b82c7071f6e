-- Clusters that go on from those that went on from others.
use Rattle.std.proofs.Common.{◌∙◌, refl}
use Rattle.dealing.specs.declared.clustering.Clustering.{Clustering}
use Rattle.dealing.specs.declared.clustering.SpecialClusters.{SpecialClusters}
use Rattle.dealing.specs.Clustering.{Continues, GoesOn}

pub as_before : (a : Clustering) → Continues a a
as_before a = record { prepared = refl; long = refl; parents = refl; marks = refl }

pub and_then : {a b c : Clustering} → Continues a b → Continues b c → Continues a c
and_then p q = record { prepared = q.prepared ∙ p.prepared; long = q.long ∙ p.long; parents = q.parents ∙ p.parents; marks = q.marks ∙ p.marks }

pub going_on : (a : SpecialClusters) → GoesOn a a
going_on a = record { clusters = as_before a.clusters; known = refl; pairs = refl }

pub goes_further : {a b c : SpecialClusters} → GoesOn a b → GoesOn b c → GoesOn a c
goes_further p q = record { clusters = and_then p.clusters q.clusters; known = q.known ∙ p.known; pairs = q.pairs ∙ p.pairs }
