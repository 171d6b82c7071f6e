-- Lists that calls of a closure filled.
use Rattle.std.proofs.Common.{◌≡◌, List, [], ◌∷◌, length, replicate, refl}
use Rattle.std.specs.List.{FoldsTo}

-- calls that give one value each time fill a list with it
pub filled : {P A : Type 0} (R : P → A → P → Type 0) (u : A) → ((p : P) (x : A) (q : P) → R p x q → x ≡ u) → (p : P) (xs : List A) (q : P) → FoldsTo R p xs q → xs ≡ replicate (length xs) u
filled R u e p [] q h = refl
filled R u e p (x ∷ xs) q h = λ i. e p x h.0 h.1 i ∷ filled R u e h.0 xs q h.2 i
