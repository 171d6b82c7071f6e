-- How many lines the changed cells have.
use Rattle.std.proofs.Common.{◌≡◌, ℕ, ◌+◌, Bool, cond, List, [], ◌∷◌, ◌++◌, length, Some, None, Option, refl, arith}
use Rattle.std.specs.List.{slice_get, filter, enumerate_from}
use Rattle.std.specs.Option.{is_some}
use Rattle.yard.specs.Rows.{Rows}
use Rattle.listings.specs.Listings.{change_of, change_line, change_lines}

module _ {V : Type 0} (rows : Rows V) (equals : V → V → Bool) (closing : List V) where
  -- one line for a changed cell, and none for another
  one_line : (k : ℕ) (v : V) (change : Option V) (changed : List (ℕ × V)) (rest : List (List ℕ)) → length changed ≡ length rest
      → length (cond (is_some change) ((k, v) ∷ changed) changed) ≡ length (change_line rows k change ++ rest)
  one_line k v None changed rest e = e
  one_line k v (Some w) changed rest e = omega (arith, e)

  pub counted : (k : ℕ) (values : List V) → length (filter (λ p. is_some (change_of equals p.1 (slice_get closing p.0))) (enumerate_from k values)) ≡ length (change_lines rows equals closing k values)
  counted k [] = refl
  counted k (v ∷ vs) = one_line k v (change_of equals v (slice_get closing k)) _ (change_lines rows equals closing (k + 1) vs) (counted (k + 1) vs)
