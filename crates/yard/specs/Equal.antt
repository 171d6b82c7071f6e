-- A test that says of two values whether they are equal.
use Rattle.std.specs.Prelude.{◌≡◌, Bool, true}

pub record TellsEqual {V : Type 0} (test : V → V → Bool) : Type 0 where
  pub sound : (v w : V) → test v w ≡ true → v ≡ w
  pub whole : (v : V) → test v v ≡ true
