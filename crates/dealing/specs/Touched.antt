-- What a move touches, by what its queue goes by.
use Rattle.std.specs.Prelude.{ℕ, suc, ◌<◌, cond, List, Some, None, Option}
use Rattle.dealing.specs.declared.touched.Touched.{Touched}
use Rattle.dealing.specs.declared.touched.Touched.TheVariants.{Nothing, One, Several}
use Rattle.dealing.specs.Lanes.{together, key_of}

-- the key of a move's queue; none for a move that touches two clusters or more
abbrev pub key_in : List ℕ → List ℕ → Option ℕ
key_in rs cs = cond (together rs cs) (Some (key_of rs cs)) None

abbrev pub key_touched : Touched → Option ℕ
key_touched Nothing = Some 0
key_touched (One root) = Some (suc root)
key_touched Several = None

abbrev pub RootBelow : ℕ → Touched → Type 0
RootBelow n Nothing = Unit {0}
RootBelow n (One root) = root < n
RootBelow n Several = Unit {0}
