-- What a board's cells hold, and what lies around them.
use Rattle.std.specs.Prelude.{ℕ, cond, List, length, Some, None, Option, nat_lt}
use Rattle.std.specs.List.{slice_get}
use Rattle.yard.specs.Told.{Told, gives, refuses}

abbrev held_or_22 : {V : Type 0} → Option V → Told V
held_or_22 (Some v) = gives v
held_or_22 None = refuses 22

-- the value of a cell, or 22 where there is no such cell
abbrev pub value_at : {V : Type 0} → List V → ℕ → Told V
value_at vs cell = held_or_22 (slice_get vs cell)

-- whether there is such a cell to set, or 22
abbrev pub cell_there : {V : Type 0} → List V → ℕ → Told (Unit {0})
cell_there vs cell = cond (nat_lt cell (length vs)) (gives tt) (refuses 22)

-- what no call on a board alters: values beside or under the cells, changes past them, and whose memory the cells are in
pub record Surroundings (V : Type 0) : Type 0 where
  pub values : List V
  pub changes : List (Option V)
  pub lent : List ℕ
