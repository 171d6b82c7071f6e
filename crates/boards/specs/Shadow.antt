-- What a shadow board's cells hold, and what lies around them.
use Rattle.std.specs.Prelude.{ℕ, zero, suc, List, [], ◌∷◌, length, drop, None, Option}
use Rattle.std.specs.Option.{unwrap_or}
use Rattle.yard.specs.Cells.{Surroundings}
use Rattle.boards.specs.declared.shadow.ShadowBoard.{ShadowBoard}

-- a cell shows its change where one is set, else its base value
abbrev pub shown : {V : Type 0} → List (Option V) → List V → List V
shown [] base = []
shown (c ∷ changes) [] = []
shown (c ∷ changes) (b ∷ base) = unwrap_or c b ∷ shown changes base

-- the first n places emptied, and those past them kept
abbrev pub cleared : {V : Type 0} → ℕ → List (Option V) → List (Option V)
cleared zero changes = changes
cleared (suc n) [] = []
cleared (suc n) (c ∷ changes) = None ∷ cleared n changes

-- the base, the changes past it, and the name of the memory that the changes are lent from
abbrev pub beneath : {V : Type 0} → ℕ → List (Option V) → List V → Surroundings V
beneath lender changes base = record { values = base; changes = drop (length base) changes; lent = lender ∷ [] }

abbrev pub shadow_values : {V : Type 0} → ShadowBoard V → List V
shadow_values b = shown b.changes.now b.base.now

abbrev pub shadow_changes : {V : Type 0} → ShadowBoard V → List (Option V)
shadow_changes b = b.changes.now

abbrev pub shadow_around : {V : Type 0} → ShadowBoard V → Surroundings V
shadow_around b = beneath b.changes.ghost_name b.changes.now b.base.now
