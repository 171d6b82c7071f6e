-- Lists of special clusters: the cells by which they are known, and their sizes.
use Rattle.std.specs.Prelude.{ℕ, List, map}
use Rattle.dealing.specs.declared.special.Special.{Special}

-- what a list of them gives past its end
abbrev pub no_special : Special
no_special = record { cell = 0; size = 0 }

abbrev pub cells_known : List Special → List ℕ
cells_known ss = map (λ s. s.cell) ss

abbrev pub sizes_in : List Special → List ℕ
sizes_in ss = map (λ s. s.size) ss
