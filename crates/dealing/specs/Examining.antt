-- Marks on the roots of a move's cells, and what they show of the special clusters.
use Rattle.std.specs.Prelude.{◌≡◌, ℕ, ◌<◌, Bool, List, [], ◌∷◌, length, ◌==◌, slice_index}
use Rattle.clusters.specs.declared.marks.Marked.{Marked}
use Rattle.dealing.specs.Stages.{rooted}

abbrev pub marks_in : Marked → List ℕ
marks_in m = m.marks.now

-- the marks are on the roots of the cells, and on nothing else
abbrev pub Marks : List ℕ → List ℕ → List ℕ → Type 0
Marks rs cs ms = (k : ℕ) → k < length ms → (slice_index ms k == 1) ≡ rooted rs cs k

-- which special clusters are marked
abbrev pub seen : List ℕ → List ℕ → List ℕ → List Bool
seen ms rs [] = []
seen ms rs (p ∷ special) = (slice_index ms (slice_index rs p) == 1) ∷ seen ms rs special

abbrev pub AllBelow : ℕ → List ℕ → Type 0
AllBelow n xs = (k : ℕ) → k < length xs → slice_index xs k < n
