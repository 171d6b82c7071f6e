-- Lists of special clusters: one of them, one that grows, and one more.
use Rattle.std.proofs.Common.{◌≡◌, ℕ, List, [], ◌∷◌, ◌++◌, length, get_or, replicate, set}
use Rattle.std.proofs.Math.ListN.{get_or-map}
use Rattle.std.proofs.Math.Seq.{map-set_same}
use Rattle.std.proofs.lemmas.List.{length-map, map-append, map-set}
use Rattle.dealing.specs.declared.special.Special.{Special}
use Rattle.dealing.specs.Special.{cells_known, sizes_in, no_special}

pub cell_at : (ss : List Special) (i : ℕ) → get_or (cells_known ss) i 0 ≡ (get_or ss i no_special).cell
cell_at ss i = get_or-map (λ (s : Special). s.cell) ss i no_special

pub size_at : (ss : List Special) (i : ℕ) → get_or (sizes_in ss) i 0 ≡ (get_or ss i no_special).size
size_at ss i = get_or-map (λ (s : Special). s.size) ss i no_special

pub cells_long : (ss : List Special) → length (cells_known ss) ≡ length ss
cells_long ss = length-map ss (λ (s : Special). s.cell)

pub sizes_long : (ss : List Special) → length (sizes_in ss) ≡ length ss
sizes_long ss = length-map ss (λ (s : Special). s.size)

pub sizes_set : (ss : List Special) (i : ℕ) (s : Special) → sizes_in (set ss i s) ≡ set (sizes_in ss) i s.size
sizes_set ss i s = map-set (λ (x : Special). x.size) ss i s

pub cells_set : (ss : List Special) (i : ℕ) (s : Special) → s.cell ≡ (get_or ss i no_special).cell → cells_known (set ss i s) ≡ cells_known ss
cells_set ss i s e = map-set_same (λ (x : Special). x.cell) ss i s no_special e

pub cells_push : (ss : List Special) (s : Special) → cells_known (ss ++ s ∷ []) ≡ cells_known ss ++ s.cell ∷ []
cells_push ss s = map-append (λ (x : Special). x.cell) ss (s ∷ [])

pub zeros_push : (ss : List Special) (s : Special) → s.size ≡ 0 → sizes_in ss ≡ replicate (length ss) 0 → sizes_in (ss ++ s ∷ []) ≡ replicate (length (ss ++ s ∷ [])) 0
zeros_push [] s e h = rw e
zeros_push (x ∷ ss) s e h =
    let a : x.size ≡ 0 = cc in
    let b : sizes_in ss ≡ replicate (length ss) 0 = cc in
    rw (a, zeros_push ss s e b)
