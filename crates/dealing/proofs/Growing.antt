-- Sizes that grow: one turn of the loop over them.
use Rattle.std.proofs.Common.{◌≡◌, ℕ, ◌+◌, ◌<◌, Bool, true, false, cond, List, ◌∷◌, ◌++◌, length, get_or, take, drop, set, sym, ap, ◌∙◌, append_assoc, arith}
use Rattle.std.proofs.lemmas.List.{drop_more, take_more_set, take_more, drop-set-lt, get_or-drop}
use Rattle.dealing.specs.Stages.{grown}

pub drop_at : (i : ℕ) (xs ys : List ℕ) → drop i xs ≡ drop i ys → get_or xs i 0 ≡ get_or ys i 0
drop_at i xs ys e =
    let p : i + 0 ≡ i = omega arith in
    ap (λ (k : ℕ). get_or xs k 0) (sym p) ∙ sym (get_or-drop i xs 0 0) ∙ ap (λ (l : List ℕ). get_or l 0 0) e ∙ get_or-drop i ys 0 0 ∙ ap (λ (k : ℕ). get_or ys k 0) p

drop_next : (i : ℕ) (xs ys : List ℕ) → i < length xs → i < length ys → drop i xs ≡ drop i ys → drop (i + 1) xs ≡ drop (i + 1) ys
drop_next i xs ys h k e =
    let p : get_or xs i 0 ∷ drop (i + 1) xs ≡ get_or ys i 0 ∷ drop (i + 1) ys = sym (drop_more xs i 0 h) ∙ e ∙ drop_more ys i 0 k in cc

module _ (sizes old : List ℕ) (hit : List Bool) (i : ℕ) (hs : i < length sizes) (ho : i < length old) (hh : i < length hit)
    (G : List ℕ) (inv : take i sizes ++ grown (drop i hit) (drop i sizes) ≡ G) (same : drop i sizes ≡ drop i old) where
  grown_more : grown (drop i hit) (drop i sizes) ≡ (get_or sizes i 0 + cond (get_or hit i false) 1 0) ∷ grown (drop (i + 1) hit) (drop (i + 1) sizes)
  grown_more = rw (drop_more hit i false hh, drop_more sizes i 0 hs)

  pub grow_yes : get_or hit i false ≡ true →
      (take (i + 1) (set sizes i (get_or sizes i 0 + 1)) ++ grown (drop (i + 1) hit) (drop (i + 1) (set sizes i (get_or sizes i 0 + 1))) ≡ G)
      × (drop (i + 1) (set sizes i (get_or sizes i 0 + 1)) ≡ drop (i + 1) old)
  grow_yes e =
      let d : drop (i + 1) (set sizes i (get_or sizes i 0 + 1)) ≡ drop (i + 1) sizes = drop-set-lt (i + 1) sizes i (get_or sizes i 0 + 1) (omega arith) in (
        rw (take_more_set sizes i (get_or sizes i 0 + 1) hs, d, append_assoc)
            (ap (λ (l : List ℕ). take i sizes ++ l) (sym (rw e at grown_more)) ∙ inv),
        d ∙ drop_next i sizes old hs ho same,
      )

  pub grow_no : get_or hit i false ≡ false →
      (take (i + 1) sizes ++ grown (drop (i + 1) hit) (drop (i + 1) sizes) ≡ G) × (drop (i + 1) sizes ≡ drop (i + 1) old)
  grow_no e =
      let z : get_or sizes i 0 + 0 ≡ get_or sizes i 0 = omega arith in (
        rw (take_more sizes i 0 hs, append_assoc)
            (ap (λ (l : List ℕ). take i sizes ++ l) (sym (rw (e, z) at grown_more)) ∙ inv),
        drop_next i sizes old hs ho same,
      )
