-- What writing adds up to: one text after another, a text only counted, and a text that the page has room for.
use Rattle.std.proofs.Common.{◌≡◌, ℕ, ◌+◌, ◌-◌, ◌^◌, ◌≤◌, min, List, [], ◌∷◌, ◌++◌, length, sym, refl, ap, ◌∙◌, arith}
use Rattle.std.proofs.lemmas.List.{append_assoc, append-nil, drop_more, drop_all, length-map, length_push, set_at}
use Rattle.std.proofs.lemmas.Slice.Zip.{length-zip}
use Rattle.yard.specs.Fronts.{laid}
use Rattle.listings.specs.Pens.{Penned, standing, put_on, wrote}

pub wrote_append : (xs ys : List ℕ) (s : Penned) → wrote (xs ++ ys) s ≡ wrote ys (wrote xs s)
wrote_append [] ys s = refl
wrote_append (x ∷ xs) ys s = wrote_append xs ys (put_on x s)

-- what follows of one text after another, and of a text that is written entry by entry
pub ruleset turns = (wrote_append, append_assoc, append-nil, drop_more, drop_all, length-map, length-zip)

-- the place of the next byte, after a text
pub wrote_at : (bs : List ℕ) (s : Penned) → s.at ≤ 2 ^ 64 - 1 → (wrote bs s).at ≡ min (s.at + length bs) (2 ^ 64 - 1)
wrote_at [] s h = omega arith
wrote_at (b ∷ bs) s h = wrote_at bs (put_on b s) (omega arith) ∙ omega arith

-- a text that goes to the page where p ends
wrote_on : (bs p q : List ℕ) (at end lent : ℕ) → at ≡ length p → end ≡ at + length bs → length bs ≤ length q → length p + length q ≤ 2 ^ 64 - 1
    → wrote bs (standing (p ++ q) at lent) ≡ standing (p ++ laid bs q) end lent
wrote_on [] p q at end lent e d h room = ap (λ (n : ℕ). standing (p ++ q) n lent) (omega arith)
wrote_on (b ∷ bs) p [] at end lent e d h room = absurd (omega arith)
wrote_on (b ∷ bs) p (y ∷ q) at end lent e d h room =
    let next = min (at + 1) (2 ^ 64 - 1) in
    let length_p = length_push p b in
    ap (λ (page : List ℕ). wrote bs (standing page next lent)) (set_at p y q b at (sym e) ∙ sym (append_assoc p (b ∷ []) q))
    ∙ wrote_on bs (p ++ b ∷ []) q next end lent (omega arith) (omega arith) (omega arith) (omega arith)
    ∙ ap (λ (page : List ℕ). standing page end lent) (append_assoc p (b ∷ []) (laid bs q))

-- a text that the page has room for
pub wrote_whole : (text page : List ℕ) (lent : ℕ) → length text ≤ length page → length page ≤ 2 ^ 64 - 1
    → wrote text (standing page 0 lent) ≡ standing (laid text page) (length text) lent
wrote_whole text page lent h room = wrote_on text [] page 0 (length text) lent refl (omega arith) h (omega arith)

wrote_lent : (bs : List ℕ) (s : Penned) → (wrote bs s).lent ≡ s.lent
wrote_lent [] s = refl
wrote_lent (b ∷ bs) s = wrote_lent bs (put_on b s)

-- the page is still that of the list that a fresh pen was given, however long the text
pub still_lent : (text page : List ℕ) (lent : ℕ) {s t : Penned} → s ≡ standing page 0 lent → t ≡ wrote text s → t.lent ≡ lent
still_lent text page lent {s} e d = ap (λ (u : Penned). u.lent) d ∙ wrote_lent text s ∙ ap (λ (u : Penned). u.lent) e
