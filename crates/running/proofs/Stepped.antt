-- Steps set back, the latest first, and a step that only looks.
use Rattle.std.proofs.Common.{◌≡◌, ℕ, zero, suc, ◌+◌, ◌-◌, ◌<◌, ◌≤◌, true, false, cond, List, [], ◌∷◌, length, get_or, take, drop, set, Some, None, sym, refl, ap, ◌∙◌, arith}
use Rattle.std.specs.List.{slice_get, zip}
use Rattle.std.proofs.lemmas.List.{length-take-le, length-drop, length-reverse, get_or-take, get_or-drop, get_or-reverse, get_or_default}
use Rattle.std.proofs.lemmas.Slice.Zip.{length-zip, get_or-zip}
use mathlib.Core.List.{reverse}
use Rattle.std.proofs.lemmas.Option.{slice_get_read}
use Rattle.yard.specs.declared.batch.Step.{Step}
use Rattle.yard.specs.Moves.{writes}
use Rattle.yard.specs.Cells.{value_at}
use Rattle.yard.specs.Rules.{Rules, Looks, passes, asked}
use Rattle.yard.specs.Told.{Told, gives}
use Rattle.dealing.specs.Active.{no_step}
use Rattle.books.specs.Steps.{goes, put, lands, meets, applied, kept, put_back, set_back}
use Rattle.books.proofs.Places.{set_same}
use Rattle.books.proofs.SetBack.{put_back_written, put_back_looked}

module _ {V : Type 0} (R : Rules V) (steps : List Step) (saved : List V) (first k : ℕ) (vs : List V) (h : 0 < k) where
  abbrev last : Step
  last = get_or steps (first + (k - 1)) no_step

  set_back_last : set_back R steps saved first k vs ≡ set_back R steps saved first (k - 1) (put_back R vs last (slice_get saved (first + (k - 1))))
  set_back_last = let e : k ≡ suc (k - 1) = omega arith in ap (λ n. set_back R steps saved first n vs) e

  set_back_written : (cell : ℕ) (v : V) (ws : List V) → first + k ≤ length saved → cell ≡ last.cell → v ≡ get_or saved (first + (k - 1)) v → writes R last ≡ true →
      ws ≡ set vs cell v → set_back R steps saved first (k - 1) ws ≡ set_back R steps saved first k vs
  set_back_written cell v ws l at is w e =
      let old = slice_get_read saved (length saved) (first + (k - 1)) v refl (omega arith) is in
      ap (set_back R steps saved first (k - 1)) (e ∙ ap (λ c. set vs c v) at ∙ sym (put_back_written R vs last (slice_get saved (first + (k - 1))) v old w)) ∙ sym set_back_last

  set_back_looked : writes R last ≡ false → set_back R steps saved first (k - 1) vs ≡ set_back R steps saved first k vs
  set_back_looked w = ap (set_back R steps saved first (k - 1)) (sym (put_back_looked R vs last (slice_get saved (first + (k - 1))) w)) ∙ sym set_back_last

-- entries of a part of a list, the latest first
at_back : {A : Type 0} (xs : List A) (first n j m : ℕ) (x d : A) → j ≡ n → first + n ≤ length xs → m < n →
    get_or (reverse (take j (drop first xs))) m x ≡ get_or xs (first + (n - m - 1)) d
at_back xs first n j m x d e h l =
    let part = drop first xs in
    let long : length (take j part) ≡ j = length-take-le j part (omega (arith, length-drop first xs)) in
    let place : first + (length (take j part) - 1 - m) ≡ first + (n - m - 1) = omega arith in
    get_or-reverse (take j part) m x (omega arith) ∙ get_or-take j part (length (take j part) - 1 - m) x (omega arith) ∙ get_or-drop first xs (length (take j part) - 1 - m) x
    ∙ ap (λ i. get_or xs i x) place ∙ get_or_default xs (first + (n - m - 1)) x d (omega arith)

-- steps beside what was saved for them, the latest first: the pair after m others, when n are set back
module _ {V : Type 0} (R : Rules V) (steps : List Step) (saved : List V) (first n j m : ℕ) (vs : List V) (s : Step) (old : V) (all : j ≡ n)
    (h : first + n ≤ length steps) (l : first + n ≤ length saved)
    (t : (m < length (zip (reverse (take j (drop first steps))) (reverse (take j (drop first saved)))))
    × ((s, old) ≡ get_or (zip (reverse (take j (drop first steps))) (reverse (take j (drop first saved)))) m (s, old))) where
  below : m < n
  below =
      let one = reverse (take j (drop first steps)) in
      omega (arith, t.0, length-zip one (reverse (take j (drop first saved))), length-reverse (take j (drop first steps)), length-take-le j (drop first steps), length-drop first steps)

  both : ◌≡◌ {A = Step × V} (s, old) (get_or steps (first + (n - m - 1)) no_step, get_or saved (first + (n - m - 1)) old)
  both =
      let one = reverse (take j (drop first steps)) in
      let two = reverse (take j (drop first saved)) in
      let a : m < length one = omega (arith, t.0, length-zip one two) in
      let b : m < length two = omega (arith, t.0, length-zip one two) in
      t.1 ∙ get_or-zip one two m (s, old) a b
      ∙ rw (at_back steps first n j m s no_step all h below, at_back saved first n j m old old all l below) refl

  one_less : n - (m + 1) ≡ n - m - 1
  one_less = omega arith

  pub back_written : (cell : ℕ) (ws : List V) → cell ≡ s.cell → writes R s ≡ true → ws ≡ set vs cell old →
      set_back R steps saved first (n - (m + 1)) ws ≡ set_back R steps saved first (n - m) vs
  back_written cell ws at w e =
      let is = ap (λ (p : Step × V). p.0) both in
      ap (λ k. set_back R steps saved first k ws) one_less
      ∙ set_back_written R steps saved first (n - m) vs (omega (arith, below)) cell old ws (omega arith) (at ∙ ap (λ (x : Step). x.cell) is) (ap (λ (p : Step × V). p.1) both)
      (sym (ap (writes R) is) ∙ w) e

  pub back_looked : writes R s ≡ false → set_back R steps saved first (n - (m + 1)) vs ≡ set_back R steps saved first (n - m) vs
  back_looked w =
      ap (λ k. set_back R steps saved first k vs) one_less
      ∙ set_back_looked R steps saved first (n - m) vs (omega (arith, below)) (sym (ap (λ (p : Step × V). writes R p.0) both) ∙ w)

-- what a board told of a cell
held_is : {V : Type 0} (vs : List V) (cell : ℕ) (v : V) → gives v ≡ value_at vs cell → slice_get vs cell ≡ Some v
held_is {V} [] cell v e = absurd (let f : Some v ≡ None = ap (λ (t : Told V). t.value) e in let z : ◌≡◌ {A = ℕ} 0 1 = cc in omega arith)
held_is {V} (x ∷ vs) zero v e = sym (ap (λ (t : Told V). t.value) e)
held_is (x ∷ vs) (suc cell) v e = held_is vs cell v e

-- a looking step that passed
module _ {V : Type 0} (R : Rules V) (looks : Looks R) (vs : List V) (s : Step) (looked : writes R s ≡ false) where
  pub looked_on : (old new : V) → gives old ≡ value_at vs s.cell → R.knows s.order.letter s.order.number ≡ true → Some (passes new) ≡ asked R s.order.letter s.order.number old →
      applied R vs s ≡ goes vs
  looked_on old new held known e =
      let at = held_is vs s.cell old held in
      let f : Some (passes new) ≡ Some (R.makes s.order.letter s.order.number old) = e ∙ ap (λ t. cond t (Some (R.makes s.order.letter s.order.number old)) None) known in
      let makes : R.makes s.order.letter s.order.number old ≡ passes new = cc in
      ap (meets R vs s) at ∙ ap (lands R vs s) makes ∙ ap (λ v. goes (set vs s.cell v)) (looks s.order.letter s.order.number old new looked makes) ∙ ap goes (set_same vs s.cell old at)

  pub none_kept : (saved : List V) (place : ℕ) → saved ≡ kept R vs s saved place
  none_kept saved place = sym (ap (λ b. cond b (put saved place (slice_get vs s.cell)) saved) looked)
