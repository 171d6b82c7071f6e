-- Lanes that do not conflict, worked whole in any order.
use Rattle.std.proofs.Common.{◌≡◌, ℕ, suc, ◌+◌, ◌≤◌, cond, ◌≢◌, List, [], ◌∷◌, sym, refl, ap, ◌∙◌, subst, inl, inr, arith}
use Rattle.std.specs.List.{slice_get}
use Rattle.std.proofs.lemmas.Bool.{ne_eqb, cases_eq}
use Rattle.yard.specs.Rules.{Rules, Looks}
use Rattle.dealing.specs.Facts.{times}
use Rattle.books.specs.Scripts.{Script}
use Rattle.books.specs.Whole.{Stand, wholes, lanes_whole}
use Rattle.books.specs.Books.{cells_of}
use Rattle.books.specs.Law.{In}
use Rattle.books.proofs.Places.{times_here, times_tail}
use Rattle.books.proofs.Naming.{Writes, in_cells}
use Rattle.books.proofs.Near.{StandNear, wholes_near, wholes_still, wholes_told}

pub times_other : (q r : ℕ) (rs : List ℕ) → r ≢ q → times q (r ∷ rs) ≡ times q rs
times_other q r rs n = let e = ap (λ t. cond t 1 0 + times q rs) (ne_eqb r q n) in omega arith

module _ {V : Type 0} (R : Rules V) (looks : Looks R) (S : Script) (lane : ℕ → List ℕ) (Queue : ℕ → Type 0)
    (apart : (q r x : ℕ) → Queue q → Queue r → q ≢ r → In (cells_of S (lane q)) x → Writes R S (lane r) x → ⊥)
    (parted : (q r m : ℕ) → Queue q → Queue r → q ≢ r → In (lane q) m → In (lane r) m → ⊥) where
  abbrev Within : List ℕ → Type 0
  Within qs = (q : ℕ) → 1 ≤ times q qs → Queue q

  tail_within : (r : ℕ) (rs : List ℕ) → Within (r ∷ rs) → Within rs
  tail_within r rs w q h = let t = times_tail q r rs in w q (omega arith)

  pub order_still : (qs : List ℕ) (st : Stand V) (x : ℕ) → ((q : ℕ) → 1 ≤ times q qs → Writes R S (lane q) x → ⊥) →
      slice_get (lanes_whole R S lane st qs).values x ≡ slice_get st.values x
  order_still [] st x free = refl
  order_still (r ∷ rs) st x free =
      order_still rs (wholes R S st (lane r)) x (λ q h. let t = times_tail q r rs in free q (omega arith))
      ∙ wholes_still R looks x S (lane r) st (free r (let e = times_here r rs in omega arith))

  pub order_told : (qs : List ℕ) (st : Stand V) (m : ℕ) → ((q : ℕ) → 1 ≤ times q qs → In (lane q) m → ⊥) → slice_get (lanes_whole R S lane st qs).ends m ≡ slice_get st.ends m
  order_told [] st m free = refl
  order_told (r ∷ rs) st m free =
      order_told rs (wholes R S st (lane r)) m (λ q h. let t = times_tail q r rs in free q (omega arith))
      ∙ wholes_told R S m (lane r) st (free r (let e = times_here r rs in omega arith))

  -- each lane finds its cells as at the start, and what it leaves in them stays
  pub order_near : (qs : List ℕ) (st : Stand V) → ((q : ℕ) → times q qs ≤ 1) → Within qs → (q : ℕ) → 1 ≤ times q qs →
      StandNear R (In (cells_of S (lane q))) (In (lane q)) (lanes_whole R S lane st qs) (wholes R S st (lane q))
  order_near [] st once within q h = absurd (omega arith)
  order_near (r ∷ rs) st once within q h =
      let isq : Queue q = within q h in
      let isr : Queue r = within r (let e = times_here r rs in omega arith) in
      let st₁ = wholes R S st (lane r) in
      elim (cases_eq r q) [
        | inl e ↦ let f : times q (r ∷ rs) ≡ suc (times q rs) = subst (λ (p : ℕ). times q (p ∷ rs) ≡ suc (times q rs)) (sym e) (times_here q rs) in
            let o = once q in
            let ne : (p : ℕ) → 1 ≤ times p rs → q ≢ p = λ p k g. (let j = ap (λ (y : ℕ). times y rs) g in omega arith) in
            let g : st₁ ≡ wholes R S st (lane q) = ap (λ p. wholes R S st (lane p)) e in
            record {
              values = λ x n. order_still rs st₁ x (λ p k. apart q p x isq (tail_within r rs within p k) (ne p k) n) ∙ ap (λ (s : Stand V). slice_get s.values x) g;
              ends = λ m n. order_told rs st₁ m (λ p k. parted q p m isq (tail_within r rs within p k) (ne p k) n) ∙ ap (λ (s : Stand V). slice_get s.ends m) g;
            }
        | inr n ↦ let f = times_other q r rs n in
            let qr : q ≢ r = λ e. n (sym e) in
            let ih = order_near rs st₁ (λ p. let t = times_tail p r rs in let o = once p in omega arith) (tail_within r rs within) q (omega arith) in
            let back : StandNear R (In (cells_of S (lane q))) (In (lane q)) (wholes R S st₁ (lane q)) (wholes R S st (lane q)) =
            wholes_near R (In (cells_of S (lane q))) (In (lane q)) S (lane q) st₁ st (λ m k. k) (λ m x k. in_cells S (lane q) m x k) (record {
              values = λ x k. wholes_still R looks x S (lane r) st (apart q r x isq isr qr k);
              ends = λ m k. wholes_told R S m (lane r) st (parted q r m isq isr qr k);
            }) in
            record { values = λ x k. ih.values x k ∙ back.values x k; ends = λ m k. ih.ends m k ∙ back.ends m k }
      ]
