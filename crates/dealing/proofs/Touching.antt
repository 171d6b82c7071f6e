-- What the marks on a move's roots show: one turn of each loop, and the whole.
use Rattle.std.proofs.Common.{◌≡◌, ℕ, suc, ◌+◌, ◌<◌, ◌≤◌, Bool, true, false, cond, ◌||◌, eqb, List, [], ◌∷◌, ◌++◌, length, get_or, take, drop, set, sym, refl, ap, ◌∙◌, inl, inr, append_assoc, arith}
use Rattle.std.proofs.lemmas.List.{drop_more, drop_all, get_or-set_same, get_or-set_other, take_more_set, take_all, append-nil}
use Rattle.std.proofs.lemmas.List.Sums.{sum_by-drop_more}
use Rattle.std.proofs.lemmas.Bool.{cases_eq, eq-eqb, ne_eqb}
use Rattle.clusters.specs.Roots.{roots_of}
use Rattle.clusters.proofs.Climbing.{root_below}
use Rattle.clusters.proofs.RootLists.{get_or-roots_of}
use Rattle.dealing.specs.Examining.{Marks, seen, AllBelow}
use Rattle.dealing.specs.Stages.{rooted, hits, trues}
use Rattle.dealing.proofs.Naming.{flag_same}

mark_set : (ms : List ℕ) (r k : ℕ) → r < length ms → eqb (get_or (set ms r 1) k 0) 1 ≡ cond (eqb r k) true (eqb (get_or ms k 0) 1)
mark_set ms r k h =
    elim (cases_eq k r) [
      | inl e ↦ rw (e, eq-eqb r r refl) (ap (λ (x : ℕ). eqb x 1) (get_or-set_same ms r 1 0 h))
      | inr e ↦ rw (ne_eqb r k (λ p. e (sym p))) (ap (λ (x : ℕ). eqb x 1) (get_or-set_other ms r k 1 0 e))
    ]

-- one more root is marked
pub mark_more : (rs ms cs ds : List ℕ) (c r k : ℕ) (W : Bool) → r ≡ get_or rs c 0 → r < length ms → cs ≡ c ∷ ds →
    (rooted rs cs k || eqb (get_or ms k 0) 1) ≡ W → (rooted rs ds k || eqb (get_or (set ms r 1) k 0) 1) ≡ W
mark_more rs ms cs ds c r k W er h e inv =
    flag_same (eqb r k) (rooted rs ds k) (eqb (get_or ms k 0) 1) (eqb (get_or (set ms r 1) k 0) 1) (mark_set ms r k h)
    ∙ ap (λ (b : Bool). b || eqb (get_or ms k 0) 1) (sym (ap (λ (l : List ℕ). rooted rs l k) e ∙ (rw (← er)))) ∙ inv

-- one more special cluster is looked at
abbrev one : Bool → ℕ
one b = cond b 1 0

trues_more : (b : Bool) (bs : List Bool) → trues (b ∷ bs) ≡ one b + trues bs
trues_more b bs = sum_by-drop_more one (b ∷ bs) 0 false (omega arith)

module _ (ms rs special : List ℕ) (hit : List Bool) (i p r : ℕ) (t : Bool) (hi : i < length special) (hh : i < length hit)
    (ep : p ≡ get_or special i 0) (er : r ≡ get_or rs p 0) (et : t ≡ eqb (get_or ms r 0) 1) where
  seen_more : seen ms rs (drop i special) ≡ t ∷ seen ms rs (drop (i + 1) special)
  seen_more = ap (seen ms rs) (drop_more special i 0 hi) ∙ (rw (et, er, ep))

  pub hits_more : take i hit ++ seen ms rs (drop i special) ≡ seen ms rs special → take (i + 1) (set hit i t) ++ seen ms rs (drop (i + 1) special) ≡ seen ms rs special
  hits_more inv = rw (take_more_set hit i t hh, append_assoc) (ap (λ (l : List Bool). take i hit ++ l) (sym seen_more) ∙ inv)

  pub count_more : (n : ℕ) (b : Bool) → t ≡ b → n + trues (seen ms rs (drop i special)) ≡ trues (seen ms rs special) → n + cond b 1 0 + trues (seen ms rs (drop (i + 1) special)) ≡ trues (seen ms rs special)
  count_more n b e inv = omega (arith, ap trues seen_more, trues_more t (seen ms rs (drop (i + 1) special)), ap one e)

pub hits_all : (ms rs special : List ℕ) (hit : List Bool) (i : ℕ) → length special ≤ i → length hit ≡ length special →
    take i hit ++ seen ms rs (drop i special) ≡ seen ms rs special → hit ≡ seen ms rs special
hits_all ms rs special hit i h l inv =
    sym (take_all i hit (omega arith)) ∙ sym (append-nil (take i hit)) ∙ ap (λ (xs : List ℕ). take i hit ++ seen ms rs xs) (sym (drop_all i special h)) ∙ inv

pub count_all : (ms rs special : List ℕ) (n i : ℕ) → length special ≤ i → n + trues (seen ms rs (drop i special)) ≡ trues (seen ms rs special) → n ≡ trues (seen ms rs special)
count_all ms rs special n i h inv = omega (arith, ap (λ (xs : List ℕ). trues (seen ms rs xs)) (drop_all i special h))

-- the special clusters that the marks show are those that the move touches
roots_below : (ps : List ℕ) (p : ℕ) → p < length ps → get_or (roots_of ps) p 0 < length ps
roots_below ps p h = rw (get_or-roots_of ps p 0 h) (root_below ps p h)

seen_hits : (n : ℕ) (rs cs ms special : List ℕ) → Marks rs cs ms → AllBelow n special → ((p : ℕ) → p < n → get_or rs p 0 < length ms) → seen ms rs special ≡ hits rs special cs
seen_hits n rs cs ms [] m b r = refl
seen_hits n rs cs ms (p ∷ special) m b r =
    rw (m (get_or rs p 0) (r p (b 0 (omega arith))))
    (ap (λ (l : List Bool). rooted rs cs (get_or rs p 0) ∷ l) (seen_hits n rs cs ms special m (λ k h. b (suc k) (omega arith)) r))

pub marks_hits : (ps cs ms special : List ℕ) → length ms ≡ length ps → Marks (roots_of ps) cs ms → AllBelow (length ps) special → seen ms (roots_of ps) special ≡ hits (roots_of ps) special cs
marks_hits ps cs ms special l m b = seen_hits (length ps) (roots_of ps) cs ms special m b (λ p h. omega (arith, roots_below ps p h))
