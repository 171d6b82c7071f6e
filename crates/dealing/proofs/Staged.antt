-- Spot and fuse: what one move makes of the state, and one turn of the loops over choices and moves.
use Rattle.std.proofs.Common.{◌≡◌, ℕ, zero, suc, ◌+◌, ◌<◌, ◌≤◌, Bool, true, false, cond, ltb, List, [], ◌∷◌, ◌++◌, length, get_or, take, drop, replicate, Option, sym, refl, ap, ◌∙◌, inl, inr, arith}
use Rattle.std.proofs.lemmas.Bool.{cases_eq}
use Rattle.std.proofs.lemmas.List.{drop_more, take_more, get_or-replicate, length_push, length-replicate, get_or_append_left, get_or_push}
use Rattle.dealing.specs.Counting.{with_one, Countable, Counted, both_hit, Fusing, pair_place}
use Rattle.dealing.specs.Examining.{AllBelow}
use Rattle.dealing.specs.Stages.{hits, trues, joined_cells, grown, Clusters, clusters_of, spot, spot_one, Fused, fused_of, fuse, fuse_one, count_pair}

pub below_push : (n : ℕ) (xs : List ℕ) (c : ℕ) → AllBelow n xs → c < n → AllBelow n (xs ++ c ∷ [])
below_push n xs c b h k l =
    elim (cases_eq k (length xs)) [
      | inl e ↦ rw (e, get_or_push xs c 0 (length xs) refl) h
      | inr e ↦ rw (get_or_append_left xs (c ∷ []) 0 k (omega (arith, length_push xs c))) (b k (omega (arith, length_push xs c)))
    ]

-- one choice more; us is the part of the list in which the special clusters stand
pub spot_more : (css : List (List ℕ)) (choices : List ℕ) (i : ℕ) (cs rs rt special us after : List ℕ) (made : Option ℕ) (K : Clusters) → i < length choices → cs ≡ get_or css (get_or choices i 0) [] →
    us ≡ special → clusters_of rt (with_one us made) ≡ spot_one cs (clusters_of rs us) → after ≡ with_one special made →
    spot css (drop i choices) (clusters_of rs special) ≡ K → spot css (drop (i + 1) choices) (clusters_of rt after) ≡ K
spot_more css choices i cs rs rt special us after made K hi ec eu e ea inv =
    let next : clusters_of rt after ≡ spot_one cs (clusters_of rs special) = ap (clusters_of rt) ea ∙ (rw eu at e) in
    rw (next, ec) (sym (ap (λ (l : List ℕ). spot css l (clusters_of rs special)) (drop_more choices i 0 hi)) ∙ inv)

-- fuse: a state before the first move
pub fusing_none : (special rs sizes pairs : List ℕ) → pairs ≡ replicate 4096 0 → length special ≤ 64 → Fusing special (fused_of rs sizes []) rs sizes pairs 0
fusing_none special rs sizes pairs e h =
    record { roots = refl; sizes = refl; skipped = refl; pairs = λ a b l m. rw e (get_or-replicate 4096 (pair_place a b) 0 0 (omega arith)) }

pub length_hits : (rs special cs : List ℕ) → length (hits rs special cs) ≡ length special
length_hits rs [] cs = refl
length_hits rs (p ∷ special) cs = ap suc (length_hits rs special cs)

-- one move more, which is skipped or joined
module _ (special cs rs sizes pairs : List ℕ) (n : ℕ) (f : Fused) (old : Fusing special f rs sizes pairs n) where
  pub fusing_skip : (pairs' : List ℕ) → 1 < trues (hits rs special cs) → Counted (length special) (both_hit (hits rs special cs)) pairs pairs' →
      ltb 1 (trues (hits rs special cs)) ≡ true → Fusing special (fuse_one special cs f) rs sizes pairs' (n + 1)
  fusing_skip pairs' h each e =
      let t : ltb 1 (trues (hits f.roots special cs)) ≡ true = rw old.roots at e in
      rw t
      record {
        roots = old.roots;
        sizes = old.sizes;
        skipped = omega (arith, old.skipped);
        pairs = λ a b l m. rw (← old.roots) (each a b l m ∙ omega (arith, old.pairs a b l m));
      }

fuse_push : (special : List ℕ) (xs : List (List ℕ)) (y : List ℕ) (f : Fused) → fuse special (xs ++ y ∷ []) f ≡ fuse_one special y (fuse special xs f)
fuse_push special [] y f = refl
fuse_push special (x ∷ xs) y f = fuse_push special xs y (fuse_one special x f)

pub fuse_more : (special : List ℕ) (css : List (List ℕ)) (i : ℕ) (cs : List ℕ) (f : Fused) → i < length css → cs ≡ get_or css i [] →
    fuse_one special cs (fuse special (take i css) f) ≡ fuse special (take (i + 1) css) f
fuse_more special css i cs f hi ec = rw (take_more css i [] hi, fuse_push special (take i css) (get_or css i []) f, ← ec)

-- no size or count passes the number of moves
grown_below : (hit : List Bool) (xs : List ℕ) (n : ℕ) → AllBelow n xs → AllBelow (suc n) (grown hit xs)
grown_below [] xs n b k h = omega (arith, b k h)
grown_below (t ∷ hit) [] n b k h = absurd (omega arith)
grown_below (t ∷ hit) (x ∷ xs) n b zero h = step t (b 0 (omega arith))
  where
    step : (t : Bool) → x < n → x + cond t 1 0 < suc n
    step true l = omega arith
    step false l = omega arith
grown_below (t ∷ hit) (x ∷ xs) n b (suc k) h = grown_below hit xs n (λ j l. b (suc j) (omega arith)) k (omega arith)

-- sizes below n, and at most s skipped
pub record Small (n s : ℕ) (f : Fused) : Type 0 where
  pub sizes : AllBelow n f.sizes
  pub skips : length f.skips ≤ s

small_one : (special cs : List ℕ) (n s : ℕ) (f : Fused) → Small n s f → Small (suc n) (suc s) (fuse_one special cs f)
small_one special cs n s f small = step (ltb 1 (trues hit))
  where
    hit : List Bool
    hit = hits f.roots special cs

    step : (t : Bool) → Small (suc n) (suc s) (cond t (fused_of f.roots f.sizes (hits f.roots special cs ∷ f.skips)) (fused_of (joined_cells cs f.roots) (grown (hits f.roots special cs) f.sizes) f.skips))
    step true = record { sizes = λ k h. omega (arith, small.sizes k h); skips = omega (arith, small.skips) }
    step false = record { sizes = grown_below (hits f.roots special cs) f.sizes n small.sizes; skips = omega (arith, small.skips) }

small_all : (special : List ℕ) (css : List (List ℕ)) (n s : ℕ) (f : Fused) → Small n s f → Small (n + length css) (s + length css) (fuse special css f)
small_all special [] n s f small = record { sizes = λ k h. omega (arith, small.sizes k h); skips = omega (arith, small.skips) }
small_all special (cs ∷ css) n s f small =
    let more = small_all special css (suc n) (suc s) (fuse_one special cs f) (small_one special cs n s f small) in
    record { sizes = λ k h. omega (arith, more.sizes k h); skips = omega (arith, more.skips) }

pub zeros_long : (n : ℕ) (xs : List ℕ) → xs ≡ replicate n 0 → length xs ≡ n
zeros_long n xs e = ap length e ∙ length-replicate n 0

zeros_below : (n : ℕ) (xs : List ℕ) → xs ≡ replicate n 0 → AllBelow 1 xs
zeros_below n xs e k h = rw e (omega (arith, at k (omega (arith, zeros_long n xs e))))
  where
    at : (j : ℕ) → j < n → ◌≡◌ {A = ℕ} (get_or (replicate n 0) j 0) 0
    at j l = get_or-replicate n j 0 0 l

pub fuse_small : (special : List ℕ) (css : List (List ℕ)) (n : ℕ) (rs sizes : List ℕ) → sizes ≡ replicate n 0 → Small (1 + length css) (length css) (fuse special css (fused_of rs sizes []))
fuse_small special css n rs sizes e =
    let all = small_all special css 1 0 (fused_of rs sizes []) (record { sizes = zeros_below n sizes e; skips = omega arith }) in
    record { sizes = all.sizes; skips = omega (arith, all.skips) }

count_few : (a b : ℕ) (ss : List (List Bool)) → count_pair a b ss ≤ length ss
count_few a b [] = omega arith
count_few a b (s ∷ ss) = step (both_hit s a b) (count_few a b ss)
  where
    step : (t : Bool) → count_pair a b ss ≤ length ss → cond t 1 0 + count_pair a b ss ≤ suc (length ss)
    step true h = omega arith
    step false h = omega arith

-- so each can grow once more
pub countable : (special : List ℕ) (m s : ℕ) (f : Fused) (rs sizes pairs : List ℕ) (n : ℕ) → Fusing special f rs sizes pairs n → Small m s f → m ≤ 65535 → s < 65535 →
    length sizes ≡ length special → length pairs ≡ 4096 → Countable (length special) sizes pairs
countable special m s f rs sizes pairs n fusing small hm hs long wide =
    record {
      sizes_long = long;
      sizes_room = λ k h. omega (arith, ap (λ (l : List ℕ). get_or l k 0) fusing.sizes, small.sizes k (omega (arith, ap length fusing.sizes)));
      pairs_long = wide;
      pairs_room = λ a b h k. omega (arith, fusing.pairs a b h k, count_few a b f.skips, small.skips);
    }
