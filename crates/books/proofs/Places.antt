-- Lists read place by place, parts of lists, and what is in a list of numbers.
use Rattle.std.proofs.Common.{◌≡◌, ℕ, zero, suc, ◌+◌, ◌-◌, ◌<◌, ◌≤◌, cond, ◌||◌, eqb, ◌≢◌, ◌⊎◌, List, [], ◌∷◌, ◌++◌, length, get_or, take, drop, set, Some, None, Option, sym, refl, ap, ◌∙◌, inl, inr, arith}
use mathlib.Core.Bool.{or_assoc}
use Rattle.std.specs.Option.{option_map}
use Rattle.std.specs.List.{slice_get}
use Rattle.std.proofs.lemmas.List.{length-set, length-take, length-drop, get_or-take, get_or-drop, drop_more}
use Rattle.std.proofs.lemmas.Bool.{cases_eq, eq-eqb, eqb-true, false≢true, or_left, or_right, or_cases}
use Rattle.yard.specs.Moves.{is_in}
use Rattle.dealing.specs.Facts.{times}
use Rattle.books.specs.Scripts.{part}
use Rattle.books.specs.Steps.{put}
use Rattle.books.specs.Law.{In}

pub nth_set_other : {V : Type 0} (vs : List V) (i j : ℕ) (v : V) → j ≢ i → slice_get (set vs i v) j ≡ slice_get vs j
nth_set_other [] i j v h = refl
nth_set_other (x ∷ vs) zero zero v h = absurd (h refl)
nth_set_other (x ∷ vs) zero (suc j) v h = refl
nth_set_other (x ∷ vs) (suc i) zero v h = refl
nth_set_other (x ∷ vs) (suc i) (suc j) v h = nth_set_other vs i j v (λ e. h (ap suc e))

pub nth_set_same : {V : Type 0} (vs : List V) (i : ℕ) (v : V) → i < length vs → slice_get (set vs i v) i ≡ Some v
nth_set_same [] i v h = absurd (omega arith)
nth_set_same (x ∷ vs) zero v h = refl
nth_set_same (x ∷ vs) (suc i) v h = nth_set_same vs i v (omega arith)

-- a place that is set to what it held
pub set_same : {V : Type 0} (vs : List V) (i : ℕ) (v : V) → slice_get vs i ≡ Some v → set vs i v ≡ vs
set_same [] i v e = refl
set_same (x ∷ vs) zero v e = let h : x ≡ v = cc in ap (λ y. y ∷ vs) (sym h)
set_same (x ∷ vs) (suc i) v e = ap (λ t. x ∷ t) (set_same vs i v e)

nth_set_here : {V : Type 0} (vs : List V) (c : ℕ) (w : V) → slice_get (set vs c w) c ≡ option_map (λ _. w) (slice_get vs c)
nth_set_here [] c w = refl
nth_set_here (x ∷ vs) zero w = refl
nth_set_here (x ∷ vs) (suc c) w = nth_set_here vs c w

set_agree : {V : Type 0} (vs us : List V) (c : ℕ) (w : V) (x : ℕ) → slice_get vs c ≡ slice_get us c → slice_get vs x ≡ slice_get us x → slice_get (set vs c w) x ≡ slice_get (set us c w) x
set_agree {V} vs us c w x h k =
    elim (cases_eq x c) [
      | inl e ↦ rw e (nth_set_here vs c w ∙ ap (option_map (λ (_ : V). w)) h ∙ sym (nth_set_here us c w))
      | inr n ↦ nth_set_other vs c x w n ∙ k ∙ sym (nth_set_other us c x w n)
    ]

-- lists that hold the same at each place
pub same_nth : {V : Type 0} (vs us : List V) → ((x : ℕ) → slice_get vs x ≡ slice_get us x) → vs ≡ us
same_nth [] [] h = refl
same_nth [] (u ∷ us) h = absurd (let e = h 0 in let z : ◌≡◌ {A = ℕ} 0 1 = cc in omega arith)
same_nth (v ∷ vs) [] h = absurd (let e = h 0 in let z : ◌≡◌ {A = ℕ} 0 1 = cc in omega arith)
same_nth (v ∷ vs) (u ∷ us) h =
    let e = h 0 in
    let g : v ≡ u = cc in
    ap (λ y. y ∷ vs) g ∙ ap (λ ws. u ∷ ws) (same_nth vs us (λ x. h (suc x)))

pub nth_some : {V : Type 0} (vs : List V) (i : ℕ) (v : V) → slice_get vs i ≡ Some v → i < length vs
nth_some [] i v e = absurd (let z : ◌≡◌ {A = ℕ} 0 1 = cc in omega arith)
nth_some (x ∷ vs) zero v e = omega arith
nth_some (x ∷ vs) (suc i) v e = let h = nth_some vs i v e in omega arith

pub nth_none : {V : Type 0} (vs : List V) (i : ℕ) → slice_get vs i ≡ None → length vs ≤ i
nth_none [] i e = omega arith
nth_none (v ∷ vs) zero e = absurd (let z : ◌≡◌ {A = ℕ} 0 1 = cc in omega arith)
nth_none (v ∷ vs) (suc i) e = let h = nth_none vs i e in omega arith

-- two lists that hold the same at some places
abbrev pub Alike : {A : Type 0} → (ℕ → Type 0) → List A → List A → Type 0
Alike P vs us = (x : ℕ) → P x → slice_get vs x ≡ slice_get us x

pub set_alike : {A : Type 0} (P : ℕ → Type 0) (c : ℕ) (w : A) (vs us : List A) → P c → Alike P vs us → Alike P (set vs c w) (set us c w)
set_alike P c w vs us p h x k = set_agree vs us c w x (h c p) (h x k)

pub put_alike : {A : Type 0} (P : ℕ → Type 0) (c : ℕ) (o : Option A) (vs us : List A) → P c → Alike P vs us → Alike P (put vs c o) (put us c o)
put_alike P c None vs us p h = h
put_alike P c (Some w) vs us p h = set_alike P c w vs us p h

pub put_other : {A : Type 0} (vs : List A) (c x : ℕ) (o : Option A) → x ≢ c → slice_get (put vs c o) x ≡ slice_get vs x
put_other vs c x None n = refl
put_other vs c x (Some w) n = nth_set_other vs c x w n

pub put_long : {A : Type 0} (vs : List A) (c : ℕ) (o : Option A) → length (put vs c o) ≡ length vs
put_long vs c None = refl
put_long vs c (Some w) = length-set vs c w

-- parts
pub length_part : {A : Type 0} (xs : List A) (f t : ℕ) → t ≤ length xs → length (part xs f t) ≡ t - f
length_part xs f t h = let a = length-take (t - f) (drop f xs) in let b = length-drop f xs in omega arith

pub get_d_part : {A : Type 0} (xs : List A) (f t k : ℕ) (d : A) → k < t - f → get_or (part xs f t) k d ≡ get_or xs (f + k) d
get_d_part xs f t k d h = get_or-take (t - f) (drop f xs) k d h ∙ get_or-drop f xs k d

pub part_more : {A : Type 0} (xs : List A) (f t : ℕ) (d : A) → f < t → t ≤ length xs → part xs f t ≡ get_or xs f d ∷ part xs (f + 1) t
part_more xs f t d h l =
    let e : t - f ≡ suc (t - (f + 1)) = omega arith in
    ap (λ n. take n (drop f xs)) e ∙ ap (take (suc (t - (f + 1)))) (drop_more xs f d (omega arith))

pub part_done : {A : Type 0} (xs : List A) (f t : ℕ) → t ≤ f → part xs f t ≡ []
part_done xs f t h = let e : t - f ≡ 0 = omega arith in ap (λ n. take n (drop f xs)) e

-- numbers in a list
pub in_here : (x : ℕ) (xs : List ℕ) → In (x ∷ xs) x
in_here x xs = or_left (eqb x x) (is_in x xs) (eq-eqb x x refl)

pub in_there : (x y : ℕ) (xs : List ℕ) → In xs x → In (y ∷ xs) x
in_there x y xs h = or_right (eqb y x) (is_in x xs) h

pub in_none : (x : ℕ) → In [] x → ⊥
in_none x e = false≢true e

pub in_cases : (x y : ℕ) (xs : List ℕ) → In (y ∷ xs) x → (y ≡ x) ⊎ In xs x
in_cases x y xs e = elim (or_cases (eqb y x) (is_in x xs) e) [
  | inl h ↦ inl (eqb-true y x h)
  | inr h ↦ inr h
]

pub in_at : (xs : List ℕ) (i : ℕ) → i < length xs → In xs (get_or xs i 0)
in_at [] i h = absurd (omega arith)
in_at (x ∷ xs) zero h = in_here x xs
in_at (x ∷ xs) (suc i) h = in_there (get_or xs i 0) x xs (in_at xs i (omega arith))

pub in-append : (x : ℕ) (xs ys : List ℕ) → is_in x (xs ++ ys) ≡ (is_in x xs || is_in x ys)
in-append x [] ys = refl
in-append x (y ∷ xs) ys = ap (λ t. eqb y x || t) (in-append x xs ys) ∙ sym (or_assoc (eqb y x) (is_in x xs) (is_in x ys))

-- how often a number is in a list
pub times_here : (x : ℕ) (xs : List ℕ) → times x (x ∷ xs) ≡ suc (times x xs)
times_here x xs = let e = ap (λ t. cond t 1 0 + times x xs) (eq-eqb x x refl) in omega arith

pub times_tail : (x y : ℕ) (xs : List ℕ) → times x xs ≤ times x (y ∷ xs)
times_tail x y xs = omega arith

times_at : (xs : List ℕ) (i : ℕ) → i < length xs → 1 ≤ times (get_or xs i 0) xs
times_at [] i h = absurd (omega arith)
times_at (x ∷ xs) zero h = let e = times_here x xs in omega arith
times_at (x ∷ xs) (suc i) h = let e = times_at xs i (omega arith) in let g = times_tail (get_or xs i 0) x xs in omega arith

twice : {A : Type 0} (x : ℕ) (xs : List ℕ) (i : ℕ) → i < length xs → get_or xs i 0 ≡ x → times x (x ∷ xs) ≤ 1 → A
twice x xs i h e l =
    let a = times_at xs i h in
    let b = times_here x xs in
    let c = ap (λ y. times y xs) e in
    absurd (omega arith)

-- a number that is in a list once is at one place
pub once_at : (xs : List ℕ) (i j : ℕ) → i < length xs → j < length xs → get_or xs i 0 ≡ get_or xs j 0 → times (get_or xs i 0) xs ≤ 1 → i ≡ j
once_at [] i j h k e l = absurd (omega arith)
once_at (x ∷ xs) zero zero h k e l = refl
once_at (x ∷ xs) zero (suc j) h k e l = twice x xs j (omega arith) (sym e) l
once_at (x ∷ xs) (suc i) zero h k e l = twice x xs i (omega arith) e (let f = ap (λ y. times y (x ∷ xs)) e in omega arith)
once_at (x ∷ xs) (suc i) (suc j) h k e l = ap suc (once_at xs i j (omega arith) (omega arith) e (let f = times_tail (get_or xs i 0) x xs in omega arith))
