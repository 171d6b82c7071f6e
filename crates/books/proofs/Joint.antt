-- The cells of the queues as their books have them: each cell of the joint board, and how many cells it has.
use Rattle.std.proofs.Common.{◌≡◌, ℕ, zero, suc, ◌+◌, Bool, true, false, ltb, List, [], ◌∷◌, length, get_or, Some, None, Option, sym, refl, ap, ◌∙◌, subst, inl, inr, arith}
use Rattle.std.specs.List.{slice_get as nth}
use Rattle.std.proofs.lemmas.Option.{slice_get_past}
use Rattle.std.proofs.lemmas.Bool.{cases_Bool, cases_eq, both_ways}
use Rattle.yard.specs.Moves.{is_in}
use Rattle.yard.specs.Rules.{Rules}
use Rattle.dealing.specs.Active.{no_step}
use Rattle.books.specs.Scripts.{Script, State, move_steps}
use Rattle.books.specs.Steps.{Went, goes, stuck, put, applied}
use Rattle.books.specs.Books.{Book, fed_past, fed_went, fed_left, fed, feeds, copied, lane_cells, joint, queue_opens}
use Rattle.books.specs.Law.{In, IsQueue}
use Rattle.books.proofs.Places.{nth_set_same, nth_some, nth_none, put_other, put_long, in_here, in_there, in_none, in_cases}
use Rattle.books.proofs.Near.{Long, applied_long}

-- a book keeps the number of cells
module _ {V : Type 0} (R : Rules V) (S : Script) (n : ℕ) where
  pub record Wide (b : Book V) : Type 0 where
    pub values : length b.values ≡ n
    pub before : length b.before ≡ n

  past_wide : (b : Book V) (m : ℕ) (ms : List ℕ) (ws : List V) → Wide b → length ws ≡ n → (t : Bool) → Wide (fed_past b m ms ws t).book
  past_wide b m ms ws l h true = record { values = h; before = l.before }
  past_wide b m ms ws l h false = record { values = h; before = h }

  went_wide : (b : Book V) (m : ℕ) (ms : List ℕ) → Wide b → (w : Went V) → Long R (length b.values) w → Wide (fed_went R S b m ms w).book
  went_wide b m ms l (goes ws) h = past_wide b m ms ws l (h ∙ l.values) (ltb (b.taken + 1) (length (move_steps S m)))
  went_wide b m ms l (stuck k) h = record { values = l.before; before = l.before }

  left_wide : (b : Book V) (ms : List ℕ) → Wide b → Wide (fed_left R S b ms).book
  left_wide b [] l = l
  left_wide b (m ∷ ms) l = let s = get_or (move_steps S m) b.taken no_step in went_wide b m ms l (applied R b.values s) (applied_long R b.values s)

  fed_wide : (room : Bool) (b : Book V) → Wide b → Wide (fed R S room b).book
  fed_wide true b l = left_wide b b.left l
  fed_wide false b l = l

  feeds_wide : (room : Bool) (b : Book V) (k : ℕ) → Wide b → Wide (feeds R S room b k)
  feeds_wide room b zero l = l
  feeds_wide room b (suc k) l = fed_wide room (feeds R S room b k) (feeds_wide room b k l)

module _ {V : Type 0} where
  put_here : (us vs : List V) (y : ℕ) → length us ≡ length vs → (o : Option V) → nth us y ≡ o → nth (put vs y o) y ≡ o
  put_here us vs y h None e = slice_get_past vs y (let k = nth_none us y e in omega arith)
  put_here us vs y h (Some v) e = nth_set_same vs y v (let k = nth_some us y v e in omega arith)

  copied_long : (us : List V) (cs : List ℕ) (vs : List V) → length (copied us cs vs) ≡ length vs
  copied_long us [] vs = refl
  copied_long us (c ∷ cs) vs = copied_long us cs (put vs c (nth us c)) ∙ put_long vs c (nth us c)

  copied_other : (us : List V) (cs : List ℕ) (vs : List V) (x : ℕ) → (In cs x → ⊥) → nth (copied us cs vs) x ≡ nth vs x
  copied_other us [] vs x h = refl
  copied_other us (c ∷ cs) vs x h =
      copied_other us cs (put vs c (nth us c)) x (λ k. h (in_there x c cs k))
      ∙ put_other vs c x (nth us c) (λ e. h (subst (λ (y : ℕ). In (y ∷ cs) x) e (in_here x cs)))

  copied_named : (us : List V) (cs : List ℕ) (vs : List V) (x : ℕ) → length us ≡ length vs → In cs x → nth (copied us cs vs) x ≡ nth us x
  copied_named us [] vs x l h = absurd (in_none x h)
  copied_named us (c ∷ cs) vs x l h =
      elim (cases_Bool (is_in x cs)) [
        | inl k ↦ copied_named us cs (put vs c (nth us c)) x (let q = put_long vs c (nth us c) in omega arith) k
        | inr k ↦ let e : c ≡ x = elim (in_cases x c cs h) [
          | inl g ↦ g
          | inr g ↦ absurd (both_ways (is_in x cs) k g)
        ] in
            copied_other us cs (put vs c (nth us c)) x (both_ways (is_in x cs) k)
            ∙ subst (λ (y : ℕ). nth (put vs c (nth us c)) y ≡ nth us y) e (put_here us vs c l (nth us c) refl)
      ]

module _ {V : Type 0} (S : Script) (start : State V) where
  abbrev cells : ℕ → List ℕ
  cells q = lane_cells S start q

  joint_long : (books : ℕ → Book V) (q : ℕ) → length (joint S start books q) ≡ length start.values
  joint_long books zero = refl
  joint_long books (suc q) = copied_long (books (suc q)).values (cells (suc q)) (joint S start books q) ∙ joint_long books q

  -- a board that holds the queues' cells as their books do, and the others as at the start, is the joint board
  pub joint_is : (books : ℕ → Book V) → ((q : ℕ) → length (books q).values ≡ length start.values) → (ws : List V) (x q : ℕ) →
      ((r : ℕ) → IsQueue q r → In (cells r) x → nth ws x ≡ nth (books r).values x) →
      (((r : ℕ) → IsQueue q r → In (cells r) x → ⊥) → nth ws x ≡ nth start.values x) → nth ws x ≡ nth (joint S start books q) x
  joint_is books wide ws x zero named other = other (λ r h n. let a = h.0 in let b = h.1 in omega arith)
  joint_is books wide ws x (suc q) named other =
      elim (cases_Bool (is_in x (cells (suc q)))) [
        | inl h ↦ named (suc q) (omega arith, omega arith) h
            ∙ sym (copied_named (books (suc q)).values (cells (suc q)) (joint S start books q) x (wide (suc q) ∙ sym (joint_long books q)) h)
        | inr h ↦ joint_is books wide ws x q (λ r k n. named r (k.0, (let b = k.1 in omega arith)) n)
            (λ free. other (λ r k n. elim (cases_eq r (suc q)) [
              | inl e ↦ both_ways (is_in x (cells (suc q))) h (subst (λ (p : ℕ). In (cells p) x) e n)
              | inr ne ↦ free r (k.0, (let b = k.1 in omega arith)) n
            ]))
            ∙ sym (copied_other (books (suc q)).values (cells (suc q)) (joint S start books q) x (both_ways (is_in x (cells (suc q))) h))
      ]

  pub joint_same : (books books' : ℕ → Book V) (q : ℕ) → ((r : ℕ) → IsQueue q r → books r ≡ books' r) → joint S start books q ≡ joint S start books' q
  joint_same books books' zero h = refl
  joint_same books books' (suc q) h =
      ap (λ (b : Book V). copied b.values (cells (suc q)) (joint S start books q)) (h (suc q) (omega arith, omega arith))
      ∙ ap (copied (books' (suc q)).values (cells (suc q))) (joint_same books books' q (λ r k. h r (k.0, (let b = k.1 in omega arith))))

-- a queue's book has all the cells
pub queue_wide : {V : Type 0} (R : Rules V) (S : Script) (start : State V) (room : Bool) (q n : ℕ) →
    length (feeds R S room (queue_opens S start q) n).values ≡ length start.values
queue_wide R S start room q n = (feeds_wide R S (length start.values) room (queue_opens S start q) n (record { values = refl; before = refl })).values
