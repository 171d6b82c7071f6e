-- The cells that steps and moves name and write.
use Rattle.std.proofs.Common.{◌≡◌, ℕ, zero, suc, ◌<◌, true, ◌&&◌, ◌||◌, List, [], ◌∷◌, length, get_or, sym, refl, ap, ◌∙◌, inl, inr, arith}
use Rattle.std.proofs.lemmas.Bool.{and_parts, and_from, or_left, or_right, or_cases}
use Rattle.yard.specs.declared.batch.Step.{Step}
use Rattle.yard.specs.Moves.{is_in, names, named, writes, written}
use Rattle.yard.specs.Rules.{Rules}
use Rattle.dealing.specs.Active.{no_step}
use Rattle.books.specs.Scripts.{Script, move_steps}
use Rattle.books.specs.Books.{named_cells, cells_of}
use Rattle.books.specs.Law.{In}
use Rattle.books.proofs.Places.{in_here, in_there, in_none, in_cases, in-append}

pub named_at : (ss : List Step) (k : ℕ) → k < length ss → named ss (get_or ss k no_step).cell ≡ true
named_at [] k h = absurd (omega arith)
named_at (s ∷ ss) zero h = or_left (is_in s.cell (names s)) (named ss s.cell) (in_here s.cell [])
named_at (s ∷ ss) (suc k) h = let c = (get_or ss k no_step).cell in or_right (is_in c (names s)) (named ss c) (named_at ss k (omega arith))

-- the cells that steps name, as a list
named_is : (ss : List Step) (x : ℕ) → is_in x (named_cells ss) ≡ named ss x
named_is [] x = refl
named_is (s ∷ ss) x = in-append x (names s) (named_cells ss) ∙ ap (λ t. is_in x (names s) || t) (named_is ss x)

module _ {V : Type 0} (R : Rules V) where
  pub written_at : (ss : List Step) (k : ℕ) → k < length ss → (x : ℕ) → writes R (get_or ss k no_step) ≡ true → In (names (get_or ss k no_step)) x → written R ss x ≡ true
  written_at [] k h x w n = absurd (omega arith)
  written_at (s ∷ ss) zero h x w n = or_left (writes R s && is_in x (names s)) (written R ss x) (and_from (writes R s) (is_in x (names s)) w n)
  written_at (s ∷ ss) (suc k) h x w n = or_right (writes R s && is_in x (names s)) (written R ss x) (written_at ss k (omega arith) x w n)

  pub written_named : (ss : List Step) (x : ℕ) → written R ss x ≡ true → named ss x ≡ true
  written_named [] x e = e
  written_named (s ∷ ss) x e =
      elim (or_cases (writes R s && is_in x (names s)) (written R ss x) e) [
        | inl h ↦ or_left (is_in x (names s)) (named ss x) (and_parts (writes R s) (is_in x (names s)) h).1
        | inr h ↦ or_right (is_in x (names s)) (named ss x) (written_named ss x h)
      ]

module _ (S : Script) where
  cells_is : (m : ℕ) (ms : List ℕ) (x : ℕ) → is_in x (cells_of S (m ∷ ms)) ≡ (named (move_steps S m) x || is_in x (cells_of S ms))
  cells_is m ms x = in-append x (named_cells (move_steps S m)) (cells_of S ms) ∙ ap (λ t. t || is_in x (cells_of S ms)) (named_is (move_steps S m) x)

  -- a cell that one of several moves names
  pub in_cells : (ms : List ℕ) (m x : ℕ) → In ms m → named (move_steps S m) x ≡ true → In (cells_of S ms) x
  in_cells [] m x h n = absurd (in_none m h)
  in_cells (k ∷ ms) m x h n =
      cells_is k ms x
      ∙ elim (in_cases m k ms h) [
        | inl e ↦ or_left (named (move_steps S k) x) (is_in x (cells_of S ms)) (ap (λ j. named (move_steps S j) x) e ∙ n)
        | inr g ↦ or_right (named (move_steps S k) x) (is_in x (cells_of S ms)) (in_cells ms m x g n)
      ]

  pub from_cells : (ms : List ℕ) (x : ℕ) → In (cells_of S ms) x → (m : ℕ) × In ms m × (named (move_steps S m) x ≡ true)
  from_cells [] x h = absurd (in_none x h)
  from_cells (k ∷ ms) x h =
      elim (or_cases (named (move_steps S k) x) (is_in x (cells_of S ms)) (sym (cells_is k ms x) ∙ h)) [
        | inl e ↦ (k, in_here k ms, e)
        | inr e ↦ let p = from_cells ms x e in (p.0, in_there p.0 k ms p.1, p.2)
      ]

-- some of the moves writes the cell
abbrev pub Writes : {V : Type 0} → Rules V → Script → List ℕ → ℕ → Type 0
Writes R S ms x = (m : ℕ) × In ms m × (written R (move_steps S m) x ≡ true)

pub writes_named : {V : Type 0} (R : Rules V) (S : Script) (ms : List ℕ) (x : ℕ) → Writes R S ms x → In (cells_of S ms) x
writes_named R S ms x w = in_cells S ms w.0 x w.1 (written_named R (move_steps S w.0) x w.2)
