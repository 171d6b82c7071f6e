-- What the checks of open say.
use Rattle.std.proofs.Common.{◌≡◌, ℕ, zero, suc, ◌+◌, ◌<◌, ◌≤◌, Bool, true, false, cond, ◌&&◌, eqb, ltb, leb, List, [], ◌∷◌, length, get_or, Some, None, Option, refl, arith}
use Rattle.std.proofs.lemmas.Bool.{eqb-true, leb-true, ltb-true}
use Rattle.yard.specs.declared.batch.Step.{Step}
use Rattle.yard.specs.declared.batch.Move.{Move}
use Rattle.yard.specs.Batches.{Listed}
use Rattle.yard.specs.Moves.{names}
use Rattle.yard.specs.Rules.{Rules}
use Rattle.dealing.specs.Active.{Within, no_move}
use Rattle.dealing.specs.Dealable.{Dealable}
use Rattle.dealing.specs.Examining.{AllBelow}
use Rattle.dealing.specs.Opening.{begins_at, end_to_end, shaped, in_range, known, all_known, all_below, refusal}
use Rattle.dealing.proofs.NoConflict.{and_left, and_right}

-- what the tests say
pub begins : (at : ℕ) (m : Move) → begins_at at m ≡ true → (m.first ≡ at) × (1 ≤ m.count) × (m.count ≤ 8)
begins at m e =
    let first = and_left (eqb m.first at && leb 1 m.count) (leb m.count 8) e in (
      eqb-true m.first at (and_left (eqb m.first at) (leb 1 m.count) first),
      leb-true 1 m.count (and_right (eqb m.first at) (leb 1 m.count) first),
      leb-true m.count 8 (and_right (eqb m.first at && leb 1 m.count) (leb m.count 8) e),
    )

-- moves end to end stay within what they reach
pub end_reached : (at : ℕ) (ms : List Move) (end : ℕ) → end_to_end at ms end ≡ true → at ≤ end
end_reached at [] end e = omega (arith, eqb-true at end e)
end_reached at (m ∷ ms) end e = omega (arith, end_reached (at + m.count) ms end (and_right (begins_at at m) (end_to_end (at + m.count) ms end) e))

pub end_inside : (at : ℕ) (ms : List Move) (end k : ℕ) → end_to_end at ms end ≡ true → k < length ms → (get_or ms k no_move).first + (get_or ms k no_move).count ≤ end
end_inside at [] end k e h = absurd (omega arith)
end_inside at (m ∷ ms) end zero e h =
    omega (arith, (begins at m (and_left (begins_at at m) (end_to_end (at + m.count) ms end) e)).0, end_reached (at + m.count) ms end (and_right (begins_at at m) (end_to_end (at + m.count) ms end) e))
end_inside at (m ∷ ms) end (suc k) e h = end_inside (at + m.count) ms end k (and_right (begins_at at m) (end_to_end (at + m.count) ms end) e) (omega arith)

pub below_all : (n : ℕ) (xs : List ℕ) → all_below n xs ≡ true → AllBelow n xs
below_all n [] e k h = absurd (omega arith)
below_all n (x ∷ xs) e zero h = ltb-true x n (and_left (ltb x n) (all_below n xs) e)
below_all n (x ∷ xs) e (suc k) h = below_all n xs (and_right (ltb x n) (all_below n xs) e) k (omega arith)

pub known_within : {V : Type 0} (R : Rules V) (n : ℕ) (ss : List Step) → all_known R n ss ≡ true → Within n ss
known_within R n [] e k h = absurd (omega arith)
known_within R n (s ∷ ss) e zero h =
    below_all n (names s) (and_right (R.knows s.order.letter s.order.number) (all_below n (names s)) (and_left (known R n s) (all_known R n ss) e)) 0 (omega arith)
known_within R n (s ∷ ss) e (suc k) h = known_within R n ss (and_right (known R n s) (all_known R n ss) e) k (omega arith)

-- what open has found out when it refuses nothing
pub record Accepted {V : Type 0} (R : Rules V) (b : Listed) (room : Bool) (count : ℕ) : Type 0 where
  pub shape : shaped b ≡ true
  pub range : in_range b ≡ true
  pub orders : all_known R b.cells b.steps ≡ true
  pub chosen : all_below (length b.moves) b.choices ≡ true
  pub roomy : room ≡ true
  pub board : b.cells ≤ count

-- a test that was passed
passed : (t : Bool) (o : Option ℕ) (n : ℕ) → cond t o (Some n) ≡ None → (t ≡ true) × (o ≡ None)
passed true o n e = (refl, e)
passed false o n e = absurd (let z : ◌≡◌ {A = ℕ} 0 1 = cc in omega arith)

pub accepted : {V : Type 0} (R : Rules V) (b : Listed) (room : Bool) (count : ℕ) → refusal R b room count ≡ None → Accepted R b room count
accepted R b room count e =
    let one = passed (shaped b) _ 12 e in
    let two = passed (in_range b) _ 13 one.1 in
    let three = passed (all_known R b.cells b.steps) _ 14 two.1 in
    let four = passed (all_below (length b.moves) b.choices) _ 15 three.1 in
    let five = passed room _ 16 four.1 in
    let six = passed (leb b.cells count) None 17 five.1 in
    record { shape = one.0; range = two.0; orders = three.0; chosen = four.0; roomy = five.0; board = leb-true b.cells count six.0 }

-- the parts of the batch's shape
pub record Shape (b : Listed) : Type 0 where
  pub moves : length b.moves ≤ 256
  pub steps : length b.steps ≤ 1024
  pub choices : length b.choices ≤ 64
  pub laid_out : end_to_end 0 b.moves (length b.steps) ≡ true

pub shape_of : (b : Listed) → shaped b ≡ true → Shape b
shape_of b e =
    let few = and_left (leb (length b.moves) 256 && leb (length b.steps) 1024 && leb (length b.choices) 64) (end_to_end 0 b.moves (length b.steps)) e in
    let fewer = and_left (leb (length b.moves) 256 && leb (length b.steps) 1024) (leb (length b.choices) 64) few in
    record {
      moves = leb-true (length b.moves) 256 (and_left (leb (length b.moves) 256) (leb (length b.steps) 1024) fewer);
      steps = leb-true (length b.steps) 1024 (and_right (leb (length b.moves) 256) (leb (length b.steps) 1024) fewer);
      choices = leb-true (length b.choices) 64 (and_right (leb (length b.moves) 256 && leb (length b.steps) 1024) (leb (length b.choices) 64) few);
      laid_out = and_right (leb (length b.moves) 256 && leb (length b.steps) 1024 && leb (length b.choices) 64) (end_to_end 0 b.moves (length b.steps)) e;
    }

-- a batch that open accepts can be dealt
pub dealable : {V : Type 0} (R : Rules V) (b : Listed) (room : Bool) (count : ℕ) → Accepted R b room count → Dealable b
dealable R b room count a =
    let shape = shape_of b a.shape in
    record {
      cells = leb-true b.cells 1024 (and_right (leb 1 b.share && leb b.share 1000 && leb 1 b.cells) (leb b.cells 1024) a.range);
      moves = shape.moves;
      choices = shape.choices;
      within = known_within R b.cells b.steps a.orders;
      chosen = below_all (length b.moves) b.choices a.chosen;
    }
