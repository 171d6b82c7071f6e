-- The steps of moves that lie end to end.
use Rattle.std.proofs.Common.{◌≡◌, ℕ, zero, suc, ◌+◌, ◌<◌, ◌≤◌, true, ◌&&◌, eqb, leb, List, [], ◌∷◌, length, get_or, arith}
use Rattle.std.proofs.lemmas.Bool.{eqb-true, leb-true, and_parts}
use Rattle.yard.specs.declared.batch.Move.{Move}
use Rattle.dealing.specs.Active.{no_move}
use Rattle.dealing.specs.Opening.{end_to_end}

-- the first move, and the others
pub record Begins (at : ℕ) (m : Move) (ms : List Move) (end : ℕ) : Type 0 where
  pub there : m.first ≡ at
  pub has_step : 1 ≤ m.count
  pub others : end_to_end (at + m.count) ms end ≡ true

begins : (at : ℕ) (m : Move) (ms : List Move) (end : ℕ) → end_to_end at (m ∷ ms) end ≡ true → Begins at m ms end
begins at m ms end e =
    let p = and_parts (eqb m.first at && leb 1 m.count && leb m.count 8) (end_to_end (at + m.count) ms end) e in
    let q = and_parts (eqb m.first at && leb 1 m.count) (leb m.count 8) p.0 in
    let r = and_parts (eqb m.first at) (leb 1 m.count) q.0 in
    record { there = eqb-true m.first at r.0; has_step = leb-true 1 m.count r.1; others = p.1 }

-- a move by its place
pub record Lies (at : ℕ) (m : Move) (end : ℕ) : Type 0 where
  pub has_step : 1 ≤ m.count
  pub from : at ≤ m.first
  pub to : m.first + m.count ≤ end

reaches : (at : ℕ) (ms : List Move) (end : ℕ) → end_to_end at ms end ≡ true → at ≤ end
reaches at [] end e = let h = eqb-true at end e in omega arith
reaches at (m ∷ ms) end e = let b = begins at m ms end e in let r = reaches (at + m.count) ms end b.others in omega arith

pub lies : (at : ℕ) (ms : List Move) (end : ℕ) → end_to_end at ms end ≡ true → (k : ℕ) → k < length ms → Lies at (get_or ms k no_move) end
lies at [] end e k h = absurd (omega arith)
lies at (m ∷ ms) end e zero h =
    let b = begins at m ms end e in
    let r = reaches (at + m.count) ms end b.others in
    record { has_step = b.has_step; from = omega arith; to = omega arith }
lies at (m ∷ ms) end e (suc k) h =
    let b = begins at m ms end e in
    let l = lies (at + m.count) ms end b.others k (omega arith) in
    record { has_step = l.has_step; from = omega arith; to = l.to }

-- a later move's steps come after
pub after_it : (at : ℕ) (ms : List Move) (end : ℕ) → end_to_end at ms end ≡ true → (j k : ℕ) → j < k → k < length ms →
    (get_or ms j no_move).first + (get_or ms j no_move).count ≤ (get_or ms k no_move).first
after_it at [] end e j k l h = absurd (omega arith)
after_it at (m ∷ ms) end e j zero l h = absurd (omega arith)
after_it at (m ∷ ms) end e zero (suc k) l h =
    let b = begins at m ms end e in
    let n = lies (at + m.count) ms end b.others k (omega arith) in
    omega arith
after_it at (m ∷ ms) end e (suc j) (suc k) l h = after_it (at + m.count) ms end (begins at m ms end e).others j k (omega arith) (omega arith)
