-- Queues are numbered as they were made.
use Rattle.std.proofs.Common.{◌≡◌, ℕ, zero, suc, ◌+◌, ◌<◌, ◌≤◌, Bool, true, false, cond, ◌⊎◌, List, [], ◌∷◌, ◌++◌, length, get_or, is_some, Some, None, Option, refl, ap, ◌∙◌, inl, inr, arith}
use Rattle.std.proofs.lemmas.List.{length_push}
use Rattle.std.proofs.lemmas.Bool.{cases_lt, eq-eqb}
use Rattle.dealing.specs.Lanes.{together, key_of, queue_in, noted, queues_made, lane_in, lanes_in}
use Rattle.dealing.proofs.StandsOnce.{lane_small}
use Rattle.dealing.proofs.Allocated.{queue_push}

-- a queue keeps its number as more are made
noted_keeps : (made : List ℕ) (x k q : ℕ) → queue_in made k ≡ Some q → queue_in (noted made x) k ≡ Some q
noted_keeps made x k q e = step (queue_in made x)
  where
    step : (o : Option ℕ) → queue_in (cond (is_some o) made (made ++ x ∷ [])) k ≡ Some q
    step None = rw (queue_push made x k, e)
    step (Some y) = e

made_keeps : (rs : List ℕ) (css : List (List ℕ)) (made : List ℕ) (k q : ℕ) → queue_in made k ≡ Some q → queue_in (queues_made rs css made) k ≡ Some q
made_keeps rs [] made k q e = e
made_keeps rs (cs ∷ css) made k q e = made_keeps rs css (cond (together rs cs) (noted made (key_of rs cs)) made) k q (step (together rs cs))
  where
    step : (t : Bool) → queue_in (cond t (noted made (key_of rs cs)) made) k ≡ Some q
    step true = noted_keeps made (key_of rs cs) k q e
    step false = e

-- the first move of a queue, by the lanes of the moves; the moves of later queues come after it
pub record First (lanes : List ℕ) (p : ℕ) : Type 0 where
  pub move : ℕ
  pub within : move < length lanes
  pub lane : get_or lanes move 0 ≡ p
  pub before : (n : ℕ) → p < get_or lanes n 0 → move < n

first_here : (l : ℕ) (ls : List ℕ) (p : ℕ) → l ≡ p → First (l ∷ ls) p
first_here l ls p e = record { move = 0; within = omega arith; lane = e; before = before }
  where
    before : (n : ℕ) → p < get_or (l ∷ ls) n 0 → 0 < n
    before zero h = absurd (omega arith)
    before (suc n) h = omega arith

first_later : (l : ℕ) (ls : List ℕ) (p : ℕ) → l < p → First ls p → First (l ∷ ls) p
first_later l ls p k w = record { move = suc w.move; within = omega arith; lane = w.lane; before = before }
  where
    before : (n : ℕ) → p < get_or (l ∷ ls) n 0 → suc w.move < n
    before zero h = absurd (omega arith)
    before (suc n) h = omega (arith, w.before n h)

module _ (rs made cs : List ℕ) where
  -- the queues made once a move is dealt
  abbrev after : List ℕ
  after = cond (together rs cs) (noted made (key_of rs cs)) made

  -- the move's lane stays as it is, and a queue that was made for it is that lane
  record Seen : Type 0 where
    lane_stays : (css : List (List ℕ)) → lane_in rs (queues_made rs css after) cs ≡ lane_in rs after cs
    new_queue : (length after ≡ length made) ⊎ ((length after ≡ length made + 1) × (lane_in rs after cs ≡ length made + 1))

  seen : (t : Bool) (o : Option ℕ) → together rs cs ≡ t → queue_in made (key_of rs cs) ≡ o → Seen
  seen false o et eo = record { lane_stays = λ css. rw et; new_queue = inl (rw et) }
  seen true (Some q) et eo = record { lane_stays = λ css. rw (et, eo, made_keeps rs css made (key_of rs cs) q eo, eo); new_queue = inl (rw (et, eo)) }
  seen true None et eo =
      let e : queue_in (made ++ key_of rs cs ∷ []) (key_of rs cs) ≡ Some (length made + 1) =
      rw (queue_push made (key_of rs cs) (key_of rs cs), eo, eq-eqb (key_of rs cs) (key_of rs cs) refl) (ap (λ (x : ℕ). Some x) (omega arith)) in
      record {
        lane_stays = λ css. rw (et, eo, made_keeps rs css (made ++ key_of rs cs ∷ []) (key_of rs cs) (length made + 1) e, e);
        new_queue = inr (rw (et, eo) (length_push made (key_of rs cs)), rw (et, eo, e));
      }

pub first : (rs made : List ℕ) (css : List (List ℕ)) (p : ℕ) → length made < p → p ≤ length (queues_made rs css made) →
    First (lanes_in rs (queues_made rs css made) css) p
first rs made [] p h k = absurd (omega arith)
first rs made (cs ∷ css) p h k =
    let now = after rs made cs in
    let all = queues_made rs css now in
    let s = seen rs made cs (together rs cs) (queue_in made (key_of rs cs)) refl refl in
    elim (cases_lt (length now) p) [
      | inl g ↦ first_later (lane_in rs all cs) (lanes_in rs all css) p (omega (arith, s.lane_stays css, lane_small rs now cs)) (first rs now css p g k)
      | inr g ↦ first_here (lane_in rs all cs) (lanes_in rs all css) p
          (elim s.new_queue [ inl e ↦ absurd (omega arith) | inr e ↦ s.lane_stays css ∙ e.1 ∙ omega arith ])
    ]
