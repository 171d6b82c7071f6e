-- The loop that deals the moves to lanes.
use Rattle.std.proofs.Common.{◌≡◌, ℕ, suc, ◌+◌, ◌<◌, ◌≤◌, Bool, true, false, cond, eqb, List, [], ◌∷◌, ◌++◌, length, get_or, take, set, Some, None, Option, unwrap_or, sym, refl, ap, ◌∙◌, inl, inr, arith, below_more}
use Rattle.std.specs.Option.{option_map}
use Rattle.std.proofs.lemmas.List.{get_or-set_same, get_or-set_other, get_or_append_left, get_or_push, length_push, take_more, take_all, ext_get_or}
use Rattle.std.proofs.lemmas.Bool.{cases_eq, eq-eqb, ne_eqb}
use Rattle.dealing.specs.Lanes.{together, key_of, queue_in, noted, queues_made, lanes_in, allocated, dealt_of}
use Rattle.dealing.proofs.NoConflict.{lane_at_lem}
use Rattle.dealing.proofs.StandsOnce.{length_lanes}

abbrev or_else : Option ℕ → Option ℕ → Option ℕ
or_else None o = o
or_else (Some x) o = Some x

step : (b d : Bool) (o : Option ℕ) (n : ℕ) →
    cond b (Some 1) (option_map suc (or_else o (cond d (Some n) None))) ≡ or_else (cond b (Some 1) (option_map suc o)) (cond d (Some (suc n)) None)
step true d o n = refl
step false true None n = refl
step false true (Some q) n = refl
step false false None n = refl
step false false (Some q) n = refl

pub queue_push : (xs : List ℕ) (y k : ℕ) → queue_in (xs ++ y ∷ []) k ≡ or_else (queue_in xs k) (cond (eqb y k) (Some (suc (length xs))) None)
queue_push [] y k = refl
queue_push (x ∷ xs) y k =
    ap (λ (o : Option ℕ). cond (eqb x k) (Some 1) (option_map suc o)) (queue_push xs y k) ∙ step (eqb x k) (eqb y k) (queue_in xs k) (suc (length xs))

pub made_push : (rs : List ℕ) (xs : List (List ℕ)) (cs made : List ℕ) → queues_made rs (xs ++ cs ∷ []) made ≡ cond (together rs cs) (noted (queues_made rs xs made) (key_of rs cs)) (queues_made rs xs made)
made_push rs [] cs made = refl
made_push rs (x ∷ xs) cs made = made_push rs xs cs (cond (together rs x) (noted made (key_of rs x)) made)

-- the lane of a move, once its queue is made
abbrev pub lane_at : List ℕ → List ℕ → List ℕ → Option ℕ
lane_at rs made cs = cond (together rs cs) (queue_in made (key_of rs cs)) (Some 0)

-- the loop has dealt the first i moves
pub record Queued (rs : List ℕ) (css : List (List ℕ)) (i n : ℕ) (qo : List (Option ℕ)) (ls : List ℕ) : Type 0 where
  pub count : n ≡ length (queues_made rs (take i css) [])
  pub queues : (k : ℕ) → k < 1025 → get_or qo k None ≡ queue_in (queues_made rs (take i css) []) k
  pub lanes : (k : ℕ) → k < i → lane_at rs (queues_made rs (take i css) []) (get_or css k []) ≡ Some (get_or ls k 0)

pub queued_none : (rs : List ℕ) (css : List (List ℕ)) (qo : List (Option ℕ)) (ls : List ℕ) → ((k : ℕ) → k < 1025 → get_or qo k None ≡ None) → Queued rs css 0 0 qo ls
queued_none rs css qo ls none = record { count = refl; queues = none; lanes = λ k h. absurd (omega arith) }

keeps : (b : Bool) (o p : Option ℕ) (q : ℕ) → cond b o (Some 0) ≡ Some q → cond b (or_else o p) (Some 0) ≡ Some q
keeps true None p q e = absurd (let z : ◌≡◌ {A = ℕ} 0 1 = cc in omega arith)
keeps true (Some x) p q e = e
keeps false o p q e = e

module _ (rs : List ℕ) (css : List (List ℕ)) (i n : ℕ) (qo : List (Option ℕ)) (ls cs : List ℕ) (hi : i < length css) (hl : length ls ≡ i)
    (ec : cs ≡ get_or css i []) (old : Queued rs css i n qo ls) where
  abbrev made : List ℕ
  made = queues_made rs (take i css) []

  more : queues_made rs (take (i + 1) css) [] ≡ cond (together rs cs) (noted made (key_of rs cs)) made
  more = rw (take_more css i [] hi, ← ec) (made_push rs (take i css) cs [])

  lanes_more : (ms : List ℕ) (q : ℕ) → ((k : ℕ) → k < i → lane_at rs ms (get_or css k []) ≡ Some (get_or ls k 0)) → lane_at rs ms cs ≡ Some q →
      (k : ℕ) → k < i + 1 → lane_at rs ms (get_or css k []) ≡ Some (get_or (ls ++ q ∷ []) k 0)
  lanes_more ms q kept here =
      below_more (λ k. lane_at rs ms (get_or css k []) ≡ Some (get_or (ls ++ q ∷ []) k 0)) i
      (λ k h. kept k h ∙ ap (λ (x : ℕ). Some x) (sym (get_or_append_left ls (q ∷ []) 0 k (omega arith))))
      (ap (lane_at rs ms) (sym ec) ∙ here ∙ ap (λ (x : ℕ). Some x) (sym (get_or_push ls q 0 i hl)))

  -- two clusters or more
  pub queued_rest : together rs cs ≡ false → Queued rs css (i + 1) n qo (ls ++ 0 ∷ [])
  queued_rest t =
      let m : queues_made rs (take (i + 1) css) [] ≡ made = more ∙ (rw t) in
      record { count = rw m old.count; queues = rw m old.queues; lanes = rw m (lanes_more made 0 old.lanes (rw t)) }

  module _ (key : ℕ) (t : together rs cs ≡ true) (ek : key ≡ key_of rs cs) (hk : key < 1025) where
    pub queued_old : (q : ℕ) → get_or qo key None ≡ Some q → Queued rs css (i + 1) n qo (ls ++ q ∷ [])
    queued_old q e =
        let f : queue_in made (key_of rs cs) ≡ Some q = rw ek at (sym (old.queues key hk) ∙ e) in
        let m : queues_made rs (take (i + 1) css) [] ≡ made = more ∙ (rw (t, f)) in
        record { count = rw m old.count; queues = rw m old.queues; lanes = rw m (lanes_more made q old.lanes (rw t f)) }

    pub queued_new : length qo ≡ 1025 → get_or qo key None ≡ None → Queued rs css (i + 1) (n + 1) (set qo key (Some (n + 1))) (ls ++ (n + 1) ∷ [])
    queued_new lq e =
        let none : queue_in made key ≡ None = sym (old.queues key hk) ∙ e in
        let f : queue_in made (key_of rs cs) ≡ None = rw ek at none in
        let m : queues_made rs (take (i + 1) css) [] ≡ made ++ key ∷ [] = more ∙ (rw (t, f, ek)) in
        let num : suc (length made) ≡ n + 1 = omega (arith, old.count) in
        record {
          count = rw m (omega (arith, length_push made key, old.count));
          queues =
              rw m
              (λ k h.
              rw (queue_push made key k)
              (elim (cases_eq k key) [
                | inl p ↦ rw (p, get_or-set_same qo key (Some (n + 1)) None (omega arith), none, eq-eqb key key refl) (ap (λ (x : ℕ). Some x) (sym num))
                | inr p ↦ rw (get_or-set_other qo key k (Some (n + 1)) None p, ne_eqb key k (λ r. p (sym r)), old.queues k h) (or_none (queue_in made k))
              ]));
          lanes =
              rw m
              (lanes_more (made ++ key ∷ []) (n + 1)
              (λ k h. rw (queue_push made key (key_of rs (get_or css k []))) (keeps (together rs (get_or css k [])) (queue_in made (key_of rs (get_or css k []))) _ (get_or ls k 0) (old.lanes k h)))
              (rw (t, queue_push made key (key_of rs cs), f, ← ek, eq-eqb key key refl) (ap (λ (x : ℕ). Some x) num)));
        }
      where
        or_none : (o : Option ℕ) → o ≡ or_else o None
        or_none None = refl
        or_none (Some x) = refl

lane_of_some : (b : Bool) (o : Option ℕ) (q : ℕ) → cond b o (Some 0) ≡ Some q → q ≡ cond b (unwrap_or o 0) 0
lane_of_some true None q e = absurd (let z : ◌≡◌ {A = ℕ} 0 1 = cc in omega arith)
lane_of_some true (Some x) q e = cc
lane_of_some false o q e = cc

pub queued_all : (rs : List ℕ) (css : List (List ℕ)) (i n m : ℕ) (qo : List (Option ℕ)) (ls : List ℕ) → length css ≤ i → length ls ≡ length css → m ≡ n → Queued rs css i n qo ls → dealt_of ls m ≡ allocated rs css
queued_all rs css i n m qo ls h l em d =
    let made = queues_made rs css [] in
    let c : n ≡ length made = rw (take_all i css h) at d.count in
    let e : ls ≡ lanes_in rs made css =
    ext_get_or 0 ls (lanes_in rs made css) (l ∙ sym (length_lanes rs made css))
    (λ k g. lane_of_some (together rs (get_or css k [])) (queue_in made (key_of rs (get_or css k []))) (get_or ls k 0) (rw (take_all i css h) at (d.lanes k (omega arith))) ∙ sym (lane_at_lem rs made css k (omega arith))) in
    rw (e, em, c)

pub queued_as : (rs : List ℕ) (css : List (List ℕ)) (i n m : ℕ) (qo qp : List (Option ℕ)) (ls lt : List ℕ) → m ≡ n → qp ≡ qo → lt ≡ ls → Queued rs css i n qo ls → Queued rs css i m qp lt
queued_as rs css i n m qo qp ls lt e f g d = rw (e, f, g) d

pub key_none : (b : Bool) (k : ℕ) → None ≡ cond b (Some k) None → b ≡ false
key_none true k e = absurd (let z : ◌≡◌ {A = ℕ} 0 1 = cc in omega arith)
key_none false k e = refl

pub key_some : (b : Bool) (k x : ℕ) → Some x ≡ cond b (Some k) None → (b ≡ true) × (x ≡ k)
key_some true k x e = (refl, cc)
key_some false k x e = absurd (let z : ◌≡◌ {A = ℕ} 0 1 = cc in omega arith)
