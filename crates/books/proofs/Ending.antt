-- A book at its end is its moves worked whole, however often it was fed.
use Rattle.std.proofs.Common.{◌≡◌, ℕ, zero, suc, ◌+◌, ◌-◌, ◌<◌, ◌≤◌, Bool, true, false, ltb, ◌⊎◌, List, [], ◌∷◌, length, get_or, drop, set, sym, refl, ap, ◌∙◌, inl, inr, add-one, arith}
use Rattle.std.proofs.lemmas.List.{drop_more, drop_all}
use Rattle.std.proofs.lemmas.Bool.{ltb-true, ltb-false, cases_lt}
use Rattle.yard.specs.declared.batch.Step.{Step}
use Rattle.yard.specs.Rules.{Rules}
use Rattle.yard.specs.Runs.{End, done, failed}
use Rattle.dealing.specs.Active.{no_step}
use Rattle.books.specs.Scripts.{Script, move_steps}
use Rattle.books.specs.Steps.{Went, goes, stuck, applied}
use Rattle.books.specs.Whole.{Worked, through, halted, Stand, stand, went_on, ended, works, wholes}
use Rattle.books.specs.Books.{Book, book_of, new_book, fed_past, fed_went, fed_left, fed, feeds, steps_in, closed}
use Rattle.books.specs.Law.{In}
use Rattle.books.proofs.Places.{in_here, in_there}

module _ {V : Type 0} (R : Rules V) (S : Script) where
  -- a book that is at its end, or has no room to save, stays as it is
  stays : (room : Bool) (b : Book V) → b.left ≡ [] → (fed R S room b).book ≡ b
  stays true b e = ap (λ l. (fed_left R S b l).book) e
  stays false b e = refl

  feeds_stay : (room : Bool) (b : Book V) (n : ℕ) → b.left ≡ [] → feeds R S room b n ≡ b
  feeds_stay room b zero e = refl
  feeds_stay room b (suc n) e = ap (λ c. (fed R S room c).book) (feeds_stay room b n e) ∙ stays room b e

  no_room : (b : Book V) (n : ℕ) → feeds R S false b n ≡ b
  no_room b zero = refl
  no_room b (suc n) = no_room b n

  feeds_add : (room : Bool) (b : Book V) (n k : ℕ) → feeds R S room b (n + k) ≡ feeds R S room (feeds R S room b n) k
  feeds_add room b n zero = ap (feeds R S room b) (let e : n + 0 ≡ n = omega arith in e)
  feeds_add room b n (suc k) =
      let e : n + suc k ≡ suc (n + k) = omega arith in
      ap (feeds R S room b) e ∙ ap (λ c. (fed R S room c).book) (feeds_add room b n k)

  -- each of the moves has a step
  abbrev pub Full : List ℕ → Type 0
  Full ms = (m : ℕ) → In ms m → 0 < length (move_steps S m)

  -- the steps that are left of the first move, worked from the values now, give what all its steps give from the values before
  abbrev UnderWay : List V → List V → ℕ → List ℕ → Type 0
  UnderWay vs bs k [] = vs ≡ bs
  UnderWay vs bs k (m ∷ ms) = (k < length (move_steps S m)) × (works R vs k (drop k (move_steps S m)) ≡ works R bs 0 (move_steps S m))

  new_under_way : (vs : List V) (ms : List ℕ) → Full ms → UnderWay vs vs 0 ms
  new_under_way vs [] f = refl
  new_under_way vs (m ∷ ms) f = (f m (in_here m ms), refl)

  -- a book's moves not ended, worked whole, give what all the moves give from the start
  module _ (st : Stand V) (all : List ℕ) where
    pub record Sound (b : Book V) : Type 0 where
      pub full : Full b.left
      pub under_way : UnderWay b.values b.before b.taken b.left
      pub rest : wholes R S (stand b.before b.ends) b.left ≡ wholes R S st all

    -- a step of the first move m
    module _ (vs bs : List V) (m : ℕ) (ms : List ℕ) (k : ℕ) (es : List End) (sound : Sound (book_of vs bs (m ∷ ms) k es)) where
      abbrev now : Book V
      now = book_of vs bs (m ∷ ms) k es

      abbrev after_it : List Step
      after_it = drop (k + 1) (move_steps S m)

      over_sound : (w : Worked V) → w ≡ works R bs 0 (move_steps S m) → (ws : List V) (fs : List End) → ended (stand bs es) m w ≡ stand ws fs →
          Sound (new_book ws ms fs)
      over_sound w e ws fs f =
          let full : Full ms = λ j h. sound.full j (in_there j m ms h) in
          record { full = full; under_way = new_under_way ws ms full; rest = ap (λ s. wholes R S s ms) (sym f ∙ ap (ended (stand bs es) m) e) ∙ sound.rest }

      past_sound : (ws : List V) → works R ws (suc k) after_it ≡ works R bs 0 (move_steps S m) → (t : Bool) → ltb (k + 1) (length (move_steps S m)) ≡ t →
          Sound (fed_past now m ms ws t).book
      past_sound ws e true t = record {
        full = sound.full;
        under_way = (ltb-true (k + 1) (length (move_steps S m)) t, ap (λ n. works R ws n after_it) (add-one k) ∙ e);
        rest = sound.rest;
      }
      past_sound ws e false t =
          let none : after_it ≡ [] = drop_all (k + 1) (move_steps S m) (ltb-false (k + 1) (length (move_steps S m)) t) in
          over_sound (through ws) (sym (ap (works R ws (suc k)) none) ∙ e) ws (set es m done) refl

      went_sound : (w : Went V) → went_on (suc k) (λ ws. works R ws (suc k) after_it) w ≡ works R bs 0 (move_steps S m) → Sound (fed_went R S now m ms w).book
      went_sound (goes ws) e = past_sound ws e (ltb (k + 1) (length (move_steps S m))) refl
      went_sound (stuck n) e = over_sound (halted (suc k) n) e bs (set es m (failed (k + 1) n)) (ap (λ j. stand bs (set es m (failed j n))) (sym (add-one k)))

      step_sound : Sound (fed_left R S now (m ∷ ms)).book
      step_sound =
          went_sound (applied R vs (get_or (move_steps S m) k no_step))
          (ap (works R vs k) (sym (drop_more (move_steps S m) k no_step sound.under_way.0)) ∙ sound.under_way.1)

    left_sound : (vs bs : List V) (l : List ℕ) (k : ℕ) (es : List End) → Sound (book_of vs bs l k es) → Sound (fed_left R S (book_of vs bs l k es) l).book
    left_sound vs bs [] k es s = s
    left_sound vs bs (m ∷ ms) k es s = step_sound vs bs m ms k es s

    pub fed_sound : (room : Bool) (b : Book V) → Sound b → Sound (fed R S room b).book
    fed_sound true b s = left_sound b.values b.before b.left b.taken b.ends s
    fed_sound false b s = s

    pub feeds_sound : (room : Bool) (b : Book V) (n : ℕ) → Sound b → Sound (feeds R S room b n)
    feeds_sound room b zero s = s
    feeds_sound room b (suc n) s = fed_sound room (feeds R S room b n) (feeds_sound room b n s)

    -- at its end a book has what its moves worked whole give
    end_is : (vs bs : List V) (l : List ℕ) (k : ℕ) (es : List End) → Sound (book_of vs bs l k es) → l ≡ [] → stand vs es ≡ wholes R S st all
    end_is vs bs [] k es s e = ap (λ us. stand us es) s.under_way ∙ s.rest
    end_is vs bs (m ∷ ms) k es s e = absurd (let h = ap length e in omega arith)

    pub ended_is : (b : Book V) → Sound b → b.left ≡ [] → stand b.values b.ends ≡ wholes R S st all
    ended_is b s e = end_is b.values b.before b.left b.taken b.ends s e

    -- each call brings a book nearer to its end
    abbrev to_go : Book V → ℕ
    to_go b = steps_in S b.left - b.taken

    past_less : (b : Book V) (m : ℕ) (ms : List ℕ) (ws : List V) → b.taken < length (move_steps S m) → (t : Bool) →
        to_go (fed_past b m ms ws t).book + 1 ≤ steps_in S (m ∷ ms) - b.taken
    past_less b m ms ws h true = omega arith
    past_less b m ms ws h false = omega arith

    went_less : (b : Book V) (m : ℕ) (ms : List ℕ) → b.taken < length (move_steps S m) → (w : Went V) →
        to_go (fed_went R S b m ms w).book + 1 ≤ steps_in S (m ∷ ms) - b.taken
    went_less b m ms h (goes ws) = past_less b m ms ws h (ltb (b.taken + 1) (length (move_steps S m)))
    went_less b m ms h (stuck n) = omega arith

    abbrev Nearer : Book V → Book V → ℕ → Type 0
    Nearer b c n = (c.left ≡ []) ⊎ (to_go c + n ≤ to_go b)

    left_less : (vs bs : List V) (l : List ℕ) (k : ℕ) (es : List End) → Sound (book_of vs bs l k es) →
        Nearer (book_of vs bs l k es) (fed_left R S (book_of vs bs l k es) l).book 1
    left_less vs bs [] k es s = inl refl
    left_less vs bs (m ∷ ms) k es s = inr (went_less (book_of vs bs (m ∷ ms) k es) m ms s.under_way.0 (applied R vs (get_or (move_steps S m) k no_step)))

    feeds_less : (b : Book V) (n : ℕ) → Sound b → Nearer b (feeds R S true b n) n
    feeds_less b zero s = inr (omega arith)
    feeds_less b (suc n) s =
        let c = feeds R S true b n in
        let t = feeds_sound true b n s in
        elim (feeds_less b n s) [
          | inl e ↦ inl (ap (λ (d : Book V). d.left) (stays true c e) ∙ e)
          | inr h ↦ elim (left_less c.values c.before c.left c.taken c.ends t) [
            | inl e ↦ inl e
            | inr k ↦ inr (omega arith)
          ]
        ]

    none_left : (vs bs : List V) (l : List ℕ) (k : ℕ) → UnderWay vs bs k l → steps_in S l - k ≤ 0 → l ≡ []
    none_left vs bs [] k u h = refl
    none_left vs bs (m ∷ ms) k u h = absurd (let q = u.0 in omega arith)

    pub closed_ends : (b : Book V) → Sound b → b.taken ≡ 0 → (closed R S b).left ≡ []
    closed_ends b s z =
        let c = closed R S b in
        elim (feeds_less b (steps_in S b.left) s) [
          | inl e ↦ e
          | inr h ↦ none_left c.values c.before c.left c.taken (feeds_sound true b (steps_in S b.left) s).under_way (omega arith)
        ]

    -- a book fed as often as its moves have steps, or oftener, is the closed book
    pub closed_from : (b : Book V) (n : ℕ) → Sound b → b.taken ≡ 0 → steps_in S b.left ≤ n → feeds R S true b n ≡ closed R S b
    closed_from b n s z h =
        let k = steps_in S b.left in
        let f : k + (n - k) ≡ n = omega arith in
        ap (feeds R S true b) (sym f) ∙ feeds_add true b k (n - k) ∙ feeds_stay true (closed R S b) (n - k) (closed_ends b s z)

    -- however often it was fed, a book at its end is the closed book
    pub closed_is : (room : Bool) (b : Book V) (n : ℕ) → Sound b → b.taken ≡ 0 → (feeds R S room b n).left ≡ [] → feeds R S room b n ≡ closed R S b
    closed_is false b n s z e =
        let h : b.left ≡ [] = sym (ap (λ (d : Book V). d.left) (no_room b n)) ∙ e in
        no_room b n ∙ sym (feeds_stay true b (steps_in S b.left) h)
    closed_is true b n s z e =
        let k = steps_in S b.left in
        elim (cases_lt n k) [
          | inl h ↦ let f : n + (k - n) ≡ k = omega arith in
              sym (feeds_stay true (feeds R S true b n) (k - n) e) ∙ sym (feeds_add true b n (k - n)) ∙ ap (feeds R S true b) f
          | inr h ↦ closed_from b n s z h
        ]

  pub new_sound : (vs : List V) (ms : List ℕ) (es : List End) → Full ms → Sound (stand vs es) ms (new_book vs ms es)
  new_sound vs ms es f = record { full = f; under_way = new_under_way vs ms f; rest = refl }
