-- The lanes of a run beside their books, and what a step of one lane does to them.
use Rattle.std.proofs.Common.{◌≡◌, ℕ, ◌+◌, ◌<◌, ◌≤◌, Bool, true, false, ◌≢◌, List, [], length, sym, ap, ◌∙◌, subst, inl, inr, arith}
use Rattle.std.specs.List.{slice_get}
use Rattle.std.proofs.lemmas.List.{length-set, get_or-set_same, get_or-set_other}
use Rattle.std.proofs.lemmas.Bool.{leb-true, cases_eq, cases_lt}
use Rattle.yard.specs.declared.run.LaneRow.{LaneRow}
use Rattle.yard.specs.Rules.{Rules}
use Rattle.yard.specs.Runs.{End}
use Rattle.books.specs.Scripts.{Script, State, no_row, row_of, part, move_at, step_at, lane_moves, room_to_save, due, due_place}
use Rattle.books.specs.Calls.{Turn, turn, turned, move_back}
use Rattle.books.specs.Books.{Book, Entry, fed, closed, queue_opens, rest_opens, lane_cells, joint}
use Rattle.books.specs.Law.{In}
use Rattle.books.proofs.Places.{Alike, same_nth}
use Rattle.books.proofs.Joint.{joint_is}
use Rattle.books.proofs.Naming.{Writes}
use Rattle.books.proofs.SetBack.{set_back_alike}
use Rattle.books.proofs.Opened.{Queue, Opened}
use Rattle.books.proofs.Rows.{RowOk, parted, left_more, due_there, due_in, names_it}
use Rattle.books.proofs.Turning.{turn_ok, turn_still, turn_long, turn_saved, turn_saved_long, turn_told, turn_ends_long}
use Rattle.books.proofs.Following.{Follows, turn_follows}

abbrev pub All : ℕ → Type 0
All x = Unit {0}

-- what every call keeps
pub record Kept {V : Type 0} (S : Script) (start st : State V) : Type 0 where
  pub lanes_long : length st.lanes ≡ length start.lanes
  pub saved_long : length st.saved ≡ length start.saved
  pub values_long : length st.values ≡ length start.values
  pub ends_long : length st.ends ≡ length start.ends
  pub rows : (a : ℕ) → a ≤ S.numbers.queues → RowOk S (row_of start a) (row_of st a)

-- a lane's row and the ends of its moves are as its book has them
pub record RowTracks {V : Type 0} (S : Script) (start : State V) (a : ℕ) (row : LaneRow) (es : List End) (b : Book V) : Type 0 where
  pub left : b.left ≡ part S.line_up row.next row.end
  pub took : b.taken ≡ row.taken
  pub ends : Alike (In (lane_moves S start a)) es b.ends

-- the cells of P are as a lane's book has them, and setting back the lane's move under way gives the book's values before it
pub record CellsTrack {V : Type 0} (R : Rules V) (S : Script) (P : ℕ → Type 0) (row : LaneRow) (st : State V) (b : Book V) : Type 0 where
  pub values : Alike P st.values b.values
  pub before : Alike P (move_back R S st.saved row st.values) b.before

-- the board before and after the first step of the rest list
pub record Before {V : Type 0} (R : Rules V) (S : Script) (start st : State V) (books : ℕ → Book V) (rest : Book V) : Type 0 where
  pub cells : (q : ℕ) → Queue S q → CellsTrack R S (In (lane_cells S start q)) (row_of st q) st (books q)
  pub others : (x : ℕ) → ((q : ℕ) → Queue S q → In (lane_cells S start q) x → ⊥) → slice_get st.values x ≡ slice_get start.values x
  pub unopened : rest ≡ rest_opens R S start

pub record After {V : Type 0} (R : Rules V) (S : Script) (st : State V) (books : ℕ → Book V) (rest : Book V) : Type 0 where
  pub done : (q : ℕ) → Queue S q → (books q).left ≡ []
  pub cells : CellsTrack R S All (row_of st 0) st rest

abbrev pub Phase : {V : Type 0} → Rules V → Script → State V → State V → (ℕ → Book V) → Book V → Bool → Type 0
Phase R S start st books rest false = Before R S start st books rest
Phase R S start st books rest true = After R S st books rest

-- the lists of a run beside its books
pub record Invariant {V : Type 0} (R : Rules V) (S : Script) (start st : State V) (books : ℕ → Book V) (rest : Book V) (begun : Bool) : Type 0 where
  pub kept : Kept S start st
  pub queue : (q : ℕ) → Queue S q → RowTracks S start q (row_of st q) st.ends (books q)
  pub rest_row : RowTracks S start 0 (row_of st 0) st.ends rest
  pub strange : (m : ℕ) → ((a : ℕ) → a ≤ S.numbers.queues → In (lane_moves S start a) m → ⊥) → slice_get st.ends m ≡ slice_get start.ends m
  pub phase : Phase R S start st books rest begun

-- of the queue books alone: each has all the cells, and one at its end is the closed one
pub record Lawful {V : Type 0} (R : Rules V) (S : Script) (start : State V) (books : ℕ → Book V) : Type 0 where
  pub wide : (q : ℕ) → length (books q).values ≡ length start.values
  pub closing : (q : ℕ) → Queue S q → (books q).left ≡ [] → books q ≡ closed R S (queue_opens S start q)

-- before the first step of the rest list the board is the queue books' joint one
pub joint_board : {V : Type 0} (R : Rules V) (S : Script) (start st : State V) (books : ℕ → Book V) (rest : Book V) → Invariant R S start st books rest false →
    Lawful R S start books → st.values ≡ joint S start books S.numbers.queues
joint_board R S start st books rest i good =
    same_nth st.values (joint S start books S.numbers.queues)
    (λ x. joint_is S start books good.wide st.values x S.numbers.queues (λ r h n. (i.phase.cells r h).values x n) (i.phase.others x))

-- only the books of the queues matter
module _ {V : Type 0} (R : Rules V) (S : Script) (start st : State V) (books books' : ℕ → Book V) (rest : Book V)
    (same : (q : ℕ) → Queue S q → books' q ≡ books q) where
  phase_books : (begun : Bool) → Phase R S start st books rest begun → Phase R S start st books' rest begun
  phase_books false p = record {
    cells = λ q h. subst (λ (b : Book V). CellsTrack R S (In (lane_cells S start q)) (row_of st q) st b) (sym (same q h)) (p.cells q h);
    others = p.others;
    unopened = p.unopened;
  }
  phase_books true p = record { done = λ q h. ap (λ (b : Book V). b.left) (same q h) ∙ p.done q h; cells = p.cells }

  pub with_books : (begun : Bool) → Invariant R S start st books rest begun → Invariant R S start st books' rest begun
  with_books begun i = record {
    kept = i.kept;
    queue = λ q h. subst (λ (b : Book V). RowTracks S start q (row_of st q) st.ends b) (sym (same q h)) (i.queue q h);
    rest_row = i.rest_row;
    strange = i.strange;
    phase = phase_books begun i.phase;
  }

-- an accepted step of lane b
module _ {V : Type 0} {R : Rules V} {S : Script} {start : State V} (o : Opened R S start)
    (st : State V) (k : Kept S start st) (b : ℕ) (lb : b ≤ S.numbers.queues) (l : (row_of st b).next < (row_of st b).end) where
  abbrev row : LaneRow
  row = row_of st b

  abbrev t : Turn V
  t = turn R S st row

  abbrev st' : State V
  st' = turned st b t

  row_same : row_of st' b ≡ t.row
  row_same = get_or-set_same st.lanes b t.row no_row (let m = k.lanes_long in let n = o.lanes_long in omega arith)

  row_other : (a : ℕ) → a ≢ b → row_of st' a ≡ row_of st a
  row_other a ne = get_or-set_other st.lanes b a t.row no_row ne

  pub turned_kept : Kept S start st'
  turned_kept = record {
    lanes_long = length-set st.lanes b t.row ∙ k.lanes_long;
    saved_long = turn_saved_long R S row st ∙ k.saved_long;
    values_long = turn_long R S row st ∙ k.values_long;
    ends_long = turn_ends_long R S row st ∙ k.ends_long;
    rows = λ a la. elim (cases_eq a b) [
      | inl e ↦ subst (λ (n : ℕ). RowOk S (row_of start n) (row_of st' n)) (sym e)
          (subst (λ (x : LaneRow). RowOk S (row_of start b) x) (sym row_same) (turn_ok o b lb row (k.rows b lb) l st))
      | inr ne ↦ subst (λ (x : LaneRow). RowOk S (row_of start a) x) (sym (row_other a ne)) (k.rows a la)
    ];
  }

  due_b : In (lane_moves S start b) (due S row)
  due_b = due_there o b lb row (k.rows b lb) l

  -- a move of no lane
  pub strange_still : (m : ℕ) → ((a : ℕ) → a ≤ S.numbers.queues → In (lane_moves S start a) m → ⊥) → slice_get st'.ends m ≡ slice_get st.ends m
  strange_still m free = turn_told R S row st m (λ e. free b lb (subst (λ (n : ℕ). In (lane_moves S start b) n) (sym e) due_b))

  -- another lane
  module _ (a : ℕ) (la : a ≤ S.numbers.queues) (ne : a ≢ b) where
    pub row_tracks_other : (bk : Book V) → RowTracks S start a (row_of st a) st.ends bk → RowTracks S start a (row_of st' a) st'.ends bk
    row_tracks_other bk r =
        subst (λ (x : LaneRow). RowTracks S start a x st'.ends bk) (sym (row_other a ne)) (record {
          left = r.left;
          took = r.took;
          ends = λ m h. turn_told R S row st m (λ e. parted o a b m la lb ne h (subst (λ (n : ℕ). In (lane_moves S start b) n) (sym e) due_b)) ∙ r.ends m h;
        })

    -- the steps of its move under way are others, and name its cells
    steps_apart : (j : ℕ) → j < (row_of st a).taken → (move_at S (due S (row_of st a))).first + j ≢ due_place S row
    steps_apart j h e =
        let ra = row_of st a in
        let oka = k.rows a la in
        let okb = k.rows b lb in
        elim (cases_lt ra.next ra.end) [
          | inl g ↦ let ia = oka.inside g in
              let ib = okb.inside l in
              let same : due S ra ≡ due S row = o.one_move (due S ra) (due S row) ((move_at S (due S ra)).first + j)
              (due_in o a la ra oka g) (due_in o b lb row okb l) (omega arith) (omega arith) (omega arith) (omega arith) in
              parted o a b (due S row) la lb ne (subst (λ (n : ℕ). In (lane_moves S start a) n) same (due_there o a la ra oka g)) due_b
          | inr g ↦ let z = oka.done g in omega arith
        ]

    steps_named : (j : ℕ) → j < (row_of st a).taken → In (lane_cells S start a) (step_at S ((move_at S (due S (row_of st a))).first + j)).cell
    steps_named j h =
        let ra = row_of st a in
        elim (cases_lt ra.next ra.end) [
          | inl g ↦ names_it o a la ra (k.rows a la) g j (omega arith)
          | inr g ↦ absurd (let z = (k.rows a la).done g in omega arith)
        ]

    -- its cells, where lane b writes none of them
    pub cells_track_other : ((x : ℕ) → In (lane_cells S start a) x → Writes R S (lane_moves S start b) x → ⊥) → (bk : Book V) →
        CellsTrack R S (In (lane_cells S start a)) (row_of st a) st bk → CellsTrack R S (In (lane_cells S start a)) (row_of st' a) st' bk
    cells_track_other free bk v =
        let P = In (lane_cells S start a) in
        let ra = row_of st a in
        let same : Alike P st'.values st.values = λ x n. turn_still o b lb row (k.rows b lb) l st x (free x n) in
        subst (λ (x : LaneRow). CellsTrack R S P x st' bk) (sym (row_other a ne)) (record {
          values = λ x n. same x n ∙ v.values x n;
          before = λ x n. set_back_alike R S.steps P st'.saved st.saved (move_at S (due S ra)).first ra.taken steps_named
              (λ j h. turn_saved R S row st ((move_at S (due S ra)).first + j) (steps_apart j h)) st'.values st.values same x n ∙ v.before x n;
        })

  -- this lane and its book, on the cells of P
  module _ (P : ℕ → Type 0) where
    pub own_follows : ((x : ℕ) → In (lane_cells S start b) x → P x) → room_to_save S start ≡ true → (bk : Book V) →
        RowTracks S start b row st.ends bk → CellsTrack R S P row st bk → Follows R S P (In (lane_moves S start b)) t (fed R S (room_to_save S start) bk)
    own_follows in_p room bk r v =
        let okb = k.rows b lb in
        subst (λ (q : Bool). Follows R S P (In (lane_moves S start b)) t (fed R S q bk)) (sym room)
        (turn_follows o P (In (lane_moves S start b)) b lb row okb l in_p due_b st
        (let s = leb-true S.numbers.steps (length start.saved) room in
        let n = k.saved_long in
        let i = okb.inside l in
        let p = o.steps_within (due S row) (due_in o b lb row okb l) in
        omega arith)
        bk.values bk.before bk.ends v.values v.before r.ends bk.left bk.taken r.left r.took)

    pub own_row : (e : Entry V) → Follows R S P (In (lane_moves S start b)) t e → RowTracks S start b (row_of st' b) st'.ends e.book
    own_row e f = subst (λ (x : LaneRow). RowTracks S start b x st'.ends e.book) (sym row_same) (record { left = f.left; took = f.took; ends = f.ends })

    pub own_cells : (e : Entry V) → Follows R S P (In (lane_moves S start b)) t e → CellsTrack R S P (row_of st' b) st' e.book
    own_cells e f = subst (λ (x : LaneRow). CellsTrack R S P x st' e.book) (sym row_same) (record { values = f.values; before = f.before })

  -- the lane's book has a move left
  pub some_left : (bk : Book V) → RowTracks S start b row st.ends bk → bk.left ≡ [] → ⊥
  some_left bk r e = let h = ap length (sym e ∙ r.left ∙ left_more o b lb row (k.rows b lb) l) in omega arith
