-- What a pen has written: its page, the place of the next byte, and whose list the page is.
use Rattle.std.specs.Prelude.{◌≡◌, ℕ, ◌+◌, ◌-◌, ◌^◌, min, List, [], ◌∷◌, slice_set}
use Rattle.std.specs.Borrow.{MutBor}
use Rattle.listings.specs.declared.pen.Pen.{Pen}

pub record Penned : Type 0 where
  pub page : List ℕ
  pub at : ℕ
  pub lent : ℕ

abbrev pub standing : List ℕ → ℕ → ℕ → Penned
standing page at lent = record { page = page; at = at; lent = lent }

abbrev pub penned : Pen → Penned
penned p = standing p.page.now p.at p.page.ghost_name

-- one byte more: past the page it is only counted, as far as a count goes
abbrev pub put_on : ℕ → Penned → Penned
put_on b s = standing (slice_set s.page s.at b) (min (s.at + 1) (2 ^ 64 - 1)) s.lent

abbrev pub wrote : List ℕ → Penned → Penned
wrote [] s = s
wrote (b ∷ bs) s = wrote bs (put_on b s)

-- each call that is given a pen writes a text with it
abbrev pub Writes : (MutBor Pen → Unit {0} → MutBor Pen → Type 0) → List ℕ → Type 0
Writes call text = (given : MutBor Pen) (left : MutBor Pen) → call given tt left → penned left.now ≡ wrote text (penned given.now)
