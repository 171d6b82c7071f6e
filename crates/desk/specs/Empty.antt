-- What lies on a desk, and a desk on which nothing has been read yet.
use Rattle.std.specs.Prelude.{◌≡◌, replicate, vec_items}
use Rattle.yard.specs.Moves.{nothing_written, nothing_in_moves}
use Rattle.sheets.specs.Sheet.{Lists, lists}
use Rattle.desk.specs.declared.lists.Desk.{Desk}

-- what lies on a desk
abbrev pub on_desk : {V : Type 0} → Desk V → Lists V
on_desk d = lists (vec_items d.values) (vec_items d.moves) (vec_items d.steps) (vec_items d.choices)

pub record LaidOut {V : Type 0} (unnamed : V) (d : Desk V) : Type 0 where
  pub values : vec_items d.values ≡ replicate 1024 unnamed
  pub moves : vec_items d.moves ≡ replicate 256 nothing_in_moves
  pub steps : vec_items d.steps ≡ replicate 1024 nothing_written
  pub choices : vec_items d.choices ≡ replicate 64 0
