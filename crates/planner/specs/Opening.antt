-- What opening a run leaves in its lists, whatever it leaves in the lists that it only works with.
use Rattle.std.specs.Prelude.{◌≡◌, ℕ, List, replicate, Result}
use Rattle.yard.specs.declared.refusal.Refusal.{Refusal}
use Rattle.yard.specs.Batches.{Listed}
use Rattle.yard.specs.Rules.{Rules}
use Rattle.dealing.specs.declared.opening.Opening.{Opening}
use Rattle.dealing.specs.declared.opening.lists.RunLists.{RunLists}
use Rattle.dealing.specs.Opening.{Lists, lists, opened, open_into}
use Rattle.dealing.specs.Openings.{told_opening}

-- the lists of a run, with empty lists to work with
abbrev pub with_empty : RunLists → Lists
with_empty r = lists r.line_up.now r.lanes.now r.outcomes.now (replicate 1024 0) (replicate 1024 0) (replicate 4096 0)

pub record OpenedIn {V : Type 0} (R : Rules V) (b : Listed) (count : ℕ) (answer : Result Opening Refusal) (before after : RunLists) : Type 0 where
  pub parents : List ℕ
  pub marks : List ℕ
  pub pairs : List ℕ
  pub opens : opened (told_opening answer) (lists after.line_up.now after.lanes.now after.outcomes.now parents marks pairs)
      ≡ open_into R b count (with_empty before)
