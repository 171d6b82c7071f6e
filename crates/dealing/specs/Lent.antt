-- The lists that open is lent, by what they hold and by which lists they are.
use Rattle.std.specs.Prelude.{◌≡◌}
use Rattle.dealing.specs.declared.opening.lists.RunLists.{RunLists}
use Rattle.dealing.specs.declared.opening.lists.WorkLists.{WorkLists}
use Rattle.dealing.specs.Opening.{Lists, lists}

abbrev pub lists_in : RunLists → WorkLists → Lists
lists_in r w = lists r.line_up.now r.lanes.now r.outcomes.now w.parents.now w.marks.now w.pairs.now

-- the same lists are lent as before, so that the lender knows them again
abbrev pub SameRunLists : RunLists → RunLists → Type 0
SameRunLists a b = (b.line_up.ghost_name ≡ a.line_up.ghost_name) × (b.lanes.ghost_name ≡ a.lanes.ghost_name) × (b.outcomes.ghost_name ≡ a.outcomes.ghost_name)

abbrev pub SameWorkLists : WorkLists → WorkLists → Type 0
SameWorkLists a b = (b.parents.ghost_name ≡ a.parents.ghost_name) × (b.marks.ghost_name ≡ a.marks.ghost_name) × (b.pairs.ghost_name ≡ a.pairs.ghost_name)
