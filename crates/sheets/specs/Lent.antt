-- What the lists that a caller lends hold.
use Rattle.sheets.specs.declared.lists.SheetLists.{SheetLists}
use Rattle.sheets.specs.Sheet.{Lists, lists}

abbrev pub lent : {V : Type 0} → SheetLists V → Lists V
lent l = lists l.values.now l.moves.now l.steps.now l.choices.now
