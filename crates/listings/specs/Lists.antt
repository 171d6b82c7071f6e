-- The run that a record tells of.
use Rattle.std.specs.Prelude.{List}
use Rattle.dealing.specs.Openings.{numbers_in}
use Rattle.listings.specs.declared.run_record.RunRecord.{RunRecord}
use Rattle.listings.specs.Listings.{Run, run_of}

abbrev pub run_in : {V : Type 0} → RunRecord V → List V → Run V
run_in r closing = run_of (numbers_in r.opening) r.moves.now r.line_up.now r.lanes.now r.outcomes.now r.values.now closing
