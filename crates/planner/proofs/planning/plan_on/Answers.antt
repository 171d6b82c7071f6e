use Rattle.std.proofs.Common.{map, sym, rules}
use Rattle.std.proofs.lemmas.Result.{err_from_is_err_and}
use Rattle.yard.specs.Batches.{listed}
use Rattle.yard.specs.Numbers.{refusal_number}
use Rattle.yard.specs.Runs.{end_of}
use Rattle.dealing.specs.Opening.{lists}
use Rattle.dealing.specs.Openings.{numbers_in}
use Rattle.books.specs.Whole.{stand}
use Rattle.planner.specs.Plan.{empty_lists}
use Rattle.planner.proofs.Finishing.{planned_refused, planned_run, opens_with}
use Rattle.planner.proofs.planning.plan_on.Goals as goal

pub returns-in_err-opening : goal.returns-in_err-opening
returns-in_err-opening g c =
    let p = err_from_is_err_and c.from_residual.result c.from_residual.ensures.1 in
    rw (p.1, p.2)
    (planned_refused g.K.Kind.rules g.K.Kind.rows g.K.Kind.equals (listed c.args.batch) c.args.values.now c.args.listing.now (g.B.Board.values c.args.board.now) c.requires.holds
    (refusal_number c.in_err-opening.field-0.0) _ c.in_err-opening.ensures.opened.opens)

pub work_through-requires-clause-opened : goal.work_through-requires-clause-opened
work_through-requires-clause-opened g c =
    let o = c.in_ok-opening.ensures.opened in
    record {
      before = empty_lists;
      parents = o.parents;
      marks = o.marks;
      pairs = o.pairs;
      opens = sym (opens_with (search rules) (search rules) (search rules) o.opens);
    }

pub returns : goal.returns
returns g c =
    let o = c.in_ok-opening.ensures.opened in
    let run = c.work_through.new.run in
    let end = stand (g.B.Board.values run.board.now) (map end_of run.outcomes.now) in
    planned_run g.K.Kind.rules g.K.Kind.rows g.K.Kind.equals (listed c.args.batch) c.args.values.now c.args.listing.now (g.B.Board.values c.args.board.now) c.requires.holds
    (numbers_in c.in_ok-opening.opening) (lists _ _ _ o.parents o.marks o.pairs) c.args.saved.now end _ _ _
    (opens_with (search rules) (search rules) (search rules) o.opens) c.in_ok-work_through.ensures.whole (search rules) (search rules) c.list.ensures
