-- The law of runs, from what open leaves and what the calls answer.
use Rattle.std.proofs.Common.{cond, List, length, Some, sym, ap, ◌∙◌}
use Rattle.std.specs.List.{slice_get}
use Rattle.yard.specs.declared.run.Call.{Call}
use Rattle.yard.specs.declared.run.Call.TheVariants.{Look}
use Rattle.yard.specs.Cells.{value_at}
use Rattle.yard.specs.Rules.{Rules, Looks}
use Rattle.yard.specs.Runs.{Reply, holds}
use Rattle.books.specs.Scripts.{Script, State}
use Rattle.books.specs.Calls.{replied, stage, Answered}
use Rattle.books.specs.Books.{joint}
use Rattle.books.specs.Law.{book, rest, Law, LawOfRuns}
use Rattle.books.proofs.Opened.{Opened}
use Rattle.books.proofs.Running.{board_then, named_then, other_then, answered, no_such_lane}
use Rattle.books.proofs.Serial.{serial}
use Rattle.books.proofs.Tallying.{accepted_all, tally_then}
use Rattle.books.proofs.Opens.{as_opened}

module _ {V : Type 0} {R : Rules V} {S : Script} {start : State V} (o : Opened R S start)
    (calls : List Call) (replies : List (Reply V)) (heard : Answered R S start calls replies) where
  law : Law R S start calls replies (stage R S start calls (length calls))
  law = record {
    stands_once = o.stands_once;
    no_conflict = o.no_conflict;
    board = board_then o calls replies heard (length calls);
    before_rest_named = λ i q x e h n. ap (λ ws. slice_get ws x) (sym (board_then o calls replies heard i)) ∙ named_then o calls replies heard i q x e h n;
    before_rest_other = λ i x e free. ap (λ ws. slice_get ws x) (sym (board_then o calls replies heard i)) ∙ other_then o calls replies heard i x e free;
    after_rest = λ i e. ap (λ t. cond t (rest R S start calls replies i).values (joint S start (book R S start calls replies i) S.numbers.queues)) e;
    looks = λ i x e. heard i (Look x) e ∙ ap (λ ws. Some (replied holds (value_at ws x))) (board_then o calls replies heard i);
    steps = answered o calls replies heard;
    no_such_lane = no_such_lane o calls replies heard;
    serial = λ qs order none. serial o qs order calls replies heard (length calls) none;
    accepted = accepted_all o calls replies heard;
    tallies = tally_then o calls replies heard;
  }

pub law_of_runs : {V : Type 0} (R : Rules V) → Looks R → LawOfRuns R
law_of_runs R looks = λ b n line_up lanes outcomes values saved calls replies opens heard.
    law (as_opened R looks b n line_up lanes outcomes values saved opens) calls replies heard
