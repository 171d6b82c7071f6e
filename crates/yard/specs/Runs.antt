-- What a run's outcomes and answers tell: the numbers of the table, and the values that come with them.
use Rattle.std.specs.Prelude.{ℕ, Ok, Err, Result}
use Rattle.yard.specs.declared.refusal.Refusal.{Refusal}
use Rattle.yard.specs.declared.run.Outcome.{Outcome}
use Rattle.yard.specs.declared.run.Outcome.TheVariants.{NotEnded, Done, Failed}
use Rattle.yard.specs.declared.run.Tally.{Tally}
use Rattle.yard.specs.declared.run.Answer.{Answer}
use Rattle.yard.specs.declared.run.Answer.TheVariants.{Passed, Done as MoveDone, Failed as MoveFailed, Held, Counted}
use Rattle.yard.specs.Numbers.{refusal_number, cause_number}

-- what open tells of a run
pub record Numbers : Type 0 where
  pub cells : ℕ
  pub moves : ℕ
  pub steps : ℕ
  pub queues : ℕ

-- how a move ended: not yet, done, or failed at a step, from 1, with a cause
pub data End : Type 0 where
  not_ended : End
  done : End
  failed : ℕ → ℕ → End

abbrev pub end_of : Outcome → End
end_of NotEnded = not_ended
end_of Done = done
end_of (Failed step cause) = failed step (cause_number cause)

-- what a call answers; a refusal has its number
pub data Reply (V : Type 0) : Type 0 where
  passes : Reply V
  ends : Reply V
  fails : ℕ → ℕ → Reply V
  holds : V → Reply V
  counts : Tally → Reply V
  refuses : ℕ → Reply V

abbrev pub reply_of : {V : Type 0} → Result (Answer V) Refusal → Reply V
reply_of (Ok Passed) = passes
reply_of (Ok MoveDone) = ends
reply_of (Ok (MoveFailed step cause)) = fails step (cause_number cause)
reply_of (Ok (Held v)) = holds v
reply_of (Ok (Counted t)) = counts t
reply_of (Err r) = refuses (refusal_number r)
