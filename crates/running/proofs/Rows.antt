-- Whether a queue has a step left, front to back.
use Rattle.std.proofs.Common.{◌≡◌, ℕ, zero, suc, ◌+◌, ◌-◌, ◌<◌, ◌≤◌, false, ◌||◌, List, [], ◌∷◌, length, get_or, take, refl, ap, ◌∙◌, arith}
use Rattle.std.proofs.Math.Bool.{or_comm, or-false}
use Rattle.std.proofs.Math.Seq.{take-suc}
use Rattle.std.proofs.lemmas.List.Folds.{list_any-append}
use Rattle.std.specs.List.{list_any, slice_range}
use Rattle.yard.specs.declared.run.LaneRow.{LaneRow}
use Rattle.books.specs.Scripts.{no_row}
use Rattle.books.specs.Calls.{busy}
use Rattle.running.specs.Lanes.{has_step}

-- whether one of the first queues has a step left, front to back
rows_busy : (x : LaneRow) (xs : List LaneRow) (q : ℕ) → q ≤ length xs → list_any has_step (take q xs) ≡ busy (x ∷ xs) q
rows_busy x xs zero h = refl
rows_busy x xs (suc q) h =
    rw (take-suc xs q no_row (omega arith), list_any-append, rows_busy x xs q (omega arith))
    (or_comm (busy (x ∷ xs) q) (has_step (get_or xs q no_row) || false) ∙ ap (λ b. b || busy (x ∷ xs) q) (or-false (has_step (get_or xs q no_row))))

pub queues_busy : (lanes : List LaneRow) (q : ℕ) → q < length lanes → list_any has_step (slice_range lanes 1 (q + 1)) ≡ busy lanes q
queues_busy [] q h = absurd (omega arith)
queues_busy (x ∷ xs) q h = let e : q + 1 - 1 ≡ q = omega arith in ap (λ n. list_any has_step (take n xs)) e ∙ rows_busy x xs q (omega arith)
