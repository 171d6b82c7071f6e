use Rattle.std.proofs.Common.{◌≡◌, ℕ, Bool, length, sym, ap, ◌∙◌}
use Rattle.yard.specs.Batches.{Listed, listed}
use Rattle.yard.specs.Rules.{Rules}
use Rattle.dealing.specs.Lent.{lists_in}
use Rattle.dealing.specs.Opening.{Lists, refusal}
use Rattle.dealing.proofs.Checked.{accepted, dealable}
use Rattle.dealing.proofs.Opened.{open_fills, sound_lists, room_in}
use Rattle.dealing.proofs.opening.making.open.Goals as goal

-- the test of the lists and the count of the board, as the code has them
as_found : {V : Type 0} (R : Rules V) (b : Listed) (r r' : Bool) (n n' : ℕ) → r ≡ r' → n ≡ n' → refusal R b r n ≡ refusal R b r' n'
as_found R b r r' n n' e d = rw (e, d)

pub fill-queues-requires : goal.fill-queues-requires
fill-queues-requires g c =
    let a = accepted g.K.Kind.rules (listed c.args.batch) c.have_room-roomy.result c.count.result (sym c.in_ok-check.ensures) in
    record {
      batch = dealable g.K.Kind.rules (listed c.args.batch) _ _ a;
      room = room_in (lists_in c.args.run.now c.args.work.now) (sym c.have_room-roomy.ensures ∙ a.roomy);
    }

pub returns : goal.returns
returns g c =
    let R = g.K.Kind.rules in
    let l = lists_in c.args.run.now c.args.work.now in
    let b = listed c.args.batch in
    let found = as_found R b _ _ _ _ c.have_room-roomy.ensures c.count.ensures in
    let a = accepted R b c.have_room-roomy.result c.count.result (sym c.in_ok-check.ensures) in
    let filled = c.fill-queues.ensures.filled in
    record {
      run = c.fill-queues.ensures.run;
      work = c.fill-queues.ensures.work;
      opened = open_fills R b (length (g.B.Board.values c.args.board.now)) l _ _ (c.in_ok-check.ensures ∙ found) (rw c.fill-queues.ensures.queues) filled;
      sound =
          sound_lists R b c.fill-queues.result c.fill-queues.new.run.line_up.now c.args.run.now.line_up.now c.fill-queues.new.run.lanes.now c.args.run.now.lanes.now
          (dealable R b _ _ a).within c.fill-queues.ensures.queues (ap (λ (x : Lists). x.line_up) filled) (ap (λ (x : Lists). x.lanes) filled);
    }
