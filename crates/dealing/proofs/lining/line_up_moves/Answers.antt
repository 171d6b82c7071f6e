use Rattle.std.proofs.Common.{◌≡◌, ℕ, ◌+◌, ◌-◌, drop, List, ◌++◌, length, sym, ap, ◌∙◌, arith}
use Rattle.std.specs.List.{range_with_len}
use Rattle.std.proofs.lemmas.List.{length-append, length-take, length-drop}
use Rattle.dealing.specs.Lanes.{places_from, lined}
use Rattle.dealing.proofs.Lined.{lined_more, lined_short, lane_room, rest_room, drop_further, rows_more, rows_all, line_whole}
use Rattle.dealing.proofs.lining.line_up_moves.Goals as goal

pub line_up_lane-end-requires : goal.line_up_lane-end-requires
line_up_lane-end-requires c = record { few = c.requires.few; room = omega (arith, lane_room c.args.lane_of.now c.loop-q.q, c.loop-q.invariant.0) }

pub new_row-requires : goal.new_row-requires
new_row-requires c =
    record {
      first = omega (arith, lined_short c.args.lane_of.now c.loop-q.q, c.loop-q.invariant.0);
      end = omega (arith, lane_room c.args.lane_of.now c.loop-q.q, c.loop-q.invariant.0, c.line_up_lane-end.ensures.end);
    }

pub loop-q-preserved : goal.loop-q-preserved
loop-q-preserved c =
    let ls = c.args.lane_of.now in
    let more = lined_more ls c.loop-q.q in (
      omega (arith, c.line_up_lane-end.ensures.end, c.loop-q.invariant.0, ap length more, length-append (lined ls (range_with_len 1 c.loop-q.q)) (places_from 0 (c.loop-q.q + 1) ls)),
      c.line_up_lane-end.ensures.lined ∙ ap (λ (l : List ℕ). l ++ places_from 0 (c.loop-q.q + 1) ls) c.loop-q.invariant.1 ∙ sym more,
      rw c.line_up_lane-end.ensures.end (drop_further c.loop-q.at (length (places_from 0 (c.loop-q.q + 1) ls)) c.line_up_lane-end.new.line_up c.loop-q.line_up c.args.line_up.now
          (rw c.line_up_lane-end.ensures.end at c.line_up_lane-end.ensures.kept) c.loop-q.invariant.2),
      rows_more ls c.args.queues c.loop-q.q c.loop-q.at c.line_up_lane-end.result c.new_row.result c.loop-q.row-items (omega arith) c.loop-q.invariant.0 c.line_up_lane-end.ensures.end c.new_row.ensures c.loop-q.invariant.3,
    )

pub line_up_lane-end-requires-2 : goal.line_up_lane-end-requires-2
line_up_lane-end-requires-2 c = record { few = c.requires.few; room = omega (arith, rest_room c.args.lane_of.now c.loop-q.q, c.loop-q.invariant.0) }

pub new_row-requires-2 : goal.new_row-requires-2
new_row-requires-2 c =
    record {
      first = omega (arith, lined_short c.args.lane_of.now c.loop-q.q, c.loop-q.invariant.0);
      end = omega (arith, rest_room c.args.lane_of.now c.loop-q.q, c.loop-q.invariant.0, c.line_up_lane-end-2.ensures.end);
    }

pub returns : goal.returns
returns c =
    let ls = c.args.lane_of.now in
    let e : c.loop-q.q ≡ c.args.queues = omega arith in
    let at : c.loop-q.at ≡ length (lined ls (range_with_len 1 c.args.queues)) = rw e at c.loop-q.invariant.0 in
    let front = rw e at c.loop-q.invariant.1 in
    record {
      line_up = line_whole ls c.args.queues c.loop-q.at c.line_up_lane-end-2.result c.line_up_lane-end-2.new.line_up c.args.line_up.now
          (c.line_up_lane-end-2.ensures.lined ∙ ap (λ (l : List ℕ). l ++ places_from 0 0 ls) front) c.line_up_lane-end-2.ensures.end at
          (rw c.line_up_lane-end-2.ensures.end (drop_further c.loop-q.at (length (places_from 0 0 ls)) c.line_up_lane-end-2.new.line_up c.loop-q.line_up c.args.line_up.now
          (rw c.line_up_lane-end-2.ensures.end at c.line_up_lane-end-2.ensures.kept) c.loop-q.invariant.2));
      lanes = rows_all ls c.args.queues c.loop-q.at c.line_up_lane-end-2.result c.new_row-2.result c.loop-q.row-items c.args.lanes.now (omega (arith, length-take (c.args.queues + 1 - 1) (drop 1 c.args.lanes.now), length-drop 1 c.args.lanes.now)) (omega arith) at c.line_up_lane-end-2.ensures.end c.new_row-2.ensures (rw e at c.loop-q.invariant.3);
    }
