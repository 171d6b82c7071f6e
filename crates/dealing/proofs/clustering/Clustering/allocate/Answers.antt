use Rattle.std.proofs.Common.{◌≡◌, ℕ, zero, suc, ◌+◌, ◌<◌, List, [], ◌∷◌, ◌++◌, length, get_or, replicate, None, Option, sym, refl, ap, ◌∙◌, arith}
use Rattle.std.proofs.lemmas.List.{length_push, length-set, get_or-replicate}
use Rattle.dealing.specs.Active.{no_move}
use Rattle.dealing.specs.Clustering.{roots_in, named_by, named_by_all}
use Rattle.dealing.proofs.NoConflict.{cells_at, length_cells}
use Rattle.dealing.proofs.Allocated.{queued_none, queued_rest, queued_old, queued_new, queued_all, queued_as, key_none, key_some}
use Rattle.dealing.proofs.clustering.Clustering.allocate.Goals as goal

abbrev no_queues : List (Option ℕ)
no_queues = None ∷ replicate 1024 None

no_queues_lem : (k : ℕ) → k < 1025 → get_or no_queues k None ≡ None
no_queues_lem zero h = refl
no_queues_lem (suc k) h = get_or-replicate 1024 k None None (omega arith)

both : (f g : Option ℕ) (xs ys : List (Option ℕ)) → f ≡ g → xs ≡ ys → f ∷ xs ≡ g ∷ ys
both f g xs ys e d = rw (e, d)

pub loop-found-init : goal.loop-found-init
loop-found-init c = (omega arith, refl, ap length c.new-lane_of.ensures, queued_none (roots_in c.args.self.now) (named_by_all c.args.self.now) _ c.new-lane_of.result.items no_queues_lem)

pub loop-found-preserved : goal.loop-found-preserved
loop-found-preserved c =
    let p = c.args.self.now.prepared in
    let rs = roots_in c.args.self.now in
    let css = named_by_all c.args.self.now in
    let i = c.loop-found.found-index in
    let all = length_cells p.active.now p.steps.now p.moves.now in
    let cs = named_by c.args.self.now (get_or p.moves.now i no_move) in
    let cells : cs ≡ get_or css i [] = sym (cells_at p.active.now p.steps.now p.moves.now i (omega arith)) in
    let made = c.loop-found.made in
    let qs = c.loop-found.free_queue ∷ c.loop-found.queue_of in
    let ls = c.loop-found.lane_of.items in
    let wide = c.loop-found.invariant.1 in
    let long = c.loop-found.invariant.2 in
    let old = c.loop-found.invariant.3 in
    let longer : length c.push.new.self.items ≡ i + 1 = ap length c.push.ensures.items ∙ length_push ls c.match-touched.lane ∙ omega arith in
    let lane : (q : ℕ) → c.match-touched.lane ≡ q → c.push.new.self.items ≡ ls ++ q ∷ [] = λ q e. c.push.ensures.items ∙ ap (λ (x : ℕ). ls ++ x ∷ []) e in
    elim c.match-touched.branch [
      | goal.in-Several w ↦ (
        omega (arith, w.made-is),
        ap length w.queue_of-is ∙ wide,
        longer,
        queued_as rs css _ _ _ _ _ _ _ w.made-is (both _ _ _ _ w.free_queue-is w.queue_of-is) (lane _ w.lane-is)
            (queued_rest rs css i made qs ls cs (omega arith) long cells old (key_none _ _ w.in-Several.ensures.touched)),
      )
      | goal.in-One+in-Some w ↦
          let k = key_some _ _ _ w.in-One.ensures.touched in (
            omega (arith, w.made-is),
            ap length w.queue_of-is ∙ wide,
            longer,
            queued_as rs css _ _ _ _ _ _ _ w.made-is (both _ _ _ _ w.free_queue-is w.queue_of-is) (lane _ w.lane-is)
                (queued_old rs css i made qs ls cs (omega arith) long cells old (suc w.in-One.root) k.0 k.1 (omega (arith, w.in-One.ensures.within, c.args.self.now.long, p.few)) w.in-Some.queue w.in-Some.is),
          )
      | goal.in-One+in-None w ↦
          let k = key_some _ _ _ w.in-One.ensures.touched in (
            omega (arith, w.made-is),
            ap length w.queue_of-is ∙ length-set _ _ _ ∙ wide,
            longer,
            queued_as rs css _ _ _ _ _ _ _ w.made-is (both _ _ _ _ w.free_queue-is w.queue_of-is) (lane _ w.lane-is)
                (queued_new rs css i made qs ls cs (omega arith) long cells old (suc w.in-One.root) k.0 k.1 (omega (arith, w.in-One.ensures.within, c.args.self.now.long, p.few)) (omega (arith, wide)) w.in-None.is),
          )
      | goal.in-Nothing+in-Some-free_queue w ↦
          let k = key_some _ _ _ w.in-Nothing.ensures.touched in (
            omega (arith, w.made-is),
            ap length w.queue_of-is ∙ wide,
            longer,
            queued_as rs css _ _ _ _ _ _ _ w.made-is (both _ _ _ _ (w.free_queue-is ∙ sym w.in-Some-free_queue.is) w.queue_of-is) (lane _ w.lane-is)
                (queued_old rs css i made qs ls cs (omega arith) long cells old 0 k.0 k.1 (omega arith) w.in-Some-free_queue.queue w.in-Some-free_queue.is),
          )
      | goal.in-Nothing+in-None-free_queue w ↦
          let k = key_some _ _ _ w.in-Nothing.ensures.touched in (
            omega (arith, w.made-is),
            ap length w.queue_of-is ∙ wide,
            longer,
            queued_as rs css _ _ _ _ _ _ _ w.made-is (both _ _ _ _ w.free_queue-is w.queue_of-is) (lane _ w.lane-is)
                (queued_new rs css i made qs ls cs (omega arith) long cells old 0 k.0 k.1 (omega arith) (omega (arith, wide)) w.in-None-free_queue.is),
          )
    ]

pub returns-clause-dealt : goal.returns-clause-dealt
returns-clause-dealt c =
    let p = c.args.self.now.prepared in
    let all = length_cells p.active.now p.steps.now p.moves.now in
    queued_all (roots_in c.args.self.now) (named_by_all c.args.self.now) c.loop-found.found-index c.loop-found.made _ (c.loop-found.free_queue ∷ c.loop-found.queue_of) c.loop-found.lane_of.items
    (omega arith) (omega (arith, c.loop-found.invariant.2)) c.from.ensures c.loop-found.invariant.3
