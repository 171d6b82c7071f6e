use Rattle.std.proofs.Common.{◌≡◌, ℕ, [], ◌∷◌, ◌++◌, length, get_or, Some, None, sym, refl, ap, ◌∙◌, arith}
use Rattle.std.proofs.lemmas.List.{length_push}
use Rattle.dealing.specs.declared.special.Special.{Special}
use Rattle.dealing.specs.Active.{no_move}
use Rattle.dealing.specs.Clustering.{roots_in, cell_total, named_by, named_by_all}
use Rattle.dealing.specs.Special.{cells_known}
use Rattle.dealing.proofs.Continuing.{and_then}
use Rattle.dealing.proofs.NoConflict.{cells_at}
use Rattle.dealing.proofs.Specials.{cells_push, zeros_push}
use Rattle.dealing.proofs.Staged.{below_push, spot_more}
use Rattle.dealing.proofs.clustering.Clustering.spot.Goals as goal
use Rattle.dealing.proofs.clustering.Clustering.spot.Goals.{in-Some, in_default}

pub loop-choice-preserved : goal.loop-choice-preserved
loop-choice-preserved c =
    let css = named_by_all c.args.self.now in
    let special = c.loop-choice.special.items in
    let so_far = c.loop-choice.invariant.4 in
    let found = get_or c.loop-choice.self.prepared.moves.now c.from.result no_move in
    let cells : named_by c.loop-choice.self found ≡ get_or css (get_or c.args.choices.now c.loop-choice.choice-index 0) [] =
    rw so_far.prepared (sym (cells_at c.args.self.now.prepared.active.now c.args.self.now.prepared.steps.now c.args.self.now.prepared.moves.now c.from.result (omega (arith, c.from.ensures, c.requires.chosen c.loop-choice.choice-index (omega arith))))
    ∙ ap (λ (k : ℕ). get_or css k []) c.from.ensures) in
    let more = spot_more css c.args.choices.now c.loop-choice.choice-index (named_by c.loop-choice.self found) (roots_in c.loop-choice.self) (roots_in c.spot_move.new.self)
    (cells_known special) (cells_known c.deref.result.now) (cells_known c.match-spot_move.special.items) in
    elim c.match-spot_move.branch [
      | in-Some w ↦
          let made : Special = record { cell = w.in-Some.cell; size = 0 } in
          let items : c.match-spot_move.special.items ≡ special ++ made ∷ [] = rw w.special-is w.push.ensures.items in
          let now : cells_known c.match-spot_move.special.items ≡ cells_known special ++ w.in-Some.cell ∷ [] = ap cells_known items ∙ cells_push special made in (
            more (Some w.in-Some.cell) _ (omega arith) cells (ap cells_known c.deref.ensures.0) w.in-Some.ensures.spotted now c.loop-choice.invariant.0,
            omega (arith, ap length items, length_push special made),
            rw now (below_push (cell_total c.args.self.now) (cells_known special) w.in-Some.cell c.loop-choice.invariant.2 (omega (arith, w.in-Some.ensures.within, so_far.long))),
            rw items (zeros_push special made refl c.loop-choice.invariant.3),
            and_then so_far w.in-Some.ensures.same,
          )
      | in_default w ↦
          let items : c.match-spot_move.special.items ≡ special = rw w.special-is in (
            more None _ (omega arith) cells (ap cells_known c.deref.ensures.0) w.in_default.ensures.spotted (ap cells_known items) c.loop-choice.invariant.0,
            omega (arith, ap length items),
            rw items c.loop-choice.invariant.2,
            rw items c.loop-choice.invariant.3,
            and_then so_far w.in_default.ensures.same,
          )
    ]
