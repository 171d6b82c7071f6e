use Rattle.std.proofs.Common.{◌≡◌, ℕ, List, length, replicate, sym, refl, ap, ◌∙◌, arith, rules}
use Rattle.yard.specs.Batches.{listed}
use Rattle.yard.specs.Fronts.{laid}
use Rattle.dealing.specs.declared.prepared.Prepared.{Prepared}
use Rattle.dealing.specs.Active.{active_flags}
use Rattle.dealing.specs.Clustering.{roots_in, named_by_all}
use Rattle.dealing.specs.Lanes.{Dealt, dealt_of, allocated, dealing, line_up_of, lane_rows}
use Rattle.dealing.specs.Prepared.{all_cells}
use Rattle.dealing.specs.Special.{cells_known, sizes_in}
use Rattle.dealing.specs.Stages.{clustered}
use Rattle.dealing.proofs.NoConflict.{length_cells}
use Rattle.dealing.proofs.Specials.{cells_long}
use Rattle.dealing.proofs.Whole.{cluster_is, deal_is}
use Rattle.dealing.proofs.stages.deal.Goals as goal

abbrev zeros : ℕ → List ℕ
zeros n = replicate n 0

pub fuse-requires : goal.fuse-requires
fuse-requires g c =
    record {
      sizes = c.spot-special.ensures.sizes ∙ ap zeros (sym (cells_long c.spot-special.result.items));
      pairs = c.fill.ensures.after (λ y e. e) ∙ ap zeros c.requires.working.pairs_long;
      skipped = refl;
    }

pub returns : goal.returns
returns g c =
    let b = c.args.batch in
    let n = length c.args.parents.now in
    let first = c.apart-clusters.result in
    let items = c.spot-special.result.items in
    let before : first.prepared ≡ _ = c.apart-clusters.ensures.prepared in
    let p = first.prepared in
    let rs = roots_in c.merge.new.self.clusters in
    let merged = rw (c.fuse.ensures.same.known, c.fuse.ensures.same.clusters.prepared, c.spot-special.ensures.same.prepared) at (c.merge.ensures.roots _ c.fuse.ensures.fused) in
    let clusters : rs ≡ clustered n b.share (named_by_all first) b.choices.now =
    cluster_is n b.share (length p.moves.now) (named_by_all first) b.choices.now (roots_in first) (roots_in c.spot-special.new.self) (cells_known items) (cells_known items) (sizes_in items) rs
    c.apart-clusters.ensures.roots c.spot-special.ensures.spotted (sym (length_cells p.active.now p.steps.now p.moves.now)) refl
    (c.spot-special.ensures.sizes ∙ ap zeros (sym (cells_long items))) merged in
    let is = deal_is g.K.Kind.rules b.cells n b.share b.steps.now b.moves.now b.choices.now c.prepare.new.active rs
    (c.prepare.ensures ∙ ap (λ (k : ℕ). active_flags g.K.Kind.rules k b.steps.now) c.requires.active) c.requires.working.parents_long
    (clusters ∙ ap (λ (q : Prepared). clustered n b.share (all_cells q) b.choices.now) before) in
    let after = c.merge.ensures.same.clusters.prepared ∙ c.fuse.ensures.same.clusters.prepared ∙ c.spot-special.ensures.same.prepared ∙ before in
    let dealt : dealt_of c.allocate-dealt.result.lane_of.items c.allocate-dealt.result.queues ≡ dealing g.K.Kind.rules (listed b) =
    c.allocate-dealt.ensures.dealt ∙ ap (λ (q : Prepared). allocated rs (all_cells q)) after ∙ is in
    let lined : dealt_of c.deref.result.now c.allocate-dealt.result.queues ≡ dealing g.K.Kind.rules (listed b) =
    ap (λ (l : List ℕ). dealt_of l c.allocate-dealt.result.queues) c.deref.ensures.0 ∙ dealt in
    record {
      queues = ap (λ (d : Dealt). d.queues) dealt;
      few = omega (arith, c.allocate-dealt.ensures.few, c.merge.new.self.clusters.prepared.few_moves);
      line_up = c.line_up_moves.ensures.line_up ∙ ap (λ (d : Dealt). laid (line_up_of d) c.args.run.now.line_up.now) lined;
      lanes = c.line_up_moves.ensures.lanes ∙ ap (λ (d : Dealt). laid (lane_rows d) c.args.run.now.lanes.now) lined;
      outcomes = search rules;
      run = search rules;
      parents = search rules;
      marks = search rules;
      pairs = search rules;
    }
