use Rattle.std.proofs.Common.{◌≡◌, ℕ, ◌∙◌, Bool, true, false, cond, ◌&&◌, ◌==◌, List, [], ◌∷◌, refl, ap, slice_index, slice_index_or, rules, tests}
use Rattle.std.proofs.Math.Bool.{and-true}
use Rattle.std.specs.List.{list_all}
use Rattle.std.proofs.lemmas.Iterator.{YieldsList-from_slice}
use Rattle.std.proofs.lemmas.Iterator.Search.{all_from_yields_List}
use Rattle.clusters.specs.Roots.{roots_of}
use Rattle.yard.specs.declared.batch.Step.{Step}
use Rattle.dealing.specs.Active.{active_cells}
use Rattle.dealing.specs.Lanes.{all_at}
use Rattle.dealing.proofs.allocating.all_at.Goals as goal

-- the steps one by one
each_at : (rs : List ℕ) (r : ℕ) (act : List Bool) (ss : List Step) → list_all (λ s. all_at rs r (active_cells act (s ∷ []))) ss ≡ all_at rs r (active_cells act ss)
each_at rs r act [] = refl
each_at rs r act (s ∷ ss) = ap (λ b. all_at rs r (active_cells act (s ∷ [])) && b) (each_at rs r act ss) ∙ one (slice_index_or act s.cell false) (active_cells act ss)
  where
    one : (b : Bool) (cs : List ℕ) → (all_at rs r (cond b (s.cell ∷ []) []) && all_at rs r cs) ≡ all_at rs r (cond b (s.cell ∷ cs) cs)
    one true cs = ap (λ b. b && all_at rs r cs) (and-true (slice_index rs s.cell == r))
    one false cs = refl

pub returns : goal.returns
returns c =
    all_from_yields_List (λ s. all_at (roots_of c.args.parents.now) c.args.top (active_cells c.args.cells.active.now (s ∷ []))) _ _ c.all.result c.all.ensures.ran (YieldsList-from_slice c.args.cells.steps.now cc) (λ x b q k. search (rules, tests))
    ∙ each_at (roots_of c.args.parents.now) c.args.top c.args.cells.active.now c.args.cells.steps.now
