use Rattle.std.proofs.Common.{◌≡◌, ◌+◌, ◌<◌, length, get_or, set, refl, ◌∙◌, arith}
use Rattle.dealing.specs.declared.special.Special.{Special}
use Rattle.dealing.specs.Special.{sizes_in, no_special}
use Rattle.dealing.specs.Stages.{grown}
use Rattle.dealing.proofs.Growing.{drop_at, grow_yes, grow_no}
use Rattle.dealing.proofs.Specials.{size_at, sizes_long, sizes_set, cells_set}
use Rattle.dealing.proofs.counting.grow.Goals as goal
use Rattle.dealing.proofs.counting.grow.Goals.{then-here, else-here}

pub overflow_add-special : goal.overflow_add-special
overflow_add-special c =
    let old = c.args.special.now in
    let i = c.loop-i.i in
    omega (arith, size_at c.loop-i.special i, drop_at i (sizes_in c.loop-i.special) (sizes_in old) c.loop-i.invariant.1, c.requires.room i (omega (arith, sizes_long old)))

pub loop-i-preserved : goal.loop-i-preserved
loop-i-preserved c =
    let now = c.loop-i.special in
    let old = sizes_in c.args.special.now in
    let hit = c.args.hit.now in
    let i = c.loop-i.i in
    let s = get_or now i no_special in
    let more : Special = record { cell = s.cell; size = s.size + 1 } in
    let grew : sizes_in (set now i more) ≡ set (sizes_in now) i (get_or (sizes_in now) i 0 + 1) = rw size_at (sizes_set now i more) in
    let hs : i < length (sizes_in now) = omega (arith, sizes_long now) in
    let ho : i < length old = omega (arith, sizes_long c.args.special.now) in
    elim c.if-here.branch [
      | then-here w ↦
          let p = grow_yes (sizes_in now) old hit i hs ho (omega arith) (grown hit old) c.loop-i.invariant.0 c.loop-i.invariant.1 w.if-here.true in
          rw (w.special-is, grew) (p.0, p.1, cells_set now i more refl ∙ c.loop-i.invariant.2)
      | else-here w ↦
          let p = grow_no (sizes_in now) old hit i hs ho (omega arith) (grown hit old) c.loop-i.invariant.0 c.loop-i.invariant.1 w.if-here.false in
          rw w.special-is (p.0, p.1, c.loop-i.invariant.2)
    ]
