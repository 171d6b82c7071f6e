use Rattle.std.proofs.Common.{◌≡◌, ◌++◌, length, drop, rules, arith, length-take}
use Rattle.yard.proofs.Filling.{filled}
use Rattle.sheets.proofs.Rising.{written}
use Rattle.sheets.proofs.sections.write_values.Goals as goal

pub returns : goal.returns
returns g c = λ ok.
    let blank = filled _ g.K.Kind.rows.unnamed (λ p x q k. search rules) _ _ _ c.fill_with.ensures.ran.1 in
    let long : length c.fill_with.new.self ≡ c.args.head.size.cells = simp (c.fill_with.ensures.len, length-take) (omega (arith, c.from.ensures)) in
    let all = written g.K.Kind.rows c.args.head.size.cells c.args.head.rows _ _ _ _ _ blank long c.read_rows.ensures ok in
    λ i. all i ++ drop (c.from.ensures i) c.args.values.now
