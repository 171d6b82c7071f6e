use Rattle.std.proofs.Common.{sym, ap, ◌∙◌, arith}
use Rattle.text.specs.Reading.{here}
use Rattle.sheets.specs.Lent.{lent}
use Rattle.sheets.specs.Sheet.{head}
use Rattle.sheets.proofs.Whole.{whole_read}
use Rattle.sheets.proofs.read.read.Goals as goal

pub returns-clause-answer : goal.returns-clause-answer
returns-clause-answer g c =
    let top = c.in_ok-head.ensures.answer ∙ ap (head g.K.Kind.rows.letter) c.new-reader.ensures in
    let all = whole_read g.K.Kind.rules g.K.Kind.rows c.args.sheet.now (lent c.args.lists.now) (sym c.if-not-are_full.ensures) (omega arith) c.in_ok-head.head (here c.read_head.new.reader) c.read_body.new.found
    top c.in_ok-read_body.ensures c.write_values.new.values c.write_values.ensures in
    rw (c.len.ensures.value, c.len-2.ensures.value, c.len-3.ensures.value, c.put_front.ensures, c.put_front-2.ensures, c.put_front-3.ensures, c.as_slice.ensures.value, c.as_slice-2.ensures.value, c.as_slice-3.ensures.value) all
