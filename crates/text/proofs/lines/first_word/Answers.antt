use Rattle.std.proofs.Common.{◌≡◌, not, ◌||◌, eqb, take, ap, rules, tests, arith}
use Rattle.std.proofs.lemmas.Iterator.{YieldsList-from_slice}
use Rattle.std.proofs.lemmas.Iterator.Search.{position_from_yields_List}
use Rattle.std.proofs.lemmas.List.Folds.{length-prefix_len}
use Rattle.std.proofs.lemmas.List.Sums.{prefix_len-le-length}
use Rattle.std.proofs.lemmas.Bool.Decides.{nat_tests}
use Rattle.text.specs.Lines.{word_length}
use Rattle.text.proofs.lines.first_word.Goals as goal

ends : (c : goal.After-unwrap_or-end) → c.unwrap_or-end.result ≡ word_length c.args.bytes.now
ends c =
    let p = position_from_yields_List (λ b. eqb b 32 || eqb b 10) _ _ c.position.result c.position.ensures.ran (YieldsList-from_slice c.args.bytes.now cc) (λ x b q k. search (rules, tests)) in
    let l = prefix_len-le-length (λ b. not (eqb b 32 || eqb b 10)) c.args.bytes.now in
    grind (arith, nat_tests)

pub returns-clause-word : goal.returns-clause-word
returns-clause-word c = ap (λ n. take n c.args.bytes.now) (ends c)

pub returns-clause-long : goal.returns-clause-long
returns-clause-long c = rw (ends c) (length-prefix_len (λ b. not (eqb b 32 || eqb b 10)) c.args.bytes.now)
