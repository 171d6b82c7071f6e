-- Numerals looked at from the left, digit by digit.
use Rattle.std.proofs.Common.{◌≡◌, ℕ, ◌+◌, ◌-◌, ◌*◌, ◌<◌, ◌≤◌, ◌≢◌, Err, List, [], ◌∷◌, length, get_or, drop, arith}
use Rattle.std.proofs.lemmas.List.{at_drop_more}
use Rattle.std.proofs.lemmas.Bool.Decides.{nat_tests}
use Rattle.std.specs.Char.{is_ascii_digit}
use Rattle.std.specs.List.{list_all}
use Rattle.text.specs.Numerals.{numeral, worth_from, sized}
use Rattle.text.specs.declared.faults.WordFault.TheVariants.{TooLarge}

pub worth_on : (n : ℕ) (s : List ℕ) (i : ℕ) → i < length s → worth_from n (drop i s) ≡ worth_from (n * 10 + (get_or s i 0 - 48)) (drop (i + 1) s)
worth_on n s i h = at_drop_more (worth_from n) s i 0 h

worth_from_ge : (n : ℕ) (cs : List ℕ) → n ≤ worth_from n cs
worth_from_ge n [] = omega arith
worth_from_ge n (c ∷ cs) = omega (arith, worth_from_ge (n * 10 + (c - 48)) cs)

-- once past the limit, the worth stays past it
pub too_large : (n w : ℕ) (s : List ℕ) (i : ℕ) → i < length s → 65535 < n * 10 + (get_or s i 0 - 48) → worth_from n (drop i s) ≡ w → Err TooLarge ≡ sized w
too_large n w s i h past e =
    let more = worth_on n s i h in
    let ge = worth_from_ge (n * 10 + (get_or s i 0 - 48)) (drop (i + 1) s) in
    grind (arith, nat_tests)

pub no_leading_zero : (cs : List ℕ) → 0 < length cs → get_or cs 0 0 ≢ 48 → numeral cs ≡ list_all is_ascii_digit cs
no_leading_zero [] h n = absurd (omega arith)
no_leading_zero (c ∷ []) h n = grind arith
no_leading_zero (c ∷ d ∷ cs) h n = grind (arith, nat_tests)
