-- Stands: a value is the number of a tram, and 0 is an empty stand. T is 84, P is 80, L is 76, S is 83.
use Rattle.std.specs.Prelude.{ℕ, Bool, false, cond, ◌&&◌, ◌||◌, Some, None, Option, ◌==◌, nat_le}
use Rattle.yard.specs.Rules.{Rules, Effect, passes, fails}
use Rattle.yard.specs.Rows.{Rows}
use Rattle.kinds.specs.declared.stands.Act.{Act}
use Rattle.kinds.specs.declared.stands.Act.TheVariants.{Take, Put, Look}

abbrev pub stand_knows : ℕ → ℕ → Bool
stand_knows l n =
    cond (l == 84 || l == 80) (nat_le 1 n && nat_le n 9999)
    (cond (l == 76) (nat_le n 9999) false)

-- T n: tram n leaves its stand
abbrev pub take_tram : ℕ → ℕ → Effect ℕ
take_tram n v = cond (v == n) (passes 0) (cond (v == 0) (fails 23) (fails 24))

-- P n: tram n comes to an empty stand
abbrev pub put_tram : ℕ → ℕ → Effect ℕ
put_tram n v = cond (v == 0) (passes n) (fails 25)

-- L n: tram n is there, or with 0 none is
abbrev pub look_for_tram : ℕ → ℕ → Effect ℕ
look_for_tram n v = cond (v == n) (passes v) (fails 26)

-- what an order with this letter does
abbrev pub stand_act : ℕ → Option Act
stand_act l = cond (l == 84) (Some Take) (cond (l == 80) (Some Put) (cond (l == 76) (Some Look) None))

-- the numbers with which an act is known
abbrev pub takes : Act → ℕ → Bool
takes Take n = nat_le 1 n && nat_le n 9999
takes Put n = nat_le 1 n && nat_le n 9999
takes Look n = nat_le n 9999

abbrev pub act_on : Act → ℕ → ℕ → Effect ℕ
act_on Take = take_tram
act_on Put = put_tram
act_on Look = look_for_tram

abbrev pub stand_rules : Rules ℕ
stand_rules = record {
  letters = λ l. (l == 84) || l == 80 || (l == 76);
  knows = stand_knows;
  writes = λ l n. (l == 84) || (l == 80);
  makes = λ l n v. cond (l == 84) (take_tram n v) (cond (l == 80) (put_tram n v) (look_for_tram n v));
}

abbrev pub stand_rows : Rows ℕ
stand_rows = record {
  letter = 83;
  words = 2;
  unnamed = 0;
  takes = λ k n v. cond (nat_le n 9999) (Some n) None;
  tells = λ k v. v;
}
