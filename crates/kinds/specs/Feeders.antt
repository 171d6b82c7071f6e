-- Feeders: a value is a load and a limit. A is 65, S is 83, H is 72, F is 70.
use Rattle.std.specs.Prelude.{ℕ, ◌+◌, ◌-◌, Bool, false, cond, ◌&&◌, ◌||◌, Some, None, Option, ◌==◌, nat_le}
use Rattle.yard.specs.Rules.{Rules, Effect, passes, fails}
use Rattle.yard.specs.Rows.{Rows}
use Rattle.kinds.specs.declared.feeders.Section.{Section}
use Rattle.kinds.specs.declared.feeders.Act.{Act}
use Rattle.kinds.specs.declared.feeders.Act.TheVariants.{Add, Shed, Look}

abbrev pub section : ℕ → ℕ → Section
section load limit = record { load = load; limit = limit }

abbrev pub feeder_knows : ℕ → ℕ → Bool
feeder_knows l n =
    cond (l == 65 || l == 83) (nat_le 1 n && nat_le n 4000)
    (cond (l == 72) (nat_le n 4000) false)

-- A n: n more, up to the limit
abbrev pub add_load : ℕ → Section → Effect Section
add_load n v = cond (nat_le (v.load + n) v.limit) (passes (section (v.load + n) v.limit)) (fails 27)

-- S n: n less
abbrev pub shed_load : ℕ → Section → Effect Section
shed_load n v = cond (nat_le n v.load) (passes (section (v.load - n) v.limit)) (fails 28)

-- H n: n more would still be within the limit
abbrev pub look_for_room : ℕ → Section → Effect Section
look_for_room n v = cond (nat_le (v.load + n) v.limit) (passes v) (fails 29)

-- what an order with this letter does
abbrev pub feeder_act : ℕ → Option Act
feeder_act l = cond (l == 65) (Some Add) (cond (l == 83) (Some Shed) (cond (l == 72) (Some Look) None))

-- the numbers with which an act is known
abbrev pub takes : Act → ℕ → Bool
takes Add n = nat_le 1 n && nat_le n 4000
takes Shed n = nat_le 1 n && nat_le n 4000
takes Look n = nat_le n 4000

abbrev pub act_on : Act → ℕ → Section → Effect Section
act_on Add = add_load
act_on Shed = shed_load
act_on Look = look_for_room

-- a section with so much more, if that is within the limit, and with so much less
abbrev pub raised_section : ℕ → Section → Option Section
raised_section n v = cond (nat_le (v.load + n) v.limit) (Some (section (v.load + n) v.limit)) None

abbrev pub lowered_section : ℕ → Section → Option Section
lowered_section n v = cond (nat_le n v.load) (Some (section (v.load - n) v.limit)) None

abbrev pub feeder_rules : Rules Section
feeder_rules = record {
  letters = λ l. (l == 65) || l == 83 || (l == 72);
  knows = feeder_knows;
  writes = λ l n. (l == 65) || (l == 83);
  makes = λ l n v. cond (l == 65) (add_load n v) (cond (l == 83) (shed_load n v) (look_for_room n v));
}

abbrev pub feeder_rows : Rows Section
feeder_rows = record {
  letter = 70;
  words = 3;
  unnamed = section 0 0;
  takes = λ k n v. cond (nat_le n 4000) (Some (cond (k == 1) (section n v.limit) (section v.load n))) None;
  tells = λ k v. cond (k == 1) v.load v.limit;
}

abbrev pub same_section : Section → Section → Bool
same_section v w = v.load == w.load && v.limit == w.limit
