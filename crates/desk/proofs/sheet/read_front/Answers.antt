-- What the front of the input still had is all that was read.
use Rattle.std.proofs.Common.{◌≡◌, take, vec_items, Some, None, Option, IfSome}
use Rattle.std.specs.Option.{option_map}
use Rattle.desk.proofs.sheet.read_front.Goals as goal

taken : {A B : Type 0} (f : A → B) (P : B → Type 0) (o : Option A) → IfSome (option_map f o) P → IfSome o (λ x. P (f x))
taken f P (Some x) p = p
taken f P None p = tt

pub returns : goal.returns
returns g c =
    let all = c.in_ok-read_to_end.ensures.bytes in
    taken (take c.args.most) (λ xs. vec_items c.read_to_end.new.buf ≡ xs) (g.R.Read.remaining c.args.input) (rw (← c.take-front.ensures.inner, ← c.take-front.ensures.limit) (rw c.new-read.ensures.items at all))
