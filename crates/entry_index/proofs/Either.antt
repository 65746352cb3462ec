-- One of two tests, and of two options.
use Rattle.std.proofs.Common.{◌≡◌, ◌⊎◌, inl, inr, Bool, true, false, Option, Some, None, refl}
use Rattle.std.specs.Prelude.{◌||◌}
use Rattle.std.specs.Option.{option_or}

pub either : (a b : Bool) → (a || b) ≡ true → (a ≡ true) ⊎ (b ≡ true)
either true b is = inl refl
either false b is = inr is

pub or_left : (a b : Bool) → a ≡ true → (a || b) ≡ true
or_left true b is = refl
or_left false b is = absurd (cc is)

pub or_right : (a b : Bool) → b ≡ true → (a || b) ≡ true
or_right true b is = refl
or_right false b is = is

pub first_none : {X : Type 0} (a b : Option X) → option_or a b ≡ None → a ≡ None
first_none None b none = refl
first_none (Some x) b none = absurd (cc none)

pub second_none : {X : Type 0} (a b : Option X) → option_or a b ≡ None → b ≡ None
second_none None b none = none
second_none (Some x) b none = absurd (cc none)
