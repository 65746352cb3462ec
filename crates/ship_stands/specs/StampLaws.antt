-- Whether an entry has a stamp under some reigns.
use Rattle.std.specs.Prelude.{◌≡◌, ℕ, Bool, true, false, IsTrue, List, [], ◌∷◌, ◌++◌, Option, Some, None, refl, nat_le, if◌then◌else◌}
use Rattle.std.specs.Option.{option_or}
use Rattle.global_defs.specs.Entry.{Stamp, Reign}
use Rattle.global_defs.specs.Prefix.{stamp_at}

abbrev pub is_told : Option Stamp → Bool
is_told (Some s) = true
is_told None = false

-- one of the reigns has begun by that number
abbrev pub has_stamp : ℕ → List Reign → Bool
has_stamp n rs = is_told (stamp_at n rs)

pub stamp_of : (o : Option Stamp) → IsTrue (is_told o) → (s : Stamp) × (o ≡ Some s)
stamp_of (Some s) is = (s, refl)
stamp_of None is = cc

first_told : (a b : Option Stamp) → IsTrue (is_told a) → IsTrue (is_told (option_or a b))
first_told (Some s) b is = refl
first_told None b is = cc

second_told : (a b : Option Stamp) → IsTrue (is_told b) → IsTrue (is_told (option_or a b))
second_told (Some s) b is = refl
second_told None b is = is

pub either_told : (a b c d : Option Stamp) → (IsTrue (is_told a) → IsTrue (is_told c)) → (IsTrue (is_told b) → IsTrue (is_told d)) → IsTrue (is_told (option_or a b)) → IsTrue (is_told (option_or c d))
either_told (Some s) b c d first second is = first_told c d (first refl)
either_told None b c d first second is = second_told c d (second is)

-- so it is under further reigns
pub stamp_stays : (n : ℕ) (rs more : List Reign) → IsTrue (has_stamp n rs) → IsTrue (has_stamp n (rs ++ more))
stamp_stays n [] more is = cc
stamp_stays n (r ∷ rs) more is =
    let own = if nat_le r.start n then Some r.stamp else None in
    either_told (stamp_at n rs) own (stamp_at n (rs ++ more)) own (stamp_stays n rs more) (λ told. told) is
