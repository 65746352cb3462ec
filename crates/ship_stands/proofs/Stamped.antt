-- Entries that have a stamp.
use Rattle.std.proofs.Common.{◌≡◌, ℕ, ◌+◌, ◌≤◌, nat_le, Bool, true, false, IsTrue, List, [], ◌∷◌, Some, None, refl, arith, if◌then◌else◌}
use Rattle.std.proofs.lemmas.Bool.Decides.{nat_tests}
use Rattle.global_defs.specs.Entry.{Stamp, Reign}
use Rattle.global_defs.specs.Prefix.{stamp_at}
use Rattle.ship_stands.specs.StampLaws.{is_told, has_stamp, either_told}

-- a reign that has begun by a number has by the next one
own_later : (b c : Bool) (s : Stamp) → (IsTrue b → IsTrue c) → IsTrue (is_told (if b then Some s else None)) → IsTrue (is_told (if c then Some s else None))
own_later true c s to is = rw (to refl) refl
own_later false c s to is = cc

begun_later : (n start : ℕ) → IsTrue (nat_le start n) → IsTrue (nat_le start (n + 1))
begun_later n start is = grind (arith, nat_tests)

pub stamp_later : (n : ℕ) (rs : List Reign) → IsTrue (has_stamp n rs) → IsTrue (has_stamp (n + 1) rs)
stamp_later n [] is = cc
stamp_later n (r ∷ rs) is =
    either_told (stamp_at n rs) (if nat_le r.start n then Some r.stamp else None) (stamp_at (n + 1) rs) (if nat_le r.start (n + 1) then Some r.stamp else None)
    (stamp_later n rs) (own_later (nat_le r.start n) (nat_le r.start (n + 1)) r.stamp (begun_later n r.start)) is

-- a first reign that has begun gives each a stamp
pub stamp_first : (n : ℕ) (r : Reign) (rs : List Reign) → r.start ≤ n → IsTrue (has_stamp n (r ∷ rs))
stamp_first n r rs begun =
    let is : nat_le r.start n ≡ true = grind (arith, nat_tests) in
    either_told None (Some r.stamp) (stamp_at n rs) (if nat_le r.start n then Some r.stamp else None) (λ none. cc) (λ told. rw is refl) refl
