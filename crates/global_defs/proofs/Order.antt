-- M collation is a total order, and equal keys are the same.
use Rattle.std.specs.Prelude.{◌≡◌}
use Rattle.std.specs.declared.cmp.Ordering.{Ordering}
use Rattle.std.specs.declared.cmp.Ordering.TheVariants.{Less, Equal, Greater}
use Rattle.std.specs.Ordering.{nat_cmp, ordering_then, ordering_reverse}
use Rattle.std.specs.Cmp.{IsTotalOrder, int_cmp_total, then_total, on_total}
use Rattle.std.specs.Cmp.Lexicographic.{slice_cmp, nat_list_cmp_total, lists_total}
use Rattle.std.specs.FinMap as map
use Rattle.std.proofs.Common.{refl, ap}
use Rattle.global_defs.specs.Key.{Sub, Number, Text, sub_cmp, Key, key_cmp}

pub sub_total : IsTotalOrder sub_cmp
sub_total = record { antisymm = anti; trans = tr; congr = co }
  where
    anti : (x y : Sub) → sub_cmp x y ≡ ordering_reverse (sub_cmp y x)
    anti (Number x) (Number y) = int_cmp_total.antisymm x y
    anti (Number x) (Text t) = refl
    anti (Text s) (Number y) = refl
    anti (Text s) (Text t) = nat_list_cmp_total.antisymm s t

    tr : (x y z : Sub) → sub_cmp x y ≡ Less → sub_cmp y z ≡ Less → sub_cmp x z ≡ Less
    tr (Number x) (Number y) (Number z) p q = int_cmp_total.trans x y z p q
    tr (Number x) (Number y) (Text t) p q = refl
    tr (Number x) (Text s) (Number z) p q = cc
    tr (Number x) (Text s) (Text t) p q = refl
    tr (Text s) (Number y) z p q = cc
    tr (Text s) (Text t) (Number z) p q = cc
    tr (Text s) (Text t) (Text u) p q = nat_list_cmp_total.trans s t u p q

    co : (x y z : Sub) → sub_cmp x y ≡ Equal → sub_cmp x z ≡ sub_cmp y z
    co (Number x) (Number y) (Number z) p = int_cmp_total.congr x y z p
    co (Number x) (Number y) (Text t) p = refl
    co (Number x) (Text s) z p = cc
    co (Text s) (Number y) z p = cc
    co (Text s) (Text t) (Number z) p = refl
    co (Text s) (Text t) (Text u) p = nat_list_cmp_total.congr s t u p

pub sub_same : map.IsAntisymmetric sub_cmp
sub_same (Number x) (Number y) e = ap (λ z. Number z) (map.int_cmp-IsAntisymmetric x y e)
sub_same (Number x) (Text t) e = cc
sub_same (Text s) (Number y) e = cc
sub_same (Text s) (Text t) e = ap (λ z. Text z) (map.slice_cmp-IsAntisymmetric map.nat_cmp-IsAntisymmetric s t e)

pub subs_total : IsTotalOrder (slice_cmp sub_cmp)
subs_total = lists_total sub_total

pub key_total : IsTotalOrder key_cmp
key_total = then_total (on_total (λ (k : Key). k.name) nat_list_cmp_total) (on_total (λ (k : Key). k.subs) subs_total)

-- of two parts that are both equal, each is
pub first_equal : (a b : Ordering) → ordering_then a b ≡ Equal → a ≡ Equal
first_equal Less b e = e
first_equal Equal b e = refl
first_equal Greater b e = e

pub second_equal : (a b : Ordering) → ordering_then a b ≡ Equal → b ≡ Equal
second_equal Less b e = cc
second_equal Equal b e = e
second_equal Greater b e = cc

pub key_same : map.IsAntisymmetric key_cmp
key_same a b e =
    let names : a.name ≡ b.name = map.slice_cmp-IsAntisymmetric map.nat_cmp-IsAntisymmetric a.name b.name (first_equal (slice_cmp nat_cmp a.name b.name) (slice_cmp sub_cmp a.subs b.subs) e) in
    let subs : a.subs ≡ b.subs = map.slice_cmp-IsAntisymmetric sub_same a.subs b.subs (second_equal (slice_cmp nat_cmp a.name b.name) (slice_cmp sub_cmp a.subs b.subs) e) in
    λ i. record { name = names i; subs = subs i }
