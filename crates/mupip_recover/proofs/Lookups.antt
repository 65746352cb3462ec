-- What a look-up by place gives.
use Rattle.std.proofs.Common.{◌≡◌, ℕ, ◌≤◌, length, List, slice_get, Option, Some, None, refl, sym, arith, Bor}
use Rattle.std.proofs.lemmas.Bool.Decides.{nat_tests}
use Rattle.std.proofs.lemmas.Option.{slice_get_past, slice_get_read}
use Rattle.std.specs.Option.{option_map}
use Rattle.std.specs.Slice.{IsItemAt}

pub item-slice_get : {A : Type 0} (xs : List A) (i : ℕ) (r : Option (Bor A)) → IsItemAt xs i r → option_map (λ x. x.now) r ≡ slice_get xs i
item-slice_get xs i None h =
    let past : length xs ≤ i = grind (arith, nat_tests) in
    sym (slice_get_past xs i past)
item-slice_get xs i (Some x) h = sym (slice_get_read xs (length xs) i x.now refl h.3.0 h.1)
