-- Keys in M collation (GT.M: subscripted global names; numbers collate before strings).
use Rattle.std.specs.Prelude.{ℕ, ℤ, List, if◌then◌else◌}
use Rattle.std.specs.declared.cmp.Ordering.{Ordering}
use Rattle.std.specs.declared.cmp.Ordering.TheVariants.{Less, Greater}
use Rattle.std.specs.Ordering.{nat_cmp, int_cmp, ordering_then}
use Rattle.std.specs.Cmp.Lexicographic.{slice_cmp}
use Rattle.global_defs.specs.Numeral.{is_number, value_of}

-- A subscript. A number is kept as the whole number that is 10 ^ 18 times it.
pub data Sub : Type 0 where
  Number : ℤ → Sub
  Text : List ℕ → Sub

pub record Key : Type 0 where
  pub name : List ℕ
  pub subs : List Sub

-- the subscript that these bytes are: a number where they are its canonical numeral, else a string
abbrev pub sub_of : List ℕ → Sub
sub_of bytes = if is_number bytes then Number (value_of bytes) else Text bytes

-- numbers by value, before all strings; strings byte by byte
abbrev pub sub_cmp : Sub → Sub → Ordering
sub_cmp (Number x) (Number y) = int_cmp x y
sub_cmp (Number x) (Text t) = Less
sub_cmp (Text s) (Number y) = Greater
sub_cmp (Text s) (Text t) = slice_cmp nat_cmp s t

-- names by their bytes, then subscripts one by one; a node before its descendants
abbrev pub key_cmp : Key → Key → Ordering
key_cmp a b = ordering_then (slice_cmp nat_cmp a.name b.name) (slice_cmp sub_cmp a.subs b.subs)
