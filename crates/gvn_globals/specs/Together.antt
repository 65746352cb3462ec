-- Changes that are made together.
use Rattle.std.specs.Prelude.{◌≡◌, ℕ, Bool, true, false, List, if◌then◌else◌, Option, Some, None, is_some}
use Rattle.std.specs.Ordering.{eq_by_cmp}
use Rattle.std.specs.List.{list_any}
use Rattle.std.specs.FinMap as globals
use Rattle.global_defs.specs.Key.{Key, key_cmp}
use Rattle.global_defs.specs.Encoded.{encoded}
use Rattle.global_defs.specs.Entry.{Globals, is_under}
use Rattle.global_defs.specs.Valid.{is_key}

abbrev pub is_among : List Key → Key → Bool
is_among ks k = list_any (eq_by_cmp key_cmp k) ks

-- none of these keys has a value
pub record AreNew (g : Globals) (ks : List Key) : Type 0 where
  pub none : (k : Key) → is_among ks k ≡ true → globals.get g k ≡ None

-- each of these keys has a value, and the others have what they had
pub record IsMore (g : Globals) (ks : List Key) (now : Globals) : Type 0 where
  pub others : (k : Key) → is_among ks k ≡ false → globals.get now k ≡ globals.get g k
  pub here : (k : Key) → is_among ks k ≡ true → globals.contains_key now k ≡ true

-- these keys have no values, and the others have what they had
pub record IsLess (g : Globals) (ks : List Key) (now : Globals) : Type 0 where
  pub answers : (k : Key) → globals.get now k ≡ (if is_among ks k then None else globals.get g k)

-- the code of a key at or below the top one
pub record IsEndUnder (top : Key) (end : Option (List ℕ)) : Type 0 where
  pub last : Key
  pub under : is_under top last ≡ true
  pub valid : is_key last ≡ true
  pub code : end ≡ Some (encoded last)

-- these keys have codes of keys at or below the top one, and the others have what they had
pub record AreNoted (g : Globals) (top : Key) (ks : List Key) (now : Globals) : Type 0 where
  pub noted : (k : Key) → is_among ks k ≡ true → IsEndUnder top (globals.get now k)
  pub others : (k : Key) → is_among ks k ≡ false → globals.get now k ≡ globals.get g k

-- each node of these has a value
pub record AreHeld (g : Globals) (es : List (Key × List ℕ)) : Type 0 where
  pub held : (k : Key) → is_some (globals.find key_cmp k es) ≡ true → globals.contains_key g k ≡ true
