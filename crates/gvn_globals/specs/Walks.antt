-- Walks over globals in M collation.
use Rattle.std.specs.Prelude.{◌≡◌, ℕ, ◌&&◌, Bool, true, false, List, [], ◌∷◌, ◌++◌, drop, length, Option, Some, None, if◌then◌else◌}
use Rattle.std.specs.Ordering.{is_lt, nat_cmp, eq_by_cmp}
use Rattle.std.specs.Cmp.Lexicographic.{slice_cmp}
use Rattle.std.specs.List.{find, list_all, list_any}
use Rattle.std.specs.FinMap as globals
use Rattle.global_defs.specs.Key.{Key, Sub, key_cmp}
use Rattle.global_defs.specs.Entry.{Globals, is_under}
use Rattle.global_defs.specs.Encoded.{encoded, encoded_sub}
use Rattle.global_defs.specs.Evaluation.{first_sub, sub_at, is_past}

-- a key of the same name that comes later
abbrev pub is_later : Key → Key → Bool
is_later key k = eq_by_cmp (slice_cmp nat_cmp) key.name k.name && is_lt (key_cmp key k)

-- the first node of the same name past a key
abbrev pub after : Globals → Key → Option Key
after g key = find (is_later key) (globals.keys g)

-- the key where it's a node, else the first node of the same name past it
abbrev pub from : Globals → Key → Option Key
from g key = if globals.contains_key g key then Some key else after g key

-- the value, where it passes a test
abbrev pub tested : {A : Type 0} → (A → Bool) → Option A → Option A
tested p None = None
tested p (Some x) = if p x then Some x else None

-- these are keys at and below the top one, and among them all nodes there
pub record IsSubtree (g : Globals) (top : Key) (ks : List Key) : Type 0 where
  pub under : list_all (is_under top) ks ≡ true
  pub whole : (k : Key) → is_under top k ≡ true → globals.contains_key g k ≡ true → list_any (eq_by_cmp key_cmp k) ks ≡ true

abbrev pub is_behind : Key → Key → Bool
is_behind key k = is_lt (key_cmp key k)

-- a key past all those that have this one and then the subscript
abbrev pub is_beyond : Key → Sub → Key → Bool
is_beyond top s k = is_lt (slice_cmp nat_cmp (encoded top ++ encoded_sub s ++ 255 ∷ []) (encoded k))

-- the subscript at the level below the top one, where the key is one of its descendants
abbrev pub sub_under : Key → Option Key → Option Sub
sub_under top None = None
sub_under top (Some k) = if is_under top k then first_sub (drop (length top.subs) k.subs) else None

-- the first of two keys, the own one where they tie
abbrev pub earlier : Option Key → Option Key → Option Key
earlier None other = other
earlier (Some own) None = Some own
earlier (Some own) (Some other) = if is_lt (key_cmp other own) then Some other else Some own

-- the subscript is there and past the last one
abbrev pub is_past_at : List ℕ → Option Sub → Bool
is_past_at last None = false
is_past_at last (Some s) = is_past last s

-- the key has such a subscript below the top one
abbrev pub is_next : Key → List ℕ → Key → Bool
is_next top last k = is_past_at last (sub_at top k)
