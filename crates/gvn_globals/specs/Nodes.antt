-- Nodes of the tree by their encoded keys, and the globals that they are.
use Rattle.std.specs.Prelude.{ℕ, ◌&&◌, Bool, not, List, map}
use Rattle.std.specs.Ordering.{nat_cmp, eq_by_cmp, is_le}
use Rattle.std.specs.Cmp.Lexicographic.{slice_cmp}
use Rattle.std.specs.FinMap as globals
use Rattle.global_defs.specs.Key.{Key, key_cmp}
use Rattle.global_defs.specs.Entry.{Globals}
use Rattle.global_defs.specs.Encoded.{encoded}
use Rattle.global_defs.specs.Valid.{is_key}
use Rattle.gvn_globals.specs.declared.globals.Node.{Node}

abbrev pub node_key : Node → Key
node_key n = n.key

abbrev pub node_value : Node → List ℕ
node_value n = n.value

-- each node stands at its encoded key
abbrev pub is_coded : List ℕ × Node → Bool
is_coded e = is_key e.1.key && eq_by_cmp (slice_cmp nat_cmp) e.0 (encoded e.1.key)

abbrev pub entries_of : List (List ℕ × Node) → List (Key × List ℕ)
entries_of es = map (λ e. (e.1.key, e.1.value)) es

abbrev pub globals_of : List (List ℕ × Node) → Globals
globals_of es = globals.from_entries {R = key_cmp} (entries_of es)

-- a code from the first one on, up to the second one, which isn't among them
abbrev pub is_between : (from to code : List ℕ) → Bool
is_between from to code = is_le (slice_cmp nat_cmp from code) && not (is_le (slice_cmp nat_cmp to code))
