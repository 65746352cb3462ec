-- Globals under the changes of a job.
use Rattle.std.specs.Prelude.{◌≡◌, ℕ, true, false, not, List, [], ◌∷◌, Some, None}
use Rattle.std.specs.Ordering.{is_lt}
use Rattle.std.specs.FinMap as globals
use Rattle.global_defs.specs.Key.{Key, key_cmp}
use Rattle.global_defs.specs.Encoded.{encoded}
use Rattle.global_defs.specs.Entry.{Globals}
use Rattle.global_defs.specs.Valid.{is_key}
use Rattle.gvn_globals.specs.Walks.{is_later}

-- without the nodes that are gone
abbrev pub kept : Globals → Globals → Globals
kept base gone = globals.retain_keys base (λ k. not (globals.contains_key gone k))

-- with these nodes too
abbrev pub with_all : Globals → List (Key × List ℕ) → Globals
with_all g [] = g
with_all g (e ∷ es) = globals.insert (with_all g es) e.0 e.1

-- without the nodes that are gone, and with those that are set
abbrev pub overlaid : Globals → (sets gone : Globals) → Globals
overlaid base sets gone = with_all (kept base gone) (globals.entries sets)

-- where a node is gone with the code of a later key, all nodes from it to that key are gone
pub record AreGone (base gone : Globals) : Type 0 where
  pub passed : (k last j : Key) → is_key last ≡ true → globals.get gone k ≡ Some (encoded last) → is_later k j ≡ true → is_lt (key_cmp last j) ≡ false → globals.contains_key gone j ≡ false → globals.get base j ≡ None

-- the node itself, or the later key that has these bytes
pub data IsEnd (node : Key) (end : List ℕ) (last : Key) : Type 0 where
  itself : last ≡ node → IsEnd node end last
  later : is_key last ≡ true → encoded last ≡ end → is_later node last ≡ true → IsEnd node end last

-- there is no node at a key, nor from it to another one
pub record IsCleared (g : Globals) (key last : Key) : Type 0 where
  pub itself : globals.get g key ≡ None
  pub between : (j : Key) → is_later key j ≡ true → is_lt (key_cmp last j) ≡ false → globals.get g j ≡ None
