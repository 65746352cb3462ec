-- Updates, transactions, entries, and the globals that a sequence of entries stands for (GT.M: journal sequence numbers, SET, KILL, ZKILL).
use Rattle.std.specs.Prelude.{ℕ, Bool, List, not, ◌&&◌}
use Rattle.std.specs.List.{fold, flat_map, starts_with}
use Rattle.std.specs.Ordering.{eq_by_cmp, nat_cmp}
use Rattle.std.specs.Cmp.Lexicographic.{slice_cmp}
use Rattle.std.specs.FinMap as map
use Rattle.global_defs.specs.Key.{Key, key_cmp, sub_cmp}

pub data Update : Type 0 where
  Set : Key → List ℕ → Update
  Kill : Key → Update
  ZKill : Key → Update

-- the updater, and the place of the job among its jobs
pub record Origin : Type 0 where
  pub updater : ℕ
  pub serial : ℕ

pub record Transaction : Type 0 where
  pub origin : Origin
  pub updates : List Update

-- an update at its position in its transaction, from 0
pub record Item : Type 0 where
  pub position : ℕ
  pub update : Update

-- the reign in which an entry was made: the root primary's name, and a cycle
pub record Stamp : Type 0 where
  pub root : List ℕ
  pub cycle : ℕ

pub record Entry : Type 0 where
  pub stamp : Stamp
  pub transaction : Transaction

-- A sequence is a list of entries. An entry's number is its place, counted from 1.
abbrev pub Sequence : Type 0
Sequence = List Entry

-- a finite map from keys, in M collation, to values
abbrev pub Globals : Type 0
Globals = map.FinMap key_cmp (List ℕ)

-- the key is the top one, or extends its subscripts
abbrev pub is_under : Key → Key → Bool
is_under top key = eq_by_cmp (slice_cmp nat_cmp) top.name key.name && starts_with (eq_by_cmp sub_cmp) key.subs top.subs

abbrev pub apply : Globals → Update → Globals
apply g (Set key value) = map.insert g key value
apply g (Kill key) = map.retain_keys g (λ k. not (is_under key k))
apply g (ZKill key) = map.remove g key

-- the empty map with all updates of all entries applied in order
abbrev pub state : Sequence → Globals
state seq = fold apply map.empty (flat_map (λ e. e.transaction.updates) seq)

-- a reign of a primary: its stamp, and the number of its first entry
pub record Reign : Type 0 where
  pub stamp : Stamp
  pub start : ℕ
