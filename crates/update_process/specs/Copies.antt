-- A site that entries of a primary are applied to.
use Rattle.std.specs.Prelude.{◌≡◌, ◌⊎◌, ℕ, ◌+◌, ◌==◌, List, [], ◌∷◌, ◌++◌, length, fold, Option, Some, None, option_to_list, if◌then◌else◌}
use Rattle.std.specs.List.{last_or}
use Rattle.global_defs.specs.Entry.{Transaction, Stamp, Sequence, Reign, Globals, apply}
use Rattle.global_defs.specs.Prefix as prefix
use Rattle.global_defs.specs.Prefix.{stamp_at}

-- what contracts see of it
pub record Copy : Type 0 where
  pub sequence : Sequence
  pub hardened : ℕ  -- how many of its entries are hardened
  pub reigns : List Reign  -- its surviving reigns
  pub remembered : Option Reign  -- the reign that its next entry begins
  pub globals : Globals

-- its history
abbrev pub history_of : Copy → prefix.History
history_of c = record { length = length c.sequence; reigns = c.reigns }

-- the number of its next entry
abbrev pub next_of : Copy → ℕ
next_of c = length c.sequence + 1

-- the reign begins with the next entry of that history, or it is its last one as it stands
abbrev pub MayAdopt : prefix.History → Reign → Type 0
MayAdopt h r = (r.start ≡ h.length + 1) ⊎ (last_or None h.reigns ≡ Some r)

-- It remembers a reign that begins with its next entry, and forgets an earlier one. It appends nothing.
abbrev pub adopted : Copy → Reign → Copy
adopted c r = record c { remembered = if r.start == next_of c then Some r else None }

-- the same where a HISTORY came
abbrev pub told : Copy → Option Reign → Copy
told c None = c
told c (Some r) = adopted c r

-- the reigns that the next entry is under: those that survive, and behind them the one that it begins
abbrev pub reigns_next : Copy → List Reign
reigns_next c = c.reigns ++ option_to_list c.remembered

-- With the next entry, under that stamp. The reign that it begins is appended right before it.
abbrev pub took : Copy → Stamp → Transaction → Copy
took c stamp t = record {
  sequence = c.sequence ++ record { stamp = stamp; transaction = t } ∷ [];
  hardened = c.hardened;
  reigns = reigns_next c;
  remembered = None;
  globals = fold apply c.globals t.updates;
}

-- the next entry is applied, under the stamp of its number
abbrev pub Takes : Transaction → Copy → Copy → Type 0
Takes t c now = (stamp : Stamp) × (stamp_at (next_of c) (reigns_next c) ≡ Some stamp) × (now ≡ took c stamp t)

-- all that it has is hardened
abbrev pub hardened : Copy → Copy
hardened c = record c { hardened = length c.sequence }
