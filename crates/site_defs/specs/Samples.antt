-- Small contents for the laws.
use Rattle.std.specs.Prelude.{ℕ, true, nat_lt, List, [], ◌∷◌, codes, if◌then◌else◌}
use Rattle.global_defs.specs.Entry.{Set, Entry}
use Rattle.journal_defs.specs.Instance as records
use Rattle.site_defs.specs.Contents.{Contents}

-- the site A with region R
abbrev pub made : Contents
made = record { instance = records.Create (codes "A") (record { name = codes "R"; before = true } ∷ []) ∷ []; starts = λ r. []; epochs = λ r. []; texts = []; losts = []; sequence = [] }

-- A's first reign
abbrev pub reigned_once : Contents
reigned_once = record {
  instance = records.Create (codes "A") (record { name = codes "R"; before = true } ∷ []) ∷ records.Cut 0 1
      ∷ records.Reigned (record { stamp = record { root = codes "A"; cycle = 1 }; start = 1 }) ∷ [];
  starts = λ r. if nat_lt r 1 then record { region = r; before = true; generation = 1; previous = 0 } ∷ [] else [];
  epochs = λ r. [];
  texts = [] ∷ [];
  losts = [] ∷ [];
  sequence = [];
}

-- and dropped by a CUT
abbrev pub dropped_reign : Contents
dropped_reign = record { instance = records.Reigned (record { stamp = record { root = codes "A"; cycle = 1 }; start = 1 }) ∷ records.Cut 0 2 ∷ []; starts = λ r. []; epochs = λ r. []; texts = []; losts = []; sequence = [] }

-- the site B with regions R and S, which was opened once
abbrev pub two_regions : Contents
two_regions = record {
  instance = records.Create (codes "B") (record { name = codes "R"; before = true } ∷ record { name = codes "S"; before = true } ∷ []) ∷ records.Cut 0 1 ∷ [];
  starts = λ r. [];
  epochs = λ r. [];
  texts = [] ∷ [];
  losts = [] ∷ [];
  sequence = [];
}

-- the site A with region R at an entry, once opened: an epoch of one entry in the first generation, which the second cut to none
abbrev pub cut_epoch : Contents
cut_epoch = record {
  instance = records.Create (codes "A") (record { name = codes "R"; before = true } ∷ []) ∷ records.Cut 0 1 ∷ records.Cut 0 2 ∷ [];
  starts = λ r. [];
  epochs = λ r. if nat_lt r 1 then record { generation = 1; number = 1 } ∷ [] else [];
  texts = [] ∷ [] ∷ [];
  losts = [] ∷ [] ∷ [];
  sequence = [];
}

-- an entry of A's first reign: updater 1 sets ^X
abbrev pub set_once : (serial : ℕ) → (value : List ℕ) → Entry
set_once serial value = record {
  stamp = record { root = codes "A"; cycle = 1 };
  transaction = record { origin = record { updater = 1; serial = serial }; updates = Set (record { name = codes "X"; subs = [] }) value ∷ [] };
}

-- A's first reign with two entries
abbrev pub two_entries : Contents
two_entries = record reigned_once { sequence = set_once 1 (codes "a") ∷ set_once 2 (codes "b") ∷ [] }
