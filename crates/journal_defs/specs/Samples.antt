-- Records for small cases.
use Rattle.std.specs.Prelude.{ℕ, ◌==◌, if◌then◌else◌, true, Bool, List, [], ◌∷◌, codes}
use Rattle.global_defs.specs.Key.{Key}
use Rattle.global_defs.specs.Entry.{Update, Kill, ZKill, Set, Transaction, Stamp, Reign, Entry}
use Rattle.journal_defs.specs.Journal.{Tcom, Pblk, Epoch, Pini, Part}
use Rattle.journal_defs.specs.Instance.{InstanceRecord, Create, Reigned}
use Rattle.journal_defs.specs.Sequence.{Placed, Records}

abbrev pub A1 : Stamp
A1 = record { root = codes "A"; cycle = 1 }

abbrev pub reign_from : ℕ → ℕ → Reign
reign_from cycle start = record { stamp = record { root = codes "A"; cycle = cycle }; start = start }

-- the reign of A.1 from number 1 on
abbrev pub REIGN : InstanceRecord
REIGN = Reigned (reign_from 1 1)

-- site A with the regions R and H
abbrev pub SITE : InstanceRecord
SITE = Create (codes "A") (record { name = codes "R"; before = true } ∷ record { name = codes "H"; before = true } ∷ [])

abbrev pub node : List ℕ → Key
node name = record { name = name; subs = [] }

abbrev pub kill_x : Update
kill_x = Kill (node (codes "X"))

abbrev pub set_h : Update
set_h = Set (node (codes "H")) (codes "1")

-- a transaction of two updates, the first in region 0 and the second in region 1
abbrev pub both_updates : ℕ → Transaction
both_updates serial = record { origin = record { updater = 1; serial = serial }; updates = kill_x ∷ set_h ∷ [] }

abbrev pub both_entry : ℕ → Entry
both_entry serial = record { stamp = A1; transaction = both_updates serial }

-- a part with one item
abbrev pub part : (number mask serial count position : ℕ) → Update → Part
part number mask serial count position u = record {
  number = number;
  mask = mask;
  origin = record { updater = 1; serial = serial };
  count = count;
  items = record { position = position; update = u } ∷ [];
}

abbrev pub tcom : ℕ → Part → Placed
tcom generation p = record { generation = generation; what = Tcom p }

abbrev pub epoch : (generation number blocks : ℕ) → Placed
epoch generation number blocks = record { generation = generation; what = Epoch (record { closing = true; number = number; blocks = blocks }) }

-- the beginning of a generation of region 0
abbrev pub begins : ℕ → Bool → Placed
begins generation before = record { generation = generation; what = Pini (record { region = 0; before = before; generation = generation; previous = 0 }) }

abbrev pub image : (generation block byte : ℕ) → Placed
image generation block byte = record { generation = generation; what = Pblk (record { block = block; bytes = byte ∷ [] }) }

-- the halves of entry n, which is the transaction of that serial
abbrev pub half_x : (n serial : ℕ) → Part
half_x n serial = part n 3 serial 2 0 kill_x

abbrev pub half_h : (n serial : ℕ) → Part
half_h n serial = part n 3 serial 2 1 set_h

-- SET in region 1, the others in region 0
abbrev pub sets_in_one : Update → ℕ
sets_in_one (Set key value) = 1
sets_in_one (Kill key) = 0
sets_in_one (ZKill key) = 0

-- records of two regions
abbrev pub in_regions : List InstanceRecord → List Placed → List Placed → Records
in_regions instance first second = record { instance = instance; journal = λ r. if r == 0 then first else if r == 1 then second else [] }

-- two images of block 7, the one with byte 1 the older
abbrev pub images : List Placed
images = image 1 7 1 ∷ image 1 8 9 ∷ image 2 7 2 ∷ []
