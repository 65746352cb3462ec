-- Broken transactions: the parts past the length, as a list and as text (GT.M: the broken-transaction file of MUPIP JOURNAL; the
-- lines are this project's).
use Rattle.std.specs.Prelude.{ℕ, ◌+◌, ◌&&◌, nat_lt, if◌then◌else◌, List, [], ◌∷◌, ◌++◌, map, Option, Some, None, codes}
use Rattle.std.specs.List.{flat_map, filter_map, enumerate_from}
use Rattle.std.specs.Fmt.{decimal}
use Rattle.global_defs.specs.Entry.{Update, Set, Kill, ZKill}
use Rattle.global_defs.specs.NodeText.{node_text}
use Rattle.global_defs.specs.Zwr.{zwr}
use Rattle.global_defs.specs.Extract.{field}
use Rattle.journal_defs.specs.Journal.{JournalRecord, Pini, Epoch, Pblk, Tcom, Part}
use Rattle.journal_defs.specs.Instance.{InstanceRecord, regions}
use Rattle.journal_defs.specs.Surviving.{survives}
use Rattle.journal_defs.specs.Sequence.{Placed, Records}

-- a part, and the name of its region
pub record BrokenPart : Type 0 where
  pub region : List ℕ
  pub part : Part

-- the part that stands here, where it survives and its number is past the length; it may be one of an entry that is complete
abbrev pub part_past : List InstanceRecord → ℕ → ℕ → JournalRecord → Option Part
part_past instance length g (Tcom p) = if nat_lt length p.number && survives instance g p.number then Some p else None
part_past instance length g (Pini s) = None
part_past instance length g (Epoch m) = None
part_past instance length g (Pblk b) = None

-- a region's, in journal order
abbrev pub parts_past : List InstanceRecord → ℕ → List Placed → List Part
parts_past instance length journal = filter_map (λ p. part_past instance length p.generation p.what) journal

-- the broken list: for each region in order its open surviving TCOM records past the length
abbrev pub broken : Records → ℕ → List BrokenPart
broken s length = flat_map (λ r. map (λ p. record { region = r.1.name; part = p }) (parts_past s.instance length (s.journal r.0))) (enumerate_from 0 (regions s.instance))

-- \number\region\updater.serial
abbrev pub part_fields : BrokenPart → List ℕ
part_fields b = field (decimal b.part.number) ++ field b.region ++ field (decimal b.part.origin.updater ++ 46 ∷ decimal b.part.origin.serial)

abbrev pub update_line : List ℕ → Update → List ℕ
update_line fields (Set key value) = codes "SET" ++ fields ++ field (node_text key ++ 61 ∷ zwr value) ++ 10 ∷ []
update_line fields (Kill key) = codes "KILL" ++ fields ++ field (node_text key) ++ 10 ∷ []
update_line fields (ZKill key) = codes "ZKILL" ++ fields ++ field (node_text key) ++ 10 ∷ []

-- one line an item
abbrev pub part_text : BrokenPart → List ℕ
part_text b = flat_map (λ i. update_line (part_fields b) i.update) b.part.items

-- with the number after the length
abbrev pub header : List ℕ → ℕ → List ℕ
header site length = codes "GTMRBRK01" ++ field site ++ field (decimal (length + 1)) ++ 10 ∷ []

-- the text of a broken-transaction file for a broken list; for an empty one there is none
abbrev pub broken_text : List ℕ → ℕ → List BrokenPart → List ℕ
broken_text site length [] = []
broken_text site length (b ∷ bs) = header site length ++ flat_map part_text (b ∷ bs)
