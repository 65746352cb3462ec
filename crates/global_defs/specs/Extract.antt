-- Entries and extracts as text (GT.M: MUPIP JOURNAL -EXTRACT; the lines are this project's).
use Rattle.std.specs.Prelude.{ℕ, ◌-◌, List, [], ◌∷◌, ◌++◌, codes, drop}
use Rattle.std.specs.List.{flat_map, enumerate_from}
use Rattle.std.specs.Fmt.{decimal}
use Rattle.global_defs.specs.NodeText.{node_text}
use Rattle.global_defs.specs.Zwr.{zwr}
use Rattle.global_defs.specs.Entry.{Update, Set, Kill, ZKill, Entry, Sequence}

-- a field of a line, behind its backslash
abbrev pub field : List ℕ → List ℕ
field text = 92 ∷ text

-- \number\root.cycle\updater.serial
abbrev pub entry_fields : ℕ → Entry → List ℕ
entry_fields number e = field (decimal number)
    ++ field (e.stamp.root ++ 46 ∷ decimal e.stamp.cycle)
    ++ field (decimal e.transaction.origin.updater ++ 46 ∷ decimal e.transaction.origin.serial)

abbrev pub update_line : ℕ → Entry → Update → List ℕ
update_line number e (Set key value) = codes "SET" ++ entry_fields number e ++ field (node_text key ++ 61 ∷ zwr value) ++ 10 ∷ []
update_line number e (Kill key) = codes "KILL" ++ entry_fields number e ++ field (node_text key) ++ 10 ∷ []
update_line number e (ZKill key) = codes "ZKILL" ++ entry_fields number e ++ field (node_text key) ++ 10 ∷ []

-- the line that begins or ends an entry with more than one update
abbrev pub bracket_line : List ℕ → ℕ → Entry → List ℕ
bracket_line word number e = word ++ entry_fields number e ++ 10 ∷ []

-- one update is one line, more stand between TSTART and TCOM
abbrev pub updates_text : ℕ → Entry → List Update → List ℕ
updates_text number e [] = []
updates_text number e (u ∷ []) = update_line number e u
updates_text number e (u ∷ v ∷ us) = bracket_line (codes "TSTART") number e ++ flat_map (update_line number e) (u ∷ v ∷ us) ++ bracket_line (codes "TCOM") number e

abbrev pub entry_text : ℕ → Entry → List ℕ
entry_text number e = updates_text number e e.transaction.updates

-- the entries' text, the first one with that number
abbrev pub entries_text : ℕ → Sequence → List ℕ
entries_text number seq = flat_map (λ p. entry_text p.0 p.1) (enumerate_from number seq)

abbrev pub header : List ℕ → ℕ → List ℕ
header site from = codes "GTMRJEX01" ++ field site ++ field (decimal from) ++ 10 ∷ []

-- the header, and the entries from that number on
abbrev pub extract : List ℕ → Sequence → ℕ → List ℕ
extract site seq from = header site from ++ entries_text from (drop (from - 1) seq)
