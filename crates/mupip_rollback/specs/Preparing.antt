-- A site that is to be rolled back, before anything is written.
use Rattle.std.specs.Prelude.{◌≡◌, ◌+◌, ◌*◌, ◌≤◌, ◌++◌, ℕ, suc, List, [], ◌∷◌, length, take, IfSome}
use Rattle.disk_defs.specs.Disk.{Files, View, Image}
use Rattle.entry_index.specs.Found.{entry_count}
use Rattle.entry_index.specs.declared.index.EntryIndex.{EntryIndex}
use Rattle.global_defs.specs.Extract.{extract}
use Rattle.journal_defs.specs.Instance.{InstanceRecord, generation, regions, site_name}
use Rattle.site_files.specs.Loading.{AreUnbegun, next_cut}
use Rattle.site_store.specs.declared.preparing.FoundFiles.{FoundFiles}
use Rattle.site_store.specs.declared.preparing.StandingSite.{StandingSite}
use Rattle.site_store.specs.Finding.{HasLayout}
use Rattle.site_store.specs.Standing.{HasFound, WasFound, IfFound, IsOpenFor}
use Rattle.mupip_rollback.specs.declared.preparing.Kept.{Kept}
use Rattle.mupip_rollback.specs.declared.preparing.Prepared.{Prepared}

-- an index has the rows of so many first entries of another
pub record AreFirst (t : ℕ) (all first : EntryIndex) : Type 0 where
  pub regions : first.regions ≡ all.regions
  pub places : first.places.items ≡ take (all.regions * t) all.places.items

-- of a standing site the first so many entries are kept, in a layout of one generation more
pub record KeepsFirst (t : ℕ) (k : StandingSite) (kept : Kept) : Type 0 where
  pub name : kept.layout.name ≡ k.layout.name
  pub regions : kept.layout.regions ≡ k.layout.regions
  pub directory : kept.layout.directory ≡ k.layout.directory
  pub generation : kept.layout.generation ≡ k.layout.generation + 1
  pub last_began : kept.last_began ≡ k.last_began
  pub entries : AreFirst t k.entries kept.entries
  pub globals : kept.globals ≡ k.globals

-- with a CUT to so many entries
abbrev pub cut_records : List InstanceRecord → ℕ → List InstanceRecord
cut_records rs n = rs ++ next_cut rs n ∷ []

-- What was found of a site and is on the disk for good: its regions are open for the first few entries, the extract of the others is made, and no journal of
-- the generation behind the next one has begun.
pub record IsPrepared (v : View) (p : Prepared) : Type 0 where
  pub found : FoundFiles
  pub has : HasFound found
  pub was : WasFound v v found
  pub log : p.log ≡ found.read.log
  pub counted : p.length ≡ entry_count found.entries
  pub broken : p.broken ≡ found.broken
  pub last_began : p.kept.last_began ≡ found.read.last_began
  pub most : entry_count p.kept.entries ≤ entry_count found.entries
  pub entries : AreFirst (entry_count p.kept.entries) found.entries p.kept.entries
  pub layout : (n m : ℕ) → HasLayout (cut_records (cut_records found.read.log.records n) m) p.kept.layout
  pub regions_open : IsOpenFor v v found (entry_count p.kept.entries) p.kept.globals
  pub lost : IfSome v.content (IfFound found (λ u seq files. p.lost ≡ extract (site_name u.instance) seq (entry_count p.kept.entries + 1)))
  pub ahead : IfSome v.content (λ _. (f : Files) → Image v f → AreUnbegun (suc (suc (generation found.read.log.records))) (length (regions found.read.log.records)) f)
