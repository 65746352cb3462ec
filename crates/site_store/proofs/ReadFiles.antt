-- What was read of a site is what its files hold.
use Rattle.std.proofs.Common.{◌≡◌, ℕ, List, length, map, Option, Some, IfSome}
use Rattle.disk_defs.specs.Disk.{Files, View, Image, IsLawful, AtEachMoment}
use Rattle.disk_defs.proofs.Told.{both_weak, told_at}
use Rattle.global_defs.specs.Entry.{Sequence}
use Rattle.journal_defs.specs.Broken.{broken, broken_text}
use Rattle.journal_defs.specs.Instance.{generation, regions, site_name}
use Rattle.journal_defs.specs.Surviving.{reigns}
use Rattle.journal_defs.specs.Sequence.{Placed, Records}
use Rattle.entry_index.specs.Found.{AreFound}
use Rattle.entry_index.specs.Among.{IsIndexOf}
use Rattle.entry_index.specs.declared.index.EntryIndex.{EntryIndex}
use Rattle.entry_index.proofs.JournalStands.{journal_stands}
use Rattle.site_files.specs.declared.reading.ReadSite.{ReadSite}
use Rattle.site_files.specs.Loading.{WasRead, last_of}
use Rattle.site_store.specs.declared.preparing.FoundFiles.{FoundFiles}
use Rattle.site_store.specs.Opening.{AreTextsDurable, AreDatabasesDurable}
use Rattle.site_store.specs.Standing.{IsFoundIn, WasFound, found_records, found_signs}
use Rattle.site_store.proofs.Databases.{texts_still, databases_still}
use Rattle.site_store.proofs.Refused.{read_kept}
use Rattle.site_store.proofs.TheFiles.{told_then, as_told, at_files}

-- the files hold the records that were read, and stand for these entries
abbrev pub IsRead : View → ReadSite → EntryIndex → Files → Type 0
IsRead v read entries files = (journal : ℕ → List Placed) × (seq : Sequence) × WasRead v read.log.records (last_of read.last_began.items) journal files
    × AreFound files read.log.records read.lowest (map (λ s. s.items) read.signs.items) entries (record { instance = read.log.records; journal = journal }) seq × IsIndexOf journal (reigns read.log.records) entries seq

-- what can't be found there
abbrev pub NeverFound : ReadSite → EntryIndex → Files → Type 0
NeverFound read entries files = (u : Records) (seq : Sequence) → AreFound files read.log.records read.lowest (map (λ s. s.items) read.signs.items) entries u seq → ⊥

-- and so they can't fail to
pub never_read : (o n : Option Files) (v : View) (read : ReadSite) (entries : EntryIndex) (P : Files → Type 0) → n ≡ o → IfSome o (IsRead v read entries) → IfSome n (NeverFound read entries) → IfSome o P
never_read o n v read entries P same is never = both_weak o (IsRead v read entries) (NeverFound read entries) P is (told_at o n (NeverFound read entries) same never)
    (λ files x none. absurd (none (record { instance = read.log.records; journal = x.0 }) x.1 x.3))

-- the text that was made of it
abbrev pub IsMade : FoundFiles → Files → Type 0
IsMade f files = (u : Records) (seq : Sequence) → AreFound files f.read.log.records f.read.lowest (found_signs f) f.entries u seq → f.broken ≡ broken_text (site_name u.instance) (length seq) (broken u (length seq))

pub found_of : (u v0 v1 v2 w : View) (f : FoundFiles) → v2.content ≡ u.content → IsLawful v1 → IsLawful v2 → IsLawful w → AtEachMoment v0 v1 (Image v0) → AtEachMoment v1 v2 (Image v1) → AtEachMoment v2 w (Image v2)
    → IfSome u.content (IsRead v0 f.read f.entries) → IfSome v2.content (IsMade f)
    → IfSome u.content (AreTextsDurable v2 (generation f.read.log.records)) → IfSome u.content (AreDatabasesDurable v2 (length (regions f.read.log.records))) → WasFound u w f
found_of u v0 v1 v2 w f same lawful1 lawful2 lawful3 run1 run2 run3 read made texts databases =
    let rs = f.read.log.records in
    let last = last_of f.read.last_began.items in
    record {
      told = told_then u.content (IsRead v0 f.read f.entries) (λ files. (journal : ℕ → List Placed) × (seq : Sequence) × IsFoundIn w f journal seq files) read (λ files told x.
          let made_so = at_files u.content files (IsMade f) told (told_at u.content v2.content (IsMade f) same made) in
          as_told u.content files (λ files. (journal : ℕ → List Placed) × (seq : Sequence) × IsFoundIn w f journal seq files) told (
            x.0,
            x.1,
            record {
              read = read_kept (Some files) v2 w rs last x.0 lawful3 run3 (read_kept (Some files) v1 v2 rs last x.0 lawful2 run2 (read_kept (Some files) v0 v1 rs last x.0 lawful1 run1 x.2));
              found = x.3;
              indexed = x.4;
              stand = λ r low. journal_stands files r (generation rs) (last r) (x.0 r) (x.2.holds.older r low);
              broken_is = made_so (found_records f x.0) x.1 x.3;
            },
          ));
      texts = texts_still u.content v2 w (generation rs) lawful3 run3 texts;
      databases = databases_still u.content v2 w (length (regions rs)) lawful3 run3 databases;
    }
