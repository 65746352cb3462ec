-- A site that was found, and stands.
use Rattle.std.proofs.Common.{◌≡◌, inr, ℕ, Bool, false, List, [], ◌∷◌, ◌++◌, length, take, Some, Result, Ok, Err, IfOk, IfSome, sym, ◌∙◌, ap, subst, arith}
use Rattle.std.proofs.Math.Seq.{take-length}
use Rattle.disk_defs.specs.Disk.{Files, View, Image, Reads, IsLawful, AtEachMoment}
use Rattle.disk_defs.proofs.Moments.{read_only}
use Rattle.disk_defs.proofs.Told.{weaker_told, told_at}
use Rattle.global_defs.specs.Entry.{Sequence, state}
use Rattle.journal_defs.specs.Instance.{generation, regions}
use Rattle.journal_defs.specs.Sequence.{Placed}
use Rattle.journal_defs.specs.Fit.{IsSoundImage}
use Rattle.entry_index.specs.Found.{entry_count}
use Rattle.region_opening.specs.Signs.{AllSay}
use Rattle.entry_index.proofs.AmongLaws.{counts_entries}
use Rattle.site_store.proofs.Without.{signs_say}
use Rattle.site_defs.specs.Contents.{Contents}
use Rattle.site_defs.specs.Stands.{IsSite, Stands}
use Rattle.site_defs.specs.OutsideBlocks.{IsOutsideOpening, HaveOutsideBlocks, whole}
use Rattle.site_files.specs.Loading.{AreRead, last_of, next_cut}
use Rattle.site_files.proofs.Kept.{image_read}
use Rattle.region_store.specs.Joined.{Joined, joined}
use Rattle.site_store.specs.declared.preparing.FoundFiles.{FoundFiles}
use Rattle.site_store.specs.declared.preparing.StandingSite.{StandingSite}
use Rattle.site_store.specs.declared.error.SiteError.{SiteError}
use Rattle.site_store.specs.Finding.{HasLayout}
use Rattle.site_store.specs.Needing.{IsFirstWithout, NoneIsWithout, HaveFirstWithout}
use Rattle.site_store.specs.Site.{AreOnBlocks, StandOn, AreSynced}
use Rattle.site_store.specs.Opening.{AreTextsDurable, AreDatabasesDurable}
use Rattle.site_store.proofs.Alike.{image_site}
use Rattle.site_store.proofs.OnBlocks.{on_same}
use Rattle.site_store.specs.Standing.{IfFound, IsFoundIn, StandsIn, found_records, found_signs, records_of, HasFound, WasFound, IsFoundAs, IsOpenFor, IsOpenAs, Stood}
use Rattle.site_store.proofs.Databases.{databases_still, texts_still}
use Rattle.site_store.proofs.Drawn.{site_read}
use Rattle.site_store.proofs.Refused.{read_kept}
use Rattle.site_store.proofs.TheFiles.{told_then, as_told, at_files}

-- what the files hold
abbrev pub Given : View → FoundFiles → Files → Type 0
Given v f files = (journal : ℕ → List Placed) × (seq : Sequence) × IsFoundIn v f journal seq files

-- as many entries
pub found_count : (v : View) (f : FoundFiles) (journal : ℕ → List Placed) (seq : Sequence) (files : Files) → HasFound f → IsFoundIn v f journal seq files → entry_count f.entries ≡ length seq
found_count v f journal seq files has is = let wide = has.each_place in let some = has.form.some_region in counts_entries journal _ f.entries seq (omega (arith, wide, some)) is.indexed

-- while the disk is only synced or read
moved_in : (v w : View) (f : FoundFiles) → IsLawful w → AtEachMoment v w (Image v) → (files : Files) → Given v f files → Given w f files
moved_in v w f lawful run files x = (
  x.0,
  x.1,
  record {
    read = read_kept (Some files) v w f.read.log.records (last_of f.read.last_began.items) x.0 lawful run x.2.read;
    found = x.2.found;
    indexed = x.2.indexed;
    stand = x.2.stand;
    broken_is = x.2.broken_is;
  },
)

pub found_moved : (u v w : View) (f : FoundFiles) → IsLawful w → AtEachMoment v w (Image v) → WasFound u v f → WasFound u w f
found_moved u v w f lawful run was = record {
  told = weaker_told u.content (Given v f) (Given w f) was.told (moved_in v w f lawful run);
  texts = texts_still u.content v w (generation f.read.log.records) lawful run was.texts;
  databases = databases_still u.content v w (length (regions f.read.log.records)) lawful run was.databases;
}

pub open_moved : (anew : Bool) (u v w : View) (f : FoundFiles) (t : ℕ) (j : Joined) → v.content ≡ u.content → IsOpenAs anew v w f t j → IsOpenAs anew u w f t j
open_moved anew u v w f t j same is = record {
  blocks = told_at u.content v.content (IfFound f (λ x seq files. StandOn anew files x t j)) same is.blocks;
  regions = is.regions;
  nodes = told_at u.content v.content (IfFound f (λ x seq files. IsSoundImage files x seq → joined j ≡ state (take t seq))) same is.nodes;
  some = is.some;
  none = is.none;
}

-- what is so in each image, where the disk tells its files
module _ (u v : View) (f : FoundFiles) (was : WasFound u v f) (files : Files) (told : u.content ≡ Some files) (journal : ℕ → List Placed) (seq : Sequence) (is : IsFoundIn v f journal seq files) where
  databases : AreDatabasesDurable v (length (regions f.read.log.records)) files
  databases = at_files u.content files (AreDatabasesDurable v (length (regions f.read.log.records))) told was.databases

  pub synced_found : AreSynced v (length (regions f.read.log.records))
  synced_found a b i j r low = databases r low b j ∙ sym (databases r low a i)

  pub blocks_found : (t : ℕ) (j : Joined) → IsOpenFor u v f t j → (d : Files) → Image v d → AreOnBlocks d (found_records f journal) t j
  blocks_found t j opens d image =
      on_same files d (found_records f journal) t j (λ r low. databases r low d image)
      (at_files u.content files (IfFound f (λ x seq files. StandOn false files x t j)) told opens.blocks (found_records f journal) seq is.found)

  pub read_found : (d : Files) → Image v d → AreRead f.read.log.records (last_of f.read.last_began.items) journal d
  read_found d image = image_read v f.read.log.records (last_of f.read.last_began.items) journal files is.read d image

  -- all images stand for the same, when each stands for something
  pub images_found : HasFound f → ((d : Files) → Image v d → (o : Contents) × Stands d o) → (c : Contents) → IsSite files c → (d : Files) → Image v d → IsSite d c
  images_found has each c site d image =
      let texts = at_files u.content files (AreTextsDurable v (generation f.read.log.records)) told was.texts in
      subst (IsSite d) (sym (site_read f.read.log.records (last_of f.read.last_began.items) journal seq has.form is.found.sequence files c is.read.holds site).1)
      (image_site v f.read.log.records (last_of f.read.last_began.items) journal seq has.form is.found.sequence files is.read texts d image (each d image).0 (each d image).1)

-- open for all entries
abbrev again : FoundFiles → StandingSite → FoundFiles
again f k = record { read = record { log = k.log; directory = f.read.directory; signs = f.read.signs; last_began = k.last_began; lowest = f.read.lowest; few = f.read.few }; entries = k.entries; broken = k.broken }

-- no region needs forward recovery, by all that the signs say
abbrev pub NoneNeeds : FoundFiles → ℕ → Type 0
NoneNeeds f n = (journal : ℕ → List Placed) → AllSay f.read.log.records n (found_signs f) journal → NoneIsWithout (found_records f journal) n

stood_in : (anew : Bool) (u w : View) (f : FoundFiles) (k : StandingSite) → HasFound (again f k) → IsOpenAs anew u w (again f k) (entry_count k.entries) k.globals
    → (anew ≡ false → NoneNeeds (again f k) (entry_count k.entries)) → (files : Files) → u.content ≡ Some files → Given w (again f k) files → (journal : ℕ → List Placed) × (seq : Sequence) × StandsIn anew w k journal seq files
stood_in anew u w f k has opens none files told (journal, seq, is) =
    let n = entry_count k.entries in
    let count : n ≡ length seq = found_count w (again f k) journal seq files has is in
    let blocks = at_files u.content files (IfFound (again f k) (λ x s files. StandOn anew files x n k.globals)) told opens.blocks (found_records (again f k) journal) seq is.found in
    let nodes = at_files u.content files (IfFound (again f k) (λ x s files. IsSoundImage files x s → joined k.globals ≡ state (take n s))) told opens.nodes (found_records (again f k) journal) seq is.found in
    let all : take n seq ≡ seq = ap (λ (m : ℕ). take m seq) count ∙ take-length seq in (
      journal,
      seq,
      record {
        sequence = is.found.sequence;
        count = count;
        read = is.read;
        indexed = is.indexed;
        stand = is.stand;
        broken_is = is.broken_is;
        without = λ no. subst (NoneIsWithout (records_of k journal)) count (none no journal (signs_say files k.log.records f.read.lowest n (length seq) (found_signs f) journal (λ m low least. omega (arith, least, count)) is.found.are_kept));
        blocks = subst (λ (m : ℕ). StandOn anew files (records_of k journal) m k.globals) count blocks;
        nodes = λ sound. nodes sound ∙ ap state all;
      },
    )

stood_again : (anew : Bool) (u w : View) (f : FoundFiles) (k : StandingSite) → HasFound (again f k) → WasFound u w (again f k) → IsOpenAs anew u w (again f k) (entry_count k.entries) k.globals
    → (anew ≡ false → NoneNeeds (again f k) (entry_count k.entries)) → ((n : ℕ) → HasLayout (k.log.records ++ next_cut k.log.records n ∷ []) k.layout) → Stood anew u w k
stood_again anew u w f k has was opens none layout = record {
  form = has.form;
  counted = has.counted;
  low = has.low;
  layout = layout;
  each_place = has.each_place;
  whole = has.whole;
  few = has.few;
  told = told_then u.content (Given w (again f k)) (λ files. (journal : ℕ → List Placed) × (seq : Sequence) × StandsIn anew w k journal seq files) was.told
      (λ files told x. as_told u.content files (λ files. (journal : ℕ → List Placed) × (seq : Sequence) × StandsIn anew w k journal seq files) told (stood_in anew u w f k has opens none files told x));
  texts = was.texts;
  databases = was.databases;
  regions = opens.regions;
  some = opens.some;
  none = opens.none;
}

pub stood_of : (anew : Bool) (u w : View) (f : FoundFiles) (k : StandingSite) → HasFound f → WasFound u w f → IsOpenAs anew u w f (entry_count f.entries) k.globals
    → (anew ≡ false → NoneNeeds f (entry_count f.entries)) → IsFoundAs f k → Stood anew u w k
stood_of anew u w f k has was opens none stays =
    subst (λ (x : FoundFiles). HasFound x → WasFound u w x → IsOpenAs anew u w x (entry_count x.entries) k.globals → (anew ≡ false → NoneNeeds x (entry_count x.entries))
    → ((n : ℕ) → HasLayout (x.read.log.records ++ next_cut x.read.log.records n ∷ []) k.layout) → Stood anew u w k)
    (λ i. record { read = record { log = stays.log i; directory = f.read.directory; signs = f.read.signs; last_began = stays.last_began i; lowest = f.read.lowest; few = f.read.few }; entries = stays.entries i; broken = stays.broken i })
    (stood_again anew u w f k) has was opens none stays.layout

pub stood_ok : (anew : Bool) (u v w : View) (f : FoundFiles) (n : ℕ) (o : Result StandingSite SiteError) → IsLawful w → Reads v w → v.content ≡ u.content → HasFound f → WasFound u v f → n ≡ entry_count f.entries
    → IfOk o (IsFoundAs f) → IfOk o (λ k. IsOpenAs anew v w f n k.globals) → (anew ≡ false → NoneNeeds f n) → IfOk o (Stood anew u w)
stood_ok anew u v w f n (Ok k) lawful reads same has was all stays opens none =
    stood_of anew u w f k has (found_moved u v w f lawful (read_only v w reads) was) (subst (λ (m : ℕ). IsOpenAs anew u w f m k.globals) all (open_moved anew u v w f n k.globals same opens))
    (λ no. subst (NoneNeeds f) all (none no)) stays
stood_ok anew u v w f n (Err e) lawful reads same has was all stays opens none = tt

-- where it can't be opened for all entries
module _ (u v : View) (f : FoundFiles) (has : HasFound f) (was : WasFound u v f) (same : v.content ≡ u.content) (file offset : ℕ) where
  pub blocks_outside : IfSome v.content (IfFound f (λ x seq files. HaveOutsideBlocks whole files file offset)) → IfSome u.content (λ files. IsOutsideOpening files file offset)
  blocks_outside out = told_then u.content (Given v f) (λ files. IsOutsideOpening files file offset) was.told (λ files told x.
      as_told u.content files (λ files. IsOutsideOpening files file offset) told
      (inr (at_files u.content files (IfFound f (λ y seq files. HaveOutsideBlocks whole files file offset)) told
      (told_at u.content v.content (IfFound f (λ y seq files. HaveOutsideBlocks whole files file offset)) same out) (found_records f x.0) x.1 x.2.found)))

  pub no_site_there : IfSome v.content (IfFound f (λ x seq files. IsSoundImage files x seq → ⊥)) → IfSome u.content (λ files. (c : Contents) → IsSite files c → ⊥)
  no_site_there out = told_then u.content (Given v f) (λ files. (c : Contents) → IsSite files c → ⊥) was.told (λ files told x.
      as_told u.content files (λ files. (c : Contents) → IsSite files c → ⊥) told (λ c site.
      at_files u.content files (IfFound f (λ y seq files. IsSoundImage files y seq → ⊥)) told (told_at u.content v.content (IfFound f (λ y seq files. IsSoundImage files y seq → ⊥)) same out) (found_records f x.0) x.1 x.2.found
      (site_read f.read.log.records (last_of f.read.last_began.items) x.0 x.1 has.form x.2.found.sequence files c x.2.read.holds site).0))

-- nothing is there that what was found doesn't say
pub none_there : (u v : View) (f : FoundFiles) (P : Files → Type 0) → WasFound u v f → v.content ≡ u.content → IfSome v.content (IfFound f (λ _ _ _. ⊥)) → IfSome u.content P
none_there u v f P was same never = told_then u.content (Given v f) P was.told (λ files told x.
    absurd (at_files u.content files (IfFound f (λ _ _ _. ⊥)) told (told_at u.content v.content (IfFound f (λ _ _ _. ⊥)) same never) (found_records f x.0) x.1 x.2.found))

-- the first region that needs forward recovery
pub first_needing : (u v : View) (f : FoundFiles) → HasFound f → WasFound u v f → (region : ℕ) → ((journal : ℕ → List Placed) → AllSay f.read.log.records (entry_count f.entries) (found_signs f) journal → (generation : ℕ) × IsFirstWithout (found_records f journal) (entry_count f.entries) region generation)
    → IfSome u.content (λ files. HaveFirstWithout files region)
first_needing u v f has was region first =
    weaker_told u.content (Given v f) (λ files. HaveFirstWithout files region) was.told (λ files x.
    let count = found_count v f x.0 x.1 files has x.2 in
    let said = first x.0 (signs_say files f.read.log.records f.read.lowest (entry_count f.entries) (length x.1) (found_signs f) x.0 (λ m low least. omega (arith, least, count)) x.2.found.are_kept) in (
      found_records f x.0,
      x.1,
      x.2.found.held,
      x.2.found.sequence,
      has.low,
      said.0,
      subst (λ (n : ℕ). IsFirstWithout (found_records f x.0) n region said.0) count said.1,
    ))
