-- Reading a site, beside what its files hold.
use Rattle.std.proofs.Common.{◌≡◌, ℕ, suc, ◌≤◌, ◌<◌, List, [], ◌∷◌, length, Option, Some, None, IfSome, sym, ◌∙◌, ap, subst, arith}
use Rattle.std.specs.List.{AllByRecursion}
use Rattle.disk_defs.specs.Disk.{Files, View, Image, IsLawful, IsDurable, AtEachMoment}
use Rattle.disk_defs.specs.Gates.{records}
use Rattle.disk_defs.proofs.Told.{weaker_told, both_weak}
use Rattle.global_defs.specs.Entry.{Sequence}
use Rattle.global_dir.specs.Directory.{Mapping}
use Rattle.instance_file.specs.Order.{AreInOrder}
use Rattle.journal_defs.specs.Numbers.{INSTANCE, journal_file}
use Rattle.journal_defs.specs.Instance.{InstanceRecord, IsInstanceBody, IsInForm, generation, regions}
use Rattle.journal_defs.specs.Directory.{Pattern, patterns}
use Rattle.journal_defs.specs.Surviving.{reigns}
use Rattle.journal_defs.specs.Sequence.{Placed}
use Rattle.journal_defs.specs.Stands.{IsInstance, IsJournal}
use Rattle.journal_laws.proofs.Readings.{holds_one, instance_body}
use Rattle.jnl_file.specs.Generations.{AreDurable}
use Rattle.entry_index.specs.declared.placed.PlacedSign.{PlacedSign}
use Rattle.entry_index.specs.declared.index.EntryIndex.{EntryIndex}
use Rattle.entry_index.specs.Among.{IsIndexOf}
use Rattle.entry_index.specs.Found.{AreFound, HaveFound}
use Rattle.site_files.specs.Loading.{MayBeOpened, AreRead, WasRead, IsDirectory, last_of}
use Rattle.site_files.specs.Reading.{AreAllDurable, AreUnbegunDurable}
use Rattle.site_defs.specs.Outside.{HaveJournals, AreUnbegun}
use Rattle.site_files.proofs.RegionsRead.{durable_kept}
use Rattle.site_files.proofs.Counts.{are_found}

-- a file has one list of records
pub instance_one : (file : List ℕ) (rs qs : List InstanceRecord) → IsInstance file rs → IsInstance file qs → rs ≡ qs
instance_one file rs qs a b = holds_one IsInstanceBody file rs qs instance_body a.bodies b.bodies

-- the files are none by which a site may be opened
abbrev pub IsNoSite : Files → Type 0
IsNoSite files = (qs : List InstanceRecord) (last : ℕ → ℕ) (journal : ℕ → List Placed) → MayBeOpened qs last → AreRead qs last journal files → ⊥

pub no_instance : (o : Option Files) → IfSome o (λ files. (rs : List InstanceRecord) → IsInstance (files INSTANCE) rs → ⊥) → IfSome o IsNoSite
no_instance o none = weaker_told o (λ files. (rs : List InstanceRecord) → IsInstance (files INSTANCE) rs → ⊥) IsNoSite none (λ files no qs last journal may read. no qs read.instance)

-- or no generation is left, and their records give no directory
abbrev pub IsNoLateSite : Files → Type 0
IsNoLateSite files = (qs : List InstanceRecord) → IsInstance (files INSTANCE) qs → 65534 ≤ generation qs → IsDirectory qs None

pub no_late_instance : (o : Option Files) → IfSome o (λ files. (rs : List InstanceRecord) → IsInstance (files INSTANCE) rs → ⊥) → IfSome o IsNoLateSite
no_late_instance o none = weaker_told o (λ files. (rs : List InstanceRecord) → IsInstance (files INSTANCE) rs → ⊥) IsNoLateSite none (λ files no qs own late. absurd (no qs own))

module _ (o : Option Files) (rs : List InstanceRecord) (reads : IfSome o (λ files. IsInstance (files INSTANCE) rs)) where
  pub limit_read : 65534 ≤ generation rs → IfSome o (λ files. (qs : List InstanceRecord) → IsInstance (files INSTANCE) qs → 65534 ≤ generation qs)
  limit_read high = weaker_told o (λ files. IsInstance (files INSTANCE) rs) (λ files. (qs : List InstanceRecord) → IsInstance (files INSTANCE) qs → 65534 ≤ generation qs) reads
      (λ files is qs own. subst (λ (k : List InstanceRecord). 65534 ≤ generation k) (instance_one (files INSTANCE) rs qs is own) high)

  pub limit_told : 65534 ≤ generation rs → IfSome o (λ files. (qs : List InstanceRecord) × IsInstance (files INSTANCE) qs × (65534 ≤ generation qs))
  limit_told high = weaker_told o (λ files. IsInstance (files INSTANCE) rs) (λ files. (qs : List InstanceRecord) × IsInstance (files INSTANCE) qs × (65534 ≤ generation qs)) reads
      (λ files is. (rs, is, high))

  pub no_directory : IsDirectory rs None → IfSome o IsNoSite
  no_directory none = weaker_told o (λ files. IsInstance (files INSTANCE) rs) IsNoSite reads
      (λ files is qs last journal may read.
      subst (λ (k : List InstanceRecord). IsDirectory k None) (instance_one (files INSTANCE) rs qs is read.instance) none (may.some_region, may.few_regions, may.mapped))

  pub no_late_directory : IsDirectory rs None → IfSome o IsNoLateSite
  no_late_directory none = weaker_told o (λ files. IsInstance (files INSTANCE) rs) IsNoLateSite reads
      (λ files is qs own late. subst (λ (k : List InstanceRecord). IsDirectory k None) (instance_one (files INSTANCE) rs qs is own) none)

  pub not_late : (g : ℕ) → g ≡ generation rs → g < 65534 → IfSome o IsNoLateSite
  not_late g newest low = weaker_told o (λ files. IsInstance (files INSTANCE) rs) IsNoLateSite reads
      (λ files is qs own late.
      let same : generation qs ≡ generation rs = ap generation (instance_one (files INSTANCE) qs rs own is) in
      absurd (omega (arith, same, newest, low, late)))

  pub no_journals : (n g : ℕ) → n ≡ length (regions rs) → g ≡ generation rs → IfSome o (λ files. (began : ℕ → ℕ) (journal : ℕ → List Placed) → HaveJournals n g began journal files → ⊥) → IfSome o IsNoSite
  no_journals n g many newest none =
      both_weak o (λ files. IsInstance (files INSTANCE) rs) (λ files. (began : ℕ → ℕ) (journal : ℕ → List Placed) → HaveJournals n g began journal files → ⊥) IsNoSite reads none
      (λ files is no qs last journal may read.
      let one = instance_one (files INSTANCE) qs rs read.instance is in
      let count : length (regions qs) ≡ n = ap (λ (k : List InstanceRecord). length (regions k)) one ∙ sym many in
      let same : generation qs ≡ g = ap generation one ∙ sym newest in
      no last journal (λ r here. subst (λ (k : ℕ). IsJournal files r k (last r) (journal r)) same (read.older r (omega (arith, here, count)))))

  pub no_next : (n g : ℕ) → n ≡ length (regions rs) → g ≡ suc (generation rs) → IfSome o (λ files. AreUnbegun n g files → ⊥) → IfSome o IsNoSite
  no_next n g many newest none =
      both_weak o (λ files. IsInstance (files INSTANCE) rs) (λ files. AreUnbegun n g files → ⊥) IsNoSite reads none
      (λ files is no qs last journal may read.
      let one = instance_one (files INSTANCE) qs rs read.instance is in
      let count : length (regions qs) ≡ n = ap (λ (k : List InstanceRecord). length (regions k)) one ∙ sym many in
      let same : suc (generation qs) ≡ g = ap (λ (k : List InstanceRecord). suc (generation k)) one ∙ sym newest in
      no (λ r here. subst (λ (k : ℕ). records (files (journal_file k r)) ≡ Some []) same (read.next r (omega (arith, here, count)))))

some_records : (rs : List InstanceRecord) → 1 ≤ length (regions rs) → 0 < length rs
some_records [] some = absurd (omega (arith, some))
some_records (x ∷ rs) some = omega arith

pub may_be_opened : (rs : List InstanceRecord) (d : Mapping) (last : ℕ → ℕ) (g : ℕ) → AreInOrder rs → AllByRecursion IsInForm rs → IsDirectory rs (Some d) → AllByRecursion (λ (p : Pattern). p.region < d.regions) (patterns rs)
    → g ≡ generation rs → g < 65534 → ((r : ℕ) → last r ≤ g) → MayBeOpened rs last
may_be_opened rs d last g order form directory fits newest low began = record {
  order = order;
  form = form;
  some = some_records rs directory.0;
  some_region = directory.0;
  few_regions = directory.1;
  mapped = subst (λ (n : ℕ). AllByRecursion (λ (p : Pattern). p.region < n) (patterns rs)) (ap (λ (k : Mapping). k.regions) directory.2) fits;
  room = omega (arith, newest, low);
  earlier = λ r. let le = began r in omega (arith, newest, le);
}

-- what the steps of reading found, together
pub was_read : (o : Option Files) (v w x : View) (rs : List InstanceRecord) (lowest : ℕ) (began : List ℕ) (signs : List (List PlacedSign)) (index : EntryIndex) (n g next : ℕ) → n ≡ length (regions rs) → g ≡ generation rs → next ≡ suc (generation rs)
    → IsLawful w → IsLawful x → AtEachMoment v w (Image v) → AtEachMoment w x (Image w) → IfSome o (λ files. IsInstance (files INSTANCE) rs) → IfSome o (λ files. IsDurable v INSTANCE (files INSTANCE))
    → IfSome o (λ files. (journal : ℕ → List Placed) × HaveFound files rs lowest n g signs began index journal) → IfSome o (AreAllDurable w n g) → IfSome o (AreUnbegun n next) → IfSome o (AreUnbegunDurable x n next)
    → IfSome o (λ files. (journal : ℕ → List Placed) × (seq : Sequence) × WasRead x rs (last_of began) journal files × AreFound files rs lowest signs index (record { instance = rs; journal = journal }) seq × IsIndexOf journal (reigns rs) index seq)
was_read None v w x rs lowest began signs index n g next many newest drawn lawful_w lawful_x first second is durable have kept unbegun kept_next = tt
was_read (Some files) v w x rs lowest began signs index n g next many newest drawn lawful_w lawful_x first second is durable have kept unbegun kept_next = (
  have.0,
  have.1.seq,
  record {
    holds = record {
      instance = is;
      older = λ r here. subst (λ (k : ℕ). IsJournal files r k (last_of began r) (have.0 r)) newest (have.1.journals r (omega (arith, here, many)));
      no_more = λ r high. have.1.no_more r (omega (arith, high, many));
      next = λ r here. subst (λ (k : ℕ). records (files (journal_file k r)) ≡ Some []) drawn (unbegun r (omega (arith, here, many)));
    };
    instance = durable_kept w x INSTANCE (files INSTANCE) lawful_x second (durable_kept v w INSTANCE (files INSTANCE) lawful_w first durable);
    journals = λ r here. subst (λ (k : ℕ). AreDurable x r k files) newest
        (λ h least most. durable_kept w x (journal_file h r) (files (journal_file h r)) lawful_x second (kept r (omega (arith, here, many)) h least most));
    next = λ r here. subst (λ (k : ℕ). IsDurable x (journal_file k r) (files (journal_file k r))) drawn (kept_next r (omega (arith, here, many)));
  },
  are_found files rs lowest n g signs began index have.0 many newest is have.1,
  have.1.among,
)
