-- Files by which no site is opened.
use Rattle.std.proofs.Common.{◌≡◌, inl, inr, ℕ, suc, ◌≤◌, ◌<◌, List, length, Option, Some, None, IfSome, sym, ap, subst, arith}
use Rattle.std.specs.List.{AllByRecursion}
use Rattle.std.proofs.lemmas.Bool.{cases_lt}
use Rattle.disk_defs.specs.Disk.{Files, View, Image, IsLawful, AtEachMoment}
use Rattle.disk_defs.proofs.Told.{weaker_told, both_weak, told_at}
use Rattle.journal_defs.specs.Numbers.{INSTANCE, journal_file}
use Rattle.journal_defs.specs.Instance.{InstanceRecord, generation, regions}
use Rattle.journal_defs.specs.Directory.{Pattern, patterns}
use Rattle.journal_defs.specs.Sequence.{Placed}
use Rattle.journal_defs.specs.Stands.{IsInstance, IsJournal}
use Rattle.site_files.specs.Loading.{MayBeOpened, AreRead, WasRead}
use Rattle.site_files.proofs.RegionsRead.{durable_kept}
use Rattle.site_defs.specs.Contents.{Contents}
use Rattle.site_defs.specs.Opening.{last_generation}
use Rattle.site_defs.specs.Stands.{IsSite}
use Rattle.site_store.proofs.Found.{all_in_form, region_count, made_some, site_instance, site_directory}
use Rattle.site_store.proofs.Starts.{starts_of, last_is, last_low}
use Rattle.site_files.proofs.WhatIsRead.{IsNoSite, IsNoLateSite}

-- a fact that doesn't hang on what the disk tells
pub told_anyway : (o : Option Files) (P : Type 0) → P → IfSome o (λ _. P)
told_anyway None P p = _
told_anyway (Some files) P p = p

-- a site of which a generation is left may be opened
module _ (files : Files) (c : Contents) (site : IsSite files c) where
  abbrev rs : List InstanceRecord
  rs = site.records.instance

  abbrev last : ℕ → ℕ
  last r = last_generation 0 (starts_of (site.records.journal r))

  is : IsInstance (files INSTANCE) rs
  is = site.image.held.instance

  some : 0 < length rs
  some = subst (λ (l : List InstanceRecord). 0 < length l) (sym site.instance) (made_some c site.made)

  last_here : (r : ℕ) (here : r < length (regions rs)) → last r ≡ (site.image.held.journals r here).0
  last_here r here = let held = site.image.held.journals r here in last_is files r (generation rs) held.0 (site.records.journal r) held.1

  earlier : (r : ℕ) → last r ≤ generation rs
  earlier r = elim (cases_lt r (length (regions rs))) [
    | inl here ↦
        let held = site.image.held.journals r here in
        let most = last_low files r (generation rs) held.0 (site.records.journal r) held.1 in
        let e = last_here r here in
        omega (arith, most, e)
    | inr far ↦
        let none : last r ≡ 0 = ap (λ (js : List Placed). last_generation 0 (starts_of js)) (site.image.held.no_more r far) in
        omega (arith, none)
  ]

  site_form : generation rs < 65534 → MayBeOpened rs last
  site_form room =
      let count = region_count (files INSTANCE) rs is some in
      record {
        order = record { ordered = record { create = is.create; cuts = is.cuts }; reigns = is.reigns };
        form = all_in_form is.bodies.0 rs is.bodies.2;
        some = some;
        some_region = count.0;
        few_regions = count.1;
        mapped = subst (λ (l : List InstanceRecord). AllByRecursion (λ (p : Pattern). p.region < length (regions l)) (patterns l)) (sym site.instance) site.mapped;
        room = omega (arith, room);
        earlier = earlier;
      }

  site_files : generation rs < 65534 → AreRead rs last site.records.journal files
  site_files room = record {
    instance = is;
    older = λ r here. subst (λ (k : ℕ). IsJournal files r (generation rs) k (site.records.journal r)) (sym (last_here r here)) (site.image.held.journals r here).1;
    no_more = site.image.held.no_more;
    next = λ r here. site.image.clean.journals (suc (generation rs)) r (omega arith, omega (arith, room)) here;
  }

pub no_site : (o : Option Files) → IfSome o IsNoSite → IfSome o IsNoLateSite → IfSome o (λ files. (c : Contents) → IsSite files c → ⊥)
no_site o none late = both_weak o IsNoSite IsNoLateSite (λ files. (c : Contents) → IsSite files c → ⊥) none late
    (λ files no no_directory c site. elim (cases_lt (generation site.records.instance) 65534) [
      | inl room ↦ no (rs files c site) (last files c site) site.records.journal (site_form files c site room) (site_files files c site room)
      | inr high ↦ site_directory files c site (no_directory c.instance (site_instance files c site) (subst (λ (l : List InstanceRecord). 65534 ≤ generation l) site.instance high))
    ])

pub limit_site : (o : Option Files) → IfSome o (λ files. (qs : List InstanceRecord) → IsInstance (files INSTANCE) qs → 65534 ≤ generation qs) → IfSome o (λ files. (c : Contents) → IsSite files c → 65534 ≤ generation c.instance)
limit_site o high = weaker_told o (λ files. (qs : List InstanceRecord) → IsInstance (files INSTANCE) qs → 65534 ≤ generation qs) (λ files. (c : Contents) → IsSite files c → 65534 ≤ generation c.instance) high
    (λ files all c site. all c.instance (site_instance files c site))

pub drawn_site : (o : Option Files) → IfSome o (λ files. (qs : List InstanceRecord) → IsInstance (files INSTANCE) qs → generation qs < 65534) → IfSome o (λ files. (c : Contents) → IsSite files c → generation c.instance < 65534)
drawn_site o low = weaker_told o (λ files. (qs : List InstanceRecord) → IsInstance (files INSTANCE) qs → generation qs < 65534) (λ files. (c : Contents) → IsSite files c → generation c.instance < 65534) low
    (λ files all c site. all c.instance (site_instance files c site))

pub untold : (o n : Option Files) (P : Files → Type 0) → n ≡ o → IfSome n (λ _. ⊥) → IfSome o P
untold o n P same none = weaker_told o (λ _. ⊥) P (told_at o n (λ _. ⊥) same none) (λ files no. absurd no)

-- what was read stays so while the disk is only synced
pub read_kept : (o : Option Files) (v w : View) (rs : List InstanceRecord) (last : ℕ → ℕ) (journal : ℕ → List Placed) → IsLawful w → AtEachMoment v w (Image v) → IfSome o (WasRead v rs last journal) → IfSome o (WasRead w rs last journal)
read_kept o v w rs last journal lawful run read = weaker_told o (WasRead v rs last journal) (WasRead w rs last journal) read
    (λ files r. record {
      holds = r.holds;
      instance = durable_kept v w INSTANCE (files INSTANCE) lawful run r.instance;
      journals = λ q here h least most. durable_kept v w (journal_file h q) (files (journal_file h q)) lawful run (r.journals q here h least most);
      next = λ q here. durable_kept v w (journal_file (suc (generation rs)) q) (files (journal_file (suc (generation rs)) q)) lawful run (r.next q here);
    })
