-- The history of a site whose files were read.
use Rattle.std.proofs.Common.{◌≡◌, ℕ, ◌≤◌, ◌<◌, length, Option, IfSome, sym, ◌∙◌, ap, subst}
use Rattle.std.specs.Prelude.{filter, nat_le, List}
use Rattle.std.specs.List.{AllByRecursion}
use Rattle.global_defs.specs.declared.limits.TheConstants.{MOST_REGIONS}
use Rattle.disk_defs.specs.Disk.{Files}
use Rattle.disk_defs.proofs.Told.{weaker_told}
use Rattle.global_defs.specs.Entry.{Reign, Sequence}
use Rattle.gvn_model.specs.declared.history.History.{History}
use Rattle.journal_defs.specs.Numbers.{INSTANCE}
use Rattle.journal_defs.specs.Instance.{InstanceRecord, regions}
use Rattle.journal_defs.specs.Directory.{Pattern, patterns}
use Rattle.journal_defs.specs.Surviving.{reigns}
use Rattle.journal_defs.specs.Sequence.{Records, IsSequence}
use Rattle.journal_defs.specs.Stands.{AreRecords}
use Rattle.journal_laws.proofs.Readings.{records_one}
use Rattle.journal_laws.proofs.Runs as runs
use Rattle.site_files.specs.Reading.{HoldNoSite}
use Rattle.site_defs.specs.Contents.{Contents}
use Rattle.site_defs.specs.Stands.{IsSite}
use Rattle.site_making.specs.Finding.{IsHistory, IsHistoryOf}
use Rattle.site_store.proofs.Found.{region_count, site_instance, made_some}

-- files that hold no site's records are no site's
pub no_records : (o : Option Files) → IfSome o HoldNoSite → IfSome o (λ files. (c : Contents) → IsSite files c → ⊥)
no_records o none = weaker_told o HoldNoSite (λ files. (c : Contents) → IsSite files c → ⊥) none (λ files no c site.
    let own = sym site.instance in
    let count = region_count (files INSTANCE) c.instance (site_instance files c site) (made_some c site.made) in
    no site.records site.image.held
    (subst (λ (l : List InstanceRecord). 1 ≤ length (regions l)) own count.0)
    (subst (λ (l : List InstanceRecord). length (regions l) ≤ MOST_REGIONS) own count.1)
    (subst (λ (l : List InstanceRecord). AllByRecursion (λ (p : Pattern). p.region < length (regions l)) (patterns l)) own site.mapped))

-- the reigns that begin by a length
abbrev by_length : List Reign → ℕ → List Reign
by_length rs n = filter (λ (r : Reign). nat_le r.start n) rs

-- the files hold records that stand for so many entries
abbrev pub HoldEntries : List InstanceRecord → ℕ → Files → Type 0
HoldEntries rs n files = (s : Records) × (s.instance ≡ rs) × AreRecords files s × (seq : Sequence) × IsSequence s seq × (n ≡ length seq)

-- what was read is the history of the records that the files hold
module _ (o : Option Files) (rs : List InstanceRecord) (n : ℕ) (h : History) (held : IfSome o (HoldEntries rs n)) (long : h.length ≡ n) (made : h.reigns ≡ filter (λ r. nat_le r.start n) (reigns rs)) where
  pub history_told : IfSome o (λ files. (t : Records) (other : Sequence) → AreRecords files t → IsSequence t other → IsHistory t other h)
  history_told = weaker_told o (HoldEntries rs n) (λ files. (t : Records) (other : Sequence) → AreRecords files t → IsSequence t other → IsHistory t other h) held (λ files x t other holds is.
      let same = records_one files t x.0 holds x.2 in
      let seqs : other ≡ x.3 = runs.one x.0 other x.3 (subst (λ (u : Records). IsSequence u other) same is) x.4 in
      let records : t.instance ≡ rs = ap (λ (u : Records). u.instance) same ∙ x.1 in
      let many : n ≡ length other = x.5 ∙ ap length (sym seqs) in
      record {
        count = long ∙ many;
        made_in = made ∙ ap (by_length (reigns rs)) many ∙ ap (λ (l : List InstanceRecord). by_length (reigns l) (length other)) (sym records);
      })

  -- and so of the site that stands there
  pub history_read : IfSome o (λ files. (c : Contents) → IsSite files c → IsHistoryOf c h)
  history_read = weaker_told o (λ files. (t : Records) (other : Sequence) → AreRecords files t → IsSequence t other → IsHistory t other h) (λ files. (c : Contents) → IsSite files c → IsHistoryOf c h) history_told (λ files told c site.
      let own = told site.records c.sequence site.image.held site.image.sequence in
      record { count = own.count; made_in = own.made_in ∙ ap (λ (l : List InstanceRecord). by_length (reigns l) (length c.sequence)) site.instance })
