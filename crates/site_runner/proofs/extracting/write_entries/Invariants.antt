use Rattle.std.proofs.Common.{◌≡◌, ◌⊎◌, ◌≤◌, ◌++◌, ◌+◌, ◌-◌, ℕ, true, take, drop}
use Rattle.disk_defs.specs.Disk.{Reads}
use Rattle.global_defs.specs.Extract.{entries_text}
use Rattle.site_defs.specs.Contents.{Contents}
use Rattle.site_store.specs.Site.{count_of}
use Rattle.site_store.specs.Owning.{disk_of, memory_of, IsGoing, IsOpenSite}
use Rattle.site_runner.proofs.Shown.{SomeLines}
use Rattle.site_runner.proofs.extracting.write_entries.Given as goal

abbrev pub invariant-loop-place : goal.invariant-loop-place
invariant-loop-place g l =
    let view = g.D.Disk.disk in
    let old = l.fn.site in
    let v = view (disk_of old) in
    record {
      going : IsGoing view l.site;
      memory : memory_of l.site ≡ memory_of old;
      stays : (c : Contents) (h : ℕ) → IsOpenSite view true c h old → IsOpenSite view true c h l.site;
      reads : Reads v (view (disk_of l.site));
      faults : v.faults ≤ (view (disk_of l.site)).faults;
      reached : (l.place ≡ l.before) ⊎ (l.place ≤ count_of (memory_of old));
      entries : (c : Contents) (h : ℕ) → IsOpenSite view true c h old → l.text ≡ l.fn.text ++ entries_text (l.before + 1) (take (l.place - l.before) (drop l.before c.sequence));
      some : SomeLines l.before (l.place - l.before) l.fn.text l.text;
    }
