-- What was read of a site, as records, and in each image.
use Rattle.std.proofs.Common.{◌≡◌, ℕ, zero, suc, ◌≤◌, List, sym, ◌∙◌, ap, subst, arith}
use Rattle.disk_defs.specs.Disk.{Files, View, Image}
use Rattle.disk_defs.specs.Gates.{records}
use Rattle.journal_defs.specs.Numbers.{journal_file}
use Rattle.journal_defs.specs.Instance.{InstanceRecord, generation}
use Rattle.journal_defs.specs.Journal.{IsJournalBody}
use Rattle.journal_defs.specs.Sequence.{Placed}
use Rattle.journal_defs.specs.Stands.{IsInstance, IsJournal, Holds, AreRecords}
use Rattle.site_files.specs.Loading.{AreRead, WasRead}

pub journal_kept : (old new : Files) (q g last : ℕ) (js : List Placed) → ((h : ℕ) → 1 ≤ h → h ≤ g → new (journal_file h q) ≡ old (journal_file h q)) → IsJournal old q g last js → IsJournal new q g last js
journal_kept old new q zero last js same h = h
journal_kept old new q (suc g) last js same h = (
  h.0,
  h.1,
  h.2,
  journal_kept old new q g h.0 h.1 (λ k low high. same k low (omega (arith, high))) h.3,
  subst (λ (file : List ℕ). Holds IsJournalBody file h.2) (sym (same (suc g) (omega arith) (omega arith))) h.4,
  h.5,
  h.6,
  h.7,
)

pub image_read : (v : View) (rs : List InstanceRecord) (last : ℕ → ℕ) (journal : ℕ → List Placed) (files : Files) → WasRead v rs last journal files → (c : Files) → Image v c → AreRead rs last journal c
image_read v rs last journal files r c image = record {
  instance = subst (λ (b : List ℕ). IsInstance b rs) (sym (r.instance c image)) r.holds.instance;
  older = λ q here. journal_kept files c q (generation rs) (last q) (journal q) (λ h low high. r.journals q here h low high c image) (r.holds.older q here);
  no_more = r.holds.no_more;
  next = λ q here. ap records (r.next q here c image) ∙ r.holds.next q here;
}

pub held_read : (rs : List InstanceRecord) (last : ℕ → ℕ) (journal : ℕ → List Placed) (files : Files) → AreRead rs last journal files → AreRecords files (record { instance = rs; journal = journal })
held_read rs last journal files r = record {
  instance = r.instance;
  journals = λ q here. (last q, r.older q here);
  no_more = r.no_more;
}
