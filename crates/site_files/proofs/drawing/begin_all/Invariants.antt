use Rattle.std.proofs.Common.{◌≡◌, ◌≤◌, ℕ, [], ◌∷◌, length, Some, IfSome}
use Rattle.std.specs.List.{slice_get}
use Rattle.disk_defs.specs.Disk.{Files, Image, From, AtEachMoment}
use Rattle.disk_defs.specs.Frames.{OthersStay}
use Rattle.jnl_file.specs.Journal as journals
use Rattle.jnl_file.specs.Records.{settled}
use Rattle.jnl_file.specs.declared.journal.Journal.{Journal}
use Rattle.site_files.specs.Loading.{HasBegun, AreJournalsOf, first_by}
use Rattle.site_files.proofs.drawing.begin_all.Given as goal

abbrev pub invariant-loop-region : goal.invariant-loop-region
invariant-loop-region g l =
    let view = g.D.Disk.disk in
    let u = view l.fn.disk in
    let w = view l.disk in
    let n = length l.fn.last_began in
    let first = first_by l.fn.anew l.fn.records l.fn.generation l.fn.last_began in
    record {
      number : length l.journals.items ≡ l.region;
      ready : (r : ℕ) (j : Journal) → slice_get l.journals.items r ≡ Some j → journals.IsReady w j × journals.IsJournalOf j r l.fn.generation;
      state : IfSome u.content (λ _. (r : ℕ) (j : Journal) → slice_get l.journals.items r ≡ Some j → journals.HasRecords w j (settled (first r ∷ [])));
      begun : IfSome u.content (λ _. (f : Files) → Image w f → From (Image u) (HasBegun l.fn.generation n first l.region) f);
      moments : IfSome u.content (λ _. AtEachMoment u w (From (Image u) (λ was now. (k : ℕ) × HasBegun l.fn.generation n first k was now)));
      frame : OthersStay (AreJournalsOf l.fn.generation n) u w;
      faults : u.faults ≤ w.faults;
    }
