use Rattle.std.proofs.Common.{◌≡◌, ◌≤◌, ◌<◌, ℕ, length, IfSome}
use Rattle.disk_defs.specs.Disk.{Image, From, AtEachMoment, IsDurable}
use Rattle.disk_defs.specs.Frames.{OthersStay}
use Rattle.journal_defs.specs.Numbers.{database_file}
use Rattle.journal_defs.specs.Journal.{Mark}
use Rattle.journal_defs.specs.Epochs.{Chosen, image_state, block_of}
use Rattle.journal_defs.specs.Sound.{Restores}
use Rattle.journal_defs.specs.Undo.{fresh}
use Rattle.region_store.specs.Region.{HoldsRegion, IsHeld, flushed}
use Rattle.region_store.specs.Joined.{region_at}
use Rattle.region_epochs.specs.Files.{IsDatabaseFile}
use Rattle.region_epochs.specs.Flushed.{AreCutShort}
use Rattle.region_epochs.specs.Taken.{HasSameNodes}
use Rattle.region_epochs.proofs.Lifts.{AreLifted}
use Rattle.region_epochs.proofs.Written.{EpochsTo}
use Rattle.region_epochs.proofs.flushing.flush_regions.Given as goal

abbrev pub invariant-loop-region : goal.invariant-loop-region
invariant-loop-region g l =
    let view = g.D.Disk.disk in
    let u = view l.fn.disk in
    let v = view l.disk in
    let old = l.fn.regions in
    let now = l.regions in
    record {
      few : l.region ≤ length old.regions;
      lifted : AreLifted (λ r x y. y ≡ flushed x) l.region old now;
      epochs : EpochsTo l.closing l.number l.region old l.made;
      restores : IfSome v.content (λ files. (r : ℕ) (m : Mark) → r < l.region → m.blocks ≡ length (region_at old r).pool.leaves → Restores (image_state (fresh m) (block_of (files (database_file r)))) (region_at old r).globals);
      durable : IfSome v.content (λ files. (r : ℕ) → r < l.region → IsDurable v (database_file r) (files (database_file r)));
      held : (r : ℕ) → r < length old.regions → IfSome v.content (IsHeld (region_at now r));
      holds : (r : ℕ) (e : Chosen) → r < length old.regions → IfSome u.content (λ files. HoldsRegion e (files (database_file r)) (region_at old r)) → IfSome v.content (λ files. HoldsRegion e (files (database_file r)) (region_at now r));
      same : HasSameNodes old now;
      moments : AtEachMoment u v (From (Image u) (AreCutShort old));
      frame : OthersStay (IsDatabaseFile (length old.regions)) u v;
      faults : u.faults ≤ v.faults;
    }
