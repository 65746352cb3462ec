use Rattle.std.proofs.Common.{ℕ, List}
use Rattle.disk_defs.specs.Disk.{View, Reads}
use Rattle.disk_defs.proofs.Frames.{others_read}
use Rattle.jnl_file.proofs.Others as others
use Rattle.region_journals.specs.declared.journals.RegionJournal.{RegionJournal}
use Rattle.region_journals.specs.Journals.{AreReady}
use Rattle.file_tests.proofs.newest_journals.fail_and_crash.Goals as goal

-- journals stay open while the disk is only read
still_ready : (v w : View) (js : List RegionJournal) → Reads v w → AreReady v 1 js → AreReady w 1 js
still_ready v w js reads h =
    let none = λ (file : ℕ). ⊥ in
    record {
      few = h.few;
      each = λ r x is.
          let was = h.each r x is in
          record { ready = others.ready_stays v w none x.journal (others_read none v w reads) (λ never. never) was.ready; of = was.of; goes_on = was.goes_on };
    }

pub harden-requires : goal.harden-requires
harden-requires g c =
    let view = g.D.Disk.disk in
    record { ready = (1, still_ready (view c.append_first.new.disk) (view c.fuse.new.self) c.append_first.new.journals.journals.items c.fuse.ensures.reads c.in_ok-append_first.ensures) }
