use Rattle.std.proofs.Common.{◌<◌, ℕ, Bool, refl, sym, subst}
use Rattle.disk_defs.specs.Frames.{OthersStay}
use Rattle.global_defs.specs.declared.limits.TheConstants.{NUMBERS_END}
use Rattle.region_store.proofs.Making.{changed_none}
use Rattle.site_defs.specs.Contents.{Contents}
use Rattle.site_store.specs.declared.memory.Memory.{Memory}
use Rattle.site_store.specs.Committing.{IsOwnJournal, IsSameMemory}
use Rattle.site_store.specs.Site.{IsReady, IsOpen}
use Rattle.site_store.proofs.Committed as committed
use Rattle.site_store.proofs.Committed.{Prepares}
use Rattle.site_store.proofs.Places.{same_count, same_whole, same_self}
use Rattle.site_store.proofs.memory.Memory.make_room.Given.{Over}
use Rattle.site_store.proofs.memory.Memory.make_room.Goals.{After-prepare, After-reserve}
use Rattle.site_store.proofs.memory.Memory.make_room.Goals as goal

frame : (g : Over) (c : After-prepare g) → OthersStay (IsOwnJournal c.args.self.now) (g.D.Disk.disk c.args.disk.now) (g.D.Disk.disk c.prepare.new.disk)
frame g c = committed.own_stays (g.D.Disk.disk c.args.disk.now) (g.D.Disk.disk c.prepare.new.disk) c.args.self.now c.requires.ready c.prepare.ensures.frame

-- with the journals' room alone
abbrev with_journals : (g : Over) → After-prepare g → Memory
with_journals g c = record c.args.self.now { journals = c.prepare.new.self }

ready : (g : Over) (c : After-prepare g) → IsReady (g.D.Disk.disk c.prepare.new.disk) (with_journals g c)
ready g c =
    let was = c.requires.ready in
    committed.ready_prepared (g.D.Disk.disk c.args.disk.now) (g.D.Disk.disk c.prepare.new.disk) c.args.self.now (with_journals g c) c.prepare.new.self was c.prepare.ensures.ready c.prepare.ensures.count c.prepare.ensures.frame refl refl refl (changed_none c.args.self.now.globals) was.few was.whole refl

same : (s : Memory) → IsSameMemory s s
same s = record { same = record { instance = refl; layout = refl; hardened = refl; stamp = refl }; entries = same_self s.entries; globals = refl; nodes = record { patterns = refl; count = refl; parts = refl; files = λ r. refl } }

still_open : (g : Over) (c : After-prepare g) (told : Bool) (y : Contents) (h : ℕ) → IsOpen (g.D.Disk.disk c.args.disk.now) told y h c.args.self.now → IsOpen (g.D.Disk.disk c.prepare.new.disk) told y h (with_journals g c)
still_open g c told y h o =
    let kept = same c.args.self.now in
    let prepares : Prepares (g.D.Disk.disk c.args.disk.now) (g.D.Disk.disk c.prepare.new.disk) c.args.self.now (with_journals g c) = record { ready = c.requires.ready; ready_after = ready g c; state = c.prepare.ensures.state; same = record { instance = refl; layout = refl; hardened = refl; stamp = refl }; entries = kept.entries; changed = changed_none c.args.self.now.globals; moments = c.prepare.ensures.any_moment; stays = frame g c } in
    committed.open_prepared (g.D.Disk.disk c.args.disk.now) (g.D.Disk.disk c.prepare.new.disk) told y h c.args.self.now (with_journals g c) prepares (record { same = record { instance = refl; layout = refl; hardened = refl; stamp = refl }; entries = kept.entries; globals = refl; nodes = kept.nodes }) (g.met.D.Disk.lawful c.prepare.new.disk) o

-- with all the room
roomy_ready : (g : Over) (c : After-reserve g) → IsReady (g.D.Disk.disk c.prepare.new.disk) c.reserve.new.self
roomy_ready g c =
    let kept = c.reserve.ensures.kept in
    committed.ready_prepared (g.D.Disk.disk c.args.disk.now) (g.D.Disk.disk c.prepare.new.disk) c.args.self.now c.reserve.new.self c.prepare.new.self c.requires.ready c.prepare.ensures.ready c.prepare.ensures.count c.prepare.ensures.frame c.reserve.ensures.journals c.reserve.ensures.same.instance c.reserve.ensures.same.layout c.reserve.ensures.changed
    (subst (λ (n : ℕ). n < NUMBERS_END) (sym (same_count c.args.self.now.entries c.reserve.new.self.entries kept.entries)) c.requires.ready.few) (same_whole c.args.self.now.entries c.reserve.new.self.entries kept.entries c.requires.ready.whole) kept.entries.regions

roomy_frame : (g : Over) (c : After-reserve g) → OthersStay (IsOwnJournal c.args.self.now) (g.D.Disk.disk c.args.disk.now) (g.D.Disk.disk c.prepare.new.disk)
roomy_frame g c = committed.own_stays (g.D.Disk.disk c.args.disk.now) (g.D.Disk.disk c.prepare.new.disk) c.args.self.now c.requires.ready c.prepare.ensures.frame

roomy_open : (g : Over) (c : After-reserve g) (told : Bool) (y : Contents) (h : ℕ) → IsOpen (g.D.Disk.disk c.args.disk.now) told y h c.args.self.now → IsOpen (g.D.Disk.disk c.prepare.new.disk) told y h c.reserve.new.self
roomy_open g c told y h o =
    let kept = c.reserve.ensures.kept in
    let same = c.reserve.ensures.same in
    let prepares : Prepares (g.D.Disk.disk c.args.disk.now) (g.D.Disk.disk c.prepare.new.disk) c.args.self.now c.reserve.new.self = record {
      ready = c.requires.ready;
      ready_after = roomy_ready g c;
      state = λ hard waiting keeps. committed.state_prepared (g.D.Disk.disk c.prepare.new.disk) hard waiting c.reserve.new.self c.prepare.new.self c.reserve.ensures.journals (c.prepare.ensures.state hard waiting keeps);
      same = record { instance = same.instance; layout = same.layout; hardened = same.hardened; stamp = same.stamp };
      entries = kept.entries;
      changed = c.reserve.ensures.changed;
      moments = c.prepare.ensures.any_moment;
      stays = roomy_frame g c;
    } in
    committed.open_prepared (g.D.Disk.disk c.args.disk.now) (g.D.Disk.disk c.prepare.new.disk) told y h c.args.self.now c.reserve.new.self prepares
    (record { same = record { instance = same.instance; layout = same.layout; hardened = same.hardened; stamp = same.stamp }; entries = kept.entries; globals = kept.globals; nodes = kept.nodes }) (g.met.D.Disk.lawful c.prepare.new.disk) o

pub returns-in_err-prepare-clause-ready : goal.returns-in_err-prepare-clause-ready
returns-in_err-prepare-clause-ready g c = ready g (goal.at.returns-in_err-prepare-clause-ready g c).After-prepare

pub returns-in_err-prepare-clause-frame : goal.returns-in_err-prepare-clause-frame
returns-in_err-prepare-clause-frame g c = frame g (goal.at.returns-in_err-prepare-clause-frame g c).After-prepare

pub returns-in_err-prepare-clause-stays_open : goal.returns-in_err-prepare-clause-stays_open
returns-in_err-prepare-clause-stays_open g c = still_open g (goal.at.returns-in_err-prepare-clause-stays_open g c).After-prepare

pub returns-in_err-reserve-clause-ready : goal.returns-in_err-reserve-clause-ready
returns-in_err-reserve-clause-ready g c = roomy_ready g (goal.at.returns-in_err-reserve-clause-ready g c).After-reserve

pub returns-in_err-reserve-clause-frame : goal.returns-in_err-reserve-clause-frame
returns-in_err-reserve-clause-frame g c = roomy_frame g (goal.at.returns-in_err-reserve-clause-frame g c).After-reserve

pub returns-in_err-reserve-clause-stays_open : goal.returns-in_err-reserve-clause-stays_open
returns-in_err-reserve-clause-stays_open g c = roomy_open g (goal.at.returns-in_err-reserve-clause-stays_open g c).After-reserve

pub returns-clause-ready : goal.returns-clause-ready
returns-clause-ready g c = roomy_ready g (goal.at.returns-clause-ready g c).After-reserve

pub returns-clause-frame : goal.returns-clause-frame
returns-clause-frame g c = roomy_frame g (goal.at.returns-clause-frame g c).After-reserve

pub returns-clause-stays_open : goal.returns-clause-stays_open
returns-clause-stays_open g c = roomy_open g (goal.at.returns-clause-stays_open g c).After-reserve

pub returns-clause-prepared : goal.returns-clause-prepared
returns-clause-prepared g c = committed.still_prepared c.in_ok-parts.parts c.reserve.new.self c.prepare.new.self c.reserve.ensures.journals c.in_ok-prepare.ensures.prepared
