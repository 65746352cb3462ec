use Rattle.std.proofs.Common.{◌≡◌, ◌+◌, ℕ, true, length, refl, subst, arith}
use Rattle.disk_defs.specs.Disk.{AtEachMoment}
use Rattle.disk_defs.specs.Frames.{OthersStay}
use Rattle.gvn_model.specs.Entries.{transaction_value}
use Rattle.instance_file.specs.declared.instance.Instance.{Instance}
use Rattle.journal_defs.specs.Instance.{generation, regions}
use Rattle.region_journals.specs.Fronts.{IsNewestFile}
use Rattle.region_journals.specs.declared.journals.RegionJournals.{RegionJournals}
use Rattle.region_store.proofs.Making.{changed_none}
use Rattle.site_defs.specs.Contents.{Contents}
use Rattle.site_defs.specs.Stands.{IsSite}
use Rattle.site_store.specs.Committing.{AddsPlaces, Enters, IsOwnJournal}
use Rattle.site_store.specs.Site.{IsReady, IsOpen, count_of}
use Rattle.site_store.proofs.Adopted.{front}
use Rattle.site_store.proofs.Committed as committed
use Rattle.site_store.proofs.Committed.{Prepares, with_places}
use Rattle.site_store.proofs.Places.{counts_places, whole_places}
use Rattle.site_store.proofs.Standing.{still}
use Rattle.site_store.proofs.memory.Memory.put_in.Given.{Over}
use Rattle.site_store.proofs.memory.Memory.put_in.Goals.{After-append}
use Rattle.site_store.proofs.memory.Memory.put_in.Goals as goal

-- the entry is in memory, and the disk is as it was
grown : (g : Over) (c : After-append g) → count_of c.remember.new.self ≡ count_of c.args.self.now + 1
grown g c = counts_places c.args.parts.now c.remember.new.self.journals.journals.items c.args.self.now.entries c.remember.new.self.entries c.requires.ready.some_place c.requires.ready.whole c.remember.ensures.entries

ready : (g : Over) (c : After-append g) → IsReady (g.D.Disk.disk c.args.disk.now) c.remember.new.self
ready g c =
    let adds = c.remember.ensures.entries in
    let more = grown g c in
    let room = c.requires.few in
    committed.ready_entered (g.D.Disk.disk c.args.disk.now) c.args.self.now c.remember.new.self c.requires.ready c.remember.ensures.journals c.remember.ensures.same c.remember.ensures.changed (omega (arith, more, room))
    (whole_places c.args.parts.now c.remember.new.self.journals.journals.items c.args.self.now.entries c.remember.new.self.entries c.requires.ready.some_place c.requires.ready.whole adds) adds.regions

prepares : (g : Over) (c : After-append g) → Prepares (g.D.Disk.disk c.args.disk.now) (g.D.Disk.disk c.args.disk.now) c.args.self.now (with_places c.args.self.now c.remember.new.self)
prepares g c = committed.entering (g.D.Disk.disk c.args.disk.now) c.args.self.now c.remember.new.self c.requires.ready c.remember.ensures.journals c.remember.ensures.same c.remember.ensures.changed (ready g c)

enters : (g : Over) (c : After-append g) → Enters c.args.self.now (record c.remember.new.self { journals = c.append.new.self }) c.args.t.now c.args.parts.now
enters g c = record {
  places = subst (λ (k : RegionJournals). AddsPlaces c.args.parts.now k.journals.items c.args.self.now.entries c.remember.new.self.entries) c.remember.ensures.journals c.remember.ensures.entries;
  globals = c.remember.ensures.globals;
  changed = c.remember.ensures.changed;
}

-- at each moment of the append
moments : (g : Over) (c : After-append g) (y : Contents) (h : ℕ) → IsOpen (g.D.Disk.disk c.args.disk.now) true y h c.args.self.now → AtEachMoment (g.D.Disk.disk c.args.disk.now) (g.D.Disk.disk c.append.new.disk) (λ f. IsSite f (front y h))
moments g c y h o = committed.commit_moments (g.D.Disk.disk c.args.disk.now) (g.D.Disk.disk c.args.disk.now) (g.D.Disk.disk c.append.new.disk) y h c.args.self.now (with_places c.args.self.now c.remember.new.self) (g.met.D.Disk.lawful c.args.disk.now) (prepares g c) c.append.ensures.any_moment o

frame : (g : Over) (c : After-append g) → OthersStay (IsOwnJournal c.args.self.now) (g.D.Disk.disk c.args.disk.now) (g.D.Disk.disk c.append.new.disk)
frame g c =
    subst (λ (i : Instance). OthersStay (IsNewestFile (generation i.records) (length (regions i.records))) (g.D.Disk.disk c.args.disk.now) (g.D.Disk.disk c.append.new.disk)) c.remember.ensures.same.instance
    (committed.own_stays (g.D.Disk.disk c.args.disk.now) (g.D.Disk.disk c.append.new.disk) c.remember.new.self (ready g c) c.append.ensures.frame)

pub append-requires-clause-prepared : goal.append-requires-clause-prepared
append-requires-clause-prepared g c = committed.still_prepared c.args.parts.now c.remember.new.self c.args.self.now.journals c.remember.ensures.journals c.requires.prepared

pub returns-in-Ok-clause-any_moment : goal.returns-in-Ok-clause-any_moment
returns-in-Ok-clause-any_moment g c =
    let after = (goal.at.returns-in-Ok-clause-any_moment g c).After-append in
    moments g after

pub returns-in-Ok-clause-stands : goal.returns-in-Ok-clause-stands
returns-in-Ok-clause-stands g c y h o =
    let after = (goal.at.returns-in-Ok-clause-stands g c).After-append in
    committed.commit_stands (g.D.Disk.disk c.args.disk.now) (g.D.Disk.disk c.append.new.disk) y h (g.met.D.Disk.lawful c.append.new.disk) (moments g after y h o)

pub returns-in-Ok-clause-bare : goal.returns-in-Ok-clause-bare
returns-in-Ok-clause-bare g c y h o =
    let after = (goal.at.returns-in-Ok-clause-bare g c).After-append in
    committed.commit_bare (g.D.Disk.disk c.args.disk.now) (g.D.Disk.disk c.args.disk.now) (g.D.Disk.disk c.append.new.disk) y h c.args.self.now (with_places c.args.self.now c.remember.new.self) (g.met.D.Disk.lawful c.args.disk.now) (prepares g after) c.append.ensures.any_moment o

pub returns-in-Ok-clause-still_told : goal.returns-in-Ok-clause-still_told
returns-in-Ok-clause-still_told g c =
    let after = (goal.at.returns-in-Ok-clause-still_told g c).After-append in
    still (g.D.Disk.disk c.args.disk.now) (g.D.Disk.disk c.append.new.disk) (IsOwnJournal c.args.self.now) (frame g after)

pub returns-in-Ok-clause-simulated : goal.returns-in-Ok-clause-simulated
returns-in-Ok-clause-simulated g c =
    let after = (goal.at.returns-in-Ok-clause-simulated g c).After-append in
    (frame g after).simulated

pub returns-in-Ok-clause-grown : goal.returns-in-Ok-clause-grown
returns-in-Ok-clause-grown g c =
    let after = (goal.at.returns-in-Ok-clause-grown g c).After-append in
    grown g after

pub returns-in-Ok-clause-enters : goal.returns-in-Ok-clause-enters
returns-in-Ok-clause-enters g c =
    let after = (goal.at.returns-in-Ok-clause-enters g c).After-append in
    enters g after

pub returns-in-Ok-clause-frame : goal.returns-in-Ok-clause-frame
returns-in-Ok-clause-frame g c =
    let after = (goal.at.returns-in-Ok-clause-frame g c).After-append in
    frame g after

pub returns-in-Err-clause-any_moment : goal.returns-in-Err-clause-any_moment
returns-in-Err-clause-any_moment g c =
    let after = (goal.at.returns-in-Err-clause-any_moment g c).After-append in
    moments g after

pub returns-in-Err-clause-stands : goal.returns-in-Err-clause-stands
returns-in-Err-clause-stands g c y h o =
    let after = (goal.at.returns-in-Err-clause-stands g c).After-append in
    committed.commit_stands (g.D.Disk.disk c.args.disk.now) (g.D.Disk.disk c.append.new.disk) y h (g.met.D.Disk.lawful c.append.new.disk) (moments g after y h o)

pub returns-in-Err-clause-bare : goal.returns-in-Err-clause-bare
returns-in-Err-clause-bare g c y h o =
    let after = (goal.at.returns-in-Err-clause-bare g c).After-append in
    committed.commit_bare (g.D.Disk.disk c.args.disk.now) (g.D.Disk.disk c.args.disk.now) (g.D.Disk.disk c.append.new.disk) y h c.args.self.now (with_places c.args.self.now c.remember.new.self) (g.met.D.Disk.lawful c.args.disk.now) (prepares g after) c.append.ensures.any_moment o

pub returns-in-Err-clause-still_told : goal.returns-in-Err-clause-still_told
returns-in-Err-clause-still_told g c =
    let after = (goal.at.returns-in-Err-clause-still_told g c).After-append in
    still (g.D.Disk.disk c.args.disk.now) (g.D.Disk.disk c.append.new.disk) (IsOwnJournal c.args.self.now) (frame g after)

pub returns-in-Err-clause-simulated : goal.returns-in-Err-clause-simulated
returns-in-Err-clause-simulated g c =
    let after = (goal.at.returns-in-Err-clause-simulated g c).After-append in
    (frame g after).simulated

pub returns-in-Err-clause-grown : goal.returns-in-Err-clause-grown
returns-in-Err-clause-grown g c =
    let after = (goal.at.returns-in-Err-clause-grown g c).After-append in
    grown g after

pub returns-in-Err-clause-enters : goal.returns-in-Err-clause-enters
returns-in-Err-clause-enters g c =
    let after = (goal.at.returns-in-Err-clause-enters g c).After-append in
    enters g after

pub returns-in-Err-clause-frame : goal.returns-in-Err-clause-frame
returns-in-Err-clause-frame g c =
    let after = (goal.at.returns-in-Err-clause-frame g c).After-append in
    frame g after

pub returns-in-Ok-clause-appended : goal.returns-in-Ok-clause-appended
returns-in-Ok-clause-appended g c hard waiting keeps =
    let now = ready g (goal.at.returns-in-Ok-clause-appended g c).After-append in
    committed.parts_appended (g.D.Disk.disk c.append.new.disk) c.args.self.now (transaction_value c.args.t.now) c.args.parts.now c.remember.new.self.journals.journals.items c.append.new.self.journals.items hard waiting c.append.ensures.count now.journals.few c.requires.parts
    (c.in-Ok.ensures.state hard waiting (committed.state_entered (g.D.Disk.disk c.args.disk.now) c.args.self.now c.remember.new.self c.requires.ready c.remember.ensures.journals c.remember.ensures.same c.remember.ensures.changed hard waiting keeps))

pub returns-in-Ok-clause-ready : goal.returns-in-Ok-clause-ready
returns-in-Ok-clause-ready g c =
    let now = ready g (goal.at.returns-in-Ok-clause-ready g c).After-append in
    committed.ready_after (g.D.Disk.disk c.args.disk.now) (g.D.Disk.disk c.append.new.disk) c.remember.new.self _ now c.in-Ok.ensures.ready c.append.ensures.count c.append.ensures.frame refl refl (changed_none _) now.few now.whole refl

pub returns-in-Ok-clause-done : goal.returns-in-Ok-clause-done
returns-in-Ok-clause-done g c told y h stamp under o =
    committed.open_longer (g.D.Disk.disk c.args.disk.now) (g.D.Disk.disk c.args.disk.now) (g.D.Disk.disk c.append.new.disk) told y h c.args.self.now (with_places c.args.self.now c.remember.new.self) _ c.args.t.now c.args.parts.now
    (record {
      prepares = prepares g (goal.at.returns-in-Ok-clause-done g c).After-append;
      stamp = stamp;
      under = committed.stamp_in y h c.args.self.now stamp o.remembered under;
      adds = c.remember.ensures.entries;
      made = c.remember.ensures.globals;
      are_parts = c.requires.parts;
      room = c.requires.fits;
      journals = c.in-Ok.ensures.ready;
      state = c.in-Ok.ensures.state;
      count = c.append.ensures.count;
      moments = c.append.ensures.any_moment;
      stays = c.append.ensures.frame;
      instance = refl;
      layout = refl;
      globals = refl;
      hardened = refl;
    }) (g.met.D.Disk.lawful c.args.disk.now) (g.met.D.Disk.lawful c.append.new.disk) o
