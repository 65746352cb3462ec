use Rattle.std.proofs.Common.{◌≡◌, ℕ, true, sym, ◌∙◌, subst, arith}
use Rattle.disk_defs.specs.Disk.{AtEachMoment}
use Rattle.disk_defs.proofs.Moments.{then_more}
use Rattle.gvn_model.specs.Entries.{transaction_value}
use Rattle.gvn_model.specs.Reigns.{stamp_value}
use Rattle.site_defs.specs.Contents.{Contents, NO_LEFTOVER}
use Rattle.site_defs.specs.Stands.{IsSite, HasLeft}
use Rattle.site_store.specs.Site.{HasReign, IsOpen, count_of}
use Rattle.site_store.proofs.Adopted.{front}
use Rattle.site_store.proofs.Committed as committed
use Rattle.site_store.proofs.Places.{same_count}
use Rattle.site_store.proofs.memory.Memory.enter.Given.{Over}
use Rattle.site_store.proofs.memory.Memory.enter.Goals.{After-make_room, After-put_in}
use Rattle.site_store.proofs.memory.Memory.enter.Goals as goal

-- once there is room
count : (g : Over) (c : After-make_room g) → count_of c.make_room.new.self ≡ count_of c.args.self.now
count g c = same_count c.args.self.now.entries c.make_room.new.self.entries c.make_room.ensures.kept.entries

reign : (g : Over) (c : After-make_room g) → HasReign c.make_room.new.self
reign g c = let many = count g c in committed.reign_stays c.args.self.now c.make_room.new.self c.requires.reign c.make_room.ensures.kept.same.instance c.make_room.ensures.kept.same.stamp (omega (arith, many))

first : (g : Over) (c : After-make_room g) (y : Contents) (h : ℕ) → IsOpen (g.D.Disk.disk c.args.disk.now) true y h c.args.self.now → AtEachMoment (g.D.Disk.disk c.args.disk.now) (g.D.Disk.disk c.make_room.new.disk) (λ f. IsSite f (front y h))
first g c y h o = committed.prepare_moments (g.D.Disk.disk c.args.disk.now) (g.D.Disk.disk c.make_room.new.disk) y h c.args.self.now c.make_room.ensures.any_moment o

first_bare : (g : Over) (c : After-make_room g) (y : Contents) (h : ℕ) → IsOpen (g.D.Disk.disk c.args.disk.now) true y h c.args.self.now → AtEachMoment (g.D.Disk.disk c.args.disk.now) (g.D.Disk.disk c.make_room.new.disk) (λ f. HasLeft f (front y h) NO_LEFTOVER)
first_bare g c y h o = committed.prepare_bare (g.D.Disk.disk c.args.disk.now) (g.D.Disk.disk c.make_room.new.disk) y h c.args.self.now c.make_room.ensures.any_moment o

-- and over the whole
moments : (g : Over) (c : After-put_in g) (y : Contents) (h : ℕ) → IsOpen (g.D.Disk.disk c.args.disk.now) true y h c.args.self.now → AtEachMoment (g.D.Disk.disk c.args.disk.now) (g.D.Disk.disk c.put_in.new.disk) (λ f. IsSite f (front y h))
moments g c y h o =
    then_more (g.D.Disk.disk c.args.disk.now) (g.D.Disk.disk c.make_room.new.disk) (g.D.Disk.disk c.put_in.new.disk) (λ f. IsSite f (front y h)) (λ f. IsSite f (front y h)) (committed.prepare_moments (g.D.Disk.disk c.args.disk.now) (g.D.Disk.disk c.make_room.new.disk) y h c.args.self.now c.make_room.ensures.any_moment o) (c.put_in.ensures.any_moment y h (c.make_room.ensures.stays_open true y h o)) (λ f q. q)

bare : (g : Over) (c : After-put_in g) (y : Contents) (h : ℕ) → IsOpen (g.D.Disk.disk c.args.disk.now) true y h c.args.self.now → AtEachMoment (g.D.Disk.disk c.args.disk.now) (g.D.Disk.disk c.put_in.new.disk) (λ f. HasLeft f (front y h) NO_LEFTOVER)
bare g c y h o =
    then_more (g.D.Disk.disk c.args.disk.now) (g.D.Disk.disk c.make_room.new.disk) (g.D.Disk.disk c.put_in.new.disk) (λ f. HasLeft f (front y h) NO_LEFTOVER) (λ f. HasLeft f (front y h) NO_LEFTOVER) (committed.prepare_bare (g.D.Disk.disk c.args.disk.now) (g.D.Disk.disk c.make_room.new.disk) y h c.args.self.now c.make_room.ensures.any_moment o) (c.put_in.ensures.bare y h (c.make_room.ensures.stays_open true y h o)) (λ f q. q)

pub returns-in_err-parts-clause-any_moment : goal.returns-in_err-parts-clause-any_moment
returns-in_err-parts-clause-any_moment g c = first g (goal.at.returns-in_err-parts-clause-any_moment g c).After-make_room

pub returns-in_err-parts-clause-bare : goal.returns-in_err-parts-clause-bare
returns-in_err-parts-clause-bare g c = first_bare g (goal.at.returns-in_err-parts-clause-bare g c).After-make_room

pub returns-in_err-parts-clause-stands : goal.returns-in_err-parts-clause-stands
returns-in_err-parts-clause-stands g c y h o = committed.commit_stands (g.D.Disk.disk c.args.disk.now) (g.D.Disk.disk c.make_room.new.disk) y h (g.met.D.Disk.lawful c.make_room.new.disk) (first g (goal.at.returns-in_err-parts-clause-stands g c).After-make_room y h o)

pub returns-in_err-put_in-clause-any_moment : goal.returns-in_err-put_in-clause-any_moment
returns-in_err-put_in-clause-any_moment g c = moments g (goal.at.returns-in_err-put_in-clause-any_moment g c).After-put_in

pub returns-in_err-put_in-clause-bare : goal.returns-in_err-put_in-clause-bare
returns-in_err-put_in-clause-bare g c = bare g (goal.at.returns-in_err-put_in-clause-bare g c).After-put_in

pub returns-in_err-put_in-clause-stands : goal.returns-in_err-put_in-clause-stands
returns-in_err-put_in-clause-stands g c y h o = c.put_in.ensures.stands y h (c.make_room.ensures.stays_open true y h o)

pub returns-clause-any_moment : goal.returns-clause-any_moment
returns-clause-any_moment g c = moments g (goal.at.returns-clause-any_moment g c).After-put_in

pub returns-clause-bare : goal.returns-clause-bare
returns-clause-bare g c = bare g (goal.at.returns-clause-bare g c).After-put_in

pub returns-clause-stands : goal.returns-clause-stands
returns-clause-stands g c y h o = c.put_in.ensures.stands y h (c.make_room.ensures.stays_open true y h o)

pub returns-clause-done : goal.returns-clause-done
returns-clause-done g c told y h o =
    let now = c.make_room.ensures.stays_open told y h o in
    let own = reign g (goal.at.returns-clause-done g c).After-make_room in
    subst (λ (d : Contents). IsOpen (g.D.Disk.disk c.put_in.new.disk) told d h c.put_in.new.self) (sym (committed.with_entry_is c.args.self.now.stamp own.stamp (transaction_value c.args.t.now) y (sym c.make_room.ensures.kept.same.stamp ∙ own.is)))
    (c.in_ok-put_in.ensures.done told y h (stamp_value own.stamp) (committed.own_stamp y h c.make_room.new.self own now.remembered) now)

pub returns-clause-grown : goal.returns-clause-grown
returns-clause-grown g c =
    let more = c.put_in.ensures.grown in
    let many = count g (goal.at.returns-clause-grown g c).After-make_room in
    omega (arith, more, many)

pub returns-clause-number : goal.returns-clause-number
returns-clause-number g c =
    let told = c.len.ensures.count in
    let more = c.put_in.ensures.grown in
    let many = count g (goal.at.returns-clause-number g c).After-make_room in
    omega (arith, told, more, many)

pub returns-clause-reign : goal.returns-clause-reign
returns-clause-reign g c =
    let more = c.put_in.ensures.grown in
    committed.reign_stays c.make_room.new.self c.put_in.new.self (reign g (goal.at.returns-clause-reign g c).After-make_room) c.put_in.ensures.same.instance c.put_in.ensures.same.stamp (omega (arith, more))

pub returns-clause-appended : goal.returns-clause-appended
returns-clause-appended g c hard waiting keeps =
    committed.appended_as (g.D.Disk.disk c.put_in.new.disk) c.args.self.now c.make_room.new.self c.put_in.new.self (transaction_value c.args.t.now) hard waiting c.make_room.ensures.kept.same.layout (count g (goal.at.returns-clause-appended g c).After-make_room)
    (c.in_ok-put_in.ensures.appended hard waiting (c.make_room.ensures.state hard waiting keeps))
