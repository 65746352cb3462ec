use Rattle.std.proofs.Common.{rules, IsErrOf, ◌≡◌, ℕ, Bool, ◌++◌, true, Err, Some, inl, refl, sym, ◌∙◌, ap, subst, arith}
use Rattle.std.specs.Prelude.{IfSome, option_map, option_to_list}
use Rattle.disk_defs.specs.Disk.{AtEachMoment}
use Rattle.disk_defs.proofs.Moments.{then_more}
use Rattle.global_defs.specs.Entry.{Globals}
use Rattle.global_defs.specs.Prefix.{stamp_at}
use Rattle.gvn_model.specs.Entries.{transaction_value}
use Rattle.gvn_model.specs.Reigns.{reign_value}
use Rattle.journal_defs.specs.Surviving.{reigns}
use Rattle.instance_file.specs.declared.instance.Instance.{Instance}
use Rattle.entry_index.specs.Found.{entry_count}
use Rattle.site_defs.specs.Contents.{Contents}
use Rattle.site_defs.specs.Stands.{IsSite}
use Rattle.site_store.specs.declared.error.SiteError.TheVariants as error
use Rattle.site_store.specs.Owning.{IsOpenSite}
use Rattle.site_store.specs.Site.{IsOpen, HasRoomFor, count_of}
use Rattle.site_store.proofs.Adopted.{front}
use Rattle.site_store.proofs.Applied as applied
use Rattle.site_store.proofs.Applied.{MayStand, MayStandBare}
use Rattle.site_store.proofs.Logged as logging
use Rattle.site_store.proofs.site.Site.apply.Given.{Over}
use Rattle.site_store.proofs.site.Site.apply.Goals.{After-log_all_touched, In_default-log_all_touched, After-follow}
use Rattle.site_store.proofs.site.Site.apply.Goals as goal

-- ---- once images wait, or a fault came

first : (g : Over) (c : After-log_all_touched g) (y : Contents) (h : ℕ) → IsOpenSite g.D.Disk.disk true y h c.args.self.now → AtEachMoment (g.D.Disk.disk c.args.self.now.disk) (g.D.Disk.disk c.log_all_touched.new.disk) (MayStand (option_map reign_value c.args.self.now.remembered) y h)
first g c y h o = applied.stand_first (option_map reign_value c.args.self.now.remembered) y h (g.D.Disk.disk c.args.self.now.disk) (g.D.Disk.disk c.log_all_touched.new.disk) (c.log_all_touched.ensures.moments.any_moment y h o.inner)

first_bare : (g : Over) (c : After-log_all_touched g) (y : Contents) (h : ℕ) → IsOpenSite g.D.Disk.disk true y h c.args.self.now → AtEachMoment (g.D.Disk.disk c.args.self.now.disk) (g.D.Disk.disk c.log_all_touched.new.disk) (MayStandBare (option_map reign_value c.args.self.now.remembered) y h)
first_bare g c y h o = let run = c.log_all_touched.ensures.moments in applied.bare_first (option_map reign_value c.args.self.now.remembered) y h (g.D.Disk.disk c.args.self.now.disk) (g.D.Disk.disk c.log_all_touched.new.disk) (run.any_moment y h o.inner) (run.bare y h o.inner)

-- ---- once they wait

count : (g : Over) (c : In_default-log_all_touched g) → count_of c.log_all_touched.new.self ≡ count_of c.args.self.now.inner
count g c = ap entry_count c.in_default-log_all_touched.ensures.logged.entries

still_open : (g : Over) (c : In_default-log_all_touched g) (told : Bool) (y : Contents) (h : ℕ) → IsOpenSite g.D.Disk.disk told y h c.args.self.now → IsOpen (g.D.Disk.disk c.log_all_touched.new.disk) told y h c.log_all_touched.new.self
still_open g c told y h o = c.in_default-log_all_touched.ensures.logged.stays_open told y h o.inner

-- ---- once the entry came, or an error

moments : (g : Over) (c : After-follow g) (y : Contents) (h : ℕ) → IsOpenSite g.D.Disk.disk true y h c.args.self.now → IsOpen (g.D.Disk.disk c.log_all_touched.new.disk) true y h c.log_all_touched.new.self → AtEachMoment (g.D.Disk.disk c.args.self.now.disk) (g.D.Disk.disk c.follow.new.self.disk) (MayStand (option_map reign_value c.args.self.now.remembered) y h)
moments g c y h o now =
    applied.then_stand (option_map reign_value c.args.self.now.remembered) y h (g.D.Disk.disk c.args.self.now.disk) (g.D.Disk.disk c.log_all_touched.new.disk) (g.D.Disk.disk c.follow.new.self.disk) (applied.stand_first (option_map reign_value c.args.self.now.remembered) y h (g.D.Disk.disk c.args.self.now.disk) (g.D.Disk.disk c.log_all_touched.new.disk) (c.log_all_touched.ensures.moments.any_moment y h o.inner)) (c.follow.ensures.any_moment y h (record { fault = o.fault; inner = now }))

bare : (g : Over) (c : After-follow g) (y : Contents) (h : ℕ) → IsOpenSite g.D.Disk.disk true y h c.args.self.now → IsOpen (g.D.Disk.disk c.log_all_touched.new.disk) true y h c.log_all_touched.new.self → AtEachMoment (g.D.Disk.disk c.args.self.now.disk) (g.D.Disk.disk c.follow.new.self.disk) (MayStandBare (option_map reign_value c.args.self.now.remembered) y h)
bare g c y h o now =
    let run = c.log_all_touched.ensures.moments in
    applied.then_bare (option_map reign_value c.args.self.now.remembered) y h (g.D.Disk.disk c.args.self.now.disk) (g.D.Disk.disk c.log_all_touched.new.disk) (g.D.Disk.disk c.follow.new.self.disk) (applied.bare_first (option_map reign_value c.args.self.now.remembered) y h (g.D.Disk.disk c.args.self.now.disk) (g.D.Disk.disk c.log_all_touched.new.disk) (run.any_moment y h o.inner) (run.bare y h o.inner)) (c.follow.ensures.bare y h (record { fault = o.fault; inner = now }))

-- ---- what is asked for

pub follow-requires-clause-ready : goal.follow-requires-clause-ready
follow-requires-clause-ready g c =
    let logged = c.in_default-log_all_touched.ensures.logged in
    applied.going_roomier g.D.Disk.disk c.args.self.now _ (c.requires.ready c.in_default.is) logged.ready refl refl refl (ap entry_count logged.entries) logged.same.instance

pub follow-requires-clause-next : goal.follow-requires-clause-next
follow-requires-clause-next g c =
    let many = count g (goal.at.follow-requires-clause-next g c).In_default-log_all_touched in
    let next = c.requires.next in
    omega (arith, many, next)

pub follow-requires-clause-fits : goal.follow-requires-clause-fits
follow-requires-clause-fits g c = subst (λ (x : Globals). HasRoomFor x c.args.t.now.updates) (sym c.in_default-log_all_touched.ensures.logged.globals) c.in_ok-check_room.ensures.fits

pub follow-requires-clause-remembered : goal.follow-requires-clause-remembered
follow-requires-clause-remembered g c =
    applied.still_to_come c.args.self.now.inner c.log_all_touched.new.self (option_map reign_value c.args.self.now.remembered) (count g (goal.at.follow-requires-clause-remembered g c).In_default-log_all_touched) c.in_default-log_all_touched.ensures.logged.same.instance c.requires.remembered

-- ---- what is answered

pub returns-in-Ok-clause-done : goal.returns-in-Ok-clause-done
returns-in-Ok-clause-done g c told y h stamp under o =
    c.in-Ok.ensures.done told y h stamp (subst (λ (i : Instance). stamp_at c.args.number (reigns i.records ++ option_to_list (option_map reign_value c.args.self.now.remembered)) ≡ Some stamp) (sym c.in_default-log_all_touched.ensures.logged.same.instance) under)
    (record { fault = o.fault; inner = still_open g (goal.at.returns-in-Ok-clause-done g c).In_default-log_all_touched told y h o })

pub returns-in-Ok-clause-appended : goal.returns-in-Ok-clause-appended
returns-in-Ok-clause-appended g c =
    logging.appends_then (g.D.Disk.disk c.args.self.now.disk) (g.D.Disk.disk c.log_all_touched.new.disk) (g.D.Disk.disk c.follow.new.self.disk) c.args.self.now.inner c.log_all_touched.new.self c.follow.new.self.inner (transaction_value c.args.t.now) c.in_default-log_all_touched.ensures.logged c.in-Ok.ensures.appended

pub returns-in-Ok-clause-applied : goal.returns-in-Ok-clause-applied
returns-in-Ok-clause-applied g c =
    let logged = c.in_default-log_all_touched.ensures.logged in
    applied.applied_over c.args.self.now _ c.follow.new.self c.follow.new.self (transaction_value c.args.t.now) (ap entry_count logged.entries) logged.same.instance logged.globals refl refl refl c.in-Ok.ensures.applied

pub returns-in-Ok-clause-covered : goal.returns-in-Ok-clause-covered
returns-in-Ok-clause-covered g c =
    let logged = c.in_default-log_all_touched.ensures.logged in
    applied.covered_applied c.args.self.now c.follow.new.self (transaction_value c.args.t.now) (c.requires.covered c.in_default.is)
    (applied.applied_over c.args.self.now _ c.follow.new.self c.follow.new.self (transaction_value c.args.t.now) (ap entry_count logged.entries) logged.same.instance logged.globals refl refl refl c.in-Ok.ensures.applied)

pub returns-in-Ok-clause-hardened : goal.returns-in-Ok-clause-hardened
returns-in-Ok-clause-hardened g c = c.follow.ensures.hardened ∙ c.log_all_touched.ensures.same.hardened

pub returns-in-Ok-clause-any_moment : goal.returns-in-Ok-clause-any_moment
returns-in-Ok-clause-any_moment g c y h o =
    let at = goal.at.returns-in-Ok-clause-any_moment g c in
    moments g at.After-follow y h o (still_open g at.In_default-log_all_touched true y h o)

pub returns-in-Ok-clause-bare : goal.returns-in-Ok-clause-bare
returns-in-Ok-clause-bare g c y h o =
    let at = goal.at.returns-in-Ok-clause-bare g c in
    bare g at.After-follow y h o (still_open g at.In_default-log_all_touched true y h o)

pub returns-in-Ok-clause-stands : goal.returns-in-Ok-clause-stands
returns-in-Ok-clause-stands g c y h o = c.follow.ensures.stands y h (record { fault = o.fault; inner = still_open g (goal.at.returns-in-Ok-clause-stands g c).In_default-log_all_touched true y h o })

-- where there is no room, or no memory to tell

pub returns-in_err-check_room-clause-any_moment : goal.returns-in_err-check_room-clause-any_moment
returns-in_err-check_room-clause-any_moment g c y h o = applied.quiet_stand (option_map reign_value c.args.self.now.remembered) y h (g.D.Disk.disk c.args.self.now.disk) c.args.self.now.inner o.inner

pub returns-in_err-check_room-clause-bare : goal.returns-in_err-check_room-clause-bare
returns-in_err-check_room-clause-bare g c y h o = applied.quiet_bare (option_map reign_value c.args.self.now.remembered) y h (g.D.Disk.disk c.args.self.now.disk) c.args.self.now.inner o.inner

pub returns-in_err-check_room-clause-unwritten : goal.returns-in_err-check_room-clause-unwritten
returns-in_err-check_room-clause-unwritten g c is y h o = applied.quiet_front y h (g.D.Disk.disk c.args.self.now.disk) c.args.self.now.inner o.inner

pub returns-in_err-check_room-clause-stands : goal.returns-in_err-check_room-clause-stands
returns-in_err-check_room-clause-stands g c y h o = applied.reads_stand (option_map reign_value c.args.self.now.remembered) y h (g.D.Disk.disk c.args.self.now.disk) (g.D.Disk.disk c.args.self.now.disk) (g.met.D.Disk.lawful c.args.self.now.disk) (applied.quiet_stand (option_map reign_value c.args.self.now.remembered) y h (g.D.Disk.disk c.args.self.now.disk) c.args.self.now.inner o.inner)

-- where the images can't be logged

pub returns-in-Err-clause-any_moment : goal.returns-in-Err-clause-any_moment
returns-in-Err-clause-any_moment g c y h o = subst (λ d. AtEachMoment (g.D.Disk.disk c.args.self.now.disk) (g.D.Disk.disk d) (MayStand (option_map reign_value c.args.self.now.remembered) y h)) (sym c.note.ensures.disk) (first g (goal.at.returns-in-Err-clause-any_moment g c).After-log_all_touched y h o)

pub returns-in-Err-clause-bare : goal.returns-in-Err-clause-bare
returns-in-Err-clause-bare g c y h o = subst (λ d. AtEachMoment (g.D.Disk.disk c.args.self.now.disk) (g.D.Disk.disk d) (MayStandBare (option_map reign_value c.args.self.now.remembered) y h)) (sym c.note.ensures.disk) (first_bare g (goal.at.returns-in-Err-clause-bare g c).After-log_all_touched y h o)

pub returns-in-Err-clause-unwritten : goal.returns-in-Err-clause-unwritten
returns-in-Err-clause-unwritten g c is y h o = subst (λ d. AtEachMoment (g.D.Disk.disk c.args.self.now.disk) (g.D.Disk.disk d) (λ f. IsSite f (front y h))) (sym c.note.ensures.disk) (c.log_all_touched.ensures.moments.any_moment y h o.inner)

pub returns-in-Err-clause-stands : goal.returns-in-Err-clause-stands
returns-in-Err-clause-stands g c y h o =
    subst (λ d. IfSome (g.D.Disk.disk d).content (MayStand (option_map reign_value c.args.self.now.remembered) y h)) (sym c.note.ensures.disk)
    (applied.reads_stand (option_map reign_value c.args.self.now.remembered) y h (g.D.Disk.disk c.args.self.now.disk) (g.D.Disk.disk c.log_all_touched.new.disk) (g.met.D.Disk.lawful c.log_all_touched.new.disk) (first g (goal.at.returns-in-Err-clause-stands g c).After-log_all_touched y h o))

pub returns-in-Err-clause-stays_open : goal.returns-in-Err-clause-stays_open
returns-in-Err-clause-stays_open g c is told y h o =
    let none : c.in-Err.error ≡ error.NoMemory = cc is in
    subst (λ s. IsOpenSite g.D.Disk.disk told y h s) (sym (c.note.ensures.goes_on (λ fault e. absurd (cc (e, none))))) (record { fault = o.fault; inner = (c.in-Err.ensures.goes_on (ap Err none)).stays_open told y h o.inner })

pub returns-in-Err-clause-failed : goal.returns-in-Err-clause-failed
returns-in-Err-clause-failed g c fault is =
    let same = c.in-Err.ensures.still fault is in
    inl (applied.has_stayed c.args.self.now _ c.log_all_touched.new.self c.log_all_touched.new.self (transaction_value c.args.t.now) (ap entry_count same.entries) c.log_all_touched.ensures.same.instance same.globals refl
    c.note.ensures.memory refl (ap (option_map reign_value) c.note.ensures.remembered))

-- where the entry doesn't come, or a fault does

pub returns-in-Err-follow-clause-any_moment : goal.returns-in-Err-follow-clause-any_moment
returns-in-Err-follow-clause-any_moment g c y h o =
    let at = goal.at.returns-in-Err-follow-clause-any_moment g c in
    subst (λ d. AtEachMoment (g.D.Disk.disk c.args.self.now.disk) (g.D.Disk.disk d) (MayStand (option_map reign_value c.args.self.now.remembered) y h)) (sym c.note-in-Err-follow.ensures.disk) (moments g at.After-follow y h o (still_open g at.In_default-log_all_touched true y h o))

pub returns-in-Err-follow-clause-bare : goal.returns-in-Err-follow-clause-bare
returns-in-Err-follow-clause-bare g c y h o =
    let at = goal.at.returns-in-Err-follow-clause-bare g c in
    subst (λ d. AtEachMoment (g.D.Disk.disk c.args.self.now.disk) (g.D.Disk.disk d) (MayStandBare (option_map reign_value c.args.self.now.remembered) y h)) (sym c.note-in-Err-follow.ensures.disk) (bare g at.After-follow y h o (still_open g at.In_default-log_all_touched true y h o))

pub returns-in-Err-follow-clause-unwritten : goal.returns-in-Err-follow-clause-unwritten
returns-in-Err-follow-clause-unwritten g c is y h o =
    let failed : IsErrOf c.follow.result error.NoMemory = search (rules, is, c.in-Err-follow.ensures.causes) in
    let now = still_open g (goal.at.returns-in-Err-follow-clause-unwritten g c).In_default-log_all_touched true y h o in
    subst (λ d. AtEachMoment (g.D.Disk.disk c.args.self.now.disk) (g.D.Disk.disk d) (λ f. IsSite f (front y h))) (sym c.note-in-Err-follow.ensures.disk)
    (then_more (g.D.Disk.disk c.args.self.now.disk) (g.D.Disk.disk c.log_all_touched.new.disk) (g.D.Disk.disk c.follow.new.self.disk) (λ f. IsSite f (front y h)) (λ f. IsSite f (front y h)) (c.log_all_touched.ensures.moments.any_moment y h o.inner) (applied.old_stand (g.D.Disk.disk c.log_all_touched.new.disk) (g.D.Disk.disk c.follow.new.self.disk) y h c.log_all_touched.new.self now (c.follow.ensures.unwritten failed)) (λ f q. q))

pub returns-in-Err-follow-clause-stands : goal.returns-in-Err-follow-clause-stands
returns-in-Err-follow-clause-stands g c y h o =
    let at = goal.at.returns-in-Err-follow-clause-stands g c in
    subst (λ d. IfSome (g.D.Disk.disk d).content (MayStand (option_map reign_value c.args.self.now.remembered) y h)) (sym c.note-in-Err-follow.ensures.disk)
    (applied.reads_stand (option_map reign_value c.args.self.now.remembered) y h (g.D.Disk.disk c.args.self.now.disk) (g.D.Disk.disk c.follow.new.self.disk) (g.met.D.Disk.lawful c.follow.new.self.disk) (moments g at.After-follow y h o (still_open g at.In_default-log_all_touched true y h o)))

pub returns-in-Err-follow-clause-stays_open : goal.returns-in-Err-follow-clause-stays_open
returns-in-Err-follow-clause-stays_open g c is told y h o =
    let none : c.in-Err-follow.error ≡ error.NoMemory = cc is in
    let now = still_open g (goal.at.returns-in-Err-follow-clause-stays_open g c).In_default-log_all_touched told y h o in
    subst (λ s. IsOpenSite g.D.Disk.disk told y h s) (sym (c.note-in-Err-follow.ensures.goes_on (λ fault e. absurd (cc (e, none))))) (c.in-Err-follow.ensures.stays_open (ap Err none) told y h (record { fault = o.fault; inner = now }))

pub returns-in-Err-follow-clause-failed : goal.returns-in-Err-follow-clause-failed
returns-in-Err-follow-clause-failed g c fault is =
    let logged = c.in_default-log_all_touched.ensures.logged in
    applied.either_over c.args.self.now _ c.follow.new.self c.note-in-Err-follow.new.self (transaction_value c.args.t.now) (ap entry_count logged.entries) logged.same.instance logged.globals refl
    c.note-in-Err-follow.ensures.memory c.note-in-Err-follow.ensures.remembered (c.in-Err-follow.ensures.failed fault is)
