use Rattle.std.proofs.Common.{◌≤◌, true, refl, subst, arith}
use Rattle.mupip_rollback.specs.Preparing.{cut_records}
use Rattle.disk_defs.specs.Frames.{OthersStay}
use Rattle.mupip_rollback.specs.Cutting.{AreSetAside}
use Rattle.site_store.proofs.Standing.{still}
use Rattle.mupip_rollback.proofs.Errors.{failed_was}
use Rattle.mupip_rollback.proofs.Rolls as rolls
use Rattle.mupip_rollback.proofs.rolling.roll.Goals as goal

pub set_aside-requires-clause-read : goal.set_aside-requires-clause-read
set_aside-requires-clause-read g c = rolls.read_at (g.D.Disk.disk c.args.disk.now) c.args.prepared c.requires.prepared

pub begin_kept-requires-clause-form : goal.begin_kept-requires-clause-form
begin_kept-requires-clause-form g c = rolls.form_at (g.D.Disk.disk c.args.disk.now) c.args.prepared c.requires.prepared c.in_ok-instance.instance.records c.in_ok-instance.ensures.records

pub begin_kept-requires-clause-whole : goal.begin_kept-requires-clause-whole
begin_kept-requires-clause-whole g c = rolls.whole_at (g.D.Disk.disk c.args.disk.now) c.args.prepared c.requires.prepared

pub begin_kept-requires-clause-each_place : goal.begin_kept-requires-clause-each_place
begin_kept-requires-clause-each_place g c = rolls.places_at (g.D.Disk.disk c.args.disk.now) c.args.prepared c.requires.prepared c.in_ok-instance.instance.records c.in_ok-instance.ensures.records

pub begin_kept-requires-clause-unbegun : goal.begin_kept-requires-clause-unbegun
begin_kept-requires-clause-unbegun g c =
    let v = g.D.Disk.disk c.args.disk.now in
    let x = g.D.Disk.disk c.set_aside.new.disk in
    rolls.unbegun_at v c.args.prepared c.requires.prepared c.in_ok-instance.instance.records c.in_ok-instance.ensures.records x (subst (λ l. OthersStay (AreSetAside l.records) v x) c.requires.prepared.log c.set_aside.ensures.frame)

pub begin_kept-requires-clause-regions : goal.begin_kept-requires-clause-regions
begin_kept-requires-clause-regions g c =
    let v = g.D.Disk.disk c.args.disk.now in
    let x = g.D.Disk.disk c.set_aside.new.disk in
    rolls.regions_at v c.args.prepared c.requires.prepared c.in_ok-instance.instance.records c.in_ok-instance.ensures.records x (subst (λ l. OthersStay (AreSetAside l.records) v x) c.requires.prepared.log c.set_aside.ensures.frame)

pub returns-in_err-instance-clause-any_moment : goal.returns-in_err-instance-clause-any_moment
returns-in_err-instance-clause-any_moment g c =
    let v = g.D.Disk.disk c.args.disk.now in
    let x = g.D.Disk.disk c.set_aside.new.disk in
    let p = c.args.prepared in
    let P = c.requires.prepared in
    let is = cut_records p.log.records p.length in
    let stays = subst (λ l. OthersStay (AreSetAside l.records) v x) P.log c.set_aside.ensures.frame in
    let lawful = g.met.D.Disk.lawful c.args.disk.now in
    let aside = rolls.aside_so v p P is refl x stays lawful c.as_slice.result.now c.as_slice-2.result.now c.as_slice.ensures c.as_slice-2.ensures c.set_aside.ensures.any_moment in
    rolls.back v p P is refl x stays lawful x (rolls.aside_moments v p P is refl x stays lawful aside)

pub returns-in_err-site-clause-any_moment : goal.returns-in_err-site-clause-any_moment
returns-in_err-site-clause-any_moment g c =
    let v = g.D.Disk.disk c.args.disk.now in
    let x = g.D.Disk.disk c.set_aside.new.disk in
    let p = c.args.prepared in
    let P = c.requires.prepared in
    let is = c.in_ok-instance.instance.records in
    let same = c.in_ok-instance.ensures.records in
    let stays = subst (λ l. OthersStay (AreSetAside l.records) v x) P.log c.set_aside.ensures.frame in
    let lawful = g.met.D.Disk.lawful c.args.disk.now in
    let aside = rolls.aside_so v p P is same x stays lawful c.as_slice.result.now c.as_slice-2.result.now c.as_slice.ensures c.as_slice-2.ensures c.set_aside.ensures.any_moment in
    let done = rolls.done_so v p P is same x stays lawful c.as_slice.result.now c.as_slice-2.result.now c.as_slice.ensures c.as_slice-2.ensures c.in_ok-instance.ensures.done in
    let w = g.D.Disk.disk c.begin_kept.new.disk in
    rolls.back v p P is same x stays lawful w (rolls.drawn_moments v p P is same x stays lawful w aside done c.begin_kept.ensures.any_moment)

pub returns-in-Ok-clause-done : goal.returns-in-Ok-clause-done
returns-in-Ok-clause-done g c =
    let v = g.D.Disk.disk c.args.disk.now in
    let x = g.D.Disk.disk c.set_aside.new.disk in
    let p = c.args.prepared in
    let P = c.requires.prepared in
    let is = c.in_ok-instance.instance.records in
    let same = c.in_ok-instance.ensures.records in
    let stays = subst (λ l. OthersStay (AreSetAside l.records) v x) P.log c.set_aside.ensures.frame in
    let lawful = g.met.D.Disk.lawful c.args.disk.now in
    let aside = rolls.aside_so v p P is same x stays lawful c.as_slice.result.now c.as_slice-2.result.now c.as_slice.ensures c.as_slice-2.ensures c.set_aside.ensures.any_moment in
    let done = rolls.done_so v p P is same x stays lawful c.as_slice.result.now c.as_slice-2.result.now c.as_slice.ensures c.as_slice-2.ensures c.in_ok-instance.ensures.done in
    let w = g.D.Disk.disk c.begin_kept.new.disk in
    let z = g.D.Disk.disk c.epoch.new.disk in
    let s = c.in_ok-site.site in
    let lawful_x = g.met.D.Disk.lawful c.set_aside.new.disk in
    let open_now = rolls.opens_now v p P is same x stays lawful w s lawful_x done c.in_ok-site.ensures.open in
    rolls.closed_back v p P is same x stays lawful z (rolls.closed v p P is same x stays lawful w s lawful_x z open_now c.epoch.new.self (g.met.D.Disk.lawful c.epoch.new.disk) (λ k is_open. c.in-Ok.ensures.done true k is_open) c.in-Ok.ensures.none_needs)

pub returns-in-Ok-clause-any_moment : goal.returns-in-Ok-clause-any_moment
returns-in-Ok-clause-any_moment g c =
    let v = g.D.Disk.disk c.args.disk.now in
    let x = g.D.Disk.disk c.set_aside.new.disk in
    let p = c.args.prepared in
    let P = c.requires.prepared in
    let is = c.in_ok-instance.instance.records in
    let same = c.in_ok-instance.ensures.records in
    let stays = subst (λ l. OthersStay (AreSetAside l.records) v x) P.log c.set_aside.ensures.frame in
    let lawful = g.met.D.Disk.lawful c.args.disk.now in
    let aside = rolls.aside_so v p P is same x stays lawful c.as_slice.result.now c.as_slice-2.result.now c.as_slice.ensures c.as_slice-2.ensures c.set_aside.ensures.any_moment in
    let done = rolls.done_so v p P is same x stays lawful c.as_slice.result.now c.as_slice-2.result.now c.as_slice.ensures c.as_slice-2.ensures c.in_ok-instance.ensures.done in
    let w = g.D.Disk.disk c.begin_kept.new.disk in
    let z = g.D.Disk.disk c.epoch.new.disk in
    let s = c.in_ok-site.site in
    let lawful_x = g.met.D.Disk.lawful c.set_aside.new.disk in
    let open_now = rolls.opens_now v p P is same x stays lawful w s lawful_x done c.in_ok-site.ensures.open in
    rolls.back v p P is same x stays lawful z (rolls.closing v p P is same x stays lawful w s lawful_x z open_now (rolls.drawn_moments v p P is same x stays lawful w aside done c.begin_kept.ensures.any_moment) c.epoch.ensures.left)

pub returns-clause-any_moment : goal.returns-clause-any_moment
returns-clause-any_moment g c =
    let v = g.D.Disk.disk c.args.disk.now in
    let x = g.D.Disk.disk c.set_aside.new.disk in
    let p = c.args.prepared in
    let P = c.requires.prepared in
    let is = c.in_ok-instance.instance.records in
    let same = c.in_ok-instance.ensures.records in
    let stays = subst (λ l. OthersStay (AreSetAside l.records) v x) P.log c.set_aside.ensures.frame in
    let lawful = g.met.D.Disk.lawful c.args.disk.now in
    let aside = rolls.aside_so v p P is same x stays lawful c.as_slice.result.now c.as_slice-2.result.now c.as_slice.ensures c.as_slice-2.ensures c.set_aside.ensures.any_moment in
    let done = rolls.done_so v p P is same x stays lawful c.as_slice.result.now c.as_slice-2.result.now c.as_slice.ensures c.as_slice-2.ensures c.in_ok-instance.ensures.done in
    let w = g.D.Disk.disk c.begin_kept.new.disk in
    let z = g.D.Disk.disk c.epoch.new.disk in
    let s = c.in_ok-site.site in
    let lawful_x = g.met.D.Disk.lawful c.set_aside.new.disk in
    let open_now = rolls.opens_now v p P is same x stays lawful w s lawful_x done c.in_ok-site.ensures.open in
    rolls.back v p P is same x stays lawful z (rolls.closing v p P is same x stays lawful w s lawful_x z open_now (rolls.drawn_moments v p P is same x stays lawful w aside done c.begin_kept.ensures.any_moment) c.epoch.ensures.left)

pub returns-clause-still_told : goal.returns-clause-still_told
returns-clause-still_told g c = λ told.
    c.epoch.ensures.still_told (c.begin_kept.ensures.still_told
    (still (g.D.Disk.disk c.args.disk.now) (g.D.Disk.disk c.set_aside.new.disk) (AreSetAside c.args.prepared.log.records) c.set_aside.ensures.frame told))

pub returns-clause-faults : goal.returns-clause-faults
returns-clause-faults g c = record {
  later =
      (let first = c.set_aside.ensures.faults.later in
      let second = c.begin_kept.ensures.faults.later in
      let third = c.epoch.ensures.faults.later in
      omega (arith, first, second, third));
  count = λ fault is. c.in-Err.ensures.faults.count fault (failed_was c.in-Err.error c.in_site.result fault c.in_site.ensures is);
  cause = λ fault is.
      (let rose = c.in-Err.ensures.faults.cause fault (failed_was c.in-Err.error c.in_site.result fault c.in_site.ensures is) in
      let first : (g.D.Disk.disk c.args.disk.now).faults ≤ (g.D.Disk.disk c.set_aside.new.disk).faults = c.set_aside.ensures.faults.later in
      let second : (g.D.Disk.disk c.set_aside.new.disk).faults ≤ (g.D.Disk.disk c.begin_kept.new.disk).faults = c.begin_kept.ensures.faults.later in
      omega (arith, rose, first, second));
}
