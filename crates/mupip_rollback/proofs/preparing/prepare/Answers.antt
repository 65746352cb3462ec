use Rattle.std.proofs.Common.{◌≡◌, ◌⊎◌, ◌<◌, inl, inr, min, arith}
use Rattle.std.proofs.lemmas.Result.{err_from_is_err_and}
use Rattle.disk_defs.proofs.Told.{weaker_told}
use Rattle.journal_defs.specs.Instance.{generation}
use Rattle.site_defs.specs.Outside.{IsOutsideSite, IsBegunAhead}
use Rattle.site_defs.specs.OutsideBlocks.{IsOutsideRollback}
use Rattle.mupip_rollback.specs.declared.error.RollError.TheVariants as error
use Rattle.site_store.specs.Needing.{IsFirstWithout}
use Rattle.mupip_rollback.proofs.Errors.{handed_on}
use Rattle.mupip_rollback.proofs.Prepared.{place_at, told_without, held_of, kept_of, site_of, left_of, prepared_of}
use Rattle.mupip_rollback.proofs.preparing.prepare.Goals as goal
use Rattle.entry_index.specs.Found.{entry_count}

pub returns-in_err-found-clause-place : goal.returns-in_err-found-clause-place
returns-in_err-found-clause-place g c =
    let p = err_from_is_err_and c.from_residual.result c.from_residual.ensures.1 in
    rw (p.1, p.2) (λ file offset is. weaker_told (g.D.Disk.disk c.args.disk.now).content (λ files. IsOutsideSite files file offset ⊎ IsBegunAhead files file offset) (λ files. IsOutsideRollback c.args.to files file offset)
    (c.in_err-found.ensures.place file offset (handed_on c.in_err-found.field-0.0 (error.NotAFile file offset) is)) (λ files out. elim out [ inl a ↦ inl a | inr b ↦ inr (inl b) ]))

pub returns-clause-prepared : goal.returns-clause-prepared
returns-clause-prepared g c =
    prepared_of (g.D.Disk.disk c.args.disk.now) (g.D.Disk.disk c.find.new.disk) (g.D.Disk.disk c.open_first.new.disk) c.in_ok-found.found c.open_first.result c.find.ensures.content c.in_ok-found.ensures.found c.in_ok-found.ensures.ahead c.open_first.ensures.prepared

pub returns-clause-held : goal.returns-clause-held
returns-clause-held g c =
    let t_is : c.min-target.result ≡ min c.args.to (entry_count c.in_ok-found.found.entries) = (let a = c.min-target.ensures in let b = c.len.ensures.count in omega (arith, a, b)) in
    held_of (g.D.Disk.disk c.args.disk.now) (g.D.Disk.disk c.find.new.disk) c.in_ok-found.found c.in_ok-found.ensures.has c.in_ok-found.ensures.found c.args.to c.min-target.result t_is c.in_ok-found.ensures.lowest c.open_first.result c.open_first.ensures.records c.open_first.ensures.kept c.open_first.ensures.none

pub returns-clause-kept : goal.returns-clause-kept
returns-clause-kept g c =
    let t_is : c.min-target.result ≡ min c.args.to (entry_count c.in_ok-found.found.entries) = (let a = c.min-target.ensures in let b = c.len.ensures.count in omega (arith, a, b)) in
    kept_of (g.D.Disk.disk c.args.disk.now) (g.D.Disk.disk c.find.new.disk) c.in_ok-found.found c.in_ok-found.ensures.has c.in_ok-found.ensures.found c.args.to c.min-target.result t_is c.open_first.result c.open_first.ensures.length c.open_first.ensures.kept

pub returns-clause-site : goal.returns-clause-site
returns-clause-site g c =
    let t_is : c.min-target.result ≡ min c.args.to (entry_count c.in_ok-found.found.entries) = (let a = c.min-target.ensures in let b = c.len.ensures.count in omega (arith, a, b)) in
    site_of (g.D.Disk.disk c.args.disk.now) (g.D.Disk.disk c.find.new.disk) c.in_ok-found.found c.in_ok-found.ensures.has c.in_ok-found.ensures.found c.args.to c.min-target.result t_is (g.D.Disk.disk c.open_first.new.disk) c.open_first.result
    (g.met.D.Disk.lawful c.find.new.disk) (g.met.D.Disk.lawful c.open_first.new.disk) c.find.ensures.any_moment c.open_first.ensures.reads c.open_first.ensures.length

pub returns-clause-left : goal.returns-clause-left
returns-clause-left g c =
    let t_is : c.min-target.result ≡ min c.args.to (entry_count c.in_ok-found.found.entries) = (let a = c.min-target.ensures in let b = c.len.ensures.count in omega (arith, a, b)) in
    left_of (g.D.Disk.disk c.args.disk.now) (g.D.Disk.disk c.find.new.disk) c.in_ok-found.found c.in_ok-found.ensures.has c.in_ok-found.ensures.found c.args.to c.min-target.result t_is c.open_first.result c.open_first.ensures.broken

pub returns-clause-without : goal.returns-clause-without
returns-clause-without g c = λ region first is.
    let t_is : c.min-target.result ≡ min c.args.to (entry_count c.in_ok-found.found.entries) = (let a = c.min-target.ensures in let b = c.len.ensures.count in omega (arith, a, b)) in
    weaker_told (g.D.Disk.disk c.args.disk.now).content _ _
    (told_without (g.D.Disk.disk c.args.disk.now) (g.D.Disk.disk c.find.new.disk) c.in_ok-found.found c.in_ok-found.ensures.has c.in_ok-found.ensures.found c.args.to c.min-target.result t_is c.in_ok-found.ensures.lowest (λ u t. (generation u.instance < 65534) × IsFirstWithout u t region first)
    (λ journal say. (c.in_ok-found.ensures.has.low, c.open_first.ensures.first region first is journal say)))
    (λ files k. (k.0, k.1, k.2, k.3, k.4.0, k.4.1))

pub returns-clause-place : goal.returns-clause-place
returns-clause-place g c = λ file offset is.
    let t_is : c.min-target.result ≡ min c.args.to (entry_count c.in_ok-found.found.entries) = (let a = c.min-target.ensures in let b = c.len.ensures.count in omega (arith, a, b)) in
    place_at (g.D.Disk.disk c.args.disk.now) (g.D.Disk.disk c.find.new.disk) c.in_ok-found.found c.in_ok-found.ensures.has c.in_ok-found.ensures.found c.args.to c.min-target.result t_is file offset c.find.ensures.content (c.open_first.ensures.place file offset is c.args.to t_is)
