use Rattle.std.proofs.Common.{◌≡◌, ◌+◌, sym}
use Rattle.std.proofs.lemmas.Result.{err_from_is_err_and}
use Rattle.region_store.specs.declared.error.RegionError.TheVariants.{NotAFile}
use Rattle.region_store.proofs.Handed.{handed_on}
use Rattle.region_opening.proofs.Opened.{told_outside, told_others}
use Rattle.region_opening.proofs.opening.open_own.Goals as goal

pub returns-in_err-region-clause-outside : goal.returns-in_err-region-clause-outside
returns-in_err-region-clause-outside g c =
    let p = err_from_is_err_and c.from_residual.result c.from_residual.ensures.1 in
    rw (p.1, p.2) (λ f offset is.
    told_outside (g.D.Disk.disk c.args.disk.now).content c.args.directory.now.patterns c.args.number c.args.start c.args.signs.now f offset
    (c.in_err-region.ensures.outside f offset (handed_on c.in_err-region.field-0.0 (NotAFile f offset) is)))

pub returns-then-not-branch-clause-outside : goal.returns-then-not-branch-clause-outside
returns-then-not-branch-clause-outside g c f offset is =
    let at : 1 + c.args.number ≡ f = cc is in
    let first : 0 ≡ offset = cc is in
    told_others (g.D.Disk.disk c.args.disk.now).content c.args.directory.now.patterns c.args.number c.args.start c.args.signs.now f offset c.in_ok-region.region.globals
    (sym at) (sym first) c.in_ok-region.ensures.globals (c.in_ok-may_be_its_own.ensures.others c.if-not-branch.true)

pub returns-clause-home : goal.returns-clause-home
returns-clause-home g c = c.in_ok-may_be_its_own.ensures.home c.if-not-branch.false

pub returns-clause-none : goal.returns-clause-none
returns-clause-none g c = c.in_ok-may_be_its_own.ensures.none c.if-not-branch.false
