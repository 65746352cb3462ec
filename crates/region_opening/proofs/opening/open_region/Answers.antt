use Rattle.std.proofs.lemmas.Result.{err_from_is_err_and}
use Rattle.region_store.specs.declared.error.RegionError.TheVariants.{NotAFile}
use Rattle.region_store.proofs.Handed.{handed_on}
use Rattle.region_opening.proofs.Opened.{region_begun, region_gone_back, region_refused}
use Rattle.region_opening.proofs.Starts.{first_start}
use Rattle.region_opening.proofs.opening.open_region.Goals as goal

pub returns-clause-begun : goal.returns-clause-begun
returns-clause-begun g c =
    region_begun (g.D.Disk.disk c.args.disk.now).content c.args.instance.now c.args.target c.args.number c.in_ok-start.start c.args.signs.now c.in_ok-start.ensures.start c.args.directory.now.patterns c.requires.patterns
    c.in_ok-region.region c.in_ok-region.ensures.file c.in_ok-region.ensures.home c.in_ok-start.ensures.number c.in_ok-region.ensures.none

pub returns-clause-first : goal.returns-clause-first
returns-clause-first g c = first_start c.args.instance.now c.args.target c.args.signs.now c.in_ok-start.start c.in_ok-start.ensures.start

pub returns-clause-gone_back : goal.returns-clause-gone_back
returns-clause-gone_back g c =
    region_gone_back (g.D.Disk.disk c.args.disk.now).content c.args.instance.now c.args.target c.args.number c.in_ok-start.start c.args.signs.now c.in_ok-start.ensures.start c.args.directory.now.patterns c.requires.patterns
    c.in_ok-region.region c.in_ok-region.ensures.none c.in_ok-region.ensures.holds c.in_ok-region.ensures.globals

pub returns-in_err-region-clause-outside : goal.returns-in_err-region-clause-outside
returns-in_err-region-clause-outside g c =
    let p = err_from_is_err_and c.from_residual-in_err-region.result c.from_residual-in_err-region.ensures.1 in
    rw (p.1, p.2) (λ f offset is.
    region_refused (g.D.Disk.disk c.args.disk.now).content c.args.instance.now c.args.target c.args.number c.in_ok-start.start c.args.signs.now c.in_ok-start.ensures.start c.args.directory.now.patterns c.requires.patterns f offset
    (c.in_err-region.ensures.outside f offset (handed_on c.in_err-region.field-0.0 (NotAFile f offset) is)))
