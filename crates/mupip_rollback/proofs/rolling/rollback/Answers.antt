use Rattle.std.proofs.Common.{◌≡◌, ◌+◌, ◌<◌, [], length, min, replicate, sym, ◌∙◌, ap, subst, arith}
use Rattle.std.proofs.lemmas.List.{length-replicate}
use Rattle.std.proofs.lemmas.Result.{err_from_is_err_and}
use Rattle.disk_defs.proofs.Told.{weaker_told}
use Rattle.entry_index.specs.Found.{entry_count}
use Rattle.global_defs.specs.Entry.{Entry, Sequence}
use Rattle.journal_defs.specs.Instance.{generation}
use Rattle.journal_defs.specs.Sequence.{Records, IsSequence}
use Rattle.journal_defs.specs.Stands.{AreRecords}
use Rattle.site_store.specs.Needing.{NoneIsWithout}
use Rattle.mupip_rollback.specs.declared.error.RollError.TheVariants as error
use Rattle.mupip_rollback.proofs.Errors.{handed_on}
use Rattle.mupip_rollback.proofs.Whole as whole
use Rattle.mupip_rollback.proofs.rolling.rollback.Goals as goal

pub returns-in_err-prepared-clause-without : goal.returns-in_err-prepared-clause-without
returns-in_err-prepared-clause-without g c =
    let p = err_from_is_err_and c.from_residual.result c.from_residual.ensures.1 in
    rw (p.1, p.2) (λ region generation is. c.in_err-prepared.ensures.without region generation (handed_on c.in_err-prepared.field-0.0 (error.NoBeforeImage region generation) is))

pub returns-in_err-prepared-clause-any_moment : goal.returns-in_err-prepared-clause-any_moment
returns-in_err-prepared-clause-any_moment g c = whole.quiet (g.D.Disk.disk c.args.disk.now) (g.D.Disk.disk c.prepare.new.disk) c.args.to c.prepare.ensures.any_moment

-- whatever the disk tells, there are contents with so many entries
pub returns-clause-read : goal.returns-clause-read
returns-clause-read g c =
    let p = c.in_ok-prepared.prepared in
    let P = c.in_ok-prepared.ensures.prepared in
    let kept = c.in_ok-prepared.ensures.kept in
    let size = c.len.ensures.count in
    let some : Entry = record { stamp = record { root = []; cycle = 0 }; transaction = record { origin = record { updater = 0; serial = 0 }; updates = [] } } in
    let many : length (replicate p.length some) ≡ p.length = length-replicate p.length some in
    let newest : c.generation.result ≡ generation P.found.read.log.records = c.generation.ensures ∙ ap (λ l. generation l.records) P.log in (
      record { instance = P.found.read.log.records; starts = λ r. []; epochs = λ r. []; texts = []; losts = []; sequence = replicate p.length some },
      omega (arith, many, kept, size),
      omega (arith, newest),
    )

pub returns-clause-held : goal.returns-clause-held
returns-clause-held g c =
    let u = g.D.Disk.disk c.args.disk.now in
    let p = c.in_ok-prepared.prepared in
    let P = c.in_ok-prepared.ensures.prepared in
    let size = c.len.ensures.count in
    let low : generation p.log.records < 65534 = subst (λ l. generation l.records < 65534) (sym P.log) P.has.low in
    let newest : c.generation.result ≡ generation p.log.records = c.generation.ensures in
    weaker_told u.content (λ files. (x : Records) × (es : Sequence) × AreRecords files x × IsSequence x es × (x.instance ≡ p.log.records) × (entry_count p.kept.entries ≡ min c.args.to (length es)) × NoneIsWithout x (min c.args.to (length es)))
    (λ files. (x : Records) × (es : Sequence) × AreRecords files x × IsSequence x es × (c.len.result ≡ min c.args.to (length es)) × (c.generation.result + 1 ≡ generation x.instance + 1) × (generation x.instance < 65534) × NoneIsWithout x (min c.args.to (length es)))
    c.in_ok-prepared.ensures.held (λ files h.
    let same : generation h.0.instance ≡ generation p.log.records = ap generation h.4 in
    let many = h.5 in
    (h.0, h.1, h.2, h.3, omega (arith, size, many), omega (arith, same, newest), omega (arith, same, low), h.6))

pub returns-in_err-roll-clause-any_moment : goal.returns-in_err-roll-clause-any_moment
returns-in_err-roll-clause-any_moment g c =
    let u = g.D.Disk.disk c.args.disk.now in
    let v = g.D.Disk.disk c.prepare.new.disk in
    let z = g.D.Disk.disk c.roll.new.disk in
    let p = c.in_ok-prepared.prepared in
    let ens = c.in_ok-prepared.ensures in
    whole.moments u v c.args.to c.prepare.ensures.any_moment z (entry_count p.kept.entries) p.length ens.kept p.broken (g.met.D.Disk.lawful c.args.disk.now) (g.met.D.Disk.lawful c.roll.new.disk) c.prepare.ensures.content ens.site ens.left c.roll.ensures.any_moment

pub returns-in_err-roll-clause-left : goal.returns-in_err-roll-clause-left
returns-in_err-roll-clause-left g c =
    let u = g.D.Disk.disk c.args.disk.now in
    let v = g.D.Disk.disk c.prepare.new.disk in
    let z = g.D.Disk.disk c.roll.new.disk in
    let p = c.in_ok-prepared.prepared in
    let ens = c.in_ok-prepared.ensures in
    whole.moments_with u v c.args.to c.prepare.ensures.any_moment z (entry_count p.kept.entries) p.length ens.kept p.broken (g.met.D.Disk.lawful c.args.disk.now) (g.met.D.Disk.lawful c.roll.new.disk) c.prepare.ensures.content ens.site ens.left c.roll.ensures.any_moment

pub returns-in_err-roll-clause-stands : goal.returns-in_err-roll-clause-stands
returns-in_err-roll-clause-stands g c =
    let u = g.D.Disk.disk c.args.disk.now in
    let v = g.D.Disk.disk c.prepare.new.disk in
    let z = g.D.Disk.disk c.roll.new.disk in
    let p = c.in_ok-prepared.prepared in
    let ens = c.in_ok-prepared.ensures in
    whole.stands u v c.args.to c.prepare.ensures.any_moment z (entry_count p.kept.entries) p.length ens.kept p.broken (g.met.D.Disk.lawful c.args.disk.now) (g.met.D.Disk.lawful c.roll.new.disk) c.prepare.ensures.content ens.site ens.left c.roll.ensures.any_moment

pub returns-clause-any_moment : goal.returns-clause-any_moment
returns-clause-any_moment g c =
    let u = g.D.Disk.disk c.args.disk.now in
    let v = g.D.Disk.disk c.prepare.new.disk in
    let z = g.D.Disk.disk c.roll.new.disk in
    let p = c.in_ok-prepared.prepared in
    let ens = c.in_ok-prepared.ensures in
    whole.moments u v c.args.to c.prepare.ensures.any_moment z (entry_count p.kept.entries) p.length ens.kept p.broken (g.met.D.Disk.lawful c.args.disk.now) (g.met.D.Disk.lawful c.roll.new.disk) c.prepare.ensures.content ens.site ens.left c.roll.ensures.any_moment

pub returns-clause-left : goal.returns-clause-left
returns-clause-left g c =
    let u = g.D.Disk.disk c.args.disk.now in
    let v = g.D.Disk.disk c.prepare.new.disk in
    let z = g.D.Disk.disk c.roll.new.disk in
    let p = c.in_ok-prepared.prepared in
    let ens = c.in_ok-prepared.ensures in
    whole.moments_with u v c.args.to c.prepare.ensures.any_moment z (entry_count p.kept.entries) p.length ens.kept p.broken (g.met.D.Disk.lawful c.args.disk.now) (g.met.D.Disk.lawful c.roll.new.disk) c.prepare.ensures.content ens.site ens.left c.roll.ensures.any_moment

pub returns-clause-stands : goal.returns-clause-stands
returns-clause-stands g c =
    let u = g.D.Disk.disk c.args.disk.now in
    let v = g.D.Disk.disk c.prepare.new.disk in
    let z = g.D.Disk.disk c.roll.new.disk in
    let p = c.in_ok-prepared.prepared in
    let ens = c.in_ok-prepared.ensures in
    whole.stands u v c.args.to c.prepare.ensures.any_moment z (entry_count p.kept.entries) p.length ens.kept p.broken (g.met.D.Disk.lawful c.args.disk.now) (g.met.D.Disk.lawful c.roll.new.disk) c.prepare.ensures.content ens.site ens.left c.roll.ensures.any_moment

pub returns-clause-told : goal.returns-clause-told
returns-clause-told g c =
    let u = g.D.Disk.disk c.args.disk.now in
    let v = g.D.Disk.disk c.prepare.new.disk in
    let z = g.D.Disk.disk c.roll.new.disk in
    let p = c.in_ok-prepared.prepared in
    let ens = c.in_ok-prepared.ensures in
    whole.told u v c.args.to c.prepare.ensures.any_moment z (entry_count p.kept.entries) p.length ens.kept p.broken (g.met.D.Disk.lawful c.args.disk.now) (g.met.D.Disk.lawful c.roll.new.disk) c.prepare.ensures.content ens.site ens.left c.in_ok-roll.ensures.done
