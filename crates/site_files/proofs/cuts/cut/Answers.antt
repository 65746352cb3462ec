use Rattle.std.proofs.Common.{◌≡◌, ℕ, ◌+◌, List, ap, subst, arith}
use Rattle.disk_defs.specs.Disk.{AtEachMoment}
use Rattle.disk_defs.specs.Frames.{Only, OnlyOn}
use Rattle.disk_defs.proofs.Frames.{others_then}
use Rattle.journal_defs.specs.Numbers.{INSTANCE}
use Rattle.journal_defs.specs.Instance.{InstanceRecord, Cut, generation}
use Rattle.instance_file.specs.Instance.{HasRecords, StandsWith}
use Rattle.site_files.specs.Loading.{next_cut}
use Rattle.site_files.proofs.Cutting.{cut_stands}
use Rattle.site_files.proofs.cuts.cut.Goals as goal

pub returns-in-Ok-cut-clause-any_moment : goal.returns-in-Ok-cut-clause-any_moment
returns-in-Ok-cut-clause-any_moment g c =
    let view = g.D.Disk.disk in
    let u = view c.args.disk.now in
    let v = view c.open.new.disk in
    let w = view c.cut.new.disk in
    let rs = c.args.log.records in
    let n : c.args.next ≡ generation rs + 1 = (let e = c.requires.next in omega (arith, e)) in
    let same : Cut c.args.length c.args.next ≡ next_cut rs c.args.length = ap (λ (k : ℕ). Cut c.args.length k) n in
    cut_stands u v rs (next_cut rs c.args.length) c.requires.stands c.requires.durable c.open.ensures.any_moment w c.in-Ok.instance (g.met.D.Disk.lawful c.open.new.disk) c.in-Ok.ensures.state
    (subst (λ (x : InstanceRecord). (qs : List InstanceRecord) → HasRecords v c.in-Ok.instance qs → AtEachMoment v w (OnlyOn v INSTANCE (StandsWith qs x))) same c.cut.ensures.any_moment)

pub returns-in-Ok-cut-clause-frame : goal.returns-in-Ok-cut-clause-frame
returns-in-Ok-cut-clause-frame g c =
    let view = g.D.Disk.disk in
    others_then (Only INSTANCE) (view c.args.disk.now) (view c.open.new.disk) (view c.cut.new.disk) c.open.ensures.frame c.cut.ensures.frame

pub returns-in-Err-cut-clause-any_moment : goal.returns-in-Err-cut-clause-any_moment
returns-in-Err-cut-clause-any_moment g c =
    let view = g.D.Disk.disk in
    let u = view c.args.disk.now in
    let v = view c.open.new.disk in
    let w = view c.cut.new.disk in
    let rs = c.args.log.records in
    let n : c.args.next ≡ generation rs + 1 = (let e = c.requires.next in omega (arith, e)) in
    let same : Cut c.args.length c.args.next ≡ next_cut rs c.args.length = ap (λ (k : ℕ). Cut c.args.length k) n in
    cut_stands u v rs (next_cut rs c.args.length) c.requires.stands c.requires.durable c.open.ensures.any_moment w c.in-Ok.instance (g.met.D.Disk.lawful c.open.new.disk) c.in-Ok.ensures.state
    (subst (λ (x : InstanceRecord). (qs : List InstanceRecord) → HasRecords v c.in-Ok.instance qs → AtEachMoment v w (OnlyOn v INSTANCE (StandsWith qs x))) same c.cut.ensures.any_moment)
