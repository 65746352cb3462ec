use Rattle.std.proofs.Common.{rules, inl, inr, List, refl, ◌∙◌, ap}
use Rattle.disk_defs.specs.Disk.{AtEachMoment}
use Rattle.disk_defs.specs.Frames.{Only}
use Rattle.disk_defs.proofs.Told.{weaker_told}
use Rattle.disk_defs.proofs.Moments.{nothing_new, read_only}
use Rattle.disk_defs.proofs.Frames.{others_read, others_then}
use Rattle.gated_file.specs.Begin.{KeepsRecords}
use Rattle.disk_defs.specs.OutsideGates.{IsOutside}
use Rattle.gated_file.specs.declared.gated.Gated.{Gated}
use Rattle.journal_defs.specs.Numbers.{INSTANCE}
use Rattle.journal_defs.specs.Instance.{InstanceRecord}
use Rattle.journal_defs.specs.Stands.{IsInstance}
use Rattle.site_defs.specs.OutsideInstance.{IsOutsideInstance}
use Rattle.instance_file.proofs.Outside.{IsWrong, wrong_as, wrong_none, instance_as}
use Rattle.instance_file.proofs.Making.{taken_back, taken_records, ready_made, ready_read}
use Rattle.instance_file.proofs.instance.Instance.attach.Goals as goal

pub returns-in_err-gated-clause-outside : goal.returns-in_err-gated-clause-outside
returns-in_err-gated-clause-outside g c offset is =
    let o = (g.D.Disk.disk c.args.disk.now).content in
    weaker_told o (λ files. IsOutside (files INSTANCE) offset) (λ files. IsOutsideInstance (files INSTANCE) offset) (c.attach.ensures.outside offset (search (rules, is))) (λ files out. inl out)

pub returns-in_err-records-clause-outside : goal.returns-in_err-records-clause-outside
returns-in_err-records-clause-outside g c offset is =
    let view = g.D.Disk.disk in
    let o = (view c.args.disk.now).content in
    let made : Gated = c.in_ok-gated.gated in
    let wrong = taken_back o (view c.attach.new.disk) made INSTANCE (λ bytes. IsWrong bytes offset) (λ old new same w. wrong_as old new offset same w) c.in_ok-gated.ensures.state (c.read_whole.ensures.wrong offset (search (rules, is))) in
    weaker_told o (λ files. IsWrong (files INSTANCE) offset) (λ files. IsOutsideInstance (files INSTANCE) offset) wrong (λ files w. inr w)

pub returns-in_err-records-clause-no_list : goal.returns-in_err-records-clause-no_list
returns-in_err-records-clause-no_list g c offset is =
    let view = g.D.Disk.disk in
    let o = (view c.args.disk.now).content in
    let made : Gated = c.in_ok-gated.gated in
    let wrong = taken_back o (view c.attach.new.disk) made INSTANCE (λ bytes. IsWrong bytes offset) (λ old new same w. wrong_as old new offset same w) c.in_ok-gated.ensures.state (c.read_whole.ensures.wrong offset (search (rules, is))) in
    weaker_told o (λ files. IsWrong (files INSTANCE) offset) (λ files. (rs : List InstanceRecord) → IsInstance (files INSTANCE) rs → ⊥) wrong (λ files w. wrong_none (files INSTANCE) offset w)

pub returns-in_err-records-clause-any_moment : goal.returns-in_err-records-clause-any_moment
returns-in_err-records-clause-any_moment g c =
    let view = g.D.Disk.disk in
    let u = view c.args.disk.now in
    let v = view c.attach.new.disk in
    let w = view c.read_whole.new.disk in
    weaker_told u.content (λ files. AtEachMoment u v (KeepsRecords u INSTANCE)) (λ files. AtEachMoment u w (KeepsRecords u INSTANCE)) c.attach.ensures.any_moment
    (λ files run. nothing_new u v w (KeepsRecords u INSTANCE) (g.met.D.Disk.lawful c.attach.new.disk) run (read_only v w c.read_whole.ensures.reads))

pub returns-clause-any_moment : goal.returns-clause-any_moment
returns-clause-any_moment g c =
    let view = g.D.Disk.disk in
    let u = view c.args.disk.now in
    let v = view c.attach.new.disk in
    let w = view c.read_whole.new.disk in
    weaker_told u.content (λ files. AtEachMoment u v (KeepsRecords u INSTANCE)) (λ files. AtEachMoment u w (KeepsRecords u INSTANCE)) c.attach.ensures.any_moment
    (λ files run. nothing_new u v w (KeepsRecords u INSTANCE) (g.met.D.Disk.lawful c.attach.new.disk) run (read_only v w c.read_whole.ensures.reads))

pub returns-clause-reads : goal.returns-clause-reads
returns-clause-reads g c =
    let view = g.D.Disk.disk in
    let o = (view c.args.disk.now).content in
    let rs = c.in_ok-records.records in
    taken_back o (view c.attach.new.disk) c.in_ok-gated.gated INSTANCE (λ bytes. IsInstance bytes rs) (λ old new same i. instance_as old new rs same i) c.in_ok-gated.ensures.state c.in_ok-records.ensures.whole

pub returns-clause-state : goal.returns-clause-state
returns-clause-state g c =
    let view = g.D.Disk.disk in
    taken_records (view c.args.disk.now).content (view c.attach.new.disk) (view c.read_whole.new.disk) c.in_ok-gated.gated _ c.in_ok-records.records INSTANCE
    c.read_whole.ensures.reads c.read_whole.ensures.same c.in_ok-gated.ensures.file refl c.in_ok-gated.ensures.state c.in_ok-records.ensures.whole

pub returns-clause-ready : goal.returns-clause-ready
returns-clause-ready g c =
    let view = g.D.Disk.disk in
    let u = view c.args.disk.now in
    let v = view c.attach.new.disk in
    let w = view c.read_whole.new.disk in
    let made : Gated = c.in_ok-gated.gated in
    let frame = others_then (Only INSTANCE) u v w c.attach.ensures.frame (others_read (Only INSTANCE) v w c.read_whole.ensures.reads) in
    ready_made u w (Only INSTANCE) _ c.in_ok-records.records frame (ap (λ (x : Gated). x.file) c.read_whole.ensures.same ∙ c.in_ok-gated.ensures.file)
    (ready_read v w made c.read_whole.new.gated c.read_whole.ensures.reads c.read_whole.ensures.same c.in_ok-gated.ensures.ready) refl
    (taken_records u.content v w made _ c.in_ok-records.records INSTANCE c.read_whole.ensures.reads c.read_whole.ensures.same c.in_ok-gated.ensures.file refl c.in_ok-gated.ensures.state c.in_ok-records.ensures.whole)
