use Rattle.std.proofs.Common.{rules, inl, inr, ℕ, List, IfSome, subst}
use Rattle.disk_defs.specs.Disk.{Image}
use Rattle.disk_defs.proofs.Told.{weaker_told, told_at}
use Rattle.disk_defs.proofs.Moments.{nothing_new, read_only}
use Rattle.disk_defs.specs.OutsideGates.{IsOutside}
use Rattle.journal_defs.specs.Numbers.{INSTANCE}
use Rattle.journal_defs.specs.Instance.{InstanceRecord}
use Rattle.journal_defs.specs.Stands.{IsInstance}
use Rattle.site_defs.specs.OutsideInstance.{IsOutsideInstance}
use Rattle.instance_file.proofs.Outside.{IsWrong, wrong_none}
use Rattle.instance_file.proofs.Logs.{outside_no_list}
use Rattle.instance_file.proofs.log.InstanceLog.read.Goals as goal

pub returns-in_err-see_gates-clause-outside : goal.returns-in_err-see_gates-clause-outside
returns-in_err-see_gates-clause-outside g c offset is =
    let view = g.D.Disk.disk in
    told_at (view c.args.disk.now).content (view c.sync_file.new.disk).content (λ files. IsOutsideInstance (files INSTANCE) offset) c.sync_file.ensures.content
    (weaker_told (view c.sync_file.new.disk).content (λ files. IsOutside (files INSTANCE) offset) (λ files. IsOutsideInstance (files INSTANCE) offset)
    (c.see_gates.ensures.outside offset (search (rules, is))) (λ files out. inl out))

pub returns-in_err-see_gates-clause-no_list : goal.returns-in_err-see_gates-clause-no_list
returns-in_err-see_gates-clause-no_list g c offset is =
    let view = g.D.Disk.disk in
    told_at (view c.args.disk.now).content (view c.sync_file.new.disk).content (λ files. (rs : List InstanceRecord) → IsInstance (files INSTANCE) rs → ⊥) c.sync_file.ensures.content
    (weaker_told (view c.sync_file.new.disk).content (λ files. IsOutside (files INSTANCE) offset) (λ files. (rs : List InstanceRecord) → IsInstance (files INSTANCE) rs → ⊥)
    (c.see_gates.ensures.outside offset (search (rules, is))) (λ files out. outside_no_list (files INSTANCE) offset out))

pub returns-in_err-records-clause-outside : goal.returns-in_err-records-clause-outside
returns-in_err-records-clause-outside g c offset is =
    let view = g.D.Disk.disk in
    let first = told_at (view c.sync_file.new.disk).content (view c.see_gates.new.disk).content (λ files. IsWrong (files c.reading.result.file) offset) c.see_gates.ensures.reads.content
    (c.read_whole.ensures.wrong offset (search (rules, is))) in
    let there = subst (λ (n : ℕ). IfSome (view c.sync_file.new.disk).content (λ files. IsWrong (files n) offset)) c.reading.ensures first in
    told_at (view c.args.disk.now).content (view c.sync_file.new.disk).content (λ files. IsOutsideInstance (files INSTANCE) offset) c.sync_file.ensures.content
    (weaker_told (view c.sync_file.new.disk).content (λ files. IsWrong (files INSTANCE) offset) (λ files. IsOutsideInstance (files INSTANCE) offset)
    there (λ files wrong. inr wrong))

pub returns-in_err-records-clause-no_list : goal.returns-in_err-records-clause-no_list
returns-in_err-records-clause-no_list g c offset is =
    let view = g.D.Disk.disk in
    let first = told_at (view c.sync_file.new.disk).content (view c.see_gates.new.disk).content (λ files. IsWrong (files c.reading.result.file) offset) c.see_gates.ensures.reads.content
    (c.read_whole.ensures.wrong offset (search (rules, is))) in
    let there = subst (λ (n : ℕ). IfSome (view c.sync_file.new.disk).content (λ files. IsWrong (files n) offset)) c.reading.ensures first in
    told_at (view c.args.disk.now).content (view c.sync_file.new.disk).content (λ files. (rs : List InstanceRecord) → IsInstance (files INSTANCE) rs → ⊥) c.sync_file.ensures.content
    (weaker_told (view c.sync_file.new.disk).content (λ files. IsWrong (files INSTANCE) offset) (λ files. (rs : List InstanceRecord) → IsInstance (files INSTANCE) rs → ⊥)
    there (λ files wrong. wrong_none (files INSTANCE) offset wrong))

pub returns-clause-any_moment : goal.returns-clause-any_moment
returns-clause-any_moment g c =
    let view = g.D.Disk.disk in
    let u = view c.args.disk.now in
    let v = view c.sync_file.new.disk in
    let w = view c.see_gates.new.disk in
    let x = view c.read_whole.new.disk in
    let first = nothing_new u v w (Image u) (g.met.D.Disk.lawful c.sync_file.new.disk) c.sync_file.ensures.any_moment (read_only v w c.see_gates.ensures.reads) in
    nothing_new u w x (Image u) (g.met.D.Disk.lawful c.see_gates.new.disk) first (read_only w x c.read_whole.ensures.reads)
