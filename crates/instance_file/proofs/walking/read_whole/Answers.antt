use Rattle.std.proofs.Common.{rules, ◌≡◌, inl, inr, ℕ, List, IfSome, sym, subst}
use Rattle.disk_defs.proofs.Told.{weaker_told}
use Rattle.journal_defs.specs.Instance.{InstanceRecord}
use Rattle.site_defs.specs.OutsideInstance.{HasWrongRecord}
use Rattle.instance_file.specs.Walks.{IsListed, IsWrongReign}
use Rattle.instance_file.proofs.Outside.{IsWrong, wrong_reign_of}
use Rattle.instance_file.proofs.walking.read_whole.Goals as goal

pub returns-in_err-records-clause-wrong : goal.returns-in_err-records-clause-wrong
returns-in_err-records-clause-wrong g c offset is =
    let o = (g.D.Disk.disk c.args.disk.now).content in
    let file = c.args.gated.now.file in
    weaker_told o (λ files. HasWrongRecord (files file) offset) (λ files. IsWrong (files file) offset) (c.read_log.ensures.wrong offset (search (rules, is))) (λ files w. inl w)

pub returns-then-not-starts_rise-clause-wrong : goal.returns-then-not-starts_rise-clause-wrong
returns-then-not-starts_rise-clause-wrong g c offset is =
    let o = (g.D.Disk.disk c.args.disk.now).content in
    let file = c.args.gated.now.file in
    let listed = c.in_ok-records.ensures.listed in
    let k = c.wrong_reign-offset.result in
    let here : offset ≡ k = search (rules, is) in
    let first : IsWrongReign c.in_ok-records.field-0.records c.deref-then-not-starts_rise-2.result.now k = subst (λ (l : List InstanceRecord). IsWrongReign l c.deref-then-not-starts_rise-2.result.now k) c.as_slice-then-not-starts_rise.ensures c.wrong_reign-offset.ensures in
    let wrong : IsWrongReign c.in_ok-records.field-0.records c.in_ok-records.field-0.places.items k = subst (λ (l : List ℕ). IsWrongReign c.in_ok-records.field-0.records l k) c.deref-then-not-starts_rise-2.ensures.value first in
    subst (λ (n : ℕ). IfSome o (λ files. IsWrong (files file) n)) (sym here)
    (weaker_told o (λ files. IsListed (files file) c.in_ok-records.field-0.records c.in_ok-records.field-0.places.items) (λ files. IsWrong (files file) k) listed
    (λ files listed. inr (wrong_reign_of (files file) c.in_ok-records.field-0.records c.in_ok-records.field-0.places.items k listed wrong)))
