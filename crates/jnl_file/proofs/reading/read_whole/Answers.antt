use Rattle.std.proofs.Common.{rules, ◌≡◌, ℕ, nat_eq, Bool, false, IsTrue, List, Option, Some, None, IfSome, IsErrOf, refl, ◌∙◌, sym, subst, arith}
use Rattle.disk_defs.specs.Gates.{Body, records}
use Rattle.disk_defs.proofs.Told.{weaker_told}
use Rattle.disk_defs.proofs.Frames.{reads_more}
use Rattle.jnl_record.specs.Values.{record_value}
use Rattle.jnl_record.specs.declared.record.JnlRecord.{JnlRecord}
use Rattle.jnl_file.specs.Reading.{FindsRecord, IsNoRecord, MayStand}
use Rattle.site_defs.specs.OutsideJournal.{HasWrongRecord}
use Rattle.jnl_file.specs.declared.error.JournalError.TheVariants.{NotARecord}
use Rattle.jnl_file.proofs.Walk.{Walked, walked_start, told_next, told_wrong, told_none, told_end}
use Rattle.gated_file.proofs.Listed.{told_same}
use Rattle.jnl_file.proofs.reading.read_whole.Goals as goal

untrue : (b : Bool) → b ≡ false → IsTrue b → ⊥
untrue b is true_of = cc (is, true_of)

pub loop-body-init : goal.loop-body-init
loop-body-init g c =
    let view = g.D.Disk.disk in
    let file = c.args.gated.now.file in
    record {
      walked = weaker_told (view c.args.disk.now).content (λ files. (bodies : List Body) × (records (files file) ≡ Some bodies)) (λ files. Walked c.args.region c.args.generation (files file) 0) c.requires.listed
          (λ files listed. walked_start c.args.region c.args.generation (files file) listed.0 listed.1);
      same = refl;
      reads = search rules;
      faults = omega arith;
    }

pub returns-in_err-record-clause-wrong : goal.returns-in_err-record-clause-wrong
returns-in_err-record-clause-wrong g c offset is =
    let view = g.D.Disk.disk in
    let inv = c.loop-body.invariant in
    let o = (view c.args.disk.now).content in
    let file = c.args.gated.now.file in
    let at = c.loop-body.at in
    let failed : IsErrOf c.read_record.result (NotARecord offset) = search (rules, is) in
    let here : offset ≡ at = c.read_record.ensures.only_here offset failed in
    let none = told_same o (view c.loop-body.disk).content c.args.gated.now c.loop-body.gated (λ bytes. IsNoRecord bytes at) inv.reads.content inv.same
    (c.read_record.ensures.outside (subst (λ (k : ℕ). IsErrOf c.read_record.result (NotARecord k)) here failed)) in
    subst (λ (k : ℕ). IfSome o (λ files. HasWrongRecord c.args.region c.args.generation (files file) k)) (sym here)
    (told_none o file c.args.region c.args.generation at inv.walked none)

pub returns-then-not-may_stand-clause-wrong : goal.returns-then-not-may_stand-clause-wrong
returns-then-not-may_stand-clause-wrong g c offset is =
    let view = g.D.Disk.disk in
    let inv = c.loop-body.invariant in
    let o = (view c.args.disk.now).content in
    let file = c.args.gated.now.file in
    let at = c.loop-body.at in
    let x : JnlRecord = c.in-Some.record in
    let here : offset ≡ at = search (rules, is) in
    let found = told_same o (view c.loop-body.disk).content c.args.gated.now c.loop-body.gated (λ bytes. FindsRecord bytes at (Some (x, c.in-Some.next))) inv.reads.content inv.same
    (subst (λ (f : Option (JnlRecord × ℕ)). IfSome (view c.loop-body.disk).content (λ files. FindsRecord (files c.loop-body.gated.file) at f)) c.in-Some.is c.in_ok-record.ensures.found) in
    let refused : MayStand (nat_eq at 0) c.args.region c.args.generation (record_value x) → ⊥ = λ may. untrue c.may_stand.result c.if-not-may_stand.true (c.may_stand.ensures.1 may) in
    subst (λ (k : ℕ). IfSome o (λ files. HasWrongRecord c.args.region c.args.generation (files file) k)) (sym here)
    (told_wrong o file c.args.region c.args.generation at c.in-Some.next x inv.walked found refused)

pub loop-body-preserved : goal.loop-body-preserved
loop-body-preserved g c =
    let view = g.D.Disk.disk in
    let inv = c.loop-body.invariant in
    let v = view c.args.disk.now in
    let file = c.args.gated.now.file in
    let at = c.loop-body.at in
    let x : JnlRecord = c.in-Some.record in
    let found = told_same v.content (view c.loop-body.disk).content c.args.gated.now c.loop-body.gated (λ bytes. FindsRecord bytes at (Some (x, c.in-Some.next))) inv.reads.content inv.same
    (subst (λ (f : Option (JnlRecord × ℕ)). IfSome (view c.loop-body.disk).content (λ files. FindsRecord (files c.loop-body.gated.file) at f)) c.in-Some.is c.in_ok-record.ensures.found) in
    let may : MayStand (nat_eq at 0) c.args.region c.args.generation (record_value x) = c.may_stand.ensures.0 c.if-not-may_stand.false in
    record {
      walked = told_next v.content file c.args.region c.args.generation at c.in-Some.next x inv.walked found may;
      same = c.read_record.ensures.same ∙ inv.same;
      reads = reads_more v (view c.loop-body.disk) (view c.read_record.new.disk) (g.met.D.Disk.lawful c.args.disk.now) inv.reads c.read_record.ensures.reads;
      faults = omega (arith, inv.faults, c.read_record.ensures.faults.later);
    }

pub returns-clause-whole : goal.returns-clause-whole
returns-clause-whole g c =
    let view = g.D.Disk.disk in
    let inv = c.loop-body.invariant in
    let o = (view c.args.disk.now).content in
    let file = c.args.gated.now.file in
    let at = c.loop-body.at in
    let none : c.in_ok-record.field-0 ≡ None = search rules in
    let found = told_same o (view c.loop-body.disk).content c.args.gated.now c.loop-body.gated (λ bytes. FindsRecord bytes at None) inv.reads.content inv.same
    (subst (λ (f : Option (JnlRecord × ℕ)). IfSome (view c.loop-body.disk).content (λ files. FindsRecord (files c.loop-body.gated.file) at f)) none c.in_ok-record.ensures.found) in
    told_end o file c.args.region c.args.generation at inv.walked found
