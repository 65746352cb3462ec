use Rattle.std.proofs.Common.{rules, ◌≡◌, ℕ, ◌==◌, Bool, false, IsTrue, List, [], ◌∷◌, ◌++◌, length, length-append, Option, Some, None, IfSome, IsErrOf, refl, ◌∙◌, sym, subst, ap, arith}
use Rattle.disk_defs.specs.Gates.{Body, records}
use Rattle.disk_defs.proofs.Told.{weaker_told}
use Rattle.disk_defs.proofs.Frames.{reads_more}
use Rattle.instance_file.specs.Values.{record_value}
use Rattle.std.specs.List.{AllByRecursion}
use Rattle.journal_defs.specs.Instance.{IsInForm, generation}
use Rattle.instance_file.specs.Order.{MayStand, last_after}
use Rattle.instance_file.proofs.Orders.{stand_follows, generation_next}
use Rattle.instance_file.specs.Reading.{FindsRecord, IsNoRecord}
use Rattle.site_defs.specs.OutsideInstance.{HasWrongRecord}
use Rattle.instance_file.specs.declared.record.InstanceRecord.{InstanceRecord}
use Rattle.instance_file.specs.declared.error.InstanceError.TheVariants.{NotARecord}
use Rattle.instance_file.proofs.Passing.{Passed, passed_none, told_next, told_wrong, told_no_record, told_end}
use Rattle.gated_file.proofs.Listed.{told_same}
use Rattle.instance_file.proofs.walking.read_log.Goals as goal

all_push : {X : Type 0} → (P : X → Type 0) → (xs : List X) (x : X) → AllByRecursion P xs → P x → AllByRecursion P (xs ++ x ∷ [])
all_push P [] x all is = (is, tt)
all_push P (y ∷ ys) x all is = (all.0, all_push P ys x all.1 is)

some_is : {X : Type 0} → (P : X → Type 0) → (x : X) (o : Option X) → o ≡ Some x → IfSome o P → P x
some_is P x o is p = subst (λ y. IfSome y P) is p

untrue : (b : Bool) → b ≡ false → IsTrue b → ⊥
untrue b is true_of = cc (is, true_of)

pub loop-places-init : goal.loop-places-init
loop-places-init g c =
    let view = g.D.Disk.disk in
    let file = c.args.gated.now.file in
    record {
      passed = rw (c.new-records.ensures, c.new-places.ensures.items)
          (weaker_told (view c.args.disk.now).content (λ files. (bodies : List Body) × (records (files file) ≡ Some bodies)) (λ files. Passed (files file) 0 [] [] 0) c.requires.listed
          (λ files listed. passed_none (files file) listed.0 listed.1));
      ordered = rw c.new-records.ensures (record { create = tt; cuts = tt });
      form = rw c.new-records.ensures tt;
      last = rw c.new-records.ensures refl;
      many = search rules;
      same = refl;
      reads = search rules;
      faults = omega arith;
    }

pub returns-in_err-added-clause-wrong : goal.returns-in_err-added-clause-wrong
returns-in_err-added-clause-wrong g c offset is =
    let view = g.D.Disk.disk in
    let l = c.loop-places in
    let inv = l.invariant in
    let o = (view c.args.disk.now).content in
    let file = c.args.gated.now.file in
    let failed : IsErrOf c.read_record.result (NotARecord offset) = search (rules, is) in
    let here : offset ≡ l.at = c.read_record.ensures.only_here offset failed in
    let none = told_same o (view l.disk).content c.args.gated.now l.gated (λ bytes. IsNoRecord bytes l.at) inv.reads.content inv.same
    (c.read_record.ensures.outside (subst (λ (k : ℕ). IsErrOf c.read_record.result (NotARecord k)) here failed)) in
    subst (λ (k : ℕ). IfSome o (λ files. HasWrongRecord (files file) k)) (sym here)
    (told_no_record o file l.at l.records l.places.items l.generation inv.passed none)

pub returns-then-not-may_stand-clause-wrong : goal.returns-then-not-may_stand-clause-wrong
returns-then-not-may_stand-clause-wrong g c offset is =
    let view = g.D.Disk.disk in
    let l = c.loop-places in
    let inv = l.invariant in
    let o = (view c.args.disk.now).content in
    let file = c.args.gated.now.file in
    let x : InstanceRecord = c.in-Some.added in
    let here : offset ≡ l.at = search (rules, is) in
    let found = told_same o (view l.disk).content c.args.gated.now l.gated (λ bytes. FindsRecord bytes l.at (Some (x, c.in-Some.next))) inv.reads.content inv.same
    (subst (λ (f : Option (InstanceRecord × ℕ)). IfSome (view l.disk).content (λ files. FindsRecord (files l.gated.file) l.at f)) c.in-Some.is c.in_ok-added.ensures.found) in
    let refused : MayStand (length l.records == 0) l.generation (record_value x) → ⊥ =
    λ may. untrue c.may_stand.result c.if-not-may_stand.true (c.may_stand.ensures.1 (subst (λ (b : Bool). MayStand b l.generation (record_value x)) (sym c.is_empty.ensures) may)) in
    subst (λ (k : ℕ). IfSome o (λ files. HasWrongRecord (files file) k)) (sym here)
    (told_wrong o file l.at l.records l.places.items l.generation inv.passed x c.in-Some.next found refused)

pub loop-places-preserved : goal.loop-places-preserved
loop-places-preserved g c =
    let view = g.D.Disk.disk in
    let l = c.loop-places in
    let inv = l.invariant in
    let v = view c.args.disk.now in
    let file = c.args.gated.now.file in
    let x : InstanceRecord = c.in-Some.added in
    let found = told_same v.content (view l.disk).content c.args.gated.now l.gated (λ bytes. FindsRecord bytes l.at (Some (x, c.in-Some.next))) inv.reads.content inv.same
    (subst (λ (f : Option (InstanceRecord × ℕ)). IfSome (view l.disk).content (λ files. FindsRecord (files l.gated.file) l.at f)) c.in-Some.is c.in_ok-added.ensures.found) in
    let may : MayStand (length l.records == 0) l.generation (record_value x) = subst (λ (b : Bool). MayStand b l.generation (record_value x)) c.is_empty.ensures (c.may_stand.ensures.0 c.if-not-may_stand.false) in
    let stands : MayStand (length l.records == 0) (generation l.records) (record_value x) = subst (λ (k : ℕ). MayStand (length l.records == 0) k (record_value x)) (sym inv.last) may in
    let more : c.push.new.self.items ≡ l.places.items ++ l.at ∷ [] = search rules in
    record {
      passed = rw (c.in_ok-push.ensures.ok, more, c.generation_after-generation.ensures) (told_next v.content file l.at l.records l.places.items l.generation inv.passed x c.in-Some.next found may);
      ordered = rw c.in_ok-push.ensures.ok (stand_follows l.records (record_value x) inv.ordered stands);
      form = rw c.in_ok-push.ensures.ok (all_push IsInForm l.records (record_value x) inv.form (some_is (λ (read : InstanceRecord × ℕ). IsInForm (record_value read.0)) (x, c.in-Some.next) c.in_ok-added.field-0 c.in-Some.is c.in_ok-added.ensures.form));
      last = rw (c.in_ok-push.ensures.ok, c.generation_after-generation.ensures) (generation_next l.records (record_value x) stands ∙ ap (λ (k : ℕ). last_after k (record_value x)) inv.last);
      many = omega (arith, inv.many, ap length more, ap length c.in_ok-push.ensures.ok, length-append l.places.items (l.at ∷ []), length-append l.records (record_value x ∷ []));
      same = c.read_record.ensures.same ∙ inv.same;
      reads = reads_more v (view l.disk) (view c.read_record.new.disk) (g.met.D.Disk.lawful c.args.disk.now) inv.reads c.read_record.ensures.reads;
      faults = omega (arith, inv.faults, c.read_record.ensures.faults.later);
    }

pub returns-clause-listed : goal.returns-clause-listed
returns-clause-listed g c =
    let view = g.D.Disk.disk in
    let l = c.loop-places in
    let inv = l.invariant in
    let o = (view c.args.disk.now).content in
    let file = c.args.gated.now.file in
    let none : c.in_ok-added.field-0 ≡ None = search rules in
    let found = told_same o (view l.disk).content c.args.gated.now l.gated (λ bytes. FindsRecord bytes l.at None) inv.reads.content inv.same
    (subst (λ (f : Option (InstanceRecord × ℕ)). IfSome (view l.disk).content (λ files. FindsRecord (files l.gated.file) l.at f)) none c.in_ok-added.ensures.found) in
    told_end o file l.at l.records l.places.items l.generation inv.passed found
