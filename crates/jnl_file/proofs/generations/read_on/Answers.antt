use Rattle.std.proofs.Common.{rules, ◌≡◌, ℕ, nat_eq, Bool, false, IsTrue, List, [], ◌∷◌, ◌++◌, map, Option, Some, None, IfSome, IsErrOf, inl, inr, refl, ◌∙◌, sym, subst, ap, arith}
use Rattle.std.proofs.lemmas.List.{map-append}
use Rattle.std.specs.List.{AllByRecursion}
use Rattle.disk_defs.proofs.Frames.{reads_more}
use Rattle.journal_defs.specs.Sequence.{Placed}
use Rattle.journal_defs.specs.Stands.{in_generation}
use Rattle.jnl_record.specs.Values.{record_value, placed_value}
use Rattle.jnl_record.specs.declared.record.JnlRecord.{JnlRecord}
use Rattle.jnl_record.specs.declared.placed.PlacedRecord.{PlacedRecord}
use Rattle.jnl_file.specs.Reading.{FindsRecord, IsReadRecord, IsNoRecord}
use Rattle.jnl_file.specs.Generations.{MayJoin, StopsAt}
use Rattle.jnl_file.specs.declared.error.JournalError.TheVariants.{NotARecord}
use Rattle.journal_laws.proofs.ImageSteps.{all_both}
use Rattle.gated_file.proofs.Listed.{told_same}
use Rattle.jnl_file.specs.Newer.{Reached}
use Rattle.jnl_file.proofs.Newer.{all_told, reached_start, told_reached, told_ended, told_no_record, told_refused}
use Rattle.jnl_file.proofs.generations.read_on.Goals as goal

untrue : (b : Bool) → b ≡ false → IsTrue b → ⊥
untrue b is true_of = cc (is, true_of)

pub loop-body-init : goal.loop-body-init
loop-body-init g c =
    let o = (g.D.Disk.disk c.args.disk.now).content in
    let list = map placed_value c.args.into.now.items in
    record {
      reached = all_told o (λ files. Reached c.args.region c.args.generation c.args.previous (files c.args.gated.now.file) 0 list list c.args.previous)
          (λ files. reached_start c.args.region c.args.generation c.args.previous (files c.args.gated.now.file) list);
      form = λ all. all;
      began = inl refl;
      same = refl;
      reads = search rules;
      faults = omega arith;
    }

pub loop-body-preserved : goal.loop-body-preserved
loop-body-preserved g c =
    let view = g.D.Disk.disk in
    let l = c.loop-body in
    let inv = l.invariant in
    let v = view c.args.disk.now in
    let file = c.args.gated.now.file in
    let x : JnlRecord = c.in-Some.what in
    let p : PlacedRecord = record { generation = c.args.generation; what = x } in
    let found = told_same v.content (view l.disk).content c.args.gated.now l.gated (λ bytes. FindsRecord bytes l.at (Some (x, c.in-Some.next))) inv.reads.content inv.same
    (subst (λ (f : Option (JnlRecord × ℕ)). IfSome (view l.disk).content (λ files. FindsRecord (files l.gated.file) l.at f)) c.in-Some.is c.in_ok-what.ensures.found) in
    let may : MayJoin (nat_eq l.at 0) c.args.region c.args.generation c.args.previous (record_value x) = c.may_join.ensures.0 c.if-not-may_join.false in
    let more : c.push.new.self.items ≡ l.into.items ++ p ∷ [] = search rules in
    let first : IsReadRecord x = (subst (λ (f : Option (JnlRecord × ℕ)). IfSome f (λ read. IsReadRecord read.0)) c.in-Some.is c.in_ok-what.ensures.form) in
    let mapped : map placed_value c.push.new.self.items ≡ map placed_value l.into.items ++ in_generation c.args.generation (record_value x) ∷ [] = ap (map placed_value) more ∙ map-append placed_value l.into.items (p ∷ []) in
    record {
      reached = subst (λ (ps : List Placed). IfSome v.content (λ files. Reached c.args.region c.args.generation c.args.previous (files file) c.in-Some.next (map placed_value c.args.into.now.items) ps c.args.generation)) (sym mapped)
          (told_reached v.content file c.args.region c.args.generation c.args.previous l.at (map placed_value c.args.into.now.items) (map placed_value l.into.items) l.began inv.reached x c.in-Some.next found may);
      form = λ all. subst (AllByRecursion (λ (q : PlacedRecord). IsReadRecord q.what)) (sym more) (all_both (λ (q : PlacedRecord). IsReadRecord q.what) l.into.items (p ∷ []) (inv.form all) (first, tt));
      began = inr refl;
      same = c.read_record.ensures.same ∙ inv.same;
      reads = reads_more v (view l.disk) (view c.read_record.new.disk) (g.met.D.Disk.lawful c.args.disk.now) inv.reads c.read_record.ensures.reads;
      faults = omega (arith, inv.faults, c.read_record.ensures.faults.later);
    }

pub returns-in_err-what-clause-stops : goal.returns-in_err-what-clause-stops
returns-in_err-what-clause-stops g c offset is =
    let view = g.D.Disk.disk in
    let l = c.loop-body in
    let inv = l.invariant in
    let o = (view c.args.disk.now).content in
    let file = c.args.gated.now.file in
    let failed : IsErrOf c.read_record.result (NotARecord offset) = search (rules, is) in
    let here : offset ≡ l.at = c.read_record.ensures.only_here offset failed in
    let none = told_same o (view l.disk).content c.args.gated.now l.gated (λ bytes. IsNoRecord bytes l.at) inv.reads.content inv.same
    (c.read_record.ensures.outside (subst (λ (k : ℕ). IsErrOf c.read_record.result (NotARecord k)) here failed)) in
    subst (λ (k : ℕ). IfSome o (λ files. StopsAt c.args.region c.args.generation c.args.previous (files file) k)) (sym here)
    (told_no_record o file c.args.region c.args.generation c.args.previous l.at (map placed_value c.args.into.now.items) (map placed_value l.into.items) l.began inv.reached none)

pub returns-then-not-may_join-clause-stops : goal.returns-then-not-may_join-clause-stops
returns-then-not-may_join-clause-stops g c offset is =
    let view = g.D.Disk.disk in
    let l = c.loop-body in
    let inv = l.invariant in
    let o = (view c.args.disk.now).content in
    let file = c.args.gated.now.file in
    let x : JnlRecord = c.in-Some.what in
    let here : offset ≡ l.at = search (rules, is) in
    let found = told_same o (view l.disk).content c.args.gated.now l.gated (λ bytes. FindsRecord bytes l.at (Some (x, c.in-Some.next))) inv.reads.content inv.same
    (subst (λ (f : Option (JnlRecord × ℕ)). IfSome (view l.disk).content (λ files. FindsRecord (files l.gated.file) l.at f)) c.in-Some.is c.in_ok-what.ensures.found) in
    let refused : MayJoin (nat_eq l.at 0) c.args.region c.args.generation c.args.previous (record_value x) → ⊥ = λ may. untrue c.may_join.result c.if-not-may_join.true (c.may_join.ensures.1 may) in
    subst (λ (k : ℕ). IfSome o (λ files. StopsAt c.args.region c.args.generation c.args.previous (files file) k)) (sym here)
    (told_refused o file c.args.region c.args.generation c.args.previous l.at (map placed_value c.args.into.now.items) (map placed_value l.into.items) l.began inv.reached x c.in-Some.next found refused)

pub returns-clause-read : goal.returns-clause-read
returns-clause-read g c =
    let view = g.D.Disk.disk in
    let l = c.loop-body in
    let inv = l.invariant in
    let o = (view c.args.disk.now).content in
    let none : c.in_ok-what.field-0 ≡ None = search rules in
    let found = told_same o (view l.disk).content c.args.gated.now l.gated (λ bytes. FindsRecord bytes l.at None) inv.reads.content inv.same
    (subst (λ (f : Option (JnlRecord × ℕ)). IfSome (view l.disk).content (λ files. FindsRecord (files l.gated.file) l.at f)) none c.in_ok-what.ensures.found) in
    told_ended o c.args.gated.now.file c.args.region c.args.generation c.args.previous l.at (map placed_value c.args.into.now.items) (map placed_value l.into.items) l.began inv.reached found
