use Rattle.std.proofs.Common.{rules, ◌≡◌, ℕ, nat_eq, Bool, false, IsTrue, List, [], ◌∷◌, ◌++◌, Option, Some, None, IfSome, IsErrOf, inl, inr, refl, ◌∙◌, sym, subst, arith}
use Rattle.disk_defs.proofs.Frames.{reads_more}
use Rattle.jnl_file.specs.Reading.{IsNoRecord}
use Rattle.jnl_file.specs.Generations.{StopsAt}
use Rattle.jnl_file.specs.declared.error.JournalError.TheVariants.{NotARecord}
use Rattle.journal_defs.specs.Numbers.{journal_file}
use Rattle.entry_index.specs.Pieces.{FindsSign}
use Rattle.entry_index.specs.Generations.{MayJoin}
use Rattle.entry_index.specs.declared.placed.PlacedSign.{PlacedSign}
use Rattle.entry_index.specs.declared.sign.Sign.{Sign}
use Rattle.entry_index.proofs.Indexing.{Indexed, told_start, told_next, told_end, told_none, told_refused, told_file}
use Rattle.entry_index.proofs.generations.index_on.Goals as goal

untrue : (b : Bool) → b ≡ false → IsTrue b → ⊥
untrue b is true_of = cc (is, true_of)

pub loop-sign-init : goal.loop-sign-init
loop-sign-init g c = record {
  indexed = told_start (g.D.Disk.disk c.args.disk.now).content c.args.region c.args.generation c.args.previous c.args.into.now.items;
  began = inl refl;
  told = c.requires.told;
  same = refl;
  reads = search rules;
  faults = omega arith;
}

pub loop-sign-preserved : goal.loop-sign-preserved
loop-sign-preserved g c =
    let view = g.D.Disk.disk in
    let l = c.loop-sign in
    let inv = l.invariant in
    let v = view c.args.disk.now in
    let s : Sign = c.in-Some.sign in
    let p : PlacedSign = record { generation = c.args.generation; offset = l.at; sign = s } in
    let found = told_file v.content (view l.disk).content l.pieces.file (journal_file c.args.generation c.args.region) (λ bytes. FindsSign bytes l.at (Some (s, c.in-Some.next))) inv.reads.content (inv.same ∙ c.requires.file)
    (subst (λ (f : Option (Sign × ℕ)). IfSome (view l.disk).content (λ files. FindsSign (files l.pieces.file) l.at f)) c.in-Some.is c.in_ok-sign.ensures.found) in
    let may : MayJoin (nat_eq l.at 0) c.args.region c.args.generation c.args.previous s = c.may_join.ensures.0 c.if-not-may_join.false in
    let more : c.push.new.self.items ≡ l.into.items ++ p ∷ [] = search rules in
    record {
      indexed = subst (λ (ps : List PlacedSign). IfSome v.content (λ files. Indexed files c.args.region c.args.generation c.args.previous c.in-Some.next c.args.into.now.items ps c.args.generation)) (sym more)
          (told_next v.content c.args.region c.args.generation c.args.previous l.at c.args.into.now.items l.into.items l.began inv.indexed s c.in-Some.next found may);
      began = inr refl;
      told = c.in_ok-sign.ensures.told;
      same = c.find_sign.ensures.same ∙ inv.same;
      reads = reads_more v (view l.disk) (view c.find_sign.new.disk) (g.met.D.Disk.lawful c.args.disk.now) inv.reads c.find_sign.ensures.reads;
      faults = omega (arith, inv.faults, c.find_sign.ensures.faults.later);
    }

pub returns-in_err-sign-clause-stops : goal.returns-in_err-sign-clause-stops
returns-in_err-sign-clause-stops g c offset is =
    let view = g.D.Disk.disk in
    let l = c.loop-sign in
    let inv = l.invariant in
    let o = (view c.args.disk.now).content in
    let file = journal_file c.args.generation c.args.region in
    let failed : IsErrOf c.find_sign.result (NotARecord offset) = search (rules, is) in
    let here : offset ≡ l.at = c.find_sign.ensures.only_here offset failed in
    let none = told_file o (view l.disk).content l.pieces.file file (λ bytes. IsNoRecord bytes l.at) inv.reads.content (inv.same ∙ c.requires.file)
    (c.find_sign.ensures.outside (subst (λ (k : ℕ). IsErrOf c.find_sign.result (NotARecord k)) here failed)) in
    subst (λ (k : ℕ). IfSome o (λ files. StopsAt c.args.region c.args.generation c.args.previous (files file) k)) (sym here)
    (told_none o c.args.region c.args.generation c.args.previous l.at c.args.into.now.items l.into.items l.began inv.indexed none)

pub returns-then-not-may_join-clause-stops : goal.returns-then-not-may_join-clause-stops
returns-then-not-may_join-clause-stops g c offset is =
    let view = g.D.Disk.disk in
    let l = c.loop-sign in
    let inv = l.invariant in
    let o = (view c.args.disk.now).content in
    let file = journal_file c.args.generation c.args.region in
    let s : Sign = c.in-Some.sign in
    let here : offset ≡ l.at = search (rules, is) in
    let found = told_file o (view l.disk).content l.pieces.file file (λ bytes. FindsSign bytes l.at (Some (s, c.in-Some.next))) inv.reads.content (inv.same ∙ c.requires.file)
    (subst (λ (f : Option (Sign × ℕ)). IfSome (view l.disk).content (λ files. FindsSign (files l.pieces.file) l.at f)) c.in-Some.is c.in_ok-sign.ensures.found) in
    let refused : MayJoin (nat_eq l.at 0) c.args.region c.args.generation c.args.previous s → ⊥ = λ may. untrue c.may_join.result c.if-not-may_join.true (c.may_join.ensures.1 may) in
    subst (λ (k : ℕ). IfSome o (λ files. StopsAt c.args.region c.args.generation c.args.previous (files file) k)) (sym here)
    (told_refused o c.args.region c.args.generation c.args.previous l.at c.args.into.now.items l.into.items l.began inv.indexed s c.in-Some.next found refused)

pub returns-clause-read : goal.returns-clause-read
returns-clause-read g c =
    let view = g.D.Disk.disk in
    let l = c.loop-sign in
    let inv = l.invariant in
    let o = (view c.args.disk.now).content in
    let none : c.in_ok-sign.field-0 ≡ None = search rules in
    let found = told_file o (view l.disk).content l.pieces.file (journal_file c.args.generation c.args.region) (λ bytes. FindsSign bytes l.at None) inv.reads.content (inv.same ∙ c.requires.file)
    (subst (λ (f : Option (Sign × ℕ)). IfSome (view l.disk).content (λ files. FindsSign (files l.pieces.file) l.at f)) none c.in_ok-sign.ensures.found) in
    told_end o c.args.region c.args.generation c.args.previous l.at c.args.into.now.items l.into.items l.began inv.indexed found
