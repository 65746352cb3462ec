use Rattle.std.proofs.Common.{rules, ◌≡◌, ◌+◌, ◌++◌, ℕ, Option, take, drop, ◌∙◌, subst}
use Rattle.disk_defs.proofs.Told.{told_at, both_weak}
use Rattle.gated_file.specs.Reading.{BodyAt, HasBody}
use Rattle.gated_file.proofs.Gates.{body_found}
use Rattle.gated_file.proofs.gated.Gated.next_record.Goals as goal

pub returns-clause-found : goal.returns-clause-found
returns-clause-found g c =
    let n = c.in-Some.n in
    let at_gate = told_at _ _ (λ files. BodyAt (files c.args.self.now.file) c.args.at c.in_ok-n.field-0) c.len.ensures.reads.content c.in_ok-n.ensures.found in
    let bytes = told_at _ _ (λ files. c.in_ok-body.body.items ≡ take n (drop (c.args.at + 5) (files c.args.self.now.file))) (c.body_length.ensures.reads.content ∙ c.len.ensures.reads.content) c.in_ok-body.ensures.bytes in
    let pushed : c.push_all.new.self ≡ c.args.out.now ++ c.in_ok-body.body.items = search rules in
    both_weak _ (λ files. BodyAt (files c.args.self.now.file) c.args.at c.in_ok-n.field-0) (λ files. c.in_ok-body.body.items ≡ take n (drop (c.args.at + 5) (files c.args.self.now.file))) _ at_gate bytes
    (λ files here body.
    let has : HasBody (files c.args.self.now.file) c.args.at n = subst (λ (o : Option ℕ). BodyAt (files c.args.self.now.file) c.args.at o) c.in-Some.is here in
    body_found (files c.args.self.now.file) c.args.at n c.args.out.now c.push_all.new.self c.in_ok-body.body.items has body pushed)
