use Rattle.std.proofs.Common.{rules, ◌≡◌, Bool, true, false, nat_lt, Some, None, if◌then◌else◌, sym, ◌∙◌, ap, arith}
use Rattle.std.proofs.lemmas.Bool.Decides.{nat_tests}
use Rattle.std.specs.Option.{option_map}
use Rattle.jnl_record.specs.Values.{record_value}
use Rattle.mupip_recover.specs.Parts.{part_value, if_past}
use Rattle.mupip_recover.proofs.BrokenLaws.{past_is}
use Rattle.mupip_recover.proofs.broken.Past.part.Goals as goal

pub returns-in_err-part-clause-part : goal.returns-in_err-part-clause-part
returns-in_err-part-clause-part c = λ rs cuts.
    let none : c.from_residual.result ≡ None = search rules in
    ap (option_map part_value) none
    ∙ sym (past_is rs c.args.self.now.length c.args.placed.now.generation (record_value c.args.placed.now.what)
    ∙ ap (if_past c.args.self.now.length) (sym (c.surviving_part.ensures rs cuts) ∙ ap (option_map part_value) c.in_err-part.was))

pub returns-then-self-part-clause-part : goal.returns-then-self-part-clause-part
returns-then-self-part-clause-part c = λ rs cuts.
    let past : nat_lt c.args.self.now.length c.in_ok-part.part.number ≡ true = grind (arith, nat_tests) in
    sym (past_is rs c.args.self.now.length c.args.placed.now.generation (record_value c.args.placed.now.what)
    ∙ ap (if_past c.args.self.now.length) (sym (c.surviving_part.ensures rs cuts) ∙ ap (option_map part_value) c.in_ok-part.was)
    ∙ ap (λ (b : Bool). if b then Some (part_value c.in_ok-part.part) else None) past)

pub returns-else-self-part-clause-part : goal.returns-else-self-part-clause-part
returns-else-self-part-clause-part c = λ rs cuts.
    let within : nat_lt c.args.self.now.length c.in_ok-part.part.number ≡ false = grind (arith, nat_tests) in
    sym (past_is rs c.args.self.now.length c.args.placed.now.generation (record_value c.args.placed.now.what)
    ∙ ap (if_past c.args.self.now.length) (sym (c.surviving_part.ensures rs cuts) ∙ ap (option_map part_value) c.in_ok-part.was)
    ∙ ap (λ (b : Bool). if b then Some (part_value c.in_ok-part.part) else None) within)
