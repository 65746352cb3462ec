use Rattle.std.proofs.Common.{◌≡◌, Ok, subst, ◌∙◌, sym}
use Rattle.gvn_key.specs.KeyText.{subs_in}
use Rattle.gvn_key.proofs.Parsing.{named_reads}
use Rattle.gvn_key.proofs.parse.named.Goals as goal

pub returns : goal.returns
returns c = named_reads c.args.name.now c.args.tail.now c.deref.result.now c.new.result
    (sym c.is_name.ensures ∙ c.if-not-is_name.false) c.if-name-gt-LONGEST_NAME.false (subst (λ subs. subs_in c.args.tail.now ≡ Ok subs) (sym c.deref.ensures.value) c.in_ok-subs.ensures)
    c.new.ensures
