use Rattle.std.proofs.Common.{sym, ◌∙◌}
use Rattle.gvn_key.proofs.CodeParts.{whole_found}
use Rattle.gvn_key.proofs.Texts.{whole_text}
use Rattle.gvn_key.proofs.plain.whole_size.Goals as goal

pub returns-then-is_whole_number-clause-whole : goal.returns-then-is_whole_number-clause-whole
returns-then-is_whole_number-clause-whole c =
    whole_found c.args.bytes.now c.in_ok-end-in-len1-up.end c.in-len1-up.len_at_least (sym c.in_ok-end-in-len1-up.ensures.place) c.if-rest-end-eq0.true (sym c.is_whole_number.ensures ∙ c.if-is_whole_number.true)

pub returns-then-is_whole_number-clause-text : goal.returns-then-is_whole_number-clause-text
returns-then-is_whole_number-clause-text c =
    whole_text c.args.bytes.now c.in_ok-end-in-len1-up.end c.in-len1-up.len_at_least (sym c.in_ok-end-in-len1-up.ensures.place) c.if-rest-end-eq0.true (sym c.is_whole_number.ensures ∙ c.if-is_whole_number.true)
