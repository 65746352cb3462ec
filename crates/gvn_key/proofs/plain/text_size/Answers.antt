use Rattle.std.proofs.Common.{sym, ◌∙◌, arith}
use Rattle.gvn_key.proofs.CodeParts.{text_begins}
use Rattle.gvn_key.proofs.Texts.{text_text}
use Rattle.gvn_key.proofs.plain.text_size.Goals as goal

pub returns-then-not-begins_numeral-clause-text : goal.returns-then-not-begins_numeral-clause-text
returns-then-not-begins_numeral-clause-text c =
    text_begins c.args.bytes.now c.in_ok-end.end (sym c.in_ok-end.ensures.place) c.if-bytes-end-eq0.true (omega (arith, c.if-end-gt0.true)) (sym c.begins_numeral.ensures ∙ c.if-not-begins_numeral.true)

pub returns-then-not-begins_numeral-clause-any : goal.returns-then-not-begins_numeral-clause-any
returns-then-not-begins_numeral-clause-any c =
    text_text c.args.bytes.now c.in_ok-end.end (λ i. omega (arith, c.type_inv.bytes i)) (sym c.in_ok-end.ensures.place) c.if-bytes-end-eq0.true (omega (arith, c.if-end-gt0.true)) (sym c.begins_numeral.ensures ∙ c.if-not-begins_numeral.true)
