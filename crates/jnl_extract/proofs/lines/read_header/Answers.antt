use Rattle.std.proofs.Common.{◌≡◌, ◌∙◌, ◌∷◌, ◌++◌, sym, refl, codes}
use Rattle.std.specs.Prelude.{decimal}
use Rattle.jnl_extract.proofs.FieldLaws.{halves, no_bytes}
use Rattle.jnl_extract.proofs.lines.read_header.Goals as goal

pub returns-in-None : goal.returns-in-None
returns-in-None c site from i p q e = c.in-None.ensures.cases (codes "GTMRJEX01") (site ++ 92 ∷ decimal from) e

pub returns-else-eq : goal.returns-else-eq
returns-else-eq c site from i p q e =
    let h = halves 92 c.args.line.now c.in-Some.word.now c.in-Some.rest.now (codes "GTMRJEX01") (site ++ 92 ∷ decimal from) c.in-Some.ensures.cases e c.in-Some.ensures.first refl in
    let same : c.in-Some.word.now ≡ c.as_slice.result.now = h.0 ∙ sym c.as_slice.ensures in
    no_bytes c.in-Some.word.now c.as_slice.result.now same (sym c.eq.ensures ∙ c.if-eq.false)
