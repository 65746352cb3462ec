use Rattle.std.proofs.Common.{◌≡◌, ◌<◌, ◌^◌, ◌∙◌, sym, refl, subst, arith}
use Rattle.std.specs.Prelude.{decimal}
use Rattle.global_defs.specs.Fields.{IsSiteName}
use Rattle.jnl_extract.proofs.FieldLaws.{halves, name_clean, no_name, same_number}
use Rattle.jnl_extract.proofs.lines.read_beginning.Goals as goal
use Rattle.jnl_extract.proofs.lines.read_beginning.Goals.{then-from-eq0-via-then-from-eq0, then-from-eq0-via-else-from-eq0+then-from-gt-LAST_FROM}

pub returns-then-not-is_site_name : goal.returns-then-not-is_site_name
returns-then-not-is_site_name c site from i p q e =
    let h = halves 92 c.args.text.now c.in-Some.name.now c.in-Some.digits.now site (decimal from) c.in-Some.ensures.cases e c.in-Some.ensures.first (name_clean 92 site refl i) in
    no_name c.in-Some.name.now (sym c.is_site_name.ensures ∙ c.if-not-is_site_name.true) (subst IsSiteName (sym h.0) i)

pub returns-in-None-read_number : goal.returns-in-None-read_number
returns-in-None-read_number c site from i p q e =
    let h = halves 92 c.args.text.now c.in-Some.name.now c.in-Some.digits.now site (decimal from) c.in-Some.ensures.cases e c.in-Some.ensures.first (name_clean 92 site refl i) in
    let small : from < 2 ^ 64 = omega arith in
    c.in-None-read_number.ensures from small h.1

pub returns-then-from-eq0 : goal.returns-then-from-eq0
returns-then-from-eq0 c site from i p q e =
    let h = halves 92 c.args.text.now c.in-Some.name.now c.in-Some.digits.now site (decimal from) c.in-Some.ensures.cases e c.in-Some.ensures.first (name_clean 92 site refl i) in
    let small : from < 2 ^ 64 = omega arith in
    let same : c.in-Some-read_number.from ≡ from = same_number c.in-Some.digits.now c.in-Some-read_number.from from c.in-Some-read_number.ensures.1 h.1 c.in-Some-read_number.ensures.0 small in
    elim c.then-from-eq0.branch [
      | then-from-eq0-via-then-from-eq0 w ↦ omega (arith, w.if-from-eq0.true, same)
      | then-from-eq0-via-else-from-eq0+then-from-gt-LAST_FROM w ↦ omega (arith, w.if-from-gt-LAST_FROM.true, same)
    ]
