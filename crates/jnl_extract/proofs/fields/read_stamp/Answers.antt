use Rattle.std.proofs.Common.{◌∙◌, sym, refl, subst}
use Rattle.std.specs.Prelude.{decimal}
use Rattle.global_defs.specs.Fields.{IsSiteName}
use Rattle.jnl_extract.proofs.FieldLaws.{halves, name_clean, no_name}
use Rattle.jnl_extract.proofs.fields.read_stamp.Goals as goal

pub returns-then-not-is_site_name : goal.returns-then-not-is_site_name
returns-then-not-is_site_name c s i e =
    let h = halves 46 c.args.text.now c.in-Some.name.now c.in-Some.digits.now s.root (decimal s.cycle) c.in-Some.ensures.cases e c.in-Some.ensures.first (name_clean 46 s.root refl i.root) in
    no_name c.in-Some.name.now (sym c.is_site_name.ensures ∙ c.if-not-is_site_name.true) (subst IsSiteName (sym h.0) i.root)

pub returns-in-None-read_cycle : goal.returns-in-None-read_cycle
returns-in-None-read_cycle c s i e =
    let h = halves 46 c.args.text.now c.in-Some.name.now c.in-Some.digits.now s.root (decimal s.cycle) c.in-Some.ensures.cases e c.in-Some.ensures.first (name_clean 46 s.root refl i.root) in
    c.in-None-read_cycle.ensures s.cycle i.cycle.0 i.cycle.1 h.1
