use Rattle.std.proofs.Common.{List, ℕ, ap, sym, ◌∙◌, nat_eq}
use Rattle.std.specs.Option.{option_copied}
use Rattle.std.specs.Cmp.Lexicographic.{pointwise}
use Rattle.site_runner.specs.Sites.{site_in}
use Rattle.site_runner.proofs.FirstWhere.{by_name, unnamed}
use Rattle.site_runner.proofs.finding.is_named.Goals as goal

pub returns-in-Some : goal.returns-in-Some
returns-in-Some g c =
    c.eq.ensures ∙ ap (λ (x : List ℕ). pointwise nat_eq x c.args.name.now) c.as_slice.ensures ∙ sym (by_name c.args.name.now (site_in c.args.slot.now) c.in-Some.own.now (sym c.name.ensures ∙ ap option_copied c.in-Some.is))

pub returns-in-None : goal.returns-in-None
returns-in-None g c = sym (unnamed c.args.name.now (site_in c.args.slot.now) (sym c.name.ensures ∙ ap option_copied c.in-None.is))
