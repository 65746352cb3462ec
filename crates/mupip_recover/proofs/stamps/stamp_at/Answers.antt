use Rattle.std.proofs.Common.{rules, ◌≡◌, ◌<◌, map, sym, ◌∙◌, ap, subst, arith, None}
use Rattle.std.specs.Option.{option_map}
use Rattle.std.specs.List.Sorted.{IsNonDecreasing}
use Rattle.gvn_model.specs.Reigns.{stamp_value, reign_value}
use Rattle.mupip_recover.proofs.Least.{in_order, minima_less}
use Rattle.mupip_recover.proofs.StampLaws.{is_last, is_found}
use Rattle.mupip_recover.proofs.stamps.stamp_at.Goals as goal

pub how_many_up_to-begun-requires : goal.how_many_up_to-begun-requires
how_many_up_to-begun-requires c = subst IsNonDecreasing (sym c.requires) (in_order 0 _ (minima_less (map (λ r. r.start) (map reign_value c.args.reigns.now))))

pub returns-then-begun-eq0 : goal.returns-then-begun-eq0
returns-then-begun-eq0 c = sym (is_last c.args.number (map reign_value c.args.reigns.now) c.args.starts.now c.requires 0 (sym c.if-begun-eq0.true ∙ c.how_many_up_to-begun.ensures))

pub returns-in_err-reign : goal.returns-in_err-reign
returns-in_err-reign c =
    let some : 0 < c.how_many_up_to-begun.result = omega arith in
    let none : c.from_residual.result ≡ None = search rules in
    ap (option_map (λ x. stamp_value x.now)) none
    ∙ ap (option_map (λ x. stamp_value x.now.stamp)) (sym c.in_err-reign.was)
    ∙ is_found c.args.number c.args.reigns.now c.args.starts.now c.requires c.how_many_up_to-begun.result c.how_many_up_to-begun.ensures some c.get.result c.get.ensures.lookup

pub returns : goal.returns
returns c =
    let some : 0 < c.how_many_up_to-begun.result = omega arith in
    ap (option_map (λ x. stamp_value x.now.stamp)) (sym c.in_ok-reign.was)
    ∙ is_found c.args.number c.args.reigns.now c.args.starts.now c.requires c.how_many_up_to-begun.result c.how_many_up_to-begun.ensures some c.get.result c.get.ensures.lookup
