use Rattle.std.proofs.Common.{◌≡◌, ◌<◌, ◌≤◌, length, map, get_or, sym, subst, arith}
use Rattle.std.proofs.lemmas.List.{length-map}
use Rattle.std.proofs.Math.ListN.{get_or-map}
use Rattle.global_defs.specs.Entry as defs
use Rattle.gvn_model.specs.Reigns.{reign_value}
use Rattle.source_server.proofs.Begun.{all_take}
use Rattle.ship_stands.proofs.site.have_begun.Goals as goal

pub loop-i-preserved : goal.loop-i-preserved
loop-i-preserved c =
    let xs = c.args.reigns.now in
    let i = c.loop-i.i in
    let x = c.index-reigns-i.result in
    let size = length-map xs reign_value in
    let lt : i < length (map reign_value xs) = omega (arith, size) in
    let y = get_or xs i x in
    let is : get_or (map reign_value xs) i (reign_value x) ≡ reign_value y = get_or-map reign_value xs i x in
    let low : y.start ≤ c.args.length = omega arith in
    all_take (λ r. r.start ≤ c.args.length) (map reign_value xs) i (reign_value x) lt c.loop-i.invariant (subst (λ (r : defs.Reign). r.start ≤ c.args.length) (sym is) low)
