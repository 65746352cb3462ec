use Rattle.std.proofs.Common.{◌≡◌, ℕ, ◌-◌, ◌<◌, length, map, get_or, Some, None, sym, ap, ◌∙◌, arith}
use Rattle.std.specs.List.{last_or}
use Rattle.std.proofs.lemmas.Bool.Decides.{nat_tests}
use Rattle.std.proofs.lemmas.List.{length-map}
use Rattle.std.proofs.Math.ListN.{get_or-map}
use Rattle.global_defs.specs.Entry as defs
use Rattle.gvn_model.specs.Reigns.{reign_value}
use Rattle.update_process.proofs.Covered.{last_at, if_last}
use Rattle.update_process.proofs.reigns.is_last.Goals as goal

pub returns : goal.returns
returns c =
    let xs = c.args.reigns.now in
    let x = c.index-reigns-reigns.result in
    let size : length (map reign_value xs) ≡ length xs = length-map xs reign_value in
    let some_own : 0 < length xs = grind (arith, nat_tests) in
    let some : 0 < length (map reign_value xs) = omega (arith, size, some_own) in
    let at : get_or (map reign_value xs) (length (map reign_value xs) - 1) (reign_value x) ≡ reign_value x
    = ap (λ (n : ℕ). get_or (map reign_value xs) (n - 1) (reign_value x)) size ∙ (get_or-map reign_value xs (length xs - 1) x ∙ ap reign_value (sym c.index-reigns-reigns.is)) in
    let last : last_or None (map reign_value xs) ≡ Some (reign_value x) = last_at (map reign_value xs) None (reign_value x) some ∙ ap (λ (r : defs.Reign). Some r) at in
    if_last c.is_same.result (reign_value x) (reign_value c.args.reign.now) (last_or None (map reign_value xs)) last c.is_same.ensures
