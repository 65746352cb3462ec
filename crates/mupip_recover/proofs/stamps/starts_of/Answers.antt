use Rattle.std.proofs.Common.{◌≡◌, List, ℕ, map, IfOk, sym, ◌∙◌, subst}
use Rattle.std.proofs.lemmas.Simd.{map-map}
use Rattle.gvn_model.specs.Reigns.{reign_value}
use Rattle.mupip_recover.specs.Minima.{minima}
use Rattle.mupip_recover.proofs.stamps.starts_of.Goals as goal

pub returns : goal.returns
returns c =
    let same : c.deref.result.now ≡ map (λ r. r.start) (map reign_value c.args.reigns.now) = c.deref.ensures.value ∙ c.in_ok-numbers.ensures ∙ sym (map-map (λ r. r.start) reign_value c.args.reigns.now) in
    subst (λ (l : List ℕ). IfOk c.minima_of.result (λ made. made.items ≡ minima l)) same c.minima_of.ensures
