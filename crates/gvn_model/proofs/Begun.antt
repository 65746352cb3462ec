-- Reigns that begin by a number.
use Rattle.std.proofs.Common.{◌≡◌, ℕ, ◌+◌, ◌<◌, List, [], ◌∷◌, ◌++◌, length, filter, if◌then◌else◌, sym, ◌∙◌, ap}
use Rattle.std.specs.Prelude.{map, take, get_or, nat_le}
use Rattle.std.proofs.lemmas.List.{map-append, take_more}
use Rattle.std.proofs.lemmas.List.Elements.{filter-append}
use Rattle.gvn_model.specs.Reigns.{reign_value}
use Rattle.gvn_model.specs.declared.reign.Reign as code

-- one reign more that is looked at
pub kept_more : (n : ℕ) (xs : List code.Reign) (i : ℕ) (x : code.Reign) → i < length xs → x ≡ get_or xs i x
    → filter (λ r. nat_le r.start n) (map reign_value (take (i + 1) xs)) ≡ filter (λ r. nat_le r.start n) (map reign_value (take i xs)) ++ (if nat_le x.start n then reign_value x ∷ [] else [])
kept_more n xs i x inside is =
    ap (λ (l : List code.Reign). filter (λ r. nat_le r.start n) (map reign_value l)) (take_more xs i x inside ∙ ap (λ (y : code.Reign). take i xs ++ y ∷ []) (sym is))
    ∙ ap (filter (λ r. nat_le r.start n)) (map-append reign_value (take i xs) (x ∷ []))
    ∙ filter-append (λ r. nat_le r.start n) (map reign_value (take i xs)) (reign_value x ∷ [])
