-- Pieces of text, one behind another.
use Rattle.std.proofs.Common.{◌≡◌, ℕ, ◌+◌, ◌<◌, List, [], ◌∷◌, ◌++◌, length, map, take, get_or, ap, sym, ◌∙◌}
use Rattle.std.specs.List.{flat_map}
use Rattle.std.proofs.lemmas.List.{take_more, map-append, append-nil}
use Rattle.std.proofs.lemmas.List.Concat.{flat_map-append}

-- one item more, seen by g and written by f
pub written_more : {X Y : Type 0} (f : Y → List ℕ) (g : X → Y) (xs : List X) (i : ℕ) (x : X) → i < length xs → x ≡ get_or xs i x → flat_map f (map g (take (i + 1) xs)) ≡ flat_map f (map g (take i xs)) ++ f (g x)
written_more f g xs i x h e =
    ap (λ y. flat_map f (map g y)) (take_more xs i x h)
    ∙ ap (flat_map f) (map-append g (take i xs) (get_or xs i x ∷ []))
    ∙ flat_map-append f (map g (take i xs)) (g (get_or xs i x) ∷ [])
    ∙ ap (λ y. flat_map f (map g (take i xs)) ++ y) (append-nil (f (g (get_or xs i x))))
    ∙ ap (λ y. flat_map f (map g (take i xs)) ++ f (g y)) (sym e)
