-- Updates that are made one after another in their region.
use Rattle.std.proofs.Common.{◌≡◌, ℕ, zero, suc, ◌+◌, ◌<◌, ◌==◌, true, false, List, [], ◌∷◌, ◌++◌, length, map, take, fold, get_or, refl, sym, ◌∙◌, ap, subst, arith}
use Rattle.std.specs.List.{AllByRecursion}
use Rattle.std.proofs.lemmas.List.{take_more, map-append}
use Rattle.std.proofs.lemmas.List.Elements.{filter-append}
use Rattle.std.proofs.lemmas.List.Sums.{fold-append}
use Rattle.global_defs.specs.Entry.{Globals, Update, apply}
use Rattle.journal_defs.specs.Directory.{Pattern}
use Rattle.journal_defs.specs.Fit.{region_of_update}
use Rattle.block_laws.specs.Nodes.{updates_in}
use Rattle.region_store.specs.Region.{Standing, IsChanged}

pub changed_then : (s t u : Standing) → IsChanged s t → IsChanged t u → IsChanged s u
changed_then s t u first second = record { file = second.file ∙ first.file; imaged = second.imaged ∙ first.imaged; holds = λ e bytes h. second.holds e bytes (first.holds e bytes h) }

-- those of one list and those of another behind it
pub both_made : (ps : List Pattern) (r : ℕ) (g : Globals) (us vs : List Update) → fold apply g (updates_in ps r (us ++ vs)) ≡ fold apply (fold apply g (updates_in ps r us)) (updates_in ps r vs)
both_made ps r g us vs = ap (fold apply g) (filter-append (λ (u : Update). region_of_update ps u == r) us vs) ∙ fold-append apply g (updates_in ps r us) (updates_in ps r vs)

map_more : {X Y : Type 0} (f : X → Y) (xs : List X) (i : ℕ) (x : X) → i < length xs → x ≡ get_or xs i x → map f (take (i + 1) xs) ≡ map f (take i xs) ++ f x ∷ []
map_more f xs i x low is = ap (map f) (take_more xs i x low) ∙ map-append f (take i xs) (get_or xs i x ∷ []) ∙ ap (λ y. map f (take i xs) ++ f y ∷ []) (sym is)

-- one update more
pub update_more : {X : Type 0} (f : X → Update) (ps : List Pattern) (r : ℕ) (g h k : Globals) (xs : List X) (i : ℕ) (x : X) → i < length xs → x ≡ get_or xs i x
    → h ≡ fold apply g (updates_in ps r (map f (take i xs))) → k ≡ fold apply h (updates_in ps r (f x ∷ [])) → k ≡ fold apply g (updates_in ps r (map f (take (i + 1) xs)))
update_more f ps r g h k xs i x low is before made =
    made ∙ ap (λ (m : Globals). fold apply m (updates_in ps r (f x ∷ []))) before
    ∙ sym (ap (λ (us : List Update). fold apply g (updates_in ps r us)) (map_more f xs i x low is) ∙ both_made ps r g (map f (take i xs)) (f x ∷ []))

-- one update where its region is this one, and none where it's another
pub one_here : (ps : List Pattern) (r : ℕ) (g : Globals) (u : Update) → (region_of_update ps u == r) ≡ true → fold apply g (updates_in ps r (u ∷ [])) ≡ apply g u
one_here ps r g u is = rw is refl

pub none_here : (ps : List Pattern) (r : ℕ) (g : Globals) (u : Update) → (region_of_update ps u == r) ≡ false → fold apply g (updates_in ps r (u ∷ [])) ≡ g
none_here ps r g u is = rw is refl

-- what holds of the element at a place
pub holds_at : {X Y : Type 0} (P : Y → Type 0) (f : X → Y) (xs : List X) (i : ℕ) (x : X) → i < length xs → x ≡ get_or xs i x → AllByRecursion P (map f xs) → P (f x)
holds_at P f [] i x low is all = absurd (omega (arith, low))
holds_at P f (y ∷ ys) zero x low is all = subst (λ z. P (f z)) (sym is) all.0
holds_at P f (y ∷ ys) (suc i) x low is all = holds_at P f ys i x (omega (arith, low)) is all.1
