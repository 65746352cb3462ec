-- The row of a command at the place of the site that it names.
use Rattle.std.proofs.Common.{◌≡◌, ℕ, zero, suc, Bool, cond, List, [], ◌∷◌, Option, Some, slice_get, refl, sym, ◌∙◌, ap, subst}
use Rattle.std.specs.Prelude.{option_map}
use Rattle.global_defs.specs.Beside.{Along, At}
use Rattle.command_defs.specs.Commands.{Name}
use Rattle.site_defs.specs.Lists.{first_where}
use Rattle.world_defs.specs.World.{Place, World, Kept, is_site_named, place_of}
use Rattle.world_defs.specs.Answers.{Answer, NoSite}
use Rattle.world_defs.specs.Row.{Row, Here}
use Rattle.world_defs.specs.Meaning.{Meaning, Acts, apart, refusing, at_found, there, on_site, row_at}
use Rattle.world_defs.specs.Step.{One, Goes}
use Rattle.world_laws.proofs.Alongs.{along_each, at_there, same_place}

same_answer : (a b : Answer) → a ∷ [] ≡ b ∷ [] → a ≡ b
same_answer a b e = cc

-- a command on a site with one answer is its row there
pub owns : (row : Name → Place → Row) (w m : World) (name : Name) (a : Answer) (text : List ℕ) (number : ℕ) (p : Place) → place_of w name ≡ Some number → slice_get w.places number ≡ Some p
    → Goes (on_site w name (λ i x. Acts i (row_at row x) apart)) (a ∷ []) w m text → One number (row_at row p) apart a w m text
owns row w m name a text number p named before h =
    let acts = subst (λ (x : Meaning). Goes x (a ∷ []) w m text) is h in
    subst (λ (b : Answer). One number (row_at row p) apart b w m text) (sym (same_answer a acts.0 acts.1)) acts.2
  where
    f : ℕ → Place → Meaning
    f i x = Acts i (row_at row x) apart

    is : there (refusing name NoSite) w (place_of w name) f ≡ f number p
    is = ap (λ (o : Option ℕ). there (refusing name NoSite) w o f) named ∙ ap (λ (x : Option Place). at_found (refusing name NoSite) number x f) before

-- and the place that stands there then is what the row makes of it
pub makes_here : (row : Row) (w m : World) (a : Answer) (text : List ℕ) (number : ℕ) (p q : Place) → One number row apart a w m text → slice_get w.places number ≡ Some p → slice_get m.places number ≡ Some q → Here row a q text
makes_here row w m a text number p q one before behind =
    subst (λ (x : Place). Here row a x text) (sym (at_there (λ x y. y ≡ one.becomes) (λ j. Kept) number p q w.places m.places one.around before behind)) one.here

-- a site is found where it was, since none gets another name

abbrev pub NamedAlike : Name → Place → Place → Type 0
NamedAlike name old new = is_site_named name new.site ≡ is_site_named name old.site

kept_alike : (name : Name) (x y : Place) → Kept x y → NamedAlike name x y
kept_alike name x y k = ap (is_site_named name) k.site

alike_at : (name : Name) (i : ℕ) (p x : Place) (ps qs : List Place) → slice_get ps i ≡ Some p → NamedAlike name p x → At i (λ old new. new ≡ x) (λ j. Kept) ps qs → Along (λ j. NamedAlike name) ps qs
alike_at name i p x [] qs e n h = cc
alike_at name i p x (y ∷ ps) [] e n h = absurd h
alike_at name zero p x (y ∷ ps) (z ∷ qs) e n h =
    (subst (NamedAlike name y) (sym h.0) (subst (λ (v : Place). NamedAlike name v x) (sym (same_place y p e)) n), along_each Kept (NamedAlike name) (kept_alike name) ps qs h.1)
alike_at name (suc i) p x (y ∷ ps) (z ∷ qs) e n h = (kept_alike name y z h.0, alike_at name i p x ps qs e n h.1)

first_alike : (name : Name) (ps qs : List Place) → Along (λ j. NamedAlike name) ps qs → first_where (λ x. is_site_named name x.site) qs ≡ first_where (λ x. is_site_named name x.site) ps
first_alike name [] [] h = refl
first_alike name [] (q ∷ qs) h = absurd h
first_alike name (p ∷ ps) [] h = absurd h
first_alike name (p ∷ ps) (q ∷ qs) h =
    ap (λ (b : Bool). cond b (Some zero) (option_map suc (first_where (λ (x : Place). is_site_named name x.site) qs))) h.0
    ∙ ap (λ (o : Option ℕ). cond (is_site_named name p.site) (Some zero) (option_map suc o)) (first_alike name ps qs h.1)

pub found_again : (row : Row) (w m : World) (name : Name) (a : Answer) (text : List ℕ) (number : ℕ) (p : Place) → (one : One number row apart a w m text) → place_of w name ≡ Some number → slice_get w.places number ≡ Some p
    → NamedAlike name p one.becomes → place_of m name ≡ Some number
found_again row w m name a text number p one named before alike = first_alike name w.places m.places (alike_at name number p one.becomes w.places m.places before alike one.around) ∙ named
