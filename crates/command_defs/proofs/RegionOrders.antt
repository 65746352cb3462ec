-- The regions of a CREATE are read as they are spelled.
use Rattle.std.proofs.Common.{◌≡◌, ℕ, zero, suc, ◌≤◌, ◌&&◌, ◌==◌, not, true, false, List, [], ◌∷◌, ◌++◌, length, map, take, Some, None, refl, sym, ap, ◌∙◌, subst, inl, inr, arith}
use Rattle.std.specs.List.{list_all, list_any, IsDistinct}
use Rattle.std.specs.Str.{bytes_eq}
use Rattle.std.specs.declared.result.Result.TheVariants.{Ok}
use Rattle.std.proofs.lemmas.Bool.{and_parts, and_from, not-true, cond-false}
use Rattle.std.proofs.lemmas.List.{append-nil, append_assoc}
use Rattle.std.proofs.lemmas.Bool.Decides.{nat_tests}
use Rattle.global_defs.specs.Region.{Region}
use Rattle.script_defs.specs.Parts.{word_end}
use Rattle.command_defs.specs.Commands.{region_named, region_word, region_form, regions_behind}
use Rattle.command_defs.specs.Parts.{followed, taken, is_name}
use Rattle.command_defs.specs.Spelling.{Joins}
use Rattle.command_defs.proofs.Joined.{IsTight, IsFronted, begins, begins_none}
use Rattle.command_defs.proofs.Regions.{names_of, regions_more, regions_apart, word_named, named_word}
use Rattle.command_defs.proofs.Taken.{behind, followed_found, none_left, Takes, taken_found, ended_found, at_end, taken_read, next, ended_read, followed_read}
use Rattle.gvn_key.proofs.KeyTextFound.{chosen}

pub region_is : (before : List Region) (text : List ℕ) (r : Region) → region_form before text ≡ Some r → (text ≡ region_word r) × (is_name r.name ≡ true) × (list_any (λ x. bytes_eq x.name r.name) before ≡ false)
region_is before text r e =
    let named = region_named text in
    elim (chosen (is_name named.name && not (list_any (λ x. bytes_eq x.name named.name) before)) (Some named) None (Some r) e) [
      | inl h ↦ (let same : named ≡ r = cc h.1 in
          let a = and_parts (is_name named.name) (not (list_any (λ x. bytes_eq x.name named.name) before)) h.0 in (
            sym (word_named text) ∙ ap region_word same,
            subst (λ (x : Region). is_name x.name ≡ true) same a.0,
            subst (λ (x : Region). list_any (λ y. bytes_eq y.name x.name) before ≡ false) same (not-true (list_any (λ x. bytes_eq x.name named.name) before) a.1),
          ))
      | inr h ↦ absurd (cc h.1)
    ]

-- regions behind these that were read
pub record Named (room : ℕ) (left : List ℕ) (before regions : List Region) : Type 0 where
  pub more : List Region
  pub is : regions ≡ before ++ more
  pub joined : Joins (map region_word more) left
  pub few : length more ≤ room
  pub formed : list_all is_name (names_of more) ≡ true
  pub different : IsDistinct bytes_eq (names_of before) → IsDistinct bytes_eq (names_of (before ++ more))

pub none_more : (room : ℕ) (left : List ℕ) (before regions : List Region) → left ≡ [] → before ≡ regions → Named room left before regions
none_more room left before regions none same = record {
  more = [];
  is = sym same ∙ sym (append-nil before);
  joined = at_end left none;
  few = omega arith;
  formed = refl;
  different = λ d. subst (λ (rs : List Region). IsDistinct bytes_eq (names_of rs)) (sym (append-nil before)) d;
}

pub one_more : (room : ℕ) (left rest : List ℕ) (before regions : List Region) (r : Region) → Takes (region_word r) left rest → is_name r.name ≡ true → list_any (λ x. bytes_eq x.name r.name) before ≡ false
    → Named room rest (before ++ r ∷ []) regions → Named (suc room) left before regions
one_more room left rest before regions r t good fresh m = record {
  more = r ∷ m.more;
  is = m.is ∙ append_assoc before (r ∷ []) m.more;
  joined = t.build (map region_word m.more) m.joined;
  few = omega (arith, m.few);
  formed = and_from (is_name r.name) (list_all is_name (names_of m.more)) good m.formed;
  different = λ d. subst (λ (rs : List Region). IsDistinct bytes_eq (names_of rs)) (append_assoc before (r ∷ []) m.more) (m.different (regions_more before r d fresh));
}

-- a region that was taken
pub region_taken : (before : List Region) (len : ℕ) (left : List ℕ) (p : Region × List ℕ) → IsTight left → IsFronted left → taken (region_form before) len left ≡ Ok p
    → (is_name p.0.name ≡ true) × (list_any (λ x. bytes_eq x.name p.0.name) before ≡ false) × Takes (region_word p.0) left p.1
region_taken before len left p tight fronted e =
    let t = taken_found (region_form before) len left p tight fronted e in
    let f = region_is before (take (word_end left) left) p.0 t.0 in
    (f.1, f.2, subst (λ w. Takes w left p.1) f.0 t.1)

pub regions_found : (room len : ℕ) (left : List ℕ) (before regions : List Region) → IsTight left → IsFronted left → regions_behind room len left before ≡ Ok regions → Named room left before regions
unfolding regions_behind
regions_found zero len left before regions tight fronted e = let z = ended_found len left before regions e in none_more 0 left before regions z.0 z.1
regions_found (suc room) len left before regions tight fronted e = elim (chosen (length left == 0) (Ok before) (followed (taken (region_form before) len left) (λ region. regions_behind room len region.1 (before ++ region.0 ∷ []))) (Ok regions) e) [
  | inl h ↦ none_more (suc room) left before regions (none_left left h.0) (cc h.1)
  | inr h ↦ (let a = followed_found (taken (region_form before) len left) (λ region. regions_behind room len region.1 (before ++ region.0 ∷ [])) regions h.1 in
      let t = region_taken before len left a.0 tight fronted a.1 in
      one_more room left a.0.1 before regions a.0.0 t.2 t.0 t.1 (regions_found room len a.0.1 (before ++ a.0.0 ∷ []) regions t.2.tight t.2.fronted a.2))
]

pub region_read : (before : List Region) (r : Region) → is_name r.name ≡ true → list_any (λ x. bytes_eq x.name r.name) before ≡ false → region_form before (region_word r) ≡ Some r
region_read before r good fresh = rw (named_word r good, good, fresh) refl

pub regions_read : (more : List Region) (room len : ℕ) (left : List ℕ) (before : List Region) → length more ≤ room → list_all is_name (names_of more) ≡ true → IsDistinct bytes_eq (names_of (before ++ more))
    → Joins (map region_word more) left → regions_behind room len left before ≡ Ok (before ++ more)
unfolding regions_behind
regions_read [] zero len left before few good d j = ended_read len left before j ∙ ap Ok (sym (append-nil before))
regions_read [] (suc room) len left before few good d j = let none : (length left == 0) ≡ true = rw (begins_none j) refl in rw none (ap Ok (sym (append-nil before)))
regions_read (r ∷ rs) zero len left before few good d j = absurd (omega arith)
regions_read (r ∷ rs) (suc room) len left before few good d j =
    let g = and_parts (is_name r.name) (list_all is_name (names_of rs)) good in
    let some : (length left == 0) ≡ false = (let s = (begins j).some in grind (arith, nat_tests)) in
    let t = taken_read (region_form before) len r j (region_read before r g.0 (regions_apart before r rs d)) in
    let apart_still = subst (λ (xs : List Region). IsDistinct bytes_eq (names_of xs)) (sym (append_assoc before (r ∷ []) rs)) d in
    let below = regions_read rs room len (behind left) (before ++ r ∷ []) (omega arith) g.1 apart_still (next j) in
    let step = λ (region : Region × List ℕ). regions_behind room len region.1 (before ++ region.0 ∷ []) in
    cond-false (length left == 0) (Ok before) (followed (taken (region_form before) len left) step) some
    ∙ followed_read (taken (region_form before) len left) step (r, behind left) _ t (below ∙ ap Ok (append_assoc before (r ∷ []) rs))
