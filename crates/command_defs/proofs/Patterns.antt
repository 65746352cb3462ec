-- Patterns: a global's name, or one and a star.
use Rattle.std.proofs.Common.{◌≡◌, ℕ, ◌+◌, ◌-◌, ◌≤◌, ◌||◌, ◌==◌, true, false, List, [], ◌∷◌, ◌++◌, length, take, get_or, codes, refl, sym, ap, ◌∙◌, subst, inl, inr, arith, length-append}
use Rattle.std.specs.Prelude.{nat_lt, nat_le}
use Rattle.std.specs.List.{list_all}
use Rattle.std.specs.Char.{is_ascii_alphabetic, is_ascii_alphanumeric}
use Rattle.std.proofs.lemmas.List.{take_more, take_all}
use Rattle.std.proofs.lemmas.Bool.{and_parts, and_from, and_right, cases_Bool, eqb-true}
use Rattle.std.proofs.lemmas.Bool.Decides.{eqb_tells, nat_tests}
use Rattle.std.proofs.Math.Seq.{take-append_seam, get_or-append_seam}
use Rattle.global_defs.specs.Valid.{is_name}
use Rattle.global_defs.specs.Pattern.{is_global_name, ends_in_star, stem, is_pattern}
use Rattle.command_defs.specs.Commands.{IsPattern, exact, starred}

pub split_last : (text : List ℕ) → 1 ≤ length text → text ≡ take (length text - 1) text ++ get_or text (length text - 1) 0 ∷ []
split_last text h = let n = length text - 1 in
    sym (take_all (n + 1) text (omega arith)) ∙ take_more text n 0 (omega arith)

stem_starred : (text : List ℕ) → ends_in_star text ≡ true → stem text ≡ take (length text - 1) text
stem_starred text e = rw e refl

stem_plain : (text : List ℕ) → ends_in_star text ≡ false → stem text ≡ text
stem_plain text e = rw e refl

-- a pattern is one of the two
pub pattern_found : (text : List ℕ) → is_pattern text ≡ true → IsPattern text
pattern_found text h = elim (cases_Bool (ends_in_star text)) [
  | inl e ↦ (let a = and_parts (nat_lt 0 (length text)) (get_or text (length text - 1) 0 == 42) e in
      let some : 1 ≤ length text = (let f = a.0 in grind (arith, nat_tests)) in
      let whole : text ≡ take (length text - 1) text ++ codes "*" = split_last text some ∙ ap (λ (x : ℕ). take (length text - 1) text ++ x ∷ []) (eqb-true (get_or text (length text - 1) 0) 42 a.1) in
      subst IsPattern (sym whole) (starred (take (length text - 1) text) (subst (λ t. is_global_name t ≡ true) (stem_starred text e) h)))
  | inr e ↦ exact text (subst (λ t. is_global_name t ≡ true) (stem_plain text e) h)
]

-- a global's name has no star
alphanumeric_other : (c : ℕ) → is_ascii_alphanumeric c ≡ true → (c == 42) ≡ false
alphanumeric_other c h = elim (eqb_tells c 42) [
  | inl same ↦ absurd (let e : is_ascii_alphanumeric 42 ≡ true = subst (λ x. is_ascii_alphanumeric x ≡ true) same.1 h in cc)
  | inr other ↦ other.0
]

first_other : (b : ℕ) → (b == 37 || is_ascii_alphabetic b) ≡ true → (b == 42) ≡ false
first_other b h = elim (eqb_tells b 42) [
  | inl same ↦ absurd (let e : (42 == 37 || is_ascii_alphabetic 42) ≡ true = subst (λ (x : ℕ). (x == 37 || is_ascii_alphabetic x) ≡ true) same.1 h in cc)
  | inr other ↦ other.0
]

last_other : (b : ℕ) (bs : List ℕ) → (b == 42) ≡ false → list_all is_ascii_alphanumeric bs ≡ true → (get_or (b ∷ bs) (length bs) 0 == 42) ≡ false
last_other b [] e all = e
last_other b (c ∷ cs) e all = let a = and_parts (is_ascii_alphanumeric c) (list_all is_ascii_alphanumeric cs) all in last_other c cs (alphanumeric_other c a.0) a.1

no_star : (name : List ℕ) → is_global_name name ≡ true → ends_in_star name ≡ false
no_star [] g = cc
no_star (b ∷ bs) g =
    let n = and_parts (is_name (b ∷ bs)) (nat_le (length (b ∷ bs)) 31) g in
    let m = and_parts (b == 37 || is_ascii_alphabetic b) (list_all is_ascii_alphanumeric bs) n.0 in
    let last : length (b ∷ bs) - 1 ≡ length bs = omega arith in
    and_right (nat_lt 0 (length (b ∷ bs))) (get_or (b ∷ bs) (length (b ∷ bs) - 1) 0 == 42) (ap (λ (n : ℕ). get_or (b ∷ bs) n 0 == 42) last ∙ last_other b bs (first_other b m.0) m.1)

less_star : (name : List ℕ) → length (name ++ codes "*") - 1 ≡ length name
less_star name = omega (arith, length-append name (codes "*"))

star_there : (name : List ℕ) → ends_in_star (name ++ codes "*") ≡ true
star_there name =
    let text = name ++ codes "*" in
    let long = length-append name (codes "*") in
    let some : nat_lt 0 (length text) ≡ true = grind (arith, nat_tests) in
    let at : get_or text (length text - 1) 0 ≡ 42 = ap (λ (n : ℕ). get_or text n 0) (less_star name) ∙ get_or-append_seam name 42 [] 0 in
    and_from (nat_lt 0 (length text)) (get_or text (length text - 1) 0 == 42) some (ap (λ (x : ℕ). x == 42) at)

stem_back : (name : List ℕ) → stem (name ++ codes "*") ≡ name
stem_back name = stem_starred (name ++ codes "*") (star_there name) ∙ (ap (λ (n : ℕ). take n (name ++ codes "*")) (less_star name) ∙ take-append_seam name (codes "*"))

-- and each of the two is a pattern
pub pattern_read : {text : List ℕ} → IsPattern text → is_pattern text ≡ true
pattern_read (exact name g) = subst (λ t. is_global_name t ≡ true) (sym (stem_plain name (no_star name g))) g
pattern_read (starred name g) = subst (λ t. is_global_name t ≡ true) (sym (stem_back name)) g
