-- A byte more of a name.
use Rattle.std.proofs.Common.{◌≡◌, ℕ, zero, suc, ◌-◌, ◌<◌, ◌≤◌, ◌==◌, ◌&&◌, ◌||◌, Bool, true, false, nat_lt, List, [], ◌∷◌, ◌++◌, length, inl, inr, refl, ap, sym, subst, ◌∙◌, arith, add-one, Option, Some, None}
use Rattle.std.specs.List.{list_all}
use Rattle.std.specs.Char.{is_ascii_alphabetic, is_ascii_alphanumeric}
use Rattle.std.proofs.lemmas.Bool.{and_parts, ne_eqb, eqb-true, ltb-true, lt-ltb, cases_Bool}
use Rattle.global_defs.specs.declared.limits.TheConstants.{LONGEST_NAME, MOST_SUBS}
use Rattle.gvn_key.specs.Steps.{is_name_byte, in_name}
use Rattle.gvn_key.specs.Rests.{AreSubs, EndsName, is_name_end, Completes}
use Rattle.gvn_key.specs.declared.place.Place.{Place}
use Rattle.gvn_key.specs.declared.place.Place.TheVariants.{Name}
use Rattle.gvn_key.proofs.Numerals.{false_true}

-- The completions of the place that a byte leads to are the bytes that stand behind it. With no such place none do.
abbrev pub Follows : Place → ℕ → Option Place → Type 0
Follows p b None = (w : List ℕ) → Completes p (b ∷ w) → ⊥
Follows p b (Some q) = (w : List ℕ) → (Completes q w → Completes p (b ∷ w)) × (Completes p (b ∷ w) → Completes q w)

pub both_true : (a b : Bool) → a ≡ true → b ≡ true → (a && b) ≡ true
both_true a b p q = rw (p, q) refl

pub not_both : {X : Type 0} (b : Bool) → b ≡ true → b ≡ false → X
not_both b p q = false_true (sym q ∙ p)

no_zero : (n : ℕ) → is_name_byte n 0 ≡ false
no_zero n = elim (cases_Bool (n == 0)) [ inl e ↦ rw e refl | inr e ↦ rw e refl ]

-- a name's first byte, or its end
data IsNameStep (n b : ℕ) (w : List ℕ) : Type 0 where
  ends : b ≡ 0 → 0 < n → AreSubs MOST_SUBS w → IsNameStep n b w
  goes_on : is_name_byte n b ≡ true → n < 31 → EndsName (suc n) w → IsNameStep n b w

end_byte : (n : ℕ) (c : ℕ) (name : List ℕ) → is_name_end n (c ∷ name) ≡ true → (is_name_byte n c ≡ true) × (list_all is_ascii_alphanumeric name ≡ true)
end_byte zero c name h = and_parts (c == 37 || is_ascii_alphabetic c) (list_all is_ascii_alphanumeric name) h
end_byte (suc n) c name h =
    let t = and_parts (is_ascii_alphanumeric c) (list_all is_ascii_alphanumeric name) h in
    (rw (ne_eqb (suc n) 0 (λ e. omega arith)) t.0, t.1)

no_name : (n : ℕ) → is_name_end n [] ≡ true → 0 < n
no_name zero h = false_true h
no_name (suc n) h = omega arith

name_step : (n b : ℕ) (w name behind : List ℕ) → b ∷ w ≡ name ++ (0 ∷ behind) → is_name_end n name ≡ true → length name ≤ LONGEST_NAME - n → AreSubs MOST_SUBS behind → IsNameStep n b w
name_step n b w [] behind e valid short subs =
    let t : behind ≡ w = cc in
    ends (cc) (no_name n valid) (subst (AreSubs MOST_SUBS) t subs)
name_step n b w (c ∷ name) behind e valid short subs =
    let p = end_byte n c name valid in
    let same : c ≡ b = cc in
    goes_on (subst (λ x. is_name_byte n x ≡ true) same p.0) (omega arith) (record { name = name; behind = behind; is = cc; valid = p.1; short = omega arith; subs = subs })

inverted : (n b : ℕ) (w : List ℕ) → EndsName n (b ∷ w) → IsNameStep n b w
inverted n b w r = name_step n b w r.name r.behind r.is r.valid r.short r.subs

byte_end : (n c : ℕ) (name : List ℕ) → is_name_byte n c ≡ true → list_all is_ascii_alphanumeric name ≡ true → is_name_end n (c ∷ name) ≡ true
byte_end zero c name p q = rw (p, q) refl
byte_end (suc n) c name p q = let f : is_ascii_alphanumeric c ≡ true = rw (ne_eqb (suc n) 0 (λ e. omega arith)) at p in rw (f, q) refl

ended : (n : ℕ) (w : List ℕ) → 0 < n → AreSubs MOST_SUBS w → EndsName n (0 ∷ w)
ended zero w some s = absurd (omega arith)
ended (suc n) w some s = record { name = []; behind = w; is = refl; valid = refl; short = omega arith; subs = s }

continued : (n b : ℕ) (w : List ℕ) → is_name_byte n b ≡ true → n < 31 → EndsName (suc n) w → EndsName n (b ∷ w)
continued n b w p room r = record {
  name = b ∷ r.name;
  behind = r.behind;
  is = ap (λ x. b ∷ x) r.is;
  valid = byte_end n b r.name p r.valid;
  short = omega (arith, r.short);
  subs = r.subs;
}

at_end : (n b : ℕ) (w : List ℕ) → b ≡ 0 → IsNameStep n b w → AreSubs MOST_SUBS w
at_end n b w z (ends e some s) = s
at_end n b w z (goes_on p room r) = not_both (is_name_byte n 0) (subst (λ c. is_name_byte n c ≡ true) z p) (no_zero n)

at_more : (n b : ℕ) (w : List ℕ) → is_name_byte n b ≡ true → IsNameStep n b w → EndsName (suc n) w
at_more n b w p (ends e some s) = not_both (is_name_byte n 0) (subst (λ c. is_name_byte n c ≡ true) e p) (no_zero n)
at_more n b w p (goes_on q room r) = r

at_none : (n b : ℕ) (w : List ℕ) → (b == 0 && nat_lt 0 n) ≡ false → (is_name_byte n b && nat_lt n LONGEST_NAME) ≡ false → IsNameStep n b w → ⊥
at_none n b w p q (ends e some s) = not_both (b == 0 && nat_lt 0 n) (both_true (b == 0) (nat_lt 0 n) (subst (λ c. (c == 0) ≡ true) (sym e) refl) (lt-ltb 0 n some)) p
at_none n b w p q (goes_on h room r) = not_both (is_name_byte n b && nat_lt n LONGEST_NAME) (both_true (is_name_byte n b) (nat_lt n LONGEST_NAME) h (lt-ltb n 31 room)) q

pub name_follows : (n b : ℕ) → Follows (Name n) b (in_name n b)
name_follows n b = elim (cases_Bool (b == 0 && nat_lt 0 n)) [
  | inl p ↦
      let t = and_parts (b == 0) (nat_lt 0 n) p in
      let z = eqb-true b 0 t.0 in
      rw p (λ w. ((λ s. subst (λ c. EndsName n (c ∷ w)) (sym z) (ended n w (ltb-true 0 n t.1) s)), (λ r. at_end n b w z (inverted n b w r))))
  | inr p ↦ elim (cases_Bool (is_name_byte n b && nat_lt n LONGEST_NAME)) [
    | inl q ↦
        let t = and_parts (is_name_byte n b) (nat_lt n LONGEST_NAME) q in
        rw (p, q, add-one n) (λ w. ((λ r. continued n b w t.0 (ltb-true n 31 t.1) r), (λ r. at_more n b w t.0 (inverted n b w r))))
    | inr q ↦ rw (p, q) (λ w r. at_none n b w p q (inverted n b w r))
  ]
]
