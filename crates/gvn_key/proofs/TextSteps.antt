-- A byte more of a string.
use Rattle.std.proofs.Common.{◌≡◌, ◌≢◌, ℕ, zero, suc, ◌<◌, ◌≤◌, ◌==◌, true, List, [], ◌∷◌, ◌++◌, inl, inr, refl, ap, sym, subst, ◌∙◌, arith, Some}
use Rattle.std.specs.List.{flat_map}
use Rattle.std.proofs.lemmas.Bool.{ne_eqb, eqb-true, eqb-false, cases_Bool, cases_eq}
use Rattle.global_defs.specs.Encoded.{escaped}
use Rattle.gvn_key.specs.Steps.{is_string, numeral_read, text_ended, in_text, in_escape}
use Rattle.gvn_key.specs.Rests.{AreSubs, EndsText, read_on}
use Rattle.gvn_key.specs.declared.numeral_front.Numeral.{Numeral}
use Rattle.gvn_key.specs.declared.place.Place.TheVariants.{Text, Escape}
use Rattle.gvn_key.proofs.NameSteps.{Follows, not_both}

-- a byte's escaped form, by cases
pub data IsEscaped (b : ℕ) : Type 0 where
  low : b < 2 → escaped b ≡ 1 ∷ suc b ∷ [] → IsEscaped b
  high : 2 ≤ b → escaped b ≡ b ∷ [] → IsEscaped b

pub escaped_is : (b : ℕ) → IsEscaped b
escaped_is zero = low (omega arith) refl
escaped_is (suc b) = elim (cases_Bool (b == 0)) [
  | inl e ↦ let z : 2 ≡ suc (suc b) = omega (arith, eqb-true b 0 e) in low (omega (arith, eqb-true b 0 e)) (rw e (λ i. 1 ∷ z i ∷ []))
  | inr e ↦ high (omega (arith, eqb-false b 0 e)) (rw e refl)
]

-- what a string's next byte is
data IsTextStep (most : ℕ) (n : Numeral) (b : ℕ) (w : List ℕ) : Type 0 where
  ends : b ≡ 0 → is_string n ≡ true → AreSubs most w → IsTextStep most n b w
  escapes : (c : ℕ) (more behind : List ℕ) → c < 2 → b ≡ 1 → w ≡ suc c ∷ (flat_map escaped more ++ (0 ∷ behind)) → is_string (read_on (numeral_read n c) more) ≡ true → AreSubs most behind → IsTextStep most n b w
  goes_on : 2 ≤ b → EndsText most (numeral_read n b) w → IsTextStep most n b w

low_step : (most : ℕ) (n : Numeral) (b : ℕ) (w : List ℕ) (c : ℕ) (more behind : List ℕ) → c < 2 → b ∷ w ≡ 1 ∷ (suc c ∷ (flat_map escaped more ++ (0 ∷ behind)))
    → is_string (read_on (numeral_read n c) more) ≡ true → AreSubs most behind → IsTextStep most n b w
low_step most n b w c more behind h e string subs = escapes c more behind h (cc) (cc) string subs

high_step : (most : ℕ) (n : Numeral) (b : ℕ) (w : List ℕ) (c : ℕ) (more behind : List ℕ) → 2 ≤ c → b ∷ w ≡ c ∷ (flat_map escaped more ++ (0 ∷ behind))
    → is_string (read_on (numeral_read n c) more) ≡ true → AreSubs most behind → IsTextStep most n b w
high_step most n b w c more behind h e string subs =
    let same : c ≡ b = cc in
    let rest : w ≡ flat_map escaped more ++ (0 ∷ behind) = cc in
    goes_on (omega arith) (subst (λ x. EndsText most (numeral_read n x) w) same (record { more = more; behind = behind; is = rest; string = string; subs = subs }))

text_step : (most : ℕ) (n : Numeral) (b : ℕ) (w more behind : List ℕ) → b ∷ w ≡ flat_map escaped more ++ (0 ∷ behind) → is_string (read_on n more) ≡ true → AreSubs most behind → IsTextStep most n b w
text_step most n b w [] behind e string subs =
    let t : behind ≡ w = cc in
    ends (cc) string (subst (AreSubs most) t subs)
text_step most n b w (c ∷ more) behind e string subs = elim (escaped_is c) [
  | low h k ↦ low_step most n b w c more behind h (e ∙ ap (λ x. (x ++ flat_map escaped more) ++ (0 ∷ behind)) k) string subs
  | high h k ↦ high_step most n b w c more behind h (e ∙ ap (λ x. (x ++ flat_map escaped more) ++ (0 ∷ behind)) k) string subs
]

text_first : (most : ℕ) (n : Numeral) (b : ℕ) (w : List ℕ) → EndsText most n (b ∷ w) → IsTextStep most n b w
text_first most n b w r = text_step most n b w r.more r.behind r.is r.string r.subs

text_end : (most : ℕ) (n : Numeral) (w : List ℕ) → is_string n ≡ true → AreSubs most w → EndsText most n (0 ∷ w)
text_end most n w p s = record { more = []; behind = w; is = refl; string = p; subs = s }

text_more : (most : ℕ) (n : Numeral) (b : ℕ) (w : List ℕ) → 2 ≤ b → EndsText most (numeral_read n b) w → EndsText most n (b ∷ w)
text_more most n b w h r = elim (escaped_is b) [
  | low k e ↦ absurd (omega arith)
  | high k e ↦ record {
    more = b ∷ r.more;
    behind = r.behind;
    is = ap (λ x. b ∷ x) r.is ∙ ap (λ x. (x ++ flat_map escaped r.more) ++ (0 ∷ r.behind)) (sym e);
    string = r.string;
    subs = r.subs;
  }
]

escape_more : (most : ℕ) (n : Numeral) (c : ℕ) (w : List ℕ) → c < 2 → EndsText most (numeral_read n c) w → EndsText most n (1 ∷ (suc c ∷ w))
escape_more most n c w h r = elim (escaped_is c) [
  | low k e ↦ record {
    more = c ∷ r.more;
    behind = r.behind;
    is = ap (λ x. 1 ∷ (suc c ∷ x)) r.is ∙ ap (λ x. (x ++ flat_map escaped r.more) ++ (0 ∷ r.behind)) (sym e);
    string = r.string;
    subs = r.subs;
  }
  | high k e ↦ absurd (omega arith)
]

at_end : (most : ℕ) (n : Numeral) (w : List ℕ) → IsTextStep most n 0 w → (is_string n ≡ true) × AreSubs most w
at_end most n w (ends e p s) = (p, s)
at_end most n w (escapes c more behind h e k string subs) = absurd (omega arith)
at_end most n w (goes_on h r) = absurd (omega arith)

at_byte : (most : ℕ) (n : Numeral) (b : ℕ) (w : List ℕ) → 2 ≤ b → IsTextStep most n b w → EndsText most (numeral_read n b) w
at_byte most n b w h (ends e p s) = absurd (omega arith)
at_byte most n b w h (escapes c more behind l e k string subs) = absurd (omega arith)
at_byte most n b w h (goes_on k r) = r

-- what stands behind the first byte of an escape
record IsEscapeStep (most : ℕ) (n : Numeral) (b : ℕ) (w : List ℕ) : Type 0 where
  pub of : ℕ
  pub low : of < 2
  pub is : b ≡ suc of
  pub rest : EndsText most (numeral_read n of) w

at_escape : (most : ℕ) (n : Numeral) (b : ℕ) (w : List ℕ) → IsTextStep most n 1 (b ∷ w) → IsEscapeStep most n b w
at_escape most n b w (ends e p s) = absurd (omega arith)
at_escape most n b w (escapes c more behind h e k string subs) = record { of = c; low = h; is = cc; rest = record { more = more; behind = behind; is = cc; string = string; subs = subs } }
at_escape most n b w (goes_on h r) = absurd (omega arith)

escape_rest : (most : ℕ) (n : Numeral) (b c : ℕ) (w : List ℕ) → b ≡ suc c → IsEscapeStep most n b w → EndsText most (numeral_read n c) w
escape_rest most n b c w e s = let same : s.of ≡ c = omega (arith, s.is) in subst (λ x. EndsText most (numeral_read n x) w) same s.rest

ending_follows : (subs : ℕ) (n : Numeral) → Follows (Text subs n) 0 (text_ended subs n)
ending_follows subs n = elim (cases_Bool (is_string n)) [
  | inl p ↦ rw p (λ w. ((λ s. text_end subs n w p s), (λ r. (at_end subs n w (text_first subs n 0 w r)).1)))
  | inr p ↦ rw p (λ w r. not_both (is_string n) (at_end subs n w (text_first subs n 0 w r)).0 p)
]

escape_begins : (subs : ℕ) (n : Numeral) → Follows (Text subs n) 1 (Some (Escape subs n))
escape_begins subs n w = ((λ r. r), (λ r. r))

pub text_follows : (subs : ℕ) (n : Numeral) (b : ℕ) → Follows (Text subs n) b (in_text subs n b)
text_follows subs n b = elim (cases_eq b 0) [
  | inl z ↦ subst (λ c. Follows (Text subs n) c (in_text subs n c)) (sym z) (ending_follows subs n)
  | inr z ↦ elim (cases_eq b 1) [
    | inl o ↦ subst (λ c. Follows (Text subs n) c (in_text subs n c)) (sym o) (escape_begins subs n)
    | inr o ↦
        let big : 2 ≤ b = omega arith in
        rw (ne_eqb b 0 z, ne_eqb b 1 o) (λ w. ((λ r. text_more subs n b w big r), (λ r. at_byte subs n b w big (text_first subs n b w r))))
  ]
]

escape_to : (subs : ℕ) (n : Numeral) (c : ℕ) → c < 2 → Follows (Escape subs n) (suc c) (Some (Text subs (numeral_read n c)))
escape_to subs n c h w = ((λ r. escape_more subs n c w h r), (λ r. escape_rest subs n (suc c) c w refl (at_escape subs n (suc c) w (text_first subs n 1 (suc c ∷ w) r))))

escape_none : (subs : ℕ) (n : Numeral) (b : ℕ) (w : List ℕ) → b ≢ 1 → b ≢ 2 → IsEscapeStep subs n b w → ⊥
escape_none subs n b w one two s = omega (arith, s.is, s.low)

pub escape_follows : (subs : ℕ) (n : Numeral) (b : ℕ) → Follows (Escape subs n) b (in_escape subs n b)
escape_follows subs n b = elim (cases_eq b 1) [
  | inl o ↦ subst (λ c. Follows (Escape subs n) c (in_escape subs n c)) (sym o) (escape_to subs n 0 (omega arith))
  | inr o ↦ elim (cases_eq b 2) [
    | inl t ↦ subst (λ c. Follows (Escape subs n) c (in_escape subs n c)) (sym t) (escape_to subs n 1 (omega arith))
    | inr t ↦ rw (ne_eqb b 1 o, ne_eqb b 2 t) (λ w r. escape_none subs n b w o t (at_escape subs n b w (text_first subs n 1 (b ∷ w) r)))
  ]
]
