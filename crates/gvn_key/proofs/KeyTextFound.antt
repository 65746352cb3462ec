-- A text that is read as a key is one of its name and subscripts.
use Rattle.std.proofs.Common.{◌≡◌, ℕ, zero, suc, Bool, true, false, not, cond, ◌&&◌, ◌==◌, nat_lt, List, [], ◌∷◌, ◌++◌, length, take, drop, Option, Some, None, refl, sym, subst, ◌∙◌, arith, inl, inr, IfOk, ◌⊎◌}
use Rattle.std.specs.List.{position_or_len}
use Rattle.std.specs.declared.result.Result.{Result}
use Rattle.std.specs.declared.result.Result.TheVariants.{Ok, Err}
use Rattle.std.proofs.lemmas.List.{append-nil, take-append-drop}
use Rattle.std.proofs.lemmas.Bool.{and_parts, cases_Bool, eqb-true, or_cases, both_ways}
use Rattle.global_defs.specs.declared.limits.TheConstants.{LONGEST_NAME, MOST_SUBS}
use Rattle.global_defs.specs.Key.{Key}
use Rattle.global_defs.specs.Numeral.{is_number}
use Rattle.global_defs.specs.Valid.{is_name}
use Rattle.gvn_key.specs.Faults.{key_of, key_fault}
use Rattle.gvn_key.specs.ZwrText.{scan, is_whole}
use Rattle.gvn_key.specs.KeyText.{IsSubText, number, string, IsSubsText, last, another, IsKeyText, bare, branched, IsTextOf, Read, is_end, begins_with_end, begins_string, string_at, numeral_at, sub_at, fronted, behind_sub, next_from, going, subs_at, subs_in, answered, fitting, named, is_bracket, split_name, key_reading, ReadsKey}
use Rattle.gvn_key.proofs.Parsing.{subs_more, subs_past}
use Rattle.gvn_key.proofs.ZwrFound.{scan_found}
use Rattle.gvn_key.specs.declared.reader.State.TheVariants.{Start}
use Rattle.gvn_key.specs.declared.key.KeyError.{KeyError}
use Rattle.gvn_key.specs.declared.key.KeyError.TheVariants.{BadName, NameTooLong, BadSub}

-- which way a test went
pub chosen : {A : Type 0} (b : Bool) (x y z : A) → cond b x y ≡ z → ((b ≡ true) × (x ≡ z)) ⊎ ((b ≡ false) × (y ≡ z))
chosen true x y z e = inl (refl, e)
chosen false x y z e = inr (refl, e)

-- a subscript's text, with what stands behind it
record IsRead (text : List ℕ) (r : Read) : Type 0 where
  pub front : List ℕ
  pub whole : text ≡ front ++ r.left
  pub sub : IsSubText front r.value
  pub end : begins_with_end r.left ≡ true

string_found : (text : List ℕ) (r : Read) → string_at (scan Start text) ≡ Some r → IsRead text r
string_found text r e = elim (chosen (is_whole (scan Start text).state && begins_with_end (scan Start text).left) (Some (record { value = (scan Start text).value; left = (scan Start text).left })) None (Some r) e) [
  | inl h ↦
      let t = and_parts (is_whole (scan Start text).state) (begins_with_end (scan Start text).left) h.0 in
      let f = scan_found text t.0 in
      let is : record { value = (scan Start text).value; left = (scan Start text).left } ≡ r = cc h.1 in
      subst (IsRead text) is (record { front = f.0; whole = f.1; sub = string f.2; end = t.1 })
  | inr h ↦ absurd (cc h.1)
]

numeral_found : (n : ℕ) (text : List ℕ) (r : Read) → numeral_at n text ≡ Some r → IsRead text r
numeral_found n text r e = elim (chosen (is_number (take n text) && begins_with_end (drop n text)) (Some (record { value = take n text; left = drop n text })) None (Some r) e) [
  | inl h ↦
      let t = and_parts (is_number (take n text)) (begins_with_end (drop n text)) h.0 in
      let is : record { value = take n text; left = drop n text } ≡ r = cc h.1 in
      subst (IsRead text) is (record { front = take n text; whole = sym (take-append-drop n text); sub = number (take n text) t.0; end = t.1 })
  | inr h ↦ absurd (cc h.1)
]

sub_found : (text : List ℕ) (r : Read) → sub_at text ≡ Some r → IsRead text r
sub_found text r e = elim (chosen (begins_string text) (string_at (scan Start text)) (numeral_at (position_or_len is_end text) text) (Some r) e) [
  | inl h ↦ string_found text r h.1
  | inr h ↦ numeral_found (position_or_len is_end text) text r h.1
]

fronted_found : (v : List ℕ) (r : Result (List (List ℕ)) KeyError) (subs : List (List ℕ)) → fronted (v ∷ []) r ≡ Ok subs → (more : List (List ℕ)) × (r ≡ Ok more) × (v ∷ more ≡ subs)
fronted_found v (Ok more) subs e = (more, refl, cc)
fronted_found v (Err f) subs e = cc

none_left : (xs : List ℕ) → (length xs == 0) ≡ true → [] ≡ xs
none_left [] h = refl
none_left (x ∷ xs) h = absurd (omega (arith, eqb-true (length (x ∷ xs)) 0 h))

other_end : (b : ℕ) → is_end b ≡ true → (b == 44) ≡ false → 41 ≡ b
other_end b h ne = elim (or_cases (b == 44) (b == 41) h) [ inl e ↦ absurd (both_ways (b == 44) ne e) | inr e ↦ sym (eqb-true b 41 e) ]

-- what is left behind a subscript, and the subscripts that it holds
behind_found : (k : ℕ) (front v left : List ℕ) (subs : List (List ℕ)) → ((u : List ℕ) (more : List (List ℕ)) → subs_at k u ≡ Ok more → IsSubsText u more)
    → IsSubText front v → begins_with_end left ≡ true → going (behind_sub v left) (subs_at k) ≡ Ok subs → IsSubsText (front ++ left) subs
behind_found k front v [] subs next sub end e = cc
behind_found k front v (b ∷ left) subs next sub end e = elim (cases_Bool (b == 44)) [
  | inl h ↦
      let r = fronted_found v (subs_at k left) subs (rw h at e) in
      subst (λ c. IsSubsText (front ++ (c ∷ left)) subs) (sym (eqb-true b 44 h)) (subst (IsSubsText (front ++ (44 ∷ left))) r.2 (another sub (next left r.0 r.1)))
  | inr h ↦ elim (cases_Bool (length left == 0)) [
    | inl z ↦
        let is : v ∷ [] ≡ subs = cc (rw z at (rw h at e)) in
        subst (λ c. IsSubsText (front ++ (c ∷ left)) subs) (other_end b end h) (subst (λ x. IsSubsText (front ++ (41 ∷ x)) subs) (none_left left z) (subst (IsSubsText (front ++ (41 ∷ []))) is (last sub)))
    | inr z ↦ absurd (cc (rw z at (rw h at e)))
  ]
]

next_found : (k : ℕ) (text : List ℕ) (o : Option Read) (subs : List (List ℕ)) → ((u : List ℕ) (more : List (List ℕ)) → subs_at k u ≡ Ok more → IsSubsText u more)
    → sub_at text ≡ o → going (next_from o) (subs_at k) ≡ Ok subs → IsSubsText text subs
next_found k text None subs next is e = cc
next_found k text (Some r) subs next is e = elim (cases_Bool (length r.value == 0)) [
  | inl h ↦ absurd (cc (rw h at e))
  | inr h ↦
      let f = sub_found text r is in
      subst (λ x. IsSubsText x subs) (sym f.whole) (behind_found k f.front r.value r.left subs next f.sub f.end (rw h at e))
]

subs_found : (k : ℕ) (text : List ℕ) (subs : List (List ℕ)) → subs_at k text ≡ Ok subs → IsSubsText text subs
subs_found zero text subs e = absurd (cc (sym (subs_past text) ∙ e))
subs_found (suc k) text subs e = next_found k text (sub_at text) subs (λ u more h. subs_found k u more h) refl (sym (subs_more k text) ∙ e)

tail_found : (name tail : List ℕ) (subs : List (List ℕ)) → subs_in tail ≡ Ok subs → IsKeyText (94 ∷ (name ++ tail)) name subs
tail_found name [] subs e = let is : [] ≡ subs = cc in subst (λ x. IsKeyText (94 ∷ x) name subs) (sym (append-nil name)) (subst (IsKeyText (94 ∷ name) name) is (bare name))
tail_found name (c ∷ t) subs e = elim (chosen (c == 40) (subs_at MOST_SUBS t) (Err BadSub) (Ok subs) e) [
  | inl h ↦ subst (λ b. IsKeyText (94 ∷ (name ++ (b ∷ t))) name subs) (sym (eqb-true c 40 h.0)) (branched name (subs_found 31 t subs h.1))
  | inr h ↦ absurd (cc h.1)
]

answered_found : (name : List ℕ) (subs : List (List ℕ)) (o : Option KeyError) (key : Key) → answered name subs o ≡ Ok key → key ≡ key_of name subs
answered_found name subs None key e = cc
answered_found name subs (Some f) key e = cc

fitting_found : (name tail : List ℕ) (r : Result (List (List ℕ)) KeyError) (key : Key) → subs_in tail ≡ r → fitting name r ≡ Ok key → IsTextOf (94 ∷ (name ++ tail)) key
fitting_found name tail (Ok subs) key is e = record { name = name; subs = subs; text_is = tail_found name tail subs is; key_is = answered_found name subs (key_fault name subs) key e }
fitting_found name tail (Err f) key is e = cc

named_found : (name tail : List ℕ) (key : Key) → named name tail ≡ Ok key → IsTextOf (94 ∷ (name ++ tail)) key
named_found name tail key e = elim (chosen (not (is_name name)) (Err BadName) (cond (nat_lt LONGEST_NAME (length name)) (Err NameTooLong) (fitting name (subs_in tail))) (Ok key) e) [
  | inl h ↦ absurd (cc h.1)
  | inr h ↦ elim (chosen (nat_lt LONGEST_NAME (length name)) (Err NameTooLong) (fitting name (subs_in tail)) (Ok key) h.1) [
    | inl k ↦ absurd (cc k.1)
    | inr k ↦ fitting_found name tail (subs_in tail) key refl k.1
  ]
]

split_found : (n : ℕ) (bs : List ℕ) (key : Key) → split_name n bs ≡ Ok key → IsTextOf (94 ∷ bs) key
split_found n bs key e = subst (λ x. IsTextOf (94 ∷ x) key) (take-append-drop n bs) (named_found (take n bs) (drop n bs) key e)

key_found : (text : List ℕ) (key : Key) → key_reading text ≡ Ok key → IsTextOf text key
key_found [] key e = cc
key_found (b ∷ bs) key e = elim (chosen (b == 94) (split_name (position_or_len is_bracket bs) bs) (Err BadName) (Ok key) e) [
  | inl h ↦ subst (λ c. IsTextOf (c ∷ bs) key) (sym (eqb-true b 94 h.0)) (split_found (position_or_len is_bracket bs) bs key h.1)
  | inr h ↦ absurd (cc h.1)
]

pub text_found : (text : List ℕ) (r : Result Key KeyError) → ReadsKey (key_reading text) r → IfOk r (IsTextOf text)
text_found text (Ok key) h = key_found text key h
text_found text (Err e) h = tt
