-- Reading an encoded key gives its name and its subscripts' own bytes.
use Rattle.std.proofs.Common.{◌≡◌, ℕ, ◌+◌, ◌-◌, true, List, [], ◌∷◌, length, take, drop, map, position, refl, ap, sym, ◌∙◌, arith, Option, Some, None, ◌==◌}
use Rattle.std.specs.List.{list_all, flat_map}
use Rattle.std.specs.Option.{option_map}
use Rattle.std.proofs.Math.Seq.{take-append_seam, drop-append-add}
use Rattle.std.proofs.lemmas.Bool.{and_parts, ne_eqb, ltb-true}
use Rattle.global_defs.specs.Key.{Key, Sub}
use Rattle.global_defs.specs.Encoded.{encoded, encoded_sub}
use Rattle.global_defs.specs.NodeText.{sub_bytes}
use Rattle.global_defs.specs.Valid.{is_sub, is_key}
use Rattle.global_defs.proofs.Codes.{is_some_byte}
use Rattle.global_defs.proofs.ValidKeys.{valid_parts, name_some}
use Rattle.global_defs.proofs.Places.{none_pass, position_behind}
use Rattle.gvn_key.specs.Decoding.{ReadsSubs}
use Rattle.gvn_key.proofs.Subscripts.{same_place, rest_is}

-- where the name ends

bytes_go_on : (bs : List ℕ) → list_all is_some_byte bs ≡ true → none_pass (λ b. b == 0) bs ≡ true
bytes_go_on [] h = refl
bytes_go_on (b ∷ bs) h =
    let t = and_parts (is_some_byte b) (list_all is_some_byte bs) h in
    rw (ne_eqb b 0 (λ e. omega (arith, ltb-true 0 b t.0))) (bytes_go_on bs t.1)

name_end : (key : Key) → is_key key ≡ true → position (λ b. b == 0) (encoded key) ≡ Some (length key.name)
name_end key h = position_behind (λ b. b == 0) key.name 0 (flat_map encoded_sub key.subs) (bytes_go_on key.name (name_some key.name (valid_parts key h).name)) refl

pub end_known : (bytes : List ℕ) (key : Key) → is_key key ≡ true → encoded key ≡ bytes → position (λ b. b == 0) bytes ≡ Some (length key.name)
end_known bytes key h e = ap (position (λ b. b == 0)) (sym e) ∙ name_end key h

pub record IsCut (bytes : List ℕ) (end : ℕ) (key : Key) : Type 0 where
  pub name : take end bytes ≡ key.name
  pub subs : flat_map encoded_sub key.subs ≡ drop (end + 1) bytes

pub cut : (bytes : List ℕ) (end : ℕ) (key : Key) → position (λ b. b == 0) bytes ≡ Some end → is_key key ≡ true → encoded key ≡ bytes → IsCut bytes end key
cut bytes end key at h e =
    let more : List ℕ = flat_map encoded_sub key.subs in
    let is : end ≡ length key.name = same_place end (length key.name) (sym at ∙ end_known bytes key h e) in
    record {
      name = (λ i. take (is i) (sym e i)) ∙ take-append_seam key.name (0 ∷ more);
      subs = sym ((λ i. drop (is i + 1) (sym e i)) ∙ drop-append-add key.name (0 ∷ more) 1);
    }

abbrev pub key_with : List ℕ → List Sub → Key
key_with name subs = record { name = name; subs = subs }

-- the subscripts behind the name of a key with these bytes
pub subs_known : (bytes : List ℕ) (end : ℕ) (key : Key) → position (λ b. b == 0) bytes ≡ Some end → is_key key ≡ true → encoded key ≡ bytes
    → flat_map encoded_sub key.subs ≡ take (length bytes - (end + 1)) (drop (end + 1) bytes)
subs_known bytes end key at h e = (cut bytes end key at h e).subs ∙ sym (rest_is bytes (end + 1))

-- what was read of them

pub none_fit : {X : Type 0} (bytes : List ℕ) (o : Option X) (f : X → List (List ℕ)) → o ≡ None → ReadsSubs bytes (option_map f o) → (subs : List Sub) → list_all is_sub subs ≡ true → flat_map encoded_sub subs ≡ bytes → ⊥
none_fit bytes None f e r = r
none_fit bytes (Some x) f e r = cc

pub these_fit : {X : Type 0} (bytes : List ℕ) (o : Option X) (f : X → List (List ℕ)) (x : X) → o ≡ Some x → ReadsSubs bytes (option_map f o) → (subs : List Sub) → list_all is_sub subs ≡ true → flat_map encoded_sub subs ≡ bytes → f x ≡ map sub_bytes subs
these_fit bytes None f x e r = cc
these_fit bytes (Some y) f x e r = λ subs h g. let same : x ≡ y = cc in ap f same ∙ r subs h g
