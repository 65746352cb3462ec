-- Going along the encoded subscripts of a key.
use Rattle.std.proofs.Common.{◌≡◌, ℕ, zero, suc, ◌+◌, ◌-◌, ◌<◌, ◌≤◌, true, List, [], ◌∷◌, ◌++◌, length, take, drop, refl, ap, sym, ◌∙◌, arith, add-one, append_assoc, Some, None}
use Rattle.std.specs.List.{list_all, flat_map}
use Rattle.std.proofs.Math.ListN.{length-append}
use Rattle.std.proofs.Math.Seq.{take-append_seam, drop-append-add}
use Rattle.std.proofs.lemmas.List.{take-append-drop}
use Rattle.std.proofs.lemmas.Grind.{flat_map-append}
use Rattle.std.proofs.lemmas.Bool.{and_parts, le-leb}
use Rattle.global_defs.specs.Key.{Key, Sub}
use Rattle.global_defs.specs.Encoded.{encoded, encoded_sub}
use Rattle.global_defs.specs.Valid.{is_sub, is_key}
use Rattle.global_defs.proofs.ValidKeys.{valid_parts}
use Rattle.gvn_key.specs.Decoding.{sub_end}
use Rattle.gvn_key.specs.Faults.{front_of}
use Rattle.gvn_key.proofs.Decoded.{front, last_byte, end_found}
use Rattle.gvn_key.proofs.Subscripts.{code_parts, same_place}

-- where the rest of the bytes are those of the subscripts behind the first so many, and one ends in them, there is one more

pub step : (subs : List Sub) (i last : ℕ) (rest : List ℕ) → list_all is_sub subs ≡ true → rest ≡ flat_map encoded_sub (drop i subs) → sub_end rest ≡ Some last
    → drop (last + 1) rest ≡ flat_map encoded_sub (drop (suc i) subs)
step [] zero last rest h r e = let none : sub_end rest ≡ None = ap sub_end r in cc
step [] (suc i) last rest h r e = let none : sub_end rest ≡ None = ap sub_end r in cc
step (s ∷ ss) zero last rest h r e =
    let t = and_parts (is_sub s) (list_all is_sub ss) h in
    let more : List ℕ = flat_map encoded_sub ss in
    let code : rest ≡ front s ++ (last_byte s ∷ more) = r ∙ code_parts s ss in
    let is : last ≡ length (front s) = same_place last (length (front s)) (sym e ∙ ap sub_end code ∙ end_found s t.0 more) in
    (λ i. drop (is i + 1) (code i)) ∙ drop-append-add (front s) (last_byte s ∷ more) 1
step (s ∷ ss) (suc i) last rest h r e = step ss i last rest (and_parts (is_sub s) (list_all is_sub ss) h).1 r e

inside : (subs : List Sub) (i last : ℕ) (rest : List ℕ) → rest ≡ flat_map encoded_sub (drop i subs) → sub_end rest ≡ Some last → i < length subs
inside [] zero last rest r e = let none : sub_end rest ≡ None = ap sub_end r in cc
inside [] (suc i) last rest r e = let none : sub_end rest ≡ None = ap sub_end r in cc
inside (s ∷ ss) zero last rest r e = omega arith
inside (s ∷ ss) (suc i) last rest r e = omega (arith, inside ss i last rest r e)

pub one_more : (subs : List Sub) (i : ℕ) {rest : List ℕ} → rest ≡ flat_map encoded_sub (drop (suc i) subs) → rest ≡ flat_map encoded_sub (drop (i + 1) subs)
one_more subs i e = e ∙ ap (λ (n : ℕ). flat_map encoded_sub (drop n subs)) (sym (add-one i))

-- so many of the subscripts are passed, and the rest is the code of the others
pub record IsBehind (count : ℕ) (subs : List Sub) (rest : List ℕ) : Type 0 where
  pub few : count ≤ length subs
  pub code : rest ≡ flat_map encoded_sub (drop count subs)

pub passed : (subs : List Sub) (count last : ℕ) (rest : List ℕ) → list_all is_sub subs ≡ true → IsBehind count subs rest → sub_end rest ≡ Some last → IsBehind (count + 1) subs (drop (last + 1) rest)
passed subs count last rest h b e = record {
  few = omega (arith, inside subs count last rest b.code e);
  code = one_more subs count (step subs count last rest h b.code e);
}

-- where none ends there is none

ended : (subs : List Sub) (i : ℕ) (rest : List ℕ) → list_all is_sub subs ≡ true → rest ≡ flat_map encoded_sub (drop i subs) → sub_end rest ≡ None → length subs ≤ i
ended [] i rest h r e = omega arith
ended (s ∷ ss) zero rest h r e =
    let t = and_parts (is_sub s) (list_all is_sub ss) h in
    let some : sub_end rest ≡ Some (length (front s)) = ap sub_end (r ∙ code_parts s ss) ∙ end_found s t.0 (flat_map encoded_sub ss) in
    cc
ended (s ∷ ss) (suc i) rest h r e = omega (arith, ended ss i rest (and_parts (is_sub s) (list_all is_sub ss) h).1 r e)

pub counted : (subs : List Sub) (count : ℕ) (rest : List ℕ) → list_all is_sub subs ≡ true → IsBehind count subs rest → sub_end rest ≡ None → count ≡ length subs
counted subs count rest h b e = omega (arith, b.few, ended subs count rest h b.code e)

none_behind : (subs : List Sub) (n : ℕ) → length subs ≤ n → drop n subs ≡ []
none_behind [] zero h = refl
none_behind [] (suc n) h = refl
none_behind (s ∷ ss) zero h = absurd (omega arith)
none_behind (s ∷ ss) (suc n) h = none_behind ss n (omega arith)

-- so nothing stands behind more of them either
pub stays : (subs : List Sub) (i n : ℕ) (rest : List ℕ) → list_all is_sub subs ≡ true → rest ≡ flat_map encoded_sub (drop i subs) → sub_end rest ≡ None → i ≤ n
    → rest ≡ flat_map encoded_sub (drop n subs)
stays subs i n rest h r e more =
    let few : length subs ≤ i = ended subs i rest h r e in
    r ∙ ap (flat_map encoded_sub) (none_behind subs i few ∙ sym (none_behind subs n (omega arith)))

pub all_behind : (n : ℕ) (ss : List Sub) → list_all is_sub ss ≡ true → list_all is_sub (drop n ss) ≡ true
all_behind zero ss h = h
all_behind (suc n) [] h = refl
all_behind (suc n) (s ∷ ss) h = all_behind n ss (and_parts (is_sub s) (list_all is_sub ss) h).1

all_before : (n : ℕ) (ss : List Sub) → list_all is_sub ss ≡ true → list_all is_sub (take n ss) ≡ true
all_before zero ss h = refl
all_before (suc n) [] h = refl
all_before (suc n) (s ∷ ss) h = let t = and_parts (is_sub s) (list_all is_sub ss) h in rw t.0 (all_before n ss t.1)

-- a key's front and the subscripts behind it

pub front_code : (count : ℕ) (key : Key) → encoded (front_of count key) ++ flat_map encoded_sub (drop count key.subs) ≡ encoded key
front_code count key =
    append_assoc key.name (0 ∷ flat_map encoded_sub (take count key.subs)) (flat_map encoded_sub (drop count key.subs))
    ∙ ap (λ (l : List ℕ). key.name ++ 0 ∷ l) (sym (flat_map-append encoded_sub (take count key.subs) (drop count key.subs)) ∙ ap (flat_map encoded_sub) (take-append-drop count key.subs))

-- a key's bytes without those of the subscripts behind its front
pub front_cut : (count left : ℕ) (key : Key) (code : List ℕ) → code ≡ encoded key → left ≡ length (flat_map encoded_sub (drop count key.subs)) → take (length code - left) code ≡ encoded (front_of count key)
front_cut count left key code e is =
    let more : List ℕ = flat_map encoded_sub (drop count key.subs) in
    let whole : code ≡ encoded (front_of count key) ++ more = e ∙ sym (front_code count key) in
    let few : length code - left ≡ length (encoded (front_of count key)) = omega (arith, ap length whole, length-append (encoded (front_of count key)) more, is) in
    (λ i. take (few i) (whole i)) ∙ take-append_seam (encoded (front_of count key)) more

pub left_fits : (count left : ℕ) (key : Key) (code : List ℕ) → code ≡ encoded key → left ≡ length (flat_map encoded_sub (drop count key.subs)) → left ≤ length code
left_fits count left key code e is =
    omega (arith, ap length (e ∙ sym (front_code count key)), length-append (encoded (front_of count key)) (flat_map encoded_sub (drop count key.subs)), is)

pub front_valid : (count : ℕ) (key : Key) → is_key key ≡ true → is_key (front_of count key) ≡ true
front_valid count key v =
    let parts = valid_parts key v in
    let subs : list_all is_sub (take count key.subs) ≡ true = all_before count key.subs parts.subs in
    let few : length (take count key.subs) ≤ 31 = omega (arith, parts.few, length-append (take count key.subs) (drop count key.subs), ap length (take-append-drop count key.subs)) in
    let fits : length (encoded (front_of count key)) ≤ 255 = omega (arith, parts.fits, length-append (encoded (front_of count key)) (flat_map encoded_sub (drop count key.subs)), ap length (front_code count key)) in
    rw (parts.name, le-leb (length key.name) 31 parts.short, subs, le-leb (length (take count key.subs)) 31 few) (le-leb (length (encoded (front_of count key))) 255 fits)
