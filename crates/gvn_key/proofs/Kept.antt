-- The encoded form of a key is read to that key.
use Rattle.std.proofs.Common.{◌≡◌, ℕ, zero, suc, ◌≤◌, true, List, [], ◌∷◌, ◌++◌, length, refl, ap, sym, ◌∙◌, arith, Option}
use Rattle.std.specs.List.{list_all, flat_map}
use Rattle.std.proofs.Math.Seq.{take-append_seam, drop-append-add}
use Rattle.std.proofs.lemmas.Bool.{and_parts}
use Rattle.global_defs.specs.declared.limits.TheConstants.{MOST_SUBS}
use Rattle.global_defs.specs.Key.{Key, Sub}
use Rattle.global_defs.specs.Encoded.{encoded, encoded_sub}
use Rattle.global_defs.specs.Valid.{is_sub, is_key}
use Rattle.global_defs.proofs.NumberValue as numbers
use Rattle.global_defs.proofs.ValidKeys.{valid_parts}
use Rattle.gvn_key.specs.Decoding.{IsCode, sub_end, sub_read, first_read, behind_first, before_others, subs_read, key_cut, key_read, IsKept}
use Rattle.gvn_key.proofs.Decoded.{front, last_byte, sub_back, end_found}
use Rattle.gvn_key.proofs.Subscripts.{code_parts}
use Rattle.gvn_key.proofs.KeyRead.{key_with, end_known}

subs_back : (most : ℕ) (ss : List Sub) → list_all is_sub ss ≡ true → length ss ≤ most → subs_read most (flat_map encoded_sub ss) ≡ ss
unfolding subs_read
subs_back zero [] h few = refl
subs_back zero (s ∷ ss) h few = absurd (omega arith)
subs_back (suc most) [] h few = refl
subs_back (suc most) (s ∷ ss) h few =
    let t = and_parts (is_sub s) (list_all is_sub ss) h in
    let more : List ℕ = flat_map encoded_sub ss in
    let bytes : List ℕ = front s ++ (last_byte s ∷ more) in
    let read = ap sub_read (take-append_seam (front s) (last_byte s ∷ more)) ∙ sub_back s t.0 in
    ap (λ (x : List ℕ). before_others (first_read (sub_end x) x) (subs_read most (behind_first (sub_end x) x))) (code_parts s ss)
    ∙ ap (λ (o : Option ℕ). before_others (first_read o bytes) (subs_read most (behind_first o bytes))) (end_found s t.0 more)
    ∙ (λ i. before_others (read i) (subs_read most (drop-append-add (front s) (last_byte s ∷ more) 1 i)))
    ∙ (λ i. numbers.sub_back s t.0 i ∷ subs_back most ss t.1 (omega arith) i)

read_back : (key : Key) → is_key key ≡ true → key_read (encoded key) ≡ key
unfolding key_read
read_back key h =
    let v = valid_parts key h in
    let more : List ℕ = flat_map encoded_sub key.subs in
    ap (λ (o : Option ℕ). key_cut o (encoded key)) (end_known (encoded key) key h refl)
    ∙ (λ i. key_with (take-append_seam key.name (0 ∷ more) i) (subs_read MOST_SUBS (drop-append-add key.name (0 ∷ more) 1 i)))
    ∙ ap (key_with key.name) (subs_back 31 key.subs v.subs v.few)

-- bytes that are a key's are read to it
pub read_known : (code : List ℕ) (key : Key) → is_key key ≡ true → code ≡ encoded key → key_read code ≡ key
read_known code key v e = ap key_read e ∙ read_back key v

pub kept : (code : List ℕ) → IsCode code → IsKept code
kept code c =
    let same : key_read code ≡ c.0 = read_known code c.0 c.1 c.2 in
    record { valid = ap is_key same ∙ c.1; encodes = c.2 ∙ ap encoded (sym same) }
