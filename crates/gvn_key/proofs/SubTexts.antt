-- The text of subscripts, written one after another.
use Rattle.std.proofs.Common.{◌≡◌, ℕ, ◌+◌, Bool, true, false, List, [], ◌∷◌, ◌++◌, length, take, drop, if◌then◌else◌, ◌==◌, refl, ap, sym, subst, ◌∙◌, append_assoc, Option, Some, None, suc, zero, pos, negsuc}
use Rattle.std.specs.List.{list_all, flat_map}
use Rattle.std.proofs.lemmas.List.{append-nil}
use Rattle.std.proofs.Math.Seq.{take-append_seam, drop-append-add}
use Rattle.std.proofs.lemmas.Bool.{and_parts}
use Rattle.global_defs.specs.Key.{Sub, Number, Text}
use Rattle.global_defs.specs.Encoded.{encoded_sub}
use Rattle.global_defs.specs.NodeText.{sub_text, subs_text}
use Rattle.global_defs.specs.Valid.{is_sub}
use Rattle.global_defs.specs.Zwr.{zwr}
use Rattle.gvn_key.specs.Decoding.{AddsRead, AddsText, sub_end, text_read}
use Rattle.gvn_key.proofs.Decoded.{front, last_byte, end_found, sub_back, unescaped_back}
use Rattle.gvn_key.proofs.Subscripts.{code_parts, same_place}

-- what was added to nothing is what was read
pub alone : (read : Option (List ℕ)) (new : List ℕ) → AddsRead read [] new true → Some new ≡ read
alone None new a = absurd (let no : true ≡ false = a in cc)
alone (Some text) new a = ap Some a.1

pub nothing : (read : Option (List ℕ)) (new : List ℕ) → AddsRead read [] new false → None ≡ read
nothing None new a = refl
nothing (Some text) new a = absurd (let no : false ≡ true = a.0 in cc)

-- what was read and added is a subscript's text
pub adds : (read : Option (List ℕ)) (old new : List ℕ) (found : Bool) → AddsRead read old new found → AddsText read old new
adds None old new found a = tt
adds (Some text) old new found a = a.1

text_back : (s : Sub) → is_sub s ≡ true → text_read (front s) ≡ Some (sub_text s)
text_back (Number (pos zero)) h = refl
text_back (Number (pos (suc n))) h = sub_back (Number (pos (suc n))) h
text_back (Number (negsuc n)) h = sub_back (Number (negsuc n)) h
text_back (Text s) h = ap (λ (t : List ℕ). Some (zwr t)) (unescaped_back s)

-- the text of subscripts by the byte before the first of them, behind which others stand, each behind a comma; a bracket is closed that was opened
abbrev pub text_from : ℕ → List Sub → List ℕ
text_from lead [] = if lead == 44 then 41 ∷ [] else []
text_from lead (s ∷ ss) = lead ∷ sub_text s ++ text_from 44 ss

closed : (ss : List Sub) → flat_map (λ t. 44 ∷ sub_text t) ss ++ 41 ∷ [] ≡ text_from 44 ss
closed [] = refl
closed (s ∷ ss) =
    append_assoc (44 ∷ sub_text s) (flat_map (λ t. 44 ∷ sub_text t) ss) (41 ∷ []) ∙ ap (λ (x : List ℕ). 44 ∷ sub_text s ++ x) (closed ss)

from_bracket : (ss : List Sub) → subs_text ss ≡ text_from 40 ss
from_bracket [] = refl
from_bracket (s ∷ ss) =
    append_assoc (40 ∷ sub_text s) (flat_map (λ t. 44 ∷ sub_text t) ss) (41 ∷ []) ∙ ap (λ (x : List ℕ). 40 ∷ sub_text s ++ x) (closed ss)

-- Of subscripts the text of some is written, and the rest is the code of the others.
pub record IsPartWritten (lead : ℕ) (rest : List ℕ) (subs : List Sub) (old now : List ℕ) : Type 0 where
  pub others : List Sub
  pub valid : list_all is_sub others ≡ true
  pub code : flat_map encoded_sub others ≡ rest
  pub joined : old ++ subs_text subs ≡ now ++ text_from lead others

pub none_written : (rest : List ℕ) (subs : List Sub) (old : List ℕ) → list_all is_sub subs ≡ true → flat_map encoded_sub subs ≡ rest → IsPartWritten 40 rest subs old old
none_written rest subs old h e = record { others = subs; valid = h; code = e; joined = ap (λ (x : List ℕ). old ++ x) (from_bracket subs) }

added : (text : List ℕ) (read : Option (List ℕ)) (old new : List ℕ) → read ≡ Some text → AddsText read old new → new ≡ old ++ text
added text read old new is a = subst (λ r. AddsText r old new) is a

pub one_written : (lead last : ℕ) (rest : List ℕ) (subs : List Sub) (old now new : List ℕ) → IsPartWritten lead rest subs old now → sub_end rest ≡ Some last
    → AddsText (text_read (take last rest)) (now ++ lead ∷ []) new → IsPartWritten 44 (drop (last + 1) rest) subs old new
one_written lead last rest subs old now new p at text = go p.others p.valid p.code p.joined
  where
    go : (others : List Sub) → list_all is_sub others ≡ true → flat_map encoded_sub others ≡ rest → old ++ subs_text subs ≡ now ++ text_from lead others → IsPartWritten 44 (drop (last + 1) rest) subs old new
    go [] h e j = absurd (let none : sub_end rest ≡ None = ap sub_end (sym e) in cc)
    go (s ∷ ss) h e j =
        let t = and_parts (is_sub s) (list_all is_sub ss) h in
        let more : List ℕ = flat_map encoded_sub ss in
        let code : rest ≡ front s ++ (last_byte s ∷ more) = sym e ∙ code_parts s ss in
        let is : last ≡ length (front s) = same_place last (length (front s)) (sym at ∙ ap sub_end code ∙ end_found s t.0 more) in
        let own : take last rest ≡ front s = (λ i. take (is i) (code i)) ∙ take-append_seam (front s) (last_byte s ∷ more) in
        let made : new ≡ (now ++ lead ∷ []) ++ sub_text s = added (sub_text s) (text_read (take last rest)) (now ++ lead ∷ []) new (ap text_read own ∙ text_back s t.0) text in
        record {
          others = ss;
          valid = t.1;
          code = sym ((λ i. drop (is i + 1) (code i)) ∙ drop-append-add (front s) (last_byte s ∷ more) 1);
          joined =
              j ∙ sym (append_assoc now (lead ∷ []) (sub_text s ++ text_from 44 ss)) ∙ sym (append_assoc (now ++ lead ∷ []) (sub_text s) (text_from 44 ss))
              ∙ ap (λ (x : List ℕ). x ++ text_from 44 ss) (sym made);
        }

-- where no subscript ends any more, what is left is the bracket behind the last
all_written : (lead : ℕ) (rest : List ℕ) (subs : List Sub) (old now : List ℕ) → IsPartWritten lead rest subs old now → sub_end rest ≡ None
    → now ++ (if lead == 44 then 41 ∷ [] else []) ≡ old ++ subs_text subs
all_written lead rest subs old now p none = go p.others p.valid p.code p.joined
  where
    go : (others : List Sub) → list_all is_sub others ≡ true → flat_map encoded_sub others ≡ rest → old ++ subs_text subs ≡ now ++ text_from lead others
        → now ++ (if lead == 44 then 41 ∷ [] else []) ≡ old ++ subs_text subs
    go [] h e j = sym j
    go (s ∷ ss) h e j =
        let t = and_parts (is_sub s) (list_all is_sub ss) h in
        let some : sub_end rest ≡ Some (length (front s)) = ap sub_end (sym e ∙ code_parts s ss) ∙ end_found s t.0 (flat_map encoded_sub ss) in
        absurd (cc)

pub bracket_closed : (lead : ℕ) (rest : List ℕ) (subs : List Sub) (old now : List ℕ) → IsPartWritten lead rest subs old now → sub_end rest ≡ None → (lead == 44) ≡ true
    → now ++ 41 ∷ [] ≡ old ++ subs_text subs
bracket_closed lead rest subs old now p none test = ap (λ (b : Bool). now ++ (if b then 41 ∷ [] else [])) (sym test) ∙ all_written lead rest subs old now p none

pub no_bracket : (lead : ℕ) (rest : List ℕ) (subs : List Sub) (old now : List ℕ) → IsPartWritten lead rest subs old now → sub_end rest ≡ None → (lead == 44) ≡ false
    → now ≡ old ++ subs_text subs
no_bracket lead rest subs old now p none test =
    sym (append-nil now) ∙ ap (λ (b : Bool). now ++ (if b then 41 ∷ [] else [])) (sym test) ∙ all_written lead rest subs old now p none
