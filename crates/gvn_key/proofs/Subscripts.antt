-- Reading subscripts one after another.
use Rattle.std.proofs.Common.{◌≡◌, ℕ, ◌+◌, ◌-◌, ◌<◌, true, List, [], ◌∷◌, ◌++◌, length, take, drop, map, refl, ap, sym, subst, ◌∙◌, arith, append_assoc, Some, None}
use Rattle.std.specs.List.{list_all, flat_map}
use Rattle.std.proofs.lemmas.List.{append-nil}
use Rattle.std.proofs.Math.ListN.{length-append, length-drop}
use Rattle.std.proofs.Math.Seq.{take-length, take-append_seam, drop-append-add}
use Rattle.std.proofs.lemmas.Bool.{and_parts}
use Rattle.global_defs.specs.Key.{Sub}
use Rattle.global_defs.specs.Encoded.{encoded_sub}
use Rattle.global_defs.specs.NodeText.{sub_bytes}
use Rattle.global_defs.specs.Valid.{is_sub}
use Rattle.gvn_key.specs.Decoding.{sub_end, sub_read}
use Rattle.gvn_key.proofs.Decoded.{front, last_byte, encoded_parts, sub_back, end_found}

-- Of subscripts some are read, by their own bytes, and the rest is the code of the others.
pub record IsPartRead (texts : List (List ℕ)) (rest : List ℕ) (subs : List Sub) : Type 0 where
  pub others : List Sub
  pub valid : list_all is_sub others ≡ true
  pub code : flat_map encoded_sub others ≡ rest
  pub joined : map sub_bytes subs ≡ texts ++ map sub_bytes others

pub none_read : (rest : List ℕ) (subs : List Sub) → list_all is_sub subs ≡ true → flat_map encoded_sub subs ≡ rest → IsPartRead [] rest subs
none_read rest subs h e = record { others = subs; valid = h; code = e; joined = refl }

pub code_parts : (s : Sub) (ss : List Sub) → flat_map encoded_sub (s ∷ ss) ≡ front s ++ (last_byte s ∷ flat_map encoded_sub ss)
code_parts s ss = ap (λ x. x ++ flat_map encoded_sub ss) (encoded_parts s) ∙ append_assoc (front s) (last_byte s ∷ []) (flat_map encoded_sub ss)

code_some : (s : Sub) (ss : List Sub) → 0 < length (flat_map encoded_sub (s ∷ ss))
code_some s ss = omega (arith, ap length (code_parts s ss), length-append (front s) (last_byte s ∷ flat_map encoded_sub ss))

pub all_read : (texts : List (List ℕ)) (rest : List ℕ) (subs : List Sub) → length rest ≡ 0 → IsPartRead texts rest subs → texts ≡ map sub_bytes subs
all_read texts rest subs none p = go p.others p.code p.joined
  where
    go : (others : List Sub) → flat_map encoded_sub others ≡ rest → map sub_bytes subs ≡ texts ++ map sub_bytes others → texts ≡ map sub_bytes subs
    go [] e j = sym (j ∙ append-nil texts)
    go (s ∷ ss) e j = absurd (omega (arith, code_some s ss, ap length e))

-- the first of the subscripts that aren't read
record IsNext (texts : List (List ℕ)) (rest : List ℕ) (subs : List Sub) : Type 0 where
  pub first : Sub
  pub end : sub_end rest ≡ Some (length (front first))
  pub read : sub_read (take (length (front first)) rest) ≡ Some (sub_bytes first)
  pub behind : IsPartRead (texts ++ (sub_bytes first ∷ [])) (drop (length (front first) + 1) rest) subs

next_of : (texts : List (List ℕ)) (subs : List Sub) (s : Sub) (ss : List Sub) → list_all is_sub (s ∷ ss) ≡ true → map sub_bytes subs ≡ texts ++ map sub_bytes (s ∷ ss)
    → IsNext texts (front s ++ (last_byte s ∷ flat_map encoded_sub ss)) subs
next_of texts subs s ss h j =
    let t = and_parts (is_sub s) (list_all is_sub ss) h in
    let more : List ℕ = flat_map encoded_sub ss in
    record {
      first = s;
      end = end_found s t.0 more;
      read = ap sub_read (take-append_seam (front s) (last_byte s ∷ more)) ∙ sub_back s t.0;
      behind = record {
        others = ss;
        valid = t.1;
        code = sym (drop-append-add (front s) (last_byte s ∷ more) 1);
        joined = j ∙ sym (append_assoc texts (sub_bytes s ∷ []) (map sub_bytes ss));
      };
    }

next : (texts : List (List ℕ)) (rest : List ℕ) (subs : List Sub) → 0 < length rest → IsPartRead texts rest subs → IsNext texts rest subs
next texts rest subs some p = go p.others p.valid p.code p.joined
  where
    go : (others : List Sub) → list_all is_sub others ≡ true → flat_map encoded_sub others ≡ rest → map sub_bytes subs ≡ texts ++ map sub_bytes others → IsNext texts rest subs
    go [] h e j = absurd (omega (arith, ap length e))
    go (s ∷ ss) h e j = subst (λ x. IsNext texts x subs) (sym (code_parts s ss) ∙ e) (next_of texts subs s ss h j)

pub same_place : (m n : ℕ) → Some m ≡ Some n → m ≡ n
same_place m n e = cc

-- where the rest doesn't end a subscript, or ends none that is read, no subscripts have the code

pub no_end : (texts : List (List ℕ)) (rest : List ℕ) (subs : List Sub) → 0 < length rest → IsPartRead texts rest subs → sub_end rest ≡ None → ⊥
no_end texts rest subs some p none = let n = next texts rest subs some p in let end = n.end in cc

pub not_read : (texts : List (List ℕ)) (rest : List ℕ) (subs : List Sub) (last : ℕ) → 0 < length rest → IsPartRead texts rest subs → sub_end rest ≡ Some last → sub_read (take last rest) ≡ None → ⊥
not_read texts rest subs last some p at none =
    let n = next texts rest subs some p in
    let is : last ≡ length (front n.first) = same_place last (length (front n.first)) (sym at ∙ n.end) in
    let read : sub_read (take last rest) ≡ Some (sub_bytes n.first) = ap (λ k. sub_read (take k rest)) is ∙ n.read in
    cc

pub one_read : (texts : List (List ℕ)) (rest : List ℕ) (subs : List Sub) (last : ℕ) (text : List ℕ) → 0 < length rest → IsPartRead texts rest subs → sub_end rest ≡ Some last → sub_read (take last rest) ≡ Some text
    → IsPartRead (texts ++ (text ∷ [])) (drop (last + 1) rest) subs
one_read texts rest subs last text some p at known =
    let n = next texts rest subs some p in
    let is : length (front n.first) ≡ last = sym (same_place last (length (front n.first)) (sym at ∙ n.end)) in
    let read : sub_read (take last rest) ≡ Some (sub_bytes n.first) = ap (λ k. sub_read (take k rest)) (sym is) ∙ n.read in
    let same : sub_bytes n.first ≡ text = cc (read, known) in
    subst (λ x. IsPartRead (texts ++ (x ∷ [])) (drop (last + 1) rest) subs) same (subst (λ k. IsPartRead (texts ++ (sub_bytes n.first ∷ [])) (drop (k + 1) rest) subs) is n.behind)

-- what a slice from a place on is
pub rest_is : (xs : List ℕ) (n : ℕ) → take (length xs - n) (drop n xs) ≡ drop n xs
rest_is xs n = ap (λ k. take k (drop n xs)) (sym (length-drop n xs)) ∙ take-length (drop n xs)
