-- Subscripts read one after another, and the key that they make with a name.
use Rattle.std.proofs.Common.{◌≡◌, ℕ, ◌+◌, ◌≤◌, true, List, [], ◌∷◌, ◌++◌, length, drop, refl, ap, sym, ◌∙◌, arith, append_assoc, append-nil}
use Rattle.std.specs.List.{list_all, flat_map}
use Rattle.std.proofs.lemmas.Bool.{le-leb}
use Rattle.std.proofs.lemmas.Grind.{flat_map-append}
use Rattle.std.proofs.lemmas.List.Folds.{list_all-append}
use Rattle.std.proofs.Math.ListN.{length-append}
use Rattle.std.proofs.Math.Seq.{drop-append-add}
use Rattle.global_defs.specs.declared.limits.TheConstants.{MOST_SUBS}
use Rattle.global_defs.specs.Key.{Key, Sub}
use Rattle.global_defs.specs.Encoded.{encoded, encoded_sub}
use Rattle.global_defs.specs.Valid.{is_sub}
use Rattle.gvn_key.specs.Decoding.{IsCode}
use Rattle.gvn_key.specs.Rests.{AreSubs}
use Rattle.gvn_key.specs.Plain.{BeginWithName, BeginWithSub}
use Rattle.gvn_key.proofs.Splits.{behind_front}

-- so many subscripts are read of some bytes, and these are left
pub record AreRead (n : ℕ) (rest bytes : List ℕ) : Type 0 where
  pub subs : List Sub
  pub valid : list_all is_sub subs ≡ true
  pub count : length subs ≡ n
  pub code : bytes ≡ flat_map encoded_sub subs ++ rest

pub none_read : (bytes : List ℕ) → AreRead 0 bytes bytes
none_read bytes = record { subs = []; valid = refl; count = refl; code = refl }

pub one_read : (n : ℕ) (rest bytes : List ℕ) (size : ℕ) → AreRead n rest bytes → BeginWithSub size rest → AreRead (n + 1) (drop size rest) bytes
one_read n rest bytes size r b =
    let behind : drop size rest ≡ b.behind = (λ i. drop (sym b.long i) (b.code i)) ∙ behind_front (encoded_sub b.sub) b.behind in
    let joined : flat_map encoded_sub (r.subs ++ b.sub ∷ []) ≡ flat_map encoded_sub r.subs ++ encoded_sub b.sub =
    flat_map-append encoded_sub r.subs (b.sub ∷ []) ∙ ap (λ (x : List ℕ). flat_map encoded_sub r.subs ++ x) (append-nil (encoded_sub b.sub)) in
    record {
      subs = r.subs ++ b.sub ∷ [];
      valid = list_all-append is_sub r.subs (b.sub ∷ []) ∙ rw (r.valid, b.valid) refl;
      count = omega (arith, length-append r.subs (b.sub ∷ []), r.count);
      code = r.code ∙ ap (λ (x : List ℕ). flat_map encoded_sub r.subs ++ x) (b.code ∙ ap (λ (x : List ℕ). encoded_sub b.sub ++ x) (sym behind))
          ∙ sym (append_assoc (flat_map encoded_sub r.subs) (encoded_sub b.sub) (drop size rest)) ∙ ap (λ (x : List ℕ). x ++ drop size rest) (sym joined);
    }

pub all_read : (n : ℕ) (rest bytes : List ℕ) → AreRead n rest bytes → n ≤ 31 → length rest ≡ 0 → AreSubs MOST_SUBS bytes
all_read n [] bytes r few none = record { subs = r.subs; valid = r.valid; few = omega (arith, r.count, few); encode = sym (r.code ∙ append-nil (flat_map encoded_sub r.subs)) }
all_read n (b ∷ rest) bytes r few none = absurd (omega arith)

-- a name and subscripts that have room are a key
pub code_of : (end : ℕ) (bytes behind : List ℕ) → BeginWithName end bytes → behind ≡ drop (end + 1) bytes → AreSubs MOST_SUBS behind → length bytes ≤ 255 → IsCode bytes
code_of end bytes behind b is s short =
    let key : Key = record { name = b.name; subs = s.subs } in
    let cut : drop (end + 1) bytes ≡ b.behind = (λ i. drop (sym b.long i + 1) (b.code i)) ∙ drop-append-add b.name (0 ∷ b.behind) 1 in
    let code : bytes ≡ encoded key = b.code ∙ ap (λ (x : List ℕ). b.name ++ 0 ∷ x) (sym (s.encode ∙ is ∙ cut)) in
    (key, rw (b.valid, le-leb (length b.name) 31 (omega (arith, b.long, b.short)), s.valid, le-leb (length s.subs) 31 s.few) (le-leb (length (encoded key)) 255 (omega (arith, ap length code, short))), code)
