-- Keys, values and updates that are passed over.
use Rattle.std.proofs.Common.{◌≡◌, ◌≢◌, List, ℕ, [], ◌∷◌, ◌++◌, ◌<◌, ◌≤◌, ◌^◌, rules, arith, length, true, Option, Some, None, refl, ap, sym, ◌∙◌, subst}
use Rattle.global_defs.specs.declared.limits.TheConstants.{LONGEST_VALUE}
use Rattle.gvn_key.specs.Decoding.{IsCode}
use Rattle.global_defs.specs.Key.{Key}
use Rattle.global_defs.specs.Valid.{is_key}
use Rattle.global_defs.specs.Encoded.{encoded}
use Rattle.global_defs.specs.Entry.{Update, Set, Kill, ZKill}
use Rattle.global_defs.specs.Fields.{short, long, spelled_update, IsUpdate}
use Rattle.global_defs.proofs.KeyOrder.{key_injective}
use Rattle.repl_fields.specs.Reading.{ReadsField}
use Rattle.entry_index.specs.Fields.{Field, Skips, key, value, pair, update}
use Rattle.repl_fields.proofs.Tagged.{tail}

short_code : (k : Key) → is_key k ≡ true → length (encoded k) < 256
short_code k form = search rules

-- the key whose bytes stand behind their length
module _ (bytes code rest : List ℕ) (read : ReadsField (λ s. length s < 2 ^ 8) short bytes (Some (code, rest))) where
  pub key_passed : IsCode code → Skips key bytes (Some rest)
  key_passed is = (
    is.0,
    (
      is.1,
      read.1 ∙ ap (λ c. short c ++ rest) is.2,
      λ x r form e.
          let same : (encoded x ≡ code) × (r ≡ rest) = read.2 (encoded x) r (short_code x form) e in
          (key_injective x is.0 form is.1 (same.0 ∙ is.2), same.1),
    ),
  )

  pub no_key : (IsCode code → ⊥) → Skips key bytes None
  no_key none x r form e = none (x, form, sym (read.2 (encoded x) r (short_code x form) e).0)

pub no_code : (bytes : List ℕ) → ReadsField (λ s. length s < 2 ^ 8) short bytes None → Skips key bytes None
no_code bytes none x r form e = none (encoded x) r (short_code x form) e

-- the value that stands behind its length
module _ (bytes text rest : List ℕ) (read : ReadsField (λ s. length s < 2 ^ 16) long bytes (Some (text, rest))) where
  pub value_passed : length text ≤ LONGEST_VALUE → Skips value bytes (Some rest)
  value_passed few = (text, (few, read.1, λ x r form e. read.2 x r (omega (arith, form)) e))

  pub no_value : (length text ≤ LONGEST_VALUE → ⊥) → Skips value bytes None
  no_value many x r form e = many (subst (λ (s : List ℕ). length s ≤ LONGEST_VALUE) (read.2 x r (omega (arith, form)) e).0 form)

pub no_long : (bytes : List ℕ) → ReadsField (λ s. length s < 2 ^ 16) long bytes None → Skips value bytes None
no_long bytes none x r form e = none x r (omega (arith, form)) e

-- updates of a kind by what stands behind the kind
module _ {X : Type 0} (f : Field X) (kind : ℕ) (of : X → Update) (same : (x : X) → spelled_update (of x) ≡ kind ∷ f.spelled x) (into : (x : X) → f.has x → IsUpdate (of x))
    (only : (u : Update) (r rest : List ℕ) → IsUpdate u → kind ∷ r ≡ spelled_update u ++ rest → (x : X) × (u ≡ of x) × f.has x × (r ≡ f.spelled x ++ rest)) where
  kind_passed : (r : List ℕ) (p : Option (List ℕ)) → Skips f r p → Skips update (kind ∷ r) p
  kind_passed r None none = λ u rest form e. let x = only u r rest form e in none x.0 rest x.2 x.3
  kind_passed r (Some s) read = (
    of read.0,
    (
      into read.0 read.1.0,
      ap (λ t. kind ∷ t) read.1.1 ∙ ap (λ t. t ++ s) (sym (same read.0)),
      λ u rest form e.
          let x = only u r rest form e in
          let both = read.1.2 x.0 rest x.2 x.3 in
          (x.1 ∙ ap of both.0, both.1),
    ),
  )

set_only : (u : Update) (r rest : List ℕ) → IsUpdate u → 1 ∷ r ≡ spelled_update u ++ rest → (x : Key × List ℕ) × (u ≡ Set x.0 x.1) × pair.has x × (r ≡ pair.spelled x ++ rest)
set_only (Set k v) r rest form e = ((k, v), refl, form, tail e)
set_only (Kill k) r rest form e = absurd cc
set_only (ZKill k) r rest form e = absurd cc

kill_only : (u : Update) (r rest : List ℕ) → IsUpdate u → 2 ∷ r ≡ spelled_update u ++ rest → (x : Key) × (u ≡ Kill x) × key.has x × (r ≡ key.spelled x ++ rest)
kill_only (Kill k) r rest form e = (k, refl, form, tail e)
kill_only (Set k v) r rest form e = absurd cc
kill_only (ZKill k) r rest form e = absurd cc

zkill_only : (u : Update) (r rest : List ℕ) → IsUpdate u → 3 ∷ r ≡ spelled_update u ++ rest → (x : Key) × (u ≡ ZKill x) × key.has x × (r ≡ key.spelled x ++ rest)
zkill_only (ZKill k) r rest form e = (k, refl, form, tail e)
zkill_only (Set k v) r rest form e = absurd cc
zkill_only (Kill k) r rest form e = absurd cc

pub set_passed : (r : List ℕ) (p : Option (List ℕ)) → Skips pair r p → Skips update (1 ∷ r) p
set_passed = kind_passed pair 1 (λ x. Set x.0 x.1) (λ x. refl) (λ x form. form) set_only

pub kill_passed : (r : List ℕ) (p : Option (List ℕ)) → Skips key r p → Skips update (2 ∷ r) p
kill_passed = kind_passed key 2 Kill (λ x. refl) (λ x form. form) kill_only

pub zkill_passed : (r : List ℕ) (p : Option (List ℕ)) → Skips key r p → Skips update (3 ∷ r) p
zkill_passed = kind_passed key 3 ZKill (λ x. refl) (λ x form. form) zkill_only

pub no_kind : (kind : ℕ) (r : List ℕ) → kind ≢ 1 → kind ≢ 2 → kind ≢ 3 → Skips update (kind ∷ r) None
no_kind kind r one two three (Set k v) rest form e = one cc
no_kind kind r one two three (Kill k) rest form e = two cc
no_kind kind r one two three (ZKill k) rest form e = three cc

-- an update by its kind and what stands behind it
pub kind_read : (bytes : List ℕ) (kind : ℕ) (rest : List ℕ) → ReadsField (λ n. n < 2 ^ 8) (λ n. n ∷ []) bytes (Some (kind, rest)) → (p : Option (List ℕ)) → Skips update (kind ∷ rest) p → Skips update bytes p
kind_read bytes kind rest read p skips = let same : kind ∷ rest ≡ bytes = sym read.1 in subst (λ (l : List ℕ). Skips update l p) same skips

pub no_kind_read : (bytes : List ℕ) → ReadsField (λ n. n < 2 ^ 8) (λ n. n ∷ []) bytes None → Skips update bytes None
no_kind_read bytes none (Set k v) rest form e = none 1 _ (omega arith) e
no_kind_read bytes none (Kill k) rest form e = none 2 _ (omega arith) e
no_kind_read bytes none (ZKill k) rest form e = none 3 _ (omega arith) e
