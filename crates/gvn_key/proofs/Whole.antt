-- What reading a key's bytes one by one tells.
use Rattle.std.proofs.Common.{◌≡◌, ℕ, ◌+◌, ◌<◌, true, false, true≢false, IsTrue, List, [], ◌∷◌, ◌++◌, length, take, drop, get_or, refl, ap, sym, subst, ◌∙◌, add-one}
use Rattle.std.proofs.Math.Seq.{take-suc}
use Rattle.std.proofs.lemmas.List.{take-append-drop}
use Rattle.gvn_key.specs.Decoding.{IsCode}
use Rattle.gvn_key.specs.Codes as codes
use Rattle.gvn_key.specs.Codes.{Begins}

pub as_long : (bytes : List ℕ) (len : ℕ) → len ≡ length bytes → IsCode bytes → codes.IsCode len bytes
as_long bytes len is c = record { key = c.0; valid = c.1; encodes = sym c.2; long = sym is }

-- no key begins with a front and one byte more of bytes that are a key's
pub not_begun : (bytes : List ℕ) (i len : ℕ) → i < length bytes → len ≡ length bytes → (Begins (take i bytes ++ get_or bytes i 0 ∷ []) len → ⊥) → IsCode bytes → ⊥
not_begun bytes i len inside is none c =
    let front : take (i + 1) bytes ≡ take i bytes ++ get_or bytes i 0 ∷ [] = rw add-one (take-suc bytes i 0 inside) in
    let split : bytes ≡ (take i bytes ++ get_or bytes i 0 ∷ []) ++ drop (i + 1) bytes = sym (take-append-drop (i + 1) bytes) ∙ ap (λ (x : List ℕ). x ++ drop (i + 1) bytes) front in
    none (record { rest = drop (i + 1) bytes; whole = subst (codes.IsCode len) split (as_long bytes len is c) })

pub none : (bytes : List ℕ) → (IsCode bytes → ⊥) → (IsTrue false → IsCode bytes) × (IsCode bytes → IsTrue false)
none bytes never = (λ e. absurd (true≢false (sym e)), λ c. absurd (never c))

pub some : (bytes : List ℕ) → IsCode bytes → (IsTrue true → IsCode bytes) × (IsCode bytes → IsTrue true)
some bytes c = (λ _. c, λ _. refl)
