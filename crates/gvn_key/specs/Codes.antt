-- Encoded keys of a length, and the bytes that begin one.
use Rattle.std.specs.Prelude.{◌≡◌, ℕ, List, ◌++◌, length, IsTrue}
use Rattle.global_defs.specs.Key.{Key}
use Rattle.global_defs.specs.Valid.{is_key}
use Rattle.global_defs.specs.Encoded.{encoded}

-- the whole encoded form, of that length, of a key that there is
pub record IsCode (len : ℕ) (bytes : List ℕ) : Type 0 where
  pub key : Key
  pub valid : IsTrue (is_key key)
  pub encodes : encoded key ≡ bytes
  pub long : length bytes ≡ len

-- some key's encoded form of that length begins with these bytes
pub record Begins (taken : List ℕ) (len : ℕ) : Type 0 where
  pub rest : List ℕ
  pub whole : IsCode len (taken ++ rest)
