-- Bytes that were read ahead.
use Rattle.std.specs.Prelude.{ℕ, List, refl}
use Rattle.std.specs.Coded.{Coded, code_by, coded×, coded_ℕ, coded_list}

-- what was read of a source and not taken yet, and how many bytes more may be read
pub record Ahead : Type 0 where
  pub bytes : List ℕ
  pub room : ℕ

abbrev pub ahead_code : Coded Ahead
ahead_code = code_by (List ℕ × ℕ) (coded× (coded_list coded_ℕ) coded_ℕ) (λ a. (a.bytes, a.room)) (λ p. record { bytes = p.0; room = p.1 }) (λ _. refl)
