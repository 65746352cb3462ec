-- Patterns as they are written: a global's name, or a name and a star.
use Rattle.std.specs.Prelude.{ℕ, Bool, if◌then◌else◌, ◌&&◌, ◌==◌, ◌-◌, nat_lt, nat_le, List, length, take, slice_index_or}
use Rattle.global_defs.specs.declared.limits.TheConstants.{LONGEST_NAME}
use Rattle.global_defs.specs.Valid.{is_name}

-- the last byte is a star
abbrev pub ends_in_star : List ℕ → Bool
ends_in_star text = nat_lt 0 (length text) && slice_index_or text (length text - 1) 0 == 42

-- without the star at its end, where it has one
abbrev pub stem : List ℕ → List ℕ
stem text = if ends_in_star text then take (length text - 1) text else text

-- the name of a global: a percent sign or a letter, and then letters and digits, at most 31 characters
abbrev pub is_global_name : List ℕ → Bool
is_global_name name = is_name name && nat_le (length name) LONGEST_NAME

abbrev pub is_pattern : List ℕ → Bool
is_pattern text = is_global_name (stem text)
