-- The worked bytes of the format.
use Rattle.std.proofs.Common.{◌≡◌, [], ◌∷◌, Some, None, refl}
use Rattle.disk_defs.specs.Gates.{records}

-- CREATE of A with region R, BEFORE, open, and the closed gate
create_is_read : records (1 ∷ 0 ∷ 0 ∷ 0 ∷ 8 ∷ 1 ∷ 1 ∷ 1 ∷ 65 ∷ 1 ∷ 1 ∷ 82 ∷ 1 ∷ 0 ∷ []) ≡ Some ((1 ∷ 1 ∷ 1 ∷ 65 ∷ 1 ∷ 1 ∷ 82 ∷ 1 ∷ []) ∷ [])
create_is_read = refl

-- a closed gate, with anything behind it
closed_is_empty : records (0 ∷ 1 ∷ 2 ∷ []) ≡ Some []
closed_is_empty = refl

-- a file shorter than two bytes has no records, whatever its byte
short_is_empty : records (1 ∷ []) ≡ Some []
short_is_empty = refl

-- an open gate with a length of 0, and one whose next gate isn't in the file
length_zero : records (1 ∷ 0 ∷ 0 ∷ 0 ∷ 0 ∷ 0 ∷ []) ≡ None
length_zero = refl

next_gate_missing : records (1 ∷ 0 ∷ 0 ∷ 0 ∷ 1 ∷ 65 ∷ []) ≡ None
next_gate_missing = refl
