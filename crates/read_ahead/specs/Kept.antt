-- Pieces of files that are kept.
use Rattle.std.specs.Prelude.{◌≡◌, List, length, take, drop}
use Rattle.std.specs.List.{All}
use Rattle.disk_defs.specs.Disk.{Files}
use Rattle.read_ahead.specs.declared.piece.Piece.{Piece}

-- what a piece has is what its file has at its place
abbrev pub IsPieceOf : Files → Piece → Type 0
IsPieceOf files p = p.bytes.items ≡ take (length p.bytes.items) (drop p.at (files p.file))

abbrev pub AreKept : Files → List Piece → Type 0
AreKept files pieces = All (IsPieceOf files) pieces
