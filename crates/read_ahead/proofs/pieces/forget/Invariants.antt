use Rattle.std.proofs.Common.{length}
use Rattle.std.specs.List.{AllWithin}
use Rattle.disk_defs.specs.Disk.{Files}
use Rattle.disk_defs.specs.Frames.{Only, SameOutside}
use Rattle.read_ahead.specs.Kept.{IsPieceOf, AreKept}
use Rattle.read_ahead.proofs.pieces.forget.Given as goal

abbrev pub invariant-loop-piece : goal.invariant-loop-piece
invariant-loop-piece l = (old new : Files) → SameOutside (Only l.file) old new → AreKept old l.fn.pieces
    → AllWithin (IsPieceOf new) l.pieces 0 l.piece-index × AllWithin (IsPieceOf old) l.pieces l.piece-index (length l.pieces)
