-- What reading the frame at the front at once finds.
use Rattle.std.specs.Prelude.{◌≡◌, ℕ, ◌≤◌, List, ◌++◌, length, take}
use Rattle.std.specs.List.{flat_map, AllByRecursion}
use Rattle.global_defs.specs.Entry.{Update}
use Rattle.global_defs.specs.Fields.{IsUpdate, spelled_update}
use Rattle.wire_defs.specs.Frames.{Frame, IsFrame, HasFields, BeginsNone, frame_body, frame_type, spelled_frame}
use Rattle.repl_wire.specs.declared.frames.Ahead.{Ahead}
use Rattle.repl_wire.specs.declared.frames.Ahead.TheVariants as ahead
use Rattle.repl_wire.specs.Feeds.{IsWithin}
use Rattle.repl_wire.specs.Values.{frame_value}

-- Updates of their form stand at the front of the bytes, and a rest behind them.
pub record StandBefore (us : List Update) (bytes rest : List ℕ) : Type 0 where
  pub each : AllByRecursion IsUpdate us
  pub cut : bytes ≡ flat_map spelled_update us ++ rest

-- the bytes are the body of this ENTRY, whose fields are of their form
pub record IsEntryOf (f : Frame) (bytes : List ℕ) : Type 0 where
  pub entry : frame_type f ≡ 5
  pub fields : HasFields f
  pub body : bytes ≡ frame_body f

-- The frame is well-formed, and the first so many bytes are its own.
pub record StandsFirst (f : Frame) (count : ℕ) (bytes : List ℕ) : Type 0 where
  pub form : IsFrame f
  pub some : 1 ≤ count
  pub within : count ≤ length bytes
  pub spelled : spelled_frame f ≡ take count bytes

-- What stands at the front of bytes: a frame, the beginning of one, or neither.
abbrev pub IsAhead : Ahead → List ℕ → Type 0
IsAhead (ahead.Whole f count) bytes = StandsFirst (frame_value f) count bytes
IsAhead (ahead.Open s) bytes = IsWithin s bytes
IsAhead ahead.Bad bytes = BeginsNone bytes
