-- What a piece of a stream gives.
use Rattle.std.specs.Prelude.{◌≡◌, ◌⊎◌, ℕ, ◌-◌, ◌<◌, ◌≤◌, List, ◌++◌, length, take}
use Rattle.global_defs.specs.Prefix.{IsPrefix}
use Rattle.wire_defs.specs.Frames.{Frame, IsFrame, BeginsNone, AreFrames, spelled_frame, offset_after}
use Rattle.repl_wire.specs.declared.frame.FrameError.{FrameError}
use Rattle.repl_wire.specs.declared.frame.FrameError.TheVariants.{BadFrame, NoMemory}
use Rattle.repl_wire.specs.declared.field.Part.TheVariants.{Value, Whole}
use Rattle.repl_wire.specs.declared.field.Scan.{Scan}
use Rattle.repl_wire.specs.declared.run.Ran.{Ran}
use Rattle.repl_wire.specs.declared.run.Ran.TheVariants as ran
use Rattle.repl_wire.specs.Layout.{Rest}
use Rattle.repl_wire.specs.Scans.{Awaits}

-- Some frames at the front of the bytes were added to a list, and a rest stands behind them. The first begins at this offset, and
-- the rest at that one.
pub record Takes (offset : ℕ) (bytes : List ℕ) (before after : List Frame) (at : ℕ) (rest : List ℕ) : Type 0 where
  pub frames : List Frame
  pub are : AreFrames bytes frames rest
  pub added : after ≡ before ++ frames
  pub at_is : at ≡ offset_after offset frames

-- the same, and no frame begins as the rest does
pub record Refuses (offset : ℕ) (bytes : List ℕ) (before after : List Frame) (at : ℕ) : Type 0 where
  pub rest : List ℕ
  pub takes : Takes offset bytes before after at rest
  pub none : BeginsNone rest

-- A frame is told to be bad where no frame begins so. Where memory is wanting, the list begins with what it held.
abbrev pub Fails : FrameError → (offset : ℕ) → (bytes : List ℕ) → (before after : List Frame) → Type 0
Fails (BadFrame at) offset bytes before after = Refuses offset bytes before after at
Fails NoMemory offset bytes before after = IsPrefix before after

-- the bytes are a well-formed frame's
pub record IsSpelled (bytes : List ℕ) : Type 0 where
  pub frame : Frame
  pub is_frame : IsFrame frame
  pub spelled : spelled_frame frame ≡ bytes

-- a scan behind these bytes of a frame that isn't whole
pub record IsWithin (s : Scan) (bytes : List ℕ) : Type 0 where
  pub awaits : Awaits s (λ w. IsSpelled (bytes ++ w))
  pub open_ : s.part ≡ Whole → ⊥

-- What bytes lead a scan to that these bytes complete: another scan, a whole frame in the first so many of them, or nothing, since
-- no bytes behind them complete it and no front of them does.
abbrev pub Runs : Ran → Rest → List ℕ → Type 0
Runs (ran.Open s) K bytes = Awaits s (λ w. K (bytes ++ w)) × (s.part ≡ Whole → ⊥)
Runs (ran.Whole count) K bytes = (count ≤ length bytes) × (1 ≤ count) × K (take count bytes)
Runs ran.Bad K bytes = ((w : List ℕ) → K (bytes ++ w) → ⊥) × ((m : ℕ) → m ≤ length bytes → K (take m bytes) → ⊥)

-- a scan behind the first so many bytes, none of which is the last of a frame
pub record Running (s : Scan) (K : Rest) (bytes : List ℕ) (count : ℕ) : Type 0 where
  pub awaits : Awaits s (λ w. K (take count bytes ++ w))
  pub open_ : s.part ≡ Whole → ⊥
  pub none : (m : ℕ) → m ≤ count → K (take m bytes) → ⊥

-- So many bytes of a value, and not its last one, lead a scan on, whatever they are; or there are none.
abbrev pub Passes : Scan → (count : ℕ) → Scan → Type 0
Passes s count t = ((count ≡ 0) × (t ≡ s)) ⊎ ((missing : ℕ) × (s.part ≡ Value missing) × (count < missing) × (t ≡ record { part = Value (missing - count); left = s.left; items = s.items }))
