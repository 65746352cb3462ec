-- Where the bytes of one direction of a connection are bad, by the rules of what may come on it. (GT.M: a server gives a connection up at a
-- message that it doesn't expect. That the place is told is this project's.)
use Rattle.std.specs.Prelude.{◌≡◌, ◌≢◌, ℕ, Bool, IsTrue, List, [], ◌∷◌, ◌++◌}
use Rattle.wire_defs.specs.Frames.{Frame, IsFrame, BeginsFrame, BeginsNone, AreFrames, spelled_frame, offset_after}

-- The rules tell which frame is admissible behind what has come, and what has come with it.
module _ {S : Type 0} (Admits : S → Frame → S → Type 0) where
  -- the frames are admissible, one after another
  abbrev pub Admitted : S → List Frame → S → Type 0
  Admitted s [] now = now ≡ s
  Admitted s (f ∷ fs) now = (next : S) × Admits s f next × Admitted next fs now

  -- the bytes are admissible frames, and then a rest
  pub record HasCome (s : S) (bytes : List ℕ) (frames : List Frame) (now : S) (rest : List ℕ) : Type 0 where
    pub are : AreFrames bytes frames rest
    pub admitted : Admitted s frames now

  -- a whole frame stands there, and isn't admissible
  pub record IsRefused (s : S) (bytes : List ℕ) : Type 0 where
    pub frame : Frame
    pub more : List ℕ
    pub form : IsFrame frame
    pub is : bytes ≡ spelled_frame frame ++ more
    pub never : (now : S) → Admits s frame now → ⊥

-- They tell also behind what the direction is over.
module _ {S : Type 0} (Admits : S → Frame → S → Type 0) (IsOver : S → Type 0) where
  -- No admissible frame stands where this rest does: one that isn't admissible stands there, none begins so, nothing may come any more,
  -- or the direction ended too early.
  pub data Lacks (s : S) (rest : List ℕ) (ended : Bool) : Type 0 where
    refused : IsRefused Admits s rest → Lacks s rest ended
    begins_none : BeginsNone rest → Lacks s rest ended
    behind_last : IsOver s → rest ≢ [] → Lacks s rest ended
    too_short : IsTrue ended → (IsOver s → ⊥) → BeginsFrame rest → Lacks s rest ended

  -- BADFRAME: the bytes received have no admissible frame at this offset. `ended` tells that no more come, and that this is no end which
  -- the rules let pass.
  pub record IsBadAt (s : S) (bytes : List ℕ) (ended : Bool) (offset : ℕ) : Type 0 where
    pub frames : List Frame
    pub rest : List ℕ
    pub now : S
    pub come : HasCome Admits s bytes frames now rest
    pub lacks : Lacks now rest ended
    pub at : offset ≡ offset_after 0 frames

  -- the bytes received are admissible frames, of which this is the direction's last
  pub record EndsWith (s : S) (bytes : List ℕ) (last : Frame) : Type 0 where
    pub frames : List Frame
    pub now : S
    pub come : HasCome Admits s bytes (frames ++ last ∷ []) now []
    pub over : IsOver now
