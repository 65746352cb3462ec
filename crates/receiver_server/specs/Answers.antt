-- What the answer of a step tells of the receiving end.
use Rattle.std.specs.Prelude.{ℕ, Bool, true, false, Result, Ok, Err}
use Rattle.wire_defs.specs.Frames.{Frame, Resume, RollbackFirst}
use Rattle.receiver_server.specs.declared.step.Handshake.{Handshake}
use Rattle.receiver_server.specs.declared.step.Handshake.TheVariants as handshake
use Rattle.receiver_server.specs.declared.step.HearError.{HearError}
use Rattle.receiver_server.specs.declared.step.HearError.TheVariants.{Cut, BadFrame, NoMemory}
use Rattle.receiver_server.specs.declared.step.Step.{Step}
use Rattle.receiver_server.specs.declared.step.Step.TheVariants.{Received, Answered, Heard, Waits, Over, Ended}

-- the frame of a primary's answer
abbrev pub answer_frame : Handshake → Frame
answer_frame (handshake.Resume n) = Resume n
answer_frame (handshake.RollbackFirst n) = RollbackFirst n

-- whether the end answered that the other side has ended
abbrev pub is_ended : Result Step HearError → Bool
is_ended (Ok Ended) = true
is_ended (Ok Received) = false
is_ended (Ok (Answered answer)) = false
is_ended (Ok Heard) = false
is_ended (Ok Waits) = false
is_ended (Ok Over) = false
is_ended (Err e) = false

-- how much patience the answer cost the end, where it was asked for bytes
abbrev pub patience_cost : Result Step HearError → ℕ
patience_cost (Ok Waits) = 1
patience_cost (Ok Received) = 0
patience_cost (Ok (Answered answer)) = 0
patience_cost (Ok Heard) = 0
patience_cost (Ok Over) = 0
patience_cost (Ok Ended) = 0
patience_cost (Err e) = 0

-- that nothing has come behind the last frame, or something bad
abbrev pub IsOverAnswer : Result Step HearError → Type 0
IsOverAnswer (Ok Over) = Unit {0}
IsOverAnswer (Err (BadFrame offset)) = Unit {0}
IsOverAnswer (Ok Received) = ⊥
IsOverAnswer (Ok (Answered answer)) = ⊥
IsOverAnswer (Ok Heard) = ⊥
IsOverAnswer (Ok Waits) = ⊥
IsOverAnswer (Ok Ended) = ⊥
IsOverAnswer (Err Cut) = ⊥
IsOverAnswer (Err NoMemory) = ⊥

-- that a frame was heard, or why not
abbrev pub IsHearAnswer : Result Step HearError → Type 0
IsHearAnswer (Ok (Answered answer)) = Unit {0}
IsHearAnswer (Ok Heard) = Unit {0}
IsHearAnswer (Err (BadFrame offset)) = Unit {0}
IsHearAnswer (Err NoMemory) = Unit {0}
IsHearAnswer (Ok Received) = ⊥
IsHearAnswer (Ok Waits) = ⊥
IsHearAnswer (Ok Over) = ⊥
IsHearAnswer (Ok Ended) = ⊥
IsHearAnswer (Err Cut) = ⊥
