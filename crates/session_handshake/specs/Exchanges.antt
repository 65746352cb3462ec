-- The four ends of a connection while HELLO and its answer are exchanged.
use Rattle.std.specs.Prelude.{◌≡◌, ℕ, ◌<◌, Bool, false, IsTrue, List, ◌++◌, map}
use Rattle.global_defs.specs.Prefix as prefix
use Rattle.wire_defs.specs.Frames.{Frame, IsFrame, spelled_frame}
use Rattle.wire_defs.specs.Links.{Sending, Receiving, SameSending, SameReceiving, all_cuts}
use Rattle.ship_defs.specs.Hearing.{Purpose, Heard}
use Rattle.repl_link.specs.declared.traits.Ends.{Ends}
use Rattle.receiver_server.specs.declared.step.Handshake.{Handshake}
use Rattle.receiver_server.specs.Answers.{answer_frame}
use Rattle.receiver_server.specs.Listenings.{IsUnfitBehind}
use Rattle.session_handshake.specs.Answering.{IsGreetedBy}

-- what contracts see of the ends
pub record Views : Type 0 where
  pub up_tx : Sending
  pub up_rx : Receiving
  pub down_tx : Sending
  pub down_rx : Receiving

module _ {T R : Type 0} where
  abbrev pub views : (T → Sending) → (R → Receiving) → Ends T R → Views
  views sending receiving ends = record { up_tx = sending ends.up_tx; up_rx = receiving ends.up_rx; down_tx = sending ends.down_tx; down_rx = receiving ends.down_rx }

  -- they are two directions' ends
  abbrev pub HaveLines : {Line : Type 0} → (T → Line) → (R → Line) → Ends T R → Type 0
  HaveLines tx_line rx_line ends = (tx_line ends.up_tx ≡ rx_line ends.down_rx) × (tx_line ends.down_tx ≡ rx_line ends.up_rx)

-- what no call on the ends changes
pub record SameEnds (a b : Views) : Type 0 where
  pub up_tx : SameSending a.up_tx b.up_tx
  pub up_rx : SameReceiving a.up_rx b.up_rx
  pub down_tx : SameSending a.down_tx b.down_tx
  pub down_rx : SameReceiving a.down_rx b.down_rx

-- how often the ends were found cut
abbrev pub cuts_of : Views → ℕ
cuts_of v = all_cuts v.up_tx v.up_rx v.down_tx v.down_rx

-- An end goes on sending these bytes, of which some are left.
pub record Carries (told : Bool) (whole : List ℕ) (s : Sending) (left : List ℕ) : Type 0 where
  pub told_is : s.told ≡ told
  pub going : IsTrue told → (s.finished ≡ false) × (0 < s.places)
  pub sent : IsTrue told → s.sent ++ left ≡ whole

-- what an end has received, and it hasn't answered that the other side has ended
pub record Gets (told shown : Bool) (r : Receiving) (received : List ℕ) : Type 0 where
  pub told_is : r.told ≡ told
  pub shown_is : r.shown ≡ shown
  pub closed : r.closed ≡ false
  pub received_is : IsTrue shown → r.received ≡ received

-- The secondary goes on sending this HELLO.
pub record HasAsked (hello : Frame) (told : Bool) (v : Views) : Type 0 where
  pub left : List ℕ
  pub form : IsFrame hello
  pub carries : Carries told (spelled_frame hello) v.down_tx left

-- The primary has answered so what it received, and goes on sending the answer.
pub record HasAnswered (theirs : prefix.History) (told shown : Bool) (v : Views) (answer : Handshake) : Type 0 where
  pub left : List ℕ
  pub greeted : IsTrue shown → IsGreetedBy theirs v.up_rx.received (answer_frame answer)
  pub carries : Carries told (spelled_frame (answer_frame answer)) v.up_tx left
  pub closed : v.up_rx.closed ≡ false

-- What the secondary received of the answer is bad, which nothing came before.
pub record HasBadAnswer (theirs : prefix.History) (told shown : Bool) (p : Purpose) (begun : Heard) (v : Views) (offset : ℕ) : Type 0 where
  pub answer : Handshake
  pub answered : HasAnswered theirs told shown v answer
  pub frames : List Handshake
  pub unfit : IsUnfitBehind p begun (map answer_frame frames) v.down_rx.received v.down_rx.closed offset
