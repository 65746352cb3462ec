-- That a turn of a connection's machines moves something.
use Rattle.std.specs.Prelude.{◌≡◌, ◌⊎◌, ℕ, ◌+◌, ◌<◌, false, IsTrue, [], length}
use Rattle.rtrb.specs.Ring as ring
use Rattle.wire_defs.specs.Frames.{Frame, BeginsFrame}
use Rattle.wire_defs.specs.Links.{Sending, Receiving, KnowAll}
use Rattle.recv_pool.specs.Pools.{put_in, taken, free}
use Rattle.recv_pool.specs.declared.pool.PoolIn.{PoolIn}
use Rattle.recv_pool.specs.declared.pool.PoolOut.{PoolOut}
use Rattle.source_server.specs.Sources.{Shipping}
use Rattle.receiver_server.specs.Incomings.{unheard}
use Rattle.receiver_server.specs.Listenings.{Listening, HasGot, HasHeard}
use Rattle.session_turns.specs.Sessions.{CanGive}

-- the receive pool has places, one of which the end that puts knows to be free, and nothing in it
pub record IsEmptyPool (i : PoolIn) (o : PoolOut) : Type 0 where
  pub places : 0 < ring.producer_capacity i.ring
  pub known : 0 < free i
  pub empty : taken o ≡ put_in i

-- Bytes have come to a Receiver Server, which has read them. What stands behind whole frames begins one, where it isn't bad.
pub record HasReceived (a b : Listening) : Type 0 where
  pub got : HasGot a b
  pub read : b.incoming.fresh ≡ []
  pub more : a.incoming.fresh ≡ [] → b.incoming.bad ≡ false → unheard a.incoming < unheard b.incoming
  pub begins : b.incoming.bad ≡ false → BeginsFrame b.incoming.reading.rest

-- A Receiver Server has received bytes or heard a frame, which cost its end no patience.
pub record HasMoved (a b : Listening) (r s : Receiving) : Type 0 where
  pub moved : HasReceived a b ⊎ ((f : Frame) × HasHeard f a b)
  pub patience : r.told ≡ false → a.incoming.fresh ≡ [] → s.patience ≡ r.patience

-- Nothing has come that it hasn't heard, as far as its end knows. Where bytes aren't told that cost patience.
pub record IsStill (a b : Listening) (r s : Receiving) : Type 0 where
  pub same : b ≡ a
  pub none : a.incoming.waiting ≡ []
  pub received : IsTrue r.shown → s.received ≡ r.received
  pub nothing : IsTrue r.told → (r.unread ≡ []) × (r.ended ≡ false)
  pub patience : r.told ≡ false → a.incoming.fresh ≡ [] → s.patience + 1 ≡ r.patience

-- an end has sent bytes, or has ended the sending
abbrev pub HasSentOn : Sending → Sending → Type 0
HasSentOn s t = (length s.sent < length t.sent) ⊎ ((s.finished ≡ false) × IsTrue t.finished)

-- What holds between turns over ends that tell their bytes. They know all, the source is ready to give all entries that are to come, and a
-- primary that failed has ended the sending.
pub record CanMove (Ready : ℕ → Type 0) (most : ℕ) (source : Shipping) (Failed : Type 0) (s : Sending) (r : Receiving) : Type 0 where
  pub told : IsTrue s.told × IsTrue r.told
  pub know : KnowAll s r
  pub places : 0 < s.places
  pub gives : CanGive Ready most source
  pub failed : Failed → IsTrue s.finished
