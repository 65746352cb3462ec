-- Links between a primary and its secondaries, as contracts see them. (GT.M: the TCP connection of a Source Server to a Receiver Server. That a link
-- tells its bytes, orders to cut it and patience are this project's own.)
use Rattle.std.specs.Prelude.{◌≡◌, ℕ, ◌+◌, ◌-◌, ◌^◌, ◌<◌, ◌≤◌, min, Bool, false, IsTrue, Option, Some, None, List, [], ◌∷◌, ◌++◌, length, drop, filter, nat_lt, ◌==◌, if◌then◌else◌}
use Rattle.global_defs.specs.Prefix.{IsPrefix}

-- a count of cuts that rose by so many; it stays at its last value
abbrev pub counted : ℕ → ℕ → ℕ
counted cuts more = min (cuts + more) (2 ^ 64 - 1)

-- the patience that an end begins with: how often it may answer that nothing moved
abbrev pub patience_at_first : ℕ
patience_at_first = 10000000

-- how much patience an answer costs that tells how many bytes were moved
abbrev pub patience_for : ℕ → ℕ
patience_for moved = if moved == 0 then 1 else 0

-- the first order to cut, if there is one
abbrev pub first_order : List ℕ → Option ℕ
first_order [] = None
first_order (order ∷ orders) = Some order

-- the orders that are left when the first is used up
abbrev pub later_orders : List ℕ → List ℕ
later_orders [] = []
later_orders (order ∷ orders) = orders

-- What contracts see of the end that sends.
pub record Sending : Type 0 where
  pub session : ℕ  -- the place of the secondary among the run's sites, from 0
  pub connection : ℕ  -- the connection's number among those that its linker made, from 0
  pub told : Bool  -- whether the link tells its bytes
  pub order : Option ℕ  -- after how many bytes this direction is to be cut, where there is an order
  pub places : ℕ  -- how many bytes the link holds that were sent and aren't received yet, at most
  pub cuts : ℕ  -- how often this end was found cut
  pub patience : ℕ  -- how often it may still take nothing, where the link doesn't tell its bytes
  pub sent : List ℕ
  pub free : ℕ  -- how many free places this end knows
  pub finished : Bool

-- What contracts see of the end that receives.
pub record Receiving : Type 0 where
  pub session : ℕ
  pub connection : ℕ
  pub told : Bool
  pub shown : Bool  -- whether contracts see the bytes received
  pub order : Option ℕ
  pub cuts : ℕ
  pub patience : ℕ
  pub received : List ℕ
  pub unread : List ℕ  -- the bytes after those, as far as this end knows them
  pub ended : Bool  -- whether this end knows that no more bytes come after the unread ones
  pub closed : Bool  -- whether this end has answered that the other side has ended

-- What remains of a connection that is over.
pub record Past : Type 0 where
  pub session : ℕ
  pub cuts : ℕ  -- how often its ends were found cut
  pub from_primary : List ℕ  -- what the secondary received
  pub primary_ended : Bool  -- whether the secondary was answered that the primary has ended
  pub to_primary : List ℕ  -- what the primary received
  pub secondary_ended : Bool  -- whether the primary was answered that the secondary has ended

-- What contracts see of what makes connections.
pub record Linking : Type 0 where
  pub told : Bool
  pub shown : Bool
  pub simulated : Bool  -- whether orders to cut may be given
  pub made : ℕ  -- how many connections were made
  pub cuts : ℕ → ℕ  -- how often connections of a session were cut
  pub orders : ℕ → List ℕ  -- of a session: after how many bytes the next connections are to be cut
  pub past : List Past  -- the connections that are over, in the order in which they were given back

-- what no call on a sending end changes
pub record SameSending (a b : Sending) : Type 0 where
  pub session : b.session ≡ a.session
  pub connection : b.connection ≡ a.connection
  pub told : b.told ≡ a.told
  pub order : b.order ≡ a.order
  pub places : b.places ≡ a.places

-- what no call on a receiving end changes
pub record SameReceiving (a b : Receiving) : Type 0 where
  pub session : b.session ≡ a.session
  pub connection : b.connection ≡ a.connection
  pub told : b.told ≡ a.told
  pub shown : b.shown ≡ a.shown
  pub order : b.order ≡ a.order

-- This many bytes, after which the direction is to be cut, have gone over it.
abbrev pub IsReached : Option ℕ → List ℕ → Type 0
IsReached order bytes = order ≡ Some (length bytes)

-- No more bytes than an order allows have gone over the direction.
abbrev pub IsWithin : Option ℕ → List ℕ → Type 0
IsWithin order bytes = (most : ℕ) → order ≡ Some most → length bytes ≤ most

-- a direction of a new connection
pub record IsNewDirection (links : Linking) (session : ℕ) (order : Option ℕ) (s : Sending) (r : Receiving) : Type 0 where
  pub sessions : (s.session ≡ session) × (r.session ≡ session)
  pub connections : (s.connection ≡ links.made) × (r.connection ≡ links.made)
  pub told : (s.told ≡ links.told) × (r.told ≡ links.told) × (r.shown ≡ links.shown)
  pub orders : (s.order ≡ order) × (r.order ≡ order)
  pub cuts : (s.cuts ≡ 0) × (r.cuts ≡ 0)
  pub patience : links.told ≡ false → (s.patience ≡ patience_at_first) × (r.patience ≡ patience_at_first)
  pub nothing_sent : IsTrue links.told → (s.sent ≡ []) × (s.finished ≡ false)
  pub nothing_received : IsTrue links.shown → r.received ≡ []
  pub nothing_answered : r.closed ≡ false
  pub nothing_known : IsTrue links.told → (r.unread ≡ []) × (r.ended ≡ false)
  pub all_free : IsTrue links.told → (s.free ≡ s.places) × (0 < s.places)

-- an end that sends has at most learned of free places
pub record SendingLooked (a b : Sending) : Type 0 where
  pub same : SameSending a b
  pub cuts : b.cuts ≡ a.cuts
  pub patience : b.patience ≡ a.patience
  pub sent : b.sent ≡ a.sent
  pub free : a.free ≤ b.free
  pub finished : b.finished ≡ a.finished

-- an end that receives has at most learned of unread bytes and of their end
pub record ReceivingLooked (a b : Receiving) : Type 0 where
  pub same : SameReceiving a b
  pub cuts : b.cuts ≡ a.cuts
  pub patience : b.patience ≡ a.patience
  pub received : b.received ≡ a.received
  pub unread : IsPrefix a.unread b.unread
  pub ended : IsTrue a.ended → IsTrue b.ended
  pub whole : IsTrue a.ended → b.unread ≡ a.unread
  pub closed : b.closed ≡ a.closed

-- The ends of a direction know all: which bytes are unread, whether an end follows, and, until the sending is ended, that each other place is free.
pub record KnowAll (s : Sending) (r : Receiving) : Type 0 where
  pub unread : r.received ++ r.unread ≡ s.sent
  pub ended : r.ended ≡ s.finished
  pub free : s.finished ≡ false → s.places ≤ s.free + length r.unread

-- What was received is a prefix of what was sent; where the receiving end knows the end, its unread bytes are the whole rest, and where it
-- has answered the end, all was received.
pub record Carries (s : Sending) (r : Receiving) : Type 0 where
  pub prefix : IsPrefix r.received s.sent
  pub unread : IsPrefix (r.received ++ r.unread) s.sent
  pub ended : IsTrue r.ended → IsTrue s.finished × (s.sent ≡ r.received ++ r.unread)
  pub closed : IsTrue r.closed → IsTrue s.finished × (s.sent ≡ r.received)

-- the cuts of all four ends of a connection
abbrev pub all_cuts : Sending → Receiving → Sending → Receiving → ℕ
all_cuts up_tx up_rx down_tx down_rx = up_tx.cuts + up_rx.cuts + down_tx.cuts + down_rx.cuts

-- what remains of a connection whose four ends are given back
abbrev pub past_of : ℕ → Sending → Receiving → Sending → Receiving → Past
past_of session up_tx up_rx down_tx down_rx = record {
  session = session;
  cuts = all_cuts up_tx up_rx down_tx down_rx;
  from_primary = down_rx.received;
  primary_ended = down_rx.closed;
  to_primary = up_rx.received;
  secondary_ended = up_rx.closed;
}

-- what remains of a connection that was cut as it was made
abbrev pub cut_at_once : ℕ → Past
cut_at_once session = record { session = session; cuts = 1; from_primary = []; primary_ended = false; to_primary = []; secondary_ended = false }

-- a connection of which some end was found cut
abbrev pub was_cut : Past → Bool
was_cut p = nat_lt 0 p.cuts

-- the connections of a session that came to be over between two views of a linker
abbrev pub past_since : Linking → Linking → ℕ → List Past
past_since a b session = filter (λ p. p.session == session) (drop (length a.past) b.past)

-- what links are like stays, and so do the number of connections, the cuts and the orders of all sessions, and what is over
pub record SameLinks (a b : Linking) : Type 0 where
  pub told : b.told ≡ a.told
  pub shown : b.shown ≡ a.shown
  pub simulated : b.simulated ≡ a.simulated
  pub made : b.made ≡ a.made
  pub cuts : (s : ℕ) → b.cuts s ≡ a.cuts s
  pub orders : (s : ℕ) → b.orders s ≡ a.orders s
  pub past : b.past ≡ a.past

-- an order was added behind those of a session, and all else stays
pub record OrderAdded (a b : Linking) (session bytes : ℕ) : Type 0 where
  pub told : b.told ≡ a.told
  pub shown : b.shown ≡ a.shown
  pub simulated : b.simulated ≡ a.simulated
  pub made : b.made ≡ a.made
  pub cuts : (s : ℕ) → b.cuts s ≡ a.cuts s
  pub added : b.orders session ≡ a.orders session ++ bytes ∷ []
  pub others : (s : ℕ) → (s ≡ session → ⊥) → b.orders s ≡ a.orders s
  pub past : b.past ≡ a.past

-- one more connection was made, of a session whose first order it used up
pub record ConnectionMade (a b : Linking) (session : ℕ) : Type 0 where
  pub told : b.told ≡ a.told
  pub shown : b.shown ≡ a.shown
  pub simulated : b.simulated ≡ a.simulated
  pub made : b.made ≡ a.made + 1
  pub cuts : (s : ℕ) → b.cuts s ≡ a.cuts s
  pub used : b.orders session ≡ later_orders (a.orders session)
  pub others : (s : ℕ) → (s ≡ session → ⊥) → b.orders s ≡ a.orders s
  pub past : b.past ≡ a.past

-- a session's cuts rose by so many, and all else stays but what is over
pub record CutsAdded (a b : Linking) (session more : ℕ) : Type 0 where
  pub told : b.told ≡ a.told
  pub shown : b.shown ≡ a.shown
  pub simulated : b.simulated ≡ a.simulated
  pub made : b.made ≡ a.made
  pub added : b.cuts session ≡ counted (a.cuts session) more
  pub others : (s : ℕ) → (s ≡ session → ⊥) → b.cuts s ≡ a.cuts s
  pub orders : (s : ℕ) → b.orders s ≡ a.orders s
