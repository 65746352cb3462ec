-- A session's connections, and what came over them.
use Rattle.std.specs.Prelude.{◌≡◌, ◌⊎◌, ℕ, ◌<◌, ◌≤◌, Bool, false, IsTrue, None, List, ◌∷◌, [], ◌++◌, length, drop, count_by, fold, Result, Ok, Err}
use Rattle.std.specs.List.{AllByRecursion}
use Rattle.global_defs.specs.Entry.{Globals}
use Rattle.global_defs.specs.Prefix as prefix
use Rattle.global_defs.specs.Prefix.{IsPrefix}
use Rattle.wire_defs.specs.Frames.{Frame}
use Rattle.wire_defs.specs.Links.{Linking, Past, ConnectionMade, CutsAdded, IsNewDirection, was_cut, counted, first_order, past_of, past_since}
use Rattle.ship_defs.specs.Hearing.{Purpose, Asks, Hearing, unbegun, IsBadFromPrimary, EndsFromPrimary}
use Rattle.ship_defs.specs.Greeting.{IsBadToPrimary, GreetsWith}
use Rattle.receiver_server.specs.declared.step.Handshake.{Handshake}
use Rattle.receiver_server.specs.Answers.{answer_frame}
use Rattle.session_handshake.specs.Exchanges.{Views, cuts_of}
use Rattle.session_handshake.specs.declared.session.SessionError.{SessionError}
use Rattle.session_handshake.specs.declared.session.SessionError.TheVariants.{LinkCut, BadFrame, NoMemory}

-- Connections of one session were made and given back, and this is what remains of them, in order. The session's count of cuts rose by one
-- for each that was cut, since one end of it at most was found so.
pub record WereMade (a b : Linking) (session : ℕ) (over : List Past) : Type 0 where
  pub told : b.told ≡ a.told
  pub shown : b.shown ≡ a.shown
  pub simulated : b.simulated ≡ a.simulated
  pub past : b.past ≡ a.past ++ over
  pub own : AllByRecursion (λ p. p.session ≡ session) over
  pub once : AllByRecursion (λ p. p.cuts ≤ 1) over
  pub cuts : b.cuts session ≡ fold (λ n p. counted n p.cuts) (a.cuts session) over
  pub other_cuts : (s : ℕ) → (s ≡ session → ⊥) → b.cuts s ≡ a.cuts s
  pub other_orders : (s : ℕ) → (s ≡ session → ⊥) → b.orders s ≡ a.orders s
  -- each connection used up the session's first order to cut, but one that was cut as it was made, which comes where links don't tell their bytes
  pub orders : (used : ℕ) × (used ≤ length over) × (IsTrue a.told → used ≡ length over) × (b.orders session ≡ drop used (a.orders session))
  -- where links tell their bytes a connection is cut by an order alone
  pub ordered : IsTrue a.told → count_by was_cut over ≤ length (a.orders session)

-- What two views of a linker tell of one session, whatever other sessions did meanwhile: these connections of its own were given back.
pub record MadeAmong (a b : Linking) (session : ℕ) (over : List Past) : Type 0 where
  pub told : b.told ≡ a.told
  pub shown : b.shown ≡ a.shown
  pub simulated : b.simulated ≡ a.simulated
  pub grown : IsPrefix a.past b.past
  pub since : past_since a b session ≡ over
  pub once : AllByRecursion (λ p. p.cuts ≤ 1) over
  pub cuts : b.cuts session ≡ fold (λ n p. counted n p.cuts) (a.cuts session) over
  pub orders : (used : ℕ) × (used ≤ length over) × (IsTrue a.told → used ≡ length over) × (b.orders session ≡ drop used (a.orders session))
  pub ordered : IsTrue a.told → count_by was_cut over ≤ length (a.orders session)

-- A connection of a session was made before the first view, and used up an order then. It is given back between the views, and others did what they did.
pub record GivenBack (a b c d : Linking) (session : ℕ) (p : Past) : Type 0 where
  pub made : ConnectionMade a b session
  pub meanwhile : MadeAmong b c session []
  pub cuts : CutsAdded c d session p.cuts
  pub past : d.past ≡ c.past ++ p ∷ []
  pub own : p.session ≡ session
  pub once : p.cuts ≤ 1
  pub ordered : IsTrue a.told → a.orders session ≡ [] → p.cuts ≡ 0

-- a secondary with that history before a connection's first byte, whatever its globals are
abbrev pub asking : prefix.History → Globals → Hearing
asking mine g = record { heard = unbegun mine; globals = g }

-- What a connection's primary received is bad there, or what its secondary received is.
abbrev pub IsBadOver : Purpose → prefix.History → Past → (offset : ℕ) → Type 0
IsBadOver purpose mine p offset = IsBadToPrimary p.to_primary p.secondary_ended offset ⊎ ((g : Globals) → IsBadFromPrimary purpose (asking mine g) p.from_primary p.primary_ended offset)

-- the secondary received an answer as a connection's last frame
abbrev pub IsAnsweredOver : Purpose → prefix.History → Past → Frame → Type 0
IsAnsweredOver purpose mine p answer = ((hello : Frame) × GreetsWith p.to_primary hello) × ((g : Globals) → EndsFromPrimary purpose (asking mine g) p.from_primary answer)

-- A connection that was made last, over which nothing was sent yet.
pub record IsBegun (a b : Linking) (session : ℕ) (v : Views) : Type 0 where
  pub made : ConnectionMade a b session
  pub from_primary : IsNewDirection a session (first_order (a.orders session)) v.up_tx v.down_rx
  pub to_primary : IsNewDirection a session None v.down_tx v.up_rx

-- what remains of a connection whose ends are such
abbrev pub past_of_views : ℕ → Views → Past
past_of_views session v = past_of session v.up_tx v.up_rx v.down_tx v.down_rx

-- An open connection, the only one that was made meanwhile. None of its ends was found cut or answered an end.
pub record IsOpen (a b : Linking) (session : ℕ) (v : Views) : Type 0 where
  pub made : ConnectionMade a b session
  pub one : v.up_tx.connection ≡ v.down_tx.connection
  pub own_tx : (v.up_tx.session ≡ session) × (v.down_tx.session ≡ session)
  pub own_rx : (v.up_rx.session ≡ session) × (v.down_rx.session ≡ session)
  pub told_tx : (v.up_tx.told ≡ a.told) × (v.down_tx.told ≡ a.told)
  pub told_rx : (v.up_rx.told ≡ a.told) × (v.down_rx.told ≡ a.told)
  pub shown : (v.up_rx.shown ≡ a.shown) × (v.down_rx.shown ≡ a.shown)
  pub order : (v.up_tx.order ≡ first_order (a.orders session)) × (v.down_rx.order ≡ first_order (a.orders session))
  pub no_order : (v.down_tx.order ≡ None) × (v.up_rx.order ≡ None)
  pub uncut : cuts_of v ≡ 0
  pub closed : (v.up_rx.closed ≡ false) × (v.down_rx.closed ≡ false)
  pub going : IsTrue a.told → (v.up_tx.finished ≡ false) × (0 < v.up_tx.places) × (v.down_tx.finished ≡ false)

-- What a session that only asks met, by the connections that remain of it.
abbrev pub Met : (shown : Bool) → prefix.History → Result Handshake SessionError → List Past → Type 0
Met shown mine (Ok answer) over = (cut : List Past) × (p : Past) × (over ≡ cut ++ p ∷ []) × (was_cut p ≡ false) × (count_by was_cut over ≤ 3) × (IsTrue shown → IsAnsweredOver Asks mine p (answer_frame answer))
Met shown mine (Err LinkCut) over = count_by was_cut over ≡ 4
Met shown mine (Err (BadFrame offset)) over = (cut : List Past) × (p : Past) × (over ≡ cut ++ p ∷ []) × (was_cut p ≡ false) × (count_by was_cut over ≤ 3) × (IsTrue shown → IsBadOver Asks mine p offset)
Met shown mine (Err NoMemory) over = count_by was_cut over ≤ 3
