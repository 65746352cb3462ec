-- What a session of a section comes to, by its connections and its secondary's site.
use Rattle.std.specs.Prelude.{◌≡◌, ◌≢◌, ◌⊎◌, ℕ, ◌+◌, ◌-◌, ◌≤◌, Bool, false, IsTrue, List, [], ◌∷◌, ◌++◌, length, map, take, drop, count_by, Option, Some, None, Result, Ok, Err}
use Rattle.std.specs.List.{AllByRecursion}
use Rattle.global_defs.specs.Entry.{Sequence}
use Rattle.global_defs.specs.Prefix as prefix
use Rattle.global_defs.specs.Prefix.{IsPrefix}
use Rattle.lineage_defs.specs.Histories.{HasStamps, IsMatched, begun_within}
use Rattle.wire_defs.specs.Frames as frames
use Rattle.wire_defs.specs.Frames.{Frame, IsFrame, AreFrames}
use Rattle.wire_defs.specs.Links.{Past, was_cut}
use Rattle.ship_defs.specs.Shipping.{connection}
use Rattle.ship_defs.specs.Hearing.{Ships, Over, HasUnfit, unbegun}
use Rattle.ship_defs.specs.Arrivals.{Arrival, entries_of}
use Rattle.update_process.specs.Copies.{Copy, history_of, next_of}
use Rattle.update_process.specs.Updates.{IsTooLarge}
use Rattle.session_handshake.specs.Connections.{IsBadOver, IsAnsweredOver}
use Rattle.session_turns.specs.Following.{Followed, IsFitCopy, HasFit, gained}
use Rattle.session_turns.specs.Sessions.{AreFirst}
use Rattle.session_turns.specs.declared.machines.TurnError.{TurnError}
use Rattle.session_turns.specs.declared.machines.Turned.{Turned}
use Rattle.session_turns.specs.declared.machines.Turned.TheVariants as turned
use Rattle.ship_session.specs.declared.end.SessionEnd.{SessionEnd}
use Rattle.ship_session.specs.declared.end.SessionEnd.TheVariants.{At, LinkCut, RollbackFirst, BadFrame, Failed}

-- these bytes are the sequence's entry of that number
abbrev pub IsEntryOf : Sequence → ℕ → List ℕ → Type 0
IsEntryOf all n entry = (1 ≤ n) × AreFirst n (entry ∷ []) (map (λ e. e.transaction) (drop (n - 1) all))

-- A primary with that history has this sequence, and what it shows of entries is of that.
pub record Gives (Is : ℕ → List ℕ → Type 0) (theirs : prefix.History) (all : Sequence) : Type 0 where
  pub size : theirs.length ≡ length all
  pub stamps : HasStamps theirs.reigns all
  pub form : (base part : Sequence) → all ≡ base ++ part → AllByRecursion IsFrame (connection theirs.reigns (length base + 1) (map (λ e. e.transaction) part))
  pub shown : (n : ℕ) (entry : List ℕ) → Is n entry → IsEntryOf all n entry

-- Behind what it had the site has the first few entries that the primary has past as many, and the reigns of the primary that begin there.
pub record HasJoined (theirs : prefix.History) (all : Sequence) (old now : Copy) : Type 0 where
  pub count : ℕ
  pub few : count ≤ length (drop (length old.sequence) all)
  pub sequence : now.sequence ≡ old.sequence ++ take count (drop (length old.sequence) all)
  pub reigns : now.reigns ≡ old.reigns ++ begun_within (length old.sequence) (length old.sequence + count) theirs.reigns

-- the histories match, and some entries were taken
abbrev pub HasTaken : prefix.History → Sequence → (old now : Copy) → Type 0
HasTaken theirs all old now = IsMatched theirs (history_of old) × HasJoined theirs all old now

-- the same of all that the primary has
abbrev pub HasTakenAll : prefix.History → Sequence → (old now : Copy) → Type 0
HasTakenAll theirs all old now = IsMatched theirs (history_of old) × ((j : HasJoined theirs all old now) × (j.count ≡ length (drop (length old.sequence) all)))

-- What came to a site over a connection, which was `begun` before that: frames, each of which fits but for its nodes.
pub record HasGot (begun : Copy) (received : List ℕ) (put : List Arrival) : Type 0 where
  pub fit : HasFit begun put
  pub ships : fit.purpose ≡ Ships
  pub rest : List ℕ
  pub are : AreFrames received fit.frames rest

-- The site has what it had and then the first few entries of what came.
pub record HasGrown (begun : Copy) (received : List ℕ) (now : Copy) : Type 0 where
  pub front : List Arrival
  pub back : List Arrival
  pub got : HasGot begun received (front ++ back)
  pub fit : IsFitCopy now
  pub sequence : now.sequence ≡ begun.sequence ++ entries_of None front
  pub reigns : now.reigns ≡ begun.reigns ++ gained (next_of begun) front

-- all that came was applied, each entry once and in order
pub record HasApplied (begun : Copy) (received : List ℕ) (now : Copy) : Type 0 where
  pub put : List Arrival
  pub got : HasGot begun received put
  pub follows : Followed begun put now

-- the connection's last frame has come too, and nothing stands behind it
pub record HasAppliedAll (begun : Copy) (received : List ℕ) (now : Copy) : Type 0 where
  pub applied : HasApplied begun received now
  pub nothing : applied.got.rest ≡ []
  pub over : applied.got.fit.now.last ≡ Over

-- there is no room for the nodes of the entry whose frame begins there, and all before it was applied
pub record IsFullAt (begun : Copy) (received : List ℕ) (offset : ℕ) : Type 0 where
  pub applied : List Arrival
  pub next : Arrival
  pub got : HasGot begun received (applied ++ next ∷ [])
  pub site : Copy
  pub follows : Followed begun applied site
  pub at : next.at ≡ offset
  pub large : IsTooLarge next site

-- what the secondary received is bad there
abbrev pub IsBadShipped : Copy → (received : List ℕ) → (ended : Bool) → (offset : ℕ) → Type 0
IsBadShipped begun received ended offset = HasUnfit Ships (unbegun (history_of begun)) received ended offset ⊎ IsFullAt begun received offset

module _ {P : Type 0} where
  -- what is told where the primary has ended before its last frame: its failure, or else a bad frame there
  abbrev pub short_end : Option P → (offset : ℕ) → SessionEnd P
  short_end None offset = BadFrame offset
  short_end (Some error) offset = Failed error

  -- what the machines' last turn means for a session
  abbrev pub end_of : Turned → Option P → (length : ℕ) → Option (SessionEnd P)
  end_of turned.On failure length = None
  end_of turned.Cut failure length = None
  end_of turned.Over failure length = Some (At length)
  end_of (turned.Short offset) failure length = Some (short_end failure offset)
  end_of (turned.Bad offset) failure length = Some (BadFrame offset)

  -- shipping ends so: it answers no history, and no count of cuts
  abbrev pub IsShipEnd : Option (SessionEnd P) → Type 0
  IsShipEnd None = Unit {0}
  IsShipEnd (Some (At n)) = Unit {0}
  IsShipEnd (Some LinkCut) = ⊥
  IsShipEnd (Some (RollbackFirst n)) = ⊥
  IsShipEnd (Some (BadFrame offset)) = Unit {0}
  IsShipEnd (Some (Failed error)) = Unit {0}

  -- What a session's end tells of its last connection, before whose first byte the site was `begun`.
  abbrev pub EndsAs : SessionEnd P → (begun now : Copy) → Past → Type 0
  EndsAs (At n) begun now p = HasAppliedAll begun p.from_primary now
  EndsAs LinkCut begun now p = Unit {0}
  EndsAs (RollbackFirst n) begun now p = (now ≡ begun) × IsAnsweredOver Ships (history_of begun) p (frames.RollbackFirst n)
  EndsAs (BadFrame offset) begun now p = IsBadOver Ships (history_of begun) p offset ⊎ IsBadShipped begun p.from_primary p.primary_ended offset
  EndsAs (Failed error) begun now p = IsTrue p.primary_ended × HasApplied begun p.from_primary now

  -- The last of the connections was the one that ended so; LinkCut tells of none.
  abbrev pub HasEnded : SessionEnd P → (old now : Copy) → List Past → Type 0
  HasEnded (At n) old now over = (begun : Copy) × (cut : List Past) × (p : Past) × (over ≡ cut ++ p ∷ []) × IsPrefix old.sequence begun.sequence × EndsAs (At n) begun now p
  HasEnded LinkCut old now over = Unit {0}
  HasEnded (RollbackFirst n) old now over = (begun : Copy) × (cut : List Past) × (p : Past) × (over ≡ cut ++ p ∷ []) × IsPrefix old.sequence begun.sequence × EndsAs (RollbackFirst n) begun now p
  HasEnded (BadFrame offset) old now over = (begun : Copy) × (cut : List Past) × (p : Past) × (over ≡ cut ++ p ∷ []) × IsPrefix old.sequence begun.sequence × EndsAs (BadFrame offset) begun now p
  HasEnded (Failed error) old now over = (begun : Copy) × (cut : List Past) × (p : Past) × (over ≡ cut ++ p ∷ []) × IsPrefix old.sequence begun.sequence × EndsAs (Failed error) begun now p

  -- no entries were shipped
  abbrev pub ShipsNothing : SessionEnd P → Type 0
  ShipsNothing (At n) = ⊥
  ShipsNothing LinkCut = Unit {0}
  ShipsNothing (RollbackFirst n) = Unit {0}
  ShipsNothing (BadFrame offset) = Unit {0}
  ShipsNothing (Failed error) = ⊥

  module _ {F : Type 0} where
    -- What one connection came to, by what remains of it: it was cut exactly where it tells no end.
    abbrev pub MetOne : (shown : Bool) → Result (Option (SessionEnd P)) (TurnError F) → (begun now : Copy) → List Past → Type 0
    MetOne shown (Ok None) begun now over = (p : Past) × (over ≡ p ∷ []) × IsTrue (was_cut p)
    MetOne shown (Ok (Some end)) begun now over = (p : Past) × (over ≡ p ∷ []) × (was_cut p ≡ false) × (end ≢ LinkCut) × (IsTrue shown → EndsAs end begun now p)
    MetOne shown (Err error) begun now over = length over ≤ 1

    -- what shipping over a connection came to
    abbrev pub ShipsTo : Result (Option (SessionEnd P)) (TurnError F) → (begun now : Copy) → (received : List ℕ) → (closed : Bool) → Type 0
    ShipsTo (Ok None) begun now received closed = Unit {0}
    ShipsTo (Ok (Some (At n))) begun now received closed = HasAppliedAll begun received now
    ShipsTo (Ok (Some LinkCut)) begun now received closed = ⊥
    ShipsTo (Ok (Some (RollbackFirst n))) begun now received closed = ⊥
    ShipsTo (Ok (Some (BadFrame offset))) begun now received closed = IsBadShipped begun received closed offset
    ShipsTo (Ok (Some (Failed error))) begun now received closed = IsTrue closed × HasApplied begun received now
    ShipsTo (Err error) begun now received closed = Unit {0}

    -- where the secondary has entries that aren't the primary's, nothing is shipped to it, and it stays as it was
    abbrev pub Parts : Result (Option (SessionEnd P)) (TurnError F) → (old now : Copy) → Type 0
    Parts (Ok None) old now = now ≡ old
    Parts (Ok (Some (At n))) old now = ⊥
    Parts (Ok (Some LinkCut)) old now = now ≡ old
    Parts (Ok (Some (RollbackFirst n))) old now = now ≡ old
    Parts (Ok (Some (BadFrame offset))) old now = now ≡ old
    Parts (Ok (Some (Failed error))) old now = ⊥
    Parts (Err error) old now = now ≡ old
