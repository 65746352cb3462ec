-- What may happen to sites, one atomic step after another (GT.M: updates, journal syncs, replication, rollback and switchover).
use Rattle.std.specs.Prelude.{◌≡◌, ◌≢◌, ◌⊎◌, ℕ, suc, ◌+◌, ◌-◌, ◌<◌, ◌≤◌, List, [], ◌∷◌, ◌++◌, length, take, set, replicate, slice_get, Some, Bool, false, nat_eq, if◌then◌else◌}
use Rattle.std.specs.Cmp.Lexicographic.{pointwise}
use Rattle.global_defs.specs.declared.limits.TheConstants.{MOST_REIGNS, MOST_UPDATERS}
use Rattle.global_defs.specs.Entry.{Update, Stamp, Entry, Sequence, Reign}
use Rattle.global_defs.specs.Serial.{entry_of, serial_at}
use Rattle.global_defs.specs.Prefix.{IsPrefix, stamp_at}
use Rattle.global_defs.specs.Rising.{begun_by}
use Rattle.global_defs.specs.Beside.{At}
use Rattle.lineage_defs.specs.Sites.{Role, Down, Primary, Following, Waiting, Site, World, hardened_part}

-- Sites by their places. A session is named by its follower's.
pub data Event : Type 0 where
  -- one pick of an updater is decided
  Decide : (site updater : ℕ) → Event
  -- all that the site has is hardened
  Harden : (site : ℕ) → Event
  -- the next hardened entry is sent
  Send : (follower : ℕ) → Event
  -- the next entry that was sent is received
  Receive : (follower : ℕ) → Event
  -- the next entry that was received is applied
  Apply : (follower : ℕ) → Event
  -- the link is cut, and what was under way is lost
  Cut : (follower : ℕ) → Event
  -- The site is down with its first n entries: after a crash, with what was hardened at least; after a close, with all entries; after a
  -- fault of its disk, with all entries, of which a crash may still leave fewer.
  Crash : (site n : ℕ) → Event
  -- the site begins a reign
  Begin : (site : ℕ) → Event
  -- the site follows another one from now on, after a handshake that matched
  Follow : (follower primary : ℕ) → Event
  -- the site is rolled back to its first t entries
  Roll : (site t : ℕ) → Event

-- a site that the step leaves as it was
abbrev pub Same : ℕ → Site → Site → Type 0
Same i old new = new ≡ old

-- What the instance file says after a step that may append to it: of the reigns that have begun by n what it said, and no cycle is
-- forgotten. Past n reigns may have come and gone.
pub record Keeps (n : ℕ) (old : Site) (reigns : List Reign) (cycle : ℕ) : Type 0 where
  pub begun : begun_by n reigns ≡ begun_by n old.reigns
  pub cycles : old.cycle ≤ cycle

-- the next serials after a pick of the updater
abbrev pub picked_once : List ℕ → ℕ → List ℕ
picked_once serials u = set serials (u - 1) (serial_at serials u + 1)

-- One pick: an entry of the reign under the updater's next serial is appended, or none is. The serial counts either way.
pub record Decides (u : ℕ) (old new : Site) : Type 0 where
  pub stamp : Stamp
  pub serials : List ℕ
  pub role : old.role ≡ Primary stamp serials
  pub updater : (1 ≤ u) × (u ≤ MOST_UPDATERS)
  pub after : (new ≡ record old { role = Primary stamp (picked_once serials u) })
      ⊎ ((updates : List Update) × (new ≡ record old { sequence = old.sequence ++ entry_of stamp u (serial_at serials u) updates ∷ []; role = Primary stamp (picked_once serials u) }))

-- all that the site has is hardened
abbrev pub Hardens : Site → Site → Type 0
Hardens old new = new ≡ record old { hardened = length old.sequence }

-- The next entry of the primary is sent, which it has hardened.
pub record Sends (primary old new : Site) : Type 0 where
  pub sent : Sequence
  pub received : Sequence
  pub next : Entry
  pub role : old.role ≡ Following primary.name sent received
  pub there : slice_get (hardened_part primary) (length sent) ≡ Some next
  pub after : new ≡ record old { role = Following primary.name (sent ++ next ∷ []) received }

-- The next entry of those that were sent is received.
pub record Receives (old new : Site) : Type 0 where
  pub primary : List ℕ
  pub sent : Sequence
  pub received : Sequence
  pub next : Entry
  pub role : old.role ≡ Following primary sent received
  pub there : slice_get sent (length received) ≡ Some next
  pub after : new ≡ record old { role = Following primary sent (received ++ next ∷ []) }

-- the reign with the stamp that begins with number n
abbrev pub reign_from : ℕ → Stamp → Reign
reign_from n stamp = record { stamp = stamp; start = n }

-- A follower's reigns once an entry with the stamp is its next one, behind n others: the last reign goes on where it has the stamp, and
-- else one begins with the entry.
abbrev pub Adopts : (n : ℕ) → Stamp → (old new : List Reign) → Type 0
Adopts n stamp old new = ((stamp_at n old ≡ Some stamp) × (begun_by (suc n) new ≡ begun_by n old))
    ⊎ ((stamp_at n old ≢ Some stamp) × (begun_by (suc n) new ≡ begun_by n old ++ reign_from (suc n) stamp ∷ []))

-- The next entry of those that were received is applied, and hardened at once where no fault comes between.
pub record Applies (old new : Site) : Type 0 where
  pub primary : List ℕ
  pub sent : Sequence
  pub received : Sequence
  pub next : Entry
  pub hardened : ℕ
  pub reigns : List Reign
  pub cycle : ℕ
  pub role : old.role ≡ Following primary sent received
  pub there : slice_get received (length old.sequence) ≡ Some next
  pub least : old.hardened ≤ hardened
  pub most : hardened ≤ suc (length old.sequence)
  pub adopts : Adopts (length old.sequence) next.stamp old.reigns reigns
  pub cycles : old.cycle ≤ cycle
  pub after : new ≡ record old { sequence = old.sequence ++ next ∷ []; hardened = hardened; reigns = reigns; cycle = cycle }

-- a session begins anew after what the follower has
abbrev pub resumed : List ℕ → Site → Site
resumed primary s = record s { role = Following primary s.sequence s.sequence }

-- The link of a session is cut.
pub record IsCut (old new : Site) : Type 0 where
  pub primary : List ℕ
  pub sent : Sequence
  pub received : Sequence
  pub role : old.role ≡ Following primary sent received
  pub after : new ≡ resumed primary old

-- the role is that of a follower of the site with this name
abbrev pub is_following : List ℕ → Role → Bool
is_following name (Following primary sent received) = pointwise nat_eq primary name
is_following name Down = false
is_following name (Primary stamp serials) = false
is_following name (Waiting primary) = false

-- a follower of the site with that name becomes this, and no other site changes
abbrev pub for_followers : List ℕ → (Site → Site) → Site → Site
for_followers name becomes s = if is_following name s.role then becomes s else s

-- the same as a step of each site
abbrev pub IfFollowing : List ℕ → (Site → Site) → ℕ → Site → Site → Type 0
IfFollowing name becomes i old new = new ≡ for_followers name becomes old

-- a follower of a site that was rolled back
abbrev pub set_back : List ℕ → Site → Site
set_back primary s = record s { role = Waiting primary }

-- The site is down with its first n entries, of which those up to the least number at least are hardened, and all where no fault came.
-- Its instance file may have reigns that begin past them, of cycles that are used up.
pub record IsLeft (least n : ℕ) (old new : Site) : Type 0 where
  pub hardened : ℕ
  pub reigns : List Reign
  pub cycle : ℕ
  pub enough : least ≤ hardened
  pub most : hardened ≤ n
  pub keeps : Keeps n old reigns cycle
  pub after : new ≡ record old { sequence = take n old.sequence; hardened = hardened; reigns = reigns; cycle = cycle; role = Down }

-- The stamp of a site's next reign. Its cycle is one past all others, those of dropped reigns among them.
abbrev pub drawn : Site → Stamp
drawn s = record { root = s.name; cycle = suc s.cycle }

-- A site that begins a reign opens, with all its entries. Reigns past them are dropped, and there is room for one more.
pub record Begins (old new : Site) : Type 0 where
  pub room : length (begun_by (length old.sequence) old.reigns) < MOST_REIGNS
  pub after : new ≡ record old {
    hardened = length old.sequence;
    reigns = begun_by (length old.sequence) old.reigns ++ reign_from (suc (length old.sequence)) (drawn old) ∷ [];
    cycle = suc old.cycle;
    role = Primary (drawn old) (replicate 64 1);
  }

-- A site that follows another one opens, with all its entries, which the other one's hardened part begins with.
pub record Follows (primary old new : Site) : Type 0 where
  pub reigns : List Reign
  pub cycle : ℕ
  pub matched : IsPrefix old.sequence (hardened_part primary)
  pub keeps : Keeps (length old.sequence) old reigns cycle
  pub after : new ≡ record old { hardened = length old.sequence; reigns = reigns; cycle = cycle; role = Following primary.name old.sequence old.sequence }

-- one step
abbrev pub Happens : World → Event → World → Type 0
Happens w (Decide i u) v = At i (Decides u) Same w v
Happens w (Harden i) v = At i Hardens Same w v
Happens w (Send i) v = (k : ℕ) × (a : Site) × (slice_get w k ≡ Some a) × At i (Sends a) Same w v
Happens w (Receive i) v = At i Receives Same w v
Happens w (Apply i) v = At i Applies Same w v
Happens w (Cut i) v = At i IsCut Same w v
Happens w (Crash i n) v = (a : Site) × (slice_get w i ≡ Some a) × (n ≤ length a.sequence) × At i (IsLeft a.hardened n) (IfFollowing a.name (resumed a.name)) w v
Happens w (Begin i) v = At i Begins Same w v
Happens w (Follow i k) v = (a : Site) × (slice_get w k ≡ Some a) × At i (Follows a) Same w v
Happens w (Roll i t) v = (a : Site) × (slice_get w i ≡ Some a) × (t ≤ length a.sequence) × At i (IsLeft 0 t) (IfFollowing a.name (set_back a.name)) w v

-- these events, one after another, lead from one world to the other
abbrev pub Reaches : World → List Event → World → Type 0
Reaches w [] v = v ≡ w
Reaches w (e ∷ es) v = (m : World) × Happens w e m × Reaches m es v
