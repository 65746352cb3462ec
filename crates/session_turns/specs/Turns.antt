-- What a turn of a connection's machines comes to.
use Rattle.std.specs.Prelude.{◌≡◌, ◌≢◌, ◌⊎◌, ℕ, Bool, true, false, List, [], ◌∷◌, ◌++◌, Result, Ok, Err}
use Rattle.wire_defs.specs.Frames.{Frame}
use Rattle.ship_defs.specs.Hearing.{unbegun, HasUnfit}
use Rattle.ship_defs.specs.Hearing as ship
use Rattle.ship_defs.specs.Arrivals.{Arrival}
use Rattle.receiver_server.specs.Listenings.{Listening, IsHearing, IsIdle}
use Rattle.update_process.specs.Copies.{Copy, history_of, told, Takes}
use Rattle.update_process.specs.Updates.{IsTooLarge}
use Rattle.receiver_server.specs.declared.step.HearError.{HearError}
use Rattle.receiver_server.specs.declared.step.HearError.TheVariants as hear
use Rattle.receiver_server.specs.declared.step.Step.{Step}
use Rattle.receiver_server.specs.declared.step.Step.TheVariants as step
use Rattle.update_process.specs.declared.update.UpdateError.{UpdateError}
use Rattle.update_process.specs.declared.update.UpdateError.TheVariants as update
use Rattle.session_turns.specs.Following.{Followed, IsFitCopy}
use Rattle.session_turns.specs.declared.machines.TurnError.{TurnError}
use Rattle.session_turns.specs.declared.machines.TurnError.TheVariants.{Site, NoMemory}
use Rattle.session_turns.specs.declared.machines.Turned.{Turned}
use Rattle.session_turns.specs.declared.machines.Turned.TheVariants.{On, Cut, Over, Short, Bad}

-- all that has arrived with the bytes received was taken and applied to the site, which was `begun` before the connection's first byte
pub record HasFollowed (begun : Copy) (r : Listening) (received : List ℕ) (put taken : List Arrival) (c : Copy) : Type 0 where
  pub fit : IsFitCopy begun
  pub frames : List Frame
  pub hears : IsHearing (unbegun (history_of begun)) r received put frames
  pub all : taken ≡ put
  pub follows : Followed begun put c

-- all but the last one was, and this was the site before that
pub record HasHalted (begun : Copy) (r : Listening) (received : List ℕ) (put : List Arrival) (x : Arrival) (c : Copy) : Type 0 where
  pub fit : IsFitCopy begun
  pub frames : List Frame
  pub hears : IsHearing (unbegun (history_of begun)) r received put frames
  pub applied : List Arrival
  pub is : put ≡ applied ++ x ∷ []
  pub follows : Followed begun applied c

-- the primary has ended where the next frame would begin, before the last one
pub record IsShort (r : Listening) (offset : ℕ) : Type 0 where
  pub at : offset ≡ r.offset
  pub idle : IsIdle r
  pub going : r.heard.last ≢ ship.Over

module _ {F : Type 0} where
  -- what steps of the Receiver Server and the Update Process come to, where the next frame would begin at that offset
  abbrev pub turned_of : Result Step HearError → Result (Unit {0}) (UpdateError F) → (offset : ℕ) → Result Turned (TurnError F)
  turned_of heard (Err (update.BadFrame at)) offset = Ok (Bad at)
  turned_of heard (Err (update.Site e)) offset = Err (Site e)
  turned_of (Ok step.Received) (Ok u) offset = Ok On
  turned_of (Ok (step.Answered answer)) (Ok u) offset = Ok On
  turned_of (Ok step.Heard) (Ok u) offset = Ok On
  turned_of (Ok step.Waits) (Ok u) offset = Ok On
  turned_of (Ok step.Over) (Ok u) offset = Ok Over
  turned_of (Ok step.Ended) (Ok u) offset = Ok (Short offset)
  turned_of (Err hear.Cut) (Ok u) offset = Ok Cut
  turned_of (Err (hear.BadFrame at)) (Ok u) offset = Ok (Bad at)
  turned_of (Err hear.NoMemory) (Ok u) offset = Err NoMemory

  -- What a turn comes to where one without a look at the sending end comes to that. Where the end was found cut, the connection is cut once
  -- it can't go on with what has come.
  abbrev pub settled_of : (cut : Bool) → Result Turned (TurnError F) → Result Turned (TurnError F)
  settled_of false turned = turned
  settled_of true (Ok On) = Ok On
  settled_of true (Ok Cut) = Ok Cut
  settled_of true (Ok Over) = Ok Cut
  settled_of true (Ok (Short offset)) = Ok Cut
  settled_of true (Ok (Bad offset)) = Ok Cut
  settled_of true (Err e) = Err e

  -- Why the last entry that came wasn't applied to the site, and what the site is now. A connection that is cut may have brought one without room.
  abbrev pub HaltsWith : Result Turned (TurnError F) → Arrival → (c now : Copy) → Type 0
  HaltsWith (Ok (Bad offset)) x c now = (x.at ≡ offset) × IsTooLarge x c × (now ≡ told c x.reign)
  HaltsWith (Ok Cut) x c now = IsTooLarge x c × (now ≡ told c x.reign)
  HaltsWith (Err (Site e)) x c now = (now ≡ c) ⊎ ((now ≡ told c x.reign) ⊎ Takes x.transaction (told c x.reign) now)
  HaltsWith (Ok On) x c now = ⊥
  HaltsWith (Ok Over) x c now = ⊥
  HaltsWith (Ok (Short offset)) x c now = ⊥
  HaltsWith (Err NoMemory) x c now = ⊥

  -- Where all that has arrived was applied and the bytes are bad, no frame that fits stands there.
  abbrev pub FollowsWith : Result Turned (TurnError F) → (begun : Copy) → Listening → (received : List ℕ) → Type 0
  FollowsWith (Ok (Bad offset)) begun r received = HasUnfit r.purpose (unbegun (history_of begun)) received false offset
  FollowsWith (Ok On) begun r received = Unit {0}
  FollowsWith (Ok Cut) begun r received = Unit {0}
  FollowsWith (Ok Over) begun r received = Unit {0}
  FollowsWith (Ok (Short offset)) begun r received = Unit {0}
  FollowsWith (Err e) begun r received = Unit {0}

  -- What a turn came to: all that has arrived was applied, or the last one wasn't.
  abbrev pub Comes : Result Turned (TurnError F) → (begun : Copy) → Listening → (received : List ℕ) → (put taken : List Arrival) → (now : Copy) → Type 0
  Comes result begun r received put taken now = (HasFollowed begun r received put taken now × FollowsWith result begun r received)
      ⊎ ((x : Arrival) × (c : Copy) × HasHalted begun r received put x c × HaltsWith result x c now)
