-- What a secondary's site has of what came over a connection.
use Rattle.std.proofs.Common.{◌≡◌, inl, inr, ℕ, ◌≤◌, Bool, true, false, IsTrue, List, [], ◌∷◌, ◌++◌, length, Option, Some, None, Result, Ok, Err, refl, sym, ap, subst, ◌∙◌, append_assoc, append-nil}
use Rattle.std.specs.List.{AllByRecursion}
use Rattle.global_defs.specs.Entry.{Reign, Sequence}
use Rattle.wire_defs.specs.Frames.{Frame, IsFrame, AreFrames, stream}
use Rattle.repl_wire.proofs.Feeding.{stream_more}
use Rattle.ship_defs.specs.Directions.{Lacks, refused, begins_none, behind_last, too_short}
use Rattle.ship_defs.specs.Hearing as ship
use Rattle.ship_defs.specs.Hearing.{Purpose, Ships, Heard, Fits, IsOver, HasUnfit, unbegun}
use Rattle.ship_defs.specs.Arrivals.{Arrival}
use Rattle.receiver_server.specs.Listenings.{Listening, IsHearing, IsQuiet}
use Rattle.receiver_server.proofs.Told.{all_heard, ends_early}
use Rattle.update_process.specs.Copies.{Copy, history_of, told, Takes, hardened}
use Rattle.session_turns.specs.Following.{Followed, IsFitCopy, HasFit}
use Rattle.session_turns.specs.Turns.{HasFollowed, HasHalted, IsShort, HaltsWith, Comes}
use Rattle.session_turns.specs.declared.machines.TurnError.{TurnError}
use Rattle.session_turns.specs.declared.machines.TurnError.TheVariants.{Site, NoMemory}
use Rattle.session_turns.specs.declared.machines.Turned.{Turned}
use Rattle.session_turns.specs.declared.machines.Turned.TheVariants.{On, Cut, Over, Short, Bad}
use Rattle.session_turns.proofs.Walk.{followed_told}
use Rattle.session_turns.proofs.Taken.{followed_push}
use Rattle.session_turns.proofs.Gains.{Settled, gained_by, first_told}
use Rattle.ship_session.specs.Ends.{HasGot, HasGrown, HasApplied, HasAppliedAll, IsFullAt, ShipsTo, end_of, short_end}

all_front : (xs ys : List Frame) → AllByRecursion IsFrame (xs ++ ys) → AllByRecursion IsFrame xs
all_front [] ys all = tt
all_front (x ∷ xs) ys all = (all.0, all_front xs ys all.1)

front_are : (bytes : List ℕ) (xs ys : List Frame) (rest : List ℕ) → AreFrames bytes (xs ++ ys) rest → AreFrames bytes xs (stream ys ++ rest)
front_are bytes xs ys rest a = record {
  whole = a.whole ∙ (ap (λ (l : List ℕ). l ++ rest) (stream_more xs ys) ∙ append_assoc (stream xs) (stream ys) rest);
  each = all_front xs ys a.each;
}

-- what was heard came
pub got_of : (begun : Copy) (r : Listening) (received : List ℕ) (put : List Arrival) (frames : List Frame) → IsFitCopy begun → r.purpose ≡ Ships → IsHearing (unbegun (history_of begun)) r received put frames → HasGot begun received put
got_of begun r received put frames fit ships h = record {
  fit = record { fit = fit; purpose = r.purpose; frames = frames; now = r.heard; admitted = h.admitted; arrive = h.put_is };
  ships = ships;
  rest = stream r.incoming.waiting ++ (h.rest ++ r.incoming.fresh);
  are = front_are received frames r.incoming.waiting (h.rest ++ r.incoming.fresh) h.are;
}

told_sequence : (c : Copy) (o : Option Reign) → (told c o).sequence ≡ c.sequence
told_sequence c None = refl
told_sequence c (Some r) = refl

told_reigns : (c : Copy) (o : Option Reign) → (told c o).reigns ≡ c.reigns
told_reigns c None = refl
told_reigns c (Some r) = refl

-- the first entry of a connection comes behind a HISTORY
settled_first : (begun : Copy) (front back : List Arrival) → HasFit begun (front ++ back) → Settled begun front
settled_first begun [] back f = tt
settled_first begun (x ∷ xs) back f = inl (first_told f.purpose f.frames 0 (unbegun (history_of begun)) f.now x (xs ++ back) f.admitted (λ e. cc) (sym f.arrive))

module _ (begun now : Copy) (received : List ℕ) where
  -- where all was applied
  pub grown_all : (put : List Arrival) → HasGot begun received put → Followed begun put now → HasGrown begun received now
  grown_all put got follows =
      let f = got.fit in
      let is : put ++ [] ≡ put = append-nil put in
      let y = followed_told f.purpose begun now f.frames f.now put [] f.fit f.admitted (sym f.arrive ∙ sym is) follows in
      let whole = subst (λ (l : List Arrival). HasGot begun received l) (sym is) got in
      record { front = put; back = []; got = whole; fit = y.2; sequence = y.1; reigns = gained_by begun now put (settled_first begun put [] whole.fit) follows }

  -- where all but the last one was
  module _ (applied : List Arrival) (x : Arrival) (c : Copy) (got : HasGot begun received (applied ++ x ∷ [])) (follows : Followed begun applied c) where
    pub grown_but : now.sequence ≡ c.sequence → now.reigns ≡ c.reigns → HasGrown begun received now
    grown_but same reigns =
        let f = got.fit in
        let y = followed_told f.purpose begun c f.frames f.now applied (x ∷ []) f.fit f.admitted (sym f.arrive) follows in
        record {
          front = applied;
          back = x ∷ [];
          got = got;
          fit = subst (λ (l : List Reign). AllByRecursion (λ r. r.start ≤ length now.sequence) l) (sym reigns) (subst (λ (s : Sequence). AllByRecursion (λ r. r.start ≤ length s) c.reigns) (sym same) y.2);
          sequence = same ∙ y.1;
          reigns = reigns ∙ gained_by begun c applied (settled_first begun applied (x ∷ []) got.fit) follows;
        }

    pub grown_told : now ≡ told c x.reign → HasGrown begun received now
    grown_told is = grown_but (ap (λ (d : Copy). d.sequence) is ∙ told_sequence c x.reign) (ap (λ (d : Copy). d.reigns) is ∙ told_reigns c x.reign)

    next_is : Takes x.transaction (told c x.reign) now → Followed begun (applied ++ x ∷ []) (hardened now)
    next_is takes =
        let f = got.fit in
        let y = followed_told f.purpose begun c f.frames f.now applied (x ∷ []) f.fit f.admitted (sym f.arrive) follows in
        followed_push begun c (hardened now) applied x follows (y.0.0, (now, takes, refl))

-- what was applied and hardened stood before it was hardened
grown_before : (begun now : Copy) (received : List ℕ) → HasGrown begun received (hardened now) → HasGrown begun received now
grown_before begun now received g = record { front = g.front; back = g.back; got = g.got; fit = g.fit; sequence = g.sequence; reigns = g.reigns }

module _ {F : Type 0} (begun now : Copy) (r : Listening) (received : List ℕ) (put taken : List Arrival) (ships : r.purpose ≡ Ships) where
  halted_grown : (t : Result Turned (TurnError F)) (x : Arrival) (c : Copy) → HasHalted begun r received put x c → HaltsWith t x c now → HasGrown begun received now
  halted_grown t x c h with_t =
      let got = subst (λ (l : List Arrival). HasGot begun received l) h.is (got_of begun r received put h.frames h.fit ships h.hears) in
      elim t as (λ t. HaltsWith t x c now → HasGrown begun received now) [
        | Ok On ↦ (λ w. absurd w)
        | Ok Cut ↦ (λ w. grown_told begun now received h.applied x c got h.follows w.1)
        | Ok Over ↦ (λ w. absurd w)
        | Ok (Short o) ↦ (λ w. absurd w)
        | Ok (Bad o) ↦ (λ w. grown_told begun now received h.applied x c got h.follows w.2)
        | Err NoMemory ↦ (λ w. absurd w)
        | Err (Site e) ↦ (λ w. elim w [
          | inl same ↦ grown_but begun now received h.applied x c got h.follows (ap (λ (d : Copy). d.sequence) same) (ap (λ (d : Copy). d.reigns) same)
          | inr (inl is) ↦ grown_told begun now received h.applied x c got h.follows is
          | inr (inr takes) ↦ grown_before begun now received (grown_all begun (hardened now) received (h.applied ++ x ∷ []) got (next_is begun now received h.applied x c got h.follows takes))
        ])
      ] with_t

  -- whatever a turn came to
  pub grown_of : (t : Result Turned (TurnError F)) → Comes t begun r received put taken now → HasGrown begun received now
  grown_of t (inl f) = grown_all begun now received put (got_of begun r received put f.0.frames f.0.fit ships f.0.hears) f.0.follows
  grown_of t (inr h) = halted_grown t h.0 h.1 h.2 h.3

-- bytes that are bad are so whether more may come or not
lacks_any : (h : Heard) (rest : List ℕ) (closed : Bool) → Lacks (Fits Ships) (λ x. IsOver x.last) h rest false → Lacks (Fits Ships) (λ x. IsOver x.last) h rest closed
lacks_any h rest closed (refused r) = refused r
lacks_any h rest closed (begins_none n) = begins_none n
lacks_any h rest closed (behind_last o some) = behind_last o some
lacks_any h rest closed (too_short e o b) = absurd (let no : ⊥ = cc in no)

unfit_any : (h : Heard) (bytes : List ℕ) (closed : Bool) (offset : ℕ) → HasUnfit Ships h bytes false offset → HasUnfit Ships h bytes closed offset
unfit_any h bytes closed offset u = record { frames = u.frames; rest = u.rest; now = u.now; come = u.come; lacks = lacks_any u.now u.rest closed u.lacks; at = u.at }

module _ (begun now : Copy) (r : Listening) (received : List ℕ) (put taken : List Arrival) (closed : Bool) (ships : r.purpose ≡ Ships) where
  applied_of : HasFollowed begun r received put taken now → HasApplied begun received now
  applied_of f = record { put = put; got = got_of begun r received put f.frames f.fit ships f.hears; follows = f.follows }

  over_of : HasFollowed begun r received put taken now → IsQuiet r → r.heard.last ≡ ship.Over → HasAppliedAll begun received now
  over_of f quiet over = record {
    applied = record {
      put = put;
      got = record {
        fit = record { fit = f.fit; purpose = r.purpose; frames = f.frames; now = r.heard; admitted = f.hears.admitted; arrive = f.hears.put_is };
        ships = ships;
        rest = [];
        are = all_heard (unbegun (history_of begun)) r received put f.frames f.hears quiet;
      };
      follows = f.follows;
    };
    nothing = refl;
    over = over;
  }

  short_of : {P : Type 0} (F : Type 0) → HasFollowed begun r received put taken now → (offset : ℕ) → IsShort r offset → IsTrue closed → (failure : Option P) → ShipsTo {P = P} {F = F} (Ok (Some (short_end failure offset))) begun now received closed
  short_of F f offset short is (Some error) = (is, applied_of f)
  short_of F f offset short is None =
      let u = (ends_early (unbegun (history_of begun)) r received put f.frames f.hears short.idle short.going).0 in
      inl (subst (λ (n : ℕ). HasUnfit Ships (unbegun (history_of begun)) received closed n) (sym short.at)
      (subst (λ (b : Bool). HasUnfit Ships (unbegun (history_of begun)) received b r.offset) (sym is)
      (subst (λ (p : Purpose). HasUnfit p (unbegun (history_of begun)) received true r.offset) ships u)))

  full_of : (F : Type 0) (x : Arrival) (c : Copy) (offset : ℕ) → HasHalted begun r received put x c → HaltsWith {F = F} (Ok (Bad offset)) x c now → IsFullAt begun received offset
  full_of F x c offset h w = record {
    applied = h.applied;
    next = x;
    got = subst (λ (l : List Arrival). HasGot begun received l) h.is (got_of begun r received put h.frames h.fit ships h.hears);
    site = c;
    follows = h.follows;
    at = w.0;
    large = w.1;
  }

  pub ships_to : {P : Type 0} (F : Type 0) (t : Turned) (failure : Option P) (n : ℕ) → Comes {F = F} (Ok t) begun r received put taken now → (t ≡ Over → IsQuiet r × (r.heard.last ≡ ship.Over))
      → ((offset : ℕ) → t ≡ Short offset → IsShort r offset × IsTrue closed) → ShipsTo {P = P} {F = F} (Ok (end_of t failure n)) begun now received closed
  ships_to F On failure n comes over short = tt
  ships_to F Cut failure n comes over short = tt
  ships_to F Over failure n (inl f) over short = over_of f.0 (over refl).0 (over refl).1
  ships_to F Over failure n (inr h) over short = absurd h.3
  ships_to F (Short offset) failure n (inl f) over short = short_of F f.0 offset (short offset refl).0 (short offset refl).1 failure
  ships_to F (Short offset) failure n (inr h) over short = absurd h.3
  ships_to F (Bad offset) failure n (inl f) over short =
      inl (unfit_any (unbegun (history_of begun)) received closed offset (subst (λ (p : Purpose). HasUnfit p (unbegun (history_of begun)) received false offset) ships f.1))
  ships_to F (Bad offset) failure n (inr h) over short = inr (full_of F h.0 h.1 offset h.2 h.3)
