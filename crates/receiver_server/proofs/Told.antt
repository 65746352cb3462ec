-- What frames that fit are to a secondary that has room for their nodes.
use Rattle.std.proofs.Common.{◌≡◌, ◌≢◌, ℕ, Bool, true, false, List, [], ◌∷◌, ◌++◌, refl, sym, ap, subst, ◌∙◌, append-nil, Result, Ok, Err}
use Rattle.global_defs.specs.Entry.{Globals}
use Rattle.wire_defs.specs.Frames.{Frame, Reading, AreFrames, BeginsFrame, offset_after}
use Rattle.ship_defs.specs.Directions.{Admitted, Lacks, refused, begins_none, behind_last, too_short}
use Rattle.ship_defs.specs.Arrivals.{Arrival}
use Rattle.ship_defs.specs.Hearing as ship
use Rattle.ship_defs.specs.Hearing.{Purpose, Heard, Hearing, Last, Fits, Admits, IsOver, IsHeardOut, with_updates, IsBadFromPrimary, EndsFromPrimary}
use Rattle.receiver_server.specs.Listenings.{Listening, HasTail, IsHearing, IsQuiet, IsIdle, IsUnfitBehind, HavePlaces, Does}
use Rattle.receiver_server.specs.declared.step.HearError.{HearError}
use Rattle.receiver_server.specs.declared.step.HearError.TheVariants as hear
use Rattle.receiver_server.specs.declared.step.Step.{Step}
use Rattle.receiver_server.specs.declared.step.Step.TheVariants as steps
use Rattle.receiver_server.proofs.Steps.{alone}

-- the globals with the updates of frames
abbrev globals_behind : Globals → List Frame → Globals
globals_behind g [] = g
globals_behind g (f ∷ fs) = globals_behind (with_updates g f) fs

abbrev with_globals : Heard → Globals → Hearing
with_globals h g = record { heard = h; globals = g }

admits_all : (p : Purpose) (h now : Heard) (g : Globals) (fs : List Frame) → Admitted (Fits p) h fs now → HavePlaces g fs
    → Admitted (Admits p) (with_globals h g) fs (with_globals now (globals_behind g fs))
admits_all p h now g [] a places = ap (λ (x : Heard). with_globals x g) a
admits_all p h now g (f ∷ fs) a places = (with_globals a.0 (with_updates g f), (a.1, places.0, refl), admits_all p a.0 now (with_updates g f) fs a.2 places.1)

lacks_all : (p : Purpose) (h : Heard) (g : Globals) (rest : List ℕ) (ended : Bool) → Lacks (Fits p) (λ x. IsOver x.last) h rest ended → Lacks (Admits p) IsHeardOut (with_globals h g) rest ended
lacks_all p h g rest ended (refused r) = refused (record { frame = r.frame; more = r.more; form = r.form; is = r.is; never = λ now x. r.never now.heard x.0 })
lacks_all p h g rest ended (begins_none n) = begins_none n
lacks_all p h g rest ended (behind_last o some) = behind_last o some
lacks_all p h g rest ended (too_short e o b) = too_short e o b

pub bad_all : (p : Purpose) (h : Heard) (g : Globals) (frames : List Frame) (bytes : List ℕ) (ended : Bool) (offset : ℕ)
    → IsUnfitBehind p h frames bytes ended offset → HavePlaces g frames → IsBadFromPrimary p (with_globals h g) bytes ended offset
bad_all p h g frames bytes ended offset u places =
    let bad = u.0 in
    let here : HavePlaces g bad.frames = subst (λ (l : List Frame). HavePlaces g l) (sym u.1) places in
    record {
      frames = bad.frames;
      rest = bad.rest;
      now = with_globals bad.now (globals_behind g bad.frames);
      come = record { are = bad.come.are; admitted = admits_all p h bad.now g bad.frames bad.come.admitted here };
      lacks = lacks_all p bad.now (globals_behind g bad.frames) bad.rest ended bad.lacks;
      at = bad.at;
    }

pub whole_all : (p : Purpose) (h now : Heard) (g : Globals) (frames : List Frame) (last : Frame) (bytes : List ℕ)
    → AreFrames bytes (frames ++ last ∷ []) [] → Admitted (Fits p) h (frames ++ last ∷ []) now → IsOver now.last → HavePlaces g (frames ++ last ∷ [])
    → EndsFromPrimary p (with_globals h g) bytes last
whole_all p h now g frames last bytes are admitted over places = record {
  frames = frames;
  now = with_globals now (globals_behind g (frames ++ last ∷ []));
  come = record { are = are; admitted = admits_all p h now g (frames ++ last ∷ []) admitted places };
  over = over;
}

-- where nothing waits, these are all the whole frames

are_alone : (begun : Heard) (s : Listening) (received : List ℕ) (put : List Arrival) (frames : List Frame) → (h : IsHearing begun s received put frames) → s.incoming.waiting ≡ [] → s.incoming.fresh ≡ []
    → AreFrames received frames h.rest
are_alone begun s received put frames h none read =
    let rest_is : h.rest ++ s.incoming.fresh ≡ h.rest = ap (λ (l : List ℕ). h.rest ++ l) read ∙ append-nil h.rest in
    subst (λ (l : List ℕ). AreFrames received frames l) rest_is (subst (λ (l : List Frame). AreFrames received l (h.rest ++ s.incoming.fresh)) (alone frames s.incoming.waiting none) h.are)

tail_good : (begun : Heard) (s : Listening) (received : List ℕ) (put : List Arrival) (frames : List Frame) → (h : IsHearing begun s received put frames) → s.incoming.bad ≡ false
    → (s.incoming.reading ≡ record { offset = offset_after 0 (frames ++ s.incoming.waiting); rest = h.rest }) × BeginsFrame h.rest
tail_good begun s received put frames h good = subst (λ (b : Bool). HasTail b s.incoming.reading (offset_after 0 (frames ++ s.incoming.waiting)) h.rest s.incoming.fresh) good h.tail

pub all_heard : (begun : Heard) (s : Listening) (received : List ℕ) (put : List Arrival) (frames : List Frame) → IsHearing begun s received put frames → IsQuiet s → AreFrames received frames []
all_heard begun s received put frames h quiet =
    let tail = tail_good begun s received put frames h quiet.good in
    let none : h.rest ≡ [] = sym (ap (λ (r : Reading). r.rest) tail.0) ∙ quiet.bytes in
    subst (λ (l : List ℕ). AreFrames received frames l) none (are_alone begun s received put frames h quiet.frames quiet.fresh)

not_over : (l : Last) → l ≢ ship.Over → IsOver l → ⊥
not_over ship.Over ne over = ne refl
not_over ship.Unbegun ne over = over
not_over ship.Resumed ne over = over
not_over (ship.Reigning r) ne over = over
not_over ship.Shipped ne over = over

pub ends_early : (begun : Heard) (s : Listening) (received : List ℕ) (put : List Arrival) (frames : List Frame) → IsHearing begun s received put frames → IsIdle s → s.heard.last ≢ ship.Over
    → IsUnfitBehind s.purpose begun frames received true s.offset
ends_early begun s received put frames h idle ne =
    let tail = tail_good begun s received put frames h idle.good in (
      record {
        frames = frames;
        rest = h.rest;
        now = s.heard;
        come = record { are = are_alone begun s received put frames h idle.frames idle.fresh; admitted = h.admitted };
        lacks = too_short refl (not_over s.heard.last ne) tail.1;
        at = h.at;
      },
      refl,
    )

-- no step changes what the connection is for
pub same_purpose : (r : Result Step HearError) (a b : Listening) → Does r a b → b.purpose ≡ a.purpose
same_purpose (Ok steps.Received) a b does = ap (λ (x : Listening). x.purpose) does.0.after
same_purpose (Ok (steps.Answered y)) a b does = ap (λ (x : Listening). x.purpose) does.after
same_purpose (Ok steps.Heard) a b does = ap (λ (x : Listening). x.purpose) does.2.after
same_purpose (Ok steps.Waits) a b does = ap (λ (x : Listening). x.purpose) does
same_purpose (Ok steps.Over) a b does = ap (λ (x : Listening). x.purpose) does
same_purpose (Ok steps.Ended) a b does = ap (λ (x : Listening). x.purpose) does
same_purpose (Err hear.Cut) a b does = ap (λ (x : Listening). x.purpose) does
same_purpose (Err (hear.BadFrame at)) a b does = ap (λ (x : Listening). x.purpose) does
same_purpose (Err hear.NoMemory) a b does = ap (λ (x : Listening). x.purpose) does
