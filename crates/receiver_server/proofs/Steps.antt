-- What a Receiver Server has heard, frame by frame and piece by piece.
use Rattle.std.proofs.Common.{◌≡◌, ◌≢◌, ℕ, ◌+◌, ◌-◌, ◌^◌, ◌<◌, ◌==◌, min, Bool, true, false, List, [], ◌∷◌, ◌++◌, length, Option, None, Result, Ok, Err, refl, sym, ap, subst, ◌∙◌, arith, append_assoc, append-nil, length-append, if◌then◌else◌}
use Rattle.std.specs.List.{AllByRecursion}
use Rattle.global_defs.specs.Entry.{Reign}
use Rattle.wire_defs.specs.Frames.{Frame, Hello, Resume, RollbackFirst, History, Entry, Bye, Reading, IsFrame, AreFrames, BeginsFrame, BeginsNone, spelled_frame, frame_type, stream, offset_after}
use Rattle.repl_wire.proofs.Feeding.{stream_more, all_more}
use Rattle.ship_defs.specs.Directions.{Admitted, refused, begins_none, behind_last}
use Rattle.ship_defs.specs.Hearing as ship
use Rattle.ship_defs.specs.Hearing.{Purpose, Heard, IsOver, Fits, entered, with_entry, with_reign, behind_resume}
use Rattle.ship_defs.specs.Arrivals.{Arrival, arrivals, arrived, told_reign}
use Rattle.receiver_server.specs.Hearings.{reign_behind, MayCome, behind}
use Rattle.receiver_server.specs.Incomings.{Incoming, Reads, begins as reads_on, begins_none as reads_none, HasRead, with_piece, Pulls}
use Rattle.receiver_server.specs.declared.step.HearError.{HearError}
use Rattle.receiver_server.specs.declared.step.HearError.TheVariants.{Cut, BadFrame, NoMemory}
use Rattle.receiver_server.specs.declared.step.Step.{Step}
use Rattle.receiver_server.specs.declared.step.Step.TheVariants.{Received, Answered, Heard as HeardOne, Waits, Over, Ended}
use Rattle.receiver_server.specs.Listenings.{Listening, listening, told_last, HasTail, IsHearing, HasHeard, HasPut, IsUnfitBehind, Hears, StepTells}
use Rattle.wire_defs.proofs.Resumed.{resume_form}

admitted_push : {S : Type 0} (A : S → Frame → S → Type 0) (s : S) (fs : List Frame) (h now : S) (f : Frame) → Admitted A s fs h → A h f now → Admitted A s (fs ++ f ∷ []) now
admitted_push A s [] h now f m may = (now, subst (λ t. A t f now) m may, refl)
admitted_push A s (g ∷ fs) h now f m may = (m.0, m.1, admitted_push A m.0 fs h now f m.2 may)

offset_more : (at : ℕ) (xs ys : List Frame) → offset_after (offset_after at xs) ys ≡ offset_after at (xs ++ ys)
offset_more at xs ys = let size : length (stream (xs ++ ys)) ≡ length (stream xs) + length (stream ys) = ap length (stream_more xs ys) ∙ length-append (stream xs) (stream ys) in omega (arith, size)

offset_few : (at : ℕ) (xs : List Frame) → offset_after at xs < 2 ^ 64
offset_few at xs = omega arith

arrivals_push : (at : ℕ) (reign : Option Reign) (fs : List Frame) (f : Frame) → at < 2 ^ 64 → arrivals at reign (fs ++ f ∷ []) ≡ arrivals at reign fs ++ arrived (offset_after at fs) (told_last reign fs) f
arrivals_push at reign [] f few =
    let same : at ≡ offset_after at [] = omega arith in
    append-nil (arrived at reign f) ∙ ap (λ (n : ℕ). arrived n reign f) same
arrivals_push at reign (g ∷ fs) f few =
    let behind = offset_after at (g ∷ []) in
    let here = arrived at reign g in
    ap (λ (l : List Arrival). here ++ l) (arrivals_push behind (told_reign g) fs f (offset_few at (g ∷ []))
    ∙ ap (λ (n : ℕ). arrivals behind (told_reign g) fs ++ arrived n (told_last (told_reign g) fs) f) (offset_more at (g ∷ []) fs))
    ∙ sym (append_assoc here (arrivals behind (told_reign g) fs) (arrived (offset_after at (g ∷ fs)) (told_last (told_reign g) fs) f))

told_push : (reign : Option Reign) (fs : List Frame) (f : Frame) → told_last reign (fs ++ f ∷ []) ≡ told_reign f
told_push reign [] f = refl
told_push reign (g ∷ fs) f = told_push (told_reign g) fs f

offset_push : (fs : List Frame) (f : Frame) → min (offset_after 0 fs + length (spelled_frame f)) (2 ^ 64 - 1) ≡ offset_after 0 (fs ++ f ∷ [])
offset_push fs f =
    let one : length (stream (f ∷ [])) ≡ length (spelled_frame f) = ap length (append-nil (spelled_frame f)) in
    let here : min (offset_after 0 fs + length (spelled_frame f)) (2 ^ 64 - 1) ≡ offset_after (offset_after 0 fs) (f ∷ []) = omega (arith, one) in
    here ∙ offset_more 0 fs (f ∷ [])

-- the reign of a HISTORY is known to be the last one

pub behind_none : (p : Purpose) → reign_behind (behind_resume p) ≡ None
behind_none ship.Asks = refl
behind_none ship.Ships = refl

pub either_shipped : (h : Heard) (r : Reign) (b : Bool) → (if b then with_reign h r else with_entry h).last ≡ ship.Shipped
either_shipped h r true = refl
either_shipped h r false = refl

entered_shipped : (h : Heard) (l : ship.Last) → (entered h l).last ≡ ship.Shipped
entered_shipped h (ship.Reigning r) = either_shipped h r (r.start == h.count + 1)
entered_shipped h ship.Unbegun = refl
entered_shipped h ship.Resumed = refl
entered_shipped h ship.Shipped = refl
entered_shipped h ship.Over = refl

pub told_fits : (p : Purpose) (h now : Heard) (f : Frame) → Fits p h f now → told_reign f ≡ reign_behind now.last
told_fits p h now (Hello version name history) x = absurd x
told_fits p h now (Resume n) x = sym (ap (λ (y : Heard). reign_behind y.last) x.2 ∙ behind_none p)
told_fits p h now (RollbackFirst n) x = sym (ap (λ (y : Heard). reign_behind y.last) x.3)
told_fits p h now (History r) x = sym (ap (λ (y : Heard). reign_behind y.last) x.2)
told_fits p h now (Entry n t) x = sym (ap (λ (y : Heard). reign_behind y.last) x.2 ∙ ap reign_behind (entered_shipped h h.last))
told_fits p h now (Bye n) x = sym (ap (λ (y : Heard). reign_behind y.last) x.2)

all_front : (xs ys : List Frame) → AllByRecursion IsFrame (xs ++ ys) → AllByRecursion IsFrame xs
all_front [] ys a = tt
all_front (x ∷ xs) ys a = (a.0, all_front xs ys a.1)

all_back : (xs ys : List Frame) → AllByRecursion IsFrame (xs ++ ys) → AllByRecursion IsFrame ys
all_back [] ys a = a
all_back (x ∷ xs) ys a = all_back xs ys a.1

-- a frame that waited is heard
pub heard_one : (begun : Heard) (s : Listening) (now : Heard) (offset : ℕ) (f : Frame) (waiting : List Frame) (received : List ℕ) (put : List Arrival) (frames : List Frame)
    → s.incoming.waiting ≡ f ∷ waiting → Fits s.purpose s.heard f now → offset ≡ min (s.offset + length (spelled_frame f)) (2 ^ 64 - 1) → IsHearing begun s received put frames
    → IsHearing begun (record s { heard = now; offset = offset; incoming = record s.incoming { waiting = waiting } }) received (put ++ arrived s.offset (reign_behind s.heard.last) f) (frames ++ f ∷ [])
heard_one begun s now offset f waiting received put frames is fits at h =
    let all : frames ++ s.incoming.waiting ≡ (frames ++ f ∷ []) ++ waiting = ap (λ (l : List Frame). frames ++ l) is ∙ sym (append_assoc frames (f ∷ []) waiting) in
    record {
      rest = h.rest;
      are = subst (λ (l : List Frame). AreFrames received l (h.rest ++ s.incoming.fresh)) all h.are;
      admitted = admitted_push (Fits s.purpose) begun frames s.heard now f h.admitted fits;
      put_is = ap (λ (l : List Arrival). l ++ arrived s.offset (reign_behind s.heard.last) f) h.put_is
          ∙ (ap (λ (n : ℕ). arrivals 0 None frames ++ arrived n (reign_behind s.heard.last) f) h.at
          ∙ (ap (λ (o : Option Reign). arrivals 0 None frames ++ arrived (offset_after 0 frames) o f) (sym h.told)
          ∙ sym (arrivals_push 0 None frames f (omega arith))));
      told = told_push None frames f ∙ told_fits s.purpose s.heard now f fits;
      at = at ∙ (ap (λ (n : ℕ). min (n + length (spelled_frame f)) (2 ^ 64 - 1)) h.at ∙ offset_push frames f);
      tail = subst (λ (l : List Frame). HasTail s.incoming.bad s.incoming.reading (offset_after 0 l) h.rest s.incoming.fresh) all h.tail;
    }

pub hearing_on : (begun : Heard) (a b : Listening) (f : Frame) (received : List ℕ) (put now : List Arrival) (frames : List Frame)
    → HasHeard f a b → HasPut f a b put now → IsHearing begun a received put frames → IsHearing begun b received now (frames ++ f ∷ [])
hearing_on begun a b f received put now frames one into h =
    let there = heard_one begun a b.heard b.offset f b.incoming.waiting received put frames one.waiting one.fits into.1 h in
    subst (λ (s : Listening). IsHearing begun s received now (frames ++ f ∷ [])) (sym one.after)
    (subst (λ (l : List Arrival). IsHearing begun (record a { heard = b.heard; offset = b.offset; incoming = record a.incoming { waiting = b.incoming.waiting } }) received l (frames ++ f ∷ [])) (sym into.0) there)

may_of_fits : (p : Purpose) (h now : Heard) (f : Frame) → Fits p h f now → MayCome h f
may_of_fits p h now (Hello version name history) x = x
may_of_fits p h now (Resume n) x = (x.0, x.1)
may_of_fits p h now (RollbackFirst n) x = (x.0, x.2)
may_of_fits p h now (History r) x = (x.0, x.1)
may_of_fits p h now (Entry n t) x = (x.0, x.1)
may_of_fits p h now (Bye n) x = (x.0, x.1)

-- a frame that waited doesn't fit
pub unfit_one : (begun : Heard) (s : Listening) (f : Frame) (waiting : List Frame) (received : List ℕ) (put : List Arrival) (frames : List Frame)
    → s.incoming.waiting ≡ f ∷ waiting → (MayCome s.heard f → ⊥) → IsHearing begun s received put frames → IsUnfitBehind s.purpose begun frames received false s.offset
unfit_one begun s f waiting received put frames is never h =
    let all : AllByRecursion IsFrame (frames ++ f ∷ waiting) = subst (λ (l : List Frame). AllByRecursion IsFrame (frames ++ l)) is h.are.each in
    let tail = h.rest ++ s.incoming.fresh in
    let whole : received ≡ stream frames ++ (stream (f ∷ waiting) ++ tail)
    = h.are.whole ∙ (ap (λ (l : List Frame). stream (frames ++ l) ++ tail) is
    ∙ (ap (λ (l : List ℕ). l ++ tail) (stream_more frames (f ∷ waiting)) ∙ append_assoc (stream frames) (stream (f ∷ waiting)) tail)) in (
      record {
        frames = frames;
        rest = stream (f ∷ waiting) ++ tail;
        now = s.heard;
        come = record { are = record { whole = whole; each = all_front frames (f ∷ waiting) all }; admitted = h.admitted };
        lacks = refused (record { frame = f; more = stream waiting ++ tail; form = (all_back frames (f ∷ waiting) all).0; is = append_assoc (spelled_frame f) (stream waiting) tail; never = λ now x. never (may_of_fits s.purpose s.heard now f x) });
        at = h.at;
      },
      refl,
    )

-- what a step tells of a frame that was heard

pub tells_hears : (a : Step) (f : Frame) (frames : List Frame) → StepTells a f → Hears (Ok a) frames (frames ++ f ∷ [])
tells_hears Received f frames t = absurd t
tells_hears (Answered answer) f frames t = ap (λ (x : Frame). frames ++ x ∷ []) t
tells_hears HeardOne f frames t = (f, t, refl)
tells_hears Waits f frames t = absurd t
tells_hears Over f frames t = absurd t
tells_hears Ended f frames t = absurd t

none_over : (f : Frame) (h : Heard) → MayCome (record h { last = ship.Over }) f → ⊥
none_over (Hello version name history) h may = may
none_over (Resume n) h may = may.0
none_over (RollbackFirst n) h may = may.0
none_over (History r) h may = may.0
none_over (Entry n t) h may = may.0
none_over (Bye n) h may = may.0

-- nothing may come behind the last frame
pub over_none : (f : Frame) (h : Heard) → h.last ≡ ship.Over → MayCome h f → ⊥
over_none f h over may = none_over f h (subst (λ (l : ship.Last). MayCome (record h { last = l }) f) over may)

-- where nothing waits, these are all the whole frames

pub alone : (frames waiting : List Frame) → waiting ≡ [] → frames ++ waiting ≡ frames
alone frames waiting none = ap (λ (l : List Frame). frames ++ l) none ∙ append-nil frames

are_alone : (begun : Heard) (s : Listening) (received : List ℕ) (put : List Arrival) (frames : List Frame) → s.incoming.waiting ≡ [] → (h : IsHearing begun s received put frames)
    → AreFrames received frames (h.rest ++ s.incoming.fresh)
are_alone begun s received put frames none h = subst (λ (l : List Frame). AreFrames received l (h.rest ++ s.incoming.fresh)) (alone frames s.incoming.waiting none) h.are

tail_bad : (begun : Heard) (s : Listening) (received : List ℕ) (put : List Arrival) (frames : List Frame) → s.incoming.bad ≡ true → (h : IsHearing begun s received put frames)
    → BeginsNone (h.rest ++ s.incoming.fresh)
tail_bad begun s received put frames bad h = subst (λ (b : Bool). HasTail b s.incoming.reading (offset_after 0 (frames ++ s.incoming.waiting)) h.rest s.incoming.fresh) bad h.tail

tail_good : (begun : Heard) (s : Listening) (received : List ℕ) (put : List Arrival) (frames : List Frame) → s.incoming.bad ≡ false → (h : IsHearing begun s received put frames)
    → (s.incoming.reading ≡ record { offset = offset_after 0 (frames ++ s.incoming.waiting); rest = h.rest }) × BeginsFrame h.rest
tail_good begun s received put frames good h = subst (λ (b : Bool). HasTail b s.incoming.reading (offset_after 0 (frames ++ s.incoming.waiting)) h.rest s.incoming.fresh) good h.tail

-- no frame begins behind the last one that was heard
pub unfit_bytes : (begun : Heard) (s : Listening) (received : List ℕ) (put : List Arrival) (frames : List Frame) → s.incoming.waiting ≡ [] → s.incoming.bad ≡ true → IsHearing begun s received put frames
    → IsUnfitBehind s.purpose begun frames received false s.offset
unfit_bytes begun s received put frames none bad h = (
  record {
    frames = frames;
    rest = h.rest ++ s.incoming.fresh;
    now = s.heard;
    come = record { are = are_alone begun s received put frames none h; admitted = h.admitted };
    lacks = begins_none (tail_bad begun s received put frames bad h);
    at = h.at;
  },
  refl,
)

some_bytes : (rest fresh : List ℕ) → 0 < length rest + length fresh → rest ++ fresh ≢ []
some_bytes [] fresh some none = let zero : length fresh ≡ 0 = ap (λ (l : List ℕ). length l) none in absurd (omega (arith, some, zero))
some_bytes (b ∷ rest) fresh some none = let zero : length (b ∷ (rest ++ fresh)) ≡ 0 = ap (λ (l : List ℕ). length l) none in absurd (omega (arith, zero))

-- bytes stand behind the last frame
pub unfit_behind : (begun : Heard) (s : Listening) (received : List ℕ) (put : List Arrival) (frames : List Frame) → s.incoming.waiting ≡ [] → s.incoming.bad ≡ false → s.heard.last ≡ ship.Over
    → 0 < length s.incoming.reading.rest + length s.incoming.fresh → IsHearing begun s received put frames → IsUnfitBehind s.purpose begun frames received false s.offset
unfit_behind begun s received put frames none good over some h =
    let tail = tail_good begun s received put frames good h in
    let same : s.incoming.reading.rest ≡ h.rest = ap (λ (r : Reading). r.rest) tail.0 in
    let more : 0 < length h.rest + length s.incoming.fresh = subst (λ (l : List ℕ). 0 < length l + length s.incoming.fresh) same some in (
      record {
        frames = frames;
        rest = h.rest ++ s.incoming.fresh;
        now = s.heard;
        come = record { are = are_alone begun s received put frames none h; admitted = h.admitted };
        lacks = behind_last (subst (λ (l : ship.Last). IsOver l) (sym over) tt) (some_bytes h.rest s.incoming.fresh more);
        at = h.at;
      },
      refl,
    )

-- bytes are received and read

are_behind : (received behind rest : List ℕ) (xs ys : List Frame) → AreFrames received xs behind → AreFrames behind ys rest → AreFrames received (xs ++ ys) rest
are_behind received behind rest xs ys a b = record {
  whole = a.whole ∙ (ap (λ (l : List ℕ). stream xs ++ l) b.whole ∙ (sym (append_assoc (stream xs) (stream ys) rest) ∙ ap (λ (l : List ℕ). l ++ rest) (sym (stream_more xs ys))));
  each = all_more xs ys a.each b.each;
}

module _ (begun : Heard) (s : Listening) (received : List ℕ) (put : List Arrival) (frames : List Frame) (none : s.incoming.waiting ≡ []) (good : s.incoming.bad ≡ false) (h : IsHearing begun s received put frames) where
  abbrev with_incoming : Incoming → Listening
  with_incoming i = record s { incoming = i }

  tail_is : (s.incoming.reading ≡ record { offset = offset_after 0 (frames ++ s.incoming.waiting); rest = h.rest }) × BeginsFrame h.rest
  tail_is = tail_good begun s received put frames good h

  kept_here : s.incoming.reading.rest ≡ h.rest
  kept_here = ap (λ (r : Reading). r.rest) tail_is.0

  at_here : s.incoming.reading.offset ≡ offset_after 0 frames
  at_here = ap (λ (r : Reading). r.offset) tail_is.0 ∙ ap (λ (l : List Frame). offset_after 0 l) (alone frames s.incoming.waiting none)

  are_here : AreFrames received frames (s.incoming.reading.rest ++ s.incoming.fresh)
  are_here = subst (λ (l : List ℕ). AreFrames received frames (l ++ s.incoming.fresh)) (sym kept_here) (are_alone begun s received put frames none h)

  pub pieced : (piece : List ℕ) → IsHearing begun (with_incoming (with_piece s.incoming piece)) (received ++ piece) put frames
  pieced piece =
      let all = frames ++ s.incoming.waiting in
      record {
        rest = h.rest;
        are = record {
          whole = ap (λ (l : List ℕ). l ++ piece) h.are.whole ∙ (append_assoc (stream all) (h.rest ++ s.incoming.fresh) piece ∙ ap (λ (l : List ℕ). stream all ++ l) (append_assoc h.rest s.incoming.fresh piece));
          each = h.are.each;
        };
        admitted = h.admitted;
        put_is = h.put_is;
        told = h.told;
        at = h.at;
        tail = subst (λ (b : Bool). HasTail b s.incoming.reading (offset_after 0 all) h.rest (s.incoming.fresh ++ piece)) (sym good) tail_is;
      }

  are_read : (i : Incoming) (list : List Frame) (rest : List ℕ) → AreFrames (s.incoming.reading.rest ++ s.incoming.fresh) list rest → i.waiting ≡ list → i.fresh ≡ [] → AreFrames received (frames ++ i.waiting) (rest ++ i.fresh)
  are_read i list rest are same read =
      let rest_is : rest ++ i.fresh ≡ rest = ap (λ (l : List ℕ). rest ++ l) read ∙ append-nil rest in
      let there = are_behind received (s.incoming.reading.rest ++ s.incoming.fresh) rest frames list are_here are in
      subst (λ (l : List ℕ). AreFrames received (frames ++ i.waiting) l) (sym rest_is) (subst (λ (l : List Frame). AreFrames received (frames ++ l) rest) (sym same) there)

  at_read : (at : ℕ) (list waiting : List Frame) → at ≡ offset_after s.incoming.reading.offset list → waiting ≡ list → at ≡ offset_after 0 (frames ++ waiting)
  at_read at list waiting is same = is ∙ (ap (λ (n : ℕ). offset_after n list) at_here ∙ (offset_more 0 frames list ∙ ap (λ (l : List Frame). offset_after 0 (frames ++ l)) (sym same)))

  none_read : (rest fresh : List ℕ) → fresh ≡ [] → BeginsNone rest → BeginsNone (rest ++ fresh)
  none_read rest fresh read none = let rest_is : rest ++ fresh ≡ rest = ap (λ (l : List ℕ). rest ++ l) read ∙ append-nil rest in subst (λ (l : List ℕ). BeginsNone l) (sym rest_is) none

  read_of : (i : Incoming) → Reads s.incoming i → i.fresh ≡ [] → IsHearing begun (with_incoming i) received put frames
  read_of i (reads_on t begins fine) read = record {
    rest = i.reading.rest;
    are = are_read i t.frames i.reading.rest t.are t.added read;
    admitted = h.admitted;
    put_is = h.put_is;
    told = h.told;
    at = h.at;
    tail = subst (λ (b : Bool). HasTail b i.reading (offset_after 0 (frames ++ i.waiting)) i.reading.rest i.fresh) (sym fine)
        ((λ k. record { offset = at_read i.reading.offset t.frames i.waiting t.at_is t.added k; rest = i.reading.rest }), begins);
  }
  read_of i (reads_none at r same bad) read = record {
    rest = r.rest;
    are = are_read i r.takes.frames r.rest r.takes.are r.takes.added read;
    admitted = h.admitted;
    put_is = h.put_is;
    told = h.told;
    at = h.at;
    tail = subst (λ (b : Bool). HasTail b i.reading (offset_after 0 (frames ++ i.waiting)) r.rest i.fresh) (sym bad) (none_read r.rest i.fresh read r.none);
  }

  pub read_on : (i : Incoming) → HasRead s.incoming i → IsHearing begun (with_incoming i) received put frames
  read_on i r = read_of i r.reads r.fresh

module _ (begun : Heard) (s : Listening) (received : List ℕ) (put : List Arrival) (frames : List Frame) (none : s.incoming.waiting ≡ []) (good : s.incoming.bad ≡ false) (h : IsHearing begun s received put frames) where
  abbrev pulled_in : (now : List ℕ) → Incoming → Type 0
  pulled_in now i = IsHearing begun (record s { incoming = i }) now put frames

  nothing_pulled : (i : Incoming) (piece now : List ℕ) → piece ≡ [] → i ≡ s.incoming → now ≡ received ++ piece → pulled_in now i
  nothing_pulled i piece now empty same is =
      let all : received ≡ now = sym (is ∙ (ap (λ (l : List ℕ). received ++ l) empty ∙ append-nil received)) in
      subst (λ (l : List ℕ). pulled_in l i) all (subst (λ (x : Incoming). pulled_in received x) (sym same) h)

  piece_read : (i : Incoming) (piece : List ℕ) → HasRead (with_piece s.incoming piece) i → pulled_in (received ++ piece) i
  piece_read i piece r = read_on begun (record s { incoming = with_piece s.incoming piece }) (received ++ piece) put frames none good (pieced begun s received put frames none good h piece) i r

  pub pulled : (answer : Result Step HearError) (i : Incoming) (piece now : List ℕ) → Pulls answer piece s.incoming i → now ≡ received ++ piece → pulled_in now i
  pulled (Ok Received) i piece now p is = subst (λ (l : List ℕ). pulled_in l i) (sym is) (piece_read i piece p.0)
  pulled (Ok (Answered answer)) i piece now p is = absurd p
  pulled (Ok HeardOne) i piece now p is = absurd p
  pulled (Ok Waits) i piece now p is = nothing_pulled i piece now p.0 p.1 is
  pulled (Ok Over) i piece now p is = absurd p
  pulled (Ok Ended) i piece now p is = nothing_pulled i piece now p.0 p.1 is
  pulled (Err Cut) i piece now p is = nothing_pulled i piece now p.0 p.1 is
  pulled (Err (BadFrame offset)) i piece now p is = absurd p
  pulled (Err NoMemory) i piece now p is = subst (λ (x : Incoming). pulled_in now x) (sym p) (subst (λ (l : List ℕ). pulled_in l (with_piece s.incoming piece)) (sym is) (pieced begun s received put frames none good h piece))

pub begins_empty : BeginsFrame []
begins_empty = (Resume 1, frame_type (Resume 1), _, resume_form, refl)

pub begins_hearing : (p : Purpose) (begun : Heard) → reign_behind begun.last ≡ None → IsHearing begun (listening p begun) [] [] []
begins_hearing p begun none = record {
  rest = [];
  are = record { whole = refl; each = tt };
  admitted = refl;
  put_is = refl;
  told = sym none;
  at = refl;
  tail = (refl, begins_empty);
}
