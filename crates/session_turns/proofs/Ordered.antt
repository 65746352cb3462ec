-- What was followed is the first of what was received, and that of what was sent, which is the primary's.
use Rattle.std.proofs.Common.{◌≡◌, ◌≢◌, ◌⊎◌, inl, inr, ℕ, ◌+◌, ◌-◌, ◌≤◌, Bool, true, false, List, [], ◌∷◌, ◌++◌, length, Option, Some, None, refl, sym, ap, subst, ◌∙◌, arith, append_assoc, append-nil, length-append, ◌==◌, ◌||◌, if◌then◌else◌}
use Rattle.std.specs.List.{AllByRecursion}
use Rattle.std.proofs.lemmas.List.{length-map}
use Rattle.global_defs.specs.Entry.{Transaction, Sequence, Reign}
use Rattle.global_defs.specs.Prefix.{IsPrefix}
use Rattle.lineage_defs.specs.Histories.{HasStamps}
use Rattle.wire_defs.specs.Frames.{Frame, Hello, Resume, RollbackFirst, History, Entry, Bye, IsFrame, frame_type, AreFrames, spelled_frame, stream}
use Rattle.repl_wire.proofs.Feeding.{stream_more}
use Rattle.ship_defs.specs.Shipping.{reign_at, announced, entry_frame, shipped, shipped_bytes, bytes_from, resumed, resumed_bytes, connection}
use Rattle.ship_defs.specs.Directions.{Admitted}
use Rattle.ship_defs.specs.Hearing as ship
use Rattle.ship_defs.specs.Hearing.{Heard, Fits, unbegun}
use Rattle.ship_defs.specs.Arrivals.{Arrival, arrivals, entries_of, HasEntries, BringsTo, IsInOrder}
use Rattle.ship_laws.proofs.Streams.{resumed_is, frames_front, carried_front, based, brought, once}
use Rattle.ship_laws.proofs.Stamped.{sent_front, connection_entries, transactions}
use Rattle.source_server.specs.Sources.{Shipping, bye_if}
use Rattle.update_process.specs.Copies.{Copy, next_of}
use Rattle.session_turns.specs.Following.{Followed, HasFit}
use Rattle.session_turns.specs.Sessions.{HasMade, AreFirst}
use Rattle.session_turns.proofs.Walk.{followed_told, entered_shipped}
use Rattle.wire_defs.proofs.Resumed.{resume_form}

-- bytes of the first entries are a front of the bytes of all
first_bytes : (reigns : List Reign) (first : Bool) (n : ℕ) (es : List (List ℕ)) (ts : List Transaction) → AreFirst n es ts → IsPrefix (shipped_bytes reigns first n es) (shipped_bytes reigns first n (bytes_from n ts))
first_bytes reigns first n [] ts are = (shipped_bytes reigns first n (bytes_from n ts), refl)
first_bytes reigns first n (e ∷ es) [] are = absurd are
first_bytes reigns first n (e ∷ es) (t ∷ ts) are =
    let later = first_bytes reigns false (n + 1) es ts are.1 in
    let head = stream (announced first n (reign_at n reigns)) in
    let tail = shipped_bytes reigns false (n + 1) es in (
      later.0,
      ap (λ (x : List ℕ). head ++ entry_frame x ++ shipped_bytes reigns false (n + 1) (bytes_from (n + 1) ts)) (sym are.0)
          ∙ (ap (λ (l : List ℕ). head ++ entry_frame e ++ l) later.1 ∙ sym (append_assoc (head ++ entry_frame e) tail later.0)),
    )

all_bytes : (n : ℕ) (es : List (List ℕ)) (ts : List Transaction) → AreFirst n es ts → length ts ≤ length es → es ≡ bytes_from n ts
all_bytes n [] [] are all = refl
all_bytes n [] (t ∷ ts) are all = absurd (omega (arith, all))
all_bytes n (e ∷ es) [] are all = absurd are
all_bytes n (e ∷ es) (t ∷ ts) are all =
    let same : es ≡ bytes_from (n + 1) ts = all_bytes (n + 1) es ts are.1 (omega (arith, all)) in
    λ i. are.0 i ∷ same i

front_of_front : (a x b y : List ℕ) → a ++ x ≡ b → IsPrefix b y → IsPrefix a y
front_of_front a x b y is p = (x ++ p.0, p.1 ∙ (ap (λ (l : List ℕ). l ++ p.0) (sym is) ∙ append_assoc a x p.0))

module _ (from size : ℕ) (s : Shipping) (sent : List ℕ) (given : List (List ℕ)) (ts : List Transaction) (made : HasMade from size s sent given) (are : AreFirst from given ts) where
  made_bytes_of : (ended : Bool) → s.ended ≡ ended → size + 1 ≡ from + length ts → IsPrefix (resumed_bytes s.reigns from given ++ bye_if ended (s.next - 1)) (stream (connection s.reigns from ts))
  made_bytes_of false is whole =
      let front = first_bytes s.reigns true from given ts are in
      let all = resumed s.reigns from ts in
      let bye = Bye (from + length ts - 1) ∷ [] in
      let head = spelled_frame (Resume from) in (
        front.0 ++ stream bye,
        stream_more all bye
            ∙ (ap (λ (l : List ℕ). l ++ stream bye) (sym (resumed_is s.reigns from ts) ∙ (ap (λ (l : List ℕ). head ++ l) front.1 ∙ sym (append_assoc head (shipped_bytes s.reigns true from given) front.0)))
            ∙ (append_assoc (resumed_bytes s.reigns from given) front.0 (stream bye) ∙ ap (λ (l : List ℕ). l ++ (front.0 ++ stream bye)) (sym (append-nil (resumed_bytes s.reigns from given))))),
      )
  made_bytes_of true is whole =
      let next = made.last is in
      let enough : length ts ≤ length given = omega (arith, next, whole, made.shipped.next) in
      let same : given ≡ bytes_from from ts = all_bytes from given ts are enough in
      let number : s.next - 1 ≡ from + length ts - 1 = omega (arith, next, whole) in
      let all = resumed s.reigns from ts in
      let bye = Bye (from + length ts - 1) in (
        [],
        stream_more all (bye ∷ [])
            ∙ (ap (λ (l : List ℕ). l ++ stream (bye ∷ [])) (sym (resumed_is s.reigns from ts) ∙ ap (resumed_bytes s.reigns from) (sym same))
            ∙ (ap (λ (l : List ℕ). resumed_bytes s.reigns from given ++ l) (append-nil (spelled_frame bye) ∙ ap (λ (n : ℕ). spelled_frame (Bye n)) (sym number))
            ∙ sym (append-nil (resumed_bytes s.reigns from given ++ spelled_frame (Bye (s.next - 1)))))),
      )

  -- what was sent is a front of the whole connection
  pub made_bytes : size + 1 ≡ from + length ts → IsPrefix sent (stream (connection s.reigns from ts))
  made_bytes whole = front_of_front sent s.pending (resumed_bytes s.reigns from given ++ bye_if s.ended (s.next - 1)) (stream (connection s.reigns from ts)) made.shipped.bytes (made_bytes_of s.ended refl whole)

-- what was followed is the first of what was received
pub followed_front : (begun c : Copy) (put : List Arrival) (received : List ℕ) (rest : List ℕ) (r : Sequence) (f : HasFit begun put) → AreFrames received f.frames rest → Followed begun put c → BringsTo begun.sequence received r
    → IsPrefix c.sequence r
followed_front begun c put received rest r f are follows brings =
    let has = brings.has in
    let gs = has.frames in
    let frames = frames_front received [] f.frames gs rest has.rest are (subst (λ (l : List ℕ). AreFrames l gs has.rest) (sym (append-nil received)) has.are) has.ends in
    let own : c.sequence ≡ begun.sequence ++ entries_of None put = (followed_told f.purpose begun c f.frames f.now put [] f.fit f.admitted (sym f.arrive ∙ sym (append-nil put)) follows).1 in
    let is : c.sequence ≡ begun.sequence ++ entries_of None (arrivals 0 None f.frames) = own ∙ ap (λ (l : List Arrival). begun.sequence ++ entries_of None l) f.arrive in
    let front = based begun.sequence (entries_of None (arrivals 0 None f.frames)) (entries_of None (arrivals 0 None gs)) (carried_front f.frames gs frames) in
    let all : r ≡ begun.sequence ++ entries_of None (arrivals 0 None gs) = brings.is ∙ ap (λ (l : Sequence). begun.sequence ++ l) has.is in
    subst (λ (l : Sequence). IsPrefix l r) (sym is) (subst (λ (l : Sequence). IsPrefix (begun.sequence ++ entries_of None (arrivals 0 None f.frames)) l) (sym all) front)

pub followed_kept : (begun c : Copy) (put : List Arrival) (f : HasFit begun put) → Followed begun put c → IsPrefix begun.sequence c.sequence
followed_kept begun c put f follows =
    let own = (followed_told f.purpose begun c f.frames f.now put [] f.fit f.admitted (sym f.arrive ∙ sym (append-nil put)) follows).1 in
    (entries_of None put, own)

pub in_order : (begun c : Copy) (put : List Arrival) (f : HasFit begun put) (s : Shipping) (part : Sequence) (size : ℕ) (sent received rest : List ℕ) (given : List (List ℕ)) (r q : Sequence)
    → HasMade (next_of begun) size s sent given → AreFirst (next_of begun) given (transactions part) → size ≡ length (begun.sequence ++ part) → HasStamps s.reigns (begun.sequence ++ part)
    → AllByRecursion IsFrame (connection s.reigns (next_of begun) (transactions part)) → IsPrefix received sent → AreFrames received f.frames rest → Followed begun put c
    → BringsTo begun.sequence received r → BringsTo begun.sequence sent q → IsInOrder begun.sequence c.sequence r q (begun.sequence ++ part)
in_order begun c put f s part size sent received rest given r q made first whole stamps each carried are follows brings_r brings_q =
    let count : size + 1 ≡ next_of begun + length (transactions part) = omega (arith, whole, length-append begun.sequence part, length-map part (λ e. e.transaction)) in
    record {
      kept = followed_kept begun c put f follows;
      prefixes = record {
        applied = followed_front begun c put received rest r f are follows brings_r;
        arrived = brought begun.sequence r q received sent carried brings_r brings_q;
        durable = sent_front s.reigns begun.sequence part q sent stamps each (made_bytes (next_of begun) size s sent given (transactions part) made first count) brings_q;
      };
    }

-- frames behind which more may come
abbrev Goes : Frame → Type 0
Goes (Hello version name history) = Unit {0}
Goes (Resume n) = Unit {0}
Goes (RollbackFirst n) = ⊥
Goes (History r) = Unit {0}
Goes (Entry n t) = Unit {0}
Goes (Bye n) = ⊥

all_both : (xs ys : List Frame) → AllByRecursion Goes xs → AllByRecursion Goes ys → AllByRecursion Goes (xs ++ ys)
all_both [] ys a b = b
all_both (x ∷ xs) ys a b = (a.0, all_both xs ys a.1 b)

all_first : (xs ys : List Frame) → AllByRecursion Goes (xs ++ ys) → AllByRecursion Goes xs
all_first [] ys a = tt
all_first (x ∷ xs) ys a = (a.0, all_first xs ys a.1)

announced_goes_if : (r : Reign) (b : Bool) → AllByRecursion Goes (if b then History r ∷ [] else [])
announced_goes_if r true = (tt, tt)
announced_goes_if r false = tt

announced_goes : (first : Bool) (n : ℕ) (o : Option Reign) → AllByRecursion Goes (announced first n o)
announced_goes first n None = tt
announced_goes first n (Some r) = announced_goes_if r (first || r.start == n)

shipped_goes : (reigns : List Reign) (first : Bool) (n : ℕ) (ts : List Transaction) → AllByRecursion Goes (shipped reigns first n ts)
shipped_goes reigns first n [] = tt
shipped_goes reigns first n (t ∷ ts) =
    all_both (announced first n (reign_at n reigns)) (Entry n t ∷ shipped reigns false (n + 1) ts) (announced_goes first n (reign_at n reigns)) (tt, shipped_goes reigns false (n + 1) ts)

split_last : (fs xs : List Frame) (y : Frame) → IsPrefix fs (xs ++ y ∷ []) → IsPrefix fs xs ⊎ (fs ≡ xs ++ y ∷ [])
split_last [] xs y p = inl (xs, refl)
split_last (f ∷ []) [] y p = let is : y ∷ [] ≡ f ∷ p.0 = p.1 in let same : f ≡ y = cc in inr (ap (λ (x : Frame). x ∷ []) same)
split_last (f ∷ g ∷ fs) [] y p = absurd (let is : y ∷ [] ≡ f ∷ g ∷ (fs ++ p.0) = p.1 in let size = ap length is in omega (arith, size))
split_last (f ∷ fs) (x ∷ xs) y p =
    let is : x ∷ (xs ++ y ∷ []) ≡ f ∷ (fs ++ p.0) = p.1 in
    let same : f ≡ x = cc in
    let later : xs ++ y ∷ [] ≡ fs ++ p.0 = cc in
    elim (split_last fs xs y (p.0, later)) [
      | inl front ↦ inl (front.0, λ i. sym same i ∷ front.1 i)
      | inr all ↦ inr (λ i. same i ∷ all i)
    ]

-- behind such frames a connection isn't over
going_on : (h now : Heard) (fs : List Frame) → AllByRecursion Goes fs → h.last ≢ ship.Over → Admitted (Fits ship.Ships) h fs now → now.last ≢ ship.Over
going_on h now [] goes on admitted = λ e. on (sym (ap (λ (y : Heard). y.last) admitted) ∙ e)
going_on h now (Hello version name history ∷ fs) goes on admitted = absurd admitted.1
going_on h now (Resume n ∷ fs) goes on admitted = going_on admitted.0 now fs goes.1 (λ e. absurd (let is : ship.Resumed ≡ ship.Over = sym (ap (λ (y : Heard). y.last) admitted.1.2) ∙ e in cc)) admitted.2
going_on h now (RollbackFirst n ∷ fs) goes on admitted = absurd goes.0
going_on h now (History r ∷ fs) goes on admitted = going_on admitted.0 now fs goes.1 (λ e. absurd (let is : ship.Reigning r ≡ ship.Over = sym (ap (λ (y : Heard). y.last) admitted.1.2) ∙ e in cc)) admitted.2
going_on h now (Entry n t ∷ fs) goes on admitted =
    going_on admitted.0 now fs goes.1 (λ e. absurd (let is : ship.Shipped ≡ ship.Over = sym (entered_shipped h h.last) ∙ (sym (ap (λ (y : Heard). y.last) admitted.1.2) ∙ e) in cc)) admitted.2
going_on h now (Bye n ∷ fs) goes on admitted = absurd goes.0

-- what a primary sends has the entries of its part, behind as many as a secondary has
pub entries_behind : (begun : Copy) (base part : Sequence) (reigns : List Reign) → length base ≡ length begun.sequence → HasStamps reigns (base ++ part)
    → AllByRecursion IsFrame (connection reigns (next_of begun) (transactions part)) → HasEntries (stream (connection reigns (next_of begun) (transactions part))) part
entries_behind begun base part reigns same stamps each =
    subst (λ (n : ℕ). HasEntries (stream (connection reigns (n + 1) (transactions part))) part) same
    (connection_entries reigns base part stamps (subst (λ (n : ℕ). AllByRecursion IsFrame (connection reigns (n + 1) (transactions part))) (sym same) each))

-- behind a BYE a secondary has, behind what it had, what the primary has behind as much
pub all_behind : (begun c : Copy) (base : Sequence) (put : List Arrival) (f : HasFit begun put) (s : Shipping) (part : Sequence) (size : ℕ) (sent received rest : List ℕ) (given : List (List ℕ)) → length base ≡ length begun.sequence
    → HasMade (next_of begun) size s sent given → AreFirst (next_of begun) given (transactions part) → size ≡ length (base ++ part) → HasStamps s.reigns (base ++ part)
    → AllByRecursion IsFrame (connection s.reigns (next_of begun) (transactions part)) → IsPrefix received sent → AreFrames received f.frames rest → Followed begun put c
    → f.purpose ≡ ship.Ships → f.now.last ≡ ship.Over → c.sequence ≡ begun.sequence ++ part
all_behind begun c base put f s part size sent received rest given same made first whole stamps each carried are follows ships over =
    let next = next_of begun in
    let ts = transactions part in
    let fs = connection s.reigns next ts in
    let count : size + 1 ≡ next + length ts = omega (arith, whole, same, length-append base part, length-map part (λ e. e.transaction)) in
    let front = made_bytes next size s sent given ts made first count in
    let more = carried.0 ++ front.0 in
    let is : stream fs ≡ received ++ more = front.1 ∙ (ap (λ (l : List ℕ). l ++ front.0) carried.1 ∙ append_assoc received carried.0 front.0) in
    let all : AreFrames (received ++ more) fs [] = record { whole = sym is ∙ sym (append-nil (stream fs)); each = each } in
    let frames = frames_front received more f.frames fs rest [] are all (inl (Resume 1, frame_type (Resume 1), _, resume_form, refl)) in
    let has_own : HasEntries (stream fs) (entries_of None (arrivals 0 None fs))
    = record { frames = fs; rest = []; are = record { whole = sym (append-nil (stream fs)); each = each }; ends = inl (Resume 1, frame_type (Resume 1), _, resume_form, refl); is = refl } in
    let own : c.sequence ≡ begun.sequence ++ entries_of None put = (followed_told f.purpose begun c f.frames f.now put [] f.fit f.admitted (sym f.arrive ∙ sym (append-nil put)) follows).1 in
    let admitted : Admitted (Fits ship.Ships) (unbegun (record { length = length begun.sequence; reigns = begun.reigns })) f.frames f.now = subst (λ (p : ship.Purpose). Admitted (Fits p) (unbegun (record { length = length begun.sequence; reigns = begun.reigns })) f.frames f.now) ships f.admitted in
    elim (split_last f.frames (resumed s.reigns next ts) (Bye (next + length ts - 1)) frames) [
      | inl some ↦ absurd (going_on (unbegun (record { length = length begun.sequence; reigns = begun.reigns })) f.now f.frames
          (all_first f.frames some.0 (subst (λ (l : List Frame). AllByRecursion Goes l) some.1 (tt, shipped_goes s.reigns true next ts))) (λ e. cc) admitted over)
      | inr whole_one ↦ own ∙ ap (λ (l : Sequence). begun.sequence ++ l) (ap (entries_of None) f.arrive ∙ (ap (λ (l : List Frame). entries_of None (arrivals 0 None l)) whole_one ∙ once (stream fs) (entries_of None (arrivals 0 None fs)) part has_own (entries_behind begun base part s.reigns same stamps each)))
    ]

pub all_followed : (begun c : Copy) (put : List Arrival) (f : HasFit begun put) (s : Shipping) (part : Sequence) (size : ℕ) (sent received rest : List ℕ) (given : List (List ℕ))
    → HasMade (next_of begun) size s sent given → AreFirst (next_of begun) given (transactions part) → size ≡ length (begun.sequence ++ part) → HasStamps s.reigns (begun.sequence ++ part)
    → AllByRecursion IsFrame (connection s.reigns (next_of begun) (transactions part)) → IsPrefix received sent → AreFrames received f.frames rest → Followed begun put c
    → f.purpose ≡ ship.Ships → f.now.last ≡ ship.Over → c.sequence ≡ begun.sequence ++ part
all_followed begun c put f s part size sent received rest given made first whole stamps each carried are follows ships over =
    all_behind begun c begun.sequence put f s part size sent received rest given refl made first whole stamps each carried are follows ships over
