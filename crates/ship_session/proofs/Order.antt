-- Over links that tell their bytes: what a secondary's site has is the first of its primary's sequence.
use Rattle.std.proofs.Common.{◌≡◌, inl, ℕ, suc, ◌+◌, ◌-◌, ◌≤◌, true, List, [], ◌∷◌, ◌++◌, length, take, drop, Option, Some, None, refl, sym, ap, subst, ◌∙◌, arith, append_assoc, append-nil, length-append}
use Rattle.std.specs.Option.{option_or}
use Rattle.std.specs.List.{AllByRecursion}
use Rattle.std.proofs.Math.Seq.{drop-append_seam, take-append_seam, take-add}
use Rattle.std.proofs.lemmas.List.{length-map, length-drop, length-take-le, drop-drop, take-append-drop, append_cancel_left}
use Rattle.global_defs.specs.Entry.{Sequence, Reign}
use Rattle.global_defs.specs.Prefix as prefix
use Rattle.global_defs.specs.Prefix.{IsPrefix}
use Rattle.global_defs.specs.Rising.{StartsRise}
use Rattle.lineage_defs.specs.Histories.{HasStamps, begun_within}
use Rattle.wire_defs.specs.Frames.{Resume, Bye, IsFrame, frame_type, AreFrames, stream, offset_after}
use Rattle.ship_defs.specs.Hearing.{unbegun}
use Rattle.ship_defs.specs.Shipping.{shipped, connection}
use Rattle.ship_defs.specs.Arrivals.{Arrival, arrivals, entry_under, entries_of, HasEntries}
use Rattle.ship_laws.proofs.Streams.{frames_front, arrivals_more, carried_front, entries_more, based, once}
use Rattle.ship_laws.proofs.Stamped.{transactions}
use Rattle.source_server.specs.Sources.{Shipping, AllFrom}
use Rattle.update_process.specs.Copies.{Copy, history_of, next_of}
use Rattle.session_turns.specs.Following.{HasFit, gained}
use Rattle.session_turns.specs.Sessions.{HasGiven, AreFirst}
use Rattle.session_turns.proofs.Ordered.{made_bytes, entries_behind, all_behind}
use Rattle.session_turns.proofs.Gains.{HasReign, first_told, gained_front, within_same, within_on}
use Rattle.ship_session.specs.Ends.{IsEntryOf, Gives, HasJoined, HasGot, HasGrown, HasAppliedAll}
use Rattle.wire_defs.proofs.Resumed.{resume_form}

pub onward : {X : Type 0} (a b c : List X) → IsPrefix a b → IsPrefix b c → IsPrefix a c
onward {X} a b c p q = (p.0 ++ q.0, q.1 ∙ (ap (λ (l : List X). l ++ q.0) p.1 ∙ append_assoc a p.0 q.0))

pub prefix_same : {X : Type 0} (a : List X) → IsPrefix a a
prefix_same a = ([], sym (append-nil a))

-- a source that shows less gives the sequence too
pub gives_before : (Is Later : ℕ → List ℕ → Type 0) (theirs : prefix.History) (all : Sequence) → ((n : ℕ) (entry : List ℕ) → Is n entry → Later n entry) → Gives Later theirs all → Gives Is theirs all
gives_before Is Later theirs all kept g = record { size = g.size; stamps = g.stamps; form = g.form; shown = λ n entry x. g.shown n entry (kept n entry x) }

-- what was given are the first entries behind a base

here : (all base part : Sequence) (n : ℕ) → all ≡ base ++ part → n ≡ length base + 1 → drop (n - 1) all ≡ part
here all base part n is at =
    let place : n - 1 ≡ length base = omega (arith, at) in
    ap (λ (k : ℕ). drop k all) place ∙ (ap (λ (l : Sequence). drop (length base) l) is ∙ drop-append_seam base part)

first_given : (Is : ℕ → List ℕ → Type 0) (all base part : Sequence) (n : ℕ) (given : List (List ℕ)) → ((k : ℕ) (entry : List ℕ) → Is k entry → IsEntryOf all k entry) → all ≡ base ++ part → n ≡ length base + 1
    → AllFrom Is n given → AreFirst n given (transactions part)
first_given Is all base part n [] shown is at from = tt
first_given Is all base [] n (e ∷ es) shown is at from = absurd (subst (λ (l : Sequence). AreFirst n (e ∷ []) (transactions l)) (here all base [] n is at) (shown n e from.0).1)
first_given Is all base (x ∷ part) n (e ∷ es) shown is at from =
    let one = subst (λ (l : Sequence). AreFirst n (e ∷ []) (transactions l)) (here all base (x ∷ part) n is at) (shown n e from.0).1 in
    let size = length-append base (x ∷ []) in
    (one.0, first_given Is all (base ++ x ∷ []) part (n + 1) es shown (is ∙ sym (append_assoc base (x ∷ []) part)) (omega (arith, size, at)) from.1)

-- as many entries as arrivals, where the first comes behind a HISTORY

under_one : (r : Reign) (o : Option Reign) → (q : Reign) × (option_or o (Some r) ≡ Some q)
under_one r None = (r, refl)
under_one r (Some q) = (q, refl)

under_size : (r : Reign) (xs : List Arrival) → length (entries_of (Some r) xs) ≡ length xs
under_size r [] = refl
under_size r (x ∷ xs) =
    let q = under_one r x.reign in
    ap (λ (o : Option Reign). length (entry_under o x ++ entries_of o xs)) q.1 ∙ ap (λ (n : ℕ). suc n) (under_size q.0 xs)

first_size : (xs : List Arrival) (x : Arrival) → HasReign x.reign → length (entries_of None (x ∷ xs)) ≡ length (x ∷ xs)
first_size xs x some = ap (λ (o : Option Reign). length (entry_under (option_or o None) x ++ entries_of (option_or o None) xs)) some.1 ∙ ap (λ (n : ℕ). suc n) (under_size some.0 xs)

front_size : (begun : Copy) (front back : List Arrival) → HasFit begun (front ++ back) → length (entries_of None front) ≡ length front
front_size begun [] back f = refl
front_size begun (x ∷ xs) back f = first_size xs x (first_told f.purpose f.frames 0 (unbegun (history_of begun)) f.now x (xs ++ back) f.admitted (λ e. cc) (sym f.arrive))

-- What came over a connection, by the primary's sequence. It has a base as long as what the secondary had, and a part behind that.
module _ (Is : ℕ → List ℕ → Type 0) (theirs : prefix.History) (all base part : Sequence) (begun now : Copy) (s : Shipping) (sent received unread : List ℕ)
    (gives : Gives Is theirs all) (whole_is : all ≡ base ++ part) (as_long : length base ≡ length begun.sequence)
    (reigns : s.reigns ≡ theirs.reigns) (given : HasGiven Is (next_of begun) theirs.length s sent) (carried : received ++ unread ≡ sent) where
  first : AreFirst (next_of begun) given.entries (transactions part)
  first = first_given Is all base part (next_of begun) given.entries gives.shown whole_is (ap (λ (n : ℕ). n + 1) (sym as_long)) given.given

  stamps : HasStamps s.reigns (base ++ part)
  stamps = subst (λ (rs : List Reign). HasStamps rs (base ++ part)) (sym reigns) (subst (λ (l : Sequence). HasStamps theirs.reigns l) whole_is gives.stamps)

  each : AllByRecursion IsFrame (connection s.reigns (next_of begun) (transactions part))
  each =
      subst (λ (rs : List Reign). AllByRecursion IsFrame (connection rs (next_of begun) (transactions part))) (sym reigns)
      (subst (λ (n : ℕ). AllByRecursion IsFrame (connection theirs.reigns (n + 1) (transactions part))) as_long (gives.form base part whole_is))

  size : theirs.length ≡ length (base ++ part)
  size = gives.size ∙ ap (λ (l : Sequence). length l) whole_is

  came : IsPrefix received sent
  came = (unread, sym carried)

  module _ (put : List Arrival) (got : HasGot begun received put) where
    -- the frames that came are the first of those of a whole connection
    frames_are : IsPrefix got.fit.frames (connection s.reigns (next_of begun) (transactions part))
    frames_are =
        let next = next_of begun in
        let ts = transactions part in
        let fs = connection s.reigns next ts in
        let sizes = length-append base part in
        let many = length-map part (λ e. e.transaction) in
        let count : theirs.length + 1 ≡ next + length ts = omega (arith, size, sizes, many, as_long) in
        let front = made_bytes next theirs.length s sent given.entries ts given.made first count in
        let more = unread ++ front.0 in
        let is : stream fs ≡ received ++ more = front.1 ∙ (ap (λ (l : List ℕ). l ++ front.0) (sym carried) ∙ append_assoc received unread front.0) in
        let whole : AreFrames (received ++ more) fs [] = record { whole = sym is ∙ sym (append-nil (stream fs)); each = each } in
        frames_front received more got.fit.frames fs got.rest [] got.are whole (inl (Resume 1, frame_type (Resume 1), _, resume_form, refl))

    received_is : IsPrefix (begun.sequence ++ entries_of None put) (begun.sequence ++ part)
    received_is =
        let fs = connection s.reigns (next_of begun) (transactions part) in
        let f = got.fit in
        let has_own : HasEntries (stream fs) (entries_of None (arrivals 0 None fs))
        = record { frames = fs; rest = []; are = record { whole = sym (append-nil (stream fs)); each = each }; ends = inl (Resume 1, frame_type (Resume 1), _, resume_form, refl); is = refl } in
        let own : entries_of None (arrivals 0 None fs) ≡ part = once (stream fs) (entries_of None (arrivals 0 None fs)) part has_own (entries_behind begun base part s.reigns as_long stamps each) in
        let front_is = based begun.sequence (entries_of None (arrivals 0 None f.frames)) (entries_of None (arrivals 0 None fs)) (carried_front f.frames fs frames_are) in
        let at_put = subst (λ (l : List Arrival). IsPrefix (begun.sequence ++ entries_of None l) (begun.sequence ++ entries_of None (arrivals 0 None fs))) (sym f.arrive) front_is in
        subst (λ (l : Sequence). IsPrefix (begun.sequence ++ entries_of None put) (begun.sequence ++ l)) own at_put

  pub in_part : HasGrown begun received now → IsPrefix now.sequence (begun.sequence ++ part)
  in_part g =
      let own = based begun.sequence (entries_of None g.front) (entries_of None (g.front ++ g.back)) (entries_more None g.front g.back) in
      let here : IsPrefix now.sequence (begun.sequence ++ entries_of None (g.front ++ g.back)) = subst (λ (l : Sequence). IsPrefix l (begun.sequence ++ entries_of None (g.front ++ g.back))) (sym g.sequence) own in
      onward now.sequence (begun.sequence ++ entries_of None (g.front ++ g.back)) (begun.sequence ++ part) here (received_is (g.front ++ g.back) g.got)

  pub all_part : HasAppliedAll begun received now → now.sequence ≡ begun.sequence ++ part
  all_part a =
      let got = a.applied.got in
      all_behind begun now base a.applied.put got.fit s part theirs.length sent received got.rest given.entries as_long given.made first size stamps each came got.are a.applied.follows got.ships a.over

  -- the reigns that the site has gained are the primary's
  gained_are : (rise : StartsRise 0 theirs.reigns) (g : HasGrown begun received now) → gained (next_of begun) g.front ≡ begun_within (length begun.sequence) (length begun.sequence + length g.front) theirs.reigns
  gained_are rise g =
      let k = length begun.sequence in
      let f = g.got.fit in
      let ts = transactions part in
      let next : next_of begun ≡ suc k = omega arith in
      let bye = next_of begun + length ts - 1 in
      let fs = shipped s.reigns true (next_of begun) ts ++ Bye bye ∷ [] in
      let behind = offset_after 0 (Resume (next_of begun) ∷ []) in
      let frames = frames_are (g.front ++ g.back) g.got in
      let more = arrivals_more 0 None f.frames frames.0 in
      let all_of : arrivals behind None fs ≡ (g.front ++ g.back) ++ more.0
      = ap (arrivals 0 None) frames.1 ∙ (more.1 ∙ ap (λ (l : List Arrival). l ++ more.0) (sym f.arrive)) in
      let front : IsPrefix g.front (arrivals behind None fs) = (g.back ++ more.0, all_of ∙ append_assoc g.front g.back more.0) in
      let here : IsPrefix g.front (arrivals behind None (shipped theirs.reigns true (suc k) ts ++ Bye bye ∷ []))
      = subst (λ (rs : List Reign). IsPrefix g.front (arrivals behind None (shipped rs true (suc k) ts ++ Bye bye ∷ []))) reigns
      (subst (λ (n : ℕ). IsPrefix g.front (arrivals behind None (shipped s.reigns true n ts ++ Bye bye ∷ []))) next front) in
      ap (λ (n : ℕ). gained n g.front) next ∙ gained_front theirs.reigns rise bye ts true k behind g.front here

  pub joined_so : StartsRise 0 theirs.reigns → HasGrown begun received now → HasJoined theirs all begun now
  joined_so rise g =
      let p = in_part g in
      let entries = entries_of None g.front in
      let own : entries ++ p.0 ≡ part = append_cancel_left begun.sequence (entries ++ p.0) part (sym (append_assoc begun.sequence entries p.0) ∙ (ap (λ (l : Sequence). l ++ p.0) (sym g.sequence) ∙ sym p.1)) in
      let rest : drop (length begun.sequence) all ≡ part
      = ap (λ (n : ℕ). drop n all) (sym as_long) ∙ (ap (λ (l : Sequence). drop (length base) l) whole_is ∙ drop-append_seam base part) in
      let count = front_size begun g.front g.back g.got.fit in
      let took : take (length g.front) (drop (length begun.sequence) all) ≡ entries
      = ap (λ (n : ℕ). take n (drop (length begun.sequence) all)) (sym count) ∙ (ap (λ (l : Sequence). take (length entries) l) (rest ∙ sym own) ∙ take-append_seam entries p.0) in
      let sizes = ap (λ (l : Sequence). length l) (rest ∙ sym own) in
      let parts = length-append entries p.0 in
      record {
        count = length g.front;
        few = omega (arith, sizes, parts, count);
        sequence = g.sequence ∙ ap (λ (l : Sequence). begun.sequence ++ l) (sym took);
        reigns = g.reigns ∙ ap (λ (l : List Reign). begun.reigns ++ l) (gained_are rise g);
      }

module _ (Is : ℕ → List ℕ → Type 0) (theirs : prefix.History) (all : Sequence) (begun now : Copy) (s : Shipping) (sent received unread : List ℕ)
    (gives : Gives Is theirs all) (base : IsPrefix begun.sequence all) (reigns : s.reigns ≡ theirs.reigns) (given : HasGiven Is (next_of begun) theirs.length s sent) (carried : received ++ unread ≡ sent) where
  pub in_all : HasGrown begun received now → IsPrefix now.sequence all
  in_all g = subst (λ (l : Sequence). IsPrefix now.sequence l) (sym base.1) (in_part Is theirs all begun.sequence base.0 begun now s sent received unread gives base.1 refl reigns given carried g)

  pub all_at : HasAppliedAll begun received now → now.sequence ≡ all
  all_at a = all_part Is theirs all begun.sequence base.0 begun now s sent received unread gives base.1 refl reigns given carried a ∙ sym base.1

-- the same where the secondary has no more than the primary
module _ (Is : ℕ → List ℕ → Type 0) (theirs : prefix.History) (all : Sequence) (begun now : Copy) (s : Shipping) (sent received unread : List ℕ)
    (gives : Gives Is theirs all) (rise : StartsRise 0 theirs.reigns) (fits : length begun.sequence ≤ length all)
    (reigns : s.reigns ≡ theirs.reigns) (given : HasGiven Is (next_of begun) theirs.length s sent) (carried : received ++ unread ≡ sent) where
  split_at : all ≡ take (length begun.sequence) all ++ drop (length begun.sequence) all
  split_at = sym (take-append-drop (length begun.sequence) all)

  base_size : length (take (length begun.sequence) all) ≡ length begun.sequence
  base_size = length-take-le (length begun.sequence) all fits

  pub joined_at : HasGrown begun received now → HasJoined theirs all begun now
  joined_at g = joined_so Is theirs all (take (length begun.sequence) all) (drop (length begun.sequence) all) begun now s sent received unread gives split_at base_size reigns given carried rise g

  pub joined_all : HasGrown begun received now → HasAppliedAll begun received now → (j : HasJoined theirs all begun now) × (j.count ≡ length (drop (length begun.sequence) all))
  joined_all g a =
      let j = joined_at g in
      let rest = drop (length begun.sequence) all in
      let whole = all_part Is theirs all (take (length begun.sequence) all) rest begun now s sent received unread gives split_at base_size reigns given carried a in
      let same : take j.count rest ≡ rest = append_cancel_left begun.sequence (take j.count rest) rest (sym j.sequence ∙ whole) in
      (j, sym (length-take-le j.count rest j.few) ∙ ap (λ (l : Sequence). length l) same)

-- nothing more was taken
pub joined_none : (theirs : prefix.History) (all : Sequence) (c : Copy) → HasJoined theirs all c c
joined_none theirs all c = record {
  count = 0;
  few = omega arith;
  sequence = sym (append-nil c.sequence);
  reigns = sym (append-nil c.reigns) ∙ ap (λ (l : List Reign). c.reigns ++ l) (sym (ap (λ (n : ℕ). begun_within (length c.sequence) n theirs.reigns) (let zero : length c.sequence + 0 ≡ length c.sequence = omega arith in zero) ∙ within_same (length c.sequence) theirs.reigns));
}

-- over one connection after another
module _ (theirs : prefix.History) (all : Sequence) (rise : StartsRise 0 theirs.reigns) (a b c : Copy) (x : HasJoined theirs all a b) (y : HasJoined theirs all b c) where
  length_is : length b.sequence ≡ length a.sequence + x.count
  length_is = ap (λ (l : Sequence). length l) x.sequence ∙ (length-append a.sequence (take x.count (drop (length a.sequence) all)) ∙ ap (λ (k : ℕ). length a.sequence + k) (length-take-le x.count (drop (length a.sequence) all) x.few))

  behind_is : drop (length b.sequence) all ≡ drop x.count (drop (length a.sequence) all)
  behind_is = ap (λ (k : ℕ). drop k all) length_is ∙ sym (drop-drop x.count (length a.sequence) all)

  left_is : length (drop (length b.sequence) all) ≡ length (drop (length a.sequence) all) - x.count
  left_is = ap (λ (l : Sequence). length l) behind_is ∙ length-drop x.count (drop (length a.sequence) all)

  pub joined_on : HasJoined theirs all a c
  joined_on =
      let few = x.few in
      let more = y.few in
      let left = left_is in
      let rest = drop (length a.sequence) all in
      let end : length b.sequence + y.count ≡ length a.sequence + (x.count + y.count) = (let e = length_is in omega (arith, e)) in
      record {
        count = x.count + y.count;
        few = omega (arith, few, more, left);
        sequence = y.sequence ∙ (ap (λ (l : Sequence). l ++ take y.count (drop (length b.sequence) all)) x.sequence
            ∙ (append_assoc a.sequence (take x.count rest) (take y.count (drop (length b.sequence) all))
            ∙ ap (λ (l : Sequence). a.sequence ++ l) (ap (λ (l : Sequence). take x.count rest ++ take y.count l) behind_is ∙ sym (take-add x.count y.count rest))));
        reigns = y.reigns ∙ (ap (λ (l : List Reign). l ++ begun_within (length b.sequence) (length b.sequence + y.count) theirs.reigns) x.reigns
            ∙ (append_assoc a.reigns (begun_within (length a.sequence) (length a.sequence + x.count) theirs.reigns) (begun_within (length b.sequence) (length b.sequence + y.count) theirs.reigns)
            ∙ ap (λ (l : List Reign). a.reigns ++ l)
            (ap (λ (k : ℕ). begun_within (length a.sequence) (length a.sequence + x.count) theirs.reigns ++ begun_within k (length b.sequence + y.count) theirs.reigns) length_is
            ∙ (within_on (length a.sequence) (length a.sequence + x.count) (length b.sequence + y.count) 0 theirs.reigns rise (omega arith) (omega (arith, length_is))
            ∙ ap (λ (k : ℕ). begun_within (length a.sequence) k theirs.reigns) end))));
      }

  -- all that was left is all of it
  pub joined_whole : y.count ≡ length (drop (length b.sequence) all) → joined_on.count ≡ length (drop (length a.sequence) all)
  unfolding joined_on
  joined_whole whole = let few = x.few in let left = left_is in let is : x.count + y.count ≡ length (drop (length a.sequence) all) = omega (arith, few, left, whole) in is
