-- Each event is a step that keeps a world fit.
use Rattle.std.proofs.Common.{◌≡◌, inl, inr, ℕ, suc, ◌+◌, ◌<◌, ◌≤◌, List, [], ◌∷◌, ◌++◌, length, take, replicate, Some, slice_get, refl, sym, ◌∙◌, ap, subst, arith, length-append, length-take-le}
use Rattle.global_defs.specs.declared.limits.TheConstants.{MOST_REIGNS, MOST_UPDATERS}
use Rattle.global_defs.specs.Entry.{Update, Stamp, Entry, Sequence, Reign}
use Rattle.global_defs.specs.Serial.{entry_of, serial_at}
use Rattle.global_defs.specs.Prefix.{IsPrefix}
use Rattle.global_defs.specs.Rising.{StartsRise, begun_by}
use Rattle.global_defs.specs.Beside.{At}
use Rattle.lineage_defs.specs.Histories.{StampsChange, IsHistory}
use Rattle.lineage_defs.specs.Sites.{Down, Primary, Following, Waiting, Site, World, hardened_part}
use Rattle.lineage_defs.specs.Events.{Event, Decide, Harden, Send, Receive, Apply, Cut, Crash, Begin, Follow, Roll, Same, Keeps, picked_once, Decides, Hardens, Sends, Receives, reign_from, Adopts, Applies, resumed, set_back, IsCut, IfFollowing, IsLeft, drawn, Begins, Follows, Happens, Reaches}
use Rattle.lineage_defs.specs.Lineage.{HasPrimary, IsFitSite, IsFit}
use Rattle.resync_core.proofs.Fronts as lists
use Rattle.resync_core.proofs.Places as places
use Rattle.resync_core.proofs.Places.{Either}
use Rattle.resync_core.proofs.Moves as moves
use Rattle.resync_core.proofs.Moves.{IsFront, Move, Moves}
use Rattle.resync_core.proofs.Facts as facts
use Rattle.resync_core.proofs.Followers as followers
use Rattle.resync_core.proofs.BegunReigns.{begun-begun, begun-push_late, length-begun, fewer-begun, stamp-push}
use Rattle.resync_core.proofs.HistoryLaws as histories

pub moved : (w v : World) (i : ℕ) (P : Site → Site → Type 0) (Q : ℕ → Site → Site → Type 0) → At i P Q w v
    → ((old new : Site) → slice_get w i ≡ Some old → slice_get v i ≡ Some new → P old new → Move w v i old new)
    → ((j : ℕ) (old new : Site) → slice_get w j ≡ Some old → slice_get v j ≡ Some new → Q j old new → Move w v j old new) → Moves w v
moved w v i P Q at here other = record {
  back = λ j new is. let r = places.back i P Q w v at j new is in record { old = r.0; there = r.1; move = each j r.0 new r.1 is r.2 };
  forth = λ j old is. let r = places.forth i P Q w v at j old is in record { new = r.0; there = r.1; move = each j old r.0 is r.1 r.2 };
}
  where
    each : (j : ℕ) (old new : Site) → slice_get w j ≡ Some old → slice_get v j ≡ Some new → Either i P Q j old new → Move w v j old new
    each j old new was is e = elim e [
      | inl h ↦
          subst (λ (k : ℕ). Move w v k old new) (sym h.0)
          (here old new (subst (λ (k : ℕ). slice_get w k ≡ Some old) h.0 was) (subst (λ (k : ℕ). slice_get v k ≡ Some new) h.0 is) h.1)
      | inr q ↦ other j old new was is q.1
    ]

own : (w : World) (j : ℕ) (new old : Site) → slice_get w j ≡ Some old → IsPrefix new.sequence old.sequence → IsFront w j new
own w j new old there begins = record { place = j; site = old; there = there; begins = begins; hardened = λ e. absurd (e refl) }

still : (w v : World) → IsFit w → (j : ℕ) (a : Site) → slice_get w j ≡ Some a → Move w v j a a
still w v h j a there = record {
  name = refl;
  cycle = omega arith;
  fit = h.each j a there;
  source = inl (own w j a a there (lists.whole a.sequence));
  reign = λ stamp serials role. inl (record { serials = serials; role = role; grows = lists.whole (hardened_part a) });
  session = λ primary sent received role. h.sessions j a primary sent received there role;
  held = λ k b sent received is role. lists.whole (hardened_part a);
}

stays : (w v : World) → IsFit w → (j : ℕ) (old new : Site) → slice_get w j ≡ Some old → slice_get v j ≡ Some new → new ≡ old → Move w v j old new
stays w v h j old new was is same = subst (λ (s : Site). Move w v j old s) (sym same) (still w v h j old was)

one : (w v : World) (i : ℕ) (P : Site → Site → Type 0) → IsFit w → At i P Same w v
    → ((old new : Site) → slice_get w i ≡ Some old → P old new → Move w v i old new) → Moves w v
one w v i P h at here = moved w v i P Same at (λ old new was is p. here old new was p) (stays w v h)

-- a pick that appends nothing
undecided : (w v : World) → IsFit w → (i u : ℕ) (old : Site) (stamp : Stamp) (serials : List ℕ) → slice_get w i ≡ Some old → old.role ≡ Primary stamp serials
    → Move w v i old (record old { role = Primary stamp (picked_once serials u) })
undecided w v h i u old stamp serials was role =
    let f = h.each i old was in let r = f.reigning stamp serials role in
    let new : Site = record old { role = Primary stamp (picked_once serials u) } in
    record {
      name = refl;
      cycle = omega arith;
      fit = record {
        within = f.within;
        rise = f.rise;
        history = f.history;
        few = f.few;
        reigning = λ s l e. facts.reigning-as new stamp s (picked_once serials u) l e (record {
          root = r.root;
          cycle = r.cycle;
          coming = r.coming;
          starts = r.starts;
          changes = r.changes;
          room = r.room;
          updaters = facts.raised-size serials u r.updaters;
          next = facts.next-raised stamp serials u old.sequence r.next;
        });
      };
      source = inl (own w i new old was (lists.whole old.sequence));
      reign = λ s l e. let same : stamp ≡ s = cc in
          inl (record { serials = serials; role = subst (λ (x : Stamp). old.role ≡ Primary x serials) same role; grows = lists.whole (hardened_part old) });
      session = λ primary sent received e. cc;
      held = λ k b sent received is e. lists.whole (hardened_part old);
    }

-- a pick that appends an entry
decided : (w v : World) → IsFit w → (i u : ℕ) (old : Site) (stamp : Stamp) (serials : List ℕ) (updates : List Update) → slice_get w i ≡ Some old
    → old.role ≡ Primary stamp serials → 1 ≤ u → u ≤ MOST_UPDATERS
    → Move w v i old (record old { sequence = old.sequence ++ entry_of stamp u (serial_at serials u) updates ∷ []; role = Primary stamp (picked_once serials u) })
decided w v h i u old stamp serials updates was role least most =
    let f = h.each i old was in let r = f.reigning stamp serials role in
    let made : Entry = entry_of stamp u (serial_at serials u) updates in
    let new : Site = record old { sequence = old.sequence ++ made ∷ []; role = Primary stamp (picked_once serials u) } in
    let size : length (old.sequence ++ made ∷ []) ≡ length old.sequence + 1 = length-append old.sequence (made ∷ []) in
    let within = f.within in
    let grows : IsPrefix (hardened_part old) (hardened_part new) = facts.grown old.hardened old.hardened old.sequence (made ∷ []) within (omega arith) in
    record {
      name = refl;
      cycle = omega arith;
      fit = record {
        within = omega arith;
        rise = facts.rise-more stamp serials u updates old.sequence f.rise r.next;
        history = histories.whole old.reigns (old.sequence ++ made ∷ [])
            (histories.stamps-more old.reigns old.sequence made f.history.stamps (r.coming (suc (length old.sequence)) (omega arith))) r.starts r.changes;
        few = let less = length-begun (length (old.sequence ++ made ∷ [])) old.reigns in let room = r.room in omega arith;
        reigning = λ s l e. facts.reigning-as new stamp s (picked_once serials u) l e (record {
          root = r.root;
          cycle = r.cycle;
          coming = λ k low. r.coming k (omega (arith, size, low));
          starts = r.starts;
          changes = r.changes;
          room = r.room;
          updaters = facts.raised-size serials u r.updaters;
          next = facts.next-more stamp serials u updates old.sequence least most r.updaters r.next;
        });
      };
      source = inr (record { stamp = stamp; serials = serials; made = made; role = role; its = refl; after = refl });
      reign = λ s l e. let same : stamp ≡ s = cc in
          inl (record { serials = serials; role = subst (λ (x : Stamp). old.role ≡ Primary x serials) same role; grows = grows });
      session = λ primary sent received e. cc;
      held = λ k b sent received is e. grows;
    }

decides : (w v : World) → IsFit w → (i u : ℕ) (old new : Site) → slice_get w i ≡ Some old → Decides u old new → Move w v i old new
decides w v h i u old new was d = elim d.after [
  | inl none ↦ subst (λ (s : Site). Move w v i old s) (sym none) (undecided w v h i u old d.stamp d.serials was d.role)
  | inr some ↦ subst (λ (s : Site). Move w v i old s) (sym some.1) (decided w v h i u old d.stamp d.serials some.0 was d.role d.updater.0 d.updater.1)
]

-- all of a site's entries are hardened
whole-hardened : (w : World) → IsFit w → (i : ℕ) (old : Site) → slice_get w i ≡ Some old → IsPrefix (hardened_part old) (take (length old.sequence) old.sequence)
whole-hardened w h i old was = lists.fronts old.hardened (length old.sequence) old.sequence (h.each i old was).within

hardens : (w v : World) → IsFit w → (i : ℕ) (old : Site) → slice_get w i ≡ Some old → Move w v i old (record old { hardened = length old.sequence })
hardens w v h i old was =
    let f = h.each i old was in
    let new : Site = record old { hardened = length old.sequence } in
    record {
      name = refl;
      cycle = omega arith;
      fit = record {
        within = omega arith;
        rise = f.rise;
        history = f.history;
        few = f.few;
        reigning = λ s l e. let r = f.reigning s l e in
            record { root = r.root; cycle = r.cycle; coming = r.coming; starts = r.starts; changes = r.changes; room = r.room; updaters = r.updaters; next = r.next };
      };
      source = inl (own w i new old was (lists.whole old.sequence));
      reign = λ s l e. inl (record { serials = l; role = e; grows = whole-hardened w h i old was });
      session = λ primary sent received e. h.sessions i old primary sent received was e;
      held = λ k b sent received is e. whole-hardened w h i old was;
    }

-- a session goes on, the follower's files being as they were
shipped : (w v : World) → IsFit w → (i : ℕ) (old : Site) (primary : List ℕ) (sent received : Sequence) → slice_get w i ≡ Some old
    → HasPrimary w primary sent received old.sequence → Move w v i old (record old { role = Following primary sent received })
shipped w v h i old primary sent received was session =
    let f = h.each i old was in
    record {
      name = refl;
      cycle = omega arith;
      fit = record { within = f.within; rise = f.rise; history = f.history; few = f.few; reigning = λ s l e. cc };
      source = inl (own w i (record old { role = Following primary sent received }) old was (lists.whole old.sequence));
      reign = λ s l e. cc;
      session = λ name out in_ e. facts.session-as w primary name sent received out in_ old.sequence e session;
      held = λ k b out in_ is e. lists.whole (hardened_part old);
    }

sends : (w v : World) → IsFit w → (i k : ℕ) (a old new : Site) → slice_get w k ≡ Some a → slice_get w i ≡ Some old → Sends a old new → Move w v i old new
sends w v h i k a old new at was d =
    let s = h.sessions i old a.name d.sent d.received was d.role in
    let same : s.site ≡ a = moves.same-site w s.place k s.site a s.there at (h.apart s.place k s.site a s.there at s.name) in
    let durable : IsPrefix d.sent (hardened_part a) = subst (λ (x : Site). IsPrefix d.sent (hardened_part x)) same s.prefixes.durable in
    subst (λ (x : Site). Move w v i old x) (sym d.after) (shipped w v h i old a.name (d.sent ++ d.next ∷ []) d.received was (record {
      place = k;
      site = a;
      there = at;
      name = refl;
      prefixes = record {
        applied = s.prefixes.applied;
        arrived = lists.onward d.received d.sent (d.sent ++ d.next ∷ []) s.prefixes.arrived (lists.longer d.sent (d.next ∷ []));
        durable = lists.one-more d.sent (hardened_part a) d.next durable d.there;
      };
    }))

receives : (w v : World) → IsFit w → (i : ℕ) (old new : Site) → slice_get w i ≡ Some old → Receives old new → Move w v i old new
receives w v h i old new was d =
    let s = h.sessions i old d.primary d.sent d.received was d.role in
    subst (λ (x : Site). Move w v i old x) (sym d.after) (shipped w v h i old d.primary d.sent (d.received ++ d.next ∷ []) was (record {
      place = s.place;
      site = s.site;
      there = s.there;
      name = s.name;
      prefixes = record {
        applied = lists.onward old.sequence d.received (d.received ++ d.next ∷ []) s.prefixes.applied (lists.longer d.received (d.next ∷ []));
        arrived = lists.one-more d.received d.sent d.next s.prefixes.arrived d.there;
        durable = s.prefixes.durable;
      };
    }))

-- the session begins anew after what the follower has
resumes : (w v : World) → IsFit w → (i : ℕ) (old : Site) (primary : List ℕ) (sent received : Sequence) → slice_get w i ≡ Some old
    → old.role ≡ Following primary sent received → Move w v i old (resumed primary old)
resumes w v h i old primary sent received was role =
    let s = h.sessions i old primary sent received was role in
    let all = lists.whole old.sequence in
    shipped w v h i old primary old.sequence old.sequence was (record {
      place = s.place;
      site = s.site;
      there = s.there;
      name = s.name;
      prefixes = record {
        applied = all;
        arrived = all;
        durable = lists.onward old.sequence received (hardened_part s.site) s.prefixes.applied
            (lists.onward received sent (hardened_part s.site) s.prefixes.arrived s.prefixes.durable);
      };
    })

cuts : (w v : World) → IsFit w → (i : ℕ) (old new : Site) → slice_get w i ≡ Some old → IsCut old new → Move w v i old new
cuts w v h i old new was d = subst (λ (x : Site). Move w v i old x) (sym d.after) (resumes w v h i old d.primary d.sent d.received was d.role)

applied : (w v : World) → IsFit w → (i : ℕ) (old : Site) (primary : List ℕ) (sent received : Sequence) (next : Entry) (hardened : ℕ) (reigns : List Reign) (cycle : ℕ)
    → slice_get w i ≡ Some old → old.role ≡ Following primary sent received → slice_get received (length old.sequence) ≡ Some next
    → old.hardened ≤ hardened → hardened ≤ suc (length old.sequence)
    → Adopts (length old.sequence) next.stamp old.reigns reigns → old.cycle ≤ cycle
    → Move w v i old (record old { sequence = old.sequence ++ next ∷ []; hardened = hardened; reigns = reigns; cycle = cycle })
applied w v h i old primary sent received next hardened reigns cycle was role there least most adopts cycles =
    let f = h.each i old was in
    let s = h.sessions i old primary sent received was role in
    let g = h.each s.place s.site s.there in
    let more : Sequence = old.sequence ++ next ∷ [] in
    let new : Site = record old { sequence = more; hardened = hardened; reigns = reigns; cycle = cycle } in
    let size : length more ≡ length old.sequence + 1 = length-append old.sequence (next ∷ []) in
    let arrived : IsPrefix more received = lists.one-more old.sequence received next s.prefixes.applied there in
    let durable : IsPrefix more (hardened_part s.site) = lists.onward more received (hardened_part s.site) arrived
    (lists.onward received sent (hardened_part s.site) s.prefixes.arrived s.prefixes.durable) in
    let begins : IsPrefix more s.site.sequence = lists.onward more (hardened_part s.site) s.site.sequence durable (lists.front s.site.hardened s.site.sequence) in
    let within = f.within in
    let history : IsHistory reigns more = histories.adopted old.reigns reigns old.sequence next f.history adopts in
    let shared : begun_by (length more) reigns ≡ begun_by (length more) s.site.reigns = histories.front s.site.reigns reigns s.site.sequence more g.history history begins in
    let grows : IsPrefix (hardened_part old) (hardened_part new) = facts.grown old.hardened hardened old.sequence (next ∷ []) within least in
    record {
      name = refl;
      cycle = cycles;
      fit = record {
        within = omega (arith, size);
        rise = facts.rise-front more s.site.sequence begins g.rise;
        history = history;
        few = few-of-front s.site more reigns g shared (lists.prefix-length more s.site.sequence begins);
        reigning = λ x l e. cc (sym role ∙ e);
      };
      source = inl (record { place = s.place; site = s.site; there = s.there; begins = begins; hardened = λ other. durable });
      reign = λ x l e. cc (sym role ∙ e);
      session = λ name out in_ e. facts.session-as w primary name sent received out in_ more (sym role ∙ e) (record {
        place = s.place;
        site = s.site;
        there = s.there;
        name = s.name;
        prefixes = record { applied = arrived; arrived = s.prefixes.arrived; durable = s.prefixes.durable };
      });
      held = λ k b out in_ is e. grows;
    }
  where
    few-of-front : (a : Site) (xs : Sequence) (rs : List Reign) → IsFitSite a → begun_by (length xs) rs ≡ begun_by (length xs) a.reigns → length xs ≤ length a.sequence
        → length (begun_by (length xs) rs) ≤ MOST_REIGNS
    few-of-front a xs rs g same le =
        let less = fewer-begun (length xs) (length a.sequence) a.reigns le in
        let most = g.few in
        let sizes = ap length same in
        omega arith

applies : (w v : World) → IsFit w → (i : ℕ) (old new : Site) → slice_get w i ≡ Some old → Applies old new → Move w v i old new
applies w v h i old new was d =
    subst (λ (x : Site). Move w v i old x) (sym d.after)
    (applied w v h i old d.primary d.sent d.received d.next d.hardened d.reigns d.cycle was d.role d.there d.least d.most d.adopts d.cycles)

-- A site is left with its first n entries. Either these have what was hardened, or it has no followers.
left : (w v : World) → IsFit w → (i n hardened : ℕ) (old : Site) (reigns : List Reign) (cycle : ℕ) → slice_get w i ≡ Some old → n ≤ length old.sequence → hardened ≤ n
    → Keeps n old reigns cycle
    → ((k : ℕ) (b : Site) (sent received : Sequence) → slice_get v k ≡ Some b → b.role ≡ Following old.name sent received → old.hardened ≤ hardened)
    → Move w v i old (record old { sequence = take n old.sequence; hardened = hardened; reigns = reigns; cycle = cycle; role = Down })
left w v h i n hardened old reigns cycle was le most keeps followed =
    let f = h.each i old was in
    let new : Site = record old { sequence = take n old.sequence; hardened = hardened; reigns = reigns; cycle = cycle; role = Down } in
    let size : length (take n old.sequence) ≡ n = length-take-le n old.sequence le in
    record {
      name = refl;
      cycle = keeps.cycles;
      fit = record {
        within = omega (arith, size);
        rise = facts.rise-front (take n old.sequence) old.sequence (lists.front n old.sequence) f.rise;
        history = histories.kept n old.reigns reigns old.sequence le keeps.begun f.history;
        few =
            let most = f.few in
            let less = fewer-begun n (length old.sequence) old.reigns le in
            let sizes = ap (λ (l : List Reign). length l) keeps.begun in
            subst (λ (k : ℕ). length (begun_by k reigns) ≤ MOST_REIGNS) (sym size) (omega arith);
        reigning = λ x l e. cc;
      };
      source = inl (own w i new old was (lists.front n old.sequence));
      reign = λ x l e. cc;
      session = λ name out in_ e. cc;
      held = λ k b out in_ is e. facts.left old.hardened hardened n old.sequence (followed k b out in_ is e) most;
    }

crashed : (w v : World) → IsFit w → (i n : ℕ) (a : Site) → slice_get w i ≡ Some a → n ≤ length a.sequence
    → At i (IsLeft a.hardened n) (IfFollowing a.name (resumed a.name)) w v → Moves w v
crashed w v h i n a at le step = moved w v i (IsLeft a.hardened n) (IfFollowing a.name (resumed a.name)) step
    (λ old new was is d.
    let same : a ≡ old = lists.get-one w i a old at was in
    subst (λ (x : Site). Move w v i old x) (sym d.after)
    (left w v h i n d.hardened old d.reigns d.cycle was (subst (λ (x : Site). n ≤ length x.sequence) same le) d.most d.keeps
    (λ k b out in_ there e. subst (λ (x : Site). x.hardened ≤ d.hardened) same d.enough)))
    (λ j old new was is q. elim (followers.cases a.name (resumed a.name) old new q) [
      | inl f ↦ subst (λ (x : Site). Move w v j old x) (sym f.after) (resumes w v h j old a.name f.sent f.received was f.role)
      | inr other ↦ stays w v h j old new was is other.1
    ])

-- a follower of a site that is rolled back waits
waits : (w v : World) → IsFit w → (i : ℕ) (old : Site) (primary : List ℕ) → slice_get w i ≡ Some old → Move w v i old (set_back primary old)
waits w v h i old primary was =
    let f = h.each i old was in
    record {
      name = refl;
      cycle = omega arith;
      fit = record { within = f.within; rise = f.rise; history = f.history; few = f.few; reigning = λ s l e. cc };
      source = inl (own w i (set_back primary old) old was (lists.whole old.sequence));
      reign = λ s l e. cc;
      session = λ name out in_ e. cc;
      held = λ k b out in_ is e. lists.whole (hardened_part old);
    }

-- nobody follows it afterwards
unfollowed : (w v : World) (i t : ℕ) (name : List ℕ) → At i (IsLeft 0 t) (IfFollowing name (set_back name)) w v
    → (k : ℕ) (b : Site) (sent received : Sequence) → slice_get v k ≡ Some b → b.role ≡ Following name sent received → ⊥
unfollowed w v i t name step k b sent received there role =
    let r = places.back i (IsLeft 0 t) (IfFollowing name (set_back name)) w v step k b there in
    elim r.2 [
      | inl here ↦ let down : b.role ≡ Down = ap (λ (x : Site). x.role) here.1.after in cc
      | inr other ↦ elim (followers.cases name (set_back name) r.0 b other.1) [
        | inl f ↦ let waiting : b.role ≡ Waiting name = ap (λ (x : Site). x.role) f.after in cc
        | inr f ↦ f.0 sent received (sym (ap (λ (x : Site). x.role) f.1) ∙ role)
      ]
    ]

rolled : (w v : World) → IsFit w → (i t : ℕ) (a : Site) → slice_get w i ≡ Some a → t ≤ length a.sequence
    → At i (IsLeft 0 t) (IfFollowing a.name (set_back a.name)) w v → Moves w v
rolled w v h i t a at le step = moved w v i (IsLeft 0 t) (IfFollowing a.name (set_back a.name)) step
    (λ old new was is d.
    let same : a ≡ old = lists.get-one w i a old at was in
    subst (λ (x : Site). Move w v i old x) (sym d.after)
    (left w v h i t d.hardened old d.reigns d.cycle was (subst (λ (x : Site). t ≤ length x.sequence) same le) d.most d.keeps
    (λ k b out in_ there e. absurd (unfollowed w v i t a.name step k b out in_ there (e ∙ ap (λ (x : Site). Following x.name out in_) (sym same))))))
    (λ j old new was is q. elim (followers.cases a.name (set_back a.name) old new q) [
      | inl f ↦ subst (λ (x : Site). Move w v j old x) (sym f.after) (waits w v h j old a.name was)
      | inr other ↦ stays w v h j old new was is other.1
    ])

begun : (w v : World) → IsFit w → (i : ℕ) (old : Site) → slice_get w i ≡ Some old → length (begun_by (length old.sequence) old.reigns) < MOST_REIGNS
    → Move w v i old (record old {
      hardened = length old.sequence;
      reigns = begun_by (length old.sequence) old.reigns ++ reign_from (suc (length old.sequence)) (drawn old) ∷ [];
      cycle = suc old.cycle;
      role = Primary (drawn old) (replicate 64 1);
    })
begun w v h i old was room =
    let f = h.each i old was in
    let n : ℕ = length old.sequence in
    let its : Reign = reign_from (suc n) (drawn old) in
    let reigns : List Reign = begun_by n old.reigns ++ its ∷ [] in
    let new : Site = record old { hardened = n; reigns = reigns; cycle = suc old.cycle; role = Primary (drawn old) (replicate 64 1) } in
    let size : length reigns ≡ length (begun_by n old.reigns) + 1 = length-append (begun_by n old.reigns) (its ∷ []) in
    let same : begun_by n reigns ≡ begun_by n old.reigns = begun-push_late n (begun_by n old.reigns) its (omega arith) ∙ begun-begun n n old.reigns (omega arith) in
    let unused : (k : ℕ) (x : Entry) → slice_get old.sequence k ≡ Some x → x.stamp ≡ drawn old → ⊥ = λ k x is its_own.
    let low = h.cycles i i old old was was k x is (ap (λ (y : Stamp). y.root) its_own) in
    let cycle : x.stamp.cycle ≡ suc old.cycle = ap (λ (y : Stamp). y.cycle) its_own in
    omega arith in
    let starts : StartsRise 0 reigns = histories.rise-more old.reigns old.sequence (drawn old) f.history in
    let changes : StampsChange reigns = histories.changes-more old.reigns old.sequence (drawn old) f.history
    (histories.another-stamp old.reigns old.sequence (drawn old) f.history unused) in
    record {
      name = refl;
      cycle = omega arith;
      fit = record {
        within = omega arith;
        rise = f.rise;
        history = histories.as-begun old.reigns reigns old.sequence same f.history;
        few = let sizes = ap (λ (l : List Reign). length l) same in omega arith;
        reigning = λ s l e. facts.reigning-as new (drawn old) s (replicate 64 1) l e (record {
          root = refl;
          cycle = omega arith;
          coming = λ k low. stamp-push k (begun_by n old.reigns) its (omega arith);
          starts = starts;
          changes = changes;
          room = omega arith;
          updaters = refl;
          next = λ k x is its_own. absurd (unused k x is its_own);
        });
      };
      source = inl (own w i new old was (lists.whole old.sequence));
      reign = λ s l e. let same_stamp : drawn old ≡ s = cc in let cycle : suc old.cycle ≡ s.cycle = ap (λ (x : Stamp). x.cycle) same_stamp in inr (omega arith);
      session = λ name out in_ e. cc;
      held = λ k b out in_ is e. whole-hardened w h i old was;
    }

begins : (w v : World) → IsFit w → (i : ℕ) (old new : Site) → slice_get w i ≡ Some old → Begins old new → Move w v i old new
begins w v h i old new was d = subst (λ (x : Site). Move w v i old x) (sym d.after) (begun w v h i old was d.room)

followed : (w v : World) → IsFit w → (i k : ℕ) (a old : Site) (reigns : List Reign) (cycle : ℕ) → slice_get w k ≡ Some a → slice_get w i ≡ Some old
    → IsPrefix old.sequence (hardened_part a) → Keeps (length old.sequence) old reigns cycle
    → Move w v i old (record old { hardened = length old.sequence; reigns = reigns; cycle = cycle; role = Following a.name old.sequence old.sequence })
followed w v h i k a old reigns cycle at was matched keeps =
    let f = h.each i old was in
    let new : Site = record old { hardened = length old.sequence; reigns = reigns; cycle = cycle; role = Following a.name old.sequence old.sequence } in
    let all = lists.whole old.sequence in
    record {
      name = refl;
      cycle = keeps.cycles;
      fit = record {
        within = omega arith;
        rise = f.rise;
        history = histories.as-begun old.reigns reigns old.sequence keeps.begun f.history;
        few = let most = f.few in let sizes = ap (λ (l : List Reign). length l) keeps.begun in omega arith;
        reigning = λ s l e. cc;
      };
      source = inl (own w i new old was all);
      reign = λ s l e. cc;
      session = λ name out in_ e. facts.session-as w a.name name old.sequence old.sequence out in_ old.sequence e (record {
        place = k;
        site = a;
        there = at;
        name = refl;
        prefixes = record { applied = all; arrived = all; durable = matched };
      });
      held = λ j b out in_ is e. whole-hardened w h i old was;
    }

follows : (w v : World) → IsFit w → (i k : ℕ) (a old new : Site) → slice_get w k ≡ Some a → slice_get w i ≡ Some old → Follows a old new → Move w v i old new
follows w v h i k a old new at was d = subst (λ (x : Site). Move w v i old x) (sym d.after) (followed w v h i k a old d.reigns d.cycle at was d.matched d.keeps)

moves-on : (w v : World) (e : Event) → IsFit w → Happens w e v → Moves w v
moves-on w v (Decide i u) h step = one w v i (Decides u) h step (decides w v h i u)
moves-on w v (Harden i) h step = one w v i Hardens h step (λ old new was d. subst (λ (s : Site). Move w v i old s) (sym d) (hardens w v h i old was))
moves-on w v (Send i) h step = one w v i (Sends step.1) h step.3 (λ old new was d. sends w v h i step.0 step.1 old new step.2 was d)
moves-on w v (Receive i) h step = one w v i Receives h step (receives w v h i)
moves-on w v (Apply i) h step = one w v i Applies h step (applies w v h i)
moves-on w v (Cut i) h step = one w v i IsCut h step (cuts w v h i)
moves-on w v (Crash i n) h step = crashed w v h i n step.0 step.1 step.2 step.3
moves-on w v (Begin i) h step = one w v i Begins h step (begins w v h i)
moves-on w v (Follow i k) h step = one w v i (Follows step.0) h step.2 (λ old new was d. follows w v h i k step.0 old new step.1 was d)
moves-on w v (Roll i t) h step = rolled w v h i t step.0 step.1 step.2 step.3

pub step-fit : (w v : World) (e : Event) → IsFit w → Happens w e v → IsFit v
step-fit w v e h step = moves.fit w v h (moves-on w v e h step)

pub fit : (w v : World) (events : List Event) → IsFit w → Reaches w events v → IsFit v
fit w v [] h reaches = subst IsFit (sym reaches) h
fit w v (e ∷ es) h reaches = fit reaches.0 v es (step-fit w reaches.0 e h reaches.1) reaches.2
