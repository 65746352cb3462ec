-- Single steps, as lists of events.
use Rattle.std.proofs.Common.{◌≡◌, ◌≢◌, ◌⊎◌, inl, inr, ℕ, zero, suc, ◌+◌, ◌≤◌, nat_lt, Bool, true, false, List, [], ◌∷◌, ◌++◌, length, map, set, Option, Some, None, slice_get, refl, sym, ◌∙◌, ap, subst, arith, append_assoc, length-append, length-take-le, take, if◌then◌else◌}
use Rattle.std.proofs.Math.Seq.{set-set}
use Rattle.global_defs.specs.declared.limits.TheConstants.{MOST_UPDATERS}
use Rattle.global_defs.specs.Entry.{Update, Stamp, Entry, Sequence, Reign, state}
use Rattle.global_defs.specs.Jobs.{Job, Answers, SeqLimit}
use Rattle.global_defs.specs.Evaluation.{Evaluated, Done, RolledBack, eval}
use Rattle.global_defs.specs.Serial as serials
use Rattle.global_defs.specs.Serial.{MOST_ENTRIES, Turn, Seq, entry_of, serial_at, replied, next_job, picked, serial}
use Rattle.global_defs.specs.Prefix.{IsPrefix}
use Rattle.global_defs.specs.Beside.{Along, At}
use Rattle.lineage_defs.specs.Histories.{IsHistory}
use Rattle.lineage_defs.specs.Sites.{Down, Primary, Following, Site, World, hardened_part}
use Rattle.lineage_defs.specs.Events.{Event, Decide, Send, Receive, Apply, Same, picked_once, Decides, Sends, Receives, Adopts, Applies, IsLeft, Reaches}
use Rattle.lineage_defs.specs.Outcomes.{Image, IsImage, settled}
use Rattle.lineage_defs.specs.Runs.{HaveJobs, as_decided, as_shipped, shipping}
use Rattle.resync_core.proofs.Fronts as lists
use Rattle.resync_core.proofs.HistoryLaws as histories

along-same : (w : World) → Along Same w w
along-same [] = tt
along-same (a ∷ w) = (refl, along-same w)

pub alone : (w : World) (i : ℕ) (P : Site → Site → Type 0) (old new : Site) → slice_get w i ≡ Some old → P old new → At i P Same w (set w i new)
alone [] i P old new at p = let none : None ≡ Some old = at in cc
alone (a ∷ w) zero P old new at p = let same : Some a ≡ Some old = at in let e : old ≡ a = cc in (subst (λ (s : Site). P s new) e p, along-same w)
alone (a ∷ w) (suc i) P old new at p = (refl, alone w i P old new at p)

along-map : (f : Site → Site) (w : World) → Along (λ j old new. new ≡ f old) w (map f w)
along-map f [] = tt
along-map f (a ∷ w) = (refl, along-map f w)

-- a step that changes one site, and each other one in one way
pub beside : (w : World) (i : ℕ) (P : Site → Site → Type 0) (f : Site → Site) (old new : Site) → slice_get w i ≡ Some old → P old new
    → At i P (λ j a b. b ≡ f a) w (set (map f w) i new)
beside [] i P f old new at p = let none : None ≡ Some old = at in cc
beside (a ∷ w) zero P f old new at p = let same : Some a ≡ Some old = at in let e : old ≡ a = cc in (subst (λ (s : Site). P s new) e p, along-map f w)
beside (a ∷ w) (suc i) P f old new at p = (refl, beside w i P f old new at p)

get-set : (w : World) (i : ℕ) (old new : Site) → slice_get w i ≡ Some old → slice_get (set w i new) i ≡ Some new
get-set [] i old new at = let none : None ≡ Some old = at in cc
get-set (a ∷ w) zero old new at = refl
get-set (a ∷ w) (suc i) old new at = get-set w i old new at

set-own : (w : World) (i : ℕ) (a : Site) → slice_get w i ≡ Some a → set w i a ≡ w
set-own [] i a at = refl
set-own (b ∷ w) zero a at = let same : Some b ≡ Some a = at in cc
set-own (b ∷ w) (suc i) a at = ap (λ (l : World). b ∷ l) (set-own w i a at)

pub joined : (w m v : World) (es fs : List Event) → Reaches w es m → Reaches m fs v → Reaches w (es ++ fs) v
joined w m v [] fs first second = subst (λ (u : World). Reaches u fs v) first second
joined w m v (e ∷ es) fs first second = (first.0, first.1, joined first.0 m v es fs first.2 second)

-- what one pick makes of a turn
abbrev Picks : Stamp → ℕ → Turn → Turn → Type 0
Picks stamp u t new = (new.serials ≡ picked_once t.serials u)
    × ((new.sequence ≡ t.sequence) ⊎ ((updates : List Update) × (new.sequence ≡ t.sequence ++ entry_of stamp u (serial_at t.serials u) updates ∷ [])))

picks-fitting : (stamp : Stamp) (u : ℕ) (t : Turn) (updates : List Update) (answers : Answers) (fits : Bool) → Picks stamp u t (if fits
    then replied t u (Seq (length t.sequence + 1) answers) (t.sequence ++ entry_of stamp u (serial_at t.serials u) updates ∷ [])
    else replied t u (serials.RolledBack SeqLimit) t.sequence)
picks-fitting stamp u t updates answers true = (refl, inr (updates, refl))
picks-fitting stamp u t updates answers false = (refl, inl refl)

picks-decided : (stamp : Stamp) (u : ℕ) (t : Turn) (done : Evaluated) → Picks stamp u t (serials.decided stamp t u done)
picks-decided stamp u t (RolledBack cause) = (refl, inl refl)
picks-decided stamp u t (Done [] answers) = (refl, inl refl)
picks-decided stamp u t (Done (x ∷ xs) answers) = picks-fitting stamp u t (x ∷ xs) answers (nat_lt (length t.sequence) MOST_ENTRIES)

decides : (a : Site) (stamp : Stamp) (u : ℕ) (t new : Turn) → a.role ≡ Primary stamp t.serials → a.sequence ≡ t.sequence → 1 ≤ u → u ≤ MOST_UPDATERS → Picks stamp u t new
    → Decides u a (as_decided a stamp new)
decides a stamp u t new role same least most picks = record {
  stamp = stamp;
  serials = t.serials;
  role = role;
  updater = (least, most);
  after = elim picks.1 [
    | inl none ↦
        let seq : new.sequence ≡ a.sequence = none ∙ sym same in
        inl (λ k. record a { sequence = seq k; role = Primary stamp (picks.0 k) })
    | inr some ↦
        let seq : new.sequence ≡ a.sequence ++ entry_of stamp u (serial_at t.serials u) some.0 ∷ [] =
        some.1 ∙ ap (λ (l : Sequence). l ++ entry_of stamp u (serial_at t.serials u) some.0 ∷ []) (sym same) in
        inr (some.0, λ k. record a { sequence = seq k; role = Primary stamp (picks.0 k) })
  ];
}

pub decided : (w : World) (i : ℕ) (a : Site) (stamp : Stamp) (picks : List ℕ) (t : Turn) → slice_get w i ≡ Some a → a.role ≡ Primary stamp t.serials
    → a.sequence ≡ t.sequence → HaveJobs stamp picks t → Reaches w (map (Decide i) picks) (set w i (as_decided a stamp (serial stamp picks t)))
decided w i a stamp [] t at role same jobs =
    let back : t.sequence ≡ a.sequence = sym same in let again : Primary stamp t.serials ≡ a.role = sym role in
    let own : as_decided a stamp t ≡ a = λ k. record a { sequence = back k; role = again k } in
    ap (λ (s : Site). set w i s) own ∙ set-own w i a at
decided w i a stamp (u ∷ us) t at role same jobs =
    let job = jobs.0 in
    let next : Turn = picked stamp t u (Some job) in
    let b : Site = as_decided a stamp next in
    let m : World = set w i b in
    let d : Decides u a b = decides a stamp u t next role same jobs.1 jobs.2 (picks-decided stamp u t (eval job (state t.sequence))) in
    let rest : Reaches m (map (Decide i) us) (set m i (as_decided b stamp (serial stamp us next))) =
    decided m i b stamp us next (get-set w i a b at) refl refl jobs.4 in
    let from : serial stamp us (picked stamp t u (next_job u t.left)) ≡ serial stamp us next = ap (λ (o : Option Job). serial stamp us (picked stamp t u o)) jobs.3 in
    let end : set m i (as_decided b stamp (serial stamp us next)) ≡ set w i (as_decided a stamp (serial stamp us (picked stamp t u (next_job u t.left)))) =
    set-set w i b (as_decided a stamp (serial stamp us next)) ∙ ap (λ (x : Turn). set w i (as_decided a stamp x)) (sym from) in
    (m, alone w i (Decides u) a b at d, subst (λ (v : World). Reaches m (map (Decide i) us) v) end rest)

get-last : (xs : Sequence) (e : Entry) → slice_get (xs ++ e ∷ []) (length xs) ≡ Some e
get-last [] e = refl
get-last (x ∷ xs) e = get-last xs e

pub carried : (w : World) (j k : ℕ) (a b : Site) (next : Entry) (reigns : List Reign) (cycle : ℕ) → slice_get w k ≡ Some a → slice_get w j ≡ Some b
    → b.role ≡ Following a.name b.sequence b.sequence → slice_get (hardened_part a) (length b.sequence) ≡ Some next
    → b.hardened ≤ length b.sequence → Adopts (length b.sequence) next.stamp b.reigns reigns → b.cycle ≤ cycle
    → Reaches w (Send j ∷ Receive j ∷ Apply j ∷ []) (set w j (as_shipped b a.name (b.sequence ++ next ∷ []) reigns cycle))
carried w j k a b next reigns cycle at bt role there within adopts cycles =
    let more : Sequence = b.sequence ++ next ∷ [] in
    let size : length more ≡ length b.sequence + 1 = length-append b.sequence (next ∷ []) in
    let one : Site = record b { role = Following a.name more b.sequence } in
    let two : Site = record b { role = Following a.name more more } in
    let three : Site = as_shipped b a.name more reigns cycle in
    let m1 : World = set w j one in
    let m2 : World = set m1 j two in
    let m3 : World = set m2 j three in
    let at1 : slice_get m1 j ≡ Some one = get-set w j b one bt in
    let at2 : slice_get m2 j ≡ Some two = get-set m1 j one two at1 in
    let send : Sends a b one = record { sent = b.sequence; received = b.sequence; next = next; role = role; there = there; after = refl } in
    let receive : Receives one two = record { primary = a.name; sent = more; received = b.sequence; next = next; role = refl; there = get-last b.sequence next; after = refl } in
    let apply : Applies two three = record {
      primary = a.name;
      sent = more;
      received = more;
      next = next;
      hardened = length more;
      reigns = reigns;
      cycle = cycle;
      role = refl;
      there = get-last b.sequence next;
      least = omega arith;
      most = omega arith;
      adopts = adopts;
      cycles = cycles;
      after = refl;
    } in
    let end : set w j three ≡ m3 = sym (ap (λ (u : World). set u j three) (set-set w j one two) ∙ set-set w j two three) in
    (m1, (k, a, at, alone w j (Sends a) b one bt send), (m2, alone m1 j Receives one two at1 receive, (m3, alone m2 j Applies two three at2 apply, end)))

set-other : (w : World) (j k : ℕ) (a new : Site) → j ≢ k → slice_get w k ≡ Some a → slice_get (set w j new) k ≡ Some a
set-other [] j k a new apart at = at
set-other (b ∷ w) zero zero a new apart at = absurd (apart refl)
set-other (b ∷ w) zero (suc k) a new apart at = at
set-other (b ∷ w) (suc j) zero a new apart at = at
set-other (b ∷ w) (suc j) (suc k) a new apart at = set-other w j k a new (λ e. apart (ap suc e)) at

get-next : (xs : Sequence) (e : Entry) (more : Sequence) → slice_get (xs ++ e ∷ more) (length xs) ≡ Some e
get-next [] e more = refl
get-next (x ∷ xs) e more = get-next xs e more

-- one entry of some that the primary has hardened
first-shipped : (w : World) (j k : ℕ) (a b : Site) (e : Entry) (more : Sequence) (reigns : List Reign) (cycle : ℕ) → slice_get w k ≡ Some a → slice_get w j ≡ Some b
    → b.role ≡ Following a.name b.sequence b.sequence → b.hardened ≤ length b.sequence → IsPrefix (b.sequence ++ e ∷ more) (hardened_part a)
    → IsHistory b.reigns b.sequence → IsHistory reigns (b.sequence ++ e ∷ more) → b.cycle ≤ cycle
    → Reaches w (Send j ∷ Receive j ∷ Apply j ∷ []) (set w j (as_shipped b a.name (b.sequence ++ e ∷ []) reigns cycle))
first-shipped w j k a b e more reigns cycle at bt role within prefix own all cycles =
    let here : slice_get (b.sequence ++ e ∷ more) (length b.sequence) ≡ Some e = get-next b.sequence e more in
    let size = length-append b.sequence (e ∷ more) in
    carried w j k a b e reigns cycle at bt role
    (lists.prefix-get (b.sequence ++ e ∷ more) (hardened_part a) (length b.sequence) e prefix here) within
    (histories.adopts-next reigns b.reigns (b.sequence ++ e ∷ more) b.sequence e.stamp all own (lists.longer b.sequence (e ∷ more)) (omega arith)
    (all.stamps (length b.sequence) e here)) cycles

pub shipped : (w : World) (j k : ℕ) (a b : Site) (e : Entry) (more : Sequence) (reigns : List Reign) (cycle : ℕ) → j ≢ k → slice_get w k ≡ Some a → slice_get w j ≡ Some b
    → b.role ≡ Following a.name b.sequence b.sequence → b.hardened ≤ length b.sequence → IsPrefix (b.sequence ++ e ∷ more) (hardened_part a)
    → IsHistory b.reigns b.sequence → IsHistory reigns (b.sequence ++ e ∷ more) → b.cycle ≤ cycle
    → Reaches w (shipping j (e ∷ more)) (set w j (as_shipped b a.name (b.sequence ++ e ∷ more) reigns cycle))
shipped w j k a b e [] reigns cycle apart at bt role within prefix own all cycles = first-shipped w j k a b e [] reigns cycle at bt role within prefix own all cycles
shipped w j k a b e (f ∷ more) reigns cycle apart at bt role within prefix own all cycles =
    let one : Site = as_shipped b a.name (b.sequence ++ e ∷ []) reigns cycle in
    let m : World = set w j one in
    let joins : (b.sequence ++ e ∷ []) ++ f ∷ more ≡ b.sequence ++ e ∷ f ∷ more = append_assoc b.sequence (e ∷ []) (f ∷ more) in
    let rest : Reaches m (shipping j (f ∷ more)) (set m j (as_shipped one a.name ((b.sequence ++ e ∷ []) ++ f ∷ more) reigns cycle)) =
    shipped m j k a one f more reigns cycle apart (set-other w j k a one apart at) (get-set w j b one bt) refl (omega arith)
    (subst (λ (l : Sequence). IsPrefix l (hardened_part a)) (sym joins) prefix)
    (histories.of-front reigns (b.sequence ++ e ∷ f ∷ more) (b.sequence ++ e ∷ []) all
    (subst (λ (l : Sequence). IsPrefix (b.sequence ++ e ∷ []) l) joins (lists.longer (b.sequence ++ e ∷ []) (f ∷ more))))
    (subst (λ (l : Sequence). IsHistory reigns l) (sym joins) all) (omega arith) in
    let end : set m j (as_shipped one a.name ((b.sequence ++ e ∷ []) ++ f ∷ more) reigns cycle) ≡ set w j (as_shipped b a.name (b.sequence ++ e ∷ f ∷ more) reigns cycle) =
    set-set w j one (as_shipped b a.name ((b.sequence ++ e ∷ []) ++ f ∷ more) reigns cycle)
    ∙ ap (λ (l : Sequence). set w j (as_shipped b a.name l reigns cycle)) joins in
    joined w m (set w j (as_shipped b a.name (b.sequence ++ e ∷ f ∷ more) reigns cycle)) (Send j ∷ Receive j ∷ Apply j ∷ []) (shipping j (f ∷ more))
    (first-shipped w j k a b e (f ∷ more) reigns cycle at bt role within prefix own all cycles)
    (subst (λ (v : World). Reaches m (shipping j (f ∷ more)) v) end rest)

image-size : (a : Site) (x : Image) (m : IsImage a x) → length x.sequence ≡ m.outcome.size
image-size a x m = ap (λ (l : Sequence). length l) m.outcome.is ∙ length-take-le m.outcome.size a.sequence m.outcome.most

pub image-within : (a : Site) (x : Image) → IsImage a x → length x.sequence ≤ length a.sequence
image-within a x m = let size = image-size a x m in let most = m.outcome.most in omega arith

-- an image is what the site is left with
pub settles : (a : Site) (x : Image) → IsImage a x → IsLeft a.hardened (length x.sequence) a (settled a x)
settles a x m =
    let size = image-size a x m in
    let least = m.outcome.least in
    let front : x.sequence ≡ take (length x.sequence) a.sequence = m.outcome.is ∙ ap (λ (n : ℕ). take n a.sequence) (sym size) in
    record {
      hardened = length x.sequence;
      reigns = x.reigns;
      cycle = x.cycle;
      enough = omega arith;
      most = omega arith;
      keeps = record { begun = m.begun; cycles = m.cycle };
      after = λ k. record a { sequence = front k; hardened = length x.sequence; reigns = x.reigns; cycle = x.cycle; role = Down };
    }
