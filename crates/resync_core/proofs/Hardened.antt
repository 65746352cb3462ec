-- What was hardened leaves a site by a rollback alone, and followers have no more than that.
use Rattle.std.proofs.Common.{◌≡◌, inl, inr, ℕ, ◌≤◌, List, [], ◌∷◌, length, take, Some, slice_get, refl, sym, ◌∙◌, ap, subst, arith}
use Rattle.std.specs.List.{AllByRecursion}
use Rattle.global_defs.specs.Entry.{Sequence}
use Rattle.global_defs.specs.Serial.{entry_of, serial_at}
use Rattle.global_defs.specs.Prefix.{IsPrefix}
use Rattle.global_defs.specs.Beside.{At}
use Rattle.lineage_defs.specs.Sites.{Following, Site, World, hardened_part}
use Rattle.lineage_defs.specs.Events.{Event, Decide, Harden, Send, Receive, Apply, Cut, Crash, Begin, Follow, Roll, Same, Decides, Hardens, Sends, Receives, Applies, resumed, set_back, IsCut, IfFollowing, IsLeft, Begins, Follows, Happens, Reaches}
use Rattle.lineage_defs.specs.Lineage.{IsFitSite, IsFit, IsNoRollOf, IsDurable}
use Rattle.resync_core.proofs.Fronts as lists
use Rattle.resync_core.proofs.Places as places
use Rattle.resync_core.proofs.Moves as moves
use Rattle.resync_core.proofs.Facts as facts
use Rattle.resync_core.proofs.Followers as followers
use Rattle.resync_core.proofs.Steps as steps

pub follower : (w : World) (i j n : ℕ) (a b : Site) (sent received : Sequence) → IsFit w → slice_get w i ≡ Some a → slice_get w j ≡ Some b
    → b.role ≡ Following a.name sent received → a.hardened ≤ n → IsPrefix b.sequence (take n a.sequence)
follower w i j n a b sent received h at bt role le =
    let s = h.sessions j b a.name sent received bt role in
    let same : s.site ≡ a = moves.same-site w s.place i s.site a s.there at (h.apart s.place i s.site a s.there at s.name) in
    let durable : IsPrefix sent (hardened_part a) = subst (λ (x : Site). IsPrefix sent (hardened_part x)) same s.prefixes.durable in
    lists.onward b.sequence received (take n a.sequence) s.prefixes.applied
    (lists.onward received sent (take n a.sequence) s.prefixes.arrived
    (lists.onward sent (hardened_part a) (take n a.sequence) durable (lists.fronts a.hardened n a.sequence le)))

-- a step that leaves a site what it had hardened
record Keeping (old new : Site) : Type 0 where
  name : new.name ≡ old.name
  still : IsPrefix (hardened_part old) (hardened_part new)

same : (old new : Site) → new ≡ old → Keeping old new
same old new e = subst (λ (s : Site). Keeping old s) (sym e) (record { name = refl; still = lists.whole (hardened_part old) })

if-following : (name : List ℕ) (j : ℕ) (old new : Site) → IfFollowing name (resumed name) j old new → Keeping old new
if-following name j old new q = elim (followers.cases name (resumed name) old new q) [
  | inl f ↦ subst (λ (s : Site). Keeping old s) (sym f.after) (record { name = refl; still = lists.whole (hardened_part old) })
  | inr f ↦ same old new f.1
]

if-set-back : (name : List ℕ) (j : ℕ) (old new : Site) → IfFollowing name (set_back name) j old new → Keeping old new
if-set-back name j old new q = elim (followers.cases name (set_back name) old new q) [
  | inl f ↦ subst (λ (s : Site). Keeping old s) (sym f.after) (record { name = refl; still = lists.whole (hardened_part old) })
  | inr f ↦ same old new f.1
]

hardened : (old : Site) → IsFitSite old → IsPrefix (hardened_part old) (take (length old.sequence) old.sequence)
hardened old f = lists.fronts old.hardened (length old.sequence) old.sequence f.within

decides : (u : ℕ) (old new : Site) → IsFitSite old → Decides u old new → Keeping old new
decides u old new f d = elim d.after [
  | inl none ↦ subst (λ (s : Site). Keeping old s) (sym none) (record { name = refl; still = lists.whole (hardened_part old) })
  | inr some ↦ subst (λ (s : Site). Keeping old s) (sym some.1) (record {
    name = refl;
    still = facts.grown old.hardened old.hardened old.sequence (entry_of d.stamp u (serial_at d.serials u) some.0 ∷ []) f.within (omega arith);
  })
]

hardens : (old new : Site) → IsFitSite old → Hardens old new → Keeping old new
hardens old new f d = subst (λ (s : Site). Keeping old s) (sym d) (record { name = refl; still = hardened old f })

sends : (a old new : Site) → IsFitSite old → Sends a old new → Keeping old new
sends a old new f d = subst (λ (s : Site). Keeping old s) (sym d.after) (record { name = refl; still = lists.whole (hardened_part old) })

receives : (old new : Site) → IsFitSite old → Receives old new → Keeping old new
receives old new f d = subst (λ (s : Site). Keeping old s) (sym d.after) (record { name = refl; still = lists.whole (hardened_part old) })

applies : (old new : Site) → IsFitSite old → Applies old new → Keeping old new
applies old new f d = subst (λ (s : Site). Keeping old s) (sym d.after)
    (record { name = refl; still = facts.grown old.hardened d.hardened old.sequence (d.next ∷ []) f.within d.least })

cuts : (old new : Site) → IsFitSite old → IsCut old new → Keeping old new
cuts old new f d = subst (λ (s : Site). Keeping old s) (sym d.after) (record { name = refl; still = lists.whole (hardened_part old) })

left : (least n : ℕ) (old new : Site) → old.hardened ≤ least → IsLeft least n old new → Keeping old new
left least n old new le d =
    let enough = d.enough in
    subst (λ (s : Site). Keeping old s) (sym d.after) (record { name = refl; still = facts.left old.hardened d.hardened n old.sequence (omega arith) d.most })

begins : (old new : Site) → IsFitSite old → Begins old new → Keeping old new
begins old new f d = subst (λ (s : Site). Keeping old s) (sym d.after) (record { name = refl; still = hardened old f })

follows : (a old new : Site) → IsFitSite old → Follows a old new → Keeping old new
follows a old new f d = subst (λ (s : Site). Keeping old s) (sym d.after) (record { name = refl; still = hardened old f })

at-place : (w v : World) (i : ℕ) (P : Site → Site → Type 0) (Q : ℕ → Site → Site → Type 0) → At i P Q w v → (j : ℕ) (a : Site) → slice_get w j ≡ Some a
    → ((new : Site) → j ≡ i → P a new → Keeping a new) → ((new : Site) → Q j a new → Keeping a new) → IsDurable v j a
at-place w v i P Q step j a at here other =
    let r = places.forth i P Q w v step j a at in
    let k : Keeping a r.0 = elim r.2 [ inl p ↦ here r.0 p.0 p.1 | inr q ↦ other r.0 q.1 ] in
    record { site = r.0; there = r.1; name = k.name; still = k.still }

one : (w v : World) (i : ℕ) (P : Site → Site → Type 0) → At i P Same w v → (j : ℕ) (a : Site) → IsFitSite a → slice_get w j ≡ Some a
    → ((old new : Site) → IsFitSite old → P old new → Keeping old new) → IsDurable v j a
one w v i P step j a f at here = at-place w v i P Same step j a at (λ new e p. here a new f p) (λ new q. same a new q)

step : (w v : World) (e : Event) (j : ℕ) (a : Site) → IsFit w → Happens w e v → IsNoRollOf j e → slice_get w j ≡ Some a → IsDurable v j a
step w v (Decide i u) j a h s spared at = one w v i (Decides u) s j a (h.each j a at) at (decides u)
step w v (Harden i) j a h s spared at = one w v i Hardens s j a (h.each j a at) at hardens
step w v (Send i) j a h s spared at = one w v i (Sends s.1) s.3 j a (h.each j a at) at (sends s.1)
step w v (Receive i) j a h s spared at = one w v i Receives s j a (h.each j a at) at receives
step w v (Apply i) j a h s spared at = one w v i Applies s j a (h.each j a at) at applies
step w v (Cut i) j a h s spared at = one w v i IsCut s j a (h.each j a at) at cuts
step w v (Crash i n) j a h s spared at =
    at-place w v i (IsLeft s.0.hardened n) (IfFollowing s.0.name (resumed s.0.name)) s.3 j a at
    (λ new e p. let one_site : s.0 ≡ a = moves.same-site w i j s.0 a s.1 at (sym e) in let size : s.0.hardened ≡ a.hardened = ap (λ (x : Site). x.hardened) one_site in left s.0.hardened n a new (omega arith) p)
    (λ new q. if-following s.0.name j a new q)
step w v (Begin i) j a h s spared at = one w v i Begins s j a (h.each j a at) at begins
step w v (Follow i k) j a h s spared at = one w v i (Follows s.0) s.2 j a (h.each j a at) at (follows s.0)
step w v (Roll i t) j a h s spared at =
    at-place w v i (IsLeft 0 t) (IfFollowing s.0.name (set_back s.0.name)) s.3 j a at
    (λ new e p. absurd (spared (sym e)))
    (λ new q. if-set-back s.0.name j a new q)

pub durable : (w v : World) (events : List Event) (i : ℕ) (a : Site) → IsFit w → Reaches w events v → AllByRecursion (IsNoRollOf i) events
    → slice_get w i ≡ Some a → IsDurable v i a
durable w v [] i a h reaches none at =
    record { site = a; there = subst (λ (u : World). slice_get u i ≡ Some a) (sym reaches) at; name = refl; still = lists.whole (hardened_part a) }
durable w v (e ∷ es) i a h reaches none at =
    let m = reaches.0 in
    let d = step w m e i a h reaches.1 none.0 at in
    let r = durable m v es i d.site (steps.step-fit w m e h reaches.1) reaches.2 none.1 d.there in
    record {
      site = r.site;
      there = r.there;
      name = r.name ∙ d.name;
      still = lists.onward (hardened_part a) (hardened_part d.site) (hardened_part r.site) d.still r.still;
    }

pub prefixes-of : (v : World) → IsFit v → (j : ℕ) (b : Site) (primary : List ℕ) (sent received : Sequence) → slice_get v j ≡ Some b
    → b.role ≡ Following primary sent received → Rattle.lineage_defs.specs.Lineage.HasPrimary v primary sent received b.sequence
prefixes-of v h j b primary sent received at role = h.sessions j b primary sent received at role
