-- What a crash may leave of a site is a front of its sequence.
use Rattle.std.proofs.Common.{◌≡◌, ℕ, ◌≤◌, length, slice_get, Some, sym, subst, arith}
use Rattle.global_defs.specs.declared.limits.TheConstants.{MOST_REIGNS}
use Rattle.global_defs.specs.Entry.{Sequence}
use Rattle.global_defs.specs.Prefix.{IsPrefix}
use Rattle.global_defs.specs.Rising.{SerialsRise, begun_by}
use Rattle.lineage_defs.specs.Histories.{IsHistory}
use Rattle.lineage_defs.specs.Sites.{Following, Site, World}
use Rattle.lineage_defs.specs.Lineage.{Agree, HasCycles, IsFit}
use Rattle.lineage_defs.specs.Outcomes.{IsOutcome}
use Rattle.resync_core.proofs.BegunReigns.{fewer-begun}
use Rattle.resync_core.proofs.Fronts as lists
use Rattle.resync_core.proofs.HistoryLaws as histories
use Rattle.resync_core.proofs.Facts as facts
use Rattle.resync_core.proofs.Hardened as hardened
use Rattle.resync_core.proofs.SharedFronts as shared

front : (a : Site) (x : Sequence) → IsOutcome a x → IsPrefix x a.sequence
front a x o = subst (λ (l : Sequence). IsPrefix l a.sequence) (sym o.is) (lists.front o.size a.sequence)

pub agree : (w : World) (i j : ℕ) (a b : Site) (x y : Sequence) → IsFit w → slice_get w i ≡ Some a → slice_get w j ≡ Some b → IsOutcome a x → IsOutcome b y → Agree x y
agree w i j a b x y h at bt o q = shared.agree-fronts x y a.sequence b.sequence (front a x o) (front b y q) (h.agree i j a b at bt)

pub cycles : (w : World) (i j : ℕ) (a b : Site) (y : Sequence) → IsFit w → slice_get w i ≡ Some a → slice_get w j ≡ Some b → IsOutcome b y → HasCycles a.name a.cycle y
cycles w i j a b y h at bt o n e is root = h.cycles i j a b at bt n e (lists.prefix-get y b.sequence n e (front b y o) is) root

pub rise : (w : World) (i : ℕ) (a : Site) (x : Sequence) → IsFit w → slice_get w i ≡ Some a → IsOutcome a x → SerialsRise x
rise w i a x h at o = facts.rise-front x a.sequence (front a x o) (h.each i a at).rise

pub history : (w : World) (i : ℕ) (a : Site) (x : Sequence) → IsFit w → slice_get w i ≡ Some a → IsOutcome a x → IsHistory a.reigns x
history w i a x h at o = histories.of-front a.reigns a.sequence x (h.each i a at).history (front a x o)

pub few : (w : World) (i : ℕ) (a : Site) (x : Sequence) → IsFit w → slice_get w i ≡ Some a → IsOutcome a x → length (begun_by (length x) a.reigns) ≤ MOST_REIGNS
few w i a x h at o =
    let less = fewer-begun (length x) (length a.sequence) a.reigns (lists.prefix-length x a.sequence (front a x o)) in
    let most = (h.each i a at).few in
    omega arith

pub follower : (w : World) (i j : ℕ) (a b : Site) (x sent received : Sequence) → IsFit w → slice_get w i ≡ Some a → slice_get w j ≡ Some b
    → b.role ≡ Following a.name sent received → IsOutcome a x → IsPrefix b.sequence x
follower w i j a b x sent received h at bt role o =
    subst (λ (l : Sequence). IsPrefix b.sequence l) (sym o.is) (hardened.follower w i j o.size a b sent received h at bt role o.least)
