use Rattle.std.proofs.Common.{◌≡◌, ℕ, ◌≤◌, List, [], ◌∷◌, length, Some, None, slice_get, refl, ◌∙◌, ap, subst, arith}
use Rattle.global_defs.specs.Entry.{Entry, Sequence}
use Rattle.global_defs.specs.Beside.{At}
use Rattle.lineage_defs.specs.Sites.{Following, Waiting, Site, World, hardened_part}
use Rattle.lineage_defs.specs.Events.{Sends, Follows, IsLeft, IfFollowing, resumed, set_back, Happens, Crash, Roll}
use Rattle.lineage_defs.specs.Samples.{A, B, entry, unhardened, whole, behind, parted}
use Rattle.lineage_defs.proofs.cases.steps_are_refused.Goals as goal

unsent : (new : Site) → Sends unhardened behind new → ⊥
unsent new d =
    let role : Following A [] [] ≡ Following A d.sent d.received = d.role in
    let nothing : d.sent ≡ [] = cc in
    let none : None ≡ Some d.next = subst (λ (l : Sequence). slice_get (hardened_part unhardened) (length l) ≡ Some d.next) nothing d.there in
    cc

-- the first site of a world
first_left : (least n : ℕ) (a : Site) (Q : ℕ → Site → Site → Type 0) (w : World) → At 0 (IsLeft least n) Q (a ∷ []) w → least ≤ n
first_left least n a Q [] at = absurd at
first_left least n a Q (b ∷ w) at = let enough = at.0.enough in let most = at.0.most in omega arith

uncrashed : (w : World) → Happens (whole ∷ []) (Crash 0 0) w → ⊥
uncrashed w h =
    let same : Some whole ≡ Some h.0 = h.1 in
    let is : whole ≡ h.0 = cc in
    let hardened : 1 ≡ h.0.hardened = ap (λ (s : Site). s.hardened) is in
    let low = first_left h.0.hardened 0 whole (IfFollowing h.0.name (resumed h.0.name)) w h.3 in
    omega arith

unmatched : (rest : Sequence) → entry A 1 1 ∷ [] ≡ entry B 1 1 ∷ rest → ⊥
unmatched rest e =
    let same : entry A 1 1 ≡ entry B 1 1 = cc in
    let roots : ◌≡◌ {A = List ℕ} (65 ∷ []) (66 ∷ []) = ap (λ (x : Entry). x.stamp.root) same in
    let heads : ◌≡◌ {A = ℕ} 65 66 = cc in
    omega arith

unfollowed : (new : Site) → Follows whole parted new → ⊥
unfollowed new d = unmatched d.matched.0 d.matched.1

-- the second site of a world, a follower of the first one
second_waits : (P : Site → Site → Type 0) (w : World) (b : Site) → At 0 P (IfFollowing A (set_back A)) (whole ∷ behind ∷ []) w → slice_get w 1 ≡ Some b → b.role ≡ Waiting A
second_waits P [] b at is = absurd at
second_waits P (x ∷ []) b at is = absurd at.1
second_waits P (x ∷ y ∷ w) b at is =
    let here : Some y ≡ Some b = is in
    let same : b ≡ y = cc in
    ap (λ (s : Site). s.role) same ∙ ap (λ (s : Site). s.role) at.1.0

waits : (w : World) (b : Site) → Happens (whole ∷ behind ∷ []) (Roll 0 1) w → slice_get w 1 ≡ Some b → b.role ≡ Waiting A
waits w b h is =
    let here : Some whole ≡ Some h.0 = h.1 in
    let same : h.0 ≡ whole = cc in
    second_waits (IsLeft 0 1) w b (subst (λ (s : Site). At 0 (IsLeft 0 1) (IfFollowing s.name (set_back s.name)) (whole ∷ behind ∷ []) w) same h.3) is

pub returns : goal.returns
returns c = record { unhardened = unsent; crash = uncrashed; follow = unfollowed; roll = waits; cycle = refl }
