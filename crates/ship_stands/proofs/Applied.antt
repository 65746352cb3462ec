-- What a stand-in of a secondary is with one entry more.
use Rattle.std.proofs.Common.{◌≡◌, ℕ, ◌+◌, ◌≤◌, IsTrue, List, [], ◌∷◌, ◌++◌, length, fold, Some, None, sym, ap, subst, ◌∙◌, arith, length-append}
use Rattle.std.specs.FinMap as map
use Rattle.global_defs.specs.Entry.{Transaction, Entry, Stamp, Sequence, Reign, Globals, apply, state}
use Rattle.global_defs.specs.Prefix.{stamp_at}
use Rattle.update_process.specs.Copies.{Copy, next_of, reigns_next, took, Takes}
use Rattle.ship_stands.specs.StampLaws.{has_stamp, is_told}
use Rattle.ship_stands.specs.Stories.{stamp_or, told_on}
use Rattle.ship_stands.proofs.Rooms.{made, state_push}
use Rattle.ship_stands.proofs.Stamped.{stamp_later}

pub one_longer : (all now : Sequence) (rs : List Reign) (t : Transaction) → now ≡ told_on all rs t → length now ≡ length all + 1
one_longer all now rs t is = ap length is ∙ length-append all (record { stamp = stamp_or (stamp_at (length all + 1) rs); transaction = t } ∷ [])

pub nodes_now : (all now : Sequence) (rs : List Reign) (t : Transaction) (n : ℕ) → now ≡ told_on all rs t → map.len (state all) ≤ n → map.len (state now) ≤ n + length t.updates
nodes_now all now rs t n is few =
    let same : map.len (state now) ≡ map.len (fold apply (state all) t.updates) = ap (λ s. map.len (state s)) is ∙ ap map.len (state_push all (record { stamp = stamp_or (stamp_at (length all + 1) rs); transaction = t })) in
    let most = made (state all) t.updates in
    omega (arith, same, most, few)

pub stamped_now : (all now : Sequence) (rs : List Reign) (t : Transaction) (stamp : Stamp) → now ≡ told_on all rs t → stamp_at (length all + 1) rs ≡ Some stamp → IsTrue (has_stamp (length now + 1) rs)
stamped_now all now rs t stamp is under =
    subst (λ (n : ℕ). IsTrue (has_stamp (n + 1) rs)) (sym (one_longer all now rs t is)) (stamp_later (length all + 1) rs (ap is_told under))

-- a site with that sequence and those reigns, which hasn't hardened more than that
abbrev with_all : ℕ → Sequence → List Reign → Globals → Copy
with_all h all rs g = record { sequence = all; hardened = h; reigns = rs; remembered = None; globals = g }

pub takes_now : (c : Copy) (now : Sequence) (rs : List Reign) (t : Transaction) (stamp : Stamp) → c.globals ≡ state c.sequence → rs ≡ reigns_next c → now ≡ told_on c.sequence rs t → stamp_at (next_of c) (reigns_next c) ≡ Some stamp
    → Takes t c (with_all c.hardened now rs (state now))
takes_now c now rs t stamp globals reigns is under =
    let entry : Entry = record { stamp = stamp; transaction = t } in
    let all : Sequence = c.sequence ++ entry ∷ [] in
    let has : now ≡ all = is ∙ ap (λ (s : Stamp). c.sequence ++ record { stamp = s; transaction = t } ∷ []) (ap (λ (l : List Reign). stamp_or (stamp_at (next_of c) l)) reigns ∙ ap stamp_or under) in
    let now_is : with_all c.hardened now rs (state now) ≡ took c stamp t =
    ap (λ (s : Sequence). with_all c.hardened s rs (state s)) has ∙ ap (λ (l : List Reign). with_all c.hardened all l (state all)) reigns
    ∙ ap (λ (g : Globals). with_all c.hardened all (reigns_next c) g) (state_push c.sequence entry ∙ ap (λ (g : Globals). fold apply g t.updates) (sym globals)) in
    (stamp, under, now_is)
