-- What the writer learns of a reader that it takes back.
use Rattle.std.proofs.Common.{◌≡◌, ℕ, zero, suc, ◌-◌, ◌≤◌, List, [], ◌∷◌, ◌++◌, length, refl, ap, ◌∙◌, subst, arith}
use Rattle.std.specs.Prelude.{All, Some, slice_get}
use Rattle.std.proofs.lemmas.Option.{slice_get_within}
use Rattle.std.proofs.lemmas.List.Elements.{All-nil, All-cons}
use Rattle.wire_defs.specs.PoolWords.{words_from, place_of, StartsWith}
use Rattle.wire_defs.proofs.PoolWords.{count_below}
use Rattle.pool_rule.specs.Rule.{Each, IsEntryBelow}
use Rattle.jnl_pool.specs.Pooling.{Writing, IsHardenedEntry, IsNoteOf}

pub all_of : {A : Type 0} (P Q : A → Type 0) → ((x : A) → P x → Q x) → (xs : List A) → Each P xs → All Q xs
all_of P Q f [] e = All-nil Q
all_of P Q f (x ∷ xs) e = All-cons Q x xs (f x e.0) (all_of P Q f xs e.1)

at_front : (front : List (List ℕ)) (e : List ℕ) (back : List (List ℕ)) → slice_get (front ++ e ∷ back) (length front) ≡ Some e
at_front [] e back = refl
at_front (f ∷ fs) e back = at_front fs e back

still_there : (note back : List (List ℕ)) (k : ℕ) (e : List ℕ) → slice_get note k ≡ Some e → slice_get (note ++ back) k ≡ Some e
still_there [] back k e is = absurd (let past = slice_get_within [] k e is in omega arith)
still_there (x ∷ xs) back zero e is = is
still_there (x ∷ xs) back (suc k) e is = still_there xs back k e is

pub hardened_entry : (w : Writing) (count : ℕ) → count ≡ place_of w.first w.entries w.hardened → (g : ℕ × List ℕ) → IsEntryBelow w.first w.entries count g → IsHardenedEntry w g
hardened_entry w count is g b =
    let n = b.3 in
    let low : length (words_from w.first (b.0 ++ g.1 ∷ [])) ≤ place_of w.first (b.0 ++ g.1 ∷ b.1) w.hardened = subst (λ l. length (words_from w.first (b.0 ++ g.1 ∷ [])) ≤ place_of w.first l w.hardened) b.2 (let c = b.4 in omega arith) in
    let below = count_below w.first b.0 g.1 b.1 w.hardened low in
    let at : g.0 - w.first ≡ length b.0 = omega arith in
    (omega arith, omega arith, (λ i. slice_get (b.2 i) (at i)) ∙ at_front b.0 g.1 b.1)

pub noted : (w : Writing) (note : List (List ℕ)) → StartsWith w.entries note → IsNoteOf w note
noted w note s k e is = ap (λ l. slice_get l k) s.1 ∙ still_there note s.0 k e is
