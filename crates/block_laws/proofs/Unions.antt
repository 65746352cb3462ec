-- The globals of all regions together.
use Rattle.std.proofs.Common.{◌≡◌, ◌≢◌, ℕ, zero, suc, ◌<◌, Bool, true, false, cond, List, [], ◌∷◌, ◌++◌, length, flat_map, slice_get, Option, Some, None, refl, sym, ◌∙◌, ap, arith, unwrap_or}
use Rattle.std.specs.Option.{option_or}
use Rattle.std.specs.List.{AllByRecursion}
use Rattle.std.specs.Ordering.{eq_by_cmp}
use Rattle.std.specs.FinMap as globals
use Rattle.global_defs.specs.Key.{Key, key_cmp}
use Rattle.global_defs.specs.Entry.{Globals, Sequence, state}
use Rattle.global_defs.proofs.Order.{key_total, key_same}
use Rattle.journal_defs.specs.Directory.{Pattern, region_of}
use Rattle.journal_defs.specs.Sound.{region_state}
use Rattle.journal_laws.proofs.Regions as regions
use Rattle.block_laws.specs.Nodes.{union}
use Rattle.block_laws.proofs.Parts as parts

find-both : (q : Key) (es fs : List (Key × List ℕ)) → globals.find key_cmp q (es ++ fs) ≡ option_or (globals.find key_cmp q es) (globals.find key_cmp q fs)
find-both q [] fs = refl
find-both q (e ∷ es) fs = ap (λ (o : Option (List ℕ)). cond (eq_by_cmp key_cmp q e.0) (Some e.1) o) (find-both q es fs) ∙ inside (eq_by_cmp key_cmp q e.0)
  where
    inside : (b : Bool) → cond b (Some e.1) (option_or (globals.find key_cmp q es) (globals.find key_cmp q fs)) ≡ option_or (cond b (Some e.1) (globals.find key_cmp q es)) (globals.find key_cmp q fs)
    inside true = refl
    inside false = refl

-- the nodes of some globals, one after another
abbrev all_of : List Globals → List (Key × List ℕ)
all_of gs = flat_map (λ (g : Globals). globals.entries g) gs

find-first : (q : Key) (g : Globals) (gs : List Globals) → globals.find key_cmp q (all_of (g ∷ gs)) ≡ option_or (globals.get g q) (globals.find key_cmp q (all_of gs))
find-first q g gs = find-both q (globals.entries g) (all_of gs) ∙ ap (λ (o : Option (List ℕ)). option_or o (globals.find key_cmp q (all_of gs))) (sym (globals.get-entries g q))

pub or_none : {X : Type 0} (o : Option X) → option_or o None ≡ o
or_none None = refl
or_none (Some x) = refl

-- none of them has the key
nowhere : (q : Key) (gs : List Globals) → ((i : ℕ) (g : Globals) → slice_get gs i ≡ Some g → globals.get g q ≡ None) → globals.find key_cmp q (all_of gs) ≡ None
nowhere q [] none = refl
nowhere q (g ∷ gs) none =
    find-first q g gs ∙ ap (λ (o : Option (List ℕ)). option_or o (globals.find key_cmp q (all_of gs))) (none 0 g refl) ∙ nowhere q gs (λ i h is. none (suc i) h is)

-- the one at this place alone has it
somewhere : (q : Key) (gs : List Globals) (k : ℕ) (x : Globals) → slice_get gs k ≡ Some x → ((i : ℕ) (g : Globals) → i ≢ k → slice_get gs i ≡ Some g → globals.get g q ≡ None)
    → globals.find key_cmp q (all_of gs) ≡ globals.get x q
somewhere q [] k x here none = let gone : None ≡ Some x = here in cc
somewhere q (g ∷ gs) zero x here none =
    let same : g ≡ x = ap (λ (o : Option Globals). unwrap_or o g) here in
    find-first q g gs ∙ ap (option_or (globals.get g q)) (nowhere q gs (λ i h is. none (suc i) h (λ e. omega (arith, e)) is)) ∙ or_none (globals.get g q) ∙ ap (λ (h : Globals). globals.get h q) same
somewhere q (g ∷ gs) (suc k) x here none =
    find-first q g gs ∙ ap (λ (o : Option (List ℕ)). option_or o (globals.find key_cmp q (all_of gs))) (none 0 g (λ e. omega (arith, e)) refl)
    ∙ somewhere q gs k x here (λ i h other is. none (suc i) h (λ e. other (omega (arith, e))) is)

within : (gs : List Globals) (i : ℕ) (g : Globals) → slice_get gs i ≡ Some g → i < length gs
within [] i g is = let gone : None ≡ Some g = is in cc
within (h ∷ gs) zero g is = omega arith
within (h ∷ gs) (suc i) g is = let low = within gs i g is in omega (arith, low)

pub together : (ps : List Pattern) (gs : List Globals) (seq : Sequence) → 0 < length gs → AllByRecursion (λ p. p.region < length gs) ps
    → ((r : ℕ) → r < length gs → slice_get gs r ≡ Some (region_state ps r seq)) → union gs ≡ state seq
together ps gs seq some low each = globals.same_map key_total key_same (union gs) (state seq) (λ q.
    let r : ℕ = region_of ps q.name in
    globals.get-from_entries key_total (all_of gs) q
    ∙ somewhere q gs r (region_state ps r seq) (each r (regions.below ps q.name (length gs) some low))
    (λ i g other is.
    let same : g ≡ region_state ps i seq = ap (λ (o : Option Globals). unwrap_or o g) (sym is ∙ each i (within gs i g is)) in
    ap (λ (h : Globals). globals.get h q) same ∙ parts.elsewhere ps seq i q (λ e. other (sym e)))
    ∙ parts.get ps seq q)
