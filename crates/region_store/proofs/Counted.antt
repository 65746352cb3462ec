-- How many nodes updates set.
use Rattle.std.proofs.Common.{◌≡◌, ℕ, ◌+◌, ◌<◌, ◌≤◌, ◌==◌, Bool, true, false, cond, List, [], ◌∷◌, ◌++◌, length, map, filter, fold, take, drop, sym, ◌∙◌, ap, arith, get_or}
use Rattle.std.specs.Prelude.{◌-◌, not}
use Rattle.std.specs.FinMap as globals
use Rattle.std.proofs.lemmas.List.{map_more, drop_more}
use Rattle.std.proofs.lemmas.List.Elements.{filter-append}
use Rattle.std.proofs.lemmas.List.Sums.{fold-append}
use Rattle.global_defs.specs.Key.{Key}
use Rattle.global_defs.specs.Entry.{Globals, Update, Set, Kill, ZKill, apply, is_under}
use Rattle.global_defs.proofs.Order.{key_total}
use Rattle.journal_defs.specs.Directory.{Pattern}
use Rattle.journal_defs.specs.Fit.{region_of_update}
use Rattle.block_laws.specs.Nodes.{updates_in}
use Rattle.block_laws.proofs.Kept.{entries_kept}
use Rattle.gvt_leaf.specs.Stored.{sets_of, sets_in}

-- the updates of a region when one more is made, here or elsewhere
pub here_first : (ps : List Pattern) (r : ℕ) (u : Update) (us : List Update) → (region_of_update ps u == r) ≡ true → updates_in ps r (u ∷ us) ≡ u ∷ updates_in ps r us
here_first ps r u us is = ap (λ (b : Bool). cond b (u ∷ updates_in ps r us) (updates_in ps r us)) is

pub elsewhere_first : (ps : List Pattern) (r : ℕ) (u : Update) (us : List Update) → (region_of_update ps u == r) ≡ false → updates_in ps r (u ∷ us) ≡ updates_in ps r us
elsewhere_first ps r u us is = ap (λ (b : Bool). cond b (u ∷ updates_in ps r us) (updates_in ps r us)) is

sets-append : (us vs : List Update) → sets_in (us ++ vs) ≡ sets_in us + sets_in vs
sets-append [] vs = omega arith
sets-append (u ∷ us) vs = let rest = sets-append us vs in omega (arith, rest)

pub sets_more : {X : Type 0} (f : X → Update) (ps : List Pattern) (r : ℕ) (xs : List X) (i : ℕ) (x : X) → i < length xs → x ≡ get_or xs i x
    → sets_in (updates_in ps r (map f (take (i + 1) xs))) ≡ sets_in (updates_in ps r (map f (take i xs))) + sets_in (updates_in ps r (f x ∷ []))
sets_more f ps r xs i x low is =
    ap (λ (us : List Update). sets_in (updates_in ps r us)) (map_more f xs i x low ∙ ap (λ y. map f (take i xs) ++ f y ∷ []) (sym is))
    ∙ ap sets_in (filter-append (λ (u : Update). region_of_update ps u == r) (map f (take i xs)) (f x ∷ []))
    ∙ sets-append (updates_in ps r (map f (take i xs))) (updates_in ps r (f x ∷ []))

shorter : {X : Type 0} (p : X → Bool) (xs : List X) → length (filter p xs) ≤ length xs
shorter p [] = omega arith
shorter {X} p (x ∷ xs) = by (p x) (shorter p xs)
  where
    by : (b : Bool) → length (filter p xs) ≤ length xs → length (cond b (x ∷ filter p xs) (filter p xs)) ≤ length (x ∷ xs)
    by true rest = omega (arith, rest)
    by false rest = omega (arith, rest)

fewer_kept : (g : Globals) (p : Key → Bool) → globals.len (globals.retain_keys g p) ≤ globals.len g
fewer_kept g p =
    let kept = globals.len-entries (globals.retain_keys g p) ∙ ap length (entries_kept g p) in
    let less = shorter (λ (e : Key × List ℕ). p e.0) (globals.entries g) in
    omega (arith, kept, less, globals.len-entries g)

-- an update adds at most the node that it sets
pub len-apply : (g : Globals) (u : Update) → globals.len (apply g u) ≤ globals.len g + sets_of u
len-apply g (Set key value) = by (globals.contains_key g key) (globals.len-insert key_total g key value)
  where
    by : (b : Bool) → globals.len (globals.insert g key value) ≡ cond b (globals.len g) (globals.len g + 1) → globals.len (globals.insert g key value) ≤ globals.len g + 1
    by true is = omega (arith, is)
    by false is = omega (arith, is)
len-apply g (Kill key) = let less = fewer_kept g (λ k. not (is_under key k)) in omega (arith, less)
len-apply g (ZKill key) = by (globals.contains_key g key) (globals.len-remove key_total g key)
  where
    by : (b : Bool) → globals.len (globals.remove g key) ≡ cond b (globals.len g - 1) (globals.len g) → globals.len (globals.remove g key) ≤ globals.len g + 0
    by true is = omega (arith, is)
    by false is = omega (arith, is)

-- the first of those that are left
pub first_left : {X : Type 0} (f : X → Update) (xs : List X) (i : ℕ) (x : X) → i < length xs → x ≡ get_or xs i x → map f (drop i xs) ≡ f x ∷ map f (drop (i + 1) xs)
first_left f xs i x low is = ap (map f) (drop_more xs i x low) ∙ ap (λ y. f y ∷ map f (drop (i + 1) xs)) (sym is)

-- one update more is made
pub made_more : {X : Type 0} (f : X → Update) (g : Globals) (xs : List X) (i : ℕ) (x : X) → i < length xs → x ≡ get_or xs i x → fold apply g (map f (take (i + 1) xs)) ≡ apply (fold apply g (map f (take i xs))) (f x)
made_more f g xs i x low is = ap (fold apply g) (map_more f xs i x low ∙ ap (λ y. map f (take i xs) ++ f y ∷ []) (sym is)) ∙ fold-append apply g (map f (take i xs)) (f x ∷ [])
