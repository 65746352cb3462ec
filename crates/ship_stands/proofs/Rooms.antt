-- How many nodes updates can make.
use Rattle.std.proofs.Common.{Equal, ◌≡◌, ℕ, zero, suc, ◌+◌, ◌-◌, ◌≤◌, not, Bool, true, false, cond, List, [], ◌∷◌, ◌++◌, length, take, fold, filter, Option, None, refl, sym, ap, ◌∙◌, arith, append-nil, length-take}
use Rattle.std.specs.List.{flat_map}
use Rattle.std.specs.FinMap as map
use Rattle.std.specs.FinMap.Entries.{find-where_key}
use Rattle.std.proofs.lemmas.List.Sums.{fold-append, length-filter, count_by-le-length}
use Rattle.std.proofs.lemmas.Grind.{flat_map-append}
use Rattle.global_defs.specs.declared.limits.TheConstants.{MOST_NODES}
use Rattle.global_defs.specs.Key.{Key, key_cmp}
use Rattle.global_defs.specs.Entry.{Update, Set, Kill, ZKill, Entry, Sequence, Globals, apply, is_under, state}
use Rattle.global_defs.proofs.Order.{key_total, key_same}
use Rattle.ship_defs.specs.Hearing.{HasRoom}
use Rattle.ship_stands.specs.Stories.{idle}

at_most_one : (b : Bool) (n : ℕ) → cond b n (n + 1) ≤ n + 1
at_most_one true n = omega arith
at_most_one false n = omega arith

at_most_all : (b : Bool) (n : ℕ) → cond b (n - 1) n ≤ n
at_most_all true n = omega arith
at_most_all false n = omega arith

listed : (es : List (Key × List ℕ)) → map.len (map.from_entries {R = key_cmp} es) ≤ length es
listed [] = let none = map.len-empty key_cmp (List ℕ) in omega (arith, none)
listed (e ∷ es) =
    let rest = listed es in
    let is = map.len-insert key_total (map.from_entries {R = key_cmp} es) e.0 e.1 in
    let most = at_most_one (map.contains_key (map.from_entries {R = key_cmp} es) e.0) (map.len (map.from_entries {R = key_cmp} es)) in
    omega (arith, rest, is, most)

-- what is left of a map is made of those of its nodes whose keys pass
left_of : (g : Globals) (p : Key → Bool) → map.retain_keys g p ≡ map.from_entries (filter (λ (e : Key × List ℕ). p e.0) (map.entries g))
left_of g p = map.same_map key_total key_same (map.retain_keys g p) (map.from_entries (filter (λ (e : Key × List ℕ). p e.0) (map.entries g))) (λ q.
    let alike : (x : Key) → key_cmp q x ≡ Equal → p x ≡ p q = λ x e. ap p (sym (key_same q x e)) in
    map.get-retain_keys g p q alike ∙ ap (λ (o : Option (List ℕ)). cond (p q) o None) (map.get-entries g q)
    ∙ sym (find-where_key key_cmp p q alike (map.entries g)) ∙ sym (map.get-from_entries key_total (filter (λ (e : Key × List ℕ). p e.0) (map.entries g)) q))

fewer : (g : Globals) (p : Key → Bool) → map.len (map.retain_keys g p) ≤ map.len g
fewer g p =
    let passes : Key × List ℕ → Bool = λ e. p e.0 in
    let same : map.len (map.retain_keys g p) ≡ map.len (map.from_entries {R = key_cmp} (filter passes (map.entries g))) = ap map.len (left_of g p) in
    let most = listed (filter passes (map.entries g)) in
    omega (arith, same, most, length-filter passes (map.entries g), count_by-le-length passes (map.entries g), map.len-entries g)

one_more : (g : Globals) (u : Update) → map.len (apply g u) ≤ map.len g + 1
one_more g (Set k v) = let is = map.len-insert key_total g k v in let most = at_most_one (map.contains_key g k) (map.len g) in omega (arith, is, most)
one_more g (Kill k) = let less = fewer g (λ q. not (is_under k q)) in omega (arith, less)
one_more g (ZKill k) = let is = map.len-remove key_total g k in let most = at_most_all (map.contains_key g k) (map.len g) in omega (arith, is, most)

-- each update makes one node at most
pub made : (g : Globals) (us : List Update) → map.len (fold apply g us) ≤ map.len g + length us
made g [] = omega arith
made g (u ∷ us) = let rest = made (apply g u) us in let first = one_more g u in omega (arith, rest, first)

pub has_room : (g : Globals) (us : List Update) (n : ℕ) → map.len g ≤ n → n + length us ≤ MOST_NODES → HasRoom g us
has_room g us n few most k least = let now = made g (take k us) in omega (arith, now, length-take k us, few, most)

-- the globals of one entry more
pub state_push : (all : Sequence) (e : Entry) → state (all ++ e ∷ []) ≡ fold apply (state all) e.transaction.updates
state_push all e =
    let updates : Entry → List Update = λ x. x.transaction.updates in
    ap (fold apply map.empty) (flat_map-append updates all (e ∷ [])) ∙ fold-append apply map.empty (flat_map updates all) (flat_map updates (e ∷ []))
    ∙ ap (fold apply (state all)) (append-nil e.transaction.updates)

pub idle_length : (n : ℕ) → length (idle n) ≡ n
idle_length zero = refl
idle_length (suc n) = ap suc (idle_length n)

no_updates : (n : ℕ) → flat_map (λ (e : Entry). e.transaction.updates) (idle n) ≡ []
no_updates zero = refl
no_updates (suc n) = no_updates n

-- entries that change nothing make no node
pub idle_nodes : (n : ℕ) → map.len (state (idle n)) ≡ 0
idle_nodes n = ap (λ us. map.len (fold apply map.empty us)) (no_updates n) ∙ map.len-empty key_cmp (List ℕ)
