-- Cells give the globals back whose cells they are.
use Rattle.std.proofs.Common.{◌≡◌, ℕ, zero, suc, ◌+◌, ◌≤◌, ◌==◌, true, List, [], ◌∷◌, ◌++◌, length, take, drop, map, position, Option, Some, unwrap_or, IsTrue, refl, sym, ap, ◌∙◌, arith}
use Rattle.std.specs.List.{AllByRecursion, list_all, flat_map}
use Rattle.std.specs.FinMap as globals
use Rattle.std.proofs.Math.Seq.{take-append_seam, drop-append-add}
use Rattle.std.proofs.lemmas.Bool.{and_parts}
use Rattle.global_defs.specs.declared.limits.TheConstants.{MOST_SUBS}
use Rattle.global_defs.specs.Key.{Key, Sub, sub_of, key_cmp}
use Rattle.global_defs.specs.Valid.{is_key, is_sub}
use Rattle.global_defs.specs.Encoded.{encoded, encoded_sub}
use Rattle.global_defs.specs.Entry.{Globals}
use Rattle.global_defs.proofs.NumberValue as numbers
use Rattle.global_defs.proofs.Order.{key_total, key_same}
use Rattle.global_defs.proofs.ValidKeys.{valid_parts}
use Rattle.gvn_key.specs.Decoding.{sub_end, sub_read}
use Rattle.gvn_key.proofs.Decoded.{front, last_byte, sub_back, end_found}
use Rattle.gvn_key.proofs.KeyRead.{end_known, cut}
use Rattle.journal_defs.specs.Leaves.{Cell, cells_of}
use Rattle.block_laws.specs.Nodes.{HaveKeys}
use Rattle.gvt_leaf.specs.Nodes.{sub_ending, subs_in, key_in, globals_in}
use Rattle.gvn_key.proofs.Subscripts.{code_parts}

pub subs_back : (n : ℕ) (ss : List Sub) → length ss ≤ n → list_all is_sub ss ≡ true → subs_in n (flat_map encoded_sub ss) ≡ ss
subs_back zero [] few h = refl
subs_back zero (s ∷ ss) few h = absurd (omega arith)
subs_back (suc n) [] few h = refl
subs_back (suc n) (s ∷ ss) few h =
    let t = and_parts (is_sub s) (list_all is_sub ss) h in
    let more : List ℕ = flat_map encoded_sub ss in
    let bytes : List ℕ = front s ++ (last_byte s ∷ more) in
    let one : sub_of (unwrap_or (sub_read (take (length (front s)) bytes)) []) ≡ s =
    ap (λ (x : List ℕ). sub_of (unwrap_or (sub_read x) [])) (take-append_seam (front s) (last_byte s ∷ more))
    ∙ ap (λ (o : Option (List ℕ)). sub_of (unwrap_or o [])) (sub_back s t.0) ∙ numbers.sub_back s t.0 in
    let rest : subs_in n (drop (length (front s) + 1) bytes) ≡ ss = ap (subs_in n) (drop-append-add (front s) (last_byte s ∷ more) 1) ∙ subs_back n ss (omega arith) t.1 in
    ap (λ (x : List ℕ). sub_ending (sub_end x) x (subs_in n)) (code_parts s ss)
    ∙ ap (λ (o : Option ℕ). sub_ending o bytes (subs_in n)) (end_found s t.0 more)
    ∙ (λ i. one i ∷ rest i)

pub key_back : (k : Key) → is_key k ≡ true → key_in (encoded k) ≡ k
unfolding key_in
key_back k h =
    let valid = valid_parts k h in
    let at : position (λ b. b == 0) (encoded k) ≡ Some (length k.name) = end_known (encoded k) k h refl in
    let parts = cut (encoded k) (length k.name) k at h refl in
    let name : take (unwrap_or (position (λ b. b == 0) (encoded k)) 0) (encoded k) ≡ k.name =
    ap (λ (o : Option ℕ). take (unwrap_or o 0) (encoded k)) at ∙ parts.name in
    let subs : subs_in MOST_SUBS (drop (unwrap_or (position (λ b. b == 0) (encoded k)) 0 + 1) (encoded k)) ≡ k.subs =
    ap (λ (o : Option ℕ). subs_in MOST_SUBS (drop (unwrap_or o 0 + 1) (encoded k))) at ∙ ap (subs_in MOST_SUBS) (sym parts.subs) ∙ subs_back 31 k.subs valid.few valid.subs in
    λ i. record { name = name i; subs = subs i }

nodes_back : (es : List (Key × List ℕ)) → AllByRecursion (λ e. IsTrue (is_key e.0)) es → map (λ (c : Cell). (key_in c.0, c.1)) (map (λ (e : Key × List ℕ). (encoded e.0, e.1)) es) ≡ es
nodes_back [] all = refl
nodes_back (e ∷ es) all = let key : key_in (encoded e.0) ≡ e.0 = key_back e.0 all.0 in λ i. (key i, e.1) ∷ nodes_back es all.1 i

-- a map's cells give it back
pub globals_back : (g : Globals) → HaveKeys g → globals_in (cells_of g) ≡ g
unfolding globals_in
globals_back g all =
    globals.same_map key_total key_same (globals_in (cells_of g)) g (λ q.
    globals.get-from_entries key_total (map (λ (c : Cell). (key_in c.0, c.1)) (cells_of g)) q
    ∙ ap (λ (es : List (Key × List ℕ)). globals.find key_cmp q es) (nodes_back (globals.entries g) all)
    ∙ sym (globals.get-entries g q))
