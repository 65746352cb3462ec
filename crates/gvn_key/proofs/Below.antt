-- The subscripts of a key below those of a node above it.
use Rattle.std.proofs.Common.{◌≡◌, ℕ, ◌+◌, ◌≤◌, true, false, List, [], ◌∷◌, ◌++◌, length, drop, nat_eq, Option, Some, None, option_map, if◌then◌else◌, refl, sym, ap, ◌∙◌, arith, append_assoc, append-nil}
use Rattle.std.specs.Prelude.{IfSome}
use Rattle.std.specs.Ordering.{nat_cmp, eq_by_cmp}
use Rattle.std.specs.Cmp.Lexicographic.{slice_cmp}
use Rattle.std.specs.List.{starts_with, flat_map, list_all}
use Rattle.std.specs.FinMap as map
use Rattle.std.proofs.Math.Seq.{take-append_seam}
use Rattle.std.proofs.Math.ListN.{length-append}
use Rattle.std.proofs.lemmas.Grind.{flat_map-append}
use Rattle.std.proofs.lemmas.Bool.{and_parts, le-leb}
use Rattle.global_defs.specs.Key.{Key, Sub, sub_of, sub_cmp}
use Rattle.global_defs.specs.Encoded.{encoded, encoded_sub}
use Rattle.global_defs.specs.Entry.{is_under}
use Rattle.global_defs.specs.Evaluation.{first_sub}
use Rattle.global_defs.specs.Valid.{is_key, is_sub}
use Rattle.global_defs.proofs.Order.{sub_same}
use Rattle.global_defs.proofs.KeyOrder.{key_begins, is_equal}
use Rattle.global_defs.proofs.NumberValue as numbers
use Rattle.global_defs.proofs.ValidKeys.{valid_parts}
use Rattle.gvn_key.specs.Decoding.{sub_below, sub_end, sub_read, first_read}
use Rattle.gvn_key.specs.Faults.{child_of}
use Rattle.gvn_key.proofs.Decoded.{front, last_byte, sub_back, end_found}
use Rattle.gvn_key.proofs.Subscripts.{code_parts}
use Rattle.gvn_key.proofs.Splits.{behind_front}

-- ---- the first subscript is read

pub first_back : (ss : List Sub) → list_all is_sub ss ≡ true → option_map sub_of (first_read (sub_end (flat_map encoded_sub ss)) (flat_map encoded_sub ss)) ≡ first_sub ss
first_back [] h = refl
first_back (s ∷ ss) h =
    let t = and_parts (is_sub s) (list_all is_sub ss) h in
    let more : List ℕ = flat_map encoded_sub ss in
    let bytes : List ℕ = front s ++ (last_byte s ∷ more) in
    ap (λ (x : List ℕ). option_map sub_of (first_read (sub_end x) x)) (code_parts s ss)
    ∙ ap (λ (o : Option ℕ). option_map sub_of (first_read o bytes)) (end_found s t.0 more)
    ∙ ap (λ (x : List ℕ). option_map sub_of (sub_read x)) (take-append_seam (front s) (last_byte s ∷ more))
    ∙ ap (option_map sub_of) (sub_back s t.0) ∙ ap Some (numbers.sub_back s t.0)

-- ---- a key under a node has the node's subscripts and more

rest_of : (xs ys : List Sub) → starts_with (eq_by_cmp sub_cmp) ys xs ≡ true → ys ≡ xs ++ drop (length xs) ys
rest_of [] ys h = refl
rest_of (x ∷ xs) [] h = cc
rest_of (x ∷ xs) (y ∷ ys) h =
    let t = and_parts (eq_by_cmp sub_cmp x y) (starts_with (eq_by_cmp sub_cmp) ys xs) h in
    λ i. sym (sub_same x y (is_equal (sub_cmp x y) t.0)) i ∷ rest_of xs ys t.1 i

abbrev pub below_subs : Key → Key → List Sub
below_subs top key = drop (length top.subs) key.subs

pub record IsUnder (top key : Key) : Type 0 where
  pub name : top.name ≡ key.name
  pub subs : key.subs ≡ top.subs ++ below_subs top key
  pub code : encoded key ≡ encoded top ++ flat_map encoded_sub (below_subs top key)

pub under_parts : (top key : Key) → is_under top key ≡ true → IsUnder top key
under_parts top key u =
    let t = and_parts (eq_by_cmp (slice_cmp nat_cmp) top.name key.name) (starts_with (eq_by_cmp sub_cmp) key.subs top.subs) u in
    let name : top.name ≡ key.name = map.slice_cmp-IsAntisymmetric map.nat_cmp-IsAntisymmetric top.name key.name (is_equal (slice_cmp nat_cmp top.name key.name) t.0) in
    let subs : key.subs ≡ top.subs ++ below_subs top key = rest_of top.subs key.subs t.1 in
    let code : flat_map encoded_sub key.subs ≡ flat_map encoded_sub top.subs ++ flat_map encoded_sub (below_subs top key) = ap (flat_map encoded_sub) subs ∙ flat_map-append encoded_sub top.subs (below_subs top key) in
    record {
      name = name;
      subs = subs;
      code = (λ i. sym name i ++ (0 ∷ code i)) ∙ sym (append_assoc top.name (0 ∷ flat_map encoded_sub top.subs) (flat_map encoded_sub (below_subs top key)));
    }

all_behind : (xs ys : List Sub) → list_all is_sub (xs ++ ys) ≡ true → list_all is_sub ys ≡ true
all_behind [] ys h = h
all_behind (x ∷ xs) ys h = all_behind xs ys (and_parts (is_sub x) (list_all is_sub (xs ++ ys)) h).1

pub below_valid : (top key : Key) → is_key key ≡ true → is_under top key ≡ true → list_all is_sub (below_subs top key) ≡ true
below_valid top key v u = all_behind top.subs (below_subs top key) (ap (list_all is_sub) (sym (under_parts top key u).subs) ∙ (valid_parts key v).subs)

all_with : (xs : List Sub) (y : Sub) → list_all is_sub xs ≡ true → is_sub y ≡ true → list_all is_sub (xs ++ y ∷ []) ≡ true
all_with [] y h g = rw g refl
all_with (x ∷ xs) y h g = let t = and_parts (is_sub x) (list_all is_sub xs) h in rw t.0 (all_with xs y t.1 g)

-- a key cut off behind the first of them is one
pub child_valid : (top key : Key) (s : Sub) → is_key top ≡ true → is_key key ≡ true → is_under top key ≡ true → first_sub (below_subs top key) ≡ Some s → is_key (child_of top s) ≡ true
child_valid top key s vt v u e = by (below_subs top key) refl e
  where
    by : (ss : List Sub) → below_subs top key ≡ ss → first_sub ss ≡ Some s → is_key (child_of top s) ≡ true
    by [] split e = cc
    by (t ∷ ts) split e =
        let is : t ≡ s = cc in
        let parts = valid_parts top vt in
        let whole = valid_parts key v in
        let under = under_parts top key u in
        let sub : is_sub t ≡ true = (and_parts (is_sub t) (list_all is_sub ts) (ap (list_all is_sub) (sym split) ∙ below_valid top key v u)).0 in
        let subs : list_all is_sub (top.subs ++ t ∷ []) ≡ true = all_with top.subs t parts.subs sub in
        let many : length key.subs ≡ length top.subs + length (t ∷ ts) = ap length (under.subs ∙ ap (λ ss. top.subs ++ ss) split) ∙ length-append top.subs (t ∷ ts) in
        let few : length (top.subs ++ t ∷ []) ≤ 31 = omega (arith, length-append top.subs (t ∷ []), whole.few, many) in
        let code : encoded (child_of top t) ≡ encoded top ++ encoded_sub t = ap (λ l. top.name ++ 0 ∷ l) (flat_map-append encoded_sub top.subs (t ∷ []) ∙ ap (λ l. flat_map encoded_sub top.subs ++ l) (append-nil (encoded_sub t))) ∙ sym (append_assoc top.name (0 ∷ flat_map encoded_sub top.subs) (encoded_sub t)) in
        let all : encoded key ≡ encoded top ++ (encoded_sub t ++ flat_map encoded_sub ts) = under.code ∙ ap (λ ss. encoded top ++ flat_map encoded_sub ss) split in
        let fits : length (encoded (child_of top t)) ≤ 255 = omega (arith, ap length code, length-append (encoded top) (encoded_sub t), ap length all, length-append (encoded top) (encoded_sub t ++ flat_map encoded_sub ts), length-append (encoded_sub t) (flat_map encoded_sub ts), whole.fits) in
        ap (λ x. is_key (child_of top x)) (sym is)
        ∙ rw (parts.name, le-leb (length top.name) 31 parts.short, subs, le-leb (length (top.subs ++ t ∷ [])) 31 few) (le-leb (length (encoded (child_of top t))) 255 fits)

-- ---- the subscript that the code of a key has next behind that of a node above it

module _ (top key : Key) (vt : is_key top ≡ true) (v : is_key key ≡ true) (code own : List ℕ) (is : encoded key ≡ code) (of : own ≡ encoded top) where
  pub begins_is : starts_with nat_eq code own ≡ is_under top key
  begins_is = (λ i. starts_with nat_eq (sym is i) (of i)) ∙ key_begins top key vt v

  behind_is : is_under top key ≡ true → drop (length own) code ≡ flat_map encoded_sub (below_subs top key)
  behind_is u = (λ i. drop (length (of i)) ((sym is ∙ (under_parts top key u).code) i)) ∙ behind_front (encoded top) (flat_map encoded_sub (below_subs top key))

  pub next_is : (bytes : List ℕ) (read : Option (List ℕ)) → starts_with nat_eq code own ≡ true → bytes ≡ drop (length own) code → read ≡ first_read (sub_end bytes) bytes
      → option_map sub_of read ≡ sub_below top key
  next_is bytes read b cut r =
      let u : is_under top key ≡ true = sym begins_is ∙ b in
      ap (option_map sub_of) (r ∙ ap (λ (x : List ℕ). first_read (sub_end x) x) (cut ∙ behind_is u))
      ∙ first_back (below_subs top key) (below_valid top key v u)
      ∙ ap (λ b. if b then first_sub (below_subs top key) else None) (sym u)

  pub none_next : starts_with nat_eq code own ≡ false → None ≡ sub_below top key
  none_next b = ap (λ b. if b then first_sub (below_subs top key) else None) (sym b ∙ begins_is)

  pub next_child : (read : Option (List ℕ)) → starts_with nat_eq code own ≡ true → option_map sub_of read ≡ sub_below top key → IfSome read (λ bytes. is_key (child_of top (sub_of bytes)) ≡ true)
  next_child None b r = tt
  next_child (Some bytes) b r =
      let u : is_under top key ≡ true = sym begins_is ∙ b in
      child_valid top key (sub_of bytes) vt v u (sym (r ∙ ap (λ b. if b then first_sub (below_subs top key) else None) u))
