-- Well-formed frames have the layout, and what has the layout is one.
use Rattle.std.proofs.Common.{◌≡◌, ℕ, zero, suc, ◌-◌, ◌^◌, ◌<◌, ◌≤◌, List, [], ◌∷◌, ◌++◌, length, Bool, true, false, nat_eq, refl, sym, ap, ◌∙◌, subst, arith, append_assoc, append-nil, inl, inr}
use Rattle.std.specs.Prelude.{IsTrue}
use Rattle.std.specs.Int.{to_be_bytes, w16, w32, w64, bytes_high_first}
use Rattle.std.specs.List.{flat_map, list_all, AllByRecursion}
use Rattle.std.specs.Char.{is_ascii_alphanumeric}
use Rattle.std.proofs.lemmas.Bool.{and_parts, and_from, cases_eq, ne_eqb}
use Rattle.global_defs.specs.declared.limits.TheConstants.{LONGEST_BODY, LONGEST_VALUE, NUMBERS_END}
use Rattle.global_defs.specs.Key.{Key}
use Rattle.global_defs.specs.Entry.{Update, Set, Kill, ZKill, Reign}
use Rattle.global_defs.specs.Encoded.{encoded}
use Rattle.global_defs.specs.Valid.{is_key}
use Rattle.global_defs.specs.Fields.{short, long, spelled_update, IsUpdate, IsSiteName, IsReign}
use Rattle.wire_defs.specs.Frames as defs
use Rattle.wire_defs.specs.Frames.{Frame, spelled_reign, entry_bytes, frame_body, frame_type, spelled_frame, IsFrame, HasFields}
use Rattle.gvn_key.specs.Codes.{IsCode}
use Rattle.repl_wire.specs.declared.field.Kind.{Kind}
use Rattle.repl_wire.specs.declared.field.Kind.TheVariants.{Hello, Resume, RollbackFirst, History, Entry, Bye}
use Rattle.repl_wire.specs.Kinds.{type_of}
use Rattle.repl_wire.specs.Feeds.{IsSpelled}
use Rattle.repl_wire.specs.Layout.{Rest, Ended, Sized, One, Within, Named, Skipped, Starting, Cycling, Rooted, Reigned, Valued, Keyed, Tagged, Updated, UpdateCount, Updater, ReignCount, Lengthed, Versioned, Alone, Body, Framed}
use Rattle.repl_wire.proofs.Numbers.{spelt_from, spelt_to}

-- a value's bytes and what follows them
pub record Spelled {X : Type 0} (Form : X → Type 0) (spelled : X → List ℕ) (K : Rest) (w : List ℕ) : Type 0 where
  pub value : X
  pub rest : List ℕ
  pub form : Form value
  pub is : w ≡ spelled value ++ rest
  pub holds : K rest

-- names

letters_from : (n : ℕ) (K : Rest) (w : List ℕ) → Named false n K w → Spelled (λ (s : List ℕ). IsTrue (list_all is_ascii_alphanumeric s) × (length s ≡ n)) (λ s. s) K w
letters_from zero K w h = record { value = []; rest = w; form = (refl, refl); is = refl; holds = h }
letters_from (suc n) K [] h = absurd h
letters_from (suc n) K (b ∷ w) h =
    let s = letters_from n K w h.1 in
    record { value = b ∷ s.value; rest = s.rest; form = (and_from (is_ascii_alphanumeric b) (list_all is_ascii_alphanumeric s.value) h.0 s.form.0, ap suc s.form.1); is = ap (λ (l : List ℕ). b ∷ l) s.is; holds = s.holds }

letters_to : (s : List ℕ) (K : Rest) (rest : List ℕ) → list_all is_ascii_alphanumeric s ≡ true → K rest → Named false (length s) K (s ++ rest)
letters_to [] K rest a h = h
letters_to (b ∷ s) K rest a h = let p = and_parts (is_ascii_alphanumeric b) (list_all is_ascii_alphanumeric s) a in (p.0, letters_to s K rest p.1 h)

name_from : (n : ℕ) (K : Rest) (w : List ℕ) → 1 ≤ n → n ≤ 15 → Named true n K w → Spelled (λ (s : List ℕ). IsSiteName s × (length s ≡ n)) (λ s. s) K w
name_from zero K w some few h = absurd (omega arith)
name_from (suc n) K [] some few h = absurd h
name_from (suc n) K (b ∷ w) some few h =
    let s = letters_from n K w h.1 in
    record { value = b ∷ s.value; rest = s.rest; form = ((h.0, s.form.0, omega (arith, s.form.1)), ap suc s.form.1); is = ap (λ (l : List ℕ). b ∷ l) s.is; holds = s.holds }

name_to : (s : List ℕ) (K : Rest) (rest : List ℕ) → IsSiteName s → K rest → (1 ≤ length s) × (length s ≤ 15) × Named true (length s) K (s ++ rest)
name_to [] K rest f h = absurd f
name_to (b ∷ s) K rest f h = (omega arith, omega (arith, f.2), (f.0, letters_to s K rest f.1 h))

-- reigns

grouped : (n : ℕ) (a b c d : List ℕ) → (n ∷ a ++ b ++ c) ++ d ≡ n ∷ (a ++ (b ++ (c ++ d)))
grouped n a b c d = ap (λ (l : List ℕ). n ∷ l) (append_assoc (a ++ b) c d ∙ append_assoc a b (c ++ d))

reign_from : (K : Rest) (w : List ℕ) → One (Rooted K) w → Spelled IsReign spelled_reign K w
reign_from K [] h = absurd h
reign_from K (n ∷ w) h =
    let a = name_from n (Cycling K) w h.0 h.1 h.2 in
    let b = spelt_from 4 0 (Within 1 (2 ^ 32 - 1) (λ _. Starting K)) a.rest a.holds in
    let c = spelt_from 8 0 (Within 1 NUMBERS_END (λ _. K)) b.rest b.holds.2 in
    record {
      value = record { stamp = record { root = a.value; cycle = b.number }; start = c.number };
      rest = c.rest;
      form = record { stamp = record { root = a.form.0; cycle = (b.holds.0, omega (arith, b.holds.1)) }; start = (c.holds.0, c.holds.1) };
      is = ap (λ (m : ℕ). m ∷ w) (sym a.form.1)
          ∙ ap (λ (l : List ℕ). length a.value ∷ l) (a.is ∙ ap (λ (l : List ℕ). a.value ++ l) (b.is ∙ ap (λ (l : List ℕ). bytes_high_first 4 b.number ++ l) c.is))
          ∙ sym (grouped (length a.value) a.value (bytes_high_first 4 b.number) (bytes_high_first 8 c.number) c.rest);
      holds = c.holds.2;
    }

reign_to : (K : Rest) (r : Reign) (rest : List ℕ) → IsReign r → K rest → One (Rooted K) (spelled_reign r ++ rest)
reign_to K r rest f h = subst (λ (w : List ℕ). One (Rooted K) w) (sym (grouped (length r.stamp.root) r.stamp.root (to_be_bytes w32 r.stamp.cycle) (to_be_bytes w64 r.start) rest))
    (name_to r.stamp.root (Cycling K) (to_be_bytes w32 r.stamp.cycle ++ (to_be_bytes w64 r.start ++ rest)) f.stamp.root
    (let cycle = f.stamp.cycle in
    let start = f.start in
    spelt_to 4 0 r.stamp.cycle (Within 1 (2 ^ 32 - 1) (λ _. Starting K)) (to_be_bytes w64 r.start ++ rest) (omega arith) (omega (arith, cycle.1))
    (cycle.0, omega (arith, cycle.1), spelt_to 8 0 r.start (Within 1 NUMBERS_END (λ _. K)) rest (omega arith) (omega (arith, start.1)) (start.0, start.1, h))))

pub reigns_from : (count : ℕ) (w : List ℕ) → Reigned count w → (rs : List Reign) × AllByRecursion IsReign rs × (length rs ≡ count) × (w ≡ flat_map spelled_reign rs)
reigns_from zero w h = ([], tt, refl, h)
reigns_from (suc count) w h =
    let r = reign_from (Reigned count) w h in
    let s = reigns_from count r.rest r.holds in
    (r.value ∷ s.0, (r.form, s.1), ap suc s.2, r.is ∙ ap (λ (l : List ℕ). spelled_reign r.value ++ l) s.3)

pub reigns_to : (rs : List Reign) → AllByRecursion IsReign rs → Reigned (length rs) (flat_map spelled_reign rs)
reigns_to [] a = refl
reigns_to (r ∷ rs) a = reign_to (Reigned (length rs)) r (flat_map spelled_reign rs) a.0 (reigns_to rs a.1)

-- updates

value_from : (n : ℕ) (K : Rest) (w : List ℕ) → Skipped n K w → Spelled (λ (s : List ℕ). length s ≡ n) (λ s. s) K w
value_from zero K w h = record { value = []; rest = w; form = refl; is = refl; holds = h }
value_from (suc n) K [] h = absurd h
value_from (suc n) K (b ∷ w) h = let s = value_from n K w h in record { value = b ∷ s.value; rest = s.rest; form = ap suc s.form; is = ap (λ (l : List ℕ). b ∷ l) s.is; holds = s.holds }

value_to : (s : List ℕ) (K : Rest) (rest : List ℕ) → K rest → Skipped (length s) K (s ++ rest)
value_to [] K rest h = h
value_to (b ∷ s) K rest h = value_to s K rest h

set_from : (n : ℕ) (K : Rest) (w : List ℕ) → Keyed true K n w → Spelled IsUpdate spelled_update K (1 ∷ n ∷ w)
set_from n K w h =
    let code = h.here in
    let v = spelt_from 2 0 (Within 0 LONGEST_VALUE (λ m. Skipped m K)) h.back h.there in
    let s = value_from v.number K v.rest v.holds.2 in
    let most = v.holds.1 in
    let long_is : length (encoded code.key) ≡ n = ap length code.encodes ∙ code.long in
    record {
      value = Set code.key s.value;
      rest = s.rest;
      form = (code.valid, omega (arith, most, s.form));
      is = ap (λ (m : ℕ). 1 ∷ m ∷ w) (sym long_is)
          ∙ ap (λ (l : List ℕ). 1 ∷ length (encoded code.key) ∷ l) (h.is ∙ ap (λ (c : List ℕ). c ++ h.back) (sym code.encodes)
          ∙ ap (λ (l : List ℕ). encoded code.key ++ l) (v.is ∙ ap (λ (m : ℕ). bytes_high_first 2 m ++ v.rest) (sym s.form) ∙ ap (λ (l : List ℕ). bytes_high_first 2 (length s.value) ++ l) s.is))
          ∙ sym (set_grouped (encoded code.key) (bytes_high_first 2 (length s.value)) s.value s.rest);
      holds = s.holds;
    }
  where
    set_grouped : (k b v rest : List ℕ) → (1 ∷ (length k ∷ k) ++ (b ++ v)) ++ rest ≡ 1 ∷ length k ∷ (k ++ (b ++ (v ++ rest)))
    set_grouped k b v rest = ap (λ (l : List ℕ). 1 ∷ length k ∷ l) (append_assoc k (b ++ v) rest ∙ ap (λ (l : List ℕ). k ++ l) (append_assoc b v rest))

-- an update of its key alone
key_from : (n tag : ℕ) (K : Rest) (w : List ℕ) (make : Key → Update) → ((k : Key) → IsTrue (is_key k) → IsUpdate (make k)) → ((k : Key) → spelled_update (make k) ≡ tag ∷ short (encoded k)) → Keyed false K n w → Spelled IsUpdate spelled_update K (tag ∷ n ∷ w)
key_from n tag K w make form spelled h =
    let code = h.here in
    let long_is : length (encoded code.key) ≡ n = ap length code.encodes ∙ code.long in
    record {
      value = make code.key;
      rest = h.back;
      form = form code.key code.valid;
      is = ap (λ (m : ℕ). tag ∷ m ∷ w) (sym long_is)
          ∙ ap (λ (l : List ℕ). tag ∷ length (encoded code.key) ∷ l) (h.is ∙ ap (λ (c : List ℕ). c ++ h.back) (sym code.encodes))
          ∙ ap (λ (l : List ℕ). l ++ h.back) (sym (spelled code.key));
      holds = h.there;
    }

update_from : (K : Rest) (w : List ℕ) → One (Tagged K) w → Spelled IsUpdate spelled_update K w
update_from K [] h = absurd h
update_from K (tag ∷ []) h = absurd h.2
update_from K (tag ∷ n ∷ w) h = elim (cases_eq tag 1) as (λ _. Spelled IsUpdate spelled_update K (tag ∷ n ∷ w)) [
  | inl e ↦ subst (λ (t : ℕ). Spelled IsUpdate spelled_update K (t ∷ n ∷ w)) (sym e) (set_from n K w (subst (λ (t : ℕ). Keyed (nat_eq t 1) K n w) e h.2))
  | inr ne ↦ by_two (subst (λ (b : Bool). Keyed b K n w) (ne_eqb tag 1 ne) h.2) ne
]
  where
    by_two : Keyed false K n w → (tag ≡ 1 → ⊥) → Spelled IsUpdate spelled_update K (tag ∷ n ∷ w)
    by_two k ne = elim (cases_eq tag 2) as (λ _. Spelled IsUpdate spelled_update K (tag ∷ n ∷ w)) [
      | inl e ↦ subst (λ (t : ℕ). Spelled IsUpdate spelled_update K (t ∷ n ∷ w)) (sym e) (key_from n 2 K w Kill (λ _ v. v) (λ _. refl) k)
      | inr other ↦ let low = h.0 in let high = h.1 in let three : tag ≡ 3 = omega arith in
          subst (λ (t : ℕ). Spelled IsUpdate spelled_update K (t ∷ n ∷ w)) (sym three) (key_from n 3 K w ZKill (λ _ v. v) (λ _. refl) k)
    ]

code_of : (k : Key) → IsTrue (is_key k) → IsCode (length (encoded k)) (encoded k)
code_of k v = record { key = k; valid = v; encodes = refl; long = refl }

update_to : (K : Rest) (u : Update) (rest : List ℕ) → IsUpdate u → K rest → One (Tagged K) (spelled_update u ++ rest)
update_to K (Set k v) rest f h = subst (λ (w : List ℕ). One (Tagged K) (1 ∷ length (encoded k) ∷ w)) (sym (append_assoc (encoded k) (long v) rest))
    (omega arith, omega arith, record { front = encoded k; back = long v ++ rest; is = refl; here = code_of k f.0; there = value })
  where
    value : Valued K (long v ++ rest)
    value = let most = f.1 in subst (λ (w : List ℕ). Valued K w) (sym (append_assoc (to_be_bytes w16 (length v)) v rest))
        (spelt_to 2 0 (length v) (Within 0 LONGEST_VALUE (λ n. Skipped n K)) (v ++ rest) (omega arith) (omega arith) (omega arith, most, value_to v K rest h))
update_to K (Kill k) rest f h = (omega arith, omega arith, record { front = encoded k; back = rest; is = refl; here = code_of k f; there = h })
update_to K (ZKill k) rest f h = (omega arith, omega arith, record { front = encoded k; back = rest; is = refl; here = code_of k f; there = h })

pub updates_from : (count : ℕ) (w : List ℕ) → Updated count w → (us : List Update) × AllByRecursion IsUpdate us × (length us ≡ count) × (w ≡ flat_map spelled_update us)
updates_from zero w h = ([], tt, refl, h)
updates_from (suc count) w h =
    let u = update_from (Updated count) w h in
    let s = updates_from count u.rest u.holds in
    (u.value ∷ s.0, (u.form, s.1), ap suc s.2, u.is ∙ ap (λ (l : List ℕ). spelled_update u.value ++ l) s.3)

pub updates_to : (us : List Update) → AllByRecursion IsUpdate us → Updated (length us) (flat_map spelled_update us)
updates_to [] a = refl
updates_to (u ∷ us) a = update_to (Updated (length us)) u (flat_map spelled_update us) a.0 (updates_to us a.1)

-- bodies

pub record IsBody (kind : Kind) (w : List ℕ) : Type 0 where
  pub frame : Frame
  pub fields : HasFields frame
  pub kind_is : frame_type frame ≡ type_of kind
  pub is : w ≡ frame_body frame

alone_from : (low high : ℕ) (w : List ℕ) → Alone low high w → (n : ℕ) × (low ≤ n) × (n ≤ high) × (w ≡ to_be_bytes w64 n)
alone_from low high w h =
    let s = spelt_from 8 0 (Within low high (λ _. Ended)) w h in
    (s.number, s.holds.0, s.holds.1, s.is ∙ ap (λ (l : List ℕ). bytes_high_first 8 s.number ++ l) s.holds.2 ∙ append-nil (bytes_high_first 8 s.number))

alone_to : (low high n : ℕ) → low ≤ n → n ≤ high → n < 2 ^ 64 → Alone low high (to_be_bytes w64 n)
alone_to low high n a b small = subst (λ (w : List ℕ). Alone low high w) (append-nil (to_be_bytes w64 n)) (spelt_to 8 0 n (Within low high (λ _. Ended)) [] (omega arith) (omega arith) (a, b, refl))

hello_grouped : (v n : ℕ) (a b c d : List ℕ) → v ∷ (n ∷ a) ++ b ++ c ++ d ≡ v ∷ n ∷ (a ++ (b ++ (c ++ d)))
hello_grouped v n a b c d = ap (λ (l : List ℕ). v ∷ n ∷ l) (append_assoc (a ++ b) c d ∙ append_assoc a b (c ++ d))

entry_grouped : (u : ℕ) (a b c d : List ℕ) → a ++ u ∷ b ++ c ++ d ≡ a ++ (u ∷ (b ++ (c ++ d)))
entry_grouped u a b c d = append_assoc (a ++ u ∷ b) c d ∙ append_assoc a (u ∷ b) (c ++ d)

pub body_from : (kind : Kind) (w : List ℕ) → Body kind w → IsBody kind w
body_from Hello [] h = absurd h
body_from Hello (v ∷ []) h = absurd h.2
body_from Hello (v ∷ n ∷ w) h =
    let a = name_from n Lengthed w h.2.0 h.2.1 h.2.2 in
    let b = spelt_from 8 0 (Within 0 (NUMBERS_END - 1) (λ _. ReignCount)) a.rest a.holds in
    let c = spelt_from 4 0 Reigned b.rest b.holds.2 in
    let r = reigns_from c.number c.rest c.holds in
    let low = h.0 in
    let high = h.1 in
    record {
      frame = defs.Hello v a.value (record { length = b.number; reigns = r.0 });
      fields = (omega arith, a.form.0, (let top = b.holds.1 in omega arith), (let few = c.below in let e = r.2 in omega arith), r.1);
      kind_is = refl;
      is = ap (λ (m : ℕ). v ∷ m ∷ w) (sym a.form.1)
          ∙ ap (λ (l : List ℕ). v ∷ length a.value ∷ l) (a.is ∙ ap (λ (l : List ℕ). a.value ++ l) (b.is ∙ ap (λ (l : List ℕ). bytes_high_first 8 b.number ++ l)
          (c.is ∙ ap (λ (l : List ℕ). bytes_high_first 4 c.number ++ l) r.3 ∙ ap (λ (m : ℕ). bytes_high_first 4 m ++ flat_map spelled_reign r.0) (sym r.2))))
          ∙ sym (hello_grouped v (length a.value) a.value (bytes_high_first 8 b.number) (bytes_high_first 4 (length r.0)) (flat_map spelled_reign r.0));
    }
body_from Resume w h = let s = alone_from 1 NUMBERS_END w h in record { frame = defs.Resume s.0; fields = (s.1, s.2); kind_is = refl; is = s.3 }
body_from RollbackFirst w h = let s = alone_from 1 (NUMBERS_END - 1) w h in record { frame = defs.RollbackFirst s.0; fields = (s.1, omega (arith, s.2)); kind_is = refl; is = s.3 }
body_from History w h =
    let r = reign_from Ended w h in
    record { frame = defs.History r.value; fields = r.form; kind_is = refl; is = r.is ∙ ap (λ (l : List ℕ). spelled_reign r.value ++ l) r.holds ∙ append-nil (spelled_reign r.value) }
body_from Entry w h =
    let a = spelt_from 8 0 (Within 1 (NUMBERS_END - 1) (λ _. One Updater)) w h in
    entry_from a.number w a.rest a.holds.0 a.holds.1 a.is a.holds.2
  where
    entry_from : (number : ℕ) (w rest : List ℕ) → 1 ≤ number → number ≤ NUMBERS_END - 1 → w ≡ bytes_high_first 8 number ++ rest → One Updater rest → IsBody Entry w
    entry_from number w [] low high e h = absurd h
    entry_from number w (u ∷ v) low high e h =
        let b = spelt_from 4 0 (Within 1 (2 ^ 32 - 1) (λ _. UpdateCount)) v h.2 in
        let c = spelt_from 2 0 (Within 1 256 Updated) b.rest b.holds.2 in
        let us = updates_from c.number c.rest c.holds.2 in
        let least = c.holds.0 in
        let most = c.holds.1 in
        let count = us.2 in
        record {
          frame = defs.Entry number (record { origin = record { updater = u; serial = b.number }; updates = us.0 });
          fields = ((low, omega arith), record { origin = record { updater = (h.0, h.1); serial = (b.holds.0, (let top = b.holds.1 in omega arith)) }; some = omega arith; few = omega arith; each = us.1 });
          kind_is = refl;
          is = e ∙ ap (λ (l : List ℕ). bytes_high_first 8 number ++ u ∷ l) (b.is ∙ ap (λ (l : List ℕ). bytes_high_first 4 b.number ++ l)
              (c.is ∙ ap (λ (l : List ℕ). bytes_high_first 2 c.number ++ l) us.3 ∙ ap (λ (m : ℕ). bytes_high_first 2 m ++ flat_map spelled_update us.0) (sym us.2)))
              ∙ sym (entry_grouped u (bytes_high_first 8 number) (bytes_high_first 4 b.number) (bytes_high_first 2 (length us.0)) (flat_map spelled_update us.0));
        }
body_from Bye w h = let s = alone_from 0 (NUMBERS_END - 1) w h in record { frame = defs.Bye s.0; fields = omega (arith, s.2); kind_is = refl; is = s.3 }

abbrev pub kind_of : Frame → Kind
kind_of (defs.Hello v n h) = Hello
kind_of (defs.Resume n) = Resume
kind_of (defs.RollbackFirst n) = RollbackFirst
kind_of (defs.History r) = History
kind_of (defs.Entry n t) = Entry
kind_of (defs.Bye n) = Bye

pub body_to : (f : Frame) → HasFields f → (type_of (kind_of f) ≡ frame_type f) × Body (kind_of f) (frame_body f)
body_to (defs.Hello v n h) f = (refl, hello)
  where
    hello : One Versioned (frame_body (defs.Hello v n h))
    hello =
        let length_of = f.2 in
        let few = f.3 in
        let one = f.0 in
        subst (λ (w : List ℕ). One Versioned w) (sym (hello_grouped v (length n) n (to_be_bytes w64 h.length) (to_be_bytes w32 (length h.reigns)) (flat_map spelled_reign h.reigns))) (
          omega arith,
          omega arith,
          name_to n Lengthed (to_be_bytes w64 h.length ++ (to_be_bytes w32 (length h.reigns) ++ flat_map spelled_reign h.reigns)) f.1
              (spelt_to 8 0 h.length (Within 0 (NUMBERS_END - 1) (λ _. ReignCount)) (to_be_bytes w32 (length h.reigns) ++ flat_map spelled_reign h.reigns) (omega arith) (omega arith) (
                omega arith,
                omega arith,
                spelt_to 4 0 (length h.reigns) Reigned (flat_map spelled_reign h.reigns) (omega arith) (omega arith) (reigns_to h.reigns f.4),
              )),
        )
body_to (defs.Resume n) f = (refl, alone_to 1 NUMBERS_END n f.0 f.1 (omega (arith, f.1)))
body_to (defs.RollbackFirst n) f = (refl, alone_to 1 (NUMBERS_END - 1) n f.0 (omega (arith, f.1)) (omega (arith, f.1)))
body_to (defs.History r) f = (refl, subst (λ (w : List ℕ). Reigned 1 w) (append-nil (spelled_reign r)) (reign_to Ended r [] f refl))
body_to (defs.Entry n t) f = (refl, entry)
  where
    entry : Body Entry (entry_bytes n t)
    entry =
        let number = f.0 in
        let origin = f.1.origin in
        let updater = origin.updater in
        let serial = origin.serial in
        let some = f.1.some in
        let few = f.1.few in
        subst (λ (w : List ℕ). Body Entry w) (sym (entry_grouped t.origin.updater (to_be_bytes w64 n) (to_be_bytes w32 t.origin.serial) (to_be_bytes w16 (length t.updates)) (flat_map spelled_update t.updates)))
        (spelt_to 8 0 n (Within 1 (NUMBERS_END - 1) (λ _. One Updater)) (t.origin.updater ∷ (to_be_bytes w32 t.origin.serial ++ (to_be_bytes w16 (length t.updates) ++ flat_map spelled_update t.updates))) (omega arith) (omega (arith, number.1)) (
          number.0,
          omega (arith, number.1),
          (
            updater.0,
            updater.1,
            spelt_to 4 0 t.origin.serial (Within 1 (2 ^ 32 - 1) (λ _. UpdateCount)) (to_be_bytes w16 (length t.updates) ++ flat_map spelled_update t.updates) (omega arith) (omega (arith, serial.1)) (
              serial.0,
              omega (arith, serial.1),
              spelt_to 2 0 (length t.updates) (Within 1 256 Updated) (flat_map spelled_update t.updates) (omega arith) (omega arith) (some, few, updates_to t.updates f.1.each),
            ),
          ),
        ))
body_to (defs.Bye n) f = (refl, alone_to 0 (NUMBERS_END - 1) n (omega arith) (omega (arith, f)) (omega (arith, f)))

-- frames

pub framed_from : (w : List ℕ) → Framed w → IsSpelled w
framed_from [] h = absurd h
framed_from (b ∷ w) h =
    let s = spelt_from 4 0 (Within 0 LONGEST_BODY (λ n. Sized (Body h.kind) n)) w h.body in
    let f = body_from h.kind s.rest s.holds.2.0 in
    let size : length (frame_body f.frame) ≡ s.number = ap length (sym f.is) ∙ s.holds.2.1 in
    let most = s.holds.1 in
    record {
      frame = f.frame;
      is_frame = record { fields = f.fields; short = omega arith };
      spelled = ap (λ (t : ℕ). t ∷ to_be_bytes w32 (length (frame_body f.frame)) ++ frame_body f.frame) (f.kind_is ∙ h.is)
          ∙ ap (λ (l : List ℕ). b ∷ l) (ap (λ (n : ℕ). bytes_high_first 4 n ++ frame_body f.frame) size ∙ ap (λ (l : List ℕ). bytes_high_first 4 s.number ++ l) (sym f.is) ∙ sym s.is);
    }

pub framed_to : (w : List ℕ) → IsSpelled w → Framed w
framed_to w s = subst (λ (v : List ℕ). Framed v) s.spelled (record { kind = kind_of s.frame; is = b.0; body = spelt_to 4 0 (length (frame_body s.frame)) (Within 0 LONGEST_BODY (λ n. Sized (Body (kind_of s.frame)) n)) (frame_body s.frame) (omega arith) (omega arith) (omega arith, short, (b.1, refl)) })
  where
    b : (type_of (kind_of s.frame) ≡ frame_type s.frame) × Body (kind_of s.frame) (frame_body s.frame)
    b = body_to s.frame s.is_frame.fields

    short : length (frame_body s.frame) ≤ LONGEST_BODY
    short = s.is_frame.short
