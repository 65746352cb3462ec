-- What scans before a part of a frame await.
use Rattle.std.proofs.Common.{◌≡◌, ℕ, zero, suc, ◌+◌, ◌-◌, ◌*◌, ◌^◌, ◌<◌, ◌≤◌, List, [], ◌∷◌, length, Bool, true, false, nat_eq, refl, sym, ap, ◌∙◌, subst, arith, length-append, inl, inr}
use Rattle.std.specs.Prelude.{◌⊎◌, ◌==◌, if◌then◌else◌}
use Rattle.std.proofs.lemmas.Bool.{cases_eq, ne_eqb, eq-eqb}
use Rattle.global_defs.specs.declared.limits.TheConstants.{LONGEST_BODY, LONGEST_VALUE, MOST_UPDATES, NUMBERS_END}
use Rattle.gvn_key.proofs.Taking.{code_length}
use Rattle.gvn_key.specs.Codes.{IsCode}
use Rattle.gvn_key.specs.Rests.{IsAt}
use Rattle.gvn_key.specs.declared.prefix.KeyPrefix.{KeyPrefix}
use Rattle.repl_wire.specs.declared.field.Kind.{Kind}
use Rattle.repl_wire.specs.declared.field.Kind.TheVariants.{Hello, Resume, RollbackFirst, History, Entry, Bye}
use Rattle.repl_wire.specs.declared.field.ByteField.TheVariants as byte
use Rattle.repl_wire.specs.declared.field.NumberField.TheVariants as number
use Rattle.repl_wire.specs.declared.field.Part.{Part}
use Rattle.repl_wire.specs.declared.field.Part.TheVariants.{Byte, Number, Name, Key, Value}
use Rattle.repl_wire.specs.declared.field.Scan.{Scan}
use Rattle.repl_wire.specs.declared.front.Front.{Front}
use Rattle.repl_wire.specs.Fronts.{unit, IsOpen}
use Rattle.repl_wire.specs.Kinds.{type_of, least_body, most_body}
use Rattle.repl_wire.specs.Layout.{Rest, Ended, Sized, One, Within, Named, Skipped, Then, Cycling, Rooted, Reigned, Valued, BehindKey, Keyed, Tagged, Updated, UpdateCount, Updater, ReignCount, Lengthed, Sited, Alone, Body, Bodied, Typed}
use Rattle.repl_wire.specs.Scans.{Awaits, Accepts, Fits, BehindByte, KeyRest, ByteFits, KeyFits, HoldsReigns, HoldsUpdates, HoldsSome, SiteFits, RootFits, TagFits, KeyLengthFits}
use Rattle.repl_wire.proofs.Sizes.{Same, numbered_map, one_same, number_same, within_same, named_same, skipped_same, sized_same}
use Rattle.repl_wire.proofs.Lengths.{behind_number, skipped_length, reigned_length, updated_length, rooted_length, lengthed_length, keyed_length}

abbrev scan : Part → ℕ → ℕ → Scan
scan part left items = record { part = part; left = left; items = items }

abbrev fresh : ℕ → ℕ → ℕ → Front
fresh missing low high = record { value = 0; missing = missing; low = low; high = high }

pub awaits : (part : Part) (left items : ℕ) (K : Rest) → Fits part left items → Same (Accepts part left items) K → Awaits (scan part left items) K
awaits part left items K fits same = record { sound = fits; only = same.to; each = same.back }

pub fresh_open : (missing low high : ℕ) → 1 ≤ missing → missing ≤ 8 → low ≤ high → high ≤ NUMBERS_END → low < unit missing → IsOpen (fresh missing low high)
fresh_open missing low high some few bounds small reach = record {
  met = record { not_past = omega arith; reaches = omega arith; bounds = bounds; small = small };
  some = some;
  few = few;
}

pub within_in : (lo hi left n : ℕ) (A : Rest) (K : ℕ → Rest) → lo ≤ n → n ≤ hi → Same A (Sized (K n) left) → Same A (Sized (Within lo hi K n) left)
within_in lo hi left n A K low high same = record {
  to = λ w h. let s = same.to w h in ((low, high, s.0), s.1);
  back = λ w h. same.back w (h.0.2, h.1);
}

-- reigns

pub reign_count_awaited : (left l low high : ℕ) → left ≡ 4 + l → HoldsSome 4 left → l ≤ 28 * low → 28 * low < l + 28 → 14 * high ≤ l → l < 14 * high + 14
    → Awaits (scan (Number number.ReignCount (fresh 4 low high)) l 0) (Sized ReignCount left)
reign_count_awaited left l low high e some a b c d = awaits (Number number.ReignCount (fresh 4 low high)) l 0 (Sized ReignCount left)
    (fresh_open 4 low high (omega arith) (omega arith) (bounds some.0) (omega arith) (omega arith), (c, a, omega arith))
    (number_same left l 4 Reigned (Within low high (λ n. Sized (Reigned n) l)) same e)
  where
    bounds : (left ≡ 4) ⊎ (4 + 14 ≤ left) → low ≤ high
    bounds s = elim s as (λ _. low ≤ high) [ inl z ↦ omega arith | inr z ↦ omega arith ]

    same : (n : ℕ) → Same (Within low high (λ m. Sized (Reigned m) l) n) (Sized (Reigned n) l)
    same n = record { to = λ w h. h.2; back = λ w h. let r = reigned_length n w h.0 in let s = h.1 in (omega (arith, r.1, s), omega (arith, r.0, s), h) }

pub update_count_awaited : (left l low high : ℕ) → left ≡ 2 + l → 6 ≤ left → left ≤ 450306 → l ≤ 1759 * low → 1759 * low < l + 1759 → 4 * high ≤ l → high ≤ MOST_UPDATES → ((n : ℕ) → 4 * n ≤ l → n ≤ 256 → n ≤ high)
    → Awaits (scan (Number number.UpdateCount (fresh 2 low high)) l 0) (Sized UpdateCount left)
update_count_awaited left l low high e least most a b c d top = awaits (Number number.UpdateCount (fresh 2 low high)) l 0 (Sized UpdateCount left)
    (fresh_open 2 low high (omega arith) (omega arith) (top low (omega arith) (omega arith)) (omega arith) (omega arith), (c, a, omega arith, d))
    (number_same left l 2 (Within 1 256 Updated) (Within low high (λ n. Sized (Updated n) l)) same e)
  where
    same : (n : ℕ) → Same (Within low high (λ m. Sized (Updated m) l) n) (Sized (Within 1 256 Updated n) l)
    same n = within_same 1 256 low high l Updated (λ m. Sized (Updated m) l) n (omega arith) d (sized_same (Updated n) l)
        (λ w one most u s. let r = updated_length n w u in (omega (arith, r.1, s), top n (omega (arith, r.0, s)) most))

pub value_awaited : (left l items low high : ℕ) → left ≡ 2 + l → HoldsUpdates 2 1502 items left → l ≤ low + 1759 * items → (low ≡ 0) ⊎ (low + 1759 * items ≡ l) → high + 4 * items ≤ l → high ≤ LONGEST_VALUE
    → ((n : ℕ) → n + 4 * items ≤ l → n ≤ LONGEST_VALUE → n ≤ high) → Awaits (scan (Number number.ValueLength (fresh 2 low high)) l items) (Sized (Valued (Updated items)) left)
value_awaited left l items low high e holds a zeroed b c top = awaits (Number number.ValueLength (fresh 2 low high)) l items (Sized (Valued (Updated items)) left)
    (fresh_open 2 low high (omega arith) (omega arith) bounds (omega arith) (omega (arith, bounds)), (b, a, c))
    (number_same left l 2 (Within 0 LONGEST_VALUE (λ n. Skipped n (Updated items))) (Within low high (λ n. Sized (Skipped n (Updated items)) l)) same e)
  where
    bounds : low ≤ high
    bounds = elim zeroed as (λ _. low ≤ high) [ inl z ↦ omega arith | inr z ↦ top low (omega (arith, holds.0)) (omega (arith, holds.1)) ]

    same : (n : ℕ) → Same (Within low high (λ m. Sized (Skipped m (Updated items)) l) n) (Sized (Within 0 LONGEST_VALUE (λ m. Skipped m (Updated items)) n) l)
    same n = within_same 0 1500 low high l (λ m. Skipped m (Updated items)) (λ m. Sized (Skipped m (Updated items)) l) n (omega arith) c (sized_same (Skipped n (Updated items)) l)
        (λ w _ most u s. let r = skipped_length n (Updated items) (4 * items) (1759 * items) (updated_length items) w u in (above n (omega (arith, r.1, s)), top n (omega (arith, r.0, s)) most))
      where
        above : (n : ℕ) → l ≤ n + 1759 * items → low ≤ n
        above n h = elim zeroed as (λ _. low ≤ n) [ inl z ↦ omega arith | inr z ↦ omega arith ]

pub site_awaited : (n left behind : ℕ) → 1 ≤ n → n ≤ 15 → left ≡ n + behind → HoldsSome 12 behind → Awaits (scan (Name true n true) behind 0) (Sized (Sited n) left)
site_awaited n left behind some few e holds = awaits (Name true n true) behind 0 (Sized (Sited n) left) (some, holds)
    (within_in 1 15 left n (Named true n (Sized Lengthed behind)) (λ m. Named true m Lengthed) some few (named_same n behind left Lengthed e))

pub root_awaited : (n left behind items : ℕ) → 1 ≤ n → n ≤ 15 → left ≡ n + behind → HoldsReigns 12 12 items behind → Awaits (scan (Name true n false) behind items) (Sized (Rooted (Reigned items) n) left)
root_awaited n left behind items some few e holds = awaits (Name true n false) behind items (Sized (Rooted (Reigned items) n) left) (some, holds)
    (within_in 1 15 left n (Named true n (Sized (Cycling (Reigned items)) behind)) (λ m. Named true m (Cycling (Reigned items))) some few (named_same n behind left (Cycling (Reigned items)) e))

pub key_length_awaited : (set : Bool) (tag left items : ℕ) → set ≡ nat_eq tag 1 → 1 ≤ tag → tag ≤ 3 → 1 ≤ left → ByteFits (byte.KeyLength set) (left - 1) items
    → Awaits (scan (Byte (byte.KeyLength set)) (left - 1) items) (Sized (Tagged (Updated items) tag) left)
key_length_awaited set tag left items e some few least fits = awaits (Byte (byte.KeyLength set)) (left - 1) items (Sized (Tagged (Updated items) tag) left) fits
    (within_in 1 3 left tag (One (BehindByte (byte.KeyLength set) (left - 1) items)) (λ t. One (Keyed (nat_eq t 1) (Updated items))) some few
    (one_same left (left - 1) (Keyed (nat_eq tag 1) (Updated items)) (BehindByte (byte.KeyLength set) (left - 1) items) same (omega arith)))
  where
    same : (n : ℕ) → Same (Sized (Keyed set (Updated items) n) (left - 1)) (Sized (Keyed (nat_eq tag 1) (Updated items) n) (left - 1))
    same n = subst (λ (s : Bool). Same (Sized (Keyed set (Updated items) n) (left - 1)) (Sized (Keyed s (Updated items) n) (left - 1))) e (sized_same (Keyed set (Updated items) n) (left - 1))

pub value_skipped : (n left behind items : ℕ) → 1 ≤ n → left ≡ n + behind → HoldsUpdates 0 0 items behind → Awaits (scan (Value n) behind items) (Sized (Skipped n (Updated items)) left)
value_skipped n left behind items some e holds = awaits (Value n) behind items (Sized (Skipped n (Updated items)) left) (some, holds) (skipped_same n behind left (Updated items) e)

-- a key

pub prefix_long : (prefix : KeyPrefix) (n : ℕ) → IsAt prefix [] n → 2 ≤ n
prefix_long prefix n at = (code_length n at.begins.rest at.begins.whole).0

pub key_awaited : (set : Bool) (prefix : KeyPrefix) (n left behind items : ℕ) → IsAt prefix [] n → 2 ≤ n → left ≡ n + behind → KeyFits set behind items
    → Awaits (scan (Key set prefix) behind items) (Sized (Keyed set (Updated items) n) left)
key_awaited set prefix n left behind items at some e fits = awaits (Key set prefix) behind items (Sized (Keyed set (Updated items) n) left)
    (record { taken = []; len = n; is_at = at; some = omega (arith, at.left) }, fits)
    (record { to = to; back = back })
  where
    to : (w : List ℕ) → Then (KeyRest prefix) (Sized (BehindKey set (Updated items)) behind) w → Sized (Keyed set (Updated items) n) left w
    to w h =
        let code : IsCode n h.front = at.completes h.front h.here.0 h.here.1 in
        let size = h.there.1 in
        (record { front = h.front; back = h.back; is = h.is; here = code; there = h.there.0 }, omega (arith, ap length h.is ∙ length-append h.front h.back, code.long, size))

    back : (w : List ℕ) → Sized (Keyed set (Updated items) n) left w → Then (KeyRest prefix) (Sized (BehindKey set (Updated items)) behind) w
    back w h =
        let k = h.0 in
        let s = h.1 in
        let code : IsCode n k.front = k.here in
        let long = code.long in
        let sizes : length w ≡ length k.front + length k.back = ap length k.is ∙ length-append k.front k.back in
        let size : length k.back ≡ behind = omega (arith, s) in
        let whole : length k.front ≡ prefix.left = omega (arith, at.left) in
        record { front = k.front; back = k.back; is = k.is; here = (at.completed k.front code, whole); there = (k.there, size) }

-- lengths that leave no room

pub site_fits : (n left : ℕ) (w : List ℕ) → left ≤ LONGEST_BODY → Sized (Sited n) left w → SiteFits n left
site_fits n left w small h =
    let s = h.1 in
    let b = behind_named n w h.0.2 in
    (h.0.0, h.0.1, omega (arith, s, b.0), (rest b.1, omega arith))
  where
    behind_named : (n : ℕ) (w : List ℕ) → Named true n Lengthed w → (n ≤ length w) × ((length w - n ≡ 12) ⊎ (26 ≤ length w - n))
    behind_named n w h = by_first true n w h
      where
        by_first : (first : Bool) (n : ℕ) (w : List ℕ) → Named first n Lengthed w → (n ≤ length w) × ((length w - n ≡ 12) ⊎ (26 ≤ length w - n))
        by_first first zero w h = (omega arith, elim (lengthed_length w h) as (λ _. (length w - 0 ≡ 12) ⊎ (26 ≤ length w - 0)) [ inl z ↦ inl (omega arith) | inr z ↦ inr (omega arith) ])
        by_first first (suc n) [] h = absurd h
        by_first first (suc n) (x ∷ w) h = let r = by_first false n w h.1 in (omega (arith, r.0), elim r.1 as (λ _. (length (x ∷ w) - suc n ≡ 12) ⊎ (26 ≤ length (x ∷ w) - suc n)) [ inl z ↦ inl (omega arith) | inr z ↦ inr (omega arith) ])

    rest : (length w - n ≡ 12) ⊎ (26 ≤ length w - n) → (left - n ≡ 12) ⊎ (12 + 14 ≤ left - n)
    rest r = let s : length w ≡ left = h.1 in elim r as (λ _. (left - n ≡ 12) ⊎ (12 + 14 ≤ left - n)) [ inl z ↦ inl (omega arith) | inr z ↦ inr (omega arith) ]

pub root_fits : (n left items : ℕ) (w : List ℕ) → Sized (Rooted (Reigned items) n) left w → RootFits n left items
root_fits n left items w h =
    let s = h.1 in
    let b = rooted_length (Reigned items) (14 * items) (28 * items) n (reigned_length items) w h.0 in
    (h.0.0, h.0.1, omega (arith, s, b.0), (omega (arith, s, b.0), omega (arith, s, b.1)))

pub key_length_fits : (set : Bool) (n left items : ℕ) (w : List ℕ) → Sized (Keyed set (Updated items) n) left w → KeyLengthFits set n left items
key_length_fits true n left items w h =
    let s = h.1 in
    let b = keyed_length true (Updated items) (4 * items) (1759 * items) n (updated_length items) w h.0 in
    (omega (arith, s, b.0), (omega (arith, s, b.0), omega (arith, s, b.1)))
key_length_fits false n left items w h =
    let s = h.1 in
    let b = keyed_length false (Updated items) (4 * items) (1759 * items) n (updated_length items) w h.0 in
    (omega (arith, s, b.0), (omega (arith, s, b.0), omega (arith, s, b.1)))

pub tag_fits : (tag left items : ℕ) (w : List ℕ) → Sized (Tagged (Updated items) tag) left w → TagFits tag left items
tag_fits tag left items [] h = absurd h.0.2
tag_fits tag left items (n ∷ w) h = elim (cases_eq tag 1) as (λ _. TagFits tag left items) [
  | inl e ↦
      let k = subst (λ (t : ℕ). Keyed (nat_eq t 1) (Updated items) n w) e h.0.2 in
      let b = keyed_length true (Updated items) (4 * items) (1759 * items) n (updated_length items) w k in
      let r = code_length n k.front k.here in
      let s = h.1 in
      inl (e, (omega (arith, s, b.0, r.0), omega (arith, s, b.1, r.1)))
  | inr ne ↦
      let k = subst (λ (t : Bool). Keyed t (Updated items) n w) (ne_eqb tag 1 ne) h.0.2 in
      let b = keyed_length false (Updated items) (4 * items) (1759 * items) n (updated_length items) w k in
      let r = code_length n k.front k.here in
      let s = h.1 in
      let low = h.0.0 in
      let high = h.0.1 in
      inr (omega (arith, low), omega (arith, high), (omega (arith, s, b.0, r.0), omega (arith, s, b.1, r.1)))
]

-- a body's length

alone_fits : (w : List ℕ) (low high : ℕ) → Alone low high w → (8 ≤ length w) × (length w ≤ 8)
alone_fits w low high h =
    let d = behind_number 8 0 (Within low high (λ _. Ended)) w h in
    let z : length d.rest ≡ 0 = ap length d.holds.2 in
    (omega (arith, d.sizes), omega (arith, d.sizes))

pub body_fits : (kind : Kind) (w : List ℕ) → length w ≤ LONGEST_BODY → Body kind w → (least_body kind ≤ length w) × (length w ≤ most_body kind)
body_fits Hello [] small h = absurd h
body_fits Hello (v ∷ []) small h = absurd h.2
body_fits Hello (v ∷ n ∷ w) small h =
    let s = site_fits n (length w) w (omega arith) (h.2, refl) in
    (elim s.3.0 as (λ _. 15 ≤ length (v ∷ n ∷ w)) [ inl z ↦ omega (arith, s.0) | inr z ↦ omega (arith, s.0) ], small)
body_fits Resume w small h = alone_fits w 1 NUMBERS_END h
body_fits RollbackFirst w small h = alone_fits w 1 (NUMBERS_END - 1) h
body_fits History w small h = let b = reigned_length 1 w h in (omega (arith, b.0), omega (arith, b.1))
body_fits Entry w small h =
    let d = behind_number 8 0 (Within 1 (NUMBERS_END - 1) (λ _. One Updater)) w h in
    let u = updater_fits d.rest d.holds.2 in
    (omega (arith, d.sizes, u.0), omega (arith, d.sizes, u.1))
  where
    updater_fits : (w : List ℕ) → One Updater w → (11 ≤ length w) × (length w ≤ 450311)
    updater_fits [] h = absurd h
    updater_fits (b ∷ w) h =
        let d = behind_number 4 0 (Within 1 (2 ^ 32 - 1) (λ _. UpdateCount)) w h.2 in
        let e = behind_number 2 0 (Within 1 256 Updated) d.rest d.holds.2 in
        let u = updated_length e.value e.rest e.holds.2 in
        let low = e.holds.0 in
        let high = e.holds.1 in
        (omega (arith, d.sizes, e.sizes, u.0, low), omega (arith, d.sizes, e.sizes, u.1, high))
body_fits Bye w small h = alone_fits w 0 (NUMBERS_END - 1) h

pub bodied_awaited : (kind : Kind) (least most : ℕ) → least ≡ least_body kind → most ≡ most_body kind → Awaits (scan (Number (number.BodyLength kind) (fresh 4 least most)) 0 0) (Bodied kind)
bodied_awaited kind least most is_least is_most = awaits (Number (number.BodyLength kind) (fresh 4 least most)) 0 0 (Bodied kind)
    (fresh_open 4 least most (omega arith) (omega arith) (omega (arith, order.0)) (omega (arith, order.1)) (omega (arith, order.0, order.1)), (omega arith, omega arith))
    (record {
      to = numbered_map 4 0 (Within least most (λ n. Sized (Body kind) n)) (Within 0 LONGEST_BODY (λ n. Sized (Body kind) n)) (λ n w h. let high = h.1 in (omega arith, omega (arith, order.1), h.2));
      back = numbered_map 4 0 (Within 0 LONGEST_BODY (λ n. Sized (Body kind) n)) (Within least most (λ n. Sized (Body kind) n))
          (λ n w h. let s = h.2.1 in let high = h.1 in let f = body_fits kind w (omega arith) h.2.0 in (omega (arith, f.0), omega (arith, f.1), h.2));
    })
  where
    ordered : (kind : Kind) → (least_body kind ≤ most_body kind) × (most_body kind ≤ LONGEST_BODY)
    ordered Hello = (omega arith, omega arith)
    ordered Resume = (omega arith, omega arith)
    ordered RollbackFirst = (omega arith, omega arith)
    ordered History = (omega arith, omega arith)
    ordered Entry = (omega arith, omega arith)
    ordered Bye = (omega arith, omega arith)

    order : (least_body kind ≤ most_body kind) × (most_body kind ≤ LONGEST_BODY)
    order = ordered kind

kind_of : ℕ → Kind
kind_of n = if n == 1 then Hello else if n == 2 then Resume else if n == 3 then RollbackFirst else if n == 4 then History else if n == 5 then Entry else Bye

-- the one kind of a type
kind_back : (k : Kind) → k ≡ kind_of (type_of k)
unfolding kind_of
kind_back Hello = refl
kind_back Resume = refl
kind_back RollbackFirst = refl
kind_back History = refl
kind_back Entry = refl
kind_back Bye = refl

-- what stands behind a type
pub typed_awaited : (s : Scan) (kind : Kind) (b : ℕ) → type_of kind ≡ b → Awaits s (Bodied kind) → Awaits s (Typed b)
typed_awaited s kind b e a = record {
  sound = a.sound;
  only = λ w h. record { kind = kind; is = e; body = a.only w h };
  each = λ w h. a.each w (subst (λ (k : Kind). Bodied k w) (same_kind h.kind kind (h.is ∙ sym e)) h.body);
}
  where
    same_kind : (a b : Kind) → type_of a ≡ type_of b → a ≡ b
    same_kind a b e = kind_back a ∙ ap kind_of e ∙ sym (kind_back b)

-- behind a tag: its key's length
pub tag_awaited : (tag left items : ℕ) → 1 ≤ left → TagFits tag left items → Awaits (scan (Byte (byte.KeyLength (nat_eq tag 1))) (left - 1) items) (Sized (Tagged (Updated items) tag) left)
tag_awaited tag left items least fits = elim fits as (λ _. Awaits (scan (Byte (byte.KeyLength (nat_eq tag 1))) (left - 1) items) (Sized (Tagged (Updated items) tag) left)) [
  | inl f ↦ key_length_awaited (nat_eq tag 1) tag left items refl (omega (arith, f.0)) (omega (arith, f.0)) least
      (subst (λ (s : Bool). ByteFits (byte.KeyLength s) (left - 1) items) (sym (eq-eqb tag 1 f.0)) (let h = f.1 in (omega (arith, h.0), omega (arith, h.1))))
  | inr f ↦ key_length_awaited (nat_eq tag 1) tag left items refl (omega (arith, f.0)) (omega (arith, f.1)) least
      (subst (λ (s : Bool). ByteFits (byte.KeyLength s) (left - 1) items) (sym (ne_eqb tag 1 (λ e. let two = f.0 in omega arith))) (let h = f.2 in (omega (arith, h.0), omega (arith, h.1))))
]
