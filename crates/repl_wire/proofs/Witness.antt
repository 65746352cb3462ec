-- Bytes that complete a part of a frame.
use Rattle.std.proofs.Common.{◌≡◌, ℕ, zero, suc, ◌+◌, ◌-◌, ◌*◌, ◌/◌, ◌^◌, ◌<◌, ◌≤◌, min, max, List, [], ◌∷◌, ◌++◌, length, Bool, true, false, nat_eq, refl, sym, subst, arith, length-append, inl, inr}
use Rattle.std.specs.Prelude.{◌⊎◌}
use Rattle.std.proofs.lemmas.Bool.{cases_lt}
use Rattle.std.proofs.lemmas.Nat.{div-add-mod', mod_below, le-div, div_below}
use Rattle.global_defs.specs.declared.limits.TheConstants.{LONGEST_VALUE, NUMBERS_END}
use Rattle.repl_wire.specs.declared.field.Kind.{Kind}
use Rattle.repl_wire.specs.declared.field.Kind.TheVariants.{Hello, Resume, RollbackFirst, History, Entry, Bye}
use Rattle.repl_wire.specs.declared.field.ByteField.{ByteField}
use Rattle.repl_wire.specs.declared.field.ByteField.TheVariants as byte
use Rattle.repl_wire.specs.declared.field.NumberField.{NumberField}
use Rattle.repl_wire.specs.declared.field.NumberField.TheVariants as number
use Rattle.repl_wire.specs.declared.field.Part.{Part}
use Rattle.repl_wire.specs.declared.field.Part.TheVariants.{Byte, Number, Name, Key, Value, Whole}
use Rattle.repl_wire.specs.declared.front.Front.{Front}
use Rattle.repl_wire.specs.Fronts.{unit, IsOpen}
use Rattle.repl_wire.specs.Kinds.{least_body, most_body}
use Rattle.repl_wire.specs.Layout.{Rest, Ended, Sized, One, Numbered, Within, Named, Skipped, Starting, Cycling, Rooted, Reigned, Valued, BehindKey, Keyed, Tagged, Updated, UpdateCount, Updater, ReignCount, Lengthed, Sited, Versioned, Alone, Body, Typed}
use Rattle.repl_wire.specs.Scans.{Accepts, Fits, BehindByte, BehindNumber, ByteFits, NumberFits, KeyFits, HoldsReigns, HoldsUpdates, HoldsSome}
use Rattle.repl_wire.proofs.Digits.{unit_pos}
use Rattle.gvn_key.proofs.Taking.{each_length}

-- bytes of K, so many
pub record Some (K : Rest) (len : ℕ) : Type 0 where
  pub bytes : List ℕ
  pub holds : K bytes
  pub sizes : length bytes ≡ len

sized : (K : Rest) (len : ℕ) → Some K len → Some (Sized K len) len
sized K len s = record { bytes = s.bytes; holds = (s.holds, s.sizes); sizes = s.sizes }

-- the digit of a number behind those of its front
record Digit (v s n : ℕ) : Type 0 where
  digit : ℕ
  small : digit < 256
  from : (v * 256 + digit) * s ≤ n
  below : n < (v * 256 + digit + 1) * s

digit_of : (v s n : ℕ) → 0 < s → v * (256 * s) ≤ n → n < (v + 1) * (256 * s) → Digit v s n
digit_of v s n pos from below =
    let least : v * 256 ≤ n / s = le-div (v * 256) n s pos (omega arith) in
    let most : n / s < (v + 1) * 256 = div_below n s ((v + 1) * 256) pos (omega arith) in
    let q = div-add-mod' n s in
    let r = mod_below n s pos in
    let d : v * 256 + (n / s - v * 256) ≡ n / s = omega arith in
    record {
      digit = n / s - v * 256;
      small = omega (arith, least, most);
      from = rw d (omega (arith, q));
      below = rw d (omega (arith, q, r));
    }

-- a number with a front's bytes
pub some_number : (missing v n left : ℕ) (K : ℕ → Rest) → v * unit missing ≤ n → n < (v + 1) * unit missing → Some (K n) left → Some (Numbered missing v K) (missing + left)
some_number zero v n left K from below s =
    let e : n ≡ v = omega (arith, from, below) in
    record { bytes = s.bytes; holds = subst (λ (m : ℕ). K m s.bytes) e s.holds; sizes = omega (arith, s.sizes) }
some_number (suc r) v n left K from below s =
    let d = digit_of v (unit r) n (unit_pos r) from below in
    let t = some_number r (v * 256 + d.digit) n left K d.from d.below s in
    record { bytes = d.digit ∷ t.bytes; holds = (d.small, t.holds); sizes = omega (arith, t.sizes) }

-- a whole number
pub number_some : (missing lo hi n left : ℕ) (K : ℕ → Rest) → lo ≤ n → n ≤ hi → n < unit missing → Some (K n) left → Some (Numbered missing 0 (Within lo hi K)) (missing + left)
number_some missing lo hi n left K a b small s = some_number missing 0 n left (Within lo hi K) (omega arith) (omega (arith, small)) (record { bytes = s.bytes; holds = (a, b, s.holds); sizes = s.sizes })

pub some_name : (first : Bool) (n left : ℕ) (K : Rest) → Some K left → Some (Named first n K) (n + left)
some_name first zero left K s = record { bytes = s.bytes; holds = s.holds; sizes = omega (arith, s.sizes) }
some_name true (suc n) left K s = let t = some_name false n left K s in record { bytes = 65 ∷ t.bytes; holds = (refl, t.holds); sizes = omega (arith, t.sizes) }
some_name false (suc n) left K s = let t = some_name false n left K s in record { bytes = 65 ∷ t.bytes; holds = (refl, t.holds); sizes = omega (arith, t.sizes) }

pub some_skipped : (n left : ℕ) (K : Rest) → Some K left → Some (Skipped n K) (n + left)
some_skipped zero left K s = record { bytes = s.bytes; holds = s.holds; sizes = omega (arith, s.sizes) }
some_skipped (suc n) left K s = let t = some_skipped n left K s in record { bytes = 0 ∷ t.bytes; holds = t.holds; sizes = omega (arith, t.sizes) }

some_ended : Some Ended 0
some_ended = record { bytes = []; holds = refl; sizes = refl }

some_one : (b left : ℕ) (K : ℕ → Rest) → Some (K b) left → Some (One K) (suc left)
some_one b left K s = record { bytes = b ∷ s.bytes; holds = s.holds; sizes = omega (arith, s.sizes) }

-- the same of another length
of_length : (K : Rest) (a b : ℕ) → a ≡ b → Some K a → Some K b
of_length K a b e s = subst (λ (n : ℕ). Some K n) e s

-- reigns

some_starting : (left : ℕ) (K : Rest) → Some K left → Some (Starting K) (8 + left)
some_starting left K s = number_some 8 1 NUMBERS_END 1 left (λ _. K) (omega arith) (omega arith) (omega arith) s

some_cycling : (left : ℕ) (K : Rest) → Some K left → Some (Cycling K) (12 + left)
some_cycling left K s = of_length (Cycling K) (4 + (8 + left)) (12 + left) (omega arith) (number_some 4 1 (2 ^ 32 - 1) 1 (8 + left) (λ _. Starting K) (omega arith) (omega arith) (omega arith) (some_starting left K s))

some_rooted : (n left : ℕ) (K : Rest) → 1 ≤ n → n ≤ 15 → Some K left → Some (Rooted K n) (n + 12 + left)
some_rooted n left K a b s =
    let t = some_name true n (12 + left) (Cycling K) (some_cycling left K s) in
    record { bytes = t.bytes; holds = (a, b, t.holds); sizes = omega (arith, t.sizes) }

-- how long a first name can be
name_length : ℕ → ℕ → ℕ
name_length count left = max 1 (left - 12 - 28 * count)

pub some_reigns : (count left : ℕ) → HoldsReigns 0 0 count left → Some (Reigned count) left
unfolding name_length
some_reigns zero left h = of_length Ended 0 left (omega (arith, h.0, h.1)) some_ended
some_reigns (suc count) left h =
    let n = name_length count (left - 1) in
    let rest = some_reigns count (left - 1 - 12 - n) (omega (arith, h.0, h.1), omega (arith, h.0, h.1)) in
    of_length (Reigned (suc count)) (suc (n + 12 + (left - 1 - 12 - n))) left (omega (arith, h.0, h.1))
    (some_one n (n + 12 + (left - 1 - 12 - n)) (Rooted (Reigned count)) (some_rooted n (left - 1 - 12 - n) (Reigned count) (omega arith) (omega (arith, h.0, h.1)) rest))

-- the rest of a reign behind its name's length, and of those behind it
pub some_root : (count left : ℕ) → HoldsReigns 13 27 count left → Some (One (λ b. Sized (Rooted (Reigned count) b) left)) (suc left)
unfolding name_length
some_root count left h =
    let n = name_length count left in
    let rest = some_reigns count (left - 12 - n) (omega (arith, h.0, h.1), omega (arith, h.0, h.1)) in
    some_one n left (λ b. Sized (Rooted (Reigned count) b) left)
    (sized (Rooted (Reigned count) n) left (of_length (Rooted (Reigned count) n) (n + 12 + (left - 12 - n)) left (omega (arith, h.0, h.1)) (some_rooted n (left - 12 - n) (Reigned count) (omega arith) (omega (arith, h.0, h.1)) rest)))

pub some_reign_count : (left : ℕ) → HoldsSome 4 left → Some ReignCount left
some_reign_count left h =
    let fits : 28 * ((left - 4) / 14) + 0 ≡ 28 * ((left - 4) / 14) = omega arith in
    let s = some_reigns ((left - 4) / 14) (left - 4) (omega arith, most) in
    of_length ReignCount (4 + (left - 4)) left least (some_number 4 0 ((left - 4) / 14) (left - 4) Reigned (omega arith) (let top = h.1 in omega arith) s)
  where
    most : left - 4 ≤ 0 + 28 * ((left - 4) / 14)
    most = elim h.0 as (λ _. left - 4 ≤ 0 + 28 * ((left - 4) / 14)) [ inl z ↦ omega arith | inr z ↦ omega arith ]

    least : 4 + (left - 4) ≡ left
    least = elim h.0 as (λ _. 4 + (left - 4) ≡ left) [ inl z ↦ omega arith | inr z ↦ omega arith ]

pub some_lengthed : (left : ℕ) → HoldsSome 12 left → Some Lengthed left
some_lengthed left h =
    of_length Lengthed (8 + (left - 8)) left least (number_some 8 0 (NUMBERS_END - 1) 0 (left - 8) (λ _. ReignCount) (omega arith) (omega arith) (omega arith) (some_reign_count (left - 8) (less, (let top = h.1 in omega arith))))
  where
    least : 8 + (left - 8) ≡ left
    least = elim h.0 as (λ _. 8 + (left - 8) ≡ left) [ inl z ↦ omega arith | inr z ↦ omega arith ]

    less : (left - 8 ≡ 4) ⊎ (4 + 14 ≤ left - 8)
    less = elim h.0 as (λ _. (left - 8 ≡ 4) ⊎ (4 + 14 ≤ left - 8)) [ inl z ↦ inl (omega arith) | inr z ↦ inr (omega arith) ]

-- a site's name and the rest of a HELLO
some_site_of : (n left : ℕ) → 1 ≤ n → n ≤ 15 → n ≤ left → HoldsSome 12 (left - n) → Some (Sized (Sited n) left) left
some_site_of n left a b c h =
    let t = some_name true n (left - n) Lengthed (some_lengthed (left - n) h) in
    record { bytes = t.bytes; holds = ((a, b, t.holds), (let s = t.sizes in omega arith)); sizes = (let s = t.sizes in omega arith) }

pub some_site : (left : ℕ) → 13 ≤ left → left ≤ 1048575 → Some (One (λ b. Sized (Sited b) left)) (suc left)
some_site left least most = elim (cases_lt left 28) as (λ _. Some (One (λ b. Sized (Sited b) left)) (suc left)) [
  | inl low ↦ some_one (left - 12) left (λ b. Sized (Sited b) left) (some_site_of (left - 12) left (omega arith) (omega arith) (omega arith) (inl (omega arith), omega arith))
  | inr high ↦ some_one 1 left (λ b. Sized (Sited b) left) (some_site_of 1 left (omega arith) (omega arith) (omega arith) (inr (omega arith), omega arith))
]

-- updates

some_valued : (n left : ℕ) (K : Rest) → n ≤ LONGEST_VALUE → Some K left → Some (Valued K) (2 + n + left)
some_valued n left K most s = of_length (Valued K) (2 + (n + left)) (2 + n + left) (omega arith) (number_some 2 0 1500 n (n + left) (λ m. Skipped m K) (omega arith) most (omega arith) (some_skipped n left K s))

module _ (count : ℕ) (some : (m : ℕ) → HoldsUpdates 0 0 count m → Some (Updated count) m) where
  pub behind_key_of : (set : Bool) (left : ℕ) → KeyFits set left count → Some (BehindKey set (Updated count)) left
  behind_key_of false left h = some left h
  behind_key_of true left h =
      let n = min 1500 (left - 2 - 4 * count) in
      of_length (Valued (Updated count)) (2 + n + (left - 2 - n)) left (omega (arith, h.0)) (some_valued n (left - 2 - n) (Updated count) (omega arith) (some (left - 2 - n) (omega (arith, h.0), omega (arith, h.1))))

  keyed_of : (set : Bool) (n left : ℕ) → 2 ≤ n → n ≤ 255 → n ≤ left → KeyFits set (left - n) count → Some (Keyed set (Updated count) n) left
  keyed_of set n left a b c h =
      let code = each_length n a b in
      let rest = behind_key_of set (left - n) h in
      let long = code.whole.long in
      let e = rest.sizes in
      record {
        bytes = code.rest ++ rest.bytes;
        holds = record { front = code.rest; back = rest.bytes; is = refl; here = code.whole; there = rest.holds };
        sizes = omega (arith, length-append code.rest rest.bytes);
      }

  pub key_length_of : (set : Bool) (left : ℕ) → ByteFits (byte.KeyLength set) left count → Some (One (λ b. Sized (Keyed set (Updated count) b) left)) (suc left)
  key_length_of false left h =
      let n = max 2 (left - 1759 * count) in
      some_one n left (λ b. Sized (Keyed false (Updated count) b) left) (sized (Keyed false (Updated count) n) left
      (keyed_of false n left (omega arith) (omega (arith, h.0, h.1)) (omega (arith, h.0)) (omega (arith, h.0, h.1), omega (arith, h.0, h.1))))
  key_length_of true left h =
      let n = max 2 (left - 1502 - 1759 * count) in
      some_one n left (λ b. Sized (Keyed true (Updated count) b) left) (sized (Keyed true (Updated count) n) left
      (keyed_of true n left (omega arith) (omega (arith, h.0, h.1)) (omega (arith, h.0)) (omega (arith, h.0, h.1), omega (arith, h.0, h.1))))

  -- a tag and the rest of its update: a key alone where that can be all
  tag_of : (left : ℕ) → HoldsUpdates 3 1758 count left → (tag : ℕ) × Some (Tagged (Updated count) tag) left
  tag_of left h = elim (cases_lt (left - 1) (256 + 1759 * count)) as (λ _. (tag : ℕ) × Some (Tagged (Updated count) tag) left) [
    | inl few ↦
        let s = key_length_of false (left - 1) (omega (arith, h.0), omega arith) in
        (2, record { bytes = s.bytes; holds = (omega arith, omega arith, plain (nat_eq 2 1) refl (left - 1) s.bytes s.holds); sizes = (let e = s.sizes in omega (arith, h.0)) })
    | inr many ↦
        let s = key_length_of true (left - 1) (omega arith, omega (arith, h.1)) in
        (1, record { bytes = s.bytes; holds = (omega arith, omega arith, plain (nat_eq 1 1) refl (left - 1) s.bytes s.holds); sizes = (let e = s.sizes in omega (arith, h.0)) })
  ]
    where
      plain : (set : Bool) → set ≡ set → (l : ℕ) (w : List ℕ) → One (λ b. Sized (Keyed set (Updated count) b) l) w → One (Keyed set (Updated count)) w
      plain set _ l [] k = k
      plain set _ l (b ∷ w) k = k.0

pub some_updates : (count left : ℕ) → HoldsUpdates 0 0 count left → Some (Updated count) left
some_updates zero left h = of_length Ended 0 left (omega (arith, h.0, h.1)) some_ended
some_updates (suc count) left h =
    let t = tag_of count (λ m f. some_updates count m f) (left - 1) (omega (arith, h.0), omega (arith, h.1)) in
    of_length (Updated (suc count)) (suc (left - 1)) left (omega (arith, h.0)) (some_one t.0 (left - 1) (Tagged (Updated count)) t.1)

pub some_update_count : (left : ℕ) → 6 ≤ left → left ≤ 450306 → Some UpdateCount left
some_update_count left least most =
    let n = (left - 2 + 1758) / 1759 in
    let s = some_updates n (left - 2) (omega arith, omega arith) in
    of_length UpdateCount (2 + (left - 2)) left (omega arith) (number_some 2 1 256 n (left - 2) Updated (omega arith) (omega arith) (omega arith) s)

pub some_updater : (left : ℕ) → 10 ≤ left → left ≤ 450310 → Some (One (λ b. Sized (Updater b) left)) (suc left)
some_updater left least most =
    let s = number_some 4 1 (2 ^ 32 - 1) 1 (left - 4) (λ _. UpdateCount) (omega arith) (omega arith) (omega arith) (some_update_count (left - 4) (omega arith) (omega arith)) in
    let e = s.sizes in
    some_one 1 left (λ b. Sized (Updater b) left) (record { bytes = s.bytes; holds = ((omega arith, omega arith, s.holds), omega arith); sizes = omega arith })

-- without the length behind a byte
unsized : (K : ℕ → Rest) (left : ℕ) (w : List ℕ) → One (λ b. Sized (K b) left) w → One K w
unsized K left [] h = h
unsized K left (b ∷ w) h = h.0

some_unsized : (K : ℕ → Rest) (left len : ℕ) → Some (One (λ b. Sized (K b) left)) len → Some (One K) len
some_unsized K left len s = record { bytes = s.bytes; holds = unsized K left s.bytes s.holds; sizes = s.sizes }

some_alone : (low high : ℕ) → low ≤ high → high ≤ NUMBERS_END → Some (Alone low high) 8
some_alone low high a b = number_some 8 low high low 0 (λ _. Ended) (omega arith) a (omega arith) some_ended

some_version : (left : ℕ) → 14 ≤ left → left ≤ 1048575 → Some (One (λ b. Sized (Versioned b) left)) (suc left)
some_version left least most =
    let s = some_unsized Sited (left - 1) (suc (left - 1)) (some_site (left - 1) (omega arith) (omega arith)) in
    let e = s.sizes in
    some_one 1 left (λ b. Sized (Versioned b) left) (record { bytes = s.bytes; holds = ((omega arith, omega arith, s.holds), omega arith); sizes = omega arith })

some_body : (kind : Kind) (len : ℕ) → least_body kind ≤ len → len ≤ most_body kind → Some (Body kind) len
some_body Hello len least most = of_length (Body Hello) (suc (len - 1)) len (omega arith) (some_unsized Versioned (len - 1) (suc (len - 1)) (some_version (len - 1) (omega arith) (omega arith)))
some_body Resume len least most = of_length (Body Resume) 8 len (omega arith) (some_alone 1 NUMBERS_END (omega arith) (omega arith))
some_body RollbackFirst len least most = of_length (Body RollbackFirst) 8 len (omega arith) (some_alone 1 (NUMBERS_END - 1) (omega arith) (omega arith))
some_body History len least most = some_reigns 1 len (omega arith, omega arith)
some_body Entry len least most =
    let s = some_unsized Updater (len - 9) (suc (len - 9)) (some_updater (len - 9) (omega arith) (omega arith)) in
    of_length (Body Entry) (8 + suc (len - 9)) len (omega arith) (number_some 8 1 (NUMBERS_END - 1) 1 (suc (len - 9)) (λ _. One Updater) (omega arith) (omega arith) (omega arith) s)
some_body Bye len least most = of_length (Body Bye) 8 len (omega arith) (some_alone 0 (NUMBERS_END - 1) (omega arith) (omega arith))

-- bytes behind a number
some_behind : (field : NumberField) (low high left items n : ℕ) → low ≤ n → n ≤ high → high ≤ NUMBERS_END → NumberFits field low high left items → (len : ℕ) × Some (BehindNumber field left items n) len
some_behind (number.BodyLength kind) low high left items n a b small f = (n, sized (Body kind) n (some_body kind n (omega (arith, f.0)) (omega (arith, f.1))))
some_behind number.Length low high left items n a b small f = (left, sized ReignCount left (some_reign_count left f))
some_behind number.ReignCount low high left items n a b small f = (left, sized (Reigned n) left (some_reigns n left (omega (arith, f.0), omega (arith, f.1))))
some_behind number.Cycle low high left items n a b small f =
    (left, sized (Starting (Reigned items)) left (of_length (Starting (Reigned items)) (8 + (left - 8)) left (omega (arith, f.0)) (some_starting (left - 8) (Reigned items) (some_reigns items (left - 8) (omega (arith, f.0), omega (arith, f.1))))))
some_behind number.Start low high left items n a b small f = (left, sized (Reigned items) left (some_reigns items left f))
some_behind number.Alone low high left items n a b small f = (left, sized Ended left (of_length Ended 0 left (sym f) some_ended))
some_behind number.EntryNumber low high left items n a b small f =
    (left, sized (One Updater) left (of_length (One Updater) (suc (left - 1)) left (omega (arith, f.0)) (some_unsized Updater (left - 1) (suc (left - 1)) (some_updater (left - 1) (omega (arith, f.0)) (omega (arith, f.1))))))
some_behind number.Serial low high left items n a b small f = (left, sized UpdateCount left (some_update_count left f.0 f.1))
some_behind number.UpdateCount low high left items n a b small f = (left, sized (Updated n) left (some_updates n left (omega (arith, f.0), omega (arith, f.1))))
some_behind number.ValueLength low high left items n a b small f = (
  left,
  sized (Skipped n (Updated items)) left (of_length (Skipped n (Updated items)) (n + (left - n)) left (omega (arith, f.0))
      (some_skipped n (left - n) (Updated items) (some_updates items (left - n) (omega (arith, f.0), omega (arith, f.1))))),
)

-- bytes behind a byte
some_byte : (field : ByteField) (left items : ℕ) → ByteFits field left items → (len : ℕ) × Some (One (BehindByte field left items)) len
some_byte byte.Type left items f =
    let s = number_some 4 0 1048576 8 8 (λ n. Sized (Body Resume) n) (omega arith) (omega arith) (omega arith) (sized (Body Resume) 8 (some_alone 1 NUMBERS_END (omega arith) (omega arith))) in
    (13, some_one 2 12 Typed (record { bytes = s.bytes; holds = record { kind = Resume; is = refl; body = s.holds }; sizes = s.sizes }))
some_byte byte.Version left items f = (suc left, some_version left f.0 f.1)
some_byte byte.SiteLength left items f = (suc left, some_site left f.0 f.1)
some_byte byte.RootLength left items f = (suc left, some_root items left f)
some_byte byte.Updater left items f = (suc left, some_updater left f.0 f.1)
some_byte byte.Tag left items f =
    let t = tag_of items (λ m g. some_updates items m g) left f in
    (suc left, some_one t.0 left (λ b. Sized (Tagged (Updated items) b) left) (sized (Tagged (Updated items) t.0) left t.1))
some_byte (byte.KeyLength set) left items f = (suc left, key_length_of items (λ m g. some_updates items m g) set left f)

-- bytes that complete a number
some_front : (front : Front) (L : ℕ → Rest) → IsOpen front → ((n : ℕ) → front.low ≤ n → n ≤ front.high → (len : ℕ) × Some (L n) len) → (len : ℕ) × Some (Numbered front.missing front.value (Within front.low front.high L)) len
some_front front L o f =
    let n = max front.low (front.value * unit front.missing) in
    let b = o.met.bounds in
    let past = o.met.not_past in
    let reaches = o.met.reaches in
    let pos = unit_pos front.missing in
    let s = f n (omega arith) (omega arith) in
    let t = s.1 in
    (front.missing + s.0, some_number front.missing front.value n s.0 (Within front.low front.high L) (omega arith) (omega arith) (record { bytes = t.bytes; holds = (omega arith, omega arith, t.holds); sizes = t.sizes }))

-- some bytes complete a sound scan
pub some_completion : (part : Part) (left items : ℕ) → Fits part left items → (w : List ℕ) × Accepts part left items w
some_completion (Byte field) left items f = let s = some_byte field left items f in (s.1.bytes, s.1.holds)
some_completion (Number field front) left items f =
    let small = f.0.met.small in
    let s = some_front front (BehindNumber field left items) f.0 (λ n a b. some_behind field front.low front.high left items n a b small f.1) in
    (s.1.bytes, s.1.holds)
some_completion (Name first missing true) left items f = let s = some_name first missing left (Sized Lengthed left) (sized Lengthed left (some_lengthed left f.1)) in (s.bytes, s.holds)
some_completion (Name first missing false) left items f =
    let h = f.1 in
    let s = some_name first missing left (Sized (Cycling (Reigned items)) left) (sized (Cycling (Reigned items)) left (of_length (Cycling (Reigned items)) (12 + (left - 12)) left (omega (arith, h.0))
    (some_cycling (left - 12) (Reigned items) (some_reigns items (left - 12) (omega (arith, h.0), omega (arith, h.1)))))) in
    (s.bytes, s.holds)
some_completion (Key set prefix) left items f =
    let k = f.0 in
    let at = k.is_at in
    let rest = at.begins.rest in
    let code = at.begins.whole in
    let long = code.long in
    let s = sized (BehindKey set (Updated items)) left (behind_key_of items (λ m g. some_updates items m g) set left f.1) in
    (rest ++ s.bytes, record { front = rest; back = s.bytes; is = refl; here = (at.completed rest code, omega (arith, at.left, length-append k.taken rest)); there = s.holds })
some_completion (Value missing) left items f = let s = some_skipped missing left (Sized (Updated items) left) (sized (Updated items) left (some_updates items left f.1)) in (s.bytes, s.holds)
some_completion Whole left items f = ([], refl)
