-- What scans behind one more byte await.
use Rattle.std.proofs.Common.{◌≡◌, ℕ, suc, ◌+◌, ◌*◌, ◌<◌, ◌≤◌, List, [], ◌∷◌, ◌++◌, length, Bool, refl, sym, ap, ◌∙◌, subst, arith, length-append, append_assoc, append-nil}
use Rattle.gvn_key.specs.Codes.{IsCode, Begins}
use Rattle.gvn_key.specs.Rests.{IsAt}
use Rattle.gvn_key.specs.declared.prefix.KeyPrefix.{KeyPrefix}
use Rattle.repl_wire.specs.declared.field.NumberField.{NumberField}
use Rattle.repl_wire.specs.declared.field.NumberField.TheVariants as number
use Rattle.repl_wire.specs.declared.field.Part.TheVariants.{Number, Key}
use Rattle.repl_wire.specs.declared.field.Scan.{Scan}
use Rattle.repl_wire.specs.declared.front.Front.{Front}
use Rattle.repl_wire.specs.Fronts.{unit, IsMet, IsOpen, taken}
use Rattle.repl_wire.specs.Layout.{Rest, Sized, Numbered, Within, Then, Updated, BehindKey}
use Rattle.repl_wire.specs.Scans.{Awaits, Accepts, BehindNumber, KeyRest, NumberFits, KeyFits, IsInKey}
use Rattle.repl_wire.proofs.Sizes.{Same, awaits_same}
use Rattle.repl_wire.proofs.Digits.{stepped}
use Rattle.repl_wire.proofs.Begun.{awaits}

-- bounds that come closer
pub fits_closer : (field : NumberField) (low high n left items : ℕ) → low ≤ n → n ≤ high → NumberFits field low high left items → NumberFits field n n left items
fits_closer (number.BodyLength kind) low high n left items a b f = (omega (arith, f.0), omega (arith, f.1))
fits_closer number.Length low high n left items a b f = f
fits_closer number.ReignCount low high n left items a b f = (omega (arith, f.0), omega (arith, f.1), f.2)
fits_closer number.Cycle low high n left items a b f = f
fits_closer number.Start low high n left items a b f = f
fits_closer number.Alone low high n left items a b f = f
fits_closer number.EntryNumber low high n left items a b f = f
fits_closer number.Serial low high n left items a b f = f
fits_closer number.UpdateCount low high n left items a b f = (omega (arith, f.0), omega (arith, f.1), omega (arith, f.2), omega (arith, f.3))
fits_closer number.ValueLength low high n left items a b f = (omega (arith, f.0), omega (arith, f.1), omega (arith, f.2))

-- a front of which nothing is missing is a number between the bounds
pub whole_met : (f : Front) → f.missing ≡ 0 → IsMet f → (f.low ≤ f.value) × (f.value ≤ f.high)
whole_met f e m =
    let past = subst (λ (k : ℕ). f.value * unit k ≤ f.high) e m.not_past in
    let reaches = subst (λ (k : ℕ). f.low < (f.value + 1) * unit k) e m.reaches in
    (omega (arith, reaches), omega (arith, past))

pub number_whole : (field : NumberField) (front : Front) (left items : ℕ) (s : Scan) → front.missing ≡ 0 → IsMet front → Awaits s (BehindNumber field left items front.value) → Awaits s (Accepts (Number field front) left items)
number_whole field front left items s none met a =
    let bounds = whole_met front none met in
    awaits_same s (BehindNumber field left items front.value) (Accepts (Number field front) left items) a
    (subst (λ (m : ℕ). Same (BehindNumber field left items front.value) (Numbered m front.value (Within front.low front.high (BehindNumber field left items)))) (sym none)
    (record { to = λ w h. (bounds.0, bounds.1, h); back = λ w h. h.2 }))

pub number_open : (field : NumberField) (front : Front) (left items : ℕ) → 1 ≤ front.missing → front.missing ≤ 8 → IsMet front → NumberFits field front.low front.high left items
    → Awaits (record { part = Number field front; left = left; items = items }) (Accepts (Number field front) left items)
number_open field front left items some few met fits = awaits (Number field front) left items (Accepts (Number field front) left items)
    (record { met = met; some = some; few = few }, fits) (record { to = λ w h. h; back = λ w h. h })

pub number_stepped : (field : NumberField) (front after : Front) (left items byte : ℕ) (s : Scan) → IsOpen front → byte < 256 → after ≡ taken front byte → Awaits s (Accepts (Number field after) left items)
    → Awaits s (λ w. Accepts (Number field front) left items (byte ∷ w))
number_stepped field front after left items byte s open_ small is a =
    awaits_same s (Accepts (Number field (taken front byte)) left items) (λ w. Accepts (Number field front) left items (byte ∷ w))
    (subst (λ (f : Front). Awaits s (Accepts (Number field f) left items)) is a)
    (stepped front byte (BehindNumber field left items) open_ small)

-- keys

pub left_is : (prefix : KeyPrefix) (taken : List ℕ) (len left : ℕ) → IsAt prefix taken len → left + length taken ≡ len → left ≡ 0 → prefix.left ≡ 0
left_is prefix taken len left at e none = omega (arith, at.left)

module _ (set : Bool) (old new : KeyPrefix) (left items byte : ℕ) (taken : List ℕ) (len : ℕ) (before_ : IsAt old taken len) (after : IsAt new (taken ++ byte ∷ []) len) where
  one_less : old.left ≡ suc new.left
  one_less = omega (arith, before_.left, after.left, length-append taken (byte ∷ []))

  K : Rest
  K = Sized (BehindKey set (Updated items)) left

  key_to : (x : List ℕ) → KeyRest new x → KeyRest old (byte ∷ x)
  key_to x h =
      let code : IsCode len ((taken ++ byte ∷ []) ++ x) = after.completes x h.0 h.1 in
      let moved : IsCode len (taken ++ byte ∷ x) = subst (λ (l : List ℕ). IsCode len l) (append_assoc taken (byte ∷ []) x) code in
      (before_.completed (byte ∷ x) moved, omega (arith, h.1, one_less))

  key_back : (x : List ℕ) → KeyRest old (byte ∷ x) → KeyRest new x
  key_back x h =
      let code : IsCode len (taken ++ byte ∷ x) = before_.completes (byte ∷ x) h.0 h.1 in
      let moved : IsCode len ((taken ++ byte ∷ []) ++ x) = subst (λ (l : List ℕ). IsCode len l) (sym (append_assoc taken (byte ∷ []) x)) code in
      (after.completed x moved, omega (arith, h.1, one_less))

  pub key_step_to : (w : List ℕ) → Then (KeyRest new) (Sized (BehindKey set (Updated items)) left) w → Then (KeyRest old) (Sized (BehindKey set (Updated items)) left) (byte ∷ w)
  key_step_to w h = record { front = byte ∷ h.front; back = h.back; is = ap (λ l. byte ∷ l) h.is; here = key_to h.front h.here; there = h.there }

  pub key_step_back : (w : List ℕ) → Then (KeyRest old) (Sized (BehindKey set (Updated items)) left) (byte ∷ w) → Then (KeyRest new) (Sized (BehindKey set (Updated items)) left) w
  key_step_back w h = by_front h.front h.is h.here
    where
      by_front : (front : List ℕ) → byte ∷ w ≡ front ++ h.back → KeyRest old front → Then (KeyRest new) (Sized (BehindKey set (Updated items)) left) w
      by_front [] e k = absurd (omega (arith, k.1, one_less))
      by_front (b ∷ x) e k =
          let same : b ≡ byte = cc in
          let rest : w ≡ x ++ h.back = cc in
          record { front = x; back = h.back; is = rest; here = key_back x (subst (λ (y : ℕ). KeyRest old (y ∷ x)) same k); there = h.there }

  pub key_goes_on : 1 ≤ new.left → KeyFits set left items → Awaits (record { part = Key set new; left = left; items = items }) (λ w. Accepts (Key set old) left items (byte ∷ w))
  key_goes_on some fits = awaits (Key set new) left items (λ w. Accepts (Key set old) left items (byte ∷ w))
      (record { taken = taken ++ byte ∷ []; len = len; is_at = after; some = some }, fits)
      (record { to = key_step_to; back = key_step_back })

  pub key_ends : (s : Scan) → new.left ≡ 0 → IsCode len (taken ++ byte ∷ []) → Awaits s (Sized (BehindKey set (Updated items)) left) → Awaits s (λ w. Accepts (Key set old) left items (byte ∷ w))
  key_ends s none code a = awaits_same s (Sized (BehindKey set (Updated items)) left) (λ w. Accepts (Key set old) left items (byte ∷ w)) a (record { to = to; back = back })
    where
      nothing : KeyRest new []
      nothing = (after.completed [] (subst (λ (l : List ℕ). IsCode len l) (sym (append-nil (taken ++ byte ∷ []))) code), sym none)

      to : (w : List ℕ) → Sized (BehindKey set (Updated items)) left w → Then (KeyRest old) (Sized (BehindKey set (Updated items)) left) (byte ∷ w)
      to w h = key_step_to w (record { front = []; back = w; is = refl; here = nothing; there = h })

      back : (w : List ℕ) → Then (KeyRest old) (Sized (BehindKey set (Updated items)) left) (byte ∷ w) → Sized (BehindKey set (Updated items)) left w
      back w h = let k = key_step_back w h in by_front k.front k.is k.here.1
        where
          by_front : (front : List ℕ) → w ≡ front ++ (key_step_back w h).back → length front ≡ new.left → Sized (BehindKey set (Updated items)) left w
          by_front [] e l = subst (λ (y : List ℕ). Sized (BehindKey set (Updated items)) left y) (sym e) (key_step_back w h).there
          by_front (b ∷ x) e l = absurd (omega (arith, l, none))

-- no key goes on with the byte
pub key_stops : (old : KeyPrefix) (K : Rest) (byte : ℕ) (in_key : IsInKey old) → (Begins (in_key.taken ++ byte ∷ []) in_key.len → ⊥) → (w : List ℕ) → Then (KeyRest old) K (byte ∷ w) → ⊥
key_stops old K byte in_key none w h = by_front h.front h.is h.here
  where
    by_front : (front : List ℕ) → byte ∷ w ≡ front ++ h.back → KeyRest old front → ⊥
    by_front [] e k = let some = in_key.some in omega (arith, k.1)
    by_front (b ∷ x) e k =
        let same : b ≡ byte = cc in
        let code : IsCode in_key.len (in_key.taken ++ b ∷ x) = in_key.is_at.completes (b ∷ x) k.0 k.1 in
        let moved : IsCode in_key.len ((in_key.taken ++ byte ∷ []) ++ x) = subst (λ (l : List ℕ). IsCode in_key.len l) (ap (λ (y : ℕ). in_key.taken ++ y ∷ x) same ∙ sym (append_assoc in_key.taken (byte ∷ []) x)) code in
        none (record { rest = x; whole = moved })
