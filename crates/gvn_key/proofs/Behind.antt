-- What a key's bytes tell of the key behind it.
use Rattle.std.proofs.Common.{◌≡◌, ℕ, zero, suc, ◌+◌, ◌-◌, ◌<◌, ◌≤◌, true, List, [], ◌∷◌, ◌++◌, length, take, drop, get_or, refl, ap, sym, subst, ◌∙◌, arith, append_assoc, append-nil, length-append, length-drop, slice_index}
use Rattle.std.specs.List.{AllByRecursion, flat_map}
use Rattle.std.specs.declared.cmp.Ordering.TheVariants.{Less}
use Rattle.std.specs.Ordering.{nat_cmp}
use Rattle.std.specs.Cmp.Lexicographic.{slice_cmp}
use Rattle.std.proofs.lemmas.List.{take-append-drop, length-take-le, drop_more, drop-drop, take_all}
use Rattle.std.proofs.lemmas.Grind.{flat_map-append}
use Rattle.std.proofs.lemmas.List.Folds.{list_all-append}
use Rattle.std.proofs.Math.Seq.{take-add, drop-length, take-append_seam, drop-append-add, take-append-add, get_or-append_seam}
use Rattle.global_defs.specs.declared.limits.TheConstants.{MOST_SUBS}
use Rattle.global_defs.specs.Key.{Sub}
use Rattle.global_defs.specs.Encoded.{encoded_sub}
use Rattle.global_defs.specs.Valid.{is_sub}
use Rattle.global_defs.proofs.Fronts.{less_behind}
use Rattle.gvn_key.specs.Decoding.{IsCode}
use Rattle.gvn_key.specs.Rests.{AreSubs}
use Rattle.gvn_key.specs.declared.told.Seen.{Seen}
use Rattle.gvn_key.specs.Plain.{BeginWithName, BeginWithSub, HasText, MayStand}
use Rattle.gvn_key.specs.Next.{Tells}
use Rattle.gvn_key.proofs.CodeSubscripts.{AreRead, one_read, all_read, code_of}
use Rattle.gvn_key.proofs.Texts.{AreWithin}

-- ---- subscripts read behind a name

-- these bytes and a subscript are a key's, if there is room
abbrev pub TakesSub : List ℕ → Type 0
TakesSub front = (s : Sub) → is_sub s ≡ true → length (front ++ encoded_sub s) ≤ 255 → IsCode (front ++ encoded_sub s)

-- a name and subscripts, so many that there is room for one more, are followed by a subscript
takes_read : (bytes : List ℕ) (end at n : ℕ) → BeginWithName end bytes → end + 1 ≤ at → at ≤ length bytes → AreRead n (drop at bytes) (drop (end + 1) bytes) → n ≤ 30 → TakesSub (take at bytes)
takes_read bytes end at n name past inside r few s valid short =
    let subs = r.subs in
    let count = r.count in
    let long = name.long in
    let made : List ℕ = take at bytes ++ encoded_sub s in
    let cut : name.behind ≡ drop (end + 1) bytes = sym ((λ i. drop (sym long i + 1) (name.code i)) ∙ drop-append-add name.name (0 ∷ name.behind) 1) in
    let whole : bytes ≡ (name.name ++ 0 ∷ flat_map encoded_sub subs) ++ drop at bytes =
    name.code ∙ ap (λ (x : List ℕ). name.name ++ 0 ∷ x) (cut ∙ r.code) ∙ sym (append_assoc name.name (0 ∷ flat_map encoded_sub subs) (drop at bytes)) in
    let size : length (name.name ++ 0 ∷ flat_map encoded_sub subs) ≡ at = omega (arith, ap length whole, length-append (name.name ++ 0 ∷ flat_map encoded_sub subs) (drop at bytes), length-drop at bytes, inside) in
    let front : take at bytes ≡ name.name ++ 0 ∷ flat_map encoded_sub subs = (λ i. take (sym size i) (whole i)) ∙ take-append_seam (name.name ++ 0 ∷ flat_map encoded_sub subs) (drop at bytes) in
    let is : made ≡ name.name ++ 0 ∷ (flat_map encoded_sub subs ++ encoded_sub s) = ap (λ (x : List ℕ). x ++ encoded_sub s) front ∙ append_assoc name.name (0 ∷ flat_map encoded_sub subs) (encoded_sub s) in
    let begins : BeginWithName end made = record { name = name.name; behind = flat_map encoded_sub subs ++ encoded_sub s; code = is; long = long; short = name.short; valid = name.valid } in
    let joined : flat_map encoded_sub (subs ++ s ∷ []) ≡ flat_map encoded_sub subs ++ encoded_sub s =
    flat_map-append encoded_sub subs (s ∷ []) ∙ ap (λ (x : List ℕ). flat_map encoded_sub subs ++ x) (append-nil (encoded_sub s)) in
    let subs_more : AreSubs MOST_SUBS (flat_map encoded_sub subs ++ encoded_sub s) = record {
      subs = subs ++ s ∷ [];
      valid = list_all-append is_sub subs (s ∷ []) ∙ rw (r.valid, valid) refl;
      few = omega (arith, length-append subs (s ∷ []), count, few);
      encode = joined;
    } in
    let behind : flat_map encoded_sub subs ++ encoded_sub s ≡ drop (end + 1) made =
    sym ((λ i. drop (sym long i + 1) (is i)) ∙ drop-append-add name.name (0 ∷ (flat_map encoded_sub subs ++ encoded_sub s)) 1) in
    code_of end made (flat_map encoded_sub subs ++ encoded_sub s) begins behind subs_more short

-- what a subscript's text tells of a key that ends with it
told : (bytes : List ℕ) (at size longest : ℕ) (sub : Seen) → TakesSub (take at bytes) → at + size ≤ length bytes → (0 < sub.longest → HasText sub.from sub.low sub.most sub.longest size (drop at bytes)) → longest ≤ sub.longest
    → (0 < longest → at + sub.from + longest ≤ 254) → Tells (record { from = at + sub.from; longest = longest; low = sub.low; most = sub.most }) (take (at + size) bytes)
told bytes at size longest sub takes inside texts fewer short some =
    let t = texts (omega (arith, some, fewer)) in
    let long = t.long in
    let near : sub.from ≤ length (drop at bytes) = omega (arith, long, inside, length-drop at bytes) in
    let front : List ℕ = take at bytes ++ take sub.from (drop at bytes) in
    let size_front : length front ≡ at + sub.from =
    omega (arith, length-append (take at bytes) (take sub.from (drop at bytes)), length-take-le at bytes (omega (arith, inside)), length-take-le sub.from (drop at bytes) near) in
    record {
      front = front;
      text = t.text;
      is = take-add at size bytes ∙ ap (λ (x : List ℕ). take at bytes ++ x) t.is ∙ sym (append_assoc (take at bytes) (take sub.from (drop at bytes)) (t.text ++ 0 ∷ []));
      long = size_front;
      some = t.some;
      inner = t.inner;
      can = λ other m.
          let few = m.few in
          let s = t.can other (record { some = m.some; few = omega (arith, few, fewer); first = m.first; inner = m.inner; last = m.last }) in
          let is : take at bytes ++ encoded_sub s.0 ≡ front ++ (other ++ 0 ∷ []) = ap (λ (x : List ℕ). take at bytes ++ x) (sym s.2) ∙ sym (append_assoc (take at bytes) (take sub.from (drop at bytes)) (other ++ 0 ∷ [])) in
          let room = short some in
          subst IsCode is (takes s.0 s.1 (omega (arith, ap length is, length-append front (other ++ 0 ∷ []), length-append other (0 ∷ []), size_front, few, room)));
    }

-- How far subscripts are read behind a name, and what is told of the last one.
pub record AreReadTo (bytes : List ℕ) (end n at : ℕ) (seen : Seen) : Type 0 where
  pub inside : at ≤ length bytes
  pub past : end + 1 ≤ at
  pub read : AreRead n (drop at bytes) (drop (end + 1) bytes)
  pub tells : Tells seen (take at bytes)

pub no_more : (bytes : List ℕ) (end n at : ℕ) (seen : Seen) → AreReadTo bytes end n at seen → BeginWithName end bytes → at ≡ length bytes → n ≤ 31 → length bytes ≤ 255 → IsCode bytes × Tells seen bytes
no_more bytes end n at seen r name all few short = (
  code_of end bytes (drop (end + 1) bytes) name refl (all_read n (drop at bytes) (drop (end + 1) bytes) r.read few (omega (arith, length-drop at bytes, all))) short,
  subst (Tells seen) (take_all at bytes (omega (arith, all))) r.tells,
)

pub one_more : (bytes : List ℕ) (end n at size longest : ℕ) (seen sub : Seen) → AreReadTo bytes end n at seen → BeginWithName end bytes → n ≤ 30 → BeginWithSub size (drop at bytes)
    → (0 < sub.longest → HasText sub.from sub.low sub.most sub.longest size (drop at bytes)) → longest ≤ sub.longest → (0 < longest → at + sub.from + longest ≤ 254) → at + size ≤ length bytes
    → AreReadTo bytes end (n + 1) (at + size) (record { from = at + sub.from; longest = longest; low = sub.low; most = sub.most })
one_more bytes end n at size longest seen sub r name few begins texts fewer short inside =
    let past = r.past in
    record {
      inside = inside;
      past = omega (arith, past);
      read = subst (λ (x : List ℕ). AreRead (n + 1) x (drop (end + 1) bytes)) (drop-drop size at bytes) (one_read n (drop at bytes) (drop (end + 1) bytes) size r.read begins);
      tells = told bytes at size longest sub (takes_read bytes end at n name past r.inside r.read few) inside texts fewer short;
    }

pub none_yet : (bytes : List ℕ) (end : ℕ) (seen : Seen) → end < length bytes → seen.longest ≡ 0 → AreReadTo bytes end 0 (end + 1) seen
none_yet bytes end seen inside none = record {
  inside = omega (arith, inside);
  past = omega arith;
  read = record { subs = []; valid = refl; count = refl; code = refl };
  tells = λ some. absurd (omega (arith, some, none));
}

-- ---- the key behind another

-- a front that is inside the first of two lists
take_in : (k : ℕ) (xs ys : List ℕ) → k ≤ length xs → take k (xs ++ ys) ≡ take k xs
take_in zero xs ys inside = refl
take_in (suc k) [] ys inside = absurd (omega (arith, inside))
take_in (suc k) (x ∷ xs) ys inside = ap (λ (l : List ℕ). x ∷ l) (take_in k xs ys (omega (arith, inside)))

first_stays : (k : ℕ) (xs : List ℕ) (c : ℕ) → 0 < k → 0 < length xs → slice_index (take k xs ++ c ∷ []) 0 ≡ slice_index xs 0
first_stays zero xs c some long = absurd (omega (arith, some))
first_stays (suc k) [] c some long = absurd (omega (arith, long))
first_stays (suc k) (x ∷ xs) c some long = refl

all_front : (P : ℕ → Type 0) (k : ℕ) (xs : List ℕ) (c : ℕ) → AllByRecursion P xs → P c → AllByRecursion P (take k xs ++ c ∷ [])
all_front P zero xs c all one = (one, tt)
all_front P (suc k) [] c all one = (one, tt)
all_front P (suc k) (x ∷ xs) c all one = (all.0, all_front P k xs c all.1 one)

-- What holds of a key that ends like another.
pub record HasRisen (seen : Seen) (last next : List ℕ) : Type 0 where
  pub code : IsCode next
  pub order : slice_cmp nat_cmp last next ≡ Less
  pub tells : Tells seen next

-- the bytes where the last one is a 0, and a byte stands before it
ends_in : (bytes : List ℕ) (place : ℕ) → place + 2 ≡ length bytes → get_or bytes (length bytes - 1) 0 ≡ 0 → bytes ≡ take place bytes ++ get_or bytes place 0 ∷ 0 ∷ []
ends_in bytes place size end =
    let next : length bytes - 1 ≡ place + 1 = omega (arith, size) in
    let all : place + 1 + 1 ≡ length bytes = omega (arith, size) in
    let tail : drop place bytes ≡ get_or bytes place 0 ∷ get_or bytes (place + 1) 0 ∷ [] =
    drop_more bytes place 0 (omega (arith, size)) ∙ ap (λ (x : List ℕ). get_or bytes place 0 ∷ x) (drop_more bytes (place + 1) 0 (omega (arith, size)) ∙ ap (λ (x : List ℕ). get_or bytes (place + 1) 0 ∷ x) (ap (λ k. drop k bytes) all ∙ drop-length bytes)) in
    sym (take-append-drop place bytes) ∙ ap (λ (x : List ℕ). take place bytes ++ x) (tail ∙ ap (λ k. get_or bytes place 0 ∷ k ∷ []) (ap (λ k. get_or bytes k 0) (sym next) ∙ end))

pub risen : (last next : List ℕ) (seen : Seen) (place : ℕ) → Tells seen last → place + 2 ≡ length next → seen.from < place → place < length last → place - seen.from < seen.longest → get_or last place 0 < get_or next place 0
    → seen.low ≤ get_or next place 0 → get_or next place 0 ≤ seen.most → get_or next (length next - 1) 0 ≡ 0 → take place last ≡ take place next → HasRisen seen last next
risen last next seen place t size behind inside room above low most end same =
    let m = t (omega (arith, room)) in
    let long = m.long in
    let some = m.some in
    let k = place - seen.from in
    let c = get_or next place 0 in
    let there : length m.front + k ≡ place = omega (arith, long, behind) in
    let within : k ≤ length m.text = omega (arith, inside, ap length m.is, length-append m.front (m.text ++ 0 ∷ []), length-append m.text (0 ∷ []), there) in
    let front : take place last ≡ m.front ++ take k m.text =
    (λ i. take (sym there i) (m.is i)) ∙ take-append-add m.front (m.text ++ 0 ∷ []) k ∙ ap (λ (x : List ℕ). m.front ++ x) (take_in k m.text (0 ∷ []) within) in
    let text : List ℕ = take k m.text ++ c ∷ [] in
    let text_size : length text ≡ k + 1 = omega (arith, length-append (take k m.text) (c ∷ []), length-take-le k m.text within) in
    let ends : next ≡ take place next ++ c ∷ 0 ∷ [] = ends_in next place size end in
    let is : next ≡ m.front ++ (text ++ 0 ∷ []) =
    ends ∙ ap (λ (x : List ℕ). x ++ c ∷ 0 ∷ []) (sym same ∙ front) ∙ append_assoc m.front (take k m.text) (c ∷ 0 ∷ []) ∙ ap (λ (x : List ℕ). m.front ++ x) (sym (append_assoc (take k m.text) (c ∷ []) (0 ∷ []))) in
    let first : slice_index text 0 ≡ slice_index m.text 0 = first_stays k m.text c (omega (arith, behind)) some in
    let inner : AreWithin seen.low seen.most text = all_front (λ b. (seen.low ≤ b + 1) × (b ≤ seen.most)) k m.text c m.inner (omega (arith, low), most) in
    let index : length text - 1 ≡ length (take k m.text) = omega (arith, length-append (take k m.text) (c ∷ [])) in
    let last_is : slice_index text (length text - 1) ≡ c = ap (λ i. get_or text i 0) index ∙ get_or-append_seam (take k m.text) c [] 0 in
    let stands : MayStand seen.low seen.most seen.longest (slice_index m.text 0) text = record { some = omega (arith, text_size); few = omega (arith, text_size, room); first = first; inner = inner; last = omega (arith, last_is, low) } in
    let parted : last ≡ take place next ++ get_or last place 0 ∷ drop (place + 1) last =
    sym (take-append-drop place last) ∙ (λ i. same i ++ drop_more last place 0 inside i) in
    record {
      code = subst IsCode (sym is) (m.can text stands);
      order = (λ i. slice_cmp nat_cmp (parted i) (ends i)) ∙ less_behind (take place next) (get_or last place 0) c (drop (place + 1) last) (0 ∷ []) above;
      tells = λ _. record {
        front = m.front;
        text = text;
        is = is;
        long = long;
        some = omega (arith, text_size);
        inner = inner;
        can = λ other s. m.can other (record { some = s.some; few = s.few; first = s.first ∙ first; inner = s.inner; last = s.last });
      };
    }
