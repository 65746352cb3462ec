-- The text of a site's entries from a number on.
use Rattle.std.proofs.Common.{◌≡◌, ◌⊎◌, ℕ, zero, suc, ◌+◌, ◌-◌, ◌<◌, ◌≤◌, List, [], ◌∷◌, ◌++◌, length, take, drop, refl, sym, ap, ◌∙◌, subst, arith, inl, inr, append-nil, append_assoc, length-append, take_all}
use Rattle.std.specs.Prelude.{Option, Some, None, IfSome, slice_get, replicate}
use Rattle.std.proofs.Math.Seq.{drop-append_seam}
use Rattle.std.proofs.lemmas.Bool.{cases_lt}
use Rattle.std.proofs.lemmas.List.{length-drop, length-replicate, length-take-le, take_more, drop_all}
use Rattle.std.proofs.lemmas.Option.{slice_get_within, get_or_from_slice_get}
use Rattle.std.specs.Option.{unwrap_or}
use Rattle.global_defs.specs.Entry.{Entry, Sequence}
use Rattle.global_defs.specs.Extract.{entry_text, entries_text, header, extract}
use Rattle.site_defs.specs.Texts.{extract_from}
use Rattle.site_store.proofs.Loaded.{quiet_entry as UNSHOWN}

-- an extract written in two steps, into a text of its own
pub extracts : (name shown_name : List ℕ) (from before : ℕ) (seq : Sequence) (none mid lines : List ℕ) → 0 < from → before ≡ from - 1 → shown_name ≡ name
    → none ≡ [] → mid ≡ none ++ header shown_name from → lines ≡ mid ++ entries_text (before + 1) (drop before seq) → lines ≡ extract name seq from
extracts name shown_name from before seq none mid lines some b n e m w =
    let more : List ℕ = entries_text (before + 1) (drop before seq) in
    let number : from - 1 + 1 ≡ from = omega (arith, some) in
    w ∙ ap (λ (x : List ℕ). x ++ more) (m ∙ ap (λ (x : List ℕ). x ++ header shown_name from) e)
    ∙ ap (λ (x : List ℕ). header x from ++ more) n
    ∙ ap (λ (k : ℕ). header name from ++ entries_text (k + 1) (drop k seq)) b
    ∙ ap (λ (k : ℕ). header name from ++ entries_text k (drop (from - 1) seq)) number

-- a number that isn't there is 1
pub from_one : (name : List ℕ) (number : Option ℕ) (from : ℕ) (seq : Sequence) → from ≡ unwrap_or number 1 → extract name seq from ≡ extract_from name number seq
from_one name None from seq e = ap (extract name seq) e
from_one name (Some n) from seq e = ap (extract name seq) e

pub from_least : (number : Option ℕ) (from : ℕ) → from ≡ unwrap_or number 1 → IfSome number (λ n. 0 < n) → 0 < from
from_least None from e h = omega (arith, e)
from_least (Some n) from e h = omega (arith, e, h)

-- entries written one by one, from behind the first so many

-- one more behind others
text_more : (n : ℕ) (es : Sequence) (e : Entry) → entries_text n (es ++ e ∷ []) ≡ entries_text n es ++ entry_text (n + length es) e
text_more n [] e = let number : n ≡ n + 0 = omega arith in append-nil (entry_text n e) ∙ ap (λ (m : ℕ). entry_text m e) number
text_more n (x ∷ es) e =
    let number : n + 1 + length es ≡ n + suc (length es) = omega arith in
    ap (λ (l : List ℕ). entry_text n x ++ l) (text_more (n + 1) es e ∙ ap (λ (m : ℕ). entries_text (n + 1) es ++ entry_text m e) number)
    ∙ sym (append_assoc (entry_text n x) (entries_text (n + 1) es) (entry_text (n + suc (length es)) e))

lines_more : (before number : ℕ) (es : Sequence) (e : Entry) (text mid now : List ℕ) → number ≡ before + 1 + length es → mid ≡ text ++ entries_text (before + 1) es → now ≡ mid ++ entry_text number e
    → now ≡ text ++ entries_text (before + 1) (es ++ e ∷ [])
lines_more before number es e text mid now is was added =
    added
    ∙ ap (λ (x : List ℕ). x ++ entry_text number e) was
    ∙ append_assoc text (entries_text (before + 1) es) (entry_text number e)
    ∙ ap (λ (m : ℕ). text ++ (entries_text (before + 1) es ++ entry_text m e)) is
    ∙ ap (λ (x : List ℕ). text ++ x) (sym (text_more (before + 1) es e))

-- the entry at a place
at : (es : Sequence) (k : ℕ) → k < length es → (e : Entry) × (slice_get es k ≡ Some e)
at [] k low = absurd (omega (arith, low))
at (x ∷ es) zero low = (x, refl)
at (x ∷ es) (suc k) low = at es k (omega (arith, low))

slice_drop : (b k : ℕ) (es : Sequence) → slice_get (drop b es) k ≡ slice_get es (b + k)
slice_drop zero k es = let same : k ≡ 0 + k = omega arith in ap (slice_get es) same
slice_drop (suc b) k [] = refl
slice_drop (suc b) k (x ∷ es) = let same : suc (b + k) ≡ suc b + k = omega arith in slice_drop b k es ∙ ap (slice_get (x ∷ es)) same

-- one more of a sequence
take_one : (es : Sequence) (k : ℕ) (e : Entry) → slice_get es k ≡ Some e → take (k + 1) es ≡ take k es ++ e ∷ []
take_one es k e is = take_more es k e (slice_get_within es k e is) ∙ ap (λ (x : Entry). take k es ++ x ∷ []) (get_or_from_slice_get es k e e is)

pub none_yet : (items : Sequence) (before : ℕ) (text : List ℕ) → text ≡ text ++ entries_text (before + 1) (take (before - before) (drop before items))
none_yet items before text =
    let none : 0 ≡ before - before = omega arith in
    sym (append-nil text) ∙ ap (λ (k : ℕ). text ++ entries_text (before + 1) (take k (drop before items))) none

pub entry_more : (items : Sequence) (before place : ℕ) (text mid now : List ℕ) → before ≤ place → place < length items
    → mid ≡ text ++ entries_text (before + 1) (take (place - before) (drop before items))
    → IfSome (slice_get items place) (λ e. now ≡ mid ++ entry_text (place + 1) e)
    → now ≡ text ++ entries_text (before + 1) (take (place + 1 - before) (drop before items))
entry_more items before place text mid now from low was is =
    let k = place - before in
    let rest = drop before items in
    let found = at items place low in
    let same : before + k ≡ place = omega (arith, from) in
    let here : slice_get rest k ≡ Some found.0 = slice_drop before k items ∙ ap (slice_get items) same ∙ found.1 in
    let added : now ≡ mid ++ entry_text (place + 1) found.0 = subst (λ (o : Option Entry). IfSome o (λ e. now ≡ mid ++ entry_text (place + 1) e)) found.1 is in
    let size = length-drop before items in
    let long : length (take k rest) ≡ k = length-take-le k rest (omega (arith, size, low)) in
    let number : place + 1 ≡ before + 1 + length (take k rest) = omega (arith, from, long) in
    let one : place + 1 - before ≡ k + 1 = omega (arith, from) in
    lines_more before (place + 1) (take k rest) found.0 text mid now number was added
    ∙ ap (λ (l : Sequence). text ++ entries_text (before + 1) l) (sym (ap (λ (i : ℕ). take i rest) one ∙ take_one rest k found.0 here))

pub entries_done : (items : Sequence) (before place : ℕ) (text now : List ℕ) → length items ≤ place
    → now ≡ text ++ entries_text (before + 1) (take (place - before) (drop before items))
    → now ≡ text ++ entries_text (before + 1) (drop before items)
entries_done items before place text now all was =
    let size = length-drop before items in
    was ∙ ap (λ (l : Sequence). text ++ entries_text (before + 1) l) (take_all (place - before) (drop before items) (omega (arith, size, all)))

-- Lines were added of so many entries, whichever they are.
pub record SomeLines (before many : ℕ) (text now : List ℕ) : Type 0 where
  pub entries : Sequence
  pub count : length entries ≡ many
  pub added : now ≡ text ++ entries_text (before + 1) entries

pub some_none : (before : ℕ) (text : List ℕ) → SomeLines before (before - before) text text
some_none before text = record { entries = []; count = omega arith; added = sym (append-nil text) }

pub some_more : (before place : ℕ) (text mid now : List ℕ) → before ≤ place → SomeLines before (place - before) text mid → (e : Entry) × (now ≡ mid ++ entry_text (place + 1) e) → SomeLines before (place + 1 - before) text now
some_more before place text mid now from was is =
    let long : length (was.entries ++ is.0 ∷ []) ≡ length was.entries + 1 = length-append was.entries (is.0 ∷ []) in
    let count = was.count in
    let number : place + 1 ≡ before + 1 + length was.entries = omega (arith, from, count) in
    record { entries = was.entries ++ is.0 ∷ []; count = omega (arith, from, count, long); added = lines_more before (place + 1) was.entries is.0 text mid now number was.added is.1 }

no_entry : (es : Sequence) → length es ≡ 0 → es ≡ []
no_entry [] e = refl
no_entry (x ∷ es) e = cc

-- so they are those of a sequence that has as many entries as there are
pub some_done : (before many place : ℕ) (text now : List ℕ) → before ≤ place → many ≤ place → (place ≡ before) ⊎ (place ≤ many) → SomeLines before (place - before) text now
    → (seq : Sequence) × (length seq ≡ many) × (now ≡ text ++ entries_text (before + 1) (drop before seq))
some_done before many place text now from all reached was = elim (cases_lt many before) [
  | inl less ↦
      let none : was.entries ≡ [] = no_entry was.entries (nothing less) in
      let few : length (replicate many UNSHOWN) ≡ many = length-replicate many UNSHOWN in
      (replicate many UNSHOWN, few, was.added ∙ ap (λ (l : Sequence). text ++ entries_text (before + 1) l) (none ∙ sym (drop_all before (replicate many UNSHOWN) (omega (arith, few, less)))))
  | inr past ↦
      let first : length (replicate before UNSHOWN) ≡ before = length-replicate before UNSHOWN in
      let long : length (replicate before UNSHOWN ++ was.entries) ≡ length (replicate before UNSHOWN) + length was.entries = length-append (replicate before UNSHOWN) was.entries in
      let behind : drop before (replicate before UNSHOWN ++ was.entries) ≡ was.entries =
      ap (λ (k : ℕ). drop k (replicate before UNSHOWN ++ was.entries)) (sym first) ∙ drop-append_seam (replicate before UNSHOWN) was.entries in
      (replicate before UNSHOWN ++ was.entries, counted past first long, was.added ∙ ap (λ (l : Sequence). text ++ entries_text (before + 1) l) (sym behind))
]
  where
    nothing : many < before → length was.entries ≡ 0
    nothing less = let count = was.count in elim reached [ inl same ↦ omega (arith, same, count) | inr low ↦ absurd (omega (arith, from, less, low)) ]

    counted : before ≤ many → length (replicate before UNSHOWN) ≡ before → length (replicate before UNSHOWN ++ was.entries) ≡ length (replicate before UNSHOWN) + length was.entries → length (replicate before UNSHOWN ++ was.entries) ≡ many
    counted past first long = let count = was.count in elim reached [ inl same ↦ omega (arith, same, count, first, long, past, all) | inr low ↦ omega (arith, low, count, first, long, from, all) ]
