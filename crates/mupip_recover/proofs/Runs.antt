-- The sequence that a table leads to.
use Rattle.std.proofs.Common.{◌≡◌, inl, inr, ℕ, suc, ◌+◌, ◌-◌, ◌≤◌, ◌<◌, Bool, true, false, List, [], ◌∷◌, ◌++◌, length, map, count_by, sum_by, Option, Some, None, refl, sym, ◌∙◌, ap, subst, arith, length-append}
use Rattle.std.proofs.Math.Path.{fun_ext}
use Rattle.std.proofs.Math.ListN.{get_or-map}
use Rattle.std.proofs.lemmas.Bool.{cases_lt}
use Rattle.std.proofs.lemmas.Simd.{map-map}
use Rattle.std.proofs.lemmas.List.{length-map, map-append}
use Rattle.std.specs.List.{enumerate_from, flat_map}
use Rattle.std.specs.Option.{option_and_then}
use Rattle.global_defs.specs.Entry.{Entry, Sequence, Reign, Stamp}
use Rattle.global_defs.specs.Prefix.{stamp_at}
use Rattle.journal_defs.specs.Journal.{Part}
use Rattle.journal_defs.specs.Instance.{InstanceRecord}
use Rattle.journal_defs.specs.Surviving.{reigns}
use Rattle.journal_defs.specs.Sequence.{Records, REGIONS, part_of, parts, entry_among, entry_with, entry, EntriesFrom, IsSequence}
use Rattle.journal_laws.proofs.Runs.{entry_none}
use Rattle.mupip_recover.specs.Site.{site_records}
use Rattle.mupip_recover.specs.Table.{part_at}
use Rattle.mupip_recover.specs.declared.table.Table.{Table}
use Rattle.mupip_recover.specs.Entries.{entry_at, AreFirst}
use Rattle.mupip_recover.proofs.Counts.{has, needs, numbers_in, none_among, length-all}
use Rattle.jnl_record.specs.declared.placed.PlacedRecord.{PlacedRecord}
use Rattle.jnl_record.specs.Values.{record_value, placed_value}
use Rattle.mupip_recover.specs.Parts.{is_part}

-- the entry of a place
pub entry_is : (t : Table) (rs : List Reign) (place : ℕ) (s : Option Stamp) → s ≡ stamp_at (place + 1) rs
    → entry_at t rs (place + 1) ≡ option_and_then (λ s. entry_among (part_at t place) s REGIONS) s
entry_is t rs place s is =
    let at : (place + 1) - 1 ≡ place = omega arith in
    ap (λ (k : ℕ). entry_with (part_at t k) (stamp_at (place + 1) rs)) at ∙ ap (entry_with (part_at t place)) (sym is)

-- one more at the end
pub more_numbered : {X : Type 0} (n : ℕ) (es : List X) (e : X) → enumerate_from n (es ++ e ∷ []) ≡ enumerate_from n es ++ (n + length es, e) ∷ []
more_numbered n [] e = ap (λ (k : ℕ). (k, e) ∷ []) (omega arith)
more_numbered n (x ∷ es) e =
    let at : n + 1 + length es ≡ n + suc (length es) = omega arith in
    ap (λ l. (n, x) ∷ l) (more_numbered (n + 1) es e ∙ ap (λ (k : ℕ). enumerate_from (n + 1) es ++ (k, e) ∷ []) at)

pub more_run : (at : ℕ → Option Entry) (n m : ℕ) (es : Sequence) (e : Entry) → m ≡ n + length es → EntriesFrom at n es → at m ≡ Some e → EntriesFrom at n (es ++ e ∷ [])
more_run at n m [] e is h next = (subst (λ (k : ℕ). at k ≡ Some e) (omega arith) next, tt)
more_run at n m (x ∷ xs) e is h next = (h.0, more_run at (suc n) m xs e (omega arith) h.1 next)

-- what is known of numbered entries, with one more
pub grown : (t : Table) (rs : List Reign) (place : ℕ) (was now : List (ℕ × Entry)) (number : ℕ) (e : Entry) → EntriesFrom (entry_at t rs) 1 (map (λ (x : ℕ × Entry). x.1) was) → length was ≡ place
    → was ≡ enumerate_from 1 (map (λ (x : ℕ × Entry). x.1) was) → number ≡ place + 1 → Some e ≡ entry_at t rs (place + 1) → now ≡ was ++ (number, e) ∷ []
    → EntriesFrom (entry_at t rs) 1 (map (λ (x : ℕ × Entry). x.1) now) × (length now ≡ place + 1) × (now ≡ enumerate_from 1 (map (λ (x : ℕ × Entry). x.1) now))
grown t rs place was now number e each long numbered at next is =
    let more : map (λ (x : ℕ × Entry). x.1) now ≡ map (λ (x : ℕ × Entry). x.1) was ++ e ∷ [] = ap (map (λ (x : ℕ × Entry). x.1)) is ∙ map-append (λ (x : ℕ × Entry). x.1) was ((number, e) ∷ []) in
    let many : length (map (λ (x : ℕ × Entry). x.1) was) ≡ place = length-map was (λ (x : ℕ × Entry). x.1) ∙ long in (
      subst (EntriesFrom (entry_at t rs) 1) (sym more) (more_run (entry_at t rs) 1 (place + 1) (map (λ (x : ℕ × Entry). x.1) was) e (omega arith) each (sym next)),
      ap length is ∙ length-append was ((number, e) ∷ []) ∙ ap (λ (k : ℕ). k + 1) long,
      is ∙ ap (λ (l : List (ℕ × Entry)). l ++ (number, e) ∷ []) numbered
          ∙ ap (λ (k : ℕ). enumerate_from 1 (map (λ (x : ℕ × Entry). x.1) was) ++ (k, e) ∷ []) (omega arith)
          ∙ sym (ap (enumerate_from 1) more ∙ more_numbered 1 (map (λ (x : ℕ × Entry). x.1) was) e),
    )

-- the same entries elsewhere
pub same_run : (at to : ℕ → Option Entry) (n : ℕ) (seq : Sequence) → ((k : ℕ) → n ≤ k → k < n + length seq → to k ≡ at k) → EntriesFrom at n seq → EntriesFrom to n seq
same_run at to n [] same h = tt
same_run at to n (e ∷ es) same h = (same n (omega arith) (omega arith) ∙ h.0, same_run at to (suc n) es (λ k low high. same k (omega arith) (omega arith)) h.1)

-- the table has the last surviving parts of a site for so many numbers
abbrev pub IsTable : Table → ℕ → Records → Type 0
IsTable t places s = (i r : ℕ) → i < places → part_at t i r ≡ part_of s.instance (i + 1) (s.journal r)

pub same_at : (t : Table) (places : ℕ) (s : Records) (rs : List Reign) → IsTable t places s → rs ≡ reigns s.instance → (n : ℕ) → 1 ≤ n → n ≤ places → entry s n ≡ entry_at t rs n
same_at t places s rs is are n low high =
    let within : n - 1 < places = omega arith in
    let number : n - 1 + 1 ≡ n = omega arith in
    ap (λ (p : ℕ → Option Part). entry_with p (stamp_at n (reigns s.instance))) (fun_ext (λ r. sym (is (n - 1) r within ∙ ap (λ (k : ℕ). part_of s.instance k (s.journal r)) number)))
    ∙ ap (λ (l : List Reign). entry_with (part_at t (n - 1)) (stamp_at n l)) (sym are)

-- where some part of each entry's number is among these
pub is_there : (s : Records) (ns : List ℕ) → ((n r : ℕ) → has n ns ≡ false → parts s n r ≡ None) → (n : ℕ) (e : Entry) → entry s n ≡ Some e → (b : Bool) → has n ns ≡ b → b ≡ true
is_there s ns none n e h true is = refl
is_there s ns none n e h false is = let gone : entry s n ≡ None = entry_none s n (λ r. none n r is) in cc

pub within_run : (at : ℕ → Option Entry) (n k : ℕ) (seq : Sequence) → EntriesFrom at n seq → n ≤ k → k < n + length seq → (e : Entry) × (at k ≡ Some e)
within_run at n k [] h low high = absurd (omega arith)
within_run at n k (e ∷ es) h low high = elim (cases_lt n k) [
  | inl more ↦ within_run at (suc n) k es h.1 (omega arith) (omega arith)
  | inr here ↦ let is : n ≡ k = omega arith in (e, subst (λ (j : ℕ). at j ≡ Some e) is h.0)
]

-- a run of as many entries as there are parts is whole
pub no_more : (s : Records) (ns : List ℕ) → ((n r : ℕ) → has n ns ≡ false → parts s n r ≡ None) → (seq : Sequence) → EntriesFrom (entry s) 1 seq → length seq ≡ length ns
    → (o : Option Entry) → entry s (suc (length seq)) ≡ o → o ≡ None
no_more s ns none seq run long None is = refl
no_more s ns none seq run long (Some e) is =
    let all : suc (length seq) ≤ length ns = needs (suc (length seq)) ns (λ k low high. elim (cases_lt k (suc (length seq))) [
      | inl before ↦ let (x, at) = within_run (entry s) 1 k seq run low (omega arith) in is_there s ns none k x at (has k ns) refl
      | inr last ↦ let same : suc (length seq) ≡ k = omega arith in is_there s ns none k e (subst (λ (j : ℕ). entry s j ≡ Some e) same is) (has k ns) refl
    ]) in
    absurd (omega arith)

pub whole : (t : Table) (places : ℕ) (s : Records) (rs : List Reign) (seq : Sequence) (ns : List ℕ) → IsTable t places s → rs ≡ reigns s.instance
    → ((n r : ℕ) → has n ns ≡ false → parts s n r ≡ None) → places ≡ length ns → AreFirst t rs places seq → IsSequence s seq
whole t places s rs seq ns is are none many first =
    let run : EntriesFrom (entry s) 1 seq = same_run (entry_at t rs) (entry s) 1 seq (λ k low high. same_at t places s rs is are k low (omega (arith, first.within))) first.each in
    record {
      each = run;
      ended = elim (cases_lt (length seq) places) [
        | inl before ↦ same_at t places s rs is are (suc (length seq)) (omega arith) (omega arith) ∙ first.ended before
        | inr last ↦ no_more s ns none seq run (omega (arith, first.within)) (entry s (suc (length seq))) refl
      ];
    }

-- the numbers of all parts of a site
abbrev pub all_numbers : List (List PlacedRecord) → List ℕ
all_numbers js = flat_map numbers_in (map (map placed_value) js)

pub none_there : (instance : List InstanceRecord) (js : List (List PlacedRecord)) (n r : ℕ) → has n (all_numbers js) ≡ false → parts (site_records instance js) n r ≡ None
none_there instance js n r h =
    ap (part_of instance n) (sym (get_or-map (map placed_value) js r [])) ∙ none_among instance n (map (map placed_value) js) r h

-- the entries that a table of all parts of a site leads to are its sequence
pub recovered : {J : Type 0} (items : J → List PlacedRecord) (t : Table) (places : ℕ) (instance : List InstanceRecord) (js : List J) (rs : List Reign) (seq : Sequence)
    → IsTable t places (site_records instance (map items js)) → rs ≡ reigns instance
    → places ≡ sum_by (λ j. count_by (λ p. is_part (record_value p.what)) (items j)) js → AreFirst t rs places seq → IsSequence (site_records instance (map items js)) seq
recovered items t places instance js rs seq is are many first =
    let long : length (all_numbers (map items js)) ≡ places = ap (λ l. length (flat_map numbers_in l)) (map-map (map placed_value) items js) ∙ length-all items placed_value js ∙ sym many in
    whole t places (site_records instance (map items js)) rs seq (all_numbers (map items js)) is are (none_there instance (map items js)) (sym long) first
