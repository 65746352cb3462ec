-- Texts of broken lists that grow.
use Rattle.std.proofs.Common.{◌≡◌, ℕ, ◌+◌, ◌<◌, ◌&&◌, nat_lt, Bool, true, false, List, [], ◌∷◌, ◌++◌, length, take, map, get_or, append_assoc, Some, None, refl, sym, ◌∙◌, ap, subst, arith, if◌then◌else◌}
use Rattle.std.proofs.lemmas.List.{append-nil, map-append, take_more, length-map, length-take}
use Rattle.std.proofs.lemmas.List.Elements.{filter_map-append}
use Rattle.std.proofs.lemmas.Grind.{flat_map-append}
use Rattle.std.specs.List.{flat_map, enumerate_from}
use Rattle.global_defs.specs.Region.{Region}
use Rattle.gvn_model.specs.Regions.{named_region}
use Rattle.journal_defs.specs.Journal.{Part, JournalRecord, Pini, Epoch, Pblk, Tcom}
use Rattle.journal_defs.specs.Instance.{InstanceRecord}
use Rattle.journal_defs.specs.Surviving.{survives}
use Rattle.journal_defs.specs.Sequence.{Placed}
use Rattle.journal_defs.specs.Broken.{BrokenPart, part_past, parts_past, broken_text}
use Rattle.jnl_record.specs.declared.placed.PlacedRecord.{PlacedRecord}
use Rattle.mupip_recover.specs.Parts.{surviving_in, if_past}
use Rattle.mupip_recover.specs.Site.{journal_of}
use Rattle.mupip_recover.specs.Broken.{broken_in, broken_of, Adds}
use Rattle.mupip_recover.proofs.Runs.{more_numbered}

-- one list behind the other
pub adds_both : (site : List ℕ) (length : ℕ) (xs ys : List BrokenPart) (was mid now : List ℕ) → Adds site length xs was mid → Adds site length ys mid now → Adds site length (xs ++ ys) was now
adds_both site length xs ys was mid now first second = λ items is. second (items ++ xs) (first items is) ∙ ap (broken_text site length) (append_assoc items xs ys)

-- the broken list of records one behind the other
pub broken_in-append : (instance : List InstanceRecord) (length : ℕ) (region : List ℕ) (ps qs : List Placed)
    → broken_in instance length region (ps ++ qs) ≡ broken_in instance length region ps ++ broken_in instance length region qs
broken_in-append instance length region ps qs =
    ap (map (λ (p : Part). record { region = region; part = p })) (filter_map-append (λ (p : Placed). part_past instance length p.generation p.what) ps qs)
    ∙ map-append (λ (p : Part). record { region = region; part = p }) (parts_past instance length ps) (parts_past instance length qs)

both_or_none : (past kept : Bool) (p : Part) → (if past && kept then Some p else None) ≡ (if kept then (if past then Some p else None) else None)
both_or_none true true p = refl
both_or_none true false p = refl
both_or_none false true p = refl
both_or_none false false p = refl

if_past-if : (n : ℕ) (kept : Bool) (p : Part) → if_past n (if kept then Some p else None) ≡ (if kept then if_past n (Some p) else None)
if_past-if n true p = refl
if_past-if n false p = refl

-- a part past the length is one that survives and whose number is past it
pub past_is : (instance : List InstanceRecord) (n g : ℕ) (what : JournalRecord) → part_past instance n g what ≡ if_past n (surviving_in instance g what)
past_is instance n g (Tcom p) = both_or_none (nat_lt n p.number) (survives instance g p.number) p ∙ sym (if_past-if n (survives instance g p.number) p)
past_is instance n g (Pini s) = refl
past_is instance n g (Epoch m) = refl
past_is instance n g (Pblk b) = refl

-- the broken list of regions, with one more
pub broken_of-push : (instance : List InstanceRecord) (n : ℕ) (journals : List (List PlacedRecord)) (rs : List Region) (r : Region) (k : ℕ) → k ≡ length rs
    → broken_of instance n journals (rs ++ r ∷ []) ≡ broken_of instance n journals rs ++ broken_in instance n r.name (journal_of journals k)
broken_of-push instance n journals rs r k is =
    let f : ℕ × Region → List BrokenPart = λ x. broken_in instance n x.1.name (journal_of journals x.0) in
    let at : 0 + length rs ≡ k = omega (arith, is) in
    ap (flat_map f) (more_numbered 0 rs r ∙ ap (λ (j : ℕ). enumerate_from 0 rs ++ (j, r) ∷ []) at)
    ∙ flat_map-append f (enumerate_from 0 rs) ((k, r) ∷ [])
    ∙ ap (λ (l : List BrokenPart). flat_map f (enumerate_from 0 rs) ++ l) (append-nil (f (k, r)))

-- one record more of a region
pub journal_more : {P : Type 0} (value : P → Placed) (instance : List InstanceRecord) (site : List ℕ) (n : ℕ) (region : List ℕ) (journal : List P) (i : ℕ) (x : P) (was mid now : List ℕ)
    → i < length journal → x ≡ get_or journal i x
    → Adds site n (broken_in instance n region (map value (take i journal))) was mid → Adds site n (broken_in instance n region (value x ∷ [])) mid now
    → Adds site n (broken_in instance n region (map value (take (i + 1) journal))) was now
journal_more value instance site n region journal i x was mid now within is first second =
    let more : map value (take (i + 1) journal) ≡ map value (take i journal) ++ value x ∷ [] =
    ap (map value) (take_more journal i x within ∙ ap (λ y. take i journal ++ y ∷ []) (sym is)) ∙ map-append value (take i journal) (x ∷ []) in
    subst (λ (l : List BrokenPart). Adds site n l was now)
    (sym (ap (broken_in instance n region) more ∙ broken_in-append instance n region (map value (take i journal)) (value x ∷ [])))
    (adds_both site n _ _ was mid now first second)

-- one region more
pub regions_more : (instance : List InstanceRecord) (site : List ℕ) (n : ℕ) (journals : List (List PlacedRecord)) (rs : List (List ℕ × Bool)) (i : ℕ) (x : List ℕ × Bool) (region was mid now : List ℕ)
    → i < length rs → x ≡ get_or rs i x → region ≡ x.0
    → Adds site n (broken_of instance n journals (map named_region (take i rs))) was mid → Adds site n (broken_in instance n region (journal_of journals i)) mid now
    → Adds site n (broken_of instance n journals (map named_region (take (i + 1) rs))) was now
regions_more instance site n journals rs i x region was mid now within is name first second =
    let more : map named_region (take (i + 1) rs) ≡ map named_region (take i rs) ++ named_region x ∷ [] =
    ap (map named_region) (take_more rs i x within ∙ ap (λ y. take i rs ++ y ∷ []) (sym is)) ∙ map-append named_region (take i rs) (x ∷ []) in
    let many : i ≡ length (map named_region (take i rs)) = omega (arith, length-map (take i rs) named_region, length-take i rs) in
    subst (λ (l : List BrokenPart). Adds site n l was now)
    (sym (ap (broken_of instance n journals) more ∙ broken_of-push instance n journals (map named_region (take i rs)) (named_region x) i many))
    (adds_both site n _ _ was mid now first (subst (λ (r : List ℕ). Adds site n (broken_in instance n r (journal_of journals i)) mid now) name second))
