-- The parts of entries that wait, and what of them lies behind a sequence.
use Rattle.std.proofs.Common.{◌≡◌, inl, inr, ◌≤◌, ◌<◌, ◌+◌, ◌-◌, ◌==◌, ℕ, zero, suc, Bool, true, false, List, [], ◌∷◌, ◌++◌, length, map, take, drop, filter, Some, None, refl, sym, ◌∙◌, ap, subst, arith}
use Rattle.std.specs.Prelude.{Option, ◌&&◌, if◌then◌else◌, nat_lt}
use Rattle.std.specs.List.{flat_map, enumerate_from, cons_option}
use Rattle.std.proofs.Math.Path.{fun_ext}
use Rattle.std.proofs.Math.Seq.{take-length, drop-length}
use Rattle.std.specs.Option.{option_or}
use Rattle.std.proofs.lemmas.Bool.{cases_lt}
use Rattle.std.proofs.lemmas.Bool.Decides.{nat_tests}
use Rattle.std.proofs.lemmas.List.{take-map}
use Rattle.std.proofs.lemmas.List.Elements.{filter_map-append}
use Rattle.global_defs.specs.Entry.{Entry, Sequence}
use Rattle.global_defs.specs.Region.{Region}
use Rattle.journal_defs.specs.Journal.{Tcom, Part}
use Rattle.journal_defs.specs.Instance.{InstanceRecord, generation, regions}
use Rattle.journal_defs.specs.Directory.{Pattern}
use Rattle.journal_defs.specs.Surviving.{survives}
use Rattle.journal_defs.specs.Sequence.{Placed, Records, part_in, part_of, parts, entry, EntriesFrom, IsSequence}
use Rattle.journal_defs.specs.Broken.{BrokenPart, part_past, parts_past, broken}
use Rattle.journal_defs.specs.Growth.{NonePast, AreEntries, placed, appended, with_more}
use Rattle.journal_laws.proofs.Runs as runs
use Rattle.region_journals.specs.Fronts.{AreInside}
use Rattle.site_defs.specs.Behind.{parts_of_entry, parts_of_each, parts_in, left_of, AreKept}
use Rattle.site_store.proofs.Entries.{survives_newest}
use Rattle.block_laws.proofs.Unbroken.{parts_none}

-- where no entry waits there is none
pub no_entry_no_part : (ps : List Pattern) (seq : Sequence) → [] ≡ parts_of_each ps (length seq) (drop (length seq) seq)
no_entry_no_part ps seq = sym (ap (parts_of_each ps (length seq)) (drop-length seq))

-- those of one entry more
pub parts_more : (ps : List Pattern) (n m : ℕ) (es : Sequence) (e : Entry) → m ≡ n + length es + 1 → parts_of_each ps n (es ++ e ∷ []) ≡ parts_of_each ps n es ++ parts_of_entry ps m e ∷ []
parts_more ps n m [] e is = let next : n + 1 ≡ m = omega (arith, is) in ap (λ (k : ℕ). parts_of_entry ps k e ∷ []) next
parts_more ps n m (x ∷ es) e is = ap (λ (l : List (ℕ → Option Part)). parts_of_entry ps (n + 1) x ∷ l) (parts_more ps (n + 1) m es e (omega (arith, is)))

-- what is appended to a region are its parts
abbrev placed_at : ℕ → Part → Placed
placed_at g x = record { generation = g; what = Tcom x }

appended_parts : (g : ℕ) (ps : List (ℕ → Option Part)) (r : ℕ) → appended g ps r ≡ map (placed_at g) (parts_in ps r)
appended_parts g [] r = refl
appended_parts g (p ∷ ps) r =
    elim (p r) as (λ (o : Option Part). placed g o ++ appended g ps r ≡ map (placed_at g) (cons_option o (parts_in ps r))) [
      | None ↦ appended_parts g ps r
      | Some x ↦ ap (λ (l : List Placed). placed_at g x ∷ l) (appended_parts g ps r)
    ]

-- those past a length, in the newest generation
kept_past : (a b : Bool) (x : Part) (l : List Part) → b ≡ true → cons_option (if a && b then Some x else None) l ≡ (if a then x ∷ l else l)
kept_past true true x l e = refl
kept_past true false x l e = absurd (cc e)
kept_past false b x l e = refl

past_placed : (instance : List InstanceRecord) (g len : ℕ) (xs : List Part) → generation instance ≤ g → parts_past instance len (map (placed_at g) xs) ≡ filter (λ (p : Part). nat_lt len p.number) xs
past_placed instance g len [] low = refl
past_placed instance g len (x ∷ xs) low =
    kept_past (nat_lt len x.number) (survives instance g x.number) x (parts_past instance len (map (placed_at g) xs)) (survives_newest instance g x.number low)
    ∙ ap (λ (l : List Part). if nat_lt len x.number then x ∷ l else l) (past_placed instance g len xs low)

-- the broken list of records of which none was past an earlier length, with the first few of these parts behind them
abbrev pub named : (ℕ → List Part) → ℕ × Region → List BrokenPart
named f r = map (λ (p : Part). record { region = r.1.name; part = p }) (f r.0)

pub broken_first : (s : Records) (g h len : ℕ) (ps : List (ℕ → Option Part)) (kept : ℕ → ℕ) → NonePast h s → h ≤ len → generation s.instance ≤ g
    → broken (with_more s (λ r. take (kept r) (appended g ps r))) len ≡ left_of s.instance ps kept len
broken_first s g h len ps kept none low newest = ap (λ (f : ℕ → List Part). flat_map (named f) (enumerate_from 0 (regions s.instance))) (fun_ext each)
  where
    each : (r : ℕ) → parts_past s.instance len (s.journal r ++ take (kept r) (appended g ps r)) ≡ filter (λ (p : Part). nat_lt len p.number) (take (kept r) (parts_in ps r))
    each r =
        filter_map-append (λ (p : Placed). part_past s.instance len p.generation p.what) (s.journal r) (take (kept r) (appended g ps r))
        ∙ ap (λ (l : List Part). l ++ parts_past s.instance len (take (kept r) (appended g ps r))) (parts_none s.instance len (s.journal r) (λ m past. none m r (omega (arith, past, low))))
        ∙ ap (λ (l : List Placed). parts_past s.instance len (take (kept r) l)) (appended_parts g ps r)
        ∙ ap (parts_past s.instance len) (take-map (placed_at g) (kept r) (parts_in ps r))
        ∙ past_placed s.instance g len (take (kept r) (parts_in ps r)) newest

-- those of the first few entries
pub parts_taken : (ps : List Pattern) (n m : ℕ) (es : Sequence) → parts_of_each ps n (take m es) ≡ take m (parts_of_each ps n es)
parts_taken ps n zero es = refl
parts_taken ps n (suc m) [] = refl
parts_taken ps n (suc m) (e ∷ es) = ap (λ (l : List (ℕ → Option Part)). parts_of_entry ps (n + 1) e ∷ l) (parts_taken ps (n + 1) m es)

-- an entry has the same parts in the first few of a region's as in all of them, where these have all that it has there

no_part : (instance : List InstanceRecord) (n k : ℕ) → part_of instance n (take k []) ≡ None
no_part instance n zero = refl
no_part instance n (suc k) = refl

later_part : (instance : List InstanceRecord) (g m : ℕ) (x : Part) (rest : List Placed) → m < x.number → part_of instance m rest ≡ None → part_of instance m (placed_at g x ∷ rest) ≡ None
later_part instance g m x rest past none =
    let differs : (x.number == m) ≡ false = grind (arith, nat_tests, past) in
    ap (λ (o : Option Part). option_or o (part_in instance m g (Tcom x))) none ∙ rw differs refl

early_by : (instance : List InstanceRecord) (g n m : ℕ) (x : Part) (rest : List Placed) → x.number ≡ n + 1 → m ≤ n → ((k : ℕ) → part_of instance m (take k rest) ≡ None) → (k : ℕ) → part_of instance m (take k (placed_at g x ∷ rest)) ≡ None
early_by instance g n m x rest numbered low none zero = refl
early_by instance g n m x rest numbered low none (suc k) = later_part instance g m x (take k rest) (omega (arith, numbered, low)) (none k)

none_early : (instance : List InstanceRecord) (g n m k r : ℕ) (ps : List (ℕ → Option Part)) (es : Sequence) → AreEntries instance g n ps es → m ≤ n → part_of instance m (take k (appended g ps r)) ≡ None
none_early instance g n m k r [] es are low = no_part instance m k
none_early instance g n m k r (p ∷ ps) [] are low = absurd are
none_early instance g n m k r (p ∷ ps) (e ∷ es) are low =
    elim (p r) as (λ (o : Option Part). p r ≡ o → part_of instance m (take k (placed g o ++ appended g ps r)) ≡ None) [
      | None ↦ λ is. none_early instance g (n + 1) m k r ps es are.4 (omega (arith, low))
      | Some x ↦ λ is. early_by instance g n m x (appended g ps r) (are.0 r x is) low (λ l. none_early instance g (n + 1) m l r ps es are.4 (omega (arith, low))) k
    ] refl

covered_by : (instance : List InstanceRecord) (g q : ℕ) (x : Part) (xs : List Part) (rest : List Placed) → ((k : ℕ) → length xs ≤ k → part_of instance q (take k rest) ≡ part_of instance q rest)
    → (k : ℕ) → length (x ∷ xs) ≤ k → part_of instance q (take k (placed_at g x ∷ rest)) ≡ part_of instance q (placed_at g x ∷ rest)
covered_by instance g q x xs rest later zero some = absurd (omega (arith, some))
covered_by instance g q x xs rest later (suc k) some = ap (λ (o : Option Part). option_or o (part_in instance q g (Tcom x))) (later k (omega (arith, some)))

covered : (instance : List InstanceRecord) (g n m k r : ℕ) (ps : List (ℕ → Option Part)) (es : Sequence) → AreEntries instance g n ps es → length (parts_in (take m ps) r) ≤ k
    → part_of instance (n + m) (take k (appended g ps r)) ≡ part_of instance (n + m) (appended g ps r)
covered instance g n zero k r ps es are enough =
    none_early instance g n (n + 0) k r ps es are (omega arith)
    ∙ sym (subst (λ (l : List Placed). part_of instance (n + 0) l ≡ None) (take-length (appended g ps r)) (none_early instance g n (n + 0) (length (appended g ps r)) r ps es are (omega arith)))
covered instance g n (suc m) k r [] es are enough = no_part instance (n + suc m) k
covered instance g n (suc m) k r (p ∷ ps) [] are enough = absurd are
covered instance g n (suc m) k r (p ∷ ps) (e ∷ es) are enough =
    let same : n + 1 + m ≡ n + suc m = omega arith in
    let later : (l : ℕ) → length (parts_in (take m ps) r) ≤ l → part_of instance (n + suc m) (take l (appended g ps r)) ≡ part_of instance (n + suc m) (appended g ps r) =
    λ l some. subst (λ (q : ℕ). part_of instance q (take l (appended g ps r)) ≡ part_of instance q (appended g ps r)) same (covered instance g (n + 1) m l r ps es are.4 some) in
    elim (p r) as (λ (o : Option Part). length (cons_option o (parts_in (take m ps) r)) ≤ k → part_of instance (n + suc m) (take k (placed g o ++ appended g ps r)) ≡ part_of instance (n + suc m) (placed g o ++ appended g ps r)) [
      | None ↦ λ some. later k some
      | Some x ↦ λ some. covered_by instance g (n + suc m) x (parts_in (take m ps) r) (appended g ps r) later k some
    ] enough

-- a run of entries doesn't end before its last one
no_end : (at : ℕ → Option Entry) (n : ℕ) (seq : Sequence) (i : ℕ) → EntriesFrom at n seq → i < length seq → at (n + i) ≡ None → ⊥
no_end at n [] i each low none = absurd (omega (arith, low))
no_end at n (e ∷ es) zero each low none =
    let here : at n ≡ None = subst (λ (k : ℕ). at k ≡ None) (omega arith) none in
    absurd (cc (sym each.0 ∙ here))
no_end at n (e ∷ es) (suc i) each low none = no_end at (suc n) es i each.1 (omega (arith, low)) (subst (λ (k : ℕ). at k ≡ None) (omega arith) none)

-- no other region has a part
none_there : (n m r : ℕ) (ps : List (ℕ → Option Part)) → AreInside n ps → n ≤ r → parts_in (take m ps) r ≡ []
none_there n zero r ps inside past = refl
none_there n (suc m) r [] inside past = refl
none_there n (suc m) r (p ∷ ps) inside past = ap (λ (o : Option Part). cons_option o (parts_in (take m ps) r)) (inside.0 r past) ∙ none_there n m r ps inside.1 past

everywhere : (n m : ℕ) (ps : List (ℕ → Option Part)) (kept : ℕ → ℕ) → AreInside n ps → AreKept n (take m ps) kept → (r : ℕ) → length (parts_in (take m ps) r) ≤ kept r
everywhere n m ps kept inside has r = elim (cases_lt r n) [
  | inl low ↦ has r low
  | inr past ↦ let none : length (parts_in (take m ps) r) ≡ 0 = ap length (none_there n m r ps inside past) in omega (arith, none)
]

-- where all regions have their parts of an entry, it is whole
pub lacks_one : (s : Records) (g h j n : ℕ) (ps : List (ℕ → Option Part)) (es seq : Sequence) (kept : ℕ → ℕ) → AreEntries s.instance g h ps es → IsSequence (with_more s (appended g ps)) seq
    → entry (with_more s (λ r. take (kept r) (appended g ps r))) (suc j) ≡ None → h ≤ j → j < length seq → AreInside n ps → AreKept n (take (j + 1 - h) ps) kept → ⊥
lacks_one s g h j n ps es seq kept are whole none low more inside has =
    let first : Records = with_more s (λ r. take (kept r) (appended g ps r)) in
    let all : Records = with_more s (appended g ps) in
    let number : h + (j + 1 - h) ≡ suc j = omega (arith, low) in
    let each : (r : ℕ) → parts first (suc j) r ≡ parts all (suc j) r = λ r.
    runs.part_of-append s.instance (suc j) (s.journal r) (take (kept r) (appended g ps r))
    ∙ ap (λ (o : Option Part). option_or o (part_of s.instance (suc j) (s.journal r)))
    (subst (λ (k : ℕ). part_of s.instance k (take (kept r) (appended g ps r)) ≡ part_of s.instance k (appended g ps r)) number (covered s.instance g h (j + 1 - h) (kept r) r ps es are (everywhere n (j + 1 - h) ps kept inside has r)))
    ∙ sym (runs.part_of-append s.instance (suc j) (s.journal r) (appended g ps r)) in
    let ended : entry all (suc j) ≡ None = sym (runs.same_entry all first (suc j) each refl) ∙ none in
    no_end (entry all) 1 seq j whole.each more (subst (λ (k : ℕ). entry all k ≡ None) (omega arith) ended)
