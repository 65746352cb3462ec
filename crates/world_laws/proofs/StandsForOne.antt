-- What files stand for, and what lies behind that.
use Rattle.std.proofs.Common.{◌≡◌, inl, inr, ℕ, zero, suc, ◌-◌, ◌≤◌, ◌<◌, nat_lt, Bool, true, List, [], ◌∷◌, ◌++◌, length, get_or, map, flat_map, refl, sym, ◌∙◌, ap, subst, arith, length-append}
use Rattle.std.proofs.Math.Path.{fun_ext}
use Rattle.std.proofs.Math.ListN.{get_or-append, get_or-eq_default}
use Rattle.std.proofs.Math.Seq.{get_or-append_seam}
use Rattle.std.proofs.lemmas.Bool.{cases_Bool, cases_lt, false≢true}
use Rattle.std.proofs.lemmas.Bool.Decides.{nat_tests}
use Rattle.std.specs.Prelude.{if◌then◌else◌}
use Rattle.std.specs.List.{enumerate_from, filter_map}
use Rattle.global_defs.specs.declared.limits.TheConstants.{MOST_GENERATIONS}
use Rattle.global_defs.specs.Region.{Region}
use Rattle.disk_defs.specs.Disk.{Files}
use Rattle.journal_defs.specs.Numbers.{INSTANCE, lost_file, broken_file}
use Rattle.journal_defs.specs.Instance.{InstanceRecord, IsInstanceBody, generation, regions, site_name}
use Rattle.journal_defs.specs.Sequence.{Placed, Records, IsSequence}
use Rattle.journal_defs.specs.Stands.{IsJournal, AreRecords}
use Rattle.journal_defs.specs.Broken.{BrokenPart, parts_past, broken, broken_text}
use Rattle.journal_laws.proofs.Readings.{holds_one, instance_body, records_one}
use Rattle.journal_laws.proofs.Runs as runs
use Rattle.site_defs.specs.Contents.{Contents, Leftover, NO_LEFTOVER}
use Rattle.site_defs.specs.Opening.{IsBehind}
use Rattle.site_defs.specs.Stands.{start_in, epoch_in, IsBlank, texts_of, losts_of, torn_of, IsSite, HasLeft, Stands, Reads}

-- what is behind the sequence

pub left_there : (f : Files) (c : Contents) → IsSite f c → (left : Leftover) × HasLeft f c left
left_there f c h =
    let n : ℕ = length c.sequence in (
      record { broken = broken_text (site_name c.instance) n (broken h.records n); torn = torn_of f (generation c.instance) },
      record { records = h.records; held = h.image.held; broken = refl; torn = refl },
    )

pub left_one : (f : Files) (c : Contents) (l m : Leftover) → HasLeft f c l → HasLeft f c m → l ≡ m
left_one f c l m h k = λ i. record { broken = texts i; torn = torn i }
  where
    text : Records → List ℕ
    text s = broken_text (site_name c.instance) (length c.sequence) (broken s (length c.sequence))

    texts : l.broken ≡ m.broken
    texts = h.broken ∙ ap text (records_one f h.records k.records h.held k.held) ∙ sym k.broken

    torn : l.torn ≡ m.torn
    torn = h.torn ∙ sym k.torn

pub left_behind : (f : Files) (c : Contents) (left : Leftover) → Reads f c left → IsBehind c left
left_behind f c left (inl blank) = ([], ap (λ (l : Leftover). l.broken) blank.1)
left_behind f c left (inr site) = (broken site.1.records (length c.sequence), site.1.broken)

pub left_reads : (f : Files) (c : Contents) → Stands f c → (left : Leftover) × Reads f c left
left_reads f c (inl blank) = (NO_LEFTOVER, inl (blank.0, refl, blank.1))
left_reads f c (inr site) = let left = left_there f c site in (left.0, inr (site, left.1))

-- before the first generation

flat_none : {X Y : Type 0} (h : X → List Y) (xs : List X) → ((x : X) → h x ≡ []) → flat_map h xs ≡ []
flat_none h [] none = refl
flat_none {X} {Y} h (x ∷ xs) none = ap (λ (l : List Y). l ++ flat_map h xs) (none x) ∙ flat_none h xs none

none_broken : (s : Records) (n : ℕ) → ((r : ℕ) → s.journal r ≡ []) → broken s n ≡ []
none_broken s n none =
    flat_none (λ (r : ℕ × Region). map (λ p. record { region = r.1.name; part = p }) (parts_past s.instance n (s.journal r.0))) (enumerate_from 0 (regions s.instance))
    (λ r. ap (λ (l : List Placed). map (λ p. record { region = r.1.name; part = p }) (parts_past s.instance n l)) (none r.0))

none_journaled : (f : Files) (s : Records) → AreRecords f s → generation s.instance ≡ 0 → (r : ℕ) → s.journal r ≡ []
none_journaled f s h none r = elim (cases_lt r (length (regions s.instance))) [
  | inl here ↦ let own = h.journals r here in (subst (λ (g : ℕ). IsJournal f r g own.0 (s.journal r)) none own.1).1
  | inr past ↦ h.no_more r past
]

no_byte : (text : List ℕ) → length text ≤ 0 → text ≡ []
no_byte [] few = refl
no_byte (b ∷ text) few = absurd (omega arith)

pub left_unbegun : (f : Files) (c : Contents) → IsSite f c → generation c.instance ≡ 0 → HasLeft f c NO_LEFTOVER
left_unbegun f c h none = record {
  records = h.records;
  held = h.image.held;
  broken = sym (ap (broken_text (site_name c.instance) n) nothing_broken);
  torn = sym (ap (torn_of f) none ∙ ap (λ (g : ℕ). f (broken_file (suc g))) (sym none)
      ∙ no_byte (f (broken_file (suc (generation c.instance)))) (subst (λ (l : List BrokenPart). length (f (broken_file (suc (generation c.instance)))) ≤ length (broken_text (site_name h.records.instance) n l)) nothing_broken short));
}
  where
    n : ℕ
    n = length c.sequence

    same : generation h.records.instance ≡ generation c.instance
    same = ap generation h.instance

    nothing_broken : broken h.records n ≡ []
    nothing_broken = none_broken h.records n (none_journaled f h.records h.image.held (same ∙ none))

    short : length (f (broken_file (suc (generation c.instance)))) ≤ length (broken_text (site_name h.records.instance) n (broken h.records n))
    short = h.image.clean.first_broken (suc (generation c.instance)) (omega (arith, same), omega (arith, none)) (omega (arith, same))

-- files stand for one thing

sites_one : (f : Files) (c o : Contents) → IsSite f c → IsSite f o → c ≡ o
sites_one f c o h k = λ i. record { instance = instance i; starts = fun_ext starts i; epochs = fun_ext epochs i; texts = texts i; losts = losts i; sequence = sequence i }
  where
    same : h.records ≡ k.records
    same = records_one f h.records k.records h.image.held k.image.held

    instance : c.instance ≡ o.instance
    instance = sym h.instance ∙ ap (λ (s : Records). s.instance) same ∙ k.instance

    starts : (r : ℕ) → c.starts r ≡ o.starts r
    starts r = h.starts r ∙ ap (λ (s : Records). filter_map (λ p. start_in p.what) (s.journal r)) same ∙ sym (k.starts r)

    epochs : (r : ℕ) → c.epochs r ≡ o.epochs r
    epochs r = h.epochs r ∙ ap (λ (s : Records). filter_map (λ p. epoch_in p.generation p.what) (s.journal r)) same ∙ sym (k.epochs r)

    texts : c.texts ≡ o.texts
    texts = h.texts ∙ ap (λ (rs : List InstanceRecord). texts_of f (generation rs)) instance ∙ sym k.texts

    losts : c.losts ≡ o.losts
    losts = h.losts ∙ ap (λ (rs : List InstanceRecord). losts_of f (generation rs)) instance ∙ sym k.losts

    sequence : c.sequence ≡ o.sequence
    sequence = runs.one k.records c.sequence o.sequence (subst (λ (s : Records). IsSequence s c.sequence) same h.image.sequence) k.image.sequence

-- a blank disk has no site
no_site : (f : Files) (c : Contents) → IsBlank f → IsSite f c → ⊥
no_site f c blank h =
    let none : h.records.instance ≡ [] = holds_one IsInstanceBody (f INSTANCE) h.records.instance [] instance_body h.image.held.instance.bodies ([], blank.instance, tt) in
    false≢true (subst (λ (rs : List InstanceRecord). nat_lt 0 (length rs) ≡ true) (sym h.instance ∙ none) h.made)

pub stand_for_one : (f : Files) (c o : Contents) → Stands f c → Stands f o → c ≡ o
stand_for_one f c o (inl h) (inl k) = h.0 ∙ sym k.0
stand_for_one f c o (inl h) (inr k) = absurd (no_site f o h.1 k)
stand_for_one f c o (inr h) (inl k) = absurd (no_site f c k.1 h)
stand_for_one f c o (inr h) (inr k) = sites_one f c o h k

-- Text files of the first generations, one list of them in each: file is the number of the file of a generation.
module _ (f : Files) (file : ℕ → ℕ) (of : ℕ → List (List ℕ)) (none : of 0 ≡ []) (more : (n : ℕ) → of (suc n) ≡ of n ++ f (file (suc n)) ∷ []) where
  length-of : (n : ℕ) → length (of n) ≡ n
  length-of zero = ap (λ (l : List (List ℕ)). length l) none
  length-of (suc n) = ap (λ (l : List (List ℕ)). length l) (more n) ∙ (let rest = length-of n in rw length-append (omega arith))

  text_at : (n k : ℕ) → k < n → get_or (of n) k [] ≡ f (file (suc k))
  text_at zero k here = absurd (omega arith)
  text_at (suc n) k here = ap (λ (l : List (List ℕ)). get_or l k []) (more n) ∙ elim (cases_lt k n) [
    | inl early ↦ get_or-append (of n) (f (file (suc n)) ∷ []) [] k (omega (arith, length-of n)) ∙ text_at n k early
    | inr last ↦
        let same : n ≡ k = omega arith in
        subst (λ (i : ℕ). get_or (of n ++ f (file (suc n)) ∷ []) i [] ≡ f (file (suc i))) same
        (subst (λ (i : ℕ). get_or (of n ++ f (file (suc n)) ∷ []) i [] ≡ f (file (suc n))) (length-of n) (get_or-append_seam (of n) (f (file (suc n))) [] []))
  ]

  -- by its generation, where there are none past the newest one
  by_generation : (n g : ℕ) → 1 ≤ g → (n < g → f (file g) ≡ []) → f (file g) ≡ get_or (of n) (g - 1) []
  by_generation n g low past = elim (cases_lt (g - 1) n) [
    | inl here ↦ let number : suc (g - 1) ≡ g = omega arith in ap (λ (k : ℕ). f (file k)) (sym number) ∙ sym (text_at n (g - 1) here)
    | inr late ↦ past (omega arith) ∙ sym (get_or-eq_default (of n) [] (omega (arith, length-of n)))
  ]

-- broken-transaction files

pub typing_reads : (f : Files) (c : Contents) (left : Leftover) (g : ℕ) → IsSite f c → HasLeft f c left → 1 ≤ g → g ≤ MOST_GENERATIONS
    → f (broken_file g) ≡ get_or (c.texts ++ left.torn ∷ []) (g - 1) []
typing_reads f c left g h l low high = elim (cases_Bool (nat_lt newest MOST_GENERATIONS)) [
  | inl room ↦
      by_generation f broken_file (texts_of f) refl (λ n. refl) (suc newest) g low (λ past. h.image.clean.later_broken g (omega (arith, same), high) (omega (arith, same)))
      ∙ ap (λ (ts : List (List ℕ)). get_or ts (g - 1) []) (sym (all room))
  | inr full ↦
      let drawn : g - 1 < newest = grind (arith, nat_tests, full, high, low) in
      let here : g - 1 < length (texts_of f newest) = omega (arith, length-of f broken_file (texts_of f) refl (λ n. refl) newest) in
      by_generation f broken_file (texts_of f) refl (λ n. refl) newest g low (λ past. absurd (omega arith))
      ∙ sym (get_or-append (texts_of f newest) (left.torn ∷ []) [] (g - 1) here)
      ∙ ap (λ (ts : List (List ℕ)). get_or (ts ++ left.torn ∷ []) (g - 1) []) (sym h.texts)
]
  where
    newest : ℕ
    newest = generation c.instance

    same : generation h.records.instance ≡ newest
    same = ap generation h.instance

    all : nat_lt newest MOST_GENERATIONS ≡ true → c.texts ++ left.torn ∷ [] ≡ texts_of f (suc newest)
    all room =
        ap (λ (ts : List (List ℕ)). ts ++ left.torn ∷ []) h.texts
        ∙ ap (λ (t : List ℕ). texts_of f newest ++ t ∷ []) (l.torn ∙ ap (λ (b : Bool). if b then f (broken_file (suc newest)) else []) room)

-- lost-transaction files

pub typing_reads_lost : (f : Files) (c : Contents) (g : ℕ) → IsSite f c → 1 ≤ g → g ≤ MOST_GENERATIONS → f (lost_file g) ≡ get_or c.losts (g - 1) []
typing_reads_lost f c g h low high =
    by_generation f lost_file (losts_of f) refl (λ n. refl) newest g low (λ past. h.image.clean.lost g (omega (arith, same), high))
    ∙ ap (λ (ts : List (List ℕ)). get_or ts (g - 1) []) (sym h.losts)
  where
    newest : ℕ
    newest = generation c.instance

    same : generation h.records.instance ≡ newest
    same = ap generation h.instance

pub count_files : (f : Files) (c : Contents) → IsSite f c → (length c.texts ≡ generation c.instance) × (length c.losts ≡ generation c.instance)
count_files f c h = (
  ap (λ (ts : List (List ℕ)). length ts) h.texts ∙ length-of f broken_file (texts_of f) refl (λ n. refl) (generation c.instance),
  ap (λ (ts : List (List ℕ)). length ts) h.losts ∙ length-of f lost_file (losts_of f) refl (λ n. refl) (generation c.instance),
)
