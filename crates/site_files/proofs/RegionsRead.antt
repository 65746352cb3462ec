-- Reading on from region to region.
use Rattle.std.proofs.Common.{◌≡◌, inl, inr, ℕ, zero, suc, ◌+◌, ◌≤◌, ◌<◌, ◌==◌, true, false, if◌then◌else◌, List, [], ◌∷◌, ◌++◌, length, map, get_or, Option, Some, IfSome, refl, sym, ◌∙◌, ap, subst, arith}
use Rattle.std.proofs.lemmas.Bool.{cases_eq}
use Rattle.std.proofs.lemmas.Bool.Decides.{nat_tests}
use Rattle.std.proofs.lemmas.List.{map-append, length-map, length-append, get_or_append_left, get_or_push}
use Rattle.std.specs.List.{AllByRecursion}
use Rattle.global_defs.specs.declared.limits.TheConstants.{MOST_GENERATIONS}
use Rattle.disk_defs.specs.Disk.{Files, View, Image, IsLawful, IsDurable, AtEachMoment}
use Rattle.disk_defs.specs.Gates.{records}
use Rattle.disk_defs.proofs.Moments.{holds_now}
use Rattle.disk_defs.proofs.Told.{told_at, weaker_told, both_weak}
use Rattle.journal_defs.specs.Numbers.{journal_file}
use Rattle.journal_defs.specs.Sequence.{Placed}
use Rattle.journal_defs.specs.Journal.{JournalRecord}
use Rattle.journal_defs.specs.Stands.{IsJournal, in_generation}
use Rattle.journal_laws.proofs.ImageSteps.{all_both}
use Rattle.jnl_file.specs.Generations.{AreDurable}
use Rattle.jnl_file.proofs.Newer.{all_told}
use Rattle.site_defs.specs.OutsideJournal.{IsOutsideGenerations}
use Rattle.entry_index.specs.declared.placed.PlacedSign.{PlacedSign}
use Rattle.entry_index.specs.Order.{AreInOrder}
use Rattle.entry_index.specs.Places.{AreSignsOf}
use Rattle.entry_index.specs.Among.{AreAllInOrder}
use Rattle.entry_index.specs.Indexes.{AreSigns}
use Rattle.site_files.specs.Loading.{last_of}
use Rattle.site_defs.specs.Outside.{AreOutside, HaveBegun, HaveJournals, AreUnbegun}
use Rattle.site_files.specs.Reading.{HaveSigns, AreAllDurable, AreUnbegunDurable}

-- what is on the disk for good stays so where nothing new comes
pub durable_kept : (u v : View) (file : ℕ) (bytes : List ℕ) → IsLawful v → AtEachMoment u v (Image u) → IsDurable u file bytes → IsDurable v file bytes
durable_kept u v file bytes lawful run durable c now = durable c (holds_now u v (Image u) lawful run c now)

-- one region more
region_more : (P Q : ℕ → Type 0) (n m : ℕ) → m ≡ n + 1 → ((r : ℕ) → r < n → P r) → ((r : ℕ) → r < n → P r → Q r) → Q n → (r : ℕ) → r < m → Q r
region_more P Q n m more before gives here r low = elim (cases_eq r n) [
  | inl e ↦ subst Q (sym e) here
  | inr ne ↦ let earlier : r < n = omega (arith, more, low, ne) in gives r earlier (before r earlier)
]

last_kept : (lasts : List ℕ) (last n r : ℕ) → length lasts ≡ n → r < n → last_of (lasts ++ last ∷ []) r ≡ last_of lasts r
last_kept lasts last n r many low = get_or_append_left lasts (last ∷ []) 0 r (omega (arith, many, low))

-- the records of regions, and of one more
abbrev and_one : (ℕ → List Placed) → ℕ → List Placed → ℕ → List Placed
and_one journal n new r = if r == n then new else journal r

one_here : (journal : ℕ → List Placed) (n : ℕ) (new : List Placed) → and_one journal n new n ≡ new
one_here journal n new = let same : (n == n) ≡ true = grind (arith, nat_tests) in rw same refl

one_other : (journal : ℕ → List Placed) (n r : ℕ) (new : List Placed) → (r ≡ n → ⊥) → and_one journal n new r ≡ journal r
one_other journal n r new other = let differ : (r == n) ≡ false = grind (arith, nat_tests) in rw differ refl

have_more : (files : Files) (n m g : ℕ) (lasts : List ℕ) (journal : ℕ → List Placed) (last : ℕ) (new : List Placed) → m ≡ n + 1 → length lasts ≡ n → HaveJournals n g (last_of lasts) journal files
    → IsJournal files n g last new → HaveJournals m g (last_of (lasts ++ last ∷ [])) (and_one journal n new) files
have_more files n m g lasts journal last new more many before here =
    let Was = λ (r : ℕ). IsJournal files r g (last_of lasts r) (journal r) in
    let Is = λ (r : ℕ). IsJournal files r g (last_of (lasts ++ last ∷ []) r) (and_one journal n new r) in
    region_more Was Is n m more before
    (λ r low was. subst (λ (k : ℕ). IsJournal files r g k (and_one journal n new r)) (sym (last_kept lasts last n r many low))
    (subst (λ (l : List Placed). IsJournal files r g (last_of lasts r) l) (sym (one_other journal n r new (λ same. omega (arith, same, low)))) was))
    (subst (λ (k : ℕ). IsJournal files n g k (and_one journal n new n)) (sym (get_or_push lasts last 0 n many))
    (subst (λ (l : List Placed). IsJournal files n g last l) (sym (one_here journal n new)) here))

-- the generations of records are those of the files in which they stand
abbrev IsInRange : Placed → Type 0
IsInRange p = (1 ≤ p.generation) × (p.generation ≤ MOST_GENERATIONS)

newer_range : (g : ℕ) (xs : List JournalRecord) → 1 ≤ g → g ≤ MOST_GENERATIONS → AllByRecursion IsInRange (map (in_generation g) xs)
newer_range g [] least most = tt
newer_range g (x ∷ xs) least most = ((least, most), newer_range g xs least most)

pub in_range : (files : Files) (r g last : ℕ) (journal : List Placed) → g ≤ MOST_GENERATIONS → IsJournal files r g last journal → AllByRecursion IsInRange journal
in_range files r zero last journal most h = subst (AllByRecursion IsInRange) (sym h.1) tt
in_range files r (suc g) last journal most h =
    subst (AllByRecursion IsInRange) (sym h.7)
    (all_both IsInRange h.1 (map (in_generation (suc g)) h.2) (in_range files r g h.0 h.1 (omega (arith, most)) h.3) (newer_range (suc g) h.2 (omega arith) most))

-- and their signs
are_more : (files : Files) (n : ℕ) (signs : List (List PlacedSign)) (journal : ℕ → List Placed) (found : List PlacedSign) (new : List Placed) → length signs ≡ n → AreSigns files signs journal
    → AreSignsOf files n found new → AllByRecursion IsInRange new → AreSigns files (signs ++ found ∷ []) (and_one journal n new)
are_more files n signs journal found new many was here range =
    let long : length (signs ++ found ∷ []) ≡ n + 1 = length-append signs (found ∷ []) ∙ ap (λ (k : ℕ). k + 1) many in
    let Was = λ (r : ℕ). AreSignsOf files r (get_or signs r []) (journal r) in
    let Is = λ (r : ℕ). AreSignsOf files r (get_or (signs ++ found ∷ []) r []) (and_one journal n new r) in
    let Ranged = λ (l : List Placed). AllByRecursion IsInRange l in
    record {
      each = region_more Was Is n (length (signs ++ found ∷ [])) long (λ r low. was.each r (omega (arith, low, many)))
          (λ r low is. subst (λ (ss : List PlacedSign). AreSignsOf files r ss (and_one journal n new r)) (sym (get_or_append_left signs (found ∷ []) [] r (omega (arith, many, low))))
          (subst (λ (l : List Placed). AreSignsOf files r (get_or signs r []) l) (sym (one_other journal n r new (λ same. omega (arith, same, low)))) is))
          (subst (λ (ss : List PlacedSign). AreSignsOf files n ss (and_one journal n new n)) (sym (get_or_push signs found [] n many))
          (subst (λ (l : List Placed). AreSignsOf files n found l) (sym (one_here journal n new)) here));
      generations = region_more (λ r. Ranged (journal r)) (λ r. Ranged (and_one journal n new r)) n (length (signs ++ found ∷ [])) long (λ r low. was.generations r (omega (arith, low, many)))
          (λ r low is. subst Ranged (sym (one_other journal n r new (λ same. omega (arith, same, low)))) is)
          (subst Ranged (sym (one_here journal n new)) range);
      no_more = λ r past. one_other journal n r new (λ same. omega (arith, same, past, long)) ∙ was.no_more r (omega (arith, past, long, many));
    }

-- the region that is read now is the first whose journals aren't
pub told_outside : (o n : Option Files) (regions region g : ℕ) (last : ℕ → ℕ) (signs : List (List PlacedSign)) (file offset : ℕ) → region < regions → n ≡ o
    → IfSome o (HaveSigns region g last signs) → IfSome n (λ files. IsOutsideGenerations files region g file offset) → IfSome o (λ files. AreOutside files regions g file offset)
told_outside o n regions region g last signs file offset low same before out =
    both_weak o (HaveSigns region g last signs) (λ files. IsOutsideGenerations files region g file offset) (λ files. AreOutside files regions g file offset) before
    (told_at o n (λ files. IsOutsideGenerations files region g file offset) same out)
    (λ files was is. record { region = region; below = low; began = last; journal = was.journal; earlier = was.have; outside = is })

-- the region that is seen now is the first whose next generation has begun
pub told_begun_early : (o n : Option Files) (regions region g file offset : ℕ) → region < regions → n ≡ o → (file ≡ journal_file g region) × (offset ≡ 0)
    → IfSome o (AreUnbegun region g) → IfSome n (λ files. records (files (journal_file g region)) ≡ Some [] → ⊥) → IfSome o (λ files. HaveBegun files regions g file offset)
told_begun_early o n regions region g file offset low same place before out =
    both_weak o (AreUnbegun region g) (λ files. records (files (journal_file g region)) ≡ Some [] → ⊥) (λ files. HaveBegun files regions g file offset) before
    (told_at o n (λ files. records (files (journal_file g region)) ≡ Some [] → ⊥) same out)
    (λ files was is. record { region = region; below = low; earlier = was; begun = is; file_is = place.0; offset_is = place.1 })

-- with the records' places
ordered_more : (n : ℕ) (signs : List (List PlacedSign)) (journal : ℕ → List Placed) (found : List PlacedSign) (new : List Placed) → length signs ≡ n → AreAllInOrder signs journal
    → AreInOrder found new → AreAllInOrder (signs ++ found ∷ []) (and_one journal n new)
ordered_more n signs journal found new many was here =
    let long : length (signs ++ found ∷ []) ≡ n + 1 = length-append signs (found ∷ []) ∙ ap (λ (k : ℕ). k + 1) many in
    let Was = λ (r : ℕ). AreInOrder (get_or signs r []) (journal r) in
    let Is = λ (r : ℕ). AreInOrder (get_or (signs ++ found ∷ []) r []) (and_one journal n new r) in
    region_more Was Is n (length (signs ++ found ∷ [])) long (λ r low. was r (omega (arith, low, many)))
    (λ r low is. subst (λ (ss : List PlacedSign). AreInOrder ss (and_one journal n new r)) (sym (get_or_append_left signs (found ∷ []) [] r (omega (arith, many, low))))
    (subst (λ (l : List Placed). AreInOrder (get_or signs r []) l) (sym (one_other journal n r new (λ same. omega (arith, same, low)))) is))
    (subst (λ (ss : List PlacedSign). AreInOrder ss (and_one journal n new n)) (sym (get_or_push signs found [] n many))
    (subst (λ (l : List Placed). AreInOrder found l) (sym (one_here journal n new)) here))

-- no region yet
pub none_read : {J : Type 0} (items : J → List PlacedSign) (o : Option Files) (g : ℕ) (lasts : List ℕ) (js : List J) → js ≡ [] → IfSome o (HaveSigns 0 g (last_of lasts) (map items js))
none_read items o g lasts js none =
    let empty : length (map items js) ≡ 0 = length-map js items ∙ ap length none in
    all_told o (HaveSigns 0 g (last_of lasts) (map items js)) (λ files. record {
      journal = λ r. [];
      have = λ r low. absurd (omega (arith, low));
      are = record {
        each = λ r low. absurd (omega (arith, low, empty));
        generations = λ r low. absurd (omega (arith, low, empty));
        no_more = λ r past. refl;
      };
      ordered = λ r low. absurd (omega (arith, low, empty));
    })

pub none_began : (lasts : List ℕ) (g r : ℕ) → lasts ≡ [] → last_of lasts r ≤ g
none_began lasts g r none = subst (λ (l : List ℕ). last_of l r ≤ g) (sym none) (omega arith)

-- the same of lists in vectors, as the disk tells it
pub told_more : {J : Type 0} (items : J → List PlacedSign) (o n : Option Files) (region next g : ℕ) (lasts lasts2 : List ℕ) (js js2 : List J) (last : ℕ) (j : J) → g ≤ MOST_GENERATIONS → next ≡ region + 1 → n ≡ o
    → length lasts ≡ region → length js ≡ region → lasts2 ≡ lasts ++ last ∷ [] → js2 ≡ js ++ j ∷ []
    → IfSome o (HaveSigns region g (last_of lasts) (map items js)) → IfSome n (λ files. (journal : List Placed) × IsJournal files region g last journal × AreSignsOf files region (items j) journal × AreInOrder (items j) journal)
    → IfSome o (HaveSigns next g (last_of lasts2) (map items js2))
told_more items o n region next g lasts lasts2 js js2 last j most more same many_last many pushed_last pushed before here =
    let Was = HaveSigns region g (last_of lasts) (map items js) in
    let Here = λ (files : Files). (journal : List Placed) × IsJournal files region g last journal × AreSignsOf files region (items j) journal × AreInOrder (items j) journal in
    let Is = HaveSigns next g (last_of lasts2) (map items js2) in
    let lists : map items js ++ items j ∷ [] ≡ map items js2 = sym (ap (map items) pushed ∙ map-append items js (j ∷ [])) in
    both_weak o Was Here Is before (told_at o n Here same here)
    (λ files was is.
    subst (λ (l : List ℕ). HaveSigns next g (last_of l) (map items js2) files) (sym pushed_last)
    (subst (λ (l : List (List PlacedSign)). HaveSigns next g (last_of (lasts ++ last ∷ [])) l files) lists
    (record {
      journal = and_one was.journal region is.0;
      have = have_more files region next g lasts was.journal last is.0 more many_last was.have is.1;
      are = are_more files region (map items js) was.journal (items j) is.0 (length-map js items ∙ many) was.are is.2 (in_range files region g last is.0 most is.1);
      ordered = ordered_more region (map items js) was.journal (items j) is.0 (length-map js items ∙ many) was.ordered is.3;
    })))

pub one_longer : {X : Type 0} (old new : List X) (x : X) (n : ℕ) → new ≡ old ++ x ∷ [] → length old ≡ n → length new ≡ n + 1
one_longer old new x n is many = ap length is ∙ length-append old (x ∷ []) ∙ ap (λ k. k + 1) many

pub began_more : (xs : List ℕ) (x g r : ℕ) → ((k : ℕ) → last_of xs k ≤ g) → x ≤ g → last_of (xs ++ x ∷ []) r ≤ g
began_more [] x g zero all le = le
began_more [] x g (suc r) all le = omega arith
began_more (y ∷ ys) x g zero all le = all 0
began_more (y ∷ ys) x g (suc r) all le = began_more ys x g r (λ k. all (suc k)) le

pub told_durable : (u v w : View) (region next g : ℕ) → next ≡ region + 1 → v.content ≡ u.content → IsLawful w → AtEachMoment v w (Image v)
    → IfSome u.content (AreAllDurable v region g) → IfSome v.content (AreDurable w region g) → IfSome u.content (AreAllDurable w next g)
told_durable u v w region next g more same lawful run before here =
    both_weak u.content (AreAllDurable v region g) (AreDurable w region g) (AreAllDurable w next g) before (told_at u.content v.content (AreDurable w region g) same here)
    (λ files was is.
    region_more (λ r. AreDurable v r g files) (λ r. AreDurable w r g files) region next more was
    (λ r low durable h least most. durable_kept v w (journal_file h r) (files (journal_file h r)) lawful run (durable h least most)) is)

-- a region in which something stands against it
pub told_none : (o n : Option Files) (regions region g : ℕ) → region < regions → n ≡ o → IfSome n (λ files. (began : ℕ) (journal : List Placed) → IsJournal files region g began journal → ⊥)
    → IfSome o (λ files. (began : ℕ → ℕ) (journal : ℕ → List Placed) → HaveJournals regions g began journal files → ⊥)
told_none o n regions region g low same none =
    let None = λ (files : Files). (began : ℕ) (journal : List Placed) → IsJournal files region g began journal → ⊥ in
    weaker_told o None (λ files. (began : ℕ → ℕ) (journal : ℕ → List Placed) → HaveJournals regions g began journal files → ⊥) (told_at o n None same none)
    (λ files no began journal have. no (began region) (journal region) (have region low))

-- the same of the generation that isn't drawn
pub told_unbegun : (o n : Option Files) (region next g : ℕ) → next ≡ region + 1 → n ≡ o → IfSome o (AreUnbegun region g) → IfSome n (λ files. records (files (journal_file g region)) ≡ Some [])
    → IfSome o (AreUnbegun next g)
told_unbegun o n region next g more same before here =
    let Here = λ (files : Files). records (files (journal_file g region)) ≡ Some [] in
    both_weak o (AreUnbegun region g) Here (AreUnbegun next g) before (told_at o n Here same here)
    (λ files was is.
    let At = λ (r : ℕ). records (files (journal_file g r)) ≡ Some [] in
    region_more At At region next more was (λ r low at. at) is)

pub told_unbegun_durable : (u v w : View) (region next g : ℕ) → next ≡ region + 1 → v.content ≡ u.content → IsLawful w → AtEachMoment v w (Image v)
    → IfSome u.content (AreUnbegunDurable v region g) → IfSome v.content (λ files. IsDurable w (journal_file g region) (files (journal_file g region))) → IfSome u.content (AreUnbegunDurable w next g)
told_unbegun_durable u v w region next g more same lawful run before here =
    let Here = λ (files : Files). IsDurable w (journal_file g region) (files (journal_file g region)) in
    both_weak u.content (AreUnbegunDurable v region g) Here (AreUnbegunDurable w next g) before (told_at u.content v.content Here same here)
    (λ files was is.
    region_more (λ r. IsDurable v (journal_file g r) (files (journal_file g r))) (λ r. IsDurable w (journal_file g r) (files (journal_file g r))) region next more was
    (λ r low durable. durable_kept v w (journal_file g r) (files (journal_file g r)) lawful run durable) is)

pub told_begun : (o n : Option Files) (regions region g : ℕ) → region < regions → n ≡ o → IfSome n (λ files. records (files (journal_file g region)) ≡ Some [] → ⊥) → IfSome o (λ files. AreUnbegun regions g files → ⊥)
told_begun o n regions region g low same begun =
    let Begun = λ (files : Files). records (files (journal_file g region)) ≡ Some [] → ⊥ in
    weaker_told o Begun (λ files. AreUnbegun regions g files → ⊥) (told_at o n Begun same begun) (λ files no unbegun. no (unbegun region low))
