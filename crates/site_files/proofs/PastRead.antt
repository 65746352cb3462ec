-- The parts past a length, as they are read by the signs of a region's records.
use Rattle.std.proofs.Common.{◌≡◌, ◌⊎◌, inl, inr, ℕ, zero, suc, ◌+◌, ◌≤◌, ◌<◌, Bool, true, false, cond, List, [], ◌∷◌, ◌++◌, length, map, take, get_or, Option, Some, None, IfSome, if◌then◌else◌, Err, IsErrOf, refl, sym, ◌∙◌, ap, subst, arith}
use Rattle.std.proofs.Math.Path.{fun_ext}
use Rattle.std.proofs.lemmas.Bool.{cases_Bool, cases_lt}
use Rattle.std.proofs.lemmas.Bool.Decides.{nat_tests}
use Rattle.std.proofs.lemmas.List.{length-map, get_or_past, get_or_append_left, get_or_push, map-append, take_all}
use Rattle.std.proofs.lemmas.List.Elements.{filter-append}
use Rattle.std.specs.List.{AllZip, AllByRecursion, flat_map, enumerate_from, cons_option}
use Rattle.std.specs.Prelude.{◌&&◌, nat_lt}
use Rattle.global_defs.specs.declared.limits.TheConstants.{MOST_GENERATIONS}
use Rattle.global_defs.specs.Region.{Region}
use Rattle.disk_defs.specs.Disk.{Files}
use Rattle.disk_defs.proofs.Told.{told_at, weaker_told, both_weak}
use Rattle.journal_defs.specs.Numbers.{journal_file}
use Rattle.journal_defs.specs.Journal as journal
use Rattle.journal_defs.specs.Journal.{JournalRecord, Part}
use Rattle.journal_defs.specs.Instance.{InstanceRecord, regions}
use Rattle.journal_defs.specs.Broken.{BrokenPart, part_past, parts_past, broken}
use Rattle.journal_defs.specs.Sequence.{Placed}
use Rattle.journal_defs.specs.Surviving.{survives}
use Rattle.jnl_file.specs.declared.error.JournalError.{JournalError}
use Rattle.jnl_file.specs.declared.error.JournalError.TheVariants as journals
use Rattle.jnl_record.specs.declared.placed.PlacedRecord.{PlacedRecord}
use Rattle.jnl_record.specs.Values.{placed_value}
use Rattle.entry_index.specs.declared.placed.PlacedSign.{PlacedSign}
use Rattle.entry_index.specs.Places.{StandsAt, IsSignOf}
use Rattle.entry_index.specs.RecordSigns.{sign_of}
use Rattle.entry_index.specs.Indexes.{AreSigns}
use Rattle.entry_index.specs.Thinned.{IsThinned, IsSettled, MayGo, part_generation}
use Rattle.mupip_recover.specs.Site.{journal_of}
use Rattle.site_files.specs.Errors.{placed_error}
use Rattle.site_files.specs.declared.error.FilesError.{FilesError}
use Rattle.site_files.specs.declared.error.FilesError.TheVariants as error
use Rattle.site_files.specs.Past.{is_past, is_past_by_sign, all_past, AreRegionSigns}

-- a sign tells whether its record is past
told_by_sign : (n : ℕ) (x : JournalRecord) → is_past_by_sign n (sign_of x) ≡ is_past n x
told_by_sign n (journal.Pini s) = refl
told_by_sign n (journal.Epoch m) = refl
told_by_sign n (journal.Pblk b) = refl
told_by_sign n (journal.Tcom p) = refl

-- no other record is of the broken list
not_past : (rs : List InstanceRecord) (n g : ℕ) (x : JournalRecord) → is_past n x ≡ false → part_past rs n g x ≡ None
not_past rs n g (journal.Pini s) h = refl
not_past rs n g (journal.Epoch m) h = refl
not_past rs n g (journal.Pblk b) h = refl
not_past rs n g (journal.Tcom p) h = rw h refl

only_past : (rs : List InstanceRecord) (n : ℕ) (js : List Placed) → parts_past rs n (all_past n js) ≡ parts_past rs n js
only_past rs n [] = refl
only_past rs n (p ∷ ps) = elim (cases_Bool (is_past n p.what)) [
  | inl holds ↦ rw holds (ap (cons_option (part_past rs n p.generation p.what)) (only_past rs n ps))
  | inr fails ↦ rw fails (only_past rs n ps ∙ ap (λ (o : Option Part). cons_option o (parts_past rs n ps)) (sym (not_past rs n p.generation p.what fails)))
]

-- the broken list of the parts past the length is that of all records
pub broken_past : (rs : List InstanceRecord) (n : ℕ) (journal past : ℕ → List Placed) → ((r : ℕ) → past r ≡ all_past n (journal r)) → broken (record { instance = rs; journal = past }) n ≡ broken (record { instance = rs; journal = journal }) n
broken_past rs n journal past are =
    ap (λ (f : ℕ × Region → List BrokenPart). flat_map f (enumerate_from 0 (regions rs)))
    (fun_ext (λ r. ap (λ (ps : List Part). map (λ (p : Part). let made : BrokenPart = record { region = r.1.name; part = p } in made) ps) (ap (parts_past rs n) (are r.0) ∙ only_past rs n (journal r.0))))

-- what is dropped of records is no surviving part past the length
over_none : (n : ℕ) (lives : Bool) (p : Part) → (p.number ≤ n) ⊎ (lives ≡ false) → (if nat_lt n p.number && lives then Some p else None) ≡ None
over_none n lives p (inl least) = let low : nat_lt n p.number ≡ false = grind (arith, nat_tests, least) in rw low refl
over_none n lives p (inr lost) = ap (λ (b : Bool). if nat_lt n p.number && b then Some p else None) lost ∙ no_part (nat_lt n p.number) p
  where
    no_part : (b : Bool) (q : Part) → (if b && false then Some q else None) ≡ None
    no_part true q = refl
    no_part false q = refl

settled_none : (rs : List InstanceRecord) (n g : ℕ) (x : JournalRecord) → IsSettled rs n g x → part_past rs n g x ≡ None
settled_none rs n g (journal.Pini s) settled = absurd settled
settled_none rs n g (journal.Epoch m) settled = absurd settled
settled_none rs n g (journal.Pblk b) settled = absurd settled
settled_none rs n g (journal.Tcom p) settled = over_none n (survives rs g p.number) p settled

may_none : (rs : List InstanceRecord) (n g : ℕ) (x : JournalRecord) → MayGo rs n g x → part_past rs n g x ≡ None
may_none rs n g (journal.Pini s) may = absurd may
may_none rs n g (journal.Epoch m) may = refl
may_none rs n g (journal.Pblk b) may = refl
may_none rs n g (journal.Tcom p) may = over_none n (survives rs g p.number) p may

past_kept : (rs : List InstanceRecord) (lowest n : ℕ) (behind : Option ℕ) (js kept : List Placed) → IsThinned rs lowest n behind js kept → parts_past rs n kept ≡ parts_past rs n js
past_kept rs lowest n behind [] kept thin = ap (parts_past rs n) thin
past_kept rs lowest n behind (p ∷ ps) kept (inl stays) =
    ap (parts_past rs n) stays.1 ∙ ap (cons_option (part_past rs n p.generation p.what)) (past_kept rs lowest n (part_generation p.generation p.what) ps stays.0 stays.2)
past_kept rs lowest n behind (p ∷ ps) kept (inr (inl goes)) =
    past_kept rs lowest n behind ps kept goes.2 ∙ ap (λ (o : Option Part). cons_option o (parts_past rs n ps)) (sym (settled_none rs n p.generation p.what goes.1))
past_kept rs lowest n behind (p ∷ ps) kept (inr (inr goes)) =
    past_kept rs lowest n (part_generation p.generation p.what) ps kept goes.2 ∙ ap (λ (o : Option Part). cons_option o (parts_past rs n ps)) (sym (may_none rs n p.generation p.what goes.1))

-- so what is kept of them is enough for the broken list
pub broken_kept : (rs : List InstanceRecord) (lowest n : ℕ) (journal kept : ℕ → List Placed) → ((r : ℕ) → IsThinned rs lowest n None (journal r) (kept r)) → broken (record { instance = rs; journal = kept }) n ≡ broken (record { instance = rs; journal = journal }) n
broken_kept rs lowest n journal kept thin =
    ap (λ (f : ℕ × Region → List BrokenPart). flat_map f (enumerate_from 0 (regions rs)))
    (fun_ext (λ r. ap (λ (ps : List Part). map (λ (p : Part). let made : BrokenPart = record { region = r.1.name; part = p } in made) ps) (past_kept rs lowest n None (journal r.0) (kept r.0) (thin r.0))))

-- the record whose sign stands at a place
pub record IsAt (files : Files) (region : ℕ) (s : PlacedSign) (journal : List Placed) (i : ℕ) : Type 0 where
  pub placed : Placed
  pub is : IsSignOf files region s placed
  pub most : placed.generation ≤ MOST_GENERATIONS
  pub more : take (i + 1) journal ≡ take i journal ++ placed ∷ []

at_place : (files : Files) (region : ℕ) (ss : List PlacedSign) (ps : List Placed) (i : ℕ) (s d : PlacedSign) → AllZip (IsSignOf files region) ss ps → AllByRecursion (λ p. (1 ≤ p.generation) × (p.generation ≤ MOST_GENERATIONS)) ps
    → i < length ss → s ≡ get_or ss i d → (p : Placed) × IsSignOf files region s p × (p.generation ≤ MOST_GENERATIONS) × (take (suc i) ps ≡ take i ps ++ p ∷ [])
at_place files region [] ps i s d zip all low is = absurd (omega (arith, low))
at_place files region (x ∷ ss) [] i s d zip all low is = absurd zip
at_place files region (x ∷ ss) (p ∷ ps) zero s d zip all low is = (p, subst (λ (y : PlacedSign). IsSignOf files region y p) (sym is) zip.0, all.0.1, refl)
at_place files region (x ∷ ss) (p ∷ ps) (suc i) s d zip all low is =
    let there = at_place files region ss ps i s d zip.1 all.1 (omega (arith, low)) is in
    (there.0, there.1, there.2, ap (λ (l : List Placed). p ∷ l) there.3)

pub is_at : (files : Files) (region : ℕ) (ss : List PlacedSign) (ps : List Placed) (i : ℕ) (s d : PlacedSign) → AreRegionSigns files region ss ps → i < length ss → s ≡ get_or ss i d → IsAt files region s ps i
is_at files region ss ps i s d are low is =
    let there = at_place files region ss ps i s d are.are are.generations low is in
    let next : i + 1 ≡ suc i = omega arith in
    record { placed = there.0; is = there.1; most = there.2; more = ap (λ (k : ℕ). take k ps) next ∙ there.3 }

-- the record that was read from there
file_at : (files : Files) (region : ℕ) (s : PlacedSign) (p : Placed) (file : ℕ) → file ≡ journal_file s.generation region → IsSignOf files region s p → StandsAt (files file) s.offset p.what
file_at files region s p file named is = subst (λ (f : ℕ). StandsAt (files f) s.offset p.what) (sym (named ∙ ap (λ (g : ℕ). journal_file g region) is.generation)) is.stands

pub is_record : (files : Files) (region : ℕ) (s : PlacedSign) (p : Placed) (file : ℕ) (what : JournalRecord) → file ≡ journal_file s.generation region → ((other : JournalRecord) → StandsAt (files file) s.offset other → what ≡ other)
    → IsSignOf files region s p → (let made : Placed = record { generation = s.generation; what = what } in made) ≡ p
is_record files region s p file what named one is =
    ap (λ (g : ℕ). let made : Placed = record { generation = g; what = what } in made) is.generation
    ∙ ap (λ (x : JournalRecord). let made : Placed = record { generation = p.generation; what = x } in made) (one p.what (file_at files region s p file named is))

pub nothing_there : (files : Files) (region : ℕ) (s : PlacedSign) (p : Placed) (file : ℕ) → file ≡ journal_file s.generation region → ((other : JournalRecord) → StandsAt (files file) s.offset other → ⊥) → IsSignOf files region s p → ⊥
nothing_there files region s p file named none is = none p.what (file_at files region s p file named is)

-- an error of the file, where no record stands at the place
pub refused_there : {T : Type 0} (fault at : ℕ) (e : JournalError) (x : FilesError) (file offset : ℕ) → x ≡ placed_error fault at e → IsErrOf {T = T} (Err x) (error.NotAFile file offset) → e ≡ journals.NotARecord offset
refused_there fault at journals.Failed x file offset same is = absurd (cc (same, is))
refused_there fault at (journals.NotARecord n) x file offset same is = let told : error.NotAFile file offset ≡ error.NotAFile at n = cc (same, is) in let place : offset ≡ n = cc told in ap journals.NotARecord (sym place)
refused_there fault at journals.NoMemory x file offset same is = absurd (cc (same, is))

-- the parts past a length among one record, as its sign tells them
module _ (files : Files) (region n : ℕ) (s : PlacedSign) (p : Placed) (is : IsSignOf files region s p) where
  told : (b : Bool) → is_past_by_sign n s.sign ≡ b → is_past n p.what ≡ b
  told b by = sym (told_by_sign n p.what) ∙ ap (is_past_by_sign n) (sym is.says) ∙ by

  pub none_of : is_past_by_sign n s.sign ≡ false → all_past n (p ∷ []) ≡ []
  none_of fails = ap (λ (b : Bool). cond b (p ∷ []) []) (told false fails)

  pub one_of : is_past_by_sign n s.sign ≡ true → all_past n (p ∷ []) ≡ p ∷ []
  one_of holds = ap (λ (b : Bool). cond b (p ∷ []) []) (told true holds)

-- one record more
pub past_more : (n : ℕ) (files : Files) (region : ℕ) (s : PlacedSign) (journal : List Placed) (i : ℕ) (at : IsAt files region s journal i) → all_past n (take i journal) ++ all_past n (at.placed ∷ []) ≡ all_past n (take (i + 1) journal)
past_more n files region s journal i at = sym (ap (all_past n) at.more ∙ filter-append (λ (p : Placed). is_past n p.what) (take i journal) (at.placed ∷ []))

-- all of them were gone through
pub long_as : (files : Files) (region : ℕ) (ss : List PlacedSign) (ps : List Placed) → AllZip (IsSignOf files region) ss ps → length ps ≡ length ss
long_as files region [] [] zip = refl
long_as files region [] (p ∷ ps) zip = absurd zip
long_as files region (s ∷ ss) [] zip = absurd zip
long_as files region (s ∷ ss) (p ∷ ps) zip = ap suc (long_as files region ss ps zip.1)

pub past_whole : (n : ℕ) (journal : List Placed) (i : ℕ) (files : Files) (region : ℕ) (ss : List PlacedSign) → AreRegionSigns files region ss journal → length ss ≤ i → all_past n (take i journal) ≡ all_past n journal
past_whole n journal i files region ss are past =
    let long = long_as files region ss journal are.are in
    ap (all_past n) (take_all i journal (omega (arith, long, past)))

-- as the disk tells it
pub told_past : (o n : Option Files) (region len : ℕ) (ss : List PlacedSign) (i : ℕ) (d : PlacedSign) (old new : List Placed) → n ≡ o → i < length ss
    → IfSome o (λ files. (journal : List Placed) → AreRegionSigns files region ss journal → old ≡ all_past len (take i journal))
    → IfSome n (λ files. (p : Placed) → IsSignOf files region (get_or ss i d) p → new ≡ old ++ all_past len (p ∷ []))
    → IfSome o (λ files. (journal : List Placed) → AreRegionSigns files region ss journal → new ≡ all_past len (take (i + 1) journal))
told_past o n region len ss i d old new same low before here =
    let Was = λ (files : Files). (journal : List Placed) → AreRegionSigns files region ss journal → old ≡ all_past len (take i journal) in
    let Here = λ (files : Files). (p : Placed) → IsSignOf files region (get_or ss i d) p → new ≡ old ++ all_past len (p ∷ []) in
    both_weak o Was Here (λ files. (journal : List Placed) → AreRegionSigns files region ss journal → new ≡ all_past len (take (i + 1) journal)) before (told_at o n Here same here)
    (λ files was added journal are.
    let at = is_at files region ss journal i (get_or ss i d) d are low refl in
    added at.placed at.is ∙ ap (λ (l : List Placed). l ++ all_past len (at.placed ∷ [])) (was journal are) ∙ past_more len files region (get_or ss i d) journal i at)

pub told_missing : (o n : Option Files) (region : ℕ) (ss : List PlacedSign) (i : ℕ) (d : PlacedSign) → n ≡ o → i < length ss
    → IfSome n (λ files. (p : Placed) → IsSignOf files region (get_or ss i d) p → p.generation ≤ MOST_GENERATIONS → ⊥) → IfSome o (λ files. (journal : List Placed) → AreRegionSigns files region ss journal → ⊥)
told_missing o n region ss i d same low none =
    let None_there = λ (files : Files). (p : Placed) → IsSignOf files region (get_or ss i d) p → p.generation ≤ MOST_GENERATIONS → ⊥ in
    weaker_told o None_there (λ files. (journal : List Placed) → AreRegionSigns files region ss journal → ⊥) (told_at o n None_there same none)
    (λ files no journal are. let at = is_at files region ss journal i (get_or ss i d) d are low refl in no at.placed at.is at.most)

-- the signs of one region
pub of_region : {J : Type 0} (items : J → List PlacedSign) (files : Files) (js : List J) (journal : ℕ → List Placed) (r : ℕ) (j d : J) → AreSigns files (map items js) journal → r < length js → j ≡ get_or js r d
    → AreRegionSigns files r (items j) (journal r)
of_region items files js journal r j d are low is =
    let many = length-map js items in
    let same : get_or (map items js) r [] ≡ items j = got items js r j d low is in
    record {
      are = subst (λ (ss : List PlacedSign). AllZip (IsSignOf files r) ss (journal r)) same (are.each r (omega (arith, low, many)));
      generations = are.generations r (omega (arith, low, many));
    }
  where
    got : {J : Type 0} (items : J → List PlacedSign) (js : List J) (r : ℕ) (j d : J) → r < length js → j ≡ get_or js r d → get_or (map items js) r [] ≡ items j
    got items [] r j d low is = absurd (omega (arith, low))
    got items (x ∷ js) zero j d low is = ap items (sym is)
    got items (x ∷ js) (suc r) j d low is = got items js r j d (omega (arith, low)) is

-- the lists of regions that were read, and of one more
pub lists_more : {J : Type 0} (items : J → List PlacedRecord) (n : ℕ) (js js2 : List J) (j : J) (journal : ℕ → List Placed) (region : ℕ) → js2 ≡ js ++ j ∷ [] → length js ≡ region
    → ((r : ℕ) → r < region → journal_of (map items js) r ≡ all_past n (journal r)) → map placed_value (items j) ≡ all_past n (journal region)
    → (r : ℕ) → r < region + 1 → journal_of (map items js2) r ≡ all_past n (journal r)
lists_more items n js js2 j journal region pushed many before here r low =
    let lists : map items js2 ≡ map items js ++ items j ∷ [] = ap (map items) pushed ∙ map-append items js (j ∷ []) in
    let long : length (map items js) ≡ region = length-map js items ∙ many in
    ap (λ (l : List (List PlacedRecord)). journal_of l r) lists ∙ elim (cases_lt r region) [
      | inl earlier ↦ ap (map placed_value) (get_or_append_left (map items js) (items j ∷ []) [] r (omega (arith, earlier, long))) ∙ before r earlier
      | inr last ↦
          let same : region ≡ r = omega (arith, last, low) in
          subst (λ (k : ℕ). journal_of (map items js ++ items j ∷ []) k ≡ all_past n (journal k)) same
          (ap (map placed_value) (get_or_push (map items js) (items j) [] region long) ∙ here)
    ]

pub lists_whole : {J : Type 0} (items : J → List PlacedRecord) (n : ℕ) (js : List J) (files : Files) (signs : List (List PlacedSign)) (journal : ℕ → List Placed) (region : ℕ) → length js ≡ region → length signs ≤ region
    → AreSigns files signs journal → ((r : ℕ) → r < region → journal_of (map items js) r ≡ all_past n (journal r)) → (r : ℕ) → journal_of (map items js) r ≡ all_past n (journal r)
lists_whole items n js files signs journal region many whole are before r = elim (cases_lt r region) [
  | inl low ↦ before r low
  | inr past ↦
      let long : length (map items js) ≡ region = length-map js items ∙ many in
      ap (map placed_value) (get_or_past (map items js) r [] (omega (arith, past, long)))
      ∙ sym (ap (all_past n) (are.no_more r (omega (arith, past, whole))))
]

-- as the disk tells it, with the region of this list
module _ {J K : Type 0} (items : J → List PlacedSign) (made : K → List PlacedRecord) (o n : Option Files) (len : ℕ) (js : List J) (region : ℕ) (j d : J) (same : n ≡ o) (low : region < length js) (here : j ≡ get_or js region d) where
  pub told_lists : (ks ks2 : List K) (k : K) → ks2 ≡ ks ++ k ∷ [] → length ks ≡ region
      → IfSome o (λ files. (journal : ℕ → List Placed) → AreSigns files (map items js) journal → (r : ℕ) → r < region → journal_of (map made ks) r ≡ all_past len (journal r))
      → IfSome n (λ files. (journal : List Placed) → AreRegionSigns files region (items j) journal → map placed_value (made k) ≡ all_past len journal)
      → IfSome o (λ files. (journal : ℕ → List Placed) → AreSigns files (map items js) journal → (r : ℕ) → r < region + 1 → journal_of (map made ks2) r ≡ all_past len (journal r))
  told_lists ks ks2 k pushed many before now =
      let Was = λ (files : Files). (journal : ℕ → List Placed) → AreSigns files (map items js) journal → (r : ℕ) → r < region → journal_of (map made ks) r ≡ all_past len (journal r) in
      let Here = λ (files : Files). (journal : List Placed) → AreRegionSigns files region (items j) journal → map placed_value (made k) ≡ all_past len journal in
      both_weak o Was Here (λ files. (journal : ℕ → List Placed) → AreSigns files (map items js) journal → (r : ℕ) → r < region + 1 → journal_of (map made ks2) r ≡ all_past len (journal r)) before (told_at o n Here same now)
      (λ files was is journal are. lists_more made len ks ks2 k journal region pushed many (was journal are) (is (journal region) (of_region items files js journal region j d are low here)))

  pub told_no_lists : IfSome n (λ files. (journal : List Placed) → AreRegionSigns files region (items j) journal → ⊥) → IfSome o (λ files. (journal : ℕ → List Placed) → AreSigns files (map items js) journal → ⊥)
  told_no_lists none =
      let None_there = λ (files : Files). (journal : List Placed) → AreRegionSigns files region (items j) journal → ⊥ in
      weaker_told o None_there (λ files. (journal : ℕ → List Placed) → AreSigns files (map items js) journal → ⊥) (told_at o n None_there same none)
      (λ files no journal are. no (journal region) (of_region items files js journal region j d are low here))
