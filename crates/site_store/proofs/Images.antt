-- What images stand for.
use Rattle.std.proofs.Common.{◌≡◌, ◌≤◌, ◌<◌, ℕ, zero, suc, Bool, true, false, List, [], ◌∷◌, ◌++◌, length, Some, refl, sym, ◌∙◌, ap, subst, arith, append-nil}
use Rattle.std.specs.Prelude.{nat_lt, if◌then◌else◌}
use Rattle.std.proofs.lemmas.Bool.Decides.{nat_tests}
use Rattle.std.specs.List.{AllByRecursion, AllZip, filter_map}
use Rattle.std.proofs.lemmas.List.Elements.{filter_map-append}
use Rattle.global_defs.specs.declared.limits.TheConstants.{MOST_GENERATIONS}
use Rattle.disk_defs.specs.Disk.{Files}
use Rattle.disk_defs.specs.Frames.{Only, SameOutside}
use Rattle.disk_defs.specs.Gates.{Body, records}
use Rattle.global_defs.specs.Entry.{Sequence, Reign}
use Rattle.journal_defs.specs.Numbers.{INSTANCE, journal_file, database_file, lost_file, broken_file}
use Rattle.journal_defs.specs.Instance.{InstanceRecord, Create, Reigned, Cut, Map, Mode, IsInstanceBody, BeginsWithCreate, generation, regions, site_name}
use Rattle.journal_defs.specs.Directory.{Pattern, pattern_in, patterns}
use Rattle.journal_defs.specs.Surviving.{reigns}
use Rattle.journal_defs.specs.Sequence.{Placed, Records}
use Rattle.journal_defs.specs.Broken.{broken, broken_text}
use Rattle.journal_defs.specs.Stands.{Holds, IsInstance, AreRecords}
use Rattle.journal_defs.specs.Growth.{with_record, NonePast}
use Rattle.journal_defs.specs.Clean.{AreClean}
use Rattle.journal_defs.specs.Fit.{IsSoundImage}
use Rattle.journal_laws.proofs.Naming as naming
use Rattle.journal_laws.proofs.RecordSteps as steps
use Rattle.journal_laws.proofs.ImageSteps as images
use Rattle.journal_laws.proofs.Readings.{records_one}
use Rattle.site_defs.specs.Contents.{Contents, NO_LEFTOVER, is_made}
use Rattle.site_defs.specs.Stands.{start_in, epoch_in, texts_of, losts_of, torn_of, IsSite, HasLeft}
use Rattle.site_files.proofs.Keeping.{zip_front, one_instance_body as one_body, last_one}
use Rattle.block_laws.proofs.Unbroken.{broken_none}

-- files with the same records have the same open bodies
same_bodies : (old new : List ℕ) (rs : List InstanceRecord) → Holds IsInstanceBody old rs → Holds IsInstanceBody new rs → records new ≡ records old
same_bodies old new rs h k =
    let longer : AllZip IsInstanceBody k.0 (rs ++ []) = subst (AllZip IsInstanceBody k.0) (sym (append-nil rs)) k.2 in
    let found = zip_front IsInstanceBody one_body h.0 k.0 rs [] h.2 longer in
    k.1 ∙ ap Some (found.1 ∙ ap (λ (l : List Body). h.0 ++ l) (none found.0 found.2) ∙ append-nil h.0) ∙ sym h.1
  where
    none : (more : List Body) → AllZip IsInstanceBody more [] → more ≡ []
    none [] zip = refl
    none (b ∷ bs) zip = absurd zip

-- where no part past the length survives, the next broken-transaction file has no byte
no_text : (s : Records) (n : ℕ) → NonePast n s → broken_text (site_name s.instance) n (broken s n) ≡ []
no_text s n none = ap (broken_text (site_name s.instance) n) (broken_none s n none)

clean_after : (old new : Files) (s u : Records) (n m : ℕ) → AreClean old s n → NonePast n s → SameOutside (Only INSTANCE) old new
    → generation u.instance ≡ generation s.instance → length (regions u.instance) ≡ length (regions s.instance) → AreClean new u m
clean_after old new s u n m clean none same newest few = record {
  journals = λ g r undrawn here. ap records (same (journal_file g r) (λ e. omega (arith, e))) ∙ clean.journals g r (omega (arith, undrawn.0, newest), undrawn.1) (omega (arith, here, few));
  lost = λ g undrawn. same (lost_file g) (λ e. omega (arith, e)) ∙ clean.lost g (omega (arith, undrawn.0, newest), undrawn.1);
  first_broken = λ g undrawn first.
      let none_here = clean.first_broken g (omega (arith, undrawn.0, newest), undrawn.1) (omega (arith, first, newest)) in
      let size : length (broken_text (site_name s.instance) n (broken s n)) ≡ 0 = ap length (no_text s n none) in
      let as_long : length (new (broken_file g)) ≡ length (old (broken_file g)) = ap length (same (broken_file g) (λ e. omega (arith, e))) in
      omega (arith, none_here, size, as_long);
  later_broken = λ g undrawn later. same (broken_file g) (λ e. omega (arith, e)) ∙ clean.later_broken g (omega (arith, undrawn.0, newest), undrawn.1) (omega (arith, later, newest));
}

-- other bytes of the instance file, with the same records
pub same_image : (old new : Files) (s : Records) (seq : Sequence) → IsSoundImage old s seq → NonePast (length seq) s → SameOutside (Only INSTANCE) old new → IsInstance (new INSTANCE) s.instance → IsSoundImage new s seq
same_image old new s seq sound none same now =
    images.same_image old new s seq sound (same_bodies (old INSTANCE) (new INSTANCE) s.instance sound.held.instance.bodies now.bodies) (λ h r drawn region. ap records (same (journal_file h r) (λ e. omega (arith, e))))
    (clean_after old new s s (length seq) (length seq) sound.clean none same refl refl)
    (λ r region. same (database_file r) (λ e. omega (arith, e)))

-- a reign begins
pub generation_kept : (rs : List InstanceRecord) (x : Reign) → generation (rs ++ Reigned x ∷ []) ≡ generation rs
generation_kept [] x = refl
generation_kept (Cut n h ∷ rs) x = let rest = generation_kept rs x in omega (arith, rest)
generation_kept (Create name qs ∷ rs) x = generation_kept rs x
generation_kept (Reigned r ∷ rs) x = generation_kept rs x
generation_kept (Map region star name ∷ rs) x = generation_kept rs x
generation_kept (Mode region before ∷ rs) x = generation_kept rs x

pub patterns_kept : (rs : List InstanceRecord) (x : Reign) → patterns (rs ++ Reigned x ∷ []) ≡ patterns rs
patterns_kept rs x = filter_map-append pattern_in rs (Reigned x ∷ []) ∙ append-nil (patterns rs)

pub name_kept : (rs : List InstanceRecord) (x : Reign) → 0 < length rs → site_name (rs ++ Reigned x ∷ []) ≡ site_name rs
name_kept [] x some = absurd (omega (arith, some))
name_kept (Cut n h ∷ rs) x some = refl
name_kept (Create name qs ∷ rs) x some = refl
name_kept (Reigned r ∷ rs) x some = refl
name_kept (Map region star name ∷ rs) x some = refl
name_kept (Mode region before ∷ rs) x some = refl

pub regions_kept : (rs : List InstanceRecord) (x : Reign) → 0 < length rs → regions (rs ++ Reigned x ∷ []) ≡ regions rs
regions_kept [] x some = absurd (omega (arith, some))
regions_kept (Cut n h ∷ rs) x some = refl
regions_kept (Create name qs ∷ rs) x some = refl
regions_kept (Reigned r ∷ rs) x some = refl
regions_kept (Map region star name ∷ rs) x some = refl
regions_kept (Mode region before ∷ rs) x some = refl

-- a site has a region
some_by : (rs : List InstanceRecord) (bodies : List Body) → AllZip IsInstanceBody bodies rs → BeginsWithCreate rs → 0 < length rs → 1 ≤ length (regions rs)
some_by [] bodies zip begins made = absurd (omega (arith, made))
some_by (Create name named ∷ rs) [] zip begins made = absurd zip
some_by (Create name named ∷ rs) (b ∷ bodies) zip begins made = zip.0.form.1
some_by (Reigned r ∷ rs) bodies zip begins made = absurd begins
some_by (Cut n g ∷ rs) bodies zip begins made = absurd begins
some_by (Map region star name ∷ rs) bodies zip begins made = absurd begins
some_by (Mode region before ∷ rs) bodies zip begins made = absurd begins

some_regions : (files : Files) (s : Records) → AreRecords files s → 0 < length s.instance → 1 ≤ length (regions s.instance)
some_regions files s held made = some_by s.instance held.instance.bodies.0 held.instance.bodies.2 held.instance.create made

pub reign_image : (old new : Files) (s : Records) (seq : Sequence) (x : Reign) → IsSoundImage old s seq → NonePast (length seq) s → 0 < length s.instance → length seq < x.start
    → AllByRecursion (λ (q : Reign). q.start < x.start) (reigns s.instance) → SameOutside (Only INSTANCE) old new → IsInstance (new INSTANCE) (s.instance ++ Reigned x ∷ []) → IsSoundImage new (with_record s (Reigned x)) seq
reign_image old new s seq x sound none made late past same now =
    let was = sound.held.instance.bodies in
    let found = zip_front IsInstanceBody one_body was.0 now.bodies.0 s.instance (Reigned x ∷ []) was.2 now.bodies.2 in
    let last = last_one found.0 (Reigned x) found.2 in
    let list : records (new INSTANCE) ≡ Some (was.0 ++ last.0 ∷ []) = now.bodies.1 ∙ ap Some (found.1 ∙ ap (λ (l : List Body). was.0 ++ l) last.1) in
    let some : 1 ≤ length (regions s.instance) = some_regions old s sound.held made in
    steps.reign old new s seq x sound some none late (naming.reign old new s x was.0 last.0 sound.held some past same was.1 list last.2)
    (λ m. clean_after old new s (with_record s (Reigned x)) (length seq) m sound.clean none same (generation_kept s.instance x) (ap length (regions_kept s.instance x made)))
    (λ r region. same (database_file r) (λ e. omega (arith, e)))

-- What files and contents have to be, besides, for these records to stand for the contents.
pub record AreOf (files : Files) (c : Contents) (s : Records) : Type 0 where
  pub made : is_made c ≡ true
  pub mapped : AllByRecursion (λ (p : Pattern). p.region < length (regions c.instance)) (patterns c.instance)
  pub instance : s.instance ≡ c.instance
  pub starts : (r : ℕ) → c.starts r ≡ filter_map (λ (p : Placed). start_in p.what) (s.journal r)
  pub epochs : (r : ℕ) → c.epochs r ≡ filter_map (λ (p : Placed). epoch_in p.generation p.what) (s.journal r)
  pub texts : c.texts ≡ texts_of files (generation c.instance)
  pub losts : c.losts ≡ losts_of files (generation c.instance)

pub are_of : (files : Files) (c : Contents) (s : Records) → IsSite files c → AreRecords files s → AreOf files c s
are_of files c s is held =
    let same = records_one files is.records s is.image.held held in
    record {
      made = is.made;
      mapped = is.mapped;
      instance = subst (λ (u : Records). u.instance ≡ c.instance) same is.instance;
      starts = λ r. subst (λ (u : Records). c.starts r ≡ filter_map (λ (p : Placed). start_in p.what) (u.journal r)) same (is.starts r);
      epochs = λ r. subst (λ (u : Records). c.epochs r ≡ filter_map (λ (p : Placed). epoch_in p.generation p.what) (u.journal r)) same (is.epochs r);
      texts = is.texts;
      losts = is.losts;
    }

pub site_of : (files : Files) (c : Contents) (s : Records) → AreOf files c s → IsSoundImage files s c.sequence → IsSite files c
site_of files c s of sound = record { made = of.made; mapped = of.mapped; records = s; instance = of.instance; starts = of.starts; epochs = of.epochs; texts = of.texts; losts = of.losts; image = sound }

pub is_created : (c : Contents) → is_made c ≡ true → 0 < length c.instance
is_created c made = by_list c.instance made
  where
    by_list : (l : List InstanceRecord) → nat_lt 0 (length l) ≡ true → 0 < length l
    by_list [] e = absurd (cc e)
    by_list (x ∷ l) e = omega arith

-- the broken-transaction files of the generations so far
pub texts_same : (d f : Files) (n : ℕ) → ((g : ℕ) → g ≤ n → f (broken_file g) ≡ d (broken_file g)) → texts_of f n ≡ texts_of d n
texts_same d f zero same = refl
texts_same d f (suc g) same =
    ap (λ (l : List (List ℕ)). l ++ f (broken_file (suc g)) ∷ []) (texts_same d f g (λ h low. same h (omega (arith, low))))
    ∙ ap (λ (x : List ℕ). texts_of d g ++ x ∷ []) (same (suc g) (omega arith))

-- and the lost-transaction files
pub losts_same : (d f : Files) (n : ℕ) → ((g : ℕ) → g ≤ n → f (lost_file g) ≡ d (lost_file g)) → losts_of f n ≡ losts_of d n
losts_same d f zero same = refl
losts_same d f (suc g) same =
    ap (λ (l : List (List ℕ)). l ++ f (lost_file (suc g)) ∷ []) (losts_same d f g (λ h low. same h (omega (arith, low))))
    ∙ ap (λ (x : List ℕ). losts_of d g ++ x ∷ []) (same (suc g) (omega arith))

-- the next broken-transaction file, where there can be one
pub torn_none : (files : Files) (g : ℕ) → (g < MOST_GENERATIONS → files (broken_file (suc g)) ≡ []) → [] ≡ torn_of files g
torn_none files g none = by_test (nat_lt g MOST_GENERATIONS) refl
  where
    by_test : (b : Bool) → nat_lt g MOST_GENERATIONS ≡ b → [] ≡ (if b then files (broken_file (suc g)) else [])
    by_test true e = sym (none (grind (arith, nat_tests, e)))
    by_test false e = refl

pub torn_same : (d f : Files) (g : ℕ) → (g < MOST_GENERATIONS → f (broken_file (suc g)) ≡ d (broken_file (suc g))) → torn_of d g ≡ torn_of f g
torn_same d f g same = by_test (nat_lt g MOST_GENERATIONS) refl
  where
    by_test : (b : Bool) → nat_lt g MOST_GENERATIONS ≡ b → (if b then d (broken_file (suc g)) else []) ≡ (if b then f (broken_file (suc g)) else [])
    by_test true e = sym (same (grind (arith, nat_tests, e)))
    by_test false e = refl

-- nothing lies behind a sequence past which no part survives
empty_list : (l : List ℕ) → length l ≤ 0 → [] ≡ l
empty_list [] none = refl
empty_list (x ∷ l) none = absurd (omega (arith, none))

pub left_nothing : (files : Files) (c : Contents) (s : Records) → AreRecords files s → AreClean files s (length c.sequence) → NonePast (length c.sequence) s → s.instance ≡ c.instance → HasLeft files c NO_LEFTOVER
left_nothing files c s held clean none own = record {
  records = s;
  held = held;
  broken = sym (ap (broken_text (site_name c.instance) (length c.sequence)) (broken_none s (length c.sequence) none));
  torn = torn_none files (generation c.instance) (λ low.
      let newest : generation s.instance ≡ generation c.instance = ap generation own in
      let short = clean.first_broken (suc (generation c.instance)) (omega (arith, newest), omega (arith, low)) (omega (arith, newest)) in
      let size : length (broken_text (site_name s.instance) (length c.sequence) (broken s (length c.sequence))) ≡ 0 = ap length (no_text s (length c.sequence) none) in
      sym (empty_list (files (broken_file (suc (generation c.instance)))) (omega (arith, short, size))));
}
