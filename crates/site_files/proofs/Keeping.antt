-- A site whose next generation is drawn stands for its sequence, whatever a crash leaves of the drawing.
use Rattle.std.proofs.Common.{◌≡◌, ◌≢◌, ◌⊎◌, inl, inr, ℕ, zero, suc, ◌+◌, ◌≤◌, ◌<◌, ◌==◌, Bool, true, false, List, [], ◌∷◌, ◌++◌, length, take, max, Some, None, refl, sym, ◌∙◌, ap, subst, arith, append-nil}
use Rattle.std.specs.Prelude.{◌&&◌, if◌then◌else◌, nat_lt, Option}
use Rattle.std.specs.Option.{option_or}
use Rattle.std.proofs.lemmas.Bool.{cases_eq, cases_lt}
use Rattle.std.proofs.lemmas.Bool.Decides.{nat_tests}
use Rattle.std.proofs.Math.Path.{fun_ext}
use Rattle.std.proofs.Math.Seq.{take-length}
use Rattle.std.specs.List.{AllZip}
use Rattle.global_defs.specs.declared.limits.TheConstants.{MOST_GENERATIONS, MOST_REGIONS}
use Rattle.disk_defs.specs.Disk.{Files}
use Rattle.disk_defs.specs.Frames.{Only, SameOutside}
use Rattle.disk_defs.specs.Gates.{Body, records}
use Rattle.global_defs.specs.Entry.{Sequence}
use Rattle.journal_defs.specs.Numbers.{INSTANCE, journal_file, database_file, lost_file, broken_file}
use Rattle.journal_defs.specs.Journal.{IsJournalBody, Part}
use Rattle.journal_defs.specs.Instance.{InstanceRecord, Cut, IsInstanceBody, generation, regions, site_name}
use Rattle.journal_defs.specs.Sequence.{Placed, Records, part_of}
use Rattle.journal_defs.specs.Broken.{broken, broken_text}
use Rattle.journal_defs.specs.Stands.{Holds, IsInstance, IsJournal, in_generation}
use Rattle.journal_defs.specs.Growth.{with_record, with_journal, NonePast, IsBefore}
use Rattle.journal_defs.specs.Clean.{AreClean}
use Rattle.journal_defs.specs.Fit.{IsSoundImage}
use Rattle.journal_defs.specs.Sound.{NoEpochPast}
use Rattle.journal_laws.proofs.Appending as appending
use Rattle.journal_laws.proofs.Cleaning as cleaning
use Rattle.journal_laws.proofs.Drawing as drawing
use Rattle.journal_laws.proofs.EveryTarget.{none_past_record, none_past_cut}
use Rattle.journal_laws.proofs.ImageSteps as images
use Rattle.journal_laws.proofs.RecordSteps as steps
use Rattle.journal_laws.proofs.Runs as runs
use Rattle.site_files.specs.Loading.{MayBeOpened, AreRead, IsUncut, HasDrawnAs, HasCut, next_cut, next_journal, next_broken, next_pini_as, starts_in_as, drawn_records_as}
use Rattle.site_files.proofs.Kept.{journal_kept}

-- A body is that of one record, and the record has one body, so a list of records has one list of bodies.
pub zip_front : {R : Type 0} (P : Body → R → Type 0) → ((b d : Body) (r : R) → P b r → P d r → b ≡ d) → (bs ds : List Body) (rs qs : List R)
    → AllZip P bs rs → AllZip P ds (rs ++ qs) → (more : List Body) × (ds ≡ bs ++ more) × AllZip P more qs
zip_front P one [] ds [] qs zip longer = (ds, refl, longer)
zip_front P one [] ds (r ∷ rs) qs zip longer = absurd zip
zip_front P one (b ∷ bs) ds [] qs zip longer = absurd zip
zip_front P one (b ∷ bs) [] (r ∷ rs) qs zip longer = absurd longer
zip_front P one (b ∷ bs) (d ∷ ds) (r ∷ rs) qs zip longer =
    let rest = zip_front P one bs ds rs qs zip.1 longer.1 in
    (rest.0, ap (λ (x : Body). x ∷ ds) (one d b r longer.0 zip.0) ∙ ap (λ (l : List Body). b ∷ l) rest.1, rest.2)

pub one_instance_body : (b d : Body) (r : InstanceRecord) → IsInstanceBody b r → IsInstanceBody d r → b ≡ d
one_instance_body b d r h k = h.spelled ∙ sym k.spelled

-- files with the same records have the same open bodies
same_bodies : {R : Type 0} (P : Body → R → Type 0) → ((b d : Body) (r : R) → P b r → P d r → b ≡ d) → (old new : List ℕ) (rs : List R) → Holds P old rs → Holds P new rs → records new ≡ records old
same_bodies {R} P one old new rs h k =
    let longer : AllZip P k.0 (rs ++ []) = subst (AllZip P k.0) (sym (append-nil rs)) k.2 in
    let found = zip_front P one h.0 k.0 rs [] h.2 longer in
    k.1 ∙ ap Some (found.1 ∙ ap (λ (l : List Body). h.0 ++ l) (none found.0 found.2) ∙ append-nil h.0) ∙ sym h.1
  where
    none : (more : List Body) → AllZip P more [] → more ≡ []
    none [] zip = refl
    none (b ∷ bs) zip = absurd zip

pub last_one : (more : List Body) (x : InstanceRecord) → AllZip IsInstanceBody more (x ∷ []) → (body : Body) × (more ≡ body ∷ []) × IsInstanceBody body x
last_one [] x zip = absurd zip
last_one (b ∷ []) x zip = (b, refl, zip.0)
last_one (b ∷ d ∷ bs) x zip = absurd zip.1

pub no_bytes : (bytes : List ℕ) → length bytes ≤ 0 → bytes ≡ []
no_bytes [] none = refl
no_bytes (b ∷ bytes) none = absurd (omega (arith, none))

cut_image : (old new : Files) (s : Records) (seq : Sequence) (t : ℕ) → IsSoundImage old s seq → t ≤ length seq → 1 ≤ length (regions s.instance) → generation s.instance < MOST_GENERATIONS → SameOutside (Only INSTANCE) old new
    → IsInstance (new INSTANCE) (s.instance ++ next_cut s.instance t ∷ []) → IsSoundImage new (with_record s (next_cut s.instance t)) (take t seq)
cut_image old new s seq t sound most few low same now =
    let was = sound.held.instance.bodies in
    let g = generation s.instance + 1 in
    let found = zip_front IsInstanceBody one_instance_body was.0 now.bodies.0 s.instance (Cut t g ∷ []) was.2 now.bodies.2 in
    let last = last_one found.0 (Cut t g) found.2 in
    let list : records (new INSTANCE) ≡ Some (was.0 ++ last.0 ∷ []) = now.bodies.1 ∙ ap Some (found.1 ∙ ap (λ (l : List Body). was.0 ++ l) last.1) in
    let past : generation s.instance < g = omega arith in
    let held = drawing.cut old new s t g was.0 last.0 sound.held few past (λ h r above high here. sound.clean.journals h r (above, omega (arith, high, low)) here) same was.1 list last.2 in
    steps.cut old new s seq t g sound few most (drawing.before old s g sound.held past) held (λ m. cleaning.cut old new s t g (length seq) m sound.clean few past same) (λ r here. same (database_file r) (λ e. omega (arith, e)))

-- the beginnings of regions
starts_none : (anew : Bool) (rs : List InstanceRecord) (last : ℕ → ℕ) (k r : ℕ) → k ≤ r → starts_in_as anew rs last k r ≡ []
starts_none anew rs last k r past = let no : nat_lt r k ≡ false = grind (arith, nat_tests, past) in rw no refl

starts_one : (anew : Bool) (rs : List InstanceRecord) (last : ℕ → ℕ) (k r : ℕ) → r < k → r < length (regions rs) → starts_in_as anew rs last k r ≡ in_generation (suc (generation rs)) (next_pini_as anew rs last r) ∷ []
starts_one anew rs last k r low here =
    let yes : nat_lt r k ≡ true = grind (arith, nat_tests, low) in
    let there : nat_lt r (length (regions rs)) ≡ true = grind (arith, nat_tests, here) in
    rw yes (rw there refl)

if_none : {X : Type 0} (a b : Bool) (xs : List X) → b ≡ false → (if a && b then xs else []) ≡ []
if_none true b xs none = rw none refl
if_none false b xs none = refl

-- past the last region nothing begins
starts_past : (anew : Bool) (rs : List InstanceRecord) (last : ℕ → ℕ) (k r : ℕ) → length (regions rs) < k → starts_in_as anew rs last (length (regions rs)) r ≡ starts_in_as anew rs last k r
starts_past anew rs last k r past = elim (cases_lt r (length (regions rs))) [
  | inl here ↦ starts_one anew rs last (length (regions rs)) r here here ∙ sym (starts_one anew rs last k r (omega (arith, here, past)) here)
  | inr far ↦
      let no : nat_lt r (length (regions rs)) ≡ false = grind (arith, nat_tests, far) in
      starts_none anew rs last (length (regions rs)) r far ∙ sym (if_none (nat_lt r k) (nat_lt r (length (regions rs))) (in_generation (suc (generation rs)) (next_pini_as anew rs last r) ∷ []) no)
]

starts_same : (anew : Bool) (rs : List InstanceRecord) (last : ℕ → ℕ) (k r : ℕ) → r ≢ k → starts_in_as anew rs last (suc k) r ≡ starts_in_as anew rs last k r
starts_same anew rs last k r ne = let same : nat_lt r (suc k) ≡ nat_lt r k = grind (arith, nat_tests, ne) in rw same refl

module _ (anew : Bool) (s : Records) (n : ℕ) (last : ℕ → ℕ) where
  abbrev pub rs : List InstanceRecord
  rs = s.instance

  abbrev pub drawn : ℕ → Records
  drawn k = drawn_records_as anew s n last k

  abbrev pub start : ℕ → Placed
  start r = in_generation (suc (generation rs)) (next_pini_as anew rs last r)

  by_journal : (a b : ℕ → List Placed) → ((r : ℕ) → a r ≡ b r) → ◌≡◌ {A = Records} (record { instance = rs ++ next_cut rs n ∷ []; journal = a }) (record { instance = rs ++ next_cut rs n ∷ []; journal = b })
  by_journal a b same = ap (λ (j : ℕ → List Placed). record { instance = rs ++ next_cut rs n ∷ []; journal = j }) (fun_ext same)

  pub none_drawn : with_record s (next_cut rs n) ≡ drawn 0
  none_drawn = by_journal s.journal (λ r. s.journal r ++ starts_in_as anew rs last 0 r) (λ r. sym (ap (λ (l : List Placed). s.journal r ++ l) (starts_none anew rs last 0 r (omega arith)) ∙ append-nil (s.journal r)))

  one_more : (k : ℕ) → k < length (regions rs) → with_journal (drawn k) k (start k ∷ []) ≡ drawn (suc k)
  one_more k low = by_journal (with_journal (drawn k) k (start k ∷ [])).journal (λ r. s.journal r ++ starts_in_as anew rs last (suc k) r) (λ r. elim (cases_eq r k) [
    | inl e ↦ subst (λ (q : ℕ). (with_journal (drawn k) k (start k ∷ [])).journal q ≡ s.journal q ++ starts_in_as anew rs last (suc k) q) (sym e) here
    | inr ne ↦ there r ne
  ])
    where
      here : (with_journal (drawn k) k (start k ∷ [])).journal k ≡ s.journal k ++ starts_in_as anew rs last (suc k) k
      here =
          let yes : (k == k) ≡ true = grind (arith, nat_tests) in
          let added : (with_journal (drawn k) k (start k ∷ [])).journal k ≡ (s.journal k ++ starts_in_as anew rs last k k) ++ start k ∷ [] = rw yes refl in
          added
          ∙ ap (λ (l : List Placed). (s.journal k ++ l) ++ start k ∷ []) (starts_none anew rs last k k (omega arith))
          ∙ ap (λ (l : List Placed). l ++ start k ∷ []) (append-nil (s.journal k))
          ∙ ap (λ (l : List Placed). s.journal k ++ l) (sym (starts_one anew rs last (suc k) k (omega arith) low))

      there : (r : ℕ) → r ≢ k → (with_journal (drawn k) k (start k ∷ [])).journal r ≡ s.journal r ++ starts_in_as anew rs last (suc k) r
      there r ne =
          let no : (r == k) ≡ false = grind (arith, nat_tests, ne) in
          let kept : (with_journal (drawn k) k (start k ∷ [])).journal r ≡ s.journal r ++ starts_in_as anew rs last k r = rw no refl in
          kept
          ∙ ap (λ (l : List Placed). s.journal r ++ l) (sym (starts_same anew rs last k r ne))

  all_drawn : (k : ℕ) → length (regions rs) < k → drawn (length (regions rs)) ≡ drawn k
  all_drawn k past = by_journal (λ r. s.journal r ++ starts_in_as anew rs last (length (regions rs)) r) (λ r. s.journal r ++ starts_in_as anew rs last k r) (λ r. ap (λ (l : List Placed). s.journal r ++ l) (starts_past anew rs last k r past))

  -- no part survives past the length, and no epoch is ever chosen past it
  pub none_past : IsBefore (generation rs + 1) s → (k : ℕ) → NonePast n (drawn k)
  none_past before k m r late =
      runs.part_of-append (rs ++ next_cut rs n ∷ []) m (s.journal r) (starts_in_as anew rs last k r)
      ∙ ap (λ (o : Option Part). option_or o (part_of (rs ++ next_cut rs n ∷ []) m (s.journal r))) (by_test (nat_lt r k && nat_lt r (length (regions rs))))
      ∙ runs.none_past_cut s n (generation rs + 1) before m r late
    where
      by_test : (t : Bool) → part_of (rs ++ next_cut rs n ∷ []) m (if t then start r ∷ [] else []) ≡ None
      by_test true = refl
      by_test false = refl

  pub no_epoch_past : IsBefore (generation rs + 1) s → (k r : ℕ) → NoEpochPast n (drawn k).instance ((drawn k).journal r)
  no_epoch_past before k r = by_test (nat_lt r k && nat_lt r (length (regions rs)))
    where
      none : NoEpochPast n (rs ++ next_cut rs n ∷ []) (s.journal r)
      none = none_past_cut rs n (generation rs + 1) (s.journal r) (before r)

      by_test : (t : Bool) → NoEpochPast n (rs ++ next_cut rs n ∷ []) (s.journal r ++ (if t then start r ∷ [] else []))
      by_test true = none_past_record (rs ++ next_cut rs n ∷ []) n (s.journal r) (λ b. []) (start r) none tt
      by_test false = subst (NoEpochPast n (rs ++ next_cut rs n ∷ [])) (sym (append-nil (s.journal r))) none

-- what an image is made from
module _ (a : Files) (s : Records) (last : ℕ → ℕ) (form : MayBeOpened s.instance last) where
  abbrev g : ℕ
  g = generation s.instance

  abbrev m : ℕ
  m = length (regions s.instance)

  low : g < MOST_GENERATIONS
  low = let room = form.room in omega (arith, room)

  -- the files that stay
  abbrev pub AreSame : Files → Type 0
  AreSame b = (f : ℕ) → f ≢ INSTANCE → f ≢ next_broken s.instance → ((r : ℕ) → r < m → f ≢ next_journal s.instance r) → b f ≡ a f

  at_journal : (b : Files) → AreSame b → (h r : ℕ) → h ≤ g → r < m → b (journal_file h r) ≡ a (journal_file h r)
  at_journal b same h r most here =
      let few = form.few_regions in
      same (journal_file h r) (λ e. omega (arith, e)) (λ e. omega (arith, e, most, here, few, low)) (λ q there e. omega (arith, e, most, here, few))

  at_later : (b : Files) → AreSame b → (h r : ℕ) → suc g < h → h ≤ MOST_GENERATIONS → r < m → b (journal_file h r) ≡ a (journal_file h r)
  at_later b same h r past most here =
      let few = form.few_regions in
      same (journal_file h r) (λ e. omega (arith, e)) (λ e. omega (arith, e, most, here, few, low)) (λ q there e. omega (arith, e, past, there, few))

  at_lost : (b : Files) → AreSame b → (h : ℕ) → h ≤ MOST_GENERATIONS → b (lost_file h) ≡ a (lost_file h)
  at_lost b same h most =
      let few = form.few_regions in
      same (lost_file h) (λ e. omega (arith, e)) (λ e. omega (arith, e, most, low)) (λ q there e. omega (arith, e, there, few, low))

  at_broken : (b : Files) → AreSame b → (h : ℕ) → suc g < h → b (broken_file h) ≡ a (broken_file h)
  at_broken b same h past =
      let few = form.few_regions in
      same (broken_file h) (λ e. omega (arith, e)) (λ e. omega (arith, e, past)) (λ q there e. omega (arith, e, there, few, low))

  at_database : (b : Files) → AreSame b → (r : ℕ) → r < m → b (database_file r) ≡ a (database_file r)
  at_database b same r here =
      let few = form.few_regions in
      same (database_file r) (λ e. omega (arith, e)) (λ e. omega (arith, e, here, few)) (λ q there e. omega (arith, e, here, few))

  pub older_still : (b : Files) → AreSame b → AreRead s.instance last s.journal a → (r : ℕ) → r < m → IsJournal b r g (last r) (s.journal r)
  older_still b same read r here = journal_kept a b r g (last r) (s.journal r) (λ h one high. at_journal b same h r high here) (read.older r here)

  module _ (seq : Sequence) (sound : IsSoundImage a s seq) where
    past : g < g + 1
    past = omega arith

    pub before_all : IsBefore (g + 1) s
    before_all = drawing.before a s (g + 1) sound.held past

    short_text : length (a (next_broken s.instance)) ≤ length (broken_text (site_name s.instance) (length seq) (broken s (length seq)))
    short_text = sound.clean.first_broken (suc g) (omega arith, omega (arith, low)) (omega arith)

    clean_uncut : (text : List ℕ) (b : Files) → text ≡ broken_text (site_name s.instance) (length seq) (broken s (length seq)) → IsUncut s.instance text a b → AreClean b s (length seq)
    clean_uncut text b is cut = record {
      journals = λ h r undrawn here. elim (cases_lt (suc g) h) [
        | inl later ↦ ap records (at_later b cut.others h r later undrawn.1 here) ∙ sound.clean.journals h r undrawn here
        | inr most ↦
            let e : suc g ≡ h = (let above = undrawn.0 in omega (arith, most, above)) in
            subst (λ (k : ℕ). records (b (journal_file k r)) ≡ Some []) e (cut.next r here)
      ];
      lost = λ h undrawn. at_lost b cut.others h undrawn.1 ∙ sound.clean.lost h undrawn;
      first_broken = λ h undrawn first.
          let e : suc g ≡ h = omega (arith, first) in
          let size : length text ≡ length (broken_text (site_name s.instance) (length seq) (broken s (length seq))) = ap length is in
          let most : length (b (next_broken s.instance)) ≤ max (length (a (next_broken s.instance))) (length text) = cut.text in
          let few : length (b (next_broken s.instance)) ≤ length (broken_text (site_name s.instance) (length seq) (broken s (length seq))) = (let t = short_text in omega (arith, size, most, t)) in
          subst (λ (k : ℕ). length (b (broken_file k)) ≤ length (broken_text (site_name s.instance) (length seq) (broken s (length seq)))) e few;
      later_broken = λ h undrawn later. at_broken b cut.others h (omega (arith, later)) ∙ sound.clean.later_broken h undrawn later;
    }

    pub uncut_image : (text : List ℕ) (b : Files) → text ≡ broken_text (site_name s.instance) (length seq) (broken s (length seq)) → IsUncut s.instance text a b → IsSoundImage b s seq
    uncut_image text b is cut = images.same_image a b s seq sound
        (same_bodies IsInstanceBody one_instance_body (a INSTANCE) (b INSTANCE) s.instance sound.held.instance.bodies cut.instance.bodies)
        (λ h r most here. ap records (at_journal b cut.others h r most here)) (clean_uncut text b is cut) (λ r here. at_database b cut.others r here)

    pub text_is_to : (anew : Bool) (t : ℕ) (text : List ℕ) (b : Files) (k : ℕ) → text ≡ broken_text (site_name s.instance) (length seq) (broken s (length seq)) → HasDrawnAs anew s.instance t text last k a b → b (next_broken s.instance) ≡ text
    text_is_to anew t text b k is has = elim has.text [
      | inl e ↦ e
      | inr both ↦
          let size : length (broken_text (site_name s.instance) (length seq) (broken s (length seq))) ≡ 0 = ap length (sym is ∙ both.0) in
          let none : length (a (next_broken s.instance)) ≤ 0 = (let t = short_text in omega (arith, size, t)) in
          both.1 ∙ no_bytes (a (next_broken s.instance)) none ∙ sym both.0
    ]

    pub text_is : (anew : Bool) (text : List ℕ) (b : Files) (k : ℕ) → text ≡ broken_text (site_name s.instance) (length seq) (broken s (length seq)) → HasDrawnAs anew s.instance (length seq) text last k a b → b (next_broken s.instance) ≡ text
    text_is anew text b k is has = text_is_to anew (length seq) text b k is has

    -- with a CUT to the first t entries
    module _ (t : ℕ) (most : t ≤ length seq) where
      -- once it's drawn
      abbrev S2 : Records
      S2 = with_record s (next_cut s.instance t)

      newest : generation S2.instance ≡ g + 1
      newest = drawing.generation-cut s.instance t (g + 1) past

      same_few : length (regions S2.instance) ≡ m
      same_few = ap length (drawing.same_regions s.instance t (g + 1) form.some_region)

      clean_drawn : (b : Files) (u : Records) (k : ℕ) → u.instance ≡ S2.instance → AreSame b → AreClean b u k
      clean_drawn b u k is same = record {
        journals = λ h r undrawn here.
            let past_h : suc g < h = above h undrawn.0 in
            at_j h r past_h undrawn.1 (subst (λ (l : List InstanceRecord). r < length (regions l)) is here);
        lost = λ h undrawn. let past_h : suc g < h = above h undrawn.0 in at_lost b same h undrawn.1 ∙ sound.clean.lost h (omega (arith, past_h), undrawn.1);
        first_broken = λ h undrawn first.
            let past_h : suc g < h = above h undrawn.0 in
            let none : b (broken_file h) ≡ [] = at_broken b same h past_h ∙ sound.clean.later_broken h (omega (arith, past_h), undrawn.1) (omega (arith, past_h)) in
            let size : length (b (broken_file h)) ≡ 0 = ap length none in
            omega (arith, size);
        later_broken = λ h undrawn later. let past_h : suc g < h = above h undrawn.0 in at_broken b same h past_h ∙ sound.clean.later_broken h (omega (arith, past_h), undrawn.1) (omega (arith, past_h));
      }
        where
          above : (h : ℕ) → generation u.instance < h → suc g < h
          above h high =
              let e : generation u.instance ≡ g + 1 = ap generation is ∙ newest in
              omega (arith, e, high)

          at_j : (h r : ℕ) → suc g < h → h ≤ MOST_GENERATIONS → r < length (regions S2.instance) → records (b (journal_file h r)) ≡ Some []
          at_j h r past_h most here =
              let there : r < m = (let e = same_few in omega (arith, e, here)) in
              ap records (at_later b same h r past_h most there) ∙ sound.clean.journals h r (omega (arith, past_h), most) there

      module _ (anew : Bool) (text : List ℕ) (read : AreRead s.instance last s.journal a) where
        -- the CUT alone
        abbrev mid : Files → Files
        mid b f = if f == INSTANCE then b INSTANCE else a f

        mid_here : (b : Files) → mid b INSTANCE ≡ b INSTANCE
        mid_here b = refl

        mid_other : (b : Files) (f : ℕ) → f ≢ INSTANCE → mid b f ≡ a f
        mid_other b f ne = let no : (f == INSTANCE) ≡ false = grind (arith, nat_tests, ne) in rw no refl

        pub cut_image_to : (b : Files) → HasDrawnAs anew s.instance t text last 0 a b → IsSoundImage b S2 (take t seq)
        cut_image_to b has = images.same_image (mid b) b S2 (take t seq)
            (cut_image a (mid b) s seq t sound most form.some_region low (mid_other b) (subst (λ (l : List ℕ). IsInstance l (s.instance ++ next_cut s.instance t ∷ [])) (sym (mid_here b)) has.instance))
            (ap records (sym (mid_here b)))
            (λ h r most here. let there : r < m = (let e = same_few in omega (arith, e, here)) in by_generation h r (let e = newest in omega (arith, most, e)) there)
            (clean_drawn b S2 (length (take t seq)) refl has.others)
            (λ r here. let there : r < m = (let e = same_few in omega (arith, e, here)) in at_database b has.others r there ∙ sym (mid_other b (database_file r) (λ e. omega (arith, e))))
          where
            by_generation : (h r : ℕ) → h ≤ suc g → r < m → records (b (journal_file h r)) ≡ records (mid b (journal_file h r))
            by_generation h r most there = elim (cases_lt g h) [
              | inl above ↦
                  let e : suc g ≡ h = omega (arith, most, above) in
                  subst (λ (k : ℕ). records (b (journal_file k r)) ≡ records (mid b (journal_file k r))) e
                  (has.unbegun r there (omega arith) ∙ sym (read.next r there) ∙ ap records (sym (mid_other b (next_journal s.instance r) (λ d. omega (arith, d)))))
              | inr within ↦ ap records (at_journal b has.others h r within there ∙ sym (mid_other b (journal_file h r) (λ d. omega (arith, d))))
            ]

        -- one region more
        module _ (k : ℕ) (here : k < m) (b : Files) (has : HasDrawnAs anew s.instance t text last (suc k) a b) where
          abbrev earlier : Files
          earlier f = if f == next_journal s.instance k then a f else b f

          earlier_here : earlier (next_journal s.instance k) ≡ a (next_journal s.instance k)
          earlier_here = let yes : (next_journal s.instance k == next_journal s.instance k) ≡ true = grind (arith, nat_tests) in rw yes refl

          earlier_other : (f : ℕ) → f ≢ next_journal s.instance k → b f ≡ earlier f
          earlier_other f ne = let no : (f == next_journal s.instance k) ≡ false = grind (arith, nat_tests, ne) in rw no refl

          earlier_drawn : HasDrawnAs anew s.instance t text last k a earlier
          earlier_drawn = record {
            others = λ f ne away far. sym (earlier_other f (far k here)) ∙ has.others f ne away far;
            instance = subst (λ (l : List ℕ). IsInstance l (s.instance ++ next_cut s.instance t ∷ [])) (earlier_other INSTANCE (λ e. omega (arith, e))) has.instance;
            text = subst (λ (l : List ℕ). (l ≡ text) ⊎ ((text ≡ []) × (l ≡ a (next_broken s.instance)))) (earlier_other (next_broken s.instance) (λ e. let few = form.few_regions in omega (arith, e, here, few, low))) has.text;
            begun = λ r there less. subst (λ (l : List ℕ). Holds IsJournalBody l (next_pini_as anew s.instance last r ∷ [])) (earlier_other (next_journal s.instance r) (λ e. omega (arith, e, less))) (has.begun r there (omega (arith, less)));
            unbegun = λ r there most. elim (cases_lt k r) [
              | inl above ↦ ap records (sym (earlier_other (next_journal s.instance r) (λ e. omega (arith, e, above)))) ∙ has.unbegun r there above
              | inr within ↦
                  let e : k ≡ r = omega (arith, most, within) in
                  subst (λ (q : ℕ). records (earlier (next_journal s.instance q)) ≡ Some []) e (ap records earlier_here ∙ read.next k here)
            ];
          }

          more : IsSoundImage earlier (drawn_records_as anew s t last k) (take t seq) → IsSoundImage b (drawn_records_as anew s t last (suc k)) (take t seq)
          more was =
              let begun = has.begun k here (omega arith) in
              let mine : k < length (regions S2.instance) = (let e = same_few in omega (arith, e, here)) in
              let eight : length (regions S2.instance) ≤ MOST_REGIONS = (let e = same_few in let few = form.few_regions in omega (arith, e, few)) in
              let newest_is : generation S2.instance ≡ suc g = (let e = newest in omega (arith, e)) in
              let none : records (earlier (next_journal s.instance k)) ≡ Some [] = ap records earlier_here ∙ read.next k here in
              let held = appending.appended earlier b (drawn_records_as anew s t last k) k g (last k) (s.journal k) [] (next_pini_as anew s.instance last k ∷ []) [] begun.0 was.held newest_is mine eight
              (record { older_is = older_still earlier earlier_drawn.others read k here; newer_is = ([], none, tt); begins = tt })
              (ap (λ (l : List Placed). s.journal k ++ l) (starts_none anew s.instance last k k (omega arith))) earlier_other none begun.1 begun.2 (refl, refl, refl, tt) in
              subst (λ (u : Records). IsSoundImage b u (take t seq)) (one_more anew s t last k here)
              (steps.journal_record earlier b (drawn_records_as anew s t last k) (take t seq) k (start anew s t last k) was mine (λ n. refl) tt tt held
              (λ n. clean_drawn b (with_journal (drawn_records_as anew s t last k) k (start anew s t last k ∷ [])) n refl has.others)
              (λ q there. earlier_other (database_file q) (λ e. let same = same_few in let few = form.few_regions in omega (arith, e, there, same, few))))

        drawn_up_to : (k : ℕ) (b : Files) → k ≤ m → HasDrawnAs anew s.instance t text last k a b → IsSoundImage b (drawn_records_as anew s t last k) (take t seq)
        drawn_up_to zero b most has = subst (λ (u : Records). IsSoundImage b u (take t seq)) (none_drawn anew s t last) (cut_image_to b has)
        drawn_up_to (suc k) b most has =
            let here : k < m = omega (arith, most) in
            more k here b has (drawn_up_to k (earlier k here b has) (omega (arith, most)) (earlier_drawn k here b has))

        pub drawn_image_to : (k : ℕ) (b : Files) → HasDrawnAs anew s.instance t text last k a b → IsSoundImage b (drawn_records_as anew s t last k) (take t seq)
        drawn_image_to k b has = elim (cases_lt m k) [
          | inl over ↦ subst (λ (u : Records). IsSoundImage b u (take t seq)) (all_drawn anew s t last k over)
              (drawn_up_to m b (omega arith) (record {
                others = has.others;
                instance = has.instance;
                text = has.text;
                begun = λ r there low. has.begun r there (omega (arith, there, over));
                unbegun = λ r there far. absurd (omega (arith, there, far));
              }))
          | inr most ↦ drawn_up_to k b most has
        ]

    pub drawn_image : (anew : Bool) (text : List ℕ) → AreRead s.instance last s.journal a → (k : ℕ) (b : Files) → HasDrawnAs anew s.instance (length seq) text last k a b → IsSoundImage b (drawn_records_as anew s (length seq) last k) seq
    drawn_image anew text read k b has = subst (IsSoundImage b (drawn_records_as anew s (length seq) last k)) (take-length seq) (drawn_image_to (length seq) (omega arith) anew text read k b has)

    pub cut_off_image : (text : List ℕ) → AreRead s.instance last s.journal a → (b : Files) → HasCut s.instance (length seq) text a b → IsSoundImage b (with_record s (next_cut s.instance (length seq))) seq
    cut_off_image text read b cut = subst (IsSoundImage b (with_record s (next_cut s.instance (length seq)))) (take-length seq) (cut_image_to (length seq) (omega arith) false text read b (cut last))
