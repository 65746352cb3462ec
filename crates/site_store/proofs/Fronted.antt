-- What images and an EPOCH at the ends of a site's newest journals make of its contents.
use Rattle.std.proofs.Common.{◌≡◌, inl, inr, ℕ, suc, ◌≤◌, Bool, true, false, List, [], ◌∷◌, ◌++◌, length, map, refl, sym, ◌∙◌, ap, subst, arith, append-nil}
use Rattle.std.specs.Prelude.{◌&&◌, if◌then◌else◌, nat_lt}
use Rattle.std.specs.List.{AllByRecursion}
use Rattle.std.proofs.lemmas.Bool.{cases_lt}
use Rattle.std.proofs.lemmas.Bool.Decides.{nat_tests}
use Rattle.std.proofs.lemmas.List.Elements.{filter_map-append}
use Rattle.std.proofs.Math.Path.{fun_ext}
use Rattle.global_defs.specs.declared.limits.TheConstants.{MOST_GENERATIONS, MOST_REGIONS}
use Rattle.disk_defs.specs.Disk.{Files}
use Rattle.disk_defs.specs.Frames.{SameOutside}
use Rattle.global_defs.specs.Entry.{Sequence}
use Rattle.journal_defs.specs.Numbers.{lost_file, broken_file}
use Rattle.journal_defs.specs.Journal.{JournalRecord, Epoch, Mark, Before, Start, IsNoPini}
use Rattle.journal_defs.specs.Instance.{InstanceRecord, generation, regions}
use Rattle.journal_defs.specs.Sequence.{Records}
use Rattle.journal_defs.specs.Stands.{AreRecords, in_generation}
use Rattle.journal_defs.specs.Growth.{NonePast, with_more}
use Rattle.journal_defs.specs.Fit.{IsSoundImage}
use Rattle.block_laws.specs.Several.{tcoms_among}
use Rattle.block_laws.proofs.Together as together
use Rattle.region_epochs.specs.Files.{IsEpochFile}
use Rattle.region_epochs.specs.Kept.{IsEpochFront, Images, WithEpoch, HasMore, image_records}
use Rattle.site_defs.specs.Contents.{Taken, Contents, Standing, NO_LEFTOVER, bare}
use Rattle.site_defs.specs.Epochs.{taken_in, with_epochs, MayMark, MayMarkLeft}
use Rattle.site_defs.specs.Stands.{IsSite, HasLeft}
use Rattle.site_defs.specs.Behind.{IsSiteWith}
use Rattle.site_store.proofs.Images.{AreOf, are_of, site_of, texts_same, losts_same, left_nothing}
use Rattle.site_store.proofs.Starts.{starts_of, epochs_of}
use Rattle.region_epochs.proofs.Fronts.{no_pini as no_pini_there}

-- of such records

images_start : (g : ℕ) (is : List Before) → starts_of (map (in_generation g) (image_records is)) ≡ []
images_start g [] = refl
images_start g (i ∷ is) = images_start g is

images_epoch : (g : ℕ) (is : List Before) → epochs_of (map (in_generation g) (image_records is)) ≡ []
images_epoch g [] = refl
images_epoch g (i ∷ is) = images_epoch g is

images_enter : (g : ℕ) (is : List Before) → tcoms_among (map (in_generation g) (image_records is)) ≡ []
images_enter g [] = refl
images_enter g (i ∷ is) = images_enter g is

images_then : (g : ℕ) (is : List Before) (m : Mark) → starts_of (map (in_generation g) (image_records is ++ Epoch m ∷ [])) ≡ []
images_then g [] m = refl
images_then g (i ∷ is) m = images_then g is m

epoch_behind : (g : ℕ) (is : List Before) (m : Mark) → epochs_of (map (in_generation g) (image_records is ++ Epoch m ∷ [])) ≡ record { generation = g; number = m.number } ∷ []
epoch_behind g [] m = refl
epoch_behind g (i ∷ is) m = epoch_behind g is m

none_behind : (g : ℕ) (is : List Before) (m : Mark) → tcoms_among (map (in_generation g) (image_records is ++ Epoch m ∷ [])) ≡ []
none_behind g [] m = refl
none_behind g (i ∷ is) m = none_behind g is m

no_pini_then : (is : List Before) (m : Mark) → AllByRecursion IsNoPini (image_records is ++ Epoch m ∷ [])
no_pini_then [] m = (tt, tt)
no_pini_then (i ∷ is) m = (tt, no_pini_then is m)

-- an epoch, where there is one
abbrev pub one_if : Bool → ℕ → ℕ → List Taken
one_if b g n = if b then record { generation = g; number = n } ∷ [] else []

-- whether there is an EPOCH among them
abbrev pub has_epoch : (n : ℕ) (l : List JournalRecord) → IsEpochFront n l → Bool
has_epoch n l (Images is e) = false
has_epoch n l (WithEpoch is m number e) = true

front_starts : (n g : ℕ) (l : List JournalRecord) → IsEpochFront n l → starts_of (map (in_generation g) l) ≡ []
front_starts n g l (Images is e) = ap (λ (x : List JournalRecord). starts_of (map (in_generation g) x)) e ∙ images_start g is
front_starts n g l (WithEpoch is m number e) = ap (λ (x : List JournalRecord). starts_of (map (in_generation g) x)) e ∙ images_then g is m

front_epochs : (n g : ℕ) (l : List JournalRecord) (f : IsEpochFront n l) → epochs_of (map (in_generation g) l) ≡ one_if (has_epoch n l f) g n
front_epochs n g l (Images is e) = ap (λ (x : List JournalRecord). epochs_of (map (in_generation g) x)) e ∙ images_epoch g is
front_epochs n g l (WithEpoch is m number e) =
    ap (λ (x : List JournalRecord). epochs_of (map (in_generation g) x)) e ∙ epoch_behind g is m ∙ ap (λ (k : ℕ). record { generation = g; number = k } ∷ []) number

front_enters : (n g : ℕ) (l : List JournalRecord) → IsEpochFront n l → tcoms_among (map (in_generation g) l) ≡ []
front_enters n g l (Images is e) = ap (λ (x : List JournalRecord). tcoms_among (map (in_generation g) x)) e ∙ images_enter g is
front_enters n g l (WithEpoch is m number e) = ap (λ (x : List JournalRecord). tcoms_among (map (in_generation g) x)) e ∙ none_behind g is m

pub front_no_pini : (n : ℕ) (l : List JournalRecord) → IsEpochFront n l → AllByRecursion IsNoPini l
front_no_pini n l (Images is e) = subst (AllByRecursion IsNoPini) (sym e) (no_pini_there is)
front_no_pini n l (WithEpoch is m number e) = subst (AllByRecursion IsNoPini) (sym e) (no_pini_then is m)

-- the contents of an image of the site with such records more
module _ (d f : Files) (c : Contents) (s t : Records) (g m : ℕ) (is : IsSite d c) (held : AreRecords d s) (own : s.instance ≡ c.instance) (newest : generation c.instance ≡ suc g) (not_last : suc g ≤ MOST_GENERATIONS)
    (more : HasMore (length c.sequence) (suc g) s t) (few : m ≤ MOST_REGIONS) (same : SameOutside (IsEpochFile (suc g) m) d f) (sound : IsSoundImage f t c.sequence) where
  abbrev pub picked : ℕ → Bool
  picked r = has_epoch (length c.sequence) (more.more r) (more.each r)

  of : AreOf d c s
  of = are_of d c s is held

  instance_is : t.instance ≡ c.instance
  instance_is = more.instance ∙ own

  -- in the regions that there are
  inside : (r : ℕ) → taken_in picked c r ≡ epochs_of (map (in_generation (suc g)) (more.more r))
  inside r = elim (cases_lt r (length (regions c.instance))) [
    | inl here ↦
        let there : nat_lt r (length (regions c.instance)) ≡ true = grind (arith, nat_tests, here) in
        at_region (picked r) (nat_lt r (length (regions c.instance))) there
        ∙ ap (λ (h : ℕ). one_if (picked r) h (length c.sequence)) newest
        ∙ sym (front_epochs (length c.sequence) (suc g) (more.more r) (more.each r))
    | inr past ↦
        let not_there : nat_lt r (length (regions c.instance)) ≡ false = grind (arith, nat_tests, past) in
        let count : length (regions s.instance) ≡ length (regions c.instance) = ap (λ (l : List InstanceRecord). length (regions l)) own in
        no_region (picked r) (nat_lt r (length (regions c.instance))) not_there
        ∙ sym (ap (λ (l : List JournalRecord). epochs_of (map (in_generation (suc g)) l)) (more.no_others r (omega (arith, past, count))))
  ]
    where
      at_region : (a b : Bool) → b ≡ true → one_if (a && b) (generation c.instance) (length c.sequence) ≡ one_if a (generation c.instance) (length c.sequence)
      at_region true b e = rw e refl
      at_region false b e = refl

      no_region : (a b : Bool) → b ≡ false → one_if (a && b) (generation c.instance) (length c.sequence) ≡ []
      no_region true b e = rw e refl
      no_region false b e = refl

  of_marked : AreOf f (with_epochs picked c) t
  of_marked = record {
    made = of.made;
    mapped = of.mapped;
    instance = instance_is;
    starts = λ r. of.starts r ∙ sym (ap starts_of (more.journal r) ∙ filter_map-append _ (s.journal r) (map (in_generation (suc g)) (more.more r))
        ∙ ap (λ (l : List Start). starts_of (s.journal r) ++ l) (front_starts (length c.sequence) (suc g) (more.more r) (more.each r)) ∙ append-nil (starts_of (s.journal r)));
    epochs = λ r. ap (λ (l : List Taken). l ++ taken_in picked c r) (of.epochs r) ∙ ap (λ (l : List Taken). epochs_of (s.journal r) ++ l) (inside r)
        ∙ sym (ap epochs_of (more.journal r) ∙ filter_map-append _ (s.journal r) (map (in_generation (suc g)) (more.more r)));
    texts = of.texts ∙ sym (texts_same d f (generation c.instance) (λ h low. same (broken_file h) (λ i. elim i [
      | inl journal ↦ (let at = journal.is in let here = journal.inside in omega (arith, at, here, newest, low, few, not_last))
      | inr database ↦ (let at = database.is in let here = database.inside in omega (arith, at, here, few))
    ])));
    losts = of.losts ∙ sym (losts_same d f (generation c.instance) (λ h low. same (lost_file h) (λ i. elim i [
      | inl journal ↦ (let at = journal.is in let here = journal.inside in omega (arith, at, here, newest, low, few, not_last))
      | inr database ↦ (let at = database.is in let here = database.inside in omega (arith, at, here, few))
    ])));
  }

  pub site_marked : IsSite f (with_epochs picked c)
  site_marked = site_of f (with_epochs picked c) t of_marked sound

  no_more_parts : NonePast (length c.sequence) s → NonePast (length c.sequence) t
  no_more_parts none =
      let all : t ≡ with_more s (λ r. map (in_generation (suc g)) (more.more r)) = let a = more.instance in let b = fun_ext more.journal in λ i. record { instance = a i; journal = b i } in
      subst (λ (u : Records). NonePast (length c.sequence) u) (sym all)
      (subst (λ (l : Sequence). NonePast (length l) (with_more s (λ r. map (in_generation (suc g)) (more.more r)))) (append-nil c.sequence)
      (together.none_past s c.sequence (suc g) [] [] (λ r. map (in_generation (suc g)) (more.more r)) none tt (λ r. front_enters (length c.sequence) (suc g) (more.more r) (more.each r))))

  -- and nothing lies behind
  pub left_marked : NonePast (length c.sequence) s → HasLeft f (with_epochs picked c) NO_LEFTOVER
  left_marked none = left_nothing f (with_epochs picked c) t sound.held sound.clean (no_more_parts none) instance_is

  pub may_mark : (o : Contents) × MayMark c o × IsSite f o
  may_mark = (with_epochs picked c, inr (picked, refl), site_marked)

  pub may_mark_left : NonePast (length c.sequence) s → (o : Standing) × MayMarkLeft (bare c) o × IsSiteWith f o
  may_mark_left none = (bare (with_epochs picked c), inr (picked, refl), record { site = site_marked; left = left_marked none })
