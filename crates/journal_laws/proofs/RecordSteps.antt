-- Images of fit disks that gain one record.
use Rattle.std.proofs.Common.{◌≡◌, ◌⊎◌, inl, inr, ℕ, ◌≤◌, ◌<◌, true, List, [], ◌∷◌, ◌++◌, length, take, Option, None, refl, sym, ◌∙◌, ap, subst, length-take-le}
use Rattle.std.proofs.lemmas.Bool.{cases_eq}
use Rattle.std.specs.List.{AllByRecursion}
use Rattle.std.specs.Option.{option_or}
use Rattle.disk_defs.specs.Disk.{Files}
use Rattle.global_defs.specs.Entry.{Sequence, Reign}
use Rattle.global_defs.specs.Region.{Region}
use Rattle.journal_defs.specs.Numbers.{database_file}
use Rattle.journal_defs.specs.Journal.{Epoch, Part, Mark}
use Rattle.journal_defs.specs.Instance.{InstanceRecord, Reigned, Cut, regions}
use Rattle.journal_defs.specs.Directory.{Pattern, pattern_in, patterns}
use Rattle.journal_defs.specs.Surviving.{survives, spares}
use Rattle.journal_defs.specs.Sequence.{Placed, Records, parts, part_in, part_of, IsSequence}
use Rattle.journal_defs.specs.Epochs.{chosen, image_state, block_of, NeedsForward}
use Rattle.journal_defs.specs.Undo.{MayAppend, fresh}
use Rattle.journal_defs.specs.Sound.{Restores, region_state, IsSoundRegion, BlocksGrow}
use Rattle.journal_defs.specs.Stands.{AreRecords}
use Rattle.journal_defs.specs.Clean.{AreClean}
use Rattle.journal_defs.specs.Growth.{with_record, with_journal, IsBefore, NonePast}
use Rattle.journal_defs.specs.Fit.{IsAtHome, IsSoundImage}
use Rattle.journal_laws.proofs.Runs as runs
use Rattle.journal_laws.proofs.EveryTarget as every
use Rattle.journal_laws.proofs.Later as later
use Rattle.journal_laws.proofs.FrontFacts as facts
use Rattle.journal_laws.proofs.Drawing.{same_regions}
use Rattle.journal_laws.proofs.Naming as naming
use Rattle.journal_laws.proofs.ImageSteps.{all_both}
use Rattle.journal_laws.proofs.Appending.{here as here_more, there as elsewhere}

all_map : {X : Type 0} (P Q : X → Type 0) (xs : List X) → ((x : X) → P x → Q x) → AllByRecursion P xs → AllByRecursion Q xs
all_map P Q [] each all = tt
all_map P Q (x ∷ xs) each all = (each x all.0, all_map P Q xs each all.1)

-- a CUT in the instance file
pub cut : (old new : Files) (s : Records) (seq : Sequence) (t g : ℕ) → IsSoundImage old s seq → 1 ≤ length (regions s.instance) → t ≤ length seq → IsBefore g s
    → AreRecords new (with_record s (Cut t g)) → ((m : ℕ) → AreClean new (with_record s (Cut t g)) m)
    → ((r : ℕ) → r < length (regions s.instance) → new (database_file r) ≡ old (database_file r)) → IsSoundImage new (with_record s (Cut t g)) (take t seq)
cut old new s seq t g image some low before held clean databases = record {
  held = held;
  sequence = runs.cut s seq t g image.sequence low before;
  clean = clean (length (take t seq));
  sound = λ u high r here.
      let there : r < length (regions s.instance) = subst (λ (l : List Region). r < length l) (same_regions s.instance t g some) here in
      region r there u high;
  grow = λ r here.
      let there : r < length (regions s.instance) = subst (λ (l : List Region). r < length l) (same_regions s.instance t g some) here in
      subst (λ (n : ℕ). BlocksGrow (s.instance ++ Cut t g ∷ []) n (s.journal r)) (sym size) (every.grow_cut s.instance (length seq) t g (s.journal r) (image.grow r there) low);
  at_home = λ r here.
      let there : r < length (regions s.instance) = subst (λ (l : List Region). r < length l) (same_regions s.instance t g some) here in
      all_map (λ p. IsAtHome s.instance r p.generation p.what) (λ p. IsAtHome (s.instance ++ Cut t g ∷ []) r p.generation p.what) (s.journal r)
      (λ p home. facts.at_home_cut s.instance t g r p.generation p.what home) (image.at_home r there);
  few_nodes = facts.few_nodes seq t image.few_nodes;
}
  where
    size : length (take t seq) ≡ t
    size = length-take-le t seq low

    region : (r : ℕ) → r < length (regions s.instance)
        → IsSoundRegion (region_state (patterns (s.instance ++ Cut t g ∷ [])) r) (s.instance ++ Cut t g ∷ []) (take t seq) (s.journal r) (block_of (new (database_file r)))
    region r here =
        subst (λ (ps : List Pattern). IsSoundRegion (region_state ps r) (s.instance ++ Cut t g ∷ []) (take t seq) (s.journal r) (block_of (new (database_file r)))) (sym (every.patterns_same s.instance (Cut t g) refl))
        (subst (λ (file : List ℕ). IsSoundRegion (region_state (patterns s.instance) r) (s.instance ++ Cut t g ∷ []) (take t seq) (s.journal r) (block_of file)) (sym (databases r here))
        (every.cut (region_state (patterns s.instance) r) s.instance seq (s.journal r) (block_of (old (database_file r))) t g (λ u high. image.sound u high r here) low))

-- a record in the instance file that leaves each number and each name
pub instance_record : (old new : Files) (s : Records) (seq : Sequence) (x : InstanceRecord) → IsSoundImage old s seq → 1 ≤ length (regions s.instance)
    → ((g m : ℕ) → spares g m x ≡ true) → pattern_in x ≡ None → IsSequence (with_record s x) seq
    → AreRecords new (with_record s x) → AreClean new (with_record s x) (length seq)
    → ((r : ℕ) → r < length (regions s.instance) → new (database_file r) ≡ old (database_file r)) → IsSoundImage new (with_record s x) seq
instance_record old new s seq x image some spare no_name is held clean databases = record {
  held = held;
  sequence = is;
  clean = clean;
  sound = λ u high r here.
      let there : r < length (regions s.instance) = subst (λ (l : List Region). r < length l) (naming.same_regions s.instance x some) here in
      region r there u high;
  grow = λ r here.
      let there : r < length (regions s.instance) = subst (λ (l : List Region). r < length l) (naming.same_regions s.instance x some) here in
      later.grow_instance s.instance x (length seq) (s.journal r) spare (image.grow r there);
  at_home = λ r here.
      let there : r < length (regions s.instance) = subst (λ (l : List Region). r < length l) (naming.same_regions s.instance x some) here in
      all_map (λ p. IsAtHome s.instance r p.generation p.what) (λ p. IsAtHome (s.instance ++ x ∷ []) r p.generation p.what) (s.journal r)
      (λ p home. facts.at_home_more s.instance x r p.generation p.what no_name home) (image.at_home r there);
  few_nodes = image.few_nodes;
}
  where
    region : (r : ℕ) → r < length (regions s.instance)
        → IsSoundRegion (region_state (patterns (s.instance ++ x ∷ [])) r) (s.instance ++ x ∷ []) seq (s.journal r) (block_of (new (database_file r)))
    region r here =
        subst (λ (ps : List Pattern). IsSoundRegion (region_state ps r) (s.instance ++ x ∷ []) seq (s.journal r) (block_of (new (database_file r)))) (sym (every.patterns_same s.instance x no_name))
        (subst (λ (file : List ℕ). IsSoundRegion (region_state (patterns s.instance) r) (s.instance ++ x ∷ []) seq (s.journal r) (block_of file)) (sym (databases r here))
        (later.sound_instance (region_state (patterns s.instance) r) s.instance x seq (s.journal r) (block_of (old (database_file r))) spare (λ u high. image.sound u high r here)))

pub reign : (old new : Files) (s : Records) (seq : Sequence) (x : Reign) → IsSoundImage old s seq → 1 ≤ length (regions s.instance) → NonePast (length seq) s → length seq < x.start
    → AreRecords new (with_record s (Reigned x)) → ((m : ℕ) → AreClean new (with_record s (Reigned x)) m)
    → ((r : ℕ) → r < length (regions s.instance) → new (database_file r) ≡ old (database_file r)) → IsSoundImage new (with_record s (Reigned x)) seq
reign old new s seq x image some none late held clean databases =
    instance_record old new s seq (Reigned x) image some (λ g m. refl) refl (runs.reign s seq x image.sequence none late) held (clean (length seq)) databases

-- a record that is no part leaves the sequence
same_parts : (s : Records) (r n q : ℕ) (p : Placed) → ((n : ℕ) → part_in s.instance n p.generation p.what ≡ None) → parts (with_journal s r (p ∷ [])) n q ≡ parts s n q
same_parts s r n q p none = elim (cases_eq q r) [
  | inl e ↦ subst (λ (k : ℕ). parts (with_journal s r (p ∷ [])) n k ≡ parts s n k) (sym e)
      (ap (part_of s.instance n) (here_more s r (p ∷ [])) ∙ runs.part_of-append s.instance n (s.journal r) (p ∷ []) ∙ ap (λ (o : Option Part). option_or o (part_of s.instance n (s.journal r))) (none n))
  | inr other ↦ ap (part_of s.instance n) (elsewhere s r q (p ∷ []) other)
]

same_sequence : (s : Records) (seq : Sequence) (r : ℕ) (p : Placed) → ((n : ℕ) → part_in s.instance n p.generation p.what ≡ None) → IsSequence s seq → IsSequence (with_journal s r (p ∷ [])) seq
same_sequence s seq r p none is = runs.sequence_by s (with_journal s r (p ∷ [])) seq (λ k. runs.same_entry s (with_journal s r (p ∷ [])) k (λ q. same_parts s r k q p none) refl) is

-- a region's journal with one record more, by what it makes of that region
pub one_more : (old new : Files) (s : Records) (seq : Sequence) (r : ℕ) (p : Placed) → IsSoundImage old s seq → ((n : ℕ) → part_in s.instance n p.generation p.what ≡ None)
    → IsSoundRegion (region_state (patterns s.instance) r) s.instance seq (s.journal r ++ p ∷ []) (block_of (old (database_file r))) → BlocksGrow s.instance (length seq) (s.journal r ++ p ∷ [])
    → IsAtHome s.instance r p.generation p.what → AreRecords new (with_journal s r (p ∷ [])) → ((m : ℕ) → AreClean new (with_journal s r (p ∷ [])) m)
    → ((q : ℕ) → q < length (regions s.instance) → new (database_file q) ≡ old (database_file q)) → IsSoundImage new (with_journal s r (p ∷ [])) seq
one_more old new s seq r p image none sound grow home held clean databases = record {
  held = held;
  sequence = same_sequence s seq r p none image.sequence;
  clean = clean (length seq);
  sound = λ t low q here.
      subst (λ (file : List ℕ). IsSoundRegion (region_state (patterns s.instance) q) s.instance seq ((with_journal s r (p ∷ [])).journal q) (block_of file)) (sym (databases q here)) (sound_in q here) t low;
  grow = λ q here. elim (cases_eq q r) [
    | inl e ↦ subst (λ (k : ℕ). BlocksGrow s.instance (length seq) ((with_journal s r (p ∷ [])).journal k)) (sym e) (subst (BlocksGrow s.instance (length seq)) (sym (here_more s r (p ∷ []))) grow)
    | inr other ↦ subst (BlocksGrow s.instance (length seq)) (sym (elsewhere s r q (p ∷ []) other)) (image.grow q here)
  ];
  at_home = λ q here. elim (cases_eq q r) [
    | inl e ↦ subst (λ (k : ℕ). AllByRecursion (λ x. IsAtHome s.instance k x.generation x.what) ((with_journal s r (p ∷ [])).journal k)) (sym e)
        (subst (AllByRecursion (λ x. IsAtHome s.instance r x.generation x.what)) (sym (here_more s r (p ∷ [])))
        (all_both (λ x. IsAtHome s.instance r x.generation x.what) (s.journal r) (p ∷ []) (image.at_home r (subst (λ (k : ℕ). k < length (regions s.instance)) e here)) (home, tt)))
    | inr other ↦ subst (AllByRecursion (λ x. IsAtHome s.instance q x.generation x.what)) (sym (elsewhere s r q (p ∷ []) other)) (image.at_home q here)
  ];
  few_nodes = image.few_nodes;
}
  where
    sound_in : (q : ℕ) → q < length (regions s.instance)
        → IsSoundRegion (region_state (patterns s.instance) q) s.instance seq ((with_journal s r (p ∷ [])).journal q) (block_of (old (database_file q)))
    sound_in q here = elim (cases_eq q r) [
      | inl e ↦ subst (λ (k : ℕ). IsSoundRegion (region_state (patterns s.instance) k) s.instance seq ((with_journal s r (p ∷ [])).journal k) (block_of (old (database_file k)))) (sym e)
          (subst (λ (js : List Placed). IsSoundRegion (region_state (patterns s.instance) r) s.instance seq js (block_of (old (database_file r)))) (sym (here_more s r (p ∷ []))) sound)
      | inr other ↦ subst (λ (js : List Placed). IsSoundRegion (region_state (patterns s.instance) q) s.instance seq js (block_of (old (database_file q)))) (sym (elsewhere s r q (p ∷ []) other))
          (λ t low. image.sound t low q here)
    ]

-- an image of a block, or the beginning of a generation
pub journal_record : (old new : Files) (s : Records) (seq : Sequence) (r : ℕ) (p : Placed) → IsSoundImage old s seq → r < length (regions s.instance)
    → ((n : ℕ) → part_in s.instance n p.generation p.what ≡ None) → IsAtHome s.instance r p.generation p.what
    → MayAppend (chosen s.instance (length seq) (s.journal r)) (block_of (old (database_file r))) p.what
    → AreRecords new (with_journal s r (p ∷ [])) → ((m : ℕ) → AreClean new (with_journal s r (p ∷ [])) m)
    → ((q : ℕ) → q < length (regions s.instance) → new (database_file q) ≡ old (database_file q)) → IsSoundImage new (with_journal s r (p ∷ [])) seq
journal_record old new s seq r p image here none home may held clean databases =
    one_more old new s seq r p image none
    (every.record_appended (region_state (patterns s.instance) r) s.instance seq (s.journal r) (block_of (old (database_file r))) p (λ t low. image.sound t low r here) (image.grow r here) may)
    (every.grow_record s.instance (length seq) (s.journal r) (block_of (old (database_file r))) p (image.grow r here) may) home held clean databases

-- an EPOCH, once all blocks stand on the file
pub epoch : (old new : Files) (s : Records) (seq : Sequence) (r g : ℕ) (m : Mark) → IsSoundImage old s seq → r < length (regions s.instance)
    → m.number ≡ length seq → survives s.instance g m.number ≡ true
    → Restores (image_state (fresh m) (block_of (old (database_file r)))) (region_state (patterns s.instance) r seq)
    → NeedsForward s.instance (length seq) (s.journal r) ⊎ ((chosen s.instance (length seq) (s.journal r)).blocks ≤ m.blocks)
    → AreRecords new (with_journal s r (record { generation = g; what = Epoch m } ∷ [])) → ((n : ℕ) → AreClean new (with_journal s r (record { generation = g; what = Epoch m } ∷ [])) n)
    → ((q : ℕ) → q < length (regions s.instance) → new (database_file q) ≡ old (database_file q)) → IsSoundImage new (with_journal s r (record { generation = g; what = Epoch m } ∷ [])) seq
epoch old new s seq r g m image here number lives decodes fewer held clean databases =
    one_more old new s seq r (record { generation = g; what = Epoch m }) image (λ n. refl)
    (every.epoch_appended (region_state (patterns s.instance) r) s.instance seq (s.journal r) (block_of (old (database_file r))) g m (λ t low. image.sound t low r here) number lives decodes)
    (every.grow_epoch s.instance (length seq) g (s.journal r) m (image.grow r here) number lives fewer) tt held clean databases
