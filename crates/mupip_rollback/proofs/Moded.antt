-- A site with a MODE more.
use Rattle.std.proofs.Common.{◌≡◌, inl, inr, ℕ, suc, ◌≤◌, ◌<◌, Bool, true, List, [], ◌∷◌, ◌++◌, length, map, max, Option, Some, None, refl, sym, ◌∙◌, ap, subst, arith, append-nil}
use Rattle.std.specs.Prelude.{◌&&◌, nat_lt, if◌then◌else◌}
use Rattle.std.specs.List.{AllByRecursion, filter_map, flat_map, enumerate_from}
use Rattle.std.proofs.Math.Path.{fun_ext}
use Rattle.std.proofs.lemmas.Bool.Decides.{nat_tests}
use Rattle.std.proofs.lemmas.List.Elements.{filter_map-append}
use Rattle.std.proofs.lemmas.List.Folds.{list_all-append}
use Rattle.global_defs.specs.Region.{Region}
use Rattle.disk_defs.specs.Disk.{Files}
use Rattle.disk_defs.specs.Frames.{Only, SameOutside}
use Rattle.disk_defs.specs.Gates.{records}
use Rattle.instance_file.specs.Instance.{StandsWith}
use Rattle.journal_defs.specs.Broken.{BrokenPart, part_past, parts_past, broken, broken_text}
use Rattle.journal_defs.specs.Clean.{AreClean}
use Rattle.journal_defs.specs.Directory.{Pattern, pattern_in, patterns}
use Rattle.journal_defs.specs.Epochs.{block_of, first_without}
use Rattle.journal_defs.specs.Fit.{IsSoundImage}
use Rattle.journal_defs.specs.Growth.{with_record}
use Rattle.journal_defs.specs.Instance.{InstanceRecord, Create, Reigned, Cut, Map, Mode, generation, regions, site_name}
use Rattle.journal_defs.specs.Journal.{JournalRecord, Pini, Epoch, Pblk, Tcom, Part}
use Rattle.journal_defs.specs.Numbers.{INSTANCE, journal_file, database_file, lost_file, broken_file}
use Rattle.journal_defs.specs.Sequence.{Placed, Records}
use Rattle.journal_defs.specs.Sound.{IsSound, region_state}
use Rattle.journal_defs.specs.Stands.{IsInstance, IsJournal, AreRecords}
use Rattle.journal_defs.specs.Surviving.{survives, spares}
use Rattle.journal_laws.proofs.Appending.{journal_same}
use Rattle.journal_laws.proofs.Later as later
use Rattle.journal_laws.proofs.Naming as naming
use Rattle.journal_laws.proofs.Readings.{records_one}
use Rattle.journal_laws.proofs.RecordSteps as steps
use Rattle.journal_laws.proofs.Runs as runs
use Rattle.block_laws.proofs.ModeSteps as modes
use Rattle.site_defs.specs.Behind.{IsStanding}
use Rattle.site_defs.specs.Contents.{Contents, Leftover, Standing}
use Rattle.site_defs.specs.Opening.{with_mode}
use Rattle.site_defs.specs.Stands.{IsSite, HasLeft, texts_of, losts_of, torn_of}
use Rattle.site_store.specs.Needing.{without_behind, NoneNeeds}
use Rattle.site_store.proofs.Images.{AreOf, are_of, site_of, texts_same, losts_same, torn_same}
use Rattle.mupip_rollback.specs.Setting.{with_mode_left, MayHaveMode, MayHaveModeLeft}
use Rattle.mupip_rollback.proofs.Prepared.{name_more}

-- the generation, the names and what is broken
module _ (region : ℕ) (before : Bool) where
  abbrev X : InstanceRecord
  X = Mode region before

  generation_same : (rs : List InstanceRecord) → generation (rs ++ X ∷ []) ≡ generation rs
  generation_same [] = refl
  generation_same (Cut n g ∷ rs) = ap (max g) (generation_same rs)
  generation_same (Create name named ∷ rs) = generation_same rs
  generation_same (Reigned r ∷ rs) = generation_same rs
  generation_same (Map r star name ∷ rs) = generation_same rs
  generation_same (Mode r way ∷ rs) = generation_same rs

  patterns_more : (rs : List InstanceRecord) → patterns (rs ++ X ∷ []) ≡ patterns rs
  patterns_more rs = filter_map-append pattern_in rs (X ∷ []) ∙ append-nil (patterns rs)

  survives_same : (rs : List InstanceRecord) (g n : ℕ) → survives (rs ++ X ∷ []) g n ≡ survives rs g n
  survives_same rs g n = list_all-append (spares g n) rs (X ∷ []) ∙ runs.and_true (survives rs g n) (spares g n X) refl

  past_same : (rs : List InstanceRecord) (n g : ℕ) (what : JournalRecord) → part_past (rs ++ X ∷ []) n g what ≡ part_past rs n g what
  past_same rs n g (Tcom p) = ap (λ (b : Bool). if nat_lt n p.number && b then Some p else None) (survives_same rs g p.number)
  past_same rs n g (Pini s) = refl
  past_same rs n g (Epoch m) = refl
  past_same rs n g (Pblk b) = refl

  parts_same : (rs : List InstanceRecord) (n : ℕ) (journal : List Placed) → parts_past (rs ++ X ∷ []) n journal ≡ parts_past rs n journal
  parts_same rs n journal = ap (λ (f : Placed → Option Part). filter_map f journal) (fun_ext (λ p. past_same rs n p.generation p.what))

  broken_same : (s : Records) (n : ℕ) → 1 ≤ length (regions s.instance) → broken (with_record s X) n ≡ broken s n
  broken_same s n some =
      ap (λ (rs : List Region). flat_map (λ (r : ℕ × Region). map (λ (p : Part). record { region = r.1.name; part = p }) (parts_past (s.instance ++ X ∷ []) n (s.journal r.0))) (enumerate_from 0 rs)) (naming.same_regions s.instance X some)
      ∙ ap (λ (f : ℕ × Region → List BrokenPart). flat_map f (enumerate_from 0 (regions s.instance)))
      (fun_ext (λ r. ap (map (λ (p : Part). record { region = r.1.name; part = p })) (parts_same s.instance n (s.journal r.0))))

some_record : (rs : List InstanceRecord) → 1 ≤ length (regions rs) → 0 < length rs
some_record [] some = absurd (omega (arith, some))
some_record (r ∷ rs) some = omega arith

-- the instance file alone differs
module _ (was now : Files) (same : SameOutside (Only INSTANCE) was now) (c : Contents) (site : IsSite was c) where
  abbrev S : Records
  S = site.records

  of : AreOf was c S
  of = are_of was c S site site.image.held

  old_journal : (h r : ℕ) → now (journal_file h r) ≡ was (journal_file h r)
  old_journal h r = same (journal_file h r) (λ e. omega (arith, e))

  old_texts : texts_of now (generation c.instance) ≡ texts_of was (generation c.instance)
  old_texts = texts_same was now (generation c.instance) (λ g low. same (broken_file g) (λ e. omega (arith, e)))

  old_losts : losts_of now (generation c.instance) ≡ losts_of was (generation c.instance)
  old_losts = losts_same was now (generation c.instance) (λ g low. same (lost_file g) (λ e. omega (arith, e)))

  old_torn : torn_of was (generation c.instance) ≡ torn_of now (generation c.instance)
  old_torn = torn_same was now (generation c.instance) (λ low. same (broken_file (suc (generation c.instance))) (λ e. omega (arith, e)))

  -- the same records
  module _ (is : IsInstance (now INSTANCE) c.instance) where
    held_still : (s : Records) → s.instance ≡ c.instance → AreRecords was s → AreRecords now s
    held_still s own held = record {
      instance = subst (λ (rs : List InstanceRecord). IsInstance (now INSTANCE) rs) (sym own) is;
      journals = λ r low. let theirs = held.journals r low in (theirs.0, journal_same was now r (generation s.instance) theirs.0 (s.journal r) (λ h most. old_journal h r) theirs.1);
      no_more = held.no_more;
    }

    clean_still : AreClean now S (length c.sequence)
    clean_still =
        let clean = site.image.clean in
        record {
          journals = λ g r undrawn here. ap records (old_journal g r) ∙ clean.journals g r undrawn here;
          lost = λ g undrawn. same (lost_file g) (λ e. omega (arith, e)) ∙ clean.lost g undrawn;
          first_broken = λ g undrawn first. subst (λ (bytes : List ℕ). length bytes ≤ length (broken_text (site_name S.instance) (length c.sequence) (broken S (length c.sequence)))) (sym (same (broken_file g) (λ e. omega (arith, e)))) (clean.first_broken g undrawn first);
          later_broken = λ g undrawn past. same (broken_file g) (λ e. omega (arith, e)) ∙ clean.later_broken g undrawn past;
        }

    sound_still : IsSoundImage now S c.sequence
    sound_still = record {
      held = held_still S site.instance site.image.held;
      sequence = site.image.sequence;
      clean = clean_still;
      sound = λ t low r here. subst (λ (file : List ℕ). IsSound (region_state (patterns S.instance) r) S.instance c.sequence (S.journal r) (block_of file) t) (sym (same (database_file r) (λ e. omega (arith, e)))) (site.image.sound t low r here);
      grow = site.image.grow;
      at_home = site.image.at_home;
      few_nodes = site.image.few_nodes;
    }

    pub site_still : IsSite now c
    site_still = site_of now c S (record { made = of.made; mapped = of.mapped; instance = of.instance; starts = of.starts; epochs = of.epochs; texts = of.texts ∙ sym old_texts; losts = of.losts ∙ sym old_losts }) sound_still

    pub left_still : (left : Leftover) → HasLeft was c left → HasLeft now c left
    left_still left has = record {
      records = has.records;
      held = held_still has.records (own_is has.records has.held) has.held;
      broken = has.broken;
      torn = has.torn ∙ old_torn;
    }
      where
        own_is : (s : Records) → AreRecords was s → s.instance ≡ c.instance
        own_is s held = (are_of was c s site held).instance

  -- and with the MODE
  module _ (region : ℕ) (before : Bool) (inside : region < length (regions c.instance)) (is : IsInstance (now INSTANCE) (c.instance ++ Mode region before ∷ [])) where
    abbrev M : InstanceRecord
    M = Mode region before

    some_of : (s : Records) → s.instance ≡ c.instance → 1 ≤ length (regions s.instance)
    some_of s own = let size = ap (λ (rs : List InstanceRecord). length (regions rs)) own in omega (arith, inside, size)

    some : 1 ≤ length (regions c.instance)
    some = omega (arith, inside)

    newest : (rs : List InstanceRecord) → generation (rs ++ M ∷ []) ≡ generation rs
    newest = generation_same region before

    regions_more : regions (c.instance ++ M ∷ []) ≡ regions c.instance
    regions_more = naming.same_regions c.instance M some

    held_more : (s : Records) → s.instance ≡ c.instance → AreRecords was s → AreRecords now (with_record s M)
    held_more s own held =
        let same_regions : regions (s.instance ++ M ∷ []) ≡ regions s.instance = naming.same_regions s.instance M (some_of s own) in
        record {
          instance = subst (λ (rs : List InstanceRecord). IsInstance (now INSTANCE) (rs ++ M ∷ [])) (sym own) is;
          journals = λ r low.
              let theirs = held.journals r (subst (λ (l : List Region). r < length l) same_regions low) in (
                theirs.0,
                subst (λ (k : ℕ). IsJournal now r k theirs.0 (s.journal r)) (sym (newest s.instance))
                    (journal_same was now r (generation s.instance) theirs.0 (s.journal r) (λ h most. old_journal h r) theirs.1),
              );
          no_more = λ r far. held.no_more r (subst (λ (l : List Region). length l ≤ r) same_regions far);
        }

    sound_more : IsSoundImage now (with_record S M) c.sequence
    sound_more =
        let here : 1 ≤ length (regions S.instance) = some_of S site.instance in
        steps.instance_record was now S c.sequence M site.image here (λ g n. refl) refl
        (later.sequence_same S c.sequence M (λ g n. refl) (modes.reigns_mode S.instance region before) site.image.sequence)
        (held_more S site.instance site.image.held)
        (modes.clean was now S M (length c.sequence) site.image.clean here tt same)
        (λ r low. same (database_file r) (λ e. omega (arith, e)))

    made_more : (rs : List InstanceRecord) → nat_lt 0 (length (rs ++ M ∷ [])) ≡ true
    made_more [] = refl
    made_more (r ∷ rs) = grind (arith, nat_tests)

    pub site_more : IsSite now (with_mode region before c)
    site_more = site_of now (with_mode region before c) (with_record S M)
        (record {
          made = made_more c.instance;
          mapped = subst (λ (l : List Region). AllByRecursion (λ (p : Pattern). p.region < length l) (patterns (c.instance ++ M ∷ []))) (sym regions_more)
              (subst (AllByRecursion (λ (p : Pattern). p.region < length (regions c.instance))) (sym (patterns_more region before c.instance)) of.mapped);
          instance = ap (λ (rs : List InstanceRecord). rs ++ M ∷ []) of.instance;
          starts = of.starts;
          epochs = of.epochs;
          texts = of.texts ∙ sym old_texts ∙ ap (texts_of now) (sym (newest c.instance));
          losts = of.losts ∙ sym old_losts ∙ ap (losts_of now) (sym (newest c.instance));
        })
        sound_more

    pub left_more : (left : Leftover) → HasLeft was c left → HasLeft now (with_mode region before c) left
    left_more left has =
        let own : has.records.instance ≡ c.instance = (are_of was c has.records site has.held).instance in
        record {
          records = with_record has.records M;
          held = held_more has.records own has.held;
          broken = has.broken
              ∙ ap (λ (name : List ℕ). broken_text name (length c.sequence) (broken has.records (length c.sequence))) (sym (name_more c.instance M (some_record c.instance some)))
              ∙ ap (broken_text (site_name (c.instance ++ M ∷ [])) (length c.sequence)) (sym (broken_same region before has.records (length c.sequence) (some_of has.records own)));
          torn = has.torn ∙ old_torn ∙ ap (torn_of now) (sym (newest c.instance));
        }

    -- and no region needs forward recovery where none did: no journal changes, and the MODE discards no epoch
    pub none_more : (n : ℕ) → NoneNeeds n was → NoneNeeds n now
    none_more n none u held r here =
        let one : with_record S M ≡ u = records_one now (with_record S M) u (held_more S site.instance site.image.held) held in
        let size : length (regions u.instance) ≡ length (regions S.instance) = ap (λ (x : Records). length (regions x.instance)) (sym one) ∙ ap (λ (l : List Region). length l) (naming.same_regions S.instance M (some_of S site.instance)) in
        subst (λ (x : Records). without_behind x n r ≡ None) one
        (ap (first_without (S.journal r)) (later.other_instance S.instance M n (S.journal r) (λ g m. refl)) ∙ none S site.image.held r (omega (arith, here, size)))

-- what stands in files of which the instance file alone changes
module _ (was now : Files) (same : SameOutside (Only INSTANCE) was now) (region : ℕ) (before : Bool) (s : Standing) (stands : IsStanding was s) where
  pub standing_still : IsInstance (now INSTANCE) s.contents.instance → IsStanding now s
  standing_still is = record { site = site_still was now same s.contents stands.site is; torn = stands.torn; left = left_still was now same s.contents stands.site is (record { broken = s.broken; torn = stands.torn }) stands.left }

  module _ (inside : region < length (regions s.contents.instance)) where
    pub standing_more : IsInstance (now INSTANCE) (s.contents.instance ++ Mode region before ∷ []) → IsStanding now (with_mode_left region before s)
    standing_more is = record {
      site = site_more was now same s.contents stands.site region before inside is;
      torn = stands.torn;
      left = left_more was now same s.contents stands.site region before inside is (record { broken = s.broken; torn = stands.torn }) stands.left;
    }

    pub standing_either : StandsWith s.contents.instance (Mode region before) (now INSTANCE) → (o : Standing) × MayHaveModeLeft region before s o × IsStanding now o
    standing_either (inl is) = (s, inl refl, standing_still is)
    standing_either (inr is) = (with_mode_left region before s, inr refl, standing_more is)

-- and without what lies behind it
pub contents_either : (region : ℕ) (before : Bool) (s o : Standing) → MayHaveModeLeft region before s o → MayHaveMode region before s.contents o.contents
contents_either region before s o (inl e) = inl (ap (λ (x : Standing). x.contents) e)
contents_either region before s o (inr e) = inr (ap (λ (x : Standing). x.contents) e)
