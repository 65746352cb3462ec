-- A site's regions stay on their blocks while its journals and its instance file gain records.
use Rattle.std.proofs.Common.{◌≡◌, ◌⊎◌, inl, inr, ℕ, ◌<◌, ◌≤◌, min, Bool, true, false, List, [], ◌∷◌, ◌++◌, length, map, Option, Some, None, refl, sym, ◌∙◌, ap, subst, arith, append-nil, append_assoc}
use Rattle.std.specs.Prelude.{IsSome, IfSome}
use Rattle.std.specs.List.{AllByRecursion}
use Rattle.disk_defs.specs.Disk.{Files, View}
use Rattle.journal_defs.specs.Numbers.{database_file}
use Rattle.journal_defs.specs.Journal.{Part}
use Rattle.journal_defs.specs.Instance.{InstanceRecord, regions}
use Rattle.journal_defs.specs.Directory.{patterns}
use Rattle.journal_defs.specs.Sequence.{Placed, Records}
use Rattle.journal_defs.specs.Stands.{in_generation}
use Rattle.region_journals.specs.Journals.{listed}
use Rattle.tp_commit.specs.Parts.{recorded}
use Rattle.journal_defs.specs.Epochs.{Chosen, chosen, epoch_in, image_in, first_without, NeedsForward}
use Rattle.journal_defs.specs.Undo.{logged}
use Rattle.journal_laws.proofs.Targets as targets
use Rattle.journal_laws.proofs.EveryTarget.{goes_on}
use Rattle.before_image.proofs.Marks.{knows_other}
use Rattle.region_store.specs.Region.{Standing, HoldsRegion, IsHeld}
use Rattle.region_store.specs.Joined.{Joined, AreChanged, region_at}
use Rattle.region_store.proofs.Making.{region_changed}
use Rattle.disk_defs.proofs.Told.{weaker_told, both_weak, told_at}
use Rattle.global_defs.specs.Entry.{Sequence}
use Rattle.entry_index.specs.declared.placed.PlacedSign.{PlacedSign}
use Rattle.entry_index.specs.declared.index.EntryIndex.{EntryIndex}
use Rattle.entry_index.specs.Found.{AreFound, entry_count}
use Rattle.entry_index.proofs.AmongLaws.{counted}
use Rattle.entry_index.proofs.Thin.{found_for}
use Rattle.site_defs.specs.OutsideBlocks.{gone_back}
use Rattle.site_store.specs.declared.preparing.FoundFiles.{FoundFiles}
use Rattle.site_store.specs.Standing.{HasFound, IfFound, found_signs}
use Rattle.site_store.specs.Site.{IsOnBlocks, AreHeld, AreOnBlocks, AreOnFiles, StandOn}

abbrev OnEpoch : List Placed → Chosen → List ℕ → Standing → Type 0
OnEpoch journal e bytes x = IsSome (first_without journal e) ⊎ HoldsRegion e bytes x

-- other files, with the same database files
pub held_same : (d f : Files) (x : Standing) → f x.file ≡ d x.file → IsHeld x d → IsHeld x f
held_same d f x same held = (held.0, subst (λ (bytes : List ℕ). HoldsRegion held.0 bytes x) (sym same) held.1)

one_same : (d f : Files) (s : Records) (n r : ℕ) (x : Standing) → f (database_file r) ≡ d (database_file r) → IsOnBlocks d s n r x → IsOnBlocks f s n r x
one_same d f s n r x same on = record {
  file = on.file;
  held = held_same d f x (ap f on.file ∙ same ∙ sym (ap d on.file)) on.held;
  holds = subst (λ (bytes : List ℕ). OnEpoch (s.journal r) (chosen s.instance n (s.journal r)) bytes x) (sym same) on.holds;
}

pub on_same : (d f : Files) (s : Records) (n : ℕ) (j : Joined) → ((r : ℕ) → r < length (regions s.instance) → f (database_file r) ≡ d (database_file r)) → AreOnBlocks d s n j → AreOnBlocks f s n j
on_same d f s n j same on = record { patterns = on.patterns; count = on.count; each = λ r here. one_same d f s n r (region_at j r) (same r here) (on.each r here) }

-- regions that are made anew, or stand on blocks that they had
pub anew_or_not : (anew : Bool) (f : Files) (s : Records) (n : ℕ) (j : Joined) → StandOn anew f s n j → ((anew ≡ true) × AreOnFiles f s j) ⊎ AreOnBlocks f s n j
anew_or_not true f s n j on = inl (refl, on)
anew_or_not false f s n j on = inr on

files_same : (d f : Files) (s : Records) (j : Joined) → ((r : ℕ) → r < length (regions s.instance) → f (database_file r) ≡ d (database_file r)) → AreOnFiles d s j → AreOnFiles f s j
files_same d f s j same on = record {
  patterns = on.patterns;
  count = on.count;
  each = λ r here.
      let was = on.each r here in
      (was.0, held_same d f (region_at j r) (ap f was.0 ∙ same r here ∙ sym (ap d was.0)) was.1);
}

pub stand_same : (anew : Bool) (d f : Files) (s : Records) (n : ℕ) (j : Joined) → ((r : ℕ) → r < length (regions s.instance) → f (database_file r) ≡ d (database_file r)) → StandOn anew d s n j → StandOn anew f s n j
stand_same true d f s n j same on = files_same d f s j same on
stand_same false d f s n j same on = on_same d f s n j same on

-- changes of nodes
pub on_changed : (f : Files) (s : Records) (n : ℕ) (old new : Joined) → AreChanged old new → AreOnBlocks f s n old → AreOnBlocks f s n new
on_changed f s n old new are on = record {
  patterns = are.patterns ∙ on.patterns;
  count = are.count ∙ on.count;
  each = λ r here.
      let was = on.each r here in
      let count = on.count in
      let is = region_changed old new are r (omega (arith, here, count)) in
      record {
        file = is.file ∙ was.file;
        held = (was.held.0, is.holds was.held.0 (f (region_at new r).file) (subst (λ (k : ℕ). HoldsRegion was.held.0 (f k) (region_at old r)) (sym is.file) was.held.1));
        holds = elim was.holds [ inl needs ↦ inl needs | inr holds ↦ inr (is.holds (chosen s.instance n (s.journal r)) (f (database_file r)) holds) ];
      };
}

-- records that are neither images nor epochs that count
abbrev pub IsPlain : List InstanceRecord → ℕ → Placed → Type 0
IsPlain instance n p = ((b : ℕ) → image_in p.what b ≡ None) × (epoch_in instance n p.generation p.what [] ≡ None)

held_other : (e : Chosen) (p : Placed) (bytes : List ℕ) (x : Standing) → ((b : ℕ) → image_in p.what b ≡ None) → HoldsRegion e bytes x → HoldsRegion (logged e p) bytes x
held_other e p bytes x none h = record { clean = h.clean; blocks = h.blocks; knows = knows_other x.imaged e p h.knows none; whole = h.whole }

plain_one : (instance : List InstanceRecord) (n : ℕ) (journal : List Placed) (p : Placed) (bytes : List ℕ) (x : Standing) → IsPlain instance n p → OnEpoch journal (chosen instance n journal) bytes x
    → OnEpoch (journal ++ p ∷ []) (chosen instance n (journal ++ p ∷ [])) bytes x
plain_one instance n journal p bytes x plain (inl needs) = inl (goes_on instance n journal p plain.1 needs)
plain_one instance n journal p bytes x plain (inr holds) =
    inr (subst (λ (e : Chosen). HoldsRegion e bytes x) (sym (targets.other_record instance n journal p plain.1)) (held_other (chosen instance n journal) p bytes x plain.0 holds))

pub plain_all : (instance : List InstanceRecord) (n : ℕ) (journal ps : List Placed) (bytes : List ℕ) (x : Standing) → AllByRecursion (IsPlain instance n) ps → OnEpoch journal (chosen instance n journal) bytes x
    → OnEpoch (journal ++ ps) (chosen instance n (journal ++ ps)) bytes x
plain_all instance n journal [] bytes x plain on = subst (λ (l : List Placed). OnEpoch l (chosen instance n l) bytes x) (sym (append-nil journal)) on
plain_all instance n journal (p ∷ ps) bytes x plain on =
    subst (λ (l : List Placed). OnEpoch l (chosen instance n l) bytes x) (append_assoc journal (p ∷ []) ps)
    (plain_all instance n (journal ++ p ∷ []) ps bytes x plain.1 (plain_one instance n journal p bytes x plain.0 on))

-- another instance file or another target, by which the same epochs are chosen
pub on_chosen : (f : Files) (s u : Records) (n m : ℕ) (j : Joined) → length (regions u.instance) ≡ length (regions s.instance) → patterns u.instance ≡ patterns s.instance
    → ((r : ℕ) → r < length (regions s.instance) → (u.journal r ≡ s.journal r) × (chosen u.instance m (s.journal r) ≡ chosen s.instance n (s.journal r))) → AreOnBlocks f s n j → AreOnBlocks f u m j
on_chosen f s u n m j many same chose on = record {
  patterns = on.patterns ∙ sym same;
  count = on.count ∙ sym many;
  each = λ r low.
      let here : r < length (regions s.instance) = omega (arith, low, many) in
      let was = on.each r here in
      record {
        file = was.file;
        held = was.held;
        holds = subst (λ (l : List Placed). OnEpoch l (chosen u.instance m l) (f (database_file r)) (region_at j r)) (sym (chose r here).0)
            (subst (λ (e : Chosen). OnEpoch (s.journal r) e (f (database_file r)) (region_at j r)) (sym (chose r here).1) was.holds);
      };
}

-- records more in each region
pub on_more : (f : Files) (s u : Records) (n : ℕ) (j : Joined) (more : ℕ → List Placed) → u.instance ≡ s.instance → ((r : ℕ) → r < length (regions s.instance) → u.journal r ≡ s.journal r ++ more r)
    → ((r : ℕ) → r < length (regions s.instance) → AllByRecursion (IsPlain s.instance n) (more r)) → AreOnBlocks f s n j → AreOnBlocks f u n j
on_more f s u n j more same is plain on = record {
  patterns = on.patterns ∙ ap patterns (sym same);
  count = on.count ∙ ap (λ (l : List InstanceRecord). length (regions l)) (sym same);
  each = λ r low.
      let many : length (regions u.instance) ≡ length (regions s.instance) = ap (λ (l : List InstanceRecord). length (regions l)) same in
      let here : r < length (regions s.instance) = omega (arith, low, many) in
      let was = on.each r here in
      record {
        file = was.file;
        held = was.held;
        holds = subst (λ (l : List Placed). OnEpoch l (chosen u.instance n l) (f (database_file r)) (region_at j r)) (sym (is r here))
            (subst (λ (i : List InstanceRecord). OnEpoch (s.journal r ++ more r) (chosen i n (s.journal r ++ more r)) (f (database_file r)) (region_at j r)) (sym same)
            (plain_all s.instance n (s.journal r) (more r) (f (database_file r)) (region_at j r) (plain r here) was.holds));
      };
}

-- a part of an entry
pub part_plain : (instance : List InstanceRecord) (n g : ℕ) (o : Option Part) → AllByRecursion (IsPlain instance n) (map (in_generation g) (listed (recorded o)))
part_plain instance n g None = tt
part_plain instance n g (Some x) = (((λ b. refl), refl), tt)

-- regions as they were opened, by what was found
abbrev pub AreGoneBack : List InstanceRecord → List (List PlacedSign) → EntryIndex → ℕ → Joined → Files → Type 0
AreGoneBack rs signs entries n j files = (u : Records) (seq : Sequence) → AreFound files rs n signs entries u seq
    → (r : ℕ) → r < length j.regions → NeedsForward rs n (u.journal r) ⊎ HoldsRegion (gone_back u n r) (files (database_file r)) (region_at j r)

abbrev pub AllHeld : Joined → Files → Type 0
AllHeld j files = (r : ℕ) → r < length j.regions → IsHeld (region_at j r) files

-- what was found serves each target from the lowest one, or all entries, on
pub serves : (files : Files) (f : FoundFiles) (t : ℕ) → HasFound f → min f.read.lowest (entry_count f.entries) ≤ t → (u : Records) (seq : Sequence) → AreFound files f.read.log.records f.read.lowest (found_signs f) f.entries u seq
    → AreFound files f.read.log.records t (found_signs f) f.entries u seq
serves files f t has least u seq found =
    let wide = has.each_place in
    let regions_some = has.form.some_region in
    let count : entry_count f.entries ≡ length seq = counted f.entries (length seq) (omega (arith, wide, regions_some)) found.indexed.rows in
    found_for files f.read.log.records f.read.lowest t (found_signs f) f.entries u seq (λ m low inside. omega (arith, least, low, inside, count)) found

module _ (o : Option Files) (f : FoundFiles) (n : ℕ) (has : HasFound f) (least : min f.read.lowest (entry_count f.entries) ≤ n) (j : Joined) (same : j.patterns ≡ patterns f.read.log.records) (count : length j.regions ≡ length (regions f.read.log.records))
    (file : (r : ℕ) → r < length j.regions → (region_at j r).file ≡ database_file r) where
  pub on_blocks : IfSome o (AreGoneBack f.read.log.records (found_signs f) f.entries n j) → IfSome o (AllHeld j) → IfSome o (IfFound f (λ u seq files. AreOnBlocks files u n j))
  on_blocks holds held = both_weak o (AreGoneBack f.read.log.records (found_signs f) f.entries n j) (AllHeld j) (IfFound f (λ u seq files. AreOnBlocks files u n j)) holds held (λ files h all u seq found.
      let own : f.read.log.records ≡ u.instance = sym found.instance_is in
      let many : length j.regions ≡ length (regions u.instance) = count ∙ ap (λ (l : List InstanceRecord). length (regions l)) own in
      record {
        patterns = same ∙ ap patterns own;
        count = many;
        each = λ r here.
            let low : r < length j.regions = omega (arith, here, many) in
            record {
              file = file r low;
              held = all r low;
              holds = subst (λ (l : List InstanceRecord). NeedsForward l n (u.journal r) ⊎ HoldsRegion (gone_back u n r) (files (database_file r)) (region_at j r)) own (h u seq (serves files f n has least u seq found) r low);
            };
      })

module _ (o : Option Files) (f : FoundFiles) (n : ℕ) (j : Joined) (same : j.patterns ≡ patterns f.read.log.records) (count : length j.regions ≡ length (regions f.read.log.records))
    (file : (r : ℕ) → r < length j.regions → (region_at j r).file ≡ database_file r) where
  pub on_files : IfSome o (AllHeld j) → IfSome o (IfFound f (λ u seq files. AreOnFiles files u j))
  on_files held = weaker_told o (AllHeld j) (IfFound f (λ u seq files. AreOnFiles files u j)) held (λ files all u seq found.
      let own : f.read.log.records ≡ u.instance = sym found.instance_is in
      let many : length j.regions ≡ length (regions u.instance) = count ∙ ap (λ (l : List InstanceRecord). length (regions l)) own in
      record {
        patterns = same ∙ ap patterns own;
        count = many;
        each = λ r here.
            let low : r < length j.regions = omega (arith, here, many) in
            (file r low, all r low);
      })

-- and so they are open for calls
pub are_held : (v w : View) (n : ℕ) (j : Joined) → w.content ≡ v.content → length j.regions ≡ n → ((r : ℕ) → r < length j.regions → (region_at j r).file ≡ database_file r) → IfSome v.content (AllHeld j) → AreHeld w n j
are_held v w n j same count file held = record {
  count = count;
  files = λ r here. file r (omega (arith, here, count));
  held = λ r here. told_at w.content v.content (IsHeld (region_at j r)) (sym same) (weaker_told v.content (AllHeld j) (IsHeld (region_at j r)) held (λ files all. all r (omega (arith, here, count))));
}
