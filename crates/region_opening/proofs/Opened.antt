-- What an opened region is against the files, and what all of them are.
use Rattle.std.proofs.Common.{◌≡◌, ◌⊎◌, inl, inr, ℕ, zero, suc, ◌*◌, ◌-◌, ◌<◌, ◌≤◌, ◌==◌, Bool, true, false, List, [], ◌∷◌, ◌++◌, length, map, take, drop, fold, slice_get, Option, Some, None, IsTrue, refl, sym, ◌∙◌, ap, subst, arith}
use Rattle.std.specs.Prelude.{IfSome, slice_index, slice_index_or, unwrap_or, nat_lt, replicate, if◌then◌else◌}
use Rattle.std.specs.List.{AllByRecursion}
use Rattle.std.specs.FinMap as globals
use Rattle.std.proofs.lemmas.Bool.Decides.{nat_tests}
use Rattle.std.proofs.lemmas.Bool.{cases_lt}
use Rattle.std.proofs.lemmas.List.{length-replicate, take-take, get_or-append_right}
use Rattle.std.proofs.Math.ListN.{get_or-append}
use Rattle.std.proofs.Math.Seq.{take-length}
use Rattle.disk_defs.specs.Disk.{Files}
use Rattle.global_defs.specs.Key.{Key, key_cmp}
use Rattle.global_defs.specs.Encoded.{encoded}
use Rattle.global_defs.specs.Entry.{Globals, Reign, Sequence, apply, state}
use Rattle.global_defs.specs.Fields.{IsTransaction}
use Rattle.journal_defs.specs.Numbers.{database_file}
use Rattle.journal_defs.specs.Instance.{InstanceRecord, regions}
use Rattle.journal_defs.specs.Directory.{Pattern, patterns}
use Rattle.journal_defs.specs.Surviving.{reigns}
use Rattle.journal_defs.specs.Sequence.{Placed, Records, IsSequence}
use Rattle.journal_defs.specs.Epochs.{Blocks, Chosen, beginning, chosen, image_state, block_of, NeedsForward}
use Rattle.journal_defs.specs.Sound.{AreWhole, Restores, IsSound, region_state}
use Rattle.journal_defs.specs.Stands.{AreRecords}
use Rattle.journal_defs.specs.Fit.{IsSoundImage}
use Rattle.block_laws.specs.Nodes.{HaveKeys, updates_of, updates_in}
use Rattle.journal_laws.proofs.ImageSteps.{all_take}
use Rattle.block_laws.proofs.Chains as chains
use Rattle.block_laws.proofs.Formed as formed
use Rattle.block_laws.proofs.Parts as parts
use Rattle.region_store.specs.Region.{Standing, HoldsRegion, IsHeld, IsReplayed}
use Rattle.region_store.proofs.Breaks.{nothing_outside}
use Rattle.region_store.proofs.States as states
use Rattle.site_defs.specs.OutsideBlocks.{IsOutsideAt, AreOutside, HaveOutsideBlocks, gone_back}
use Rattle.region_store.specs.Joined.{ArePartsOf, no_region}
use Rattle.entry_index.specs.declared.placed.PlacedSign.{PlacedSign}
use Rattle.jnl_file.proofs.Newer.{all_told}
use Rattle.entry_index.specs.declared.index.EntryIndex.{EntryIndex}
use Rattle.entry_index.specs.Signs.{signs_of}
use Rattle.entry_index.specs.Indexes.{AreSigns, Indexes}
use Rattle.entry_index.specs.Found.{AreFound, entry_count}
use Rattle.entry_index.proofs.AmongLaws as among
use Rattle.region_opening.specs.declared.epoch.EpochAt.{EpochAt}
use Rattle.region_opening.specs.Epochs.{chosen_at}
use Rattle.region_opening.specs.Signs.{Say, AreTold}
use Rattle.region_opening.specs.Opening.{IsStart, Anew, GoesBack, are_home, IsOwn, IsBegun, IsInside, IsHeldFrom, IsGoneBack, IsOpened, IsRefused, AreRefused, AreGiven}
use Rattle.region_opening.specs.Replaying.{AreBecome, IsGivenUpTo}
use Rattle.region_opening.proofs.Homes.{some_parts}
use Rattle.region_opening.proofs.Lists.{of_mapped, of_more, mapped_at, at_place}
use Rattle.region_opening.proofs.Said.{told_say, region_told, none_signed}
use Rattle.region_opening.proofs.Whole.{opened_whole, all_refused_whole}
use Rattle.region_store.proofs.Lists.{there}
use Rattle.std.proofs.lemmas.Option.{slice_get_within}
use Rattle.disk_defs.proofs.Told.{weaker_told, both_weak}
use Rattle.global_defs.specs.Valid.{is_key}
use Rattle.entry_index.specs.Parts.{InFiles}

-- ---- the empty database

no_elements : {X : Type 0} (xs : List X) → length xs ≡ 0 → [] ≡ xs
no_elements [] none = refl
no_elements (x ∷ xs) none = absurd (omega (arith, none))

no_entries : [] ≡ globals.entries (globals.empty {X = List ℕ} {R = key_cmp})
no_entries = no_elements (globals.entries (globals.empty {X = List ℕ} {R = key_cmp})) (sym (globals.len-entries (globals.empty {X = List ℕ} {R = key_cmp})) ∙ globals.len-empty key_cmp (List ℕ))

-- no nodes
abbrev nothing : Globals
nothing = globals.empty

no_keys : HaveKeys nothing
no_keys = subst (AllByRecursion (λ (e : Key × List ℕ). IsTrue (is_key e.0))) no_entries tt

-- block 0 alone, and it's whole
one_block : (blocks : Blocks) → AreWhole (image_state (beginning []) blocks)
one_block blocks zero bytes is = ap length (ap (λ (o : Option (List ℕ)). unwrap_or o bytes) (sym is)) ∙ length-replicate {A = ℕ} 4096 0
one_block blocks (suc b) bytes is =
    let past : nat_lt (suc b) 0 ≡ false = grind (arith, nat_tests) in
    let other : (suc b == 0) ≡ false = grind (arith, nat_tests) in
    let none : image_state (beginning []) blocks (suc b) ≡ None =
    ap (λ (x : Bool). if x then Some (blocks (suc b)) else if suc b == 0 then Some (replicate 4096 0) else None) past
    ∙ ap (λ (x : Bool). if x then Some (replicate 4096 0) else None) other in
    let gone : None ≡ Some bytes = sym none ∙ is in
    cc

-- it holds no nodes
begins_empty : (blocks : Blocks) → Restores (image_state (beginning []) blocks) nothing
begins_empty blocks = (
  one_block blocks,
  (
    record { next = 0; cells = [] } ∷ [],
    ((replicate 4096 0, refl, record { form = record { next = omega arith; fits = omega arith; cells = tt; rising = tt }; spelled = refl }), refl),
    tt,
    ap (λ (es : List (Key × List ℕ)). map (λ e. (encoded e.0, e.1)) es) no_entries,
  ),
)

-- blocks that hold these nodes aren't other than so
not_outside : (blocks : ℕ → Option (List ℕ)) (g : Globals) (b : ℕ) → HaveKeys g → Restores blocks g → AreOutside blocks g b → ⊥
not_outside blocks g b keys holds (inl out) = nothing_outside blocks b g out keys holds
not_outside blocks g b keys holds (inr others) = others.1.others (chains.one blocks others.1.there g others.1.keys keys others.1.restores.1 holds.1)

-- no entry is behind a place for none of them
none_behind : (n t : ℕ) (seq : Sequence) → t ≡ 0 → updates_of (drop n (take t seq)) ≡ []
none_behind zero zero seq none = refl
none_behind (suc n) zero seq none = refl
none_behind n (suc t) seq none = absurd (omega (arith, none))

-- ---- one region

-- a region that stands as it did at some place of its journals
module _ (instance : List InstanceRecord) (t : ℕ) (journal : List Placed) (r : ℕ) (e : Chosen) (start : IsStart instance t journal e) where
  abbrev Below : Files → ℕ → Option (List ℕ)
  Below files = image_state e (block_of (files (database_file r)))

  part_there : (seq : Sequence) (s : Standing) (files : Files) → AllByRecursion (λ x. IsTransaction x.transaction) seq → IsStart instance t journal e → (e.number ≡ 0 → s.globals ≡ globals.empty) → IsReplayed (Below files) [] s.globals
      → IsSound (region_state (patterns instance) r) instance seq journal (block_of (files (database_file r))) t → s.globals ≡ region_state (patterns instance) r (take e.number seq)
  part_there seq s files forms (Anew forward is) none replayed sound =
      let first : e.number ≡ 0 = ap (λ (x : Chosen). x.number) is in
      none first ∙ sym (parts.begins (patterns instance) r) ∙ ap (λ (n : ℕ). region_state (patterns instance) r (take n seq)) (sym first)
  part_there seq s files forms (GoesBack back is) none replayed (inl forward) = absurd (back forward)
  part_there seq s files forms (GoesBack back is) none replayed (inr sound) =
      states.one (Below files) [] s.globals (region_state (patterns instance) r (take e.number seq)) replayed
      (parts.keys (patterns instance) r (take e.number seq) (all_take (λ x. IsTransaction x.transaction) e.number seq forms))
      (subst (λ (c : Chosen). Restores (image_state c (block_of (files (database_file r)))) (region_state (patterns instance) r (take c.number seq))) (sym is) sound)

  inside_from : (s : Standing) (files : Files) → IsStart instance t journal e → IsReplayed (Below files) [] s.globals → IsInside instance t journal r files
  inside_from s files (Anew forward is) replayed = inl forward
  inside_from s files (GoesBack back is) replayed = inr (λ b out.
      nothing_outside (Below files) b replayed.restored (subst (λ (c : Chosen). IsOutsideAt (image_state c (block_of (files (database_file r)))) b) (sym is) out) replayed.keys replayed.restores)

  holds_from : (s : Standing) (files : Files) → IsStart instance t journal e → HoldsRegion e (files (database_file r)) s → IsHeldFrom instance t journal r s files
  holds_from s files (Anew forward is) holds = inl forward
  holds_from s files (GoesBack back is) holds = inr (subst (λ (x : Chosen). HoldsRegion x (files (database_file r)) s) is holds)

  goes_back_so : (s : Standing) (files : Files) → (e.number ≡ 0 → s.globals ≡ globals.empty) → HoldsRegion e (files (database_file r)) s → IsReplayed (Below files) [] s.globals → IsGoneBack instance t e.number journal r s files
  goes_back_so s files none holds replayed = record {
    holds = holds_from s files start holds;
    inside = inside_from s files start replayed;
    state = λ seq forms sound. part_there seq s files forms start none replayed sound;
  }

  refused : (seq : Sequence) (files : Files) (f offset b : ℕ) → f ≡ database_file r → offset ≡ 4096 * b → AreOutside (Below files) (region_state (patterns instance) r (take e.number seq)) b → IsRefused instance t seq journal r f offset files
  refused seq files f offset b file place out = by start
    where
      by : IsStart instance t journal e → IsRefused instance t seq journal r f offset files
      by (Anew forward is) =
          let first : e.number ≡ 0 = ap (λ (x : Chosen). x.number) is in
          let none : region_state (patterns instance) r (take e.number seq) ≡ nothing = ap (λ (n : ℕ). region_state (patterns instance) r (take n seq)) first ∙ parts.begins (patterns instance) r in
          absurd (not_outside (image_state (beginning []) (block_of (files (database_file r)))) nothing b no_keys (begins_empty (block_of (files (database_file r))))
          (subst (λ (c : Chosen). AreOutside (image_state c (block_of (files (database_file r)))) nothing b) is (subst (λ (g : Globals). AreOutside (Below files) g b) none out)))
      by (GoesBack back is) = record {
        goes_back = back;
        block = b;
        outside = subst (λ (c : Chosen). AreOutside (image_state c (block_of (files (database_file r)))) (region_state (patterns instance) r (take c.number seq)) b) is out;
        file_is = file;
        offset_is = place;
      }

-- the same with the updates up to the target made
module _ (o : Option Files) (instance : List InstanceRecord) (index : EntryIndex) (from : List ℕ) (t r : ℕ) (s m : Standing) (given : IsGivenUpTo o (reigns instance) index (patterns instance) from t r s m) where
  pub own : IsBegun (patterns instance) t (slice_index from r) r s → IsOwn (patterns instance) t r m
  own begun = record {
    file = given.changed.file ∙ begun.file;
    home = given.home begun.home;
    none = λ at_zero. given.same at_zero ∙ begun.none (let within = begun.within in omega (arith, within, at_zero));
  }

  pub still_held : (files : Files) → IsHeld s files → IsHeld m files
  still_held files held = (held.0, subst (λ (f : ℕ). HoldsRegion held.0 (files f) m) (sym given.changed.file) (given.changed.holds held.0 (files s.file) held.1))

  -- from the part of the first entries
  part_made : (seq : Sequence) → slice_index from r ≤ t → s.globals ≡ region_state (patterns instance) r (take (slice_index from r) seq)
      → m.globals ≡ fold apply s.globals (updates_in (patterns instance) r (updates_of (drop (slice_index from r) (take t seq)))) → m.globals ≡ region_state (patterns instance) r (take t seq)
  part_made seq within part made =
      let n = slice_index from r in
      let same : region_state (patterns instance) r (take n seq) ≡ region_state (patterns instance) r (take n (take t seq)) =
      ap (region_state (patterns instance) r) (sym (take-take n t seq within)) in
      made ∙ ap (λ (g : Globals). fold apply g (updates_in (patterns instance) r (updates_of (drop n (take t seq))))) (part ∙ same)
      ∙ sym (parts.replay (patterns instance) r n (take t seq))

  still_holds : (files : Files) (journal : List Placed) → IsHeldFrom instance t journal r s files → IsHeldFrom instance t journal r m files
  still_holds files journal (inl forward) = inl forward
  still_holds files journal (inr holds) = inr (given.changed.holds (chosen instance t journal) (files (database_file r)) holds)

  pub opened : (files : Files) (journal : List Placed) (seq : Sequence) → AllByRecursion (λ x. IsTransaction x.transaction) seq → slice_index from r ≤ t → IsGoneBack instance t (slice_index from r) journal r s files
      → m.globals ≡ fold apply s.globals (updates_in (patterns instance) r (updates_of (drop (slice_index from r) (take t seq)))) → IsOpened instance t seq journal r m files
  opened files journal seq forms within back made = record {
    holds = still_holds files journal back.holds;
    inside = back.inside;
    state = λ sound. part_made seq within (back.state seq forms sound) made;
  }

  -- one that began empty
  pub anew : slice_index from r ≡ 0 → s.globals ≡ globals.empty → (seq : Sequence) → m.globals ≡ fold apply s.globals (updates_in (patterns instance) r (updates_of (drop (slice_index from r) (take t seq))))
      → m.globals ≡ region_state (patterns instance) r (take t seq)
  anew first empty seq made =
      part_made seq (omega (arith, first)) (empty ∙ sym (parts.begins (patterns instance) r) ∙ ap (λ (n : ℕ). region_state (patterns instance) r (take n seq)) (sym first)) made

-- ---- all regions

are_parts : (ps : List Pattern) (rs : List Standing) (seq : Sequence) → ((r : ℕ) (s : Standing) → slice_get rs r ≡ Some s → s.globals ≡ region_state ps r seq) → ArePartsOf ps rs seq
are_parts ps rs seq each r low = let s = there rs r low in mapped_at (λ (t : Standing). t.globals) rs r s.0 s.1 ∙ ap (λ (g : Globals). Some g) (each r s.0 s.1)

-- regions whose nodes stand there have the parts of some state
pub have_parts : (ps : List Pattern) (rs : List Standing) → ((r : ℕ) (s : Standing) → slice_get rs r ≡ Some s → are_home ps r s.globals ≡ true) → (seq : Sequence) × ArePartsOf ps rs seq
have_parts ps rs homes =
    let some = some_parts ps (map (λ (t : Standing). t.globals) rs) each in
    (some.0, are_parts ps rs some.0 (λ r s here. some.1 r s.globals (mapped_at (λ (t : Standing). t.globals) rs r s here)))
  where
    each : (i : ℕ) (g : Globals) → slice_get (map (λ (t : Standing). t.globals) rs) i ≡ Some g → are_home ps i g ≡ true
    each i g is = let x = of_mapped (λ (t : Standing). t.globals) rs i g is in subst (λ (h : Globals). are_home ps i h ≡ true) x.2 (homes i x.0 x.1)

pub empty_parts : (ps : List Pattern) (rs : List Standing) (t : ℕ) → t ≡ 0 → ((r : ℕ) (s : Standing) → slice_get rs r ≡ Some s → IsOwn ps t r s) → ArePartsOf ps rs []
empty_parts ps rs t at_zero own = are_parts ps rs [] (λ r s here. (own r s here).none at_zero ∙ sym (parts.begins ps r))

module _ (files : Files) (records : Records) (t : ℕ) (seq : Sequence) where
  pub sound_parts : (rs : List Standing) → length rs ≡ length (regions records.instance) → ((r : ℕ) (s : Standing) → slice_get rs r ≡ Some s → IsOpened records.instance t seq (records.journal r) r s files)
      → t ≤ length seq → IsSoundImage files records seq → ArePartsOf (patterns records.instance) rs (take t seq)
  sound_parts rs count opened within image =
      are_parts (patterns records.instance) rs (take t seq) (λ r s here. let low = slice_get_within rs r s here in (opened r s here).state (image.sound t within r (omega (arith, low, count))))

  module _ (n file offset : ℕ) (count : n ≡ length (regions records.instance)) (all : AreRefused records.instance t seq records.journal n file offset files) where
    pub refused_blocks : (aim : ℕ → ℕ) → aim (length seq) ≡ t → AreRecords files records → IsSequence records seq → HaveOutsideBlocks aim files file offset
    refused_blocks aim is held sequence =
        let below = all.below in
        let earlier : (k : ℕ) → k ≡ t → (q : ℕ) → q < all.region → IsInside records.instance k (records.journal q) q files =
        (λ k at q less. subst (λ (n : ℕ). IsInside records.instance n (records.journal q) q files) (sym at) (all.earlier q less)) in
        let refused : IsRefused records.instance (aim (length seq)) seq (records.journal all.region) all.region file offset files =
        subst (λ (n : ℕ). IsRefused records.instance n seq (records.journal all.region) all.region file offset files) (sym is) all.refused in
        record {
          records = records;
          seq = seq;
          held = held;
          sequence = sequence;
          region = all.region;
          below = omega (arith, below, count);
          goes_back = refused.goes_back;
          earlier = earlier (aim (length seq)) is;
          block = refused.block;
          outside = refused.outside;
          file_is = refused.file_is;
          offset_is = refused.offset_is;
        }

    pub refused_sound : t ≤ length seq → IsSoundImage files records seq → AllByRecursion (λ x. IsTransaction x.transaction) seq → ⊥
    refused_sound within image forms = let below = all.below in by (image.sound t within all.region (omega (arith, below, count)))
      where
        here : Chosen
        here = chosen records.instance t (records.journal all.region)

        database : Blocks
        database = block_of (files (database_file all.region))

        by : IsSound (region_state (patterns records.instance) all.region) records.instance seq (records.journal all.region) database t → ⊥
        by (inl forward) = all.refused.goes_back forward
        by (inr holds) = not_outside (image_state here database) (region_state (patterns records.instance) all.region (take here.number seq)) all.refused.block
            (parts.keys (patterns records.instance) all.region (take here.number seq) (all_take (λ x. IsTransaction x.transaction) here.number seq forms)) holds all.refused.outside

-- ---- the regions as a disk tells them

-- what a disk tells of each of some things
each_told : {I : Type 0} (o : Option Files) (P : I → Files → Type 0) → ((i : I) → IfSome o (P i)) → IfSome o (λ files. (i : I) → P i files)
each_told None P all = tt
each_told (Some files) P all = all

-- what stands of one region, as the disk tells it
module _ (o : Option Files) (ps : List Pattern) (n : ℕ) (start : EpochAt) (signs : List PlacedSign) where
  abbrev At : List Placed → Files → ℕ → Option (List ℕ)
  At journal files = image_state (chosen_at start journal) (block_of (files (database_file n)))

  -- the place of what is outside
  abbrev IsTold : ℕ → ℕ → Files → Type 0
  IsTold f offset files = (journal : List Placed) → AreTold files n signs journal → (seq : Sequence) → (f ≡ database_file n) × (b : ℕ) × (offset ≡ 4096 * b) × AreOutside (At journal files) (region_state ps n (take start.number seq)) b

  pub told_outside : (f offset : ℕ) → IfSome o (λ files. (journal : List Placed) → AreTold files n signs journal → (f ≡ database_file n) × (b : ℕ) × (offset ≡ 4096 * b) × IsOutsideAt (At journal files) b) → IfSome o (IsTold f offset)
  told_outside f offset told =
      weaker_told o (λ files. (journal : List Placed) → AreTold files n signs journal → (f ≡ database_file n) × (b : ℕ) × (offset ≡ 4096 * b) × IsOutsideAt (At journal files) b) (IsTold f offset) told (λ files h journal are seq.
      let here = h journal are in (here.0, here.1, here.2, inl here.3))

  pub told_others : (f offset : ℕ) (g : Globals) → f ≡ database_file n → offset ≡ 0 → IfSome o (λ files. (journal : List Placed) → AreTold files n signs journal → IsReplayed (At journal files) [] g)
      → ((seq : Sequence) → g ≡ region_state ps n (take start.number seq) → ⊥) → IfSome o (IsTold f offset)
  told_others f offset g at first told others =
      weaker_told o (λ files. (journal : List Placed) → AreTold files n signs journal → IsReplayed (At journal files) [] g) (IsTold f offset) told (λ files h journal are seq.
      let there = h journal are in
      (at, 0, first, inr (refl, record { there = there.restored; keys = there.keys; restores = there.restores; others = λ same. others seq (there.made ∙ same) })))

-- a region that was opened from its start
module _ (o : Option Files) (instance : List InstanceRecord) (t n : ℕ) (start : EpochAt) (signs : List PlacedSign) (starts : (journal : List Placed) → Say signs journal → IsStart instance t journal (chosen_at start journal)) (ps : List Pattern) (are : ps ≡ patterns instance) where
  pub region_begun : (s : Standing) → s.file ≡ database_file n → are_home ps n s.globals ≡ true → start.number ≤ t → (start.number ≡ 0 → s.globals ≡ globals.empty) → IsBegun (patterns instance) t start.number n s
  region_begun s file home within none = record { file = file; home = subst (λ (qs : List Pattern). are_home qs n s.globals ≡ true) are home; within = within; none = none }

  pub region_gone_back : (s : Standing) → (start.number ≡ 0 → s.globals ≡ globals.empty) → IfSome o (λ files. (journal : List Placed) → AreTold files n signs journal → HoldsRegion (chosen_at start journal) (files (database_file n)) s)
      → IfSome o (λ files. (journal : List Placed) → AreTold files n signs journal → IsReplayed (image_state (chosen_at start journal) (block_of (files (database_file n)))) [] s.globals)
      → IfSome o (λ files. (journal : List Placed) → AreTold files n signs journal → IsGoneBack instance t start.number journal n s files)
  region_gone_back s none holds replayed = both_weak o (λ files. (journal : List Placed) → AreTold files n signs journal → HoldsRegion (chosen_at start journal) (files (database_file n)) s)
      (λ files. (journal : List Placed) → AreTold files n signs journal → IsReplayed (image_state (chosen_at start journal) (block_of (files (database_file n)))) [] s.globals)
      (λ files. (journal : List Placed) → AreTold files n signs journal → IsGoneBack instance t start.number journal n s files) holds replayed
      (λ files h k journal told. goes_back_so instance t journal n (chosen_at start journal) (starts journal (told_say files n signs journal told)) s files none (h journal told) (k journal told))

  pub region_refused : (f offset : ℕ)
      → IfSome o (λ files. (journal : List Placed) → AreTold files n signs journal → (seq : Sequence) → (f ≡ database_file n) × (b : ℕ) × (offset ≡ 4096 * b) × AreOutside (image_state (chosen_at start journal) (block_of (files (database_file n)))) (region_state ps n (take start.number seq)) b)
      → IfSome o (λ files. (journal : List Placed) → AreTold files n signs journal → (seq : Sequence) → IsRefused instance t seq journal n f offset files)
  region_refused f offset told =
      weaker_told o (λ files. (journal : List Placed) → AreTold files n signs journal → (seq : Sequence) → (f ≡ database_file n) × (b : ℕ) × (offset ≡ 4096 * b) × AreOutside (image_state (chosen_at start journal) (block_of (files (database_file n)))) (region_state ps n (take start.number seq)) b)
      (λ files. (journal : List Placed) → AreTold files n signs journal → (seq : Sequence) → IsRefused instance t seq journal n f offset files) told (λ files h journal are_told seq.
      let at = h journal are_told seq in
      refused instance t journal n (chosen_at start journal) (starts journal (told_say files n signs journal are_told)) seq files f offset at.1 at.0 at.2
      (subst (λ (qs : List Pattern). AreOutside (image_state (chosen_at start journal) (block_of (files (database_file n)))) (region_state qs n (take start.number seq)) at.1) are at.3))

-- a list of regions, and of numbers, with one more
each_more : (P : ℕ → ℕ → Standing → Type 0) (rs : List Standing) (ns : List ℕ) (s : Standing) (x n : ℕ) → length rs ≡ n → length ns ≡ n → ((r : ℕ) (m : Standing) → slice_get rs r ≡ Some m → P r (slice_index ns r) m) → P n x s
    → (r : ℕ) (m : Standing) → slice_get (rs ++ s ∷ []) r ≡ Some m → P r (slice_index (ns ++ x ∷ []) r) m
each_more P rs ns s x n long many each this r m here = elim (of_more rs s r m here) [
  | inl low ↦
      let inside : r < length ns = let within = slice_get_within rs r m low in omega (arith, within, long, many) in
      subst (λ (k : ℕ). P r k m) (sym (get_or-append ns (x ∷ []) 0 r inside)) (each r m low)
  | inr last ↦
      let at : r ≡ n = last.0 ∙ long in
      let first : r - n ≡ 0 = omega (arith, at) in
      let number : slice_index (ns ++ x ∷ []) r ≡ x = get_or-append_right ns (x ∷ []) n r 0 many (omega (arith, at)) ∙ ap (λ (k : ℕ). slice_index (x ∷ []) k) first in
      subst (λ (k : ℕ). P r k m) (sym number) (subst (λ (q : ℕ). P q x m) (sym at) (subst (λ (y : Standing). P n x y) (sym last.1) this))
]

-- regions that were opened from their starts, one after the other
module _ (o : Option Files) (instance : List InstanceRecord) (t : ℕ) (signs : List (List PlacedSign)) where
  -- what is told of all
  abbrev pub AreGoneBack : List Standing → List ℕ → Files → Type 0
  AreGoneBack rs from files = (journal : ℕ → List Placed) → AreSigns files signs journal → (r : ℕ) (s : Standing) → slice_get rs r ≡ Some s → IsGoneBack instance t (slice_index from r) (journal r) r s files

  abbrev pub AreHeld : List Standing → Files → Type 0
  AreHeld rs files = (r : ℕ) (s : Standing) → slice_get rs r ≡ Some s → IsHeld s files

  pub none_back : IfSome o (AreGoneBack [] [])
  none_back = all_told o (AreGoneBack [] []) (λ files journal are r s here. let gone : None ≡ Some s = here in cc)

  pub none_held : IfSome o (AreHeld [])
  none_held = all_told o (AreHeld []) (λ files r s here. let gone : None ≡ Some s = here in cc)

  pub one_more_back : (rs : List Standing) (from : List ℕ) (s : Standing) (x n : ℕ) → length rs ≡ n → length from ≡ n → IfSome o (AreGoneBack rs from)
      → IfSome o (λ files. (journal : List Placed) → AreTold files n (signs_of signs n) journal → IsGoneBack instance t x journal n s files) → IfSome o (AreGoneBack (rs ++ s ∷ []) (from ++ x ∷ []))
  one_more_back rs from s x n long many told this =
      both_weak o (AreGoneBack rs from) (λ files. (journal : List Placed) → AreTold files n (signs_of signs n) journal → IsGoneBack instance t x journal n s files) (AreGoneBack (rs ++ s ∷ []) (from ++ x ∷ [])) told this
      (λ files all is journal are. each_more (λ r k m. IsGoneBack instance t k (journal r) r m files) rs from s x n long many (all journal are) (is (journal n) (region_told files signs journal n are)))

  pub one_more_held : (rs : List Standing) (s : Standing) → IfSome o (AreHeld rs) → IfSome o (IsHeld s) → IfSome o (AreHeld (rs ++ s ∷ []))
  one_more_held rs s told this = both_weak o (AreHeld rs) (IsHeld s) (AreHeld (rs ++ s ∷ [])) told this (λ files all is r m here. elim (of_more rs s r m here) [
    | inl low ↦ all r m low
    | inr last ↦ subst (λ (x : Standing). IsHeld x files) (sym last.1) is
  ])

  pub one_more_begun : (ps : List Pattern) (rs : List Standing) (from : List ℕ) (s : Standing) (x n : ℕ) → length rs ≡ n → length from ≡ n → ((r : ℕ) (m : Standing) → slice_get rs r ≡ Some m → IsBegun ps t (slice_index from r) r m) → IsBegun ps t x n s
      → (r : ℕ) (m : Standing) → slice_get (rs ++ s ∷ []) r ≡ Some m → IsBegun ps t (slice_index (from ++ x ∷ []) r) r m
  one_more_begun ps rs from s x n long many all this = each_more (λ r k m. IsBegun ps t k r m) rs from s x n long many all this

  pub one_more_first : (from : List ℕ) (x n : ℕ) → length from ≡ n → ((r : ℕ) → signs_of signs r ≡ [] → slice_index from r ≡ 0) → (signs_of signs n ≡ [] → x ≡ 0) → (r : ℕ) → signs_of signs r ≡ [] → slice_index (from ++ x ∷ []) r ≡ 0
  one_more_first from x n many all this r none = elim (cases_lt r n) [
    | inl low ↦ get_or-append from (x ∷ []) 0 r (omega (arith, low, many)) ∙ all r none
    | inr past ↦ get_or-append_right from (x ∷ []) n r 0 many past ∙ last (r - n) refl past
  ]
    where
      last : (k : ℕ) → r - n ≡ k → n ≤ r → slice_index (x ∷ []) k ≡ 0
      last zero is past = let same : r ≡ n = omega (arith, is, past) in this (subst (λ (q : ℕ). signs_of signs q ≡ []) same none)
      last (suc k) is past = refl

  pub first_refused : (rs : List Standing) (from : List ℕ) (n count f offset : ℕ) → length rs ≡ n → n < count → IfSome o (AreGoneBack rs from)
      → IfSome o (λ files. (journal : List Placed) → AreTold files n (signs_of signs n) journal → (seq : Sequence) → IsRefused instance t seq journal n f offset files)
      → IfSome o (λ files. (journal : ℕ → List Placed) → AreSigns files signs journal → (seq : Sequence) → AreRefused instance t seq journal count f offset files)
  first_refused rs from n count f offset long low told this =
      both_weak o (AreGoneBack rs from) (λ files. (journal : List Placed) → AreTold files n (signs_of signs n) journal → (seq : Sequence) → IsRefused instance t seq journal n f offset files)
      (λ files. (journal : ℕ → List Placed) → AreSigns files signs journal → (seq : Sequence) → AreRefused instance t seq journal count f offset files) told this (λ files all is journal are seq. record {
        region = n;
        below = low;
        earlier = λ q less. let s = there rs q (omega (arith, less, long)) in (all journal are q s.0 s.1).inside;
        refused = is (journal n) (region_told files signs journal n are) seq;
      })

-- how many entries it has
pub count_is : (files : Files) (rs : List Reign) (index : EntryIndex) (seq : Sequence) → 1 ≤ index.regions → Indexes (InFiles files) rs index seq → entry_count index ≡ length seq
count_is files rs index seq some is = among.counted index (length seq) some is.rows

-- all regions, with the updates up to the target made
module _ (o : Option Files) (instance : List InstanceRecord) (signs : List (List PlacedSign)) (index : EntryIndex) (t : ℕ) (from : List ℕ) (rs ms : List Standing)
    (become : AreBecome (IsGivenUpTo o (reigns instance) index (patterns instance) from t) (length rs) rs ms) where
  -- the region that one was before
  before : (r : ℕ) (m : Standing) → slice_get ms r ≡ Some m → (s : Standing) × (slice_get rs r ≡ Some s) × IsGivenUpTo o (reigns instance) index (patterns instance) from t r s m
  before r m here =
      let many = become.count in
      let low : r < length rs = let inside = slice_get_within ms r m here in omega (arith, inside, many) in
      let s = there rs r low in
      (s.0, s.1, become.each r s.0 m low s.1 here)

  pub all_own : ((r : ℕ) (s : Standing) → slice_get rs r ≡ Some s → IsBegun (patterns instance) t (slice_index from r) r s) → (r : ℕ) (m : Standing) → slice_get ms r ≡ Some m → IsOwn (patterns instance) t r m
  all_own begun r m here = let b = before r m here in own o instance index from t r b.0 m b.2 (begun r b.0 b.1)

  pub all_held : IfSome o (AreHeld o instance t signs rs) → IfSome o (AreHeld o instance t signs ms)
  all_held told = weaker_told o (AreHeld o instance t signs rs) (AreHeld o instance t signs ms) told (λ files held r m here.
      let b = before r m here in still_held o instance index from t r b.0 m b.2 files (held r b.0 b.1))

  pub all_anew : 1 ≤ index.regions → t ≤ entry_count index → ((r : ℕ) (s : Standing) → slice_get rs r ≡ Some s → IsBegun (patterns instance) t (slice_index from r) r s) → ((r : ℕ) → signs_of signs r ≡ [] → slice_index from r ≡ 0)
      → (r : ℕ) (m : Standing) → slice_get ms r ≡ Some m → signs_of signs r ≡ [] → IfSome o (λ files. (seq : Sequence) → Indexes (InFiles files) (reigns instance) index seq → m.globals ≡ region_state (patterns instance) r (take t seq))
  all_anew some within begun first r m here none =
      let b = before r m here in
      let zero = first r none in
      weaker_told o (λ files. (seq : Sequence) → Indexes (InFiles files) (reigns instance) index seq → t ≤ length seq → m.globals ≡ fold apply b.0.globals (updates_in (patterns instance) r (updates_of (drop (slice_index from r) (take t seq)))))
      (λ files. (seq : Sequence) → Indexes (InFiles files) (reigns instance) index seq → m.globals ≡ region_state (patterns instance) r (take t seq)) b.2.made (λ files made seq indexed.
      let many = count_is files (reigns instance) index seq some indexed in
      anew o instance index from t r b.0 m b.2 zero ((begun r b.0 b.1).none zero) seq (made seq indexed (omega (arith, within, many))))

  -- what is told of all
  abbrev pub AreOpened : List Standing → Files → Type 0
  AreOpened xs files = (journal : ℕ → List Placed) (seq : Sequence) → AreGiven files instance signs index journal seq → (r : ℕ) (s : Standing) → slice_get xs r ≡ Some s → IsOpened instance t seq (journal r) r s files

  made_all : IfSome o (λ files. (i : (r : ℕ) × (m : Standing) × (slice_get ms r ≡ Some m)) (seq : Sequence) → Indexes (InFiles files) (reigns instance) index seq → t ≤ length seq
      → i.1.globals ≡ fold apply (before i.0 i.1 i.2).0.globals (updates_in (patterns instance) i.0 (updates_of (drop (slice_index from i.0) (take t seq)))))
  made_all = each_told o (λ (i : (r : ℕ) × (m : Standing) × (slice_get ms r ≡ Some m)) (files : Files). (seq : Sequence) → Indexes (InFiles files) (reigns instance) index seq → t ≤ length seq
      → i.1.globals ≡ fold apply (before i.0 i.1 i.2).0.globals (updates_in (patterns instance) i.0 (updates_of (drop (slice_index from i.0) (take t seq))))) (λ i. (before i.0 i.1 i.2).2.made)

  pub all_opened : 1 ≤ index.regions → t ≤ entry_count index → ((r : ℕ) (s : Standing) → slice_get rs r ≡ Some s → IsBegun (patterns instance) t (slice_index from r) r s) → IfSome o (AreGoneBack o instance t signs rs from) → IfSome o (AreOpened ms)
  all_opened some within begun told =
      both_weak o (λ files. (i : (r : ℕ) × (m : Standing) × (slice_get ms r ≡ Some m)) (seq : Sequence) → Indexes (InFiles files) (reigns instance) index seq → t ≤ length seq
      → i.1.globals ≡ fold apply (before i.0 i.1 i.2).0.globals (updates_in (patterns instance) i.0 (updates_of (drop (slice_index from i.0) (take t seq))))) (AreGoneBack o instance t signs rs from) (AreOpened ms) made_all told
      (λ files made back journal seq given r m here.
      let b = before r m here in
      let many = count_is files (reigns instance) index seq some given.indexed in
      opened o instance index from t r b.0 m b.2 files (journal r) seq given.forms (begun r b.0 b.1).within (back journal given.are_signs r b.0 b.1) (made (r, m, here) seq given.indexed (omega (arith, within, many))))

-- a region that can't be opened, and entries that can't be read
module _ (o : Option Files) (instance : List InstanceRecord) (signs : List (List PlacedSign)) (index : EntryIndex) (t n f offset : ℕ) where
  abbrev pub AreGivenRefused : Files → Type 0
  AreGivenRefused files = (journal : ℕ → List Placed) (seq : Sequence) → AreGiven files instance signs index journal seq → AreRefused instance t seq journal n f offset files

  pub signs_refused : IfSome o (λ files. (journal : ℕ → List Placed) → AreSigns files signs journal → (seq : Sequence) → AreRefused instance t seq journal n f offset files) → IfSome o AreGivenRefused
  signs_refused told = weaker_told o (λ files. (journal : ℕ → List Placed) → AreSigns files signs journal → (seq : Sequence) → AreRefused instance t seq journal n f offset files) AreGivenRefused told (λ files all journal seq given. all journal given.are_signs seq)

  pub entries_refused : 1 ≤ index.regions → t ≤ entry_count index
      → IfSome o (λ files. (seq : Sequence) → Indexes (InFiles files) (reigns instance) index seq → AllByRecursion (λ e. IsTransaction e.transaction) seq → t ≤ length seq → ⊥) → IfSome o AreGivenRefused
  entries_refused some within told = weaker_told o (λ files. (seq : Sequence) → Indexes (InFiles files) (reigns instance) index seq → AllByRecursion (λ e. IsTransaction e.transaction) seq → t ≤ length seq → ⊥) AreGivenRefused told (λ files none journal seq given.
      let many = count_is files (reigns instance) index seq some given.indexed in
      absurd (none seq given.indexed given.forms (omega (arith, within, many))))

-- ---- a site that was found

-- the region of a number among the same ones
here_in : (rs ms : List Standing) → ms ≡ rs → (r : ℕ) → r < length ms → slice_get rs r ≡ Some (slice_index_or ms r no_region)
here_in rs ms same r low = subst (λ (xs : List Standing). slice_get xs r ≡ Some (slice_index_or ms r no_region)) same (at_place ms r no_region low)

-- each is on the blocks of some epoch and of its file
pub held_told : (o : Option Files) (rs ms : List Standing) → ms ≡ rs → IfSome o (λ files. (r : ℕ) (s : Standing) → slice_get rs r ≡ Some s → IsHeld s files) → IfSome o (λ files. (r : ℕ) → r < length ms → IsHeld (slice_index_or ms r no_region) files)
held_told o rs ms same told = weaker_told o (λ files. (r : ℕ) (s : Standing) → slice_get rs r ≡ Some s → IsHeld s files) (λ files. (r : ℕ) → r < length ms → IsHeld (slice_index_or ms r no_region) files) told
    (λ files held r low. held r (slice_index_or ms r no_region) (here_in rs ms same r low))

pub files_are : (ps : List Pattern) (t : ℕ) (rs ms : List Standing) → ms ≡ rs → ((r : ℕ) (s : Standing) → slice_get rs r ≡ Some s → IsOwn ps t r s) → (r : ℕ) → r < length ms → (slice_index_or ms r no_region).file ≡ database_file r
files_are ps t rs ms same own r low = (own r (slice_index_or ms r no_region) (here_in rs ms same r low)).file

-- its entries are transactions of their form, and the signs are those of the records that are kept
given_of : (files : Files) (instance : List InstanceRecord) (lowest : ℕ) (signs : List (List PlacedSign)) (index : EntryIndex) (u : Records) (seq : Sequence) (found : AreFound files instance lowest signs index u seq) → AreGiven files instance signs index found.are_kept.kept seq
given_of files instance lowest signs index u seq found = record { are_signs = found.are_kept.are; indexed = found.indexed; forms = formed.entries files u seq found.held found.sequence }

-- what is told of all regions, of which these are the same
module _ (o : Option Files) (instance : List InstanceRecord) (signs : List (List PlacedSign)) (index : EntryIndex) (t : ℕ) (some : 1 ≤ index.regions) (within : t ≤ entry_count index) (ps : List Pattern) (are : ps ≡ patterns instance)
    (rs ms : List Standing) (same : ms ≡ rs) (counted : length rs ≡ length (regions instance))
    (told : IfSome o (λ files. (journal : ℕ → List Placed) (seq : Sequence) → AreGiven files instance signs index journal seq → (r : ℕ) (s : Standing) → slice_get rs r ≡ Some s → IsOpened instance t seq (journal r) r s files)) where
  abbrev Told : Files → Type 0
  Told files = (journal : ℕ → List Placed) (seq : Sequence) → AreGiven files instance signs index journal seq → (r : ℕ) (s : Standing) → slice_get rs r ≡ Some s → IsOpened instance t seq (journal r) r s files

  -- each region is open over all records, too
  opened_at : (files : Files) → Told files → (u : Records) (seq : Sequence) → AreFound files instance t signs index u seq → (r : ℕ) (s : Standing) → slice_get rs r ≡ Some s → IsOpened instance t seq (u.journal r) r s files
  opened_at files opens u seq found r s here =
      let k = found.are_kept in
      opened_whole instance t (length seq) (u.journal r) (k.kept r) (k.thinned r) r files seq s (opens k.kept seq (given_of files instance t signs index u seq found) r s here)

  sound_at : (files : Files) → Told files → (u : Records) (seq : Sequence) → AreFound files instance t signs index u seq → IsSoundImage files u seq → ArePartsOf ps rs (take t seq)
  sound_at files opens u seq found image =
      let many = count_is files (reigns instance) index seq some found.indexed in
      subst (λ (qs : List Pattern). ArePartsOf qs rs (take t seq)) (ap patterns found.instance_is ∙ sym are)
      (sound_parts files u t seq rs (counted ∙ ap (λ (i : List InstanceRecord). length (regions i)) (sym found.instance_is))
      (subst (λ (i : List InstanceRecord). (r : ℕ) (s : Standing) → slice_get rs r ≡ Some s → IsOpened i t seq (u.journal r) r s files) (sym found.instance_is) (opened_at files opens u seq found)) (omega (arith, within, many)) image)

  pub parts_told : IfSome o (λ files. (u : Records) (seq : Sequence) → AreFound files instance t signs index u seq → IsSoundImage files u seq → ArePartsOf ps ms (take t seq))
  parts_told = weaker_told o Told (λ files. (u : Records) (seq : Sequence) → AreFound files instance t signs index u seq → IsSoundImage files u seq → ArePartsOf ps ms (take t seq)) told
      (λ files opens u seq found image. subst (λ (xs : List Standing). ArePartsOf ps xs (take t seq)) (sym same) (sound_at files opens u seq found image))

  pub state_told : (all : Globals) → ((xs : Sequence) → ArePartsOf ps rs xs → all ≡ state xs) → IfSome o (λ files. (u : Records) (seq : Sequence) → AreFound files instance t signs index u seq → IsSoundImage files u seq → all ≡ state (take t seq))
  state_told all joins = weaker_told o Told (λ files. (u : Records) (seq : Sequence) → AreFound files instance t signs index u seq → IsSoundImage files u seq → all ≡ state (take t seq)) told
      (λ files opens u seq found image. joins (take t seq) (sound_at files opens u seq found image))

  pub holds_told : IfSome o (λ files. (u : Records) (seq : Sequence) → AreFound files instance t signs index u seq → (r : ℕ) → r < length ms → NeedsForward instance t (u.journal r) ⊎ HoldsRegion (gone_back u t r) (files (database_file r)) (slice_index_or ms r no_region))
  holds_told = weaker_told o Told
      (λ files. (u : Records) (seq : Sequence) → AreFound files instance t signs index u seq → (r : ℕ) → r < length ms → NeedsForward instance t (u.journal r) ⊎ HoldsRegion (gone_back u t r) (files (database_file r)) (slice_index_or ms r no_region)) told
      (λ files opens u seq found r low.
      let s = slice_index_or ms r no_region in
      subst (λ (i : List InstanceRecord). NeedsForward instance t (u.journal r) ⊎ HoldsRegion (chosen i t (u.journal r)) (files (database_file r)) s) (sym found.instance_is)
      (opened_at files opens u seq found r s (here_in rs ms same r low)).holds)

-- the first region that can't be opened, as the disk tells it
module _ (o : Option Files) (instance : List InstanceRecord) (signs : List (List PlacedSign)) (index : EntryIndex) (t n f offset : ℕ) (some : 1 ≤ index.regions) (within : t ≤ entry_count index) (counted : n ≡ length (regions instance))
    (told : IfSome o (AreGivenRefused o instance signs index t n f offset)) where
  there_refused : (files : Files) → AreGivenRefused o instance signs index t n f offset files → (u : Records) (seq : Sequence) → AreFound files instance t signs index u seq → AreRefused u.instance t seq u.journal n f offset files
  there_refused files all u seq found = subst (λ (i : List InstanceRecord). AreRefused i t seq u.journal n f offset files) (sym found.instance_is)
      (all_refused_whole instance t (length seq) u.journal found.are_kept.kept found.are_kept.thinned seq n f offset files (all found.are_kept.kept seq (given_of files instance t signs index u seq found)))

  pub outside_told : (aim : ℕ → ℕ) → aim (entry_count index) ≡ t → IfSome o (λ files. (u : Records) (seq : Sequence) → AreFound files instance t signs index u seq → HaveOutsideBlocks aim files f offset)
  outside_told aim is = weaker_told o (AreGivenRefused o instance signs index t n f offset) (λ files. (u : Records) (seq : Sequence) → AreFound files instance t signs index u seq → HaveOutsideBlocks aim files f offset) told
      (λ files all u seq found. refused_blocks files u t seq n f offset (counted ∙ ap (λ (i : List InstanceRecord). length (regions i)) (sym found.instance_is)) (there_refused files all u seq found) aim
      (ap aim (sym (count_is files (reigns instance) index seq some found.indexed)) ∙ is) found.held found.sequence)

  pub unsound_told : IfSome o (λ files. (u : Records) (seq : Sequence) → AreFound files instance t signs index u seq → IsSoundImage files u seq → ⊥)
  unsound_told = weaker_told o (AreGivenRefused o instance signs index t n f offset) (λ files. (u : Records) (seq : Sequence) → AreFound files instance t signs index u seq → IsSoundImage files u seq → ⊥) told
      (λ files all u seq found image.
      let many = count_is files (reigns instance) index seq some found.indexed in
      refused_sound files u t seq n f offset (counted ∙ ap (λ (i : List InstanceRecord). length (regions i)) (sym found.instance_is)) (there_refused files all u seq found) (omega (arith, within, many)) image (formed.entries files u seq found.held found.sequence))

-- ---- regions that were made anew

-- none of them is refused
anew_refused : (instance : List InstanceRecord) (t : ℕ) (seq : Sequence) (n f offset : ℕ) (files : Files) → AreRefused instance t seq (λ r. []) n f offset files → ⊥
anew_refused instance t seq n f offset files all =
    let blocks = block_of (files (database_file all.region)) in
    not_outside (image_state (beginning []) blocks) nothing all.refused.block no_keys (begins_empty blocks)
    (subst (λ (g : Globals). AreOutside (image_state (beginning []) blocks) g all.refused.block) (parts.begins (patterns instance) all.region) all.refused.outside)

module _ (o : Option Files) (instance : List InstanceRecord) (index : EntryIndex) (t : ℕ) (some : 1 ≤ index.regions) (all_entries : t ≡ entry_count index) where
  pub anew_told : (n f offset : ℕ) → IfSome o (AreGivenRefused o instance [] index t n f offset) → IfSome o (λ files. (lowest : ℕ) (signs : List (List PlacedSign)) (u : Records) (seq : Sequence) → AreFound files instance lowest signs index u seq → ⊥)
  anew_told n f offset told = weaker_told o (AreGivenRefused o instance [] index t n f offset) (λ files. (lowest : ℕ) (signs : List (List PlacedSign)) (u : Records) (seq : Sequence) → AreFound files instance lowest signs index u seq → ⊥) told (λ files all lowest signs u seq found.
      anew_refused instance t seq n f offset files (all (λ r. []) seq (record { are_signs = none_signed files; indexed = found.indexed; forms = formed.entries files u seq found.held found.sequence })))

  -- they have their parts of the state of all entries
  module _ (rs : List Standing) (told : (r : ℕ) (s : Standing) → slice_get rs r ≡ Some s → IfSome o (λ files. (seq : Sequence) → Indexes (InFiles files) (reigns instance) index seq → s.globals ≡ region_state (patterns instance) r (take t seq))) (ps : List Pattern) (are : ps ≡ patterns instance) where
    abbrev AnyRegion : Type 0
    AnyRegion = (r : ℕ) × (s : Standing) × (slice_get rs r ≡ Some s)

    abbrev Made : AnyRegion → Files → Type 0
    Made i files = (seq : Sequence) → Indexes (InFiles files) (reigns instance) index seq → i.1.globals ≡ region_state (patterns instance) i.0 (take t seq)

    parts_of : (files : Files) → ((i : AnyRegion) → Made i files) → (lowest : ℕ) (signs : List (List PlacedSign)) (u : Records) (seq : Sequence) → AreFound files instance lowest signs index u seq → ArePartsOf ps rs seq
    parts_of files made lowest signs u seq found =
        let whole : take t seq ≡ seq = ap (λ (n : ℕ). take n seq) (all_entries ∙ count_is files (reigns instance) index seq some found.indexed) ∙ take-length seq in
        are_parts ps rs seq (λ r s here. made (r, s, here) seq found.indexed ∙ ap (region_state (patterns instance) r) whole ∙ ap (λ (qs : List Pattern). region_state qs r seq) (sym are))

    pub anew_parts : (ms : List Standing) → ms ≡ rs → IfSome o (λ files. (lowest : ℕ) (signs : List (List PlacedSign)) (u : Records) (seq : Sequence) → AreFound files instance lowest signs index u seq → ArePartsOf ps ms seq)
    anew_parts ms same = weaker_told o (λ files. (i : AnyRegion) → Made i files) (λ files. (lowest : ℕ) (signs : List (List PlacedSign)) (u : Records) (seq : Sequence) → AreFound files instance lowest signs index u seq → ArePartsOf ps ms seq)
        (each_told o Made (λ i. told i.0 i.1 i.2)) (λ files made lowest signs u seq found. subst (λ (xs : List Standing). ArePartsOf ps xs seq) (sym same) (parts_of files made lowest signs u seq found))

    pub anew_state : (all : Globals) → ((xs : Sequence) → ArePartsOf ps rs xs → all ≡ state xs) → IfSome o (λ files. (lowest : ℕ) (signs : List (List PlacedSign)) (u : Records) (seq : Sequence) → AreFound files instance lowest signs index u seq → all ≡ state seq)
    anew_state all joins = weaker_told o (λ files. (i : AnyRegion) → Made i files) (λ files. (lowest : ℕ) (signs : List (List PlacedSign)) (u : Records) (seq : Sequence) → AreFound files instance lowest signs index u seq → all ≡ state seq)
        (each_told o Made (λ i. told i.0 i.1 i.2)) (λ files made lowest signs u seq found. joins seq (parts_of files made lowest signs u seq found))
