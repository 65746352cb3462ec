-- Regions that are written out, one after another.
use Rattle.std.proofs.Common.{◌≡◌, ◌≢◌, ◌⊎◌, inl, inr, ⊎_elim, ◌≤◌, ◌<◌, ◌+◌, ◌^◌, ℕ, zero, suc, Bool, false, List, [], ◌∷◌, ◌++◌, length, replicate, Some, None, Option, refl, sym, ◌∙◌, ap, subst, arith, length-append}
use Rattle.std.specs.Prelude.{IfSome, slice_get, Result, Ok, Err, OnOk, OnErr}
use Rattle.std.specs.List.{AllByRecursion}
use Rattle.std.proofs.lemmas.Bool.{cases_eq}
use Rattle.global_defs.specs.declared.limits.TheConstants.{NUMBERS_END}
use Rattle.disk_defs.specs.Disk.{Files, View, Image, From, OnFile, IsLawful, IsDurable, AtEachMoment, ReadsAfter}
use Rattle.disk_defs.specs.Frames.{Only, SameOutside, OthersStay}
use Rattle.disk_defs.proofs.Frames.{durable_stays, others_then, others_wider}
use Rattle.disk_defs.proofs.Moments.{then_more, holds_now}
use Rattle.disk_defs.proofs.Told.{weaker_told, both_weak, reads_after}
use Rattle.journal_defs.specs.Numbers.{database_file}
use Rattle.journal_defs.specs.Journal as journal
use Rattle.journal_defs.specs.Journal.{Mark}
use Rattle.journal_defs.specs.Epochs.{Chosen, image_state, block_of}
use Rattle.journal_defs.specs.Sound.{Restores}
use Rattle.journal_defs.specs.Undo.{fresh}
use Rattle.journal_laws.proofs.ImageSteps.{all_both}
use Rattle.block_laws.proofs.Writing.{both}
use Rattle.block_pool.specs.Pool.{ChangesDirty}
use Rattle.jnl_record.specs.declared.record.JnlRecord.{JnlRecord}
use Rattle.jnl_record.specs.declared.record.JnlRecord.TheVariants.{Pini, Epoch, Pblk, Tcom}
use Rattle.jnl_record.specs.Values.{record_value, IsFirstVersion}
use Rattle.region_store.specs.Region.{Standing, HoldsRegion, IsHeld, IsCutShort, flushed}
use Rattle.region_journals.specs.Logging.{MayBeAppended}
use Rattle.region_store.specs.Joined.{Joined, IsSameElsewhere, region_at}
use Rattle.region_store.proofs.Making.{region_elsewhere}
use Rattle.region_epochs.specs.declared.flushing.Flushed.{Flushed}
use Rattle.region_epochs.specs.Files.{IsDatabaseFile}
use Rattle.region_epochs.specs.Flushed.{AreEpochs, AreRestored, AreCutShort}
use Rattle.region_epochs.specs.Taken.{mark_of}
use Rattle.region_epochs.proofs.Lifts.{AreLifted}

-- ---- what is kept of each region

pushed : {X : Type 0} (P : ℕ → X → Type 0) (xs : List X) (x : X) → ((r : ℕ) (y : X) → slice_get xs r ≡ Some y → P r y) → P (length xs) x → (r : ℕ) (y : X) → slice_get (xs ++ x ∷ []) r ≡ Some y → P r y
pushed {X} P [] x each here zero y is = subst (P zero) (some_one x y is) here
  where
    some_one : (x y : X) → Some x ≡ Some y → x ≡ y
    some_one x y e = cc
pushed P [] x each here (suc r) y is = let gone : None ≡ Some y = is in cc
pushed P (z ∷ xs) x each here zero y is = each zero y is
pushed P (z ∷ xs) x each here (suc r) y is = pushed (λ q. P (suc q)) xs x (λ q. each (suc q)) here r y is

first_version : (what : JnlRecord) (m : Mark) → record_value what ≡ journal.Epoch m → IsFirstVersion what
first_version (Pini version region before generation previous) m is = cc
first_version (Epoch closing number blocks) m is = tt
first_version (Pblk block image) m is = tt
first_version (Tcom number mask origin count items) m is = tt

epoch_may_be : (what : JnlRecord) (m : Mark) → record_value what ≡ journal.Epoch m → m.number < NUMBERS_END → m.blocks < 2 ^ 32 → MayBeAppended what
epoch_may_be what m is number blocks = record {
  form = subst journal.IsInForm (sym is) (number, blocks);
  version = first_version what m is;
  short = subst (λ (r : journal.JournalRecord). length (journal.spelled_record r) ≤ 1048576) (sym is) (short m);
}
  where
    short : (m : Mark) → length (journal.spelled_record (journal.Epoch m)) ≤ 1048576
    short m = omega arith

-- the EPOCHs and marks of the first k regions
pub record EpochsTo (closing : Bool) (number k : ℕ) (j : Joined) (made : Flushed) : Type 0 where
  pub as_many_epochs : length made.epochs.items ≡ k
  pub as_many_images : length made.images.items ≡ k
  pub may_be : AllByRecursion MayBeAppended made.epochs.items
  pub epoch : (r : ℕ) (what : JnlRecord) → slice_get made.epochs.items r ≡ Some what → record_value what ≡ journal.Epoch (mark_of closing number j r)
  pub none : (r : ℕ) (images : List Bool) → slice_get made.images.items r ≡ Some images → images ≡ replicate (length (region_at j r).pool.leaves) false

pub no_epochs : (closing : Bool) (number : ℕ) (j : Joined) (made : Flushed) → made.epochs.items ≡ [] → made.images.items ≡ [] → EpochsTo closing number 0 j made
no_epochs closing number j made epochs images = record {
  as_many_epochs = ap length epochs;
  as_many_images = ap length images;
  may_be = subst (AllByRecursion MayBeAppended) (sym epochs) tt;
  epoch = λ r what is. let gone : None ≡ Some what = sym (ap (λ (l : List JnlRecord). slice_get l r) epochs) ∙ is in cc;
  none = λ r marks is. let gone : None ≡ Some marks = sym (ap (λ (l : List (List Bool)). slice_get l r) images) ∙ is in cc;
}

pub epoch_then : (closing : Bool) (number k : ℕ) (j : Joined) (old new : Flushed) (what : JnlRecord) (marks : List Bool) → EpochsTo closing number k j old
    → new.epochs.items ≡ old.epochs.items ++ what ∷ [] → new.images.items ≡ old.images.items ++ marks ∷ []
    → record_value what ≡ journal.Epoch (mark_of closing number j k) → number < NUMBERS_END → length (region_at j k).pool.leaves < 2 ^ 32 → marks ≡ replicate (length (region_at j k).pool.leaves) false
    → EpochsTo closing number (k + 1) j new
epoch_then closing number k j old new what marks so_far epochs images is few low none =
    let many = so_far.as_many_epochs in
    let many_images = so_far.as_many_images in
    record {
      as_many_epochs = let size = ap length epochs ∙ length-append old.epochs.items (what ∷ []) in omega (arith, size, many);
      as_many_images = let size = ap length images ∙ length-append old.images.items (marks ∷ []) in omega (arith, size, many_images);
      may_be = subst (AllByRecursion MayBeAppended) (sym epochs) (all_both MayBeAppended old.epochs.items (what ∷ []) so_far.may_be (epoch_may_be what (mark_of closing number j k) is few low, tt));
      epoch = λ r w at. pushed (λ r w. record_value w ≡ journal.Epoch (mark_of closing number j r)) old.epochs.items what so_far.epoch
          (subst (λ (q : ℕ). record_value what ≡ journal.Epoch (mark_of closing number j q)) (sym many) is) r w (subst (λ (l : List JnlRecord). slice_get l r ≡ Some w) epochs at);
      none = λ r m at. pushed (λ r m. m ≡ replicate (length (region_at j r).pool.leaves) false) old.images.items marks so_far.none
          (subst (λ (q : ℕ). marks ≡ replicate (length (region_at j q).pool.leaves) false) (sym many_images) none) r m (subst (λ (l : List (List Bool)). slice_get l r ≡ Some m) images at);
    }

-- ---- what is written

cut_none : (x : Standing) (bytes : List ℕ) → IsCutShort x bytes bytes
cut_none x bytes = record { changed = λ b. inr refl; may = λ e knows b. inr refl }

pub none_cut : (j : Joined) (files : Files) → AreCutShort j files files
none_cut j files = record { each = λ r low. cut_none (region_at j r) (files (database_file r)); others = λ f out. refl }

dirty_both : (x : Standing) (a b c : List ℕ) → ChangesDirty x.pool a b → ChangesDirty x.pool b c → ChangesDirty x.pool a c
dirty_both x a b c first second n = ⊎_elim (λ dirty. inl dirty) (λ same. ⊎_elim (λ dirty. inl dirty) (λ more. inr (more ∙ same)) (second n)) (first n)

cut_both : (x : Standing) (a b c : List ℕ) → IsCutShort x a b → IsCutShort x b c → IsCutShort x a c
cut_both x a b c first second = record {
  changed = dirty_both x a b c first.changed second.changed;
  may = λ e knows. both e (block_of a) (block_of b) (block_of c) (first.may e knows) (second.may e knows);
}

-- one region's file more
pub cut_then : (j : Joined) (k file : ℕ) (a b c : Files) → k < length j.regions → file ≡ database_file k → AreCutShort j a b → OnFile file (IsCutShort (region_at j k)) b c → AreCutShort j a c
cut_then j k file a b c low is so_far call = record {
  each = λ r inside. elim (cases_eq r k) [
    | inl here ↦ subst (λ (q : ℕ). IsCutShort (region_at j q) (a (database_file q)) (c (database_file q))) (sym here)
        (cut_both (region_at j k) (a (database_file k)) (b (database_file k)) (c (database_file k)) (so_far.each k low) (subst (λ (f : ℕ). IsCutShort (region_at j k) (b f) (c f)) is call.here))
    | inr other ↦ subst (λ (bytes : List ℕ). IsCutShort (region_at j r) (a (database_file r)) bytes) (sym (call.others (database_file r) (λ e. other (omega (arith, e, is))))) (so_far.each r inside)
  ];
  others = λ f out. call.others f (λ e. out (record { region = k; inside = low; is = e ∙ is })) ∙ so_far.others f out;
}

pub file_still : {T E : Type 0} (r : Result T E) (s t : Standing) → OnOk r (t ≡ flushed s) → OnErr r ((t ≡ s) ⊎ (t ≡ flushed s)) → t.file ≡ s.file
file_still (Ok x) s t ok err = ap (λ (z : Standing). z.file) ok
file_still (Err e) s t ok (inl same) = ap (λ (z : Standing). z.file) same
file_still (Err e) s t ok (inr wrote) = ap (λ (z : Standing). z.file) wrote

-- ---- one region more

-- what it reads as is known, or nothing is
told_or : (o : Option Files) (G : Type 0) → ((files : Files) → o ≡ Some files → G) → (o ≡ None → G) → G
told_or None G some none = none refl
told_or (Some files) G some none = some files refl

nothing_after : (o n : Option Files) (step : Files → Files → Type 0) (P : Files → Type 0) → ReadsAfter step o n → o ≡ None → IfSome n P
nothing_after o n step P after is = subst (λ (x : Option Files). IfSome x P) (sym (subst (λ (x : Option Files). ReadsAfter step x n) is after)) tt

module _ (u v w : View) (old now new : Joined) (k : ℕ) (low : k < length old.regions) (files : (r : ℕ) → r < length old.regions → (region_at old r).file ≡ database_file r)
    (left : region_at now k ≡ region_at old k) (same : IsSameElsewhere k now new) (frame : OthersStay (Only (region_at now k).file) v w) where
  here : (region_at now k).file ≡ database_file k
  here = ap (λ (x : Standing). x.file) left ∙ files k low

  away : (r : ℕ) → r ≢ k → database_file r ≢ (region_at now k).file
  away r other e = other (omega (arith, e, here))

  pub moments_then : IsLawful v → AtEachMoment u v (From (Image u) (AreCutShort old)) → AtEachMoment v w (From (Image v) (OnFile (region_at now k).file (IsCutShort (region_at now k)))) → AtEachMoment u w (From (Image u) (AreCutShort old))
  moments_then lawful so_far call =
      then_more u v w (From (Image u) (AreCutShort old)) (From (Image v) (OnFile (region_at now k).file (IsCutShort (region_at now k)))) so_far call
      (λ c from.
      let was = holds_now u v (From (Image u) (AreCutShort old)) lawful so_far from.0 from.1 in (
        was.0,
        was.1,
        cut_then old k (region_at now k).file was.0 from.0 c low here was.2 (subst (λ (x : Standing). OnFile (region_at now k).file (IsCutShort x) from.0 c) left from.2),
      ))

  pub frame_then : OthersStay (IsDatabaseFile (length old.regions)) u v → OthersStay (IsDatabaseFile (length old.regions)) u w
  frame_then so_far =
      others_then (IsDatabaseFile (length old.regions)) u v w so_far
      (others_wider (Only (region_at now k).file) (IsDatabaseFile (length old.regions)) v w (λ f is. record { region = k; inside = low; is = is ∙ here }) frame)

  -- another region
  other_reads : (P : Files → Type 0) (Q : Files → Type 0) → ((a b : Files) → P a → SameOutside (Only (region_at now k).file) a b → Q b) → IfSome v.content P → IfSome w.content Q
  other_reads P Q gives held = reads_after v.content w.content (SameOutside (Only (region_at now k).file)) P Q frame.content held gives

  holds_other : (r : ℕ) (e : Chosen) → r ≢ k → IfSome v.content (λ f. HoldsRegion e (f (database_file r)) (region_at now r)) → IfSome w.content (λ f. HoldsRegion e (f (database_file r)) (region_at new r))
  holds_other r e other held =
      other_reads (λ f. HoldsRegion e (f (database_file r)) (region_at now r)) (λ f. HoldsRegion e (f (database_file r)) (region_at new r))
      (λ a b h stay. subst (HoldsRegion e (b (database_file r))) (sym (region_elsewhere k now new same r other)) (subst (λ (bytes : List ℕ). HoldsRegion e bytes (region_at now r)) (sym (stay (database_file r) (away r other))) h)) held

  pub holds_then : ((e : Chosen) → IfSome v.content (λ f. HoldsRegion e (f (region_at now k).file) (region_at now k)) → IfSome w.content (λ f. HoldsRegion e (f (region_at now k).file) (region_at new k)))
      → (r : ℕ) (e : Chosen) → IfSome v.content (λ f. HoldsRegion e (f (database_file r)) (region_at now r)) → IfSome w.content (λ f. HoldsRegion e (f (database_file r)) (region_at new r))
  holds_then keeps r e held = elim (cases_eq r k) [
    | inl is ↦ subst (λ (q : ℕ). IfSome w.content (λ f. HoldsRegion e (f (database_file q)) (region_at new q))) (sym is)
        (subst (λ (n : ℕ). IfSome w.content (λ f. HoldsRegion e (f n) (region_at new k))) here
        (keeps e (subst (λ (n : ℕ). IfSome v.content (λ f. HoldsRegion e (f n) (region_at now k))) (sym here) (subst (λ (q : ℕ). IfSome v.content (λ f. HoldsRegion e (f (database_file q)) (region_at now q))) is held))))
    | inr other ↦ holds_other r e other held
  ]

  pub held_then : ((e : Chosen) → IfSome v.content (λ f. HoldsRegion e (f (region_at now k).file) (region_at now k)) → IfSome w.content (λ f. HoldsRegion e (f (region_at now k).file) (region_at new k)))
      → (r : ℕ) → (region_at now r).file ≡ database_file r → (region_at new r).file ≡ database_file r → IfSome v.content (IsHeld (region_at now r)) → IfSome w.content (IsHeld (region_at new r))
  held_then keeps r was is held = told_or v.content (IfSome w.content (IsHeld (region_at new r)))
      (λ f told.
      let h : IsHeld (region_at now r) f = subst (λ (o : Option Files). IfSome o (IsHeld (region_at now r))) told held in
      weaker_told w.content (λ f. HoldsRegion h.0 (f (database_file r)) (region_at new r)) (IsHeld (region_at new r))
      (holds_then keeps r h.0 (subst (λ (o : Option Files). IfSome o (λ f. HoldsRegion h.0 (f (database_file r)) (region_at now r))) (sym told) (subst (λ (n : ℕ). HoldsRegion h.0 (f n) (region_at now r)) was h.1)))
      (λ b holds. (h.0, subst (λ (n : ℕ). HoldsRegion h.0 (b n) (region_at new r)) (sym is) holds)))
      (λ none. nothing_after v.content w.content (SameOutside (Only (region_at now k).file)) (IsHeld (region_at new r)) frame.content none)

  -- the files of the first k regions are on the disk for good
  pub durable_then : IfSome v.content (λ f. (r : ℕ) → r < k → IsDurable v (database_file r) (f (database_file r))) → IfSome w.content (λ f. IsDurable w (region_at now k).file (f (region_at now k).file))
      → IfSome w.content (λ f. (r : ℕ) → r < k + 1 → IsDurable w (database_file r) (f (database_file r)))
  durable_then so_far call =
      both_weak w.content (λ f. (r : ℕ) → r < k → IsDurable w (database_file r) (f (database_file r))) (λ f. IsDurable w (region_at now k).file (f (region_at now k).file)) (λ f. (r : ℕ) → r < k + 1 → IsDurable w (database_file r) (f (database_file r)))
      (other_reads (λ f. (r : ℕ) → r < k → IsDurable v (database_file r) (f (database_file r))) (λ f. (r : ℕ) → r < k → IsDurable w (database_file r) (f (database_file r)))
      (λ a b durable stay r low_r.
      let apart : r ≢ k = λ e. omega (arith, e, low_r) in
      subst (IsDurable w (database_file r)) (sym (stay (database_file r) (away r apart))) (durable_stays (Only (region_at now k).file) v w (database_file r) (a (database_file r)) frame (away r apart) (durable r low_r))) so_far)
      call
      (λ f earlier last r low_r. elim (cases_eq r k) [
        | inl is ↦ subst (λ (q : ℕ). IsDurable w (database_file q) (f (database_file q))) (sym is) (subst (λ (n : ℕ). IsDurable w n (f n)) here last)
        | inr other ↦ earlier r (omega (arith, low_r, other))
      ])

  -- and hold their globals
  pub restored_then : IfSome v.content (λ f. (r : ℕ) (m : Mark) → r < k → m.blocks ≡ length (region_at old r).pool.leaves → Restores (image_state (fresh m) (block_of (f (database_file r)))) (region_at old r).globals)
      → IfSome w.content (λ f. (m : Mark) → m.blocks ≡ length (region_at now k).pool.leaves → Restores (image_state (fresh m) (block_of (f (region_at now k).file))) (region_at now k).globals)
      → IfSome w.content (λ f. (r : ℕ) (m : Mark) → r < k + 1 → m.blocks ≡ length (region_at old r).pool.leaves → Restores (image_state (fresh m) (block_of (f (database_file r)))) (region_at old r).globals)
  restored_then so_far call =
      both_weak w.content (λ f. (r : ℕ) (m : Mark) → r < k → m.blocks ≡ length (region_at old r).pool.leaves → Restores (image_state (fresh m) (block_of (f (database_file r)))) (region_at old r).globals)
      (λ f. (m : Mark) → m.blocks ≡ length (region_at now k).pool.leaves → Restores (image_state (fresh m) (block_of (f (region_at now k).file))) (region_at now k).globals)
      (λ f. (r : ℕ) (m : Mark) → r < k + 1 → m.blocks ≡ length (region_at old r).pool.leaves → Restores (image_state (fresh m) (block_of (f (database_file r)))) (region_at old r).globals)
      (other_reads (λ f. (r : ℕ) (m : Mark) → r < k → m.blocks ≡ length (region_at old r).pool.leaves → Restores (image_state (fresh m) (block_of (f (database_file r)))) (region_at old r).globals)
      (λ f. (r : ℕ) (m : Mark) → r < k → m.blocks ≡ length (region_at old r).pool.leaves → Restores (image_state (fresh m) (block_of (f (database_file r)))) (region_at old r).globals)
      (λ a b restored stay r m low_r is.
      subst (λ (bytes : List ℕ). Restores (image_state (fresh m) (block_of bytes)) (region_at old r).globals) (sym (stay (database_file r) (away r (λ e. omega (arith, e, low_r))))) (restored r m low_r is)) so_far)
      call
      (λ f earlier last r m low_r is. elim (cases_eq r k) [
        | inl at ↦ subst (λ (q : ℕ). m.blocks ≡ length (region_at old q).pool.leaves → Restores (image_state (fresh m) (block_of (f (database_file q)))) (region_at old q).globals) (sym at)
            (λ blocks. subst (λ (x : Standing). Restores (image_state (fresh m) (block_of (f (database_file k)))) x.globals) left
            (subst (λ (n : ℕ). Restores (image_state (fresh m) (block_of (f n))) (region_at now k).globals) here (last m (blocks ∙ ap (λ (x : Standing). length x.pool.leaves) (sym left))))) is
        | inr other ↦ earlier r m (omega (arith, low_r, other)) is
      ])

-- in the end
pub all_restored : (o : Option Files) (old new : Joined) (k : ℕ) → length old.regions ≤ k → length new.regions ≡ length old.regions → AreLifted (λ r x y. y ≡ flushed x) k old new
    → IfSome o (λ f. (r : ℕ) (m : Mark) → r < k → m.blocks ≡ length (region_at old r).pool.leaves → Restores (image_state (fresh m) (block_of (f (database_file r)))) (region_at old r).globals)
    → IfSome o (AreRestored new)
all_restored o old new k end count lifted restored =
    weaker_told o (λ f. (r : ℕ) (m : Mark) → r < k → m.blocks ≡ length (region_at old r).pool.leaves → Restores (image_state (fresh m) (block_of (f (database_file r)))) (region_at old r).globals) (AreRestored new) restored
    (λ f each. record {
      each = λ r m low is.
          let wrote = lifted.done r (omega (arith, low, end, count)) in
          subst (λ (x : Standing). Restores (image_state (fresh m) (block_of (f (database_file r)))) x.globals) (sym wrote)
          (each r m (omega (arith, low, end, count)) (is ∙ ap (λ (x : Standing). length x.pool.leaves) wrote));
    })

-- and at first
pub none_below : (v : View) (o : Option Files) → IfSome o (λ f. (r : ℕ) → r < 0 → IsDurable v (database_file r) (f (database_file r)))
none_below v None = tt
none_below v (Some f) = λ r low. absurd (omega (arith, low))

pub none_restored : (old : Joined) (o : Option Files) → IfSome o (λ f. (r : ℕ) (m : Mark) → r < 0 → m.blocks ≡ length (region_at old r).pool.leaves → Restores (image_state (fresh m) (block_of (f (database_file r)))) (region_at old r).globals)
none_restored old None = tt
none_restored old (Some f) = λ r m low is. absurd (omega (arith, low))
