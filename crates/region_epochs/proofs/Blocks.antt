-- Regions' blocks against their journals, as images come.
use Rattle.std.proofs.Common.{◌≡◌, inl, inr, ◌≤◌, ℕ, zero, suc, Bool, true, false, List, [], ◌∷◌, ◌++◌, length, map, refl, sym, ◌∙◌, ap, subst, append-nil, append_assoc}
use Rattle.std.specs.Prelude.{if◌then◌else◌}
use Rattle.std.proofs.lemmas.List.{map-append, get_or_past}
use Rattle.disk_defs.specs.Disk.{Files, View, IsDurable}
use Rattle.global_defs.specs.Entry.{Sequence}
use Rattle.journal_defs.specs.Numbers.{database_file}
use Rattle.journal_defs.specs.Journal.{Pblk, Before}
use Rattle.journal_defs.specs.Instance.{InstanceRecord}
use Rattle.journal_defs.specs.Sequence.{Placed, Records}
use Rattle.journal_defs.specs.Epochs.{Chosen, chosen, block_of, NeedsForward}
use Rattle.journal_defs.specs.Undo.{MayAppend}
use Rattle.journal_defs.specs.Stands.{in_generation}
use Rattle.journal_defs.specs.Growth.{with_more}
use Rattle.journal_laws.proofs.ImageSteps.{all_both}
use Rattle.journal_laws.proofs.EveryTarget.{goes_on}
use Rattle.block_laws.specs.Several.{MayAppendAll, logged_all}
use Rattle.block_laws.proofs.Appends.{chosen_all}
use Rattle.before_image.specs.Images.{is_free, placed_images}
use Rattle.block_pool.specs.Pool.{is_dirty}
use Rattle.region_store.specs.Region.{Standing, HoldsRegion, IsHeld, image_at, images_below, changed_images, with_marks, logged_marks, AreLogged}
use Rattle.region_store.specs.Joined.{Joined, no_region}
use Rattle.region_epochs.specs.Kept.{image_records, images_in, IsRegionKept}

-- ---- images as they stand on the file may be appended

may_one : (e : Chosen) (bytes : List ℕ) (g b : ℕ) (dirty free : Bool) → MayAppendAll e (block_of bytes) (map (in_generation g) (image_records (if dirty then (if free then [] else record { block = b; bytes = block_of bytes b } ∷ []) else [])))
may_one e bytes g b false free = tt
may_one e bytes g b true true = tt
may_one e bytes g b true false = (inr refl, tt)

records_append : (g : ℕ) (is js : List Before) → map (in_generation g) (image_records (is ++ js)) ≡ map (in_generation g) (image_records is) ++ map (in_generation g) (image_records js)
records_append g is js = ap (map (in_generation g)) (map-append (λ i. Pblk i) is js) ∙ map-append (in_generation g) (image_records is) (image_records js)

may_below : (e : Chosen) (bytes : List ℕ) (g : ℕ) (x : Standing) (n : ℕ) → MayAppendAll e (block_of bytes) (map (in_generation g) (image_records (images_below x bytes n)))
may_below e bytes g x zero = tt
may_below e bytes g x (suc n) =
    subst (MayAppendAll e (block_of bytes)) (sym (records_append g (images_below x bytes n) (image_at x bytes n)))
    (all_both (λ (p : Placed). MayAppend e (block_of bytes) p.what) (map (in_generation g) (image_records (images_below x bytes n))) (map (in_generation g) (image_records (image_at x bytes n)))
    (may_below e bytes g x n) (may_one e bytes g n (is_dirty x.pool n) (is_free x.imaged n)))

pub may_append : (e : Chosen) (bytes : List ℕ) (g : ℕ) (x : Standing) → MayAppendAll e (block_of bytes) (map (in_generation g) (image_records (changed_images x bytes)))
may_append e bytes g x = may_below e bytes g x (length x.pool.leaves)

-- ---- a number past the regions

pub no_images_past : (j : Joined) (files : Files) (r : ℕ) → length j.regions ≤ r → images_in j files r ≡ []
no_images_past j files r past = ap (λ (x : Standing). image_records (changed_images x (files x.file))) (get_or_past j.regions r no_region past)

-- ---- a region with its images logged

pub placed_same : (g : ℕ) (is : List Before) → placed_images g is ≡ map (in_generation g) (image_records is)
placed_same g [] = refl
placed_same g (i ∷ is) = ap (λ (l : List Placed). in_generation g (Pblk i) ∷ l) (placed_same g is)

pub needs_more : (instance : List InstanceRecord) (t g : ℕ) (journal : List Placed) (is : List Before) → NeedsForward instance t journal → NeedsForward instance t (journal ++ map (in_generation g) (image_records is))
needs_more instance t g journal [] needs = subst (NeedsForward instance t) (sym (append-nil journal)) needs
needs_more instance t g journal (i ∷ is) needs =
    subst (NeedsForward instance t) (append_assoc journal (in_generation g (Pblk i) ∷ []) (map (in_generation g) (image_records is)))
    (needs_more instance t g (journal ++ in_generation g (Pblk i) ∷ []) is (goes_on instance t journal (in_generation g (Pblk i)) refl needs))

-- what keeping its marks makes of it
abbrev pub KeepsMarks : Standing → Standing → Type 0
KeepsMarks x y = (y ≡ with_marks x (logged_marks x)) × ((e : Chosen) (bytes : List ℕ) (g : ℕ) → HoldsRegion e bytes x → HoldsRegion (logged_all e (placed_images g (changed_images x bytes))) bytes y)

-- so it is of a region, and its changed blocks may be written
pub record IsMarked (r : ℕ) (x y : Standing) : Type 0 where
  pub keeps : KeepsMarks x y
  pub logged : AreLogged y

pub held_marked : (x y : Standing) (files now : Files) → KeepsMarks x y → now x.file ≡ files x.file → IsHeld x files → IsHeld y now
held_marked x y files now marks same held =
    let e : Chosen = logged_all held.0 (placed_images 0 (changed_images x (files x.file))) in
    let h : HoldsRegion e (files x.file) y = marks.1 held.0 (files x.file) 0 held.1 in
    (e, subst (λ (bytes : List ℕ). HoldsRegion e bytes y) (sym (ap (λ (z : Standing). now z.file) marks.0 ∙ same)) h)

pub region_marked : (u v : View) (s : Records) (seq : Sequence) (g r : ℕ) (x y : Standing) (files now : Files) (more : ℕ → List Placed) → KeepsMarks x y → IsRegionKept u files s seq r x
    → more r ≡ map (in_generation g) (image_records (changed_images x (files x.file))) → now (database_file r) ≡ files (database_file r) → IsDurable v (database_file r) (files (database_file r))
    → IsRegionKept v now (with_more s more) seq r y
region_marked u v s seq g r x y files now more marks was are same durable = record {
  file = ap (λ (z : Standing). z.file) marks.0 ∙ was.file;
  part = ap (λ (z : Standing). z.globals) marks.0 ∙ was.part;
  durable = subst (IsDurable v (database_file r)) (sym same) durable;
  held = held_marked x y files now marks (ap now was.file ∙ same ∙ ap files (sym was.file)) was.held;
  holds = elim was.holds [
    | inl needs ↦ inl (subst (λ (l : List Placed). NeedsForward s.instance (length seq) (s.journal r ++ l)) (sym are) (needs_more s.instance (length seq) g (s.journal r) (changed_images x (files x.file)) needs))
    | inr h ↦ inr (on_epoch h)
  ];
}
  where
    on_epoch : HoldsRegion (chosen s.instance (length seq) (s.journal r)) (files (database_file r)) x → HoldsRegion (chosen s.instance (length seq) (s.journal r ++ more r)) (now (database_file r)) y
    on_epoch h =
        subst (λ (b : List ℕ). HoldsRegion (chosen s.instance (length seq) (s.journal r ++ more r)) b y) (sym same)
        (subst (λ (c : Chosen). HoldsRegion c (files (database_file r)) y) (sym is) (marks.1 (chosen s.instance (length seq) (s.journal r)) (files (database_file r)) g h))
      where
        is : chosen s.instance (length seq) (s.journal r ++ more r) ≡ logged_all (chosen s.instance (length seq) (s.journal r)) (placed_images g (changed_images x (files (database_file r))))
        is = ap (λ (l : List Placed). chosen s.instance (length seq) (s.journal r ++ l)) are
            ∙ chosen_all s.instance (length seq) (s.journal r) (chosen s.instance (length seq) (s.journal r)) (block_of (files x.file)) (map (in_generation g) (image_records (changed_images x (files x.file))))
            (may_append (chosen s.instance (length seq) (s.journal r)) (files x.file) g x)
            ∙ ap (λ (f : ℕ). logged_all (chosen s.instance (length seq) (s.journal r)) (map (in_generation g) (image_records (changed_images x (files f))))) was.file
            ∙ ap (logged_all (chosen s.instance (length seq) (s.journal r))) (sym (placed_same g (changed_images x (files (database_file r)))))
