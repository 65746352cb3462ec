-- Regions that stay those of some epoch and the disk, through the calls of tests.
use Rattle.std.proofs.Common.{◌≡◌, ◌⊎◌, ⊎_elim, ℕ, ◌+◌, ◌<◌, List, [], ◌∷◌, ◌++◌, false, length, map, take, Option, Some, None, refl, sym, ap, subst, ◌∙◌, get_or}
use Rattle.std.specs.Prelude.{Result, Ok, Err, IfSome, IfOk, OnOk, OnErr}
use Rattle.std.proofs.lemmas.List.{take_more}
use Rattle.disk_defs.specs.Disk.{Files, ReadsAfter}
use Rattle.disk_defs.proofs.Told.{weaker_told}
use Rattle.journal_defs.specs.Journal.{Mark, IsInForm}
use Rattle.journal_defs.specs.Epochs.{Chosen}
use Rattle.journal_defs.specs.Undo.{fresh}
use Rattle.block_laws.specs.Nodes.{AreFormed}
use Rattle.block_laws.specs.Several.{logged_all}
use Rattle.before_image.specs.Images.{placed_images}
use Rattle.jnl_record.specs.Values.{record_value, placed_value}
use Rattle.jnl_record.specs.declared.placed.PlacedRecord.{PlacedRecord}
use Rattle.region_store.specs.declared.error.RegionError.{RegionError}
use Rattle.region_store.specs.Laid.{epoch_at}
use Rattle.region_store.specs.Region.{Standing, HoldsRegion, IsHeld, changed_images, flushed}

formed_append : (ps : List PlacedRecord) (x : PlacedRecord) → AreFormed (map placed_value ps) → IsInForm (record_value x.what) → AreFormed (map placed_value (ps ++ x ∷ []))
formed_append [] x all is = (is, tt)
formed_append (p ∷ ps) x all is = (all.0, formed_append ps x all.1 is)

-- a record more of its form
pub formed_more : (ps : List PlacedRecord) (i : ℕ) (x : PlacedRecord) → i < length ps → x ≡ get_or ps i x → AreFormed (map placed_value (take i ps)) → IsInForm (record_value x.what) → AreFormed (map placed_value (take (i + 1) ps))
formed_more ps i x low is all form =
    subst (λ (qs : List PlacedRecord). AreFormed (map placed_value qs)) (sym (take_more ps i x low ∙ ap (λ (y : PlacedRecord). take i ps ++ y ∷ []) (sym is))) (formed_append (take i ps) x all form)

-- a region with another in its place, of the same file
held_as : (o : Option Files) (s t : Standing) → t.file ≡ s.file → ((e : Chosen) (bytes : List ℕ) → HoldsRegion e bytes s → (d : Chosen) × HoldsRegion d bytes t) → IfSome o (IsHeld s) → IfSome o (IsHeld t)
held_as o s t file keeps told = weaker_told o (IsHeld s) (IsHeld t) told (λ files h.
    let k = keeps h.0 (files s.file) h.1 in
    (k.0, subst (λ (f : ℕ). HoldsRegion k.0 (files f) t) (sym file) k.1))

pub applied_held : (s t : Standing) → t.file ≡ s.file → ((e : Chosen) (bytes : List ℕ) → HoldsRegion e bytes s → HoldsRegion e bytes t) → (o : Option Files) → IfSome o (IsHeld s) → IfSome o (IsHeld t)
applied_held s t file keeps o told = held_as o s t file (λ e bytes h. (e, keeps e bytes h)) told

pub marked_held : (o : Option Files) (s t : Standing) → t.file ≡ s.file → ((e : Chosen) (bytes : List ℕ) (g : ℕ) → HoldsRegion e bytes s → HoldsRegion (logged_all e (placed_images g (changed_images s bytes))) bytes t)
    → IfSome o (IsHeld s) → IfSome o (IsHeld t)
marked_held o s t file keeps told = held_as o s t file (λ e bytes h. (logged_all e (placed_images 1 (changed_images s bytes)), keeps e bytes 1 h)) told

pub begun_held : (o : Option Files) (s t : Standing) → t.file ≡ s.file → ((e : Chosen) (bytes : List ℕ) (m : Mark) → m.blocks ≡ length s.pool.leaves → HoldsRegion e bytes s → HoldsRegion (fresh m) bytes t)
    → IfSome o (IsHeld s) → IfSome o (IsHeld t)
begun_held o s t file keeps told = held_as o s t file (λ e bytes h.
    let m : Mark = record { closing = false; number = 7; blocks = length s.pool.leaves } in
    (fresh m, keeps e bytes m refl h)) told

pub flushed_held : (o n : Option Files) (s t : Standing) (step : Files → Files → Type 0) → ReadsAfter step o n → t.file ≡ s.file
    → ((e : Chosen) → IfSome o (λ files. HoldsRegion e (files s.file) s) → IfSome n (λ files. HoldsRegion e (files s.file) t)) → IfSome o (IsHeld s) → IfSome n (IsHeld t)
flushed_held None n s t step after file keeps told = subst (λ (x : Option Files). IfSome x (IsHeld t)) (sym after) tt
flushed_held (Some a) n s t step after file keeps told =
    weaker_told n (λ files. HoldsRegion told.0 (files s.file) t) (IsHeld t) (keeps told.0 told.1) (λ files h. (told.0, subst (λ (f : ℕ). HoldsRegion told.0 (files f) t) (sym file) h))

pub opened_held : (r : Result Standing RegionError) (o n : Option Files) (file blocks : ℕ) (behind : List PlacedRecord) → n ≡ o → IfOk r (λ made. made.file ≡ file)
    → IfOk r (λ made. IfSome o (λ files. (number : ℕ) → HoldsRegion (epoch_at number blocks behind) (files file) made)) → IfOk r (λ made. IfSome n (IsHeld made))
opened_held (Ok s) o n file blocks behind same is holds =
    subst (λ (x : Option Files). IfSome x (IsHeld s)) (sym same)
    (weaker_told o (λ files. (number : ℕ) → HoldsRegion (epoch_at number blocks behind) (files file) s) (IsHeld s) holds
    (λ files h. (epoch_at 0 blocks behind, subst (λ (f : ℕ). HoldsRegion (epoch_at 0 blocks behind) (files f) s) (sym is) (h 0))))
opened_held (Err e) o n file blocks behind same is holds = tt

-- a flush leaves the file's number, whether it succeeds or not
pub file_still : {T : Type 0} (r : Result T RegionError) (s t : Standing) → OnOk r (t ≡ flushed s) → OnErr r ((t ≡ s) ⊎ (t ≡ flushed s)) → t.file ≡ s.file
file_still (Ok x) s t ok err = ap (λ (x : Standing). x.file) ok
file_still (Err e) s t ok err = ⊎_elim (λ is. ap (λ (x : Standing). x.file) is) (λ is. ap (λ (x : Standing). x.file) is) err
