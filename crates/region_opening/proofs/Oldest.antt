-- The oldest images among records, of which the others make no difference.
use Rattle.std.proofs.Common.{◌≡◌, ℕ, ◌*◌, List, [], ◌∷◌, map, drop, Option, Result, Ok, Err, IfSome, refl, sym, ◌∙◌, ap, subst}
use Rattle.std.specs.Prelude.{IfOk, IsSome, nat_lt, unwrap_or, replicate, ◌==◌, Some, None, if◌then◌else◌}
use Rattle.std.specs.Option.{option_or}
use Rattle.disk_defs.specs.Disk.{Files}
use Rattle.disk_defs.proofs.Told.{both_weak, told_at, weaker_told}
use Rattle.journal_defs.specs.Journal.{JournalRecord, Pini, Epoch, Pblk, Tcom}
use Rattle.journal_defs.specs.Numbers.{database_file}
use Rattle.journal_defs.specs.Sequence.{Placed}
use Rattle.journal_defs.specs.Epochs.{Blocks, Chosen, image_in, image_of, image_state, block_of}
use Rattle.site_defs.specs.OutsideBlocks.{IsOutsideAt}
use Rattle.jnl_record.specs.declared.placed.PlacedRecord.{PlacedRecord}
use Rattle.jnl_record.specs.Values.{placed_value}
use Rattle.entry_index.specs.declared.placed.PlacedSign.{PlacedSign}
use Rattle.region_store.specs.Laid.{epoch_at}
use Rattle.region_store.specs.Region.{Standing, HoldsRegion, IsHeld, IsReplayed}
use Rattle.region_opening.specs.Images.{images_in}
use Rattle.region_opening.specs.Signs.{AreTold}
use Rattle.region_opening.proofs.Said.{told_behind}

one_more : (g : ℕ) (what : JournalRecord) (ps : List Placed) (b : ℕ) → image_of (images_in ps) b ≡ image_of ps b
    → image_of (images_in (record { generation = g; what = what } ∷ ps)) b ≡ image_of (record { generation = g; what = what } ∷ ps) b
one_more g (Pblk i) ps b rest = ap (option_or (image_in (Pblk i) b)) rest
one_more g (Pini s) ps b rest = rest
one_more g (Epoch m) ps b rest = rest
one_more g (Tcom p) ps b rest = rest

pub same_images : (ps : List Placed) (b : ℕ) → image_of (images_in ps) b ≡ image_of ps b
same_images [] b = refl
same_images (p ∷ ps) b = one_more p.generation p.what ps b (same_images ps b)

-- an epoch with these records behind it
abbrev of_records : ℕ → ℕ → List Placed → Chosen
of_records number blocks ps = record { number = number; blocks = blocks; after = ps }

same_state : (number blocks : ℕ) (ps : List Placed) (database : Blocks) → image_state (of_records number blocks (images_in ps)) database ≡ image_state (of_records number blocks ps) database
same_state number blocks ps database = λ i b. if nat_lt b blocks then Some (unwrap_or (same_images ps b i) (database b)) else if b == 0 then Some (replicate 4096 0) else None

same_holds : (number blocks : ℕ) (ps : List Placed) (bytes : List ℕ) (s : Standing) → HoldsRegion (of_records number blocks (images_in ps)) bytes s → HoldsRegion (of_records number blocks ps) bytes s
same_holds number blocks ps bytes s h = record {
  clean = h.clean;
  blocks = h.blocks;
  knows = record {
    blocks = h.knows.blocks;
    imaged = λ b low free. subst IsSome (same_images ps b) (h.knows.imaged b low free);
    others = λ b low no. sym (same_images ps b) ∙ h.knows.others b low no;
  };
  whole = h.whole;
}

-- a region that was opened with the images among the records behind an epoch
module _ (o : Option Files) (n after number blocks : ℕ) (signs given : List PlacedSign) (images opened : List PlacedRecord) (is : given ≡ drop after signs) (same : opened ≡ images)
    (told : IfSome o (λ files. (js : List Placed) → AreTold files n given js → map placed_value images ≡ images_in js)) where
  -- the images are those of the records behind
  among : (files : Files) (js : List Placed) → ((ks : List Placed) → AreTold files n given ks → map placed_value images ≡ images_in ks) → AreTold files n signs js
      → map placed_value opened ≡ images_in (drop after js)
  among files js all are = ap (map placed_value) same ∙ all (drop after js) (subst (λ (ss : List PlacedSign). AreTold files n ss (drop after js)) (sym is) (told_behind files n signs js after are))

  pub holds_behind : (made : Standing) → IfSome o (λ files. (m : ℕ) → HoldsRegion (epoch_at m blocks opened) (files (database_file n)) made)
      → IfSome o (λ files. (js : List Placed) → AreTold files n signs js → HoldsRegion (of_records number blocks (drop after js)) (files (database_file n)) made)
  holds_behind made holds = both_weak o (λ files. (js : List Placed) → AreTold files n given js → map placed_value images ≡ images_in js) (λ files. (m : ℕ) → HoldsRegion (epoch_at m blocks opened) (files (database_file n)) made)
      (λ files. (js : List Placed) → AreTold files n signs js → HoldsRegion (of_records number blocks (drop after js)) (files (database_file n)) made) told holds
      (λ files all h js are. same_holds number blocks (drop after js) (files (database_file n)) made
      (subst (λ (ps : List Placed). HoldsRegion (of_records number blocks ps) (files (database_file n)) made) (among files js all are) (h number)))

  pub globals_behind : (made : Standing) → IfSome o (λ files. (m : ℕ) → IsReplayed (image_state (epoch_at m blocks opened) (block_of (files (database_file n)))) [] made.globals)
      → IfSome o (λ files. (js : List Placed) → AreTold files n signs js → IsReplayed (image_state (of_records number blocks (drop after js)) (block_of (files (database_file n)))) [] made.globals)
  globals_behind made globals = both_weak o (λ files. (js : List Placed) → AreTold files n given js → map placed_value images ≡ images_in js)
      (λ files. (m : ℕ) → IsReplayed (image_state (epoch_at m blocks opened) (block_of (files (database_file n)))) [] made.globals)
      (λ files. (js : List Placed) → AreTold files n signs js → IsReplayed (image_state (of_records number blocks (drop after js)) (block_of (files (database_file n)))) [] made.globals) told globals
      (λ files all h js are. subst (λ (state : ℕ → Option (List ℕ)). IsReplayed state [] made.globals) (same_state number blocks (drop after js) (block_of (files (database_file n))))
      (subst (λ (ps : List Placed). IsReplayed (image_state (of_records number blocks ps) (block_of (files (database_file n)))) [] made.globals) (among files js all are) (h number)))

  pub outside_behind : (f offset : ℕ) → f ≡ database_file n → IfSome o (λ files. (m : ℕ) → (b : ℕ) × (offset ≡ 4096 * b) × IsOutsideAt (image_state (epoch_at m blocks opened) (block_of (files (database_file n)))) b)
      → IfSome o (λ files. (js : List Placed) → AreTold files n signs js → (f ≡ database_file n) × (b : ℕ) × (offset ≡ 4096 * b) × IsOutsideAt (image_state (of_records number blocks (drop after js)) (block_of (files (database_file n)))) b)
  outside_behind f offset at outside = both_weak o (λ files. (js : List Placed) → AreTold files n given js → map placed_value images ≡ images_in js)
      (λ files. (m : ℕ) → (b : ℕ) × (offset ≡ 4096 * b) × IsOutsideAt (image_state (epoch_at m blocks opened) (block_of (files (database_file n)))) b)
      (λ files. (js : List Placed) → AreTold files n signs js → (f ≡ database_file n) × (b : ℕ) × (offset ≡ 4096 * b) × IsOutsideAt (image_state (of_records number blocks (drop after js)) (block_of (files (database_file n)))) b) told outside
      (λ files all h js are.
      let here = h number in (
        at,
        here.0,
        here.1,
        subst (λ (state : ℕ → Option (List ℕ)). IsOutsideAt state here.0) (same_state number blocks (drop after js) (block_of (files (database_file n))))
            (subst (λ (ps : List Placed). IsOutsideAt (image_state (of_records number blocks ps) (block_of (files (database_file n)))) here.0) (among files js all are) here.2),
      ))

-- it's on the blocks of some epoch, whatever was read
pub held_opened : {E : Type 0} (result : Result Standing E) (o v : Option Files) (file blocks : ℕ) (opened : List PlacedRecord) → v ≡ o → IfOk result (λ made. made.file ≡ file)
    → IfOk result (λ made. IfSome v (λ files. (m : ℕ) → HoldsRegion (epoch_at m blocks opened) (files file) made)) → IfOk result (λ made. IfSome o (IsHeld made))
held_opened (Err e) o v file blocks opened same at holds = tt
held_opened (Ok made) o v file blocks opened same at holds =
    told_at o v (IsHeld made) same (weaker_told v (λ files. (m : ℕ) → HoldsRegion (epoch_at m blocks opened) (files file) made) (IsHeld made) holds
    (λ files h. (epoch_at 0 blocks opened, subst (λ (f : ℕ). HoldsRegion (epoch_at 0 blocks opened) (files f) made) (sym at) (h 0))))

-- where the images aren't there, nothing is told
pub nothing_told : (o : Option Files) (n after : ℕ) (signs given : List PlacedSign) → given ≡ drop after signs → (P : Files → List Placed → Type 0)
    → IfSome o (λ files. (js : List Placed) → AreTold files n given js → ⊥) → IfSome o (λ files. (js : List Placed) → AreTold files n signs js → P files js)
nothing_told o n after signs given is P none = weaker_told o (λ files. (js : List Placed) → AreTold files n given js → ⊥) (λ files. (js : List Placed) → AreTold files n signs js → P files js) none
    (λ files gone js are. absurd (gone (drop after js) (subst (λ (ss : List PlacedSign). AreTold files n ss (drop after js)) (sym is) (told_behind files n signs js after are))))
