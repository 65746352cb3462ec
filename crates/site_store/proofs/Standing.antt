-- What an open site's images stand for, and what they still stand for once nothing but room has changed.
use Rattle.std.proofs.Common.{◌≡◌, ℕ, true, length, map, take, None, Some, subst, refl, suc, ◌++◌}
use Rattle.std.specs.Prelude.{Option, IfSome, IsSome, IsSomeAnd}
use Rattle.std.proofs.Math.Seq.{take-length}
use Rattle.disk_defs.specs.Disk.{Files, View, Image, IsLawful, ReadsAfter}
use Rattle.disk_defs.specs.Frames.{SameOutside, OthersStay}
use Rattle.disk_defs.proofs.Told.{weaker_told}
use Rattle.journal_defs.specs.Growth.{with_more}
use Rattle.journal_defs.specs.Stands.{in_generation}
use Rattle.instance_file.specs.Instance as instances
use Rattle.region_journals.specs.Journals.{KeepsJournals}
use Rattle.site_defs.specs.Contents.{Contents}
use Rattle.site_defs.specs.Fronts.{with_sequence}
use Rattle.site_defs.specs.Stands.{IsSite}
use Rattle.site_store.specs.declared.memory.Memory.{Memory}
use Rattle.region_store.specs.Joined.{AreChanged}
use Rattle.site_store.specs.Committing.{IsSameIndex}
use Rattle.site_store.specs.Site.{Keeps, IsOpen}
use Rattle.site_store.proofs.OnBlocks.{on_changed}
use Rattle.site_store.proofs.Places.{same_index}
use Rattle.journal_defs.specs.Surviving.{reigns}

-- with all of its entries hardened, each image stands for its contents
pub images_stand : (v : View) (c : Contents) (s : Memory) → IsOpen v true c (length c.sequence) s → (f : Files) → Image v f → IsSite f c
images_stand v c s is f i = subst (λ seq. IsSite f (with_sequence c seq)) (take-length c.sequence) ((is.kept refl).images f i)

-- as it reads
pub reads_of : (w : View) (P : Files → Type 0) → IsLawful w → ((f : Files) → Image w f → P f) → IfSome w.content P
reads_of w P lawful images = weaker_told w.content (λ f. w.since w.moment f) P lawful.as_read images

pub reads_so : (w : View) (P : Files → Type 0) → IsLawful w → IsSome w.content → ((f : Files) → Image w f → P f) → IsSomeAnd w.content P
reads_so w P lawful told images = among w.content told (reads_of w P lawful images)
  where
    among : (o : Option Files) → IsSome o → IfSome o P → IsSomeAnd o P
    among None t h = absurd (cc t)
    among (Some f) t h = h

pub told_of : (v : View) (c : Contents) (n : ℕ) (s : Memory) → Keeps v c n s → IsSome v.content
told_of v c n s k = among v.content k.reads
  where
    among : (o : Option Files) → IsSomeAnd o (λ files. IsSite files (with_sequence c (take n c.sequence))) → IsSome o
    among None h = absurd h
    among (Some f) h = refl

pub still : (v w : View) (F : ℕ → Type 0) → OthersStay F v w → IsSome v.content → IsSome w.content
still v w F stays told = among v.content w.content told stays.content
  where
    among : (o n : Option Files) → IsSome o → ReadsAfter (SameOutside F) o n → IsSome n
    among None n t h = absurd (cc t)
    among (Some a) None t h = absurd h
    among (Some a) (Some b) t h = refl

-- the files as they read are an image
pub read_image : (v : View) → IsLawful v → IsSome v.content → (files : Files) × (v.content ≡ Some files) × Image v files
read_image v lawful told = among v.content told lawful.as_read
  where
    among : (o : Option Files) → IsSome o → IfSome o (λ f. v.since v.moment f) → (files : Files) × (o ≡ Some files) × Image v files
    among None t i = absurd (cc t)
    among (Some files) t i = (files, refl, i)

-- where each image is one from before
pub keeps_images : (v w : View) (c : Contents) (h : ℕ) (old new : Memory) (k : Keeps v c h old) → IsLawful w → IsSome w.content → ((f : Files) → Image w f → Image v f) → instances.HasRecords w new.instance c.instance
    → KeepsJournals w k.newer k.waits new.journals.journals.items → AreChanged old.globals new.globals → IsSameIndex old.entries new.entries → Keeps w c h new
keeps_images v w c h old new k lawful told from instance journals changed entries = record {
  count = k.count;
  few_nodes = k.few_nodes;
  reads = reads_so w (λ files. IsSite files (with_sequence c (take h c.sequence))) lawful told (λ f now. k.images f (from f now));
  images = λ f now. k.images f (from f now);
  records = k.records;
  g = k.g;
  last = k.last;
  older = k.older;
  newer = k.newer;
  waits = k.waits;
  newest = k.newest;
  sound = λ f now. k.sound f (from f now);
  older_files = λ f now. k.older_files f (from f now);
  older_stand = λ f now. k.older_stand f (from f now);
  none_past = k.none_past;
  blocks = λ f now. on_changed f (with_more k.records (λ r. map (in_generation (suc k.g)) (k.waits r))) h old.globals new.globals changed (k.blocks f (from f now));
  databases = λ f d i j. k.databases f d (from f i) (from d j);
  no_epoch_past = k.no_epoch_past;
  waiting = k.waiting;
  are_waiting = k.are_waiting;
  are_parts = k.are_parts;
  in_regions = k.in_regions;
  indexed = same_index old.entries new.entries entries (λ r. k.records.journal r ++ map (in_generation (suc k.g)) (k.waits r)) (reigns c.instance) c.sequence k.indexed;
  are_waits = k.are_waits;
  may_append = λ f now. k.may_append f (from f now);
  instance_file = instance;
  journal_files = journals;
}
