-- An open site after a call that reads.
use Rattle.std.proofs.Common.{ℕ, suc, Bool, List, [], map, take, None, Some, refl, sym, subst, length}
use Rattle.std.specs.Prelude.{Option, IfSome, IsSomeAnd}
use Rattle.disk_defs.specs.Disk.{Files, View, Image, Reads}
use Rattle.gated_file.specs.State as gated
use Rattle.gated_file.proofs.Others.{more_holds}
use Rattle.jnl_file.specs.Records.{Recorded, StandsRecords}
use Rattle.jnl_file.specs.Journal as journals
use Rattle.jnl_file.specs.Journal.{HoldsRecords, HasRecords}
use Rattle.jnl_file.specs.declared.journal.Journal.{Journal}
use Rattle.jnl_file.proofs.Making.{ready_read}
use Rattle.journal_defs.specs.Numbers.{INSTANCE, database_file}
use Rattle.journal_defs.specs.Epochs.{chosen, block_of}
use Rattle.block_laws.specs.Several.{MayAppendAll}
use Rattle.journal_defs.specs.Instance.{InstanceRecord, generation, regions}
use Rattle.journal_defs.specs.Journal.{JournalRecord}
use Rattle.journal_defs.specs.Growth.{with_more}
use Rattle.journal_defs.specs.Stands.{IsInstance, IsJournal, in_generation}
use Rattle.journal_defs.specs.Fit.{IsSoundImage}
use Rattle.region_journals.specs.Journals.{AreReady, KeepsJournals}
use Rattle.region_journals.specs.declared.journals.RegionJournal.{RegionJournal}
use Rattle.instance_file.specs.declared.instance.Instance.{Instance}
use Rattle.instance_file.specs.Instance as instances
use Rattle.site_defs.specs.Fronts.{with_sequence}
use Rattle.site_defs.specs.Stands.{IsSite}
use Rattle.site_defs.specs.Contents.{Contents}
use Rattle.site_store.specs.declared.memory.Memory.{Memory}
use Rattle.site_store.proofs.HeldRegions.{held_read, synced_stays}
use Rattle.disk_defs.proofs.Frames.{others_read}
use Rattle.site_store.specs.Site.{IsReady, Keeps, IsOpen, AreOnBlocks}
use Rattle.entry_index.specs.Order.{StandUpTo}

records_read : (v w : View) (j : Journal) (s : Recorded) (a : Files) → Reads v w → HoldsRecords v j s a → HoldsRecords w j s a
records_read v w j s a r h = record {
  reads = h.reads;
  stands = λ c i. let k = r.passes.images c i in subst (λ (x : Files). StandsRecords s.hard s.opening (x j.gated.file)) (sym k.2) (h.stands k.0 k.1);
  bodies = h.bodies;
  held = more_holds v w j.gated j.gated r refl refl refl refl h.bodies a h.held;
  spelled = h.spelled;
}

pub some_read : (o : Option Files) (P Q : Files → Type 0) → ((f : Files) → P f → Q f) → IfSome o P → IfSome o Q
some_read None P Q f h = tt
some_read (Some x) P Q f h = f x h

pub some_and_read : (o : Option Files) (P Q : Files → Type 0) → ((f : Files) → P f → Q f) → IsSomeAnd o P → IsSomeAnd o Q
some_and_read None P Q f h = absurd h
some_and_read (Some x) P Q f h = f x h

has_read : (v w : View) (j : Journal) (s : Recorded) → Reads v w → HasRecords v j s → HasRecords w j s
has_read v w j s r h = subst (λ (o : Option Files). IsSomeAnd o (HoldsRecords w j s)) (sym r.content) (some_and_read v.content (HoldsRecords v j s) (HoldsRecords w j s) (λ a k. records_read v w j s a r k) h)

instance_holds : (v w : View) (i : Instance) (rs : List InstanceRecord) (a : Files) → Reads v w → instances.HoldsRecords v i rs a → instances.HoldsRecords w i rs a
instance_holds v w i rs a r h = record {
  kept = h.kept;
  reads = h.reads;
  stands = λ c j. let k = r.passes.images c j in subst (λ (x : Files). IsInstance (x INSTANCE) rs) (sym k.2) (h.stands k.0 k.1);
  file = h.file;
  bodies = h.bodies;
  held = more_holds v w i.gated i.gated r refl refl refl refl (gated.settled h.bodies) a h.held;
  spelled = h.spelled;
}

instance_has : (v w : View) (i : Instance) (rs : List InstanceRecord) → Reads v w → instances.HasRecords v i rs → instances.HasRecords w i rs
instance_has v w i rs r h = subst (λ (o : Option Files). IsSomeAnd o (instances.HoldsRecords w i rs)) (sym r.content) (some_and_read v.content (instances.HoldsRecords v i rs) (instances.HoldsRecords w i rs) (λ a k. instance_holds v w i rs a r k) h)

instance_read : (v w : View) (i : Instance) → Reads v w → instances.IsReady v i → instances.IsReady w i
instance_read v w i r h = record {
  file = h.file;
  gated = ready_read v w i.gated i.gated r refl h.gated;
  state = subst (λ (o : Option Files). IfSome o (instances.HoldsRecords w i i.records)) (sym r.content)
      (some_read v.content (instances.HoldsRecords v i i.records) (instances.HoldsRecords w i i.records) (λ a k. instance_holds v w i i.records a r k) h.state);
}

journal_read : (v w : View) (j : Journal) → Reads v w → journals.IsReady v j → journals.IsReady w j
journal_read v w j r h = record {
  file = h.file;
  gated = ready_read v w j.gated j.gated r refl h.gated;
  state = subst (λ (o : Option Files). IfSome o (λ files. (s : Recorded) × HoldsRecords w j s files)) (sym r.content)
      (some_read v.content (λ files. (s : Recorded) × HoldsRecords v j s files) (λ files. (s : Recorded) × HoldsRecords w j s files) (λ a k. (k.0, records_read v w j k.0 a r k.1)) h.state);
}

journals_read : (v w : View) (g : ℕ) (js : List RegionJournal) → Reads v w → AreReady v g js → AreReady w g js
journals_read v w g js r h = record {
  few = h.few;
  each = λ k x there. let o = h.each k x there in record { ready = journal_read v w x.journal r o.ready; of = o.of; goes_on = o.goes_on };
}

pub site_read : (v w : View) (s : Memory) → Reads v w → IsReady v s → IsReady w s
site_read v w s r h = record { instance = instance_read v w s.instance r h.instance; layout = h.layout; journals = journals_read v w (generation s.instance.records) s.journals.journals.items r h.journals; each_region = h.each_region; regions = held_read v w (length (regions s.instance.records)) s.globals r h.regions; whole = h.whole; some_place = h.some_place; each_place = h.each_place; few = h.few }

journals_kept : (v w : View) (hard waiting : ℕ → List JournalRecord) (js : List RegionJournal) → Reads v w → KeepsJournals v hard waiting js → KeepsJournals w hard waiting js
journals_kept v w hard waiting js r h = record {
  has = λ k x there. has_read v w x.journal (record { hard = hard k; opening = []; closed = waiting k }) r (h.has k x there);
  none_waits = h.none_waits;
}

-- what each image is stays so
image_read : (v w : View) (P : Files → Type 0) → Reads v w → ((f : Files) → Image v f → P f) → (f : Files) → Image w f → P f
image_read v w P r h f i = let k = r.passes.images f i in subst P (sym k.2) (h k.0 k.1)

keeps_read : (v w : View) (c : Contents) (n : ℕ) (s : Memory) → Reads v w → Keeps v c n s → Keeps w c n s
keeps_read v w c n s r h = record {
  count = h.count;
  few_nodes = h.few_nodes;
  reads = subst (λ (o : Option Files). IsSomeAnd o (λ files. IsSite files (with_sequence c (take n c.sequence)))) (sym r.content) h.reads;
  images = image_read v w (λ f. IsSite f (with_sequence c (take n c.sequence))) r h.images;
  records = h.records;
  g = h.g;
  last = h.last;
  older = h.older;
  newer = h.newer;
  waits = h.waits;
  newest = h.newest;
  sound = image_read v w (λ f. IsSoundImage f h.records (take n c.sequence)) r h.sound;
  older_files = λ f i k here. let x = r.passes.images f i in subst (λ (y : Files). IsJournal y k h.g (h.last k) (h.older k)) (sym x.2) (h.older_files x.0 x.1 k here);
  older_stand = λ f i k here. let x = r.passes.images f i in subst (λ (y : Files). StandUpTo y k h.g (h.older k)) (sym x.2) (h.older_stand x.0 x.1 k here);
  none_past = h.none_past;
  blocks = image_read v w (λ f. AreOnBlocks f (with_more h.records (λ k. map (in_generation (suc h.g)) (h.waits k))) n s.globals) r h.blocks;
  databases = synced_stays v w (λ f. ⊥) (length (regions c.instance)) (others_read (λ f. ⊥) v w r).images (λ q here no. no) h.databases;
  no_epoch_past = h.no_epoch_past;
  waiting = h.waiting;
  are_waiting = h.are_waiting;
  are_parts = h.are_parts;
  in_regions = h.in_regions;
  indexed = h.indexed;
  are_waits = h.are_waits;
  may_append = λ f i k here. let x = r.passes.images f i in subst (λ (y : Files). MayAppendAll (chosen c.instance n (h.records.journal k)) (block_of (y (database_file k))) (map (in_generation (suc h.g)) (h.waits k))) (sym x.2) (h.may_append x.0 x.1 k here);
  instance_file = instance_has v w s.instance c.instance r h.instance_file;
  journal_files = journals_kept v w h.newer h.waits s.journals.journals.items r h.journal_files;
}

pub open_read : (v w : View) (told : Bool) (c : Contents) (n : ℕ) (s : Memory) → Reads v w → IsOpen v told c n s → IsOpen w told c n s
open_read v w told c n s r h = record { remembered = h.remembered; kept = λ yes. keeps_read v w c n s r (h.kept yes) }
