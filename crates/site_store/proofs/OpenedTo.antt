-- A site is open once its next generation was drawn to a target.
use Rattle.std.proofs.Common.{◌≡◌, inl, inr, ℕ, suc, ◌+◌, ◌<◌, Bool, true, false, List, [], ◌∷◌, ◌++◌, length, map, take, drop, Option, Some, None, IfSome, IsSomeAnd, refl, sym, ◌∙◌, ap, subst, arith, append-nil, ◌≤◌}
use Rattle.std.specs.Prelude.{nat_lt, ◌&&◌, slice_get, if◌then◌else◌}
use Rattle.std.specs.List.{AllByRecursion}
use Rattle.std.specs.Option.{option_map}
use Rattle.std.proofs.lemmas.Option.{slice_get-map}
use Rattle.std.proofs.Math.Seq.{take-length, drop-length}
use Rattle.disk_defs.specs.Disk.{Files, View, Image, IsLawful, From}
use Rattle.global_defs.specs.Entry.{Sequence, state}
use Rattle.journal_defs.specs.Instance.{InstanceRecord, generation, regions}
use Rattle.journal_defs.specs.Directory.{patterns}
use Rattle.journal_defs.specs.Numbers.{database_file, journal_file}
use Rattle.journal_defs.specs.Sequence.{Placed, Records, IsSequence}
use Rattle.journal_defs.specs.Epochs.{NeedsForward}
use Rattle.journal_defs.specs.Growth.{AreEntries, with_record}
use Rattle.journal_defs.specs.Fit.{IsSoundImage}
use Rattle.journal_defs.specs.Stands.{in_generation}
use Rattle.journal_laws.proofs.Drawing as drawing
use Rattle.journal_laws.proofs.Targets.{cut_keeps}
use Rattle.journal_laws.proofs.EveryTarget.{patterns_same}
use Rattle.journal_laws.proofs.EveryTarget as laws
use Rattle.instance_file.specs.Instance as instances
use Rattle.jnl_file.specs.Journal as journals
use Rattle.jnl_file.specs.Records.{settled}
use Rattle.jnl_file.specs.declared.journal.Journal.{Journal}
use Rattle.region_journals.specs.Journals.{KeepsJournals}
use Rattle.region_journals.specs.declared.journals.RegionJournal.{RegionJournal}
use Rattle.site_files.specs.Loading.{MayBeOpened, AreRead, HasDrawnAs, next_cut, next_pini_as, starts_in_as, drawn_records_as}
use Rattle.site_files.proofs.Keeping as keeping
use Rattle.site_defs.specs.Contents.{Contents}
use Rattle.site_defs.specs.Fronts.{with_sequence}
use Rattle.site_defs.specs.Forward.{begun_mode, begun_as}
use Rattle.site_defs.specs.Behind.{parts_of_each}
use Rattle.site_defs.specs.Stands.{IsSite}
use Rattle.region_store.specs.Joined.{joined, region_at}
use Rattle.site_store.specs.declared.memory.Memory.{Memory}
use Rattle.site_store.specs.Site.{Remembers, Keeps, IsOpen, AreOnBlocks, AreOnFiles, StandOn, AreSynced, count_of}
use Rattle.site_store.proofs.OnBlocks.{IsPlain, anew_or_not, held_same, on_same, on_more, on_chosen}
use Rattle.site_store.proofs.Drawn.{S, C, cut_at, DrawsTo, newest_is, same_regions, site_read, site_drawn, newest_whole}
use Rattle.site_store.proofs.Parts.{no_entry_no_part}
use Rattle.site_store.proofs.Waiting.{none_wait}
use Rattle.entry_index.specs.Among.{IsIndexOf}
use Rattle.entry_index.specs.Order.{StandUpTo}
use Rattle.entry_index.proofs.AmongLaws.{index_behind}
use Rattle.journal_defs.specs.Surviving.{reigns}
use Rattle.site_store.proofs.Indexing.{index_cut, stand_same}
use Rattle.region_epochs.proofs.Fronts.{with_none as none_more}

-- journals that have just begun
abbrev pub newly : Journal → RegionJournal
newly j = record { journal = j; appended = false }

some_at : (o : Option Journal) (x : RegionJournal) → option_map newly o ≡ Some x → (j : Journal) × (o ≡ Some j) × (x ≡ newly j)
some_at None x e = absurd (cc e)
some_at (Some j) x e = (j, refl, cc e)

pub newly_at : (js : List Journal) (r : ℕ) (x : RegionJournal) → slice_get (map newly js) r ≡ Some x → (j : Journal) × (slice_get js r ≡ Some j) × (x ≡ newly j)
newly_at js r x e = some_at (slice_get js r) x (sym (slice_get-map newly js r) ∙ e)

-- how a generation begins is no image and no epoch
begins_plain : (anew : Bool) (rs : List InstanceRecord) (last : ℕ → ℕ) (k n r : ℕ) (instance : List InstanceRecord) → AllByRecursion (IsPlain instance n) (starts_in_as anew rs last k r)
begins_plain anew rs last k n r instance = by_test (nat_lt r k && nat_lt r (length (regions rs)))
  where
    by_test : (b : Bool) → AllByRecursion (IsPlain instance n) (if b then in_generation (suc (generation rs)) (next_pini_as anew rs last r) ∷ [] else [])
    by_test true = (((λ b. refl), refl), tt)
    by_test false = tt

reads_so : (w : View) (P : Files → Type 0) (o : Option Files) (Q : Files → Type 0) → IsSomeAnd o Q → IfSome o (λ files. Image w files) → ((f : Files) → Image w f → P f) → IsSomeAnd o P
reads_so w P None Q some as_read images = absurd some
reads_so w P (Some files) Q some as_read images = images files as_read

-- an image that there is
pub one_image : (w : View) (o : Option Files) (Q : Files → Type 0) → IsSomeAnd o Q → IfSome o (λ files. Image w files) → (f : Files) × Image w f
one_image w None Q some as_read = absurd some
one_image w (Some files) Q some as_read = (files, as_read)

-- A site that was read at v, whose images all stand for c, and that was drawn to t at w.
module _ (anew : Bool) (v w : View) (rs : List InstanceRecord) (last : ℕ → ℕ) (journal : ℕ → List Placed) (seq : Sequence) (form : MayBeOpened rs last) (sequence : IsSequence (record { instance = rs; journal = journal }) seq) (lawful : IsLawful w)
    (reads : (f : Files) → Image v f → AreRead rs last journal f) (c : Contents) (stands : (f : Files) → Image v f → IsSite f c)
    (t : ℕ) (kept : Sequence) (size : length kept ≡ t) (broken : List ℕ) (draws : (f : Files) → Image v f → DrawsTo rs last journal seq form sequence anew f t kept broken)
    (s : Memory) (records : s.instance.records ≡ rs ++ next_cut rs t ∷ []) (counted : count_of s ≡ length kept) (indexed : IsIndexOf journal (reigns rs) s.entries kept) (stand : (f : Files) → Image v f → (r : ℕ) → r < length (regions rs) → StandUpTo f r (generation rs) (journal r)) (hardened : s.hardened ≡ t)
    (begun : List Journal) (js_are : s.journals.journals.items ≡ map newly begun) where
  abbrev S0 : Records
  S0 = S rs last journal seq form sequence

  abbrev C0 : Files → Contents
  C0 f = C rs last journal seq form sequence f

  abbrev many : ℕ
  many = length (regions rs)

  abbrev drawn_all : Records
  drawn_all = drawn_records_as anew S0 t last many

  abbrev Finished : Files → Type 0
  Finished = From (Image v) (HasDrawnAs anew rs t broken last many)

  sound : (f : Files) → Image v f → IsSoundImage f S0 seq
  sound f image = (site_read rs last journal seq form sequence f c (reads f image) (stands f image)).0

  stands_so : (f : Files) → Image v f → c ≡ C0 f
  stands_so f image = (site_read rs last journal seq form sequence f c (reads f image) (stands f image)).1

  remembers : (f : Files) → joined s.globals ≡ state kept → Remembers (begun_as anew many (cut_at t broken kept (C0 f))) t s
  remembers f globals = record { instance = records; count = counted; globals = globals; hardened = hardened }

  -- a database file is as it was
  database_drawn : (f : Files) (q : Finished f) (r : ℕ) → r < many → f (database_file r) ≡ q.0 (database_file r)
  database_drawn f q r low =
      let few = form.few_regions in
      q.2.others (database_file r) (λ e. omega (arith, e)) (λ e. omega (arith, e, low, few)) (λ p here e. omega (arith, e, low, here, few))

  -- and the journals of the generations before
  older_same : (f : Files) (q : Finished f) (r : ℕ) → r < many → (h : ℕ) → h ≤ generation rs → f (journal_file h r) ≡ q.0 (journal_file h r)
  older_same f q r low h le =
      let few = form.few_regions in
      let room = form.room in
      q.2.others (journal_file h r) (λ e. omega (arith, e)) (λ e. omega (arith, e, low, few, le, room)) (λ p here e. omega (arith, e, low, here, few, le))

  -- the regions' blocks, once the next generation has begun
  on_drawn : (f : Files) (q : Finished f) → AreOnBlocks q.0 S0 t s.globals → AreOnBlocks f drawn_all t s.globals
  on_drawn f q on =
      let cut : Records = with_record S0 (next_cut rs t) in
      let as_many : length (regions (rs ++ next_cut rs t ∷ [])) ≡ many = ap length (same_regions rs last journal seq form sequence t) in
      on_more f cut drawn_all t s.globals (starts_in_as anew rs last many) refl (λ r low. refl) (λ r low. begins_plain anew rs last many t r (rs ++ next_cut rs t ∷ []))
      (on_chosen f S0 cut t t s.globals as_many (patterns_same rs (next_cut rs t) refl) (λ r low. (refl, cut_keeps rs t t (generation rs + 1) (journal r) (omega arith)))
      (on_same q.0 f S0 t s.globals (database_drawn f q) on))

  -- made anew a region needs forward recovery, by how the generation begins
  anew_drawn : (f : Files) (q : Finished f) → anew ≡ true → AreOnFiles q.0 S0 s.globals → AreOnBlocks f drawn_all t s.globals
  anew_drawn f q is_anew on =
      let as_many : length (regions (rs ++ next_cut rs t ∷ [])) ≡ many = ap length (same_regions rs last journal seq form sequence t) in
      record {
        patterns = on.patterns ∙ sym (patterns_same rs (next_cut rs t) refl);
        count = on.count ∙ sym as_many;
        each = λ r low.
            let here : r < many = omega (arith, low, as_many) in
            let x = region_at s.globals r in
            let was = on.each r here in
            let without : begun_mode anew rs r ≡ false = ap (λ (b : Bool). begun_mode b rs r) is_anew in
            record {
              file = was.0;
              held = held_same q.0 f x (ap f was.0 ∙ database_drawn f q r here ∙ sym (ap q.0 was.0)) was.1;
              holds = inl (subst (NeedsForward (rs ++ next_cut rs t ∷ []) t) (sym (newest_whole rs last journal seq form sequence anew r here))
                  (laws.begins (rs ++ next_cut rs t ∷ []) t (suc (generation rs)) (journal r) (record { region = r; before = begun_mode anew rs r; generation = suc (generation rs); previous = last r }) without));
            };
      }

  blocks_drawn : (f : Files) (q : Finished f) → StandOn anew q.0 S0 t s.globals → AreOnBlocks f drawn_all t s.globals
  blocks_drawn f q on = elim (anew_or_not anew q.0 S0 t s.globals on) [
    | inl files ↦ anew_drawn f q files.0 files.1
    | inr blocks ↦ on_drawn f q blocks
  ]

  abbrev pub Begun : Type 0
  Begun = (r : ℕ) (j : Journal) → slice_get begun r ≡ Some j → journals.HasRecords w j (settled (next_pini_as anew rs last r ∷ []))

  keeps_journals : Begun → KeepsJournals w (λ r. next_pini_as anew rs last r ∷ []) (λ r. []) s.journals.journals.items
  keeps_journals has = record {
    has = λ r x at.
        let found = newly_at begun r x (subst (λ (l : List RegionJournal). slice_get l r ≡ Some x) js_are at) in
        subst (λ (y : RegionJournal). journals.HasRecords w y.journal (settled (next_pini_as anew rs last r ∷ []))) (sym found.2) (has r found.0 found.1);
    none_waits = λ r x at none. refl;
  }

  full : take t kept ≡ kept
  full = ap (λ (n : ℕ). take n kept) (sym size) ∙ take-length kept

  none_behind : drop t kept ≡ []
  none_behind = ap (λ (n : ℕ). drop n kept) (sym size) ∙ drop-length kept

  module _ (synced : AreSynced v many) (on : (f : Files) → Image v f → StandOn anew f S0 t s.globals) (drawn : (f : Files) → Image w f → Finished f) (instance : instances.HasRecords w s.instance (rs ++ next_cut rs t ∷ [])) (has : Begun) where
    drawn_sound : (f : Files) → Image w f → IsSoundImage f drawn_all kept
    drawn_sound f image = let q = drawn f image in (draws q.0 q.1 f many q.2).0

    -- for what an image from before stood for
    keeps : (a : Files) → Image v a → (b : Files) → Image w b → Keeps w (begun_as anew many (cut_at t broken kept (C0 a))) t s
    keeps a was b now =
        let is_begun : (f : Files) → Image w f → IsSite f (begun_as anew many (cut_at t broken kept (C0 a))) =
        λ f image.
        let q = drawn f image in
        subst (λ (x : Contents). IsSite f (begun_as anew many (cut_at t broken kept x))) (sym (stands_so q.0 q.1) ∙ stands_so a was)
        (site_drawn rs last journal seq form sequence anew q.0 (reads q.0 q.1) (sound q.0 q.1) t kept size broken (draws q.0 q.1) f many q.2) in
        let images : (f : Files) → Image w f → IsSite f (with_sequence (begun_as anew many (cut_at t broken kept (C0 a))) (take t kept)) =
        λ f image. subst (λ es. IsSite f (with_sequence (begun_as anew many (cut_at t broken kept (C0 a))) es)) (sym full) (is_begun f image) in
        let number : length (regions (rs ++ next_cut rs t ∷ [])) ≡ many = ap length (same_regions rs last journal seq form sequence t) in
        let before = drawing.before a S0 (generation rs + 1) (sound a was).held (omega arith) in
        record {
          count = omega (arith, size);
          few_nodes = (drawn_sound b now).few_nodes;
          reads = reads_so w (λ f. IsSite f (with_sequence (begun_as anew many (cut_at t broken kept (C0 a))) (take t kept))) w.content (instances.HoldsRecords w s.instance (rs ++ next_cut rs t ∷ [])) instance lawful.as_read images;
          images = images;
          records = drawn_all;
          g = generation rs;
          last = last;
          older = journal;
          newer = λ q. next_pini_as anew rs last q ∷ [];
          waits = λ q. [];
          newest = record {
            generation = newest_is rs last journal seq form sequence t;
            not_last = (let room = form.room in omega (arith, room));
            instance = refl;
            whole = λ q below. newest_whole rs last journal seq form sequence anew q (omega (arith, below, number));
            begins = λ q below. (refl, refl, refl, tt);
            begun = λ q below e. cc e;
          };
          sound = λ f image. subst (IsSoundImage f drawn_all) (sym full) (drawn_sound f image);
          older_files = λ f image q below. let from = drawn f image in keeping.older_still from.0 S0 last form f from.2.others (reads from.0 from.1) q (omega (arith, below, number));
          older_stand = λ f image q below. let from = drawn f image in let low : q < many = omega (arith, below, number) in stand_same from.0 f q (generation rs) (journal q) (older_same f from q low) (stand from.0 from.1 q low);
          none_past = keeping.none_past anew S0 t last before many;
          blocks = λ f image. let q = drawn f image in subst (λ (u : Records). AreOnBlocks f u t s.globals) (sym (none_more drawn_all)) (blocks_drawn f q (on q.0 q.1));
          databases = λ f d i j q below.
              let low : q < many = omega (arith, below, number) in
              let from = drawn f i in
              let to = drawn d j in
              database_drawn d to q low ∙ synced from.0 to.0 from.1 to.1 q low ∙ sym (database_drawn f from q low);
          no_epoch_past = λ q below. keeping.no_epoch_past anew S0 t last before many q;
          waiting = [];
          are_waiting = subst (λ (es : Sequence). AreEntries (rs ++ next_cut rs t ∷ []) (suc (generation rs)) t [] es) (sym none_behind) tt;
          are_parts = subst (λ (n : ℕ). [] ≡ parts_of_each (patterns (rs ++ next_cut rs t ∷ [])) n (drop n kept)) size (no_entry_no_part (patterns (rs ++ next_cut rs t ∷ [])) kept);
          in_regions = tt;
          indexed = index_behind journal (λ q. drawn_all.journal q ++ []) (reigns (rs ++ next_cut rs t ∷ [])) s.entries kept (λ q below. (starts_in_as anew rs last many q, append-nil (drawn_all.journal q)))
              (index_cut journal rs t (generation rs + 1) s.entries kept (omega (arith, size)) indexed);
          are_waits = none_wait (rs ++ next_cut rs t ∷ []) (suc (generation rs));
          may_append = λ f image q below. tt;
          instance_file = instance;
          journal_files = keeps_journals has;
        }

  pub open_to : AreSynced v many → ((f : Files) → Image v f → StandOn anew f S0 t s.globals) → joined s.globals ≡ state kept → ((f : Files) → Image w f → Finished f)
      → instances.HasRecords w s.instance (rs ++ next_cut rs t ∷ []) → Begun → IsOpen w true (begun_as anew many (cut_at t broken kept c)) t s
  open_to synced on globals drawn instance has =
      let now = one_image w w.content (instances.HoldsRecords w s.instance (rs ++ next_cut rs t ∷ [])) instance lawful.as_read in
      let was = drawn now.0 now.1 in
      subst (λ (x : Contents). IsOpen w true (begun_as anew many (cut_at t broken kept x)) t s) (sym (stands_so was.0 was.1)) (record {
        remembered = remembers was.0 globals;
        kept = λ _. keeps synced on drawn instance has was.0 was.1 now.0 now.1;
      })
