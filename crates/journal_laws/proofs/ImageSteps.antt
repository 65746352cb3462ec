-- Images of fit disks through a step.
use Rattle.std.proofs.Common.{◌≡◌, ◌≢◌, ◌⊎◌, inl, inr, ℕ, zero, suc, ◌+◌, ◌≤◌, ◌<◌, List, [], ◌∷◌, ◌++◌, length, take, Option, Some, None, refl, sym, ◌∙◌, ap, subst, arith, append_assoc, append-nil, length-append, length-take-le}
use Rattle.std.proofs.lemmas.Bool.{cases_eq}
use Rattle.std.specs.List.{AllByRecursion}
use Rattle.global_defs.specs.declared.limits.TheConstants.{MOST_REGIONS}
use Rattle.disk_defs.specs.Disk.{Files}
use Rattle.disk_defs.specs.Gates.{records}
use Rattle.global_defs.specs.Entry.{Globals, Sequence}
use Rattle.journal_defs.specs.Numbers.{INSTANCE, journal_file, lost_file, broken_file, database_file}
use Rattle.journal_defs.specs.Journal.{Tcom, Part}
use Rattle.journal_defs.specs.Instance.{InstanceRecord, IsInstanceBody, generation, regions}
use Rattle.journal_defs.specs.Directory.{patterns}
use Rattle.journal_defs.specs.Sequence.{Placed, Records, IsSequence}
use Rattle.journal_defs.specs.Epochs.{Blocks, chosen, block_of, NeedsForward}
use Rattle.journal_defs.specs.Undo.{SameBut, MayWrite, MayAppend}
use Rattle.journal_defs.specs.Sound.{region_state, IsSoundRegion, BlocksGrow, NoEpochPast}
use Rattle.journal_defs.specs.Stands.{Holds, IsJournal, AreRecords}
use Rattle.journal_defs.specs.Clean.{AreClean}
use Rattle.journal_defs.specs.Growth.{with_more, placed, appended, AreEntries, NonePast}
use Rattle.journal_defs.specs.Fit.{IsAtHome, HasFewNodes, IsSoundImage}
use Rattle.journal_laws.proofs.EveryTarget as every
use Rattle.journal_laws.proofs.Later as later
use Rattle.journal_laws.proofs.Fewer as fewer
use Rattle.journal_laws.proofs.FrontFacts as facts
use Rattle.journal_laws.proofs.Hardening as hardening

-- files with the same open bodies hold the same records
same_journal : (old new : Files) (q g last : ℕ) (js : List Placed) → ((h : ℕ) → h ≤ g → records (new (journal_file h q)) ≡ records (old (journal_file h q))) → IsJournal old q g last js → IsJournal new q g last js
same_journal old new q zero last js same h = h
same_journal old new q (suc g) last js same h = (
  h.0,
  h.1,
  h.2,
  same_journal old new q g h.0 h.1 (λ k low. same k (omega arith)) h.3,
  (h.4.0, same (suc g) (omega arith) ∙ h.4.1, h.4.2),
  h.5,
  h.6,
  h.7,
)

pub same_records : (old new : Files) (s : Records) → AreRecords old s → records (new INSTANCE) ≡ records (old INSTANCE)
    → ((h r : ℕ) → h ≤ generation s.instance → r < length (regions s.instance) → records (new (journal_file h r)) ≡ records (old (journal_file h r))) → AreRecords new s
same_records old new s held instance same = record {
  instance = record {
    bodies = (mine.0, instance ∙ mine.1, mine.2);
    create = held.instance.create;
    cuts = held.instance.cuts;
    reigns = held.instance.reigns;
  };
  journals = λ r low. (let theirs = held.journals r low in (theirs.0, same_journal old new r (generation s.instance) theirs.0 (s.journal r) (λ h low_h. same h r low_h low) theirs.1));
  no_more = held.no_more;
}
  where
    mine : Holds IsInstanceBody (old INSTANCE) s.instance
    mine = held.instance.bodies

-- nothing that counts has changed
pub same_image : (old new : Files) (s : Records) (seq : Sequence) → IsSoundImage old s seq → records (new INSTANCE) ≡ records (old INSTANCE)
    → ((h r : ℕ) → h ≤ generation s.instance → r < length (regions s.instance) → records (new (journal_file h r)) ≡ records (old (journal_file h r)))
    → AreClean new s (length seq) → ((r : ℕ) → r < length (regions s.instance) → new (database_file r) ≡ old (database_file r)) → IsSoundImage new s seq
same_image old new s seq image instance journals clean databases = record {
  held = same_records old new s image.held instance journals;
  sequence = image.sequence;
  clean = clean;
  sound = λ t low r here. subst (λ (file : List ℕ). IsSoundRegion (region_state (patterns s.instance) r) s.instance seq (s.journal r) (block_of file)) (sym (databases r here)) (λ u high. image.sound u high r here) t low;
  grow = image.grow;
  at_home = image.at_home;
  few_nodes = image.few_nodes;
}

same_clean : (old new : Files) (s : Records) (n : ℕ) → AreClean old s n → ((g r : ℕ) → new (journal_file g r) ≡ old (journal_file g r))
    → ((g : ℕ) → new (lost_file g) ≡ old (lost_file g)) → ((g : ℕ) → new (broken_file g) ≡ old (broken_file g)) → AreClean new s n
same_clean old new s n clean journals lost texts = record {
  journals = λ g r undrawn low. ap records (journals g r) ∙ clean.journals g r undrawn low;
  lost = λ g undrawn. lost g ∙ clean.lost g undrawn;
  first_broken = λ g undrawn first. (let same : length (new (broken_file g)) ≡ length (old (broken_file g)) = ap length (texts g) in omega (arith, same, clean.first_broken g undrawn first));
  later_broken = λ g undrawn later. texts g ∙ clean.later_broken g undrawn later;
}

-- a block written
pub written : (old new : Files) (s : Records) (seq : Sequence) (r b : ℕ) → IsSoundImage old s seq → length (regions s.instance) ≤ MOST_REGIONS → r < length (regions s.instance)
    → ((f : ℕ) → f ≢ database_file r → new f ≡ old f) → SameBut b (block_of (old (database_file r))) (block_of (new (database_file r)))
    → NeedsForward s.instance (length seq) (s.journal r) ⊎ MayWrite (chosen s.instance (length seq) (s.journal r)) b → IsSoundImage new s seq
written old new s seq r b image few here same one may = record {
  held = same_records old new s image.held (ap records (same INSTANCE (λ e. omega arith))) (λ h q low there. ap records (same (journal_file h q) (λ e. omega arith)));
  sequence = image.sequence;
  clean = same_clean old new s (length seq) image.clean (λ g q. same (journal_file g q) (λ e. omega arith)) (λ g. same (lost_file g) (λ e. omega arith)) (λ g. same (broken_file g) (λ e. omega arith));
  sound = λ t low q there. region q there t low;
  grow = image.grow;
  at_home = image.at_home;
  few_nodes = image.few_nodes;
}
  where
    region : (q : ℕ) → q < length (regions s.instance) → IsSoundRegion (region_state (patterns s.instance) q) s.instance seq (s.journal q) (block_of (new (database_file q)))
    region q there = elim (cases_eq q r) [
      | inl e ↦ subst (λ (k : ℕ). IsSoundRegion (region_state (patterns s.instance) k) s.instance seq (s.journal k) (block_of (new (database_file k)))) (sym e)
          (every.write (region_state (patterns s.instance) r) s.instance seq (s.journal r) (block_of (old (database_file r))) (block_of (new (database_file r))) b
          (λ t low. image.sound t low r here) (image.grow r here) one may)
      | inr other ↦ subst (λ (file : List ℕ). IsSoundRegion (region_state (patterns s.instance) q) s.instance seq (s.journal q) (block_of file))
          (sym (same (database_file q) (λ e. omega (arith, other))))
          (λ t low. image.sound t low q there)
    ]

-- a region's soundness, and what its laws take
pub record IsKept (of : Sequence → Globals) (instance : List InstanceRecord) (seq : Sequence) (journal : List Placed) (database : Blocks) : Type 0 where
  pub sound : IsSoundRegion of instance seq journal database
  pub grow : BlocksGrow instance (length seq) journal
  pub none : NoEpochPast (length seq) instance journal

-- TCOM records appended
abbrev AreTcoms : List Placed → Type 0
AreTcoms ps = AllByRecursion (λ p. (x : Part) × (p.what ≡ Tcom x)) ps

tcoms_kept : (of : Sequence → Globals) (instance : List InstanceRecord) (seq : Sequence) (journal : List Placed) (database : Blocks) (ps : List Placed) → AreTcoms ps
    → IsKept of instance seq journal database → IsKept of instance seq (journal ++ ps) database
tcoms_kept of instance seq journal database [] all kept = subst (λ (js : List Placed). IsKept of instance seq js database) (sym (append-nil journal)) kept
tcoms_kept of instance seq journal database (p ∷ ps) all kept =
    let may : MayAppend (chosen instance (length seq) journal) database p.what = subst (MayAppend (chosen instance (length seq) journal) database) (sym all.0.1) tt in
    subst (λ (js : List Placed). IsKept of instance seq js database) (append_assoc journal (p ∷ []) ps)
    (tcoms_kept of instance seq (journal ++ p ∷ []) database ps all.1 (record {
      sound = every.record_appended of instance seq journal database p kept.sound kept.grow may;
      grow = every.grow_record instance (length seq) journal database p kept.grow may;
      none = every.none_past_record instance (length seq) journal database p kept.none may;
    }))

-- entries more
entries_kept : (of : Sequence → Globals) (instance : List InstanceRecord) (seq es : Sequence) (journal : List Placed) (database : Blocks)
    → IsKept of instance seq journal database → IsKept of instance (seq ++ es) journal database
entries_kept of instance seq [] journal database kept = subst (λ (l : Sequence). IsKept of instance l journal database) (sym (append-nil seq)) kept
entries_kept of instance seq (e ∷ es) journal database kept =
    let size : length seq + 1 ≡ length (seq ++ e ∷ []) = sym (length-append seq (e ∷ [])) in
    subst (λ (l : Sequence). IsKept of instance l journal database) (append_assoc seq (e ∷ []) es)
    (entries_kept of instance (seq ++ e ∷ []) es journal database (record {
      sound = every.longer of instance seq journal database e kept.sound kept.none;
      grow = subst (λ (n : ℕ). BlocksGrow instance n journal) size (later.grow_longer instance (length seq) journal kept.grow kept.none);
      none = subst (λ (n : ℕ). NoEpochPast n instance journal) size (later.none_past_longer instance (length seq) journal kept.none);
    }))

pub all_take : {X : Type 0} (P : X → Type 0) (k : ℕ) (xs : List X) → AllByRecursion P xs → AllByRecursion P (take k xs)
all_take P zero xs all = tt
all_take P (suc k) [] all = tt
all_take P (suc k) (x ∷ xs) all = (all.0, all_take P k xs all.1)

pub all_both : {X : Type 0} (P : X → Type 0) (xs ys : List X) → AllByRecursion P xs → AllByRecursion P ys → AllByRecursion P (xs ++ ys)
all_both P [] ys h k = k
all_both P (x ∷ xs) ys h k = (h.0, all_both P xs ys h.1 k)

are_tcoms : (g : ℕ) (ps : List (ℕ → Option Part)) (r : ℕ) → AreTcoms (appended g ps r)
are_tcoms g [] r = tt
are_tcoms g (p ∷ ps) r = elim (p r) as (λ o. AreTcoms (placed g o ++ appended g ps r)) [ None ↦ are_tcoms g ps r | Some x ↦ ((x, refl), are_tcoms g ps r) ]

-- entries appended together, of whose parts the first few are there in each region
pub entries_appended : (old new : Files) (s : Records) (seq : Sequence) (g : ℕ) (ps : List (ℕ → Option Part)) (es : Sequence) (kept : ℕ → ℕ)
    → IsSoundImage old s seq → NonePast (length seq) s → ((r : ℕ) → r < length (regions s.instance) → NoEpochPast (length seq) s.instance (s.journal r))
    → AreEntries s.instance (suc g) (length seq) ps es → HasFewNodes (seq ++ es)
    → ((r : ℕ) → r < length (regions s.instance) → AllByRecursion (λ p. IsAtHome s.instance r p.generation p.what) (appended (suc g) ps r))
    → AreRecords new (with_more s (λ r. take (kept r) (appended (suc g) ps r))) → ((m : ℕ) → AreClean new (with_more s (λ r. take (kept r) (appended (suc g) ps r))) m)
    → ((r : ℕ) → r < length (regions s.instance) → new (database_file r) ≡ old (database_file r))
    → (j : ℕ) × (length seq ≤ j) × (j ≤ length (seq ++ es)) × IsSoundImage new (with_more s (λ r. take (kept r) (appended (suc g) ps r))) (take j (seq ++ es))
entries_appended old new s seq g ps es kept image none epochs entries few home held clean databases = (
  found.0,
  found.1,
  found.2,
  record {
    held = held;
    sequence = found.3;
    clean = clean (length (take found.0 (seq ++ es)));
    sound = λ t low r here. sound r here t low;
    grow = λ r here t u le high. (kept_in r here).grow t u le (omega (arith, high, size, found.2));
    at_home = λ r here. all_both (λ p. IsAtHome s.instance r p.generation p.what) (s.journal r) (more r) (image.at_home r here)
        (all_take (λ p. IsAtHome s.instance r p.generation p.what) (kept r) (appended (suc g) ps r) (home r here));
    few_nodes = facts.few_nodes (seq ++ es) found.0 few;
  },
)
  where
    found : (j : ℕ) × (length seq ≤ j) × (j ≤ length (seq ++ es)) × IsSequence (with_more s (λ r. take (kept r) (appended (suc g) ps r))) (take j (seq ++ es))
    found = hardening.some s seq (suc g) ps es kept image.sequence none entries

    size : length (take found.0 (seq ++ es)) ≡ found.0
    size = length-take-le found.0 (seq ++ es) found.2

    more : ℕ → List Placed
    more r = take (kept r) (appended (suc g) ps r)

    kept_in : (r : ℕ) → r < length (regions s.instance)
        → IsKept (region_state (patterns s.instance) r) s.instance (seq ++ es) (s.journal r ++ take (kept r) (appended (suc g) ps r)) (block_of (old (database_file r)))
    kept_in r here =
        let of : Sequence → Globals = region_state (patterns s.instance) r in
        let database : Blocks = block_of (old (database_file r)) in
        let ps_here : List Placed = take (kept r) (appended (suc g) ps r) in
        let tcoms_are : AreTcoms ps_here = all_take (λ p. (x : Part) × (p.what ≡ Tcom x)) (kept r) (appended (suc g) ps r) (are_tcoms (suc g) ps r) in
        entries_kept of s.instance seq es (s.journal r ++ ps_here) database (tcoms_kept of s.instance seq (s.journal r) database ps_here tcoms_are (record {
          sound = λ t low. image.sound t low r here;
          grow = image.grow r here;
          none = epochs r here;
        }))

    sound : (r : ℕ) → r < length (regions s.instance)
        → IsSoundRegion (region_state (patterns s.instance) r) s.instance (take found.0 (seq ++ es)) (s.journal r ++ take (kept r) (appended (suc g) ps r)) (block_of (new (database_file r)))
    sound r here =
        subst (λ (file : List ℕ). IsSoundRegion (region_state (patterns s.instance) r) s.instance (take found.0 (seq ++ es)) (s.journal r ++ take (kept r) (appended (suc g) ps r)) (block_of file))
        (sym (databases r here))
        (fewer.sound_front (region_state (patterns s.instance) r) s.instance (seq ++ es) (s.journal r ++ take (kept r) (appended (suc g) ps r)) (block_of (old (database_file r))) found.0 (kept_in r here).sound found.2)
