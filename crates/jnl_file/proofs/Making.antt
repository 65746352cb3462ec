-- A journal is made, or taken up.
use Rattle.std.proofs.Common.{◌≡◌, inl, inr, ℕ, Bool, List, [], ◌∷◌, ◌++◌, Option, Some, None, IfSome, IsSomeAnd, sym, ◌∙◌, ap, subst, append-nil}
use Rattle.std.specs.List.{AllZip}
use Rattle.disk_defs.specs.Disk.{Files, View, Image, IsLawful, AtEachMoment, ReadsAfter, Reads}
use Rattle.disk_defs.specs.Frames.{OnlyOn, SameOutside, OthersStay}
use Rattle.disk_defs.specs.Gates.{Body, records}
use Rattle.disk_defs.proofs.Told.{with_told, weaker_told, both_weak, both_told}
use Rattle.disk_defs.proofs.Moments.{weaker, then_more, holds_now, nothing_new}
use Rattle.disk_defs.proofs.Frames.{others_read}
use Rattle.gated_file.specs.State.{settled as settled_bodies}
use Rattle.gated_file.specs.Gated as gates
use Rattle.gated_file.specs.Begin.{KeepsRecords}
use Rattle.gated_file.specs.declared.gated.Gated.{Gated}
use Rattle.gated_file.proofs.Others.{state_stays, ready_stays}
use Rattle.journal_defs.specs.Journal.{JournalRecord, IsJournalBody}
use Rattle.jnl_file.specs.Records.{Recorded, StandsRecords, appended, settled}
use Rattle.jnl_file.specs.Journal.{HoldsRecords, HasRecords, IsPrepared}
use Rattle.jnl_file.specs.Reading.{IsJournalFile}
use Rattle.jnl_file.specs.Begin.{pini, MayBegin}
use Rattle.jnl_file.specs.declared.journal.Journal.{Journal}
use Rattle.jnl_file.proofs.Steps.{records_of, records_more}
use Rattle.jnl_file.proofs.Walk.{journal_as}

-- a file that keeps its records may be beginning
pub keeps_begins : (u v : View) (file : ℕ) (first : JournalRecord) → AtEachMoment u v (KeepsRecords u file) → AtEachMoment u v (MayBegin u file first)
keeps_begins u v file first run =
    weaker u v (KeepsRecords u file) (MayBegin u file first) (λ c keeps. (keeps.0, keeps.1, record { here = inl keeps.2.here; others = keeps.2.others })) run

-- a call more on a file that is beginning
pub begins_then : (old mid new : View) (file mid_file : ℕ) (first : JournalRecord) (P : List ℕ → Type 0) → IsLawful mid → mid_file ≡ file
    → AtEachMoment old mid (MayBegin old file first) → AtEachMoment mid new (OnlyOn mid mid_file P) → ((bytes : List ℕ) → P bytes → StandsRecords [] (first ∷ []) bytes) → AtEachMoment old new (MayBegin old file first)
begins_then old mid new file mid_file first P lawful same run call gives =
    then_more old mid new (MayBegin old file first) (OnlyOn mid file P) run (subst (λ (f : ℕ). AtEachMoment mid new (OnlyOn mid f P)) same call)
    (λ c q.
    let was = holds_now old mid (MayBegin old file first) lawful run q.others.0 q.others.1 in
    (was.0, was.1, record { here = inr (gives (c file) q.here); others = λ f ne. q.others.2 f ne ∙ was.2.others f ne }))

-- it has some records, where the disk tells it
pub some_records : (u w : View) (F : ℕ → Type 0) (j : Journal) → OthersStay F u w → IfSome u.content (λ files. (s : Recorded) × HasRecords w j s) → IfSome w.content (λ files. (s : Recorded) × HoldsRecords w j s files)
some_records u w F j stays has = among u.content w.content stays.content has
  where
    among : (o n : Option Files) → ReadsAfter (SameOutside F) o n → IfSome o (λ files. (s : Recorded) × IsSomeAnd n (HoldsRecords w j s)) → IfSome n (λ files. (s : Recorded) × HoldsRecords w j s files)
    among None n after h = subst (λ (x : Option Files). IfSome x (λ files. (s : Recorded) × HoldsRecords w j s files)) (sym after) tt
    among (Some a) None after h = absurd after
    among (Some a) (Some b) after h = h

-- what `attach` says of a gated file, and what is read from it then
abbrev pub TakenUp : View → Gated → List ℕ → Type 0
TakenUp v g bytes = (bodies : List Body) × (records bytes ≡ Some bodies) × gates.HasState v g (settled_bodies bodies)

same_records : (v : View) (g : Gated) (bytes : List ℕ) (taken : TakenUp v g bytes) (files : Files) → gates.Holds v g (settled_bodies taken.0) files → records bytes ≡ records (files g.file)
same_records v g bytes taken files held = taken.1 ∙ ap Some (sym (append-nil taken.0)) ∙ sym held.reads

pub taken_back : (o : Option Files) (v : View) (g : Gated) (file : ℕ) (R : List ℕ → Type 0) → ((old new : List ℕ) → records old ≡ records new → R new → R old)
    → IfSome o (λ files. TakenUp v g (files file)) → IfSome v.content (λ files. R (files g.file)) → IfSome o (λ files. R (files file))
taken_back o v g file R carry taken told =
    weaker_told o (λ files. TakenUp v g (files file)) (λ files. R (files file)) taken
    (λ files t. with_told v.content (λ now. R (files file)) (R (files file))
    (both_told v.content (gates.Holds v g (settled_bodies t.0)) (λ now. R (now g.file)) (λ now. R (files file)) t.2 told
    (λ now held r. carry (files file) (now g.file) (same_records v g (files file) t now held) r))
    (λ now r. r))

-- the journal's records
pub record Listed (region generation : ℕ) (bytes : List ℕ) (bodies : List Body) : Type 0 where
  pub rs : List JournalRecord
  pub is : IsJournalFile region generation bytes rs
  pub are : AllZip IsJournalBody bodies rs

taken_listed : (v : View) (g : Gated) (region generation : ℕ) (bytes : List ℕ) (t : TakenUp v g bytes) → IfSome v.content (λ files. (rs : List JournalRecord) × IsJournalFile region generation (files g.file) rs) → Listed region generation bytes t.0
taken_listed v g region generation bytes t told =
    with_told v.content (λ now. Listed region generation bytes t.0) (Listed region generation bytes t.0)
    (both_told v.content (gates.Holds v g (settled_bodies t.0)) (λ now. (rs : List JournalRecord) × IsJournalFile region generation (now g.file) rs) (λ now. Listed region generation bytes t.0) t.2 told
    (λ now held found.
    let is = journal_as region generation bytes (now g.file) found.0 (same_records v g bytes t now held) found.1 in
    let same : Some is.held.0 ≡ Some t.0 = sym is.held.1 ∙ t.1 in
    let bodies_are : is.held.0 ≡ t.0 = cc same in
    record { rs = found.0; is = is; are = subst (λ (l : List Body). AllZip IsJournalBody l found.0) bodies_are is.held.2 }))
    (λ now listed. listed)

pub taken_records : (o : Option Files) (v w : View) (g : Gated) (j : Journal) (file region generation : ℕ) → Reads v w → j.gated ≡ g → IfSome o (λ files. TakenUp v g (files file))
    → IfSome v.content (λ files. (rs : List JournalRecord) × IsJournalFile region generation (files g.file) rs)
    → IfSome o (λ files. (rs : List JournalRecord) × IsJournalFile region generation (files file) rs × HasRecords w j (settled rs))
taken_records o v w g j file region generation reads same taken told =
    weaker_told o (λ files. TakenUp v g (files file)) (λ files. (rs : List JournalRecord) × IsJournalFile region generation (files file) rs × HasRecords w j (settled rs)) taken
    (λ files t.
    let l = taken_listed v g region generation (files file) t told in
    let has : gates.HasState w j.gated (settled_bodies t.0) = subst (λ (x : Gated). gates.HasState w x (settled_bodies t.0)) (sym same)
    (state_stays v w (λ f. ⊥) g (others_read (λ f. ⊥) v w reads) (λ none. none) (settled_bodies t.0) t.2) in
    (l.rs, l.is, records_of w j (settled l.rs) (settled_bodies t.0) has (record { hard = l.are; opening = tt; closed = tt })))

-- a gated file that was read
pub ready_read : (v w : View) (g h : Gated) → Reads v w → h ≡ g → gates.IsReady v g → gates.IsReady w h
ready_read v w g h reads same ready = subst (λ (x : Gated). gates.IsReady w x) (sym same) (ready_stays v w (λ f. ⊥) g (others_read (λ f. ⊥) v w reads) (λ none. none) ready)

-- a journal without records
pub none_yet : (o : Option Files) (w : View) (g : Gated) (j : Journal) → j.gated ≡ g → IfSome o (λ files. gates.HasState w g (settled_bodies [])) → IfSome o (λ files. HasRecords w j (settled []))
none_yet o w g j same has =
    weaker_told o (λ files. gates.HasState w g (settled_bodies [])) (λ files. HasRecords w j (settled [])) has
    (λ files h. records_of w j (settled []) (settled_bodies []) (subst (λ (x : Gated). gates.HasState w x (settled_bodies [])) (sym same) h) (record { hard = tt; opening = tt; closed = tt }))

-- The calls that make a journal: its PINI is prepared,
pub pini_prepared : (u v w : View) (file : ℕ) (first : JournalRecord) → IsLawful v → IfSome u.content (λ files. AtEachMoment u v (KeepsRecords u file)) → AtEachMoment v w (Image v) → IfSome u.content (λ files. AtEachMoment u w (MayBegin u file first))
pini_prepared u v w file first lawful keeps call =
    weaker_told u.content (λ files. AtEachMoment u v (KeepsRecords u file)) (λ files. AtEachMoment u w (MayBegin u file first)) keeps
    (λ files run. nothing_new u v w (MayBegin u file first) lawful (keeps_begins u v file first run) call)

-- appended,
pub pini_appended : (u v w : View) (j : Journal) (file : ℕ) (first : JournalRecord) → IsLawful v → j.gated.file ≡ file → IfSome u.content (λ files. AtEachMoment u v (MayBegin u file first)) → IfSome u.content (λ files. HasRecords v j (settled []))
    → ((s : Recorded) → HasRecords v j s → AtEachMoment v w (OnlyOn v j.gated.file (StandsRecords s.hard s.opening))) → IfSome u.content (λ files. AtEachMoment u w (MayBegin u file first))
pini_appended u v w j file first lawful same run has call =
    both_weak u.content (λ files. AtEachMoment u v (MayBegin u file first)) (λ files. HasRecords v j (settled [])) (λ files. AtEachMoment u w (MayBegin u file first)) run has
    (λ files begins h. begins_then u v w file j.gated.file first (StandsRecords [] []) lawful same begins (call (settled []) h) (λ bytes stands. records_more [] [] (first ∷ []) bytes stands))

-- and hardened.
pub pini_hardened : (u v w : View) (j : Journal) (file : ℕ) (first : JournalRecord) → IsLawful v → j.gated.file ≡ file → IfSome u.content (λ files. AtEachMoment u v (MayBegin u file first)) → IfSome u.content (λ files. HasRecords v j (appended (settled []) first))
    → ((s : Recorded) → HasRecords v j s → AtEachMoment v w (OnlyOn v j.gated.file (StandsRecords s.hard (s.opening ++ s.closed)))) → IfSome u.content (λ files. AtEachMoment u w (MayBegin u file first))
pini_hardened u v w j file first lawful same run has call =
    both_weak u.content (λ files. AtEachMoment u v (MayBegin u file first)) (λ files. HasRecords v j (appended (settled []) first)) (λ files. AtEachMoment u w (MayBegin u file first)) run has
    (λ files begins h. begins_then u v w file j.gated.file first (StandsRecords [] (first ∷ [])) lawful same begins (call (appended (settled []) first) h) (λ bytes stands. stands))

-- the PINI that was prepared
pub pini_named : (j k : Journal) (region generation previous : ℕ) (before : Bool) → j.region ≡ region → j.generation ≡ generation → IsPrepared k (pini j.region before j.generation previous) → IsPrepared k (pini region before generation previous)
pini_named j k region generation previous before r g prepared =
    subst (λ (n : ℕ). IsPrepared k (pini region before n previous)) g (subst (λ (n : ℕ). IsPrepared k (pini n before j.generation previous)) r prepared)
