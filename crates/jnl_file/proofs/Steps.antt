-- A journal's records go on with its bodies.
use Rattle.std.proofs.Common.{◌≡◌, ◌<◌, refl, ℕ, suc, ◌+◌, List, [], ◌∷◌, ◌++◌, length, take, Option, Some, None, IfSome, IsSomeAnd, sym, ◌∙◌, ap, subst, arith, append_assoc, length-append}
use Rattle.std.proofs.lemmas.List.{take-append-le}
use Rattle.std.specs.List.{AllZip}
use Rattle.disk_defs.specs.Disk.{Files, View, IsLawful, AtEachMoment, ReadsAfter}
use Rattle.disk_defs.specs.Frames.{Only, OnlyOn, SameOutside, OthersStay}
use Rattle.disk_defs.specs.Gates.{Body, Stands}
use Rattle.disk_defs.proofs.Moments.{only_then, only_weaker}
use Rattle.disk_defs.proofs.Told.{with_told}
use Rattle.gated_file.specs.State as bodies
use Rattle.gated_file.specs.State.{State}
use Rattle.gated_file.specs.Gated as gates
use Rattle.gated_file.specs.declared.gated.Gated.{Gated}
use Rattle.journal_defs.specs.Numbers.{journal_file}
use Rattle.journal_defs.specs.Journal.{JournalRecord, IsJournalBody}
use Rattle.jnl_file.specs.Records.{Recorded, AreBodiesOf, StandsRecords, appended, synced, opened}
use Rattle.jnl_file.specs.Journal.{HoldsRecords, HasRecords, IsReady, HasClosed}
use Rattle.jnl_file.specs.declared.journal.Journal.{Journal}
use Rattle.jnl_file.proofs.Zips.{zip_append, zip_length, zip_take}

abbrev zips : List Body → List JournalRecord → Type 0
zips bodies rs = AllZip IsJournalBody bodies rs

-- what a file of bodies has as records
pub stands_records : (bodies more : List Body) (rs others : List JournalRecord) (file : List ℕ) → zips bodies rs → zips more others → Stands bodies more file → StandsRecords rs others file
stands_records bodies more rs others file sure next stands = (
  stands.0,
  omega (arith, stands.1, zip_length IsJournalBody more others next),
  (
    bodies ++ take stands.0 more,
    stands.2,
    zip_append IsJournalBody bodies (take stands.0 more) rs (take stands.0 others) sure (zip_take IsJournalBody stands.0 more others next),
  ),
)

-- with more that may follow
pub records_more : (rs others later : List JournalRecord) (file : List ℕ) → StandsRecords rs others file → StandsRecords rs (others ++ later) file
records_more rs others later file stands = (
  stands.0,
  omega (arith, stands.1, length-append others later),
  (
    stands.2.0,
    stands.2.1,
    subst (λ (l : List JournalRecord). zips stands.2.0 (rs ++ l)) (sym (take-append-le stands.0 others later stands.1)) stands.2.2,
  ),
)

take_behind : (n : ℕ) (xs ys : List JournalRecord) → take (length xs + n) (xs ++ ys) ≡ xs ++ take n ys
take_behind n [] ys = ap (λ (k : ℕ). take k ys) (omega arith)
take_behind n (x ∷ xs) ys =
    let next : suc (length xs) + n ≡ suc (length xs + n) = omega arith in
    ap (λ (k : ℕ). take k (x ∷ (xs ++ ys))) next ∙ ap (λ (l : List JournalRecord). x ∷ l) (take_behind n xs ys)

-- with fewer that surely stand
pub records_later : (rs others later : List JournalRecord) (file : List ℕ) → StandsRecords (rs ++ others) later file → StandsRecords rs (others ++ later) file
records_later rs others later file stands = (
  length others + stands.0,
  omega (arith, stands.1, length-append others later),
  (
    stands.2.0,
    stands.2.1,
    subst (λ (l : List JournalRecord). zips stands.2.0 l) (append_assoc rs others (take stands.0 later) ∙ ap (λ (l : List JournalRecord). rs ++ l) (sym (take_behind stands.0 others later))) stands.2.2,
  ),
)

pub holds_records : (v : View) (j : Journal) (bodies : State) (s : Recorded) (files : Files) → gates.Holds v j.gated bodies files → AreBodiesOf bodies s → HoldsRecords v j s files
holds_records v j bodies s files held are = record {
  reads = (bodies.hard ++ bodies.opening, held.reads, zip_append IsJournalBody bodies.hard bodies.opening s.hard s.opening are.hard are.opening);
  stands = λ c now. stands_records bodies.hard bodies.opening s.hard s.opening (c j.gated.file) are.hard are.opening (held.stands c now);
  bodies = bodies;
  held = held;
  spelled = are;
}

-- the bodies of a journal's records
pub record HasBodies (v : View) (g : Gated) (s : Recorded) : Type 0 where
  pub bodies : State
  pub has : gates.HasState v g bodies
  pub are : AreBodiesOf bodies s

pub bodies_of : (v : View) (j : Journal) (s : Recorded) → HasRecords v j s → HasBodies v j.gated s
bodies_of v j s has = let found = among v.content has in record { bodies = found.0; has = found.1; are = found.2 }
  where
    among : (o : Option Files) → IsSomeAnd o (HoldsRecords v j s) → (b : State) × IsSomeAnd o (gates.Holds v j.gated b) × AreBodiesOf b s
    among None h = absurd h
    among (Some f) h = (h.bodies, h.held, h.spelled)

pub records_of : (v : View) (j : Journal) (s : Recorded) (bodies : State) → gates.HasState v j.gated bodies → AreBodiesOf bodies s → HasRecords v j s
records_of v j s bodies has are = among v.content has
  where
    among : (o : Option Files) → IsSomeAnd o (gates.Holds v j.gated bodies) → IsSomeAnd o (HoldsRecords v j s)
    among None h = absurd h
    among (Some f) h = holds_records v j bodies s f h are

-- a step of the bodies is one of the records
pub step : (v w : View) (j k : Journal) (s t : Recorded) (f : State → State) → ((b : State) → gates.HasState v j.gated b → gates.HasState w k.gated (f b)) → ((b : State) → AreBodiesOf b s → AreBodiesOf (f b) t)
    → HasRecords v j s → HasRecords w k t
step v w j k s t f goes are has =
    let b = bodies_of v j s has in
    records_of w k t (f b.bodies) (goes b.bodies b.has) (are b.bodies b.are)

pub ready_step : (v w : View) (j k : Journal) (F : ℕ → Type 0) → OthersStay F v w → k.gated.file ≡ journal_file k.generation k.region → gates.IsReady w k.gated
    → ((s : Recorded) → HasRecords v j s → (t : Recorded) × HasRecords w k t) → IsReady v j → IsReady w k
ready_step v w j k F stays file_is ready goes was = record { file = file_is; gated = ready; state = among v.content w.content stays.content was.state goes }
  where
    among : (o n : Option Files) → ReadsAfter (SameOutside F) o n → IfSome o (λ files. (s : Recorded) × HoldsRecords v j s files) → ((s : Recorded) → IsSomeAnd o (HoldsRecords v j s) → (t : Recorded) × IsSomeAnd n (HoldsRecords w k t))
        → IfSome n (λ files. (t : Recorded) × HoldsRecords w k t files)
    among None n after has go = subst (λ (x : Option Files). IfSome x (λ files. (t : Recorded) × HoldsRecords w k t files)) (sym after) tt
    among (Some a) None after has go = absurd after
    among (Some a) (Some b) after has go = go has.0 has.1

-- each image has the records, where it has the bodies
pub moments_of : (v w : View) (file : ℕ) (bodies more : List Body) (rs others : List JournalRecord) → zips bodies rs → zips more others
    → AtEachMoment v w (OnlyOn v file (Stands bodies more)) → AtEachMoment v w (OnlyOn v file (StandsRecords rs others))
moments_of v w file bodies more rs others sure next run =
    only_weaker v w (Only file) (λ c. Stands bodies more (c file)) (λ c. StandsRecords rs others (c file)) (λ c stands. stands_records bodies more rs others (c file) sure next stands) run

-- one call more on the file
pub moments_then : (old mid new : View) (file mid_file : ℕ) (P Q : List ℕ → Type 0) → IsLawful mid → mid_file ≡ file → AtEachMoment old mid (OnlyOn old file P) → AtEachMoment mid new (OnlyOn mid mid_file Q)
    → ((bytes : List ℕ) → Q bytes → P bytes) → AtEachMoment old new (OnlyOn old file P)
moments_then old mid new file mid_file P Q lawful same first second gives =
    only_then old mid new (Only file) (Only file) (λ c. P (c file)) (λ c. Q (c file)) lawful (λ f is. is) first
    (subst (λ (f : ℕ). AtEachMoment mid new (OnlyOn mid f Q)) same second)
    (λ d c was p stays q. gives (c file) q)

-- a body more, and its record
pub bodies_appended : (b : State) (s : Recorded) (body : Body) (r : JournalRecord) → AreBodiesOf b s → IsJournalBody body r → AreBodiesOf (bodies.appended b body) (appended s r)
bodies_appended b s body r are is = record { hard = are.hard; opening = are.opening; closed = zip_append IsJournalBody b.closed (body ∷ []) s.closed (r ∷ []) are.closed (is, tt) }

-- after a sync
pub bodies_synced : (b : State) (s : Recorded) → AreBodiesOf b s → AreBodiesOf (bodies.synced b) (synced s)
bodies_synced b s are = record { hard = zip_append IsJournalBody b.hard b.opening s.hard s.opening are.hard are.opening; opening = tt; closed = are.closed }

-- after all gates were opened
pub bodies_opened : (b : State) (s : Recorded) → AreBodiesOf b s → AreBodiesOf (bodies.opened_all b) (opened s)
bodies_opened b s are = record { hard = are.hard; opening = zip_append IsJournalBody b.opening b.closed s.opening s.closed are.opening are.closed; closed = tt }

-- where no gate is closed, no record waits behind one
pub none_closed : (v : View) (j : Journal) (s : Recorded) → HasRecords v j s → (HasClosed j → ⊥) → s.closed ≡ []
none_closed v j s has none =
    let b = bodies_of v j s has in
    with_told v.content (gates.Holds v j.gated b.bodies) (s.closed ≡ []) b.has (λ files held. zipped b.bodies.closed s.closed (none_there (bodies.place b.bodies) b.bodies.closed j.gated.closed.items held.places none) b.are.closed)
  where
    none_there : (at : ℕ) (closed : List Body) (items : List ℕ) → items ≡ bodies.places at closed → (0 < length items → ⊥) → closed ≡ []
    none_there at [] items is empty = refl
    none_there at (body ∷ more) items is empty = absurd (empty (omega (arith, ap length is)))

    zipped : (closed : List Body) (rs : List JournalRecord) → closed ≡ [] → zips closed rs → rs ≡ []
    zipped [] [] is zip = refl
    zipped [] (r ∷ rs) is zip = absurd zip
    zipped (body ∷ more) rs is zip = cc is

-- the bodies are synced before their gates are opened,
pub before_opening : (v w : View) (file : ℕ) (s : Recorded) → AtEachMoment v w (OnlyOn v file (StandsRecords s.hard s.opening)) → AtEachMoment v w (OnlyOn v file (StandsRecords s.hard (s.opening ++ s.closed)))
before_opening v w file s run =
    only_weaker v w (Only file) (λ c. StandsRecords s.hard s.opening (c file)) (λ c. StandsRecords s.hard (s.opening ++ s.closed) (c file))
    (λ c stands. records_more s.hard s.opening s.closed (c file) stands) run

-- and a call follows
pub then_hardening : (old mid new : View) (file mid_file : ℕ) (s : Recorded) → IsLawful mid → mid_file ≡ file
    → AtEachMoment old mid (OnlyOn old file (StandsRecords s.hard (s.opening ++ s.closed))) → AtEachMoment mid new (OnlyOn mid mid_file (StandsRecords (s.hard ++ s.opening) s.closed))
    → AtEachMoment old new (OnlyOn old file (StandsRecords s.hard (s.opening ++ s.closed)))
then_hardening old mid new file mid_file s lawful same first second =
    moments_then old mid new file mid_file (StandsRecords s.hard (s.opening ++ s.closed)) (StandsRecords (s.hard ++ s.opening) s.closed) lawful same first second
    (λ bytes stands. records_later s.hard s.opening s.closed bytes stands)
