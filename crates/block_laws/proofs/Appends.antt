-- Several records appended at once.
use Rattle.std.proofs.Common.{◌≡◌, ◌⊎◌, inl, inr, ℕ, ◌≤◌, ◌==◌, ◌||◌, ◌&&◌, Bool, true, false, nat_le, cond, List, [], ◌∷◌, ◌++◌, length, take, find, Option, Some, None, IsSome, is_some, refl, sym, ◌∙◌, ap, subst, arith, append_assoc, append-nil, option_map}
use Rattle.std.proofs.lemmas.Bool.Decides.{nat_tests}
use Rattle.std.specs.List.{AllByRecursion}
use Rattle.std.specs.Option.{option_or}
use Rattle.global_defs.specs.Entry.{Globals, Sequence}
use Rattle.journal_defs.specs.Journal.{JournalRecord, Pini, Epoch, Pblk, Tcom, Before}
use Rattle.journal_defs.specs.Instance.{InstanceRecord, Create, Reigned, Cut, Map, Mode, generation, regions}
use Rattle.journal_defs.specs.Surviving.{survives}
use Rattle.journal_defs.specs.Sequence.{Placed}
use Rattle.journal_defs.specs.Epochs.{Blocks, Chosen, chosen, image_of, starts_without, is_without, first_without, NeedsForward}
use Rattle.journal_defs.specs.Undo.{MayWrite, MayLog, MayAppend, logged}
use Rattle.journal_defs.specs.Sound.{IsSoundRegion, BlocksGrow, NoEpochPast}
use Rattle.journal_laws.proofs.EveryTarget as every
use Rattle.journal_laws.proofs.Targets as targets
use Rattle.journal_laws.proofs.Images.{image_of-append, some_or, or_some as or_right}
use Rattle.journal_laws.proofs.ImageSteps.{all_take}
use Rattle.block_laws.specs.Several.{MayAppendAll, logged_all}
use Rattle.journal_laws.proofs.EveryTarget.{eq_self, is_other}

write_more : (e : Chosen) (p : Placed) (b : ℕ) → MayWrite e b → MayWrite (logged e p) b
write_more e p b (inl far) = inl far
write_more e p b (inr has) = inr (subst (λ (o : Option (List ℕ)). IsSome o) (sym (image_of-append e.after (p ∷ []) b)) (some_or (image_of e.after b) (image_of (p ∷ []) b) has))

log_more : (e : Chosen) (p : Placed) (database : Blocks) (i : Before) → MayLog e database i → MayLog (logged e p) database i
log_more e p database i (inl may) = inl (write_more e p i.block may)
log_more e p database i (inr same) = inr same

append_more : (e : Chosen) (p : Placed) (database : Blocks) (what : JournalRecord) → MayAppend e database what → MayAppend (logged e p) database what
append_more e p database (Pblk i) may = log_more e p database i may
append_more e p database (Epoch m) may = may
append_more e p database (Pini s) may = tt
append_more e p database (Tcom x) may = tt

all_more : (e : Chosen) (p : Placed) (database : Blocks) (ps : List Placed) → MayAppendAll e database ps → MayAppendAll (logged e p) database ps
all_more e p database [] all = tt
all_more e p database (q ∷ qs) all = (append_more e p database q.what all.0, all_more e p database qs all.1)

chosen_one : (instance : List InstanceRecord) (t : ℕ) (journal : List Placed) (e : Chosen) (database : Blocks) (p : Placed) → MayAppend e database p.what
    → chosen instance t (journal ++ p ∷ []) ≡ logged (chosen instance t journal) p
chosen_one instance t journal e database p may = targets.other_record instance t journal p (is_other instance t p.generation e database p.what may)

-- an epoch with these records after it
abbrev with_after : Chosen → List Placed → Chosen
with_after e l = record { number = e.number; blocks = e.blocks; after = l }

pub chosen_all : (instance : List InstanceRecord) (t : ℕ) (journal : List Placed) (e : Chosen) (database : Blocks) (ps : List Placed) → MayAppendAll e database ps
    → chosen instance t (journal ++ ps) ≡ logged_all (chosen instance t journal) ps
chosen_all instance t journal e database [] all = ap (chosen instance t) (append-nil journal) ∙ ap (with_after (chosen instance t journal)) (sym (append-nil (chosen instance t journal).after))
chosen_all instance t journal e database (p ∷ ps) all =
    ap (chosen instance t) (sym (append_assoc journal (p ∷ []) ps)) ∙ chosen_all instance t (journal ++ p ∷ []) e database ps all.1
    ∙ ap (λ (d : Chosen). logged_all d ps) (chosen_one instance t journal e database p all.0)
    ∙ ap (with_after (chosen instance t journal)) (append_assoc (chosen instance t journal).after (p ∷ []) ps)

-- the others may be appended behind the first
next_all : (instance : List InstanceRecord) (n : ℕ) (journal : List Placed) (database : Blocks) (p : Placed) (ps : List Placed)
    → MayAppendAll (chosen instance n journal) database (p ∷ ps) → MayAppendAll (chosen instance n (journal ++ p ∷ [])) database ps
next_all instance n journal database p ps all =
    subst (λ (e : Chosen). MayAppendAll e database ps) (sym (chosen_one instance n journal (chosen instance n journal) database p all.0))
    (all_more (chosen instance n journal) p database ps all.1)

-- a region through records that may be appended

pub sound_all : (of : Sequence → Globals) (instance : List InstanceRecord) (seq : Sequence) (journal : List Placed) (database : Blocks) (ps : List Placed)
    → IsSoundRegion of instance seq journal database → BlocksGrow instance (length seq) journal
    → MayAppendAll (chosen instance (length seq) journal) database ps → IsSoundRegion of instance seq (journal ++ ps) database
sound_all of instance seq journal database [] sound grow all = subst (λ (js : List Placed). IsSoundRegion of instance seq js database) (sym (append-nil journal)) sound
sound_all of instance seq journal database (p ∷ ps) sound grow all =
    subst (λ (js : List Placed). IsSoundRegion of instance seq js database) (append_assoc journal (p ∷ []) ps)
    (sound_all of instance seq (journal ++ p ∷ []) database ps (every.record_appended of instance seq journal database p sound grow all.0)
    (every.grow_record instance (length seq) journal database p grow all.0) (next_all instance (length seq) journal database p ps all))

pub grow_all : (instance : List InstanceRecord) (n : ℕ) (journal : List Placed) (database : Blocks) (ps : List Placed) → BlocksGrow instance n journal
    → MayAppendAll (chosen instance n journal) database ps → BlocksGrow instance n (journal ++ ps)
grow_all instance n journal database [] grow all = subst (BlocksGrow instance n) (sym (append-nil journal)) grow
grow_all instance n journal database (p ∷ ps) grow all =
    subst (BlocksGrow instance n) (append_assoc journal (p ∷ []) ps)
    (grow_all instance n (journal ++ p ∷ []) database ps (every.grow_record instance n journal database p grow all.0) (next_all instance n journal database p ps all))

pub none_past_all : (instance : List InstanceRecord) (n : ℕ) (journal : List Placed) (database : Blocks) (ps : List Placed) → NoEpochPast n instance journal
    → MayAppendAll (chosen instance n journal) database ps → NoEpochPast n instance (journal ++ ps)
none_past_all instance n journal database [] none all = subst (NoEpochPast n instance) (sym (append-nil journal)) none
none_past_all instance n journal database (p ∷ ps) none all =
    subst (NoEpochPast n instance) (append_assoc journal (p ∷ []) ps)
    (none_past_all instance n (journal ++ p ∷ []) database ps (every.none_past_record instance n journal database p none all.0) (next_all instance n journal database p ps all))

pub survives_newest : (instance : List InstanceRecord) (g n : ℕ) → generation instance ≤ g → survives instance g n ≡ true
survives_newest [] g n low = refl
survives_newest (Cut m h ∷ rs) g n low = let yes : nat_le h g ≡ true = grind (arith, nat_tests, low) in rw yes (survives_newest rs g n (omega (arith, low)))
survives_newest (Create name regions ∷ rs) g n low = survives_newest rs g n low
survives_newest (Reigned r ∷ rs) g n low = survives_newest rs g n low
survives_newest (Map region star name ∷ rs) g n low = survives_newest rs g n low
survives_newest (Mode region before ∷ rs) g n low = survives_newest rs g n low

-- no generation without images
pub and_false : (a b : Bool) → b ≡ false → (a && b) ≡ false
and_false true b h = h
and_false false b h = refl

none_passes : (p : Placed) (journal : List Placed) → AllByRecursion (λ q. starts_without q.what ≡ false) journal → is_without journal p ≡ false
none_passes p [] all = refl
none_passes p (q ∷ qs) all =
    ap (λ (b : Bool). b || is_without qs p) (and_false (q.generation == p.generation) (starts_without q.what) all.0) ∙ none_passes p qs all.1

found_none : (f : Placed → Bool) (ps : List Placed) → ((p : Placed) → f p ≡ false) → find f ps ≡ None
found_none f [] none = refl
found_none f (p ∷ ps) none = ap (λ (b : Bool). cond b (Some p) (find f ps)) (none p) ∙ found_none f ps none

pub none_without : (instance : List InstanceRecord) (t : ℕ) (journal : List Placed) → AllByRecursion (λ p. starts_without p.what ≡ false) journal → NeedsForward instance t journal → ⊥
none_without instance t journal all needs =
    let none : find (is_without journal) (chosen instance t journal).after ≡ None = found_none (is_without journal) (chosen instance t journal).after (λ p. none_passes p journal all) in
    let gone : is_some (first_without journal (chosen instance t journal)) ≡ false = ap (λ (o : Option Placed). is_some (option_map (λ (p : Placed). p.generation) o)) none in
    let there : is_some (first_without journal (chosen instance t journal)) ≡ true = needs in
    cc

pub may_take : (e : Chosen) (database : Blocks) (k : ℕ) (ps : List Placed) → MayAppendAll e database ps → MayAppendAll e database (take k ps)
may_take e database k ps all = all_take (λ p. MayAppend e database p.what) k ps all

pub image_stays : (ps qs : List Placed) (b : ℕ) → IsSome (image_of ps b) → IsSome (image_of (ps ++ qs) b)
image_stays ps qs b has = subst (λ (o : Option (List ℕ)). IsSome o) (sym (image_of-append ps qs b)) (some_or (image_of ps b) (image_of qs b) has)

image_behind : (ps qs : List Placed) (b : ℕ) → IsSome (image_of qs b) → IsSome (image_of (ps ++ qs) b)
image_behind ps qs b has = subst (λ (o : Option (List ℕ)). IsSome o) (sym (image_of-append ps qs b)) (or_right (image_of ps b) (image_of qs b) has)

pub image_there : (ps : List Placed) (g : ℕ) (i : Before) → IsSome (image_of (ps ++ record { generation = g; what = Pblk i } ∷ []) i.block)
image_there ps g i = image_behind ps (record { generation = g; what = Pblk i } ∷ []) i.block
    (ap (λ (b : Bool). is_some (option_or (cond b (Some i.bytes) None) None)) (eq_self i.block))

pub may_write : (e : Chosen) (ps : List Placed) (b : ℕ) → MayWrite e b ⊎ IsSome (image_of ps b) → MayWrite (logged_all e ps) b
may_write e ps b (inl (inl far)) = inl far
may_write e ps b (inl (inr has)) = inr (image_stays e.after ps b has)
may_write e ps b (inr has) = inr (image_behind e.after ps b has)

pub none_past_greater : (instance : List InstanceRecord) (n m : ℕ) (journal : List Placed) → n ≤ m → NoEpochPast n instance journal → NoEpochPast m instance journal
none_past_greater instance n m journal low none t high = none t (omega (arith, low, high)) ∙ sym (none m low)
