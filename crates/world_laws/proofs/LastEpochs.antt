-- Epochs of all entries, and the records of journals that tell them.
use Rattle.std.proofs.Common.{◌≡◌, ℕ, ◌≤◌, ◌<◌, ◌&&◌, nat_le, nat_lt, Bool, true, false, List, [], ◌∷◌, ◌++◌, length, Option, Some, None, refl, sym, ◌∙◌, ap, subst, arith, if◌then◌else◌}
use Rattle.std.proofs.lemmas.Bool.Decides.{nat_tests}
use Rattle.std.specs.List.{filter_map}
use Rattle.std.specs.Option.{option_or, option_map, unwrap_or}
use Rattle.disk_defs.specs.Disk.{Files}
use Rattle.journal_defs.specs.Journal.{JournalRecord, Pini, Epoch, Pblk, Tcom}
use Rattle.journal_defs.specs.Instance.{InstanceRecord, generation, regions}
use Rattle.journal_defs.specs.Surviving.{survives}
use Rattle.journal_defs.specs.Sequence.{Placed, Records}
use Rattle.journal_defs.specs.Stands.{AreRecords}
use Rattle.journal_defs.specs.Epochs as journals
use Rattle.journal_defs.specs.Epochs.{Chosen, last_epoch, beginning, chosen}
use Rattle.journal_laws.proofs.Readings.{records_one}
use Rattle.journal_laws.proofs.Runs.{or_none}
use Rattle.block_laws.proofs.Appends.{survives_newest}
use Rattle.site_defs.specs.Contents.{Taken, Contents}
use Rattle.site_defs.specs.Epochs.{last_for, epoch_for, marked, HasEpochs}
use Rattle.site_defs.specs.Stands.{epoch_in, IsSite}

-- an epoch of the newest generation is the last one of its number
last_new : (instance : List InstanceRecord) (g n : ℕ) (es : List Taken) → generation instance ≤ g → last_for instance n (es ++ record { generation = g; number = n } ∷ []) ≡ Some n
last_new instance g n [] low = let same : nat_le n n ≡ true = grind (arith, nat_tests) in rw (survives_newest instance g n low, same) refl
last_new instance g n (e ∷ es) low =
    ap (λ (o : Option ℕ). option_or o (if survives instance e.generation e.number && nat_le e.number n then Some e.number else None)) (last_new instance g n es low)

pub has-marked : (c : Contents) → HasEpochs (marked c)
has-marked c r here =
    let inside : nat_lt r (length (regions c.instance)) ≡ true = grind (arith, nat_tests, here) in
    let own : Taken = record { generation = generation c.instance; number = length c.sequence } in
    ap (λ (b : Bool). epoch_for c.instance (length c.sequence) (c.epochs r ++ (if b then own ∷ [] else []))) inside
    ∙ ap (λ (o : Option ℕ). unwrap_or o 0) (last_new c.instance (generation c.instance) (length c.sequence) (c.epochs r) (omega arith))

-- the epochs of a journal, and the one that its region has chosen

abbrev numbers : Option Chosen → Option ℕ
numbers o = option_map (λ (e : Chosen). e.number) o

number_or : (a b : Option Chosen) → numbers (option_or a b) ≡ option_or (numbers a) (numbers b)
number_or None b = refl
number_or (Some e) b = refl

number_if : (b : Bool) (e : Chosen) → numbers (if b then Some e else None) ≡ (if b then Some e.number else None)
number_if true e = refl
number_if false e = refl

abbrev taken_of : List Placed → List Taken
taken_of journal = filter_map (λ p. epoch_in p.generation p.what) journal

-- with one record before the others
last_one : (instance : List InstanceRecord) (t g : ℕ) (what : JournalRecord) (ps : List Placed) → last_for instance t (taken_of ps) ≡ numbers (last_epoch instance t ps)
    → last_for instance t (taken_of (record { generation = g; what = what } ∷ ps)) ≡ numbers (option_or (last_epoch instance t ps) (journals.epoch_in instance t g what ps))
last_one instance t g (Pini s) ps more = more ∙ ap numbers (sym (or_none (last_epoch instance t ps)))
last_one instance t g (Pblk b) ps more = more ∙ ap numbers (sym (or_none (last_epoch instance t ps)))
last_one instance t g (Tcom part) ps more = more ∙ ap numbers (sym (or_none (last_epoch instance t ps)))
last_one instance t g (Epoch m) ps more =
    let counts : Bool = survives instance g m.number && nat_le m.number t in
    let e : Chosen = record { number = m.number; blocks = m.blocks; after = ps } in
    ap (λ (o : Option ℕ). option_or o (if counts then Some m.number else None)) more
    ∙ ap (λ (o : Option ℕ). option_or (numbers (last_epoch instance t ps)) o) (sym (number_if counts e))
    ∙ sym (number_or (last_epoch instance t ps) (if counts then Some e else None))

last_alike : (instance : List InstanceRecord) (t : ℕ) (journal : List Placed) → last_for instance t (taken_of journal) ≡ numbers (last_epoch instance t journal)
last_alike instance t [] = refl
last_alike instance t (p ∷ ps) = last_one instance t p.generation p.what ps (last_alike instance t ps)

number_of : (o : Option Chosen) (e : Chosen) → unwrap_or (numbers o) e.number ≡ (unwrap_or o e).number
number_of None e = refl
number_of (Some x) e = refl

pub chosen_alike : (instance : List InstanceRecord) (t : ℕ) (journal : List Placed) → epoch_for instance t (filter_map (λ p. epoch_in p.generation p.what) journal) ≡ (chosen instance t journal).number
chosen_alike instance t journal = ap (λ (o : Option ℕ). unwrap_or o 0) (last_alike instance t journal) ∙ number_of (last_epoch instance t journal) (beginning journal)

pub has-held : (f : Files) (c : Contents) → IsSite f c → HasEpochs c → (s : Records) → AreRecords f s → (r : ℕ) → r < length (regions c.instance)
    → (chosen s.instance (length c.sequence) (s.journal r)).number ≡ length c.sequence
has-held f c site has s held r here =
    subst (λ (u : Records). (chosen u.instance (length c.sequence) (u.journal r)).number ≡ length c.sequence) (records_one f site.records s site.image.held held)
    (subst (λ (rs : List InstanceRecord). (chosen rs (length c.sequence) (site.records.journal r)).number ≡ length c.sequence) (sym site.instance)
    (sym (chosen_alike c.instance (length c.sequence) (site.records.journal r)) ∙ ap (epoch_for c.instance (length c.sequence)) (sym (site.epochs r)) ∙ has r here))
