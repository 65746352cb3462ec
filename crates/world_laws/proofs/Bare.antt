-- Generations without images behind an epoch, as starts and epochs tell them.
use Rattle.std.proofs.Common.{◌≡◌, ◌⊎◌, ◌==◌, ◌&&◌, ◌||◌, ◌+◌, ℕ, zero, suc, ◌≤◌, ◌<◌, nat_le, nat_lt, not, Bool, true, false, List, [], ◌∷◌, ◌++◌, length, map, Option, Some, None, refl, sym, ◌∙◌, ap, subst, arith, inl, inr, if◌then◌else◌, slice_get}
use Rattle.std.proofs.lemmas.Bool.{false≢true}
use Rattle.std.proofs.lemmas.Bool.Decides.{nat_tests}
use Rattle.std.specs.List.{AllByRecursion, filter_map, find, list_any}
use Rattle.std.specs.Option.{option_or, option_map, unwrap_or}
use Rattle.disk_defs.specs.Disk.{Files}
use Rattle.journal_defs.specs.Journal.{JournalRecord, Start, Pini, Epoch, Pblk, Tcom, IsNoPini, BeginsWithPini}
use Rattle.journal_defs.specs.Instance.{InstanceRecord, generation, regions}
use Rattle.journal_defs.specs.Surviving.{survives}
use Rattle.journal_defs.specs.Sequence.{Placed, Records}
use Rattle.journal_defs.specs.Stands.{AreRecords, IsJournal, in_generation}
use Rattle.journal_defs.specs.Epochs as journals
use Rattle.journal_defs.specs.Epochs.{Chosen, last_epoch, beginning, chosen, starts_without, is_without, first_without}
use Rattle.journal_laws.proofs.Readings.{records_one}
use Rattle.site_defs.specs.Contents.{Taken, Contents}
use Rattle.site_defs.specs.Stands.{start_in, epoch_in, IsSite}
use Rattle.command_defs.specs.Commands.{Name}
use Rattle.world_defs.specs.Without.{without_behind, IsFirstWithout, NoneIsWithout, last_taken, generation_of, epoch_generation, first_past, is_bare, bare_past, is_bare_epoch, needing_or, needing_from, needing, MayNeed}
use Rattle.global_defs.proofs.Basics.{and_false}
use Rattle.global_defs.specs.Region.{Region}

-- A record behind those of generation g: of this generation, and no PINI, or the PINI of a later one.
data Step (g : ℕ) (p : Placed) : Type 0 where
  Goes : p.generation ≡ g → IsNoPini p.what → Step g p
  Begins : (s : Start) → p.what ≡ Pini s → s.generation ≡ p.generation → g < p.generation → Step g p

abbrev Runs : ℕ → List Placed → Type 0
Runs g [] = Unit {0}
Runs g (p ∷ ps) = Step g p × Runs p.generation ps

abbrev starts_of : List Placed → List Start
starts_of ps = filter_map (λ p. start_in p.what) ps

abbrev takens_of : List Placed → List Taken
takens_of ps = filter_map (λ p. epoch_in p.generation p.what) ps

-- the generation of the last record
abbrev last_of : ℕ → List Placed → ℕ
last_of g [] = g
last_of g (p ∷ ps) = last_of p.generation ps

runs_on : (g : ℕ) (ps qs : List Placed) → Runs g ps → Runs (last_of g ps) qs → Runs g (ps ++ qs)
runs_on g [] qs a b = b
runs_on g (p ∷ ps) qs a b = (a.0, runs_on p.generation ps qs a.1 b)

last_on : (g : ℕ) (ps qs : List Placed) → last_of g (ps ++ qs) ≡ last_of (last_of g ps) qs
last_on g [] qs = refl
last_on g (p ∷ ps) qs = last_on p.generation ps qs

goes_on : (g : ℕ) (xs : List JournalRecord) → AllByRecursion IsNoPini xs → Runs g (map (in_generation g) xs) × (last_of g (map (in_generation g) xs) ≡ g)
goes_on g [] all = (tt, refl)
goes_on g (x ∷ xs) all = let more = goes_on g xs all.1 in ((Goes refl all.0, more.0), more.1)

begins_so : (low r g previous : ℕ) (xs : List JournalRecord) → low < g → BeginsWithPini r g previous xs → Runs low (map (in_generation g) xs) × (last_of low (map (in_generation g) xs) ≤ g)
begins_so low r g previous [] less b = (tt, omega (arith, less))
begins_so low r g previous (Pini s ∷ xs) less b = let more = goes_on g xs b.3 in ((Begins s refl b.1 less, more.0), omega (arith, more.1))
begins_so low r g previous (Epoch m ∷ xs) less b = absurd b
begins_so low r g previous (Pblk m ∷ xs) less b = absurd b
begins_so low r g previous (Tcom m ∷ xs) less b = absurd b

journal_runs : (files : Files) (r g last : ℕ) (ps : List Placed) → IsJournal files r g last ps → Runs 0 ps × (last_of 0 ps ≤ g)
journal_runs files r zero last ps j = rw j.1 (tt, omega arith)
journal_runs files r (suc g) last ps j =
    let older = journal_runs files r g j.0 j.1 j.3 in
    let newer = begins_so (last_of 0 j.1) r (suc g) j.0 j.2 (omega (arith, older.1)) j.5 in
    subst (λ (qs : List Placed). Runs 0 qs × (last_of 0 qs ≤ suc g)) (sym j.7)
    (runs_on 0 j.1 (map (in_generation (suc g)) j.2) older.0 newer.0, subst (λ (n : ℕ). n ≤ suc g) (sym (last_on 0 j.1 (map (in_generation (suc g)) j.2))) newer.1)

-- the generations without images, by the records and by the starts

or_false : (b c : Bool) → c ≡ false → (b || c) ≡ b
or_false true c e = refl
or_false false c e = e

no_start : (what : JournalRecord) → IsNoPini what → starts_without what ≡ false
no_start (Pini s) plain = absurd plain
no_start (Epoch m) plain = refl
no_start (Pblk m) plain = refl
no_start (Tcom m) plain = refl

-- a record that is no PINI adds no start
plain_starts : (g : ℕ) (what : JournalRecord) (ps : List Placed) → IsNoPini what → starts_of (record { generation = g; what = what } ∷ ps) ≡ starts_of ps
plain_starts g (Pini s) ps plain = absurd plain
plain_starts g (Epoch m) ps plain = refl
plain_starts g (Pblk m) ps plain = refl
plain_starts g (Tcom m) ps plain = refl

without_one : (h g : ℕ) (p : Placed) (ps : List Placed) → Step g p → list_any (λ (q : Placed). q.generation == h && starts_without q.what) ps ≡ is_bare h (starts_of ps)
    → list_any (λ (q : Placed). q.generation == h && starts_without q.what) (p ∷ ps) ≡ is_bare h (starts_of (p ∷ ps))
without_one h g p ps (Goes same plain) more =
    ap (λ (b : Bool). (p.generation == h && b) || list_any (λ (q : Placed). q.generation == h && starts_without q.what) ps) (no_start p.what plain)
    ∙ ap (λ (b : Bool). b || list_any (λ (q : Placed). q.generation == h && starts_without q.what) ps) (and_false (p.generation == h))
    ∙ more ∙ ap (is_bare h) (sym (plain_starts p.generation p.what ps plain))
without_one h g p ps (Begins s is one past) more =
    rw is (ap (λ (n : ℕ). n == h && not s.before || list_any (λ (q : Placed). q.generation == h && starts_without q.what) ps) (sym one)
    ∙ ap (λ (b : Bool). s.generation == h && not s.before || b) more)

without_is_bare : (h g : ℕ) (ps : List Placed) → Runs g ps → list_any (λ (q : Placed). q.generation == h && starts_without q.what) ps ≡ is_bare h (starts_of ps)
without_is_bare h g [] runs = refl
without_is_bare h g (p ∷ ps) runs = without_one h g p ps runs.0 (without_is_bare h p.generation ps runs.1)

-- no start behind generation g is of it, or of an earlier one

earlier_one : (h g : ℕ) (p : Placed) (ps : List Placed) → Step g p → h ≤ g → (h ≤ p.generation → is_bare h (starts_of ps) ≡ false) → is_bare h (starts_of (p ∷ ps)) ≡ false
earlier_one h g p ps (Goes same plain) low more = ap (is_bare h) (plain_starts p.generation p.what ps plain) ∙ more (omega (arith, low, same))
earlier_one h g p ps (Begins s is one past) low more =
    let other : (s.generation == h) ≡ false = grind (arith, nat_tests, one, past, low) in
    rw (is, other) (more (omega (arith, low, past)))

none_earlier : (h g : ℕ) (ps : List Placed) → Runs g ps → h ≤ g → is_bare h (starts_of ps) ≡ false
none_earlier h g [] runs low = refl
none_earlier h g (p ∷ ps) runs low = earlier_one h g p ps runs.0 low (λ less. none_earlier h p.generation ps runs.1 less)

-- starts behind generation g are past a lower one too

lower_one : (low g : ℕ) (p : Placed) (ps : List Placed) → Step g p → low ≤ g → ((h : ℕ) → h ≤ p.generation → first_past h (starts_of ps) ≡ first_past p.generation (starts_of ps)) → first_past low (starts_of (p ∷ ps)) ≡ first_past g (starts_of (p ∷ ps))
lower_one low g p ps (Goes same plain) less more =
    ap (first_past low) (plain_starts p.generation p.what ps plain) ∙ more low (omega (arith, less, same))
    ∙ ap (λ (h : ℕ). first_past h (starts_of ps)) same ∙ ap (first_past g) (sym (plain_starts p.generation p.what ps plain))
lower_one low g p ps (Begins s is one past) less more =
    let lower : nat_lt low s.generation ≡ true = grind (arith, nat_tests, one, past, less) in
    let here : nat_lt g s.generation ≡ true = grind (arith, nat_tests, one, past, less) in
    rw (is, lower, here) (ap (λ (o : Option ℕ). if not s.before then Some s.generation else o) (more low (omega (arith, less, past)) ∙ sym (more g (omega (arith, past)))))

past_lower : (low g : ℕ) (ps : List Placed) → Runs g ps → low ≤ g → first_past low (starts_of ps) ≡ first_past g (starts_of ps)
past_lower low g [] runs less = refl
past_lower low g (p ∷ ps) runs less = lower_one low g p ps runs.0 less (λ h low_enough. past_lower h p.generation ps runs.1 low_enough)

-- Among all starts those behind generation g tell which later generations are without images.
record Tells (all : List Start) (g : ℕ) (ps : List Placed) : Type 0 where
  later : (h : ℕ) → g < h → is_bare h all ≡ is_bare h (starts_of ps)

tells_own : (all : List Start) (g : ℕ) (p : Placed) (ps : List Placed) (s : Start) → Tells all g (p ∷ ps) → Runs p.generation ps → p.what ≡ Pini s → s.generation ≡ p.generation → g < p.generation → is_bare p.generation all ≡ not s.before
tells_own all g p ps s tells runs is one past =
    let same : (s.generation == p.generation) ≡ true = grind (arith, nat_tests, one) in
    tells.later p.generation past ∙ rw (is, same) (or_false (not s.before) (is_bare p.generation (starts_of ps)) (none_earlier p.generation p.generation ps runs (omega arith)))

tells_more : (all : List Start) (g : ℕ) (p : Placed) (ps : List Placed) → Step g p → Tells all g (p ∷ ps) → Tells all p.generation ps
tells_more all g p ps (Goes same plain) tells = record { later = λ h past. tells.later h (omega (arith, past, same)) ∙ ap (is_bare h) (plain_starts p.generation p.what ps plain) }
tells_more all g p ps (Begins s is one later) tells = record {
  later = λ h past.
      let other : (s.generation == h) ≡ false = grind (arith, nat_tests, one, past) in
      tells.later h (omega (arith, past, later)) ∙ rw (is, other) refl;
}

-- the first record in a generation without images
abbrev first_bare : List Start → List Placed → Option ℕ
first_bare all ps = option_map (λ (p : Placed). p.generation) (find (λ (p : Placed). is_bare p.generation all) ps)

-- it stands in the first such generation past one with images

begun_one : (all : List Start) (g : ℕ) (p : Placed) (ps : List Placed) (s : Start) (b : Bool) → s.before ≡ b → is_bare p.generation all ≡ not s.before → p.what ≡ Pini s → s.generation ≡ p.generation → g < p.generation
    → (is_bare p.generation all ≡ false → first_bare all ps ≡ first_past g (starts_of ps)) → first_bare all (p ∷ ps) ≡ first_past g (starts_of (p ∷ ps))
begun_one all g p ps s true e own is one past more =
    let here : nat_lt g s.generation ≡ true = grind (arith, nat_tests, one, past) in
    let still : is_bare p.generation all ≡ false = own ∙ ap not e in
    rw (still, is, here, e) (more still)
begun_one all g p ps s false e own is one past more =
    let here : nat_lt g s.generation ≡ true = grind (arith, nat_tests, one, past) in
    let bare : is_bare p.generation all ≡ true = own ∙ ap not e in
    rw (bare, is, here, e) (ap Some (sym one))

clear_one : (all : List Start) (g : ℕ) (p : Placed) (ps : List Placed) → Step g p → Runs p.generation ps → Tells all g (p ∷ ps) → is_bare g all ≡ false
    → (is_bare p.generation all ≡ false → first_bare all ps ≡ first_past p.generation (starts_of ps)) → first_bare all (p ∷ ps) ≡ first_past g (starts_of (p ∷ ps))
clear_one all g p ps (Goes same plain) runs tells clear more =
    let still : is_bare p.generation all ≡ false = subst (λ (h : ℕ). is_bare h all ≡ false) (sym same) clear in
    rw still (more still ∙ ap (λ (h : ℕ). first_past h (starts_of ps)) same ∙ ap (first_past g) (sym (plain_starts p.generation p.what ps plain)))
clear_one all g p ps (Begins s is one past) runs tells clear more =
    begun_one all g p ps s s.before refl (tells_own all g p ps s tells runs is one past) is one past (λ still. more still ∙ sym (past_lower g p.generation ps runs (omega (arith, past))))

clear_behind : (all : List Start) (g : ℕ) (ps : List Placed) → Runs g ps → Tells all g ps → is_bare g all ≡ false → first_bare all ps ≡ first_past g (starts_of ps)
clear_behind all g [] runs tells clear = refl
clear_behind all g (p ∷ ps) runs tells clear = clear_one all g p ps runs.0 runs.1 tells clear (λ still. clear_behind all p.generation ps runs.1 (tells_more all g p ps runs.0 tells) still)

-- past one without it may stand in that one

bare_one : (all : List Start) (g : ℕ) (p : Placed) (ps : List Placed) → Step g p → Runs p.generation ps → Tells all g (p ∷ ps) → Tells all p.generation ps → is_bare g all ≡ true → (first_bare all (p ∷ ps) ≡ Some g) ⊎ (first_bare all (p ∷ ps) ≡ first_past g (starts_of (p ∷ ps)))
bare_one all g p ps (Goes same plain) runs tells later bare = let still : is_bare p.generation all ≡ true = subst (λ (h : ℕ). is_bare h all ≡ true) (sym same) bare in inl (rw still (ap Some same))
bare_one all g p ps (Begins s is one past) runs tells later bare =
    inr (begun_one all g p ps s s.before refl (tells_own all g p ps s tells runs is one past) is one past (λ still. clear_behind all p.generation ps runs later still ∙ sym (past_lower g p.generation ps runs (omega (arith, past)))))

bare_behind : (all : List Start) (g : ℕ) (ps : List Placed) → Runs g ps → Tells all g ps → is_bare g all ≡ true → (first_bare all ps ≡ Some g) ⊎ (first_bare all ps ≡ first_past g (starts_of ps))
bare_behind all g [] runs tells bare = inr refl
bare_behind all g (p ∷ ps) runs tells bare = bare_one all g p ps runs.0 runs.1 tells (tells_more all g p ps runs.0 tells) bare

-- The epoch that a region goes back to, and what stands behind it.
record GoesBack (instance : List InstanceRecord) (t g : ℕ) (all : List Start) (ps : List Placed) (k : Taken) (e : Chosen) : Type 0 where
  taken : last_taken instance t (takens_of ps) ≡ Some k
  epoch : last_epoch instance t ps ≡ Some e
  runs : Runs k.generation e.after
  tells : Tells all k.generation e.after
  past : g ≤ k.generation
  same : first_past k.generation (starts_of ps) ≡ first_past k.generation (starts_of e.after)

abbrev MayGoBack : List InstanceRecord → ℕ → ℕ → List Start → List Placed → Type 0
MayGoBack instance t g all ps = ((last_taken instance t (takens_of ps) ≡ None) × (last_epoch instance t ps ≡ None)) ⊎ ((k : Taken) × (e : Chosen) × GoesBack instance t g all ps k e)

-- a record before these leaves the epoch as it is

taken_kept : (instance : List InstanceRecord) (t h : ℕ) (what : JournalRecord) (ps : List Placed) (k : Taken) → last_taken instance t (takens_of ps) ≡ Some k → last_taken instance t (takens_of (record { generation = h; what = what } ∷ ps)) ≡ Some k
taken_kept instance t h (Pini s) ps k e = e
taken_kept instance t h (Pblk b) ps k e = e
taken_kept instance t h (Tcom p) ps k e = e
taken_kept instance t h (Epoch m) ps k e = ap (λ (o : Option Taken). option_or o (if survives instance h m.number && nat_le m.number t then Some (record { generation = h; number = m.number }) else None)) e

not_past : (g k : ℕ) (p : Placed) (ps : List Placed) → Step g p → p.generation ≤ k → first_past k (starts_of (p ∷ ps)) ≡ first_past k (starts_of ps)
not_past g k p ps (Goes same plain) low = ap (first_past k) (plain_starts p.generation p.what ps plain)
not_past g k p ps (Begins s is one past) low = let below : nat_lt k s.generation ≡ false = grind (arith, nat_tests, one, low) in rw (is, below) refl

not_before : (g : ℕ) (p : Placed) → Step g p → g ≤ p.generation
not_before g p (Goes same plain) = omega (arith, same)
not_before g p (Begins s is one past) = omega (arith, past)

back_more : (instance : List InstanceRecord) (t g : ℕ) (all : List Start) (p : Placed) (ps : List Placed) (k : Taken) (e : Chosen) → Step g p → GoesBack instance t p.generation all ps k e → GoesBack instance t g all (p ∷ ps) k e
back_more instance t g all p ps k e step b = record {
  taken = taken_kept instance t p.generation p.what ps k b.taken;
  epoch = ap (λ (o : Option Chosen). option_or o (journals.epoch_in instance t p.generation p.what ps)) b.epoch;
  runs = b.runs;
  tells = b.tells;
  past = omega (arith, not_before g p step, b.past);
  same = not_past g k.generation p ps step b.past ∙ b.same;
}

-- or is the last one

back_here : (instance : List InstanceRecord) (t g h : ℕ) (all : List Start) (what : JournalRecord) (ps : List Placed) → g ≤ h → Runs h ps → Tells all h ps → last_taken instance t (takens_of ps) ≡ None → last_epoch instance t ps ≡ None
    → MayGoBack instance t g all (record { generation = h; what = what } ∷ ps)
back_here instance t g h all (Pini s) ps low runs tells none no_epoch = inl (none, ap (λ (o : Option Chosen). option_or o None) no_epoch)
back_here instance t g h all (Pblk b) ps low runs tells none no_epoch = inl (none, ap (λ (o : Option Chosen). option_or o None) no_epoch)
back_here instance t g h all (Tcom p) ps low runs tells none no_epoch = inl (none, ap (λ (o : Option Chosen). option_or o None) no_epoch)
back_here instance t g h all (Epoch m) ps low runs tells none no_epoch = by (survives instance h m.number && nat_le m.number t) refl
  where
    k : Taken
    k = record { generation = h; number = m.number }

    e : Chosen
    e = record { number = m.number; blocks = m.blocks; after = ps }

    by : (b : Bool) → (survives instance h m.number && nat_le m.number t) ≡ b → MayGoBack instance t g all (record { generation = h; what = Epoch m } ∷ ps)
    by true counts = inr (
      k,
      e,
      record {
        taken = ap (λ (o : Option Taken). option_or o (if survives instance h m.number && nat_le m.number t then Some k else None)) none ∙ ap (λ (b : Bool). if b then Some k else None) counts;
        epoch = ap (λ (o : Option Chosen). option_or o (if survives instance h m.number && nat_le m.number t then Some e else None)) no_epoch ∙ ap (λ (b : Bool). if b then Some e else None) counts;
        runs = runs;
        tells = tells;
        past = low;
        same = refl;
      },
    )
    by false counts = inl (
      ap (λ (o : Option Taken). option_or o (if survives instance h m.number && nat_le m.number t then Some k else None)) none ∙ ap (λ (b : Bool). if b then Some k else None) counts,
      ap (λ (o : Option Chosen). option_or o (if survives instance h m.number && nat_le m.number t then Some e else None)) no_epoch ∙ ap (λ (b : Bool). if b then Some e else None) counts,
    )

back_one : (instance : List InstanceRecord) (t g : ℕ) (all : List Start) (p : Placed) (ps : List Placed) → Step g p → Runs p.generation ps → Tells all p.generation ps → MayGoBack instance t p.generation all ps → MayGoBack instance t g all (p ∷ ps)
back_one instance t g all p ps step runs tells (inl none) = back_here instance t g p.generation all p.what ps (not_before g p step) runs tells none.0 none.1
back_one instance t g all p ps step runs tells (inr found) = inr (found.0, found.1, back_more instance t g all p ps found.0 found.1 step found.2)

go_back : (instance : List InstanceRecord) (t g : ℕ) (all : List Start) (ps : List Placed) → Runs g ps → Tells all g ps → MayGoBack instance t g all ps
go_back instance t g all [] runs tells = inl (refl, refl)
go_back instance t g all (p ∷ ps) runs tells = let later = tells_more all g p ps runs.0 tells in back_one instance t g all p ps runs.0 runs.1 later (go_back instance t p.generation all ps runs.1 later)

-- as the records say it

find_alike : (test other : Placed → Bool) (ps : List Placed) → ((p : Placed) → test p ≡ other p) → find test ps ≡ find other ps
find_alike test other [] alike = refl
find_alike test other (p ∷ ps) alike = ap (λ (b : Bool). if b then Some p else find test ps) (alike p) ∙ ap (λ (o : Option Placed). if other p then Some p else o) (find_alike test other ps alike)

first_alike : (ps : List Placed) (e : Chosen) → Runs 0 ps → first_without ps e ≡ first_bare (starts_of ps) e.after
first_alike ps e runs = ap (option_map (λ (p : Placed). p.generation)) (find_alike (is_without ps) (λ p. is_bare p.generation (starts_of ps)) e.after (λ p. without_is_bare p.generation 0 ps runs))

-- what starts and epochs of a journal tell
abbrev ToldBy : List InstanceRecord → ℕ → List Placed → (ss : List Start) → (g : ℕ) → Type 0
ToldBy instance t ps ss g = (is_bare g ss ≡ false → first_without ps (chosen instance t ps) ≡ first_past g ss)
    × (is_bare g ss ≡ true → (first_without ps (chosen instance t ps) ≡ Some g) ⊎ (first_without ps (chosen instance t ps) ≡ first_past g ss))

told_by : (instance : List InstanceRecord) (t : ℕ) (ps : List Placed) → Runs 0 ps → ToldBy instance t ps (starts_of ps) (generation_of (last_taken instance t (takens_of ps)))
told_by instance t ps runs = by (go_back instance t 0 (starts_of ps) ps runs own)
  where
    own : Tells (starts_of ps) 0 ps
    own = record { later = λ h past. refl }

    by : MayGoBack instance t 0 (starts_of ps) ps → ToldBy instance t ps (starts_of ps) (generation_of (last_taken instance t (takens_of ps)))
    by (inl none) =
        let e : chosen instance t ps ≡ beginning ps = ap (λ (o : Option Chosen). unwrap_or o (beginning ps)) none.1 in
        let g : generation_of (last_taken instance t (takens_of ps)) ≡ 0 = ap generation_of none.0 in
        subst (ToldBy instance t ps (starts_of ps)) (sym g) (
          λ clear. ap (first_without ps) e ∙ first_alike ps (beginning ps) runs ∙ clear_behind (starts_of ps) 0 ps runs own clear,
          λ bare. absurd (false≢true (sym (none_earlier 0 0 ps runs (omega arith)) ∙ bare)),
        )
    by (inr found) =
        let b = found.2 in
        let e : chosen instance t ps ≡ found.1 = ap (λ (o : Option Chosen). unwrap_or o (beginning ps)) b.epoch in
        let g : generation_of (last_taken instance t (takens_of ps)) ≡ found.0.generation = ap generation_of b.taken in
        let first = ap (first_without ps) e ∙ first_alike ps found.1 runs in
        subst (ToldBy instance t ps (starts_of ps)) (sym g) (
          λ clear. first ∙ clear_behind (starts_of ps) found.0.generation found.1.after b.runs b.tells clear ∙ sym b.same,
          λ bare. elim (bare_behind (starts_of ps) found.0.generation found.1.after b.runs b.tells bare) [ inl x ↦ inl (first ∙ x) | inr y ↦ inr (first ∙ y ∙ sym b.same) ],
        )

pub site_told : (files : Files) (c : Contents) (u : Records) (t r : ℕ) → IsSite files c → AreRecords files u → r < length (regions c.instance) → ToldBy u.instance t (u.journal r) (c.starts r) (epoch_generation c t r)
site_told files c u t r site held inside =
    let same : site.records ≡ u = records_one files site.records u site.image.held held in
    let instance : u.instance ≡ c.instance = sym (ap (λ (x : Records). x.instance) same) ∙ site.instance in
    let starts : starts_of (u.journal r) ≡ c.starts r = sym (site.starts r ∙ ap (λ (x : Records). starts_of (x.journal r)) same) in
    let epochs : takens_of (u.journal r) ≡ c.epochs r = sym (site.epochs r ∙ ap (λ (x : Records). takens_of (x.journal r)) same) in
    let journal = held.journals r (subst (λ (rs : List InstanceRecord). r < length (regions rs)) (sym instance) inside) in
    let told = told_by u.instance t (u.journal r) (journal_runs files r (generation u.instance) journal.0 (u.journal r) journal.1).0 in
    subst (λ (ss : List Start). ToldBy u.instance t (u.journal r) ss (epoch_generation c t r)) starts
    (subst (ToldBy u.instance t (u.journal r) (starts_of (u.journal r))) (ap (λ (rs : List InstanceRecord). generation_of (last_taken rs t (takens_of (u.journal r)))) instance ∙ ap (λ (es : List Taken). generation_of (last_taken c.instance t es)) epochs) told)

pub instance_of : (files : Files) (c : Contents) (u : Records) → IsSite files c → AreRecords files u → c.instance ≡ u.instance
instance_of files c u site held = sym site.instance ∙ ap (λ (x : Records). x.instance) (records_one files site.records u site.image.held held)

pub slice_inside : {X : Type 0} (xs : List X) (i : ℕ) (x : X) → slice_get xs i ≡ Some x → i < length xs
slice_inside [] i x e = cc
slice_inside (y ∷ ys) zero x e = omega arith
slice_inside (y ∷ ys) (suc i) x e = let less = slice_inside ys i x e in omega (arith, less)

-- Region by region.

abbrev IsTold : Contents → Records → ℕ → ℕ → Type 0
IsTold c u t r = ToldBy u.instance t (u.journal r) (c.starts r) (epoch_generation c t r)

past_none : (c : Contents) (u : Records) (t r : ℕ) → IsTold c u t r → is_bare_epoch c t r ≡ false → without_behind u t r ≡ None → bare_past c t r ≡ None
past_none c u t r told clear none = sym (told.0 clear) ∙ none

later_one : (c : Contents) (u : Records) (t r : ℕ) (m : Region) (ms : List Region) (x : Option (Option (Name × ℕ))) (b : Bool) → is_bare_epoch c t r ≡ b → IsTold c u t r → without_behind u t r ≡ None
    → (needing_from c t (suc r) ms ≡ x) ⊎ (needing_from c t (suc r) ms ≡ None) → (needing_from c t r (m ∷ ms) ≡ x) ⊎ (needing_from c t r (m ∷ ms) ≡ None)
later_one c u t r m ms x true bare told none more = inr (ap (λ (b : Bool). if b then None else needing_or (bare_past c t r) m.name (needing_from c t (suc r) ms)) bare)
later_one c u t r m ms x false clear told none more =
    let same : needing_from c t r (m ∷ ms) ≡ needing_from c t (suc r) ms =
    ap (λ (b : Bool). if b then None else needing_or (bare_past c t r) m.name (needing_from c t (suc r) ms)) clear
    ∙ ap (λ (o : Option ℕ). needing_or o m.name (needing_from c t (suc r) ms)) (past_none c u t r told clear none) in
    elim more [ inl e ↦ inl (same ∙ e) | inr e ↦ inr (same ∙ e) ]

none_one : (c : Contents) (u : Records) (t r : ℕ) (m : Region) (ms : List Region) (b : Bool) → is_bare_epoch c t r ≡ b → IsTold c u t r → without_behind u t r ≡ None
    → (needing_from c t (suc r) ms ≡ Some None) ⊎ (needing_from c t (suc r) ms ≡ None) → (needing_from c t r (m ∷ ms) ≡ Some None) ⊎ (needing_from c t r (m ∷ ms) ≡ None)
none_one c u t r m ms b e told none more = later_one c u t r m ms (Some None) b e told none more

first_one : (c : Contents) (u : Records) (t r : ℕ) (m : Region) (ms : List Region) (mode : Region) (g : ℕ) (b : Bool) → is_bare_epoch c t r ≡ b → IsTold c u t r → m ≡ mode → without_behind u t r ≡ Some g
    → (needing_from c t r (m ∷ ms) ≡ Some (Some (mode.name, g))) ⊎ (needing_from c t r (m ∷ ms) ≡ None)
first_one c u t r m ms mode g true bare told same needs = inr (ap (λ (b : Bool). if b then None else needing_or (bare_past c t r) m.name (needing_from c t (suc r) ms)) bare)
first_one c u t r m ms mode g false clear told same needs =
    inl (ap (λ (b : Bool). if b then None else needing_or (bare_past c t r) m.name (needing_from c t (suc r) ms)) clear
    ∙ ap (λ (o : Option ℕ). needing_or o m.name (needing_from c t (suc r) ms)) (sym (told.0 clear) ∙ needs)
    ∙ ap (λ (x : Region). Some (Some (x.name, g))) same)

none_from : (c : Contents) (u : Records) (t r : ℕ) (ms : List Region) → ((q : ℕ) → r ≤ q → q < r + length ms → IsTold c u t q) → ((q : ℕ) → r ≤ q → q < r + length ms → without_behind u t q ≡ None)
    → (needing_from c t r ms ≡ Some None) ⊎ (needing_from c t r ms ≡ None)
none_from c u t r [] told none = inl refl
none_from c u t r (m ∷ ms) told none =
    none_one c u t r m ms (is_bare_epoch c t r) refl (told r (omega arith) (omega arith)) (none r (omega arith) (omega arith))
    (none_from c u t (suc r) ms (λ q low high. told q (omega (arith, low)) (omega (arith, high))) (λ q low high. none q (omega (arith, low)) (omega (arith, high))))

first_from : (c : Contents) (u : Records) (t r : ℕ) (ms : List Region) (i : ℕ) (mode : Region) (g : ℕ) → slice_get ms i ≡ Some mode → ((q : ℕ) → r ≤ q → q < r + length ms → IsTold c u t q) → without_behind u t (r + i) ≡ Some g
    → ((q : ℕ) → r ≤ q → q < r + i → without_behind u t q ≡ None) → (needing_from c t r ms ≡ Some (Some (mode.name, g))) ⊎ (needing_from c t r ms ≡ None)
first_from c u t r [] i mode g there told needs earlier = cc
first_from c u t r (m ∷ ms) zero mode g there told needs earlier =
    first_one c u t r m ms mode g (is_bare_epoch c t r) refl (told r (omega arith) (omega arith)) (cc there) (subst (λ (q : ℕ). without_behind u t q ≡ Some g) (omega arith) needs)
first_from c u t r (m ∷ ms) (suc i) mode g there told needs earlier =
    later_one c u t r m ms (Some (Some (mode.name, g))) (is_bare_epoch c t r) refl (told r (omega arith) (omega arith)) (earlier r (omega arith) (omega arith))
    (first_from c u t (suc r) ms i mode g there (λ q low high. told q (omega (arith, low)) (omega (arith, high))) (subst (λ (q : ℕ). without_behind u t q ≡ Some g) (omega arith) needs) (λ q low high. earlier q (omega (arith, low)) (omega (arith, high))))

-- Of a site's contents.

past_earlier : (c : Contents) (u : Records) (t q : ℕ) (b : Bool) → is_bare_epoch c t q ≡ b → IsTold c u t q → without_behind u t q ≡ None → bare_past c t q ≡ None
past_earlier c u t q false clear told none = past_none c u t q told clear none
past_earlier c u t q true bare told none = elim (told.1 bare) [ inl e ↦ absurd (cc (sym none ∙ e)) | inr e ↦ sym e ∙ none ]

needs_at : (c : Contents) (u : Records) (t r g : ℕ) (b : Bool) → is_bare_epoch c t r ≡ b → IsTold c u t r → without_behind u t r ≡ Some g → ((is_bare_epoch c t r ≡ true) × (epoch_generation c t r ≡ g)) ⊎ (bare_past c t r ≡ Some g)
needs_at c u t r g false clear told needs = inr (sym (told.0 clear) ∙ needs)
needs_at c u t r g true bare told needs = elim (told.1 bare) [ inl e ↦ inl (bare, cc (sym needs ∙ e)) | inr e ↦ inr (sym e ∙ needs) ]

pub none_needing : (files : Files) (c : Contents) (u : Records) (t : ℕ) → IsSite files c → AreRecords files u → NoneIsWithout u t → (needing c t ≡ Some None) ⊎ (needing c t ≡ None)
none_needing files c u t site held none =
    none_from c u t 0 (regions c.instance) (λ q low high. site_told files c u t q site held (omega (arith, high)))
    (λ q low high. none q (subst (λ (rs : List InstanceRecord). q < length (regions rs)) (instance_of files c u site held) (omega (arith, high))))

pub first_needing : (files : Files) (c : Contents) (u : Records) (t : ℕ) (name : Name) (g : ℕ) → IsSite files c → AreRecords files u → IsFirstWithout name g u t → (needing c t ≡ Some (Some (name, g))) ⊎ MayNeed name g c t
first_needing files c u t name g site held f =
    elim (first_from c u t 0 (regions c.instance) f.region f.mode g there (λ q low high. told q (omega (arith, high))) (subst (λ (q : ℕ). without_behind u t q ≡ Some g) (omega arith) f.needs) (λ q low high. f.earlier q (omega (arith, high)))) [
      | inl e ↦ inl (e ∙ ap (λ (x : Name). Some (Some (x, g))) f.named)
      | inr e ↦ inr (record {
        untold = e;
        region = f.region;
        mode = f.mode;
        there = there;
        named = f.named;
        needs = needs_at c u t f.region g (is_bare_epoch c t f.region) refl (told f.region inside) f.needs;
        earlier = λ q less. past_earlier c u t q (is_bare_epoch c t q) refl (told q (omega (arith, less, inside))) (f.earlier q less);
      })
    ]
  where
    there : slice_get (regions c.instance) f.region ≡ Some f.mode
    there = subst (λ (rs : List InstanceRecord). slice_get (regions rs) f.region ≡ Some f.mode) (sym (instance_of files c u site held)) f.there

    inside : f.region < length (regions c.instance)
    inside = slice_inside (regions c.instance) f.region f.mode there

    told : (q : ℕ) → q < length (regions c.instance) → IsTold c u t q
    told q less = site_told files c u t q site held less
