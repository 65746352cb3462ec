-- Records in their order, and one more.
use Rattle.std.proofs.Common.{◌≡◌, ℕ, suc, ◌<◌, ◌==◌, Bool, true, false, List, [], ◌∷◌, ◌++◌, length, refl, sym, subst, arith}
use Rattle.std.proofs.lemmas.Bool.Decides.{nat_tests}
use Rattle.std.specs.List.{AllByRecursion}
use Rattle.journal_defs.specs.Instance.{InstanceRecord, Create, Reigned, Cut, Map, Mode, IsNoCreate, BeginsWithCreate, CutsRise, generation}
use Rattle.instance_file.specs.Order.{MayStand, last_after}
use Rattle.site_defs.specs.OutsideInstance.{AreOrdered}

creates_on : (rs : List InstanceRecord) (x : InstanceRecord) → AllByRecursion IsNoCreate rs → IsNoCreate x → AllByRecursion IsNoCreate (rs ++ x ∷ [])
creates_on [] x all is = (is, tt)
creates_on (r ∷ rs) x all is = (all.0, creates_on rs x all.1 is)

creates_there : (rs : List InstanceRecord) (x : InstanceRecord) (others : List InstanceRecord) → AllByRecursion IsNoCreate (rs ++ x ∷ others) → IsNoCreate x
creates_there [] x others all = all.0
creates_there (r ∷ rs) x others all = creates_there rs x others all.1

-- CREATE and other records behind a first one
pub create_behind : (y : InstanceRecord) (rs : List InstanceRecord) (x : InstanceRecord) → BeginsWithCreate (y ∷ rs) → IsNoCreate x → BeginsWithCreate ((y ∷ rs) ++ x ∷ [])
create_behind (Create name regions) rs x begins is = creates_on rs x begins is
create_behind (Reigned r) rs x begins is = absurd begins
create_behind (Cut n g) rs x begins is = absurd begins
create_behind (Map region star name) rs x begins is = absurd begins
create_behind (Mode region before) rs x begins is = absurd begins

no_create_behind : (y : InstanceRecord) (rs : List InstanceRecord) (x : InstanceRecord) → BeginsWithCreate ((y ∷ rs) ++ x ∷ []) → IsNoCreate x
no_create_behind (Create name regions) rs x begins = creates_there rs x [] begins
no_create_behind (Reigned r) rs x begins = absurd begins
no_create_behind (Cut n g) rs x begins = absurd begins
no_create_behind (Map region star name) rs x begins = absurd begins
no_create_behind (Mode region before) rs x begins = absurd begins

creates_front : (rs others : List InstanceRecord) → AllByRecursion IsNoCreate (rs ++ others) → AllByRecursion IsNoCreate rs
creates_front [] others all = tt
creates_front (r ∷ rs) others all = (all.0, creates_front rs others all.1)

create_front : (rs others : List InstanceRecord) → BeginsWithCreate (rs ++ others) → BeginsWithCreate rs
create_front [] others begins = tt
create_front (Create name regions ∷ rs) others begins = creates_front rs others begins
create_front (Reigned r ∷ rs) others begins = absurd begins
create_front (Cut n g ∷ rs) others begins = absurd begins
create_front (Map region star name ∷ rs) others begins = absurd begins
create_front (Mode region before ∷ rs) others begins = absurd begins

-- where a record's generation may stand behind CUTs of these
abbrev pub IsPast : ℕ → InstanceRecord → Type 0
IsPast last (Cut n g) = last < g
IsPast last (Create name regions) = Unit {0}
IsPast last (Reigned r) = Unit {0}
IsPast last (Map region star name) = Unit {0}
IsPast last (Mode region before) = Unit {0}

cuts_alone : (low : ℕ) (x : InstanceRecord) → IsPast low x → CutsRise low (x ∷ [])
cuts_alone low (Cut n g) past = (past, tt)
cuts_alone low (Create name regions) past = tt
cuts_alone low (Reigned r) past = tt
cuts_alone low (Map region star name) past = tt
cuts_alone low (Mode region before) past = tt

past_first : (n k : ℕ) (rs : List InstanceRecord) (x : InstanceRecord) → IsPast (generation (Cut n k ∷ rs)) x → IsPast k x
past_first n k rs (Cut m g) past = omega arith
past_first n k rs (Create name regions) past = tt
past_first n k rs (Reigned r) past = tt
past_first n k rs (Map region star name) past = tt
past_first n k rs (Mode region before) past = tt

past_rest : (n k : ℕ) (rs : List InstanceRecord) (x : InstanceRecord) → IsPast (generation (Cut n k ∷ rs)) x → IsPast (generation rs) x
past_rest n k rs (Cut m g) past = omega arith
past_rest n k rs (Create name regions) past = tt
past_rest n k rs (Reigned r) past = tt
past_rest n k rs (Map region star name) past = tt
past_rest n k rs (Mode region before) past = tt

cuts_on : (rs : List InstanceRecord) (x : InstanceRecord) (low : ℕ) → CutsRise low rs → IsPast low x → IsPast (generation rs) x → CutsRise low (rs ++ x ∷ [])
cuts_on [] x low rise above past = cuts_alone low x above
cuts_on (Cut n k ∷ rs) x low rise above past = (rise.0, cuts_on rs x k rise.1 (past_first n k rs x past) (past_rest n k rs x past))
cuts_on (Create name regions ∷ rs) x low rise above past = cuts_on rs x low rise above past
cuts_on (Reigned r ∷ rs) x low rise above past = cuts_on rs x low rise above past
cuts_on (Map region star name ∷ rs) x low rise above past = cuts_on rs x low rise above past
cuts_on (Mode region before ∷ rs) x low rise above past = cuts_on rs x low rise above past

-- a CUT at the end is past all others
cut_past : (rs : List InstanceRecord) (n g low : ℕ) → CutsRise low (rs ++ Cut n g ∷ []) → (low < g) × (generation rs < g)
cut_past [] n g low rise = (rise.0, omega (arith, rise.0))
cut_past (Cut m k ∷ rs) n g low rise = let rest = cut_past rs n g k rise.1 in (omega (arith, rise.0, rest.0), omega (arith, rest.0, rest.1))
cut_past (Create name regions ∷ rs) n g low rise = cut_past rs n g low rise
cut_past (Reigned r ∷ rs) n g low rise = cut_past rs n g low rise
cut_past (Map region star name ∷ rs) n g low rise = cut_past rs n g low rise
cut_past (Mode region before ∷ rs) n g low rise = cut_past rs n g low rise

cuts_front : (rs others : List InstanceRecord) (low : ℕ) → CutsRise low (rs ++ others) → CutsRise low rs
cuts_front [] others low rise = tt
cuts_front (Cut n k ∷ rs) others low rise = (rise.0, cuts_front rs others k rise.1)
cuts_front (Create name regions ∷ rs) others low rise = cuts_front rs others low rise
cuts_front (Reigned r ∷ rs) others low rise = cuts_front rs others low rise
cuts_front (Map region star name ∷ rs) others low rise = cuts_front rs others low rise
cuts_front (Mode region before ∷ rs) others low rise = cuts_front rs others low rise

pub ordered_front : (rs others : List InstanceRecord) → AreOrdered (rs ++ others) → AreOrdered rs
ordered_front rs others ordered = record { create = create_front rs others ordered.create; cuts = cuts_front rs others 0 ordered.cuts }

past_none : (x : InstanceRecord) (k : ℕ) → IsPast k x → IsPast 0 x
past_none (Cut n g) k past = omega arith
past_none (Create name regions) k past = tt
past_none (Reigned r) k past = tt
past_none (Map region star name) k past = tt
past_none (Mode region before) k past = tt

-- behind a first record
pub ordered_behind : (rs : List InstanceRecord) (x : InstanceRecord) → 0 < length rs → AreOrdered rs → IsNoCreate x → IsPast (generation rs) x → AreOrdered (rs ++ x ∷ [])
ordered_behind [] x some ordered is past = absurd (omega arith)
ordered_behind (y ∷ rs) x some ordered is past = record { create = create_behind y rs x ordered.create is; cuts = cuts_on (y ∷ rs) x 0 ordered.cuts (past_none x (generation (y ∷ rs)) past) past }

not_first : (rs : List InstanceRecord) → (length rs == 0) ≡ false → 0 < length rs
not_first rs is = grind (arith, nat_tests)

is_first : (rs : List InstanceRecord) → (length rs == 0) ≡ true → rs ≡ []
is_first [] is = refl
is_first (r ∷ rs) is = absurd (grind (arith, nat_tests))

-- a record that may stand there follows the others
pub stand_follows : (rs : List InstanceRecord) (x : InstanceRecord) → AreOrdered rs → MayStand (length rs == 0) (generation rs) x → AreOrdered (rs ++ x ∷ [])
stand_follows rs (Create name regions) ordered may = subst (λ (l : List InstanceRecord). AreOrdered (l ++ Create name regions ∷ [])) (sym (is_first rs may)) (record { create = tt; cuts = tt })
stand_follows rs (Cut n g) ordered may = ordered_behind rs (Cut n g) (not_first rs may.0) ordered tt may.1
stand_follows rs (Reigned r) ordered may = ordered_behind rs (Reigned r) (not_first rs may) ordered tt tt
stand_follows rs (Map region star name) ordered may = ordered_behind rs (Map region star name) (not_first rs may) ordered tt tt
stand_follows rs (Mode region before) ordered may = ordered_behind rs (Mode region before) (not_first rs may) ordered tt tt

is_behind : (n : ℕ) → (suc n == 0) ≡ false
is_behind n = grind (arith, nat_tests)

-- and one that follows them may stand there
pub follows_stand : (rs : List InstanceRecord) (x : InstanceRecord) → AreOrdered (rs ++ x ∷ []) → MayStand (length rs == 0) (generation rs) x
follows_stand [] (Create name regions) ordered = refl
follows_stand [] (Reigned r) ordered = absurd ordered.create
follows_stand [] (Cut n g) ordered = absurd ordered.create
follows_stand [] (Map region star name) ordered = absurd ordered.create
follows_stand [] (Mode region before) ordered = absurd ordered.create
follows_stand (y ∷ rs) (Create name regions) ordered = absurd (no_create_behind y rs (Create name regions) ordered.create)
follows_stand (y ∷ rs) (Cut n g) ordered = (is_behind (length rs), (cut_past (y ∷ rs) n g 0 ordered.cuts).1)
follows_stand (y ∷ rs) (Reigned r) ordered = is_behind (length rs)
follows_stand (y ∷ rs) (Map region star name) ordered = is_behind (length rs)
follows_stand (y ∷ rs) (Mode region before) ordered = is_behind (length rs)

generation_more : (rs : List InstanceRecord) (x : InstanceRecord) → IsPast (generation rs) x → generation (rs ++ x ∷ []) ≡ last_after (generation rs) x
generation_more [] (Create name regions) past = refl
generation_more [] (Reigned r) past = refl
generation_more [] (Cut n g) past = omega arith
generation_more [] (Map region star name) past = refl
generation_more [] (Mode region before) past = refl
generation_more (Cut n k ∷ rs) (Cut m g) past = let rest : generation (rs ++ Cut m g ∷ []) ≡ g = generation_more rs (Cut m g) (past_rest n k rs (Cut m g) past) in omega (arith, rest, past)
generation_more (Cut n k ∷ rs) (Create name regions) past = let rest : generation (rs ++ Create name regions ∷ []) ≡ generation rs = generation_more rs (Create name regions) tt in omega (arith, rest)
generation_more (Cut n k ∷ rs) (Reigned r) past = let rest : generation (rs ++ Reigned r ∷ []) ≡ generation rs = generation_more rs (Reigned r) tt in omega (arith, rest)
generation_more (Cut n k ∷ rs) (Map region star name) past = let rest : generation (rs ++ Map region star name ∷ []) ≡ generation rs = generation_more rs (Map region star name) tt in omega (arith, rest)
generation_more (Cut n k ∷ rs) (Mode region before) past = let rest : generation (rs ++ Mode region before ∷ []) ≡ generation rs = generation_more rs (Mode region before) tt in omega (arith, rest)
generation_more (Create name regions ∷ rs) x past = generation_more rs x past
generation_more (Reigned r ∷ rs) x past = generation_more rs x past
generation_more (Map region star name ∷ rs) x past = generation_more rs x past
generation_more (Mode region before ∷ rs) x past = generation_more rs x past

may_past : (b : Bool) (last : ℕ) (x : InstanceRecord) → MayStand b last x → IsPast last x
may_past b last (Cut n g) may = may.1
may_past b last (Create name regions) may = tt
may_past b last (Reigned r) may = tt
may_past b last (Map region star name) may = tt
may_past b last (Mode region before) may = tt

pub generation_next : (rs : List InstanceRecord) (x : InstanceRecord) → MayStand (length rs == 0) (generation rs) x → generation (rs ++ x ∷ []) ≡ last_after (generation rs) x
generation_next rs x may = generation_more rs x (may_past (length rs == 0) (generation rs) x may)
