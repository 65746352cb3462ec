-- Reigns that survive, and their starts.
use Rattle.std.proofs.Common.{◌≡◌, ℕ, ◌<◌, ◌&&◌, Bool, true, false, List, [], ◌∷◌, ◌++◌, filter, if◌then◌else◌, Option, Some, None, refl, sym, ◌∙◌, ap}
use Rattle.std.proofs.lemmas.List.Folds.{list_all-append}
use Rattle.std.proofs.lemmas.List.Elements.{filter-append}
use Rattle.std.specs.List.{list_all}
use Rattle.gvn_model.specs.declared.reign.Reign as code
use Rattle.global_defs.specs.Entry.{Reign}
use Rattle.journal_defs.specs.Instance.{InstanceRecord, Create, Reigned, Cut, Map, Mode}
use Rattle.journal_defs.specs.Surviving.{spares_start, reigns}
use Rattle.journal_laws.proofs.Later.{reigns-same}
use Rattle.instance_file.specs.Values.{record_value}
use Rattle.instance_file.specs.declared.record.InstanceRecord as stored
use Rattle.instance_file.specs.declared.record.InstanceRecord.TheVariants as variant
use Rattle.site_defs.specs.OutsideInstance.{left_by}
use Rattle.instance_file.specs.Walks.{surviving_in}
use Rattle.global_defs.proofs.Starts.{last_start}
use Rattle.global_defs.specs.Rising.{StartsRise}

abbrev stays : List InstanceRecord → Reign → Bool
stays later r = list_all (spares_start r.start) later

chosen_if : (a b : Bool) (r : Reign) (xs ys : List Reign) → (if a && b then r ∷ (xs ++ ys) else xs ++ ys) ≡ (if a then (if b then r ∷ xs else xs) else xs) ++ ys
chosen_if true true r xs ys = refl
chosen_if true false r xs ys = refl
chosen_if false b r xs ys = refl

filter_if : (f : Reign → Bool) (a : Bool) (r : Reign) (xs : List Reign) → filter f (if a then r ∷ xs else xs) ≡ (if a then (if f r then r ∷ filter f xs else filter f xs) else filter f xs)
filter_if f true r xs = refl
filter_if f false r xs = refl

-- the reigns of records and of more behind them
pub reigns-append : (a b : List InstanceRecord) → reigns (a ++ b) ≡ left_by b (reigns a) ++ reigns b
reigns-append [] b = refl
reigns-append (Reigned r ∷ a) b =
    ap (λ (t : Bool). if t then r ∷ reigns (a ++ b) else reigns (a ++ b)) (list_all-append (spares_start r.start) a b)
    ∙ ap (λ (l : List Reign). if stays a r && stays b r then r ∷ l else l) (reigns-append a b)
    ∙ chosen_if (stays a r) (stays b r) r (left_by b (reigns a)) (reigns b)
    ∙ ap (λ (l : List Reign). l ++ reigns b) (sym (filter_if (stays b) (stays a r) r (reigns a)))
reigns-append (Create name regions ∷ a) b = reigns-append a b
reigns-append (Cut n g ∷ a) b = reigns-append a b
reigns-append (Map region star name ∷ a) b = reigns-append a b
reigns-append (Mode region before ∷ a) b = reigns-append a b

merged : (s t : Bool) (r : Reign) (xs : List Reign) → (if s && true then (if t then r ∷ xs else xs) else xs) ≡ (if s && t then r ∷ xs else xs)
merged true true r xs = refl
merged true false r xs = refl
merged false t r xs = refl

-- those that survive one record and then more
pub left_twice : (x : InstanceRecord) (later : List InstanceRecord) (rs : List Reign) → left_by later (left_by (x ∷ []) rs) ≡ left_by (x ∷ later) rs
left_twice x later [] = refl
left_twice x later (r ∷ rs) =
    let s = spares_start r.start x in
    let t = stays later r in
    filter_if (stays later) (s && true) r (left_by (x ∷ []) rs)
    ∙ ap (λ (l : List Reign). if s && true then (if t then r ∷ l else l) else l) (left_twice x later rs)
    ∙ merged s t r (left_by (x ∷ later) rs)

abbrev pub as_list : Option Reign → List Reign
as_list None = []
as_list (Some r) = r ∷ []

alone_if : (t : Bool) (r : Reign) → (if t then r ∷ [] else []) ≡ as_list (if t then Some r else None)
alone_if true r = refl
alone_if false r = refl

alone : (later : List InstanceRecord) (x : InstanceRecord) → left_by later (reigns (x ∷ [])) ≡ as_list (surviving_in later x)
alone later (Reigned r) = alone_if (stays later r) r
alone later (Create name regions) = refl
alone later (Cut n g) = refl
alone later (Map region star name) = refl
alone later (Mode region before) = refl

-- one record on
pub left_next : (earlier : List InstanceRecord) (x : InstanceRecord) (later : List InstanceRecord) → left_by later (reigns (earlier ++ x ∷ [])) ≡ left_by (x ∷ later) (reigns earlier) ++ as_list (surviving_in later x)
left_next earlier x later =
    ap (left_by later) (reigns-append earlier (x ∷ []))
    ∙ filter-append (stays later) (left_by (x ∷ []) (reigns earlier)) (reigns (x ∷ []))
    ∙ ap (λ (l : List Reign). l ++ left_by later (reigns (x ∷ []))) (left_twice x later (reigns earlier))
    ∙ ap (λ (l : List Reign). left_by (x ∷ later) (reigns earlier) ++ l) (alone later x)

pub left_all : (rs : List Reign) → left_by [] rs ≡ rs
left_all [] = refl
left_all (r ∷ rs) = ap (λ (l : List Reign). r ∷ l) (left_all rs)

pub rise_push : (low : ℕ) (rs : List Reign) (r : Reign) → StartsRise low rs → last_start low rs < r.start → StartsRise low (rs ++ r ∷ [])
rise_push low [] r rise past = (past, tt)
rise_push low (q ∷ rs) r rise past = (rise.0, rise_push q.start rs r rise.1 past)

pub rise_past : (low : ℕ) (rs : List Reign) (r : Reign) → StartsRise low (rs ++ r ∷ []) → last_start low rs < r.start
rise_past low [] r rise = rise.0
rise_past low (q ∷ rs) r rise = rise_past q.start rs r rise.1

pub rise_front : (low : ℕ) (rs more : List Reign) → StartsRise low (rs ++ more) → StartsRise low rs
rise_front low [] more rise = tt
rise_front low (r ∷ rs) more rise = (rise.0, rise_front r.start rs more rise.1)

-- a record that is no reign and no cut
pub reigns_other : (rs : List InstanceRecord) (x : stored.InstanceRecord) → ((r : code.Reign) → x ≡ variant.Reign r → ⊥) → ((n g : ℕ) → x ≡ variant.Cut n g → ⊥) → reigns (rs ++ record_value x ∷ []) ≡ reigns rs
reigns_other rs (variant.Reign r) no_reign no_cut = absurd (no_reign r refl)
reigns_other rs (variant.Cut n g) no_reign no_cut = absurd (no_cut n g refl)
reigns_other rs (variant.Create name regions) no_reign no_cut = reigns-same rs (record_value (variant.Create name regions)) (λ s. refl) refl
reigns_other rs (variant.Map region star name) no_reign no_cut = reigns-same rs (Map region star name) (λ s. refl) refl
reigns_other rs (variant.Mode region before) no_reign no_cut = reigns-same rs (Mode region before) (λ s. refl) refl
