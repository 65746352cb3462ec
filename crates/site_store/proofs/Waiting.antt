-- Records that wait to be hardened: the parts of entries, and images of blocks among them.
use Rattle.std.proofs.Common.{◌≡◌, ◌≢◌, inr, ◌≤◌, ◌<◌, ℕ, zero, suc, true, false, cond, List, [], ◌∷◌, ◌++◌, length, map, take, filter, Some, None, refl, sym, ◌∙◌, ap, subst, append_assoc, append-nil}
use Rattle.std.specs.Prelude.{Option}
use Rattle.std.specs.List.{AllByRecursion, flat_map, filter_map, enumerate_from, cons_option}
use Rattle.std.specs.Option.{option_or, option_map}
use Rattle.std.proofs.Math.Path.{fun_ext}
use Rattle.std.proofs.lemmas.List.{map-append}
use Rattle.std.proofs.lemmas.List.Elements.{filter-append, filter_map-append}
use Rattle.global_defs.specs.Entry.{Transaction}
use Rattle.journal_defs.specs.Journal.{JournalRecord, Tcom, Pini, Epoch, Pblk, Part, Before, IsNoPini}
use Rattle.journal_defs.specs.Instance.{InstanceRecord, regions}
use Rattle.journal_defs.specs.Directory.{patterns}
use Rattle.journal_defs.specs.Broken.{part_past, parts_past, broken}
use Rattle.journal_defs.specs.Epochs.{Blocks, Chosen, block_of}
use Rattle.journal_defs.specs.Fit.{IsAtHome, region_of_update}
use Rattle.journal_defs.specs.Growth.{placed, appended, tcoms, with_more}
use Rattle.journal_defs.specs.Sequence.{Placed, Records, part_in, part_of, entry}
use Rattle.journal_defs.specs.Split.{split}
use Rattle.journal_defs.specs.Stands.{in_generation}
use Rattle.journal_defs.specs.Undo.{MayAppend}
use Rattle.journal_laws.proofs.Appending.{first_of_them}
use Rattle.journal_laws.proofs.ImageSteps.{all_both}
use Rattle.journal_laws.proofs.PartForms as forms
use Rattle.journal_laws.proofs.Runs as runs
use Rattle.block_laws.specs.Several.{MayAppendAll, is_tcom}
use Rattle.region_epochs.specs.Kept.{image_records}
use Rattle.region_journals.specs.Journals.{listed}
use Rattle.site_defs.specs.Stands.{start_in, epoch_in}
use Rattle.site_store.specs.Site.{IsPartOrImage, AreWaiting}
use Rattle.tp_commit.specs.Parts.{recorded}
use Rattle.site_store.proofs.Parts.{named}
use Rattle.region_epochs.proofs.Fronts.{no_tcoms}

-- none of them begins a generation, or is an EPOCH
all_as : {X : Type 0} (P Q : X → Type 0) → ((x : X) → P x → Q x) → (xs : List X) → AllByRecursion P xs → AllByRecursion Q xs
all_as P Q f [] all = tt
all_as P Q f (x ∷ xs) all = (f x all.0, all_as P Q f xs all.1)

no_pini_one : (x : JournalRecord) → IsPartOrImage x → IsNoPini x
no_pini_one (Tcom p) is = tt
no_pini_one (Pblk i) is = tt
no_pini_one (Pini s) is = absurd is
no_pini_one (Epoch m) is = absurd is

pub no_pini : (xs : List JournalRecord) → AllByRecursion IsPartOrImage xs → AllByRecursion IsNoPini xs
no_pini xs all = all_as IsPartOrImage IsNoPini no_pini_one xs all

none_placed : {Y : Type 0} (f : Placed → Option Y) (g : ℕ) → ((x : JournalRecord) → IsPartOrImage x → f (in_generation g x) ≡ None) → (n : ℕ) (xs : List JournalRecord) → AllByRecursion IsPartOrImage xs
    → filter_map f (map (in_generation g) (take n xs)) ≡ []
none_placed f g none zero xs all = refl
none_placed f g none (suc n) [] all = refl
none_placed {Y} f g none (suc n) (x ∷ xs) all = ap (λ (o : Option Y). cons_option o (filter_map f (map (in_generation g) (take n xs)))) (none x all.0) ∙ none_placed f g none n xs all.1

no_start : (x : JournalRecord) → IsPartOrImage x → start_in x ≡ None
no_start (Tcom p) is = refl
no_start (Pblk i) is = refl
no_start (Pini s) is = absurd is
no_start (Epoch m) is = absurd is

no_epoch : (g : ℕ) (x : JournalRecord) → IsPartOrImage x → epoch_in g x ≡ None
no_epoch g (Tcom p) is = refl
no_epoch g (Pblk i) is = refl
no_epoch g (Pini s) is = absurd is
no_epoch g (Epoch m) is = absurd is

pub no_starts : (g n : ℕ) (xs : List JournalRecord) → AllByRecursion IsPartOrImage xs → filter_map (λ (p : Placed). start_in p.what) (map (in_generation g) (take n xs)) ≡ []
no_starts g n xs all = none_placed (λ (p : Placed). start_in p.what) g no_start n xs all

pub no_epochs : (g n : ℕ) (xs : List JournalRecord) → AllByRecursion IsPartOrImage xs → filter_map (λ (p : Placed). epoch_in p.generation p.what) (map (in_generation g) (take n xs)) ≡ []
no_epochs g n xs all = none_placed (λ (p : Placed). epoch_in p.generation p.what) g (no_epoch g) n xs all

pub begun_more : (newer xs : List JournalRecord) → newer ≢ [] → newer ++ xs ≢ []
begun_more [] xs begun e = begun refl
begun_more (y ∷ ys) xs begun e = absurd (cc e)

-- a journal with all of them
pub whole_more : (g : ℕ) (journal older : List Placed) (newer xs : List JournalRecord) → journal ≡ older ++ map (in_generation g) newer → journal ++ map (in_generation g) xs ≡ older ++ map (in_generation g) (newer ++ xs)
whole_more g journal older newer xs whole =
    ap (λ (l : List Placed). l ++ map (in_generation g) xs) whole ∙ append_assoc older (map (in_generation g) newer) (map (in_generation g) xs)
    ∙ ap (λ (l : List Placed). older ++ l) (sym (map-append (in_generation g) newer xs))

-- and more behind these
pub more_behind : (g : ℕ) (journal : List Placed) (xs ys : List JournalRecord) → journal ++ map (in_generation g) (xs ++ ys) ≡ (journal ++ map (in_generation g) xs) ++ map (in_generation g) ys
more_behind g journal xs ys = ap (λ (l : List Placed). journal ++ l) (map-append (in_generation g) xs ys) ∙ sym (append_assoc journal (map (in_generation g) xs) (map (in_generation g) ys))

pub none_wait : (instance : List InstanceRecord) (g : ℕ) → AreWaiting instance g [] (λ r. [])
none_wait instance g = record { parts_are = λ r. refl; others = λ r. tt; inside = λ r past. refl; at_home = λ r here. tt }

-- ---- of the first few the parts are the first few parts

-- how many
abbrev pub parts_kept : ℕ → List JournalRecord → ℕ
parts_kept n xs = length (filter is_tcom (take n xs))

first_parts : (n : ℕ) (xs : List JournalRecord) → filter is_tcom (take n xs) ≡ take (parts_kept n xs) (filter is_tcom xs)
first_parts zero xs = refl
first_parts (suc n) [] = refl
first_parts (suc n) (x ∷ xs) =
    elim (is_tcom x) as (λ b. cond b (x ∷ filter is_tcom (take n xs)) (filter is_tcom (take n xs)) ≡ take (length (cond b (x ∷ filter is_tcom (take n xs)) (filter is_tcom (take n xs)))) (cond b (x ∷ filter is_tcom xs) (filter is_tcom xs))) [
      | true ↦ ap (λ (l : List JournalRecord). x ∷ l) (first_parts n xs)
      | false ↦ first_parts n xs
    ]

-- where none of them is a part
none_taken : (n : ℕ) → take {A = JournalRecord} n [] ≡ []
none_taken zero = refl
none_taken (suc n) = refl

pub no_first_part : (n : ℕ) (xs : List JournalRecord) → filter is_tcom xs ≡ [] → filter is_tcom (take n xs) ≡ []
no_first_part n xs none = first_parts n xs ∙ ap (take (parts_kept n xs)) none ∙ none_taken (parts_kept n xs)

-- images say nothing of parts
past_parts : (instance : List InstanceRecord) (len g : ℕ) (xs : List JournalRecord) → parts_past instance len (map (in_generation g) xs) ≡ parts_past instance len (map (in_generation g) (filter is_tcom xs))
past_parts instance len g [] = refl
past_parts instance len g (Tcom p ∷ xs) = ap (λ (l : List Part). cons_option (part_past instance len g (Tcom p)) l) (past_parts instance len g xs)
past_parts instance len g (Pini s ∷ xs) = past_parts instance len g xs
past_parts instance len g (Epoch m ∷ xs) = past_parts instance len g xs
past_parts instance len g (Pblk i ∷ xs) = past_parts instance len g xs

or_none : (o : Option Part) → option_or o None ≡ o
or_none None = refl
or_none (Some p) = refl

part_parts : (instance : List InstanceRecord) (n g : ℕ) (xs : List JournalRecord) → part_of instance n (map (in_generation g) xs) ≡ part_of instance n (map (in_generation g) (filter is_tcom xs))
part_parts instance n g [] = refl
part_parts instance n g (Tcom p ∷ xs) = ap (λ (o : Option Part). option_or o (part_in instance n g (Tcom p))) (part_parts instance n g xs)
part_parts instance n g (Pini s ∷ xs) = or_none (part_of instance n (map (in_generation g) xs)) ∙ part_parts instance n g xs
part_parts instance n g (Epoch m ∷ xs) = or_none (part_of instance n (map (in_generation g) xs)) ∙ part_parts instance n g xs
part_parts instance n g (Pblk i ∷ xs) = or_none (part_of instance n (map (in_generation g) xs)) ∙ part_parts instance n g xs

module _ (g : ℕ) (ps : List (ℕ → Option Part)) (r : ℕ) (xs : List JournalRecord) (are : filter is_tcom xs ≡ tcoms ps r) where
  first_appended : (n : ℕ) → map (in_generation g) (filter is_tcom (take n xs)) ≡ take (parts_kept n xs) (appended g ps r)
  first_appended n = ap (map (in_generation g)) (first_parts n xs ∙ ap (take (parts_kept n xs)) are) ∙ sym (first_of_them g ps r (parts_kept n xs))

  pub past_first : (instance : List InstanceRecord) (len n : ℕ) → parts_past instance len (map (in_generation g) (take n xs)) ≡ parts_past instance len (take (parts_kept n xs) (appended g ps r))
  past_first instance len n = past_parts instance len g (take n xs) ∙ ap (parts_past instance len) (first_appended n)

  pub part_first : (instance : List InstanceRecord) (m n : ℕ) → part_of instance m (map (in_generation g) (take n xs)) ≡ part_of instance m (take (parts_kept n xs) (appended g ps r))
  part_first instance m n = part_parts instance m g (take n xs) ∙ ap (part_of instance m) (first_appended n)

pub broken_same : (s : Records) (len : ℕ) (a b : ℕ → List Placed) → ((r : ℕ) → parts_past s.instance len (a r) ≡ parts_past s.instance len (b r)) → broken (with_more s a) len ≡ broken (with_more s b) len
broken_same s len a b same = ap (λ (f : ℕ → List Part). flat_map (named f) (enumerate_from 0 (regions s.instance))) (fun_ext each)
  where
    each : (r : ℕ) → parts_past s.instance len (s.journal r ++ a r) ≡ parts_past s.instance len (s.journal r ++ b r)
    each r =
        filter_map-append (λ (p : Placed). part_past s.instance len p.generation p.what) (s.journal r) (a r)
        ∙ ap (λ (l : List Part). parts_past s.instance len (s.journal r) ++ l) (same r)
        ∙ sym (filter_map-append (λ (p : Placed). part_past s.instance len p.generation p.what) (s.journal r) (b r))

pub entry_same : (s : Records) (n : ℕ) (a b : ℕ → List Placed) → ((r : ℕ) → part_of s.instance n (a r) ≡ part_of s.instance n (b r)) → entry (with_more s a) n ≡ entry (with_more s b) n
entry_same s n a b same = runs.same_entry (with_more s b) (with_more s a) n each refl
  where
    each : (r : ℕ) → part_of s.instance n (s.journal r ++ a r) ≡ part_of s.instance n (s.journal r ++ b r)
    each r =
        runs.part_of-append s.instance n (s.journal r) (a r)
        ∙ ap (λ (o : Option Part). option_or o (part_of s.instance n (s.journal r))) (same r)
        ∙ sym (runs.part_of-append s.instance n (s.journal r) (b r))

-- ---- one part more in each region

as_list : (o : Option JournalRecord) → cons_option o [] ≡ listed o
as_list None = refl
as_list (Some x) = refl

tcoms_part : (ps : List (ℕ → Option Part)) (part : ℕ → Option Part) (r : ℕ) → tcoms (ps ++ part ∷ []) r ≡ tcoms ps r ++ listed (recorded (part r))
tcoms_part ps part r =
    filter_map-append (λ (p : ℕ → Option Part). option_map (λ x. Tcom x) (p r)) ps (part ∷ [])
    ∙ ap (λ (l : List JournalRecord). tcoms ps r ++ l) (as_list (recorded (part r)))

tcoms_listed : (o : Option Part) → filter is_tcom (listed (recorded o)) ≡ listed (recorded o)
tcoms_listed None = refl
tcoms_listed (Some x) = refl

listed_is : (o : Option Part) → AllByRecursion IsPartOrImage (listed (recorded o))
listed_is None = tt
listed_is (Some x) = (tt, tt)

pub placed_listed : (g : ℕ) (o : Option Part) → map (in_generation g) (listed (recorded o)) ≡ placed g o
placed_listed g None = refl
placed_listed g (Some x) = refl

-- each of its items stands in the region of its name
pub home_listed : (instance : List InstanceRecord) (g r n mask : ℕ) (t : Transaction) (o : Option Part) → split (region_of_update (patterns instance)) n mask t r ≡ o → AllByRecursion (λ x. IsAtHome instance r g x) (listed (recorded o))
home_listed instance g r n mask t None is = tt
home_listed instance g r n mask t (Some x) is = (λ lives. forms.at_home (region_of_update (patterns instance)) n mask t r x is, tt)

pub part_waits : (instance : List InstanceRecord) (g : ℕ) (ps : List (ℕ → Option Part)) (waits : ℕ → List JournalRecord) (part : ℕ → Option Part) → AreWaiting instance g ps waits → ((r : ℕ) → length (regions instance) ≤ r → part r ≡ None)
    → ((r : ℕ) → r < length (regions instance) → AllByRecursion (λ x. IsAtHome instance r g x) (listed (recorded (part r)))) → AreWaiting instance g (ps ++ part ∷ []) (λ r. waits r ++ listed (recorded (part r)))
part_waits instance g ps waits part are none home = record {
  parts_are = λ r. filter-append is_tcom (waits r) (listed (recorded (part r))) ∙ ap (λ (l : List JournalRecord). l ++ filter is_tcom (listed (recorded (part r)))) (are.parts_are r)
      ∙ ap (λ (l : List JournalRecord). tcoms ps r ++ l) (tcoms_listed (part r)) ∙ sym (tcoms_part ps part r);
  others = λ r. all_both IsPartOrImage (waits r) (listed (recorded (part r))) (are.others r) (listed_is (part r));
  inside = λ r past. ap (λ (l : List JournalRecord). l ++ listed (recorded (part r))) (are.inside r past) ∙ ap (λ (o : Option Part). listed (recorded o)) (none r past);
  at_home = λ r here. all_both (λ x. IsAtHome instance r g x) (waits r) (listed (recorded (part r))) (are.at_home r here) (home r here);
}

-- ---- images more

all_images : (P : JournalRecord → Type 0) → ((i : Before) → P (Pblk i)) → (is : List Before) → AllByRecursion P (image_records is)
all_images P one [] = tt
all_images P one (i ∷ is) = (one i, all_images P one is)

pub images_wait : (instance : List InstanceRecord) (g : ℕ) (ps : List (ℕ → Option Part)) (waits : ℕ → List JournalRecord) (is : ℕ → List Before) → AreWaiting instance g ps waits → ((r : ℕ) → length (regions instance) ≤ r → is r ≡ [])
    → AreWaiting instance g ps (λ r. waits r ++ image_records (is r))
images_wait instance g ps waits is are none = record {
  parts_are = λ r. filter-append is_tcom (waits r) (image_records (is r)) ∙ ap (λ (l : List JournalRecord). filter is_tcom (waits r) ++ l) (no_tcoms (is r)) ∙ append-nil (filter is_tcom (waits r)) ∙ are.parts_are r;
  others = λ r. all_both IsPartOrImage (waits r) (image_records (is r)) (are.others r) (all_images IsPartOrImage (λ i. tt) (is r));
  inside = λ r past. ap (λ (l : List JournalRecord). l ++ image_records (is r)) (are.inside r past) ∙ ap (λ (l : List Before). image_records l) (none r past);
  at_home = λ r here. all_both (λ x. IsAtHome instance r g x) (waits r) (image_records (is r)) (are.at_home r here) (all_images (λ x. IsAtHome instance r g x) (λ i. tt) (is r));
}

-- where none is a part, another instance file with as many regions makes no odds
home_one : (other : List InstanceRecord) (r g : ℕ) (xs : List JournalRecord) → AllByRecursion IsPartOrImage xs → filter is_tcom xs ≡ [] → AllByRecursion (λ x. IsAtHome other r g x) xs
home_one other r g [] are none = tt
home_one other r g (Tcom p ∷ xs) are none = absurd (cc none)
home_one other r g (Pblk i ∷ xs) are none = (tt, home_one other r g xs are.1 none)
home_one other r g (Pini s ∷ xs) are none = absurd are.0
home_one other r g (Epoch m ∷ xs) are none = absurd are.0

pub same_waits : (instance other : List InstanceRecord) (g : ℕ) (waits : ℕ → List JournalRecord) → length (regions other) ≡ length (regions instance) → AreWaiting instance g [] waits → AreWaiting other g [] waits
same_waits instance other g waits count are = record {
  parts_are = are.parts_are;
  others = are.others;
  inside = λ r past. are.inside r (subst (λ (n : ℕ). n ≤ r) count past);
  at_home = λ r here. home_one other r g (waits r) (are.others r) (are.parts_are r);
}

-- ---- what may be appended

pub may_both : (e : Chosen) (database : Blocks) (g : ℕ) (xs ys : List JournalRecord) → MayAppendAll e database (map (in_generation g) xs) → MayAppendAll e database (map (in_generation g) ys) → MayAppendAll e database (map (in_generation g) (xs ++ ys))
may_both e database g xs ys may then =
    subst (MayAppendAll e database) (sym (map-append (in_generation g) xs ys))
    (all_both (λ (p : Placed). MayAppend e database p.what) (map (in_generation g) xs) (map (in_generation g) ys) may then)

pub may_part : (e : Chosen) (database : Blocks) (g : ℕ) (o : Option Part) → MayAppendAll e database (map (in_generation g) (listed (recorded o)))
may_part e database g None = tt
may_part e database g (Some x) = (tt, tt)

-- images as the blocks stand on the file
abbrev pub AreAsOn : List ℕ → List Before → Type 0
AreAsOn bytes is = AllByRecursion (λ (i : Before). block_of bytes i.block ≡ i.bytes) is

pub may_images : (e : Chosen) (bytes : List ℕ) (g : ℕ) (is : List Before) → AreAsOn bytes is → MayAppendAll e (block_of bytes) (map (in_generation g) (image_records is))
may_images e bytes g [] all = tt
may_images e bytes g (i ∷ is) all = (inr all.0, may_images e bytes g is all.1)
