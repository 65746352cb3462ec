-- A site that was cut off: it's read as before, and another generation may be drawn.
use Rattle.std.proofs.Common.{◌≡◌, ℕ, suc, ◌+◌, ◌≤◌, ◌<◌, ◌^◌, List, [], ◌∷◌, ◌++◌, length, filter, Bool, inl, inr, Some, refl, sym, ◌∙◌, ap, subst, arith, length-append}
use Rattle.std.proofs.lemmas.Bool.{cases_Bool}
use Rattle.std.specs.List.{AllByRecursion}
use Rattle.global_defs.specs.declared.limits.TheConstants.{MOST_GENERATIONS, MOST_REGIONS, NUMBERS_END}
use Rattle.disk_defs.specs.Disk.{Files}
use Rattle.disk_defs.specs.Frames.{Only, SameOutside}
use Rattle.disk_defs.specs.Gates.{records}
use Rattle.journal_defs.specs.Numbers.{INSTANCE, journal_file, lost_file}
use Rattle.global_defs.specs.Entry.{Reign}
use Rattle.global_defs.specs.Rising.{StartsRise}
use Rattle.global_defs.specs.Region.{Region}
use Rattle.journal_defs.specs.Instance.{InstanceRecord, Create, Reigned, Cut, Map, Mode, IsInForm, IsNoCreate, BeginsWithCreate, CutsRise, generation, regions}
use Rattle.journal_defs.specs.Surviving.{reigns}
use Rattle.journal_defs.specs.Directory.{Pattern, patterns}
use Rattle.journal_defs.specs.Sequence.{Placed}
use Rattle.journal_defs.specs.Stands.{IsInstance, IsJournal}
use Rattle.journal_laws.proofs.Drawing.{generation-cut, same_regions, journal_empty}
use Rattle.journal_laws.proofs.EveryTarget.{patterns_same}
use Rattle.journal_laws.proofs.ImageSteps.{all_both}
use Rattle.journal_laws.proofs.Runs.{reigns-cut, starts_by}
use Rattle.instance_file.specs.Order.{AreInOrder}
use Rattle.site_files.specs.Loading.{MayBeOpened, AreRead, HasDrawn, AreUnbegun, next_cut, next_journal}
use Rattle.site_files.proofs.Kept.{journal_kept}
use Rattle.instance_file.proofs.Mores.{rise_lower as starts_lower}

-- a CUT of a later generation keeps the order
create_first : (rs : List InstanceRecord) (n g : ℕ) → 0 < length rs → BeginsWithCreate rs → BeginsWithCreate (rs ++ Cut n g ∷ [])
create_first [] n g some first = absurd (omega arith)
create_first (Create name qs ∷ rs) n g some first = all_both IsNoCreate rs (Cut n g ∷ []) first (tt, tt)
create_first (Reigned r ∷ rs) n g some first = absurd first
create_first (Cut m h ∷ rs) n g some first = absurd first
create_first (Map region star name ∷ rs) n g some first = absurd first
create_first (Mode region before ∷ rs) n g some first = absurd first

cuts_rise : (rs : List InstanceRecord) (low n g : ℕ) → CutsRise low rs → low < g → generation rs < g → CutsRise low (rs ++ Cut n g ∷ [])
cuts_rise [] low n g rise above past = (above, tt)
cuts_rise (Cut m h ∷ rs) low n g rise above past = (rise.0, cuts_rise rs h n g rise.1 (omega arith) (omega arith))
cuts_rise (Create name qs ∷ rs) low n g rise above past = cuts_rise rs low n g rise above past
cuts_rise (Reigned r ∷ rs) low n g rise above past = cuts_rise rs low n g rise above past
cuts_rise (Map region star name ∷ rs) low n g rise above past = cuts_rise rs low n g rise above past
cuts_rise (Mode region before ∷ rs) low n g rise above past = cuts_rise rs low n g rise above past

starts_kept : (f : Reign → Bool) (rs : List Reign) (low : ℕ) → StartsRise low rs → StartsRise low (filter f rs)
starts_kept f [] low rise = tt
starts_kept f (r ∷ rs) low rise = elim (cases_Bool (f r)) [
  | inl stays ↦ rw stays (rise.0, starts_kept f rs r.start rise.1)
  | inr goes ↦ rw goes (starts_kept f rs low (starts_lower rs low r.start (omega (arith, rise.0)) rise.1))
]

still_in_order : (rs : List InstanceRecord) (n g : ℕ) → 0 < length rs → generation rs < g → AreInOrder rs → AreInOrder (rs ++ Cut n g ∷ [])
still_in_order rs n g some past order = record {
  ordered = record { create = create_first rs n g some order.ordered.create; cuts = cuts_rise rs 0 n g order.ordered.cuts (omega arith) past };
  reigns = subst (StartsRise 0) (sym (reigns-cut rs n g)) (starts_kept (starts_by n) (reigns rs) 0 order.reigns);
}

module _ (rs : List InstanceRecord) (n : ℕ) (last : ℕ → ℕ) (form : MayBeOpened rs last) where
  abbrev pub with_cut : List InstanceRecord
  with_cut = rs ++ next_cut rs n ∷ []

  pub newest : generation with_cut ≡ suc (generation rs)
  newest = let drawn : generation with_cut ≡ generation rs + 1 = generation-cut rs n (generation rs + 1) (omega arith) in omega (arith, drawn)

  pub regions_kept : regions with_cut ≡ regions rs
  regions_kept = same_regions rs n (generation rs + 1) form.some_region

  pub patterns_kept : patterns with_cut ≡ patterns rs
  patterns_kept = patterns_same rs (next_cut rs n) refl

  pub still_opened : generation rs < 65534 → n < NUMBERS_END → MayBeOpened with_cut last
  still_opened low few = record {
    order = still_in_order rs n (generation rs + 1) form.some (omega arith) form.order;
    form = all_both IsInForm rs (next_cut rs n ∷ []) form.form ((few, omega arith, omega (arith, low)), tt);
    some = simp length-append (omega arith);
    some_region = subst (λ (l : List Region). 1 ≤ length l) (sym regions_kept) form.some_region;
    few_regions = subst (λ (l : List Region). length l ≤ MOST_REGIONS) (sym regions_kept) form.few_regions;
    mapped = subst (λ (l : List Region). AllByRecursion (λ (p : Pattern). p.region < length l) (patterns with_cut)) (sym regions_kept)
        (subst (λ (ps : List Pattern). AllByRecursion (λ (p : Pattern). p.region < length (regions rs)) ps) (sym patterns_kept) form.mapped);
    room = let e = newest in omega (arith, e, low);
    earlier = λ r. let e = newest in let le = form.earlier r in omega (arith, e, le);
  }

  module _ (a b : Files) (text : List ℕ) (has : HasDrawn rs n text last 0 a b) where
    pub journal_stays : (h r : ℕ) → h ≤ 65536 → r < length (regions rs) → (h ≡ suc (generation rs) → ⊥) → b (journal_file h r) ≡ a (journal_file h r)
    journal_stays h r most here ne =
        let few = form.few_regions in
        let room = form.room in
        has.others (journal_file h r) (λ e. omega (arith, e)) (λ e. omega (arith, e, most, here, few)) (λ q there e. ne (omega (arith, e, here, there, few)))

    pub cut_read : (journal : ℕ → List Placed) → AreRead rs last journal a → AreUnbegun (suc (suc (generation rs))) (length (regions rs)) a → AreRead with_cut last journal b
    cut_read journal read ahead = record {
      instance = has.instance;
      older = λ r low.
          let here = below r low in
          let room = form.room in
          let before = journal_kept a b r (generation rs) (last r) (journal r) (λ h one high. journal_stays h r (omega (arith, high, room)) here (λ e. omega (arith, e, high))) (read.older r here) in
          subst (λ (g : ℕ). IsJournal b r g (last r) (journal r)) (sym newest) (journal_empty b r (generation rs) (last r) (journal r) (has.unbegun r here (omega arith)) before);
      no_more = λ r high. read.no_more r (subst (λ (l : List Region). length l ≤ r) regions_kept high);
      next = λ r low.
          let here = below r low in
          let room = form.room in
          subst (λ (g : ℕ). records (b (journal_file (suc g) r)) ≡ Some []) (sym newest)
          (ap records (journal_stays (suc (suc (generation rs))) r (omega (arith, room)) here (λ e. omega (arith, e))) ∙ ahead r here);
    }
      where
        below : (r : ℕ) → r < length (regions with_cut) → r < length (regions rs)
        below r low = subst (λ (l : List Region). r < length l) regions_kept low

  -- and the lost-transaction file of a generation may change
  pub lost_read : (a b : Files) (journal : ℕ → List Placed) (g : ℕ) → AreRead rs last journal a → g ≤ MOST_GENERATIONS → SameOutside (Only (lost_file g)) a b → AreRead rs last journal b
  lost_read a b journal g read most same = record {
    instance = subst (λ (l : List ℕ). IsInstance l rs) (sym (same INSTANCE (λ e. omega (arith, e)))) read.instance;
    older = λ r here. journal_kept a b r (generation rs) (last r) (journal r) (λ h one high. let few = form.few_regions in let room = form.room in same (journal_file h r) (λ e. omega (arith, e, high, here, few, room))) (read.older r here);
    no_more = read.no_more;
    next = λ r here. ap records (let few = form.few_regions in let room = form.room in same (next_journal rs r) (λ e. omega (arith, e, here, few, room))) ∙ read.next r here;
  }
