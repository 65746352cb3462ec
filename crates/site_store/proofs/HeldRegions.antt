-- A site's regions stay open for calls while other files than their database files change.
use Rattle.std.proofs.Common.{◌≡◌, inl, inr, ℕ, List, ◌≤◌, ◌<◌, sym, ◌∙◌, ap, subst, arith, length}
use Rattle.std.proofs.lemmas.Bool.{cases_lt}
use Rattle.std.proofs.lemmas.List.{get_or_past}
use Rattle.global_defs.specs.declared.limits.TheConstants.{MOST_REGIONS}
use Rattle.disk_defs.specs.Disk.{Files, View, Image, From, Reads}
use Rattle.disk_defs.specs.Frames.{SameOutside, OthersStay, Only}
use Rattle.disk_defs.proofs.Told.{reads_after, weaker_told}
use Rattle.disk_defs.proofs.Frames.{others_read}
use Rattle.journal_defs.specs.Instance.{InstanceRecord, regions}
use Rattle.site_files.specs.Loading.{AreNext}
use Rattle.journal_defs.specs.Numbers.{INSTANCE, database_file}
use Rattle.region_journals.specs.Fronts.{IsNewestFile}
use Rattle.region_epochs.specs.Taken.{HasSameNodes}
use Rattle.region_store.specs.Region.{Standing, HoldsRegion, IsHeld, IsChanged}
use Rattle.region_store.specs.Joined.{Joined, IsSameJoined, AreChanged, region_at, no_region}
use Rattle.region_store.proofs.Lists.{there}
use Rattle.region_store.proofs.Making.{region_changed, region_there, changed_none}
use Rattle.site_store.specs.Site.{AreHeld, AreSynced}

pub held_stays : (v w : View) (F : ℕ → Type 0) (n : ℕ) (j : Joined) → OthersStay F v w → ((r : ℕ) → r < n → F (database_file r) → ⊥) → AreHeld v n j → AreHeld w n j
held_stays v w F n j stays apart h = record {
  count = h.count;
  files = h.files;
  held = λ r here. reads_after v.content w.content (SameOutside F) (IsHeld (region_at j r)) (IsHeld (region_at j r)) stays.content (h.held r here)
      (λ a b was same. (was.0, subst (λ bytes. HoldsRegion was.0 bytes (region_at j r)) (sym (same (region_at j r).file (subst (λ f. F f → ⊥) (sym (h.files r here)) (apart r here)))) was.1));
}

-- a journal is no database file, of eight regions at most
pub no_journal : (g m n : ℕ) → n ≤ MOST_REGIONS → (r : ℕ) → r < n → IsNewestFile g m (database_file r) → ⊥
no_journal g m n few r here i = omega (arith, i.is, few, here)

-- nor is the instance file
pub no_instance_file : (n r : ℕ) → r < n → Only INSTANCE (database_file r) → ⊥
no_instance_file n r here e = omega (arith, e)

pub held_read : (v w : View) (n : ℕ) (j : Joined) → Reads v w → AreHeld v n j → AreHeld w n j
held_read v w n j reads h = held_stays v w (λ f. ⊥) n j (others_read (λ f. ⊥) v w reads) (λ r here no. no) h

-- a site that was read, while its next generation is drawn
pub held_drawn : (v w : View) (rs : List InstanceRecord) (j : Joined) → length (regions rs) ≤ MOST_REGIONS → OthersStay (AreNext rs) v w → AreHeld v (length (regions rs)) j → AreHeld w (length (regions rs)) j
held_drawn v w rs j few stays h = held_stays v w (AreNext rs) (length (regions rs)) j stays (λ r here i. elim i [
  | inl e ↦ omega (arith, e)
  | inr behind ↦ elim behind [ inl e ↦ omega (arith, e, here, few) | inr next ↦ (let e = next.2 in omega (arith, e, here, few)) ]
]) h

pub changed_not : (old new : Joined) → new ≡ old → AreChanged old new
changed_not old new same = subst (AreChanged old) (sym same) (changed_none old)

-- while nodes change
module _ (v : View) (n : ℕ) (old new : Joined) (are : AreChanged old new) (h : AreHeld v n old) where
  changed : (r : ℕ) → r < n → IsChanged (region_at old r) (region_at new r)
  changed r here = let count = h.count in region_changed old new are r (omega (arith, here, count))

  still_held : (r : ℕ) (here : r < n) (files : Files) → IsHeld (region_at old r) files → IsHeld (region_at new r) files
  still_held r here files was =
      let is = changed r here in
      (was.0, is.holds was.0 (files (region_at new r).file) (subst (λ k. HoldsRegion was.0 (files k) (region_at old r)) (sym is.file) was.1))

  pub held_changed : AreHeld v n new
  held_changed = record {
    count = are.count ∙ h.count;
    files = λ r here. (changed r here).file ∙ h.files r here;
    held = λ r here. weaker_told v.content (IsHeld (region_at old r)) (IsHeld (region_at new r)) (h.held r here) (still_held r here);
  }

-- while other files change
pub synced_stays : (v w : View) (F : ℕ → Type 0) (n : ℕ) → ((f : Files) → Image w f → From (Image v) (SameOutside F) f) → ((r : ℕ) → r < n → F (database_file r) → ⊥) → AreSynced v n → AreSynced w n
synced_stays v w F n from apart was f d i j r here =
    let a = from f i in
    let b = from d j in
    b.2 (database_file r) (apart r here) ∙ was a.0 b.0 a.1 b.1 r here ∙ sym (a.2 (database_file r) (apart r here))

-- the regions have the same nodes in the same files
pub nodes_same : (old new : Joined) → IsSameJoined old new → HasSameNodes old new
nodes_same old new same = record {
  patterns = same.patterns;
  count = same.count;
  parts = same.parts;
  files = λ r. elim (cases_lt r (length old.regions)) [
    | inl low ↦
        let count = same.count in
        let x = there old.regions r low in
        let y = there new.regions r (omega (arith, low, count)) in
        ap (λ (s : Standing). s.file) (region_there new r y.0 y.1) ∙ (same.each r x.0 y.0 x.1 y.1).file ∙ sym (ap (λ (s : Standing). s.file) (region_there old r x.0 x.1))
    | inr past ↦
        let count = same.count in
        ap (λ (s : Standing). s.file) (get_or_past new.regions r no_region (omega (arith, past, count)) ∙ sym (get_or_past old.regions r no_region past))
  ];
}

pub nodes_then : (a b c : Joined) → HasSameNodes a b → HasSameNodes b c → HasSameNodes a c
nodes_then a b c first second = record {
  patterns = second.patterns ∙ first.patterns;
  count = second.count ∙ first.count;
  parts = second.parts ∙ first.parts;
  files = λ r. second.files r ∙ first.files r;
}
