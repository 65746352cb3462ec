-- One record more is in order.
use Rattle.std.proofs.Common.{ℕ, ◌<◌, ◌≤◌, Bool, inl, inr, List, [], ◌∷◌, ◌++◌, length, filter, refl, sym, subst, arith}
use Rattle.std.proofs.lemmas.Bool.{cases_Bool}
use Rattle.std.specs.List.{AllByRecursion}
use Rattle.global_defs.specs.Entry.{Reign}
use Rattle.journal_defs.specs.Instance.{InstanceRecord, Reigned, Cut, Map, Mode, pattern_record, generation, regions}
use Rattle.journal_defs.specs.Surviving.{reigns}
use Rattle.journal_laws.proofs.Runs.{reigns-cut, reigns-more, starts_by}
use Rattle.journal_laws.proofs.Later.{reigns-same}
use Rattle.instance_file.specs.Order.{AreInOrder}
use Rattle.global_defs.specs.Pattern.{ends_in_star, stem}
use Rattle.instance_file.proofs.Orders.{ordered_behind}
use Rattle.instance_file.proofs.Histories.{rise_push}
use Rattle.global_defs.proofs.Starts.{last_start}
use Rattle.global_defs.specs.Rising.{StartsRise}

pub rise_lower : (rs : List Reign) (low high : ℕ) → low ≤ high → StartsRise high rs → StartsRise low rs
rise_lower [] low high le rise = tt
rise_lower (r ∷ rs) low high le rise = (omega (arith, rise.0), rise.1)

rise_kept : (f : Reign → Bool) (rs : List Reign) (low : ℕ) → StartsRise low rs → StartsRise low (filter f rs)
rise_kept f [] low rise = tt
rise_kept f (r ∷ rs) low rise = elim (cases_Bool (f r)) [
  | inl stays ↦ rw stays (rise.0, rise_kept f rs r.start rise.1)
  | inr goes ↦ rw goes (rise_kept f rs low (rise_lower rs low r.start (omega (arith, rise.0)) rise.1))
]

last_below : (rs : List Reign) (low n : ℕ) → low < n → AllByRecursion (λ q. q.start < n) rs → last_start low rs < n
last_below [] low n below all = below
last_below (r ∷ rs) low n below all = last_below rs r.start n all.0 all.1

pub cut_more : (rs : List InstanceRecord) (n g : ℕ) → 0 < length rs → generation rs < g → AreInOrder rs → AreInOrder (rs ++ Cut n g ∷ [])
cut_more rs n g some past order = record {
  ordered = ordered_behind rs (Cut n g) some order.ordered tt past;
  reigns = subst (StartsRise 0) (sym (reigns-cut rs n g)) (rise_kept (starts_by n) (reigns rs) 0 order.reigns);
}

pub reign_more : (rs : List InstanceRecord) (r : Reign) → 0 < length rs → 1 ≤ r.start → AllByRecursion (λ q. q.start < r.start) (reigns rs) → AreInOrder rs → AreInOrder (rs ++ Reigned r ∷ [])
reign_more rs r some first past order = record {
  ordered = ordered_behind rs (Reigned r) some order.ordered tt tt;
  reigns = subst (StartsRise 0) (sym (reigns-more rs r)) (rise_push 0 (reigns rs) r order.reigns (last_below (reigns rs) 0 r.start (omega arith) past));
}

has_record : (rs : List InstanceRecord) (n : ℕ) → n < length (regions rs) → 0 < length rs
has_record [] n some = absurd (omega arith)
has_record (r ∷ rs) n some = omega arith

map_more : (rs : List InstanceRecord) (region : ℕ) (star : Bool) (name : List ℕ) → 0 < length rs → AreInOrder rs → AreInOrder (rs ++ Map region star name ∷ [])
map_more rs region star name some order = record {
  ordered = ordered_behind rs (Map region star name) some order.ordered tt tt;
  reigns = subst (StartsRise 0) (sym (reigns-same rs (Map region star name) (λ s. refl) refl)) order.reigns;
}

pub pattern_more : (rs : List InstanceRecord) (region : ℕ) (pattern : List ℕ) → region < length (regions rs) → AreInOrder rs → AreInOrder (rs ++ pattern_record region pattern ∷ [])
pattern_more rs region pattern some order = map_more rs region (ends_in_star pattern) (stem pattern) (has_record rs region some) order

pub mode_more : (rs : List InstanceRecord) (region : ℕ) (before : Bool) → region < length (regions rs) → AreInOrder rs → AreInOrder (rs ++ Mode region before ∷ [])
mode_more rs region before some order = record {
  ordered = ordered_behind rs (Mode region before) (has_record rs region some) order.ordered tt tt;
  reigns = subst (StartsRise 0) (sym (reigns-same rs (Mode region before) (λ s. refl) refl)) order.reigns;
}
