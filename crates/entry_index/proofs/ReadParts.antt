-- Parts read from their places.
use Rattle.std.proofs.Common.{◌≡◌, inl, inr, ℕ, ◌+◌, ◌≤◌, ◌<◌, ◌==◌, Bool, true, List, [], ◌∷◌, ◌++◌, length, map, get_or, Option, Some, None, refl, sym, ◌∙◌, ap, arith, if◌then◌else◌}
use Rattle.std.proofs.lemmas.Bool.{cases_lt}
use Rattle.std.proofs.lemmas.Bool.Decides.{nat_tests}
use Rattle.std.proofs.lemmas.List.{get_or_past}
use Rattle.std.proofs.Math.ListN.{get_or-append}
use Rattle.std.proofs.Math.Path.{fun_ext}
use Rattle.std.proofs.Math.Seq.{get_or-append_seam}
use Rattle.std.specs.Option.{option_map}
use Rattle.global_defs.specs.declared.limits.TheConstants.{MOST_GENERATIONS}
use Rattle.disk_defs.specs.Disk.{Files}
use Rattle.global_defs.specs.Entry.{Stamp}
use Rattle.gvn_model.specs.declared.entry.Transaction.{Transaction}
use Rattle.journal_defs.specs.Journal.{JournalRecord, Tcom, Part}
use Rattle.journal_defs.specs.Numbers.{journal_file}
use Rattle.journal_defs.specs.Sequence.{REGIONS, entry_among}
use Rattle.entry_index.specs.Places.{StandsAt}
use Rattle.mupip_recover.specs.Entries.{stamped}
use Rattle.mupip_recover.specs.Table.{part_in_column, part_at}
use Rattle.mupip_recover.specs.declared.table.Table.{Table}
use Rattle.entry_index.specs.declared.place.PartPlace.{PartPlace}
use Rattle.entry_index.specs.Parts.{InFiles, IsPartAt, part_with}

module _ (files : Files) (r n : ℕ) (p : PartPlace) where
  -- at generation 0 there is none
  pub none_at : (x : Option Part) → p.generation ≡ 0 → IsPartAt (InFiles files) r n p x → None ≡ x
  none_at None zero is = refl
  none_at (Some x) zero is = absurd (omega (arith, zero, is.0))

  -- past the last generation there can be nothing
  pub none_past : (x : Option Part) → MOST_GENERATIONS < p.generation → IsPartAt (InFiles files) r n p x → ⊥
  none_past None past is = omega (arith, past, is)
  none_past (Some x) past is = omega (arith, past, is.1)

  numbered : (x : Part) → x.number ≡ n → part_with n (Tcom x) ≡ Some x
  numbered x is =
      let yes : (x.number == n) ≡ true = grind (arith, nat_tests) in
      ap (λ (b : Bool). if b then Some x else None) yes

  -- what stands there, where something has to
  pub is_part : (x : Option Part) (what : JournalRecord) → 1 ≤ p.generation → ((other : JournalRecord) → StandsAt (files (journal_file p.generation r)) p.offset other → what ≡ other)
      → IsPartAt (InFiles files) r n p x → part_with n what ≡ x
  is_part None what least one is = absurd (omega (arith, least, is))
  is_part (Some x) what least one is = ap (part_with n) (one (Tcom x) is.3) ∙ numbered x is.2

  -- another record stands there
  pub no_part : (x : Option Part) (what : JournalRecord) → 1 ≤ p.generation → ((other : JournalRecord) → StandsAt (files (journal_file p.generation r)) p.offset other → what ≡ other)
      → None ≡ part_with n what → IsPartAt (InFiles files) r n p x → ⊥
  no_part None what least one none is = omega (arith, least, is)
  no_part (Some x) what least one none is = let gone : None ≡ Some x = none ∙ is_part (Some x) what least one is in cc

  -- no record stands there
  pub nothing_there : (x : Option Part) → 1 ≤ p.generation → ((other : JournalRecord) → StandsAt (files (journal_file p.generation r)) p.offset other → ⊥) → IsPartAt (InFiles files) r n p x → ⊥
  nothing_there None least none is = omega (arith, least, is)
  nothing_there (Some x) least none is = none (Tcom x) is.3

-- what is known of a list by place, with one more
pub more_read : {X : Type 0} (f : ℕ → X) (ms : List X) (x d : X) (i : ℕ) → length ms ≡ i → ((r : ℕ) → r < i → get_or ms r d ≡ f r) → x ≡ f i → (r : ℕ) → r < i + 1 → get_or (ms ++ x ∷ []) r d ≡ f r
more_read f ms x d i long before here r low = elim (cases_lt r i) [
  | inl less ↦ get_or-append ms (x ∷ []) d r (omega (arith, long, less)) ∙ before r less
  | inr past ↦
      let is : r ≡ length ms = omega (arith, long, past, low) in
      let at : i ≡ r = omega (arith, past, low) in
      ap (λ (k : ℕ). get_or (ms ++ x ∷ []) k d) is ∙ get_or-append_seam ms x [] d ∙ here ∙ ap f at
]

-- those of all regions
pub all_read : (part : ℕ → Option Part) (ms : List (Option Part)) (n : ℕ) → length ms ≡ n → ((r : ℕ) → r < n → get_or ms r None ≡ part r) → ((r : ℕ) → n ≤ r → part r ≡ None)
    → (r : ℕ) → get_or ms r None ≡ part r
all_read part ms n long each no_more r = elim (cases_lt r n) [
  | inl less ↦ each r less
  | inr past ↦ get_or_past ms r None (omega (arith, long, past)) ∙ sym (no_more r past)
]

-- a table of one place, which has these parts
pub from_table : (t : Table) (ms : List (Option Part)) (part : ℕ → Option Part) (found : Option Transaction) → map (λ c. part_in_column 0 c.items) t.columns.items ≡ ms
    → ((r : ℕ) → get_or ms r None ≡ part r) → ((stamp : Stamp) → entry_among (part_at t 0) stamp REGIONS ≡ option_map (stamped stamp) found)
    → (stamp : Stamp) → entry_among part stamp REGIONS ≡ option_map (stamped stamp) found
from_table t ms part found is each all stamp =
    let same : part ≡ part_at t 0 = fun_ext (λ r. sym (ap (λ (l : List (Option Part)). get_or l r None) is ∙ each r)) in
    ap (λ (p : ℕ → Option Part). entry_among p stamp REGIONS) same ∙ all stamp
