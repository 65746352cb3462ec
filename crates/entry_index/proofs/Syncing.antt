-- Journals of other regions that are on the disk for good.
use Rattle.std.proofs.Common.{◌≡◌, inl, inr, ℕ, ◌<◌, ◌+◌, subst, arith}
use Rattle.std.proofs.lemmas.Bool.{cases_lt}
use Rattle.global_defs.specs.declared.limits.TheConstants.{MOST_REGIONS}
use Rattle.disk_defs.specs.Disk.{Files, View, Image, IsLawful, Reads, AtEachMoment}
use Rattle.disk_defs.specs.Frames.{OthersStay}
use Rattle.disk_defs.proofs.Frames.{durable_stays, reads_more}
use Rattle.disk_defs.proofs.Moments.{nothing_new, read_only}
use Rattle.journal_defs.specs.Numbers.{journal_file}
use Rattle.jnl_file.specs.Generations.{AreJournals, AreDurable}

-- a call on the journals of a region leaves those of others
pub durable_others : (v w : View) (files : Files) (r region last : ℕ) → r < region → region < MOST_REGIONS → OthersStay (AreJournals region last) v w → AreDurable v r last files → AreDurable w r last files
durable_others v w files r region last less low stays are h first most =
    durable_stays (AreJournals region last) v w (journal_file h r) (files (journal_file h r)) stays (λ (is : AreJournals region last (journal_file h r)). let same : journal_file h r ≡ journal_file is.0 region = is.3 in absurd (omega (arith, same, less, low)))
    (are h first most)

-- so the journals of one region more are there for good
pub durable_more : (v w : View) (files : Files) (region last : ℕ) → region < MOST_REGIONS → OthersStay (AreJournals region last) v w → AreDurable w region last files → ((r : ℕ) → r < region → AreDurable v r last files)
    → (r : ℕ) → r < region + 1 → AreDurable w r last files
durable_more v w files region last low stays here all r inside = elim (cases_lt r region) [
  | inl less ↦ durable_others v w files r region last less low stays (all r less)
  | inr past ↦ let same : region ≡ r = omega (arith, past, inside) in subst (λ (k : ℕ). AreDurable w k last files) same here
]

-- a call that syncs, and three that read
pub moments_of : (u s b v w : View) → IsLawful s → IsLawful b → AtEachMoment u s (Image u) → Reads s b → Reads b v → Reads v w → AtEachMoment u w (Image u)
moments_of u s b v w lawful_s lawful_b synced first second third = nothing_new u s w (Image u) lawful_s synced (read_only s w (reads_more s b w lawful_s first (reads_more b v w lawful_b second third)))
