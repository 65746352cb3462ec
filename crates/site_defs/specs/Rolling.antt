-- What rolling a site back makes of its contents (GT.M: MUPIP JOURNAL -ROLLBACK -BACKWARD -RESYNC -LOSTTRANS).
--
-- Two generations are drawn. The CUT of the first one is of all entries, and its lost-transaction file takes what is to go. The CUT of the second one
-- is of what stays, and it begins in each region and is closed with an epoch. So a crash leaves all entries, or those that stay.
use Rattle.std.specs.Prelude.{◌≡◌, ◌⊎◌, ◌≤◌, ℕ, ◌+◌, Bool, List, [], ◌∷◌, ◌++◌, length, take}
use Rattle.global_defs.specs.Extract.{extract}
use Rattle.journal_defs.specs.Instance as records
use Rattle.journal_defs.specs.Instance.{generation, regions, site_name}
use Rattle.site_defs.specs.Contents.{Contents, Standing, bare}
use Rattle.site_defs.specs.Epochs.{with_epochs, marked}
use Rattle.site_defs.specs.Opening.{cut_with, with_starts}

-- the extract of the entries behind the first t, with the number of the first of them
abbrev pub lost_text : ℕ → Contents → List ℕ
lost_text t c = extract (site_name c.instance) c.sequence (t + 1)

-- with a CUT to the first t entries; nothing is broken behind them
abbrev pub cut_to : ℕ → Contents → Contents
cut_to t c = record c { instance = c.instance ++ records.Cut t (generation c.instance + 1) ∷ []; texts = c.texts ++ [] ∷ []; losts = c.losts ++ [] ∷ []; sequence = take t c.sequence }

-- both generations are drawn, and what is to go is in the lost-transaction file
abbrev pub kept_first : ℕ → List ℕ → Contents → Contents
kept_first t broken c = cut_to t (cut_with broken (lost_text t c) c)

-- and the second one has begun in each region
abbrev pub rolled_open : ℕ → List ℕ → Contents → Contents
rolled_open t broken c = with_starts (length (regions c.instance)) (kept_first t broken c)

-- and is closed, with an epoch of what stays
abbrev pub rolled : ℕ → List ℕ → Contents → Contents
rolled t broken c = marked (rolled_open t broken c)

-- What rolling back may leave of these contents: the same; or all entries, with a part of the lost-transaction file; or those that stay, with all of it, while the second generation has
-- begun in the first few regions, or has an epoch in some.
abbrev pub MayRollBack : ℕ → List ℕ → Contents → Contents → Type 0
MayRollBack t broken c o = (o ≡ c)
    ⊎ ((lost : List ℕ) × (length lost ≤ length (lost_text t c)) × (o ≡ cut_with broken lost c))
    ⊎ ((k : ℕ) × (o ≡ with_starts k (kept_first t broken c)))
    ⊎ ((k : ℕ → Bool) × (o ≡ with_epochs k (rolled_open t broken c)))

-- and of these with what lies behind them, which is written down with the first CUT
abbrev pub MayRollBackLeft : ℕ → Standing → Standing → Type 0
MayRollBackLeft t s o = (o ≡ s)
    ⊎ ((lost : List ℕ) × (length lost ≤ length (lost_text t s.contents)) × (o ≡ bare (cut_with s.broken lost s.contents)))
    ⊎ ((k : ℕ) × (o ≡ bare (with_starts k (kept_first t s.broken s.contents))))
    ⊎ ((k : ℕ → Bool) × (o ≡ bare (with_epochs k (rolled_open t s.broken s.contents))))
