-- Which records still count, and which reigns (GT.M: a rollback discards what is past its resync number; this project keeps the
-- records, and a CUT record says what no longer counts).
use Rattle.std.specs.Prelude.{ℕ, Bool, true, ◌||◌, nat_le, List, [], ◌∷◌, if◌then◌else◌}
use Rattle.std.specs.List.{list_all}
use Rattle.global_defs.specs.Entry.{Reign}
use Rattle.journal_defs.specs.Instance.{InstanceRecord, Create, Reigned, Cut, Map, Mode}

-- the instance record leaves what has this generation and this number: a CUT of no later generation does, or one of no lesser length
abbrev pub spares : ℕ → ℕ → InstanceRecord → Bool
spares g n (Cut m h) = nat_le h g || nat_le n m
spares g n (Create name regions) = true
spares g n (Reigned r) = true
spares g n (Map region star name) = true
spares g n (Mode region before) = true

-- A TCOM or an EPOCH of this generation with this number survives: all instance records leave it. PINI and PBLK always count.
abbrev pub survives : List InstanceRecord → ℕ → ℕ → Bool
survives instance g n = list_all (spares g n) instance

-- the instance record leaves an earlier reign with this start: a CUT of no lesser length does, whatever its generation
abbrev pub spares_start : ℕ → InstanceRecord → Bool
spares_start start (Cut m h) = nat_le start m
spares_start start (Create name regions) = true
spares_start start (Reigned r) = true
spares_start start (Map region star name) = true
spares_start start (Mode region before) = true

-- the surviving reigns: those that no later CUT dropped
abbrev pub reigns : List InstanceRecord → List Reign
reigns [] = []
reigns (Reigned r ∷ rs) = if list_all (spares_start r.start) rs then r ∷ reigns rs else reigns rs
reigns (Create name regions ∷ rs) = reigns rs
reigns (Cut m h ∷ rs) = reigns rs
reigns (Map region star name ∷ rs) = reigns rs
reigns (Mode region before ∷ rs) = reigns rs
