-- What a look at the next disk finds at its place.
use Rattle.std.specs.Prelude.{◌≡◌, ℕ, ◌≤◌, Bool, true, not, ◌&&◌, List, ◌∷◌, ◌++◌, codes, Option, Some, None, IsTrue, Result, Ok, Err}
use Rattle.std.specs.Fmt.{decimal}
use Rattle.disk_defs.specs.Disk.{Files, View}
use Rattle.journal_defs.specs.Instance.{site_name}
use Rattle.site_store.specs.declared.layout.Layout.{Layout}
use Rattle.site_store.specs.declared.error.SiteError.{SiteError}
use Rattle.site_store.specs.declared.error.SiteError.TheVariants.{Failed, Stopped, Full, SeqLimit, GenLimit, ReignLimit, NeedForward, NotAFile, NoMemory}
use Rattle.command_defs.specs.Commands.{Name}
use Rattle.site_defs.specs.Lists.{Among}
use Rattle.world_defs.specs.World.{Place, IfShown, NoNew, Kept, StandAsBefore}
use Rattle.site_defs.specs.Contents.{Contents, is_made, same_name}
use Rattle.world_defs.specs.Answers.{line}
use Rattle.world_defs.specs.Shown.{ByRecords, IsNoSite}
use Rattle.world_defs.specs.Changes.{Fails, KeptUnknown}
use Rattle.site_store.specs.Finding.{IsLaidOut}
use Rattle.site_runner.specs.declared.slot.Slot.{Slot}
use Rattle.site_runner.specs.Tied.{IsPlace}

-- these are of the site that was found, or of none where none was
abbrev pub fits : Option Layout → Contents → Bool
fits None c = not (is_made c)
fits (Some found) c = is_made c && same_name (site_name c.instance) found.name

-- the instance file's records give the layout that was found, or there are none
abbrev pub IsFoundBy : Option Layout → Files → Type 0
IsFoundBy found files = ByRecords (λ rs. IsLaidOut rs found) files

-- The place is as it was, but for outcomes that aren't of what was found.
pub record Finds (found : Option Layout) (old new : Place) : Type 0 where
  pub kept : Kept old new
  pub now : IsTrue old.told → fits found old.now ≡ true
  pub outcomes : IsTrue old.told → (o : Contents) → Among new.outcomes o → fits found o ≡ true
  -- the records of the instance file give it
  pub bytes : IfShown old (IsFoundBy found)

-- no outcome is new, and no standing
pub record LeavesOld (old new : Place) : Type 0 where
  pub told : new.told ≡ old.told
  pub outcomes : old.told ≡ true → NoNew old.outcomes new.outcomes
  pub standings : old.told ≡ true → StandAsBefore old.standings new.standings
  pub faults : old.faults ≤ new.faults
  pub simulated : new.simulated ≡ old.simulated

abbrev pub Sees : Result (Option Layout) SiteError → Place → Place → Type 0
Sees (Ok found) p q = Finds found p q
Sees (Err (Failed fault)) p q = Fails fault None (λ c o. o ≡ c) StandAsBefore p q × (p.faults ≤ q.faults)
Sees (Err (Stopped fault)) p q = LeavesOld p q
Sees (Err (Full nodes)) p q = LeavesOld p q
Sees (Err SeqLimit) p q = LeavesOld p q
Sees (Err GenLimit) p q = LeavesOld p q
Sees (Err ReignLimit) p q = LeavesOld p q
Sees (Err (NeedForward needing)) p q = LeavesOld p q
Sees (Err (NotAFile file offset)) p q = KeptUnknown p q × IfShown p (IsNoSite file offset)
Sees (Err NoMemory) p q = LeavesOld p q

-- Whatever place the slot was, the look leads to one that it is.
abbrev pub LooksHere : {D : Type 0} → (D → View) → Slot D → Slot D → Result (Option Layout) SiteError → Type 0
LooksHere view old new result = (p : Place) → IsPlace view old p → (q : Place) × Sees result p q × IsPlace view new q

-- a failure's line, which begins with that word; for want of memory there is none
abbrev pub Tells : SiteError → Name → List ℕ → List ℕ → Type 0
Tells (Failed fault) word before now = now ≡ before ++ line word (codes "DISKFAULT " ++ decimal fault)
Tells (Stopped fault) word before now = ⊥
Tells (Full nodes) word before now = ⊥
Tells SeqLimit word before now = ⊥
Tells GenLimit word before now = ⊥
Tells ReignLimit word before now = ⊥
Tells (NeedForward needing) word before now = ⊥
Tells (NotAFile file offset) word before now = now ≡ before ++ line word (codes "NOTAFILE " ++ decimal file ++ 32 ∷ decimal offset)
Tells NoMemory word before now = ⊥
