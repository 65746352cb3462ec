-- The signs of a region's journals, from generation to generation.
use Rattle.std.specs.Prelude.{◌≡◌, ℕ, Bool, true, false, List, [], ◌++◌}
use Rattle.disk_defs.specs.Disk.{Files}
use Rattle.journal_defs.specs.Numbers.{journal_file}
use Rattle.journal_defs.specs.Sequence.{Placed}
use Rattle.jnl_file.specs.Generations.{HasNewer}
use Rattle.entry_index.specs.Places.{AreSignsOf}
use Rattle.entry_index.specs.Order.{AreNewer}
use Rattle.entry_index.specs.declared.placed.PlacedSign.{PlacedSign}
use Rattle.entry_index.specs.declared.sign.Sign.{Sign}
use Rattle.entry_index.specs.declared.sign.Sign.TheVariants.{Pini, Epoch, Pblk, Tcom}

-- the first record is the PINI of this region and generation, with this one before it, and no other one is a PINI
abbrev pub MayJoin : Bool → ℕ → ℕ → ℕ → Sign → Type 0
MayJoin true region generation previous (Pini r before g p) = (r ≡ region) × (g ≡ generation) × (p ≡ previous)
MayJoin true region generation previous (Epoch closing number blocks) = ⊥
MayJoin true region generation previous (Pblk block) = ⊥
MayJoin true region generation previous (Tcom number mask origin count span) = ⊥
MayJoin false region generation previous (Pini r before g p) = ⊥
MayJoin false region generation previous (Epoch closing number blocks) = Unit {0}
MayJoin false region generation previous (Pblk block) = Unit {0}
MayJoin false region generation previous (Tcom number mask origin count span) = Unit {0}

-- A journal of this region and generation, with this one before it, has records whose signs were added to a list; `began` is the last generation that began.
pub record HasNewerSigns (files : Files) (region generation previous : ℕ) (old new : List PlacedSign) (began : ℕ) : Type 0 where
  pub placed : List Placed
  pub newer : HasNewer region generation previous (files (journal_file generation region)) [] placed began
  pub signs : List PlacedSign
  pub whole : new ≡ old ++ signs
  pub are : AreSignsOf files region signs placed
  pub in_order : AreNewer generation signs placed
