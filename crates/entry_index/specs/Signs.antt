-- Signs of parts.
use Rattle.std.specs.Prelude.{◌≡◌, ℕ, ◌==◌, ◌&&◌, nat_le, Bool, is_some, if◌then◌else◌, List, [], ◌∷◌, get_or, Option, Some, None}
use Rattle.std.specs.Option.{option_or}
use Rattle.global_defs.specs.declared.limits.TheConstants.{MOST_GENERATIONS}
use Rattle.disk_defs.specs.Disk.{Files}
use Rattle.journal_defs.specs.Instance.{InstanceRecord}
use Rattle.journal_defs.specs.Journal.{Part}
use Rattle.journal_defs.specs.Surviving.{survives}
use Rattle.gvn_model.specs.Entries.{origin_value}
use Rattle.entry_index.specs.declared.placed.PlacedSign.{PlacedSign}
use Rattle.entry_index.specs.declared.sign.Sign.{Sign}
use Rattle.entry_index.specs.declared.sign.Sign.TheVariants.{Pini, Epoch, Pblk, Tcom}
use Rattle.entry_index.specs.RecordSigns.{span_of}
use Rattle.entry_index.specs.declared.signed_part.PartSign.{PartSign}
use Rattle.entry_index.specs.Parts.{InFiles, IsPartAt}

-- what a sign says of a part that stands here
abbrev pub part_said : ℕ → ℕ → Sign → Option PartSign
part_said g at (Tcom number mask origin count span) = Some (record { number = number; mask = mask; origin = origin; count = count; span = span; place = record { generation = g; offset = at } })
part_said g at (Pini region before generation previous) = None
part_said g at (Epoch closing number blocks) = None
part_said g at (Pblk block) = None

-- the same, where the generation is one that there may be
abbrev pub part_sign_in : PlacedSign → Option PartSign
part_sign_in s = if nat_le 1 s.generation && nat_le s.generation MOST_GENERATIONS then part_said s.generation s.offset s.sign else None

abbrev pub is_part_sign : PlacedSign → Bool
is_part_sign s = is_some (part_sign_in s)

-- the sign, where its part has this number
abbrev pub if_numbered : ℕ → Option PartSign → Option PartSign
if_numbered n None = None
if_numbered n (Some s) = if s.number == n then Some s else None

-- the sign, where its part survives
abbrev pub if_surviving : List InstanceRecord → ℕ → Option PartSign → Option PartSign
if_surviving instance g None = None
if_surviving instance g (Some s) = if survives instance g s.number then Some s else None

-- the sign of the part of entry n that stands here and survives
abbrev pub sign_in : List InstanceRecord → ℕ → PlacedSign → Option PartSign
sign_in instance n s = if_numbered n (if_surviving instance s.generation (part_sign_in s))

-- the last such sign of a region
abbrev pub last_sign : List InstanceRecord → ℕ → List PlacedSign → Option PartSign
last_sign instance n [] = None
last_sign instance n (s ∷ ss) = option_or (last_sign instance n ss) (sign_in instance n s)

-- the signs of a region; those past the last list have none
abbrev pub signs_of : List (List PlacedSign) → ℕ → List PlacedSign
signs_of signs r = get_or signs r []

-- one mask, count and origin
abbrev pub is_like_sign : PartSign → PartSign → Bool
is_like_sign head s = s.mask == head.mask && s.count == head.count && s.origin.updater == head.origin.updater && s.origin.serial == head.origin.serial

-- the sign says what the part is, but for its updates, and where it stands
pub record Tells (files : Files) (r n : ℕ) (s : PartSign) (p : Part) : Type 0 where
  pub number : s.number ≡ p.number
  pub mask : s.mask ≡ p.mask
  pub origin : origin_value s.origin ≡ p.origin
  pub count : s.count ≡ p.count
  pub span : s.span ≡ span_of p.items
  pub stands : IsPartAt (InFiles files) r n s.place (Some p)

-- the sign of the part of entry n in a region, where there is one
abbrev pub IsSign : Files → ℕ → ℕ → Option PartSign → Option Part → Type 0
IsSign files r n None None = Unit {0}
IsSign files r n None (Some p) = ⊥
IsSign files r n (Some s) None = ⊥
IsSign files r n (Some s) (Some p) = Tells files r n s p
