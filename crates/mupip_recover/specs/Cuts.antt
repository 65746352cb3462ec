-- The cuts of an instance file.
use Rattle.std.specs.Prelude.{◌≡◌, List, Option, Some, None, map}
use Rattle.std.specs.List.{filter_map}
use Rattle.std.specs.List.Sorted.{IsNonDecreasing, IsPermutation}
use Rattle.journal_defs.specs.Instance.{InstanceRecord, Create, Reigned, Cut, Map, Mode}
use Rattle.mupip_recover.specs.Minima.{minima}
use Rattle.mupip_recover.specs.declared.cuts.Cut as code
use Rattle.mupip_recover.specs.declared.cuts.Cuts.{Cuts}

-- the cut that the record is
abbrev pub cut_in : InstanceRecord → Option code.Cut
cut_in (Cut n g) = Some (record { generation = g; length = n })
cut_in (Create name regions) = None
cut_in (Reigned r) = None
cut_in (Map region star name) = None
cut_in (Mode region before) = None

-- These are the cuts of an instance file, by their generations.
pub record AreCuts (instance : List InstanceRecord) (c : Cuts) : Type 0 where
  pub cuts : List code.Cut
  pub same : IsPermutation (filter_map cut_in instance) cuts
  pub order : IsNonDecreasing (map (λ x. x.generation) cuts)
  pub generations : c.generations.items ≡ map (λ x. x.generation) cuts
  pub lengths : c.lengths.items ≡ minima (map (λ x. x.length) cuts)
