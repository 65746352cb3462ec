-- The layout of a site whose next generation is drawn.
use Rattle.std.proofs.Common.{◌≡◌, ℕ, ◌+◌, ◌<◌, List, [], ◌∷◌, ◌++◌, length, map, refl, sym, ◌∙◌, arith}
use Rattle.journal_defs.specs.Instance.{InstanceRecord, Create, Reigned, Cut, Map, Mode, generation, regions, site_name}
use Rattle.journal_laws.proofs.Drawing.{generation-cut}
use Rattle.journal_laws.proofs.EveryTarget.{patterns_same}
use Rattle.site_files.specs.Loading.{next_cut}
use Rattle.site_store.specs.declared.layout.Layout.{Layout}
use Rattle.site_store.specs.Finding.{HasLayout, mapping_of}
use Rattle.site_store.specs.Opening.{region_value}

name_cut : (rs : List InstanceRecord) (n g : ℕ) → site_name (rs ++ Cut n g ∷ []) ≡ site_name rs
name_cut [] n g = refl
name_cut (Create name named ∷ rs) n g = refl
name_cut (Reigned r ∷ rs) n g = refl
name_cut (Cut m h ∷ rs) n g = refl
name_cut (Map region star name ∷ rs) n g = refl
name_cut (Mode region before ∷ rs) n g = refl

regions_cut : (rs : List InstanceRecord) (n g : ℕ) → regions (rs ++ Cut n g ∷ []) ≡ regions rs
regions_cut [] n g = refl
regions_cut (Create name named ∷ rs) n g = refl
regions_cut (Reigned r ∷ rs) n g = refl
regions_cut (Cut m h ∷ rs) n g = refl
regions_cut (Map region star name ∷ rs) n g = refl
regions_cut (Mode region before ∷ rs) n g = refl

pub layout_next : (rs : List InstanceRecord) (n : ℕ) (found : Layout) → found.name ≡ site_name rs → map region_value found.regions.items ≡ regions rs → found.directory ≡ mapping_of rs → found.generation ≡ generation rs + 1
    → HasLayout (rs ++ next_cut rs n ∷ []) found
layout_next rs n found name named directory newest =
    let past : generation rs < generation rs + 1 = omega arith in
    let same = regions_cut rs n (generation rs + 1) in
    let kept = patterns_same rs (next_cut rs n) refl in
    record {
      name = name ∙ sym (name_cut rs n (generation rs + 1));
      regions = named ∙ sym same;
      directory = directory ∙ (λ i. record { regions = length (sym same i); patterns = sym kept i });
      generation = newest ∙ sym (generation-cut rs n (generation rs + 1) past);
    }
