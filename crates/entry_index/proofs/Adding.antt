-- Entries that are told one after another, of files that the disk tells, or doesn't.
use Rattle.std.proofs.Common.{◌≡◌, inl, inr, ◌≤◌, ◌<◌, ◌+◌, ℕ, true, false, Bool, List, [], length, map, get_or, Option, Some, None, IfSome, sym, ◌∙◌, subst, arith}
use Rattle.std.proofs.lemmas.Bool.{cases_lt}
use Rattle.std.proofs.lemmas.List.{get_or-map, get_or_past, length-map}
use Rattle.disk_defs.specs.Disk.{Files}
use Rattle.global_defs.specs.Entry.{Reign}
use Rattle.journal_defs.specs.Instance.{InstanceRecord}
use Rattle.journal_defs.specs.Journal.{Part}
use Rattle.journal_defs.specs.Sequence.{Placed, part_of}
use Rattle.journal_defs.specs.Surviving.{reigns}
use Rattle.mupip_recover.specs.Cuts.{AreCuts}
use Rattle.mupip_recover.specs.Stamps.{AreStarts}
use Rattle.mupip_recover.specs.declared.cuts.Cuts.{Cuts}
use Rattle.entry_index.specs.Cursors.{IsDone, AreReady, AreOnWay, AreTold, AllReadOnFor, AllReadOutBy, AllSettle, HaveAdded, AreAdded, FromStart}
use Rattle.entry_index.specs.Found.{HaveFound}
use Rattle.entry_index.specs.Indexes.{IsNext}
use Rattle.entry_index.specs.Table.{AddsRow, AreSigned}
use Rattle.entry_index.specs.declared.cursor.Cursor.{Cursor}
use Rattle.entry_index.specs.declared.index.EntryIndex.{EntryIndex}
use Rattle.entry_index.specs.declared.place.PartPlace.{PartPlace}
use Rattle.entry_index.specs.declared.signed_part.PartSign.{PartSign}
use Rattle.entry_index.proofs.Built.{this_signed, this_past, added_more, added_end, have_found}
use Rattle.entry_index.proofs.SideBySide.{row_of, some_in}

-- what a row tells of the entry of a number, whatever its parts
abbrev pub NextBy : List (Option PartSign) → (regions number : ℕ) → List ℕ → Bool → (old new : List PartPlace) → Files → Type 0
NextBy row regions number starts more old new files =
    (part : ℕ → Option Part) → AreSigned files row number part → ((r : ℕ) → regions ≤ r → part r ≡ None) → (rs : List Reign) → AreStarts rs starts → IsNext files rs number part more old new

module _ (cuts : Cuts) (starts : List ℕ) (lowest : ℕ) (first cs mid : List Cursor) (n : ℕ) (index made : EntryIndex) (row : List (Option PartSign)) (content : Option Files) (last : ℕ) (ready : AreReady content last mid) (many : length mid ≡ index.regions)
    (same : made.regions ≡ index.regions) (row_is : row ≡ row_of (n + 1) mid) where
  -- one entry more
  pub told_more : (o : Option Files) (new : List Cursor) → AddsRow row index.regions true index.places.items made.places.items → ((files : Files) → AllSettle files n mid new)
      → IfSome o (FromStart cuts starts lowest first (λ files instance. HaveAdded files instance lowest n cs index)) → IfSome o (AllReadOnFor cuts lowest n cs mid) → IfSome o (NextBy row index.regions (n + 1) starts true index.places.items made.places.items)
      → IfSome o (FromStart cuts starts lowest first (λ files instance. HaveAdded files instance lowest (n + 1) new made))
  told_more None new adds settles so_far on next = tt
  told_more (Some files) new adds settles so_far on next = λ instance are_cuts are_starts journal way told.
      let have = so_far instance are_cuts are_starts journal way told in
      let reads = on instance are_cuts have.journal have.on_way have.told in
      let signed = subst (λ (l : List (Option PartSign)). AreSigned files l (n + 1) (λ r. part_of instance (n + 1) (reads.now r))) (sym row_is) (this_signed files instance lowest n cs mid index content last ready have reads) in
      added_more files instance lowest n cs mid index content last ready have reads new made many same (subst (λ (l : List (Option PartSign)). AddsRow l index.regions true index.places.items made.places.items) row_is adds)
      (next (λ r. part_of instance (n + 1) (reads.now r)) signed (λ r past. this_past files instance lowest n cs mid index content last ready have reads r (omega (arith, past, many))) (reigns instance) are_starts) (settles files)

  -- no entry more
  pub told_end : (o : Option Files) → IfSome o (FromStart cuts starts lowest first (λ files instance. HaveAdded files instance lowest n cs index)) → IfSome o (AllReadOnFor cuts lowest n cs mid)
      → IfSome o (NextBy row index.regions (n + 1) starts false index.places.items made.places.items) → IfSome o (FromStart cuts starts lowest first (λ files instance. AreAdded files instance lowest n mid made))
  told_end None so_far on next = tt
  told_end (Some files) so_far on next = λ instance are_cuts are_starts journal way told.
      let have = so_far instance are_cuts are_starts journal way told in
      let reads = on instance are_cuts have.journal have.on_way have.told in
      let signed = subst (λ (l : List (Option PartSign)). AreSigned files l (n + 1) (λ r. part_of instance (n + 1) (reads.now r))) (sym row_is) (this_signed files instance lowest n cs mid index content last ready have reads) in
      added_end files instance lowest n cs mid index content last ready have reads made same
      (next (λ r. part_of instance (n + 1) (reads.now r)) signed (λ r past. this_past files instance lowest n cs mid index content last ready have reads r (omega (arith, past, many))) (reigns instance) are_starts)

-- what is found, once all is read
pub told_found : (o : Option Files) (cuts : Cuts) (starts : List ℕ) (lowest : ℕ) (first mid cs : List Cursor) (index : EntryIndex) (instance : List InstanceRecord) (regions n last : ℕ) (content : Option Files) → AreCuts instance cuts → AreStarts (reigns instance) starts
    → length cs ≡ regions → AreReady content last cs → ((r : ℕ) (d : Cursor) → r < length cs → IsDone (get_or cs r d)) → ((files : Files) → AreTold files instance 0 first (λ r. [])) → IfSome o (λ files. (instance : List InstanceRecord) (lowest : ℕ) → AreOnWay files instance lowest 0 first (λ r. []))
    → IfSome o (FromStart cuts starts lowest first (λ files instance. AreAdded files instance lowest n mid index)) → IfSome o (AllReadOutBy cuts (n + 1) mid cs)
    → IfSome o (λ files. (journal : ℕ → List Placed) × HaveFound files instance lowest regions last (map (λ c. c.kept.signs.items) cs) (map (λ c. c.reader.began) cs) index journal)
told_found None cuts starts lowest first mid cs index instance regions n last content are_cuts are_starts many ready done told begun added out = tt
told_found (Some files) cuts starts lowest first mid cs index instance regions n last content are_cuts are_starts many ready done told begun added out =
    let have = added instance are_cuts are_starts (λ r. []) (begun instance lowest) (told files) in
    have_found files instance lowest regions n last mid cs index content many ready done have (out instance are_cuts lowest n (omega arith) (omega arith) have.journal have.on_way)

-- no generation past the last began
pub began_least : (content : Option Files) (last : ℕ) (cs : List Cursor) → AreReady content last cs → (r : ℕ) → get_or (map (λ c. c.reader.began) cs) r 0 ≤ last
began_least content last cs ready r = elim (cases_lt r (length cs)) [
  | inl low ↦
      let d = some_in cs r low in
      let is = ready r d low in
      let at : get_or (map (λ (c : Cursor). c.reader.began) cs) r 0 ≡ (get_or cs r d).reader.began = get_or-map (λ (c : Cursor). c.reader.began) cs r d 0 low in
      omega (arith, at, is.sound.began, is.last_is)
  | inr past ↦
      let at : get_or (map (λ (c : Cursor). c.reader.began) cs) r 0 ≡ 0 = get_or_past (map (λ (c : Cursor). c.reader.began) cs) r 0 (omega (arith, past, length-map cs (λ (c : Cursor). c.reader.began))) in
      omega (arith, at)
]

-- what holds of something that is there
pub at_some : {X : Type 0} (o : Option X) (x : X) (P : X → Type 0) → o ≡ Some x → IfSome o P → P x
at_some {X} o x P is holds = subst (λ (z : Option X). IfSome z P) is holds

-- the starts of the surviving reigns
pub starts_are : (instance : List InstanceRecord) (history given : List Reign) (starts made : List ℕ) → history ≡ reigns instance → given ≡ history → starts ≡ made → AreStarts given made → AreStarts (reigns instance) starts
starts_are instance history given starts made ruled same read are = subst (λ (l : List ℕ). AreStarts (reigns instance) l) (sym read) (subst (λ (l : List Reign). AreStarts l made) (same ∙ ruled) are)
