-- The generation of what stays begins.
use Rattle.std.proofs.Common.{◌≡◌, ℕ, List, [], ◌∷◌, ◌++◌, length, map, take, Some, IfSome, true, sym, ◌∙◌, ap, subst}
use Rattle.std.specs.Prelude.{slice_get}
use Rattle.std.proofs.lemmas.List.{length-take-le}
use Rattle.disk_defs.specs.Disk.{Files, View, Image, IsLawful, From}
use Rattle.disk_defs.proofs.Told.{both_weak}
use Rattle.entry_index.specs.Among.{IsIndexOf}
use Rattle.entry_index.specs.Found.{entry_count}
use Rattle.entry_index.specs.declared.index.EntryIndex.{EntryIndex}
use Rattle.instance_file.specs.Instance as instances
use Rattle.jnl_file.specs.Journal as journals
use Rattle.jnl_file.specs.Records.{settled}
use Rattle.jnl_file.specs.declared.journal.Journal.{Journal}
use Rattle.journal_defs.specs.Instance.{InstanceRecord, regions}
use Rattle.journal_defs.specs.Surviving.{reigns}
use Rattle.site_defs.specs.Contents.{Contents}
use Rattle.site_defs.specs.Opening.{with_starts}
use Rattle.site_defs.specs.Rolling.{cut_to}
use Rattle.site_files.specs.Loading.{MayBeOpened, HasDrawn, last_of, next_cut, next_pini}
use Rattle.region_store.specs.Joined.{Joined, joined}
use Rattle.site_store.specs.declared.memory.Memory.{Memory}
use Rattle.site_store.specs.Site.{IsOpen, AreOnBlocks}
use Rattle.site_store.proofs.OpenedTo.{newly}
use Rattle.site_store.proofs.Rolled.{open_cut}
use Rattle.mupip_rollback.specs.Cutting.{IsCutOff}
use Rattle.mupip_rollback.specs.declared.preparing.Kept.{Kept}

module _ (v w : View) (rs : List InstanceRecord) (kept : Kept) (form : MayBeOpened rs (last_of kept.last_began.items)) (lawful : IsLawful w)
    (n : ℕ) (lasts : List ℕ) (n_is : n ≡ entry_count kept.entries) (lasts_is : lasts ≡ kept.last_began.items)
    (s : Memory) (entries : s.entries ≡ kept.entries) (globals : s.globals ≡ kept.globals) (hardened : s.hardened ≡ n) (begun : List Journal) (js_are : s.journals.journals.items ≡ map newly begun) where
  abbrev T : ℕ
  T = entry_count kept.entries

  abbrev L : List ℕ
  L = kept.last_began.items

  abbrev many : ℕ
  many = length (regions rs)

  abbrev Finishing : ℕ → List ℕ → Type 0
  Finishing m l = IfSome v.content (λ _. (f : Files) → Image w f → From (Image v) (HasDrawn rs m [] (last_of l) many) f)

  abbrev Filed : ℕ → Type 0
  Filed m = IfSome v.content (λ _. instances.HasRecords w s.instance (rs ++ next_cut rs m ∷ []))

  abbrev Begins : List ℕ → Type 0
  Begins l = IfSome v.content (λ _. (r : ℕ) (j : Journal) → slice_get begun r ≡ Some j → journals.HasRecords w j (settled (next_pini rs (last_of l) r ∷ [])))

  abbrev Both : Type 0
  Both = instances.HasRecords w s.instance (rs ++ next_cut rs T ∷ []) × ((r : ℕ) (j : Journal) → slice_get begun r ≡ Some j → journals.HasRecords w j (settled (next_pini rs (last_of L) r ∷ [])))

  pub opens : s.instance.records ≡ rs ++ next_cut rs n ∷ [] → Finishing n lasts → Filed n → Begins lasts → IfSome v.content (λ _. (c : Contents) → IsCutOff v rs c kept → IsOpen w true (with_starts many (cut_to T c)) T s)
  opens records drawn filed begins =
      let drawn_so : Finishing T L = subst (λ (m : ℕ). Finishing m L) n_is (subst (λ (l : List ℕ). Finishing n l) lasts_is drawn) in
      let filed_so : Filed T = subst Filed n_is filed in
      let begins_so : Begins L = subst Begins lasts_is begins in
      let records_so : s.instance.records ≡ rs ++ next_cut rs T ∷ [] = subst (λ (m : ℕ). s.instance.records ≡ rs ++ next_cut rs m ∷ []) n_is records in
      both_weak v.content (λ _. (f : Files) → Image w f → From (Image v) (HasDrawn rs T [] (last_of L) many) f) (λ _. Both) (λ _. (c : Contents) → IsCutOff v rs c kept → IsOpen w true (with_starts many (cut_to T c)) T s) drawn_so
      (both_weak v.content (λ _. instances.HasRecords w s.instance (rs ++ next_cut rs T ∷ [])) (λ _. (r : ℕ) (j : Journal) → slice_get begun r ≡ Some j → journals.HasRecords w j (settled (next_pini rs (last_of L) r ∷ []))) (λ _. Both) filed_so begins_so (λ files a b. (a, b)))
      (λ files d both c cut.
      open_cut rs (last_of L) cut.journal cut.seq form cut.sequence cut.none T cut.most v w lawful cut.reads c cut.stands s records_so
      (ap entry_count entries ∙ sym (length-take-le T cut.seq cut.most)) (subst (λ (i : EntryIndex). IsIndexOf cut.journal (reigns rs) i (take T cut.seq)) (sym entries) cut.indexed) cut.stand (hardened ∙ n_is) begun js_are cut.synced
      (λ f image. subst (λ (j : Joined). AreOnBlocks f (record { instance = rs; journal = cut.journal }) T j) (sym globals) (cut.on f image))
      (ap (λ j. joined j) globals ∙ cut.globals) d both.0 both.1)
