-- Where the files that were read lie outside a site's format.
use Rattle.std.proofs.Common.{◌≡◌, inl, inr, ℕ, suc, List, length, Option, None, IfSome, Err, IsErrOf, refl, sym, subst}
use Rattle.disk_defs.specs.Disk.{Files}
use Rattle.disk_defs.proofs.Told.{weaker_told, both_weak}
use Rattle.site_defs.specs.OutsideInstance.{IsOutsideInstance}
use Rattle.instance_file.specs.declared.error.InstanceError.{InstanceError}
use Rattle.instance_file.specs.declared.error.InstanceError.TheVariants as instances
use Rattle.journal_defs.specs.Numbers.{INSTANCE}
use Rattle.journal_defs.specs.Instance.{InstanceRecord, generation, regions}
use Rattle.journal_defs.specs.Stands.{IsInstance}
use Rattle.site_files.specs.Errors.{instance_error}
use Rattle.site_files.specs.declared.error.FilesError.{FilesError}
use Rattle.site_files.specs.declared.error.FilesError.TheVariants as error
use Rattle.site_files.specs.Loading.{IsDirectory}
use Rattle.site_defs.specs.Outside.{IsNoInstance, AreOutside, HaveBegun, IsOutsideRecords, IsOutsideSite}

-- the error of the instance file, told as a site's
pub told_instance : {T : Type 0} (o : Option Files) (file offset fault : ℕ) (e : InstanceError) (x : FilesError) → x ≡ instance_error fault e
    → ((n : ℕ) → e ≡ instances.NotARecord n → IfSome o (λ files. IsOutsideInstance (files INSTANCE) n)) → IsErrOf {T = T} (Err x) (error.NotAFile file offset) → IfSome o (λ files. IsNoInstance files file offset)
told_instance o file offset fault instances.Failed x same out is = absurd (cc (same, is))
told_instance o file offset fault instances.NoMemory x same out is = absurd (cc (same, is))
told_instance o file offset fault (instances.NotARecord n) x same out is =
    let told : error.NotAFile file offset ≡ error.NotAFile 0 n = cc (same, is) in
    let first : file ≡ INSTANCE = cc told in
    let place : offset ≡ n = cc told in
    weaker_told o (λ files. IsOutsideInstance (files INSTANCE) n) (λ files. IsNoInstance files file offset) (out n refl)
    (λ files outside. (first, subst (λ (k : ℕ). IsOutsideInstance (files INSTANCE) k) (sym place) outside))

module _ (o : Option Files) (file offset : ℕ) where
  pub instance_place : IfSome o (λ files. IsNoInstance files file offset) → IfSome o (λ files. IsOutsideRecords files file offset)
  instance_place none = weaker_told o (λ files. IsNoInstance files file offset) (λ files. IsOutsideRecords files file offset) none (λ files out. inl out)

  pub site_place : IfSome o (λ files. IsOutsideRecords files file offset) → IfSome o (λ files. IsOutsideSite files file offset)
  site_place out = weaker_told o (λ files. IsOutsideRecords files file offset) (λ files. IsOutsideSite files file offset) out (λ files is. inl is)

  module _ (rs : List InstanceRecord) (reads : IfSome o (λ files. IsInstance (files INSTANCE) rs)) where
    pub directory_place : IsDirectory rs None → (file ≡ INSTANCE) × (offset ≡ 0) → IfSome o (λ files. IsOutsideRecords files file offset)
    directory_place none place = weaker_told o (λ files. IsInstance (files INSTANCE) rs) (λ files. IsOutsideRecords files file offset) reads (λ files is. inr (inl (rs, is, none, place.0, place.1)))

    pub journals_place : (n g : ℕ) → n ≡ length (regions rs) → g ≡ generation rs → IfSome o (λ files. AreOutside files n g file offset) → IfSome o (λ files. IsOutsideRecords files file offset)
    journals_place n g many newest out =
        both_weak o (λ files. IsInstance (files INSTANCE) rs) (λ files. AreOutside files n g file offset) (λ files. IsOutsideRecords files file offset) reads out
        (λ files is w. inr (inr (rs, is, subst (λ (k : ℕ). AreOutside files (length (regions rs)) k file offset) newest (subst (λ (k : ℕ). AreOutside files k g file offset) many w))))

    pub begun_place : (n g : ℕ) → n ≡ length (regions rs) → g ≡ suc (generation rs) → IfSome o (λ files. HaveBegun files n g file offset) → IfSome o (λ files. IsOutsideSite files file offset)
    begun_place n g many newest out =
        both_weak o (λ files. IsInstance (files INSTANCE) rs) (λ files. HaveBegun files n g file offset) (λ files. IsOutsideSite files file offset) reads out
        (λ files is w. inr (rs, is, subst (λ (k : ℕ). HaveBegun files (length (regions rs)) k file offset) newest (subst (λ (k : ℕ). HaveBegun files k g file offset) many w)))
