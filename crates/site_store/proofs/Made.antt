-- A site that is made on a blank disk.
use Rattle.std.proofs.Common.{◌≡◌, ◌≢◌, ◌⊎◌, inl, inr, ℕ, List, [], ◌∷◌, map, Option, Some, None, IfSome, IsSomeAnd, refl, sym, ◌∙◌, ap, subst}
use Rattle.std.specs.List.{AllZip}
use Rattle.disk_defs.specs.Disk.{Files, View, Image, IsLawful, OnFile, AtEachMoment, ReadsAfter, IsDurable}
use Rattle.disk_defs.specs.Frames.{Only, SameOutside, OthersStay}
use Rattle.disk_defs.specs.Gates.{Body, records}
use Rattle.disk_defs.proofs.Told.{with_told, weaker_told}
use Rattle.disk_defs.proofs.Moments.{weaker, then_more, holds_now}
use Rattle.journal_defs.specs.Numbers.{INSTANCE}
use Rattle.journal_defs.specs.Instance as records
use Rattle.journal_defs.specs.Instance.{InstanceRecord, IsInstanceBody}
use Rattle.journal_defs.specs.Stands.{IsInstance}
use Rattle.journal_laws.proofs.NewDisks.{created_is_fit}
use Rattle.instance_file.specs.Instance.{HoldsRecords, HasRecords, StandsWith, MayCreate}
use Rattle.instance_file.specs.declared.instance.Instance.{Instance}
use Rattle.site_defs.specs.Stands.{IsBlank, IsSite}
use Rattle.site_store.specs.declared.layout.RegionSpec.{RegionSpec}
use Rattle.site_store.specs.Opening.{region_value, made, MayMake}
use Rattle.site_store.proofs.Found.{no_bodies}

-- the first record
abbrev pub first : List ℕ → List RegionSpec → InstanceRecord
first name regions = records.Create name (map region_value regions)

-- a list of bodies of one record
pub record OneBody (bodies : List Body) (r : InstanceRecord) : Type 0 where
  pub body : Body
  pub is : bodies ≡ body ∷ []
  pub spelled : IsInstanceBody body r

pub one_body : (bodies : List Body) (r : InstanceRecord) → AllZip IsInstanceBody bodies (r ∷ []) → OneBody bodies r
one_body [] r zip = absurd zip
one_body (b ∷ []) r zip = record { body = b; is = refl; spelled = zip.0 }
one_body (b ∷ d ∷ bodies) r zip = absurd zip.1

pub made_site : (files : Files) (name : List ℕ) (regions : List RegionSpec) → IsInstance (files INSTANCE) (first name regions ∷ []) → ((f : ℕ) → f ≢ INSTANCE → files f ≡ []) → IsSite files (made name regions)
made_site files name regions is others =
    let b = one_body is.bodies.0 (first name regions) is.bodies.2 in
    record {
      made = refl;
      mapped = tt;
      records = record { instance = first name regions ∷ []; journal = λ r. [] };
      instance = refl;
      starts = λ r. refl;
      epochs = λ r. refl;
      texts = refl;
      losts = refl;
      image = (created_is_fit files name (map region_value regions) b.body b.spelled (is.bodies.1 ∙ ap Some b.is) others).image;
    }

-- one file of a blank disk changes
blank_still : (was now : Files) → ((f : ℕ) → f ≢ INSTANCE → now f ≡ was f) → IsBlank was → records (now INSTANCE) ≡ Some [] → IsBlank now
blank_still was now same blank none = record { instance = none; others = λ f ne. same f ne ∙ blank.others f ne }

pub made_or_blank : (was now : Files) (name : List ℕ) (regions : List RegionSpec) → ((f : ℕ) → f ≢ INSTANCE → now f ≡ was f) → IsBlank was
    → (records (now INSTANCE) ≡ records (was INSTANCE)) ⊎ StandsWith [] (first name regions) (now INSTANCE) → IsBlank now ⊎ IsSite now (made name regions)
made_or_blank was now name regions same blank (inl kept) = inl (blank_still was now same blank (kept ∙ blank.instance))
made_or_blank was now name regions same blank (inr (inl none)) = inl (blank_still was now same blank (no_bodies (now INSTANCE) none))
made_or_blank was now name regions same blank (inr (inr is)) = inr (made_site now name regions is (λ f ne. same f ne ∙ blank.others f ne))

-- nothing was written yet
pub still_blank : (u v : View) (name : List ℕ) (regions : List RegionSpec) → AtEachMoment u v (Image u) → AtEachMoment u v (MayMake u name regions)
still_blank u v name regions run = weaker u v (Image u) (MayMake u name regions) (λ c image. (c, image, λ blank. inl blank)) run

pub still_stands : (o n : Option Files) (name : List ℕ) (regions : List RegionSpec) → n ≡ o → IfSome o (λ files. IsBlank files → IfSome n (λ now. IsBlank now ⊎ IsSite now (made name regions)))
still_stands o n name regions same = subst (λ (x : Option Files). IfSome o (λ files. IsBlank files → IfSome x (λ now. IsBlank now ⊎ IsSite now (made name regions)))) (sym same) (itself o)
  where
    itself : (o : Option Files) → IfSome o (λ files. IsBlank files → IfSome o (λ now. IsBlank now ⊎ IsSite now (made name regions)))
    itself None = tt
    itself (Some a) = λ blank. inl blank

-- the file is synced, and then it's made
module _ (u v w : View) (name : List ℕ) (regions : List RegionSpec) (lawful_v : IsLawful v) (lawful_w : IsLawful w) (synced : AtEachMoment u v (Image u)) (same : v.content ≡ u.content) where
  abbrev rs : List InstanceRecord
  rs = first name regions ∷ []

  earlier : (f : Files) → Image v f → Image u f
  earlier f image = holds_now u v (Image u) lawful_v synced f image

  pub may_make : IfSome v.content (λ _. AtEachMoment v w (MayCreate v (first name regions))) → IfSome u.content (λ _. AtEachMoment u w (MayMake u name regions))
  may_make run = subst (λ (x : Option Files). IfSome x (λ _. AtEachMoment u w (MayMake u name regions))) same
      (weaker_told v.content (λ _. AtEachMoment v w (MayCreate v (first name regions))) (λ _. AtEachMoment u w (MayMake u name regions)) run
      (λ files r. then_more u v w (MayMake u name regions) (MayCreate v (first name regions)) (still_blank u v name regions synced) r
      (λ c may. (may.0, earlier may.0 may.1, λ blank. made_or_blank may.0 c name regions may.2.others blank may.2.here))))

  pub reads_made : (i : Instance) → OthersStay (Only INSTANCE) v w → IfSome v.content (λ _. HasRecords w i rs) → IfSome u.content (λ files. IsBlank files → IfSome w.content (λ now. IsSite now (made name regions)))
  reads_made i stays has = subst (λ (x : Option Files). IfSome x (λ files. IsBlank files → IfSome w.content (λ now. IsSite now (made name regions)))) same (among v.content w.content stays.content has)
    where
      among : (o n : Option Files) → ReadsAfter (SameOutside (Only INSTANCE)) o n → IfSome o (λ _. IsSomeAnd n (HoldsRecords w i rs)) → IfSome o (λ files. IsBlank files → IfSome n (λ now. IsSite now (made name regions)))
      among None n after has = tt
      among (Some a) None after has = absurd after
      among (Some a) (Some b) after has = λ blank. made_site b name regions has.reads (λ f ne. after f ne ∙ blank.others f ne)

  pub images_made : (i : Instance) → OthersStay (Only INSTANCE) v w → IfSome v.content (λ _. HasRecords w i rs)
      → IfSome u.content (λ files. IsBlank files → ((f : Files) → Image u f → IsBlank f) → (f : Files) → Image w f → IsSite f (made name regions))
  images_made i stays has = subst (λ (x : Option Files). IfSome x (λ files. IsBlank files → ((f : Files) → Image u f → IsBlank f) → (f : Files) → Image w f → IsSite f (made name regions))) same
      (weaker_told v.content (λ _. HasRecords w i rs) (λ files. IsBlank files → ((f : Files) → Image u f → IsBlank f) → (f : Files) → Image w f → IsSite f (made name regions)) has
      (λ files h blank images f image. let from = stays.images f image in with_told w.content (HoldsRecords w i rs) (IsSite f (made name regions)) h
      (λ now k. made_site f name regions (k.stands f image) (λ g ne. from.2 g ne ∙ (images from.0 (earlier from.0 from.1)).others g ne))))

  pub stands_made : OthersStay (Only INSTANCE) v w → IfSome u.content (λ files. IsDurable v INSTANCE (files INSTANCE)) → IfSome v.content (λ _. AtEachMoment v w (MayCreate v (first name regions)))
      → IfSome u.content (λ files. IsBlank files → IfSome w.content (λ now. IsBlank now ⊎ IsSite now (made name regions)))
  stands_made stays durable run = subst (λ (x : Option Files). IfSome x (λ files. IsBlank files → IfSome w.content (λ now. IsBlank now ⊎ IsSite now (made name regions)))) same
      (among v.content w.content stays.content (subst (λ (x : Option Files). IfSome x (λ files. IsDurable v INSTANCE (files INSTANCE))) (sym same) durable) run lawful_w.as_read)
    where
      by_image : (a b d : Files) → SameOutside (Only INSTANCE) a b → d INSTANCE ≡ a INSTANCE → OnFile INSTANCE (λ was now. (records now ≡ records was) ⊎ StandsWith [] (first name regions) now) d b → IsBlank a → IsBlank b ⊎ IsSite b (made name regions)
      by_image a b d others durable on blank = made_or_blank a b name regions others blank (elim on.here [
        | inl kept ↦ inl (kept ∙ ap records durable)
        | inr stands ↦ inr stands
      ])

      among : (o n : Option Files) → ReadsAfter (SameOutside (Only INSTANCE)) o n → IfSome o (λ files. IsDurable v INSTANCE (files INSTANCE)) → IfSome o (λ _. AtEachMoment v w (MayCreate v (first name regions)))
          → IfSome n (λ now. Image w now) → IfSome o (λ files. IsBlank files → IfSome n (λ now. IsBlank now ⊎ IsSite now (made name regions)))
      among None n after durable run read = tt
      among (Some a) None after durable run read = absurd after
      among (Some a) (Some b) after durable run read = λ blank.
          let may = holds_now v w (MayCreate v (first name regions)) lawful_w run b read in
          by_image a b may.0 after (durable may.0 may.1) may.2 blank
