-- All images of a site that was read stand for the same.
use Rattle.std.proofs.Common.{◌≡◌, inl, inr, ℕ, List, [], length, sym, ap, subst, arith}
use Rattle.disk_defs.specs.Disk.{Files, View, Image}
use Rattle.global_defs.specs.Entry.{Sequence}
use Rattle.journal_defs.specs.Fit.{IsSoundImage}
use Rattle.journal_defs.specs.Instance.{InstanceRecord, generation}
use Rattle.journal_defs.specs.Sequence.{Placed, IsSequence}
use Rattle.site_defs.specs.Contents.{Contents}
use Rattle.site_defs.specs.Stands.{IsSite, Stands, texts_of, losts_of}
use Rattle.site_files.specs.Loading.{MayBeOpened, AreRead, WasRead}
use Rattle.site_files.proofs.Kept.{image_read}
use Rattle.site_store.specs.Opening.{AreTextsDurable}
use Rattle.site_store.proofs.Drawn.{S, C, site_read, site_sound, texts_kept, losts_kept}
use Rattle.site_store.proofs.Found.{blank_instance}
use Rattle.site_files.proofs.WhatIsRead.{instance_one}

module _ (v : View) (rs : List InstanceRecord) (last : ℕ → ℕ) (journal : ℕ → List Placed) (seq : Sequence) (form : MayBeOpened rs last) (sequence : IsSequence (record { instance = rs; journal = journal }) seq)
    (files : Files) (r : WasRead v rs last journal files) where
  -- each image is sound when it stands for something
  pub image_sound : (d : Files) → Image v d → (o : Contents) → Stands d o → IsSoundImage d (S rs last journal seq form sequence) seq
  image_sound d image o stands = by_standing (image_read v rs last journal files r d image) stands
    where
      by_standing : AreRead rs last journal d → Stands d o → IsSoundImage d (S rs last journal seq form sequence) seq
      by_standing rd (inl blank) = absurd (let none : rs ≡ [] = instance_one (d 0) rs [] rd.instance (blank_instance (d 0) blank.1.instance) in let size : length rs ≡ 0 = ap length none in let some = form.some in omega (arith, size, some))
      by_standing rd (inr site) = (site_read rs last journal seq form sequence d o rd site).0

  -- and what they stand for is one
  pub image_alike : AreTextsDurable v (generation rs) files → (d : Files) → Image v d → C rs last journal seq form sequence d ≡ C rs last journal seq form sequence files
  image_alike durable d image =
      let texts : texts_of d (generation rs) ≡ texts_of files (generation rs) = sym (texts_kept files d (generation rs) (λ h one low. (durable h one low).0 d image)) in
      let losts : losts_of d (generation rs) ≡ losts_of files (generation rs) = sym (losts_kept files d (generation rs) (λ h one low. (durable h one low).1 d image)) in
      λ i. record { instance = rs; starts = (C rs last journal seq form sequence files).starts; epochs = (C rs last journal seq form sequence files).epochs; texts = texts i; losts = losts i; sequence = seq }

  pub image_site : AreTextsDurable v (generation rs) files → (d : Files) → Image v d → (o : Contents) → Stands d o → IsSite d (C rs last journal seq form sequence files)
  image_site durable d image o stands = subst (IsSite d) (image_alike durable d image) (site_sound rs last journal seq form sequence d (image_sound d image o stands))
