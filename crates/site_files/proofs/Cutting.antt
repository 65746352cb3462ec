-- The CUT is appended, as files have it.
use Rattle.std.proofs.Common.{◌≡◌, inl, ℕ, List, IfSome, sym, ◌∙◌, subst}
use Rattle.disk_defs.specs.Disk.{Files, View, Image, IsLawful, AtEachMoment, IsDurable}
use Rattle.disk_defs.specs.Frames.{Only, OnlyOn}
use Rattle.disk_defs.specs.Gates.{records}
use Rattle.disk_defs.proofs.Told.{both_weak}
use Rattle.disk_defs.proofs.Moments.{weaker, only_then}
use Rattle.gated_file.specs.Begin.{KeepsRecords}
use Rattle.journal_defs.specs.Numbers.{INSTANCE}
use Rattle.journal_defs.specs.Instance.{InstanceRecord}
use Rattle.journal_defs.specs.Stands.{IsInstance}
use Rattle.instance_file.specs.Instance.{HasRecords, StandsWith}
use Rattle.instance_file.specs.declared.instance.Instance.{Instance}

same_instance : (old new : List ℕ) (rs : List InstanceRecord) → records new ≡ records old → IsInstance old rs → IsInstance new rs
same_instance old new rs same is = record { bodies = (is.bodies.0, same ∙ is.bodies.1, is.bodies.2); create = is.create; cuts = is.cuts; reigns = is.reigns }

module _ (u v : View) (rs : List InstanceRecord) (x : InstanceRecord) (stands : IfSome u.content (λ files. IsInstance (files INSTANCE) rs)) (durable : IfSome u.content (λ files. IsDurable u INSTANCE (files INSTANCE)))
    (run : IfSome u.content (λ _. AtEachMoment u v (KeepsRecords u INSTANCE))) where
  -- each image from before has the records
  each_image : IfSome u.content (λ _. (d : Files) → Image u d → IsInstance (d INSTANCE) rs)
  each_image = both_weak u.content (λ files. IsInstance (files INSTANCE) rs) (λ files. IsDurable u INSTANCE (files INSTANCE)) (λ _. (d : Files) → Image u d → IsInstance (d INSTANCE) rs) stands durable
      (λ files is kept d image. subst (λ (b : List ℕ). IsInstance b rs) (sym (kept d image)) is)

  -- the file is opened for calls
  pub keep_stands : IfSome u.content (λ _. AtEachMoment u v (OnlyOn u INSTANCE (StandsWith rs x)))
  keep_stands = both_weak u.content (λ _. (d : Files) → Image u d → IsInstance (d INSTANCE) rs) (λ _. AtEachMoment u v (KeepsRecords u INSTANCE)) (λ _. AtEachMoment u v (OnlyOn u INSTANCE (StandsWith rs x))) each_image run
      (λ files each m. weaker u v (KeepsRecords u INSTANCE) (OnlyOn u INSTANCE (StandsWith rs x))
      (λ c k. record { here = inl (same_instance (k.0 INSTANCE) (c INSTANCE) rs k.2.here (each k.0 k.1)); others = (k.0, k.1, λ f out. k.2.others f out) }) m)

  -- and the CUT is appended
  pub cut_stands : (w : View) (i : Instance) → IsLawful v → IfSome u.content (λ _. HasRecords v i rs) → ((qs : List InstanceRecord) → HasRecords v i qs → AtEachMoment v w (OnlyOn v INSTANCE (StandsWith qs x)))
      → IfSome u.content (λ _. AtEachMoment u w (OnlyOn u INSTANCE (StandsWith rs x)))
  cut_stands w i lawful has call = both_weak u.content (λ _. AtEachMoment u v (OnlyOn u INSTANCE (StandsWith rs x))) (λ _. HasRecords v i rs) (λ _. AtEachMoment u w (OnlyOn u INSTANCE (StandsWith rs x))) keep_stands has
      (λ files m h. only_then u v w (Only INSTANCE) (Only INSTANCE) (λ c. StandsWith rs x (c INSTANCE)) (λ c. StandsWith rs x (c INSTANCE)) lawful (λ f here. here) m (call rs h) (λ d c was p stays q. q))
