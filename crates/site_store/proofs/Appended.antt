-- An instance file that takes a record.
use Rattle.std.proofs.Common.{List, [], ◌∷◌, ◌++◌, Option, Some, None, IfSome, IsSomeAnd}
use Rattle.disk_defs.specs.Disk.{Files, View, Image}
use Rattle.disk_defs.proofs.Told.{with_told, weaker_told}
use Rattle.instance_file.specs.Instance.{HoldsRecords, HasRecords}
use Rattle.instance_file.specs.declared.instance.Instance.{Instance}
use Rattle.journal_defs.specs.Numbers.{INSTANCE}
use Rattle.journal_defs.specs.Instance.{InstanceRecord}
use Rattle.journal_defs.specs.Stands.{IsInstance}

-- the instance file that is open, with one more record behind its own
abbrev pub AppendsTo : View → View → Instance → Instance → InstanceRecord → Type 0
AppendsTo v w i j m = (qs : List InstanceRecord) → HasRecords v i qs → HasRecords w j (qs ++ m ∷ [])

pub has_reads : (u v w : View) (i j : Instance) (rs : List InstanceRecord) (x : InstanceRecord) → IfSome u.content (λ _. HasRecords v i rs) → AppendsTo v w i j x
    → IfSome u.content (λ _. IfSome w.content (λ now. IsInstance (now INSTANCE) (rs ++ x ∷ [])))
has_reads u v w i j rs x has call = weaker_told u.content (λ _. HasRecords v i rs) (λ _. IfSome w.content (λ now. IsInstance (now INSTANCE) (rs ++ x ∷ []))) has (λ files h. reading w.content (call rs h))
  where
    reading : (o : Option Files) → IsSomeAnd o (HoldsRecords w j (rs ++ x ∷ [])) → IfSome o (λ now. IsInstance (now INSTANCE) (rs ++ x ∷ []))
    reading None h = tt
    reading (Some now) h = h.reads

pub has_images : (u v w : View) (i j : Instance) (rs : List InstanceRecord) (x : InstanceRecord) → IfSome u.content (λ _. HasRecords v i rs) → AppendsTo v w i j x
    → IfSome u.content (λ _. (f : Files) → Image w f → IsInstance (f INSTANCE) (rs ++ x ∷ []))
has_images u v w i j rs x has call = weaker_told u.content (λ _. HasRecords v i rs) (λ _. (f : Files) → Image w f → IsInstance (f INSTANCE) (rs ++ x ∷ [])) has
    (λ files h f image. with_told w.content (HoldsRecords w j (rs ++ x ∷ [])) (IsInstance (f INSTANCE) (rs ++ x ∷ [])) (call rs h) (λ now k. k.stands f image))
