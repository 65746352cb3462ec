-- Lists of bodies beside lists of records.
use Rattle.std.proofs.Common.{◌≡◌, List, [], ◌∷◌, ◌++◌, refl, ap}
use Rattle.std.specs.List.{AllZip}
use Rattle.disk_defs.specs.Gates.{Body}
use Rattle.journal_defs.specs.Instance.{InstanceRecord, IsInstanceBody}
use Rattle.journal_laws.proofs.Readings.{instance_body}

abbrev pub AreBodiesOf : List Body → List InstanceRecord → Type 0
AreBodiesOf bodies rs = AllZip IsInstanceBody bodies rs

-- bodies are those of one list of records
pub one_list : (bodies : List Body) (rs qs : List InstanceRecord) → AreBodiesOf bodies rs → AreBodiesOf bodies qs → rs ≡ qs
one_list [] [] [] zip other = refl
one_list [] (r ∷ rs) qs zip other = absurd zip
one_list [] [] (q ∷ qs) zip other = absurd other
one_list (b ∷ bs) [] qs zip other = absurd zip
one_list (b ∷ bs) (r ∷ rs) [] zip other = absurd other
one_list (b ∷ bs) (r ∷ rs) (q ∷ qs) zip other =
    let first = instance_body b r q zip.0 other.0 in
    let rest = one_list bs rs qs zip.1 other.1 in
    (λ i. first i ∷ rest i)

-- what stands beside two lists, and beside the body between them
pub record Split (before after : List Body) (body : Body) (rs : List InstanceRecord) : Type 0 where
  pub left : List InstanceRecord
  pub here : InstanceRecord
  pub right : List InstanceRecord
  pub is : rs ≡ left ++ here ∷ right
  pub left_zip : AreBodiesOf before left
  pub here_is : IsInstanceBody body here

pub split : (before after : List Body) (body : Body) (rs : List InstanceRecord) → AreBodiesOf (before ++ body ∷ after) rs → Split before after body rs
split [] after body [] zip = absurd zip
split [] after body (r ∷ rs) zip = record { left = []; here = r; right = rs; is = refl; left_zip = tt; here_is = zip.0 }
split (b ∷ before) after body [] zip = absurd zip
split (b ∷ before) after body (r ∷ rs) zip =
    let rest = split before after body rs zip.1 in
    record { left = r ∷ rest.left; here = rest.here; right = rest.right; is = ap (λ (l : List InstanceRecord). r ∷ l) rest.is; left_zip = (zip.0, rest.left_zip); here_is = rest.here_is }
