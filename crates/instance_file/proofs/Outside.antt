-- Files that are no instance files.
use Rattle.std.proofs.Common.{◌≡◌, ◌⊎◌, inl, inr, ℕ, ◌+◌, true, List, [], ◌∷◌, ◌++◌, length, Some, refl, sym, ◌∙◌, ap, subst, arith, append_assoc, length-append}
use Rattle.std.specs.Prelude.{slice_get}
use Rattle.std.specs.List.{list_all}
use Rattle.disk_defs.specs.Gates.{Body, records, spelled, framed}
use Rattle.disk_defs.proofs.Texts.{length-framed}
use Rattle.gated_file.specs.State.{places}
use Rattle.global_defs.specs.Entry.{Reign}
use Rattle.global_defs.specs.Rising.{StartsRise}
use Rattle.journal_defs.specs.Instance.{InstanceRecord, Reigned}
use Rattle.journal_defs.specs.Surviving.{reigns, spares_start}
use Rattle.journal_defs.specs.Stands.{IsInstance}
use Rattle.site_defs.specs.OutsideInstance.{AreOrdered, HasWrongRecord, HasWrongReign, left_by}
use Rattle.instance_file.specs.Walks.{IsListed, IsWrongReign}
use Rattle.instance_file.proofs.Histories.{reigns-append, rise_front}
use Rattle.instance_file.proofs.Orders.{ordered_front}
use Rattle.instance_file.proofs.Zips.{AreBodiesOf, one_list, split}

-- where the gate behind the first bodies stands
place_of : (at : ℕ) (bodies : List Body) (earlier : List InstanceRecord) (x : InstanceRecord) (later : List InstanceRecord) (before : List Body) → AreBodiesOf bodies (earlier ++ x ∷ later) → AreBodiesOf before earlier
    → slice_get (places at bodies) (length earlier) ≡ Some (at + length (spelled 1 before))
place_of at [] [] x later before zip front = absurd zip
place_of at (b ∷ bs) [] x later [] zip front = ap Some (omega arith)
place_of at (b ∷ bs) [] x later (c ∷ before) zip front = absurd front
place_of at [] (r ∷ rs) x later before zip front = absurd zip
place_of at (b ∷ bs) (r ∷ rs) x later [] zip front = absurd front
place_of at (b ∷ bs) (r ∷ rs) x later (c ∷ before) zip front =
    let same : length b ≡ length c = ap length (zip.0.spelled ∙ sym front.0.spelled) in
    place_of (at + 5 + length b) bs rs x later before zip.1 front.1
    ∙ ap Some (omega (arith, same, length-append (framed c) (spelled 1 before), length-framed c))

pub wrong_reign_of : (file : List ℕ) (rs : List InstanceRecord) (at : List ℕ) (offset : ℕ) → IsListed file rs at → IsWrongReign rs at offset → HasWrongReign file offset
wrong_reign_of file rs at offset l w =
    let are : AreBodiesOf l.bodies (w.earlier ++ Reigned w.reign ∷ w.later) = subst (λ (q : List InstanceRecord). AreBodiesOf l.bodies q) w.is l.spelled in
    record {
      bodies = l.bodies;
      list = l.list;
      earlier = w.earlier;
      reign = w.reign;
      later = w.later;
      spelled_all = are;
      ordered = subst AreOrdered w.is l.ordered;
      place = λ before front.
          let there : slice_get at (length w.earlier) ≡ Some (0 + length (spelled 1 before)) =
          ap (λ (p : List ℕ). slice_get p (length w.earlier)) l.places ∙ place_of 0 l.bodies w.earlier (Reigned w.reign) w.later before are front in
          one_some offset (length (spelled 1 before)) (sym w.place ∙ there);
      survives = w.survives;
      rising = w.rising;
      falls = w.falls;
    }
  where
    one_some : (a b : ℕ) → Some a ≡ Some (0 + b) → a ≡ b
    one_some a b is = let same : a ≡ 0 + b = cc is in omega (arith, same)

bodies_one : (file : List ℕ) (rs : List InstanceRecord) (bodies : List Body) → records file ≡ Some bodies → IsInstance file rs → AreBodiesOf bodies rs
bodies_one file rs bodies list is =
    let same : Some is.bodies.0 ≡ Some bodies = sym is.bodies.1 ∙ list in
    let one : is.bodies.0 ≡ bodies = cc same in
    subst (λ (l : List Body). AreBodiesOf l rs) one is.bodies.2

pub wrong_record_none : (file : List ℕ) (offset : ℕ) → HasWrongRecord file offset → (rs : List InstanceRecord) → IsInstance file rs → ⊥
wrong_record_none file offset wrong rs is =
    let s = split wrong.before wrong.after wrong.body rs (bodies_one file rs (wrong.before ++ wrong.body ∷ wrong.after) wrong.list is) in
    let first : s.left ≡ wrong.earlier = one_list wrong.before s.left wrong.earlier s.left_zip wrong.spelled_before in
    let whole : rs ≡ (s.left ++ s.here ∷ []) ++ s.right = s.is ∙ sym (append_assoc s.left (s.here ∷ []) s.right) in
    let ordered : AreOrdered rs = record { create = is.create; cuts = is.cuts } in
    wrong.wrong s.here s.here_is
    (subst (λ (l : List InstanceRecord). AreOrdered (l ++ s.here ∷ [])) first (ordered_front (s.left ++ s.here ∷ []) s.right (subst AreOrdered whole ordered)))

reigns_here : (r : Reign) (later : List InstanceRecord) → list_all (spares_start r.start) later ≡ true → reigns (Reigned r ∷ later) ≡ r ∷ reigns later
reigns_here r later stays = rw stays refl

pub wrong_reign_none : (file : List ℕ) (offset : ℕ) → HasWrongReign file offset → (rs : List InstanceRecord) → IsInstance file rs → ⊥
wrong_reign_none file offset wrong rs is =
    let x = Reigned wrong.reign in
    let front = left_by wrong.later (reigns wrong.earlier) in
    let same : rs ≡ wrong.earlier ++ x ∷ wrong.later = one_list wrong.bodies rs (wrong.earlier ++ x ∷ wrong.later) (bodies_one file rs wrong.bodies wrong.list is) wrong.spelled_all in
    let all : reigns rs ≡ (front ++ wrong.reign ∷ []) ++ reigns wrong.later =
    ap reigns same ∙ reigns-append wrong.earlier (x ∷ wrong.later) ∙ ap (λ (l : List Reign). front ++ l) (reigns_here wrong.reign wrong.later wrong.survives)
    ∙ sym (append_assoc front (wrong.reign ∷ []) (reigns wrong.later)) in
    wrong.falls (rise_front 0 (front ++ wrong.reign ∷ []) (reigns wrong.later) (subst (StartsRise 0) all is.reigns))

abbrev pub IsWrong : List ℕ → ℕ → Type 0
IsWrong file offset = HasWrongRecord file offset ⊎ HasWrongReign file offset

pub wrong_none : (file : List ℕ) (offset : ℕ) → IsWrong file offset → (rs : List InstanceRecord) → IsInstance file rs → ⊥
wrong_none file offset (inl w) rs is = wrong_record_none file offset w rs is
wrong_none file offset (inr w) rs is = wrong_reign_none file offset w rs is

-- a file that stands for the same records
pub wrong_as : (old new : List ℕ) (offset : ℕ) → records old ≡ records new → IsWrong new offset → IsWrong old offset
wrong_as old new offset same (inl w) = inl (record {
  before = w.before;
  body = w.body;
  after = w.after;
  list = same ∙ w.list;
  place = w.place;
  earlier = w.earlier;
  spelled_before = w.spelled_before;
  so_far = w.so_far;
  wrong = w.wrong;
})
wrong_as old new offset same (inr w) = inr (record {
  bodies = w.bodies;
  list = same ∙ w.list;
  earlier = w.earlier;
  reign = w.reign;
  later = w.later;
  spelled_all = w.spelled_all;
  ordered = w.ordered;
  place = w.place;
  survives = w.survives;
  rising = w.rising;
  falls = w.falls;
})

pub instance_as : (old new : List ℕ) (rs : List InstanceRecord) → records old ≡ records new → IsInstance new rs → IsInstance old rs
instance_as old new rs same is = record { bodies = (is.bodies.0, same ∙ is.bodies.1, is.bodies.2); create = is.create; cuts = is.cuts; reigns = is.reigns }
