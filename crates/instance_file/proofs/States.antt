-- An instance file's records go on with its bodies.
use Rattle.std.proofs.Common.{◌≡◌, inl, inr, ℕ, zero, suc, ◌≤◌, List, [], ◌∷◌, ◌++◌, take, Option, Some, None, IfSome, IsSomeAnd, refl, sym, ◌∙◌, ap, subst, arith, append-nil}
use Rattle.disk_defs.specs.Disk.{Files, View, Image, IsLawful, AtEachMoment, ReadsAfter}
use Rattle.disk_defs.specs.Frames.{Only, OnlyOn, SameOutside, OthersStay}
use Rattle.disk_defs.specs.Gates.{Body, records, Stands}
use Rattle.disk_defs.proofs.Moments.{weaker, only_then}
use Rattle.gated_file.specs.State.{State, settled}
use Rattle.gated_file.specs.Gated as gates
use Rattle.journal_defs.specs.Numbers.{INSTANCE}
use Rattle.journal_defs.specs.Instance.{InstanceRecord, IsInstanceBody}
use Rattle.journal_defs.specs.Stands.{IsInstance}
use Rattle.journal_laws.proofs.Appending.{zip_append}
use Rattle.instance_file.specs.Order.{AreInOrder}
use Rattle.instance_file.specs.Instance.{HoldsRecords, HasRecords, IsReady, StandsWith}
use Rattle.instance_file.specs.declared.instance.Instance.{Instance}
use Rattle.instance_file.proofs.Zips.{AreBodiesOf}
use Rattle.instance_file.proofs.Putting.{take_none}

-- bodies of records in their order are an instance file
pub instance_of : (file : List ℕ) (bodies : List Body) (rs : List InstanceRecord) → records file ≡ Some bodies → AreBodiesOf bodies rs → AreInOrder rs → IsInstance file rs
instance_of file bodies rs list are order = record {
  bodies = (bodies, list, are);
  create = order.ordered.create;
  cuts = order.ordered.cuts;
  reigns = order.reigns;
}

pub order_of : (file : List ℕ) (rs : List InstanceRecord) → IsInstance file rs → AreInOrder rs
order_of file rs is = record { ordered = record { create = is.create; cuts = is.cuts }; reigns = is.reigns }

settled_stands : (file : List ℕ) (bodies : List Body) (rs : List InstanceRecord) → Stands bodies [] file → AreBodiesOf bodies rs → AreInOrder rs → IsInstance file rs
settled_stands file bodies rs stands are order = instance_of file bodies rs (stands.2 ∙ ap Some (take_none bodies stands.0 ∙ append-nil bodies)) are order

-- the records that a file of bodies has
pub records_of : (w : View) (k : Instance) (rs : List InstanceRecord) (bodies : List Body) → k.records ≡ rs → k.gated.file ≡ INSTANCE → gates.HasState w k.gated (settled bodies) → AreBodiesOf bodies rs → AreInOrder rs → HasRecords w k rs
records_of w k rs bodies kept file has are order = among w.content has
  where
    among : (o : Option Files) → IsSomeAnd o (gates.Holds w k.gated (settled bodies)) → IsSomeAnd o (HoldsRecords w k rs)
    among None h = absurd h
    among (Some f) h = record {
      kept = kept;
      reads = subst (λ (n : ℕ). IsInstance (f n) rs) file (instance_of (f k.gated.file) bodies rs (h.reads ∙ ap Some (append-nil bodies)) are order);
      stands = λ c now. subst (λ (n : ℕ). IsInstance (c n) rs) file (settled_stands (c k.gated.file) bodies rs (h.stands c now) are order);
      file = file;
      bodies = bodies;
      held = h;
      spelled = are;
    }

-- the bodies of its records
pub record HasBodies (v : View) (i : Instance) (rs : List InstanceRecord) : Type 0 where
  pub bodies : List Body
  pub has : gates.HasState v i.gated (settled bodies)
  pub are : AreBodiesOf bodies rs
  pub order : AreInOrder rs
  pub kept : i.records ≡ rs
  pub file : i.gated.file ≡ INSTANCE

pub bodies_of : (v : View) (i : Instance) (rs : List InstanceRecord) → HasRecords v i rs → HasBodies v i rs
bodies_of v i rs has = let found = among v.content has in record { bodies = found.0; has = found.1; are = found.2; order = found.3; kept = found.4; file = found.5 }
  where
    among : (o : Option Files) → IsSomeAnd o (HoldsRecords v i rs) → (b : List Body) × IsSomeAnd o (gates.Holds v i.gated (settled b)) × AreBodiesOf b rs × AreInOrder rs × (i.records ≡ rs) × (i.gated.file ≡ INSTANCE)
    among None h = absurd h
    among (Some f) h = (h.bodies, h.held, h.spelled, order_of (f INSTANCE) rs h.reads, h.kept, h.file)

-- a call that leaves the bodies
pub records_stay : (v w : View) (i k : Instance) (rs : List InstanceRecord) → k.records ≡ i.records → k.gated.file ≡ i.gated.file → ((s : State) → gates.HasState v i.gated s → gates.HasState w k.gated s) → HasRecords v i rs → HasRecords w k rs
records_stay v w i k rs same file goes has =
    let b = bodies_of v i rs has in
    records_of w k rs b.bodies (same ∙ b.kept) (file ∙ b.file) (goes (settled b.bodies) b.has) b.are b.order

-- one that adds the body of a record
pub records_more : (v w : View) (i k : Instance) (rs : List InstanceRecord) (x : InstanceRecord) (body : Body) → k.records ≡ i.records ++ x ∷ [] → k.gated.file ≡ i.gated.file
    → ((bodies : List Body) → gates.HasState v i.gated (settled bodies) → gates.HasState w k.gated (settled (bodies ++ body ∷ []))) → IsInstanceBody body x → (AreInOrder rs → AreInOrder (rs ++ x ∷ []))
    → HasRecords v i rs → HasRecords w k (rs ++ x ∷ [])
records_more v w i k rs x body same file goes is order has =
    let b = bodies_of v i rs has in
    records_of w k (rs ++ x ∷ []) (b.bodies ++ body ∷ []) (same ∙ ap (λ (l : List InstanceRecord). l ++ x ∷ []) b.kept) (file ∙ b.file) (goes b.bodies b.has)
    (zip_append IsInstanceBody b.bodies (body ∷ []) rs (x ∷ []) b.are (is, tt)) (order b.order)

pub ready_of : (v w : View) (i k : Instance) (F : ℕ → Type 0) → OthersStay F v w → k.gated.file ≡ INSTANCE → gates.IsReady w k.gated → (HasRecords v i i.records → (t : List InstanceRecord) × (k.records ≡ t) × HasRecords w k t) → IsReady v i → IsReady w k
ready_of v w i k F stays file_is ready goes was = record { file = file_is; gated = ready; state = among v.content w.content stays.content was.state goes }
  where
    among : (o n : Option Files) → ReadsAfter (SameOutside F) o n → IfSome o (HoldsRecords v i i.records) → (IsSomeAnd o (HoldsRecords v i i.records) → (t : List InstanceRecord) × (k.records ≡ t) × IsSomeAnd n (HoldsRecords w k t)) → IfSome n (HoldsRecords w k k.records)
    among None n after has go = subst (λ (x : Option Files). IfSome x (HoldsRecords w k k.records)) (sym after) tt
    among (Some a) None after has go = absurd after
    among (Some a) (Some b) after has go = let t = go has in subst (λ (l : List InstanceRecord). HoldsRecords w k l b) (sym t.1) t.2

-- moments in which nothing changes
pub quiet : (v w : View) (i : Instance) (rs : List InstanceRecord) (x : InstanceRecord) → HasRecords v i rs → AtEachMoment v w (Image v) → AtEachMoment v w (OnlyOn v INSTANCE (StandsWith rs x))
quiet v w i rs x has run = weaker v w (Image v) (OnlyOn v INSTANCE (StandsWith rs x)) (λ c image. record { here = inl (among v.content has c image); others = (c, image, λ f ne. refl) }) run
  where
    among : (o : Option Files) → IsSomeAnd o (HoldsRecords v i rs) → (c : Files) → Image v c → IsInstance (c INSTANCE) rs
    among None h c image = absurd h
    among (Some f) h c image = h.stands c image

-- and those of one body more
stands_with : (bodies : List Body) (body : Body) (rs : List InstanceRecord) (x : InstanceRecord) (file : List ℕ) → AreBodiesOf bodies rs → IsInstanceBody body x → AreInOrder rs → (AreInOrder rs → AreInOrder (rs ++ x ∷ []))
    → (n : ℕ) → n ≤ 1 → records file ≡ Some (bodies ++ take n (body ∷ [])) → StandsWith rs x file
stands_with bodies body rs x file are is order more zero few list = inl (instance_of file bodies rs (list ∙ ap Some (append-nil bodies)) are order)
stands_with bodies body rs x file are is order more (suc zero) few list =
    inr (instance_of file (bodies ++ body ∷ []) (rs ++ x ∷ []) list (zip_append IsInstanceBody bodies (body ∷ []) rs (x ∷ []) are (is, tt)) (more order))
stands_with bodies body rs x file are is order more (suc (suc n)) few list = absurd (omega arith)

pub put_moments : (u v w : View) (file : ℕ) (bodies : List Body) (body : Body) (rs : List InstanceRecord) (x : InstanceRecord) → IsLawful v → file ≡ INSTANCE → AreBodiesOf bodies rs → IsInstanceBody body x → AreInOrder rs → (AreInOrder rs → AreInOrder (rs ++ x ∷ []))
    → AtEachMoment u v (OnlyOn u INSTANCE (StandsWith rs x)) → AtEachMoment v w (OnlyOn v file (Stands bodies (body ∷ []))) → AtEachMoment u w (OnlyOn u INSTANCE (StandsWith rs x))
put_moments u v w file bodies body rs x lawful same are is order more first second =
    only_then u v w (Only INSTANCE) (Only INSTANCE) (λ c. StandsWith rs x (c INSTANCE)) (λ c. Stands bodies (body ∷ []) (c INSTANCE)) lawful (λ f here. here) first
    (subst (λ (f : ℕ). AtEachMoment v w (OnlyOn v f (Stands bodies (body ∷ [])))) same second)
    (λ d c was p stays q. stands_with bodies body rs x (c INSTANCE) are is order more q.0 q.1 q.2)

-- the order of records that are those of the value
pub order_at : (own rs : List InstanceRecord) (x : InstanceRecord) → own ≡ rs → (AreInOrder own → AreInOrder (own ++ x ∷ [])) → AreInOrder rs → AreInOrder (rs ++ x ∷ [])
order_at own rs x same more = subst (λ (l : List InstanceRecord). AreInOrder l → AreInOrder (l ++ x ∷ [])) same more
