-- An instance file is made, or taken up.
use Rattle.std.proofs.Common.{◌≡◌, inl, inr, ℕ, List, [], Option, Some, None, IfSome, IsSomeAnd, sym, ◌∙◌, ap, subst, append-nil}
use Rattle.disk_defs.specs.Disk.{Files, View, IsLawful, AtEachMoment, ReadsAfter, Reads}
use Rattle.disk_defs.specs.Frames.{OnlyOn, SameOutside, OthersStay}
use Rattle.disk_defs.specs.Gates.{Body, records}
use Rattle.disk_defs.proofs.Told.{with_told, weaker_told, both_weak, both_told}
use Rattle.disk_defs.proofs.Moments.{weaker, then_more, holds_now}
use Rattle.disk_defs.proofs.Frames.{others_read}
use Rattle.gated_file.specs.State.{settled}
use Rattle.gated_file.specs.Gated as gates
use Rattle.gated_file.specs.Begin.{KeepsRecords}
use Rattle.gated_file.specs.declared.gated.Gated.{Gated}
use Rattle.gated_file.proofs.Others.{state_stays, ready_stays}
use Rattle.journal_defs.specs.Numbers.{INSTANCE}
use Rattle.journal_defs.specs.Instance.{InstanceRecord}
use Rattle.journal_defs.specs.Stands.{IsInstance}
use Rattle.instance_file.specs.Order.{AreInOrder}
use Rattle.instance_file.specs.Instance.{HoldsRecords, HasRecords, IsReady, StandsWith, MayCreate}
use Rattle.instance_file.specs.declared.instance.Instance.{Instance}
use Rattle.instance_file.proofs.Zips.{AreBodiesOf}
use Rattle.instance_file.proofs.States.{records_of, order_of}
use Rattle.instance_file.proofs.Outside.{instance_as}

-- a file that keeps its records may be one that is made
pub keeps_creates : (u v : View) (first : InstanceRecord) → AtEachMoment u v (KeepsRecords u INSTANCE) → AtEachMoment u v (MayCreate u first)
keeps_creates u v first run =
    weaker u v (KeepsRecords u INSTANCE) (MayCreate u first) (λ c keeps. (keeps.0, keeps.1, record { here = inl keeps.2.here; others = keeps.2.others })) run

pub told_creates : (u v : View) (first : InstanceRecord) → IfSome u.content (λ files. AtEachMoment u v (KeepsRecords u INSTANCE)) → IfSome u.content (λ files. AtEachMoment u v (MayCreate u first))
told_creates u v first keeps = weaker_told u.content (λ files. AtEachMoment u v (KeepsRecords u INSTANCE)) (λ files. AtEachMoment u v (MayCreate u first)) keeps (λ files run. keeps_creates u v first run)

-- and then its first record is appended
pub created : (u v w : View) (i : Instance) (first : InstanceRecord) → IsLawful v → IfSome u.content (λ files. AtEachMoment u v (KeepsRecords u INSTANCE)) → IfSome u.content (λ files. HasRecords v i [])
    → ((rs : List InstanceRecord) → HasRecords v i rs → AtEachMoment v w (OnlyOn v INSTANCE (StandsWith rs first))) → IfSome u.content (λ files. AtEachMoment u w (MayCreate u first))
created u v w i first lawful keeps has call =
    both_weak u.content (λ files. AtEachMoment u v (KeepsRecords u INSTANCE)) (λ files. HasRecords v i []) (λ files. AtEachMoment u w (MayCreate u first)) keeps has
    (λ files run h.
    let begins = keeps_creates u v first run in
    then_more u v w (MayCreate u first) (OnlyOn v INSTANCE (StandsWith [] first)) begins (call [] h)
    (λ c q.
    let was = holds_now u v (MayCreate u first) lawful begins q.others.0 q.others.1 in
    (was.0, was.1, record { here = inr q.here; others = λ f ne. q.others.2 f ne ∙ was.2.others f ne })))

-- it is open for calls
pub ready_made : (u w : View) (F : ℕ → Type 0) (k : Instance) (rs : List InstanceRecord) → OthersStay F u w → k.gated.file ≡ INSTANCE → gates.IsReady w k.gated → k.records ≡ rs → IfSome u.content (λ files. HasRecords w k rs) → IsReady w k
ready_made u w F k rs stays file ready kept has = record { file = file; gated = ready; state = among u.content w.content stays.content has }
  where
    among : (o n : Option Files) → ReadsAfter (SameOutside F) o n → IfSome o (λ files. IsSomeAnd n (HoldsRecords w k rs)) → IfSome n (HoldsRecords w k k.records)
    among None n after h = subst (λ (x : Option Files). IfSome x (HoldsRecords w k k.records)) (sym after) tt
    among (Some a) None after h = absurd after
    among (Some a) (Some b) after h = subst (λ (l : List InstanceRecord). HoldsRecords w k l b) (sym kept) h

-- without records
pub none_yet : (o : Option Files) (w : View) (k : Instance) → k.records ≡ [] → k.gated.file ≡ INSTANCE → IfSome o (λ files. gates.HasState w k.gated (settled [])) → IfSome o (λ files. HasRecords w k [])
none_yet o w k kept file has =
    weaker_told o (λ files. gates.HasState w k.gated (settled [])) (λ files. HasRecords w k []) has
    (λ files h. records_of w k [] [] kept file h tt (record { ordered = record { create = tt; cuts = tt }; reigns = tt }))

-- what `attach` says of a gated file, and what is read from it then
abbrev pub TakenUp : View → Gated → List ℕ → Type 0
TakenUp v g bytes = (bodies : List Body) × (records bytes ≡ Some bodies) × gates.HasState v g (settled bodies)

same_records : (v : View) (g : Gated) (bytes : List ℕ) (taken : TakenUp v g bytes) (files : Files) → gates.Holds v g (settled taken.0) files → records bytes ≡ records (files g.file)
same_records v g bytes taken files held = taken.1 ∙ ap Some (sym (append-nil taken.0)) ∙ sym held.reads

pub taken_back : (o : Option Files) (v : View) (g : Gated) (file : ℕ) (R : List ℕ → Type 0) → ((old new : List ℕ) → records old ≡ records new → R new → R old)
    → IfSome o (λ files. TakenUp v g (files file)) → IfSome v.content (λ files. R (files g.file)) → IfSome o (λ files. R (files file))
taken_back o v g file R carry taken told =
    weaker_told o (λ files. TakenUp v g (files file)) (λ files. R (files file)) taken
    (λ files t. with_told v.content (λ now. R (files file)) (R (files file))
    (both_told v.content (gates.Holds v g (settled t.0)) (λ now. R (now g.file)) (λ now. R (files file)) t.2 told
    (λ now held r. carry (files file) (now g.file) (same_records v g (files file) t now held) r))
    (λ now r. r))

taken_listed : (v : View) (g : Gated) (rs : List InstanceRecord) (bytes : List ℕ) (t : TakenUp v g bytes) → IfSome v.content (λ files. IsInstance (files g.file) rs) → AreBodiesOf t.0 rs × AreInOrder rs
taken_listed v g rs bytes t told =
    with_told v.content (λ now. AreBodiesOf t.0 rs × AreInOrder rs) (AreBodiesOf t.0 rs × AreInOrder rs)
    (both_told v.content (gates.Holds v g (settled t.0)) (λ now. IsInstance (now g.file) rs) (λ now. AreBodiesOf t.0 rs × AreInOrder rs) t.2 told
    (λ now held found.
    let is = instance_as bytes (now g.file) rs (same_records v g bytes t now held) found in
    let same : Some is.bodies.0 ≡ Some t.0 = sym is.bodies.1 ∙ t.1 in
    let bodies_are : is.bodies.0 ≡ t.0 = cc same in
    (subst (λ (l : List Body). AreBodiesOf l rs) bodies_are is.bodies.2, order_of bytes rs is)))
    (λ now both. both)

pub taken_records : (o : Option Files) (v w : View) (g : Gated) (k : Instance) (rs : List InstanceRecord) (file : ℕ) → Reads v w → k.gated ≡ g → g.file ≡ INSTANCE → k.records ≡ rs → IfSome o (λ files. TakenUp v g (files file))
    → IfSome v.content (λ files. IsInstance (files g.file) rs) → IfSome o (λ files. HasRecords w k rs)
taken_records o v w g k rs file reads same at kept taken told =
    weaker_told o (λ files. TakenUp v g (files file)) (λ files. HasRecords w k rs) taken
    (λ files t.
    let l = taken_listed v g rs (files file) t told in
    let has : gates.HasState w k.gated (settled t.0) = subst (λ (x : Gated). gates.HasState w x (settled t.0)) (sym same)
    (state_stays v w (λ f. ⊥) g (others_read (λ f. ⊥) v w reads) (λ none. none) (settled t.0) t.2) in
    records_of w k rs t.0 kept (ap (λ (x : Gated). x.file) same ∙ at) has l.0 l.1)

-- a gated file that was read
pub ready_read : (v w : View) (g h : Gated) → Reads v w → h ≡ g → gates.IsReady v g → gates.IsReady w h
ready_read v w g h reads same ready = subst (λ (x : Gated). gates.IsReady w x) (sym same) (ready_stays v w (λ f. ⊥) g (others_read (λ f. ⊥) v w reads) (λ none. none) ready)
