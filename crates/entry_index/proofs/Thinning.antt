-- Records that are kept of a region's, with one more at the end.
use Rattle.std.proofs.Common.{◌≡◌, ◌⊎◌, inl, inr, ℕ, ◌≤◌, nat_le, ◌&&◌, Bool, true, false, List, [], ◌∷◌, ◌++◌, Option, Some, None, refl, sym, ◌∙◌, ap, subst, arith}
use Rattle.std.proofs.lemmas.Bool.Decides.{nat_tests}
use Rattle.std.specs.List.{AllZip, AllByRecursion}
use Rattle.disk_defs.specs.Disk.{Files}
use Rattle.journal_defs.specs.Instance.{InstanceRecord}
use Rattle.journal_defs.specs.Journal as journal
use Rattle.journal_defs.specs.Journal.{JournalRecord}
use Rattle.journal_defs.specs.Sequence.{Placed}
use Rattle.journal_defs.specs.Surviving.{survives}
use Rattle.jnl_file.proofs.Zips.{zip_append}
use Rattle.entry_index.specs.Cursors.{IsDrawn, behind_of, Keeps, placed_by}
use Rattle.entry_index.specs.Places.{IsSignOf}
use Rattle.entry_index.specs.RecordSigns.{sign_of}
use Rattle.entry_index.specs.Thinned.{part_generation, IsSettled, MayGo, is_floor_in, has_floor, IsThinned}
use Rattle.entry_index.proofs.Either.{either, or_left, or_right}
use Rattle.entry_index.specs.declared.kept.Kept.{Kept}
use Rattle.entry_index.specs.declared.placed.PlacedSign.{PlacedSign}
use Rattle.gvn_model.specs.declared.entry.Origin.{Origin}
use Rattle.entry_index.specs.declared.sign.Span.{Span}
use Rattle.entry_index.specs.declared.sign.Sign.{Sign}
use Rattle.entry_index.specs.declared.sign.Sign.TheVariants.{Pini, Epoch, Pblk, Tcom}
use Rattle.entry_index.specs.declared.signed_part.PartSign.{PartSign}

-- a floor among records is one among more
floor_still : (instance : List InstanceRecord) (lowest n : ℕ) (js ks : List Placed) → has_floor instance lowest n js ≡ true → has_floor instance lowest n (js ++ ks) ≡ true
floor_still instance lowest n [] ks none = absurd (cc none)
floor_still instance lowest n (p ∷ js) ks some = elim (either (is_floor_in instance lowest n p.generation p.what) (has_floor instance lowest n js) some) [
  | inl here ↦ or_left (is_floor_in instance lowest n p.generation p.what) (has_floor instance lowest n (js ++ ks)) here
  | inr later ↦ or_right (is_floor_in instance lowest n p.generation p.what) (has_floor instance lowest n (js ++ ks)) (floor_still instance lowest n js ks later)
]

thin_keep : (instance : List InstanceRecord) (lowest n : ℕ) (b : Option ℕ) (js ks : List Placed) (x : Placed) → IsThinned instance lowest n b js ks → IsThinned instance lowest n b (js ++ x ∷ []) (ks ++ x ∷ [])
thin_keep instance lowest n b [] ks x none = inl ([], ap (λ (l : List Placed). l ++ x ∷ []) none, refl)
thin_keep instance lowest n b (p ∷ js) ks x is = elim is [
  | inl kept ↦ inl (kept.0 ++ x ∷ [], ap (λ (l : List Placed). l ++ x ∷ []) kept.1, thin_keep instance lowest n (part_generation p.generation p.what) js kept.0 x kept.2)
  | inr (inl dropped) ↦ inr (inl (dropped.0, dropped.1, thin_keep instance lowest n b js ks x dropped.2))
  | inr (inr gone) ↦ inr (inr (floor_still instance lowest n js (x ∷ []) gone.0, gone.1, thin_keep instance lowest n (part_generation p.generation p.what) js ks x gone.2))
]

settled_there : (instance : List InstanceRecord) (n g : ℕ) (r : JournalRecord) → IsSettled instance n g r → part_generation g r ≡ Some g
settled_there instance n g (journal.Tcom p) is = refl
settled_there instance n g (journal.Pini s) is = absurd is
settled_there instance n g (journal.Epoch m) is = absurd is
settled_there instance n g (journal.Pblk b) is = absurd is

thin_drop : (instance : List InstanceRecord) (lowest n : ℕ) (b : Option ℕ) (js ks : List Placed) (x : Placed) → behind_of b js ≡ Some x.generation → IsSettled instance n x.generation x.what → IsThinned instance lowest n b js ks → IsThinned instance lowest n b (js ++ x ∷ []) ks
thin_drop instance lowest n b [] ks x behind settled none = inr (inl (behind, settled, none))
thin_drop instance lowest n b (p ∷ js) ks x behind settled is = elim is [
  | inl kept ↦ inl (kept.0, kept.1, thin_drop instance lowest n (part_generation p.generation p.what) js kept.0 x behind settled kept.2)
  | inr (inl dropped) ↦
      let same : part_generation p.generation p.what ≡ b = settled_there instance n p.generation p.what dropped.1 ∙ sym dropped.0 in
      inr (inl (dropped.0, dropped.1, thin_drop instance lowest n b js ks x (ap (λ (o : Option ℕ). behind_of o js) (sym same) ∙ behind) settled dropped.2))
  | inr (inr gone) ↦ inr (inr (floor_still instance lowest n js (x ∷ []) gone.0, gone.1, thin_drop instance lowest n (part_generation p.generation p.what) js ks x behind settled gone.2))
]

over_more : (n m number : ℕ) (lives : Bool) → n ≤ m → (number ≤ n) ⊎ (lives ≡ false) → (number ≤ m) ⊎ (lives ≡ false)
over_more n m number lives less (inl least) = inl (omega (arith, less, least))
over_more n m number lives less (inr lost) = inr lost

settled_more : (instance : List InstanceRecord) (n m g : ℕ) (r : JournalRecord) → n ≤ m → IsSettled instance n g r → IsSettled instance m g r
settled_more instance n m g (journal.Tcom p) less is = over_more n m p.number (survives instance g p.number) less is
settled_more instance n m g (journal.Pini s) less is = is
settled_more instance n m g (journal.Epoch k) less is = is
settled_more instance n m g (journal.Pblk b) less is = is

may_go_more : (instance : List InstanceRecord) (n m g : ℕ) (r : JournalRecord) → n ≤ m → MayGo instance n g r → MayGo instance m g r
may_go_more instance n m g (journal.Tcom p) less is = over_more n m p.number (survives instance g p.number) less is
may_go_more instance n m g (journal.Pini s) less is = is
may_go_more instance n m g (journal.Epoch k) less is = is
may_go_more instance n m g (journal.Pblk b) less is = is

and_more : (a b c d : Bool) → (c ≡ true → d ≡ true) → (a && b && c) ≡ true → (a && b && d) ≡ true
and_more true true true d more all = more refl
and_more true true false d more none = absurd (cc none)
and_more true false c d more none = absurd (cc none)
and_more false b c d more none = absurd (cc none)

floor_in_more : (instance : List InstanceRecord) (lowest n m g : ℕ) (r : JournalRecord) → n ≤ m → is_floor_in instance lowest n g r ≡ true → is_floor_in instance lowest m g r ≡ true
floor_in_more instance lowest n m g (journal.Epoch k) less is = and_more (survives instance g k.number) (nat_le k.number lowest) (nat_le k.number n) (nat_le k.number m) (λ least. grind (arith, nat_tests, least, less)) is
floor_in_more instance lowest n m g (journal.Tcom p) less is = absurd (cc is)
floor_in_more instance lowest n m g (journal.Pini s) less is = absurd (cc is)
floor_in_more instance lowest n m g (journal.Pblk b) less is = absurd (cc is)

floor_more : (instance : List InstanceRecord) (lowest n m : ℕ) (js : List Placed) → n ≤ m → has_floor instance lowest n js ≡ true → has_floor instance lowest m js ≡ true
floor_more instance lowest n m [] less none = absurd (cc none)
floor_more instance lowest n m (p ∷ js) less some = elim (either (is_floor_in instance lowest n p.generation p.what) (has_floor instance lowest n js) some) [
  | inl here ↦ or_left (is_floor_in instance lowest m p.generation p.what) (has_floor instance lowest m js) (floor_in_more instance lowest n m p.generation p.what less here)
  | inr later ↦ or_right (is_floor_in instance lowest m p.generation p.what) (has_floor instance lowest m js) (floor_more instance lowest n m js less later)
]

-- once more entries are told
thin_more : (instance : List InstanceRecord) (lowest n m : ℕ) (b : Option ℕ) (js ks : List Placed) → n ≤ m → IsThinned instance lowest n b js ks → IsThinned instance lowest m b js ks
thin_more instance lowest n m b [] ks less is = is
thin_more instance lowest n m b (p ∷ js) ks less is = elim is [
  | inl kept ↦ inl (kept.0, kept.1, thin_more instance lowest n m (part_generation p.generation p.what) js kept.0 less kept.2)
  | inr (inl dropped) ↦ inr (inl (dropped.0, settled_more instance n m p.generation p.what less dropped.1, thin_more instance lowest n m b js ks less dropped.2))
  | inr (inr gone) ↦ inr (inr (floor_more instance lowest n m js less gone.0, may_go_more instance n m p.generation p.what less gone.1, thin_more instance lowest n m (part_generation p.generation p.what) js ks less gone.2))
]

behind_more : (b : Option ℕ) (js : List Placed) (x : Placed) → behind_of b (js ++ x ∷ []) ≡ part_generation x.generation x.what
behind_more b [] x = refl
behind_more b (p ∷ js) x = behind_more (part_generation p.generation p.what) js x

pub all_more : {X : Type 0} (P : X → Type 0) (xs : List X) (x : X) → AllByRecursion P xs → P x → AllByRecursion P (xs ++ x ∷ [])
all_more P [] x all here = (here, tt)
all_more P (y ∷ xs) x all here = (all.0, all_more P xs x all.1 here)

-- of no records
pub keeps_none : (files : Files) (instance : List InstanceRecord) (lowest region n : ℕ) (k : Kept) → k.signs.items ≡ [] → k.behind ≡ 0 → Keeps files instance lowest region n k []
keeps_none files instance lowest region n k none zero_of = record {
  kept = [];
  are = subst (λ (l : List PlacedSign). AllZip (IsSignOf files region) l []) (sym none) tt;
  drawn = tt;
  thinned = refl;
  behind = λ some. absurd (omega (arith, some, zero_of));
}

-- the generation of a part, by its sign, or 0
abbrev pub generation_behind : Sign → ℕ → ℕ
generation_behind (Tcom number mask origin count span) g = g
generation_behind (Pini region before generation previous) g = 0
generation_behind (Epoch closing number blocks) g = 0
generation_behind (Pblk block) g = 0

pub no_part_behind : (s : Sign) (g : ℕ) → ((number mask : ℕ) (origin : Origin) (count : ℕ) (span : Span) → s ≡ Tcom number mask origin count span → ⊥) → generation_behind s g ≡ 0
no_part_behind (Tcom number mask origin count span) g none = absurd (none number mask origin count span refl)
no_part_behind (Pini region before generation previous) g none = refl
no_part_behind (Epoch closing number blocks) g none = refl
no_part_behind (Pblk block) g none = refl

behind_said : (r : JournalRecord) (g : ℕ) → 1 ≤ generation_behind (sign_of r) g → part_generation g r ≡ Some (generation_behind (sign_of r) g)
behind_said (journal.Tcom p) g some = refl
behind_said (journal.Pini s) g some = absurd (omega (arith, some))
behind_said (journal.Epoch m) g some = absurd (omega (arith, some))
behind_said (journal.Pblk b) g some = absurd (omega (arith, some))

-- one more that is kept
pub keeps_more : (files : Files) (instance : List InstanceRecord) (lowest region n : ℕ) (old new : Kept) (placed : PlacedSign) (before : List Placed) (x : Placed) → new.signs.items ≡ old.signs.items ++ placed ∷ [] → new.behind ≡ generation_behind placed.sign placed.generation
    → IsDrawn x → IsSignOf files region placed x → Keeps files instance lowest region n old before → Keeps files instance lowest region n new (before ++ x ∷ [])
keeps_more files instance lowest region n old new placed before x more behind drawn is k = record {
  kept = k.kept ++ x ∷ [];
  are = subst (λ (l : List PlacedSign). AllZip (IsSignOf files region) l (k.kept ++ x ∷ [])) (sym more) (zip_append (IsSignOf files region) old.signs.items (placed ∷ []) k.kept (x ∷ []) k.are (is, tt));
  drawn = all_more IsDrawn k.kept x k.drawn drawn;
  thinned = thin_keep instance lowest n None before k.kept x k.thinned;
  behind = λ some.
      let told : new.behind ≡ generation_behind (sign_of x.what) x.generation = behind ∙ ap (λ (s : Sign). generation_behind s placed.generation) is.says ∙ ap (generation_behind (sign_of x.what)) is.generation in
      behind_more None before x ∙ behind_said x.what x.generation (omega (arith, some, told)) ∙ ap Some (sym told);
}

-- the part that a sign is of is settled, or a CUT dropped it
part_settled : (instance : List InstanceRecord) (n g : ℕ) (s : PartSign) (r : JournalRecord) → (s.number ≤ n) ⊎ (survives instance s.place.generation s.number ≡ false) → s.place.generation ≡ g → (placed_by s).sign ≡ sign_of r → IsSettled instance n g r
part_settled instance n g s (journal.Tcom p) (inl least) drawn is = let same : s.number ≡ p.number = cc is in inl (omega (arith, least, same))
part_settled instance n g s (journal.Tcom p) (inr lost) drawn is =
    let same : s.number ≡ p.number = cc is in
    inr (ap (λ (h : ℕ). survives instance h p.number) (sym drawn) ∙ ap (survives instance s.place.generation) (sym same) ∙ lost)
part_settled instance n g s (journal.Pini t) over drawn is = absurd (cc is)
part_settled instance n g s (journal.Epoch m) over drawn is = absurd (cc is)
part_settled instance n g s (journal.Pblk b) over drawn is = absurd (cc is)

-- a part that is settled, or that a CUT dropped, isn't kept behind another one of its generation
pub keeps_dropped : (files : Files) (instance : List InstanceRecord) (lowest region n : ℕ) (k : Kept) (s : PartSign) (before : List Placed) (x : Placed) → k.behind ≡ s.place.generation → (s.number ≤ n) ⊎ (survives instance s.place.generation s.number ≡ false)
    → IsDrawn x → IsSignOf files region (placed_by s) x → Keeps files instance lowest region n k before → Keeps files instance lowest region n k (before ++ x ∷ [])
keeps_dropped files instance lowest region n k s before x behind over drawn is old =
    let here : k.behind ≡ x.generation = behind ∙ is.generation in
    let there : behind_of None before ≡ Some k.behind = old.behind (omega (arith, here, drawn.0)) in
    let settled : IsSettled instance n x.generation x.what = part_settled instance n x.generation s x.what over is.generation is.says in
    record {
      kept = old.kept;
      are = old.are;
      drawn = old.drawn;
      thinned = thin_drop instance lowest n None before old.kept x (there ∙ ap Some here) settled old.thinned;
      behind = λ some. behind_more None before x ∙ settled_there instance n x.generation x.what settled ∙ ap Some (sym here);
    }

pub keeps_later : (files : Files) (instance : List InstanceRecord) (lowest region n m : ℕ) (k : Kept) (before : List Placed) → n ≤ m → Keeps files instance lowest region n k before → Keeps files instance lowest region m k before
keeps_later files instance lowest region n m k before less is = record {
  kept = is.kept;
  are = is.are;
  drawn = is.drawn;
  thinned = thin_more instance lowest n m None before is.kept less is.thinned;
  behind = is.behind;
}
