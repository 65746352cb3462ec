-- Journals of which settled parts and records before a floor were dropped: their epochs, images and generations are told by the rest.
use Rattle.std.proofs.Common.{◌≡◌, inl, inr, ℕ, ◌==◌, Bool, true, false, List, [], ◌∷◌, Option, Some, None, refl, sym, ◌∙◌, ap, subst}
use Rattle.std.specs.Prelude.{◌&&◌, ◌||◌, nat_lt, nat_le, is_some, unwrap_or, replicate, if◌then◌else◌}
use Rattle.std.specs.List.{find, list_any}
use Rattle.std.specs.Option.{option_or, option_map}
use Rattle.std.proofs.Math.Path.{fun_ext}
use Rattle.journal_defs.specs.Journal.{JournalRecord, Pini, Epoch, Pblk, Tcom}
use Rattle.journal_defs.specs.Instance.{InstanceRecord}
use Rattle.journal_defs.specs.Surviving.{survives}
use Rattle.journal_defs.specs.Sequence.{Placed}
use Rattle.journal_defs.specs.Epochs.{Blocks, Chosen, epoch_in, last_epoch, beginning, chosen, image_in, image_of, image_state, starts_without, first_without, NeedsForward}
use Rattle.entry_index.proofs.Either.{either, first_none}
use Rattle.entry_index.specs.Thinned.{part_generation, IsSettled, MayGo, is_floor_in, has_floor, IsThinned}
use Rattle.global_defs.proofs.Basics.{and_false as and_no}

some_of : (a b c : Bool) (x : Chosen) → (a && b && c) ≡ true → is_some (if a && b then Some x else None) ≡ true
some_of true true c x is = refl
some_of true false c x is = absurd (cc is)
some_of false b c x is = absurd (cc is)

or_first : (a b : Option Chosen) → is_some a ≡ true → is_some (option_or a b) ≡ true
or_first None b some = absurd (cc some)
or_first (Some x) b some = refl

or_second : (a b : Option Chosen) → is_some b ≡ true → is_some (option_or a b) ≡ true
or_second None b some = some
or_second (Some x) b some = refl

-- an epoch over what is kept: the records behind it are thinned, too, and none of them is an epoch to which one goes back
pub record IsSameEpoch (instance : List InstanceRecord) (t n : ℕ) (whole kept : Chosen) : Type 0 where
  pub number : kept.number ≡ whole.number
  pub blocks : kept.blocks ≡ whole.blocks
  pub after : IsThinned instance t n None whole.after kept.after
  pub last : last_epoch instance t whole.after ≡ None

abbrev AreSame : List InstanceRecord → ℕ → ℕ → Option Chosen → Option Chosen → Type 0
AreSame instance t n None None = Unit {0}
AreSame instance t n None (Some y) = ⊥
AreSame instance t n (Some x) None = ⊥
AreSame instance t n (Some x) (Some y) = IsSameEpoch instance t n x y

module _ (instance : List InstanceRecord) (t : ℕ) where
  -- a floor is an epoch to which one goes back
  floor_in : (n g : ℕ) (what : JournalRecord) (js : List Placed) → is_floor_in instance t n g what ≡ true → is_some (epoch_in instance t g what js) ≡ true
  floor_in n g (Epoch m) js is = some_of (survives instance g m.number) (nat_le m.number t) (nat_le m.number n) (record { number = m.number; blocks = m.blocks; after = js }) is
  floor_in n g (Pini s) js is = absurd (cc is)
  floor_in n g (Pblk b) js is = absurd (cc is)
  floor_in n g (Tcom p) js is = absurd (cc is)

  floor_some : (n : ℕ) (js : List Placed) → has_floor instance t n js ≡ true → is_some (last_epoch instance t js) ≡ true
  floor_some n [] is = absurd (cc is)
  floor_some n (p ∷ js) is = elim (either (is_floor_in instance t n p.generation p.what) (has_floor instance t n js) is) [
    | inl here ↦ or_second (last_epoch instance t js) (epoch_in instance t p.generation p.what js) (floor_in n p.generation p.what js here)
    | inr later ↦ or_first (last_epoch instance t js) (epoch_in instance t p.generation p.what js) (floor_some n js later)
  ]

  -- so there is none where there is no epoch
  pub no_floor : (n : ℕ) (js : List Placed) → last_epoch instance t js ≡ None → has_floor instance t n js ≡ true → ⊥
  no_floor n js none some = let no : true ≡ false = sym (floor_some n js some) ∙ ap is_some none in cc no

  pub none_later : (p : Placed) (js : List Placed) → last_epoch instance t (p ∷ js) ≡ None → last_epoch instance t js ≡ None
  none_later p js none = first_none (last_epoch instance t js) (epoch_in instance t p.generation p.what js) none

  -- a settled part is no epoch
  no_epoch : (n g : ℕ) (what : JournalRecord) (js : List Placed) → IsSettled instance n g what → epoch_in instance t g what js ≡ None
  no_epoch n g (Tcom p) js settled = refl
  no_epoch n g (Pini s) js settled = absurd settled
  no_epoch n g (Epoch m) js settled = absurd settled
  no_epoch n g (Pblk b) js settled = absurd settled

  if_same : (n : ℕ) (b : Bool) (x y : Chosen) → IsSameEpoch instance t n x y → AreSame instance t n (if b then Some x else None) (if b then Some y else None)
  if_same n true x y same = same
  if_same n false x y same = tt

  epoch_same : (n g : ℕ) (what : JournalRecord) (js ks : List Placed) → IsThinned instance t n (part_generation g what) js ks → last_epoch instance t js ≡ None → AreSame instance t n (epoch_in instance t g what js) (epoch_in instance t g what ks)
  epoch_same n g (Epoch m) js ks thin none = if_same n (survives instance g m.number && nat_le m.number t) (record { number = m.number; blocks = m.blocks; after = js }) (record { number = m.number; blocks = m.blocks; after = ks })
      (record { number = refl; blocks = refl; after = thin; last = none })
  epoch_same n g (Pini s) js ks thin none = tt
  epoch_same n g (Pblk b) js ks thin none = tt
  epoch_same n g (Tcom p) js ks thin none = tt

  or_same : (n : ℕ) (a b c d : Option Chosen) → AreSame instance t n a b → (a ≡ None → AreSame instance t n c d) → AreSame instance t n (option_or a c) (option_or b d)
  or_same n None None c d first second = second refl
  or_same n None (Some y) c d first second = absurd first
  or_same n (Some x) None c d first second = absurd first
  or_same n (Some x) (Some y) c d first second = first

  or_none : (n : ℕ) (a b : Option Chosen) → AreSame instance t n a b → AreSame instance t n (option_or a None) b
  or_none n None None same = tt
  or_none n None (Some y) same = absurd same
  or_none n (Some x) None same = absurd same
  or_none n (Some x) (Some y) same = same

  or_some : (n : ℕ) (a b c : Option Chosen) → is_some a ≡ true → AreSame instance t n a b → AreSame instance t n (option_or a c) b
  or_some n None b c some same = absurd (cc some)
  or_some n (Some x) b c some same = same

  last_same : (n : ℕ) (behind : Option ℕ) (js ks : List Placed) → IsThinned instance t n behind js ks → AreSame instance t n (last_epoch instance t js) (last_epoch instance t ks)
  last_same n behind [] ks thin = subst (λ (l : List Placed). AreSame instance t n None (last_epoch instance t l)) (sym thin) tt
  last_same n behind (p ∷ js) ks (inl kept) =
      subst (λ (l : List Placed). AreSame instance t n (last_epoch instance t (p ∷ js)) (last_epoch instance t l)) (sym kept.1)
      (or_same n (last_epoch instance t js) (last_epoch instance t kept.0) (epoch_in instance t p.generation p.what js) (epoch_in instance t p.generation p.what kept.0)
      (last_same n (part_generation p.generation p.what) js kept.0 kept.2) (λ none. epoch_same n p.generation p.what js kept.0 kept.2 none))
  last_same n behind (p ∷ js) ks (inr (inl dropped)) =
      subst (λ (o : Option Chosen). AreSame instance t n (option_or (last_epoch instance t js) o) (last_epoch instance t ks)) (sym (no_epoch n p.generation p.what js dropped.1))
      (or_none n (last_epoch instance t js) (last_epoch instance t ks) (last_same n behind js ks dropped.2))
  last_same n behind (p ∷ js) ks (inr (inr gone)) =
      or_some n (last_epoch instance t js) (last_epoch instance t ks) (epoch_in instance t p.generation p.what js) (floor_some n js gone.0) (last_same n (part_generation p.generation p.what) js ks gone.2)

  told_same : (n : ℕ) (js ks : List Placed) (a b : Option Chosen) → AreSame instance t n a b → (a ≡ None → last_epoch instance t js ≡ None) → IsThinned instance t n None js ks → IsSameEpoch instance t n (unwrap_or a (beginning js)) (unwrap_or b (beginning ks))
  told_same n js ks None None same none thin = record { number = refl; blocks = refl; after = thin; last = none refl }
  told_same n js ks None (Some y) same none thin = absurd same
  told_same n js ks (Some x) None same none thin = absurd same
  told_same n js ks (Some x) (Some y) same none thin = same

  -- the epoch that is chosen
  pub chosen_same : (n : ℕ) (js ks : List Placed) → IsThinned instance t n None js ks → IsSameEpoch instance t n (chosen instance t js) (chosen instance t ks)
  chosen_same n js ks thin = told_same n js ks (last_epoch instance t js) (last_epoch instance t ks) (last_same n None js ks thin) (λ none. none) thin

-- a settled part is no image
no_image : (instance : List InstanceRecord) (n g b : ℕ) (what : JournalRecord) → IsSettled instance n g what → image_in what b ≡ None
no_image instance n g b (Tcom p) settled = refl
no_image instance n g b (Pini s) settled = absurd settled
no_image instance n g b (Epoch m) settled = absurd settled
no_image instance n g b (Pblk i) settled = absurd settled

-- the oldest image of each block, where there is no epoch to which one goes back
pub image_same : (instance : List InstanceRecord) (t n b : ℕ) (behind : Option ℕ) (js ks : List Placed) → last_epoch instance t js ≡ None → IsThinned instance t n behind js ks → image_of ks b ≡ image_of js b
image_same instance t n b behind [] ks none thin = ap (λ (l : List Placed). image_of l b) thin
image_same instance t n b behind (p ∷ js) ks none (inl kept) =
    ap (λ (l : List Placed). image_of l b) kept.1 ∙ ap (λ (o : Option (List ℕ)). option_or (image_in p.what b) o) (image_same instance t n b (part_generation p.generation p.what) js kept.0 (none_later instance t p js none) kept.2)
image_same instance t n b behind (p ∷ js) ks none (inr (inl dropped)) =
    image_same instance t n b behind js ks (none_later instance t p js none) dropped.2 ∙ ap (λ (o : Option (List ℕ)). option_or o (image_of js b)) (sym (no_image instance n p.generation b p.what dropped.1))
image_same instance t n b behind (p ∷ js) ks none (inr (inr gone)) = absurd (no_floor instance t n js (none_later instance t p js none) gone.0)

-- the blocks below an epoch
pub state_same : (instance : List InstanceRecord) (t n : ℕ) (whole kept : Chosen) (database : Blocks) → IsSameEpoch instance t n whole kept → image_state kept database ≡ image_state whole database
state_same instance t n whole kept database same = fun_ext (λ b.
    ap (λ (k : ℕ). if nat_lt b k then Some (unwrap_or (image_of kept.after b) (database b)) else if b == 0 then Some (replicate 4096 0) else None) same.blocks
    ∙ ap (λ (o : Option (List ℕ)). if nat_lt b whole.blocks then Some (unwrap_or o (database b)) else if b == 0 then Some (replicate 4096 0) else None) (image_same instance t n b None whole.after kept.after same.last same.after))

-- a settled part begins no generation
begins_none : (instance : List InstanceRecord) (n g : ℕ) (what : JournalRecord) → IsSettled instance n g what → starts_without what ≡ false
begins_none instance n g (Tcom p) settled = refl
begins_none instance n g (Pini s) settled = absurd settled
begins_none instance n g (Epoch m) settled = absurd settled
begins_none instance n g (Pblk b) settled = absurd settled

and_false : (b c : Bool) → c ≡ false → (b && c) ≡ false
and_false b c is = ap (λ (x : Bool). b && x) is ∙ and_no b

-- whether a generation keeps no images
abbrev keeps_none : List Placed → ℕ → Bool
keeps_none js g = list_any (λ q. q.generation == g && starts_without q.what) js

-- what may go before a floor begins none either
begins_no : (instance : List InstanceRecord) (n g : ℕ) (what : JournalRecord) → MayGo instance n g what → starts_without what ≡ false
begins_no instance n g (Tcom p) may = refl
begins_no instance n g (Pini s) may = absurd may
begins_no instance n g (Epoch m) may = refl
begins_no instance n g (Pblk b) may = refl

none_same : (instance : List InstanceRecord) (t n g : ℕ) (behind : Option ℕ) (js ks : List Placed) → IsThinned instance t n behind js ks → keeps_none ks g ≡ keeps_none js g
none_same instance t n g behind [] ks thin = ap (λ (l : List Placed). keeps_none l g) thin
none_same instance t n g behind (p ∷ js) ks (inl kept) = ap (λ (l : List Placed). keeps_none l g) kept.1 ∙ ap (λ (b : Bool). (p.generation == g && starts_without p.what) || b) (none_same instance t n g (part_generation p.generation p.what) js kept.0 kept.2)
none_same instance t n g behind (p ∷ js) ks (inr (inl dropped)) =
    none_same instance t n g behind js ks dropped.2 ∙ ap (λ (b : Bool). b || keeps_none js g) (sym (and_false (p.generation == g) (starts_without p.what) (begins_none instance n p.generation p.what dropped.1)))
none_same instance t n g behind (p ∷ js) ks (inr (inr gone)) =
    none_same instance t n g (part_generation p.generation p.what) js ks gone.2 ∙ ap (λ (b : Bool). b || keeps_none js g) (sym (and_false (p.generation == g) (starts_without p.what) (begins_no instance n p.generation p.what gone.1)))

-- the generation of the first record whose generation is so
abbrev first_so : (ℕ → Bool) → List Placed → Option ℕ
first_so f js = option_map (λ p. p.generation) (find (λ p. f p.generation) js)

some_is : (g h : ℕ) → Some g ≡ Some h → g ≡ h
some_is g h is = cc is

-- the generation of a part
of_part : (g h : ℕ) (what : JournalRecord) → part_generation g what ≡ Some h → g ≡ h
of_part g h (Tcom p) is = some_is g h is
of_part g h (Pini s) is = absurd (cc is)
of_part g h (Epoch m) is = absurd (cc is)
of_part g h (Pblk b) is = absurd (cc is)

-- the first of a list and of another one, where both begin with the same record
first_both : (f : ℕ → Bool) (p : Placed) (js ks : List Placed) → (f p.generation ≡ false → first_so f ks ≡ first_so f js) → first_so f (p ∷ ks) ≡ first_so f (p ∷ js)
first_both f p js ks rest = by (f p.generation) refl
  where
    by : (b : Bool) → f p.generation ≡ b → option_map (λ (q : Placed). q.generation) (if f p.generation then Some p else find (λ q. f q.generation) ks)
        ≡ option_map (λ (q : Placed). q.generation) (if f p.generation then Some p else find (λ q. f q.generation) js)
    by true here = rw here refl
    by false passed = rw passed (rest passed)

first_past : (f : ℕ → Bool) (p : Placed) (js : List Placed) → f p.generation ≡ false → first_so f (p ∷ js) ≡ first_so f js
first_past f p js passed = rw passed refl

first_same : (instance : List InstanceRecord) (t : ℕ) (f : ℕ → Bool) (n : ℕ) (behind : Option ℕ) (js ks : List Placed) → last_epoch instance t js ≡ None → IsThinned instance t n behind js ks → ((g : ℕ) → behind ≡ Some g → f g ≡ false) → first_so f ks ≡ first_so f js
first_same instance t f n behind [] ks none thin before = ap (first_so f) thin
first_same instance t f n behind (p ∷ js) ks none (inl kept) before = ap (first_so f) kept.1
    ∙ first_both f p js kept.0 (λ passed. first_same instance t f n (part_generation p.generation p.what) js kept.0 (none_later instance t p js none) kept.2 (λ g is. ap f (sym (of_part p.generation g p.what is)) ∙ passed))
first_same instance t f n behind (p ∷ js) ks none (inr (inr gone)) before = absurd (no_floor instance t n js (none_later instance t p js none) gone.0)
first_same instance t f n behind (p ∷ js) ks none (inr (inl dropped)) before = first_same instance t f n behind js ks (none_later instance t p js none) dropped.2 before ∙ sym (first_past f p js (before p.generation dropped.0))

-- the first generation without images behind an epoch
without_same : (instance : List InstanceRecord) (t n : ℕ) (js ks : List Placed) (whole kept : Chosen) → IsThinned instance t n None js ks → IsSameEpoch instance t n whole kept → first_without ks kept ≡ first_without js whole
without_same instance t n js ks whole kept thin same =
    ap (λ (f : ℕ → Bool). first_so f kept.after) (fun_ext (λ g. none_same instance t n g None js ks thin))
    ∙ first_same instance t (keeps_none js) n None whole.after kept.after same.last same.after (λ g is. absurd (cc is))

module _ (instance : List InstanceRecord) (t : ℕ) (n : ℕ) (js ks : List Placed) (thin : IsThinned instance t n None js ks) where
  pub forward_same : first_without ks (chosen instance t ks) ≡ first_without js (chosen instance t js)
  forward_same = without_same instance t n js ks (chosen instance t js) (chosen instance t ks) thin (chosen_same instance t n js ks thin)

  pub needs_same : NeedsForward instance t ks ≡ NeedsForward instance t js
  needs_same = ap (λ (o : Option ℕ). is_some o ≡ true) forward_same
