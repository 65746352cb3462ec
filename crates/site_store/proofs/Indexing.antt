-- Where entries stand, while reigns begin, a CUT drops none of theirs, and other files change.
use Rattle.std.proofs.Common.{◌≡◌, ℕ, suc, ◌≤◌, ◌<◌, Bool, true, false, List, [], ◌∷◌, ◌++◌, length, refl, sym, ◌∙◌, ap, subst, arith}
use Rattle.std.specs.Prelude.{nat_le, Option, Some, None, if◌then◌else◌}
use Rattle.std.specs.List.{filter}
use Rattle.std.specs.Option.{option_or}
use Rattle.std.proofs.lemmas.Bool.Decides.{nat_tests}
use Rattle.global_defs.specs.Entry.{Reign, Stamp, Sequence}
use Rattle.global_defs.specs.Prefix.{stamp_at}
use Rattle.journal_defs.specs.Instance.{InstanceRecord, Reigned, Cut}
use Rattle.journal_defs.specs.Surviving.{reigns}
use Rattle.journal_defs.specs.Numbers.{journal_file}
use Rattle.journal_defs.specs.Sequence.{Placed}
use Rattle.disk_defs.specs.Disk.{Files, View, Image}
use Rattle.jnl_file.specs.Generations.{AreDurable}
use Rattle.entry_index.specs.Order.{StandUpTo}
use Rattle.entry_index.specs.Places.{StandsAt}
use Rattle.journal_laws.proofs.Runs as runs
use Rattle.entry_index.specs.declared.index.EntryIndex.{EntryIndex}
use Rattle.entry_index.specs.Among.{IsIndexOf}
use Rattle.entry_index.proofs.AmongLaws.{index_stamps}

-- a reign that begins later is none of these entries'
pub stamp_later : (n : ℕ) (rs : List Reign) (x : Reign) → n < x.start → stamp_at n (rs ++ x ∷ []) ≡ stamp_at n rs
stamp_later n [] x late = let no : nat_le x.start n ≡ false = grind (arith, nat_tests) in rw no refl
stamp_later n (r ∷ rs) x late = ap (λ (o : Option Stamp). option_or o (if nat_le r.start n then Some r.stamp else None)) (stamp_later n rs x late)

pub index_begun : (journal : ℕ → List Placed) (instance : List InstanceRecord) (x : Reign) (index : EntryIndex) (seq : Sequence) → length seq < x.start
    → IsIndexOf journal (reigns instance) index seq → IsIndexOf journal (reigns (instance ++ Reigned x ∷ [])) index seq
index_begun journal instance x index seq late is = index_stamps journal (reigns instance) (reigns (instance ++ Reigned x ∷ [])) index seq
    (λ n low. ap (stamp_at (suc n)) (runs.reigns-more instance x) ∙ stamp_later (suc n) (reigns instance) x (omega (arith, low, late))) is

-- a CUT at their number drops no reign of these entries
stamp_kept : (n t : ℕ) (r : Reign) (rs : List Reign) → n ≤ t → stamp_at n (if nat_le r.start t then r ∷ rs else rs) ≡ option_or (stamp_at n rs) (if nat_le r.start n then Some r.stamp else None)
stamp_kept n t r rs low = by_test (nat_le r.start t) refl
  where
    none_later : (o : Option Stamp) → o ≡ option_or o None
    none_later None = refl
    none_later (Some s) = refl

    by_test : (b : Bool) → nat_le r.start t ≡ b → stamp_at n (if b then r ∷ rs else rs) ≡ option_or (stamp_at n rs) (if nat_le r.start n then Some r.stamp else None)
    by_test true e = refl
    by_test false e = let no : nat_le r.start n ≡ false = grind (arith, nat_tests, e, low) in rw no (none_later (stamp_at n rs))

stamp_filter : (n t : ℕ) (rs : List Reign) → n ≤ t → stamp_at n (filter (λ (r : Reign). nat_le r.start t) rs) ≡ stamp_at n rs
stamp_filter n t [] low = refl
stamp_filter n t (r ∷ rs) low = stamp_kept n t r (filter (λ (r : Reign). nat_le r.start t) rs) low ∙ ap (λ (o : Option Stamp). option_or o (if nat_le r.start n then Some r.stamp else None)) (stamp_filter n t rs low)

pub index_cut : (journal : ℕ → List Placed) (instance : List InstanceRecord) (t g : ℕ) (index : EntryIndex) (seq : Sequence) → length seq ≤ t
    → IsIndexOf journal (reigns instance) index seq → IsIndexOf journal (reigns (instance ++ Cut t g ∷ [])) index seq
index_cut journal instance t g index seq low is = index_stamps journal (reigns instance) (reigns (instance ++ Cut t g ∷ [])) index seq
    (λ n below. ap (stamp_at (suc n)) (runs.reigns-cut instance t g) ∙ stamp_filter (suc n) t (reigns instance) (omega (arith, below, low))) is

-- files that are the same up to a generation
pub stand_same : (old new : Files) (r h : ℕ) (js : List Placed) → ((n : ℕ) → n ≤ h → new (journal_file n r) ≡ old (journal_file n r)) → StandUpTo old r h js → StandUpTo new r h js
stand_same old new r h js same stand g o x among =
    let at = stand g o x among in
    (at.0, at.1, subst (λ (file : List ℕ). StandsAt file o x) (sym (same g at.1)) at.2)

-- files that are on the disk for good
pub stand_images : (v : View) (files : Files) (r h : ℕ) (js : List Placed) → AreDurable v r h files → StandUpTo files r h js → (f : Files) → Image v f → StandUpTo f r h js
stand_images v files r h js durable stand f image g o x among =
    let at = stand g o x among in
    (at.0, at.1, subst (λ (file : List ℕ). StandsAt file o x) (sym (durable g at.0 at.1 f image)) at.2)
