-- Images that are read from the places of their signs.
use Rattle.std.proofs.Common.{◌≡◌, ℕ, ◌+◌, ◌<◌, ◌≤◌, Bool, true, false, List, [], ◌∷◌, ◌++◌, length, map, take, get_or, Option, IfSome, refl, sym, ◌∙◌, ap, subst, arith, append-nil}
use Rattle.std.proofs.lemmas.List.{take_all, map-append}
use Rattle.std.proofs.lemmas.List.Elements.{filter-append}
use Rattle.global_defs.specs.declared.limits.TheConstants.{MOST_GENERATIONS}
use Rattle.disk_defs.specs.Disk.{Files}
use Rattle.disk_defs.proofs.Told.{weaker_told, both_weak}
use Rattle.journal_defs.specs.Journal.{JournalRecord, Before, Pini, Epoch, Pblk, Tcom, IsInForm}
use Rattle.journal_defs.specs.Numbers.{journal_file}
use Rattle.journal_defs.specs.Sequence.{Placed}
use Rattle.journal_laws.proofs.ImageSteps.{all_both}
use Rattle.block_laws.specs.Nodes.{AreFormed}
use Rattle.jnl_record.specs.declared.placed.PlacedRecord.{PlacedRecord}
use Rattle.jnl_record.specs.Values.{record_value, placed_value}
use Rattle.jnl_file.proofs.Newer.{all_told}
use Rattle.jnl_file.proofs.Zips.{zip_length}
use Rattle.entry_index.specs.declared.placed.PlacedSign.{PlacedSign}
use Rattle.entry_index.specs.declared.sign.Sign.{Sign}
use Rattle.entry_index.specs.declared.sign.Sign.TheVariants as signs
use Rattle.entry_index.specs.RecordSigns.{sign_of}
use Rattle.entry_index.specs.Places.{StandsAt, IsSignOf}
use Rattle.region_opening.specs.Images.{is_image, images_in}
use Rattle.region_opening.specs.Signs.{IsDrawn, AreTold}
use Rattle.region_opening.proofs.Said.{NO_SIGN, sign_at}

-- ---- one record

-- the sign is that of an image
abbrev pub says_image : Sign → Bool
says_image (signs.Pblk block) = true
says_image (signs.Pini region before generation previous) = false
says_image (signs.Epoch closing number blocks) = false
says_image (signs.Tcom number mask origin count span) = false

by_kind : (what : JournalRecord) → is_image what ≡ says_image (sign_of what)
by_kind (Pblk i) = refl
by_kind (Pini s) = refl
by_kind (Epoch m) = refl
by_kind (Tcom p) = refl

-- a record that is an image
of_image : (what : JournalRecord) → is_image what ≡ true → (i : Before) × (what ≡ Pblk i)
of_image (Pblk i) is = (i, refl)
of_image (Pini s) is = let gone : false ≡ true = is in cc
of_image (Epoch m) is = let gone : false ≡ true = is in cc
of_image (Tcom p) is = let gone : false ≡ true = is in cc

one_kept : (p : Placed) → is_image p.what ≡ true → images_in (p ∷ []) ≡ p ∷ []
one_kept p is = rw is refl

one_dropped : (p : Placed) → is_image p.what ≡ false → images_in (p ∷ []) ≡ []
one_dropped p is = rw is refl

same_record : (p q : Placed) → p.generation ≡ q.generation → p.what ≡ q.what → p ≡ q
same_record p q generation what = λ i. record { generation = generation i; what = what i }

-- all records but for one more
records_more : (made news : List PlacedRecord) (x : PlacedRecord) → news ≡ made ++ x ∷ [] → map placed_value news ≡ map placed_value made ++ placed_value x ∷ []
records_more made news x is = ap (map placed_value) is ∙ map-append placed_value made (x ∷ [])

pub formed_more : (made news : List PlacedRecord) (x : PlacedRecord) → news ≡ made ++ x ∷ [] → AreFormed (map placed_value made) → IsInForm (record_value x.what) → AreFormed (map placed_value news)
formed_more made news x is formed form = subst AreFormed (sym (records_more made news x is)) (all_both (λ p. IsInForm p.what) (map placed_value made) (placed_value x ∷ []) formed (form, tt))

module _ (o : Option Files) (r : ℕ) (s : PlacedSign) where
  -- what was added is the image of this sign
  abbrev pub IsAdded : List PlacedRecord → List PlacedRecord → Files → Type 0
  IsAdded made news files = (p : Placed) → IsSignOf files r s p → map placed_value news ≡ map placed_value made ++ images_in (p ∷ [])

  said : (files : Files) (p : Placed) (b : Bool) → says_image s.sign ≡ b → IsSignOf files r s p → is_image p.what ≡ b
  said files p b is sign = by_kind p.what ∙ ap says_image (sym sign.says) ∙ is

  there : (files : Files) (p : Placed) → IsSignOf files r s p → StandsAt (files (journal_file s.generation r)) s.offset p.what
  there files p sign = subst (λ (g : ℕ). StandsAt (files (journal_file g r)) s.offset p.what) (sym sign.generation) sign.stands

  pub added : (made news : List PlacedRecord) (x : PlacedRecord) → says_image s.sign ≡ true → x.generation ≡ s.generation → news ≡ made ++ x ∷ []
      → IfSome o (λ files. (w : JournalRecord) → StandsAt (files (journal_file s.generation r)) s.offset w → record_value x.what ≡ w) → IfSome o (IsAdded made news)
  added made news x image generation is told = weaker_told o (λ files. (w : JournalRecord) → StandsAt (files (journal_file s.generation r)) s.offset w → record_value x.what ≡ w) (IsAdded made news) told (λ files h p sign.
      let same : placed_value x ≡ p = same_record (placed_value x) p (generation ∙ sign.generation) (h p.what (there files p sign)) in
      records_more made news x is ∙ ap (λ (ps : List Placed). map placed_value made ++ ps) (ap (λ (q : Placed). q ∷ []) same ∙ sym (one_kept p (said files p true image sign))))

  -- no other record is added
  pub not_added : (made : List PlacedRecord) → says_image s.sign ≡ false → IfSome o (IsAdded made made)
  not_added made other = all_told o (IsAdded made made) (λ files p sign. sym (ap (λ (ps : List Placed). map placed_value made ++ ps) (one_dropped p (said files p false other sign)) ∙ append-nil (map placed_value made)))

  -- where no image stands the sign is that of no record
  pub not_there : says_image s.sign ≡ true → IfSome o (λ files. (i : Before) → StandsAt (files (journal_file s.generation r)) s.offset (Pblk i) → s.generation ≤ MOST_GENERATIONS → ⊥)
      → IfSome o (λ files. (p : Placed) → IsSignOf files r s p → IsDrawn p → ⊥)
  not_there image told = weaker_told o (λ files. (i : Before) → StandsAt (files (journal_file s.generation r)) s.offset (Pblk i) → s.generation ≤ MOST_GENERATIONS → ⊥) (λ files. (p : Placed) → IsSignOf files r s p → IsDrawn p → ⊥) told
      (λ files none p sign drawn.
      let is = of_image p.what (said files p true image sign) in
      let low : s.generation ≤ MOST_GENERATIONS = let same = sign.generation in let high = drawn.1 in omega (arith, same, high) in
      none is.0 (subst (λ (w : JournalRecord). StandsAt (files (journal_file s.generation r)) s.offset w) is.1 (there files p sign)) low)

-- ---- all records

-- the records of the first of these signs
module _ (o : Option Files) (r : ℕ) (ss : List PlacedSign) where
  -- these are the images among the first i
  abbrev pub AreImages : ℕ → List PlacedRecord → Files → Type 0
  AreImages i made files = (js : List Placed) → AreTold files r ss js → map placed_value made ≡ images_in (take i js)

  pub images_more : (i : ℕ) (made news : List PlacedRecord) → i < length ss → IfSome o (AreImages i made) → IfSome o (IsAdded o r (get_or ss i NO_SIGN) made news) → IfSome o (AreImages (i + 1) news)
  images_more i made news low told this = both_weak o (AreImages i made) (IsAdded o r (get_or ss i NO_SIGN) made news) (AreImages (i + 1) news) told this (λ files all added js are.
      let at = sign_at files r ss js i NO_SIGN low are in
      added at.0 at.2
      ∙ ap (λ (ps : List Placed). ps ++ images_in (at.0 ∷ [])) (all js are)
      ∙ sym (ap images_in at.1 ∙ filter-append (λ (p : Placed). is_image p.what) (take i js) (at.0 ∷ [])))

  pub all_images : (i : ℕ) (made : List PlacedRecord) → length ss ≤ i → IfSome o (AreImages i made) → IfSome o (λ files. (js : List Placed) → AreTold files r ss js → map placed_value made ≡ images_in js)
  all_images i made past told = weaker_told o (AreImages i made) (λ files. (js : List Placed) → AreTold files r ss js → map placed_value made ≡ images_in js) told (λ files all js are.
      let many : length ss ≡ length js = zip_length (IsSignOf files r) ss js are.signs_of in
      all js are ∙ ap images_in (take_all i js (omega (arith, many, past))))

  -- where a sign is that of no record there are none
  pub never_told : (i : ℕ) → i < length ss → IfSome o (λ files. (p : Placed) → IsSignOf files r (get_or ss i NO_SIGN) p → IsDrawn p → ⊥) → IfSome o (λ files. (js : List Placed) → AreTold files r ss js → ⊥)
  never_told i low told = weaker_told o (λ files. (p : Placed) → IsSignOf files r (get_or ss i NO_SIGN) p → IsDrawn p → ⊥) (λ files. (js : List Placed) → AreTold files r ss js → ⊥) told (λ files none js are.
      let at = sign_at files r ss js i NO_SIGN low are in none at.0 at.2 at.3)
