-- The oldest images among the records behind an epoch, and a block that is read back.
use Rattle.std.proofs.Common.{◌≡◌, ◌⊎◌, inl, inr, ⊎_elim, ℕ, zero, suc, ◌+◌, ◌*◌, ◌<◌, ◌≤◌, Bool, true, false, List, [], ◌∷◌, ◌++◌, length, take, map, Option, Some, None, unwrap_or, refl, sym, ap, subst, ◌∙◌, arith, get_or}
use Rattle.std.specs.Prelude.{IfSome, IfNone}
use Rattle.disk_defs.proofs.Told.{weaker_told, both_weak, told_at}
use Rattle.std.proofs.lemmas.List.{take_more, take_all, map-append}
use Rattle.disk_defs.specs.Disk.{Files}
use Rattle.journal_defs.specs.Journal.{JournalRecord, Pini, Epoch, Pblk, Tcom, IsInForm}
use Rattle.journal_defs.specs.Sequence.{Placed}
use Rattle.journal_defs.specs.Epochs.{Chosen, image_state, block_of}
use Rattle.journal_defs.specs.Undo.{logged}
use Rattle.journal_defs.specs.Leaves.{Leaf, IsBlock}
use Rattle.site_defs.specs.OutsideBlocks.{IsOutsideAt, Short, Broken}
use Rattle.block_pool.specs.Code.{Pool}
use Rattle.block_pool.specs.Pool.{IsAdded}
use Rattle.before_image.specs.Undoing.{Oldest, oldest_of, Undoes}
use Rattle.before_image.proofs.OldestImages.{undoes_image, undoes_other, state_inside}
use Rattle.jnl_record.specs.Values.{record_value, placed_value}
use Rattle.block_laws.specs.Nodes.{AreFormed}
use Rattle.block_pool.proofs.Written.{block_inside}
use Rattle.jnl_record.specs.declared.placed.PlacedRecord.{PlacedRecord}
use Rattle.region_store.specs.Laid.{epoch_at, taken, IsBlank, AreLaid}
use Rattle.region_store.proofs.Stood.{same_bytes}
use Rattle.region_store.proofs.Lays.{none_laid, laid_more}
use Rattle.region_store.proofs.Breaks.{breaks_at_first}

-- with a record more they are the oldest ones behind it too
pub undoes_taken : (us : Oldest) (e : Chosen) (g : ℕ) (what : JournalRecord) → Undoes us e → Undoes (taken us what) (logged e (record { generation = g; what = what }))
undoes_taken us e g (Pblk i) u = undoes_image us e g i u
undoes_taken us e g (Pini s) u = undoes_other us e (record { generation = g; what = Pini s }) u (λ b. refl)
undoes_taken us e g (Epoch m) u = undoes_other us e (record { generation = g; what = Epoch m }) u (λ b. refl)
undoes_taken us e g (Tcom p) u = undoes_other us e (record { generation = g; what = Tcom p }) u (λ b. refl)

-- with one record more
pub undone_more : (us : Oldest) (number blocks i : ℕ) (behind : List PlacedRecord) (x : PlacedRecord) → i < length behind → x ≡ get_or behind i x → Undoes us (logged (epoch_at number blocks (take i behind)) (placed_value x))
    → Undoes us (epoch_at number blocks (take (i + 1) behind))
undone_more us number blocks i behind x low is u =
    let more : take (i + 1) behind ≡ take i behind ++ x ∷ [] = take_more behind i x low ∙ ap (λ (y : PlacedRecord). take i behind ++ y ∷ []) (sym is) in
    let after : map placed_value (take i behind) ++ placed_value x ∷ [] ≡ map placed_value (take (i + 1) behind) = sym (map-append placed_value (take i behind) (x ∷ [])) ∙ ap (map placed_value) (sym more) in
    subst (λ (ps : List Placed). Undoes us (record { number = number; blocks = blocks; after = ps })) after u

pub undone_all : (us : Oldest) (number blocks i : ℕ) (behind : List PlacedRecord) → length behind ≤ i → Undoes us (epoch_at number blocks (take i behind)) → Undoes us (epoch_at number blocks behind)
undone_all us number blocks i behind far u = subst (λ (ps : List PlacedRecord). Undoes us (epoch_at number blocks ps)) (take_all i behind far) u

-- ---- a block that comes from the file

-- bytes of the file where it has no image
pub on_file : (us : Oldest) (e : Chosen) (file : List ℕ) (n : ℕ) (bytes : List ℕ) → Undoes us e → n < e.blocks → oldest_of us n ≡ None → image_state e (block_of file) n ≡ Some bytes → bytes ≡ block_of file n
on_file us e file n bytes u inside none is =
    let there : image_state e (block_of file) n ≡ Some (block_of file n) =
    state_inside e (block_of file) n inside ∙ ap (λ (o : Option (List ℕ)). Some (unwrap_or o (block_of file n))) (sym (u.oldest n inside) ∙ none) in
    same_bytes (image_state e (block_of file) n) bytes (block_of file n) is there

pub none_of : {X P : Type 0} (o : Option X) → o ≡ None → IfNone o P → P
none_of None is p = p
none_of (Some x) is p = absurd (cc is)

pub some_of : {X : Type 0} (o : Option X) (x : X) (P : X → Type 0) → o ≡ Some x → IfSome o P → P x
some_of {X} o x P is p = subst (λ (r : Option X). IfSome r P) is p

-- the record at a place has its form
pub formed_at : (ps : List PlacedRecord) (i : ℕ) (x : PlacedRecord) → i < length ps → x ≡ get_or ps i x → AreFormed (map placed_value ps) → IsInForm (record_value x.what)
formed_at [] i x low is all = absurd (omega (arith, low))
formed_at (p ∷ ps) zero x low is all = subst (λ (y : PlacedRecord). IsInForm (record_value y.what)) (sym is) all.0
formed_at (p ∷ ps) (suc i) x low is all = formed_at ps i x (omega (arith, low)) is all.1

-- the file ends before a block does that comes from it
pub short_there : (o : Option Files) (us : Oldest) (f n blocks len : ℕ) → length us ≡ blocks → n < blocks → oldest_of us n ≡ None → len < 4096 * n + 4096 → IfSome o (λ files. len ≡ length (files f))
    → IfSome o (λ files. (e : Chosen) → Undoes us e → IsOutsideAt (image_state e (block_of (files f))) n)
short_there o us f n blocks len many low none short told = weaker_told o (λ files. len ≡ length (files f)) (λ files. (e : Chosen) → Undoes us e → IsOutsideAt (image_state e (block_of (files f))) n) told (λ files is e u.
    let inside : n < e.blocks = omega (arith, low, many, u.blocks) in
    let there : image_state e (block_of (files f)) n ≡ Some (block_of (files f) n) =
    state_inside e (block_of (files f)) n inside ∙ ap (λ (i : Option (List ℕ)). Some (unwrap_or i (block_of (files f) n))) (sym (u.oldest n inside) ∙ none) in
    Short (block_of (files f) n) there (λ size. let whole = block_inside (files f) n size in omega (arith, whole, is, short)))

-- what was read of block 0 is no block
pub first_breaks : (o : Option Files) (us : Oldest) (f n : ℕ) (bytes : List ℕ) → n ≡ 0 → ((l : Leaf) → IsBlock bytes l → ⊥)
    → IfSome o (λ files. (e : Chosen) → Undoes us e → image_state e (block_of (files f)) n ≡ Some bytes) → IfSome o (λ files. (e : Chosen) → Undoes us e → IsOutsideAt (image_state e (block_of (files f))) n)
first_breaks o us f n bytes first none told = weaker_told o (λ files. (e : Chosen) → Undoes us e → image_state e (block_of (files f)) n ≡ Some bytes) (λ files. (e : Chosen) → Undoes us e → IsOutsideAt (image_state e (block_of (files f))) n) told (λ files is e u.
    subst (IsOutsideAt (image_state e (block_of (files f)))) (sym first) (Broken (breaks_at_first (image_state e (block_of (files f))) bytes (ap (image_state e (block_of (files f))) (sym first) ∙ is e u) none)))

-- what was read of a block is laid into the pool
pub laid_told : (o : Option Files) (us : Oldest) (f n blocks len : ℕ) (bytes : List ℕ) (l : Leaf) (d on : Bool) (p q : Pool) → length us ≡ blocks → IfSome o (λ files. len ≡ length (files f))
    → IfSome o (λ files. (e : Chosen) → Undoes us e → image_state e (block_of (files f)) n ≡ Some bytes) → (n < blocks → oldest_of us n ≡ None → 4096 * n + 4096 ≤ len) → length bytes ≡ 4096
    → IsBlock bytes l ⊎ (IsBlank bytes n l × (d ≡ true)) → (d ≡ false → on ≡ true) → (on ≡ true → (n < blocks) × (oldest_of us n ≡ None)) → IsAdded p q l d
    → IfSome o (λ files. (e : Chosen) → Undoes us e → AreLaid e (files f) p n → AreLaid e (files f) q (n + 1))
laid_told o us f n blocks len bytes l d on p q many told read whole size stands clean comes added =
    both_weak o (λ files. len ≡ length (files f)) (λ files. (e : Chosen) → Undoes us e → image_state e (block_of (files f)) n ≡ Some bytes) (λ files. (e : Chosen) → Undoes us e → AreLaid e (files f) p n → AreLaid e (files f) q (n + 1)) told read
    (λ files is there e u were. laid_more e (files f) p q n l d added were bytes (there e u) size (⊎_elim (λ b. inl b) (λ x. inr x.0) stands) (stays files e u (there e u) stands)
    (λ low none. let at = whole (omega (arith, low, many, u.blocks)) (u.oldest n low ∙ none) in omega (arith, at, is)))
  where
    stays : (files : Files) (e : Chosen) → Undoes us e → image_state e (block_of (files f)) n ≡ Some bytes → IsBlock bytes l ⊎ (IsBlank bytes n l × (d ≡ true)) → d ≡ false → IsBlock (block_of (files f) n) l
    stays files e u there (inl is) keeps =
        let from = comes (clean keeps) in
        subst (λ (x : List ℕ). IsBlock x l) (on_file us e (files f) n bytes u (let low = from.0 in omega (arith, low, many, u.blocks)) from.1 there) is
    stays files e u there (inr blank) keeps = absurd (let no : true ≡ false = sym blank.1 ∙ keeps in cc)

-- the block that was read last is outside the format
pub outside_told : (o n : Option Files) (us : Oldest) (f number offset : ℕ) → n ≡ o → offset ≡ 4096 * number → IfSome n (λ files. (e : Chosen) → Undoes us e → IsOutsideAt (image_state e (block_of (files f))) number)
    → IfSome o (λ files. (e : Chosen) → Undoes us e → (b : ℕ) × (offset ≡ 4096 * b) × IsOutsideAt (image_state e (block_of (files f))) b)
outside_told o n us f number offset same at told =
    told_at o n (λ files. (e : Chosen) → Undoes us e → (b : ℕ) × (offset ≡ 4096 * b) × IsOutsideAt (image_state e (block_of (files f))) b) same
    (weaker_told n (λ files. (e : Chosen) → Undoes us e → IsOutsideAt (image_state e (block_of (files f))) number) (λ files. (e : Chosen) → Undoes us e → (b : ℕ) × (offset ≡ 4096 * b) × IsOutsideAt (image_state e (block_of (files f))) b) told
    (λ files is e u. (number, at, is e u)))

-- no block is laid yet
pub none_told : (o : Option Files) (us : Oldest) (f : ℕ) (p : Pool) → p.leaves ≡ [] → p.dirty ≡ [] → IfSome o (λ files. (e : Chosen) → Undoes us e → AreLaid e (files f) p 0)
none_told None us f p leaves dirty = tt
none_told (Some files) us f p leaves dirty = λ e u. none_laid e (files f) p (ap length leaves) (ap length dirty)

-- and one more
pub more_told : (o n : Option Files) (us : Oldest) (f k : ℕ) (p q : Pool) → n ≡ o → IfSome n (λ files. (e : Chosen) → Undoes us e → AreLaid e (files f) p k → AreLaid e (files f) q (k + 1)) → IfSome o (λ files. (e : Chosen) → Undoes us e → AreLaid e (files f) p k)
    → IfSome o (λ files. (e : Chosen) → Undoes us e → AreLaid e (files f) q (k + 1))
more_told o n us f k p q same step were =
    both_weak o (λ files. (e : Chosen) → Undoes us e → AreLaid e (files f) p k → AreLaid e (files f) q (k + 1)) (λ files. (e : Chosen) → Undoes us e → AreLaid e (files f) p k) (λ files. (e : Chosen) → Undoes us e → AreLaid e (files f) q (k + 1))
    (told_at o n (λ files. (e : Chosen) → Undoes us e → AreLaid e (files f) p k → AreLaid e (files f) q (k + 1)) same step) were (λ files next was e u. next e u (was e u))
