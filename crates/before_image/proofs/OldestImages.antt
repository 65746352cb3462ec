-- The oldest images of blocks.
use Rattle.std.proofs.Common.{◌≡◌, inl, inr, ℕ, ◌+◌, ◌*◌, ◌<◌, ◌≤◌, ◌==◌, nat_lt, true, false, List, [], ◌∷◌, ◌++◌, length, take, drop, map, max, replicate, Option, Some, None, is_some, refl, sym, ◌∙◌, ap, arith, unwrap_or}
use Rattle.std.specs.Prelude.{Result, Ok, Err, OnOk, IfSome, if◌then◌else◌}
use Rattle.std.specs.Option.{option_or, IsSome}
use Rattle.std.specs.Map.{lookup}
use Rattle.std.specs.Ordering.{nat_cmp, is_eq}
use Rattle.std.specs.BTreeMap.{BTreeMap, get, is_at, Updates}
use Rattle.std.specs.declared.cmp.Ordering.{Ordering}
use Rattle.std.specs.declared.cmp.Ordering.TheVariants.{Less, Equal, Greater}
use Rattle.std.proofs.lemmas.Map.Lookups.{exact_unsigned}
use Rattle.std.proofs.lemmas.Bool.{cases_eq}
use Rattle.std.proofs.lemmas.Bool.Decides.{nat_tests}
use Rattle.std.proofs.lemmas.List.{length-set, length-map, length-replicate, get_or-set_same, get_or-set_other, get_or-replicate, get_or-map, get_or_past, map-append}
use Rattle.std.proofs.lemmas.List.FromFn.{length-map-range_with_len, get_or-map-range_with_len, map-range_with_len_more, fill_by_all}
use Rattle.disk_defs.specs.Disk.{Files}
use Rattle.journal_defs.specs.Journal.{Before, Pblk}
use Rattle.journal_defs.specs.Sequence.{Placed}
use Rattle.journal_defs.specs.Epochs.{Blocks, Chosen, image_in, image_of, image_state, block_of}
use Rattle.journal_defs.specs.Undo.{logged}
use Rattle.journal_laws.proofs.Images.{image_of-append, image_of-other, image_in-here, image_in-there}
use Rattle.before_image.specs.Images.{is_free, Knows}
use Rattle.before_image.specs.Undoing.{Oldest, images_below, oldest_of, with_oldest, Undoes}
use Rattle.before_image.proofs.Marks.{no_both}

pub none_of : (o : Option (List ℕ)) → is_some o ≡ false → o ≡ None
none_of None is = refl
none_of (Some x) is = absurd (no_both true refl is)

pub some_of : (o : Option (List ℕ)) → is_some o ≡ true → IsSome o
some_of None is = is
some_of (Some x) is = is

-- ---- the images of the blocks below a number

images_length : (n : ℕ) (f : ℕ → Option (List ℕ)) → length (images_below n f) ≡ n
images_length n f = length-map-range_with_len f 0 n

-- no image of any
pub images_none : (n : ℕ) (f : ℕ → Option (List ℕ)) → ((b : ℕ) → f b ≡ None) → images_below n f ≡ replicate n None
images_none n f none = sym (fill_by_all f (replicate n None) n None (length-replicate {A = Option (List ℕ)} n None) (λ b inside. get_or-replicate {A = Option (List ℕ)} n b None None inside ∙ sym (none b)))

pub images_at : (n : ℕ) (f : ℕ → Option (List ℕ)) (b : ℕ) → b < n → oldest_of (images_below n f) b ≡ f b
images_at n f b inside = get_or-map-range_with_len f 0 n b b None inside (omega arith)

pub images_past : (n : ℕ) (f : ℕ → Option (List ℕ)) (b : ℕ) → n ≤ b → oldest_of (images_below n f) b ≡ None
images_past n f b far = get_or_past (images_below n f) b None (omega (arith, far, images_length n f))

-- an image that is taken, of a block below the number that has none yet
pub images_taken : (n : ℕ) (f g : ℕ → Option (List ℕ)) (b : ℕ) (image : List ℕ) → ((q : ℕ) → (q ≡ b → ⊥) → g q ≡ f q) → (b < n → g b ≡ option_or (f b) (Some image))
    → images_below n g ≡ with_oldest (images_below n f) b image
images_taken n f g b image others here =
    let us : Oldest = images_below n f in
    let known : Option (List ℕ) = option_or (oldest_of us b) (Some image) in
    sym (fill_by_all g (with_oldest us b image) n None (length-set us b known ∙ images_length n f) (λ k inside. elim (cases_eq k b) [
      | inl is ↦
          ap (oldest_of (with_oldest us b image)) is
          ∙ get_or-set_same us b known None (omega (arith, inside, is, images_length n f))
          ∙ ap (λ (o : Option (List ℕ)). option_or o (Some image)) (images_at n f b (omega (arith, inside, is)))
          ∙ sym (here (omega (arith, inside, is)))
          ∙ ap g (sym is)
      | inr other ↦ get_or-set_other us b k known None other ∙ images_at n f k inside ∙ sym (others k other)
    ]))

pub past_test : (n b : ℕ) → n ≤ b → nat_lt b n ≡ false
past_test n b far = grind (arith, nat_tests)

-- the same by what is seen of them
pub seen_none : (n : ℕ) (m : BTreeMap ℕ (List ℕ)) → m.entries ≡ [] → images_below n (get nat_cmp m) ≡ replicate n None
seen_none n m empty = images_none n (get nat_cmp m) (λ b. ap (λ (es : List (ℕ × List ℕ)). lookup (is_at (nat_cmp b)) es) empty)

pub seen_at : (n : ℕ) (f : ℕ → Option (List ℕ)) (us : Oldest) (b : ℕ) → images_below n f ≡ us → b < n → oldest_of us b ≡ f b
seen_at n f us b is inside = ap (λ (x : Oldest). oldest_of x b) (sym is) ∙ images_at n f b inside

pub seen_past : (n : ℕ) (f : ℕ → Option (List ℕ)) (us : Oldest) (b : ℕ) → images_below n f ≡ us → n ≤ b → oldest_of us b ≡ None
seen_past n f us b is far = ap (λ (x : Oldest). oldest_of x b) (sym is) ∙ images_past n f b far

pub seen_length : (n : ℕ) (f : ℕ → Option (List ℕ)) (us : Oldest) → images_below n f ≡ us → length us ≡ n
seen_length n f us is = ap length (sym is) ∙ images_length n f

-- no image is taken of a block that isn't below the number, or has one
pub seen_same : (n : ℕ) (f : ℕ → Option (List ℕ)) (us : Oldest) (b : ℕ) (image : List ℕ) → images_below n f ≡ us → (b < n → IsSome (f b)) → us ≡ with_oldest us b image
seen_same n f us b image is some =
    sym is ∙ images_taken n f f b image (λ q other. refl) (λ inside. kept (f b) (some inside)) ∙ ap (λ (x : Oldest). with_oldest x b image) is
  where
    kept : (o : Option (List ℕ)) → IsSome o → o ≡ option_or o (Some image)
    kept None there = absurd (no_both false there refl)
    kept (Some x) there = refl

apart : (b q : ℕ) → (q ≡ b → ⊥) → is_at (nat_cmp b) q ≡ false
apart b q other = by_order (nat_cmp b q) refl
  where
    by_order : (o : Ordering) → nat_cmp b q ≡ o → is_eq o ≡ false
    by_order Less is = refl
    by_order Equal is = absurd (other (sym (exact_unsigned b q is)))
    by_order Greater is = refl

-- the first image of a block is put
pub seen_put : (n : ℕ) (m k : BTreeMap ℕ (List ℕ)) (us : Oldest) (b : ℕ) (image : List ℕ) → images_below n (get nat_cmp m) ≡ us → get nat_cmp m b ≡ None → Updates nat_cmp m k b (Some image)
    → images_below n (get nat_cmp k) ≡ with_oldest us b image
seen_put n m k us b image is none updates =
    images_taken n (get nat_cmp m) (get nat_cmp k) b image
    (λ q other. updates.2 q (apart b q other))
    (λ inside. updates.1 ∙ sym (ap (λ (o : Option (List ℕ)). option_or o (Some image)) none))
    ∙ ap (λ (x : Oldest). with_oldest x b image) is

-- marks of one block more
pub marked_more : (n : ℕ) (f : ℕ → Option (List ℕ)) → map is_some (images_below (n + 1) f) ≡ map is_some (images_below n f) ++ is_some (f n) ∷ []
marked_more n f = ap (map is_some) (map-range_with_len_more f 0 n n (omega arith)) ∙ map-append is_some (images_below n f) (f n ∷ [])

pub undoes_none : (number blocks : ℕ) → Undoes (replicate blocks None) (record { number = number; blocks = blocks; after = [] })
undoes_none number blocks = record {
  blocks = length-replicate {A = Option (List ℕ)} blocks None;
  oldest = λ b inside. get_or-replicate {A = Option (List ℕ)} blocks b None None inside;
}

-- the image that was taken stands, where there was none
taken_at : (us : Oldest) (b : ℕ) (image : List ℕ) → b < length us → oldest_of (with_oldest us b image) b ≡ option_or (oldest_of us b) (Some image)
taken_at us b image inside = get_or-set_same us b (option_or (oldest_of us b) (Some image)) None inside

pub undoes_image : (us : Oldest) (e : Chosen) (g : ℕ) (i : Before) → Undoes us e → Undoes (with_oldest us i.block i.bytes) (logged e (record { generation = g; what = Pblk i }))
undoes_image us e g i undoes =
    let p : Placed = record { generation = g; what = Pblk i } in
    let known = option_or (oldest_of us i.block) (Some i.bytes) in
    record {
      blocks = length-set us i.block known ∙ undoes.blocks;
      oldest = λ b inside. elim (cases_eq b i.block) [
        | inl here ↦
            ap (oldest_of (with_oldest us i.block i.bytes)) here
            ∙ taken_at us i.block i.bytes (omega (arith, inside, here, undoes.blocks))
            ∙ ap (λ (o : Option (List ℕ)). option_or o (Some i.bytes)) (undoes.oldest i.block (omega (arith, inside, here)))
            ∙ sym (ap (λ (o : Option (List ℕ)). option_or (image_of e.after i.block) (option_or o None)) (image_in-here i i.block refl))
            ∙ sym (image_of-append e.after (p ∷ []) i.block)
            ∙ sym (ap (image_of (e.after ++ p ∷ [])) here)
        | inr other ↦ get_or-set_other us i.block b known None other ∙ undoes.oldest b inside ∙ sym (image_of-other e.after p b (image_in-there i b other))
      ];
    }

pub undoes_other : (us : Oldest) (e : Chosen) (p : Placed) → Undoes us e → ((b : ℕ) → image_in p.what b ≡ None) → Undoes us (logged e p)
undoes_other us e p undoes none = record {
  blocks = undoes.blocks;
  oldest = λ b inside. undoes.oldest b inside ∙ sym (image_of-other e.after p b (none b));
}

mark_at : (us : Oldest) (e : Chosen) (b : ℕ) → Undoes us e → b < e.blocks → is_free (map is_some us) b ≡ is_some (image_of e.after b)
mark_at us e b undoes inside = get_or-map is_some us b None true (omega (arith, inside, undoes.blocks)) ∙ ap is_some (undoes.oldest b inside)

-- the blocks that have an image are those that are marked
pub knows_undone : (us : Oldest) (e : Chosen) → Undoes us e → Knows (map is_some us) e
knows_undone us e undoes = record {
  blocks = length-map us is_some ∙ undoes.blocks;
  imaged = λ b inside free. sym (mark_at us e b undoes inside) ∙ free;
  others = λ b inside taken. none_of (image_of e.after b) (sym (mark_at us e b undoes inside) ∙ taken);
}

first_zeros : (n b : ℕ) (block zeros : Option (List ℕ)) → n ≡ 0 → b ≡ 0 → (if nat_lt b n then block else if b == 0 then zeros else None) ≡ zeros
first_zeros n b block zeros none first = grind (arith, nat_tests)

-- an epoch of no blocks has one, of zeros
pub state_past : (us : Oldest) (e : Chosen) (file : Blocks) (b : ℕ) → Undoes us e → length us ≤ b → b < max 1 (length us) → image_state e file b ≡ Some (replicate 4096 0)
state_past us e file b undoes far inside =
    let first : b ≡ 0 = omega (arith, far, inside) in
    let none : e.blocks ≡ 0 = omega (arith, far, inside, undoes.blocks) in
    first_zeros e.blocks b (Some (unwrap_or (image_of e.after b) (file b))) (Some (replicate 4096 0)) none first

pub state_inside : (e : Chosen) (file : Blocks) (b : ℕ) → b < e.blocks → image_state e file b ≡ Some (unwrap_or (image_of e.after b) (file b))
state_inside e file b inside = grind (arith, nat_tests)

pub state_known : (us : Oldest) (e : Chosen) (file : Blocks) (b : ℕ) → Undoes us e → b < length us → image_state e file b ≡ Some (unwrap_or (oldest_of us b) (file b))
state_known us e file b undoes inside =
    let below : b < e.blocks = omega (arith, inside, undoes.blocks) in
    state_inside e file b below ∙ ap (λ (o : Option (List ℕ)). Some (unwrap_or o (file b))) (sym (undoes.oldest b below))

-- the zeros that were written are the block below an epoch of no blocks
pub zeros_told : (o : Option Files) (us : Oldest) (file b : ℕ) (out : List ℕ) → length us ≤ b → b < max 1 (length us) → out ≡ replicate 4096 0
    → IfSome o (λ files. (e : Chosen) → Undoes us e → image_state e (block_of (files file)) b ≡ Some out)
zeros_told None us file b out far inside is = tt
zeros_told (Some files) us file b out far inside is = λ e undoes.
    state_past us e (block_of (files file)) b undoes far inside ∙ ap (λ (x : List ℕ). Some x) (sym is)

-- the image that was read is the block below the epoch
pub image_told : (o : Option Files) (us : Oldest) (file b : ℕ) (out : List ℕ) → b < length us → oldest_of us b ≡ Some out
    → IfSome o (λ files. (e : Chosen) → Undoes us e → image_state e (block_of (files file)) b ≡ Some out)
image_told None us file b out inside is = tt
image_told (Some files) us file b out inside is = λ e undoes.
    state_known us e (block_of (files file)) b undoes inside ∙ ap (λ (image : Option (List ℕ)). Some (unwrap_or image (block_of (files file) b))) is

-- the file has a block whole that has no image
pub whole_there : (o : Option Files) (us : Oldest) (file b n : ℕ) → b < length us → oldest_of us b ≡ None → n ≡ 4096
    → IfSome o (λ files. b < length us → oldest_of us b ≡ None → 4096 * b + 4096 ≤ length (files file)) → IfSome o (λ files. 4096 * b + n ≤ length (files file))
whole_there None us file b n inside none size whole = tt
whole_there (Some files) us file b n inside none size whole = let there = whole inside none in omega (arith, size, there)

-- the file's block that was read is that below the epoch, where it has no image
pub read_told : (o : Option Files) (us : Oldest) (file b n : ℕ) (out : List ℕ) → b < length us → oldest_of us b ≡ None → n ≡ 4096
    → IfSome o (λ files. out ≡ take n (drop (4096 * b) (files file)))
    → IfSome o (λ files. (e : Chosen) → Undoes us e → image_state e (block_of (files file)) b ≡ Some out)
read_told None us file b n out inside none size is = tt
read_told (Some files) us file b n out inside none size is = λ e undoes.
    state_known us e (block_of (files file)) b undoes inside
    ∙ ap (λ (image : Option (List ℕ)). Some (unwrap_or image (block_of (files file) b))) none
    ∙ ap (λ (k : ℕ). Some (take k (drop (4096 * b) (files file)))) (sym size)
    ∙ ap (λ (x : List ℕ). Some x) (sym is)

pub on_ok : {T E P Q : Type 0} → (r : Result T E) → OnOk r P → (P → Q) → OnOk r Q
on_ok (Ok x) p k = k p
on_ok (Err e) p k = tt
