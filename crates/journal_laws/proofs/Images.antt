-- Image states through writes and records.
use Rattle.std.proofs.Common.{◌≡◌, ◌≢◌, inl, inr, ℕ, ◌+◌, ◌-◌, ◌*◌, ◌≤◌, ◌==◌, nat_lt, List, [], ◌∷◌, ◌++◌, take, drop, replicate, Option, Some, None, IsSome, refl, sym, ◌∙◌, ap, subst, arith, unwrap_or, if◌then◌else◌}
use Rattle.std.proofs.Math.Path.{fun_ext}
use Rattle.std.proofs.lemmas.Bool.{cases_eq, cases_lt}
use Rattle.std.proofs.lemmas.Bool.Decides.{nat_tests}
use Rattle.std.proofs.lemmas.List.{drop-take, take-take, drop-drop}
use Rattle.std.specs.Option.{option_or}
use Rattle.disk_defs.specs.Disk.{Torn}
use Rattle.journal_defs.specs.Journal.{Before, Pblk}
use Rattle.journal_defs.specs.Sequence.{Placed}
use Rattle.journal_defs.specs.Epochs.{Chosen, image_in, image_of, image_state, block_of, Blocks}
use Rattle.journal_defs.specs.Undo.{SameBut, MayWrite, MayLog, logged, IsEarlier}
use Rattle.journal_laws.proofs.Runs.{or_none, or_assoc}

-- the oldest image of a block in records and later ones
pub image_of-append : (ps qs : List Placed) (b : ℕ) → image_of (ps ++ qs) b ≡ option_or (image_of ps b) (image_of qs b)
image_of-append [] qs b = refl
image_of-append (p ∷ ps) qs b = ap (option_or (image_in p.what b)) (image_of-append ps qs b) ∙ sym (or_assoc (image_in p.what b) (image_of ps b) (image_of qs b))

image_of-one : (ps : List Placed) (p : Placed) (b : ℕ) → image_of (ps ++ p ∷ []) b ≡ option_or (image_of ps b) (image_in p.what b)
image_of-one ps p b = image_of-append ps (p ∷ []) b ∙ ap (option_or (image_of ps b)) (or_none (image_in p.what b))

-- the block that an image state has, by an image and the file's block
abbrev shown : Chosen → ℕ → Option (List ℕ) → List ℕ → Option (List ℕ)
shown e b image block = if nat_lt b e.blocks then Some (unwrap_or image block) else if b == 0 then Some (replicate 4096 0) else None

past : (e : Chosen) (b : ℕ) (i j : Option (List ℕ)) (x y : List ℕ) → e.blocks ≤ b → shown e b i x ≡ shown e b j y
past e b i j x y far = grind (arith, nat_tests)

pub has_image : (o : Option (List ℕ)) (x y : List ℕ) → IsSome o → unwrap_or o x ≡ unwrap_or o y
has_image None x y h = cc
has_image (Some i) x y h = refl

or_first : (o p : Option (List ℕ)) → IsSome o → option_or o p ≡ o
or_first None p h = cc
or_first (Some i) p h = refl

pub write_keeps : (e : Chosen) (old new : Blocks) (b : ℕ) → SameBut b old new → MayWrite e b → image_state e new ≡ image_state e old
write_keeps e old new b same may = fun_ext (λ c. elim (cases_eq c b) [
  | inl here ↦ elim may [
    | inl far ↦ past e c (image_of e.after c) (image_of e.after c) (new c) (old c) (omega arith)
    | inr has ↦ ap (λ (x : List ℕ). shown e c (Some x) (old c)) (has_image (image_of e.after c) (new c) (old c) (subst (λ (k : ℕ). IsSome (image_of e.after k)) (sym here) has))
  ]
  | inr other ↦ ap (shown e c (image_of e.after c)) (same c other)
])

pub some_or : (o p : Option (List ℕ)) → IsSome o → IsSome (option_or o p)
some_or None p h = cc
some_or (Some i) p h = refl

pub or_some : (o p : Option (List ℕ)) → IsSome p → IsSome (option_or o p)
or_some None p h = h
or_some (Some i) p h = refl

-- the first image of this block is the block as it stands on the file
as_on_file : (o : Option (List ℕ)) (i x : List ℕ) → x ≡ i → unwrap_or (option_or o (Some i)) x ≡ unwrap_or o x
as_on_file None i x same = sym same
as_on_file (Some y) i x same = refl

pub image_of-other : (ps : List Placed) (p : Placed) (b : ℕ) → image_in p.what b ≡ None → image_of (ps ++ p ∷ []) b ≡ image_of ps b
image_of-other ps p b none = image_of-one ps p b ∙ ap (option_or (image_of ps b)) none ∙ or_none (image_of ps b)

pub other_keeps : (e : Chosen) (database : Blocks) (p : Placed) → ((b : ℕ) → image_in p.what b ≡ None) → image_state (logged e p) database ≡ image_state e database
other_keeps e database p none = fun_ext (λ c. ap (λ (o : Option (List ℕ)). shown e c o (database c)) (image_of-other e.after p c (none c)))

pub image_in-here : (i : Before) (b : ℕ) → b ≡ i.block → image_in (Pblk i) b ≡ Some i.bytes
image_in-here i b here = grind (arith, nat_tests)

pub image_in-there : (i : Before) (b : ℕ) → b ≢ i.block → image_in (Pblk i) b ≡ None
image_in-there i b other = grind (arith, nat_tests)

image_here : (e : Chosen) (database : Blocks) (i : Before) (b : ℕ) → b ≡ i.block → MayLog e database i
    → shown e b (option_or (image_of e.after b) (Some i.bytes)) (database b) ≡ shown e b (image_of e.after b) (database b)
image_here e database i b here (inl (inl far)) = past e b (option_or (image_of e.after b) (Some i.bytes)) (image_of e.after b) (database b) (database b) (omega arith)
image_here e database i b here (inl (inr has)) =
    ap (λ (o : Option (List ℕ)). shown e b o (database b)) (or_first (image_of e.after b) (Some i.bytes) (subst (λ (k : ℕ). IsSome (image_of e.after k)) (sym here) has))
image_here e database i b here (inr same) =
    ap (λ (x : List ℕ). shown e b (Some x) (database b)) (as_on_file (image_of e.after b) i.bytes (database b) (ap database here ∙ same))

pub image_keeps : (e : Chosen) (database : Blocks) (g : ℕ) (i : Before) → MayLog e database i → image_state (logged e (record { generation = g; what = Pblk i })) database ≡ image_state e database
image_keeps e database g i may = fun_ext (λ c.
    let p : Placed = record { generation = g; what = Pblk i } in
    elim (cases_eq c i.block) [
      | inl here ↦
          ap (λ (o : Option (List ℕ)). shown e c o (database c)) (image_of-one e.after p c ∙ ap (option_or (image_of e.after c)) (image_in-here i c here))
          ∙ image_here e database i c here may
      | inr other ↦ ap (λ (o : Option (List ℕ)). shown e c o (database c)) (image_of-other e.after p c (image_in-there i c other))
    ])

pub write_earlier : (d e : Chosen) (b : ℕ) → IsEarlier d e → d.blocks ≤ e.blocks → MayWrite e b → MayWrite d b
write_earlier d e b earlier fewer (inl far) = inl (omega arith)
write_earlier d e b earlier fewer (inr has) =
    inr (subst (λ (ps : List Placed). IsSome (image_of ps b)) (sym earlier.1) (subst (λ (o : Option (List ℕ)). IsSome o) (sym (image_of-append earlier.0 e.after b)) (or_some (image_of earlier.0 b) (image_of e.after b) has)))

pub image_earlier : (d e : Chosen) (database : Blocks) (i : Before) → IsEarlier d e → d.blocks ≤ e.blocks → MayLog e database i → MayLog d database i
image_earlier d e database i earlier fewer (inl may) = inl (write_earlier d e i.block earlier fewer may)
image_earlier d e database i earlier fewer (inr same) = inr same

-- a piece of the front is the same where the front is
same_front : (old new : List ℕ) (at k m : ℕ) → take at new ≡ take at old → k + m ≤ at → take m (drop k new) ≡ take m (drop k old)
same_front old new at k m same below = sym (drop-take k m new) ∙ ap (drop k) (front new ∙ ap (take (k + m)) same ∙ sym (front old)) ∙ drop-take k m old
  where
    front : (xs : List ℕ) → take (k + m) xs ≡ take (k + m) (take at xs)
    front xs = sym (take-take (k + m) at xs below)

-- the same behind
same_rest : (old new : List ℕ) (at k : ℕ) → drop at new ≡ drop at old → at ≤ k → drop k new ≡ drop k old
same_rest old new at k same above = behind new ∙ ap (drop (k - at)) same ∙ sym (behind old)
  where
    behind : (xs : List ℕ) → drop k xs ≡ drop (k - at) (drop at xs)
    behind xs = let gap : k ≡ at + (k - at) = omega arith in ap (λ (j : ℕ). drop j xs) gap ∙ sym (drop-drop (k - at) at xs)

pub one_block : (old new : List ℕ) (at n b : ℕ) → Torn at n old new → 4096 * b ≤ at → at + n ≤ 4096 * b + 4096 → SameBut b (block_of old) (block_of new)
one_block old new at n b torn low high c other = elim (cases_lt c b) [
  | inl below ↦ same_front old new at (4096 * c) 4096 torn.before (omega arith)
  | inr above ↦ ap (take 4096) (same_rest old new (at + n) (4096 * c) torn.after (omega arith))
]
