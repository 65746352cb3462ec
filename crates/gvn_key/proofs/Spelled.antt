-- Bytes compared some at a time.
use Rattle.std.proofs.Common.{◌≡◌, ◌-◌, ℕ, zero, suc, ◌+◌, ◌*◌, ◌≤◌, ◌<◌, List, [], ◌∷◌, ◌++◌, length, take, drop, min, get_or, refl, sym, ◌∙◌, ap, arith, length-drop}
use Rattle.std.proofs.lemmas.List.{length-take-le, take-append-drop}
use Rattle.std.proofs.Math.Seq.{take-add}
use Rattle.std.proofs.lemmas.Nat.{be_bytes_4, be_bytes_8}
use Rattle.std.specs.Int.{from_be_bytes, w32, w64}
use Rattle.std.specs.declared.cmp.Ordering.{Ordering}
use Rattle.std.specs.Ordering.{nat_cmp, ordering_then}
use Rattle.std.specs.Cmp.Lexicographic.{slice_cmp}
use Rattle.global_defs.proofs.Ranks.{ranks, below, same, above, less, greater, agree, then_equal, then_then}
use Rattle.global_defs.proofs.Fronts.{same_front}

-- numbers that are bytes
abbrev pub AreBytes : List ℕ → Type 0
AreBytes xs = (i : ℕ) → get_or xs i 0 < 256

pub taken_bytes : (n : ℕ) (xs : List ℕ) → AreBytes xs → AreBytes (take n xs)
taken_bytes zero xs small i = omega arith
taken_bytes (suc n) [] small i = omega arith
taken_bytes (suc n) (x ∷ xs) small zero = small 0
taken_bytes (suc n) (x ∷ xs) small (suc i) = taken_bytes n xs (λ j. small (suc j)) i

left_bytes : (n : ℕ) (xs : List ℕ) → AreBytes xs → AreBytes (drop n xs)
left_bytes zero xs small = small
left_bytes (suc n) [] small = small
left_bytes (suc n) (x ∷ xs) small = left_bytes n xs (λ j. small (suc j))

part_size : (at k : ℕ) (xs : List ℕ) → at + k ≤ length xs → length (take k (drop at xs)) ≡ k
part_size at k xs inside = length-take-le k (drop at xs) (omega (arith, inside, length-drop at xs))

part_bytes : (at k : ℕ) (xs : List ℕ) → AreBytes xs → AreBytes (take k (drop at xs))
part_bytes at k xs small = taken_bytes k (drop at xs) (left_bytes at xs small)

-- a front that is the same, and so many bytes more
same_more : (one other : List ℕ) (at k : ℕ) → take k (drop at one) ≡ take k (drop at other) → take at one ≡ take at other → take (at + k) one ≡ take (at + k) other
same_more one other at k part front = take-add at k one ∙ (λ i. front i ++ part i) ∙ sym (take-add at k other)

-- the same, by the number that eight bytes spell
pub same_word : (one other : List ℕ) (at m n : ℕ) → AreBytes one → AreBytes other → at + 8 ≤ length one → at + 8 ≤ length other → m ≡ from_be_bytes w64 (take 8 (drop at one)) → n ≡ from_be_bytes w64 (take 8 (drop at other)) → m ≡ n
    → take at one ≡ take at other → take (at + 8) one ≡ take (at + 8) other
same_word one other at m n small_one small_other inside_one inside_other is_one is_other alike =
    same_more one other at 8
    (sym (be_bytes_8 (take 8 (drop at one)) m (part_size at 8 one inside_one) (part_bytes at 8 one small_one) is_one) ∙ be_bytes_8 (take 8 (drop at other)) m (part_size at 8 other inside_other) (part_bytes at 8 other small_other) (alike ∙ is_other))

-- and by the one that four spell
pub same_half : (one other : List ℕ) (at m n : ℕ) → AreBytes one → AreBytes other → at + 4 ≤ length one → at + 4 ≤ length other → m ≡ from_be_bytes w32 (take 4 (drop at one)) → n ≡ from_be_bytes w32 (take 4 (drop at other)) → m ≡ n
    → take at one ≡ take at other → take (at + 4) one ≡ take (at + 4) other
same_half one other at m n small_one small_other inside_one inside_other is_one is_other alike =
    same_more one other at 4
    (sym (be_bytes_4 (take 4 (drop at one)) m (part_size at 4 one inside_one) (part_bytes at 4 one small_one) is_one) ∙ be_bytes_4 (take 4 (drop at other)) m (part_size at 4 other inside_other) (part_bytes at 4 other small_other) (alike ∙ is_other))

shorter : (n m : ℕ) (xs : List ℕ) → n ≤ m → take n (take m xs) ≡ take n xs
shorter zero m xs few = refl
shorter (suc n) zero xs few = absurd (omega (arith, few))
shorter (suc n) (suc m) [] few = refl
shorter (suc n) (suc m) (x ∷ xs) few = ap (λ (l : List ℕ). x ∷ l) (shorter n m xs (omega (arith, few)))

-- a shorter front is the same, too
pub same_less : (one other : List ℕ) (n m : ℕ) → n ≤ m → take m one ≡ take m other → take n one ≡ take n other
same_less one other n m few alike = sym (shorter n m one few) ∙ ap (take n) alike ∙ shorter n m other few

-- the number that bytes spell behind another
abbrev spelled : ℕ → List ℕ → ℕ
spelled n [] = n
spelled n (x ∷ xs) = spelled (n * 256 + x) xs

one_more : (a b x y : ℕ) → x < 256 → y < 256 → nat_cmp (a * 256 + x) (b * 256 + y) ≡ ordering_then (nat_cmp a b) (nat_cmp x y)
one_more a b x y small_x small_y = elim (ranks a b) [
  | below h e ↦ rw e (less (a * 256 + x) (b * 256 + y) (omega (arith, h, small_x, small_y)))
  | same h e ↦ rw e (agree x y (a * 256 + x) (b * 256 + y) (λ g. omega (arith, h, g)) (λ g. omega (arith, h, g)) (λ g. omega (arith, h, g)))
  | above h e ↦ rw e (greater (a * 256 + x) (b * 256 + y) (omega (arith, h, small_x, small_y)))
]

-- bytes compare as the numbers that they spell
spelled_order : (xs ys : List ℕ) (a b : ℕ) → AreBytes xs → AreBytes ys → length xs ≡ length ys → nat_cmp (spelled a xs) (spelled b ys) ≡ ordering_then (nat_cmp a b) (slice_cmp nat_cmp xs ys)
spelled_order [] [] a b small_xs small_ys size = sym (then_equal (nat_cmp a b))
spelled_order [] (y ∷ ys) a b small_xs small_ys size = absurd (omega (arith, size))
spelled_order (x ∷ xs) [] a b small_xs small_ys size = absurd (omega (arith, size))
spelled_order (x ∷ xs) (y ∷ ys) a b small_xs small_ys size =
    spelled_order xs ys (a * 256 + x) (b * 256 + y) (λ i. small_xs (suc i)) (λ i. small_ys (suc i)) (omega (arith, size))
    ∙ ap (λ o. ordering_then o (slice_cmp nat_cmp xs ys)) (one_more a b x y (small_xs 0) (small_ys 0))
    ∙ then_then (nat_cmp a b) (nat_cmp x y) (slice_cmp nat_cmp xs ys)

half_spelled : (xs : List ℕ) → length xs ≡ 4 → from_be_bytes w32 xs ≡ spelled 0 xs
half_spelled [] size = absurd (omega (arith, size))
half_spelled (a ∷ []) size = absurd (omega (arith, size))
half_spelled (a ∷ b ∷ []) size = absurd (omega (arith, size))
half_spelled (a ∷ b ∷ c ∷ []) size = absurd (omega (arith, size))
half_spelled (a ∷ b ∷ c ∷ d ∷ []) size = omega arith
half_spelled (a ∷ b ∷ c ∷ d ∷ e ∷ xs) size = absurd (omega (arith, size))

word_spelled : (xs : List ℕ) → length xs ≡ 8 → from_be_bytes w64 xs ≡ spelled 0 xs
word_spelled [] size = absurd (omega (arith, size))
word_spelled (a ∷ []) size = absurd (omega (arith, size))
word_spelled (a ∷ b ∷ []) size = absurd (omega (arith, size))
word_spelled (a ∷ b ∷ c ∷ []) size = absurd (omega (arith, size))
word_spelled (a ∷ b ∷ c ∷ d ∷ []) size = absurd (omega (arith, size))
word_spelled (a ∷ b ∷ c ∷ d ∷ e ∷ []) size = absurd (omega (arith, size))
word_spelled (a ∷ b ∷ c ∷ d ∷ e ∷ f ∷ []) size = absurd (omega (arith, size))
word_spelled (a ∷ b ∷ c ∷ d ∷ e ∷ f ∷ g ∷ []) size = absurd (omega (arith, size))
word_spelled (a ∷ b ∷ c ∷ d ∷ e ∷ f ∷ g ∷ h ∷ []) size = omega arith
word_spelled (a ∷ b ∷ c ∷ d ∷ e ∷ f ∷ g ∷ h ∷ i ∷ xs) size = absurd (omega (arith, size))

-- fronts of the same length come first
fronts_first : (xs ys more others : List ℕ) → length xs ≡ length ys → slice_cmp nat_cmp (xs ++ more) (ys ++ others) ≡ ordering_then (slice_cmp nat_cmp xs ys) (slice_cmp nat_cmp more others)
fronts_first [] [] more others size = refl
fronts_first [] (y ∷ ys) more others size = absurd (omega (arith, size))
fronts_first (x ∷ xs) [] more others size = absurd (omega (arith, size))
fronts_first (x ∷ xs) (y ∷ ys) more others size =
    ap (ordering_then (nat_cmp x y)) (fronts_first xs ys more others (omega (arith, size)))
    ∙ sym (then_then (nat_cmp x y) (slice_cmp nat_cmp xs ys) (slice_cmp nat_cmp more others))

-- how lists compare behind a front that they share, by the next so many bytes
parts_first : (one other : List ℕ) (at k : ℕ) → at + k ≤ length one → at + k ≤ length other → take at one ≡ take at other
    → slice_cmp nat_cmp one other ≡ ordering_then (slice_cmp nat_cmp (take k (drop at one)) (take k (drop at other))) (slice_cmp nat_cmp (drop k (drop at one)) (drop k (drop at other)))
parts_first one other at k inside_one inside_other front =
    (λ i. slice_cmp nat_cmp (sym (take-append-drop at one) i) (sym (take-append-drop at other) i))
    ∙ ap (λ (l : List ℕ). slice_cmp nat_cmp (l ++ drop at one) (take at other ++ drop at other)) front
    ∙ same_front (take at other) (drop at one) (drop at other)
    ∙ (λ i. slice_cmp nat_cmp (sym (take-append-drop k (drop at one)) i) (sym (take-append-drop k (drop at other)) i))
    ∙ fronts_first (take k (drop at one)) (take k (drop at other)) (drop k (drop at one)) (drop k (drop at other)) (part_size at k one inside_one ∙ sym (part_size at k other inside_other))

-- the same, by the numbers that they spell
pub by_word : (one other : List ℕ) (at m n : ℕ) → AreBytes one → AreBytes other → at + 8 ≤ length one → at + 8 ≤ length other → m ≡ from_be_bytes w64 (take 8 (drop at one)) → n ≡ from_be_bytes w64 (take 8 (drop at other))
    → take at one ≡ take at other → slice_cmp nat_cmp one other ≡ ordering_then (nat_cmp m n) (slice_cmp nat_cmp (drop 8 (drop at one)) (drop 8 (drop at other)))
by_word one other at m n small_one small_other inside_one inside_other is_one is_other front =
    let a : List ℕ = take 8 (drop at one) in
    let b : List ℕ = take 8 (drop at other) in
    let size_a : length a ≡ 8 = part_size at 8 one inside_one in
    let size_b : length b ≡ 8 = part_size at 8 other inside_other in
    let first : m ≡ spelled 0 a = is_one ∙ word_spelled a size_a in
    let second : n ≡ spelled 0 b = is_other ∙ word_spelled b size_b in
    let order : nat_cmp m n ≡ slice_cmp nat_cmp a b = (λ i. nat_cmp (first i) (second i)) ∙ spelled_order a b 0 0 (part_bytes at 8 one small_one) (part_bytes at 8 other small_other) (size_a ∙ sym size_b) in
    parts_first one other at 8 inside_one inside_other front ∙ ap (λ o. ordering_then o (slice_cmp nat_cmp (drop 8 (drop at one)) (drop 8 (drop at other)))) (sym order)

pub by_half : (one other : List ℕ) (at m n : ℕ) → AreBytes one → AreBytes other → at + 4 ≤ length one → at + 4 ≤ length other → m ≡ from_be_bytes w32 (take 4 (drop at one)) → n ≡ from_be_bytes w32 (take 4 (drop at other))
    → take at one ≡ take at other → slice_cmp nat_cmp one other ≡ ordering_then (nat_cmp m n) (slice_cmp nat_cmp (drop 4 (drop at one)) (drop 4 (drop at other)))
by_half one other at m n small_one small_other inside_one inside_other is_one is_other front =
    let a : List ℕ = take 4 (drop at one) in
    let b : List ℕ = take 4 (drop at other) in
    let size_a : length a ≡ 4 = part_size at 4 one inside_one in
    let size_b : length b ≡ 4 = part_size at 4 other inside_other in
    let first : m ≡ spelled 0 a = is_one ∙ half_spelled a size_a in
    let second : n ≡ spelled 0 b = is_other ∙ half_spelled b size_b in
    let order : nat_cmp m n ≡ slice_cmp nat_cmp a b = (λ i. nat_cmp (first i) (second i)) ∙ spelled_order a b 0 0 (part_bytes at 4 one small_one) (part_bytes at 4 other small_other) (size_a ∙ sym size_b) in
    parts_first one other at 4 inside_one inside_other front ∙ ap (λ o. ordering_then o (slice_cmp nat_cmp (drop 4 (drop at one)) (drop 4 (drop at other)))) (sym order)

-- the order of two that differ isn't changed by what follows
pub decided : (m n : ℕ) (o : Ordering) → (m ≡ n → ⊥) → ordering_then (nat_cmp m n) o ≡ nat_cmp m n
decided m n o apart = elim (ranks m n) [ below h e ↦ rw e refl | same h e ↦ absurd (apart h) | above h e ↦ rw e refl ]

-- and the lists behind words that are the same
pub tied : (m n : ℕ) (o : Ordering) → m ≡ n → ordering_then (nat_cmp m n) o ≡ o
tied m n o even = elim (ranks m n) [ below h e ↦ absurd (omega (arith, h, even)) | same h e ↦ rw e refl | above h e ↦ absurd (omega (arith, h, even)) ]

-- lists one of which is at its end compare by their lengths
at_end : (xs ys : List ℕ) → min (length xs) (length ys) ≡ 0 → slice_cmp nat_cmp xs ys ≡ nat_cmp (length xs) (length ys)
at_end [] [] none = refl
at_end [] (y ∷ ys) none = sym (less 0 (length (y ∷ ys)) (omega arith))
at_end (x ∷ xs) [] none = sym (greater (length (x ∷ xs)) 0 (omega arith))
at_end (x ∷ xs) (y ∷ ys) none = absurd (omega (arith, none))

-- what is left of lists, the shorter of which is at its end
pub ends : (one other : List ℕ) (at k : ℕ) → at + k ≡ min (length one) (length other) → slice_cmp nat_cmp (drop k (drop at one)) (drop k (drop at other)) ≡ nat_cmp (length one) (length other)
ends one other at k all =
    let a : List ℕ = drop k (drop at one) in
    let b : List ℕ = drop k (drop at other) in
    let size_a : length a ≡ length one - (at + k) = omega (arith, length-drop k (drop at one), length-drop at one) in
    let size_b : length b ≡ length other - (at + k) = omega (arith, length-drop k (drop at other), length-drop at other) in
    at_end a b (omega (arith, size_a, size_b, all))
    ∙ agree (length one) (length other) (length a) (length b) (λ h. omega (arith, size_a, size_b, all, h)) (λ h. omega (arith, size_a, size_b, all, h)) (λ h. omega (arith, size_a, size_b, all, h))

-- how lists compare by the last word of the shorter, which may stand over bytes before it that are the same
pub last_word : (one other : List ℕ) (size done m n : ℕ) → AreBytes one → AreBytes other → 8 ≤ size → size ≡ min (length one) (length other) → size - 8 ≤ done
    → m ≡ from_be_bytes w64 (take 8 (drop (size - 8) one)) → n ≡ from_be_bytes w64 (take 8 (drop (size - 8) other)) → take done one ≡ take done other
    → slice_cmp nat_cmp one other ≡ ordering_then (nat_cmp m n) (nat_cmp (length one) (length other))
last_word one other size done m n small_one small_other long all low is_one is_other front =
    let at : ℕ = size - 8 in
    let whole : at + 8 ≡ size = omega (arith, long) in
    let end : at + 8 ≡ min (length one) (length other) = whole ∙ all in
    by_word one other at m n small_one small_other (omega (arith, end)) (omega (arith, end)) is_one is_other (same_less one other at done low front) ∙ ap (ordering_then (nat_cmp m n)) (ends one other at 8 end)

-- and by the last four bytes
pub last_half : (one other : List ℕ) (size done m n : ℕ) → AreBytes one → AreBytes other → 4 ≤ size → size ≡ min (length one) (length other) → size - 4 ≤ done
    → m ≡ from_be_bytes w32 (take 4 (drop (size - 4) one)) → n ≡ from_be_bytes w32 (take 4 (drop (size - 4) other)) → take done one ≡ take done other
    → slice_cmp nat_cmp one other ≡ ordering_then (nat_cmp m n) (nat_cmp (length one) (length other))
last_half one other size done m n small_one small_other long all low is_one is_other front =
    let at : ℕ = size - 4 in
    let whole : at + 4 ≡ size = omega (arith, long) in
    let end : at + 4 ≡ min (length one) (length other) = whole ∙ all in
    by_half one other at m n small_one small_other (omega (arith, end)) (omega (arith, end)) is_one is_other (same_less one other at done low front) ∙ ap (ordering_then (nat_cmp m n)) (ends one other at 4 end)
