-- Pool words: how many there are, what stays as entries are put, and the bytes that they hold.
use Rattle.std.proofs.Common.{◌≡◌, ℕ, zero, suc, ◌+◌, ◌-◌, ◌*◌, ◌/◌, ◌<◌, ◌≤◌, List, [], ◌∷◌, ◌++◌, length, take, get_or, Bool, false, refl, sym, ap, ◌∙◌, arith, append_assoc, append-nil, add-zero, length-append, length-drop, drop}
use Rattle.std.specs.Prelude.{slice_index, ◌==◌, if◌then◌else◌}
use Rattle.std.specs.Int.{w64, to_be_bytes}
use Rattle.std.proofs.Math.ListN.{get_or-append}
use Rattle.std.proofs.lemmas.Bool.{ne_eqb}
use Rattle.std.proofs.lemmas.Nat.{be_bytes_8}
use mathlib.Core.Logic.{dite}
use native.Mathlib.Decide.{dec_le}
use Rattle.std.proofs.lemmas.List.{get_or-append-add, take-append-le, take-append-drop, length-take-le}
use Rattle.wire_defs.specs.PoolWords.{word_of, packed, unpacked, entry_words, bytes_in, word_count, words_from, place_of, AreBytes, StartsWith, IsBoundary, IsAt, count_before}

pub length-packed : (bytes : List ℕ) → length (packed bytes) ≡ (length bytes + 7) / 8
length-packed [] = omega arith
length-packed (a ∷ []) = omega arith
length-packed (a ∷ b ∷ []) = omega arith
length-packed (a ∷ b ∷ c ∷ []) = omega arith
length-packed (a ∷ b ∷ c ∷ d ∷ []) = omega arith
length-packed (a ∷ b ∷ c ∷ d ∷ e ∷ []) = omega arith
length-packed (a ∷ b ∷ c ∷ d ∷ e ∷ f ∷ []) = omega arith
length-packed (a ∷ b ∷ c ∷ d ∷ e ∷ f ∷ g ∷ []) = omega arith
length-packed (a ∷ b ∷ c ∷ d ∷ e ∷ f ∷ g ∷ h ∷ rest) = let r = length-packed rest in omega arith

pub words_from-append : (n : ℕ) (xs ys : List (List ℕ)) → words_from n (xs ++ ys) ≡ words_from n xs ++ words_from (n + length xs) ys
words_from-append n [] ys = ap (λ (k : ℕ). words_from k ys) (sym (add-zero n))
words_from-append n (e ∷ es) ys =
    let step : n + 1 + length es ≡ n + suc (length es) = omega arith in
    ap (λ l. entry_words n e ++ l) (words_from-append (n + 1) es ys ∙ ap (λ (k : ℕ). words_from (n + 1) es ++ words_from k ys) step)
    ∙ sym (append_assoc (entry_words n e) (words_from (n + 1) es) (words_from (n + suc (length es)) ys))

pub length-entry : (n : ℕ) (e : List ℕ) → length (entry_words n e) ≡ word_count (length e)
length-entry n e = let p = length-packed e in omega arith

-- how many words the list has with one entry more
pub length-claimed : (n : ℕ) (es : List (List ℕ)) (e : List ℕ) → length (words_from n (es ++ e ∷ [])) ≡ length (words_from n es) + word_count (length e)
length-claimed n es e =
    let k : ℕ = n + length es in
    let a : length (words_from n (es ++ e ∷ [])) ≡ length (words_from n es) + length (words_from k (e ∷ [])) = ap length (words_from-append n es (e ∷ [])) ∙ length-append (words_from n es) (words_from k (e ∷ [])) in
    let b : length (words_from k (e ∷ [])) ≡ length (entry_words k e) = ap length (append-nil (entry_words k e)) in
    a ∙ ap (λ (m : ℕ). length (words_from n es) + m) (b ∙ length-entry k e)

module _ (first : ℕ) (log now : List (List ℕ)) (longer : StartsWith now log) where
  now_is : words_from first now ≡ words_from first log ++ words_from (first + length log) longer.0
  now_is = ap (words_from first) longer.1 ∙ words_from-append first log longer.0

  pub grows : length (words_from first log) ≤ length (words_from first now)
  grows = let e = ap length now_is ∙ length-append (words_from first log) (words_from (first + length log) longer.0) in omega arith

  pub stays : (a : ℕ) → a < length (words_from first log) → slice_index (words_from first now) a ≡ slice_index (words_from first log) a
  stays a h = ap (λ l. slice_index l a) now_is ∙ get_or-append (words_from first log) (words_from (first + length log) longer.0) 0 a h

  pub boundary_stays : (p : ℕ) → IsBoundary first log p → IsBoundary first now p
  boundary_stays p b = (b.0, b.1 ++ longer.0, longer.1 ∙ ap (λ l. l ++ longer.0) b.2 ∙ append_assoc b.0 b.1 longer.0, b.3)

  pub at_stays : (p n : ℕ) → IsAt first log p n → IsAt first now p n
  at_stays p n b = (b.0, b.1 ++ longer.0, longer.1 ∙ ap (λ l. l ++ longer.0) b.2 ∙ append_assoc b.0 b.1 longer.0, b.3, b.4)

  pub starts_stays : (seen : List (List ℕ)) → StartsWith log seen → StartsWith now seen
  starts_stays seen s = (s.0 ++ longer.0, longer.1 ∙ ap (λ l. l ++ longer.0) s.1 ∙ append_assoc seen s.0 longer.0)

pub starts_same : (log : List (List ℕ)) → StartsWith log log
starts_same log = ([], sym (append-nil log))

-- the second word of an entry is its length
pub length_word : (first : ℕ) (front : List (List ℕ)) (e : List ℕ) (es : List (List ℕ)) → slice_index (words_from first (front ++ e ∷ es)) (length (words_from first front) + 1) ≡ length e
length_word first front e es =
    let k : ℕ = first + length front in
    ap (λ l. slice_index l (length (words_from first front) + 1)) (words_from-append first front (e ∷ es))
    ∙ get_or-append-add (words_from first front) (words_from k (e ∷ es)) 1 0

-- of two boundaries the later one is past the entry at the earlier one
pub past_entry : (first : ℕ) (front : List (List ℕ)) (e : List ℕ) (es later rest : List (List ℕ)) → front ++ e ∷ es ≡ later ++ rest → length (words_from first front) < length (words_from first later)
    → length (words_from first front) + word_count (length e) ≤ length (words_from first later)
past_entry first [] e es [] rest same lt = absurd (omega arith)
past_entry first [] e es (l ∷ ls) rest same lt =
    let is : e ≡ l = (cc) in
    let n : length e ≡ length l = ap length is in
    omega (arith, length-append (entry_words first l) (words_from (first + 1) ls), length-entry first l)
past_entry first (f ∷ fs) e es [] rest same lt = absurd (omega arith)
past_entry first (f ∷ fs) e es (l ∷ ls) rest same lt =
    let is : f ≡ l = (cc) in
    let tail : fs ++ e ∷ es ≡ ls ++ rest = (cc) in
    let n : length (entry_words first f) ≡ length (entry_words first l) = ap (λ x. length (entry_words first x)) is in
    let a = length-append (entry_words first f) (words_from (first + 1) fs) in
    let b = length-append (entry_words first l) (words_from (first + 1) ls) in
    let r = past_entry (first + 1) fs e es ls rest tail (omega arith) in
    omega arith

-- where an entry begins below the end of the words, one stands there
pub entry_at : (first : ℕ) (log front back : List (List ℕ)) → log ≡ front ++ back → length (words_from first front) < length (words_from first log) → (e : List ℕ) × (es : List (List ℕ)) × (back ≡ e ∷ es)
entry_at first log front [] same lt = absurd (let e : length (words_from first log) ≡ length (words_from first front) = ap (λ l. length (words_from first l)) (same ∙ append-nil front) in omega arith)
entry_at first log front (e ∷ es) same lt = (e, es, refl)

-- each word of an entry
pub entry_word : (first : ℕ) (front : List (List ℕ)) (e : List ℕ) (es : List (List ℕ)) (k : ℕ) → k < length (entry_words (first + length front) e)
    → slice_index (words_from first (front ++ e ∷ es)) (length (words_from first front) + k) ≡ get_or (entry_words (first + length front) e) k 0
entry_word first front e es k h =
    let n : ℕ = first + length front in
    ap (λ l. slice_index l (length (words_from first front) + k)) (words_from-append first front (e ∷ es))
    ∙ get_or-append-add (words_from first front) (words_from n (e ∷ es)) k 0
    ∙ get_or-append (entry_words n e) (words_from (n + 1) es) 0 k h

-- each word of the entry that was put last
pub new_words : (first : ℕ) (es : List (List ℕ)) (e : List ℕ) (k : ℕ) → slice_index (words_from first (es ++ e ∷ [])) (length (words_from first es) + k) ≡ slice_index (entry_words (first + length es) e) k
new_words first es e k =
    let n : ℕ = first + length es in
    ap (λ l. slice_index l (length (words_from first es) + k)) (words_from-append first es (e ∷ []))
    ∙ get_or-append-add (words_from first es) (words_from n (e ∷ [])) k 0
    ∙ ap (λ l. slice_index l k) (append-nil (entry_words n e))

-- the entries before a boundary
pub count_before-boundary : (first : ℕ) (front back : List (List ℕ)) → count_before (front ++ back) (length (words_from first front)) ≡ length front
count_before-boundary first [] [] = refl
count_before-boundary first [] (b ∷ bs) = refl
count_before-boundary first (e ∷ es) back =
    let size : length (words_from first (e ∷ es)) ≡ word_count (length e) + length (words_from (first + 1) es) = length-append (entry_words first e) (words_from (first + 1) es) ∙ ap (λ (k : ℕ). k + length (words_from (first + 1) es)) (length-entry first e) in
    let test : (length (words_from first (e ∷ es)) == 0) ≡ false = ne_eqb (length (words_from first (e ∷ es))) 0 (λ z. omega arith) in
    let less : length (words_from first (e ∷ es)) - word_count (length e) ≡ length (words_from (first + 1) es) = omega arith in
    ap (λ (t : Bool). if t then 0 else suc (count_before (es ++ back) (length (words_from first (e ∷ es)) - word_count (length e)))) test
    ∙ ap (λ (k : ℕ). suc (count_before (es ++ back) k)) less
    ∙ ap suc (count_before-boundary (first + 1) es back)

-- a place has one number
pub number_is : (first : ℕ) (entries : List (List ℕ)) (place number : ℕ) → IsAt first entries place number → number ≡ first + count_before entries place
number_is first entries place number at =
    let count : count_before entries place ≡ length at.0 = (λ i. count_before (at.2 i) (at.3 i)) ∙ count_before-boundary first at.0 at.1 in
    at.4 ∙ ap (λ (k : ℕ). first + k) (sym count)

-- a boundary of the part is at its number
pub boundary_number : (first : ℕ) (entries : List (List ℕ)) (place : ℕ) → IsBoundary first entries place → IsAt first entries place (first + count_before entries place)
boundary_number first entries place b =
    let count : count_before entries place ≡ length b.0 = (λ i. count_before (b.2 i) (b.3 i)) ∙ count_before-boundary first b.0 b.1 in
    (b.0, b.1, b.2, b.3, ap (λ (k : ℕ). first + k) count)

-- the place of an entry is a boundary, at its number
pub place_is_at : (first : ℕ) (entries : List (List ℕ)) (k : ℕ) → k ≤ length entries → IsAt first entries (place_of first entries k) (first + k)
place_is_at first entries k below = (take k entries, drop k entries, sym (take-append-drop k entries), refl, ap (λ (m : ℕ). first + m) (sym (length-take-le k entries below)))

-- entries that are put move no earlier one
pub place_stays : (first : ℕ) (entries back : List (List ℕ)) (k : ℕ) → k ≤ length entries → place_of first (entries ++ back) k ≡ place_of first entries k
place_stays first entries back k below = ap (λ l. length (words_from first l)) (take-append-le k entries back below)

-- each entry has two words at least, so those that k others stand before have twice as many as there are
pub two_words_each : (first : ℕ) (entries : List (List ℕ)) → 2 * length entries ≤ length (words_from first entries)
two_words_each first [] = omega arith
two_words_each first (e ∷ es) =
    let rest = two_words_each (first + 1) es in
    let size = length-append (entry_words first e) (words_from (first + 1) es) in
    let one = length-entry first e in
    omega arith

pub place_below : (first : ℕ) (entries : List (List ℕ)) (k : ℕ) → k ≤ length entries → place_of first entries k + 2 * (length entries - k) ≤ length (words_from first entries)
place_below first entries k below =
    let parts : take k entries ++ drop k entries ≡ entries = take-append-drop k entries in
    let size : length (words_from first entries) ≡ length (words_from first (take k entries)) + length (words_from (first + length (take k entries)) (drop k entries)) =
    ap (λ l. length (words_from first l)) (sym parts) ∙ ap length (words_from-append first (take k entries) (drop k entries)) ∙ length-append (words_from first (take k entries)) (words_from (first + length (take k entries)) (drop k entries)) in
    let rest = two_words_each (first + length (take k entries)) (drop k entries) in
    let count = length-drop k entries in
    omega arith

-- an entry that ends at or before the place that k others stand before is one of those
pub count_below : (first : ℕ) (front : List (List ℕ)) (e : List ℕ) (back : List (List ℕ)) (k : ℕ) → length (words_from first (front ++ e ∷ [])) ≤ place_of first (front ++ e ∷ back) k → length front < k
count_below first front e back k low =
    dite (dec_le (suc (length front)) k)
    (λ (lt : length front < k). lt)
    (λ (not : ¬ (length front < k)).
    let le : k ≤ length front = omega arith in
    let same = place_stays first front (e ∷ back) k le in
    let below = place_below first front k le in
    let more = length-claimed first front e in
    absurd (omega arith))

-- bytes come back from their words
byte_8 : (a b c d e f g h : ℕ) → a < 256 → b < 256 → c < 256 → d < 256 → e < 256 → f < 256 → g < 256 → h < 256 → AreBytes (a ∷ b ∷ c ∷ d ∷ e ∷ f ∷ g ∷ h ∷ [])
byte_8 a b c d e f g h pa pb pc pd pe pf pg ph zero = pa
byte_8 a b c d e f g h pa pb pc pd pe pf pg ph (suc zero) = pb
byte_8 a b c d e f g h pa pb pc pd pe pf pg ph (suc (suc zero)) = pc
byte_8 a b c d e f g h pa pb pc pd pe pf pg ph (suc (suc (suc zero))) = pd
byte_8 a b c d e f g h pa pb pc pd pe pf pg ph (suc (suc (suc (suc zero)))) = pe
byte_8 a b c d e f g h pa pb pc pd pe pf pg ph (suc (suc (suc (suc (suc zero))))) = pf
byte_8 a b c d e f g h pa pb pc pd pe pf pg ph (suc (suc (suc (suc (suc (suc zero)))))) = pg
byte_8 a b c d e f g h pa pb pc pd pe pf pg ph (suc (suc (suc (suc (suc (suc (suc zero))))))) = ph
byte_8 a b c d e f g h pa pb pc pd pe pf pg ph (suc (suc (suc (suc (suc (suc (suc (suc k)))))))) = omega arith

word_back : (a b c d e f g h : ℕ) → AreBytes (a ∷ b ∷ c ∷ d ∷ e ∷ f ∷ g ∷ h ∷ []) → to_be_bytes w64 (word_of a b c d e f g h) ≡ a ∷ b ∷ c ∷ d ∷ e ∷ f ∷ g ∷ h ∷ []
word_back a b c d e f g h fit = be_bytes_8 (a ∷ b ∷ c ∷ d ∷ e ∷ f ∷ g ∷ h ∷ []) (word_of a b c d e f g h) refl fit refl

z : 0 < 256
z = omega arith

pub unpacked-packed : (bytes : List ℕ) → AreBytes bytes → take (length bytes) (unpacked (packed bytes)) ≡ bytes
unpacked-packed [] fit = refl
unpacked-packed (a ∷ []) fit = ap (λ l. take 1 (l ++ [])) (word_back a 0 0 0 0 0 0 0 (byte_8 a 0 0 0 0 0 0 0 (fit 0) z z z z z z z))
unpacked-packed (a ∷ b ∷ []) fit = ap (λ l. take 2 (l ++ [])) (word_back a b 0 0 0 0 0 0 (byte_8 a b 0 0 0 0 0 0 (fit 0) (fit 1) z z z z z z))
unpacked-packed (a ∷ b ∷ c ∷ []) fit = ap (λ l. take 3 (l ++ [])) (word_back a b c 0 0 0 0 0 (byte_8 a b c 0 0 0 0 0 (fit 0) (fit 1) (fit 2) z z z z z))
unpacked-packed (a ∷ b ∷ c ∷ d ∷ []) fit = ap (λ l. take 4 (l ++ [])) (word_back a b c d 0 0 0 0 (byte_8 a b c d 0 0 0 0 (fit 0) (fit 1) (fit 2) (fit 3) z z z z))
unpacked-packed (a ∷ b ∷ c ∷ d ∷ e ∷ []) fit = ap (λ l. take 5 (l ++ [])) (word_back a b c d e 0 0 0 (byte_8 a b c d e 0 0 0 (fit 0) (fit 1) (fit 2) (fit 3) (fit 4) z z z))
unpacked-packed (a ∷ b ∷ c ∷ d ∷ e ∷ f ∷ []) fit = ap (λ l. take 6 (l ++ [])) (word_back a b c d e f 0 0 (byte_8 a b c d e f 0 0 (fit 0) (fit 1) (fit 2) (fit 3) (fit 4) (fit 5) z z))
unpacked-packed (a ∷ b ∷ c ∷ d ∷ e ∷ f ∷ g ∷ []) fit = ap (λ l. take 7 (l ++ [])) (word_back a b c d e f g 0 (byte_8 a b c d e f g 0 (fit 0) (fit 1) (fit 2) (fit 3) (fit 4) (fit 5) (fit 6) z))
unpacked-packed (a ∷ b ∷ c ∷ d ∷ e ∷ f ∷ g ∷ h ∷ rest) fit =
    ap (λ l. take (suc (suc (suc (suc (suc (suc (suc (suc (length rest))))))))) (l ++ unpacked (packed rest))) (word_back a b c d e f g h (byte_8 a b c d e f g h (fit 0) (fit 1) (fit 2) (fit 3) (fit 4) (fit 5) (fit 6) (fit 7)))
    ∙ ap (λ l. a ∷ b ∷ c ∷ d ∷ e ∷ f ∷ g ∷ h ∷ l) (unpacked-packed rest (λ k. fit (suc (suc (suc (suc (suc (suc (suc (suc k))))))))))

pub bytes_in-entry : (number : ℕ) (bytes : List ℕ) → AreBytes bytes → bytes_in (entry_words number bytes) ≡ bytes
bytes_in-entry number bytes fit = unpacked-packed bytes fit

pub unpacked-append : (xs ys : List ℕ) → unpacked (xs ++ ys) ≡ unpacked xs ++ unpacked ys
unpacked-append [] ys = refl
unpacked-append (x ∷ xs) ys = ap (λ l. to_be_bytes w64 x ++ l) (unpacked-append xs ys) ∙ sym (append_assoc (to_be_bytes w64 x) (unpacked xs) (unpacked ys))

pub length-unpacked : (words : List ℕ) → length (unpacked words) ≡ 8 * length words
length-unpacked [] = refl
length-unpacked (w ∷ ws) = let rest = length-unpacked ws in omega arith
