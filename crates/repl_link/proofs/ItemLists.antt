-- The bytes in front of the end, of items put side by side.
use Rattle.std.proofs.Common.{◌≡◌, ℕ, suc, ◌<◌, ◌≤◌, ◌+◌, Bool, true, false, List, [], ◌∷◌, ◌++◌, length, map, take, drop, get_or, ap, sym, refl, ◌∙◌, arith, append-nil, add-one, lt-ltb, if◌then◌else◌}
use Rattle.std.proofs.lemmas.Bool.{le-ltb}
use Rattle.global_defs.specs.Prefix.{IsPrefix}
use Rattle.std.proofs.lemmas.List.{take-append-drop, take-map, take_all, length-take-le}
use Rattle.std.proofs.Math.Seq.{drop-cons, take-append_seam}
use Rattle.std.proofs.Common.{zero}
use Rattle.rtrb.specs.Fifo.{Allowed}
use Rattle.repl_link.specs.Items.{is_end, Symbol, Byte, End, bytes_of, has_end, EndsLast, AreBefore}

pub bytes_of-bytes : (bytes : List ℕ) (rest : List Symbol) → bytes_of (map Byte bytes ++ rest) ≡ bytes ++ bytes_of rest
bytes_of-bytes [] rest = refl
bytes_of-bytes (b ∷ bytes) rest = ap (λ l. b ∷ l) (bytes_of-bytes bytes rest)

pub has_end-bytes : (bytes : List ℕ) (rest : List Symbol) → has_end (map Byte bytes ++ rest) ≡ has_end rest
has_end-bytes [] rest = refl
has_end-bytes (b ∷ bytes) rest = has_end-bytes bytes rest

pub bytes_of-append : (xs ys : List Symbol) → has_end xs ≡ false → bytes_of (xs ++ ys) ≡ bytes_of xs ++ bytes_of ys
bytes_of-append [] ys open_end = refl
bytes_of-append (Byte b ∷ xs) ys open_end = ap (λ l. b ∷ l) (bytes_of-append xs ys open_end)
bytes_of-append (End ∷ xs) ys open_end = cc

pub bytes_of-ended : (xs ys : List Symbol) → has_end xs ≡ true → bytes_of (xs ++ ys) ≡ bytes_of xs
bytes_of-ended [] ys open_end = cc
bytes_of-ended (Byte b ∷ xs) ys open_end = ap (λ l. b ∷ l) (bytes_of-ended xs ys open_end)
bytes_of-ended (End ∷ xs) ys open_end = refl

pub has_end-append : (xs ys : List Symbol) → has_end xs ≡ false → has_end (xs ++ ys) ≡ has_end ys
has_end-append [] ys open_end = refl
has_end-append (Byte b ∷ xs) ys open_end = has_end-append xs ys open_end
has_end-append (End ∷ xs) ys open_end = cc

-- items that begin with bytes, and then an end
pub ends_at : (items : List Symbol) (bytes : List ℕ) (i : ℕ) (d : Symbol) → i < length items → take i items ≡ map Byte bytes → get_or items i d ≡ End
    → (bytes_of items ≡ bytes) × (has_end items ≡ true)
ends_at items bytes i d below front end =
    let parts : items ≡ map Byte bytes ++ (End ∷ drop (i + 1) items) =
    sym (take-append-drop i items) ∙ ap (λ l. l ++ drop i items) front
    ∙ ap (λ l. map Byte bytes ++ l) (drop-cons items i d below ∙ ap (λ x. x ∷ drop (suc i) items) end ∙ ap (λ n. End ∷ drop n items) (sym (add-one i))) in
    (ap bytes_of parts ∙ bytes_of-bytes bytes (End ∷ drop (i + 1) items) ∙ append-nil bytes, ap has_end parts ∙ has_end-bytes bytes (End ∷ drop (i + 1) items))

-- the mark of the end adds no byte
pub bytes_of-end : (items : List Symbol) → has_end items ≡ false → bytes_of (items ++ End ∷ []) ≡ bytes_of items
bytes_of-end items open_end = bytes_of-append items (End ∷ []) open_end ∙ append-nil (bytes_of items)

-- a beginning of items that are bytes, behind items without an end
pub sent_front : (sent front back : List Symbol) (bytes : List ℕ) → has_end sent ≡ false → front ++ back ≡ map Byte bytes
    → (bytes_of (sent ++ front) ≡ bytes_of sent ++ take (length front) bytes) × (has_end (sent ++ front) ≡ false)
sent_front sent front back bytes open_end is =
    let part : front ≡ map Byte (take (length front) bytes) =
    sym (take-append_seam front back) ∙ ap (λ l. take (length front) l) is ∙ take-map Byte (length front) bytes in
    let plain : front ≡ map Byte (take (length front) bytes) ++ [] = part ∙ sym (append-nil (map Byte (take (length front) bytes))) in (
      bytes_of-append sent front open_end ∙ ap (λ l. bytes_of sent ++ l) (ap bytes_of plain ∙ bytes_of-bytes (take (length front) bytes) [] ∙ append-nil (take (length front) bytes)),
      has_end-append sent front open_end ∙ ap has_end plain ∙ has_end-bytes (take (length front) bytes) [],
    )

-- what was taken, and then what is still known
pub bytes_of-taken : (taken known : List Symbol) (b : Bool) → has_end taken ≡ b → bytes_of taken ++ (if b then [] else bytes_of known) ≡ bytes_of (taken ++ known)
bytes_of-taken taken known true is = append-nil (bytes_of taken) ∙ sym (bytes_of-ended taken known is)
bytes_of-taken taken known false is = sym (bytes_of-append taken known is)

-- bytes in front of an end stay so when items are added
pub bytes_of-more : (xs ys : List Symbol) → IsPrefix (bytes_of xs) (bytes_of (xs ++ ys))
bytes_of-more [] ys = (bytes_of ys, refl)
bytes_of-more (Byte b ∷ xs) ys = let rest = bytes_of-more xs ys in (rest.0, ap (λ l. b ∷ l) rest.1)
bytes_of-more (End ∷ xs) ys = ([], refl)

-- items that are all bytes
pub all_bytes : (items : List Symbol) (buffer : List ℕ) (i : ℕ) → length items ≡ i → i ≤ length buffer → take i items ≡ map Byte (take i buffer)
    → (bytes_of items ≡ take (length items) buffer) × (length (bytes_of items) ≡ length items) × (has_end items ≡ false)
all_bytes items buffer i all fits is =
    let same : take (length items) buffer ≡ take i buffer = ap (λ n. take n buffer) all in
    let plain : items ≡ map Byte (take i buffer) ++ [] = sym (take_all i items (omega arith)) ∙ is ∙ sym (append-nil (map Byte (take i buffer))) in
    let bytes : bytes_of items ≡ take i buffer = ap bytes_of plain ∙ bytes_of-bytes (take i buffer) [] ∙ append-nil (take i buffer) in
    (bytes ∙ sym same, ap length bytes ∙ length-take-le i buffer fits ∙ sym all, ap has_end plain ∙ has_end-bytes (take i buffer) [])

-- where the mark isn't among them, no symbol is it
pub plain_at : (items : List Symbol) (i : ℕ) (d : Symbol) → i < length items → has_end items ≡ false → is_end (get_or items i d) ≡ false
plain_at [] i d below plain = absurd (omega (arith, below))
plain_at (End ∷ items) i d below plain = cc
plain_at (Byte b ∷ items) zero d below plain = refl
plain_at (Byte b ∷ items) (suc i) d below plain = plain_at items i d (omega (arith, below)) plain

-- what is the mark
pub is_mark : (s : Symbol) → is_end s ≡ true → s ≡ End
is_mark (Byte b) is = cc
is_mark End is = refl

-- what a ring was allowed to carry behind some items has the mark as its last at most
pub allowed_last : (before xs : List Symbol) → Allowed (λ (l : List Symbol) (x : Symbol). has_end l ≡ false) before xs → EndsLast xs
allowed_last before [] a = tt
allowed_last before (Byte b ∷ xs) a = (λ e. let no : false ≡ true = e in cc, allowed_last (before ++ Byte b ∷ []) xs a.1)
allowed_last before (End ∷ []) a = (λ e. refl, tt)
allowed_last before (End ∷ y ∷ ys) a =
    let plain : has_end (before ++ End ∷ []) ≡ false = a.1.0 in
    let ended : has_end (before ++ End ∷ []) ≡ true = has_end-append before (End ∷ []) a.0 in
    let no : true ≡ false = sym ended ∙ plain in cc

-- bytes may be put behind items without an end
pub each_plain : (sent xs : List Symbol) (bytes : List ℕ) → has_end sent ≡ false → xs ≡ map Byte bytes → (i : ℕ) → has_end (sent ++ take i xs) ≡ false
each_plain sent xs bytes open_end is i =
    let part : take i xs ≡ map Byte (take i bytes) ++ [] = ap (λ l. take i l) is ∙ take-map Byte i bytes ∙ sym (append-nil (map Byte (take i bytes))) in
    has_end-append sent (take i xs) open_end ∙ ap has_end part ∙ has_end-bytes (take i bytes) []

-- where the last isn't the mark none is
last_plain : (xs : List Symbol) (n : ℕ) (d : Symbol) → EndsLast xs → suc n ≡ length xs → is_end (get_or xs n d) ≡ false → has_end xs ≡ false
last_plain [] n d ends size is = absurd (omega (arith, size))
last_plain (Byte b ∷ []) n d ends size is = refl
last_plain (End ∷ []) zero d ends size is = is
last_plain (End ∷ []) (suc n) d ends size is = absurd (omega (arith, size))
last_plain (x ∷ y ∷ ys) zero d ends size is = absurd (omega (arith, size))
last_plain (Byte b ∷ y ∷ ys) (suc n) d ends size is = last_plain (y ∷ ys) n d ends.1 (omega (arith, size)) is
last_plain (End ∷ y ∷ ys) (suc n) d ends size is = let no : y ∷ ys ≡ [] = ends.0 refl in cc

-- where it is, the others have all bytes
last_mark : (xs : List Symbol) (n : ℕ) (d : Symbol) → EndsLast xs → suc n ≡ length xs → is_end (get_or xs n d) ≡ true
    → (has_end (take n xs) ≡ false) × (bytes_of (take n xs) ≡ bytes_of xs) × (has_end xs ≡ true)
last_mark [] n d ends size is = absurd (omega (arith, size))
last_mark (Byte b ∷ []) zero d ends size is = let no : false ≡ true = is in cc
last_mark (Byte b ∷ []) (suc n) d ends size is = absurd (omega (arith, size))
last_mark (End ∷ []) zero d ends size is = (refl, refl, refl)
last_mark (End ∷ []) (suc n) d ends size is = absurd (omega (arith, size))
last_mark (x ∷ y ∷ ys) zero d ends size is = absurd (omega (arith, size))
last_mark (Byte b ∷ y ∷ ys) (suc n) d ends size is = let rest = last_mark (y ∷ ys) n d ends.1 (omega (arith, size)) is in (rest.0, ap (λ l. b ∷ l) rest.1, rest.2)
last_mark (End ∷ y ∷ ys) (suc n) d ends size is = let no : y ∷ ys ≡ [] = ends.0 refl in cc

-- how many stand in front of the mark

pub before_none : (xs : List Symbol) → length xs ≡ 0 → AreBefore xs 0
before_none [] size = record { plain = refl; bytes = refl; end = refl }
before_none (x ∷ xs) size = absurd (omega (arith, size))

pub before_last : (xs : List Symbol) (n : ℕ) (d : Symbol) → EndsLast xs → suc n ≡ length xs → is_end (get_or xs n d) ≡ true → AreBefore xs n
before_last xs n d ends size is =
    let m = last_mark xs n d ends size is in
    record { plain = m.0; bytes = m.1; end = m.2 ∙ sym (lt-ltb n (length xs) (omega (arith, size))) }

pub before_all : (xs : List Symbol) (n : ℕ) (d : Symbol) → EndsLast xs → suc n ≡ length xs → is_end (get_or xs n d) ≡ false → AreBefore xs (length xs)
before_all xs n d ends size is =
    let plain = last_plain xs n d ends size is in
    let whole : take (length xs) xs ≡ xs = take_all (length xs) xs (omega arith) in
    record { plain = ap has_end whole ∙ plain; bytes = ap bytes_of whole; end = plain ∙ sym (le-ltb (length xs) (length xs) (omega arith)) }
