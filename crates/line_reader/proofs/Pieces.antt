-- Pieces of lines.
use Rattle.std.proofs.Common.{◌≡◌, ℕ, zero, suc, ◌+◌, ◌<◌, ◌≤◌, ◌==◌, Bool, true, false, List, [], ◌∷◌, ◌++◌, length, take, drop, get_or, Option, Some, None, refl, sym, ◌∙◌, ap, subst, arith, append_assoc, append-nil, length-append}
use Rattle.std.specs.List.{position_from, list_any}
use Rattle.std.specs.Io.KnownBytes.{Consumes, prepend_known}
use Rattle.std.proofs.KnownBytes.{Consumes-nil, Consumes-trans}
use Rattle.std.proofs.lemmas.Bool.Decides.{nat_tests}
use Rattle.std.proofs.lemmas.List.Folds.{list_any-append}
use Rattle.std.specs.Prelude.{◌||◌, position}
use Rattle.std.proofs.lemmas.Iterator.Adapters.{position_from-zero}
use Rattle.std.proofs.lemmas.List.{take-append-drop, drop_more, get_or-take, length-take}
use Rattle.line_reader.specs.Ahead.{Ahead}
use Rattle.line_reader.specs.Lines.{IsPiece, IsFeedAt, Moves, Takes}

abbrev is_feed : ℕ → Bool
is_feed b = b == 10

-- no byte is a line feed
none_by : (i x : ℕ) (xs : List ℕ) (b : Bool) → is_feed x ≡ b → position_from is_feed i (x ∷ xs) ≡ None → (position_from is_feed (i + 1) xs ≡ None → IsPiece xs) → IsPiece (x ∷ xs)
none_by i x xs true e h more = absurd (cc (rw e at h))
none_by i x xs false e h more = rw e (more (rw e at h))

none_there : (i : ℕ) (xs : List ℕ) → position_from is_feed i xs ≡ None → IsPiece xs
none_there i [] h = refl
none_there i (x ∷ xs) h = none_by i x xs (is_feed x) refl h (none_there (i + 1) xs)

-- the first one
abbrev Found : (i k : ℕ) → List ℕ → Type 0
Found i k xs = (j : ℕ) × (k ≡ i + j) × IsFeedAt xs j

found_by : (i k x : ℕ) (xs : List ℕ) (b : Bool) → is_feed x ≡ b → position_from is_feed i (x ∷ xs) ≡ Some k → (position_from is_feed (i + 1) xs ≡ Some k → Found (i + 1) k xs) → Found i k (x ∷ xs)
found_by i k x xs true e h more =
    let same : i ≡ k = cc (rw e at h) in
    (0, omega (arith, same), record { inside = omega arith; before = refl; here = grind (arith, nat_tests, e) })
found_by i k x xs false e h more =
    let found = more (rw e at h) in
    let far = found.1 in
    let inside = found.2.inside in
    (suc found.0, omega (arith, far), record { inside = omega (arith, inside); before = rw e found.2.before; here = found.2.here })

found_from : (i k : ℕ) (xs : List ℕ) → position_from is_feed i xs ≡ Some k → Found i k xs
found_from i k [] h = absurd (cc h)
found_from i k (x ∷ xs) h = found_by i k x xs (is_feed x) refl h (found_from (i + 1) k xs)

pub is_piece : (xs : List ℕ) → position is_feed xs ≡ None → IsPiece xs
is_piece xs h = none_there 0 xs (sym (position_from-zero is_feed xs) ∙ h)

pub is_feed_at : (xs : List ℕ) (k : ℕ) → position is_feed xs ≡ Some k → IsFeedAt xs k
is_feed_at xs k h = let found = found_from 0 k xs (sym (position_from-zero is_feed xs) ∙ h) in let same = found.1 in subst (IsFeedAt xs) (omega (arith, same)) found.2

taken_twice : (xs : List ℕ) (n m : ℕ) → m ≤ n → take m (take n xs) ≡ take m xs
taken_twice xs n zero le = refl
taken_twice xs zero (suc m) le = absurd (omega (arith, le))
taken_twice [] (suc n) (suc m) le = refl
taken_twice (x ∷ xs) (suc n) (suc m) le = ap (λ (l : List ℕ). x ∷ l) (taken_twice xs n m (omega (arith, le)))

-- the bytes up to a line feed, and those behind it
pub fed : (left line : List ℕ) (most i : ℕ) → most ≤ length left → IsFeedAt (take most left) i → Moves true left (drop (i + 1) left) line (line ++ take i (take most left))
fed left line most i within at =
    let inside = at.inside in
    let low : i < most = omega (arith, inside, within, length-take most left) in
    let here : get_or left i 0 ≡ 10 = sym (get_or-take most left i 0 low) ∙ at.here in
    let all : take i left ++ drop i left ≡ left = take-append-drop i left in
    record {
      piece = take i (take most left);
      line = refl;
      plain = at.before;
      rest = sym all ∙ ap (λ (l : List ℕ). take i left ++ l) (drop_more left i 0 (omega (arith, low, within)) ∙ ap (λ (b : ℕ). b ∷ drop (i + 1) left) here) ∙ ap (λ (l : List ℕ). l ++ 10 ∷ drop (i + 1) left) (sym (taken_twice left most i (omega (arith, low))));
    }

pub moved : (left line : List ℕ) (most : ℕ) → 0 < most → most ≤ length left → IsPiece (take most left) → Moves false left (drop most left) line (line ++ take most left)
moved left line most some within plain = record {
  piece = take most left;
  line = refl;
  plain = plain;
  rest = (sym (take-append-drop most left), omega (arith, some, within, length-take most left));
}

-- what was taken, and then more
pub takes_then : (a b c : Ahead) (o p q : Option (List ℕ)) (xs ys : List ℕ) → Takes a b o p xs → Takes b c p q ys → Takes a c o q (xs ++ ys)
takes_then a b c o p q xs ys s t =
    let room_s = s.room in
    let room_t = t.room in
    let count_s = s.count in
    let count_t = t.count in
    record {
      taken = Consumes-trans (prepend_known a.bytes o) (prepend_known b.bytes p) (prepend_known c.bytes q) xs ys s.taken t.taken;
      read = s.read ++ t.read;
      source = Consumes-trans o p q s.read t.read s.source t.source;
      room = omega (arith, room_s, room_t, length-append s.read t.read);
      count = omega (arith, count_s, count_t, length-append s.read t.read, length-append xs ys);
    }

consumes_front : (o : Option (List ℕ)) (xs ys zs : List ℕ) → xs ≡ ys ++ zs → Consumes (prepend_known xs o) (prepend_known zs o) ys
consumes_front None xs ys zs e = tt
consumes_front (Some s) xs ys zs e = ap (λ (l : List ℕ). l ++ s) e ∙ append_assoc ys zs s

-- bytes of those that were read
pub takes_front : (a b : Ahead) (o : Option (List ℕ)) (bytes : List ℕ) → a.bytes ≡ bytes ++ b.bytes → b.room ≡ a.room → Takes a b o o bytes
takes_front a b o bytes e same = record {
  taken = consumes_front o a.bytes bytes b.bytes e;
  read = [];
  source = Consumes-nil o;
  room = omega (arith, same);
  count = omega (arith, ap length e, length-append bytes b.bytes);
}

-- nothing more was taken
pub takes_none : (a b c : Ahead) (o p q : Option (List ℕ)) (xs : List ℕ) → Takes a b o p xs → Takes b c p q [] → Takes a c o q xs
takes_none a b c o p q xs s t = subst (λ (l : List ℕ). Takes a c o q l) (append-nil xs) (takes_then a b c o p q xs [] s t)

-- a piece and the line feed behind it
pub takes_fed : (a b c d : Ahead) (o p q : Option (List ℕ)) (line more : List ℕ) → Takes a b o p line → Takes b c p q [] → Moves true c.bytes d.bytes line more → d.room ≡ c.room → length more ≤ 4096
    → (bytes : List ℕ) × Takes a d o q bytes × (length bytes ≤ 4097)
takes_fed a b c d o p q line more s t m same short =
    let bytes = m.piece ++ 10 ∷ [] in
    let front = takes_front c d q bytes (m.rest ∙ sym (append_assoc m.piece (10 ∷ []) d.bytes)) same in
    let long : length (line ++ bytes) ≡ length more + 1 = omega (arith, length-append line bytes, length-append m.piece (10 ∷ []), ap length m.line, length-append line m.piece) in
    (line ++ bytes, takes_then a c d o q q line bytes (takes_none a b c o p q line s t) front, omega (arith, long, short))

-- a piece
pub takes_moved : (a b c d : Ahead) (o p q : Option (List ℕ)) (line more : List ℕ) → Takes a b o p line → Takes b c p q [] → Moves false c.bytes d.bytes line more → d.room ≡ c.room → Takes a d o q more
takes_moved a b c d o p q line more s t m same =
    subst (λ (l : List ℕ). Takes a d o q l) (sym m.line) (takes_then a c d o q q line m.piece (takes_none a b c o p q line s t) (takes_front c d q m.piece m.rest.0 same))

neither : (x y : Bool) → x ≡ false → y ≡ false → (x || y) ≡ false
neither true y a b = absurd (cc a)
neither false y a b = b

pub piece_more : (fed_now : Bool) (old new line more : List ℕ) → IsPiece line → Moves fed_now old new line more → IsPiece more
piece_more fed_now old new line more plain m =
    ap (list_any is_feed) m.line ∙ list_any-append is_feed line m.piece ∙ neither (list_any is_feed line) (list_any is_feed m.piece) plain m.plain
