-- Files cut at a place.
use Rattle.std.proofs.Common.{◌≡◌, ℕ, suc, ◌+◌, ◌≤◌, List, [], ◌∷◌, ◌++◌, length, take, drop, get_or, refl, sym, ◌∙◌, ap, arith, append_assoc, length-append, take-append-drop}
use Rattle.std.proofs.lemmas.List.{append-nil, take_at, drop_at, drop-drop, take-take, drop_more}
use Rattle.disk_defs.specs.Disk.{written, Torn}
use Rattle.disk_defs.specs.Gates.{Body, framed, spelled, spelled_with}
use Rattle.gated_file.specs.State.{shut, ones, text_with}

-- a write behind the front leaves it, whatever a crash makes of the rest
pub torn_behind : (front back c : List ℕ) (at n : ℕ) → length front ≤ at → Torn at n (front ++ back) c → c ≡ front ++ drop (length front) c
torn_behind front back c at n low torn =
    let m = length front in
    let same : take m c ≡ front =
    sym (take-take m at c low) ∙ ap (λ (l : List ℕ). take m l) torn.before ∙ take-take m at (front ++ back) low ∙ take_at front back m refl in
    sym (take-append-drop m c) ∙ ap (λ (l : List ℕ). l ++ drop m c) same

-- a write of one byte over one that is there
pub torn_one : (front : List ℕ) (old : ℕ) (back c : List ℕ) (at : ℕ) → length front ≡ at → Torn at 1 (front ++ old ∷ back) c → c ≡ front ++ get_or c at 0 ∷ back
torn_one front old back c at is torn =
    let long : length (front ++ old ∷ back) ≡ at + suc (length back) = omega (arith, length-append front (old ∷ back)) in
    let behind : drop (at + 1) (front ++ old ∷ back) ≡ back = sym (drop-drop 1 at (front ++ old ∷ back)) ∙ ap (λ (l : List ℕ). drop 1 l) (drop_at front (old ∷ back) at is) in
    let rest : drop at c ≡ get_or c at 0 ∷ back = drop_more c at 0 (omega (arith, torn.no_shorter)) ∙ ap (λ (l : List ℕ). get_or c at 0 ∷ l) (torn.after ∙ behind) in
    sym (take-append-drop at c) ∙ ap (λ (l : List ℕ). l ++ drop at c) (torn.before ∙ take_at front (old ∷ back) at is) ∙ ap (λ (l : List ℕ). front ++ l) rest

pub written_behind : (front back bytes : List ℕ) (at : ℕ) → length front ≡ at → written (front ++ back) at bytes ≡ front ++ (bytes ++ drop (length bytes) back)
written_behind front back bytes at is =
    ap (λ (l : List ℕ). l ++ bytes ++ drop (at + length bytes) (front ++ back)) (take_at front back at is)
    ∙ ap (λ (l : List ℕ). front ++ bytes ++ l) (sym (drop-drop (length bytes) at (front ++ back)) ∙ ap (λ (l : List ℕ). drop (length bytes) l) (drop_at front back at is))
    ∙ append_assoc front bytes (drop (length bytes) back)

pub length-spelled_with : (gates : List ℕ) (bodies : List Body) → length gates ≡ length bodies → length (spelled_with gates bodies) ≡ length (spelled 1 bodies)
length-spelled_with gates [] same = refl
length-spelled_with [] (body ∷ bodies) same = absurd (omega arith)
length-spelled_with (g ∷ gates) (body ∷ bodies) same =
    omega (arith, length-append (framed body) (spelled_with gates bodies), length-append (framed body) (spelled 1 bodies), length-spelled_with gates bodies (omega arith))

pub length-ones : (bodies : List Body) → length (ones bodies) ≡ length bodies
length-ones [] = refl
length-ones (body ∷ bodies) = omega (arith, length-ones bodies)

-- what comes behind a part of the file's end
pub text_behind : (sure : List Body) (gates : List ℕ) (more : List Body) (xs ys : List ℕ) → text_with sure gates more (xs ++ ys) ≡ text_with sure gates more xs ++ ys
text_behind sure gates more xs ys =
    let a = spelled 1 sure in
    let b = spelled_with gates more in
    ap (λ (l : List ℕ). a ++ l) (sym (append_assoc b xs ys)) ∙ sym (append_assoc a (b ++ xs) ys)

pub length-text_with : (sure : List Body) (gates : List ℕ) (more : List Body) (rest : List ℕ) → length gates ≡ length more → length (text_with sure gates more rest) ≡ length (spelled 1 sure) + length (spelled 1 more) + length rest
length-text_with sure gates more rest same =
    omega (arith, length-append (spelled 1 sure) (spelled_with gates more ++ rest), length-append (spelled_with gates more) rest, length-spelled_with gates more same)

-- the tail stands behind the last closed gate
pub shut_tail : (gate : ℕ) (bodies : List Body) (tail : List ℕ) → shut gate bodies tail ≡ shut gate bodies [] ++ tail
shut_tail gate [] tail = refl
shut_tail gate (body ∷ bodies) tail = ap (λ (l : List ℕ). gate ∷ framed body ++ l) (shut_tail 0 bodies tail) ∙ ap (λ (l : List ℕ). gate ∷ l) (sym (append_assoc (framed body) (shut 0 bodies []) tail))

pub shut_push : (gate : ℕ) (bodies : List Body) (body : Body) (tail : List ℕ) → shut gate (bodies ++ body ∷ []) tail ≡ shut gate bodies [] ++ (framed body ++ 0 ∷ tail)
shut_push gate [] body tail = refl
shut_push gate (b ∷ bodies) body tail =
    ap (λ (l : List ℕ). gate ∷ framed b ++ l) (shut_push 0 bodies body tail) ∙ ap (λ (l : List ℕ). gate ∷ l) (sym (append_assoc (framed b) (shut 0 bodies []) (framed body ++ 0 ∷ tail)))

pub length-shut : (gate : ℕ) (bodies : List Body) (tail : List ℕ) → length (shut gate bodies tail) ≡ length (spelled 1 bodies) + 1 + length tail
length-shut gate [] tail = omega arith
length-shut gate (body ∷ bodies) tail = omega (arith, length-append (framed body) (shut 0 bodies tail), length-append (framed body) (spelled 1 bodies), length-shut 0 bodies tail)

-- it begins with its first gate
pub shut_first : (gate : ℕ) (bodies : List Body) (tail : List ℕ) → shut gate bodies tail ≡ gate ∷ drop 1 (shut gate bodies tail)
shut_first gate [] tail = refl
shut_first gate (body ∷ bodies) tail = refl

pub spelled_push : (gate : ℕ) (bodies : List Body) (body : Body) → spelled gate (bodies ++ body ∷ []) ≡ spelled gate bodies ++ gate ∷ framed body
spelled_push gate [] body = ap (λ (l : List ℕ). gate ∷ l) (append-nil (framed body))
spelled_push gate (b ∷ bodies) body = ap (λ (l : List ℕ). gate ∷ framed b ++ l) (spelled_push gate bodies body) ∙ ap (λ (l : List ℕ). gate ∷ l) (sym (append_assoc (framed b) (spelled gate bodies) (gate ∷ framed body)))

pub spelled-append : (gate : ℕ) (xs ys : List Body) → spelled gate (xs ++ ys) ≡ spelled gate xs ++ spelled gate ys
spelled-append gate [] ys = refl
spelled-append gate (b ∷ xs) ys = ap (λ (l : List ℕ). gate ∷ framed b ++ l) (spelled-append gate xs ys) ∙ ap (λ (l : List ℕ). gate ∷ l) (sym (append_assoc (framed b) (spelled gate xs) (spelled gate ys)))

pub spelled_with-ones : (bodies : List Body) → spelled_with (ones bodies) bodies ≡ spelled 1 bodies
spelled_with-ones [] = refl
spelled_with-ones (body ∷ bodies) = ap (λ (l : List ℕ). 1 ∷ framed body ++ l) (spelled_with-ones bodies)

pub spelled_with_push : (gates : List ℕ) (bodies : List Body) (gate : ℕ) (body : Body) (rest : List ℕ) → length gates ≡ length bodies
    → spelled_with (gates ++ gate ∷ []) (bodies ++ body ∷ []) ++ rest ≡ spelled_with gates bodies ++ (gate ∷ framed body ++ rest)
spelled_with_push [] [] gate body rest same = ap (λ (l : List ℕ). gate ∷ l ++ rest) (append-nil (framed body))
spelled_with_push (g ∷ gates) [] gate body rest same = absurd (omega arith)
spelled_with_push [] (b ∷ bodies) gate body rest same = absurd (omega arith)
spelled_with_push (g ∷ gates) (b ∷ bodies) gate body rest same =
    ap (λ (l : List ℕ). g ∷ l) (append_assoc (framed b) (spelled_with (gates ++ gate ∷ []) (bodies ++ body ∷ [])) rest)
    ∙ ap (λ (l : List ℕ). g ∷ framed b ++ l) (spelled_with_push gates bodies gate body rest (omega arith))
    ∙ ap (λ (l : List ℕ). g ∷ l) (sym (append_assoc (framed b) (spelled_with gates bodies) (gate ∷ framed body ++ rest)))

pub ones_push : (bodies : List Body) (body : Body) → ones (bodies ++ body ∷ []) ≡ ones bodies ++ 1 ∷ []
ones_push [] body = refl
ones_push (b ∷ bodies) body = ap (λ (l : List ℕ). 1 ∷ l) (ones_push bodies body)
