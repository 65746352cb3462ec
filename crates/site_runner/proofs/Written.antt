-- Pieces of text, one behind another.
use Rattle.std.proofs.Common.{◌≡◌, ℕ, zero, suc, min, List, [], ◌∷◌, ◌++◌, length, take, refl, ap, sym, ◌∙◌, arith, append_assoc}
use Rattle.std.specs.Prelude.{codes}
use Rattle.std.specs.Fmt.{decimal}
use Rattle.world_defs.specs.Answers.{line}

joined : (o n a f b u c : List ℕ) → (((((o ++ n) ++ a) ++ f) ++ b) ++ u) ++ c ≡ o ++ (n ++ (a ++ (f ++ (b ++ (u ++ c)))))
joined o n a f b u c = simp (append_assoc)

as_line : (o n f u : List ℕ) → o ++ (n ++ (codes " DISKFAULT " ++ (f ++ (codes " UNDECIDED " ++ (u ++ 10 ∷ []))))) ≡ o ++ line n (codes "DISKFAULT " ++ f ++ codes " UNDECIDED " ++ u)
as_line o n f u = simp (append_assoc)

-- the line of a section that a fault ended
pub undecided : (o n f u a b c d e t : List ℕ) → a ≡ o ++ n → b ≡ a ++ codes " DISKFAULT " → c ≡ b ++ f → d ≡ c ++ codes " UNDECIDED " → e ≡ d ++ u → t ≡ e ++ 10 ∷ []
    → t ≡ o ++ line n (codes "DISKFAULT " ++ f ++ codes " UNDECIDED " ++ u)
undecided o n f u a b c d e t ea eb ec ed ee et =
    et ∙ ap (λ (x : List ℕ). x ++ 10 ∷ []) (ee ∙ ap (λ (x : List ℕ). x ++ u) (ed ∙ ap (λ (x : List ℕ). x ++ codes " UNDECIDED ") (ec ∙ ap (λ (x : List ℕ). x ++ f) (eb ∙ ap (λ (x : List ℕ). x ++ codes " DISKFAULT ") ea))))
    ∙ joined o n (codes " DISKFAULT ") f (codes " UNDECIDED ") u (10 ∷ [])
    ∙ as_line o n f u

take_empty : {X : Type 0} (n : ℕ) → take {A = X} n [] ≡ []
take_empty zero = refl
take_empty (suc n) = refl

pub take_least : {X : Type 0} (xs : List X) (n : ℕ) → take (min (length xs) n) xs ≡ take n xs
take_least [] n = take_empty (min 0 n) ∙ sym (take_empty n)
take_least (x ∷ xs) zero = let e : min (length (x ∷ xs)) 0 ≡ 0 = omega arith in ap (λ (k : ℕ). take k (x ∷ xs)) e
take_least (x ∷ xs) (suc n) = let e : min (length (x ∷ xs)) (suc n) ≡ suc (min (length xs) n) = omega arith in ap (λ (k : ℕ). take k (x ∷ xs)) e ∙ ap (λ (l : List _). x ∷ l) (take_least xs n)

joined_reign : (o n a r b c f s e : List ℕ) → (((((((o ++ n) ++ a) ++ r) ++ b) ++ c) ++ f) ++ s) ++ e ≡ o ++ (n ++ (a ++ (r ++ (b ++ (c ++ (f ++ (s ++ e)))))))
joined_reign o n a r b c f s e = simp (append_assoc)

reign_line : (o n r c s : List ℕ) → o ++ (n ++ (codes " REIGN " ++ (r ++ (codes " " ++ (c ++ (codes " FROM " ++ (s ++ 10 ∷ []))))))) ≡ o ++ line n (codes "REIGN " ++ r ++ 32 ∷ c ++ codes " FROM " ++ s)
reign_line o n r c s = simp (append_assoc)

-- the line of a reign
pub reign_written : (o n r c s t1 t2 t3 t4 t5 t6 t7 t : List ℕ) → t1 ≡ o ++ n → t2 ≡ t1 ++ codes " REIGN " → t3 ≡ t2 ++ r → t4 ≡ t3 ++ codes " " → t5 ≡ t4 ++ c → t6 ≡ t5 ++ codes " FROM " → t7 ≡ t6 ++ s → t ≡ t7 ++ 10 ∷ []
    → t ≡ o ++ line n (codes "REIGN " ++ r ++ 32 ∷ c ++ codes " FROM " ++ s)
reign_written o n r c s t1 t2 t3 t4 t5 t6 t7 t e1 e2 e3 e4 e5 e6 e7 e =
    e ∙ ap (λ (x : List ℕ). x ++ 10 ∷ []) (e7 ∙ ap (λ (x : List ℕ). x ++ s) (e6 ∙ ap (λ (x : List ℕ). x ++ codes " FROM ") (e5 ∙ ap (λ (x : List ℕ). x ++ c) (e4 ∙ ap (λ (x : List ℕ). x ++ codes " ") (e3 ∙ ap (λ (x : List ℕ). x ++ r) (e2 ∙ ap (λ (x : List ℕ). x ++ codes " REIGN ") e1))))))
    ∙ joined_reign o n (codes " REIGN ") r (codes " ") c (codes " FROM ") s (10 ∷ [])
    ∙ reign_line o n r c s

open_line : (o n c l : List ℕ) → o ++ (n ++ (codes " STATE PRIMARY " ++ (c ++ (codes " LENGTH " ++ (l ++ 10 ∷ []))))) ≡ o ++ line n (codes "STATE PRIMARY " ++ c ++ codes " LENGTH " ++ l)
open_line o n c l = simp (append_assoc)

-- the line of a site that is open
pub open_written : (o n c l t1 t2 t3 t4 t5 t : List ℕ) → t1 ≡ o ++ n → t2 ≡ t1 ++ codes " STATE PRIMARY " → t3 ≡ t2 ++ c → t4 ≡ t3 ++ codes " LENGTH " → t5 ≡ t4 ++ l → t ≡ t5 ++ 10 ∷ []
    → t ≡ o ++ line n (codes "STATE PRIMARY " ++ c ++ codes " LENGTH " ++ l)
open_written o n c l t1 t2 t3 t4 t5 t e1 e2 e3 e4 e5 e =
    e ∙ ap (λ (x : List ℕ). x ++ 10 ∷ []) (e5 ∙ ap (λ (x : List ℕ). x ++ l) (e4 ∙ ap (λ (x : List ℕ). x ++ codes " LENGTH ") (e3 ∙ ap (λ (x : List ℕ). x ++ c) (e2 ∙ ap (λ (x : List ℕ). x ++ codes " STATE PRIMARY ") e1))))
    ∙ joined o n (codes " STATE PRIMARY ") c (codes " LENGTH ") l (10 ∷ [])
    ∙ open_line o n c l

rolled_line : (o n k g : List ℕ) → o ++ (n ++ (codes " ROLLEDBACK " ++ (k ++ (codes " LOST " ++ (g ++ 10 ∷ []))))) ≡ o ++ line n (codes "ROLLEDBACK " ++ k ++ codes " LOST " ++ g)
rolled_line o n k g = simp (append_assoc)

-- the line of a rollback
pub rolled_written : (o n k g t1 t2 t3 t4 t5 t : List ℕ) → t1 ≡ o ++ n → t2 ≡ t1 ++ codes " ROLLEDBACK " → t3 ≡ t2 ++ k → t4 ≡ t3 ++ codes " LOST " → t5 ≡ t4 ++ g → t ≡ t5 ++ 10 ∷ []
    → t ≡ o ++ line n (codes "ROLLEDBACK " ++ k ++ codes " LOST " ++ g)
rolled_written o n k g t1 t2 t3 t4 t5 t e1 e2 e3 e4 e5 e =
    e ∙ ap (λ (x : List ℕ). x ++ 10 ∷ []) (e5 ∙ ap (λ (x : List ℕ). x ++ g) (e4 ∙ ap (λ (x : List ℕ). x ++ codes " LOST ") (e3 ∙ ap (λ (x : List ℕ). x ++ k) (e2 ∙ ap (λ (x : List ℕ). x ++ codes " ROLLEDBACK ") e1))))
    ∙ joined o n (codes " ROLLEDBACK ") k (codes " LOST ") g (10 ∷ [])
    ∙ rolled_line o n k g

-- a line under the site's own name
pub named : {name n now : List ℕ} (before words : List ℕ) → n ≡ name → now ≡ before ++ line n words → now ≡ before ++ line name words
named {name} {n} {now} before words e t = t ∙ ap (λ (x : List ℕ). before ++ line x words) e

-- the line of a file that is outside the formats, with its numbers
pub not_a_file : {name n now : List ℕ} {x y file offset : ℕ} (before : List ℕ) → x ≡ file → y ≡ offset → n ≡ name → now ≡ before ++ line n (codes "NOTAFILE " ++ decimal x ++ 32 ∷ decimal y)
    → now ≡ before ++ line name (codes "NOTAFILE " ++ decimal file ++ 32 ∷ decimal offset)
not_a_file {name} {n} {now} {x} {y} {file} {offset} before f o e t =
    t ∙ ap (λ (k : ℕ). before ++ line n (codes "NOTAFILE " ++ decimal k ++ 32 ∷ decimal y)) f ∙ ap (λ (k : ℕ). before ++ line n (codes "NOTAFILE " ++ decimal file ++ 32 ∷ decimal k)) o
    ∙ ap (λ (k : List ℕ). before ++ line k (codes "NOTAFILE " ++ decimal file ++ 32 ∷ decimal offset)) e
