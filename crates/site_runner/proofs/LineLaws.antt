-- Lines of texts.
use Rattle.std.proofs.Common.{◌≡◌, ℕ, ◌==◌, Bool, true, false, not, List, [], ◌∷◌, ◌++◌, length, refl, ap, ◌∙◌, ◌<◌, arith}
use Rattle.std.specs.List.{list_all, list_any}
use Rattle.command_defs.specs.Lines.{lines_of, ended}
use Rattle.jnl_extract.proofs.Cuts.{split_or, split_and}

-- no line feed
abbrev pub is_clean : List ℕ → Bool
is_clean line = not (list_any (λ b. b == 10) line)

pub first_line : (line rest : List ℕ) → list_any (λ b. b == 10) line ≡ false → lines_of (line ++ 10 ∷ rest) ≡ line ∷ lines_of rest
first_line [] rest h = refl
first_line (b ∷ bs) rest h =
    let s = split_or (b == 10) (list_any (λ b. b == 10) bs) h in
    rw (s.0, first_line bs rest s.1) refl

pub last_line : (line : List ℕ) → list_any (λ b. b == 10) line ≡ false → 0 < length line → lines_of line ≡ line ∷ []
last_line [] h n = absurd (omega arith)
last_line (b ∷ []) h n = let s = split_or (b == 10) false h in rw s.0 refl
last_line (b ∷ c ∷ bs) h n =
    let s = split_or (b == 10) (list_any (λ b. b == 10) (c ∷ bs)) h in
    rw (s.0, last_line (c ∷ bs) s.1 (omega arith)) refl

clean_not : (b : Bool) → not b ≡ true → b ≡ false
clean_not true e = cc
clean_not false e = refl

regroup : (line rest x : List ℕ) → ((line ++ 10 ∷ []) ++ rest) ++ x ≡ line ++ 10 ∷ (rest ++ x)
regroup [] rest x = refl
regroup (b ∷ bs) rest x = ap (λ r. b ∷ r) (regroup bs rest x)

pub lines_ended : (lines : List (List ℕ)) (x : List ℕ) → list_all is_clean lines ≡ true → lines_of (ended lines ++ x) ≡ lines ++ lines_of x
lines_ended [] x h = refl
lines_ended (line ∷ lines) x h =
    let s = split_and (is_clean line) (list_all is_clean lines) h in
    ap lines_of (regroup line (ended lines) x) ∙ first_line line (ended lines ++ x) (clean_not _ s.0) ∙ ap (λ r. line ∷ r) (lines_ended lines x s.1)
