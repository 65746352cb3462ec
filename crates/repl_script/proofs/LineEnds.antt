-- What is left of a line without its ignored end.
use Rattle.std.proofs.Common.{◌≡◌, ◌≢◌, ℕ, ◌-◌, ◌≤◌, List, [], ◌∷◌, ◌++◌, length, take, get_or, refl, sym, ap, ◌∙◌, arith}
use Rattle.command_defs.specs.Parts.{before_spaces, before_return}
use Rattle.command_defs.proofs.LineEnds.{space_gone, up_to_byte, return_gone, other_stays}
use Rattle.command_defs.proofs.Patterns.{split_last}

pub return_taken : (text : List ℕ) → 1 ≤ length text → get_or text (length text - 1) 0 ≡ 13 → take (length text - 1) text ≡ before_return text
return_taken text h e = let n = length text - 1 in
    sym (ap before_return (split_last text h ∙ ap (λ (x : ℕ). take n text ++ x ∷ []) e) ∙ return_gone (take n text))

pub return_none : (text : List ℕ) → get_or text (length text - 1) 0 ≢ 13 → text ≡ before_return text
return_none [] ne = refl
return_none (b ∷ bs) ne = let text = b ∷ bs in let whole = split_last text (omega arith) in
    sym (ap before_return whole ∙ (other_stays (take (length text - 1) text) (get_or text (length text - 1) 0) ne ∙ sym whole))

pub space_taken : (text : List ℕ) → 1 ≤ length text → get_or text (length text - 1) 0 ≡ 32 → before_spaces (take (length text - 1) text) ≡ before_spaces text
space_taken text h e = let n = length text - 1 in
    sym (ap before_spaces (split_last text h ∙ ap (λ (x : ℕ). take n text ++ x ∷ []) e) ∙ space_gone (take n text))

pub space_none : (text : List ℕ) → get_or text (length text - 1) 0 ≢ 32 → text ≡ before_spaces text
space_none [] ne = refl
space_none (b ∷ bs) ne = let text = b ∷ bs in let whole = split_last text (omega arith) in
    sym (ap before_spaces whole ∙ (up_to_byte (take (length text - 1) text) (get_or text (length text - 1) 0) 0 ne ∙ sym whole))
