-- How many bytes things have that stand one after another, and how many the bodies of frames have.
use Rattle.std.proofs.Common.{◌≡◌, ℕ, ◌+◌, List, [], ◌∷◌, ◌++◌, length, refl, ap, ◌∙◌, arith, length-append}
use Rattle.std.specs.Int.{to_be_bytes, w32, w64}
use Rattle.std.specs.List.{flat_map}
use Rattle.global_defs.specs.Entry.{Transaction}
use Rattle.global_defs.specs.Fields.{short, spelled_update}
use Rattle.global_defs.specs.Prefix as prefix
use Rattle.wire_defs.specs.Frames.{Hello, Entry, frame_body, spelled_reign}
use Rattle.repl_wire.specs.Totals.{total}

pub total_is : {X : Type 0} (spelled : X → List ℕ) (xs : List X) → length (flat_map spelled xs) ≡ total spelled xs
total_is spelled [] = refl
total_is spelled (x ∷ xs) = length-append (spelled x) (flat_map spelled xs) ∙ ap (λ (k : ℕ). length (spelled x) + k) (total_is spelled xs)

pub hello_size : (v : ℕ) (n : List ℕ) (h : prefix.History) → length (frame_body (Hello v n h)) ≡ 14 + length n + total spelled_reign h.reigns
hello_size v n h =
    let head : List ℕ = short n ++ to_be_bytes w64 h.length in
    let a = length-append (short n) (to_be_bytes w64 h.length) in
    let b = length-append head (to_be_bytes w32 (length h.reigns)) in
    let c = length-append (head ++ to_be_bytes w32 (length h.reigns)) (flat_map spelled_reign h.reigns) in
    let d = total_is spelled_reign h.reigns in
    omega arith

pub entry_size : (n : ℕ) (t : Transaction) → length (frame_body (Entry n t)) ≡ 15 + total spelled_update t.updates
entry_size n t = let d = total_is spelled_update t.updates in omega arith
