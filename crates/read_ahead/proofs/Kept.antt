-- Pieces that stay what files have.
use Rattle.std.proofs.Common.{◌≡◌, ℕ, ◌+◌, ◌-◌, ◌≤◌, List, Option, Some, None, length, take, drop, ap, sym, subst, ◌∙◌, arith}
use Rattle.std.specs.Prelude.{IfSome}
use Rattle.std.proofs.lemmas.List.{take-take, drop-take, drop-drop}
use Rattle.disk_defs.specs.Disk.{Files, OnFile, ReadsAfter}
use Rattle.disk_defs.specs.Frames.{Only, SameOutside}
use Rattle.read_ahead.specs.Kept.{IsPieceOf, AreKept}
use Rattle.read_ahead.specs.declared.piece.Piece.{Piece}

-- what a piece has from one of its places on is what the file has there
pub given : (files : Files) (p : Piece) (from at n : ℕ) → p.at + from ≡ at → from + n ≤ length p.bytes.items → IsPieceOf files p
    → take n (drop from p.bytes.items) ≡ take n (drop at (files p.file))
given files p from at n place inside is =
    let bytes : List ℕ = p.bytes.items in
    let file : List ℕ = files p.file in
    let whole : from + (length bytes - from) ≡ length bytes = omega (arith, inside) in
    ap (λ (l : List ℕ). take n (drop from l)) (is ∙ ap (λ (k : ℕ). take k (drop p.at file)) (sym whole))
    ∙ ap (λ (l : List ℕ). take n l) (drop-take from (length bytes - from) (drop p.at file))
    ∙ take-take n (length bytes - from) (drop from (drop p.at file)) (omega (arith, inside))
    ∙ ap (λ (l : List ℕ). take n l) (drop-drop from p.at file ∙ ap (λ (k : ℕ). drop k file) place)

-- pieces from which a file's was taken are kept where that file alone has changed
pub kept_behind : (o n : Option Files) (file : ℕ) (step : List ℕ → List ℕ → Type 0) (ps qs : List Piece) → ReadsAfter (OnFile file step) o n
    → ((old new : Files) → SameOutside (Only file) old new → AreKept old ps → AreKept new qs)
    → IfSome o (λ files. AreKept files ps) → IfSome n (λ files. AreKept files qs)
kept_behind None n file step ps qs after stay kept = subst (λ (r : Option Files). IfSome r (λ files. AreKept files qs)) (sym after) tt
kept_behind (Some a) None file step ps qs after stay kept = absurd after
kept_behind (Some a) (Some b) file step ps qs after stay kept = stay a b (λ f out. after.others f out) kept
