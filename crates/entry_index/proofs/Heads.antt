-- Gates and lengths outside the format, as they are read from a piece.
use Rattle.std.proofs.Common.{◌≡◌, ℕ, ◌+◌, ◌-◌, ◌≤◌, ◌<◌, [], ◌∷◌, take, drop, Option, Some, None, IfSome, refl, subst}
use Rattle.std.specs.Int.{from_be_bytes, w32}
use Rattle.global_defs.specs.declared.limits.TheConstants.{LONGEST_BODY}
use Rattle.disk_defs.specs.Disk.{Files}
use Rattle.disk_defs.specs.Gates.{NoGate, gate_at}
use Rattle.disk_defs.proofs.Told.{told_at}
use Rattle.gated_file.proofs.Gates.{was_short, was_unfit}
use Rattle.entry_index.specs.Pieces.{IsPieceOf}
use Rattle.entry_index.specs.declared.pieces.Pieces.{Pieces}

-- a gate byte that was read from a piece
module _ (p : Pieces) (files : Files) (is : IsPieceOf p files) (at : ℕ) (long : 2 ≤ p.size) (inside : at < p.size) (b : ℕ) (gate : b ∷ [] ≡ take 1 (drop at (files p.file))) (opened : b ≡ 1) where
  pub gate_short : p.size - at < 6 → gate_at (files p.file) at ≡ NoGate
  gate_short short = was_short (files p.file) at p.size (b ∷ []) long is.size inside gate opened short

  pub gate_unfit : (n : ℕ) → n ≡ from_be_bytes w32 (take 4 (drop (at + 1) (files p.file))) → (1 ≤ n → n ≤ LONGEST_BODY → p.size - at < n + 6) → gate_at (files p.file) at ≡ NoGate
  gate_unfit n n_is unfit = was_unfit (files p.file) at p.size n (b ∷ []) (take 4 (drop (at + 1) (files p.file))) long is.size inside gate opened refl n_is unfit

-- what is known of a file by two readings of it
pub record Seen (p : Pieces) (at b n : ℕ) (files : Files) : Type 0 where
  pub is : IsPieceOf p files
  pub gate : b ∷ [] ≡ take 1 (drop at (files p.file))
  pub number : n ≡ from_be_bytes w32 (take 4 (drop (at + 1) (files p.file)))

pub told_seen : (o m : Option Files) (p q : Pieces) (at b n : ℕ) → m ≡ o → q.file ≡ p.file → IfSome o (IsPieceOf p) → IfSome o (λ files. b ∷ [] ≡ take 1 (drop at (files p.file)))
    → IfSome m (λ files. n ≡ from_be_bytes w32 (take 4 (drop (at + 1) (files q.file)))) → IfSome o (Seen p at b n)
told_seen o m p q at b n content same is gate number =
    among o is gate (told_at o m (λ files. n ≡ from_be_bytes w32 (take 4 (drop (at + 1) (files p.file)))) content
    (subst (λ (f : ℕ). IfSome m (λ files. n ≡ from_be_bytes w32 (take 4 (drop (at + 1) (files f))))) same number))
  where
    among : (o : Option Files) → IfSome o (IsPieceOf p) → IfSome o (λ files. b ∷ [] ≡ take 1 (drop at (files p.file))) → IfSome o (λ files. n ≡ from_be_bytes w32 (take 4 (drop (at + 1) (files p.file)))) → IfSome o (Seen p at b n)
    among None is gate number = tt
    among (Some files) is gate number = record { is = is; gate = gate; number = number }
