-- Bytes of a file, piece by piece.
use Rattle.std.proofs.Common.{◌≡◌, ℕ, ◌+◌, ◌++◌, List, take, drop, Option, IfSome, OnErr, Ok, Err, sym, ◌∙◌, ap, append_assoc}
use Rattle.std.specs.declared.result.Result.{Result}
use Rattle.std.proofs.Math.Seq.{take-add}
use Rattle.disk_defs.specs.Disk.{Files}
use Rattle.disk_defs.proofs.Told.{both_weak, told_at}
use Rattle.global_defs.specs.Prefix.{IsPrefix}

-- one piece more
pub one_piece : (o n : Option Files) (file at count : ℕ) (first old new : List ℕ) → n ≡ o → IfSome o (λ files. old ≡ first ++ take at (files file)) → IfSome n (λ files. new ≡ old ++ take count (drop at (files file)))
    → IfSome o (λ files. new ≡ first ++ take (at + count) (files file))
one_piece o n file at count first old new same before here =
    let Here = λ (files : Files). new ≡ old ++ take count (drop at (files file)) in
    both_weak o (λ files. old ≡ first ++ take at (files file)) Here (λ files. new ≡ first ++ take (at + count) (files file)) before (told_at o n Here same here)
    (λ files was is.
    is ∙ ap (λ (l : List ℕ). l ++ take count (drop at (files file))) was ∙ append_assoc first (take at (files file)) (take count (drop at (files file)))
    ∙ ap (λ (l : List ℕ). first ++ l) (sym (take-add at count (files file))))

-- a front of a front
pub further : (a b c : List ℕ) → IsPrefix a b → IsPrefix b c → IsPrefix a c
further a b c first second = (first.0 ++ second.0, second.1 ∙ ap (λ (l : List ℕ). l ++ second.0) first.1 ∙ append_assoc a first.0 second.0)

-- a fact that doesn't hang on the error
pub whatever_error : {T E : Type 0} (r : Result T E) (P : Type 0) → P → OnErr r P
whatever_error (Ok x) P p = _
whatever_error (Err e) P p = p
