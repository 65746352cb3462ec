use Rattle.std.proofs.Common.{◌≡◌, ◌∙◌, ◌==◌, ◌<◌, Bool, true, false, if◌then◌else◌, Option, Some, None, unwrap_or, ℕ, zero, suc, nat_lt, refl, sym, ap, length, replicate, List, [], ◌∷◌, arith}
use Rattle.std.proofs.lemmas.Bool.Decides.{nat_tests}
use Rattle.journal_defs.specs.Epochs.{Chosen, image_of, image_state, block_of}
use Rattle.journal_defs.specs.Journal.{Pblk}
use Rattle.journal_defs.specs.Sound.{AreWhole}
use Rattle.journal_defs.proofs.blocks.blocks_are_whole.Goals as goal

short : AreWhole (image_state (record { number = 1; blocks = 2; after = [] }) (block_of (replicate {A = ℕ} 4096 0))) → ⊥
short whole = let none : ◌≡◌ {A = ℕ} 0 4096 = whole 1 [] refl in absurd (omega (arith, none))

-- one block on the file, and an image of the next
abbrev imaged : Chosen
imaged = record { number = 1; blocks = 2; after = record { generation = 1; what = Pblk (record { block = 1; bytes = replicate {A = ℕ} 4096 0 }) } ∷ [] }

given : (bytes known : List ℕ) → length known ≡ 4096 → Some known ≡ Some bytes → length bytes ≡ 4096
given bytes known whole is = ap (λ (o : Option (List ℕ)). length (unwrap_or o bytes)) (sym is) ∙ whole

whole_by_image : AreWhole (image_state imaged (block_of (replicate {A = ℕ} 4096 0)))
whole_by_image zero bytes is = given bytes (replicate {A = ℕ} 4096 0) refl is
whole_by_image (suc zero) bytes is = given bytes (replicate {A = ℕ} 4096 0) refl is
whole_by_image (suc (suc b)) bytes is =
    let past : nat_lt (suc (suc b)) 2 ≡ false = grind (arith, nat_tests) in
    let other : (suc (suc b) == 0) ≡ false = grind (arith, nat_tests) in
    let none : image_state imaged (block_of (replicate {A = ℕ} 4096 0)) (suc (suc b)) ≡ None =
    ap (λ (x : Bool). if x then Some (unwrap_or (image_of imaged.after (suc (suc b))) (block_of (replicate {A = ℕ} 4096 0) (suc (suc b)))) else if suc (suc b) == 0 then Some (replicate {A = ℕ} 4096 0) else None) past
    ∙ ap (λ (x : Bool). if x then Some (replicate {A = ℕ} 4096 0) else None) other in
    let gone : None ≡ Some bytes = sym none ∙ is in
    cc

pub returns-clause-short_file : goal.returns-clause-short_file
returns-clause-short_file c = short

pub returns-clause-by_image : goal.returns-clause-by_image
returns-clause-by_image c = whole_by_image
