-- The bodies of a file, one after the other.
use Rattle.std.proofs.Common.{◌≡◌, ℕ, ◌+◌, List, [], ◌∷◌, ◌++◌, length, Option, Some, None, IfSome, refl, sym, ◌∙◌, ap, subst, arith, append_assoc, length-append}
use Rattle.std.specs.Option.{option_map}
use Rattle.disk_defs.specs.Gates.{Body, records, framed, spelled}
use Rattle.disk_defs.specs.Disk.{Files}
use Rattle.disk_defs.proofs.Told.{told_at}
use Rattle.disk_defs.proofs.Texts.{length-framed}
use Rattle.gated_file.specs.declared.gated.Gated.{Gated}
use Rattle.gated_file.proofs.Pieces.{spelled_push}

-- a list that begins with a body
pub record Begun (body : Body) (o : Option (List Body)) (bodies : List Body) : Type 0 where
  pub more : List Body
  pub is : bodies ≡ body ∷ more
  pub rest : o ≡ Some more

pub begun : (body : Body) (o : Option (List Body)) (bodies : List Body) → option_map (λ bs. body ∷ bs) o ≡ Some bodies → Begun body o bodies
begun body None bodies is = absurd (cc is)
begun body (Some more) bodies is = record { more = more; is = cc is; rest = refl }

pub list_after : (file : List ℕ) (done rest more : List Body) (body : Body) → records file ≡ Some (done ++ rest) → rest ≡ body ∷ more → records file ≡ Some ((done ++ body ∷ []) ++ more)
list_after file done rest more body list is = list ∙ ap Some (ap (λ (l : List Body). done ++ l) is ∙ sym (append_assoc done (body ∷ []) more))

pub next_place : (done : List Body) (body : Body) (at next : ℕ) → at ≡ length (spelled 1 done) → next ≡ at + 5 + length body → next ≡ length (spelled 1 (done ++ body ∷ []))
next_place done body at next place next_is = omega (arith, place, next_is, ap length (spelled_push 1 done body), length-append (spelled 1 done) (1 ∷ framed body), length-framed body)

pub told_same : (o n : Option Files) (g h : Gated) (P : List ℕ → Type 0) → n ≡ o → h ≡ g → IfSome n (λ files. P (files h.file)) → IfSome o (λ files. P (files g.file))
told_same o n g h P content same told = told_at o n (λ files. P (files g.file)) content (subst (λ (x : Gated). IfSome n (λ files. P (files x.file))) same told)
