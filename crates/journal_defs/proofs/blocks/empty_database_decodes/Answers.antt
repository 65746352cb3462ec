use Rattle.std.proofs.Common.{◌≡◌, ◌∙◌, ℕ, map, refl, sym, ap, length, replicate, List, [], ◌∷◌, arith}
use Rattle.std.specs.FinMap as globals
use Rattle.global_defs.specs.Key.{Key}
use Rattle.global_defs.specs.Encoded.{encoded}
use Rattle.global_defs.specs.Entry.{Globals}
use Rattle.journal_defs.specs.Leaves.{cells_of}
use Rattle.journal_defs.proofs.blocks.empty_database_decodes.Goals as goal

no_elements : {X : Type 0} (xs : List X) → length xs ≡ 0 → [] ≡ xs
no_elements [] none = refl
no_elements (x ∷ xs) none = absurd (omega arith)

no_cells : (g : Globals) → globals.len g ≡ 0 → [] ≡ cells_of g
no_cells g none = ap (λ (es : List (Key × List ℕ)). map (λ e. (encoded e.0, e.1)) es) (no_elements (globals.entries g) (sym (globals.len-entries g) ∙ none))

pub returns : goal.returns
returns c = (
  record { next = 0; cells = [] } ∷ [],
  ((replicate 4096 0, refl, record { form = record { next = omega arith; fits = omega arith; cells = tt; rising = tt }; spelled = refl }), refl),
  tt,
  no_cells globals.empty (globals.len-empty _ _),
)
