-- A leaf has a code, so it can be what a block stands for.
use Rattle.std.specs.Prelude.{ℕ, List, refl}
use Rattle.std.specs.Coded.{Coded, code_by, coded×, coded_list, coded_ℕ}
use Rattle.journal_defs.specs.Leaves.{Leaf, Cell}

abbrev pub leaf_code : Coded Leaf
leaf_code = code_by (ℕ × List Cell) (coded× coded_ℕ (coded_list (coded× (coded_list coded_ℕ) (coded_list coded_ℕ)))) (λ l. (l.next, l.cells)) (λ p. record { next = p.0; cells = p.1 }) (λ _. refl)
