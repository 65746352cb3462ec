-- Regions without nodes have the parts of the empty state.
use Rattle.std.proofs.Common.{◌≡◌, ℕ, zero, suc, ◌+◌, ◌<◌, List, [], ◌∷◌, ◌++◌, length, take, Some, slice_get, get_or, sym, ap, subst, ◌∙◌, arith}
use Rattle.std.specs.List.{AllByRecursion}
use Rattle.std.proofs.lemmas.List.{take_more}
use Rattle.std.specs.FinMap as globals
use Rattle.global_defs.specs.Entry.{Globals}
use Rattle.journal_defs.specs.Directory.{Pattern}
use Rattle.block_laws.proofs.Parts.{begins}
use Rattle.region_store.specs.Region.{Standing}
use Rattle.region_store.specs.Joined.{ArePartsOf, parts_in}
use Rattle.region_tests.specs.Nodeless.{HasNoNodes}

abbrev none : Globals
none = globals.empty

append : (rs : List Standing) (x : Standing) → AllByRecursion HasNoNodes rs → HasNoNodes x → AllByRecursion HasNoNodes (rs ++ x ∷ [])
append [] x all is = (is, tt)
append (r ∷ rs) x all is = (all.0, append rs x all.1 is)

-- a region more without nodes
pub one_more : (rs : List Standing) (i : ℕ) (x : Standing) → i < length rs → x ≡ get_or rs i x → AllByRecursion HasNoNodes (take i rs) → HasNoNodes x → AllByRecursion HasNoNodes (take (i + 1) rs)
one_more rs i x low is all here =
    subst (λ (xs : List Standing). AllByRecursion HasNoNodes xs) (sym (take_more rs i x low ∙ ap (λ (y : Standing). take i rs ++ y ∷ []) (sym is))) (append (take i rs) x all here)

none_at : (rs : List Standing) → AllByRecursion HasNoNodes rs → (r : ℕ) → r < length rs → slice_get (parts_in rs) r ≡ Some none
none_at [] all r low = absurd (omega arith)
none_at (s ∷ rs) all zero low = ap Some (globals.empty_of_len s.globals all.0)
none_at (s ∷ rs) all (suc r) low = none_at rs all.1 r (omega (arith, low))

pub nothing_parted : (ps : List Pattern) (rs : List Standing) → AllByRecursion HasNoNodes rs → ArePartsOf ps rs []
nothing_parted ps rs all r low = none_at rs all r low ∙ ap Some (sym (begins ps r))
