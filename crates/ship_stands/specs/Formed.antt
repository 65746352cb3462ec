-- Reigns of their form.
use Rattle.std.specs.Prelude.{◌≡◌, ℕ, ◌≤◌, List, [], ◌∷◌, ◌++◌}
use Rattle.std.specs.List.{AllByRecursion}
use Rattle.std.specs.Coded.{×_prop, Unit-prop, le_prop}
use Rattle.std.proofs.Props.{props}
use Rattle.global_defs.specs.Entry.{Reign, Stamp}
use Rattle.global_defs.specs.Fields.{IsSiteName, IsStamp, IsReign}

name_prop : (name : List ℕ) → IsProp (IsSiteName name)
name_prop [] = Prim.hlevel props
name_prop (b ∷ bs) = Prim.hlevel props

stamp_prop : (s : Stamp) → IsProp (IsStamp s)
stamp_prop s a b = λ i. record { root = name_prop s.root a.root b.root i; cycle = ×_prop le_prop le_prop a.cycle b.cycle i }

reign_prop : (r : Reign) → IsProp (IsReign r)
reign_prop r a b = λ i. record { stamp = stamp_prop r.stamp a.stamp b.stamp i; start = ×_prop le_prop le_prop a.start b.start i }

pub formed_prop : (rs : List Reign) → IsProp (AllByRecursion IsReign rs)
formed_prop [] = Unit-prop
formed_prop (r ∷ rs) = ×_prop (reign_prop r) (formed_prop rs)

-- so are the first of them
pub front_formed : (rs more : List Reign) → AllByRecursion IsReign (rs ++ more) → AllByRecursion IsReign rs
front_formed [] more all = tt
front_formed (r ∷ rs) more all = (all.0, front_formed rs more all.1)
