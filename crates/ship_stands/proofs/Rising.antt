-- Reigns by rising starts.
use Rattle.std.proofs.Common.{◌≡◌, ℕ, ◌<◌, List, [], ◌∷◌, ◌++◌, Bool, true, false, Option, Some, None, if◌then◌else◌, subst, sym}
use Rattle.std.specs.Prelude.{option_to_list}
use Rattle.std.specs.List.{AllByRecursion}
use Rattle.global_defs.specs.Fields.{IsReign}
use Rattle.global_defs.specs.Entry.{Reign}
use Rattle.global_defs.proofs.Starts.{last_start}
use Rattle.global_defs.specs.Rising.{StartsRise}

-- a reign that begins past the last one may follow
pub rise_push : (low : ℕ) (rs : List Reign) (r : Reign) → StartsRise low rs → last_start low rs < r.start → StartsRise low (rs ++ r ∷ [])
rise_push low [] r rises later = (later, tt)
rise_push low (q ∷ rs) r rises later = (rises.0, rise_push q.start rs r rises.1 later)

pub all_push : (rs : List Reign) (r : Reign) → AllByRecursion IsReign rs → IsReign r → AllByRecursion IsReign (rs ++ r ∷ [])
all_push [] r all is = (is, tt)
all_push (q ∷ rs) r all is = (all.0, all_push rs r all.1 is)

-- no more reigns
pub none_more : (rs : List Reign) → AllByRecursion IsReign rs → AllByRecursion IsReign (rs ++ [])
none_more [] all = tt
none_more (q ∷ rs) all = (all.0, none_more rs all.1)

-- a reign more, or none
pub one_or_none : (rs : List Reign) (r : Reign) (b : Bool) (o : Option Reign) → AllByRecursion IsReign rs → IsReign r → o ≡ (if b then Some r else None) → AllByRecursion IsReign (rs ++ option_to_list o)
one_or_none rs r true o all form is = subst (λ (x : Option Reign). AllByRecursion IsReign (rs ++ option_to_list x)) (sym is) (all_push rs r all form)
one_or_none rs r false o all form is = subst (λ (x : Option Reign). AllByRecursion IsReign (rs ++ option_to_list x)) (sym is) (none_more rs all)
