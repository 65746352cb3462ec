-- Counts of faults one after another.
use Rattle.std.proofs.Common.{◌≤◌, List, [], ◌∷◌, arith}
use Rattle.global_defs.specs.Beside.{Along}
use Rattle.disk_defs.specs.Disk.{Rose}
use Rattle.world_defs.specs.World.{Place}
use Rattle.world_laws.specs.Faults.{HasNotFallen, HasNotRisen}
use Rattle.world_laws.proofs.Alongs.{along_through}

pub later : (old new : Place) → old.faults ≤ new.faults → HasNotFallen old new
later old new h = omega arith

pub later_rose : (old new : Place) → Rose old.faults new.faults → HasNotFallen old new
later_rose old new h = omega arith

pub later_through : (x y z : Place) → HasNotFallen x y → HasNotFallen y z → HasNotFallen x z
later_through x y z h k = omega arith

pub rose_before : (x y z : Place) → Rose x.faults y.faults → HasNotFallen y z → Rose x.faults z.faults
rose_before x y z h k = omega arith

pub rose_behind : (x y z : Place) → HasNotFallen x y → Rose y.faults z.faults → Rose x.faults z.faults
rose_behind x y z h k = omega arith

-- worlds, place by place

pub fell_through : (ps qs rs : List Place) → Along (λ j. HasNotFallen) ps qs → Along (λ j. HasNotFallen) qs rs → Along (λ j. HasNotFallen) ps rs
fell_through ps qs rs h k = along_through HasNotFallen later_through ps qs rs h k

-- where no count rose, none rose on the way
pub calm_before : (ps qs rs : List Place) → Along (λ j. HasNotFallen) ps qs → Along (λ j. HasNotFallen) qs rs → Along (λ j. HasNotRisen) ps rs → Along (λ j. HasNotRisen) ps qs
calm_before [] [] rs h k c = tt
calm_before [] (q ∷ qs) rs h k c = absurd h
calm_before (p ∷ ps) [] rs h k c = absurd h
calm_before (p ∷ ps) (q ∷ qs) [] h k c = absurd k
calm_before (p ∷ ps) (q ∷ qs) (r ∷ rs) h k c = (λ rose. c.0 (rose_before p q r rose k.0), calm_before ps qs rs h.1 k.1 c.1)

pub calm_behind : (ps qs rs : List Place) → Along (λ j. HasNotFallen) ps qs → Along (λ j. HasNotFallen) qs rs → Along (λ j. HasNotRisen) ps rs → Along (λ j. HasNotRisen) qs rs
calm_behind [] [] [] h k c = tt
calm_behind [] [] (r ∷ rs) h k c = absurd k
calm_behind [] (q ∷ qs) rs h k c = absurd h
calm_behind (p ∷ ps) [] rs h k c = absurd h
calm_behind (p ∷ ps) (q ∷ qs) [] h k c = absurd k
calm_behind (p ∷ ps) (q ∷ qs) (r ∷ rs) h k c = (λ rose. c.0 (rose_behind p q r h.0 rose), calm_behind ps qs rs h.1 k.1 c.1)
