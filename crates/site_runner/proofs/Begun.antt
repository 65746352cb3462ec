-- What opening a site and beginning a reign make of its contents.
use Rattle.std.proofs.Common.{◌≡◌, ℕ, zero, suc, ◌+◌, ◌≤◌, ◌<◌, ◌==◌, ◌||◌, ◌&&◌, max, nat_le, nat_lt, Bool, true, false, List, [], ◌∷◌, ◌++◌, length, filter, None, Some, refl, sym, ◌∙◌, ap, subst, arith, inl, inr, if◌then◌else◌}
use Rattle.std.specs.Prelude.{◌⊎◌, Option, map}
use Rattle.std.proofs.Math.Path.{fun_ext}
use Rattle.std.proofs.lemmas.Bool.{false≢true, le-leb, lt-ltb, ltb-true}
use Rattle.std.proofs.lemmas.Bool.Decides.{leb_tells}
use Rattle.global_defs.specs.declared.limits.TheConstants.{MOST_REIGNS}
use Rattle.global_defs.specs.Entry.{Reign}
use Rattle.journal_defs.specs.Journal.{Start}
use Rattle.journal_defs.specs.Instance.{InstanceRecord, Create, Reigned, Cut, Map, Mode, generation, greatest_cycle, regions, site_name}
use Rattle.journal_defs.specs.Surviving.{reigns}
use Rattle.journal_laws.proofs.Runs.{reigns-cut, starts_by}
use Rattle.command_defs.specs.Commands.{Name}
use Rattle.site_defs.specs.Lists.{Among}
use Rattle.site_defs.specs.Contents.{Contents, Standing, bare}
use Rattle.world_defs.specs.World.{StandAfter}
use Rattle.world_defs.specs.Answers.{GenLimit, ReignLimit}
use Rattle.world_defs.specs.rows.Start.{generation_limit, reign_limit}
use Rattle.site_defs.specs.Limits.{LAST_GENERATION, LAST_CYCLE}
use Rattle.site_defs.specs.Forward.{start_as, starts_as, begun_as}
use Rattle.site_defs.specs.Opening.{cut_there, with_starts, opened, with_reign, next_stamp, MayBegin, MayBeginLeft}
use Rattle.site_runner.specs.Sites.{IsOf}
use Rattle.site_runner.proofs.Amongs.{among_first, among_second, among_either, among_map, map_among}

-- A CUT leaves cycles, and the reigns that have begun by its length.

pub cycle_cut : (rs : List InstanceRecord) (n g : ℕ) → greatest_cycle (rs ++ Cut n g ∷ []) ≡ greatest_cycle rs
cycle_cut [] n g = refl
cycle_cut (Reigned r ∷ rs) n g = ap (max r.stamp.cycle) (cycle_cut rs n g)
cycle_cut (Create name regions ∷ rs) n g = cycle_cut rs n g
cycle_cut (Cut m h ∷ rs) n g = cycle_cut rs n g
cycle_cut (Map region star name ∷ rs) n g = cycle_cut rs n g
cycle_cut (Mode region before ∷ rs) n g = cycle_cut rs n g

kept_twice : (b : Bool) (t : ℕ) (r : Reign) (rs : List Reign) → nat_le r.start t ≡ b → filter (starts_by t) rs ≡ rs → filter (starts_by t) (if b then r ∷ rs else rs) ≡ (if b then r ∷ rs else rs)
kept_twice true t r rs e h = rw e (ap (λ (l : List Reign). r ∷ l) h)
kept_twice false t r rs e h = h

pub filter_twice : (t : ℕ) (rs : List Reign) → filter (starts_by t) (filter (starts_by t) rs) ≡ filter (starts_by t) rs
filter_twice t [] = refl
filter_twice t (r ∷ rs) = kept_twice (nat_le r.start t) t r (filter (starts_by t) rs) refl (filter_twice t rs)

-- opening changes no limit of reigns
pub limit_opened : (broken : List ℕ) (c : Contents) → reign_limit (opened broken c) ≡ reign_limit c
limit_opened broken c =
    let t = length c.sequence in
    let test = λ (n k : ℕ). (if nat_le MOST_REIGNS n || k == LAST_CYCLE then Some ReignLimit else None) in
    ap (λ (n : ℕ). test n (greatest_cycle (opened broken c).instance)) (ap (λ (l : List Reign). length (filter (starts_by t) l)) (reigns-cut c.instance t (generation c.instance + 1)) ∙ ap (λ (l : List Reign). length l) (filter_twice t (reigns c.instance)))
    ∙ ap (λ (k : ℕ). test (length (filter (starts_by t) (reigns c.instance))) k) (cycle_cut c.instance t (generation c.instance + 1))

-- the reign's stamp is drawn from what was opened
pub stamp_opened : (name : Name) (broken : List ℕ) (c : Contents) → next_stamp name (opened broken c) ≡ next_stamp name c
stamp_opened name broken c = ap (λ (k : ℕ). record { root = name; cycle = k + 1 }) (cycle_cut c.instance (length c.sequence) (generation c.instance + 1))

-- A site stays the same one as its instance file grows.

name_more : (rs more : List InstanceRecord) → nat_lt 0 (length rs) ≡ true → site_name (rs ++ more) ≡ site_name rs
name_more [] more e = absurd (false≢true e)
name_more (Create name regions ∷ rs) more e = refl
name_more (Reigned r ∷ rs) more e = refl
name_more (Cut m h ∷ rs) more e = refl
name_more (Map region star name ∷ rs) more e = refl
name_more (Mode region before ∷ rs) more e = refl

made_more : (rs more : List InstanceRecord) → nat_lt 0 (length rs) ≡ true → nat_lt 0 (length (rs ++ more)) ≡ true
made_more [] more e = absurd (false≢true e)
made_more (r ∷ rs) more e = le-leb 1 (length ((r ∷ rs) ++ more)) (omega arith)

pub of_more : (name : Name) (c d : Contents) (more : List InstanceRecord) → d.instance ≡ c.instance ++ more → IsOf name c → IsOf name d
of_more name c d more e h = record {
  made = ap (λ (rs : List InstanceRecord). nat_lt 0 (length rs)) e ∙ made_more c.instance more h.made;
  name = ap site_name e ∙ name_more c.instance more h.made ∙ h.name;
}

pub of_starts : (name : Name) (broken : List ℕ) (k : ℕ) (c : Contents) → IsOf name c → IsOf name (with_starts k (cut_there broken c))
of_starts name broken k c h = of_more name c (with_starts k (cut_there broken c)) (Cut (length c.sequence) (generation c.instance + 1) ∷ []) refl h

pub of_opened_as : (anew : Bool) (name : Name) (broken : List ℕ) (k : ℕ) (c : Contents) → IsOf name c → IsOf name (begun_as anew k (cut_there broken c))
of_opened_as anew name broken k c h = of_more name c (begun_as anew k (cut_there broken c)) (Cut (length c.sequence) (generation c.instance + 1) ∷ []) refl h

pub of_opened : (name : Name) (broken : List ℕ) (c : Contents) → IsOf name c → IsOf name (opened broken c)
of_opened name broken c h = of_starts name broken (length (regions c.instance)) c h

pub of_begun : (name root : Name) (c : Contents) → IsOf name c → IsOf name (with_reign root c)
of_begun name root c h = of_more name c (with_reign root c) _ refl h

pub of_may_begin : (name : Name) (broken : List ℕ) (c o : Contents) → IsOf name c → MayBegin name broken c o → IsOf name o
of_may_begin name broken c o h (inl (inl e)) = subst (IsOf name) (sym e) h
of_may_begin name broken c o h (inl (inr k)) = subst (IsOf name) (sym k.1) (of_starts name broken k.0 c h)
of_may_begin name broken c o h (inr e) = subst (IsOf name) (sym e) (of_begun name name (opened broken c) (of_opened name broken c h))

pub nat_cases : (i d : ℕ) → i ≤ suc d → (i ≡ suc d) ⊎ (i ≤ d)
nat_cases zero d le = inr (omega arith)
nat_cases (suc i) zero le = inl (omega (arith, le))
nat_cases (suc i) (suc d) le = elim (nat_cases i d (omega (arith, le))) [
  | inl e ↦ inl (ap suc e)
  | inr l ↦ inr (omega (arith, l))
]

-- the newest generation has begun in the first regions, at most in so many; without images where it's anew
abbrev pub begun_up_to : (anew : Bool) → ℕ → Contents → List Contents
begun_up_to anew zero c = begun_as anew 0 c ∷ []
begun_up_to anew (suc n) c = begun_as anew (suc n) c ∷ begun_up_to anew n c

pub among_begun : (anew : Bool) (n : ℕ) (c o : Contents) → Among (begun_up_to anew n c) o → (k : ℕ) × (o ≡ begun_as anew k c)
among_begun anew zero c o (inl e) = (0, e)
among_begun anew zero c o (inr h) = absurd h
among_begun anew (suc n) c o (inl e) = (suc n, e)
among_begun anew (suc n) c o (inr h) = among_begun anew n c o h

begun_among : (anew : Bool) (n k : ℕ) (c o : Contents) → k ≤ n → o ≡ begun_as anew k c → Among (begun_up_to anew n c) o
begun_among anew zero k c o le e = let none : k ≡ 0 = omega (arith, le) in inl (e ∙ ap (λ (x : ℕ). begun_as anew x c) none)
begun_among anew (suc n) k c o le e = elim (nat_cases k n le) [
  | inl same ↦ inl (e ∙ ap (λ (x : ℕ). begun_as anew x c) same)
  | inr less ↦ inr (begun_among anew n k c o less e)
]

-- past the last region nothing begins
twice : (a b : Bool) → (b ≡ true → a ≡ true) → a && b ≡ b && b
twice true true f = refl
twice true false f = refl
twice false true f = absurd (false≢true (f refl))
twice false false f = refl

no_more_starts : (anew : Bool) (k : ℕ) (c : Contents) → length (regions c.instance) ≤ k → begun_as anew k c ≡ begun_as anew (length (regions c.instance)) c
no_more_starts anew k c past =
    let n = length (regions c.instance) in
    let here : (r : ℕ) → c.starts r ++ starts_as anew k c r ≡ c.starts r ++ starts_as anew n c r = λ r.
    ap (λ (b : Bool). c.starts r ++ (if b then start_as anew c r ∷ [] else [])) (twice (nat_lt r k) (nat_lt r n) (λ t. let low = ltb-true r n t in lt-ltb r k (omega (arith, low, past)))) in
    ap (λ (f : ℕ → List Start). record { instance = c.instance; starts = f; epochs = c.epochs; texts = c.texts; losts = c.losts; sequence = c.sequence }) (fun_ext here)

few_or_more : (k n : ℕ) → (k ≤ n) ⊎ (n ≤ k)
few_or_more zero n = inl (omega arith)
few_or_more (suc k) zero = inr (omega arith)
few_or_more (suc k) (suc n) = elim (few_or_more k n) [ inl a ↦ inl (omega (arith, a)) | inr b ↦ inr (omega (arith, b)) ]

pub any_begun : (anew : Bool) (k : ℕ) (c o : Contents) → o ≡ begun_as anew k c → Among (begun_up_to anew (length (regions c.instance)) c) o
any_begun anew k c o e = elim (few_or_more k (length (regions c.instance))) [
  | inl few ↦ begun_among anew (length (regions c.instance)) k c o few e
  | inr past ↦ begun_among anew (length (regions c.instance)) (length (regions c.instance)) c o (omega arith) (e ∙ no_more_starts anew k c past)
]

-- in the regions' modes
abbrev pub starts_up_to : ℕ → Contents → List Contents
starts_up_to n c = begun_up_to false n c

pub among_starts : (n : ℕ) (c o : Contents) → Among (starts_up_to n c) o → (k : ℕ) × (o ≡ with_starts k c)
among_starts n c o h = among_begun false n c o h

pub any_among : (k : ℕ) (c o : Contents) → o ≡ with_starts k c → Among (starts_up_to (length (regions c.instance)) c) o
any_among k c o e = any_begun false k c o e

-- what beginning a reign may leave of any of these
abbrev pub begins : Name → List ℕ → List Contents → List Contents
begins name broken [] = []
begins name broken (c ∷ cs) = c ∷ with_reign name (opened broken c) ∷ (starts_up_to (length (regions (cut_there broken c).instance)) (cut_there broken c) ++ begins name broken cs)

pub among_begins : (name : Name) (broken : List ℕ) (cs : List Contents) (o : Contents) → Among (begins name broken cs) o → (c : Contents) × Among cs c × MayBegin name broken c o
among_begins name broken [] o h = absurd h
among_begins name broken (c ∷ cs) o (inl e) = (c, inl refl, inl (inl e))
among_begins name broken (c ∷ cs) o (inr (inl e)) = (c, inl refl, inr e)
among_begins name broken (c ∷ cs) o (inr (inr h)) =
    let d : Contents = cut_there broken c in
    elim (among_either (starts_up_to (length (regions d.instance)) d) (begins name broken cs) o h) [
      | inl a ↦ (c, inl refl, inl (inr (among_starts (length (regions d.instance)) d o a)))
      | inr b ↦ let k = among_begins name broken cs o b in (k.0, inr k.1, k.2)
    ]

begins_of : (name : Name) (broken : List ℕ) (c : Contents) (cs : List Contents) (o : Contents) → MayBegin name broken c o → Among (begins name broken (c ∷ cs)) o
begins_of name broken c cs o (inl (inl e)) = inl e
begins_of name broken c cs o (inl (inr k)) = inr (inr (among_first _ (begins name broken cs) o (any_among k.0 (cut_there broken c) o k.1)))
begins_of name broken c cs o (inr e) = inr (inl e)

pub begins_among : (name : Name) (broken : List ℕ) (cs : List Contents) (c o : Contents) → Among cs c → MayBegin name broken c o → Among (begins name broken cs) o
begins_among name broken [] c o a m = absurd a
begins_among name broken (d ∷ cs) c o (inl e) m = begins_of name broken d cs o (subst (λ (x : Contents). MayBegin name broken x o) e m)
begins_among name broken (d ∷ cs) c o (inr a) m = inr (inr (among_second (starts_up_to (length (regions (cut_there broken d).instance)) (cut_there broken d)) _ o (begins_among name broken cs c o a m)))

-- the same of standings, each with its own text

-- with a CUT and its text, and the newest generation begun in the first regions
abbrev pub cut_so_as : (anew : Bool) → Standing → List Standing
cut_so_as anew s = map bare (begun_up_to anew (length (regions (cut_there s.broken s.contents).instance)) (cut_there s.broken s.contents))

abbrev cut_so : Standing → List Standing
cut_so s = cut_so_as false s

abbrev begins_each : Name → List Standing → List Standing
begins_each name [] = []
begins_each name (s ∷ ss) = s ∷ bare (with_reign name (opened s.broken s.contents)) ∷ (cut_so s ++ begins_each name ss)

abbrev pub begins_so : Name → Option (List Standing) → Option (List Standing)
begins_so name None = None
begins_so name (Some os) = Some (begins_each name os)

begins_here : (name : Name) (s : Standing) (ss : List Standing) (o : Standing) → MayBeginLeft name s o → Among (begins_each name (s ∷ ss)) o
begins_here name s ss o (inl (inl e)) = inl e
begins_here name s ss o (inl (inr k)) =
    let d : Contents = cut_there s.broken s.contents in
    inr (inr (among_first (cut_so s) (begins_each name ss) o (subst (Among (cut_so s)) (sym k.1) (among_map bare (starts_up_to (length (regions d.instance)) d) (with_starts k.0 d) (any_among k.0 d (with_starts k.0 d) refl)))))
begins_here name s ss o (inr e) = inr (inl e)

pub begins_so_among : (name : Name) (os : List Standing) (s o : Standing) → Among os s → MayBeginLeft name s o → Among (begins_each name os) o
begins_so_among name [] s o a m = absurd a
begins_so_among name (x ∷ xs) s o (inl e) m = begins_here name x xs o (subst (λ (y : Standing). MayBeginLeft name y o) e m)
begins_so_among name (x ∷ xs) s o (inr a) m = inr (inr (among_second (cut_so x) (begins_each name xs) o (begins_so_among name xs s o a m)))

begun_each : (name : Name) (os : List Standing) (o : Standing) → Among (begins_each name os) o → (s : Standing) × Among os s × MayBeginLeft name s o
begun_each name [] o h = absurd h
begun_each name (s ∷ ss) o (inl e) = (s, inl refl, inl (inl e))
begun_each name (s ∷ ss) o (inr (inl e)) = (s, inl refl, inr e)
begun_each name (s ∷ ss) o (inr (inr h)) =
    let d : Contents = cut_there s.broken s.contents in
    elim (among_either (cut_so s) (begins_each name ss) o h) [
      | inl a ↦
          let k = map_among bare (starts_up_to (length (regions d.instance)) d) o a in
          let starts = among_starts (length (regions d.instance)) d k.0 k.1 in
          (s, inl refl, inl (inr (starts.0, k.2 ∙ ap bare starts.1)))
      | inr b ↦ let k = begun_each name ss o b in (k.0, inr k.1, k.2)
    ]

pub begun_so : (name : Name) (x : Option (List Standing)) → StandAfter (MayBeginLeft name) x (begins_so name x)
begun_so name None = tt
begun_so name (Some os) = begun_each name os

-- the tests of limits
pub generation_past : (c : Contents) → 65534 ≤ generation c.instance → generation_limit c ≡ Some GenLimit
generation_past c h = let e : nat_le LAST_GENERATION (generation c.instance) ≡ true = le-leb 65534 (generation c.instance) h in rw e refl

pub generation_left : (c : Contents) → generation c.instance < 65534 → generation_limit c ≡ None
generation_left c h = elim (leb_tells 65534 (generation c.instance)) [
  | inl past ↦ absurd (omega (arith, past.1, h))
  | inr left ↦ (let e : nat_le LAST_GENERATION (generation c.instance) ≡ false = left.0 in rw e refl)
]
