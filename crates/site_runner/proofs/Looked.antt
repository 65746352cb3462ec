-- What a look finds, at a place.
use Rattle.std.proofs.Common.{◌≡◌, ◌⊎◌, ℕ, ◌≤◌, Bool, true, false, cond, not, ◌&&◌, nat_eq, nat_lt, List, [], ◌∷◌, length, filter, None, Some, refl, sym, ◌∙◌, ap, subst, arith, inl, inr, Ok, Err}
use Rattle.std.specs.Prelude.{Option, Result, IfSome, IsSome, IsSomeAnd, IfOk, OnOk, IsErrOf}
use Rattle.std.proofs.lemmas.Bool.{false≢true, eq-eqb, and_from}
use Rattle.disk_defs.specs.Disk.{Files, View, Image, IsLawful, AtEachMoment, Rose}
use Rattle.journal_defs.specs.Instance.{InstanceRecord, site_name}
use Rattle.site_store.specs.declared.layout.Layout.{Layout}
use Rattle.site_store.specs.declared.error.SiteError.{SiteError}
use Rattle.site_store.specs.declared.error.SiteError.TheVariants.{Failed, Stopped, Full, SeqLimit, GenLimit, ReignLimit, NeedForward, NotAFile, NoMemory}
use Rattle.site_store.specs.Finding.{IsFound}
use Rattle.site_making.specs.Finding.{StandsAsBefore}
use Rattle.command_defs.specs.Commands.{Name}
use Rattle.site_defs.specs.Lists.{Among}
use Rattle.world_defs.specs.World.{Place, has_failed_on}
use Rattle.world_defs.specs.Shown.{IsNoSite}
use Rattle.world_defs.specs.Row.{Row}
use Rattle.site_defs.specs.Contents.{Contents, Leftover, is_made, same_name}
use Rattle.site_defs.specs.Opening.{IsBehind}
use Rattle.world_defs.specs.Ties.{Matches}
use Rattle.site_defs.specs.Stands.{Stands, Reads}
use Rattle.site_runner.specs.declared.slot.Slot.{Slot}
use Rattle.site_runner.specs.Tied.{IsPlace}
use Rattle.site_runner.specs.Executes.{IsCutHere}
use Rattle.site_runner.specs.Looking.{fits, IsFoundBy, LeavesOld, Sees, LooksHere}
use Rattle.site_runner.proofs.Ats.{told_is, some_both, some_of, stands_told, at_moment, Leftovers, place_of_images, stand_same, left_old, ImagesStand, images_still, images_of, standings_of, stands_by, stand_by, up_free, shown_same, by_shown}
use Rattle.site_runner.specs.declared.slot.Slot.TheVariants.{Free}
use Rattle.gvn_globals.proofs.Basics.{false_of as not_true}

pub same_self : (a : Name) → same_name a a ≡ true
same_self [] = refl
same_self (x ∷ a) = and_from (nat_eq x x) (same_name a a) (eq-eqb x x refl) (same_self a)

-- contents with the same instance file fit alike
fits_alike : (found : Option Layout) (c o : Contents) → o.instance ≡ c.instance → fits found o ≡ fits found c
fits_alike None c o e = ap (λ (rs : List InstanceRecord). not (nat_lt 0 (length rs))) e
fits_alike (Some found) c o e = ap (λ (rs : List InstanceRecord). nat_lt 0 (length rs) && same_name (site_name rs) found.name) e

found_fits : (found : Option Layout) (c : Contents) → IsFound c found → fits found c ≡ true
found_fits None c e = ap (λ (x : Contents). not (is_made x)) e
found_fits (Some found) c h =
    and_from (is_made c) (same_name (site_name c.instance) found.name) h.0 (ap (same_name (site_name c.instance)) h.1.name ∙ same_self (site_name c.instance))

kept_by : (b : Bool) (x o : Contents) (rest : List Contents) → Among (cond b (x ∷ rest) rest) o → ((o ≡ x) × (b ≡ true)) ⊎ Among rest o
kept_by true x o rest (inl e) = inl (e, refl)
kept_by true x o rest (inr h) = inr h
kept_by false x o rest h = inr h

-- an outcome that passes a test is an outcome
among_kept : (test : Contents → Bool) (os : List Contents) (o : Contents) → Among (filter test os) o → Among os o × (test o ≡ true)
among_kept test [] o h = absurd h
among_kept test (x ∷ os) o h = elim (kept_by (test x) x o (filter test os) h) [
  | inl e ↦ (inl e.0, ap test e.0 ∙ e.1)
  | inr r ↦ let k = among_kept test os o r in (inr k.0, k.1)
]

put_first : (b : Bool) (x o : Contents) (rest : List Contents) → o ≡ x → b ≡ true → Among (cond b (x ∷ rest) rest) o
put_first true x o rest e t = inl e
put_first false x o rest e t = cc

put_behind : (b : Bool) (x o : Contents) (rest : List Contents) → Among rest o → Among (cond b (x ∷ rest) rest) o
put_behind true x o rest h = inr h
put_behind false x o rest h = h

-- and the other way round
kept_among : (test : Contents → Bool) (os : List Contents) (o : Contents) → Among os o → test o ≡ true → Among (filter test os) o
kept_among test [] o h t = absurd h
kept_among test (x ∷ os) o (inl e) t = put_first (test x) x o (filter test os) e (sym (ap test e) ∙ t)
kept_among test (x ∷ os) o (inr h) t = put_behind (test x) x o (filter test os) (kept_among test os o h t)

-- what each call of the look keeps
pub record IsLook (v w : View) : Type 1 where
  pub lawful : IsLawful w
  pub any_moment : IfSome v.content (λ _. AtEachMoment v w (StandsAsBefore v))
  pub untouched : AtEachMoment v w (Image v)
  pub still_told : IsSome v.content → IsSome w.content
  pub simulated : w.simulated ≡ v.simulated
  pub later : v.faults ≤ w.faults

-- each image stands for what one stood for before
look_images : (v w : View) (p : Place) → p.site ≡ None → IsLook v w → Matches v p → p.told ≡ true → (c : Files) → Image w c → (o : Contents) × Among p.outcomes o × Stands c o
look_images v w p free k m known c i =
    let each = some_of v.content (AtEachMoment v w (StandsAsBefore v)) (told_is v.content _ (m.told known)) k.any_moment in
    let from = at_moment v w (StandsAsBefore v) c k.lawful each i in
    let o = images_of v p (up_free p free) m known from.0 from.1 in
    (o.0, o.1, from.2 o.0 o.2)

-- and as it stood before
look_standings : (v w : View) (p : Place) → p.site ≡ None → IsLook v w → Matches v p → p.told ≡ true → ImagesStand w p.standings
look_standings v w p free k m known = images_still v w p.standings (λ c i. at_moment v w (Image v) c k.lawful k.untouched i) (standings_of v p (up_free p free) m known)

pub some_and_of : (o : Option Files) (P : Files → Type 0) → IsSome o → IfSome o P → IsSomeAnd o P
some_and_of None P h k = cc
some_and_of (Some f) P h k = k

-- the look came to its end
saw : {D : Type 0} (view : D → View) (d disk : D) (found : Option Layout) → IsLook (view d) (view disk)
    → IfSome (view d).content (λ files. (c : Contents) → Stands files c → IsFound c found)
    → (view disk).content ≡ (view d).content
    → IfSome (view d).content (λ files. (c o : Contents) (f : Files) → Stands files c → Image (view disk) f → Stands f o → o.instance ≡ c.instance)
    → IfSome (view d).content (IsFoundBy found)
    → LooksHere view (Free d) (Free disk) (Ok found)
saw view d disk found k is same alike holds p h =
    let v = view d in
    let w = view disk in
    let q : Place = record { site = p.site; told = p.told; now = p.now; left = p.left; outcomes = filter (fits found) p.outcomes; standings = p.standings; shown = p.shown; faults = w.faults; simulated = p.simulated } in
    let now : p.told ≡ true → fits found p.now ≡ true = λ known. let b = some_both v.content _ _ (stands_told v p h.disk known) is in found_fits found p.now (b.2 p.now b.1) in (
      q,
      record {
        kept = record { site = refl; now = refl; left = refl; known = record { told = refl; outcomes = λ o a. (among_kept (fits found) p.outcomes o a).0; standings = λ t. stand_same p.standings }; shown = refl; faults = omega (arith, k.later, h.disk.faults); simulated = refl };
        now = now;
        outcomes = λ known o a. (among_kept (fits found) p.outcomes o a).1;
        bytes = by_shown p.shown v.content (IsFoundBy found) h.disk.shown holds;
      },
      record {
        disk = record {
          told = λ known. subst (λ (x : Option Files). IsSomeAnd x (λ files. Reads files p.now p.left)) (sym same) (h.disk.told known);
          images = λ known c i.
              let o = look_images v w p h.site k h.disk known c i in
              let b = some_both v.content _ _ (stands_told v p h.disk known) alike in
              (o.0, kept_among (fits found) p.outcomes o.0 o.1 (fits_alike found p.now o.0 (b.2 p.now o.0 c b.1 i o.2) ∙ now known), stands_by (has_failed_on p.site) c o.0 o.2);
          standings = λ known. stand_by (has_failed_on p.site) w p.standings (look_standings v w p h.site k h.disk known);
          shown = shown_same p.shown v.content w.content same h.disk.shown;
          known = λ sure. h.disk.known sure ∙ sym same;
          faults = refl;
          simulated = k.simulated ∙ h.disk.simulated;
        };
        site = h.site;
        held = tt;
      },
    )

-- a call failed, or there was no memory
looked_before : {D : Type 0} (leftovers : Leftovers) (view : D → View) (d disk : D) (p : Place) → IsLook (view d) (view disk) → IsPlace view (Free d) p
    → (now : Contents) × (left : Leftover) × (p.told ≡ true → Among p.outcomes now) × (p.told ≡ true → IsBehind now left)
    × IsPlace view (Free disk) (record { site = p.site; told = p.told; now = now; left = left; outcomes = p.outcomes; standings = p.standings; shown = (view disk).content; faults = (view disk).faults; simulated = p.simulated })
looked_before leftovers view d disk p k h =
    let v = view d in
    let w = view disk in
    let m = place_of_images leftovers w p p.site p.outcomes p.standings k.lawful (k.simulated ∙ h.disk.simulated) (λ known. k.still_told (told_is v.content _ (h.disk.told known))) (λ known c i. look_images v w p h.site k h.disk known c i) (λ known. look_standings v w p h.site k h.disk known) in
    let q : Place = record { site = p.site; told = p.told; now = m.now; left = m.left; outcomes = p.outcomes; standings = p.standings; shown = w.content; faults = w.faults; simulated = p.simulated } in
    (m.now, m.left, m.among, m.behind, record { disk = m.matches; site = h.site; held = tt })

abbrev pub Unread : SiteError → View → View → Type 0
Unread (Failed fault) v w = (fault ≡ w.faults) × Rose v.faults w.faults
Unread (Stopped fault) v w = Unit {0}
Unread (Full nodes) v w = Unit {0}
Unread SeqLimit v w = Unit {0}
Unread GenLimit v w = Unit {0}
Unread ReignLimit v w = Unit {0}
Unread (NeedForward needing) v w = Unit {0}
Unread (NotAFile file offset) v w = IfSome v.content (λ files. (c : Contents) → Stands files c → ⊥) × IfSome v.content (IsNoSite file offset)
Unread NoMemory v w = Unit {0}

left_so : {D : Type 0} (leftovers : Leftovers) (view : D → View) (d disk : D) → IsLook (view d) (view disk) → (p : Place) → IsPlace view (Free d) p
    → (q : Place) × LeavesOld p q × IsPlace view (Free disk) q
left_so leftovers view d disk k p h =
    let m = looked_before leftovers view d disk p k h in
    (record { site = p.site; told = p.told; now = m.0; left = m.1; outcomes = p.outcomes; standings = p.standings; shown = (view disk).content; faults = (view disk).faults; simulated = p.simulated }, record { told = refl; outcomes = λ known o a. a; standings = λ known. stand_same p.standings; faults = omega (arith, k.later, h.disk.faults); simulated = refl }, m.4)

saw_nothing : {D : Type 0} (leftovers : Leftovers) (view : D → View) (d disk : D) (e : SiteError) → IsLook (view d) (view disk) → (view disk).content ≡ (view d).content → Unread e (view d) (view disk) → LooksHere view (Free d) (Free disk) (Err e)
saw_nothing leftovers view d disk (Failed fault) k same u p h =
    let w = view disk in
    let m = looked_before leftovers view d disk p k h in
    let q : Place = record { site = p.site; told = p.told; now = m.0; left = m.1; outcomes = p.outcomes; standings = p.standings; shown = w.content; faults = w.faults; simulated = p.simulated } in (
      q,
      (
        record {
          site = h.site;
          known = record { told = refl; now = λ known. (m.0, m.2 known, refl); left = m.3; outcomes = λ known o a. (o, a, refl); standings = λ known. stand_same p.standings };
          count = sym u.0;
          rose = subst (λ (x : ℕ). Rose p.faults x) (sym u.0) (subst (λ (x : ℕ). Rose x w.faults) h.disk.faults u.1);
          simulated = refl;
        },
        omega (arith, k.later, h.disk.faults),
      ),
      m.4,
    )
saw_nothing leftovers view d disk (NotAFile file offset) k same u p h =
    let v = view d in
    let w = view disk in
    let unknown : p.told ≡ false = not_true p.told (λ known. let b = some_both v.content _ _ (stands_told v p h.disk known) u.0 in b.2 p.now b.1) in
    let q : Place = record { site = p.site; told = p.told; now = p.now; left = p.left; outcomes = p.outcomes; standings = p.standings; shown = p.shown; faults = w.faults; simulated = p.simulated } in (
      q,
      (
        record { unknown = unknown; kept = record { site = refl; now = refl; left = refl; known = record { told = refl; outcomes = λ o a. a; standings = λ t. stand_same p.standings }; shown = refl; faults = omega (arith, k.later, h.disk.faults); simulated = refl } },
        by_shown p.shown v.content (IsNoSite file offset) h.disk.shown u.1,
      ),
      record {
        disk = record {
          told = λ known. absurd (false≢true (sym unknown ∙ known));
          images = λ known. absurd (false≢true (sym unknown ∙ known));
          standings = λ known. absurd (false≢true (sym unknown ∙ known));
          shown = shown_same p.shown v.content w.content same h.disk.shown;
          known = λ sure. absurd (false≢true (sym unknown ∙ sure));
          faults = refl;
          simulated = k.simulated ∙ h.disk.simulated;
        };
        site = h.site;
        held = tt;
      },
    )
saw_nothing leftovers view d disk (Stopped fault) k same u p h = left_so leftovers view d disk k p h
saw_nothing leftovers view d disk (Full nodes) k same u p h = left_so leftovers view d disk k p h
saw_nothing leftovers view d disk SeqLimit k same u p h = left_so leftovers view d disk k p h
saw_nothing leftovers view d disk GenLimit k same u p h = left_so leftovers view d disk k p h
saw_nothing leftovers view d disk ReignLimit k same u p h = left_so leftovers view d disk k p h
saw_nothing leftovers view d disk (NeedForward needing) k same u p h = left_so leftovers view d disk k p h
saw_nothing leftovers view d disk NoMemory k same u p h = left_so leftovers view d disk k p h

-- what a look leaves is old, whatever it saw
sees_old : (r : Result (Option Layout) SiteError) (p q : Place) → Sees r p q → LeavesOld p q
sees_old (Ok found) p q s = record { told = s.kept.known.told; outcomes = λ known. s.kept.known.outcomes; standings = s.kept.known.standings; faults = s.kept.faults; simulated = s.kept.simulated }
sees_old (Err (Failed fault)) p q s = record { told = s.0.known.told; outcomes = λ known o a. let x = s.0.known.outcomes known o a in subst (Among p.outcomes) (sym x.2) x.1; standings = s.0.known.standings; faults = s.1; simulated = s.0.simulated }
sees_old (Err (Stopped fault)) p q s = s
sees_old (Err (Full nodes)) p q s = s
sees_old (Err SeqLimit) p q s = s
sees_old (Err GenLimit) p q s = s
sees_old (Err ReignLimit) p q s = s
sees_old (Err (NeedForward needing)) p q s = s
sees_old (Err (NotAFile file offset)) p q s = record { told = s.0.kept.known.told; outcomes = λ known. s.0.kept.known.outcomes; standings = s.0.kept.known.standings; faults = s.0.kept.faults; simulated = s.0.kept.simulated }
sees_old (Err NoMemory) p q s = s

-- a command that was cut off behind a look
pub looked_cut : {D : Type 0} (view : D → View) (old new : Slot D) (row : Place → Row) (r : Result (Option Layout) SiteError) → LooksHere view old new r → IsCutHere view row old new
looked_cut view old new row r look p h =
    let q = look p h in
    let left = sees_old r p q.0 q.1 in
    (q.0, record { told = left.told; outcomes = λ known o a. inl (left.outcomes known o a); standings = λ known. left_old (row p).left_so p.standings q.0.standings (left.standings known); faults = left.faults; simulated = left.simulated }, q.2.disk)

pub looks : {D : Type 0} (leftovers : Leftovers) (view : D → View) (d disk : D) (r : Result (Option Layout) SiteError) → IsLook (view d) (view disk)
    → IfOk r (λ found. IfSome (view d).content (λ files. (c : Contents) → Stands files c → IsFound c found))
    → (view disk).content ≡ (view d).content
    → OnOk r (IfSome (view d).content (λ files. (c o : Contents) (f : Files) → Stands files c → Image (view disk) f → Stands f o → o.instance ≡ c.instance))
    → IfOk r (λ found. IfSome (view d).content (IsFoundBy found))
    → ((file offset : ℕ) → IsErrOf r (NotAFile file offset) → IfSome (view d).content (λ files. (c : Contents) → Stands files c → ⊥))
    → ((file offset : ℕ) → IsErrOf r (NotAFile file offset) → IfSome (view d).content (IsNoSite file offset))
    → ((fault : ℕ) → IsErrOf r (Failed fault) → fault ≡ (view disk).faults) → ((fault : ℕ) → IsErrOf r (Failed fault) → Rose (view d).faults (view disk).faults)
    → LooksHere view (Free d) (Free disk) r
looks leftovers view d disk (Ok found) k is same alike holds outside bytes count cause = saw view d disk found k is same alike holds
looks leftovers view d disk (Err (Failed fault)) k is same alike holds outside bytes count cause = saw_nothing leftovers view d disk (Failed fault) k same (count fault refl, cause fault refl)
looks leftovers view d disk (Err (Stopped fault)) k is same alike holds outside bytes count cause = saw_nothing leftovers view d disk (Stopped fault) k same tt
looks leftovers view d disk (Err (Full nodes)) k is same alike holds outside bytes count cause = saw_nothing leftovers view d disk (Full nodes) k same tt
looks leftovers view d disk (Err SeqLimit) k is same alike holds outside bytes count cause = saw_nothing leftovers view d disk SeqLimit k same tt
looks leftovers view d disk (Err GenLimit) k is same alike holds outside bytes count cause = saw_nothing leftovers view d disk GenLimit k same tt
looks leftovers view d disk (Err ReignLimit) k is same alike holds outside bytes count cause = saw_nothing leftovers view d disk ReignLimit k same tt
looks leftovers view d disk (Err (NeedForward needing)) k is same alike holds outside bytes count cause = saw_nothing leftovers view d disk (NeedForward needing) k same tt
looks leftovers view d disk (Err (NotAFile file offset)) k is same alike holds outside bytes count cause = saw_nothing leftovers view d disk (NotAFile file offset) k same (outside file offset refl, bytes file offset refl)
looks leftovers view d disk (Err NoMemory) k is same alike holds outside bytes count cause = saw_nothing leftovers view d disk NoMemory k same tt
