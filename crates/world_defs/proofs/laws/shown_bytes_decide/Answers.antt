use Rattle.std.proofs.Common.{◌≡◌, inl, inr, true, List, [], ◌∷◌, ℕ, None, Some, refl, sym, subst, arith}
use Rattle.std.specs.Prelude.{Option, codes}
use Rattle.std.specs.List.{AllZip}
use Rattle.disk_defs.specs.Gates.{Body}
use Rattle.journal_defs.specs.Instance.{InstanceRecord, Create, Reigned, Cut, Map, Mode, IsInstanceBody}
use Rattle.journal_defs.specs.Stands.{IsInstance}
use Rattle.site_defs.specs.Contents.{same_name}
use Rattle.site_defs.specs.Lists.{first_where}
use Rattle.site_defs.specs.OutsideInstance.{IsOutsideInstance}
use Rattle.world_defs.specs.Answers.{Started, NoRegion}
use Rattle.world_defs.specs.Row.{first}
use Rattle.world_defs.specs.rows.Map.{no_region_at, unmapped_by}
use Rattle.world_defs.specs.rows.Start.{IsUnopened}
use Rattle.world_defs.proofs.laws.shown_bytes_decide.Goals as goal

pub returns-clause-typed : goal.returns-clause-typed
returns-clause-typed c q text told h = h.3

pub returns-clause-some : goal.returns-clause-some
returns-clause-some c q told h = absurd (cc (h.2 refl))

-- the CREATE of A
abbrev body : List ℕ
body = 1 ∷ 1 ∷ 1 ∷ 65 ∷ 1 ∷ 1 ∷ 82 ∷ 1 ∷ []

pub returns-clause-no_region : goal.returns-clause-no_region
returns-clause-no_region c = (
  Create (codes "A") (record { name = codes "R"; before = true } ∷ []) ∷ [],
  record {
    bodies = (body ∷ [], refl, (record { form = ((refl, refl, omega arith), omega arith, omega arith, ((refl, refl, omega arith), tt)); spelled = refl }, tt));
    create = tt;
    cuts = tt;
    reigns = tt;
  },
  (refl, refl),
)

-- a site that is just made refuses a pattern for no other cause
no_other : (region : List ℕ) (o : Option ℕ) → first (no_region_at region o ∷ None ∷ []) ≡ Some Started → ⊥
no_other region None e = let cause : NoRegion region ≡ Started = cc e in absurd (cc cause)
no_other region (Some number) e = absurd (cc e)

-- the body is of no other record
of_create : (rs : List InstanceRecord) → AllZip IsInstanceBody (body ∷ []) rs → unmapped_by (codes "Q") (codes "X*") rs ≡ Some Started → ⊥
of_create [] zip e = absurd zip
of_create (Create name regions ∷ []) zip e = no_other (codes "Q") (first_where (λ r. same_name r.name (codes "Q")) regions) e
of_create (Reigned r ∷ rs) zip e = absurd (cc zip.0.spelled)
of_create (Cut n g ∷ rs) zip e = absurd (cc zip.0.spelled)
of_create (Map region star name ∷ rs) zip e = absurd (cc zip.0.spelled)
of_create (Mode region before ∷ rs) zip e = absurd (cc zip.0.spelled)
of_create (Create name regions ∷ q ∷ rs) zip e = absurd zip.1

pub returns-clause-not_begun : goal.returns-clause-not_begun
returns-clause-not_begun c (rs, is, (named, why)) =
    let own : (body ∷ []) ≡ is.bodies.0 = cc is.bodies.1 in
    of_create rs (subst (λ (l : List Body). AllZip IsInstanceBody l rs) (sym own) is.bodies.2) why

-- the bytes of each file
abbrev bytes : List ℕ
bytes = 1 ∷ 0 ∷ 0 ∷ 0 ∷ 1 ∷ 9 ∷ 1 ∷ 0 ∷ []

pub returns-clause-place : goal.returns-clause-place
returns-clause-place c = inl (inl (inl (inl (
  refl,
  inl (record {
    bodies = (9 ∷ []) ∷ [];
    leads = record { front = refl; all = (record { not_empty = omega arith; not_long = omega arith }, tt); inside = omega arith };
    here = refl;
  }),
))))

no_instance : (rs : List InstanceRecord) → IsInstance bytes rs → ⊥
no_instance rs is = absurd (cc is.bodies.1)

not_outside : IsOutsideInstance bytes 0 → ⊥
not_outside (inl o) = absurd (cc o.here)
not_outside (inr (inl w)) = absurd (cc w.list)
not_outside (inr (inr w)) = absurd (cc w.list)

opens : IsUnopened (codes "A") 0 0 (λ f. bytes) → ⊥
opens (inl (inl (inl (inl n)))) = not_outside n.1
opens (inl (inl (inl (inr (inl n))))) = no_instance n.0 n.1
opens (inl (inl (inl (inr (inr n))))) = no_instance n.0 n.1
opens (inl (inl (inr n))) = no_instance n.0 n.1
opens (inl (inr n)) = no_instance n.records.instance n.held.instance
opens (inr n) = no_instance n.2.0 n.2.1

pub returns-clause-not_before : goal.returns-clause-not_before
returns-clause-not_before c = opens
