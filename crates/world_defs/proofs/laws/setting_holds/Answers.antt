use Rattle.std.proofs.Common.{◌≡◌, ℕ, Bool, List, ◌∷◌, [], Option, Some, None, refl, sym, ◌∙◌, ap, inl, inr}
use Rattle.std.specs.Prelude.{codes, IsSomeAnd}
use Rattle.journal_defs.specs.Instance.{mode_of}
use Rattle.site_defs.specs.Contents.{Contents, Standing}
use Rattle.site_defs.specs.Limits.{region_number}
use Rattle.site_defs.specs.Lists.{Among}
use Rattle.site_defs.specs.Opening.{with_mode}
use Rattle.site_defs.specs.Samples.{two_entries}
use Rattle.world_defs.specs.World.{Place, StandAfter}
use Rattle.world_defs.specs.Samples.{left_place}
use Rattle.world_defs.specs.rows.SetJournal.{GainsMode, GainsModeLeft, SetsMode}
use Rattle.world_defs.proofs.laws.setting_holds.Goals as goal

set_to : (before : Bool) (q : Place) → SetsMode (codes "R") before (left_place two_entries) q → q.now ≡ with_mode 0 before two_entries
set_to before q d =
    let there : Some 0 ≡ Some d.number = sym (ap (region_number (codes "R")) (d.as_before refl)) ∙ d.named in
    let number : 0 ≡ d.number = cc there in
    d.becomes.now ∙ ap (λ (r : ℕ). with_mode r before d.read) (sym number) ∙ ap (with_mode 0 before) (d.as_before refl)

pub returns-clause-set : goal.returns-clause-set
returns-clause-set c before q text h = ap (λ (o : Contents). mode_of o.instance 0) (set_to before q h.1)

pub returns-clause-kept : goal.returns-clause-kept
returns-clause-kept c before q text h = ap (λ (o : Contents). o.sequence) (set_to before q h.1)

pub returns-clause-behind : goal.returns-clause-behind
returns-clause-behind c before q text h = h.1.becomes.left

-- the region is the first one
gained : (before : Bool) (c o : Contents) → c ≡ two_entries → GainsMode (codes "R") before c o → o ≡ with_mode 0 before two_entries
gained before c o same (number, named, is) =
    let there : Some 0 ≡ Some number = sym (ap (region_number (codes "R")) same) ∙ named in
    let first : 0 ≡ number = cc there in
    is ∙ ap (λ (r : ℕ). with_mode r before c) (sym first) ∙ ap (with_mode 0 before) same

pub returns-clause-outcomes : goal.returns-clause-outcomes
returns-clause-outcomes c before q text h o a =
    let k = h.1.becomes.outcomes o a in
    let same : k.0 ≡ two_entries = elim k.1 [ inl is ↦ is | inr none ↦ absurd none ] in
    gained before k.0 o same k.2 ∙ sym (set_to before q h.1)

stand : (before : Bool) (now : Contents) (x : Option (List Standing)) → now ≡ with_mode 0 before two_entries → StandAfter (GainsModeLeft (codes "R") before) (Some (record { contents = two_entries; broken = codes "x" } ∷ [])) x
    → IsSomeAnd x (λ os. (o : Standing) → Among os o → (o.contents ≡ now) × (o.broken ≡ codes "x"))
stand before now None is h = absurd h
stand before now (Some os) is h = λ o a.
    let k = h o a in
    let same : k.0 ≡ record { contents = two_entries; broken = codes "x" } = elim k.1 [ inl is ↦ is | inr none ↦ absurd none ] in
    (gained before k.0.contents o.contents (ap (λ (s : Standing). s.contents) same) k.2.0 ∙ sym is, k.2.1 ∙ ap (λ (s : Standing). s.broken) same)

pub returns-clause-standings : goal.returns-clause-standings
returns-clause-standings c before q text h = stand before q.now q.standings (set_to before q h.1) h.1.becomes.standings

pub returns-clause-not_refused : goal.returns-clause-not_refused
returns-clause-not_refused c before r q text (inl h, e, b) = absurd (cc h.0)
returns-clause-not_refused c before r q text (inr (none, (is, kept)), e, b) = absurd (cc kept.unknown)
