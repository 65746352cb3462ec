use Rattle.std.proofs.Common.{◌≡◌, ℕ, zero, suc, true, false, slice_get, Some, inl, inr, refl, sym, ◌∙◌, ap, arith}
use Rattle.std.specs.Prelude.{codes}
use Rattle.global_defs.specs.Region.{Region}
use Rattle.journal_defs.specs.Instance.{regions}
use Rattle.site_defs.specs.Contents.{same_name}
use Rattle.world_defs.specs.Answers.{NeedForward, refusal_line}
use Rattle.world_defs.specs.Samples.{down_place, marked_without_images}
use Rattle.world_defs.specs.Without.{MayNeed, MayNeedForward}
use Rattle.world_defs.proofs.laws.images_are_needed.Goals as goal

without_line : refusal_line (record { site = codes "A"; cause = NeedForward (codes "R") }) ≡ codes "A NEEDFORWARD R\n"
without_line = refl

may : MayNeed (codes "R") 1 marked_without_images 2
may = record { untold = refl; region = 0; mode = record { name = codes "R"; before = true }; there = refl; named = refl; needs = inl (refl, refl); earlier = λ q less. absurd (omega (arith, less)) }

needed : MayNeedForward (NeedForward (codes "R")) (down_place marked_without_images) (down_place marked_without_images)
needed = (
  codes "R",
  refl,
  λ t. (1, may),
  record { site = refl; now = refl; left = refl; known = record { told = refl; outcomes = λ o h. h; standings = λ t o h. (o, h, refl) }; shown = refl; faults = omega arith; simulated = refl },
)

pub returns-clause-behind_it : goal.returns-clause-behind_it
returns-clause-behind_it c = (inr (refl, (refl, inr (inr needed))), sym without_line, tt)

-- there is one region
only_region : (r : ℕ) (mode : Region) → slice_get (regions marked_without_images.instance) r ≡ Some mode → mode.name ≡ codes "R"
only_region zero mode e = let same : record { name = codes "R"; before = true } ≡ mode = cc e in ap (λ (m : Region). m.name) (sym same)
only_region (suc r) mode e = cc e

differ : codes "Q" ≡ codes "R" → ⊥
differ e = let is : true ≡ false = ap (same_name (codes "Q")) e in absurd (cc is)

pub returns-clause-other : goal.returns-clause-other
returns-clause-other c q text (inl h, e, b) = absurd (cc h.0)
returns-clause-other c q text (inr (none, (named, inl h)), e, b) = absurd (cc h.0)
returns-clause-other c q text (inr (none, (named, inr (region, is, without, kept))), e, b) =
    let d = (without refl).1 in
    let same : codes "Q" ≡ region = cc is in
    differ (same ∙ sym d.named ∙ only_region d.region d.mode d.there)

pub returns-clause-with_images : goal.returns-clause-with_images
returns-clause-with_images c r q text (inl h, e, b) = absurd (cc h.0)
returns-clause-with_images c r q text (inr (none, (named, inl h)), e, b) = absurd (cc h.1.unknown)
returns-clause-with_images c r q text (inr (none, (named, inr (region, is, without, kept))), e, b) = absurd (cc (without refl).1.untold)

pub returns-clause-anew : goal.returns-clause-anew
returns-clause-anew c r q text (inl h, e, b) = absurd (cc h.0)
returns-clause-anew c r q text (inr (none, (named, (limit, kept))), e, b) = absurd (cc kept.unknown)
