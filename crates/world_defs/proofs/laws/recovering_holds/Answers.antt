use Rattle.std.proofs.Common.{◌≡◌, Bool, true, false, ◌++◌, length, refl, ◌∙◌, ap}
use Rattle.std.specs.Prelude.{codes}
use Rattle.std.specs.Fmt.{decimal, digits}
use Rattle.site_defs.specs.Contents.{Contents}
use Rattle.site_defs.specs.Forward.{recovered_as}
use Rattle.site_defs.specs.Samples.{two_entries}
use Rattle.world_defs.specs.Answers.{line}
use Rattle.world_defs.specs.World.{Place}
use Rattle.world_defs.specs.Samples.{down_place}
use Rattle.world_defs.specs.rows.Recover.{Recovers}
use Rattle.world_defs.proofs.laws.recovering_holds.Goals as goal

two_recovered : line (codes "A") (codes "RECOVERED " ++ decimal 2) ≡ codes "A RECOVERED 2\n"
unfolding digits
two_recovered = refl

-- what is left, but for the text of what was broken
recovered : (anew : Bool) (q : Place) → (d : Recovers anew (down_place two_entries) q) → q.now ≡ recovered_as anew d.broken two_entries
recovered anew q d = d.becomes.known.now ∙ ap (λ (o : Contents). recovered_as anew d.broken o) (d.as_before refl)

pub returns-clause-told : goal.returns-clause-told
returns-clause-told c anew q text h = h.2 ∙ ap (λ (o : Contents). line (codes "A") (codes "RECOVERED " ++ decimal (length o.sequence))) (recovered anew q h.1) ∙ two_recovered

pub returns-clause-kept : goal.returns-clause-kept
returns-clause-kept c anew q text h = ap (λ (o : Contents). o.sequence) (recovered anew q h.1)

pub returns-clause-taken : goal.returns-clause-taken
returns-clause-taken c anew q text h = ap (λ (o : Contents). o.epochs 0) (recovered anew q h.1)

pub returns-clause-backward : goal.returns-clause-backward
returns-clause-backward c q text h = ap (λ (o : Contents). o.starts 0) (recovered false q h.1)

pub returns-clause-forward : goal.returns-clause-forward
returns-clause-forward c q text h = ap (λ (o : Contents). o.starts 0) (recovered true q h.1)
