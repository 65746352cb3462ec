use Rattle.std.proofs.Common.{◌≡◌, ℕ, ◌-◌, ◌++◌, [], length, List, refl, ◌∙◌, ap}
use Rattle.std.specs.Prelude.{codes}
use Rattle.std.specs.Fmt.{decimal, digits}
use Rattle.journal_defs.specs.Instance.{generation}
use Rattle.site_defs.specs.Contents.{Contents}
use Rattle.site_defs.specs.Rolling.{rolled}
use Rattle.site_defs.specs.Samples.{two_entries}
use Rattle.world_defs.specs.World.{Place}
use Rattle.world_defs.specs.Answers.{line}
use Rattle.world_defs.specs.Samples.{down_place}
use Rattle.world_defs.specs.rows.Rollback.{RollsBack, stay_of}
use Rattle.world_defs.proofs.laws.rolling_holds.Goals as goal

abbrev written : ℕ → ℕ → List ℕ
written stays lost = line (codes "A") (codes "ROLLEDBACK " ++ decimal stays ++ codes " LOST " ++ decimal lost)

one_stays : written 1 2 ≡ codes "A ROLLEDBACK 1 LOST 2\n"
unfolding digits
one_stays = refl

rolled_to : (q : Place) → RollsBack 2 (down_place two_entries) q → q.now ≡ rolled 1 [] two_entries
rolled_to q d = d.becomes.known.now ∙ ap (λ (o : Contents). rolled (stay_of 2 o) d.broken o) (d.as_before refl) ∙ ap (λ (b : List ℕ). rolled 1 b two_entries) (d.as_left refl)

pub returns-clause-told : goal.returns-clause-told
returns-clause-told c q text h = h.2 ∙ ap (λ (o : Contents). written (length o.sequence) (generation o.instance - 1)) (rolled_to q h.1) ∙ one_stays

pub returns-clause-without_text : goal.returns-clause-without_text
unfolding digits
returns-clause-without_text c = refl
