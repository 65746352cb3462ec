use Rattle.std.proofs.Common.{◌≡◌, true, false, [], ◌∷◌, length, None, refl, ◌∙◌, ap}
use Rattle.std.specs.Prelude.{codes}
use Rattle.std.specs.Fmt.{digits}
use Rattle.global_defs.specs.Entry.{Sequence}
use Rattle.site_defs.specs.Texts.{extract_from}
use Rattle.world_defs.proofs.laws.extracting_holds.Goals as goal

pub returns-clause-known : goal.returns-clause-known
returns-clause-known c contents q text told h = h.1.shows ∙ ap (extract_from (codes "A") None) (h.1.told refl)

no_entry : (entries : Sequence) → length entries ≡ 0 → entries ≡ []
no_entry [] none = refl
no_entry (e ∷ entries) none = cc

header_alone : extract_from (codes "A") None [] ≡ codes "GTMRJEX01\\A\\1\n"
unfolding digits
header_alone = refl

pub returns-clause-count : goal.returns-clause-count
returns-clause-count c q text told h = h.1.shows ∙ ap (extract_from (codes "A") None) (no_entry h.1.entries h.1.count) ∙ header_alone

pub returns-clause-fault : goal.returns-clause-fault
returns-clause-fault c contents k q told h = h.1.site

pub returns-clause-kept : goal.returns-clause-kept
returns-clause-kept c contents k q told h = h.1.now

pub returns-clause-no_damage : goal.returns-clause-no_damage
returns-clause-no_damage c contents file offset q told h = let unknown : true ≡ false = h.1.unknown in cc
