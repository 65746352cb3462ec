use Rattle.region_journals.proofs.Fronts as fronts
use Rattle.region_journals.proofs.laws.appended_entries_have_a_front.Goals as goal

pub returns : goal.returns
returns c = record {
  front = λ d f s seq g newer ps es kept image newest none epochs entries inside home nodes same first. fronts.front d f s seq g newer ps kept image newest none inside same first es epochs entries home nodes;
}
