use Rattle.site_store.proofs.preparing.stand_on.Goals as goal

pub returns-clause-found_as : goal.returns-clause-found_as
returns-clause-found_as c = record {
  log = λ i. c.args.found.read.log;
  last_began = λ i. c.args.found.read.last_began;
  entries = λ i. c.args.found.entries;
  broken = λ i. c.args.found.broken;
  layout = c.in_ok-layout.ensures;
}
