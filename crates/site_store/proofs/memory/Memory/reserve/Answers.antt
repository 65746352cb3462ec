use Rattle.std.proofs.Common.{refl, ap}
use Rattle.block_laws.specs.Nodes.{union}
use Rattle.site_store.proofs.HeldRegions.{nodes_same}
use Rattle.site_store.proofs.Places.{same_self}
use Rattle.site_store.proofs.memory.Memory.reserve.Goals as goal

pub returns-in_err-reserve-clause-kept : goal.returns-in_err-reserve-clause-kept
returns-in_err-reserve-clause-kept c = record {
  same = record { instance = refl; layout = refl; hardened = refl; stamp = refl };
  entries = same_self c.args.self.now.entries;
  globals = ap union c.reserve.ensures.same.parts;
  nodes = nodes_same c.args.self.now.globals c.reserve.new.self c.reserve.ensures.same;
}

pub returns-clause-kept : goal.returns-clause-kept
returns-clause-kept c = record {
  same = record { instance = refl; layout = refl; hardened = refl; stamp = refl };
  entries = record { regions = c.reserve-2.ensures.same.0; places = c.reserve-2.ensures.same.1 };
  globals = ap union c.reserve.ensures.same.parts;
  nodes = nodes_same c.args.self.now.globals c.reserve.new.self c.reserve.ensures.same;
}
