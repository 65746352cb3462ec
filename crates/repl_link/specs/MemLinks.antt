-- What contracts see of a linker in memory.
use Rattle.std.specs.Prelude.{ℕ, zero, suc, true, List, [], ◌∷◌, slice_index}
use Rattle.std.specs.declared.collections.VecDeque.{VecDeque}
use Rattle.std.specs.declared.alloc.Global.{Global}
use Rattle.wire_defs.specs.Links.{Linking}
use Rattle.repl_link.specs.declared.linker.MemLinker.{MemLinker}

-- the orders of a session
abbrev pub orders_of : List (VecDeque ℕ Global) → ℕ → List ℕ
orders_of [] s = []
orders_of (orders ∷ others) zero = orders.items
orders_of (orders ∷ others) (suc s) = orders_of others s

abbrev pub mem_linking : MemLinker → Linking
mem_linking l = record {
  told = true;
  shown = true;
  simulated = true;
  made = l.made;
  cuts = λ s. slice_index l.cuts s;
  orders = λ s. orders_of l.orders s;
  past = l.log.past;
}
