-- What histories, transactions and entries of the code stand for.
use Rattle.global_defs.specs.Entry as defs
use Rattle.global_defs.specs.Prefix as prefix
use Rattle.gvn_model.specs.declared.history.History.{History}
use Rattle.gvn_model.specs.declared.entry.Origin.{Origin}
use Rattle.gvn_model.specs.declared.entry.Transaction.{Transaction}
use Rattle.gvn_model.specs.declared.entry.Entry.{Entry}
use Rattle.gvn_model.specs.Reigns.{stamp_value}

abbrev pub history_value : History → prefix.History
history_value h = record { length = h.length; reigns = h.reigns }

abbrev pub origin_value : Origin → defs.Origin
origin_value o = record { updater = o.updater; serial = o.serial }

abbrev pub transaction_value : Transaction → defs.Transaction
transaction_value t = record { origin = origin_value t.origin; updates = t.updates }

-- an entry without its number, which is its place in a sequence
abbrev pub entry_value : Entry → defs.Entry
entry_value e = record { stamp = stamp_value e.stamp; transaction = transaction_value e.transaction }
