-- Entries that are recovered from records of their form are transactions of theirs.
use Rattle.std.proofs.Common.{ℕ, zero, suc, List, [], ◌∷◌, map, get_or}
use Rattle.std.specs.List.{AllByRecursion}
use Rattle.global_defs.specs.Entry.{Sequence}
use Rattle.global_defs.specs.Fields.{IsTransaction}
use Rattle.journal_defs.specs.Instance.{InstanceRecord}
use Rattle.journal_defs.specs.Sequence.{IsSequence}
use Rattle.block_laws.specs.Nodes.{AreFormed}
use Rattle.block_laws.proofs.Formed.{entries_of}
use Rattle.jnl_record.specs.Values.{placed_value}
use Rattle.jnl_record.specs.declared.placed.PlacedRecord.{PlacedRecord}
use Rattle.mupip_recover.specs.Site.{AreInForm, site_records}

mapped : (ps : List PlacedRecord) → AreInForm ps → AreFormed (map placed_value ps)
mapped [] all = tt
mapped (p ∷ ps) all = (all.0, mapped ps all.1)

formed_at : (js : List (List PlacedRecord)) (r : ℕ) → AllByRecursion AreInForm js → AreFormed (map placed_value (get_or js r []))
formed_at [] r all = tt
formed_at (j ∷ js) zero all = mapped j all.0
formed_at (j ∷ js) (suc r) all = formed_at js r all.1

pub entries_formed : (instance : List InstanceRecord) (js : List (List PlacedRecord)) (seq : Sequence) → AllByRecursion AreInForm js → IsSequence (site_records instance js) seq
    → AllByRecursion (λ e. IsTransaction e.transaction) seq
entries_formed instance js seq all is = entries_of (site_records instance js) seq (λ r. formed_at js r all) is
