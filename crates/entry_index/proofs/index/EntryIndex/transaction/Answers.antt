use Rattle.std.proofs.Common.{rules, ◌≡◌, ℕ, ◌-◌, List, Option, Some, None, slice_get, IsErrOf, sym, ◌∙◌, ap}
use Rattle.std.specs.Option.{option_map}
use Rattle.disk_defs.proofs.Told.{weaker_told}
use Rattle.jnl_file.proofs.Newer.{all_told}
use Rattle.global_defs.specs.Entry.{Stamp, Reign, Entry, Sequence}
use Rattle.gvn_model.specs.Entries.{transaction_value}
use Rattle.journal_defs.specs.Journal.{Part}
use Rattle.journal_defs.specs.Sequence.{REGIONS, entry_among}
use Rattle.mupip_recover.specs.Entries.{stamped}
use Rattle.entry_index.specs.Parts.{InFiles, AreParts}
use Rattle.entry_index.specs.Indexes.{Indexes}
use Rattle.entry_index.specs.declared.error.IndexError.TheVariants.{NotAFile}
use Rattle.entry_index.proofs.Rows.{entry_in, past_rows, does_so, none_so}
use Rattle.entry_index.proofs.index.EntryIndex.transaction.Goals as goal

pub returns-in_default-clause-entry : goal.returns-in_default-clause-entry
returns-in_default-clause-entry g c =
    let a = c.args in
    all_told (g.D.Disk.disk a.disk.now).content (λ files. (history : List Reign) (seq : Sequence) → Indexes (InFiles files) history a.self.now seq → None ≡ option_map (λ (e : Entry). e.transaction) (slice_get seq (a.number - 1)))
    (λ files history seq is. ap (option_map (λ (e : Entry). e.transaction)) (past_rows files history a.self.now seq a.number c.requires.first (c.row.ensures.past c.in_default.is) is))

pub returns-in_err-transaction-clause-outside : goal.returns-in_err-transaction-clause-outside
returns-in_err-transaction-clause-outside g c file offset is =
    let a = c.args in
    let n = a.number in
    let row = c.in-Some.row.now in
    let failed : IsErrOf c.read_transaction.result (NotAFile file offset) = search (rules, is) in
    weaker_told (g.D.Disk.disk a.disk.now).content (λ files. (part : ℕ → Option Part) → AreParts (InFiles files) n row part → ⊥) (λ files. (history : List Reign) (seq : Sequence) → Indexes (InFiles files) history a.self.now seq → ⊥)
    (c.read_transaction.ensures.outside file offset failed)
    (λ files none history seq is.
    let at = entry_in files history a.self.now seq n c.requires.first is row c.in-Some.ensures.found c.in-Some.ensures.some c.in-Some.ensures.within in
    none at.part at.parts)

pub returns-in-Some-2-clause-entry : goal.returns-in-Some-2-clause-entry
returns-in-Some-2-clause-entry g c =
    let a = c.args in
    let n = a.number in
    let row = c.in-Some.row.now in
    let found = c.in_ok-transaction.field-0 in
    weaker_told (g.D.Disk.disk a.disk.now).content (λ files. (part : ℕ → Option Part) → AreParts (InFiles files) n row part → (stamp : Stamp) → entry_among part stamp REGIONS ≡ option_map (stamped stamp) found)
    (λ files. (history : List Reign) (seq : Sequence) → Indexes (InFiles files) history a.self.now seq → Some (transaction_value c.in-Some-2.transaction) ≡ option_map (λ (e : Entry). e.transaction) (slice_get seq (n - 1)))
    c.in_ok-transaction.ensures.found
    (λ files all history seq is.
    let at = entry_in files history a.self.now seq n c.requires.first is row c.in-Some.ensures.found c.in-Some.ensures.some c.in-Some.ensures.within in
    ap (option_map transaction_value) (sym c.in-Some-2.is) ∙ does_so files history row n (slice_get seq (n - 1)) found all at)

pub returns-in-None-clause-outside : goal.returns-in-None-clause-outside
returns-in-None-clause-outside g c file offset _ =
    let a = c.args in
    let n = a.number in
    let row = c.in-Some.row.now in
    let found = c.in_ok-transaction.field-0 in
    weaker_told (g.D.Disk.disk a.disk.now).content (λ files. (part : ℕ → Option Part) → AreParts (InFiles files) n row part → (stamp : Stamp) → entry_among part stamp REGIONS ≡ option_map (stamped stamp) found)
    (λ files. (history : List Reign) (seq : Sequence) → Indexes (InFiles files) history a.self.now seq → ⊥)
    c.in_ok-transaction.ensures.found
    (λ files all history seq is.
    let at = entry_in files history a.self.now seq n c.requires.first is row c.in-Some.ensures.found c.in-Some.ensures.some c.in-Some.ensures.within in
    none_so files history row n (slice_get seq (n - 1)) found c.in-None.is all at)
