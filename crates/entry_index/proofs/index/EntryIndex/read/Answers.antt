use Rattle.std.proofs.Common.{rules, ◌≡◌, ℕ, ◌-◌, Option, Some, None, slice_get, IsErrOf, sym, ◌∙◌, ap}
use Rattle.std.specs.Option.{option_map}
use Rattle.disk_defs.proofs.Told.{weaker_told}
use Rattle.jnl_file.proofs.Newer.{all_told}
use Rattle.global_defs.specs.Entry.{Stamp, Sequence}
use Rattle.global_defs.specs.Prefix as prefix
use Rattle.gvn_model.specs.Reigns.{stamp_value}
use Rattle.journal_defs.specs.Journal.{Part}
use Rattle.journal_defs.specs.Sequence.{REGIONS, entry_among}
use Rattle.mupip_recover.specs.Entries.{stamped}
use Rattle.entry_index.specs.Parts.{InFiles, AreParts}
use Rattle.entry_index.specs.Indexes.{Indexes}
use Rattle.entry_index.specs.declared.error.IndexError.TheVariants.{NotAFile}
use Rattle.entry_index.proofs.Rows.{entry_in, past_rows, is_entry, no_stamp, some_there}
use Rattle.entry_index.proofs.index.EntryIndex.read.Goals as goal

pub returns-in_default-clause-entry : goal.returns-in_default-clause-entry
returns-in_default-clause-entry g c =
    let a = c.args in
    all_told (g.D.Disk.disk a.disk.now).content (λ files. (seq : Sequence) → Indexes (InFiles files) a.history.now a.self.now seq → None ≡ slice_get seq (a.number - 1))
    (λ files seq is. past_rows files a.history.now a.self.now seq a.number c.requires.first (c.row.ensures.past c.in_default.is) is)

pub returns-in_default-stamp_at-clause-entry : goal.returns-in_default-stamp_at-clause-entry
returns-in_default-stamp_at-clause-entry g c =
    let a = c.args in
    let n = a.number in
    let row = c.in-Some.row.now in
    let none : None ≡ prefix.stamp_at n a.history.now = ap (option_map (λ s. stamp_value s.now)) (sym c.in_default-stamp_at.is) ∙ c.stamp_at.ensures ∙ ap (prefix.stamp_at n) c.as_slice.ensures in
    all_told (g.D.Disk.disk a.disk.now).content (λ files. (seq : Sequence) → Indexes (InFiles files) a.history.now a.self.now seq → None ≡ slice_get seq (n - 1))
    (λ files seq is. no_stamp files a.history.now row n (slice_get seq (n - 1)) none
    (entry_in files a.history.now a.self.now seq n c.requires.first is row c.in-Some.ensures.found c.in-Some.ensures.some c.in-Some.ensures.within))

pub returns-in_default-2-clause-outside : goal.returns-in_default-2-clause-outside
returns-in_default-2-clause-outside g c file offset _ =
    let a = c.args in
    let n = a.number in
    let row = c.in-Some.row.now in
    let s = stamp_value c.in-Some-stamp_at.stamp.now in
    let found = c.in_ok-transaction.field-0 in
    let begun : Some s ≡ prefix.stamp_at n a.history.now = ap (option_map (λ s. stamp_value s.now)) (sym c.in-Some-stamp_at.is) ∙ c.stamp_at.ensures ∙ ap (prefix.stamp_at n) c.as_slice.ensures in
    weaker_told (g.D.Disk.disk a.disk.now).content (λ files. (part : ℕ → Option Part) → AreParts (InFiles files) n row part → (stamp : Stamp) → entry_among part stamp REGIONS ≡ option_map (stamped stamp) found)
    (λ files. (seq : Sequence) → Indexes (InFiles files) a.history.now a.self.now seq → ⊥) c.in_ok-transaction.ensures.found
    (λ files all seq is.
    let at = entry_in files a.history.now a.self.now seq n c.requires.first is row c.in-Some.ensures.found c.in-Some.ensures.some c.in-Some.ensures.within in
    some_there files a.history.now row n (slice_get seq (n - 1)) (ap (option_map (stamped s)) (sym c.in_default-2.is) ∙ is_entry files a.history.now row n (slice_get seq (n - 1)) s found begun all at) at)

pub returns-in_err-transaction-clause-outside : goal.returns-in_err-transaction-clause-outside
returns-in_err-transaction-clause-outside g c file offset is =
    let a = c.args in
    let n = a.number in
    let row = c.in-Some.row.now in
    let failed : IsErrOf c.read_transaction.result (NotAFile file offset) = search (rules, is) in
    weaker_told (g.D.Disk.disk a.disk.now).content (λ files. (part : ℕ → Option Part) → AreParts (InFiles files) n row part → ⊥) (λ files. (seq : Sequence) → Indexes (InFiles files) a.history.now a.self.now seq → ⊥)
    (c.read_transaction.ensures.outside file offset failed)
    (λ files none seq is.
    let at = entry_in files a.history.now a.self.now seq n c.requires.first is row c.in-Some.ensures.found c.in-Some.ensures.some c.in-Some.ensures.within in
    none at.part at.parts)

pub returns-clause-entry : goal.returns-clause-entry
returns-clause-entry g c =
    let a = c.args in
    let n = a.number in
    let row = c.in-Some.row.now in
    let s = stamp_value c.in-Some-stamp_at.stamp.now in
    let found = c.in_ok-transaction.field-0 in
    let begun : Some s ≡ prefix.stamp_at n a.history.now = ap (option_map (λ s. stamp_value s.now)) (sym c.in-Some-stamp_at.is) ∙ c.stamp_at.ensures ∙ ap (prefix.stamp_at n) c.as_slice.ensures in
    weaker_told (g.D.Disk.disk a.disk.now).content (λ files. (part : ℕ → Option Part) → AreParts (InFiles files) n row part → (stamp : Stamp) → entry_among part stamp REGIONS ≡ option_map (stamped stamp) found)
    (λ files. (seq : Sequence) → Indexes (InFiles files) a.history.now a.self.now seq → Some (stamped (stamp_value c.in_ok-copy.field-0) c.in-Some-2.transaction) ≡ slice_get seq (n - 1)) c.in_ok-transaction.ensures.found
    (λ files all seq is.
    let at = entry_in files a.history.now a.self.now seq n c.requires.first is row c.in-Some.ensures.found c.in-Some.ensures.some c.in-Some.ensures.within in
    ap (λ x. Some (stamped (stamp_value x) c.in-Some-2.transaction)) c.in_ok-copy.ensures
    ∙ ap (option_map (stamped s)) (sym c.in-Some-2.is)
    ∙ is_entry files a.history.now row n (slice_get seq (n - 1)) s found begun all at)
