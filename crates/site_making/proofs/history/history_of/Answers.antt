use Rattle.std.proofs.Common.{rules, ◌≡◌, ◌∙◌, ℕ, List, length, map, Option, ap, refl, IfSome}
use Rattle.std.specs.Prelude.{filter, nat_le}
use Rattle.std.proofs.lemmas.Result.{err_from_is_err_and}
use Rattle.disk_defs.specs.Disk.{Files}
use Rattle.disk_defs.proofs.Told.{weaker_told}
use Rattle.global_defs.specs.Entry.{Sequence, Reign}
use Rattle.journal_defs.specs.Sequence.{Records}
use Rattle.journal_defs.specs.Instance.{InstanceRecord}
use Rattle.journal_defs.specs.Surviving.{reigns}
use Rattle.entry_index.specs.declared.placed.PlacedSign.{PlacedSign}
use Rattle.entry_index.specs.declared.index.EntryIndex.{EntryIndex}
use Rattle.entry_index.specs.Found.{AreFound, entry_count}
use Rattle.site_files.proofs.Counts.{counted}
use Rattle.site_store.proofs.Errors.{file_was}
use Rattle.site_making.proofs.Histories.{HoldEntries, no_records, history_told, history_read}
use Rattle.site_making.proofs.history.history_of.Goals as goal

pub returns-in_err-found-clause-place : goal.returns-in_err-found-clause-place
returns-in_err-found-clause-place g c =
    let p = err_from_is_err_and c.from_residual.result c.from_residual.ensures.1 in
    rw (p.1, p.2) (λ file offset is. c.in_err-found.ensures.place file offset (file_was c.in_err-found.field-0.0 file offset is))

pub returns-in_err-found-clause-outside : goal.returns-in_err-found-clause-outside
returns-in_err-found-clause-outside g c =
    let p = err_from_is_err_and c.from_residual.result c.from_residual.ensures.1 in
    rw (p.1, p.2) (λ file offset is.
    no_records (g.D.Disk.disk c.args.disk.now).content (c.in_err-found.ensures.outside file offset (file_was c.in_err-found.field-0.0 file offset is)))

-- the records hold so many entries
held_entries : (o : Option Files) (rs : List InstanceRecord) (lowest : ℕ) (signs : List (List PlacedSign)) (index : EntryIndex) (n : ℕ) → n ≡ entry_count index
    → IfSome o (λ files. (u : Records) × (seq : Sequence) × AreFound files rs lowest signs index u seq) → IfSome o (HoldEntries rs n)
held_entries o rs lowest signs index n count held = weaker_told o (λ files. (u : Records) × (seq : Sequence) × AreFound files rs lowest signs index u seq) (HoldEntries rs n) held
    (λ files x. (x.0, x.2.instance_is, x.2.held, x.1, x.2.sequence, count ∙ counted files rs index x.1 x.2.indexed))

pub returns-clause-history : goal.returns-clause-history
returns-clause-history g c =
    let rs = c.in_ok-found.found.read.log.records in
    let n = c.len-length.result in
    let own : c.in_ok-found.found.read.log.history ≡ reigns rs = search rules in
    let made : c.in_ok-reigns.reigns ≡ filter (λ (r : Reign). nat_le r.start n) (reigns rs) = c.in_ok-reigns.ensures ∙ ap (filter (λ (r : Reign). nat_le r.start n)) own in
    history_read (g.D.Disk.disk c.args.disk.now).content rs n (record { length = n; reigns = c.in_ok-reigns.reigns })
    (held_entries (g.D.Disk.disk c.args.disk.now).content rs c.in_ok-found.found.read.lowest (map (λ s. s.items) c.in_ok-found.found.read.signs.items) c.in_ok-found.found.entries n c.len-length.ensures.count c.in_ok-found.ensures.held) refl made

pub returns-clause-told : goal.returns-clause-told
returns-clause-told g c =
    let rs = c.in_ok-found.found.read.log.records in
    let n = c.len-length.result in
    let own : c.in_ok-found.found.read.log.history ≡ reigns rs = search rules in
    let made : c.in_ok-reigns.reigns ≡ filter (λ (r : Reign). nat_le r.start n) (reigns rs) = c.in_ok-reigns.ensures ∙ ap (filter (λ (r : Reign). nat_le r.start n)) own in
    history_told (g.D.Disk.disk c.args.disk.now).content rs n (record { length = n; reigns = c.in_ok-reigns.reigns })
    (held_entries (g.D.Disk.disk c.args.disk.now).content rs c.in_ok-found.found.read.lowest (map (λ s. s.items) c.in_ok-found.found.read.signs.items) c.in_ok-found.found.entries n c.len-length.ensures.count c.in_ok-found.ensures.held) refl made
