use Rattle.std.proofs.Common.{rules, ◌≡◌, ◌≤◌, ℕ, Option, None, is_some, true, false, IsErrOf, sym, ap, subst}
use Rattle.disk_defs.proofs.Told.{weaker_told}
use Rattle.jnl_file.proofs.Newer.{all_told}
use Rattle.global_defs.specs.Entry.{Stamp}
use Rattle.journal_defs.specs.Journal.{Part}
use Rattle.journal_defs.specs.Sequence.{REGIONS, entry_among}
use Rattle.entry_index.specs.declared.completing.Told.{Told}
use Rattle.entry_index.specs.declared.error.IndexError.TheVariants.{NotAFile}
use Rattle.entry_index.specs.Parts.{InFiles, AreParts}
use Rattle.entry_index.specs.Table.{AreSigned}
use Rattle.entry_index.specs.Completing.{IsTold}
use Rattle.entry_index.proofs.completing.is_complete.Goals as goal

pub returns-in-Complete-clause-complete : goal.returns-in-Complete-clause-complete
returns-in-Complete-clause-complete g c =
    let a = c.args in
    let n = a.number in
    all_told (g.D.Disk.disk a.disk.now).content (λ files. (part : ℕ → Option Part) → AreSigned files a.row.now n part → ((r : ℕ) → a.regions ≤ r → part r ≡ None) → (stamp : Stamp) → true ≡ is_some (entry_among part stamp REGIONS))
    (λ files part are past stamp. sym (subst (λ (t : Told). IsTold t (entry_among part stamp REGIONS)) c.in-Complete.is (c.told_at.ensures files n part are stamp)))

pub returns-in-Broken-clause-complete : goal.returns-in-Broken-clause-complete
returns-in-Broken-clause-complete g c =
    let a = c.args in
    let n = a.number in
    all_told (g.D.Disk.disk a.disk.now).content (λ files. (part : ℕ → Option Part) → AreSigned files a.row.now n part → ((r : ℕ) → a.regions ≤ r → part r ≡ None) → (stamp : Stamp) → false ≡ is_some (entry_among part stamp REGIONS))
    (λ files part are past stamp. sym (ap is_some (subst (λ (t : Told). IsTold t (entry_among part stamp REGIONS)) c.in-Broken.is (c.told_at.ensures files n part are stamp))))

pub returns-in_err-found-in-Unsure-clause-outside : goal.returns-in_err-found-in-Unsure-clause-outside
returns-in_err-found-in-Unsure-clause-outside g c file offset is =
    let a = c.args in
    let n = a.number in
    let row = c.as_slice.result.now in
    let failed : IsErrOf c.read_transaction.result (NotAFile file offset) = search (rules, is) in
    weaker_told (g.D.Disk.disk a.disk.now).content (λ files. (part : ℕ → Option Part) → AreParts (InFiles files) n row part → ⊥)
    (λ files. (part : ℕ → Option Part) → AreSigned files a.row.now n part → ((r : ℕ) → a.regions ≤ r → part r ≡ None) → ⊥)
    (c.read_transaction.ensures.outside file offset failed)
    (λ files none part are past. none part (subst (λ l. AreParts (InFiles files) n l part) (sym c.as_slice.ensures.value) (c.in_ok-places-in-Unsure.ensures.parts files n part are past)))
