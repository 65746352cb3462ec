use Rattle.std.proofs.Common.{◌≡◌, ◌≤◌, ℕ, List, Option, None, true, false, is_some, sym, ◌∙◌}
use Rattle.disk_defs.proofs.Told.{weaker_told}
use Rattle.jnl_file.proofs.Newer.{all_told}
use Rattle.global_defs.specs.Entry.{Reign, Stamp}
use Rattle.global_defs.specs.Prefix.{stamp_at}
use Rattle.journal_defs.specs.Journal.{Part}
use Rattle.journal_defs.specs.Sequence.{REGIONS, entry_among}
use Rattle.entry_index.specs.Parts.{InFiles, AreParts}
use Rattle.entry_index.specs.Table.{AreSigned, row_sign, AddsRow}
use Rattle.mupip_recover.specs.Stamps.{AreStarts}
use Rattle.entry_index.specs.Indexes.{IsNext}
use Rattle.entry_index.proofs.Complete.{some_of, not_begun, is_next, no_next, all_placed}
use Rattle.entry_index.proofs.building.add_row.Goals as goal

pub returns-then-not-has_begun-clause-added : goal.returns-then-not-has_begun-clause-added
returns-then-not-has_begun-clause-added g c =
    let a = c.args in
    let no : c.has_begun.result ≡ false = c.if-not-has_begun.true in
    let n = a.number in
    all_told (g.D.Disk.disk a.disk.now).content (λ files. (part : ℕ → Option Part) → AreSigned files a.row.now n part → ((r : ℕ) → a.made.now.regions ≤ r → part r ≡ None) → (rs : List Reign) → AreStarts rs a.starts.now → IsNext files rs n part false a.made.now.places.items a.made.now.places.items)
    (λ files part are past rs begun. not_begun files rs n part a.made.now.places.items (sym (c.has_begun.ensures rs begun) ∙ no))

pub returns-then-not-complete-clause-added : goal.returns-then-not-complete-clause-added
returns-then-not-complete-clause-added g c =
    let a = c.args in
    let yes : c.has_begun.result ≡ true = c.if-not-has_begun.false in
    let n = a.number in
    let old = a.made.now.places.items in
    weaker_told (g.D.Disk.disk a.disk.now).content (λ files. (part : ℕ → Option Part) → AreSigned files a.row.now n part → ((r : ℕ) → a.made.now.regions ≤ r → part r ≡ None) → (stamp : Stamp) → c.in_ok-complete.complete ≡ is_some (entry_among part stamp REGIONS))
    (λ files. (part : ℕ → Option Part) → AreSigned files a.row.now n part → ((r : ℕ) → a.made.now.regions ≤ r → part r ≡ None) → (rs : List Reign) → AreStarts rs a.starts.now → IsNext files rs n part false old old)
    c.in_ok-complete.ensures.complete
    (λ files done part are past rs begun.
    let (s, at) = some_of (stamp_at n rs) (sym (c.has_begun.ensures rs begun) ∙ yes) in
    no_next files rs n part s old (sym at) (sym c.if-not-complete.true ∙ done part are past s))

pub returns-clause-added : goal.returns-clause-added
returns-clause-added g c =
    let a = c.args in
    let yes : c.has_begun.result ≡ true = c.if-not-has_begun.false in
    let n = a.number in
    let old = a.made.now.places.items in
    let new = c.push_places.new.made.places.items in
    let row : AddsRow a.row.now a.made.now.regions true old new = c.in_ok-push_places.ensures.row in
    weaker_told (g.D.Disk.disk a.disk.now).content (λ files. (part : ℕ → Option Part) → AreSigned files a.row.now n part → ((r : ℕ) → a.made.now.regions ≤ r → part r ≡ None) → (stamp : Stamp) → c.in_ok-complete.complete ≡ is_some (entry_among part stamp REGIONS))
    (λ files. (part : ℕ → Option Part) → AreSigned files a.row.now n part → ((r : ℕ) → a.made.now.regions ≤ r → part r ≡ None) → (rs : List Reign) → AreStarts rs a.starts.now → IsNext files rs n part true old new)
    c.in_ok-complete.ensures.complete
    (λ files done part are past rs begun.
    let (s, stamped) = some_of (stamp_at n rs) (sym (c.has_begun.ensures rs begun) ∙ yes) in
    let at : AreParts (InFiles files) n row.0 part = all_placed files n a.made.now.regions (row_sign a.row.now) part row.0 row.2 row.3 are past in
    is_next files rs n part s row.0 old new (sym stamped) (sym c.if-not-complete.false ∙ done part are past s) at row.1)
