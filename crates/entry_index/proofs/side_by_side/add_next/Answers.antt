use Rattle.std.proofs.Common.{◌≡◌, ◌≤◌, ℕ, List, Option, None, true, sym, ◌∙◌, subst}
use Rattle.jnl_file.proofs.Newer.{all_told}
use Rattle.global_defs.specs.Entry.{Reign}
use Rattle.global_defs.specs.Prefix.{stamp_at}
use Rattle.journal_defs.specs.Journal.{Part}
use Rattle.mupip_recover.specs.Stamps.{AreStarts}
use Rattle.entry_index.specs.Indexes.{IsNext}
use Rattle.entry_index.specs.Parts.{InFiles, AreParts}
use Rattle.entry_index.specs.Signs.{IsSign}
use Rattle.entry_index.specs.Table.{AreSigned, row_sign, AddsRow}
use Rattle.entry_index.specs.declared.signed_part.PartSign.{PartSign}
use Rattle.entry_index.proofs.Complete.{some_of, is_next, all_placed, alone_complete}
use Rattle.entry_index.proofs.SideBySide.{row_of}
use Rattle.entry_index.proofs.side_by_side.add_next.Goals as goal

pub returns-then-some_alone-clause-added : goal.returns-then-some_alone-clause-added
returns-then-some_alone-clause-added g c =
    let a = c.args in
    let yes : c.has_begun.result ≡ true = c.if-has_begun.true in
    let n = a.number in
    let row = row_of n a.cursors.now in
    let old = a.made.now.places.items in
    let new = c.push_waiting.new.places.items in
    let added : AddsRow row a.made.now.regions true old new = subst (λ (k : ℕ). AddsRow row k true old new) c.requires.count c.in_ok-push_waiting.ensures in
    let alone = c.some_alone.ensures c.if-some_alone.true in
    all_told (g.D.Disk.disk a.disk.now).content (λ files. (part : ℕ → Option Part) → AreSigned files row n part → ((r : ℕ) → a.made.now.regions ≤ r → part r ≡ None) → (rs : List Reign) → AreStarts rs a.starts.now → IsNext files rs n part true old new)
    (λ files part are past rs begun.
    let (s, stamped) = some_of (stamp_at n rs) (sym (c.has_begun.ensures rs begun) ∙ yes) in
    let at : AreParts (InFiles files) n added.0 part = all_placed files n a.made.now.regions (row_sign row) part added.0 added.2 added.3 are past in
    let done = alone_complete files n part s alone.0 alone.1 alone.2 (subst (λ (o : Option PartSign). IsSign files alone.0 n o (part alone.0)) alone.3 (are alone.0)) alone.4 in
    is_next files rs n part s added.0 old new (sym stamped) (sym done) at added.1)
