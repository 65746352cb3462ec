use Rattle.std.proofs.Common.{◌≡◌, ℕ, map, get_or, Option, None, ◌∙◌, ap}
use Rattle.std.specs.Option.{option_map}
use Rattle.disk_defs.proofs.Told.{weaker_told}
use Rattle.global_defs.specs.Entry.{Stamp}
use Rattle.journal_defs.specs.Journal.{Part}
use Rattle.journal_defs.specs.Sequence.{REGIONS, entry_among}
use Rattle.mupip_recover.specs.Entries.{stamped}
use Rattle.entry_index.specs.Parts.{InFiles, AreParts, read_value}
use Rattle.entry_index.proofs.ReadParts.{from_table}
use Rattle.entry_index.proofs.Formed.{formed_found}
use Rattle.entry_index.proofs.reading.read_transaction.Goals as goal

pub returns-clause-found : goal.returns-clause-found
returns-clause-found g c =
    let a = c.args in
    let ms = map (option_map read_value) c.in_ok-parts.parts.items in
    weaker_told (g.D.Disk.disk a.disk.now).content (λ files. (part : ℕ → Option Part) → AreParts (InFiles files) a.number a.row.now part → (r : ℕ) → get_or ms r None ≡ part r)
    (λ files. (part : ℕ → Option Part) → AreParts (InFiles files) a.number a.row.now part → (stamp : Stamp) → entry_among part stamp REGIONS ≡ option_map (stamped stamp) c.in_ok-found.found)
    c.in_ok-parts.ensures.read
    (λ files read part at. from_table c.in_ok-table.table ms part c.in_ok-found.found (c.in_ok-table.ensures ∙ ap (map (option_map read_value)) c.deref.ensures.value) (read part at) c.in_ok-found.ensures)

pub returns-clause-form : goal.returns-clause-form
returns-clause-form g c =
    formed_found c.in_ok-table.table c.in_ok-parts.parts.items c.in_ok-found.found (c.in_ok-table.ensures ∙ ap (map (option_map read_value)) c.deref.ensures.value) c.in_ok-parts.ensures.forms c.in_ok-found.ensures
