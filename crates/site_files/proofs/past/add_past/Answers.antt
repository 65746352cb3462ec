use Rattle.std.proofs.Common.{◌≡◌, List, [], ◌∷◌, ◌++◌, map, append-nil, sym, ◌∙◌, ap}
use Rattle.std.proofs.lemmas.List.{map-append}
use Rattle.std.proofs.lemmas.Result.{err_from_is_err_and}
use Rattle.disk_defs.proofs.Told.{weaker_told}
use Rattle.jnl_file.proofs.Newer.{all_told}
use Rattle.journal_defs.specs.Sequence.{Placed}
use Rattle.jnl_record.specs.declared.placed.PlacedRecord.{PlacedRecord}
use Rattle.jnl_record.specs.Values.{placed_value}
use Rattle.entry_index.specs.Places.{IsSignOf}
use Rattle.site_files.specs.Past.{all_past}
use Rattle.site_files.proofs.Errors.{causes_on}
use Rattle.site_files.proofs.PastRead.{none_of, one_of}
use Rattle.site_files.proofs.past.add_past.Goals as goal

pub returns-then-not-is_past-clause-added : goal.returns-then-not-is_past-clause-added
returns-then-not-is_past-clause-added g c =
    let a = c.args in
    let was = map placed_value a.made.now.items in
    all_told (g.D.Disk.disk a.disk.now).content (λ files. (p : Placed) → IsSignOf files a.region a.placed.now p → was ≡ was ++ all_past a.length (p ∷ []))
    (λ files p is. sym (ap (λ (l : List Placed). was ++ l) (none_of files a.region a.length a.placed.now p is (sym c.is_past.ensures ∙ c.if-not-is_past.true)) ∙ append-nil was))

pub returns-in_err-read-clause-causes : goal.returns-in_err-read-clause-causes
returns-in_err-read-clause-causes g c =
    let p = err_from_is_err_and c.from_residual.result c.from_residual.ensures.1 in
    rw (p.1, p.2) (causes_on c.in_err-read.field-0.0 c.in_err-read.ensures.causes)

pub returns-clause-added : goal.returns-clause-added
returns-clause-added g c =
    let a = c.args in
    let was = map placed_value a.made.now.items in
    let read = c.in_ok-read.read in
    let pushed : c.add_record.new.records.items ≡ a.made.now.items ++ read ∷ [] = c.in_ok-add_record.ensures in
    weaker_told (g.D.Disk.disk a.disk.now).content (λ files. (p : Placed) → IsSignOf files a.region a.placed.now p → placed_value read ≡ p)
    (λ files. (p : Placed) → IsSignOf files a.region a.placed.now p → map placed_value c.add_record.new.records.items ≡ was ++ all_past a.length (p ∷ [])) c.in_ok-read.ensures.found
    (λ files same p is.
    ap (λ (l : List PlacedRecord). map placed_value l) pushed ∙ map-append placed_value a.made.now.items (read ∷ [])
    ∙ ap (λ (q : Placed). was ++ q ∷ []) (same p is)
    ∙ sym (ap (λ (l : List Placed). was ++ l) (one_of files a.region a.length a.placed.now p is (sym c.is_past.ensures ∙ c.if-not-is_past.false))))
