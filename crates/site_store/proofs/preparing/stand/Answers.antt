use Rattle.std.proofs.Common.{◌≡◌, ◌<◌, rules, List, Vec, Global, length, map, take, sym, ◌∙◌, ap, subst, IfSome}
use Rattle.std.specs.List.{AllByRecursion}
use Rattle.std.proofs.lemmas.Result.{err_from_is_err_and}
use Rattle.disk_defs.proofs.Told.{weaker_told}
use Rattle.global_defs.specs.Entry.{Sequence, state}
use Rattle.entry_index.specs.declared.placed.PlacedSign.{PlacedSign}
use Rattle.journal_defs.specs.Instance.{regions}
use Rattle.journal_defs.specs.Sequence.{Records}
use Rattle.journal_defs.specs.Fit.{IsSoundImage}
use Rattle.entry_index.specs.Found.{AreFound}
use Rattle.site_defs.specs.OutsideBlocks.{HaveOutsideBlocks}
use Rattle.region_store.specs.Joined.{Joined, joined}
use Rattle.site_store.specs.Standing.{IfFound, IsOpenFor, found_signs}
use Rattle.site_store.proofs.Errors.{region_was}
use Rattle.site_store.proofs.OnBlocks.{AreGoneBack, serves, on_blocks, are_held}
use Rattle.site_store.proofs.preparing.stand.Goals as goal

pub open_regions-requires-clause-within : goal.open_regions-requires-clause-within
open_regions-requires-clause-within g c = subst (λ d. AllByRecursion (λ p. p.region < d.regions) d.patterns) (sym (c.in_ok-directory.ensures ∙ c.requires.has.directory)) c.requires.has.form.mapped

pub open_regions-requires-clause-regions : goal.open_regions-requires-clause-regions
open_regions-requires-clause-regions g c = c.requires.has.each_place ∙ sym (ap (λ d. d.regions) (c.in_ok-directory.ensures ∙ c.requires.has.directory))

pub open_regions-requires-clause-history : goal.open_regions-requires-clause-history
open_regions-requires-clause-history g c = search rules

pub returns-in_err-globals-clause-place : goal.returns-in_err-globals-clause-place
returns-in_err-globals-clause-place g c =
    let v = g.D.Disk.disk c.args.disk.now in
    let f = c.args.found in
    let p = err_from_is_err_and c.from_residual-in_err-globals.result c.from_residual-in_err-globals.ensures.1 in
    rw (p.1, p.2) (λ file offset is aim aims.
    weaker_told v.content (λ files. (u : Records) (seq : Sequence) → AreFound files f.read.log.records c.args.target (found_signs f) f.entries u seq → HaveOutsideBlocks aim files file offset)
    (IfFound f (λ _ _ files. HaveOutsideBlocks aim files file offset))
    (subst (λ (l : List (Vec PlacedSign Global)). IfSome v.content (λ files. (u : Records) (seq : Sequence) → AreFound files f.read.log.records c.args.target (map (λ s. s.items) l) f.entries u seq → HaveOutsideBlocks aim files file offset)) c.deref.ensures.value
    (c.in_err-globals.ensures.outside file offset (region_was c.in_err-globals.field-0.0 file offset is) aim aims))
    (λ files out u seq found. out u seq (serves files f c.args.target c.requires.has c.requires.lowest u seq found)))

pub returns-in_err-globals-clause-unsound : goal.returns-in_err-globals-clause-unsound
returns-in_err-globals-clause-unsound g c =
    let v = g.D.Disk.disk c.args.disk.now in
    let f = c.args.found in
    let p = err_from_is_err_and c.from_residual-in_err-globals.result c.from_residual-in_err-globals.ensures.1 in
    rw (p.1, p.2) (λ file offset is.
    weaker_told v.content (λ files. (u : Records) (seq : Sequence) → AreFound files f.read.log.records c.args.target (found_signs f) f.entries u seq → IsSoundImage files u seq → ⊥) (IfFound f (λ u seq files. IsSoundImage files u seq → ⊥))
    (subst (λ (l : List (Vec PlacedSign Global)). IfSome v.content (λ files. (u : Records) (seq : Sequence) → AreFound files f.read.log.records c.args.target (map (λ s. s.items) l) f.entries u seq → IsSoundImage files u seq → ⊥)) c.deref.ensures.value
    (c.in_err-globals.ensures.unsound file offset (region_was c.in_err-globals.field-0.0 file offset is)))
    (λ files none u seq found. none u seq (serves files f c.args.target c.requires.has c.requires.lowest u seq found)))

pub returns-clause-opened : goal.returns-clause-opened
returns-clause-opened g c =
    let view = g.D.Disk.disk in
    let v = view c.args.disk.now in
    let w = view c.open_regions.new.disk in
    let f = c.args.found in
    let rs = f.read.log.records in
    let t = c.args.target in
    let globals = c.in_ok-globals.globals in
    let got = c.in_ok-globals.ensures in
    let dir = c.in_ok-directory.ensures ∙ c.requires.has.directory in
    let many = got.count ∙ ap (λ d. d.regions) dir in
    subst (λ (k : Joined). IsOpenFor v w f t k) (sym c.in_ok-stand_on.ensures.globals) (record {
      blocks = on_blocks v.content f t c.requires.has c.requires.lowest globals (got.patterns ∙ ap (λ d. d.patterns) dir) many got.files
          (subst (λ (l : List (Vec PlacedSign Global)). IfSome v.content (AreGoneBack rs (map (λ s. s.items) l) f.entries t globals)) c.deref.ensures.value got.holds) got.held;
      regions = are_held v w (length (regions rs)) globals c.open_regions.ensures.reads.content many got.files got.held;
      nodes = weaker_told v.content (λ files. (u : Records) (seq : Sequence) → AreFound files rs t (found_signs f) f.entries u seq → IsSoundImage files u seq → joined globals ≡ state (take t seq))
          (IfFound f (λ u seq files. IsSoundImage files u seq → joined globals ≡ state (take t seq)))
          (subst (λ (l : List (Vec PlacedSign Global)). IfSome v.content (λ files. (u : Records) (seq : Sequence) → AreFound files rs t (map (λ s. s.items) l) f.entries u seq → IsSoundImage files u seq → joined globals ≡ state (take t seq))) c.deref.ensures.value got.state)
          (λ files made u seq found. made u seq (serves files f t c.requires.has c.requires.lowest u seq found));
      some = got.some;
      none = got.none;
    })
