use Rattle.std.proofs.Common.{◌≡◌, ◌<◌, ◌≤◌, rules, ℕ, true, List, length, take, sym, ◌∙◌, ap, subst, arith}
use Rattle.std.specs.List.{AllByRecursion}
use Rattle.std.proofs.Math.Seq.{take-length}
use Rattle.std.proofs.lemmas.Result.{err_from_is_err_and}
use Rattle.disk_defs.proofs.Told.{weaker_told}
use Rattle.global_defs.specs.Entry.{Sequence, state}
use Rattle.entry_index.specs.declared.placed.PlacedSign.{PlacedSign}
use Rattle.journal_defs.specs.Instance.{regions}
use Rattle.journal_defs.specs.Sequence.{Records}
use Rattle.journal_defs.specs.Fit.{IsSoundImage}
use Rattle.entry_index.specs.Found.{AreFound, entry_count}
use Rattle.entry_index.proofs.AmongLaws.{counted}
use Rattle.region_store.specs.Joined.{Joined, joined}
use Rattle.site_store.specs.Standing.{IfFound, IsOpenAs, found_signs}
use Rattle.site_store.proofs.Errors.{region_was}
use Rattle.site_store.proofs.OnBlocks.{on_files, are_held}
use Rattle.site_store.proofs.preparing.stand_anew.Goals as goal

pub rebuild_regions-requires-clause-within : goal.rebuild_regions-requires-clause-within
rebuild_regions-requires-clause-within g c =
    subst (λ d. AllByRecursion (λ p. p.region < d.regions) d.patterns) (sym (c.in_ok-directory.ensures ∙ c.requires.has.directory)) c.requires.has.form.mapped

pub rebuild_regions-requires-clause-regions : goal.rebuild_regions-requires-clause-regions
rebuild_regions-requires-clause-regions g c = c.requires.has.each_place ∙ sym (ap (λ d. d.regions) (c.in_ok-directory.ensures ∙ c.requires.has.directory))

pub rebuild_regions-requires-clause-history : goal.rebuild_regions-requires-clause-history
rebuild_regions-requires-clause-history g c = search rules

pub returns-in_err-globals-clause-outside : goal.returns-in_err-globals-clause-outside
returns-in_err-globals-clause-outside g c =
    let v = g.D.Disk.disk c.args.disk.now in
    let f = c.args.found in
    let p = err_from_is_err_and c.from_residual-in_err-globals.result c.from_residual-in_err-globals.ensures.1 in
    rw (p.1, p.2) (λ file offset is.
    weaker_told v.content (λ files. (lowest : ℕ) (signs : List (List PlacedSign)) (u : Records) (seq : Sequence) → AreFound files f.read.log.records lowest signs f.entries u seq → ⊥) (IfFound f (λ _ _ _. ⊥))
    (c.in_err-globals.ensures.outside file offset (region_was c.in_err-globals.field-0.0 file offset is)) (λ files never u seq found. never f.read.lowest (found_signs f) u seq found))

pub returns-clause-opened : goal.returns-clause-opened
returns-clause-opened g c =
    let view = g.D.Disk.disk in
    let v = view c.args.disk.now in
    let w = view c.rebuild_regions.new.disk in
    let f = c.args.found in
    let rs = f.read.log.records in
    let n = entry_count f.entries in
    let globals = c.in_ok-globals.globals in
    let got = c.in_ok-globals.ensures in
    let dir = c.in_ok-directory.ensures ∙ c.requires.has.directory in
    let many = got.count ∙ ap (λ d. d.regions) dir in
    let some : 1 ≤ f.entries.regions = (let wide = c.requires.has.each_place in let least = c.requires.has.form.some_region in omega (arith, wide, least)) in
    subst (λ (k : Joined). IsOpenAs true v w f n k) (sym c.in_ok-stand_on.ensures.globals) (record {
      blocks = on_files v.content f n globals (got.patterns ∙ ap (λ d. d.patterns) dir) many got.files got.held;
      regions = are_held v w (length (regions rs)) globals c.rebuild_regions.ensures.reads.content many got.files got.held;
      nodes = weaker_told v.content (λ files. (lowest : ℕ) (signs : List (List PlacedSign)) (u : Records) (seq : Sequence) → AreFound files rs lowest signs f.entries u seq → joined globals ≡ state seq)
          (IfFound f (λ u seq files. IsSoundImage files u seq → joined globals ≡ state (take n seq))) got.state (λ files made u seq found sound.
          let all : take n seq ≡ seq = ap (λ (m : ℕ). take m seq) (counted f.entries (length seq) some found.indexed.rows) ∙ take-length seq in
          made f.read.lowest (found_signs f) u seq found ∙ ap state (sym all));
      some = got.some;
      none = got.none;
    })
