use Rattle.std.proofs.Common.{◌≡◌, ℕ, suc, ◌+◌, length, IfSome, OnOk, IsErrOf, ◌∙◌, ap, subst, arith}
use Rattle.journal_defs.specs.Instance.{generation, regions}
use Rattle.global_dir.specs.Directory.{Mapping}
use Rattle.site_files.specs.declared.error.FilesError.TheVariants.{NotAFile}
use Rattle.site_files.specs.Reading.{AreUnbegunDurable}
use Rattle.site_defs.specs.Outside.{AreUnbegun, HaveBegun}
use Rattle.site_files.proofs.reading.see_ahead.Goals as goal

-- a fact of so many regions and this generation, spelled so or so
moved : (F : ℕ → ℕ → Type 0) (n m g h : ℕ) → n ≡ m → g ≡ h → F n g → F m h
moved F n m g h many ahead fact = subst (λ (k : ℕ). F k h) many (subst (F n) ahead fact)

pub see_regions-requires-clause-generation : goal.see_regions-requires-clause-generation
see_regions-requires-clause-generation g c =
    let view = g.D.Disk.disk in
    let o = (view c.args.disk.now).content in
    let rs = c.args.records.now in
    let many : c.regions.result ≡ length (regions rs) = c.regions.ensures.count ∙ ap (λ (d : Mapping). d.regions) c.requires.directory.2 in
    let newest : c.generation.result ≡ generation rs = c.generation.ensures in
    let ahead : c.generation.result + 2 ≡ suc (suc (generation rs)) = omega (arith, newest) in
    let low = c.requires.low in omega (arith, ahead, low)

pub returns-clause-next : goal.returns-clause-next
returns-clause-next g c =
    let view = g.D.Disk.disk in
    let o = (view c.args.disk.now).content in
    let rs = c.args.records.now in
    let many : c.regions.result ≡ length (regions rs) = c.regions.ensures.count ∙ ap (λ (d : Mapping). d.regions) c.requires.directory.2 in
    let newest : c.generation.result ≡ generation rs = c.generation.ensures in
    let ahead : c.generation.result + 2 ≡ suc (suc (generation rs)) = omega (arith, newest) in
    moved (λ n k. OnOk c.see_regions.result (IfSome o (AreUnbegun n k))) c.regions.result (length (regions rs)) (c.generation.result + 2) (suc (suc (generation rs))) many ahead c.see_regions.ensures.next

pub returns-clause-durable : goal.returns-clause-durable
returns-clause-durable g c =
    let view = g.D.Disk.disk in
    let o = (view c.args.disk.now).content in
    let rs = c.args.records.now in
    let many : c.regions.result ≡ length (regions rs) = c.regions.ensures.count ∙ ap (λ (d : Mapping). d.regions) c.requires.directory.2 in
    let newest : c.generation.result ≡ generation rs = c.generation.ensures in
    let ahead : c.generation.result + 2 ≡ suc (suc (generation rs)) = omega (arith, newest) in
    moved (λ n k. OnOk c.see_regions.result (IfSome o (AreUnbegunDurable (view c.see_regions.new.disk) n k))) c.regions.result (length (regions rs)) (c.generation.result + 2) (suc (suc (generation rs))) many ahead c.see_regions.ensures.durable

pub returns-clause-place : goal.returns-clause-place
returns-clause-place g c =
    let view = g.D.Disk.disk in
    let o = (view c.args.disk.now).content in
    let rs = c.args.records.now in
    let many : c.regions.result ≡ length (regions rs) = c.regions.ensures.count ∙ ap (λ (d : Mapping). d.regions) c.requires.directory.2 in
    let newest : c.generation.result ≡ generation rs = c.generation.ensures in
    let ahead : c.generation.result + 2 ≡ suc (suc (generation rs)) = omega (arith, newest) in
    moved (λ n k. (file offset : ℕ) → IsErrOf c.see_regions.result (NotAFile file offset) → IfSome o (λ files. HaveBegun files n k file offset)) c.regions.result (length (regions rs)) (c.generation.result + 2) (suc (suc (generation rs))) many ahead c.see_regions.ensures.place

pub returns-clause-outside : goal.returns-clause-outside
returns-clause-outside g c =
    let view = g.D.Disk.disk in
    let o = (view c.args.disk.now).content in
    let rs = c.args.records.now in
    let many : c.regions.result ≡ length (regions rs) = c.regions.ensures.count ∙ ap (λ (d : Mapping). d.regions) c.requires.directory.2 in
    let newest : c.generation.result ≡ generation rs = c.generation.ensures in
    let ahead : c.generation.result + 2 ≡ suc (suc (generation rs)) = omega (arith, newest) in
    moved (λ n k. (file offset : ℕ) → IsErrOf c.see_regions.result (NotAFile file offset) → IfSome o (λ files. AreUnbegun n k files → ⊥)) c.regions.result (length (regions rs)) (c.generation.result + 2) (suc (suc (generation rs))) many ahead c.see_regions.ensures.outside
