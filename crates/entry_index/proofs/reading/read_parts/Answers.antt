use Rattle.std.proofs.Common.{rules, ◌≡◌, ℕ, ◌+◌, ◌<◌, List, [], ◌∷◌, ◌++◌, length, map, get_or, Option, None, IfSome, IsErrOf, sym, ◌∙◌, ap, subst, arith, length-append}
use Rattle.std.proofs.lemmas.List.{length-map, map-append}
use Rattle.std.specs.List.{AllByRecursion}
use Rattle.std.specs.Option.{option_map}
use Rattle.disk_defs.proofs.Frames.{reads_more}
use Rattle.disk_defs.proofs.Told.{told_at, weaker_told, both_weak}
use Rattle.journal_defs.specs.Journal.{Part}
use Rattle.entry_index.specs.declared.error.IndexError.TheVariants.{NotAFile}
use Rattle.entry_index.specs.Parts.{InFiles, NOWHERE, IsPartAt, AreParts, read_value, IsReadPart}
use Rattle.entry_index.specs.declared.reading.ReadPart.{ReadPart}
use Rattle.journal_laws.proofs.ImageSteps.{all_both}
use Rattle.entry_index.proofs.ReadParts.{more_read, all_read}
use Rattle.entry_index.proofs.reading.read_parts.Goals as goal

pub loop-region-preserved : goal.loop-region-preserved
loop-region-preserved g c =
    let view = g.D.Disk.disk in
    let l = c.loop-region in
    let a = c.args in
    let o = (view a.disk.now).content in
    let f = option_map read_value in
    let found = c.in_ok-found.found in
    let place = get_or a.row.now l.region NOWHERE in
    let made : c.add_found.new.made.items ≡ l.made.items ++ found ∷ [] = c.in_ok-add_found.ensures in
    let more : map f c.add_found.new.made.items ≡ map f l.made.items ++ f found ∷ [] = ap (map f) made ∙ map-append f l.made.items (found ∷ []) in
    let here : IfSome o (λ files. (x : Option Part) → IsPartAt (InFiles files) l.region a.number place x → f found ≡ x) =
    told_at o (view l.disk).content (λ files. (x : Option Part) → IsPartAt (InFiles files) l.region a.number place x → f found ≡ x) l.invariant.reads.content c.in_ok-found.ensures.found in
    record {
      many = omega (arith, ap length made, length-append l.made.items (found ∷ []), l.invariant.many);
      read = both_weak o (λ files. (part : ℕ → Option Part) → AreParts (InFiles files) a.number a.row.now part → (r : ℕ) → r < l.region → get_or (map f l.made.items) r None ≡ part r)
          (λ files. (x : Option Part) → IsPartAt (InFiles files) l.region a.number place x → f found ≡ x)
          (λ files. (part : ℕ → Option Part) → AreParts (InFiles files) a.number a.row.now part → (r : ℕ) → r < l.region + 1 → get_or (map f c.add_found.new.made.items) r None ≡ part r)
          l.invariant.read here (λ files before one part at r low.
          ap (λ (ms : List (Option Part)). get_or ms r None) more
          ∙ more_read part (map f l.made.items) (f found) None l.region (length-map l.made.items f ∙ l.invariant.many) (before part at) (one (part l.region) (at.each l.region (omega arith))) r low);
      forms = subst (AllByRecursion (λ (o : Option ReadPart). IfSome o IsReadPart)) (sym made) (all_both (λ (o : Option ReadPart). IfSome o IsReadPart) l.made.items (found ∷ []) l.invariant.forms (c.in_ok-found.ensures.form, tt));
      reads = reads_more (view a.disk.now) (view l.disk) (view c.read_part.new.disk) (g.met.D.Disk.lawful a.disk.now) l.invariant.reads c.read_part.ensures.reads;
      faults = omega (arith, l.invariant.faults, c.read_part.ensures.faults.later);
    }

pub returns-clause-read : goal.returns-clause-read
returns-clause-read g c =
    let l = c.loop-region in
    let a = c.args in
    let f = option_map read_value in
    let n = length a.row.now in
    let all : l.region ≡ n = omega arith in
    weaker_told (g.D.Disk.disk a.disk.now).content (λ files. (part : ℕ → Option Part) → AreParts (InFiles files) a.number a.row.now part → (r : ℕ) → r < l.region → get_or (map f l.made.items) r None ≡ part r)
    (λ files. (part : ℕ → Option Part) → AreParts (InFiles files) a.number a.row.now part → (r : ℕ) → get_or (map f l.made.items) r None ≡ part r) l.invariant.read
    (λ files before part at r. all_read part (map f l.made.items) n (length-map l.made.items f ∙ l.invariant.many ∙ all) (λ q low. before part at q (omega (arith, low, all))) at.no_more r)

pub returns-in_err-found-clause-outside : goal.returns-in_err-found-clause-outside
returns-in_err-found-clause-outside g c file offset is =
    let view = g.D.Disk.disk in
    let l = c.loop-region in
    let a = c.args in
    let o = (view a.disk.now).content in
    let place = get_or a.row.now l.region NOWHERE in
    let failed : IsErrOf c.read_part.result (NotAFile file offset) = search (rules, is) in
    weaker_told o (λ files. (x : Option Part) → IsPartAt (InFiles files) l.region a.number place x → ⊥) (λ files. (part : ℕ → Option Part) → AreParts (InFiles files) a.number a.row.now part → ⊥)
    (told_at o (view l.disk).content (λ files. (x : Option Part) → IsPartAt (InFiles files) l.region a.number place x → ⊥) l.invariant.reads.content (c.read_part.ensures.outside file offset failed))
    (λ files none part at. none (part l.region) (at.each l.region (omega arith)))
