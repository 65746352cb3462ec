use Rattle.std.proofs.Common.{◌≡◌, ℕ, List, Option, IfSome, subst}
use Rattle.journal_defs.specs.Sequence.{Placed}
use Rattle.region_opening.specs.Signs.{AllSay}
use Rattle.region_opening.specs.declared.needing.WithoutImages.{WithoutImages}
use Rattle.site_store.specs.Needing.{IsFirstWithout}
use Rattle.site_store.specs.Standing.{found_records, found_signs}
use Rattle.site_store.proofs.preparing.check_images.Goals as goal

pub returns-in-Some-clause-first : goal.returns-in-Some-clause-first
returns-in-Some-clause-first c = λ region is journal say.
    let found = c.args.found.now in
    let t = c.args.target in
    let x = c.in-Some.needing in
    let same : x.region ≡ region = cc is in
    let first : (journal : ℕ → List Placed) → AllSay found.read.log.records t (found_signs found) journal → IsFirstWithout (found_records found journal) t x.region x.generation =
    subst (λ (o : Option WithoutImages). IfSome o (λ y. (journal : ℕ → List Placed) → AllSay found.read.log.records t (found_signs found) journal → IsFirstWithout (found_records found journal) t y.region y.generation)) c.in-Some.is c.in_ok-needing.ensures.first in
    (x.generation, subst (λ (r : ℕ). IsFirstWithout (found_records found journal) t r x.generation) same (first journal say))
