use Rattle.std.proofs.Common.{◌≡◌, ℕ, List, Vec, Global, length, map, sym, ◌∙◌, ap, subst, arith}
use Rattle.std.proofs.lemmas.Result.{err_from_is_err_and}
use Rattle.disk_defs.proofs.Told.{weaker_told}
use Rattle.global_defs.specs.Entry.{Sequence}
use Rattle.journal_defs.specs.Broken.{broken, broken_text}
use Rattle.journal_defs.specs.Instance.{InstanceRecord, site_name}
use Rattle.journal_defs.specs.Sequence.{Placed, Records}
use Rattle.entry_index.specs.declared.placed.PlacedSign.{PlacedSign}
use Rattle.entry_index.specs.Found.{AreFound, entry_count}
use Rattle.entry_index.specs.Indexes.{AreSigns}
use Rattle.site_files.specs.declared.error.FilesError.TheVariants.{NotAFile}
use Rattle.site_files.proofs.Errors.{handed_on, causes_on}
use Rattle.site_files.proofs.Counts.{counted}
use Rattle.site_files.proofs.PastRead.{broken_kept}
use Rattle.site_files.proofs.remembering.remember_all.Goals as goal

pub returns-in_err-broken-clause-outside : goal.returns-in_err-broken-clause-outside
returns-in_err-broken-clause-outside g c =
    let rs = c.args.read.now.log.records in
    let signs = map (λ (s : Vec PlacedSign Global). s.items) c.args.read.now.signs.items in
    let p = err_from_is_err_and c.from_residual.result c.from_residual.ensures.1 in
    rw (p.1, p.2) (λ file offset is.
    weaker_told (g.D.Disk.disk c.args.disk.now).content (λ files. (journal : ℕ → List Placed) → AreSigns files signs journal → ⊥) (λ files. (u : Records) (seq : Sequence) → AreFound files rs c.args.read.now.lowest signs c.args.entries u seq → ⊥)
    (c.in_err-broken.ensures.outside file offset (handed_on c.in_err-broken.field-0.0 (NotAFile file offset) is))
    (λ files none u seq found. none found.are_kept.kept found.are_kept.are))

pub returns-in_err-broken-clause-causes : goal.returns-in_err-broken-clause-causes
returns-in_err-broken-clause-causes g c =
    let p = err_from_is_err_and c.from_residual.result c.from_residual.ensures.1 in
    rw (p.1, p.2) (causes_on c.in_err-broken.field-0.0 c.in_err-broken.ensures.causes)

pub returns-clause-few : goal.returns-clause-few
returns-clause-few g c =
    let many : entry_count c.args.entries ≡ c.len-length.result = sym c.len-length.ensures.count in
    omega (arith, many)

pub returns-clause-broken : goal.returns-clause-broken
returns-clause-broken g c =
    let rs = c.args.read.now.log.records in
    let signs = map (λ (s : Vec PlacedSign Global). s.items) c.args.read.now.signs.items in
    let made = c.args.entries in
    let n = c.len-length.result in
    let text = c.in_ok-broken.broken in
    weaker_told (g.D.Disk.disk c.args.disk.now).content
    (λ files. (journal : ℕ → List Placed) → AreSigns files signs journal → text ≡ broken_text (site_name rs) n (broken (record { instance = rs; journal = journal }) n))
    (λ files. (u : Records) (seq : Sequence) → AreFound files rs c.args.read.now.lowest signs made u seq → text ≡ broken_text (site_name u.instance) (length seq) (broken u (length seq))) c.in_ok-broken.ensures.text
    (λ files told u seq found.
    let kept = found.are_kept in
    let many : n ≡ length seq = c.len-length.ensures.count ∙ counted files rs made seq found.indexed in
    let here : text ≡ broken_text (site_name rs) (length seq) (broken (record { instance = rs; journal = kept.kept }) (length seq)) =
    subst (λ (k : ℕ). text ≡ broken_text (site_name rs) k (broken (record { instance = rs; journal = kept.kept }) k)) many (told kept.kept kept.are) in
    subst (λ (is : List InstanceRecord). text ≡ broken_text (site_name is) (length seq) (broken (record { instance = is; journal = u.journal }) (length seq))) (sym found.instance_is)
    (here ∙ ap (broken_text (site_name rs) (length seq)) (broken_kept rs c.args.read.now.lowest (length seq) u.journal kept.kept kept.thinned)))
