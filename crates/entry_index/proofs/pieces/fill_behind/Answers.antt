use Rattle.std.proofs.Common.{◌≡◌, ◌+◌, ◌-◌, ℕ, List, length, take, drop, ap, ◌∙◌, IfSome, rules}
use Rattle.disk_defs.proofs.Told.{weaker_told}
use Rattle.entry_index.proofs.Cuts.{front_stays, told_filled}
use Rattle.entry_index.proofs.pieces.fill_behind.Goals as goal

pub returns-clause-bytes : goal.returns-clause-bytes
returns-clause-bytes g c =
    let o = (g.D.Disk.disk c.args.disk.now).content in
    let file = c.args.file in
    let at = c.args.at in
    let held = c.args.held in
    let into = c.args.into.now.items in
    let now = c.deref_mut.result.now in
    let kept : take held now ≡ take held into = ap (λ (l : List ℕ). take held l) c.deref_mut.ensures.value ∙ search (rules, front_stays) in
    let read : IfSome o (λ files. c.read_at.new.buf ≡ take (length (take (length now - held) (drop held now))) (drop (at + held) (files file))) = search rules in
    told_filled o file now c.read_at.new.buf _ at held c.args.many _ c.requires.fewer (search rules) (search rules) c.requires.inside
    (weaker_told o (λ files. take held into ≡ take held (drop at (files file))) (λ files. take held now ≡ take held (drop at (files file))) c.requires.held (λ files is. kept ∙ is))
    read
