use Rattle.std.proofs.Common.{◌≡◌, ℕ, ◌+◌, ◌-◌, ◌++◌, List, Bool, length, take, drop, get_or, true, false, sym, ◌∙◌, ap, arith, length-append, length-take, length-drop}
use Rattle.std.proofs.lemmas.List.{take_all}
use Rattle.repl_disk.specs.Mem.{Mem}
use Rattle.repl_disk.specs.declared.file.MemFile.{MemFile}
use Rattle.repl_disk.proofs.Parts.{put_back}
use Rattle.repl_disk.proofs.Kept.{is_image}
use Rattle.repl_disk.proofs.file.MemFile.crash.Goals as goal
use Rattle.repl_disk.proofs.file.MemFile.crash.Goals.{then-pick-eq0, else-pick-eq0}

pub returns-clause-image : goal.returns-clause-image
returns-clause-image c =
    let m = c.args.self.now in
    let back = c.choose-next.new.read in
    let kept = c.requires.kept in
    let read_is : c.settle-2.new.self.read.items ≡ c.if-pick-eq0.self.read.items = ap (λ (x : Mem). x.read) c.settle-2.ensures.mem in
    let l = c.deref_mut.result.now in
    let part : take (length l - m.low) (drop m.low l) ≡ drop m.low m.read.items = take_all (length l - m.low) (drop m.low l) (omega (arith, length-drop m.low l)) ∙ ap (drop m.low) c.deref_mut.ensures.value in
    let tail : length back ≡ length (drop m.low m.read.items) = c.choose-next.ensures.length ∙ ap length part in
    let long : length back + m.low ≡ length m.read.items = omega (arith, tail, kept.marks, length-drop m.low m.read.items) in
    let all : m.read.len ≡ length m.read.items = sym c.deref_mut.ensures.len ∙ ap length c.deref_mut.ensures.value in
    let same : (i : ℕ) → get_or m.marks.items i true ≡ false → get_or back i 0 ≡ get_or (drop m.low m.read.items) i 0 = λ i free.
    c.choose-next.ensures.same i (ap (λ (x : List Bool). get_or x i true) c.deref-2.ensures.value ∙ free) ∙ ap (λ (x : List ℕ). get_or x i 0) part in
    elim c.if-pick-eq0.branch [
      | then-pick-eq0 w ↦
          let cut : c.if-pick-eq0.self.read.items ≡ take (m.low + length m.synced.items) (take m.low m.read.items ++ back) =
          ap (λ (x : MemFile). x.read.items) w.self-is ∙ w.truncate.ensures.items ∙ ap (take (m.low + w.len.result)) (put_back m.read.items l back _ _ m.low m.read.len c.deref_mut.ensures.value long all)
          ∙ ap (λ (k : ℕ). take (m.low + k) (take m.low m.read.items ++ back)) (w.len.ensures ∙ sym c.deref.ensures.len ∙ ap length c.deref.ensures.value) in
          is_image m back _ kept long same (m.low + length m.synced.items) (omega arith) kept.ends (read_is ∙ cut)
      | else-pick-eq0 w ↦
          let whole : c.if-pick-eq0.self.read.items ≡ take m.low m.read.items ++ back = ap (λ (x : MemFile). x.read.items) w.self-is ∙ put_back m.read.items l back _ _ m.low m.read.len c.deref_mut.ensures.value long all in
          let end : length (take m.low m.read.items ++ back) ≡ length m.read.items = omega (arith, long, length-append (take m.low m.read.items) back, length-take m.low m.read.items) in
          is_image m back _ kept long same (length m.read.items) kept.ends (omega arith) (read_is ∙ whole ∙ sym (take_all (length m.read.items) (take m.low m.read.items ++ back) (omega (arith, end))))
    ]
