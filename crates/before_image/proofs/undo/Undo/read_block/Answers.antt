use Rattle.std.proofs.Common.{◌≡◌, ℕ, ◌<◌, ◌≤◌, length, replicate, Option, List, Some, None, sym, ◌∙◌, ap, arith}
use Rattle.std.specs.Option.{option_copied}
use Rattle.std.specs.Ordering.{nat_cmp}
use Rattle.std.specs.BTreeMap.{get}
use Rattle.before_image.specs.Undoing.{oldest_of}
use Rattle.before_image.proofs.OldestImages.{seen_at, seen_length, zeros_told, image_told, read_told, whole_there, on_ok}
use Rattle.before_image.proofs.undo.Undo.read_block.Goals as goal

pub returns-then-block-self-clause-block : goal.returns-then-block-self-clause-block
returns-then-block-self-clause-block g c =
    let many = seen_length c.self.inside.count (get nat_cmp c.self.inside.oldest) c.args.self.now c.self.view_is in
    let far : length c.args.self.now ≤ c.args.block = omega (arith, c.if-block-self.true, many) in
    zeros_told (g.D.Disk.disk c.args.disk.now).content c.args.self.now c.args.file c.args.block c.put_zeros.new.out far c.requires.inside
    (c.put_zeros.ensures ∙ ap (λ (k : ℕ). replicate {A = ℕ} k 0) c.requires.size)

pub read_at-requires : goal.read_at-requires
read_at-requires g c =
    let f = get nat_cmp c.self.inside.oldest in
    let many = seen_length c.self.inside.count f c.args.self.now c.self.view_is in
    let none : oldest_of c.args.self.now c.args.block ≡ None =
    seen_at c.self.inside.count f c.args.self.now c.args.block c.self.view_is (omega (arith, c.if-block-self.false)) ∙ sym c.get.ensures.value ∙ ap option_copied c.in-None.is in
    whole_there (g.D.Disk.disk c.args.disk.now).content c.args.self.now c.args.file c.args.block (length c.args.out.now) (omega (arith, c.if-block-self.false, many)) none c.requires.size c.requires.whole

pub returns-in-Some-clause-block : goal.returns-in-Some-clause-block
returns-in-Some-clause-block g c =
    let f = get nat_cmp c.self.inside.oldest in
    let many = seen_length c.self.inside.count f c.args.self.now c.self.view_is in
    let image = seen_at c.self.inside.count f c.args.self.now c.args.block c.self.view_is (omega (arith, c.if-block-self.false)) ∙ sym c.get.ensures.value ∙ ap option_copied c.in-Some.is in
    image_told (g.D.Disk.disk c.args.disk.now).content c.args.self.now c.args.file c.args.block c.copy_from_slice.new.self (omega (arith, c.if-block-self.false, many))
    (image ∙ ap (λ (x : List ℕ). Some x) (sym (c.copy_from_slice.ensures.after ∙ c.as_slice.ensures)))

pub returns-in-None-clause-block : goal.returns-in-None-clause-block
returns-in-None-clause-block g c =
    let f = get nat_cmp c.self.inside.oldest in
    let many = seen_length c.self.inside.count f c.args.self.now c.self.view_is in
    let inside : c.args.block < length c.args.self.now = omega (arith, c.if-block-self.false, many) in
    let none : oldest_of c.args.self.now c.args.block ≡ None =
    seen_at c.self.inside.count f c.args.self.now c.args.block c.self.view_is (omega (arith, c.if-block-self.false)) ∙ sym c.get.ensures.value ∙ ap option_copied c.in-None.is in
    on_ok c.read_at.result c.read_at.ensures.bytes
    (read_told (g.D.Disk.disk c.args.disk.now).content c.args.self.now c.args.file c.args.block (length c.args.out.now) c.read_at.new.buf inside none c.requires.size)
