use Rattle.std.proofs.Common.{◌≡◌, false}
use Rattle.std.specs.List.{AllByRecursion}
use Rattle.before_image.specs.Images.{is_free}
use Rattle.region_store.proofs.region.Region.unlogged.Given as goal

abbrev pub invariant-loop-block : goal.invariant-loop-block
invariant-loop-block l = AllByRecursion (λ b. is_free l.self.imaged b ≡ false) l.list.items
