-- How long bodies are.
use Rattle.std.proofs.Common.{◌≡◌, ℕ, ◌*◌, ◌≤◌, List, [], ◌∷◌, ◌++◌, length, flat_map, arith, length-append}
use Rattle.std.specs.Int.{to_be_bytes, w32, w64}
use Rattle.std.specs.List.{AllByRecursion}
use Rattle.disk_defs.specs.Gates.{IsBody}
use Rattle.global_defs.specs.Fields.{flag, short, IsSiteName}
use Rattle.global_defs.specs.Region.{Region}
use Rattle.journal_defs.specs.Instance.{InstanceRecord, Create, Reigned, Cut, Map, Mode, IsInForm, spelled_record, spelled_region}

site_short : (name : List ℕ) → IsSiteName name → length name ≤ 15
site_short [] form = absurd form
site_short (b ∷ bs) form = omega (arith, form.2)

regions_short : (rs : List Region) → AllByRecursion (λ r. IsSiteName r.name) rs → length (flat_map spelled_region rs) ≤ 17 * length rs
regions_short [] all = omega arith
regions_short (r ∷ rs) all =
    omega (arith, regions_short rs all.1, site_short r.name all.0, length-append (spelled_region r) (flat_map spelled_region rs), length-append (short r.name) (flag r.before ∷ []))

size : (r : InstanceRecord) → IsInForm r → (1 ≤ length (spelled_record r)) × (length (spelled_record r) ≤ 1048576)
size (Create name regions) form =
    let a = length-append (short name) (length regions ∷ flat_map spelled_region regions) in
    let b = regions_short regions form.3 in
    let d = site_short name form.0 in
    (omega (arith, a), omega (arith, a, b, d, form.2))
size (Reigned r) form =
    let a = length-append (short r.stamp.root) (to_be_bytes w32 r.stamp.cycle ++ to_be_bytes w64 r.start) in
    let b = site_short r.stamp.root form.stamp.root in
    (omega (arith, a), omega (arith, a, b))
size (Cut n g) form = (omega arith, omega arith)
size (Map region star name) form = (omega arith, omega (arith, form.2))
size (Mode region before) form = (omega arith, omega arith)

pub body_size : (body : List ℕ) (r : InstanceRecord) → IsInForm r → body ≡ spelled_record r → IsBody body
body_size body r form is = rw is (let s = size r form in record { not_empty = s.0; not_long = s.1 })
