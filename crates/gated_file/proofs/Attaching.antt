-- A file that is taken up with the records that it has.
use Rattle.std.proofs.Common.{◌≡◌, ℕ, ◌≤◌, ◌<◌, ◌^◌, List, [], length, Option, Some, None, IfSome, IsSomeAnd, sym, ◌∙◌, ap, subst, arith}
use Rattle.std.proofs.lemmas.List.{append-nil}
use Rattle.disk_defs.specs.Disk.{Files, View, Image, IsLawful, Reads, AtEachMoment, IsDurable}
use Rattle.disk_defs.specs.Frames.{Only, OthersStay}
use Rattle.disk_defs.specs.Gates.{Body, records}
use Rattle.disk_defs.proofs.Told.{weaker_told, both_weak, told_at}
use Rattle.disk_defs.proofs.Moments.{read_only, nothing_new}
use Rattle.gated_file.specs.State.{State, settled}
use Rattle.gated_file.specs.Gated.{Holds, HasState, IsReady, IsStanding}
use Rattle.gated_file.specs.Reading.{EndsAt}
use Rattle.disk_defs.specs.OutsideGates.{IsOutside}
use Rattle.gated_file.specs.Begin.{IsBegun, KeepsRecords}
use Rattle.gated_file.specs.declared.gated.Gated.{Gated}
use Rattle.gated_file.proofs.Begins.{begun_state, settled_holds, standing_ready, settle_keeps, still_durable}
use Rattle.gated_file.proofs.Walking.{closed_at, leads_place, outside_none}
use Rattle.disk_defs.proofs.Texts.{records_short as short_records}

-- a file shorter than two bytes has no records
pub short_empty : (o : Option Files) (file size : ℕ) → IfSome o (λ files. size ≡ length (files file)) → size < 2 → IfSome o (λ files. records (files file) ≡ Some [])
short_empty o file size told short = weaker_told o (λ files. size ≡ length (files file)) (λ files. records (files file) ≡ Some []) told (λ files is. short_records (files file) (omega (arith, short, is)))

pub short_state : (u v w : View) (g : Gated) (number size : ℕ) → IsStanding g number 0 → v.content ≡ u.content → OthersStay (Only number) v w → IfSome w.content (λ files. IsBegun w number (files number)) → IfSome u.content (λ files. size ≡ length (files number)) → size < 2
    → IfSome u.content (λ files. (bodies : List Body) × (records (files number) ≡ Some bodies) × HasState w g (settled bodies))
short_state u v w g number size standing content stay begun told short =
    both_weak u.content (λ files. records (files number) ≡ Some []) (λ _. HasState w g (settled [])) (λ files. (bodies : List Body) × (records (files number) ≡ Some bodies) × HasState w g (settled bodies))
    (short_empty u.content number size told short) (begun_state u v w g number standing content stay begun) (λ files none has. ([], none, has))

-- the file's end was found
pub record Found (w : View) (number end : ℕ) (files : Files) : Type 0 where
  pub bodies : List Body
  pub ends : EndsAt (files number) bodies end
  pub durable : IsDurable w number (files number)
  pub long : 2 ≤ length (files number)

found_holds : (w : View) (g : Gated) (files : Files) (number end : ℕ) (found : Found w number end files) → IsStanding g number end → Holds w g (settled found.bodies) files
found_holds w g files number end found standing =
    let closed = closed_at (files number) end found.bodies found.long found.ends in
    settled_holds w g files found.bodies closed.gate closed.tail number end standing closed.shut found.ends.leads.all closed.is found.durable (leads_place (files number) end found.bodies found.ends.leads)

found_records : (w : View) (g : Gated) (files : Files) (number end : ℕ) (found : Found w number end files) → IsStanding g number end → records (files number) ≡ Some found.bodies
found_records w g files number end found standing =
    ap (λ (n : ℕ). records (files n)) (sym standing.file) ∙ (found_holds w g files number end found standing).reads ∙ ap (λ (l : List Body). Some l) (append-nil found.bodies)

pub found_of : (u v w : View) (number end size : ℕ) → v.content ≡ u.content → Reads v w → IfSome v.content (λ files. (bodies : List Body) × EndsAt (files number) bodies end) → IfSome u.content (λ files. IsDurable v number (files number)) → IfSome u.content (λ files. size ≡ length (files number)) → 2 ≤ size
    → IfSome u.content (Found w number end)
found_of u v w number end size content reads ends durable told long =
    both_weak u.content (λ files. (bodies : List Body) × EndsAt (files number) bodies end) (λ files. IsDurable v number (files number) × (size ≡ length (files number))) (Found w number end)
    (told_at u.content v.content (λ files. (bodies : List Body) × EndsAt (files number) bodies end) content ends)
    (both_weak u.content (λ files. IsDurable v number (files number)) (λ files. size ≡ length (files number)) (λ files. IsDurable v number (files number) × (size ≡ length (files number))) durable told (λ files d t. (d, t)))
    (λ files e p. record { bodies = e.0; ends = e.1; durable = still_durable v w number (files number) reads p.0; long = omega (arith, long, p.1) })

-- a file's state at a content that is that of before
state_at : (o n : Option Files) (w : View) (g : Gated) (number end : ℕ) → n ≡ o → IsStanding g number end → IfSome o (Found w number end) → IfSome o (λ files. (bodies : List Body) × (records (files number) ≡ Some bodies) × IsSomeAnd n (Holds w g (settled bodies)))
state_at None n w g number end is standing found = tt
state_at (Some files) n w g number end is standing found =
    (found.bodies, found_records w g files number end found standing, subst (λ x. IsSomeAnd x (Holds w g (settled found.bodies))) (sym is) (found_holds w g files number end found standing))

pub found_state : (u v w : View) (g : Gated) (number end : ℕ) → v.content ≡ u.content → Reads v w → IsStanding g number end → IfSome u.content (Found w number end) → IfSome u.content (λ files. (bodies : List Body) × (records (files number) ≡ Some bodies) × HasState w g (settled bodies))
found_state u v w g number end content reads standing found = state_at u.content w.content w g number end (reads.content ∙ content) standing found

pub found_ready : (u v w : View) (g : Gated) (number end : ℕ) → IsLawful w → v.content ≡ u.content → Reads v w → IsStanding g number end → end < 2 ^ 64 → IfSome u.content (Found w number end) → IsReady w g
found_ready u v w g number end lawful content reads standing low found =
    standing_ready w g number end lawful standing low
    (subst (λ o. IfSome o (λ files. (s : State) × Holds w g s files)) (sym (reads.content ∙ content))
    (weaker_told u.content (Found w number end) (λ files. (s : State) × Holds w g s files) found (λ files f. (settled f.bodies, found_holds w g files number end f standing))))

-- only reads came after the sync
pub read_keeps : (u v w : View) (file : ℕ) → IsLawful v → AtEachMoment u v (Image u) → Reads v w → IfSome u.content (λ _. AtEachMoment u w (KeepsRecords u file))
read_keeps u v w file lawful run reads = settle_keeps u w file (nothing_new u v w (Image u) lawful run (read_only v w reads))

pub found_outside : (u v : View) (number offset size : ℕ) → v.content ≡ u.content → IfSome v.content (λ files. IsOutside (files number) offset) → IfSome u.content (λ files. size ≡ length (files number)) → 2 ≤ size → IfSome u.content (λ files. records (files number) ≡ None)
found_outside u v number offset size content outside told long =
    both_weak u.content (λ files. IsOutside (files number) offset) (λ files. size ≡ length (files number)) (λ files. records (files number) ≡ None)
    (told_at u.content v.content (λ files. IsOutside (files number) offset) content outside) told (λ files is long_is. outside_none (files number) offset (omega (arith, long, long_is)) is)
