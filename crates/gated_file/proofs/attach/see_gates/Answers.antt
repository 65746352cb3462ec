use Rattle.std.proofs.Common.{rules, ◌≡◌, List, length, [], Some, arith}
use Rattle.disk_defs.specs.Gates.{Body, records}
use Rattle.disk_defs.proofs.Told.{told_at, weaker_told, both_weak}
use Rattle.gated_file.specs.Reading.{EndsAt}
use Rattle.disk_defs.specs.OutsideGates.{IsOutside}
use Rattle.gated_file.proofs.Attaching.{short_empty}
use Rattle.gated_file.proofs.Walking.{ends_records}
use Rattle.gated_file.proofs.attach.see_gates.Goals as goal

pub returns-then-size-lt2-clause-listed : goal.returns-then-size-lt2-clause-listed
returns-then-size-lt2-clause-listed g c =
    let o = (g.D.Disk.disk c.args.disk.now).content in
    weaker_told o (λ files. records (files c.args.file) ≡ Some []) (λ files. (bodies : List Body) × (records (files c.args.file) ≡ Some bodies)) (short_empty o c.args.file c.in_ok-size.size c.in_ok-size.ensures.length c.if-size-lt2.true)
    (λ files none. ([], none))

pub returns-in_err-find_end-clause-outside : goal.returns-in_err-find_end-clause-outside
returns-in_err-find_end-clause-outside g c offset is =
    let view = g.D.Disk.disk in
    told_at (view c.args.disk.now).content (view c.len.new.self).content (λ files. IsOutside (files c.args.file) offset) c.len.ensures.reads.content (c.find_end.ensures.outside offset (search (rules, is)))

pub returns-clause-listed : goal.returns-clause-listed
returns-clause-listed g c =
    let view = g.D.Disk.disk in
    let o = (view c.args.disk.now).content in
    let file = c.args.file in
    both_weak o (λ files. (bodies : List Body) × EndsAt (files file) bodies c.in_ok-find_end.field-0) (λ files. c.in_ok-size.size ≡ length (files file)) (λ files. (bodies : List Body) × (records (files file) ≡ Some bodies))
    (told_at o (view c.len.new.self).content (λ files. (bodies : List Body) × EndsAt (files file) bodies c.in_ok-find_end.field-0) c.len.ensures.reads.content c.in_ok-find_end.ensures.end) c.in_ok-size.ensures.length
    (λ files ends told. (ends.0, ends_records (files file) c.in_ok-find_end.field-0 ends.0 (omega (arith, told, c.if-size-lt2.false)) ends.1))
