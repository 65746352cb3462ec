use Rattle.std.proofs.Common.{IsErrOf, Err, arith, subst}
use Rattle.site_store.specs.declared.error.SiteError.{SiteError}
use Rattle.site_store.specs.declared.error.SiteError.TheVariants as error
use Rattle.site_store.proofs.Errors.{index_file_was}
use Rattle.site_store.proofs.Shown.{shows_none, shows_one, some_lines, none_outside}
use Rattle.site_store.proofs.showing.write_entry.Goals as goal

pub returns-then-len-number-clause-entry : goal.returns-then-len-number-clause-entry
returns-then-len-number-clause-entry g c =
    let a = c.args in
    let many = c.len.ensures.count in
    let test = c.if-len-number.true in
    shows_none (g.D.Disk.disk a.disk.now).content a.history.now a.entries.now a.number c.requires.first a.out.now (omega (arith, many, test))

pub returns-in-Ok-None-clause-outside : goal.returns-in-Ok-None-clause-outside
returns-in-Ok-None-clause-outside g c = λ file offset is.
    let a = c.args in
    let many = c.len.ensures.count in
    let test = c.if-len-number.false in
    none_outside (g.D.Disk.disk a.disk.now).content a.history.now a.entries.now a.number c.requires.first a.out.now c.in-Ok-None.field-0 c.in-Ok-None.ensures.entry (omega (arith, many, test)) c.in-Ok-None.field-0-is

pub returns-in-Err-clause-outside : goal.returns-in-Err-clause-outside
returns-in-Err-clause-outside g c = λ file offset is.
    c.in-Err.ensures.outside file offset (index_file_was {T = Unit {0}} c.faults.result c.in-Err.error file offset (subst (λ (e : SiteError). IsErrOf {T = Unit {0}} (Err e) (error.NotAFile file offset)) c.in_index.ensures is))

pub returns-in_ok-extract_entry-in-Ok-Some-clause-entry : goal.returns-in_ok-extract_entry-in-Ok-Some-clause-entry
returns-in_ok-extract_entry-in-Ok-Some-clause-entry g c =
    let a = c.args in
    let read = c.in-Ok-Some in
    shows_one (g.D.Disk.disk a.disk.now).content a.history.now a.entries.now a.number c.requires.first a.out.now read.field-0 read.ensures.entry c.extract_entry.new.out read.entry read.field-0-is read.ensures.number c.in_ok-extract_entry-in-Ok-Some.ensures.ok

pub returns-in_ok-extract_entry-in-Ok-Some-clause-some : goal.returns-in_ok-extract_entry-in-Ok-Some-clause-some
returns-in_ok-extract_entry-in-Ok-Some-clause-some g c = λ low.
    let read = c.in-Ok-Some in
    some_lines c.args.number c.args.out.now c.extract_entry.new.out read.field-0 read.entry read.field-0-is read.ensures.number c.in_ok-extract_entry-in-Ok-Some.ensures.ok
