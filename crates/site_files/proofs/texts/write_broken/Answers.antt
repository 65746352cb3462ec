use Rattle.std.proofs.Common.{◌≤◌, length, IfSome}
use Rattle.disk_defs.specs.Disk.{Files, Image, From, OnFile, ReadsAfter}
use Rattle.journal_defs.specs.Numbers.{broken_file}
use Rattle.site_files.specs.Loading.{IsWritten}
use Rattle.site_files.proofs.Writing.{on_ok, all_written, read_written}
use Rattle.site_files.proofs.texts.write_broken.Goals as goal

pub returns-clause-written : goal.returns-clause-written
returns-clause-written g c =
    let view = g.D.Disk.disk in
    let u = view c.args.disk.now in
    let y = view c.write_text.new.disk in
    let file = broken_file c.args.generation in
    let text = c.args.text.now in
    on_ok c.write_text.result _ (IfSome u.content (λ files. length (files file) ≤ length text → (d : Files) → Image y d → From (Image u) (OnFile file (IsWritten text)) d)) c.write_text.ensures.durable
    (λ here. all_written text file u y c.write_text.ensures.frame here)

pub returns-clause-as_read : goal.returns-clause-as_read
returns-clause-as_read g c =
    let view = g.D.Disk.disk in
    let u = view c.args.disk.now in
    let y = view c.write_text.new.disk in
    let file = broken_file c.args.generation in
    let text = c.args.text.now in
    on_ok c.write_text.result _ (IfSome u.content (λ files. length (files file) ≤ length text → ReadsAfter (OnFile file (IsWritten text)) u.content y.content)) c.write_text.ensures.durable
    (λ here. read_written text file u y (g.met.D.Disk.lawful c.write_text.new.disk) c.write_text.ensures.frame here)
