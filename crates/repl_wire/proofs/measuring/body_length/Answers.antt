use Rattle.std.proofs.Common.{length, ap, ◌∙◌, arith}
use Rattle.global_defs.specs.Fields.{spelled_update}
use Rattle.gvn_model.specs.Entries.{history_value, transaction_value}
use Rattle.wire_defs.specs.Frames.{frame_body, spelled_reign}
use Rattle.repl_wire.specs.declared.frame.Frame.{Frame}
use Rattle.repl_wire.specs.Values.{frame_value}
use Rattle.repl_wire.specs.Totals.{total}
use Rattle.repl_wire.proofs.Totals.{hello_size, entry_size}
use Rattle.repl_wire.proofs.measuring.body_length.Goals as goal

pub reigns_length-requires-clause-most : goal.reigns_length-requires-clause-most
reigns_length-requires-clause-most c =
    let most = c.requires.short in
    let size = ap (λ (f : Frame). length (frame_body (frame_value f))) c.in-Hello.is ∙ hello_size c.in-Hello.version c.in-Hello.name (history_value c.in-Hello.history) in
    let same = ap (total spelled_reign) c.as_slice.ensures in
    omega arith

pub overflow_add-result-in-Hello : goal.overflow_add-result-in-Hello
overflow_add-result-in-Hello c =
    let most = c.requires.short in
    let size = ap (λ (f : Frame). length (frame_body (frame_value f))) c.in-Hello.is ∙ hello_size c.in-Hello.version c.in-Hello.name (history_value c.in-Hello.history) in
    let same = ap (total spelled_reign) c.as_slice.ensures in
    let name = c.len.ensures in
    let reigns = c.reigns_length.ensures in
    omega arith

pub updates_length-requires-clause-most : goal.updates_length-requires-clause-most
updates_length-requires-clause-most c =
    let most = c.requires.short in
    let size = ap (λ (f : Frame). length (frame_body (frame_value f))) c.in-Entry.is ∙ entry_size c.in-Entry.field-0 (transaction_value c.in-Entry.transaction) in
    let same = ap (total spelled_update) c.as_slice-in-Entry.ensures in
    omega arith

pub overflow_add-result-in-Entry : goal.overflow_add-result-in-Entry
overflow_add-result-in-Entry c =
    let most = c.requires.short in
    let size = ap (λ (f : Frame). length (frame_body (frame_value f))) c.in-Entry.is ∙ entry_size c.in-Entry.field-0 (transaction_value c.in-Entry.transaction) in
    let same = ap (total spelled_update) c.as_slice-in-Entry.ensures in
    let updates = c.updates_length.ensures in
    omega arith

pub returns-in-Hello : goal.returns-in-Hello
returns-in-Hello c =
    let size = ap (λ (f : Frame). length (frame_body (frame_value f))) c.in-Hello.is ∙ hello_size c.in-Hello.version c.in-Hello.name (history_value c.in-Hello.history) in
    let same = ap (total spelled_reign) c.as_slice.ensures in
    let name = c.len.ensures in
    let reigns = c.reigns_length.ensures in
    omega arith

pub returns-in-Entry : goal.returns-in-Entry
returns-in-Entry c =
    let size = ap (λ (f : Frame). length (frame_body (frame_value f))) c.in-Entry.is ∙ entry_size c.in-Entry.field-0 (transaction_value c.in-Entry.transaction) in
    let same = ap (total spelled_update) c.as_slice-in-Entry.ensures in
    let updates = c.updates_length.ensures in
    omega arith
