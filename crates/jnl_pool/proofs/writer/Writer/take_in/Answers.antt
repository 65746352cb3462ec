use Rattle.std.proofs.Common.{ℕ, ◌≤◌, length, subst}
use Rattle.std.specs.Prelude.{All}
use Rattle.wire_defs.specs.PoolWords.{StartsWith, words_from}
use Rattle.pool_rule.specs.declared.views.View.{View}
use Rattle.pool_rule.specs.Rule.{Each, IsEntryBelow}
use Rattle.jnl_pool.specs.Pooling.{Writing, claimed, hard_count, IsHardenedEntry, IsNoteOf}
use Rattle.jnl_pool.proofs.Told.{all_of, hardened_entry, noted}
use Rattle.jnl_pool.proofs.writer.Writer.take_in.Goals as goal

pub returns-clause-got : goal.returns-clause-got
returns-clause-got c =
    let k = c.self.invariant in
    let v : View = c.self.inside.seat.view in
    let w : Writing = record { table = c.self.inside.seat.table; size = c.self.inside.size; first = c.self.inside.first; entries = v.entries; hardened = c.self.inside.hardened } in
    let got : Each (IsEntryBelow c.self.inside.first v.entries v.hardened) c.args.seat.view.got = subst (λ (n : ℕ). Each (IsEntryBelow n v.entries v.hardened) c.args.seat.view.got) k.same.1 c.join.ensures.got in
    let told : All (IsHardenedEntry w) c.args.seat.view.got = all_of (IsEntryBelow w.first v.entries v.hardened) (IsHardenedEntry w) (hardened_entry w v.hardened k.hardened_is.0) c.args.seat.view.got got in
    subst (λ (u : Writing). All (IsHardenedEntry u) c.args.seat.view.got) c.self.view_is told

pub returns-clause-notes : goal.returns-clause-notes
returns-clause-notes c =
    let v : View = c.self.inside.seat.view in
    let told : All (StartsWith v.entries) c.args.seat.view.notes = all_of (StartsWith v.entries) (StartsWith v.entries) (λ x p. p) c.args.seat.view.notes c.join.ensures.notes in
    subst (λ (u : Writing). All (StartsWith u.entries) c.args.seat.view.notes) c.self.view_is told

pub returns-clause-noted : goal.returns-clause-noted
returns-clause-noted c =
    let v : View = c.self.inside.seat.view in
    let w : Writing = record { table = c.self.inside.seat.table; size = c.self.inside.size; first = c.self.inside.first; entries = v.entries; hardened = c.self.inside.hardened } in
    let told : All (IsNoteOf w) c.args.seat.view.notes = all_of (StartsWith v.entries) (IsNoteOf w) (noted w) c.args.seat.view.notes c.join.ensures.notes in
    subst (λ (u : Writing). All (IsNoteOf u) c.args.seat.view.notes) c.self.view_is told

pub returns-clause-counts : goal.returns-clause-counts
returns-clause-counts c =
    let k = c.self.invariant in
    let v : View = c.self.inside.seat.view in
    let w : Writing = record { table = c.self.inside.seat.table; size = c.self.inside.size; first = c.self.inside.first; entries = v.entries; hardened = c.self.inside.hardened } in
    let told = c.join.ensures.counts in
    let are : (c.args.seat.view.hardened ≤ hard_count w) × (c.args.seat.view.hard ≤ hard_count w) × (c.args.seat.view.claim ≤ claimed w) = (
      subst (λ (n : ℕ). c.args.seat.view.hardened ≤ n) k.hardened_is.0 told.0,
      subst (λ (n : ℕ). c.args.seat.view.hard ≤ n) k.hardened_is.0 told.1,
      subst (λ (n : ℕ). c.args.seat.view.claim ≤ length (words_from n v.entries)) k.same.1 told.2,
    ) in
    subst (λ (u : Writing). (c.args.seat.view.hardened ≤ hard_count u) × (c.args.seat.view.hard ≤ hard_count u) × (c.args.seat.view.claim ≤ claimed u)) c.self.view_is are
