use Rattle.std.proofs.Common.{ℕ, ◌<◌, List, [], ◌∷◌, ◌++◌, sym, ◌∙◌, ap, subst}
use Rattle.std.specs.List.{AllByRecursion}
use Rattle.journal_defs.specs.Directory.{Pattern, patterns}
use Rattle.instance_file.specs.Values.{record_value}
use Rattle.site_files.proofs.Mapped.{patterns_more, all_in, all_more}
use Rattle.site_files.proofs.mapping.mapped.Goals as goal

pub returns-then-not-branch-clause-fits : goal.returns-then-not-branch-clause-fits
returns-then-not-branch-clause-fits c =
    let l = c.loop-record in
    let x = c.record-item.result in
    let Fits = λ (n : ℕ). λ (p : Pattern). p.region < n in (
      λ wrong. absurd (cc (wrong)),
      λ all.
          let here = all_in (Fits c.args.regions) c.args.records.now l.record-index x c.loop-record-test.true c.record-item.is all in
          let same = subst (λ (n : ℕ). AllByRecursion (Fits n) (patterns (record_value x ∷ []))) (sym l.invariant.regions) here in
          sym c.if-not-branch.true ∙ c.in_ok-add_pattern.ensures.fits.1 same,
    )

pub loop-record-preserved : goal.loop-record-preserved
loop-record-preserved c =
    let l = c.loop-record in
    let x = c.record-item.result in
    let Fits = λ (n : ℕ). λ (p : Pattern). p.region < n in
    let call = c.in_ok-add_pattern.ensures in
    let here = subst (λ (n : ℕ). AllByRecursion (Fits n) (patterns (record_value x ∷ []))) l.invariant.regions (call.fits.0 c.if-not-branch.false) in
    record {
      regions = call.regions ∙ l.invariant.regions;
      patterns = call.patterns c.if-not-branch.false
          ∙ ap (λ (ps : List Pattern). ps ++ patterns (record_value x ∷ [])) l.invariant.patterns
          ∙ sym (patterns_more c.args.records.now l.record-index x c.loop-record-test.true c.record-item.is);
      fits = all_more (Fits c.args.regions) c.args.records.now l.record-index x c.loop-record-test.true c.record-item.is l.invariant.fits here;
    }
