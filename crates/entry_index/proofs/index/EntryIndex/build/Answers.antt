use Rattle.std.proofs.Common.{rules, ◌≡◌, ◌≤◌, ◌+◌, ◌*◌, ℕ, List, length, map, Bool, Option, None, IfSome, IsErrOf, sym, ◌∙◌, ap, subst, arith, if◌then◌else◌}
use Rattle.std.proofs.lemmas.List.{length-map}
use Rattle.disk_defs.proofs.Frames.{reads_more}
use Rattle.disk_defs.proofs.Told.{told_at, weaker_told, both_weak}
use Rattle.jnl_file.proofs.Newer.{all_told}
use Rattle.gvn_model.specs.Reigns.{reign_value}
use Rattle.global_defs.specs.Entry.{Reign, Sequence}
use Rattle.journal_defs.specs.Journal.{Part}
use Rattle.journal_defs.specs.Sequence.{Records, Placed, part_of, parts, IsSequence}
use Rattle.journal_defs.specs.Surviving as surviving
use Rattle.mupip_recover.specs.Stamps.{AreStarts}
use Rattle.entry_index.specs.declared.signed_part.PartSign.{PartSign}
use Rattle.entry_index.specs.Signs.{last_sign, signs_of}
use Rattle.entry_index.specs.Table.{AreSigned, row_sign, AddsRow}
use Rattle.entry_index.specs.Indexes.{AreSigns, Indexes, IsNext}
use Rattle.entry_index.specs.declared.error.IndexError.TheVariants.{NotAFile}
use Rattle.entry_index.proofs.Counting.{length-numbers_of}
use Rattle.entry_index.proofs.Rows.{rows_more}
use Rattle.entry_index.proofs.Signed.{signed, none_past}
use Rattle.entry_index.proofs.Runs.{IsRun, no_rows, row_added, run_ended, whole_run, next_by_signs}
use Rattle.entry_index.proofs.index.EntryIndex.build.Goals as goal
use Rattle.entry_index.specs.Parts.{InFiles}
use Rattle.entry_index.proofs.PlacedParts.{none_placed, placed_more, placed_same}
use Rattle.entry_index.specs.Completing.{place_told}

pub loop-place-init : goal.loop-place-init
loop-place-init g c =
    let a = c.args in
    record {
      regions = search rules;
      many = search rules;
      placed = none_placed a.instance.now (map (λ s. s.items) a.signs.now) _ (search rules);
      run = all_told (g.D.Disk.disk a.disk.now).content
          (λ files. (records : ℕ → List Placed) → AreSigns files (map (λ s. s.items) a.signs.now) records → IsRun files (record { instance = a.instance.now; journal = records }) _ 0)
          (λ files records are. no_rows files (record { instance = a.instance.now; journal = records }) _ (search rules));
      reads = search rules;
      faults = omega arith;
    }

pub loop-place-preserved : goal.loop-place-preserved
loop-place-preserved g c =
    let view = g.D.Disk.disk in
    let a = c.args in
    let l = c.loop-place in
    let inv = l.invariant in
    let o = (view a.disk.now).content in
    let n = l.place + 1 in
    let rs = map reign_value c.as_slice-reigns.result.now in
    let starts : AreStarts rs c.deref-in-loop-place.result.now = search rules in
    let row = c.deref.result.now in
    let signs = map (λ s. s.items) a.signs.now in
    let filled : row ≡ c.fill.new.row.items = search rules in
    let told : (r : ℕ) → row_sign row r ≡ last_sign a.instance.now n (signs_of signs r) =
    λ r. ap (λ (l : List (Option PartSign)). row_sign l r) filled ∙ c.in_ok-fill.ensures r ∙ c.in_ok-table.ensures.parts a.instance.now c.in_ok-cuts.ensures l.place r (omega arith) in
    let made = c.add_row.new.made in
    let old = l.made.places.items in
    let new = made.places.items in
    let more = c.in_ok-more.more in
    let added : IfSome o (λ files. (part : ℕ → Option Part) → AreSigned files row n part → ((r : ℕ) → l.made.regions ≤ r → part r ≡ None) → (ks : List Reign) → AreStarts ks c.deref-in-loop-place.result.now → IsNext files ks n part more old new) =
    told_at o (view l.disk).content (λ files. (part : ℕ → Option Part) → AreSigned files row n part → ((r : ℕ) → l.made.regions ≤ r → part r ≡ None) → (ks : List Reign) → AreStarts ks c.deref-in-loop-place.result.now → IsNext files ks n part more old new) inv.reads.content c.in_ok-more.ensures.added in
    let many : length new ≡ length old + l.made.regions = c.in_ok-more.ensures.many ∙ ap (λ (b : Bool). if b then length old + l.made.regions else length old) c.if-not-more.false in
    let adds = subst (λ (b : Bool). AddsRow row l.made.regions b old new) c.if-not-more.false c.in_ok-more.ensures.row in
    record {
      regions = c.add_row.ensures.regions ∙ inv.regions;
      many = many ∙ ap (λ (k : ℕ). k + l.made.regions) inv.many ∙ rows_more l.made.regions l.place ∙ ap (λ (k : ℕ). k * n) (sym c.add_row.ensures.regions);
      placed = placed_more a.instance.now signs l.made made adds.0 l.place c.add_row.ensures.regions adds.1 adds.2 inv.many
          (λ r low. adds.3 r low ∙ ap place_told (told r)) inv.placed;
      run = both_weak o (λ files. (records : ℕ → List Placed) → AreSigns files signs records → IsRun files (record { instance = a.instance.now; journal = records }) l.made l.place)
          (λ files. (part : ℕ → Option Part) → AreSigned files row n part → ((r : ℕ) → l.made.regions ≤ r → part r ≡ None) → (ks : List Reign) → AreStarts ks c.deref-in-loop-place.result.now → IsNext files ks n part more old new)
          (λ files. (records : ℕ → List Placed) → AreSigns files signs records → IsRun files (record { instance = a.instance.now; journal = records }) made n)
          inv.run added (λ files run next records are.
          let s : Records = record { instance = a.instance.now; journal = records } in
          row_added files s l.made made l.place (run records are) c.add_row.ensures.regions many
          (subst (λ (b : Bool). IsNext files (surviving.reigns a.instance.now) n (parts s n) b old new) c.if-not-more.false
          (next_by_signs files signs records a.instance.now rs l.made.regions l.place (row_sign row) more old new are (c.as_slice-reigns.ensures ∙ c.requires.history) (inv.regions ∙ sym (length-map a.signs.now (λ s. s.items)))
          told (λ part at past. next part at past rs starts))));
      reads = reads_more (view a.disk.now) (view l.disk) (view c.add_row.new.disk) (g.met.D.Disk.lawful a.disk.now) inv.reads c.add_row.ensures.reads;
      faults = omega (arith, inv.faults, c.add_row.ensures.faults.later);
    }

pub returns-then-not-more-clause-sequence : goal.returns-then-not-more-clause-sequence
returns-then-not-more-clause-sequence g c =
    let view = g.D.Disk.disk in
    let a = c.args in
    let l = c.loop-place in
    let inv = l.invariant in
    let o = (view a.disk.now).content in
    let n = l.place + 1 in
    let rs = map reign_value c.as_slice-reigns.result.now in
    let starts : AreStarts rs c.deref-in-loop-place.result.now = search rules in
    let row = c.deref.result.now in
    let signs = map (λ s. s.items) a.signs.now in
    let filled : row ≡ c.fill.new.row.items = search rules in
    let told : (r : ℕ) → row_sign row r ≡ last_sign a.instance.now n (signs_of signs r) =
    λ r. ap (λ (l : List (Option PartSign)). row_sign l r) filled ∙ c.in_ok-fill.ensures r ∙ c.in_ok-table.ensures.parts a.instance.now c.in_ok-cuts.ensures l.place r (omega arith) in
    let made = c.add_row.new.made in
    let old = l.made.places.items in
    let new = made.places.items in
    let more = c.in_ok-more.more in
    let added : IfSome o (λ files. (part : ℕ → Option Part) → AreSigned files row n part → ((r : ℕ) → l.made.regions ≤ r → part r ≡ None) → (ks : List Reign) → AreStarts ks c.deref-in-loop-place.result.now → IsNext files ks n part more old new) =
    told_at o (view l.disk).content (λ files. (part : ℕ → Option Part) → AreSigned files row n part → ((r : ℕ) → l.made.regions ≤ r → part r ≡ None) → (ks : List Reign) → AreStarts ks c.deref-in-loop-place.result.now → IsNext files ks n part more old new) inv.reads.content c.in_ok-more.ensures.added in
    both_weak o (λ files. (records : ℕ → List Placed) → AreSigns files signs records → IsRun files (record { instance = a.instance.now; journal = records }) l.made l.place)
    (λ files. (part : ℕ → Option Part) → AreSigned files row n part → ((r : ℕ) → l.made.regions ≤ r → part r ≡ None) → (ks : List Reign) → AreStarts ks c.deref-in-loop-place.result.now → IsNext files ks n part more old new)
    (λ files. (records : ℕ → List Placed) → AreSigns files signs records → (seq : Sequence) × IsSequence (record { instance = a.instance.now; journal = records }) seq × Indexes (InFiles files) (surviving.reigns a.instance.now) made seq)
    inv.run added (λ files run next records are.
    let s : Records = record { instance = a.instance.now; journal = records } in
    run_ended files s l.made made l.place (run records are) c.add_row.ensures.regions
    (subst (λ (b : Bool). IsNext files (surviving.reigns a.instance.now) n (parts s n) b old new) c.if-not-more.true
    (next_by_signs files signs records a.instance.now rs l.made.regions l.place (row_sign row) more old new are (c.as_slice-reigns.ensures ∙ c.requires.history) (inv.regions ∙ sym (length-map a.signs.now (λ s. s.items)))
    told (λ part at past. next part at past rs starts))))

pub returns-then-not-more-clause-rows : goal.returns-then-not-more-clause-rows
returns-then-not-more-clause-rows g c =
    let l = c.loop-place in
    let old = length l.made.places.items in (
      l.place,
      c.in_ok-more.ensures.many ∙ ap (λ (b : Bool). if b then old + l.made.regions else old) c.if-not-more.true ∙ l.invariant.many ∙ ap (λ (k : ℕ). k * l.place) (sym c.add_row.ensures.regions),
    )

pub returns-in_err-more-clause-outside : goal.returns-in_err-more-clause-outside
returns-in_err-more-clause-outside g c file offset is =
    let view = g.D.Disk.disk in
    let a = c.args in
    let l = c.loop-place in
    let inv = l.invariant in
    let o = (view a.disk.now).content in
    let n = l.place + 1 in
    let row = c.deref.result.now in
    let signs = map (λ s. s.items) a.signs.now in
    let filled : row ≡ c.fill.new.row.items = search rules in
    let told : (r : ℕ) → row_sign row r ≡ last_sign a.instance.now n (signs_of signs r) =
    λ r. ap (λ (l : List (Option PartSign)). row_sign l r) filled ∙ c.in_ok-fill.ensures r ∙ c.in_ok-table.ensures.parts a.instance.now c.in_ok-cuts.ensures l.place r (omega arith) in
    let failed : IsErrOf c.add_row.result (NotAFile file offset) = search (rules, is) in
    weaker_told o (λ files. (part : ℕ → Option Part) → AreSigned files row n part → ((r : ℕ) → l.made.regions ≤ r → part r ≡ None) → ⊥) (λ files. (records : ℕ → List Placed) → AreSigns files signs records → ⊥)
    (told_at o (view l.disk).content (λ files. (part : ℕ → Option Part) → AreSigned files row n part → ((r : ℕ) → l.made.regions ≤ r → part r ≡ None) → ⊥) inv.reads.content (c.add_row.ensures.outside file offset failed))
    (λ files none records are. none (λ r. part_of a.instance.now n (records r))
    (signed files signs records a.instance.now n (row_sign row) are told)
    (λ r past. none_past files signs records a.instance.now n are r (omega (arith, past, inv.regions, length-map a.signs.now (λ s. s.items)))))

pub returns-clause-sequence : goal.returns-clause-sequence
returns-clause-sequence g c =
    let a = c.args in
    let l = c.loop-place in
    let inv = l.invariant in
    let k = length a.signs.now in
    let signs = map (λ s. s.items) a.signs.now in
    let wide : length signs ≡ k = length-map a.signs.now (λ s. s.items) in
    let all : l.place ≡ c.in-Some.places = omega arith in
    weaker_told (g.D.Disk.disk a.disk.now).content (λ files. (records : ℕ → List Placed) → AreSigns files signs records → IsRun files (record { instance = a.instance.now; journal = records }) l.made l.place)
    (λ files. (records : ℕ → List Placed) → AreSigns files signs records → (seq : Sequence) × IsSequence (record { instance = a.instance.now; journal = records }) seq × Indexes (InFiles files) (surviving.reigns a.instance.now) l.made seq)
    inv.run (λ files run records are.
    whole_run files (record { instance = a.instance.now; journal = records }) l.made l.place k (λ r past. are.no_more r (omega (arith, past, wide)))
    (all ∙ c.in-Some.ensures ∙ length-numbers_of files (λ s. s.items) records a.signs.now are wide) (run records are))

pub returns-clause-rows : goal.returns-clause-rows
returns-clause-rows g c = (c.loop-place.place, c.loop-place.invariant.many)

pub returns-then-not-more-clause-placed : goal.returns-then-not-more-clause-placed
returns-then-not-more-clause-placed g c =
    let l = c.loop-place in
    let made = c.add_row.new.made in
    let same : made.places.items ≡ l.made.places.items = subst (λ (b : Bool). AddsRow c.deref.result.now l.made.regions b l.made.places.items made.places.items) c.if-not-more.true c.in_ok-more.ensures.row in
    placed_same c.args.instance.now (map (λ s. s.items) c.args.signs.now) l.made made c.add_row.ensures.regions same l.invariant.placed
