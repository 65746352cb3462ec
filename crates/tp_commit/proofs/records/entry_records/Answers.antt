use Rattle.std.proofs.Common.{◌≡◌, ◌<◌, ◌≤◌, ◌^◌, ℕ, List, [], map, take, length, get_or, Option, None, sym, ◌∙◌, ap, subst, arith}
use Rattle.std.proofs.lemmas.List.{take-map, length-take-le}
use Rattle.std.specs.Prelude.{nat_lt}
use Rattle.global_defs.specs.declared.limits.TheConstants.{MOST_REGIONS}
use Rattle.global_defs.specs.Entry.{Update, Item, Transaction}
use Rattle.gvn_model.specs.Entries.{transaction_value}
use Rattle.journal_defs.specs.Journal.{JournalRecord}
use Rattle.journal_defs.specs.Fit.{key_of, region_of_update}
use Rattle.journal_defs.specs.Sequence.{REGIONS}
use Rattle.journal_defs.specs.Split.{split, mask_of, items_for, with_items}
use Rattle.journal_laws.proofs.Masks.{below}
use Rattle.tp_commit.specs.Parts.{recorded, mask_by}
use Rattle.tp_commit.proofs.Placing.{items_taken, none_past, at_taken, mask_same}
use Rattle.tp_commit.proofs.Ready.{ready}
use Rattle.tp_commit.proofs.records.entry_records.Goals as goal

-- the mask of the lists of all regions that there are
mask_is : (region : Update → ℕ) (bound : ℕ) (us : List Update) → bound ≤ MOST_REGIONS → ((u : Update) → region u < bound) → mask_by (take bound (map (λ r. items_for region r us) REGIONS)) ≡ mask_of region us
mask_is region bound us few low =
    mask_same (λ r. nat_lt 0 (length (get_or (take bound (map (λ r. items_for region r us) REGIONS)) r []))) (λ r. nat_lt 0 (length (items_for region r us)))
    (λ r inside. ap (λ (l : List Item). nat_lt 0 (length l)) (items_taken region bound us few low r inside))

-- the records of these lists
records_are : (region : Update → ℕ) (n mask bound : ℕ) (t : Transaction)
    → map (λ (xs : List Item). recorded (with_items n mask t xs)) (take bound (map (λ r. items_for region r t.updates) REGIONS)) ≡ take bound (map (λ r. recorded (split region n mask t r)) REGIONS)
records_are region n mask bound t = sym (take-map (λ (xs : List Item). recorded (with_items n mask t xs)) bound (map (λ r. items_for region r t.updates) REGIONS))

pub mask_by-mask-requires : goal.mask_by-mask-requires
mask_by-mask-requires c =
    let lists = map (λ r. items_for (region_of_update c.args.directory.now.patterns) r (transaction_value c.args.t.now).updates) REGIONS in
    let few = c.regions.ensures.few in
    let long = ap length (c.deref.ensures.value ∙ c.in_ok-lists.ensures) ∙ length-take-le c.regions.result lists few in
    omega (arith, long, few)

pub invariant_of-result : goal.invariant_of-result
invariant_of-result c =
    let region = region_of_update c.args.directory.now.patterns in
    let t = transaction_value c.args.t.now in
    let bound = c.regions.result in
    let mask = c.mask_by-mask.result in
    let is_mask : mask ≡ mask_of region t.updates = c.mask_by-mask.ensures ∙ ap mask_by (c.deref.ensures.value ∙ c.in_ok-lists.ensures) ∙ mask_is region bound t.updates c.regions.ensures.few (λ u. c.regions.ensures.there (key_of u).name) in
    let low : mask < 2 ^ 8 = subst (λ (m : ℕ). m < 2 ^ 8) (sym is_mask) (below region t.updates) in
    ready region c.args.number mask t (take bound REGIONS) c.in_ok-records.records.items c.requires.number low c.requires.form
    (c.in_ok-records.ensures ∙ ap (map (λ (xs : List Item). recorded (with_items c.args.number mask t xs))) c.in_ok-lists.ensures ∙ records_are region c.args.number mask bound t ∙ take-map (λ r. recorded (split region c.args.number mask t r)) bound REGIONS)

pub returns-clause-mask : goal.returns-clause-mask
returns-clause-mask c =
    let region = region_of_update c.args.directory.now.patterns in
    let us = (transaction_value c.args.t.now).updates in
    c.mask_by-mask.ensures ∙ ap mask_by (c.deref.ensures.value ∙ c.in_ok-lists.ensures) ∙ mask_is region c.regions.result us c.regions.ensures.few (λ u. c.regions.ensures.there (key_of u).name)

pub returns-clause-each : goal.returns-clause-each
returns-clause-each c r inside =
    let region = region_of_update c.args.directory.now.patterns in
    let t = transaction_value c.args.t.now in
    let bound = c.regions.result in
    let mask = c.mask_by-mask.result in
    let low : (u : Update) → region u < bound = λ u. c.regions.ensures.there (key_of u).name in
    let is_mask : mask ≡ mask_of region t.updates = c.mask_by-mask.ensures ∙ ap mask_by (c.deref.ensures.value ∙ c.in_ok-lists.ensures) ∙ mask_is region bound t.updates c.regions.ensures.few low in
    let part = λ (r : ℕ). recorded (split region c.args.number mask t r) in
    ap (λ (l : List (Option JournalRecord)). get_or l r None) (c.in_ok-records.ensures ∙ ap (map (λ (xs : List Item). recorded (with_items c.args.number mask t xs))) c.in_ok-lists.ensures ∙ records_are region c.args.number mask bound t)
    ∙ at_taken part None bound r c.regions.ensures.few inside (λ past. ap (λ (xs : List Item). recorded (with_items c.args.number mask t xs)) (none_past region bound 0 r t.updates low past))
    ∙ ap (λ (m : ℕ). recorded (split region c.args.number m t r)) is_mask
