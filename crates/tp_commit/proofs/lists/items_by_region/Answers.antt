use Rattle.std.proofs.Common.{◌≡◌, ◌<◌, ◌++◌, ◌∷◌, [], ℕ, List, length, map, take, set, get_or, sym, ◌∙◌, ap, subst, arith}
use Rattle.std.proofs.lemmas.List.{take-replicate, length-take-le}
use Rattle.global_defs.specs.declared.limits.TheConstants.{MOST_REGIONS}
use Rattle.global_defs.specs.Entry.{Update, Item}
use Rattle.gvn_key.specs.Terms.{update_value}
use Rattle.journal_defs.specs.Directory.{region_of}
use Rattle.journal_defs.specs.Fit.{region_of_update}
use Rattle.journal_defs.specs.Sequence.{REGIONS}
use Rattle.journal_defs.specs.Split.{items_for}
use Rattle.tp_commit.proofs.Placing.{lists_more, put_taken, one_longer, length_taken}
use Rattle.tp_commit.proofs.lists.items_by_region.Goals as goal

-- an item more in the list of a region
abbrev put : ℕ → List (List Item) → ℕ → Update → List (List Item)
put i lists k u = set lists k (get_or lists k [] ++ record { position = i; update = u } ∷ [])

pub loop-i-init : goal.loop-i-init
loop-i-init c = c.in_ok-lists.ensures ∙ sym (take-replicate c.args.count 8 [] c.requires.few)

pub push_item-requires : goal.push_item-requires
push_item-requires c =
    let region = region_of_update c.args.directory.now.patterns in
    let us : List Update = map update_value (take c.loop-i.i c.as_slice-list.result.now) in
    let long = ap length c.loop-i.invariant ∙ length-take-le c.args.count (map (λ r. items_for region r us) REGIONS) c.requires.few in
    omega (arith, long, c.from.ensures, c.region_of-region.ensures.there, c.requires.all)

pub loop-i-preserved : goal.loop-i-preserved
loop-i-preserved c =
    let xs = c.as_slice-list.result.now in
    let i = c.loop-i.i in
    let n = c.args.count in
    let region = region_of_update c.args.directory.now.patterns in
    let u : Update = update_value c.index-list-i.result in
    let us : List Update = map update_value (take i xs) in
    let lists : List (List Item) = map (λ r. items_for region r us) REGIONS in
    let inside : i < length xs = omega (arith, c.loop-i-test.true) in
    let here : c.region_of-region.result ≡ region u = c.region_of-region.ensures.value ∙ ap (region_of c.args.directory.now.patterns) c.name_of.ensures in
    let there : region u < n = subst (λ (r : ℕ). r < n) here (omega (arith, c.region_of-region.ensures.there, c.requires.all)) in
    let low : region u < MOST_REGIONS = omega (arith, there, c.requires.few) in
    let place : c.from.result ≡ region u = c.from.ensures ∙ here in
    let copied = c.in_ok-copy_update.ensures in
    c.in_ok-push_item.ensures
    ∙ ap (λ (l : List (List Item)). put i l c.from.result (update_value c.in_ok-copy_update.field-0)) c.loop-i.invariant
    ∙ ap (λ (k : ℕ). put i (take n lists) k (update_value c.in_ok-copy_update.field-0)) place
    ∙ ap (λ (v : Update). put i (take n lists) (region u) v) copied
    ∙ put_taken n (region u) lists (record { position = i; update = u }) there
    ∙ ap (take n) (lists_more region us u i (length_taken update_value xs i inside) low
    ∙ ap (λ (vs : List Update). map (λ r. items_for region r vs) REGIONS) (sym (one_longer update_value xs i c.index-list-i.result inside c.index-list-i.is)))
