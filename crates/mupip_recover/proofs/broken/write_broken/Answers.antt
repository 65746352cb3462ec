use Rattle.std.proofs.Common.{ℕ, List, [], ◌≡◌, ◌++◌, map, OnOk, ◌∙◌, ap, subst}
use Rattle.global_defs.specs.Region.{Region}
use Rattle.gvn_model.specs.Regions.{named_region}
use Rattle.journal_defs.specs.Instance.{site_name}
use Rattle.journal_defs.specs.Broken.{broken_text}
use Rattle.mupip_recover.specs.Broken.{broken_of}
use Rattle.mupip_recover.proofs.broken.write_broken.Goals as goal

pub returns-clause-ok : goal.returns-clause-ok
returns-clause-ok c =
    let instance = c.args.instance.now in
    let n = c.args.length in
    let journals = map (λ j. j.items) c.args.journals.now in
    let name = c.name-site.ensures in
    let all = c.regions.ensures in
    let text =
    c.as_slice.ensures ∙ c.in_ok-add_regions.ensures instance c.in_ok-cuts.ensures [] c.new-text.ensures
    ∙ ap (λ (s : List ℕ). broken_text s n (broken_of instance n journals (map named_region c.regions.result.now))) name
    ∙ ap (λ (rs : List Region). broken_text (site_name instance) n (broken_of instance n journals rs)) all in
    subst (λ (t : List ℕ). OnOk c.push_all.result (c.push_all.new.self ≡ c.args.out.now ++ t)) text c.push_all.ensures.ok
