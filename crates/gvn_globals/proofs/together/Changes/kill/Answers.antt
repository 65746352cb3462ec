use Rattle.std.proofs.Common.{◌≡◌, not, ap, subst, ◌∙◌}
use Rattle.std.specs.List.{list_all}
use Rattle.std.specs.FinMap as globals
use Rattle.global_defs.specs.Entry as defs
use Rattle.gvn_globals.specs.Overlaid.{overlaid, AreGone}
use Rattle.gvn_globals.specs.Together.{AreNoted}
use Rattle.gvn_globals.proofs.AllOrNone.{on_ok}
use Rattle.gvn_globals.proofs.Noted.{gone_noted, killed}
use Rattle.gvn_globals.proofs.together.Changes.kill.Goals as goal

pub note_all-requires : goal.note_all-requires
note_all-requires c = ap (list_all (defs.is_under c.args.top.now)) c.deref.ensures.value ∙ c.in_ok-below.ensures.under

pub returns-clause-made : goal.returns-clause-made
returns-clause-made c =
    let base = c.args.base.now in
    let sets = c.args.self.now.sets in
    let gone = c.args.self.now.gone in
    let now = c.note_all.new.gone in
    on_ok c.kill.result (c.kill.new.self ≡ globals.retain_keys sets (λ k. not (defs.is_under c.args.top.now k)))
    (overlaid base c.kill.new.self now ≡ globals.retain_keys (overlaid base sets gone) (λ k. not (defs.is_under c.args.top.now k)))
    (λ e. ap (λ s. overlaid base s now) e ∙ killed base gone now c.args.top.now c.in_ok-below.below.items c.in_ok-below.ensures
    (subst (λ ks. AreNoted gone c.args.top.now ks now) c.deref.ensures.value c.in_ok-note_all.ensures) sets) c.kill.ensures.ok

pub returns-clause-ends : goal.returns-clause-ends
returns-clause-ends c =
    let gone = c.args.self.now.gone in
    let now = c.note_all.new.gone in
    on_ok c.kill.result (c.kill.new.self ≡ globals.retain_keys c.args.self.now.sets (λ k. not (defs.is_under c.args.top.now k))) (AreGone c.args.base.now now)
    (λ e. gone_noted c.args.base.now gone now c.args.top.now c.in_ok-below.below.items c.in_ok-below.ensures
    (subst (λ ks. AreNoted gone c.args.top.now ks now) c.deref.ensures.value c.in_ok-note_all.ensures) c.requires) c.kill.ensures.ok
