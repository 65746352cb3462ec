-- A site that was opened and closed.
use Rattle.std.proofs.Common.{inl, inr, Bool, length, Option, IfSome, true, subst}
use Rattle.disk_defs.specs.Disk.{Files, View, IsLawful, AtEachMoment}
use Rattle.disk_defs.proofs.Told.{weaker_told, both_weak}
use Rattle.disk_defs.proofs.Moments.{weaker, then_more}
use Rattle.site_defs.specs.Behind.{IsSiteWith}
use Rattle.site_defs.specs.Contents.{Contents, Leftover, Standing, bare}
use Rattle.site_defs.specs.Epochs.{marked, MayMark, MayMarkLeft}
use Rattle.site_defs.specs.Forward.{opened_as, recovered_as, MayOpenAs, MayRecoverAs}
use Rattle.site_defs.specs.Stands.{IsSite, HasLeft}
use Rattle.site_store.specs.declared.memory.Memory.{Memory}
use Rattle.site_store.specs.Opening.{EachStands, MayBeOpenAs, MayBeOpenWithAs}
use Rattle.site_store.specs.Site.{IsOpen}
use Rattle.mupip_rollback.specs.Rolling.{StandsFor, MayBeRecoveredAs, MayBeRecoveredWithAs}
use Rattle.mupip_rollback.proofs.Sites.{one_site, one_standing, some_left, standing_of}
use Rattle.site_store.proofs.Loaded.{Moments, Lefts}

abbrev pub StandsOpen : (anew : Bool) → Option Files → Files → Type 0
StandsOpen anew now files = (c : Contents) (left : Leftover) → IsSite files c → HasLeft files c left → IfSome now (λ f. (o : Contents) × MayOpenAs anew left.broken c o × IsSite f o)

abbrev pub Opens : (anew : Bool) → View → View → Memory → Files → Type 0
Opens anew u v s files = (c : Contents) (left : Leftover) → IsSite files c → HasLeft files c left → EachStands u → IsOpen v true (opened_as anew left.broken c) (length c.sequence) s

-- and of both
abbrev pub Recovering : (anew : Bool) → View → View → Files → Type 0
Recovering anew u w files = (c : Contents) (left : Leftover) → IsSite files c → HasLeft files c left → EachStands u → AtEachMoment u w (MayBeRecoveredAs anew u left.broken)

abbrev pub RecoveringWith : (anew : Bool) → View → View → Files → Type 0
RecoveringWith anew u w files = (c : Contents) → IsSite files c → EachStands u → AtEachMoment u w (MayBeRecoveredWithAs anew u)

abbrev pub StandsRecovered : (anew : Bool) → View → Option Files → Files → Type 0
StandsRecovered anew u now files =
    (c : Contents) (left : Leftover) → IsSite files c → HasLeft files c left → EachStands u → IfSome now (λ f. (o : Contents) × MayRecoverAs anew left.broken c o × IsSite f o)

module _ (anew : Bool) (u v : View) where
  pub opening : IfSome u.content (Moments anew u v) → IfSome u.content (Recovering anew u v)
  opening run = weaker_told u.content (Moments anew u v) (Recovering anew u v) run (λ files m c left is has each.
      weaker u v (MayBeOpenAs anew u left.broken) (MayBeRecoveredAs anew u left.broken) (λ f q. (q.0, q.1, λ d was. let r = q.2 d was in (r.0, inl r.1, r.2))) (m c left is has))

  pub opening_with : IfSome u.content (Lefts anew u v) → IfSome u.content (RecoveringWith anew u v)
  opening_with run = weaker_told u.content (Lefts anew u v) (RecoveringWith anew u v) run (λ files m c is each.
      weaker u v (MayBeOpenWithAs anew u) (MayBeRecoveredWithAs anew u) (λ f q. (q.0, q.1, λ s was. let r = q.2 s was in (r.0, inl r.1, r.2))) (m c is))

  pub stands_opened : (now : Option Files) → IfSome u.content (StandsOpen anew now) → IfSome u.content (StandsRecovered anew u now)
  stands_opened now reads = weaker_told u.content (StandsOpen anew now) (StandsRecovered anew u now) reads (λ files m c left is has each.
      weaker_told now (λ f. (o : Contents) × MayOpenAs anew left.broken c o × IsSite f o) (λ f. (o : Contents) × MayRecoverAs anew left.broken c o × IsSite f o) (m c left is has) (λ f r. (r.0, inl r.1, r.2)))

  module _ (w : View) (s : Memory) (lawful : IsLawful u) (open_now : IfSome u.content (Opens anew u v s)) where
    abbrev Here : Files → Type 0
    Here files = u.since u.moment files

    pub closing : ((c : Contents) → IsOpen v true c (length c.sequence) s → AtEachMoment v w (λ f. (o : Contents) × MayMark c o × IsSite f o)) → IfSome u.content (Moments anew u v) → IfSome u.content (Recovering anew u w)
    closing epoch run =
        both_weak u.content (λ files. Moments anew u v files) (λ files. Here files × Opens anew u v s files) (Recovering anew u w) run
        (both_weak u.content Here (Opens anew u v s) (λ files. Here files × Opens anew u v s files) lawful.as_read open_now (λ files here o. (here, o)))
        (λ files m both c left is has each.
        then_more u v w (MayBeRecoveredAs anew u left.broken) (λ f. (o : Contents) × MayMark (opened_as anew left.broken c) o × IsSite f o)
        (weaker u v (MayBeOpenAs anew u left.broken) (MayBeRecoveredAs anew u left.broken) (λ f q. (q.0, q.1, λ d was. let r = q.2 d was in (r.0, inl r.1, r.2))) (m c left is has))
        (epoch (opened_as anew left.broken c) (both.1 c left is has each))
        (λ f q. (files, both.0, λ d was. (q.0, inr (subst (λ (x : Contents). MayMark (opened_as anew left.broken x) q.0) (one_site files c d is was) q.1), q.2))))

    pub closing_with : ((c : Contents) → IsOpen v true c (length c.sequence) s → AtEachMoment v w (λ f. (o : Standing) × MayMarkLeft (bare c) o × IsSiteWith f o)) → IfSome u.content (Lefts anew u v) → IfSome u.content (RecoveringWith anew u w)
    closing_with epoch run =
        both_weak u.content (λ files. Lefts anew u v files) (λ files. Here files × Opens anew u v s files) (RecoveringWith anew u w) run
        (both_weak u.content Here (Opens anew u v s) (λ files. Here files × Opens anew u v s files) lawful.as_read open_now (λ files here o. (here, o)))
        (λ files m both c is each.
        let left = some_left files c is in
        then_more u v w (MayBeRecoveredWithAs anew u) (λ f. (o : Standing) × MayMarkLeft (bare (opened_as anew left.0.broken c)) o × IsSiteWith f o)
        (weaker u v (MayBeOpenWithAs anew u) (MayBeRecoveredWithAs anew u) (λ f q. (q.0, q.1, λ t was. let r = q.2 t was in (r.0, inl r.1, r.2))) (m c is))
        (epoch (opened_as anew left.0.broken c) (both.1 c left.0 is left.1 each))
        (λ f q. (files, both.0, λ t was. (q.0, inr (subst (λ (x : Standing). MayMarkLeft (bare (opened_as anew x.broken x.contents)) q.0) (one_standing files c left.0 t is left.1 was) q.1), standing_of f q.0 q.2))))

    pub stands_closing : ((c : Contents) → IsOpen v true c (length c.sequence) s → IfSome w.content (λ f. (o : Contents) × MayMark c o × IsSite f o)) → IfSome u.content (StandsRecovered anew u w.content)
    stands_closing epoch = weaker_told u.content (Opens anew u v s) (StandsRecovered anew u w.content) open_now (λ files o c left is has each.
        weaker_told w.content (λ f. (x : Contents) × MayMark (opened_as anew left.broken c) x × IsSite f x) (λ f. (x : Contents) × MayRecoverAs anew left.broken c x × IsSite f x)
        (epoch (opened_as anew left.broken c) (o c left is has each)) (λ f r. (r.0, inr r.1, r.2)))

    pub closed : ((c : Contents) → IsOpen v true c (length c.sequence) s → StandsFor w (marked c))
        → IfSome u.content (λ files. (c : Contents) (left : Leftover) → IsSite files c → HasLeft files c left → EachStands u → StandsFor w (recovered_as anew left.broken c))
    closed done = weaker_told u.content (Opens anew u v s) (λ files. (c : Contents) (left : Leftover) → IsSite files c → HasLeft files c left → EachStands u → StandsFor w (recovered_as anew left.broken c)) open_now
        (λ files o c left is has each. done (opened_as anew left.broken c) (o c left is has each))
