-- A site is prepared for a rollback, and rolled back.
use Rattle.std.proofs.Common.{◌≡◌, inl, inr, ℕ, List, length, min, Option, Some, None, IfSome, refl, sym, ap, subst, arith}
use Rattle.disk_defs.specs.Disk.{Files, View, Image, IsLawful, AtEachMoment}
use Rattle.disk_defs.proofs.Told.{weaker_told, both_weak, told_at}
use Rattle.disk_defs.proofs.Moments.{weaker, then_more, holds_now}
use Rattle.site_defs.specs.Contents.{Contents, Leftover, Standing}
use Rattle.site_defs.specs.Rolling.{rolled, MayRollBack, MayRollBackLeft}
use Rattle.site_defs.specs.Stands.{IsSite, HasLeft}
use Rattle.site_store.specs.Opening.{EachStands}
use Rattle.mupip_rollback.specs.Rolling.{StandsFor, MayStandRolled, MayBeRolledBack, MayBeRolledBackWith}
use Rattle.mupip_rollback.proofs.Sites.{one_site, one_standing, some_left}

-- what stands, without what lies behind it
bare_of : (t : ℕ) (s o : Standing) → MayRollBackLeft t s o → MayRollBack t s.broken s.contents o.contents
bare_of t s o (inl e) = inl (ap (λ (x : Standing). x.contents) e)
bare_of t s o (inr (inl lost)) = inr (inl (lost.0, lost.1, ap (λ (x : Standing). x.contents) lost.2))
bare_of t s o (inr (inr (inl begun))) = inr (inr (inl (begun.0, ap (λ (x : Standing). x.contents) begun.1)))
bare_of t s o (inr (inr (inr some))) = inr (inr (inr (some.0, ap (λ (x : Standing). x.contents) some.1)))

abbrev pub Rolling : View → View → (to : ℕ) → Files → Type 0
Rolling u z to files = (c : Contents) (left : Leftover) → IsSite files c → HasLeft files c left → EachStands u → AtEachMoment u z (MayBeRolledBack u to left.broken)

abbrev pub RollingWith : View → View → (to : ℕ) → Files → Type 0
RollingWith u z to files = (c : Contents) → IsSite files c → EachStands u → AtEachMoment u z (MayBeRolledBackWith u to)

module _ (u v : View) (to : ℕ) (synced : AtEachMoment u v (Image u)) where
  still : (b : List ℕ) → AtEachMoment u v (MayBeRolledBack u to b)
  still b = weaker u v (Image u) (MayBeRolledBack u to b) (λ f image. (f, image, λ c was. (c, inl refl, was))) synced

  still_with : AtEachMoment u v (MayBeRolledBackWith u to)
  still_with = weaker u v (Image u) (MayBeRolledBackWith u to) (λ f image. (f, image, λ s was. (s, inl refl, was))) synced

  any : (o : Option Files) (P : Files → Type 0) → ((f : Files) → P f) → IfSome o P
  any None P k = tt
  any (Some f) P k = k f

  pub quiet : IfSome u.content (Rolling u v to)
  quiet = any u.content (Rolling u v to) (λ files c left is has each. still left.broken)

  pub quiet_with : IfSome u.content (RollingWith u v to)
  quiet_with = any u.content (RollingWith u v to) (λ files c is each. still_with)

  module _ (z : View) (t count : ℕ) (t_is : t ≡ min to count) (broken : List ℕ) (lawful_u : IsLawful u) (lawful_z : IsLawful z) (same : v.content ≡ u.content)
      (site : IfSome u.content (λ files. (c : Contents) → IsSite files c → (count ≡ length c.sequence) × (EachStands u → (d : Files) → Image v d → IsSite d c)))
      (behind : IfSome u.content (λ files. (c : Contents) (left : Leftover) → IsSite files c → HasLeft files c left → left.broken ≡ broken)) where
    abbrev pub IsAll : Contents → Type 0
    IsAll c = (d : Files) → Image v d → IsSite d c

    abbrev pub Runs : Files → Type 0
    Runs files = (c : Contents) → IsAll c → AtEachMoment v z (MayStandRolled t (record { contents = c; broken = broken }))

    abbrev Known : Files → Type 0
    Known files = (u.since u.moment files) × ((c : Contents) → IsSite files c → (count ≡ length c.sequence) × (EachStands u → (d : Files) → Image v d → IsSite d c))
        × ((c : Contents) (left : Leftover) → IsSite files c → HasLeft files c left → left.broken ≡ broken)

    known : IfSome u.content Known
    known = both_weak u.content (λ files. u.since u.moment files)
        (λ files. ((c : Contents) → IsSite files c → (count ≡ length c.sequence) × (EachStands u → (d : Files) → Image v d → IsSite d c)) × ((c : Contents) (left : Leftover) → IsSite files c → HasLeft files c left → left.broken ≡ broken)) Known lawful_u.as_read
        (both_weak u.content (λ files. (c : Contents) → IsSite files c → (count ≡ length c.sequence) × (EachStands u → (d : Files) → Image v d → IsSite d c)) (λ files. (c : Contents) (left : Leftover) → IsSite files c → HasLeft files c left → left.broken ≡ broken)
        (λ files. ((c : Contents) → IsSite files c → (count ≡ length c.sequence) × (EachStands u → (d : Files) → Image v d → IsSite d c)) × ((c : Contents) (left : Leftover) → IsSite files c → HasLeft files c left → left.broken ≡ broken)) site behind (λ files a b. (a, b)))
        (λ files a b. (a, b.0, b.1))

    -- the target of these contents
    aim : (files : Files) → Known files → (c : Contents) → IsSite files c → t ≡ min to (length c.sequence)
    aim files k c is = let e = (k.1 c is).0 in omega (arith, t_is, e)

    -- with what lies behind the contents in the files as they read
    run_on : (files : Files) → Known files → Runs files → (c : Contents) (left : Leftover) → IsSite files c → HasLeft files c left → EachStands u
        → AtEachMoment v z (MayStandRolled (min to (length c.sequence)) (record { contents = c; broken = left.broken }))
    run_on files k runs c left is has each =
        subst (λ (b : List ℕ). AtEachMoment v z (MayStandRolled (min to (length c.sequence)) (record { contents = c; broken = b }))) (sym (k.2 c left is has))
        (subst (λ (m : ℕ). AtEachMoment v z (MayStandRolled m (record { contents = c; broken = broken }))) (aim files k c is) (runs c ((k.1 c is).1 each)))

    pub moments : IfSome v.content Runs → IfSome u.content (Rolling u z to)
    moments runs = both_weak u.content Known Runs (Rolling u z to) known (told_at u.content v.content Runs same runs) (λ files k r c left is has each.
        then_more u v z (MayBeRolledBack u to left.broken) (MayStandRolled (min to (length c.sequence)) (record { contents = c; broken = left.broken })) (still left.broken) (run_on files k r c left is has each)
        (λ f q. (
          files,
          k.0,
          λ d was. (
            q.0.contents,
            subst (λ (x : Contents). MayRollBack (min to (length x.sequence)) left.broken x q.0.contents) (one_site files c d is was) (bare_of (min to (length c.sequence)) (record { contents = c; broken = left.broken }) q.0 q.1),
            q.2.site,
          ),
        )))

    pub moments_with : IfSome v.content Runs → IfSome u.content (RollingWith u z to)
    moments_with runs = both_weak u.content Known Runs (RollingWith u z to) known (told_at u.content v.content Runs same runs) (λ files k r c is each.
        let left = some_left files c is in
        then_more u v z (MayBeRolledBackWith u to) (MayStandRolled (min to (length c.sequence)) (record { contents = c; broken = left.0.broken })) still_with (run_on files k r c left.0 is left.1 each)
        (λ f q. (files, k.0, λ s was. (q.0, subst (λ (x : Standing). MayRollBackLeft (min to (length x.contents.sequence)) x q.0) (one_standing files c left.0 s is left.1 was) q.1, q.2))))

    pub stands : IfSome v.content Runs
        → IfSome u.content (λ files. (c : Contents) (left : Leftover) → IsSite files c → HasLeft files c left → EachStands u → IfSome z.content (λ now. (o : Contents) × MayRollBack (min to (length c.sequence)) left.broken c o × IsSite now o))
    stands runs = both_weak u.content Known Runs (λ files. (c : Contents) (left : Leftover) → IsSite files c → HasLeft files c left → EachStands u → IfSome z.content (λ now. (o : Contents) × MayRollBack (min to (length c.sequence)) left.broken c o × IsSite now o)) known
        (told_at u.content v.content Runs same runs) (λ files k r c left is has each.
        weaker_told z.content (λ now. z.since z.moment now) (λ now. (o : Contents) × MayRollBack (min to (length c.sequence)) left.broken c o × IsSite now o) lawful_z.as_read (λ now image.
        let q = holds_now v z (MayStandRolled (min to (length c.sequence)) (record { contents = c; broken = left.broken })) lawful_z (run_on files k r c left is has each) now image in
        (q.0.contents, bare_of (min to (length c.sequence)) (record { contents = c; broken = left.broken }) q.0 q.1, q.2.site)))

    pub told : IfSome v.content (λ _. (c : Contents) → IsAll c → StandsFor z (rolled t broken c))
        → IfSome u.content (λ files. (c : Contents) (left : Leftover) → IsSite files c → HasLeft files c left → EachStands u → StandsFor z (rolled (min to (length c.sequence)) left.broken c))
    told done = both_weak u.content Known (λ _. (c : Contents) → IsAll c → StandsFor z (rolled t broken c)) (λ files. (c : Contents) (left : Leftover) → IsSite files c → HasLeft files c left → EachStands u → StandsFor z (rolled (min to (length c.sequence)) left.broken c)) known
        (told_at u.content v.content (λ _. (c : Contents) → IsAll c → StandsFor z (rolled t broken c)) same done) (λ files k d c left is has each.
        subst (λ (b : List ℕ). StandsFor z (rolled (min to (length c.sequence)) b c)) (sym (k.2 c left is has))
        (subst (λ (m : ℕ). StandsFor z (rolled m broken c)) (aim files k c is) (d c ((k.1 c is).1 each))))
