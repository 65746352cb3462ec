-- The mode of a region is set: the instance file is read, and a MODE is appended.
use Rattle.std.proofs.Common.{◌≡◌, inl, inr, ℕ, ◌<◌, Bool, List, [], ◌∷◌, ◌++◌, length, Option, Some, None, IfSome, refl, sym, subst}
use Rattle.disk_defs.specs.Disk.{Files, View, Image, IsLawful, IsDurable, AtEachMoment, ReadsAfter}
use Rattle.disk_defs.specs.Frames.{Only, OnlyOn, SameOutside, OthersStay}
use Rattle.disk_defs.proofs.Told.{weaker_told, both_weak, told_at}
use Rattle.disk_defs.proofs.Moments.{started, weaker, then_more, holds_now}
use Rattle.instance_file.specs.Instance.{StandsWith}
use Rattle.journal_defs.specs.Instance.{InstanceRecord, Mode, regions}
use Rattle.journal_defs.specs.Numbers.{INSTANCE}
use Rattle.journal_defs.specs.Stands.{IsInstance}
use Rattle.site_defs.specs.Behind.{IsStanding}
use Rattle.site_defs.specs.Contents.{Contents, Leftover, Standing}
use Rattle.site_defs.specs.Opening.{with_mode}
use Rattle.site_defs.specs.Stands.{IsSite, HasLeft}
use Rattle.site_store.proofs.Found.{site_instance}
use Rattle.mupip_rollback.specs.Setting.{MayHaveMode, MayHaveModeLeft, MayBeSet, MayBeSetWith, IsSetIn, StillNoneNeeds}
use Rattle.mupip_rollback.proofs.Moded.{site_still, left_still, site_more, left_more, none_more, standing_more, standing_either, contents_either}
use Rattle.mupip_rollback.proofs.Sites.{some_left}
use Rattle.site_files.proofs.WhatIsRead.{instance_one}

abbrev pub Moments : View → View → ℕ → Bool → Files → Type 0
Moments u w region before files = (c : Contents) → IsSite files c → AtEachMoment u w (MayBeSet u region before)

abbrev pub Lefts : View → View → ℕ → Bool → Files → Type 0
Lefts u w region before files = (c : Contents) → IsSite files c → AtEachMoment u w (MayBeSetWith u region before)

abbrev pub StandsSet : Option Files → ℕ → Bool → Files → Type 0
StandsSet n region before files = (c : Contents) (left : Leftover) → IsSite files c → HasLeft files c left → IfSome n (λ now. (o : Contents) × MayHaveMode region before c o × IsSite now o × HasLeft now o left)

abbrev pub ReadsSet : Option Files → ℕ → Bool → Files → Type 0
ReadsSet n region before files =
    (c : Contents) (left : Leftover) → IsSite files c → HasLeft files c left → IfSome n (λ now. IsSite now (with_mode region before c) × HasLeft now (with_mode region before c) left × StillNoneNeeds files now)

abbrev pub ImagesSet : View → View → ℕ → Bool → Files → Type 0
ImagesSet u w region before files = (c : Contents) → IsSite files c → (f : Files) → Image w f → IsSetIn u region before f

-- without what lies behind the contents
bare_of : (u : View) (region : ℕ) (before : Bool) (f : Files) → MayBeSetWith u region before f → MayBeSet u region before f
bare_of u region before f q = (
  q.0,
  q.1,
  λ c site.
      let left = some_left q.0 c site in
      let s : Standing = record { contents = c; broken = left.0.broken } in
      let r = q.2 s (record { site = site; torn = left.0.torn; left = left.1 }) in
      (r.0.contents, contents_either region before s r.0 r.1, r.2.site),
)

any : (o : Option Files) (P : Files → Type 0) → ((f : Files) → P f) → IfSome o P
any None P k = tt
any (Some f) P k = k f

pub bare_moments : (u w : View) (region : ℕ) (before : Bool) → IfSome u.content (Lefts u w region before) → IfSome u.content (Moments u w region before)
bare_moments u w region before run = weaker_told u.content (Lefts u w region before) (Moments u w region before) run (λ files m c site. weaker u w (MayBeSetWith u region before) (MayBeSet u region before) (bare_of u region before) (m c site))

-- nothing was written
module _ (u v : View) (region : ℕ) (before : Bool) where
  still : AtEachMoment u v (Image u) → AtEachMoment u v (MayBeSetWith u region before)
  still run = weaker u v (Image u) (MayBeSetWith u region before) (λ f image. (f, image, λ s stands. (s, inl refl, stands))) run

  pub quiet_with : AtEachMoment u v (Image u) → IfSome u.content (Lefts u v region before)
  quiet_with run = any u.content (Lefts u v region before) (λ files c site. still run)

  pub quiet : AtEachMoment u v (Image u) → IfSome u.content (Moments u v region before)
  quiet run = bare_moments u v region before (quiet_with run)

  pub quiet_stands : v.content ≡ u.content → IfSome u.content (StandsSet v.content region before)
  quiet_stands same = subst (λ (o : Option Files). IfSome u.content (StandsSet o region before)) (sym same) (itself u.content)
    where
      itself : (o : Option Files) → IfSome o (StandsSet o region before)
      itself None = tt
      itself (Some f) = λ c left site has. (c, inl refl, site, has)

-- no call came between
pub quiet_now : (v : View) → AtEachMoment v v (Image v)
quiet_now v = started v (Image v) (λ f image. image)

-- the records that were read have no such region
pub no_region : (o : Option Files) (rs : List InstanceRecord) (region : ℕ) → IfSome o (λ files. IsInstance (files INSTANCE) rs) → IfSome o (λ files. (c : Contents) → IsSite files c → region < length (regions c.instance))
    → (region < length (regions rs) → ⊥) → IfSome o (λ files. (c : Contents) → IsSite files c → ⊥)
no_region o rs region reads site none = both_weak o (λ files. IsInstance (files INSTANCE) rs) (λ files. (c : Contents) → IsSite files c → region < length (regions c.instance)) (λ files. (c : Contents) → IsSite files c → ⊥) reads site
    (λ files is given c s. none (subst (λ (l : List InstanceRecord). region < length (regions l)) (instance_one (files INSTANCE) c.instance rs (site_instance files c s) is) (given c s)))

-- the file is read, and then the MODE is appended
module _ (u v w : View) (rs : List InstanceRecord) (region : ℕ) (before : Bool) (inside : region < length (regions rs)) (lawful_v : IsLawful v) (lawful_w : IsLawful w)
    (synced : AtEachMoment u v (Image u)) (same : v.content ≡ u.content) (reads : IfSome u.content (λ files. IsInstance (files INSTANCE) rs)) (durable : IfSome u.content (λ files. IsDurable v INSTANCE (files INSTANCE)))
    (stays : OthersStay (Only INSTANCE) v w) where
  abbrev pub WithMode : Files → Type 0
  WithMode = OnlyOn v INSTANCE (StandsWith rs (Mode region before))

  abbrev More : List InstanceRecord
  More = rs ++ Mode region before ∷ []

  abbrev Read : Files → Type 0
  Read files = IsInstance (files INSTANCE) rs

  abbrev Here : Files → Type 0
  Here files = (d : Files) → Image v d → IsInstance (d INSTANCE) rs

  each_image : IfSome u.content Here
  each_image = both_weak u.content Read (λ files. IsDurable v INSTANCE (files INSTANCE)) Here reads durable
      (λ files is kept d image. subst (λ (b : List ℕ). IsInstance b rs) (sym (kept d image)) is)

  earlier : (f : Files) → Image v f → Image u f
  earlier f image = holds_now u v (Image u) lawful_v synced f image

  own : (d : Files) (c : Contents) → IsInstance (d INSTANCE) rs → IsSite d c → rs ≡ c.instance
  own d c here site = instance_one (d INSTANCE) rs c.instance here (site_instance d c site)

  inside_of : (c : Contents) → rs ≡ c.instance → region < length (regions c.instance)
  inside_of c same = subst (λ (l : List InstanceRecord). region < length (regions l)) same inside

  -- of one image
  either : (d f : Files) → IsInstance (d INSTANCE) rs → SameOutside (Only INSTANCE) d f → StandsWith rs (Mode region before) (f INSTANCE) → (s : Standing) → IsStanding d s
      → (o : Standing) × MayHaveModeLeft region before s o × IsStanding f o
  either d f here only stands s is =
      let mine = own d s.contents here is.site in
      standing_either d f only region before s is (inside_of s.contents mine) (subst (λ (l : List InstanceRecord). StandsWith l (Mode region before) (f INSTANCE)) mine stands)

  pub lefts : IfSome v.content (λ _. AtEachMoment v w WithMode) → IfSome u.content (Lefts u w region before)
  lefts run = both_weak u.content Here (λ _. AtEachMoment v w WithMode) (Lefts u w region before) each_image (told_at u.content v.content (λ _. AtEachMoment v w WithMode) same run)
      (λ files each m c site. then_more u v w (MayBeSetWith u region before) WithMode (still u v region before synced) m
      (λ f q. (q.others.0, earlier q.others.0 q.others.1, λ s stands. either q.others.0 f (each q.others.0 q.others.1) q.others.2 q.here s stands)))

  pub moments : IfSome v.content (λ _. AtEachMoment v w WithMode) → IfSome u.content (Moments u w region before)
  moments run = bare_moments u w region before (lefts run)

  either_site : (a b : Files) → Read a → SameOutside (Only INSTANCE) a b → StandsWith rs (Mode region before) (b INSTANCE) → (c : Contents) (left : Leftover) → IsSite a c → HasLeft a c left
      → (o : Contents) × MayHaveMode region before c o × IsSite b o × HasLeft b o left
  either_site a b is only (inl kept) c left site has =
      let now : IsInstance (b INSTANCE) c.instance = subst (IsInstance (b INSTANCE)) (own a c is site) kept in
      (c, inl refl, site_still a b only c site now, left_still a b only c site now left has)
  either_site a b is only (inr more) c left site has =
      let mine = own a c is site in
      let now : IsInstance (b INSTANCE) (c.instance ++ Mode region before ∷ []) = subst (λ (l : List InstanceRecord). IsInstance (b INSTANCE) (l ++ Mode region before ∷ [])) mine more in
      (with_mode region before c, inr refl, site_more a b only c site region before (inside_of c mine) now, left_more a b only c site region before (inside_of c mine) now left has)

  more_site : (a b : Files) → Read a → SameOutside (Only INSTANCE) a b → IsInstance (b INSTANCE) More → (c : Contents) (left : Leftover) → IsSite a c → HasLeft a c left
      → IsSite b (with_mode region before c) × HasLeft b (with_mode region before c) left × StillNoneNeeds a b
  more_site a b is only more c left site has =
      let mine = own a c is site in
      let now : IsInstance (b INSTANCE) (c.instance ++ Mode region before ∷ []) = subst (λ (l : List InstanceRecord). IsInstance (b INSTANCE) (l ++ Mode region before ∷ [])) mine more in
      (site_more a b only c site region before (inside_of c mine) now, left_more a b only c site region before (inside_of c mine) now left has, λ n none. none_more a b only c site region before (inside_of c mine) now n none)

  read_at : IfSome v.content Read
  read_at = subst (λ (o : Option Files). IfSome o Read) (sym same) reads

  pub stands : IfSome v.content (λ _. AtEachMoment v w WithMode) → IfSome u.content (StandsSet w.content region before)
  stands run = subst (λ (o : Option Files). IfSome o (StandsSet w.content region before)) same (among v.content w.content stays.content read_at run lawful_w.as_read)
    where
      among : (o n : Option Files) → ReadsAfter (SameOutside (Only INSTANCE)) o n → IfSome o Read → IfSome o (λ _. AtEachMoment v w WithMode) → IfSome n (λ now. Image w now) → IfSome o (StandsSet n region before)
      among None n after is m read = tt
      among (Some a) None after is m read = absurd after
      among (Some a) (Some b) after is m read = λ c left site has. either_site a b is after (holds_now v w WithMode lawful_w m b read).here c left site has

  pub reads_set : IfSome v.content (λ _. IfSome w.content (λ now. IsInstance (now INSTANCE) More)) → IfSome u.content (ReadsSet w.content region before)
  reads_set has = subst (λ (o : Option Files). IfSome o (ReadsSet w.content region before)) same (among v.content w.content stays.content read_at has)
    where
      among : (o n : Option Files) → ReadsAfter (SameOutside (Only INSTANCE)) o n → IfSome o Read → IfSome o (λ _. IfSome n (λ now. IsInstance (now INSTANCE) More)) → IfSome o (ReadsSet n region before)
      among None n after is m = tt
      among (Some a) None after is m = absurd after
      among (Some a) (Some b) after is m = λ c left site there. more_site a b is after m c left site there

  pub images_set : IfSome v.content (λ _. (f : Files) → Image w f → IsInstance (f INSTANCE) More) → IfSome u.content (ImagesSet u w region before)
  images_set has = both_weak u.content Here (λ _. (f : Files) → Image w f → IsInstance (f INSTANCE) More) (ImagesSet u w region before) each_image
      (told_at u.content v.content (λ _. (f : Files) → Image w f → IsInstance (f INSTANCE) More) same has)
      (λ files each more c site f image.
      let from = stays.images f image in (
        from.0,
        earlier from.0 from.1,
        λ s stands.
            let mine = own from.0 s.contents (each from.0 from.1) stands.site in
            standing_more from.0 f from.2 region before s stands (inside_of s.contents mine) (subst (λ (l : List InstanceRecord). IsInstance (f INSTANCE) (l ++ Mode region before ∷ [])) mine (more f image)),
      ))
