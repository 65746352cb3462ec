-- All entries are cut off, and those that are to go are written down.
use Rattle.std.proofs.Common.{◌≡◌, inl, inr, ℕ, suc, ◌≤◌, List, length, Option, Some, None, IfSome, ◌∙◌, ap, subst, arith}
use Rattle.disk_defs.specs.Disk.{Files, View, Image, IsLawful, From, OnFile, ReadsAfter, AtEachMoment}
use Rattle.disk_defs.specs.Frames.{SameOutside}
use Rattle.disk_defs.proofs.Told.{weaker_told, both_weak}
use Rattle.disk_defs.proofs.Moments.{weaker, then_more, holds_now}
use Rattle.journal_defs.specs.Instance.{InstanceRecord, generation}
use Rattle.journal_defs.specs.Numbers.{lost_file}
use Rattle.site_files.specs.Loading.{HasCut, MayCutOff, AreCut, IsNoLonger, next_broken}
use Rattle.mupip_rollback.specs.Cutting.{IsShort, MaySetAside, HasSetAside, next_lost}

-- the lost-transaction file is none of those that a CUT changes
pub lost_is_free : (rs : List InstanceRecord) → AreCut rs (next_lost rs) → ⊥
lost_is_free rs (inl e) = omega (arith, e)
lost_is_free rs (inr e) = omega (arith, e)

module _ (rs : List InstanceRecord) (n : ℕ) (broken lost : List ℕ) (u m : View) where
  abbrev pub HasRoom : Files → Type 0
  HasRoom files = length (files (next_broken rs)) ≤ length broken

  abbrev pub Cutting : Files → Type 0
  Cutting = From (Image u) (MayCutOff rs n broken)

  abbrev pub SettingAside : Files → Type 0
  SettingAside = From (Image u) (MaySetAside rs n broken lost)

  pub cut_moments : IfSome u.content (λ files. HasRoom files → AtEachMoment u m Cutting) → IfSome u.content (λ files. IsShort rs broken files → AtEachMoment u m SettingAside)
  cut_moments run = weaker_told u.content (λ files. HasRoom files → AtEachMoment u m Cutting) (λ files. IsShort rs broken files → AtEachMoment u m SettingAside) run
      (λ files r short. weaker u m Cutting SettingAside (λ f q. (q.0, q.1, inl q.2)) (r short.broken_is))

  module _ (w : View) (k : ℕ) (k_is : k ≡ suc (generation rs))
      (cut : IfSome u.content (λ files. HasRoom files → (f : Files) → Image m f → From (Image u) (HasCut rs n broken) f))
      (run : AtEachMoment m w (From (Image m) (OnFile (lost_file k) (IsNoLonger lost)))) where
    abbrev Writing : ℕ → Type 0
    Writing h = AtEachMoment m w (From (Image m) (OnFile (lost_file h) (IsNoLonger lost)))

    own : Writing (suc (generation rs))
    own = subst Writing k_is run

    pub aside_moments : IfSome u.content (λ files. HasRoom files → AtEachMoment u m Cutting) → IfSome u.content (λ files. IsShort rs broken files → AtEachMoment u w SettingAside)
    aside_moments first = both_weak u.content (λ files. IsShort rs broken files → AtEachMoment u m SettingAside) (λ files. HasRoom files → (f : Files) → Image m f → From (Image u) (HasCut rs n broken) f)
        (λ files. IsShort rs broken files → AtEachMoment u w SettingAside) (cut_moments first) cut
        (λ files a d short. then_more u m w SettingAside (From (Image m) (OnFile (next_lost rs) (IsNoLonger lost))) (a short) own
        (λ f q. let was = d short.broken_is q.0 q.1 in (was.0, was.1, inr (q.0, was.2, q.2))))

    durable_at : (o p : Option Files) → ReadsAfter (SameOutside (AreCut rs)) o p → IfSome p (λ files. length (files (next_lost rs)) ≤ length lost → (f : Files) → Image w f → f (next_lost rs) ≡ lost)
        → IfSome o (λ files. IsShort rs broken files → (f : Files) → Image w f → f (next_lost rs) ≡ lost)
    durable_at None p after d = tt
    durable_at (Some a) None after d = absurd after
    durable_at (Some a) (Some b) after d = λ short. d (let e : length (b (next_lost rs)) ≡ 0 = ap length (after (next_lost rs) (lost_is_free rs) ∙ short.lost_is) in omega (arith, e))

    pub aside_done : IsLawful w → ReadsAfter (SameOutside (AreCut rs)) u.content m.content → IfSome m.content (λ files. length (files (lost_file k)) ≤ length lost → (f : Files) → Image w f → f (lost_file k) ≡ lost)
        → IfSome u.content (λ files. IsShort rs broken files → (f : Files) → Image w f → From (Image u) (HasSetAside rs n broken lost) f)
    aside_done lawful after durable =
        both_weak u.content (λ files. HasRoom files → (f : Files) → Image m f → From (Image u) (HasCut rs n broken) f) (λ files. IsShort rs broken files → (f : Files) → Image w f → f (next_lost rs) ≡ lost)
        (λ files. IsShort rs broken files → (f : Files) → Image w f → From (Image u) (HasSetAside rs n broken lost) f) cut
        (durable_at u.content m.content after (subst (λ (h : ℕ). IfSome m.content (λ files. length (files (lost_file h)) ≤ length lost → (f : Files) → Image w f → f (lost_file h) ≡ lost)) k_is durable))
        (λ files d bytes short f image.
        let q = holds_now m w (From (Image m) (OnFile (next_lost rs) (IsNoLonger lost))) lawful own f image in
        let was = d short.broken_is q.0 q.1 in
        (was.0, was.1, (q.0, was.2, record { here = bytes short f image; others = q.2.others })))
