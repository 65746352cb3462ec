-- An image of a site that is cut off behind all entries, with those that are to go written down.
use Rattle.std.proofs.Common.{◌≡◌, inl, inr, ℕ, suc, ◌+◌, ◌≤◌, ◌<◌, ◌^◌, max, false, List, [], ◌∷◌, ◌++◌, length, refl, sym, ◌∙◌, ap, subst, arith, append-nil}
use Rattle.std.specs.Prelude.{nat_lt}
use Rattle.std.proofs.lemmas.Bool.Decides.{nat_tests}
use Rattle.std.proofs.Math.Path.{fun_ext}
use Rattle.global_defs.specs.declared.limits.TheConstants.{MOST_GENERATIONS, NUMBERS_END}
use Rattle.disk_defs.specs.Disk.{Files}
use Rattle.disk_defs.specs.Frames.{Only, SameOutside}
use Rattle.global_defs.specs.Entry.{Sequence}
use Rattle.global_defs.specs.Extract.{extract}
use Rattle.journal_defs.specs.Broken.{broken, broken_text}
use Rattle.journal_defs.specs.Fit.{IsSoundImage}
use Rattle.journal_defs.specs.Growth.{NonePast, IsBefore, with_record}
use Rattle.journal_defs.specs.Instance.{InstanceRecord, generation, regions, site_name}
use Rattle.journal_defs.specs.Journal.{Start}
use Rattle.journal_defs.specs.Numbers.{lost_file}
use Rattle.journal_defs.specs.Sequence.{Placed, Records, IsSequence}
use Rattle.journal_laws.proofs.Drawing as drawing
use Rattle.site_defs.specs.Behind.{IsStanding, IsSiteWith}
use Rattle.site_defs.specs.Contents.{Contents, NO_LEFTOVER, bare}
use Rattle.site_defs.specs.Opening.{cut_with, with_starts, starts_in}
use Rattle.site_defs.specs.Rolling.{lost_text}
use Rattle.site_defs.specs.Stands.{IsSite, HasLeft, torn_of}
use Rattle.site_files.specs.Loading.{MayBeOpened, AreRead, IsUncut, HasCut, AreUnbegun, next_cut}
use Rattle.site_files.proofs.Ahead as ahead
use Rattle.site_files.proofs.Keeping as keeping
use Rattle.site_store.proofs.Drawn.{S, C, text, site_read, site_uncut, site_drawn, draws_all}
use Rattle.site_store.proofs.Images.{left_nothing}
use Rattle.site_store.proofs.Rolled.{site_with_lost}
use Rattle.mupip_rollback.specs.Cutting.{MaySetAside, HasSetAside, next_lost}
use Rattle.mupip_rollback.specs.Rolling.{MayStandRolled}
use Rattle.mupip_rollback.proofs.Sites.{standing_of}
use Rattle.block_laws.proofs.Unbroken.{broken_none}

-- begun in no region
starts_zero : (c : Contents) → with_starts 0 c ≡ c
starts_zero c = λ i. record { instance = c.instance; starts = all i; epochs = c.epochs; texts = c.texts; losts = c.losts; sequence = c.sequence }
  where
    none : (r : ℕ) → starts_in 0 c r ≡ []
    none r = let no : nat_lt r 0 ≡ false = grind (arith, nat_tests) in rw no refl

    all : (λ r. c.starts r ++ starts_in 0 c r) ≡ c.starts
    all = fun_ext (λ r. ap (λ (l : List Start). c.starts r ++ l) (none r) ∙ append-nil (c.starts r))

module _ (rs : List InstanceRecord) (last : ℕ → ℕ) (journal : ℕ → List Placed) (seq : Sequence) (form : MayBeOpened rs last) (sequence : IsSequence (record { instance = rs; journal = journal }) seq)
    (low : generation rs < 65534) (broken_there lost : List ℕ) (broken_is : broken_there ≡ text rs last journal seq form sequence)
    (a : Files) (read : AreRead rs last journal a) (c : Contents) (is : IsSite a c) where
  abbrev S0 : Records
  S0 = S rs last journal seq form sequence

  abbrev n : ℕ
  n = length seq

  pub sound : IsSoundImage a S0 seq
  sound = (site_read rs last journal seq form sequence a c read is).0

  pub own : c ≡ C rs last journal seq form sequence a
  own = (site_read rs last journal seq form sequence a c read is).1

  before : IsBefore (generation rs + 1) S0
  before = drawing.before a S0 (generation rs + 1) sound.held (omega arith)

  abbrev pub cut_off : Records
  cut_off = with_record S0 (next_cut rs n)

  pub none_past : NonePast n cut_off
  none_past = subst (λ (u : Records). NonePast n u) (sym (keeping.none_drawn false S0 n last)) (keeping.none_past false S0 n last before 0)

  pub none_broken : broken cut_off n ≡ []
  none_broken = broken_none cut_off n none_past

  -- nothing was written but what is broken
  pub still : (b : Files) → IsUncut rs broken_there a b → IsStanding b (record { contents = c; broken = broken_there })
  still b cut = record {
    site = subst (IsSite b) (sym own) (site_uncut rs last journal seq form sequence a b broken_there read sound broken_is cut);
    torn = torn_of b (generation c.instance);
    left = record {
      records = S0;
      held = (keeping.uncut_image a S0 last form seq sound broken_there b broken_is cut).held;
      broken = broken_is ∙ ap (λ (x : Contents). broken_text (site_name x.instance) (length x.sequence) (broken S0 (length x.sequence))) (sym own);
      torn = refl;
    };
  }

  module _ (mid : Files) (cut : HasCut rs n broken_there a mid) where
    pub image : IsSoundImage mid cut_off seq
    image = keeping.cut_off_image a S0 last form seq sound broken_there read mid cut

    site : IsSite mid (cut_with broken_there [] c)
    site = subst (λ (x : Contents). IsSite mid (cut_with broken_there [] x)) (sym own)
        (subst (IsSite mid) (starts_zero (cut_with broken_there [] (C rs last journal seq form sequence a)))
        (site_drawn rs last journal seq form sequence false a read sound n seq refl broken_there (draws_all rs last journal seq form sequence false a broken_there read sound broken_is) mid 0 (cut last)))

    left : HasLeft mid (cut_with broken_there [] c) NO_LEFTOVER
    left = subst (λ (x : Contents). HasLeft mid (cut_with broken_there [] x) NO_LEFTOVER) (sym own)
        (left_nothing mid (cut_with broken_there [] (C rs last journal seq form sequence a)) cut_off image.held image.clean none_past refl)

    pub there : IsSiteWith mid (bare (cut_with broken_there [] c))
    there = record { site = site; left = left }

    -- no entry was written down before
    pub none_lost : mid (next_lost rs) ≡ []
    none_lost =
        let few = form.few_regions in
        (cut last).others (next_lost rs) (λ e. omega (arith, e)) (λ e. omega (arith, e)) (λ r here e. omega (arith, e, here, few, low))
        ∙ sound.clean.lost (suc (generation rs)) (omega arith, omega (arith, low))

    module _ (b : Files) (same : SameOutside (Only (next_lost rs)) mid b) where
      next_is : generation c.instance + 1 ≡ suc (generation rs)
      next_is = let e : generation c.instance ≡ generation rs = ap (λ (x : Contents). generation x.instance) own in omega (arith, e)

      pub written : IsSiteWith b (bare (cut_with broken_there (b (next_lost rs)) c))
      written =
          let room : generation c.instance < MOST_GENERATIONS = (let e = next_is in omega (arith, e, low)) in
          subst (λ (h : ℕ). IsSiteWith b (bare (cut_with broken_there (b (lost_file h)) c))) next_is
          (site_with_lost mid b broken_there c room site (subst (λ (h : ℕ). SameOutside (Only (lost_file h)) mid b) (sym next_is) same) left)

      pub read_on : AreUnbegun (suc (suc (generation rs))) (length (regions rs)) a → n < NUMBERS_END → AreRead (rs ++ next_cut rs n ∷ []) last journal b
      read_on none few = ahead.lost_read (rs ++ next_cut rs n ∷ []) n last (ahead.still_opened rs n last form low few) mid b journal (suc (generation rs))
          (ahead.cut_read rs n last form a mid broken_there (cut last) journal read none) (omega (arith, low)) same

  module _ (t : ℕ) (lost_is : lost ≡ extract (site_name rs) seq (t + 1)) where
    pub text_is : lost ≡ lost_text t c
    text_is = lost_is ∙ ap (λ (x : Contents). extract (site_name x.instance) x.sequence (t + 1)) (sym own)

    -- at each moment
    pub may_stand : (b : Files) → MaySetAside rs n broken_there lost a b → MayStandRolled t (record { contents = c; broken = broken_there }) b
    may_stand b (inl (inl uncut)) = (record { contents = c; broken = broken_there }, inl refl, still b uncut)
    may_stand b (inl (inr cut)) = (bare (cut_with broken_there [] c), inr (inl ([], omega arith, refl)), standing_of b (bare (cut_with broken_there [] c)) (there b cut))
    may_stand b (inr wrote) =
        let mid = wrote.0 in
        let cut = wrote.1 in
        let some = b (next_lost rs) in
        let empty : length (mid (next_lost rs)) ≡ 0 = ap length (none_lost mid cut) in
        let size : length lost ≡ length (lost_text t c) = ap length text_is in
        let most : length some ≤ max (length (mid (next_lost rs))) (length lost) = wrote.2.here in
        (bare (cut_with broken_there some c), inr (inl (some, omega (arith, most, empty, size), refl)), standing_of b (bare (cut_with broken_there some c)) (written mid cut b (λ f out. wrote.2.others f out)))

    -- and behind them
    pub stands : (b : Files) → HasSetAside rs n broken_there lost a b → IsSiteWith b (bare (cut_with broken_there (lost_text t c) c))
    stands b wrote = subst (λ (l : List ℕ). IsSiteWith b (bare (cut_with broken_there l c))) (wrote.2.here ∙ text_is) (written wrote.0 wrote.1 b (λ f out. wrote.2.others f out))
