-- How runs of calls go on.
use Rattle.std.proofs.Common.{inl, inr, ⊎_elim, ℕ, ◌∙◌, refl, sym, subst, arith}
use Rattle.disk_defs.specs.Disk.{Files, View, Image, IsLawful, Same, Passes, Reads, AtEachMoment}
use Rattle.disk_defs.specs.Frames.{IsWithin, SameOutside, OnlyIn}

-- before the first call
pub started : (v : View) (P : Files → Type 0) → ((c : Files) → Image v c → P c) → AtEachMoment v v P
started v P here = record { later = omega arith; each = here; before = λ t c le since. inl since }

-- one disk call more, after which each image has P
pub goes_on : (old mid new : View) (P : Files → Type 0) {step : Files → Files → Type 0} → AtEachMoment old mid P → Passes step mid new → ((c : Files) → Image new c → P c) → AtEachMoment old new P
goes_on old mid new P so_far call here = record {
  later = omega (arith, so_far.later, call.later);
  each = λ c since. ⊎_elim (so_far.each c) (here c) (call.nothing_else old.moment c so_far.later since);
  before = λ t c le since. ⊎_elim (so_far.before t c le) (λ now. inr (here c now)) (call.nothing_else t c (omega (arith, le, so_far.later)) since);
}

-- a call of a layer more, in which each image at each moment has Q, which gives P
pub then_more : (old mid new : View) (P Q : Files → Type 0) → AtEachMoment old mid P → AtEachMoment mid new Q → ((c : Files) → Q c → P c) → AtEachMoment old new P
then_more old mid new P Q so_far call gives = record {
  later = omega (arith, so_far.later, call.later);
  each = λ c since. ⊎_elim (so_far.each c) (λ q. gives c q) (call.before old.moment c so_far.later since);
  before = λ t c le since. ⊎_elim (so_far.before t c le) (λ q. inr (gives c q)) (call.before t c (omega (arith, le, so_far.later)) since);
}

pub weaker : (old new : View) (P Q : Files → Type 0) → ((c : Files) → P c → Q c) → AtEachMoment old new P → AtEachMoment old new Q
weaker old new P Q gives run = record {
  later = run.later;
  each = λ c since. gives c (run.each c since);
  before = λ t c le since. ⊎_elim (λ was. inl was) (λ p. inr (gives c p)) (run.before t c le since);
}

pub both : (old new : View) (P Q : Files → Type 0) → AtEachMoment old new P → AtEachMoment old new Q → AtEachMoment old new (λ c. P c × Q c)
both old new P Q p q = record {
  later = p.later;
  each = λ c since. (p.each c since, q.each c since);
  before = λ t c le since. ⊎_elim (λ was. inl was) (λ pc. ⊎_elim (λ was. inl was) (λ qc. inr (pc, qc)) (q.before t c le since)) (p.before t c le since);
}

-- what holds at each moment holds now
pub holds_now : (old new : View) (P : Files → Type 0) → IsLawful new → AtEachMoment old new P → (c : Files) → Image new c → P c
holds_now old new P lawful run c now = run.each c (lawful.counts_now old.moment c run.later now)

-- a call that leaves what files have
pub passed : (v w : View) → Passes Same v w → AtEachMoment v w (Image v)
passed v w call = goes_on v v w (Image v) (started v (Image v) (λ c now. now)) call (λ c now. let from = call.images c now in subst (Image v) (sym from.2) from.1)

pub read_only : (v w : View) → Reads v w → AtEachMoment v w (Image v)
read_only v w reads = passed v w reads.passes

-- a run in which nothing but what stood before
pub nothing_new : (old mid new : View) (P : Files → Type 0) → IsLawful mid → AtEachMoment old mid P → AtEachMoment mid new (Image mid) → AtEachMoment old new P
nothing_new old mid new P lawful so_far call = then_more old mid new P (Image mid) so_far call (λ c now. holds_now old mid P lawful so_far c now)

-- a run on a set of files begins
pub only_started : (v : View) (F : ℕ → Type 0) (P : Files → Type 0) → ((c : Files) → Image v c → P c) → AtEachMoment v v (OnlyIn v F P)
only_started v F P here = started v (OnlyIn v F P) (λ c now. record { here = here c now; others = (c, now, λ f out. refl) })

-- and goes on with a call on some of them, where what it leaves and what stood before give P
pub only_then : (old mid new : View) (F G : ℕ → Type 0) (P Q : Files → Type 0) → IsLawful mid → IsWithin G F → AtEachMoment old mid (OnlyIn old F P) → AtEachMoment mid new (OnlyIn mid G Q)
    → ((d c : Files) → Image mid d → P d → SameOutside G d c → Q c → P c) → AtEachMoment old new (OnlyIn old F P)
only_then old mid new F G P Q lawful within so_far call gives = then_more old mid new (OnlyIn old F P) (OnlyIn mid G Q) so_far call (λ c q. goes q.others.0 c q.others.1 q.others.2 q.here (holds_now old mid (OnlyIn old F P) lawful so_far q.others.0 q.others.1))
  where
    goes : (d c : Files) → Image mid d → SameOutside G d c → Q c → OnlyIn old F P d → OnlyIn old F P c
    goes d c was same q p = record {
      here = gives d c was p.here same q;
      others = (p.others.0, p.others.1, λ f out. same f (λ is. out (within f is)) ∙ p.others.2 f out);
    }

pub only_weaker : (old new : View) (F : ℕ → Type 0) (P Q : Files → Type 0) → ((c : Files) → P c → Q c) → AtEachMoment old new (OnlyIn old F P) → AtEachMoment old new (OnlyIn old F Q)
only_weaker old new F P Q gives run = weaker old new (OnlyIn old F P) (OnlyIn old F Q) (λ c p. record { here = gives c p.here; others = p.others }) run

pub only_wider : (old new : View) (F G : ℕ → Type 0) (P : Files → Type 0) → IsWithin F G → AtEachMoment old new (OnlyIn old F P) → AtEachMoment old new (OnlyIn old G P)
only_wider old new F G P within run =
    weaker old new (OnlyIn old F P) (OnlyIn old G P) (λ c p. record { here = p.here; others = (p.others.0, p.others.1, λ f out. p.others.2 f (λ is. out (within f is))) }) run
