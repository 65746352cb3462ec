-- By rules that lead one way the bytes of a direction are bad at one place at most.
use Rattle.std.proofs.Common.{◌≡◌, ◌≢◌, ℕ, Bool, false, List, [], ◌∷◌, ◌++◌, length, refl, sym, ap, subst, ◌∙◌, arith, append_assoc, append-nil, length-append, inl, inr}
use Rattle.std.specs.List.{AllByRecursion}
use Rattle.wire_defs.specs.Frames.{Frame, Resume, IsFrame, BeginsFrame, BeginsNone, spelled_frame, stream, offset_after}
use Rattle.repl_wire.proofs.Apart.{frame_one, split}
use Rattle.ship_defs.specs.Directions.{Admitted, Lacks, refused, begins_none, behind_last, too_short, IsBadAt, EndsWith}
use Rattle.wire_defs.proofs.Resumed.{resume_form}

-- a whole frame doesn't stand where one isn't whole yet
whole_or_not : (f : Frame) (rest more : List ℕ) → IsFrame f → rest ≡ spelled_frame f ++ more → BeginsFrame rest → ⊥
whole_or_not f rest more form is begins =
    let g = begins.0 in
    let b = begins.1 in
    let x = begins.2 in
    let one = frame_one g f [] (more ++ b ∷ x) begins.3 form (append-nil (spelled_frame g) ∙ (begins.4 ∙ (ap (λ (l : List ℕ). l ++ b ∷ x) is ∙ append_assoc (spelled_frame f) more (b ∷ x)))) in
    let none = ap length one.1 in
    omega (arith, none, length-append more (b ∷ x))

-- where no frame begins none does with more bytes behind
none_grows : (bytes more : List ℕ) → BeginsNone bytes → BeginsNone (bytes ++ more)
none_grows bytes more none = record {
  none_goes_on = λ f x form is. none.none_goes_on f (more ++ x) form (is ∙ append_assoc bytes more x);
  none_stands = λ f x form is. elim (split (spelled_frame f) x bytes more (sym is)) [
    | inl s ↦ none.none_stands f s.0 form s.1
    | inr s ↦ none.none_goes_on f s.0 form s.1
  ];
}

some_grows : (bytes more : List ℕ) → bytes ≢ [] → (bytes ++ more) ≢ []
some_grows [] more some = λ _. some refl
some_grows (b ∷ bytes) more some = λ is. absurd (cc)

last_same : (xs ys : List Frame) (x y : Frame) → xs ++ x ∷ [] ≡ ys ++ y ∷ [] → x ≡ y
last_same [] [] x y e = cc
last_same [] (b ∷ ys) x y e = let lengths = ap length e in absurd (omega (arith, lengths, length-append ys (y ∷ [])))
last_same (a ∷ xs) [] x y e = let lengths = ap length e in absurd (omega (arith, lengths, length-append xs (x ∷ [])))
last_same (a ∷ xs) (b ∷ ys) x y e = let tail : xs ++ x ∷ [] ≡ ys ++ y ∷ [] = cc in last_same xs ys x y tail

module _ {S : Type 0} (Admits : S → Frame → S → Type 0) (one_way : (s : S) (f : Frame) (a b : S) → Admits s f a → Admits s f b → a ≡ b) where
  -- no admissible frame stands at a rest of which this holds
  abbrev pub Bars : (S → List ℕ → Type 0) → Type 0
  Bars P = (s next : S) (f : Frame) (rest more : List ℕ) → IsFrame f → Admits s f next → rest ≡ spelled_frame f ++ more → P s rest → ⊥

  pub walk : (P Q : S → List ℕ → Type 0) → Bars P → Bars Q → (s : S) (fs gs : List Frame) (r q : List ℕ) (a b : S) → AllByRecursion IsFrame fs → AllByRecursion IsFrame gs
      → Admitted Admits s fs a → Admitted Admits s gs b → stream fs ++ r ≡ stream gs ++ q → P a r → Q b q → (fs ≡ gs) × (r ≡ q) × (a ≡ b)
  walk P Q no_p no_q s [] [] r q a b x y m n e p w = (refl, e, m ∙ sym n)
  walk P Q no_p no_q s [] (g ∷ gs) r q a b x y m n e p w =
      absurd (no_p s n.0 g r (stream gs ++ q) y.0 n.1 (e ∙ append_assoc (spelled_frame g) (stream gs) q) (subst (λ (t : S). P t r) m p))
  walk P Q no_p no_q s (f ∷ fs) [] r q a b x y m n e p w =
      absurd (no_q s m.0 f q (stream fs ++ r) x.0 m.1 (sym e ∙ append_assoc (spelled_frame f) (stream fs) r) (subst (λ (t : S). Q t q) n w))
  walk P Q no_p no_q s (f ∷ fs) (g ∷ gs) r q a b x y m n e p w =
      let one = frame_one f g (stream fs ++ r) (stream gs ++ q) x.0 y.0 (sym (append_assoc (spelled_frame f) (stream fs) r) ∙ (e ∙ append_assoc (spelled_frame g) (stream gs) q)) in
      let next : m.0 ≡ n.0 = one_way s g m.0 n.0 (subst (λ (z : Frame). Admits s z m.0) one.0 m.1) n.1 in
      let rest = walk P Q no_p no_q n.0 fs gs r q a b x.1 y.1 (subst (λ (t : S). Admitted Admits t fs a) next m.2) n.2 one.1 p w in
      ((λ i. one.0 i ∷ rest.0 i), rest.1, rest.2)

  abbrev pub IsEnd : S → List ℕ → Type 0
  IsEnd s rest = rest ≡ []

  end_bars : Bars IsEnd
  end_bars s next f rest more form may is none = let e : [] ≡ spelled_frame f ++ more = sym none ∙ is in absurd (cc)

  module _ (IsOver : S → Type 0) (out : (s next : S) (f : Frame) → IsOver s → Admits s f next → ⊥) where
    lacks_bars : (ended : Bool) → Bars (λ s rest. Lacks Admits IsOver s rest ended)
    lacks_bars ended s next f rest more form may is (refused r) =
        let one = frame_one f r.frame more r.more form r.form (sym is ∙ r.is) in
        r.never next (subst (λ (x : Frame). Admits s x next) one.0 may)
    lacks_bars ended s next f rest more form may is (begins_none none) = none.none_stands f more form is
    lacks_bars ended s next f rest more form may is (behind_last over some) = out s next f over may
    lacks_bars ended s next f rest more form may is (too_short done on begins) = whole_or_not f rest more form is begins

    pub at_one : (s : S) (bytes : List ℕ) (ended done : Bool) (o q : ℕ) → IsBadAt Admits IsOver s bytes ended o → IsBadAt Admits IsOver s bytes done q → o ≡ q
    at_one s bytes ended done o q x y =
        let same = walk (λ t r. Lacks Admits IsOver t r ended) (λ t r. Lacks Admits IsOver t r done) (lacks_bars ended) (lacks_bars done) s x.frames y.frames x.rest y.rest x.now y.now
        x.come.are.each y.come.are.each x.come.admitted y.come.admitted (sym x.come.are.whole ∙ y.come.are.whole) x.lacks y.lacks in
        x.at ∙ (ap (offset_after 0) same.0 ∙ sym y.at)

    over_lacks : (s : S) (ended : Bool) → IsOver s → Lacks Admits IsOver s [] ended → ⊥
    over_lacks s ended over (refused r) = let e : [] ≡ spelled_frame r.frame ++ r.more = r.is in absurd (cc)
    over_lacks s ended over (begins_none none) = none.none_goes_on (Resume 1) (spelled_frame (Resume 1)) resume_form refl
    over_lacks s ended over (behind_last last some) = some refl
    over_lacks s ended over (too_short done on begins) = on over

    pub bad_or_ended : (s : S) (bytes : List ℕ) (ended : Bool) (o : ℕ) (last : Frame) → IsBadAt Admits IsOver s bytes ended o → EndsWith Admits IsOver s bytes last → ⊥
    bad_or_ended s bytes ended o last x y =
        let same = walk (λ t r. Lacks Admits IsOver t r ended) IsEnd (lacks_bars ended) end_bars s x.frames (y.frames ++ last ∷ []) x.rest [] x.now y.now
        x.come.are.each y.come.are.each x.come.admitted y.come.admitted (sym x.come.are.whole ∙ y.come.are.whole) x.lacks refl in
        over_lacks y.now ended y.over (subst (λ (t : S). Lacks Admits IsOver t [] ended) same.2 (subst (λ (r : List ℕ). Lacks Admits IsOver x.now r ended) same.1 x.lacks))

    pub one_end : (s : S) (bytes : List ℕ) (f g : Frame) → EndsWith Admits IsOver s bytes f → EndsWith Admits IsOver s bytes g → f ≡ g
    one_end s bytes f g x y =
        let same = walk IsEnd IsEnd end_bars end_bars s (x.frames ++ f ∷ []) (y.frames ++ g ∷ []) [] [] x.now y.now
        x.come.are.each y.come.are.each x.come.admitted y.come.admitted (sym x.come.are.whole ∙ y.come.are.whole) refl refl in
        last_same x.frames y.frames f g same.0

    lacks_grow : (s : S) (rest more : List ℕ) (ended : Bool) → Lacks Admits IsOver s rest false → Lacks Admits IsOver s (rest ++ more) ended
    lacks_grow s rest more ended (refused r) =
        refused (record { frame = r.frame; more = r.more ++ more; form = r.form; is = ap (λ (l : List ℕ). l ++ more) r.is ∙ append_assoc (spelled_frame r.frame) r.more more; never = r.never })
    lacks_grow s rest more ended (begins_none none) = begins_none (none_grows rest more none)
    lacks_grow s rest more ended (behind_last over some) = behind_last over (some_grows rest more some)
    lacks_grow s rest more ended (too_short done on begins) = absurd (cc done)

    pub stays_bad : (s : S) (bytes more : List ℕ) (ended : Bool) (o : ℕ) → IsBadAt Admits IsOver s bytes false o → IsBadAt Admits IsOver s (bytes ++ more) ended o
    stays_bad s bytes more ended o x = record {
      frames = x.frames;
      rest = x.rest ++ more;
      now = x.now;
      come = record {
        are = record { whole = ap (λ (l : List ℕ). l ++ more) x.come.are.whole ∙ append_assoc (stream x.frames) x.rest more; each = x.come.are.each };
        admitted = x.come.admitted;
      };
      lacks = lacks_grow x.now x.rest more ended x.lacks;
      at = x.at;
    }
