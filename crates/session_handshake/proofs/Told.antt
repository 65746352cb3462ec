-- Over links that tell their bytes: what came is what was sent, so the answer is the primary's, and the HELLO alone can be bad.
use Rattle.std.proofs.Common.{◌≡◌, ℕ, ◌+◌, ◌^◌, ◌<◌, Bool, true, false, IsTrue, List, [], ◌∷◌, ◌++◌, refl, sym, ap, subst, ◌∙◌, arith, append_assoc, append-nil}
use Rattle.global_defs.specs.declared.limits.TheConstants.{NUMBERS_END}
use Rattle.global_defs.specs.Prefix as prefix
use Rattle.global_defs.specs.Prefix.{IsPrefix}
use Rattle.wire_defs.specs.Frames.{Frame, Hello, Resume, RollbackFirst, History, Entry, Bye, IsFrame, spelled_frame, stream}
use Rattle.wire_defs.specs.Links as links
use Rattle.wire_defs.specs.Links.{Sending, Receiving}
use Rattle.ship_defs.specs.Directions.{EndsWith, refused}
use Rattle.ship_defs.specs.Hearing as ship
use Rattle.ship_defs.specs.Hearing.{Purpose, Asks, Ships, Heard, Fits, IsOver, HasUnfit, behind_resume, unbegun}
use Rattle.ship_defs.specs.Greeting.{IsHello, IsAnswer, Greets, IsBadToPrimary, GreetsWith, carried, greeting}
use Rattle.ship_laws.proofs.Walks.{at_one, bad_or_ended, stays_bad}
use Rattle.ship_laws.proofs.Rules.{fits_one, greets_one, fits_out, greets_out}
use Rattle.repl_wire.proofs.Apart.{frame_one}
use Rattle.receiver_server.specs.Listenings.{Listening, IsHearing, IsUnfitBehind}
use Rattle.session_handshake.specs.Answering.{IsGreetedBy, Answers}
use Rattle.session_handshake.specs.Exchanges.{Carries}

none_right : (xs ys : List ℕ) → xs ++ ys ≡ [] → ys ≡ []
none_right [] ys e = e
none_right (x ∷ xs) ys e = let no : ⊥ = cc in absurd no

-- a HELLO is admitted where all of it is
hello_of : (theirs : prefix.History) (f : Frame) (bytes : List ℕ) (answer : Frame) (more left sent : List ℕ) → IsFrame f → bytes ++ more ≡ sent → sent ++ left ≡ spelled_frame f → (g : IsGreetedBy theirs bytes answer) → g.hello ≡ f
hello_of theirs f bytes answer more left sent form e k g =
    (frame_one g.hello f (more ++ left) [] g.form form
    (sym (append_assoc (spelled_frame g.hello) more left) ∙ (ap (λ (l : List ℕ). (l ++ more) ++ left) (sym g.is) ∙ (ap (λ (l : List ℕ). l ++ left) e ∙ (k ∙ sym (append-nil (spelled_frame f))))))).0

-- the HELLO that came is the one that was sent
pub hello_told : (theirs mine : prefix.History) (name bytes more left sent : List ℕ) (answer : Frame) → IsFrame (greeting name mine) → bytes ++ more ≡ sent → sent ++ left ≡ spelled_frame (greeting name mine) → IsGreetedBy theirs bytes answer
    → IsHello (greeting name mine) × IsAnswer theirs (carried mine) answer
hello_told theirs mine name bytes more left sent answer form e k g =
    let same = hello_of theirs (greeting name mine) bytes answer more left sent form e k g in
    (subst IsHello same g.admitted, subst (λ (f : Frame). Answers theirs f answer) same g.answers)

-- an answer is a well-formed frame
pub answer_form : (theirs mine : prefix.History) (answer : Frame) → mine.length < NUMBERS_END → IsAnswer theirs mine answer → IsFrame answer
answer_form theirs mine (Resume n) few a = record { fields = (omega (arith, a.1), omega (arith, a.1, few)); short = omega arith }
answer_form theirs mine (RollbackFirst n) few a = record { fields = (omega (arith, a.3), omega (arith, a.2, a.3, few)); short = omega arith }
answer_form theirs mine (Hello version name history) few a = absurd a
answer_form theirs mine (History r) few a = absurd a
answer_form theirs mine (Entry n t) few a = absurd a
answer_form theirs mine (Bye n) few a = absurd a

-- the answer that was heard is the one that was sent, and all of it was sent
pub answer_told : (f g : Frame) (begun : Heard) (s : Listening) (received more left sent : List ℕ) → IsFrame g → received ++ more ≡ sent → sent ++ left ≡ spelled_frame g → IsHearing begun s received [] (f ∷ [])
    → (f ≡ g) × (sent ≡ spelled_frame f)
answer_told f g begun s received more left sent form e k h =
    let tail = h.rest ++ s.incoming.fresh in
    let behind = stream s.incoming.waiting ++ tail in
    let whole : received ≡ spelled_frame f ++ behind = h.are.whole ∙ append_assoc (spelled_frame f) (stream s.incoming.waiting) tail in
    let all : sent ≡ spelled_frame f ++ (behind ++ more) = sym e ∙ (ap (λ (l : List ℕ). l ++ more) whole ∙ append_assoc (spelled_frame f) behind more) in
    let one = frame_one f g ((behind ++ more) ++ left) [] h.are.each.0 form
    (sym (append_assoc (spelled_frame f) (behind ++ more) left) ∙ (ap (λ (l : List ℕ). l ++ left) (sym all) ∙ (k ∙ sym (append-nil (spelled_frame g))))) in
    let none : left ≡ [] = none_right (behind ++ more) left one.1 in
    (one.0, sym (append-nil sent) ∙ (ap (λ (l : List ℕ). sent ++ l) (sym none) ∙ (k ∙ ap spelled_frame (sym one.0))))

-- where a HELLO that is bad would begin

one_frame : (f : Frame) → spelled_frame f ≡ stream (f ∷ []) ++ []
one_frame f = sym (append-nil (spelled_frame f ++ []) ∙ append-nil (spelled_frame f))

pub greets_it : (f : Frame) → IsFrame f → IsHello f → GreetsWith (spelled_frame f) f
greets_it f form is = record {
  frames = [];
  now = true;
  come = record { are = record { whole = one_frame f; each = (form, tt) }; admitted = (true, (refl, is, refl), refl) };
  over = refl;
}

refuses_it : (f : Frame) → IsFrame f → (IsHello f → ⊥) → IsBadToPrimary (spelled_frame f) false 0
refuses_it f form not = record {
  frames = [];
  rest = spelled_frame f;
  now = false;
  come = record { are = record { whole = refl; each = tt }; admitted = refl };
  lacks = refused (record { frame = f; more = []; form = form; is = sym (append-nil (spelled_frame f)); never = λ now x. not x.1 });
  at = refl;
}

pub bad_hello : (f : Frame) (bytes more : List ℕ) (offset : ℕ) → IsFrame f → bytes ++ more ≡ spelled_frame f → IsBadToPrimary bytes false offset → (offset ≡ 0) × (IsHello f → ⊥)
bad_hello f bytes more offset form e bad =
    let whole : IsBadToPrimary (spelled_frame f) false offset = subst (λ (l : List ℕ). IsBadToPrimary l false offset) e (stays_bad Greets greets_one IsTrue greets_out false bytes more false offset bad) in
    let not : IsHello f → ⊥ = λ is. bad_or_ended Greets greets_one IsTrue greets_out false (spelled_frame f) false offset f whole (greets_it f form is) in
    (at_one Greets greets_one IsTrue greets_out false (spelled_frame f) false false offset 0 whole (refuses_it f form not), not)

-- what an answer is to the secondary that was told it: admissible

abbrev has_come : Purpose → Heard → List ℕ → Frame → Type 0
has_come p h bytes last = EndsWith (Fits p) (λ x. IsOver x.last) h bytes last

bye : (n : ℕ) → n < NUMBERS_END → IsFrame (Bye n)
bye n few = record { fields = few; short = omega arith }

two_frames : (f g : Frame) → spelled_frame f ++ spelled_frame g ≡ stream (f ∷ g ∷ []) ++ []
two_frames f g = sym (append-nil (spelled_frame f ++ (spelled_frame g ++ [])) ∙ ap (λ (l : List ℕ). spelled_frame f ++ l) (append-nil (spelled_frame g)))

-- behind the answer the direction may be whole
resumed_whole : (p : Purpose) (mine : prefix.History) (n : ℕ) → mine.length < NUMBERS_END → IsFrame (Resume n) → n ≡ mine.length + 1 → (more : List ℕ) × (last : Frame) × has_come p (unbegun mine) (spelled_frame (Resume n) ++ more) last
resumed_whole Asks mine n few form is = (
  [],
  Resume n,
  record {
    frames = [];
    now = record (unbegun mine) { last = ship.Over };
    come = record { are = record { whole = append-nil (spelled_frame (Resume n)) ∙ one_frame (Resume n); each = (form, tt) }; admitted = (record (unbegun mine) { last = ship.Over }, (tt, is, refl), refl) };
    over = tt;
  },
)
resumed_whole Ships mine n few form is = (
  spelled_frame (Bye mine.length),
  Bye mine.length,
  record {
    frames = Resume n ∷ [];
    now = record (unbegun mine) { last = ship.Over };
    come = record {
      are = record { whole = two_frames (Resume n) (Bye mine.length); each = (form, (bye mine.length few, tt)) };
      admitted = (record (unbegun mine) { last = ship.Resumed }, (tt, is, refl), (record (unbegun mine) { last = ship.Over }, (tt, refl, refl), refl));
    };
    over = tt;
  },
)

answer_whole : (p : Purpose) (theirs mine : prefix.History) (answer : Frame) → mine.length < NUMBERS_END → IsAnswer theirs (carried mine) answer → (more : List ℕ) × (last : Frame) × has_come p (unbegun mine) (spelled_frame answer ++ more) last
answer_whole p theirs mine (Resume n) few a = resumed_whole p mine n few (answer_form theirs (carried mine) (Resume n) few a) a.1
answer_whole p theirs mine (RollbackFirst n) few a = (
  [],
  RollbackFirst n,
  record {
    frames = [];
    now = record (unbegun mine) { last = ship.Over };
    come = record {
      are = record { whole = append-nil (spelled_frame (RollbackFirst n)) ∙ one_frame (RollbackFirst n); each = (answer_form theirs (carried mine) (RollbackFirst n) few a, tt) };
      admitted = (record (unbegun mine) { last = ship.Over }, (tt, omega (arith, a.3), omega (arith, a.2, a.3), refl), refl);
    };
    over = tt;
  },
)
answer_whole p theirs mine (Hello version name history) few a = absurd a
answer_whole p theirs mine (History r) few a = absurd a
answer_whole p theirs mine (Entry n t) few a = absurd a
answer_whole p theirs mine (Bye n) few a = absurd a

-- so no beginning of it is bad
pub never_unfit : (p : Purpose) (theirs mine : prefix.History) (answer : Frame) (frames : List Frame) (received more : List ℕ) (offset : ℕ) → mine.length < NUMBERS_END → IsAnswer theirs (carried mine) answer
    → received ++ more ≡ spelled_frame answer → IsUnfitBehind p (unbegun mine) frames received false offset → ⊥
never_unfit p theirs mine answer frames received more offset few a e unfit =
    let w = answer_whole p theirs mine answer few a in
    let all : received ++ (more ++ w.0) ≡ spelled_frame answer ++ w.0 = sym (append_assoc received more w.0) ∙ ap (λ (l : List ℕ). l ++ w.0) e in
    let bad : HasUnfit p (unbegun mine) (spelled_frame answer ++ w.0) false offset = subst (λ (l : List ℕ). HasUnfit p (unbegun mine) l false offset) all
    (stays_bad (Fits p) (fits_one p) (λ x. IsOver x.last) (fits_out p) (unbegun mine) received (more ++ w.0) false offset unfit.0) in
    bad_or_ended (Fits p) (fits_one p) (λ x. IsOver x.last) (fits_out p) (unbegun mine) (spelled_frame answer ++ w.0) false offset w.1 bad w.2

-- over such a link no end was told
pub not_closed : (told : Bool) (whole left : List ℕ) (s : Sending) (r : Receiving) → IsTrue told → Carries told whole s left → links.Carries s r → r.closed ≡ false
not_closed told whole left s r t c l = elim r.closed as (λ b. b ≡ r.closed → b ≡ false) [
  | true ↦ (λ e. let over = l.closed (sym e) in let going = (c.going t).0 in let no : true ≡ false = sym over.0 ∙ going in let wrong : ⊥ = cc in absurd wrong)
  | false ↦ (λ e. refl)
] refl

-- a primary's answer is a well-formed frame
well_formed : (theirs : prefix.History) (hello answer : Frame) → IsFrame hello → Answers theirs hello answer → IsFrame answer
well_formed theirs (Hello version name history) answer form a = answer_form theirs history answer form.fields.2 a
well_formed theirs (Resume n) answer form a = absurd a
well_formed theirs (RollbackFirst n) answer form a = absurd a
well_formed theirs (History r) answer form a = absurd a
well_formed theirs (Entry n t) answer form a = absurd a
well_formed theirs (Bye n) answer form a = absurd a

pub greeted_form : (theirs : prefix.History) (bytes : List ℕ) (answer : Frame) → IsGreetedBy theirs bytes answer → IsFrame answer
greeted_form theirs bytes answer g = well_formed theirs g.hello answer g.form g.answers
