-- What a primary makes of the bytes that come to it.
use Rattle.std.proofs.Common.{◌≡◌, ◌≢◌, inl, inr, ℕ, ◌≤◌, map, get_or, true, false, List, [], ◌∷◌, ◌++◌, length, Ok, Err, refl, sym, ap, subst, ◌∙◌, arith, append_assoc, append-nil, length-append}
use Rattle.global_defs.specs.Prefix as prefix
use Rattle.wire_defs.specs.Frames.{Frame, BeginsFrame, AreFrames, spelled_frame, stream}
use Rattle.repl_wire.specs.declared.frame.Frame.{Frame as Given}
use Rattle.repl_wire.specs.Values.{frame_value}
use Rattle.repl_wire.specs.Feeds.{Takes}
use Rattle.ship_defs.specs.Directions.{refused, behind_last, too_short}
use Rattle.ship_defs.specs.Greeting.{IsBadToPrimary}
use Rattle.receiver_server.specs.declared.step.Handshake.{Handshake}
use Rattle.receiver_server.specs.Answers.{answer_frame}
use Rattle.session_handshake.specs.Answering.{Judges, IsGreetedBy}

rest_empty : (xs ys : List ℕ) → length (xs ++ ys) ≡ length xs → ys ≡ []
rest_empty xs [] same = refl
rest_empty xs (y ∷ ys) same = let size = length-append xs (y ∷ ys) in absurd (omega (arith, same, size))

module _ (theirs : prefix.History) (bytes : List ℕ) (f : Frame) (fs : List Frame) (rest : List ℕ) (are : AreFrames bytes (f ∷ fs) rest) where
  behind_first : List ℕ
  behind_first = stream fs ++ rest

  first_is : bytes ≡ spelled_frame f ++ (stream fs ++ rest)
  first_is = are.whole ∙ append_assoc (spelled_frame f) (stream fs) rest

  pub judged_good : (answer : Handshake) → Judges theirs f (length bytes) (Ok answer) → IsGreetedBy theirs bytes (answer_frame answer)
  judged_good answer j =
      let size : length (spelled_frame f ++ (stream fs ++ rest)) ≡ length (spelled_frame f) = sym (ap (λ (l : List ℕ). length l) first_is) ∙ j.1 in
      let none : stream fs ++ rest ≡ [] = rest_empty (spelled_frame f) (stream fs ++ rest) size in
      record {
        hello = f;
        form = are.each.0;
        is = first_is ∙ (ap (λ (l : List ℕ). spelled_frame f ++ l) none ∙ append-nil (spelled_frame f));
        admitted = j.0;
        answers = j.2;
      }

  pub judged_bad : (offset : ℕ) → Judges theirs f (length bytes) (Err offset) → IsBadToPrimary bytes false offset
  judged_bad offset (inl j) = record {
    frames = [];
    rest = bytes;
    now = false;
    come = record { are = record { whole = refl; each = tt }; admitted = refl };
    lacks = refused (record { frame = f; more = stream fs ++ rest; form = are.each.0; is = first_is; never = λ now x. j.1 x.1 });
    at = j.0;
  }
  judged_bad offset (inr j) =
      let one : length (stream (f ∷ [])) ≡ length (spelled_frame f) = ap (λ (l : List ℕ). length l) (append-nil (spelled_frame f)) in
      let short = are.each.0.short in
      let some : stream fs ++ rest ≢ [] = λ none. j.2 (ap (λ (l : List ℕ). length l) (first_is ∙ (ap (λ (l : List ℕ). spelled_frame f ++ l) none ∙ append-nil (spelled_frame f)))) in
      record {
        frames = f ∷ [];
        rest = stream fs ++ rest;
        now = true;
        come = record {
          are = record { whole = first_is ∙ ap (λ (l : List ℕ). l ++ (stream fs ++ rest)) (sym (append-nil (spelled_frame f))); each = (are.each.0, tt) };
          admitted = (true, (refl, j.0, refl), refl);
        };
        lacks = behind_last refl some;
        at = j.1 ∙ omega (arith, one, short);
      }

pub bad_early : (bytes : List ℕ) → BeginsFrame bytes → IsBadToPrimary bytes true 0
bad_early bytes begun = record {
  frames = [];
  rest = bytes;
  now = false;
  come = record { are = record { whole = refl; each = tt }; admitted = refl };
  lacks = too_short refl (λ e. let no : ⊥ = cc in no) begun;
  at = refl;
}

-- the first of frames that came
pub first_of : (xs : List Given) (x : Given) → 1 ≤ length xs → x ≡ get_or xs 0 x → (fs : List Frame) × (map frame_value xs ≡ frame_value x ∷ fs)
first_of [] x some is = absurd (omega (arith, some))
first_of (y ∷ ys) x some is = (map frame_value ys, ap (λ (z : Given). frame_value z ∷ map frame_value ys) (sym is))

-- the frames that a piece brought, and what is behind them
abbrev pub Came : List ℕ → List Frame → Type 0
Came bytes out = (rest : List ℕ) × AreFrames bytes out rest

pub came : (offset at : ℕ) (bytes rest : List ℕ) (before after : List Frame) → before ≡ [] → Takes offset bytes before after at rest → Came bytes after
came offset at bytes rest before after none t =
    let same : t.frames ≡ after = sym (t.added ∙ ap (λ (l : List Frame). l ++ t.frames) none) in
    (rest, subst (λ (l : List Frame). AreFrames bytes l rest) same t.are)
