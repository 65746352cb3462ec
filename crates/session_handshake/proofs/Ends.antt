-- The ends of a connection, and what they have still to move.
use Rattle.std.proofs.Common.{◌≡◌, ◌≢◌, ◌⊎◌, inl, inr, ℕ, ◌+◌, ◌-◌, ◌<◌, ◌≤◌, Bool, true, false, IsTrue, List, [], ◌∷◌, ◌++◌, length, refl, sym, ap, ◌∙◌, arith, append-nil}
use Rattle.wire_defs.specs.Frames.{Frame, IsFrame, BeginsFrame, spelled_frame}
use Rattle.wire_defs.specs.Links.{Sending, Receiving, SendingLooked, KnowAll}
use Rattle.repl_wire.proofs.Apart.{frame_one}
use Rattle.session_handshake.specs.Answering.{LIMIT, left_to_ask}
use Rattle.session_handshake.specs.Exchanges.{Carries}

pub carries_looked : (told : Bool) (whole left : List ℕ) (a b : Sending) → SendingLooked a b → Carries told whole a left → Carries told whole b left
carries_looked told whole left a b x y = record {
  told_is = x.same.told ∙ y.told_is;
  going = λ t. (x.finished ∙ (y.going t).0, omega (arith, x.same.places, (y.going t).1));
  sent = λ t. ap (λ (l : List ℕ). l ++ left) x.sent ∙ y.sent t;
}

-- Where both ends know all, a byte can be sent or is unread, unless the whole frame has come.
pub may_move : (told : Bool) (f : Frame) (left : List ℕ) (s : Sending) (r : Receiving) → IsFrame f → IsTrue told → Carries told (spelled_frame f) s left → KnowAll s r → (r.received ≡ spelled_frame f → ⊥)
    → ((0 < s.free) × (left ≢ [])) ⊎ (r.unread ≢ [])
may_move told f left s r form t c k not_whole = elim r.unread as (λ u. u ≡ r.unread → ((0 < s.free) × (left ≢ [])) ⊎ (r.unread ≢ [])) [
  | [] ↦ (λ e. inl (
    (let fin = k.free (c.going t).0 in let size : length r.unread ≡ 0 = ap (λ (l : List ℕ). length l) (sym e) in omega (arith, fin, size, (c.going t).1)),
    λ none. not_whole (sym (append-nil r.received) ∙ (ap (λ (l : List ℕ). r.received ++ l) e ∙ (k.unread ∙ (sym (append-nil s.sent) ∙ (ap (λ (l : List ℕ). s.sent ++ l) (sym none) ∙ c.sent t))))),
  ))
  | b ∷ more ↦ (λ e. inr (λ none. let no : b ∷ more ≡ [] = e ∙ none in let wrong : ⊥ = cc in wrong))
] refl

-- a beginning of a frame isn't a whole one
pub not_all : (f : Frame) (rest : List ℕ) → IsFrame f → BeginsFrame rest → rest ≡ spelled_frame f → ⊥
not_all f rest form b same =
    let one = frame_one b.0 f [] (b.1 ∷ b.2) b.3 form (append-nil (spelled_frame b.0) ∙ (b.4 ∙ ap (λ (l : List ℕ). l ++ b.1 ∷ b.2) same)) in
    let none = ap (λ (l : List ℕ). length l) one.1 in
    omega (arith, none)

-- how many steps of asking are left

asks_told : (a b x y p q : ℕ) → b ≤ a → x ≤ y → y ≤ 1048580 → (b < a) ⊎ (x < y) → b + (LIMIT - y) + 0 < a + (LIMIT - x) + 0
asks_told a b x y p q le ge most (inl less) = omega arith
asks_told a b x y p q le ge most (inr more) = omega arith

pub asks_fewer : (told : Bool) (old now rest more : List ℕ) (p q s t : ℕ) → length now ≤ length old → length rest ≤ length more → length more ≤ 1048580
    → (IsTrue told → (length now < length old) ⊎ (length rest < length more))
    → (told ≡ false → length now + q ≤ length old + p) → (told ≡ false → length rest + t < length more + s)
    → left_to_ask told now more (q + t) < left_to_ask told old rest (p + s)
asks_fewer true old now rest more p q s t le ge most moves tires tired = asks_told (length old) (length now) (length rest) (length more) p q le ge most (moves refl)
asks_fewer false old now rest more p q s t le ge most moves tires tired = let x = tires refl in let y = tired refl in omega (arith, x, y, most, ge, le)
