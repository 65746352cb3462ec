-- What a secondary's steps mean for the answer that it waits for.
use Rattle.std.proofs.Common.{◌≡◌, ◌⊎◌, inl, inr, ℕ, ◌+◌, ◌-◌, ◌<◌, ◌≤◌, Bool, true, false, List, [], ◌∷◌, ◌++◌, length, None, refl, sym, ap, ◌∙◌, arith, append-nil, if◌then◌else◌}
use Rattle.wire_defs.specs.Frames.{Frame, Hello, Resume, RollbackFirst, History, Entry, Bye, IsFrame, BeginsFrame, spelled_frame, stream, offset_after}
use Rattle.ship_defs.specs.Arrivals.{arrivals}
use Rattle.ship_defs.specs.Hearing as ship
use Rattle.ship_defs.specs.Hearing.{Purpose, Heard, Last, Fits, Unbegun}
use Rattle.receiver_server.specs.Hearings.{behind}
use Rattle.receiver_server.specs.Incomings.{Incoming, unheard}
use Rattle.receiver_server.specs.Answers.{answer_frame}
use Rattle.receiver_server.specs.Listenings.{Listening, HasTail, IsHearing, IsNoAnswer}
use Rattle.receiver_server.proofs.Kept.{begins_few}
use Rattle.receiver_server.specs.declared.step.Handshake.{Handshake}
use Rattle.receiver_server.specs.declared.step.Handshake.TheVariants as handshake
use Rattle.session_handshake.specs.Answering.{LIMIT, left_behind, left_of}
use Rattle.session_handshake.proofs.Ends.{not_all}

-- a frame that an unbegun secondary hears is an answer
never_begun : (l : Last) → l ≡ Unbegun → (ship.IsBetween l ⊎ ship.IsUnder l) → ⊥
never_begun ship.Unbegun e (inl x) = x
never_begun ship.Unbegun e (inr x) = x
never_begun ship.Resumed e x = let no : ⊥ = cc in no
never_begun (ship.Reigning r) e x = let no : ⊥ = cc in no
never_begun ship.Shipped e x = let no : ⊥ = cc in no
never_begun ship.Over e x = let no : ⊥ = cc in no

pub none_else : (p : Purpose) (h now : Heard) (f : Frame) → h.last ≡ Unbegun → IsNoAnswer f → Fits p h f now → ⊥
none_else p h now (Hello version name history) begun other x = x
none_else p h now (Resume n) begun other x = other
none_else p h now (RollbackFirst n) begun other x = other
none_else p h now (History r) begun other x = never_begun h.last begun (inl x.0)
none_else p h now (Entry n t) begun other x = never_begun h.last begun (inr x.0)
none_else p h now (Bye n) begun other x = never_begun h.last begun (inl x.0)

-- what a secondary has behind an answer that fits
pub heard_answer : (p : Purpose) (h now : Heard) (a : Handshake) → Fits p h (answer_frame a) now → now ≡ behind p h (answer_frame a)
heard_answer p h now (handshake.Resume n) x = x.2
heard_answer p h now (handshake.RollbackFirst n) x = x.3

pub none_put : (a : Handshake) → arrivals 0 None (answer_frame a ∷ []) ≡ []
none_put (handshake.Resume n) = refl
none_put (handshake.RollbackFirst n) = refl

-- bytes that came are fewer that are left

left_here : (i : Incoming) → i.waiting ≡ [] → i.bad ≡ false → left_of i ≡ LIMIT + 1 - length i.reading.rest
left_here i none good = ap (λ (w : List Frame). left_behind w i.bad (length i.reading.rest)) none ∙ ap (λ (b : Bool). left_behind [] b (length i.reading.rest)) good

left_after : (waiting : List Frame) (bad : Bool) (rest : List ℕ) (before : ℕ) → before ≤ 1048580 → (bad ≡ false → BeginsFrame rest) → (bad ≡ false → before < length (stream waiting) + length rest + 0)
    → left_behind waiting bad (length rest) < LIMIT + 1 - before
left_after [] true rest before few begins more = omega (arith, few)
left_after [] false rest before few begins more = let less = more refl in let most = begins_few rest (begins refl) in omega (arith, few, less, most)
left_after (f ∷ fs) bad rest before few begins more = omega (arith, few)

pub got_fewer : (a b : Incoming) → a.waiting ≡ [] → a.bad ≡ false → a.fresh ≡ [] → b.fresh ≡ [] → BeginsFrame a.reading.rest → (b.bad ≡ false → BeginsFrame b.reading.rest)
    → (b.bad ≡ false → unheard a < unheard b) → left_of b < left_of a
got_fewer a b none good fresh read begins after more =
    let few = begins_few a.reading.rest begins in
    let here = left_here a none good in
    let before : unheard a ≡ 0 + length a.reading.rest + 0
    = ap (λ (w : List Frame). length (stream w) + (if a.bad then 0 else length a.reading.rest) + length a.fresh) none
    ∙ (ap (λ (x : Bool). 0 + (if x then 0 else length a.reading.rest) + length a.fresh) good ∙ ap (λ (l : List ℕ). 0 + length a.reading.rest + length l) fresh) in
    let now : b.bad ≡ false → unheard b ≡ length (stream b.waiting) + length b.reading.rest + 0 = λ fine.
    ap (λ (x : Bool). length (stream b.waiting) + (if x then 0 else length b.reading.rest) + length b.fresh) fine
    ∙ ap (λ (l : List ℕ). length (stream b.waiting) + length b.reading.rest + length l) read in
    let less = left_after b.waiting b.bad b.reading.rest (length a.reading.rest) few after (λ fine. let m = more fine in let n = now fine in omega (arith, m, n, before)) in
    omega (arith, less, here)

-- Where all of an answer came, it was heard: what is still to be heard is no whole frame.
pub not_answered : (f : Frame) (begun : Heard) (s : Listening) (received : List ℕ) → IsFrame f → s.incoming.waiting ≡ [] → s.incoming.fresh ≡ [] → IsHearing begun s received [] [] → received ≡ spelled_frame f → ⊥
not_answered f begun s received form none read h all =
    let rest_is : h.rest ++ s.incoming.fresh ≡ h.rest = ap (λ (l : List ℕ). h.rest ++ l) read ∙ append-nil h.rest in
    let whole : received ≡ h.rest = h.are.whole ∙ (ap (λ (w : List Frame). stream w ++ (h.rest ++ s.incoming.fresh)) none ∙ rest_is) in
    elim s.incoming.bad as (λ b. HasTail b s.incoming.reading (offset_after 0 ([] ++ s.incoming.waiting)) h.rest s.incoming.fresh → ⊥) [
      | true ↦ (λ t. t.none_stands f [] form (rest_is ∙ (sym whole ∙ (all ∙ sym (append-nil (spelled_frame f))))))
      | false ↦ (λ t. not_all f h.rest form t.1 (sym whole ∙ all))
    ] h.tail
