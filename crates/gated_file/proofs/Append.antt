-- What an append makes of a gated file.
use Rattle.std.proofs.Common.{◌≡◌, ℕ, ◌+◌, ◌*◌, vec_capacity, ◌≤◌, Bool, List, [], ◌∷◌, ◌++◌, length, drop, false, sym, ◌∙◌, ap, subst, arith, append_assoc, length-append}
use Rattle.std.proofs.lemmas.Bool.{false≢true}
use Rattle.std.specs.List.{AllByRecursion}
use Rattle.std.specs.VecDeque.{deque_capacity}
use Rattle.disk_defs.specs.Disk.{Files, View, Image, OnFile, Passes, ReadsAfter, AtEachMoment, written, Torn, RoomUsed}
use Rattle.disk_defs.specs.Frames.{OnlyOn}
use Rattle.disk_defs.proofs.Told.{with_told, reads_after, has_after}
use Rattle.disk_defs.specs.Gates.{Body, framed, spelled, IsBody, Stands}
use Rattle.disk_defs.proofs.Texts.{length-framed}
use Rattle.disk_defs.proofs.Moments.{started, goes_on}
use Rattle.gated_file.specs.State.{State, shut, ones, text_with, text, IsImage, place, places, appended}
use Rattle.gated_file.specs.Gated.{Holds, HasState, IsReady}
use Rattle.gated_file.specs.declared.gated.Gated.{Gated}
use Rattle.gated_file.proofs.Pieces.{torn_behind, written_behind, text_behind, length-text_with, length-ones, shut_tail, shut_push, length-shut, spelled_push}
use Rattle.gated_file.proofs.Steps.{room_step, IsSound, image_stands, here_stands, holds_by, only_from}

-- a write behind the last closed gate
pub appended_image : (s : State) (body : Body) (gate : ℕ) (tail new_tail : List ℕ) (was : Bool) (at n : ℕ) (d c : List ℕ) → at ≡ place s + length (spelled 1 s.closed) + 1 → IsImage s gate tail was d → Torn at n d c → IsImage (appended s body) gate new_tail false c
appended_image s body gate tail new_tail was at n d c is im torn =
    let front = text_with s.hard im.gates s.opening (gate ∷ []) in
    let split : d ≡ front ++ im.rest = im.is ∙ text_behind s.hard im.gates s.opening (gate ∷ []) im.rest in
    let low : length front ≤ at = omega (arith, length-text_with s.hard im.gates s.opening (gate ∷ []) im.same) in
    let kept : c ≡ front ++ drop (length front) c = torn_behind front im.rest c at n low (subst (λ (x : List ℕ). Torn at n x c) split torn) in
    record {
      gates = im.gates;
      rest = drop (length front) c;
      same = im.same;
      is = kept ∙ sym (text_behind s.hard im.gates s.opening (gate ∷ []) (drop (length front) c));
      settled = λ is_synced. absurd (false≢true is_synced);
    }

pub appended_text : (s : State) (body : Body) (gate : ℕ) (tail : List ℕ) (at : ℕ) (file bytes : List ℕ) → at ≡ place s + length (spelled 1 s.closed) + 1 → file ≡ text s gate tail → bytes ≡ framed body ++ 0 ∷ [] → written file at bytes ≡ text (appended s body) gate (drop (length body + 5) tail)
appended_text s body gate tail at file bytes is reads spells =
    let gates = ones s.opening in
    let front = text_with s.hard gates s.opening (shut gate s.closed []) in
    let split : file ≡ front ++ tail = reads ∙ ap (text_with s.hard gates s.opening) (shut_tail gate s.closed tail) ∙ text_behind s.hard gates s.opening (shut gate s.closed []) tail in
    let at_is : length front ≡ at = omega (arith, length-text_with s.hard gates s.opening (shut gate s.closed []) (length-ones s.opening), length-shut gate s.closed []) in
    let long : length bytes ≡ length body + 5 = omega (arith, ap length spells, length-append (framed body) (0 ∷ []), length-framed body) in
    ap (λ (f : List ℕ). written f at bytes) split
    ∙ written_behind front tail bytes at at_is
    ∙ ap (λ (n : ℕ). front ++ (bytes ++ drop n tail)) long
    ∙ ap (λ (b : List ℕ). front ++ (b ++ drop (length body + 5) tail)) spells
    ∙ ap (λ (l : List ℕ). front ++ l) (append_assoc (framed body) (0 ∷ []) (drop (length body + 5) tail))
    ∙ sym (text_behind s.hard gates s.opening (shut gate s.closed []) (framed body ++ 0 ∷ drop (length body + 5) tail))
    ∙ ap (text_with s.hard gates s.opening) (sym (shut_push gate s.closed body (drop (length body + 5) tail)))

pub places_push : (at : ℕ) (bodies : List Body) (body : Body) → places at (bodies ++ body ∷ []) ≡ places at bodies ++ (at + length (spelled 1 bodies)) ∷ []
places_push at [] body = ap (λ (n : ℕ). n ∷ []) (omega arith)
places_push at (b ∷ bodies) body =
    ap (λ (l : List ℕ). at ∷ l) (places_push (at + 5 + length b) bodies body)
    ∙ ap (λ (n : ℕ). at ∷ (places (at + 5 + length b) bodies ++ n ∷ [])) (omega (arith, length-append (framed b) (spelled 1 bodies), length-framed b))

length-spelled_push : (bodies : List Body) (body : Body) → length (spelled 1 (bodies ++ body ∷ [])) ≡ length (spelled 1 bodies) + length body + 5
length-spelled_push bodies body = omega (arith, ap length (spelled_push 1 bodies body), length-append (spelled 1 bodies) (1 ∷ framed body), length-framed body)

all_push : (bodies : List Body) (body : Body) → AllByRecursion IsBody bodies → IsBody body → AllByRecursion IsBody (bodies ++ body ∷ [])
all_push [] body all is = (is, tt)
all_push (b ∷ bodies) body all is = (all.0, all_push bodies body all.1 is)

-- What an append does.
pub record Appends (v w : View) (g h : Gated) (body : Body) (bytes : List ℕ) : Type 0 where
  pub file : h.file ≡ g.file
  pub end : h.end ≡ g.end + length body + 5
  pub closed : h.closed.items ≡ g.closed.items ++ g.end ∷ []
  pub bodies_left : h.bodies_left + 1 ≡ g.bodies_left
  pub bytes_left : h.bytes_left + length body ≡ g.bytes_left
  pub syncs_left : h.syncs_left ≡ g.syncs_left
  pub synced : h.synced ≡ false
  pub deque : deque_capacity g.closed ≤ deque_capacity h.closed
  pub buffer : vec_capacity g.buffer ≤ vec_capacity h.buffer
  pub is_body : IsBody body
  pub spells : bytes ≡ framed body ++ 0 ∷ []
  pub reads : ReadsAfter (OnFile g.file (λ old new. new ≡ written old (g.end + 1) bytes)) v.content w.content
  pub passes : Passes (OnFile g.file (Torn (g.end + 1) (length bytes))) v w
  pub used : RoomUsed g.file (length bytes) v w

module _ (v w : View) (g h : Gated) (body : Body) (bytes : List ℕ) (call : Appends v w g h body bytes) where
  holds_appended : (s : State) (a b : Files) → Holds v g s a → OnFile g.file (λ old new. new ≡ written old (g.end + 1) bytes) a b → Holds w h (appended s body) b
  holds_appended s a b hs wrote =
      let place_is : g.end + 1 ≡ place s + length (spelled 1 s.closed) + 1 = omega (arith, hs.end) in
      let new_tail = drop (length body + 5) hs.tail in
      let images : (c : Files) → Image w c → IsImage (appended s body) hs.gate new_tail h.synced (c h.file) = λ c now.
      let from = call.passes.images c now in
      let im = appended_image s body hs.gate hs.tail new_tail g.synced (g.end + 1) (length bytes) (from.0 g.file) (c g.file) place_is (hs.images from.0 from.1) from.2.here in
      subst (λ (f : ℕ). IsImage (appended s body) hs.gate new_tail h.synced (c f)) (sym call.file) (subst (λ (b : Bool). IsImage (appended s body) hs.gate new_tail b (c g.file)) (sym call.synced) im) in
      holds_by w h (appended s body) b hs.gate new_tail hs.shut
      (ap b call.file ∙ wrote.here ∙ appended_text s body hs.gate hs.tail (g.end + 1) (a g.file) bytes place_is hs.text call.spells)
      images hs.hard hs.opening (all_push s.closed body hs.closed call.is_body)
      (omega (arith, call.end, hs.end, length-spelled_push s.closed body))
      (call.closed ∙ ap (λ (l : List ℕ). l ++ g.end ∷ []) hs.places ∙ ap (λ (n : ℕ). places (place s) s.closed ++ n ∷ []) hs.end ∙ sym (places_push (place s) s.closed body))

  pub has_appended : (s : State) → HasState v g s → HasState w h (appended s body)
  has_appended s has = has_after _ _ _ (Holds v g s) (Holds w h (appended s body)) call.reads has (λ a b holds wrote. holds_appended s a b holds wrote)

  pub ready_appended : IsReady v g → IsReady w h
  ready_appended ready =
      let long : length h.closed.items ≡ length g.closed.items + 1 = omega (arith, ap length call.closed, length-append g.closed.items (g.end ∷ [])) in
      let bytes_long : length bytes ≡ length body + 5 = omega (arith, ap length call.spells, length-append (framed body) (0 ∷ []), length-framed body) in
      record {
        state = reads_after v.content w.content (OnFile g.file (λ old new. new ≡ written old (g.end + 1) bytes)) (λ a. (s : State) × Holds v g s a) (λ b. (s : State) × Holds w h s b) call.reads ready.state
            (λ a b has wrote. (appended has.0 body, holds_appended has.0 a b has.1 wrote));
        room = subst (λ (f : ℕ). w.has_room f (2 * h.bodies_left + length h.closed.items + h.syncs_left) (h.bytes_left + 6 * h.bodies_left + length h.closed.items)) (sym call.file)
            (room_step v w g.file (length bytes) _ _ _ _ call.used ready.room (omega (arith, call.bodies_left, call.syncs_left)) (omega (arith, call.bodies_left, call.bytes_left)));
        gates = omega (arith, call.bodies_left, call.deque, ready.gates);
        buffer = omega (arith, call.bytes_left, call.buffer, ready.buffer);
        places = omega (arith, call.end, call.bodies_left, call.bytes_left, ready.places);
      }

-- each image at each moment of an append
pub append_moments : (v w : View) (g : Gated) (s : State) (at n : ℕ) → at ≡ g.end + 1 → Passes (OnFile g.file (Torn at n)) v w → HasState v g s → AtEachMoment v w (OnlyOn v g.file (Stands s.hard s.opening))
append_moments v w g s at n at_is call has =
    with_told v.content (Holds v g s) (AtEachMoment v w (OnlyOn v g.file (Stands s.hard s.opening))) has (λ files h.
    let sound : IsSound s h.gate = record { shut = h.shut; hard = h.hard; opening = h.opening } in
    goes_on v v w (OnlyOn v g.file (Stands s.hard s.opening))
    (started v (OnlyOn v g.file (Stands s.hard s.opening)) (λ c now. here_stands v g s files c h now)) call
    (λ c now.
    let from = call.images c now in
    let im = appended_image s [] h.gate h.tail h.tail g.synced at n (from.0 g.file) (c g.file) (omega (arith, at_is, h.end)) (h.images from.0 from.1) from.2.here in
    only_from v g.file (Stands s.hard s.opening) from.0 c from.1 (stands_is s h.gate h.tail (c g.file) sound im) from.2.others))
  where
    stands_is : (s : State) (gate : ℕ) (tail bytes : List ℕ) → IsSound s gate → IsImage (appended s []) gate tail false bytes → Stands s.hard s.opening bytes
    stands_is s gate tail bytes sound im = image_stands (appended s []) gate tail false bytes (record { shut = sound.shut; hard = sound.hard; opening = sound.opening }) im
