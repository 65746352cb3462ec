-- What a sync and an opened gate make of a gated file.
use Rattle.std.proofs.Common.{◌≡◌, ℕ, ◌+◌, ◌*◌, vec_capacity, ◌≤◌, Bool, List, [], ◌∷◌, ◌++◌, length, drop, get_or, IfSome, IsSomeAnd, true, refl, sym, ◌∙◌, ap, subst, arith, append_assoc, length-append}
use Rattle.std.proofs.lemmas.List.{append-nil}
use Rattle.std.specs.List.{AllByRecursion}
use Rattle.std.specs.VecDeque.{deque_capacity}
use Rattle.disk_defs.specs.Disk.{Files, View, Image, IsLawful, OnFile, Passes, ReadsAfter, AtEachMoment, written, Torn, RoomUsed, IsDurable}
use Rattle.disk_defs.specs.Frames.{Only, OnlyOn, OthersStay}
use Rattle.disk_defs.proofs.Told.{with_told, weaker_told, both_told, both_weak, reads_after, has_after}
use Rattle.disk_defs.specs.Gates.{Body, framed, spelled, IsBody, Stands}
use Rattle.disk_defs.proofs.Texts.{length-framed, stands_more}
use Rattle.disk_defs.proofs.Moments.{started, goes_on, only_then}
use Rattle.disk_defs.proofs.Frames.{others_then}
use Rattle.gated_file.specs.State.{State, shut, ones, text_with, text, IsImage, place, places, synced, opened_one, opened_all}
use Rattle.gated_file.specs.Gated.{Holds, HasState, IsReady}
use Rattle.gated_file.specs.declared.gated.Gated.{Gated}
use Rattle.gated_file.proofs.Pieces.{torn_one, written_behind, text_behind, length-text_with, length-ones, shut_first, length-shut, spelled_push, spelled-append, spelled_with_push, ones_push}
use Rattle.gated_file.proofs.Steps.{room_step, IsSound, image_stands, holds_by, text_synced, text_image, all_append, only_from, only_now}

place_synced : (s : State) → place (synced s) ≡ place s
place_synced s = omega (arith, ap length (spelled-append 1 s.hard s.opening), length-append (spelled 1 s.hard) (spelled 1 s.opening))

-- What a sync does.
pub record Syncs (v w : View) (g h : Gated) : Type 0 where
  pub file : h.file ≡ g.file
  pub end : h.end ≡ g.end
  pub closed : h.closed ≡ g.closed
  pub buffer : h.buffer ≡ g.buffer
  pub bodies_left : h.bodies_left ≡ g.bodies_left
  pub bytes_left : h.bytes_left ≡ g.bytes_left
  pub syncs_left : h.syncs_left + 1 ≡ g.syncs_left
  pub content : w.content ≡ v.content
  pub durable : IfSome v.content (λ files. IsDurable w g.file (files g.file))
  pub used : RoomUsed g.file 0 v w

module _ (v w : View) (g h : Gated) (call : Syncs v w g h) where
  holds_synced : (s : State) (a : Files) → Holds v g s a → IsDurable w g.file (a g.file) → Holds w h (synced s) a
  holds_synced s a hs durable =
      let reads : a h.file ≡ text (synced s) hs.gate hs.tail = ap a call.file ∙ hs.text ∙ text_synced s hs.gate hs.tail in
      holds_by w h (synced s) a hs.gate hs.tail hs.shut reads
      (λ c now. text_image (synced s) hs.gate hs.tail h.synced (c h.file) (ap c call.file ∙ durable c now ∙ sym (ap a call.file) ∙ reads))
      (all_append s.hard s.opening hs.hard hs.opening) tt hs.closed
      (omega (arith, call.end, hs.end, place_synced s))
      (ap (λ q. q.items) call.closed ∙ hs.places ∙ ap (λ (n : ℕ). places n s.closed) (sym (place_synced s)))

  pub has_synced : (s : State) → HasState v g s → HasState w h (synced s)
  has_synced s has = subst (λ o. IsSomeAnd o (Holds w h (synced s))) (sym call.content)
      (both_told v.content (Holds v g s) (λ files. IsDurable w g.file (files g.file)) (Holds w h (synced s)) has call.durable (λ a holds durable. holds_synced s a holds durable))

  pub ready_synced : IsReady v g → IsReady w h
  ready_synced ready =
      let same : length h.closed.items ≡ length g.closed.items = ap (λ q. length q.items) call.closed in
      record {
        state = subst (λ o. IfSome o (λ b. (s : State) × Holds w h s b)) (sym call.content)
            (both_weak v.content (λ a. (s : State) × Holds v g s a) (λ files. IsDurable w g.file (files g.file)) (λ b. (s : State) × Holds w h s b) ready.state call.durable
            (λ a has durable. (synced has.0, holds_synced has.0 a has.1 durable)));
        room = subst (λ (f : ℕ). w.has_room f (2 * h.bodies_left + length h.closed.items + h.syncs_left) (h.bytes_left + 6 * h.bodies_left + length h.closed.items)) (sym call.file)
            (room_step v w g.file 0 _ _ _ _ call.used ready.room (omega (arith, call.bodies_left, call.syncs_left, same)) (omega (arith, call.bodies_left, call.bytes_left, same)));
        gates = omega (arith, call.bodies_left, ready.gates, same, ap deque_capacity call.closed);
        buffer = omega (arith, call.bytes_left, ready.buffer, ap vec_capacity call.buffer);
        places = omega (arith, call.end, call.bodies_left, call.bytes_left, ready.places);
      }

-- the first of the closed gates
pub record First (s : State) (p : ℕ) (rest : List ℕ) : Type 0 where
  pub body : Body
  pub bodies : List Body
  pub closed : s.closed ≡ body ∷ bodies
  pub at : p ≡ place s
  pub rest_are : rest ≡ places (place s + 5 + length body) bodies

first_of : (at : ℕ) (closed : List Body) (p : ℕ) (rest : List ℕ) → p ∷ rest ≡ places at closed → (body : Body) × (bodies : List Body) × (closed ≡ body ∷ bodies) × (p ≡ at) × (rest ≡ places (at + 5 + length body) bodies)
first_of at [] p rest is = absurd (cc)
first_of at (body ∷ bodies) p rest is = (body, bodies, refl, (cc), (cc))

pub first : (s : State) (p : ℕ) (rest : List ℕ) → p ∷ rest ≡ places (place s) s.closed → First s p rest
first s p rest is = let f = first_of (place s) s.closed p rest is in record { body = f.0; bodies = f.1; closed = f.2; at = f.3; rest_are = f.4 }

-- one more record behind a gate of its own
text_push : (sure : List Body) (gates : List ℕ) (more : List Body) (gate : ℕ) (body : Body) (rest : List ℕ) → length gates ≡ length more
    → text_with sure (gates ++ gate ∷ []) (more ++ body ∷ []) rest ≡ text_with sure gates more [] ++ gate ∷ (framed body ++ rest)
text_push sure gates more gate body rest same =
    ap (λ (l : List ℕ). spelled 1 sure ++ l) (spelled_with_push gates more gate body rest same) ∙ text_behind sure gates more [] (gate ∷ (framed body ++ rest))

opened_image : (s : State) (p : ℕ) (others : List ℕ) (f : First s p others) (gate : ℕ) (tail d c : List ℕ) → IsImage s gate tail true d → Torn p 1 d c → IsImage (opened_one s f.body f.bodies) 0 tail true c
opened_image s p others f gate tail d c im torn =
    let front = text_with s.hard im.gates s.opening [] in
    let back = framed f.body ++ shut 0 f.bodies tail in
    let behind : gate ∷ im.rest ≡ gate ∷ back = im.settled refl ∙ ap (λ (l : List Body). shut gate l tail) f.closed in
    let split : d ≡ front ++ gate ∷ back = im.is ∙ ap (text_with s.hard im.gates s.opening) behind ∙ text_behind s.hard im.gates s.opening [] (gate ∷ back) in
    let at_is : length front ≡ p = omega (arith, f.at, length-text_with s.hard im.gates s.opening [] im.same) in
    let kept : c ≡ front ++ get_or c p 0 ∷ back = torn_one front gate back c p at_is (subst (λ (x : List ℕ). Torn p 1 x c) split torn) in
    record {
      gates = im.gates ++ get_or c p 0 ∷ [];
      rest = drop 1 (shut 0 f.bodies tail);
      same = omega (arith, im.same, length-append im.gates (get_or c p 0 ∷ []), length-append s.opening (f.body ∷ []));
      is = kept ∙ sym (text_push s.hard im.gates s.opening (get_or c p 0) f.body (shut 0 f.bodies tail) im.same)
          ∙ ap (text_with s.hard (im.gates ++ get_or c p 0 ∷ []) (s.opening ++ f.body ∷ [])) (shut_first 0 f.bodies tail);
      settled = λ is. sym (shut_first 0 f.bodies tail);
    }

opened_text : (s : State) (p : ℕ) (others : List ℕ) (f : First s p others) (gate : ℕ) (tail file : List ℕ) → file ≡ text s gate tail → written file p (1 ∷ []) ≡ text (opened_one s f.body f.bodies) 0 tail
opened_text s p others f gate tail file reads =
    let gates = ones s.opening in
    let front = text_with s.hard gates s.opening [] in
    let back = framed f.body ++ shut 0 f.bodies tail in
    let split : file ≡ front ++ gate ∷ back = reads ∙ ap (λ (l : List Body). text_with s.hard gates s.opening (shut gate l tail)) f.closed ∙ text_behind s.hard gates s.opening [] (gate ∷ back) in
    let at_is : length front ≡ p = omega (arith, f.at, length-text_with s.hard gates s.opening [] (length-ones s.opening)) in
    ap (λ (x : List ℕ). written x p (1 ∷ [])) split
    ∙ written_behind front (gate ∷ back) (1 ∷ []) p at_is
    ∙ sym (text_push s.hard gates s.opening 1 f.body (shut 0 f.bodies tail) (length-ones s.opening))
    ∙ ap (λ (l : List ℕ). text_with s.hard l (s.opening ++ f.body ∷ []) (shut 0 f.bodies tail)) (sym (ones_push s.opening f.body))

-- What the opening of a gate does.
pub record Opens (v w : View) (g h : Gated) (p : ℕ) : Type 0 where
  pub file : h.file ≡ g.file
  pub end : h.end ≡ g.end
  pub closed : g.closed.items ≡ p ∷ h.closed.items
  pub deque : deque_capacity h.closed ≡ deque_capacity g.closed
  pub buffer : h.buffer ≡ g.buffer
  pub bodies_left : h.bodies_left ≡ g.bodies_left
  pub bytes_left : h.bytes_left ≡ g.bytes_left
  pub syncs_left : h.syncs_left ≡ g.syncs_left
  pub was_synced : g.synced ≡ true
  pub synced : h.synced ≡ true
  pub reads : ReadsAfter (OnFile g.file (λ old new. new ≡ written old p (1 ∷ []))) v.content w.content
  pub passes : Passes (OnFile g.file (Torn p 1)) v w
  pub used : RoomUsed g.file 1 v w

pub after_opened : (v : View) (g : Gated) (s : State) (a : Files) (p : ℕ) (rest : List ℕ) → g.closed.items ≡ p ∷ rest → Holds v g s a → First s p rest
after_opened v g s a p rest closed hs = first s p rest (sym closed ∙ hs.places)

module _ (v w : View) (g h : Gated) (p : ℕ) (call : Opens v w g h p) where
  holds_opened : (s : State) (a b : Files) (hs : Holds v g s a) → OnFile g.file (λ old new. new ≡ written old p (1 ∷ [])) a b
      → (f : First s p h.closed.items) → Holds w h (opened_one s f.body f.bodies) b
  holds_opened s a b hs wrote f =
      let t = opened_one s f.body f.bodies in
      let images : (c : Files) → Image w c → IsImage t 0 hs.tail h.synced (c h.file) = λ c now.
      let from = call.passes.images c now in
      let was : IsImage s hs.gate hs.tail true (from.0 g.file) = subst (λ (x : Bool). IsImage s hs.gate hs.tail x (from.0 g.file)) call.was_synced (hs.images from.0 from.1) in
      let im = opened_image s p h.closed.items f hs.gate hs.tail (from.0 g.file) (c g.file) was from.2.here in
      subst (λ (n : ℕ). IsImage t 0 hs.tail h.synced (c n)) (sym call.file) (subst (λ (x : Bool). IsImage t 0 hs.tail x (c g.file)) (sym call.synced) im) in
      let bodies : AllByRecursion IsBody (f.body ∷ f.bodies) = subst (AllByRecursion IsBody) f.closed hs.closed in
      let place_is : place t ≡ place s + 5 + length f.body = omega (arith, ap length (spelled_push 1 s.opening f.body), length-append (spelled 1 s.opening) (1 ∷ framed f.body), length-framed f.body) in
      let long : length (spelled 1 s.closed) ≡ 5 + length f.body + length (spelled 1 f.bodies) = omega (arith, ap (λ (l : List Body). length (spelled 1 l)) f.closed, length-append (framed f.body) (spelled 1 f.bodies), length-framed f.body) in
      holds_by w h t b 0 hs.tail (λ (is : 0 ≡ 1). absurd (omega arith))
      (ap b call.file ∙ wrote.here ∙ opened_text s p h.closed.items f hs.gate hs.tail (a g.file) hs.text)
      images hs.hard (all_append s.opening (f.body ∷ []) hs.opening (bodies.0, tt)) bodies.1
      (omega (arith, call.end, hs.end, place_is, long))
      (f.rest_are ∙ ap (λ (n : ℕ). places n f.bodies) (sym place_is))

  pub has_opened : (s : State) → HasState v g s → (body : Body) × (bodies : List Body) × (s.closed ≡ body ∷ bodies) × HasState w h (opened_one s body bodies)
  has_opened s has =
      let f : First s p h.closed.items = with_told v.content (Holds v g s) (First s p h.closed.items) has (λ a hs. after_opened v g s a p h.closed.items call.closed hs) in
      (f.body, f.bodies, f.closed, has_after _ _ _ (Holds v g s) (Holds w h (opened_one s f.body f.bodies)) call.reads has (λ a b holds wrote. holds_opened s a b holds wrote f))

  pub ready_opened : IsReady v g → IsReady w h
  ready_opened ready =
      let long : length g.closed.items ≡ length h.closed.items + 1 = omega (arith, ap length call.closed) in
      record {
        state = reads_after v.content w.content (OnFile g.file (λ old new. new ≡ written old p (1 ∷ []))) (λ a. (s : State) × Holds v g s a) (λ b. (s : State) × Holds w h s b) call.reads ready.state
            (λ a b has wrote.
            let f = after_opened v g has.0 a p h.closed.items call.closed has.1 in
            (opened_one has.0 f.body f.bodies, holds_opened has.0 a b has.1 wrote f));
        room = subst (λ (f : ℕ). w.has_room f (2 * h.bodies_left + length h.closed.items + h.syncs_left) (h.bytes_left + 6 * h.bodies_left + length h.closed.items)) (sym call.file)
            (room_step v w g.file 1 _ _ _ _ call.used ready.room (omega (arith, call.bodies_left, call.syncs_left, long)) (omega (arith, call.bodies_left, call.bytes_left, long)));
        gates = omega (arith, call.bodies_left, ready.gates, long, call.deque);
        buffer = omega (arith, call.bytes_left, ready.buffer, ap vec_capacity call.buffer);
        places = omega (arith, call.end, call.bodies_left, call.bytes_left, ready.places);
      }

-- the first closed gate lies in the file
pub first_inside : (v : View) (g : Gated) (p : ℕ) (rest : List ℕ) → g.closed.items ≡ p ∷ rest → IsReady v g → IfSome v.content (λ files. p ≤ length (files g.file))
first_inside v g p rest closed ready = weaker_told v.content (λ files. (s : State) × Holds v g s files) (λ files. p ≤ length (files g.file)) ready.state (λ files has.
    let s = has.0 in
    let h = has.1 in
    let f = after_opened v g s files p rest closed h in
    omega (arith, f.at, ap length h.text, length-text_with s.hard (ones s.opening) s.opening (shut h.gate s.closed h.tail) (length-ones s.opening), length-shut h.gate s.closed h.tail))

-- each image at each moment in which a gate is opened
pub open_moments : (v w : View) (g : Gated) (s : State) (p : ℕ) (rest : List ℕ) → g.closed.items ≡ p ∷ rest → g.synced ≡ true → Passes (OnFile g.file (Torn p 1)) v w → HasState v g s → AtEachMoment v w (OnlyOn v g.file (Stands s.hard (s.opening ++ s.closed)))
open_moments v w g s p rest closed was_synced call has =
    with_told v.content (Holds v g s) (AtEachMoment v w (OnlyOn v g.file (Stands s.hard (s.opening ++ s.closed)))) has (λ a h.
    let f = after_opened v g s a p rest closed h in
    let t = opened_one s f.body f.bodies in
    let all : t.opening ++ f.bodies ≡ s.opening ++ s.closed = append_assoc s.opening (f.body ∷ []) f.bodies ∙ ap (λ (l : List Body). s.opening ++ l) (sym f.closed) in
    let bodies : AllByRecursion IsBody (f.body ∷ f.bodies) = subst (AllByRecursion IsBody) f.closed h.closed in
    let sound : IsSound t 0 = record { shut = λ (is : 0 ≡ 1). absurd (omega arith); hard = h.hard; opening = all_append s.opening (f.body ∷ []) h.opening (bodies.0, tt) } in
    goes_on v v w (OnlyOn v g.file (Stands s.hard (s.opening ++ s.closed)))
    (started v (OnlyOn v g.file (Stands s.hard (s.opening ++ s.closed))) (λ c now. only_now v g.file (Stands s.hard (s.opening ++ s.closed)) c now (stands_more s.hard s.opening s.closed (c g.file) (h.stands c now)))) call
    (λ c now.
    let from = call.images c now in
    let was : IsImage s h.gate h.tail true (from.0 g.file) = subst (λ (x : Bool). IsImage s h.gate h.tail x (from.0 g.file)) was_synced (h.images from.0 from.1) in
    let im = opened_image s p rest f h.gate h.tail (from.0 g.file) (c g.file) was from.2.here in
    only_from v g.file (Stands s.hard (s.opening ++ s.closed)) from.0 c from.1
    (subst (λ (l : List Body). Stands s.hard l (c g.file)) all (stands_more s.hard t.opening f.bodies (c g.file) (image_stands t 0 h.tail true (c g.file) sound im)))
    from.2.others))

-- one opened gate more
pub open_more : (old mid new : View) (file mid_file : ℕ) (s t : State) → IsLawful mid → mid_file ≡ file → t.hard ≡ s.hard → t.opening ++ t.closed ≡ s.opening ++ s.closed
    → AtEachMoment old mid (OnlyOn old file (Stands s.hard (s.opening ++ s.closed))) → AtEachMoment mid new (OnlyOn mid mid_file (Stands t.hard (t.opening ++ t.closed))) → AtEachMoment old new (OnlyOn old file (Stands s.hard (s.opening ++ s.closed)))
open_more old mid new file mid_file s t lawful file_is hard_is all_is first second =
    only_then old mid new (Only file) (Only file) (λ c. Stands s.hard (s.opening ++ s.closed) (c file)) (λ c. Stands t.hard (t.opening ++ t.closed) (c file)) lawful (λ f is. is) first
    (subst (λ (f : ℕ). AtEachMoment mid new (OnlyOn mid f (Stands t.hard (t.opening ++ t.closed)))) file_is second)
    (λ d c was p same q. subst (λ (l : List Body). Stands l (s.opening ++ s.closed) (c file)) hard_is (subst (λ (l : List Body). Stands t.hard l (c file)) all_is q))

-- the state goes on from an opened gate to the next
pub open_next : (w : View) (h : Gated) (s t : State) → t.hard ≡ s.hard → t.opening ++ t.closed ≡ s.opening ++ s.closed
    → (body : Body) × (bodies : List Body) × (t.closed ≡ body ∷ bodies) × HasState w h (opened_one t body bodies)
    → (u : State) × HasState w h u × (u.hard ≡ s.hard) × (u.opening ++ u.closed ≡ s.opening ++ s.closed)
open_next w h s t hard_is all_is o =
    (opened_one t o.0 o.1, o.3, hard_is, append_assoc t.opening (o.0 ∷ []) o.1 ∙ ap (λ (l : List Body). t.opening ++ l) (sym o.2) ∙ all_is)

none_closed : (at : ℕ) (closed : List Body) (items : List ℕ) → items ≡ places at closed → length items ≡ 0 → closed ≡ []
none_closed at [] items is none = refl
none_closed at (body ∷ bodies) items is none = absurd (omega (arith, ap length is))

-- where no gate is closed, all are opened
pub open_done : (v : View) (g : Gated) (s t : State) → length g.closed.items ≡ 0 → HasState v g t → t.hard ≡ s.hard → t.opening ++ t.closed ≡ s.opening ++ s.closed → HasState v g (opened_all s)
open_done v g s t none has hard_is all_is =
    let closed_is : t.closed ≡ [] = with_told v.content (Holds v g t) (t.closed ≡ []) has (λ a h. none_closed (place t) t.closed g.closed.items h.places none) in
    let opening_is : t.opening ≡ s.opening ++ s.closed = sym (append-nil t.opening) ∙ ap (λ (l : List Body). t.opening ++ l) (sym closed_is) ∙ all_is in
    subst (λ (l : List Body). HasState v g (record { hard = l; opening = s.opening ++ s.closed; closed = [] })) hard_is
    (subst (λ (l : List Body). HasState v g (record { hard = t.hard; opening = l; closed = [] })) opening_is
    (subst (λ (l : List Body). HasState v g (record { hard = t.hard; opening = t.opening; closed = l })) closed_is has))

pub here_more : (v : View) (g : Gated) (s : State) → HasState v g s → AtEachMoment v v (OnlyOn v g.file (Stands s.hard (s.opening ++ s.closed)))
here_more v g s has = with_told v.content (Holds v g s) (AtEachMoment v v (OnlyOn v g.file (Stands s.hard (s.opening ++ s.closed)))) has (λ a h.
    started v (OnlyOn v g.file (Stands s.hard (s.opening ++ s.closed))) (λ c now. only_now v g.file (Stands s.hard (s.opening ++ s.closed)) c now (stands_more s.hard s.opening s.closed (c g.file) (h.stands c now))))

pub others_next : (u v w : View) (file mid_file : ℕ) → mid_file ≡ file → OthersStay (Only file) u v → OthersStay (Only mid_file) v w → OthersStay (Only file) u w
others_next u v w file mid_file is first second = others_then (Only file) u v w first (subst (λ (f : ℕ). OthersStay (Only f) v w) is second)
