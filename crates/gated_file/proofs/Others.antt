-- A gated file stays as it is while other files change.
use Rattle.std.specs.VecDeque.{deque_capacity}
use Rattle.std.proofs.Common.{◌≡◌, ℕ, ◌+◌, ◌*◌, ◌<◌, ◌≤◌, ◌^◌, min, length, vec_capacity, arith, List, IfSome, IsSomeAnd, sym, ◌∙◌, ap, subst, Bool, Option, Some, None}
use Rattle.disk_defs.specs.Disk.{Files, View, Reads, RoomAdded}
use Rattle.disk_defs.specs.Frames.{SameOutside, OthersStay}
use Rattle.disk_defs.proofs.Told.{reads_after, has_after, weaker_told}
use Rattle.gated_file.specs.State.{State, IsImage}
use Rattle.gated_file.specs.Gated.{Holds, HasState, IsReady}
use Rattle.gated_file.specs.declared.gated.Gated.{Gated}
use Rattle.gated_file.proofs.Steps.{holds_by}

module _ (v w : View) (F : ℕ → Type 0) (g : Gated) (stays : OthersStay F v w) (ne : F g.file → ⊥) where
  holds_still : (s : State) (a b : Files) → Holds v g s a → SameOutside F a b → Holds w g s b
  holds_still s a b h same = holds_by w g s b h.gate h.tail h.shut (same g.file ne ∙ h.text)
      (λ c now. let from = stays.images c now in subst (λ (l : List ℕ). IsImage s h.gate h.tail g.synced l) (sym (from.2 g.file ne)) (h.images from.0 from.1))
      h.hard h.opening h.closed h.end h.places

  pub state_stays : (s : State) → HasState v g s → HasState w g s
  state_stays s has = has_after v.content w.content (SameOutside F) (Holds v g s) (Holds w g s) stays.content has (λ a b h same. holds_still s a b h same)

  pub ready_stays : IsReady v g → IsReady w g
  ready_stays ready = record {
    state = reads_after v.content w.content (SameOutside F) (λ a. (s : State) × Holds v g s a) (λ b. (s : State) × Holds w g s b) stays.content ready.state (λ a b has same. (has.0, holds_still has.0 a b has.1 same));
    room = stays.room g.file ne _ _ ready.room;
    gates = ready.gates;
    buffer = ready.buffer;
    places = ready.places;
  }

-- a file with more room
pub more_holds : (v w : View) (g h : Gated) → Reads v w → h.file ≡ g.file → h.end ≡ g.end → h.closed.items ≡ g.closed.items → h.synced ≡ g.synced → (s : State) (a : Files) → Holds v g s a → Holds w h s a
more_holds v w g h reads file_is end_is closed_is synced_is s a hs =
    holds_by w h s a hs.gate hs.tail hs.shut (ap a file_is ∙ hs.text)
    (λ c now.
    let from = reads.passes.images c now in
    let same : from.0 g.file ≡ c h.file = sym (ap c file_is ∙ ap (λ (x : Files). x g.file) from.2) in
    subst (λ (b : Bool). IsImage s hs.gate hs.tail b (c h.file)) (sym synced_is) (subst (λ (l : List ℕ). IsImage s hs.gate hs.tail g.synced l) same (hs.images from.0 from.1)))
    hs.hard hs.opening hs.closed (end_is ∙ hs.end) (closed_is ∙ hs.places)

pub more_room : (v w : View) (g h : Gated) → Reads v w → h.file ≡ g.file → h.end ≡ g.end → h.closed.items ≡ g.closed.items → h.synced ≡ g.synced → (s : State) → HasState v g s → HasState w h s
more_room v w g h reads file_is end_is closed_is synced_is s has =
    subst (λ o. IsSomeAnd o (Holds w h s)) (sym reads.content) (some_weaker v.content (Holds v g s) (Holds w h s) has (λ a hs. more_holds v w g h reads file_is end_is closed_is synced_is s a hs))
  where
    some_weaker : (o : Option Files) (P Q : Files → Type 0) → IsSomeAnd o P → ((f : Files) → P f → Q f) → IsSomeAnd o Q
    some_weaker None P Q p k = p
    some_weaker (Some f) P Q p k = k f p

-- What `reserve` does.
pub record Reserves (v w : View) (g h : Gated) (bodies bytes : ℕ) : Type 0 where
  pub file : h.file ≡ g.file
  pub end : h.end ≡ g.end
  pub closed : h.closed.items ≡ g.closed.items
  pub synced : h.synced ≡ g.synced
  pub bodies_left : h.bodies_left ≡ g.bodies_left + bodies
  pub bytes_left : h.bytes_left ≡ g.bytes_left + bytes
  pub syncs_left : h.syncs_left ≡ g.syncs_left + 2 * bodies
  pub gates : length g.closed.items + h.bodies_left ≤ deque_capacity h.closed
  pub buffer : min h.bytes_left 1048576 + 5 ≤ vec_capacity h.buffer
  pub near : (h.end < 2 ^ 59) × (h.bodies_left < 2 ^ 59) × (h.bytes_left < 2 ^ 59)
  pub reads : Reads v w
  pub added : RoomAdded g.file (4 * bodies) (bytes + 6 * bodies) v w

room_grown : (v w : View) (file more_calls more_bytes calls bytes calls_now bytes_now : ℕ) → RoomAdded file more_calls more_bytes v w → v.has_room file calls bytes → calls_now ≡ calls + more_calls → bytes_now ≡ bytes + more_bytes → w.has_room file calls_now bytes_now
room_grown v w file more_calls more_bytes calls bytes calls_now bytes_now added room calls_is bytes_is =
    subst (λ (k : ℕ). w.has_room file k bytes_now) (sym calls_is) (subst (λ (k : ℕ). w.has_room file (calls + more_calls) k) (sym bytes_is) (added.added calls bytes room))

pub ready_reserved : (v w : View) (g h : Gated) (bodies bytes : ℕ) → Reserves v w g h bodies bytes → IsReady v g → IsReady w h
ready_reserved v w g h bodies bytes call ready =
    let same : length h.closed.items ≡ length g.closed.items = ap length call.closed in
    record {
      state = subst (λ o. IfSome o (λ a. (s : State) × Holds w h s a)) (sym call.reads.content)
          (weaker_told v.content (λ a. (s : State) × Holds v g s a) (λ a. (s : State) × Holds w h s a) ready.state (λ a has. (has.0, more_holds v w g h call.reads call.file call.end call.closed call.synced has.0 a has.1)));
      room = subst (λ (f : ℕ). w.has_room f (2 * h.bodies_left + length h.closed.items + h.syncs_left) (h.bytes_left + 6 * h.bodies_left + length h.closed.items)) (sym call.file)
          (room_grown v w g.file (4 * bodies) (bytes + 6 * bodies) _ _ _ _ call.added ready.room (omega (arith, same, call.bodies_left, call.syncs_left)) (omega (arith, same, call.bodies_left, call.bytes_left)));
      gates = omega (arith, same, call.gates);
      buffer = call.buffer;
      places = omega (arith, call.near.0, call.near.1, call.near.2);
    }
