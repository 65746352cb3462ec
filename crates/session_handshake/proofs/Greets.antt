-- A connection from its making to its answer, or to its giving back.
use Rattle.std.proofs.Common.{◌≡◌, ◌⊎◌, inl, inr, ℕ, ◌+◌, ◌^◌, ◌<◌, ◌≤◌, Bool, true, false, IsTrue, nat_lt, Option, None, Result, Ok, Err, IfErr, OnOk, List, [], ◌∷◌, ◌++◌, map, refl, sym, ap, subst, ◌∙◌, arith, append_assoc}
use Rattle.global_defs.specs.declared.limits.TheConstants.{NUMBERS_END}
use Rattle.global_defs.specs.Entry.{Globals}
use Rattle.global_defs.specs.Prefix as prefix
use Rattle.global_defs.specs.Prefix.{IsPrefix}
use Rattle.wire_defs.specs.Frames.{Frame, spelled_frame}
use Rattle.wire_defs.specs.Links as links
use Rattle.wire_defs.specs.Links.{Linking, Sending, Receiving, Past, KnowAll, SendingLooked, ReceivingLooked, IsNewDirection, ConnectionMade, CutsAdded, was_cut, past_of, all_cuts, first_order}
use Rattle.ship_defs.specs.Arrivals.{Arrival}
use Rattle.ship_defs.specs.Hearing as ship
use Rattle.ship_defs.specs.Hearing.{Purpose, Asks, Heard, IsOver, unbegun, IsBadFromPrimary, EndsFromPrimary}
use Rattle.ship_defs.specs.Greeting.{IsHello, IsAnswer, IsBadToPrimary, GreetsWith, carried, greeting}
use Rattle.receiver_server.specs.declared.step.Handshake.{Handshake}
use Rattle.receiver_server.specs.declared.step.Handshake.TheVariants as handshake
use Rattle.receiver_server.specs.Answers.{answer_frame}
use Rattle.receiver_server.specs.Hearings.{behind}
use Rattle.receiver_server.specs.Listenings.{Listening, IsHearing, IsQuiet, IsUnfitBehind, HavePlaces}
use Rattle.receiver_server.proofs.Told.{bad_all, whole_all, all_heard}
use Rattle.session_handshake.specs.Answering.{IsGreetedBy, HasAnswer, AwaitsAnswer}
use Rattle.session_handshake.specs.declared.connection.GreetError.{GreetError}
use Rattle.session_handshake.specs.declared.connection.GreetError.TheVariants.{BadFrame}
use Rattle.session_handshake.specs.Exchanges.{Views, SameEnds, Carries, Gets, HasAsked, HasAnswered, HasBadAnswer, cuts_of}
use Rattle.session_handshake.specs.Connections.{WereMade, IsBegun, IsOpen, IsBadOver, asking, past_of_views}
use Rattle.session_handshake.proofs.Made.{made_settled}
use Rattle.session_handshake.proofs.Told.{hello_told, answer_told, answer_form, bad_hello, never_unfit, not_closed, greets_it}

-- over a new connection nothing was sent yet

pub carries_new : (a b : Linking) (s : ℕ) (order : Option ℕ) (tx : Sending) (rx : Receiving) (bytes : List ℕ) → b.told ≡ a.told → IsNewDirection a s order tx rx → Carries b.told bytes tx bytes
carries_new a b s order tx rx bytes e d = record {
  told_is = d.told.0 ∙ sym e;
  going = λ t. ((d.nothing_sent (sym e ∙ t)).1, (d.all_free (sym e ∙ t)).1);
  sent = λ t. ap (λ (l : List ℕ). l ++ bytes) (d.nothing_sent (sym e ∙ t)).0;
}

pub gets_new : (a b : Linking) (s : ℕ) (order : Option ℕ) (tx : Sending) (rx : Receiving) → b.told ≡ a.told → b.shown ≡ a.shown → IsNewDirection a s order tx rx → Gets b.told b.shown rx []
gets_new a b s order tx rx e f d = record {
  told_is = d.told.1 ∙ sym e;
  shown_is = d.told.2 ∙ sym f;
  closed = d.nothing_answered;
  received_is = λ t. d.nothing_received (sym f ∙ t);
}

pub cuts_new : (a b : Linking) (s : ℕ) (v : Views) → IsBegun a b s v → cuts_of v ≡ 0
cuts_new a b s v x = let p = x.from_primary.cuts in let q = x.to_primary.cuts in omega (arith, p.0, p.1, q.0, q.1)

-- the ends once the answer was heard
pub is_open : (a b : Linking) (s : ℕ) (v w u : Views) → IsBegun a b s v → SameEnds v w → SendingLooked w.up_tx u.up_tx → ReceivingLooked w.up_rx u.up_rx → SendingLooked w.down_tx u.down_tx → ReceivingLooked w.down_rx u.down_rx
    → cuts_of w ≡ 0 → w.up_rx.closed ≡ false → w.down_rx.closed ≡ false → (IsTrue b.told → (w.up_tx.finished ≡ false) × (0 < w.up_tx.places) × (w.down_tx.finished ≡ false)) → IsOpen a b s u
is_open a b s v w u x same ut ur dt dr zero up down going =
    let f = x.from_primary in
    let t = x.to_primary in
    let e1 = ut.cuts in
    let e2 = ur.cuts in
    let e3 = dt.cuts in
    let e4 = dr.cuts in
    record {
      made = x.made;
      one = (ut.same.connection ∙ (same.up_tx.connection ∙ f.connections.0)) ∙ sym (dt.same.connection ∙ (same.down_tx.connection ∙ t.connections.0));
      own_tx = (ut.same.session ∙ (same.up_tx.session ∙ f.sessions.0), dt.same.session ∙ (same.down_tx.session ∙ t.sessions.0));
      own_rx = (ur.same.session ∙ (same.up_rx.session ∙ t.sessions.1), dr.same.session ∙ (same.down_rx.session ∙ f.sessions.1));
      told_tx = (ut.same.told ∙ (same.up_tx.told ∙ f.told.0), dt.same.told ∙ (same.down_tx.told ∙ t.told.0));
      told_rx = (ur.same.told ∙ (same.up_rx.told ∙ t.told.1), dr.same.told ∙ (same.down_rx.told ∙ f.told.1));
      shown = (ur.same.shown ∙ (same.up_rx.shown ∙ t.told.2), dr.same.shown ∙ (same.down_rx.shown ∙ f.told.2));
      order = (ut.same.order ∙ (same.up_tx.order ∙ f.orders.0), dr.same.order ∙ (same.down_rx.order ∙ f.orders.1));
      uncut = omega (arith, e1, e2, e3, e4, zero);
      closed = (ur.closed ∙ up, dr.closed ∙ down);
      no_order = (dt.same.order ∙ (same.down_tx.order ∙ t.orders.0), ur.same.order ∙ (same.up_rx.order ∙ t.orders.1));
      going = λ y. let z = going (x.made.told ∙ y) in (ut.finished ∙ z.0, omega (arith, ut.same.places, z.1), dt.finished ∙ z.2);
    }

-- Over links that tell their bytes: the secondary's HELLO is admitted, the answer is the primary's to it, and all of it was sent.
pub answer_is : (theirs mine : prefix.History) (name : List ℕ) (told shown : Bool) (w u : Views) (begun : Heard) (s : Listening) (put : List Arrival) (free : ℕ) (heard answer : Handshake) → mine.length < NUMBERS_END → IsTrue told → IsTrue shown
    → HasAsked (greeting name mine) told w → HasAnswered theirs told shown w answer → HasAnswer begun s shown w.down_rx.received put free heard
    → SendingLooked w.up_tx u.up_tx → ReceivingLooked w.up_rx u.up_rx → SendingLooked w.down_tx u.down_tx → ReceivingLooked w.down_rx u.down_rx → KnowAll u.up_tx u.down_rx → KnowAll u.down_tx u.up_rx
    → IsHello (greeting name mine) × IsAnswer theirs (carried mine) (answer_frame heard) × (u.up_tx.sent ≡ spelled_frame (answer_frame heard))
answer_is theirs mine name told shown w u begun s put free heard answer few t y asked answered has ut ur dt dr up down =
    let to : w.up_rx.received ++ u.up_rx.unread ≡ w.down_tx.sent = ap (λ (l : List ℕ). l ++ u.up_rx.unread) (sym ur.received) ∙ (down.unread ∙ dt.sent) in
    let from : w.down_rx.received ++ u.down_rx.unread ≡ w.up_tx.sent = ap (λ (l : List ℕ). l ++ u.down_rx.unread) (sym dr.received) ∙ (up.unread ∙ ut.sent) in
    let h = hello_told theirs mine name w.up_rx.received u.up_rx.unread asked.left w.down_tx.sent (answer_frame answer) asked.form to (asked.carries.sent t) (answered.greeted y) in
    let form = answer_form theirs (carried mine) (answer_frame answer) few h.1 in
    let a = answer_told (answer_frame heard) (answer_frame answer) begun s w.down_rx.received u.down_rx.unread answered.left w.up_tx.sent form from (answered.carries.sent t) (has.hears y) in
    (h.0, subst (λ (f : Frame). IsAnswer theirs (carried mine) f) (sym a.0) h.1, ut.sent ∙ a.1)

-- where a connection's bytes are bad

answers_fit : (g : Globals) (frames : List Handshake) → HavePlaces g (map answer_frame frames)
answers_fit g [] = tt
answers_fit g (handshake.Resume n ∷ frames) = (tt, answers_fit g frames)
answers_fit g (handshake.RollbackFirst n ∷ frames) = (tt, answers_fit g frames)

pub bad_over : (theirs mine : prefix.History) (told shown : Bool) (p : Purpose) (v : Views) (x : Past) (offset : ℕ) → x.to_primary ≡ v.up_rx.received → x.secondary_ended ≡ v.up_rx.closed → x.from_primary ≡ v.down_rx.received → x.primary_ended ≡ v.down_rx.closed
    → (IsBadToPrimary v.up_rx.received v.up_rx.closed offset) ⊎ HasBadAnswer theirs told shown p (unbegun mine) v offset → IsBadOver p mine x offset
bad_over theirs mine told shown p v x offset e1 e2 e3 e4 (inl bad) = inl (subst (λ (l : List ℕ). IsBadToPrimary l x.secondary_ended offset) (sym e1) (subst (λ (b : Bool). IsBadToPrimary v.up_rx.received b offset) (sym e2) bad))
bad_over theirs mine told shown p v x offset e1 e2 e3 e4 (inr bad) = inr (λ g.
    subst (λ (l : List ℕ). IsBadFromPrimary p (asking mine g) l x.primary_ended offset) (sym e3)
    (subst (λ (b : Bool). IsBadFromPrimary p (asking mine g) v.down_rx.received b offset) (sym e4)
    (bad_all p (unbegun mine) g (map answer_frame bad.frames) v.down_rx.received v.down_rx.closed offset bad.unfit (answers_fit g bad.frames))))

-- over links that tell their bytes it is the HELLO that isn't admitted
pub bad_is : (theirs mine : prefix.History) (name : List ℕ) (told shown : Bool) (p : Purpose) (v : Views) (offset : ℕ) → mine.length < NUMBERS_END → IsTrue told → IsTrue shown → HasAsked (greeting name mine) told v
    → links.Carries v.up_tx v.down_rx → links.Carries v.down_tx v.up_rx
    → (IsBadToPrimary v.up_rx.received v.up_rx.closed offset) ⊎ HasBadAnswer theirs told shown p (unbegun mine) v offset → (offset ≡ 0) × (IsHello (greeting name mine) → ⊥)
bad_is theirs mine name told shown p v offset few t y asked up down (inl bad) =
    let closed = not_closed told (spelled_frame (greeting name mine)) asked.left v.down_tx v.up_rx t asked.carries down in
    let all : v.up_rx.received ++ (down.prefix.0 ++ asked.left) ≡ spelled_frame (greeting name mine)
    = sym (append_assoc v.up_rx.received down.prefix.0 asked.left) ∙ (ap (λ (l : List ℕ). l ++ asked.left) (sym down.prefix.1) ∙ asked.carries.sent t) in
    bad_hello (greeting name mine) v.up_rx.received (down.prefix.0 ++ asked.left) offset asked.form all (subst (λ (b : Bool). IsBadToPrimary v.up_rx.received b offset) closed bad)
bad_is theirs mine name told shown p v offset few t y asked up down (inr bad) =
    let closed = not_closed told (spelled_frame (answer_frame bad.answer)) bad.answered.left v.up_tx v.down_rx t bad.answered.carries up in
    let h = hello_told theirs mine name v.up_rx.received down.prefix.0 asked.left v.down_tx.sent (answer_frame bad.answer) asked.form (sym down.prefix.1) (asked.carries.sent t) (bad.answered.greeted y) in
    let all : v.down_rx.received ++ (up.prefix.0 ++ bad.answered.left) ≡ spelled_frame (answer_frame bad.answer)
    = sym (append_assoc v.down_rx.received up.prefix.0 bad.answered.left) ∙ (ap (λ (l : List ℕ). l ++ bad.answered.left) (sym up.prefix.1) ∙ bad.answered.carries.sent t) in
    absurd (never_unfit p theirs mine (answer_frame bad.answer) (map answer_frame bad.frames) v.down_rx.received (up.prefix.0 ++ bad.answered.left) offset few h.1 all
    (subst (λ (b : Bool). IsUnfitBehind p (unbegun mine) (map answer_frame bad.frames) v.down_rx.received b offset) closed bad.unfit))

-- a HELLO that is admitted is all that came
pub greeted_with : (theirs : prefix.History) (bytes : List ℕ) (answer : Frame) → (g : IsGreetedBy theirs bytes answer) → (hello : Frame) × GreetsWith bytes hello
greeted_with theirs bytes answer g = (g.hello, subst (λ (l : List ℕ). GreetsWith l g.hello) (sym g.is) (greets_it g.hello g.form g.admitted))

-- where a secondary only asks, the answer is the last frame

over_behind : (h : Heard) (a : Handshake) → (behind Asks h (answer_frame a)).last ≡ ship.Over
over_behind h (handshake.Resume n) = refl
over_behind h (handshake.RollbackFirst n) = refl

pub over_of : (s : Listening) (h : Heard) (a : Handshake) → s.heard ≡ behind Asks h (answer_frame a) → s.heard.last ≡ ship.Over
over_of s h a e = ap (λ (x : Heard). x.last) e ∙ over_behind h a

is_over : (l : ship.Last) → l ≡ ship.Over → IsOver l
is_over l e = subst IsOver (sym e) tt

one_fits : (g : Globals) (a : Handshake) → HavePlaces g (answer_frame a ∷ [])
one_fits g (handshake.Resume n) = (tt, tt)
one_fits g (handshake.RollbackFirst n) = (tt, tt)

-- an answer that is the last frame
pub ends_answered : (p : Purpose) (mine : prefix.History) (s : Listening) (received : List ℕ) (a : Handshake) → s.purpose ≡ p → s.heard.last ≡ ship.Over → IsQuiet s → IsHearing (unbegun mine) s received [] (answer_frame a ∷ [])
    → (g : Globals) → EndsFromPrimary p (asking mine g) received (answer_frame a)
ends_answered p mine s received a is over quiet h g =
    let all = all_heard (unbegun mine) s received [] (answer_frame a ∷ []) h quiet in
    subst (λ (q : Purpose). EndsFromPrimary q (asking mine g) received (answer_frame a)) is
    (whole_all s.purpose (unbegun mine) s.heard g [] (answer_frame a) received all h.admitted (is_over s.heard.last over) (one_fits g a))

-- facts of a call whatever it answers

pub on_ok : {T E : Type 0} (r : Result T E) (A : Type 0) → A → OnOk r A
on_ok (Ok x) A a = a
on_ok (Err e) A a = tt

pub with_asked : {T : Type 0} (r : Result T GreetError) (A S : Type 0) (X : ℕ → Type 0) → A → (S → IfErr r (λ e. (offset : ℕ) → e ≡ BadFrame offset → X offset)) → IfErr r (λ e. (offset : ℕ) → e ≡ BadFrame offset → A × (S → X offset))
with_asked (Ok x) A S X a f = tt
with_asked (Err e) A S X a f = λ offset is. (a, λ s. f s offset is)

pub awaits_any : (s : Listening) (put : List Arrival) (free : ℕ) (shown : Bool) → AwaitsAnswer s true [] put free → AwaitsAnswer s shown [] put free
awaits_any s put free shown w = record { begun = w.begun; fresh = w.fresh; rest = w.rest; hears = λ _. w.hears refl; place = λ _. w.place refl }

-- the ends are given back

-- an end that tells its bytes was never found cut without an order
abbrev pub IsOrderedTx : Sending → Type 0
IsOrderedTx t = IsTrue t.told → t.order ≡ None → t.cuts ≡ 0

abbrev pub IsOrderedRx : Receiving → Type 0
IsOrderedRx r = IsTrue r.told → r.order ≡ None → r.cuts ≡ 0

abbrev pub AreOrdered : Views → Type 0
AreOrdered v = IsOrderedTx v.up_tx × IsOrderedRx v.up_rx × IsOrderedTx v.down_tx × IsOrderedRx v.down_rx

-- What ends of a connection of a session are like: they tell what links do, and one direction may have the session's first order.
pub record HaveOrder (from : Linking) (s : ℕ) (v : Views) : Type 0 where
  pub told_up : (v.up_tx.told ≡ from.told) × (v.down_rx.told ≡ from.told)
  pub told_down : (v.down_tx.told ≡ from.told) × (v.up_rx.told ≡ from.told)
  pub up : (v.up_tx.order ≡ first_order (from.orders s)) × (v.down_rx.order ≡ first_order (from.orders s))
  pub down : (v.down_tx.order ≡ None) × (v.up_rx.order ≡ None)

pub begun_order : (from a : Linking) (s : ℕ) (v w : Views) → IsBegun from a s v → SameEnds v w → HaveOrder from s w
begun_order from a s v w x same = record {
  told_up = (same.up_tx.told ∙ x.from_primary.told.0, same.down_rx.told ∙ x.from_primary.told.1);
  told_down = (same.down_tx.told ∙ x.to_primary.told.0, same.up_rx.told ∙ x.to_primary.told.1);
  up = (same.up_tx.order ∙ x.from_primary.orders.0, same.down_rx.order ∙ x.from_primary.orders.1);
  down = (same.down_tx.order ∙ x.to_primary.orders.0, same.up_rx.order ∙ x.to_primary.orders.1);
}

pub open_order : (from a : Linking) (s : ℕ) (v w : Views) → IsOpen from a s v → SameEnds v w → HaveOrder from s w
open_order from a s v w x same = record {
  told_up = (same.up_tx.told ∙ x.told_tx.0, same.down_rx.told ∙ x.told_rx.1);
  told_down = (same.down_tx.told ∙ x.told_tx.1, same.up_rx.told ∙ x.told_rx.0);
  up = (same.up_tx.order ∙ x.order.0, same.down_rx.order ∙ x.order.1);
  down = (same.down_tx.order ∙ x.no_order.0, same.up_rx.order ∙ x.no_order.1);
}

uncut_without : (from : Linking) (s : ℕ) (v : Views) → HaveOrder from s v → AreOrdered v → IsTrue from.told → from.orders s ≡ [] → cuts_of v ≡ 0
uncut_without from s v h o t none =
    let a = o.0 (h.told_up.0 ∙ t) (h.up.0 ∙ ap first_order none) in
    let b = o.1 (h.told_down.1 ∙ t) h.down.1 in
    let c = o.2 (h.told_down.0 ∙ t) h.down.0 in
    let d = o.3 (h.told_up.1 ∙ t) (h.up.1 ∙ ap first_order none) in
    omega (arith, a, b, c, d)

pub given_back : (from a b : Linking) (s : ℕ) (v : Views) → ConnectionMade from a s → CutsAdded a b s (cuts_of v) → b.past ≡ a.past ++ past_of_views s v ∷ [] → cuts_of v ≤ 1 → HaveOrder from s v → AreOrdered v → WereMade from b s (past_of_views s v ∷ [])
given_back from a b s v made added past few h o = made_settled from a b s (past_of_views s v) made added past refl few (uncut_without from s v h o)

abbrev with_cuts : ℕ → Views → ℕ → Past
with_cuts s v n = record {
  session = s;
  cuts = n + v.up_rx.cuts + v.down_tx.cuts + v.down_rx.cuts;
  from_primary = v.down_rx.received;
  primary_ended = v.down_rx.closed;
  to_primary = v.up_rx.received;
  secondary_ended = v.up_rx.closed;
}

pub given_finished : (from a b : Linking) (s : ℕ) (v : Views) (up : Sending) → IsOpen from a s v → up.cuts ≡ v.up_tx.cuts → CutsAdded a b s (all_cuts up v.up_rx v.down_tx v.down_rx) → b.past ≡ a.past ++ past_of s up v.up_rx v.down_tx v.down_rx ∷ []
    → WereMade from b s (past_of_views s v ∷ [])
given_finished from a b s v up is_open e added past =
    let same : past_of s up v.up_rx v.down_tx v.down_rx ≡ past_of_views s v = ap (with_cuts s v) e in
    let zero = is_open.uncut in
    made_settled from a b s (past_of_views s v) is_open.made (subst (λ (n : ℕ). CutsAdded a b s (n + v.up_rx.cuts + v.down_tx.cuts + v.down_rx.cuts)) e added) (past ∙ ap (λ (p : Past). a.past ++ p ∷ []) same) refl (omega (arith, zero)) (λ _ _. zero)

pub not_cut : (s : ℕ) (v : Views) → cuts_of v ≡ 0 → was_cut (past_of_views s v) ≡ false
not_cut s v zero = ap (λ (n : ℕ). nat_lt 0 n) zero

pub was_one : (s : ℕ) (v : Views) → cuts_of v ≡ 1 → IsTrue (was_cut (past_of_views s v))
was_one s v one = ap (λ (n : ℕ). nat_lt 0 n) one
