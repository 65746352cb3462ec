-- A turn over a connection: its ends look, and then one of each direction is used.
use Rattle.std.proofs.Common.{◌≡◌, ◌≢◌, ◌⊎◌, inl, inr, ℕ, ◌+◌, ◌<◌, ◌≤◌, Bool, true, false, IsTrue, List, [], length, None, Ok, Err, IfOk, refl, ◌∙◌, arith}
use Rattle.wire_defs.specs.Links.{SendingLooked, ReceivingLooked}
use Rattle.wire_defs.proofs.Ends.{sending_on, receiving_on, looked_on, saw_on}
use Rattle.recv_pool.specs.declared.pool.PoolIn.{PoolIn}
use Rattle.recv_pool.specs.Pools.{SameIn}
use Rattle.receiver_server.specs.Incomings.{Incoming}
use Rattle.session_handshake.specs.Answering.{left_to_ask, left_of, left_to_hear}
use Rattle.session_handshake.specs.Exchanges.{Views, SameEnds, Carries, Gets, cuts_of}
use Rattle.session_handshake.proofs.Ends.{asks_fewer}
use Rattle.session_handshake.proofs.Steps.{Answer}

pub ends_on : (a b c : Views) → SameEnds a b → SameEnds b c → SameEnds a c
ends_on a b c x y = record {
  up_tx = sending_on a.up_tx b.up_tx c.up_tx x.up_tx y.up_tx;
  up_rx = receiving_on a.up_rx b.up_rx c.up_rx x.up_rx y.up_rx;
  down_tx = sending_on a.down_tx b.down_tx c.down_tx x.down_tx y.down_tx;
  down_rx = receiving_on a.down_rx b.down_rx c.down_rx x.down_rx y.down_rx;
}

-- each step sends a byte or receives one, or costs patience

pub ask_less : (told : Bool) (m : Answer) (old now rest more : List ℕ) (p q s t : ℕ) → (free : ℕ) (unread : List ℕ) → IfOk m (λ o. o ≡ None → length more ≤ 1048580) → length now ≤ length old
    → (IsTrue told → 0 < free → old ≢ [] → length now < length old) → (told ≡ false → length now + q ≤ length old + p)
    → (IsTrue told → unread ≢ [] → IfOk m (λ o. o ≡ None → length rest < length more)) → IfOk m (λ o. o ≡ None → length rest ≤ length more)
    → (told ≡ false → IfOk m (λ o. o ≡ None → length rest + t < length more + s))
    → (IsTrue told → ((0 < free) × (old ≢ [])) ⊎ (unread ≢ []))
    → IfOk m (λ o. o ≡ None → left_to_ask told now more (q + t) < left_to_ask told old rest (p + s))
ask_less told (Err e) old now rest more p q s t free unread few le sends tires moves grows tired may = tt
ask_less told (Ok o) old now rest more p q s t free unread few le sends tires moves grows tired may = λ none.
    asks_fewer told old now rest more p q s t le (grows none) (few none)
    (λ y. elim (may y) [ inl x ↦ inl (sends y x.0 x.1) | inr x ↦ inr (moves y x none) ])
    tires
    (λ n. tired n none)

hears_told : (a b x y p q : ℕ) → b ≤ a → y ≤ x → (b < a) ⊎ (y < x) → b + y + 0 < a + x + 0
hears_told a b x y p q le ge (inl less) = omega arith
hears_told a b x y p q le ge (inr more) = omega arith

hears_fewer : (told : Bool) (old now : List ℕ) (i j : Incoming) (p q s t : ℕ) → length now ≤ length old → left_of j ≤ left_of i → (IsTrue told → (length now < length old) ⊎ (left_of j < left_of i))
    → (told ≡ false → length now + q ≤ length old + p) → (told ≡ false → left_of j + t < left_of i + s)
    → left_to_hear told now j (q + t) < left_to_hear told old i (p + s)
hears_fewer true old now i j p q s t le ge moves tires tired = hears_told (length old) (length now) (left_of i) (left_of j) p q le ge (moves refl)
hears_fewer false old now i j p q s t le ge moves tires tired = let x = tires refl in let y = tired refl in omega (arith, x, y)

pub hear_less : (told : Bool) (m : Answer) (old now : List ℕ) (i j : Incoming) (p q s t : ℕ) → (free : ℕ) (M : Type 0) → length now ≤ length old
    → (IsTrue told → 0 < free → old ≢ [] → length now < length old) → (told ≡ false → length now + q ≤ length old + p)
    → (IsTrue told → M → IfOk m (λ o. o ≡ None → left_of j < left_of i)) → IfOk m (λ o. o ≡ None → left_of j ≤ left_of i)
    → (told ≡ false → IfOk m (λ o. o ≡ None → left_of j + t < left_of i + s))
    → (IsTrue told → ((0 < free) × (old ≢ [])) ⊎ M)
    → IfOk m (λ o. o ≡ None → left_to_hear told now j (q + t) < left_to_hear told old i (p + s))
hear_less told (Err e) old now i j p q s t free M le sends tires moves grows tired may = tt
hear_less told (Ok o) old now i j p q s t free M le sends tires moves grows tired may = λ none.
    hears_fewer told old now i j p q s t le (grows none)
    (λ y. elim (may y) [ inl x ↦ inl (sends y x.0 x.1) | inr x ↦ inr (moves y x none) ])
    tires
    (λ n. tired n none)

-- while the HELLO is on its way
pub record IsAsking (told shown : Bool) (whole : List ℕ) (v w : Views) (left rest : List ℕ) : Type 0 where
  pub same : SameEnds v w
  pub up_tx : SendingLooked v.up_tx w.up_tx
  pub down_rx : ReceivingLooked v.down_rx w.down_rx
  pub carries : Carries told whole w.down_tx left
  pub gets : Gets told shown w.up_rx rest
  pub uncut : cuts_of w ≡ 0

pub asking_on : (told shown : Bool) (whole : List ℕ) (v w u : Views) (left rest now more : List ℕ) → IsAsking told shown whole v w left rest → SameEnds w u → SendingLooked w.up_tx u.up_tx → ReceivingLooked w.down_rx u.down_rx
    → Carries told whole u.down_tx now → Gets told shown u.up_rx more → cuts_of u ≡ cuts_of w → IsAsking told shown whole v u now more
asking_on told shown whole v w u left rest now more x same tx rx carries gets cuts = record {
  same = ends_on v w u x.same same;
  up_tx = looked_on v.up_tx w.up_tx u.up_tx x.up_tx tx;
  down_rx = saw_on v.down_rx w.down_rx u.down_rx x.down_rx rx;
  carries = carries;
  gets = gets;
  uncut = cuts ∙ x.uncut;
}

-- while the answer is
pub record IsAnswering (told : Bool) (whole : List ℕ) (v w : Views) (left : List ℕ) : Type 0 where
  pub same : SameEnds v w
  pub down_tx : SendingLooked v.down_tx w.down_tx
  pub up_rx : ReceivingLooked v.up_rx w.up_rx
  pub carries : Carries told whole w.up_tx left
  pub uncut : cuts_of w ≡ 0

pub answering_on : (told : Bool) (whole : List ℕ) (v w u : Views) (left now : List ℕ) → IsAnswering told whole v w left → SameEnds w u → SendingLooked w.down_tx u.down_tx → ReceivingLooked w.up_rx u.up_rx
    → Carries told whole u.up_tx now → cuts_of u ≡ cuts_of w → IsAnswering told whole v u now
answering_on told whole v w u left now x same tx rx carries cuts = record {
  same = ends_on v w u x.same same;
  down_tx = looked_on v.down_tx w.down_tx u.down_tx x.down_tx tx;
  up_rx = saw_on v.up_rx w.up_rx u.up_rx x.up_rx rx;
  carries = carries;
  uncut = cuts ∙ x.uncut;
}

pub same_in : (a b c : PoolIn) → SameIn a b → SameIn b c → SameIn a c
same_in a b c x y = ((y.0.0 ∙ x.0.0, y.0.1 ∙ x.0.1, y.0.2 ∙ x.0.2, y.0.3 ∙ x.0.3), y.1 ∙ x.1)
