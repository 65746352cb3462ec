-- What a turn has moved.
use Rattle.std.proofs.Common.{◌≡◌, ◌≢◌, ◌⊎◌, inl, inr, ℕ, ◌+◌, ◌<◌, ◌≤◌, Bool, true, false, IsTrue, List, [], ◌∷◌, ◌++◌, length, Result, Ok, Err, IfOk, OnOk, refl, sym, ap, subst, ◌∙◌, arith, append-nil, length-append}
use Rattle.wire_defs.specs.Frames.{Frame, BeginsFrame}
use Rattle.wire_defs.specs.Links.{Sending, Receiving, SendingLooked, ReceivingLooked, KnowAll}
use Rattle.recv_pool.specs.declared.pool.PoolIn.{PoolIn}
use Rattle.recv_pool.specs.declared.pool.PoolOut.{PoolOut}
use Rattle.ship_defs.specs.Arrivals.{Arrival}
use Rattle.ship_defs.specs.Hearing as ship
use Rattle.receiver_server.specs.Answers.{answer_frame, patience_cost, IsOverAnswer}
use Rattle.receiver_server.specs.Listenings.{Listening, HasHeard, Does}
use Rattle.receiver_server.specs.declared.step.HearError.{HearError}
use Rattle.receiver_server.specs.declared.step.HearError.TheVariants as hear
use Rattle.receiver_server.specs.declared.step.Step.{Step}
use Rattle.receiver_server.specs.declared.step.Step.TheVariants.{Received, Answered, Heard, Waits, Over, Ended}
use Rattle.update_process.specs.Copies.{Copy}
use Rattle.update_process.specs.Updates.{After}
use Rattle.update_process.specs.declared.update.Applied.{Applied}
use Rattle.update_process.specs.declared.update.Applied.TheVariants.{One, Skipped, Nothing}
use Rattle.update_process.specs.declared.update.UpdateError.{UpdateError}
use Rattle.update_process.specs.declared.update.UpdateError.TheVariants as update
use Rattle.session_turns.specs.declared.machines.TurnError.{TurnError}
use Rattle.session_turns.specs.declared.machines.Turned.{Turned}
use Rattle.session_turns.specs.declared.machines.Turned.TheVariants as turned
use Rattle.session_turns.specs.Progress.{HasMoved, IsStill, HasSentOn, IsEmptyPool}
use Rattle.session_turns.specs.Turns.{turned_of}

-- a step behind which a connection goes on
abbrev pub IsOn : Result Step HearError → Type 0
IsOn (Ok Received) = Unit {0}
IsOn (Ok (Answered answer)) = Unit {0}
IsOn (Ok Heard) = Unit {0}
IsOn (Ok Waits) = Unit {0}
IsOn (Ok Over) = ⊥
IsOn (Ok Ended) = ⊥
IsOn (Err e) = ⊥

none_or_some : (l : List Frame) → (l ≡ []) ⊎ (l ≢ [])
none_or_some [] = inl refl
none_or_some (f ∷ fs) = inr (λ e. let wrong : ⊥ = cc in wrong)

module _ (a b : Listening) (r s : Receiving) where
  heard_moved : (f : Frame) → HasHeard f a b → (a.incoming.waiting ≢ [] → s ≡ r) → HasMoved a b r s
  heard_moved f h still =
      let some : a.incoming.waiting ≢ [] = λ none. let wrong : f ∷ b.incoming.waiting ≡ [] = sym h.waiting ∙ none in let no : ⊥ = cc in no in
      record { moved = inr (f, h); patience = λ untold empty. ap (λ (x : Receiving). x.patience) (still some) }

  -- a step of a Receiver Server behind which its connection goes on has moved something, or nothing has come
  pub moved_or_still : (heard : Result Step HearError) → IsOn heard → Does heard a b → (b.incoming.bad ≡ false → BeginsFrame b.incoming.reading.rest)
      → (a.incoming.waiting ≢ [] → IfOk heard (λ x. x ≡ Waits → ⊥))
      → (a.incoming.waiting ≡ [] → IsTrue r.told → IfOk heard (λ x. x ≡ Waits → (r.unread ≡ []) × (r.ended ≡ false)))
      → (IsTrue r.shown → IfOk heard (λ x. x ≡ Waits → s.received ≡ r.received))
      → (a.incoming.waiting ≡ [] → a.incoming.fresh ≡ [] → a.heard.last ≢ ship.Over → r.told ≡ false → OnOk heard (s.patience + patience_cost heard ≡ r.patience))
      → (a.incoming.waiting ≢ [] → s ≡ r) → (a.heard.last ≡ ship.Over → IsOverAnswer heard) → HasMoved a b r s ⊎ IsStill a b r s
  moved_or_still (Ok Received) on does begins room told received patience still behind = inl (record {
    moved = inl (record { got = does.0; read = does.1; more = does.2; begins = begins });
    patience = λ untold empty. let cost : s.patience + 0 ≡ r.patience = patience does.0.frames empty does.0.going untold in omega (arith, cost);
  })
  moved_or_still (Ok (Answered answer)) on does begins room told received patience still behind = inl (heard_moved (answer_frame answer) does still)
  moved_or_still (Ok Heard) on does begins room told received patience still behind = inl (heard_moved does.0 does.2 still)
  moved_or_still (Ok Waits) on does begins room told received patience still behind = elim (none_or_some a.incoming.waiting) [
    | inr some ↦ absurd (room some refl)
    | inl none ↦ inr (record {
      same = does;
      none = none;
      received = λ shown. received shown refl;
      nothing = λ t. told none t refl;
      patience = λ untold empty. patience none empty (λ over. behind over) untold;
    })
  ]
  moved_or_still (Ok Over) on does begins room told received patience still behind = absurd on
  moved_or_still (Ok Ended) on does begins room told received patience still behind = absurd on
  moved_or_still (Err e) on does begins room told received patience still behind = absurd on

module _ {F : Type 0} (offset : ℕ) where
  -- a turn behind which the connection goes on
  pub on_of : (heard : Result Step HearError) (applied : Result (Unit {0}) (UpdateError F)) (P Q : Type 0) → OnOk applied Q → (IsOn heard → Q → P) → IfOk (turned_of heard applied offset) (λ t. t ≡ turned.On → P)
  on_of (Ok Received) (Ok u) P Q q h = λ e. h tt q
  on_of (Ok (Answered answer)) (Ok u) P Q q h = λ e. h tt q
  on_of (Ok Heard) (Ok u) P Q q h = λ e. h tt q
  on_of (Ok Waits) (Ok u) P Q q h = λ e. h tt q
  on_of (Ok Over) (Ok u) P Q q h = λ e. absurd (cc)
  on_of (Ok Ended) (Ok u) P Q q h = λ e. absurd (cc)
  on_of (Err hear.Cut) (Ok u) P Q q h = λ e. absurd (cc)
  on_of (Err (hear.BadFrame o)) (Ok u) P Q q h = λ e. absurd (cc)
  on_of (Err hear.NoMemory) (Ok u) P Q q h = tt
  on_of heard (Err (update.BadFrame o)) P Q q h = λ e. absurd (cc)
  on_of heard (Err (update.Site e)) P Q q h = tt

module _ {F : Type 0} where
  pub on_weaker : (r : Result Turned (TurnError F)) (P Q : Type 0) → (P → Q) → IfOk r (λ t. t ≡ turned.On → P) → IfOk r (λ t. t ≡ turned.On → Q)
  on_weaker (Ok t) P Q weaker h = λ e. weaker (h e)
  on_weaker (Err x) P Q weaker h = tt

-- an end that didn't look has learned nothing
pub not_looked : (s : Sending) → SendingLooked s s
not_looked s = record {
  same = record { session = refl; connection = refl; told = refl; order = refl; places = refl };
  cuts = refl;
  patience = refl;
  sent = refl;
  free = omega arith;
  finished = refl;
}

pub nor_looked : (r : Receiving) → ReceivingLooked r r
nor_looked r = record {
  same = record { session = refl; connection = refl; told = refl; shown = refl; order = refl };
  cuts = refl;
  patience = refl;
  received = refl;
  unread = ([], sym (append-nil r.unread));
  ended = λ e. e;
  whole = λ _. refl;
  closed = refl;
}

-- what a turn has moved, once each end has learned of the other
pub moved_looked : (a b : Listening) (r s t : Receiving) → t.patience ≡ s.patience → t.received ≡ s.received → HasMoved a b r s ⊎ IsStill a b r s → HasMoved a b r t ⊎ IsStill a b r t
moved_looked a b r s t same received (inl h) = inl (record { moved = h.moved; patience = λ untold empty. same ∙ h.patience untold empty })
moved_looked a b r s t same received (inr h) = inr (record { same = h.same; none = h.none; received = λ shown. received ∙ h.received shown; nothing = h.nothing; patience = λ untold empty. ap (λ (n : ℕ). n + 1) same ∙ h.patience untold empty })

pub sent_looked : (a b : Listening) (r s t : Receiving) (x y z : Sending) → t.patience ≡ s.patience → z.sent ≡ y.sent → z.finished ≡ y.finished → HasMoved a b r s ⊎ HasSentOn x y → HasMoved a b r t ⊎ HasSentOn x z
sent_looked a b r s t x y z patience sent finished (inl h) = inl (record { moved = h.moved; patience = λ untold empty. patience ∙ h.patience untold empty })
sent_looked a b r s t x y z patience sent finished (inr (inl more)) = inr (inl (subst (λ (l : List ℕ). length x.sent < length l) (sym sent) more))
sent_looked a b r s t x y z patience sent finished (inr (inr over)) = inr (inr (over.0, finished ∙ over.1))

-- the same of machines that the sending left as they were
pub empty_same : (i j : PoolIn) (o p : PoolOut) → j ≡ i → p ≡ o → IsEmptyPool i o → IsEmptyPool j p
empty_same i j o p into out h = subst (λ (x : PoolIn). IsEmptyPool x p) (sym into) (subst (λ (x : PoolOut). IsEmptyPool i x) (sym out) h)

pub hears_same : (a b now : Listening) (r s : Receiving) → b ≡ a → HasMoved b now r s ⊎ IsStill b now r s → HasMoved a now r s ⊎ IsStill a now r s
hears_same a b now r s same h = subst (λ (x : Listening). HasMoved x now r s ⊎ IsStill x now r s) same h

pub moved_or_sent : (a b now : Listening) (r s : Receiving) (X : Type 0) → b ≡ a → (IsStill a now r s → X) → HasMoved b now r s ⊎ IsStill b now r s → HasMoved a now r s ⊎ X
moved_or_sent a b now r s X same sent h = elim (hears_same a b now r s same h) [
  | inl moved ↦ inl moved
  | inr still ↦ inr (sent still)
]

pub never_cut : (old now : Bool) → (IsTrue old → IsTrue now) → (IsTrue now → ⊥) → old ≡ false
never_cut true now stays not = absurd (not (stays refl))
never_cut false now stays not = refl

pub sent_of : (X : Type 0) (now : Bool) → (IsTrue now → ⊥) → X ⊎ IsTrue now → X
sent_of X now not (inl x) = x
sent_of X now not (inr cut) = absurd (not cut)

-- where all is known and nothing has come, the sending goes on and has a free place
pub still_sends : (Failed X : Type 0) (s : Sending) (r : Receiving) → KnowAll s r → 0 < s.places → (Failed → IsTrue s.finished) → (r.unread ≡ []) × (r.ended ≡ false) → (s.finished ≡ false → 0 < s.free → (Failed → ⊥) → X) → X
still_sends Failed X s r know places failed nothing goes =
    let open_ : s.finished ≡ false = sym know.ended ∙ nothing.1 in
    let free : s.places ≤ s.free + length r.unread = know.free open_ in
    let none : length r.unread ≡ 0 = ap (λ (l : List ℕ). length l) nothing.0 in
    goes open_ (omega (arith, free, none, places)) (λ f. let wrong : false ≡ true = sym open_ ∙ failed f in let no : ⊥ = cc in no)

-- the pool behind a step of an Update Process

nothing_left : (l : List Arrival) → length l ≤ 0 → l ≡ []
nothing_left [] few = refl
nothing_left (x ∷ l) few = absurd (omega (arith, few))

took : (before after known put : List Arrival) (x : Arrival) → after ≡ before ++ x ∷ [] → after ++ known ≡ put → length put ≤ length before + 1 → known ≡ []
took before after known put x is all few =
    let more : length after ≡ length (before ++ x ∷ []) = ap length is in
    let sum : length (after ++ known) ≡ length put = ap length all in
    let parts = length-append after known in
    let one = length-append before (x ∷ []) in
    nothing_left known (omega (arith, more, sum, parts, one, few))

pub none_left : (a : Applied) (ahead before after known put : List Arrival) (c now : Copy) → After a ahead before after c now → before ++ ahead ≡ put → after ++ known ≡ put → length put ≤ length before + 1 → known ≡ []
none_left (One n) ahead before after known put c now x all_before all_after few = took before after known put x.0 x.1.is all_after few
none_left Skipped ahead before after known put c now x all_before all_after few = took before after known put x.0 x.1.is all_after few
none_left Nothing ahead before after known put c now x all_before all_after few =
    let same : length after ≡ length before = ap length x.1 in
    let none : length ahead ≡ 0 = ap (λ (l : List Arrival). length l) x.0 in
    let first : length (before ++ ahead) ≡ length put = ap length all_before in
    let last : length (after ++ known) ≡ length put = ap length all_after in
    let first_parts = length-append before ahead in
    let last_parts = length-append after known in
    nothing_left known (omega (arith, same, none, first, last, first_parts, last_parts))
