-- What a turn tells of cuts.
use Rattle.std.proofs.Common.{◌≡◌, ◌⊎◌, inl, inr, ℕ, ◌+◌, ◌≤◌, Bool, true, false, IsTrue, List, Result, Ok, Err, IfOk, OnOk, OnErr, IsErrOf, refl, ap, ◌∙◌, arith, if◌then◌else◌}
use Rattle.wire_defs.specs.Links.{Sending, Receiving, counted}
use Rattle.ship_defs.specs.Arrivals.{Arrival}
use Rattle.receiver_server.specs.Listenings.{Listening}
use Rattle.receiver_server.specs.declared.step.HearError.{HearError}
use Rattle.receiver_server.specs.declared.step.HearError.TheVariants as hear
use Rattle.receiver_server.specs.declared.step.Step.{Step}
use Rattle.receiver_server.specs.declared.step.Step.TheVariants.{Received, Answered, Heard, Waits, Over, Ended}
use Rattle.update_process.specs.Copies.{Copy, told}
use Rattle.update_process.specs.Updates.{IsTooLarge}
use Rattle.update_process.specs.declared.update.UpdateError.{UpdateError}
use Rattle.update_process.specs.declared.update.UpdateError.TheVariants as update
use Rattle.session_turns.specs.declared.machines.TurnError.{TurnError}
use Rattle.session_turns.specs.declared.machines.Turned.{Turned}
use Rattle.session_turns.specs.declared.machines.Turned.TheVariants as turned
use Rattle.session_turns.specs.Cuts.{HasCuts, TellsCuts}
use Rattle.session_turns.specs.Turns.{Comes, turned_of, settled_of}

pub err_weaker : {T E : Type 0} (r : Result T E) (P Q : Type 0) → (P → Q) → OnErr r P → OnErr r Q
err_weaker (Ok x) P Q weaker h = tt
err_weaker (Err e) P Q weaker h = weaker h

no_cut : (s : Step) → IsErrOf (Ok s) hear.Cut → ⊥
no_cut s e = let no : ⊥ = cc in no

module _ {F : Type 0} (offset : ℕ) where
  -- a step that hears nothing leaves nothing to apply, so a cut is told, where one was found
  pub uncut_of : (heard : Result Step HearError) (applied : Result (Unit {0}) (UpdateError F)) (P : Type 0) → OnErr heard (OnErr applied ⊥) → ((IsErrOf heard hear.Cut → ⊥) → P)
      → IfOk (turned_of heard applied offset) (λ t. (t ≡ turned.Cut → ⊥) → P)
  uncut_of (Ok Received) (Ok u) P never h = λ _. h (no_cut Received)
  uncut_of (Ok (Answered answer)) (Ok u) P never h = λ _. h (no_cut (Answered answer))
  uncut_of (Ok Heard) (Ok u) P never h = λ _. h (no_cut Heard)
  uncut_of (Ok Waits) (Ok u) P never h = λ _. h (no_cut Waits)
  uncut_of (Ok Over) (Ok u) P never h = λ _. h (no_cut Over)
  uncut_of (Ok Ended) (Ok u) P never h = λ _. h (no_cut Ended)
  uncut_of (Err hear.Cut) (Ok u) P never h = λ uncut. absurd (uncut refl)
  uncut_of (Err (hear.BadFrame o)) (Ok u) P never h = λ _. h (λ e. let no : ⊥ = cc in no)
  uncut_of (Err hear.NoMemory) (Ok u) P never h = tt
  uncut_of (Ok s) (Err (update.BadFrame o)) P never h = λ _. h (no_cut s)
  uncut_of (Err x) (Err (update.BadFrame o)) P never h = absurd never
  uncut_of heard (Err (update.Site e)) P never h = tt

  pub uncut_err_of : (heard : Result Step HearError) (applied : Result (Unit {0}) (UpdateError F)) (P : Type 0) → OnErr heard (OnErr applied ⊥) → ((IsErrOf heard hear.Cut → ⊥) → P)
      → OnErr (turned_of heard applied offset) P
  uncut_err_of (Ok Received) (Ok u) P never h = tt
  uncut_err_of (Ok (Answered answer)) (Ok u) P never h = tt
  uncut_err_of (Ok Heard) (Ok u) P never h = tt
  uncut_err_of (Ok Waits) (Ok u) P never h = tt
  uncut_err_of (Ok Over) (Ok u) P never h = tt
  uncut_err_of (Ok Ended) (Ok u) P never h = tt
  uncut_err_of (Err hear.Cut) (Ok u) P never h = tt
  uncut_err_of (Err (hear.BadFrame o)) (Ok u) P never h = tt
  uncut_err_of (Err hear.NoMemory) (Ok u) P never h = h (λ e. let no : ⊥ = cc in no)
  uncut_err_of heard (Err (update.BadFrame o)) P never h = tt
  uncut_err_of (Ok s) (Err (update.Site e)) P never h = h (no_cut s)
  uncut_err_of (Err x) (Err (update.Site e)) P never h = absurd never

module _ {F : Type 0} where
  found : (cut : Bool) (r : Result Turned (TurnError F)) (P : Type 0) → IfOk r (λ t. t ≡ turned.Cut → P) → IfOk r (λ t. t ≡ turned.Cut → IsTrue cut ⊎ P)
  found cut (Ok t) P h = λ e. inr (h e)
  found cut (Err e) P h = tt

  settled : (cut : Bool) (r : Result Turned (TurnError F)) (P : Turned → Type 0) → (IsTrue cut → P turned.Cut) → IfOk r P → IfOk (settled_of cut r) P
  settled false r P when h = h
  settled true (Ok turned.On) P when h = h
  settled true (Ok turned.Cut) P when h = when refl
  settled true (Ok turned.Over) P when h = when refl
  settled true (Ok (turned.Short offset)) P when h = when refl
  settled true (Ok (turned.Bad offset)) P when h = when refl
  settled true (Err e) P when h = tt

  -- a fact of one answer
  pub settled_on : (cut : Bool) (r : Result Turned (TurnError F)) (P : Type 0) → IfOk r (λ t. t ≡ turned.On → P) → IfOk (settled_of cut r) (λ t. t ≡ turned.On → P)
  settled_on cut r P h = settled cut r (λ t. t ≡ turned.On → P) (λ is e. absurd (cc)) h

  pub settled_over : (cut : Bool) (r : Result Turned (TurnError F)) (P : Type 0) → IfOk r (λ t. t ≡ turned.Over → P) → IfOk (settled_of cut r) (λ t. t ≡ turned.Over → P)
  settled_over cut r P h = settled cut r (λ t. t ≡ turned.Over → P) (λ is e. absurd (cc)) h

  pub settled_short : (cut : Bool) (r : Result Turned (TurnError F)) (P : ℕ → Type 0) → IfOk r (λ t. (offset : ℕ) → t ≡ turned.Short offset → P offset) → IfOk (settled_of cut r) (λ t. (offset : ℕ) → t ≡ turned.Short offset → P offset)
  settled_short cut r P h = settled cut r (λ t. (offset : ℕ) → t ≡ turned.Short offset → P offset) (λ is offset e. absurd (cc)) h

  pub settled_cut : (cut : Bool) (r : Result Turned (TurnError F)) (P : Type 0) → IfOk r (λ t. t ≡ turned.Cut → P) → IfOk (settled_of cut r) (λ t. t ≡ turned.Cut → IsTrue cut ⊎ P)
  settled_cut cut r P h = settled cut r (λ t. t ≡ turned.Cut → IsTrue cut ⊎ P) (λ is e. inl is) (found cut r P h)

  pub settled_whole : (cut : Bool) (r : Result Turned (TurnError F)) (P : Type 0) → cut ≡ false → IfOk r (λ t. t ≡ turned.Cut → P) → IfOk (settled_of cut r) (λ t. t ≡ turned.Cut → P)
  settled_whole false r P uncut h = h
  settled_whole true r P uncut h = let no : ⊥ = cc in absurd no

  pub settled_ok : (cut : Bool) (r : Result Turned (TurnError F)) (P : Type 0) → OnOk r P → OnOk (settled_of cut r) P
  settled_ok false r P h = h
  settled_ok true (Ok turned.On) P h = h
  settled_ok true (Ok turned.Cut) P h = h
  settled_ok true (Ok turned.Over) P h = h
  settled_ok true (Ok (turned.Short offset)) P h = h
  settled_ok true (Ok (turned.Bad offset)) P h = h
  settled_ok true (Err e) P h = tt

  pub settled_err : (cut : Bool) (r : Result Turned (TurnError F)) (P : Type 0) → OnErr r P → OnErr (settled_of cut r) P
  settled_err false r P h = h
  settled_err true (Ok turned.On) P h = tt
  settled_err true (Ok turned.Cut) P h = tt
  settled_err true (Ok turned.Over) P h = tt
  settled_err true (Ok (turned.Short offset)) P h = tt
  settled_err true (Ok (turned.Bad offset)) P h = tt
  settled_err true (Err e) P h = h

  module _ (begun : Copy) (l : Listening) (received : List ℕ) (put taken : List Arrival) (now : Copy) where
    pub settled_comes : (cut : Bool) (r : Result Turned (TurnError F)) → Comes r begun l received put taken now → Comes (settled_of cut r) begun l received put taken now
    settled_comes false r h = h
    settled_comes true (Ok turned.On) h = h
    settled_comes true (Ok turned.Cut) h = h
    settled_comes true (Ok turned.Over) (inl h) = inl (h.0, tt)
    settled_comes true (Ok turned.Over) (inr h) = absurd h.3
    settled_comes true (Ok (turned.Short offset)) (inl h) = inl (h.0, tt)
    settled_comes true (Ok (turned.Short offset)) (inr h) = absurd h.3
    settled_comes true (Ok (turned.Bad offset)) (inl h) = inl (h.0, tt)
    settled_comes true (Ok (turned.Bad offset)) (inr h) =
        let why : (h.0.at ≡ offset) × IsTooLarge h.0 h.1 × (now ≡ told h.1 h.0.reign) = h.3 in
        inr (h.0, h.1, h.2, (why.1, why.2))
    settled_comes true (Err e) h = h

-- the cuts of a sending end, once a Source Server has made a step
pub sent_cuts : (old now : Bool) (x y : ℕ) → x ≡ (if old then 1 else 0) → (old ≡ false → IsTrue now → y ≡ counted x 1) → (now ≡ old → y ≡ x) → (IsTrue old → IsTrue now) → y ≡ (if now then 1 else 0)
sent_cuts true true x y e cut uncut stays = uncut refl ∙ e
sent_cuts true false x y e cut uncut stays = let wrong : false ≡ true = stays refl in let no : ⊥ = cc in absurd no
sent_cuts false true x y e cut uncut stays = cut refl refl ∙ ap (λ (n : ℕ). counted n 1) e
sent_cuts false false x y e cut uncut stays = uncut refl ∙ e

pub has_most : (cut : Bool) (s : Sending) (r : Receiving) → HasCuts cut s r → s.cuts + r.cuts ≤ 1
has_most true s r h = let sending : s.cuts ≡ 1 = h.sending in let receiving = h.receiving in omega (arith, sending, receiving)
has_most false s r h = let sending : s.cuts ≡ 0 = h.sending in let receiving = h.receiving in omega (arith, sending, receiving)

tells_most : (t : Turned) (cut : Bool) (s : Sending) (r : Receiving) → TellsCuts t cut s r → s.cuts + r.cuts ≤ 1
tells_most turned.On cut s r h = has_most cut s r h
tells_most turned.Cut cut s r h = omega (arith, h)
tells_most turned.Over cut s r h = omega (arith, h)
tells_most (turned.Short offset) cut s r h = omega (arith, h)
tells_most (turned.Bad offset) cut s r h = omega (arith, h)

tells_looked : (t : Turned) (cut : Bool) (s s' : Sending) (r r' : Receiving) → s'.cuts ≡ s.cuts → r'.cuts ≡ r.cuts → TellsCuts t cut s r → TellsCuts t cut s' r'
tells_looked turned.On cut s s' r r' sent received h = record { sending = sent ∙ h.sending; receiving = received ∙ h.receiving }
tells_looked turned.Cut cut s s' r r' sent received h = omega (arith, sent, received, h)
tells_looked turned.Over cut s s' r r' sent received h = omega (arith, sent, received, h)
tells_looked (turned.Short offset) cut s s' r r' sent received h = omega (arith, sent, received, h)
tells_looked (turned.Bad offset) cut s s' r r' sent received h = omega (arith, sent, received, h)

module _ {F : Type 0} where
  pub most_one : (r : Result Turned (TurnError F)) (cut : Bool) (s : Sending) (x : Receiving) → IfOk r (λ t. TellsCuts t cut s x) → OnErr r (HasCuts cut s x) → s.cuts + x.cuts ≤ 1
  most_one (Ok t) cut s x tells fails = tells_most t cut s x tells
  most_one (Err e) cut s x tells fails = has_most cut s x fails

  -- once each end has learned of the other
  pub looked_cuts : (r : Result Turned (TurnError F)) (cut : Bool) (s s' : Sending) (x x' : Receiving) → s'.cuts ≡ s.cuts → x'.cuts ≡ x.cuts → IfOk r (λ t. TellsCuts t cut s x) → IfOk r (λ t. TellsCuts t cut s' x')
  looked_cuts (Ok t) cut s s' x x' sent received h = tells_looked t cut s s' x x' sent received h
  looked_cuts (Err e) cut s s' x x' sent received h = tt

  -- of an answer behind which the connection doesn't go on
  pub ended_cuts : (r : Result Turned (TurnError F)) (cut : Bool) (s : Sending) (x : Receiving) → IfOk r (λ t. t ≡ turned.On → ⊥) → IfOk r (λ t. TellsCuts t cut s x)
      → IfOk r (λ t. (t ≡ turned.Cut → s.cuts + x.cuts ≡ 1) × ((t ≡ turned.Cut → ⊥) → s.cuts + x.cuts ≡ 0))
  ended_cuts (Ok turned.On) cut s x ends h = absurd (ends refl)
  ended_cuts (Ok turned.Cut) cut s x ends h = (λ _. h, λ not. absurd (not refl))
  ended_cuts (Ok turned.Over) cut s x ends h = (λ e. absurd (cc), λ _. h)
  ended_cuts (Ok (turned.Short offset)) cut s x ends h = (λ e. absurd (cc), λ _. h)
  ended_cuts (Ok (turned.Bad offset)) cut s x ends h = (λ e. absurd (cc), λ _. h)
  ended_cuts (Err e) cut s x ends h = tt

module _ {F : Type 0} (s : Sending) (x y : Receiving) (none : x.cuts ≡ 0) where
  cut_tells : (r : Result Turned (TurnError F)) → HasCuts true s y → s.cuts + y.cuts ≡ 1 → IfOk (settled_of true r) (λ t. TellsCuts t true s y)
  cut_tells (Ok turned.On) on ended = on
  cut_tells (Ok turned.Cut) on ended = ended
  cut_tells (Ok turned.Over) on ended = ended
  cut_tells (Ok (turned.Short offset)) on ended = ended
  cut_tells (Ok (turned.Bad offset)) on ended = ended
  cut_tells (Err e) on ended = tt

  -- The receiving end is asked only where the sending end wasn't found cut.
  pub step_cuts : (cut : Bool) (r : Result Turned (TurnError F)) → s.cuts ≡ (if cut then 1 else 0) → (IsTrue cut → y.cuts ≡ x.cuts) → IfOk r (λ t. t ≡ turned.Cut → y.cuts ≡ counted x.cuts 1)
      → IfOk r (λ t. (t ≡ turned.Cut → ⊥) → y.cuts ≡ x.cuts) → IfOk (settled_of cut r) (λ t. TellsCuts t cut s y)
  step_cuts false (Ok turned.On) sent still found uncut = record { sending = sent; receiving = uncut (λ e. let no : ⊥ = cc in no) ∙ none }
  step_cuts false (Ok turned.Cut) sent still found uncut =
      let one : y.cuts ≡ 1 = found refl ∙ ap (λ (n : ℕ). counted n 1) none in
      let zero : s.cuts ≡ 0 = sent in
      omega (arith, one, zero)
  step_cuts false (Ok turned.Over) sent still found uncut = let same = uncut (λ e. let no : ⊥ = cc in no) in let zero : s.cuts ≡ 0 = sent in omega (arith, same, none, zero)
  step_cuts false (Ok (turned.Short offset)) sent still found uncut = let same = uncut (λ e. let no : ⊥ = cc in no) in let zero : s.cuts ≡ 0 = sent in omega (arith, same, none, zero)
  step_cuts false (Ok (turned.Bad offset)) sent still found uncut = let same = uncut (λ e. let no : ⊥ = cc in no) in let zero : s.cuts ≡ 0 = sent in omega (arith, same, none, zero)
  step_cuts false (Err e) sent still found uncut = tt
  step_cuts true r sent still found uncut =
      let same = still refl in
      let one : s.cuts ≡ 1 = sent in
      cut_tells r (record { sending = sent; receiving = same ∙ none }) (omega (arith, same, one, none))
