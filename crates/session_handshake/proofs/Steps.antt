-- A secondary's step, where it waits for the answer.
use Rattle.std.proofs.Common.{◌≡◌, ◌≢◌, ◌↔◌, ℕ, ◌+◌, ◌<◌, ◌≤◌, ◌||◌, Bool, true, false, IsTrue, List, [], ◌∷◌, length, Option, Some, None, Result, Ok, Err, IfOk, IfErr, OnOk, IsErrOf, refl, sym, ap, subst, ◌∙◌, arith}
use Rattle.wire_defs.specs.Frames.{Frame, BeginsFrame}
use Rattle.wire_defs.specs.Links.{Receiving}
use Rattle.ship_defs.specs.Arrivals.{Arrival, arrivals}
use Rattle.ship_defs.specs.Hearing as ship
use Rattle.ship_defs.specs.Hearing.{Heard, Unbegun}
use Rattle.receiver_server.specs.Hearings.{behind}
use Rattle.receiver_server.specs.Answers.{answer_frame, is_ended, patience_cost, IsOverAnswer}
use Rattle.receiver_server.specs.Listenings.{Listening, IsHearing, IsIdle, IsQuiet, IsUnfitBehind, Hears, Does}
use Rattle.receiver_server.proofs.Pulled.{no_frames}
use Rattle.receiver_server.proofs.Told.{ends_early}
use Rattle.receiver_server.specs.declared.step.Handshake.{Handshake}
use Rattle.receiver_server.specs.declared.step.HearError.{HearError}
use Rattle.receiver_server.specs.declared.step.HearError.TheVariants as hear
use Rattle.receiver_server.specs.declared.step.Step.{Step}
use Rattle.receiver_server.specs.declared.step.Step.TheVariants as steps
use Rattle.session_handshake.specs.declared.connection.GreetError.{GreetError}
use Rattle.session_handshake.specs.declared.connection.GreetError.TheVariants as greets
use Rattle.session_handshake.specs.Answering.{AwaitsAnswer, HasAnswer, StepMeans, EndMeans, left_of}
use Rattle.session_handshake.proofs.Hears.{none_else, heard_answer, none_put, got_fewer}

-- how a step keeps what has come
abbrev pub Keeps : Result Step HearError → (a b : Listening) (ra rb : Receiving) (pa pb : List Arrival) → Type 0
Keeps r a b ra rb pa pb = IsTrue ra.shown → (begun : Heard) (frames : List Frame) → IsHearing begun a ra.received pa frames → (now : List Frame) × Hears r frames now × IsHearing begun b rb.received pb now

abbrev pub Answer : Type 0
Answer = Result (Option Handshake) GreetError

module _ (a b : Listening) (ra rb : Receiving) (pa pb : List Arrival) (fa fb : ℕ) (w : AwaitsAnswer a ra.shown ra.received pa fa) (seen : rb.shown ≡ ra.shown) (places : fa + length pa ≤ fb + length pb) where
  hears_here : IsTrue ra.shown → IsHearing a.heard a ra.received pa []
  hears_here s = subst (λ (l : List Arrival). IsHearing a.heard a ra.received l []) (sym (w.place s).0) (w.hears s)

  place_on : IsTrue ra.shown → pb ≡ [] → (pb ≡ []) × (0 < fb)
  place_on s none =
      let before : length pa ≡ 0 = ap (λ (l : List Arrival). length l) (w.place s).0 in
      let after : length pb ≡ 0 = ap (λ (l : List Arrival). length l) none in
      (none, omega (arith, before, after, places, (w.place s).1))

  none_heard : IsTrue ra.shown → (r : Result Step HearError) → ((now : List Frame) → Hears r [] now → now ≡ []) → Keeps r a b ra rb pa pb → (pb ≡ []) × IsHearing a.heard b rb.received [] []
  none_heard s r none keeps =
      let k = keeps s a.heard [] (hears_here s) in
      let nothing : k.0 ≡ [] = none k.0 k.1 in
      let h = subst (λ (l : List Frame). IsHearing a.heard b rb.received pb l) nothing k.2 in
      (h.put_is, subst (λ (l : List Arrival). IsHearing a.heard b rb.received l []) h.put_is h)

  still_awaits : (r : Result Step HearError) → ((now : List Frame) → Hears r [] now → now ≡ []) → Keeps r a b ra rb pa pb → b.heard ≡ a.heard → b.incoming.fresh ≡ [] → (b.incoming.bad ≡ false → BeginsFrame b.incoming.reading.rest)
      → AwaitsAnswer b rb.shown rb.received pb fb
  still_awaits r none keeps same fresh rest = record {
    begun = ap (λ (h : Heard). h.last) same ∙ w.begun;
    fresh = fresh;
    rest = rest;
    hears = λ s. subst (λ (h : Heard). IsHearing h b rb.received [] []) (sym same) (none_heard (sym seen ∙ s) r none keeps).1;
    place = λ s. place_on (sym seen ∙ s) (none_heard (sym seen ∙ s) r none keeps).0;
  }

  never_over : b ≡ a → b.heard.last ≡ ship.Over → ⊥
  never_over same over = let wrong : ship.Over ≡ Unbegun = sym over ∙ (ap (λ (x : Listening). x.heard.last) same ∙ w.begun) in let no : ⊥ = cc in no

  -- where it goes on waiting
  pub goes_on : (r : Result Step HearError) (waiting : Bool) (offset : ℕ) (m : Answer) → StepMeans r waiting offset m → Does r a b → Keeps r a b ra rb pa pb → (b.incoming.bad ≡ false → BeginsFrame b.incoming.reading.rest)
      → IfOk r (λ x. x ≡ steps.Over → IsQuiet b × (b.heard.last ≡ ship.Over))
      → IfOk m (λ o. o ≡ None → AwaitsAnswer b rb.shown rb.received pb fb × (b.heard ≡ a.heard))
  goes_on (Ok steps.Received) waiting offset m means does keeps rest over =
      let same : b.heard ≡ a.heard = ap (λ (x : Listening). x.heard) does.0.after in
      rw means (λ _. (still_awaits (Ok steps.Received) (λ now e. e) keeps same does.1 rest, same))
  goes_on (Ok (steps.Answered x)) waiting offset m means does keeps rest over = rw means (λ e. let no : ⊥ = cc in absurd no)
  goes_on (Ok steps.Heard) waiting offset m means does keeps rest over = absurd (none_else a.purpose a.heard b.heard does.0 w.begun does.1 does.2.fits)
  goes_on (Ok steps.Waits) true offset m means does keeps rest over = rw means tt
  goes_on (Ok steps.Waits) false offset m means does keeps rest over =
      let same : b.heard ≡ a.heard = ap (λ (x : Listening). x.heard) does in
      rw means (λ _. (still_awaits (Ok steps.Waits) (λ now e. e) keeps same (ap (λ (x : Listening). x.incoming.fresh) does ∙ w.fresh) rest, same))
  goes_on (Ok steps.Over) waiting offset m means does keeps rest over = absurd (never_over does (over refl).1)
  goes_on (Ok steps.Ended) waiting offset m means does keeps rest over = rw means tt
  goes_on (Err hear.Cut) waiting offset m means does keeps rest over = rw means tt
  goes_on (Err (hear.BadFrame at)) waiting offset m means does keeps rest over = rw means tt
  goes_on (Err hear.NoMemory) waiting offset m means does keeps rest over = rw means tt

  has_answer : (x : Handshake) → Does (Ok (steps.Answered x)) a b → Keeps (Ok (steps.Answered x)) a b ra rb pa pb → HasAnswer a.heard b rb.shown rb.received pb fb x
  has_answer x does keeps =
      let behind_it : b.heard ≡ behind a.purpose a.heard (answer_frame x) = heard_answer a.purpose a.heard b.heard x does.fits in
      let purpose : b.purpose ≡ a.purpose = ap (λ (y : Listening). y.purpose) does.after in
      let one = λ (s : IsTrue ra.shown). keeps s a.heard [] (hears_here s) in
      let put = λ (s : IsTrue ra.shown). (one s).2.put_is ∙ (ap (λ (l : List Frame). arrivals 0 None l) (one s).1 ∙ none_put x) in
      record {
        heard = behind_it ∙ ap (λ p. behind p a.heard (answer_frame x)) (sym purpose);
        fresh = ap (λ (y : Listening). y.incoming.fresh) does.after ∙ w.fresh;
        hears = λ s. let t = sym seen ∙ s in subst (λ (l : List Frame). IsHearing a.heard b rb.received [] l) (one t).1 (subst (λ (l : List Arrival). IsHearing a.heard b rb.received l (one t).0) (put t) (one t).2);
        place = λ s. let t = sym seen ∙ s in place_on t (put t);
      }

  pub answers_it : (r : Result Step HearError) (waiting : Bool) (offset : ℕ) (m : Answer) → StepMeans r waiting offset m → Does r a b → Keeps r a b ra rb pa pb
      → IfOk m (λ o. (x : Handshake) → o ≡ Some x → HasAnswer a.heard b rb.shown rb.received pb fb x)
  answers_it (Ok steps.Received) waiting offset m means does keeps = rw means (λ x e. let no : ⊥ = cc in absurd no)
  answers_it (Ok (steps.Answered y)) waiting offset m means does keeps = rw means (λ x e. let same : y ≡ x = cc in subst (λ (z : Handshake). HasAnswer a.heard b rb.shown rb.received pb fb z) same (has_answer y does keeps))
  answers_it (Ok steps.Heard) waiting offset m means does keeps = rw means (λ x e. let no : ⊥ = cc in absurd no)
  answers_it (Ok steps.Waits) true offset m means does keeps = rw means tt
  answers_it (Ok steps.Waits) false offset m means does keeps = rw means (λ x e. let no : ⊥ = cc in absurd no)
  answers_it (Ok steps.Over) waiting offset m means does keeps = rw means (λ x e. let no : ⊥ = cc in absurd no)
  answers_it (Ok steps.Ended) waiting offset m means does keeps = rw means tt
  answers_it (Err hear.Cut) waiting offset m means does keeps = rw means tt
  answers_it (Err (hear.BadFrame at)) waiting offset m means does keeps = rw means tt
  answers_it (Err hear.NoMemory) waiting offset m means does keeps = rw means tt

  -- where what came is bad

  waits_full : (some : b.incoming.waiting ≢ []) → IsTrue ra.shown → Does (Ok steps.Waits) a b → Keeps (Ok steps.Waits) a b ra rb pa pb → (a.incoming.waiting ≢ [] → fb ≡ 0) → ⊥
  waits_full some s does keeps full =
      let none = (none_heard s (Ok steps.Waits) (λ now e. e) keeps).0 in
      let zero = full (λ e. some (ap (λ (x : Listening). x.incoming.waiting) does ∙ e)) in
      omega (arith, (place_on s none).1, zero)

  abbrev Unfit : ℕ → Type 0
  Unfit offset = IsUnfitBehind a.purpose a.heard [] rb.received rb.closed offset

  ended_unfit : IsTrue ra.shown → Does (Ok steps.Ended) a b → Keeps (Ok steps.Ended) a b ra rb pa pb → IsIdle b → b.heard.last ≢ ship.Over → IsTrue rb.closed → Unfit b.offset
  ended_unfit s does keeps idle ne closed =
      let h = (none_heard s (Ok steps.Ended) (λ now e. e) keeps).1 in
      let u = ends_early a.heard b rb.received [] [] h idle ne in
      subst (λ (z : Bool). IsUnfitBehind a.purpose a.heard [] rb.received z b.offset) (sym closed) (subst (λ p. IsUnfitBehind p a.heard [] rb.received true b.offset) (ap (λ (x : Listening). x.purpose) does) u)

  pub bad_there : (r : Result Step HearError) (waiting : Bool) (m : Answer) → StepMeans r waiting b.offset m → Does r a b → Keeps r a b ra rb pa pb → (IsTrue waiting ↔ (b.incoming.waiting ≢ []))
      → (a.incoming.waiting ≢ [] → IfOk r (λ x. x ≡ steps.Waits → fb ≡ 0))
      → IfOk r (λ x. x ≡ steps.Ended → IsIdle b × (b.heard.last ≢ ship.Over) × IsTrue rb.closed)
      → IfErr r (λ e. (offset : ℕ) → e ≡ hear.BadFrame offset → IsTrue ra.shown → (begun : Heard) (frames : List Frame) → IsHearing begun a ra.received pa frames → IsUnfitBehind a.purpose begun frames rb.received false offset)
      → ra.closed ≡ false → rb.closed ≡ (ra.closed || is_ended r) → IsTrue ra.shown → IfErr m (λ e. (offset : ℕ) → e ≡ greets.BadFrame offset → Unfit offset)
  bad_there (Ok steps.Received) waiting m means does keeps is full ended bad opened closed s = rw means tt
  bad_there (Ok (steps.Answered x)) waiting m means does keeps is full ended bad opened closed s = rw means tt
  bad_there (Ok steps.Heard) waiting m means does keeps is full ended bad opened closed s = rw means tt
  bad_there (Ok steps.Waits) true m means does keeps is full ended bad opened closed s = absurd (waits_full (is.0 refl) s does keeps (λ some. full some refl))
  bad_there (Ok steps.Waits) false m means does keeps is full ended bad opened closed s = rw means tt
  bad_there (Ok steps.Over) waiting m means does keeps is full ended bad opened closed s = rw means tt
  bad_there (Ok steps.Ended) waiting m means does keeps is full ended bad opened closed s =
      rw means (λ offset e. let at : b.offset ≡ offset = cc in let x = ended refl in subst Unfit at (ended_unfit s does keeps x.0 x.1 x.2))
  bad_there (Err hear.Cut) waiting m means does keeps is full ended bad opened closed s = rw means (λ offset e. let no : ⊥ = cc in absurd no)
  bad_there (Err (hear.BadFrame at)) waiting m means does keeps is full ended bad opened closed s =
      let still : rb.closed ≡ false = closed ∙ ap (λ (z : Bool). z || false) opened in
      rw means (λ offset e. let same : at ≡ offset = cc in
      subst Unfit same (subst (λ (z : Bool). IsUnfitBehind a.purpose a.heard [] rb.received z at) (sym still) (bad at refl s a.heard [] (hears_here s))))
  bad_there (Err hear.NoMemory) waiting m means does keeps is full ended bad opened closed s = rw means (λ offset e. let no : ⊥ = cc in absurd no)

  -- how much is left

  none_waits : (waiting : Bool) → waiting ≡ false → (IsTrue waiting ↔ (b.incoming.waiting ≢ [])) → b ≡ a → a.incoming.waiting ≡ []
  none_waits waiting not is same =
      ap (λ (x : Listening). x.incoming.waiting) (sym same) ∙ no_frames b.incoming.waiting (λ some. let wrong : false ≡ true = sym not ∙ is.1 some in let no : ⊥ = cc in no)

  got_less : Does (Ok steps.Received) a b → (b.incoming.bad ≡ false → BeginsFrame b.incoming.reading.rest) → left_of b.incoming < left_of a.incoming
  got_less does rest = got_fewer a.incoming b.incoming does.0.frames does.0.good w.fresh does.1 (w.rest does.0.good) rest (does.2 w.fresh)

  same_left : b ≡ a → left_of b.incoming ≡ left_of a.incoming
  same_left same = ap (λ (x : Listening). left_of x.incoming) same

  pub never_more : (r : Result Step HearError) (waiting : Bool) (offset : ℕ) (m : Answer) → StepMeans r waiting offset m → Does r a b → (b.incoming.bad ≡ false → BeginsFrame b.incoming.reading.rest)
      → IfOk r (λ x. x ≡ steps.Over → IsQuiet b × (b.heard.last ≡ ship.Over)) → IfOk m (λ o. o ≡ None → left_of b.incoming ≤ left_of a.incoming)
  never_more (Ok steps.Received) waiting offset m means does rest over = rw means (λ _. let less = got_less does rest in omega (arith, less))
  never_more (Ok (steps.Answered x)) waiting offset m means does rest over = rw means (λ e. let no : ⊥ = cc in absurd no)
  never_more (Ok steps.Heard) waiting offset m means does rest over = absurd (none_else a.purpose a.heard b.heard does.0 w.begun does.1 does.2.fits)
  never_more (Ok steps.Waits) true offset m means does rest over = rw means tt
  never_more (Ok steps.Waits) false offset m means does rest over = rw means (λ _. let e = same_left does in omega (arith, e))
  never_more (Ok steps.Over) waiting offset m means does rest over = absurd (never_over does (over refl).1)
  never_more (Ok steps.Ended) waiting offset m means does rest over = rw means tt
  never_more (Err hear.Cut) waiting offset m means does rest over = rw means tt
  never_more (Err (hear.BadFrame at)) waiting offset m means does rest over = rw means tt
  never_more (Err hear.NoMemory) waiting offset m means does rest over = rw means tt

  pub moves_on : (r : Result Step HearError) (waiting : Bool) (offset : ℕ) (m : Answer) → StepMeans r waiting offset m → Does r a b → (b.incoming.bad ≡ false → BeginsFrame b.incoming.reading.rest)
      → IfOk r (λ x. x ≡ steps.Over → IsQuiet b × (b.heard.last ≡ ship.Over)) → (IsTrue waiting ↔ (b.incoming.waiting ≢ []))
      → (a.incoming.waiting ≡ [] → IfOk r (λ x. x ≡ steps.Waits → (ra.unread ≡ []) × (ra.ended ≡ false))) → (a.incoming.waiting ≡ [] → ra.unread ≢ []) → IfOk m (λ o. o ≡ None → left_of b.incoming < left_of a.incoming)
  moves_on (Ok steps.Received) waiting offset m means does rest over is waits some = rw means (λ _. got_less does rest)
  moves_on (Ok (steps.Answered x)) waiting offset m means does rest over is waits some = rw means (λ e. let no : ⊥ = cc in absurd no)
  moves_on (Ok steps.Heard) waiting offset m means does rest over is waits some = absurd (none_else a.purpose a.heard b.heard does.0 w.begun does.1 does.2.fits)
  moves_on (Ok steps.Waits) true offset m means does rest over is waits some = rw means tt
  moves_on (Ok steps.Waits) false offset m means does rest over is waits some = rw means (λ _. let none = none_waits false refl is does in absurd (some none (waits none refl).0))
  moves_on (Ok steps.Over) waiting offset m means does rest over is waits some = absurd (never_over does (over refl).1)
  moves_on (Ok steps.Ended) waiting offset m means does rest over is waits some = rw means tt
  moves_on (Err hear.Cut) waiting offset m means does rest over is waits some = rw means tt
  moves_on (Err (hear.BadFrame at)) waiting offset m means does rest over is waits some = rw means tt
  moves_on (Err hear.NoMemory) waiting offset m means does rest over is waits some = rw means tt

  unbegun_on : a.heard.last ≢ ship.Over
  unbegun_on over = let wrong : ship.Over ≡ Unbegun = sym over ∙ w.begun in let no : ⊥ = cc in no

  pub tires_on : (r : Result Step HearError) (waiting : Bool) (offset : ℕ) (m : Answer) → StepMeans r waiting offset m → Does r a b → (b.incoming.bad ≡ false → BeginsFrame b.incoming.reading.rest)
      → IfOk r (λ x. x ≡ steps.Over → IsQuiet b × (b.heard.last ≡ ship.Over)) → (IsTrue waiting ↔ (b.incoming.waiting ≢ []))
      → (a.incoming.waiting ≡ [] → a.incoming.fresh ≡ [] → a.heard.last ≢ ship.Over → OnOk r (rb.patience + patience_cost r ≡ ra.patience))
      → IfOk m (λ o. o ≡ None → left_of b.incoming + rb.patience < left_of a.incoming + ra.patience)
  tires_on (Ok steps.Received) waiting offset m means does rest over is costs = rw means (λ _. let less = got_less does rest in let cost = costs does.0.frames w.fresh unbegun_on in omega (arith, less, cost))
  tires_on (Ok (steps.Answered x)) waiting offset m means does rest over is costs = rw means (λ e. let no : ⊥ = cc in absurd no)
  tires_on (Ok steps.Heard) waiting offset m means does rest over is costs = absurd (none_else a.purpose a.heard b.heard does.0 w.begun does.1 does.2.fits)
  tires_on (Ok steps.Waits) true offset m means does rest over is costs = rw means tt
  tires_on (Ok steps.Waits) false offset m means does rest over is costs = rw means (λ _. let e = same_left does in let cost = costs (none_waits false refl is does) w.fresh unbegun_on in omega (arith, e, cost))
  tires_on (Ok steps.Over) waiting offset m means does rest over is costs = absurd (never_over does (over refl).1)
  tires_on (Ok steps.Ended) waiting offset m means does rest over is costs = rw means tt
  tires_on (Err hear.Cut) waiting offset m means does rest over is costs = rw means tt
  tires_on (Err (hear.BadFrame at)) waiting offset m means does rest over is costs = rw means tt
  tires_on (Err hear.NoMemory) waiting offset m means does rest over is costs = rw means tt

pub cut_of : (r : Result Step HearError) (waiting : Bool) (offset : ℕ) (m : Answer) → StepMeans r waiting offset m → IsErrOf m greets.Cut → IsErrOf r hear.Cut
cut_of (Ok steps.Received) waiting offset m means e = let no : ⊥ = cc in absurd no
cut_of (Ok (steps.Answered x)) waiting offset m means e = let no : ⊥ = cc in absurd no
cut_of (Ok steps.Heard) waiting offset m means e = let no : ⊥ = cc in absurd no
cut_of (Ok steps.Waits) true offset m means e = let no : ⊥ = cc in absurd no
cut_of (Ok steps.Waits) false offset m means e = let no : ⊥ = cc in absurd no
cut_of (Ok steps.Over) waiting offset m means e = let no : ⊥ = cc in absurd no
cut_of (Ok steps.Ended) waiting offset m means e = let no : ⊥ = cc in absurd no
cut_of (Err hear.Cut) waiting offset m means e = refl
cut_of (Err (hear.BadFrame at)) waiting offset m means e = let no : ⊥ = cc in absurd no
cut_of (Err hear.NoMemory) waiting offset m means e = let no : ⊥ = cc in absurd no

pub cut_told : (r : Result Step HearError) (waiting : Bool) (offset : ℕ) (m : Answer) → StepMeans r waiting offset m → IsErrOf r hear.Cut → IsErrOf m greets.Cut
cut_told r waiting offset m means e = subst (λ x. StepMeans x waiting offset m) e means

pub closed_on : (old now : Bool) (r : Result Step HearError) (waiting : Bool) (offset : ℕ) (m : Answer) → StepMeans r waiting offset m → old ≡ false → now ≡ (old || is_ended r) → OnOk m (now ≡ false)
closed_on old now (Ok steps.Received) waiting offset m means opened e = rw means (e ∙ ap (λ (z : Bool). z || false) opened)
closed_on old now (Ok (steps.Answered x)) waiting offset m means opened e = rw means (e ∙ ap (λ (z : Bool). z || false) opened)
closed_on old now (Ok steps.Heard) waiting offset m means opened e = rw means (e ∙ ap (λ (z : Bool). z || false) opened)
closed_on old now (Ok steps.Waits) true offset m means opened e = rw means tt
closed_on old now (Ok steps.Waits) false offset m means opened e = rw means (e ∙ ap (λ (z : Bool). z || false) opened)
closed_on old now (Ok steps.Over) waiting offset m means opened e = rw means (e ∙ ap (λ (z : Bool). z || false) opened)
closed_on old now (Ok steps.Ended) waiting offset m means opened e = rw means tt
closed_on old now (Err hear.Cut) waiting offset m means opened e = rw means tt
closed_on old now (Err (hear.BadFrame at)) waiting offset m means opened e = rw means tt
closed_on old now (Err hear.NoMemory) waiting offset m means opened e = rw means tt

-- behind an answer that is the last frame

abbrev EndAnswer : Type 0
EndAnswer = Result (Unit {0}) GreetError

module _ (a b : Listening) (ra rb : Receiving) (pa pb : List Arrival) (fa fb : ℕ) (seen : rb.shown ≡ ra.shown) (places : fa + length pa ≤ fb + length pb) where
  heard_with : (begun : Heard) (h : Handshake) → HasAnswer begun a ra.shown ra.received pa fa h → IsTrue ra.shown → IsHearing begun a ra.received pa (answer_frame h ∷ [])
  heard_with begun h x s = subst (λ (l : List Arrival). IsHearing begun a ra.received l (answer_frame h ∷ [])) (sym (x.place s).0) (x.hears s)

  still_answered : Does (Ok steps.Over) a b → Keeps (Ok steps.Over) a b ra rb pa pb → (begun : Heard) (h : Handshake) → HasAnswer begun a ra.shown ra.received pa fa h → HasAnswer begun b rb.shown rb.received pb fb h
  still_answered does keeps begun h x =
      let one = λ (s : IsTrue ra.shown). keeps s begun (answer_frame h ∷ []) (heard_with begun h x s) in
      let put = λ (s : IsTrue ra.shown). (one s).2.put_is ∙ (ap (λ (l : List Frame). arrivals 0 None l) (one s).1 ∙ none_put h) in
      record {
        heard = ap (λ (y : Listening). y.heard) does ∙ (x.heard ∙ ap (λ (y : Listening). behind y.purpose begun (answer_frame h)) (sym does));
        fresh = ap (λ (y : Listening). y.incoming.fresh) does ∙ x.fresh;
        hears = λ s. let t = sym seen ∙ s in subst (λ (l : List Frame). IsHearing begun b rb.received [] l) (one t).1 (subst (λ (l : List Arrival). IsHearing begun b rb.received l (one t).0) (put t) (one t).2);
        place = λ s.
            let t = sym seen ∙ s in
            let before : length pa ≡ 0 = ap (λ (l : List Arrival). length l) (x.place t).0 in
            let after : length pb ≡ 0 = ap (λ (l : List Arrival). length l) (put t) in
            (put t, omega (arith, before, after, places, (x.place t).1));
      }

  pub end_answered : (r : Result Step HearError) (offset : ℕ) (m : EndAnswer) → EndMeans r offset m → Does r a b → Keeps r a b ra rb pa pb
      → OnOk m ((begun : Heard) (h : Handshake) → HasAnswer begun a ra.shown ra.received pa fa h → HasAnswer begun b rb.shown rb.received pb fb h)
  end_answered (Ok steps.Over) offset m means does keeps = rw means (still_answered does keeps)
  end_answered (Ok (steps.Answered y)) offset m means does keeps = rw means tt
  end_answered (Ok steps.Ended) offset m means does keeps = rw means tt
  end_answered (Ok steps.Waits) offset m means does keeps = rw means tt
  end_answered (Ok steps.Received) offset m means does keeps = rw means tt
  end_answered (Ok steps.Heard) offset m means does keeps = rw means tt
  end_answered (Err hear.Cut) offset m means does keeps = rw means tt
  end_answered (Err (hear.BadFrame at)) offset m means does keeps = rw means tt
  end_answered (Err hear.NoMemory) offset m means does keeps = rw means tt

  pub end_bad : (r : Result Step HearError) (offset : ℕ) (m : EndAnswer) → EndMeans r offset m → (0 < fa → IsOverAnswer r)
      → IfErr r (λ e. (offset : ℕ) → e ≡ hear.BadFrame offset → IsTrue ra.shown → (begun : Heard) (frames : List Frame) → IsHearing begun a ra.received pa frames → IsUnfitBehind a.purpose begun frames rb.received false offset)
      → ra.closed ≡ false → rb.closed ≡ (ra.closed || is_ended r)
      → IfErr m (λ e. (offset : ℕ) → e ≡ greets.BadFrame offset → IsTrue ra.shown → (begun : Heard) (h : Handshake) → HasAnswer begun a ra.shown ra.received pa fa h → IsUnfitBehind a.purpose begun (answer_frame h ∷ []) rb.received rb.closed offset)
  end_bad (Ok steps.Over) offset m means only bad opened closed = rw means tt
  end_bad (Ok (steps.Answered y)) offset m means only bad opened closed = rw means (λ at e s begun h x. absurd (only (x.place s).1))
  end_bad (Ok steps.Ended) offset m means only bad opened closed = rw means (λ at e s begun h x. absurd (only (x.place s).1))
  end_bad (Ok steps.Waits) offset m means only bad opened closed = rw means (λ at e s begun h x. absurd (only (x.place s).1))
  end_bad (Ok steps.Received) offset m means only bad opened closed = rw means (λ at e s begun h x. absurd (only (x.place s).1))
  end_bad (Ok steps.Heard) offset m means only bad opened closed = rw means (λ at e s begun h x. absurd (only (x.place s).1))
  end_bad (Err hear.Cut) offset m means only bad opened closed = rw means (λ at e. let no : ⊥ = cc in absurd no)
  end_bad (Err (hear.BadFrame at)) offset m means only bad opened closed = rw means (λ there e s begun h x.
      let same : at ≡ there = cc in
      let still : rb.closed ≡ false = closed ∙ ap (λ (z : Bool). z || false) opened in
      subst (λ (n : ℕ). IsUnfitBehind a.purpose begun (answer_frame h ∷ []) rb.received rb.closed n) same
      (subst (λ (z : Bool). IsUnfitBehind a.purpose begun (answer_frame h ∷ []) rb.received z at) (sym still) (bad at refl s begun (answer_frame h ∷ []) (heard_with begun h x s))))
  end_bad (Err hear.NoMemory) offset m means only bad opened closed = rw means (λ at e. let no : ⊥ = cc in absurd no)

pub end_over : (X : Type 0) (r : Result Step HearError) (offset : ℕ) (m : EndAnswer) → EndMeans r offset m → IfOk r (λ x. x ≡ steps.Over → X) → OnOk m X
end_over X (Ok steps.Over) offset m means x = rw means (x refl)
end_over X (Ok (steps.Answered y)) offset m means x = rw means tt
end_over X (Ok steps.Ended) offset m means x = rw means tt
end_over X (Ok steps.Waits) offset m means x = rw means tt
end_over X (Ok steps.Received) offset m means x = rw means tt
end_over X (Ok steps.Heard) offset m means x = rw means tt
end_over X (Err hear.Cut) offset m means x = rw means tt
end_over X (Err (hear.BadFrame at)) offset m means x = rw means tt
end_over X (Err hear.NoMemory) offset m means x = rw means tt

-- what an answer of it tells of another fact of the step
pub end_open : (old now : Bool) (r : Result Step HearError) (offset : ℕ) (m : EndAnswer) → EndMeans r offset m → old ≡ false → now ≡ (old || is_ended r) → OnOk m (now ≡ false)
end_open old now (Ok steps.Over) offset m means opened e = rw means (e ∙ ap (λ (z : Bool). z || false) opened)
end_open old now (Ok (steps.Answered y)) offset m means opened e = rw means tt
end_open old now (Ok steps.Ended) offset m means opened e = rw means tt
end_open old now (Ok steps.Waits) offset m means opened e = rw means tt
end_open old now (Ok steps.Received) offset m means opened e = rw means tt
end_open old now (Ok steps.Heard) offset m means opened e = rw means tt
end_open old now (Err hear.Cut) offset m means opened e = rw means tt
end_open old now (Err (hear.BadFrame at)) offset m means opened e = rw means tt
end_open old now (Err hear.NoMemory) offset m means opened e = rw means tt

pub end_cut : (r : Result Step HearError) (offset : ℕ) (m : EndAnswer) → EndMeans r offset m → IsErrOf m greets.Cut → IsErrOf r hear.Cut
end_cut (Ok steps.Over) offset m means e = let no : ⊥ = cc in absurd no
end_cut (Ok (steps.Answered y)) offset m means e = let no : ⊥ = cc in absurd no
end_cut (Ok steps.Ended) offset m means e = let no : ⊥ = cc in absurd no
end_cut (Ok steps.Waits) offset m means e = let no : ⊥ = cc in absurd no
end_cut (Ok steps.Received) offset m means e = let no : ⊥ = cc in absurd no
end_cut (Ok steps.Heard) offset m means e = let no : ⊥ = cc in absurd no
end_cut (Err hear.Cut) offset m means e = refl
end_cut (Err (hear.BadFrame at)) offset m means e = let no : ⊥ = cc in absurd no
end_cut (Err hear.NoMemory) offset m means e = let no : ⊥ = cc in absurd no

pub end_told : (r : Result Step HearError) (offset : ℕ) (m : EndAnswer) → EndMeans r offset m → IsErrOf r hear.Cut → IsErrOf m greets.Cut
end_told r offset m means e = subst (λ x. EndMeans x offset m) e means
