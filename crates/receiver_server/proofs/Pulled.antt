-- What a step tells that received bytes.
use Rattle.std.proofs.Common.{◌≡◌, ◌≢◌, ℕ, ◌+◌, ◌<◌, ◌||◌, Bool, true, false, IsTrue, List, [], ◌∷◌, ◌++◌, length, Result, Ok, Err, IfOk, IfErr, refl, sym, ap, subst, ◌∙◌, arith, append-nil, length-append, if◌then◌else◌}
use Rattle.wire_defs.specs.Frames.{Frame, stream}
use Rattle.ship_defs.specs.Hearing as ship
use Rattle.receiver_server.specs.Incomings.{Incoming, unheard, Reads, begins, begins_none, with_piece, Pulls}
use Rattle.receiver_server.specs.Answers.{is_ended}
use Rattle.receiver_server.specs.Listenings.{Listening, IsQuiet, IsIdle, Hears, Does}
use Rattle.receiver_server.specs.declared.step.HearError.{HearError}
use Rattle.receiver_server.specs.declared.step.HearError.TheVariants.{Cut, BadFrame, NoMemory}
use Rattle.receiver_server.specs.declared.step.Step.{Step}
use Rattle.receiver_server.specs.declared.step.Step.TheVariants.{Received, Answered, Heard, Waits, Over, Ended}

empty_of : (l : List ℕ) → length l ≡ 0 → l ≡ []
empty_of [] zero = refl
empty_of (x ∷ l) zero = absurd (omega (arith, zero))

-- how many bytes weren't heard where no frame waits and none is bad
pub unheard_is : (i : Incoming) → i.waiting ≡ [] → i.bad ≡ false → unheard i ≡ length i.reading.rest + length i.fresh
unheard_is i none good =
    let e : unheard i ≡ 0 + length i.reading.rest + length i.fresh
    = ap (λ (w : List Frame). length (stream w) + (if i.bad then 0 else length i.reading.rest) + length i.fresh) none ∙ ap (λ (b : Bool). 0 + (if b then 0 else length i.reading.rest) + length i.fresh) good in
    omega (arith, e)

pub quiet_of : (s : Listening) → s.incoming.waiting ≡ [] → s.incoming.bad ≡ false → (0 < unheard s.incoming → ⊥) → IsQuiet s
quiet_of s none good nothing =
    let e = unheard_is s.incoming none good in
    let most : unheard s.incoming ≡ 0 = grind (arith, nothing) in
    record { frames = none; bytes = empty_of s.incoming.reading.rest (omega (arith, e, most)); fresh = empty_of s.incoming.fresh (omega (arith, e, most)); good = good }

pub pulls_heard : (answer : Result Step HearError) (piece : List ℕ) (a b : Incoming) → Pulls answer piece a b → (frames : List Frame) → Hears answer frames frames
pulls_heard (Ok Received) piece a b p frames = refl
pulls_heard (Ok (Answered answer)) piece a b p frames = absurd p
pulls_heard (Ok Heard) piece a b p frames = absurd p
pulls_heard (Ok Waits) piece a b p frames = refl
pulls_heard (Ok Over) piece a b p frames = absurd p
pulls_heard (Ok Ended) piece a b p frames = refl
pulls_heard (Err e) piece a b p frames = refl

-- more bytes are left once some were read
got_more : (a b : Incoming) (piece : List ℕ) → a.waiting ≡ [] → a.bad ≡ false → a.fresh ≡ [] → 0 < length piece → Reads (with_piece a piece) b → b.fresh ≡ [] → b.bad ≡ false → unheard a < unheard b
got_more a b piece none good empty some (begins t begun fine) read now =
    let before = unheard_is a none good in
    let zero : length a.fresh ≡ 0 = ap (λ (l : List ℕ). length l) empty in
    let whole : length (a.reading.rest ++ (a.fresh ++ piece)) ≡ length (stream t.frames ++ b.reading.rest) = ap length t.are.whole in
    let parts = length-append a.reading.rest (a.fresh ++ piece) in
    let fresh_parts = length-append a.fresh piece in
    let framed = length-append (stream t.frames) b.reading.rest in
    let same : length (stream b.waiting) ≡ length (stream t.frames) = ap (λ (w : List Frame). length (stream w)) t.added in
    let after : unheard b ≡ length (stream b.waiting) + length b.reading.rest + length b.fresh = ap (λ (x : Bool). length (stream b.waiting) + (if x then 0 else length b.reading.rest) + length b.fresh) now in
    omega (arith, before, zero, whole, parts, fresh_parts, framed, same, after, some)
got_more a b piece none good empty some (begins_none at r kept bad) read now = let no : false ≡ true = sym now ∙ bad in let wrong : ⊥ = cc in absurd wrong

same_again : (s : Listening) (i : Incoming) → i ≡ s.incoming → record s { incoming = i } ≡ s
same_again s i same = ap (λ (x : Incoming). record s { incoming = x }) same

pub pulls_does : (answer : Result Step HearError) (piece : List ℕ) (s : Listening) (i : Incoming) → s.incoming.waiting ≡ [] → s.incoming.bad ≡ false → s.heard.last ≢ ship.Over → Pulls answer piece s.incoming i → Does answer s (record s { incoming = i })
pulls_does (Ok Received) piece s i none good going p =
    (record { frames = none; good = good; going = going; after = refl }, p.0.fresh, λ empty now. got_more s.incoming i piece none good empty (p.1 empty) p.0.reads p.0.fresh now)
pulls_does (Ok (Answered answer)) piece s i none good going p = absurd p
pulls_does (Ok Heard) piece s i none good going p = absurd p
pulls_does (Ok Waits) piece s i none good going p = same_again s i p.1
pulls_does (Ok Over) piece s i none good going p = absurd p
pulls_does (Ok Ended) piece s i none good going p = same_again s i p.1
pulls_does (Err Cut) piece s i none good going p = same_again s i p.1
pulls_does (Err (BadFrame offset)) piece s i none good going p = absurd p
pulls_does (Err NoMemory) piece s i none good going p = subst (λ (x : Incoming). record s { incoming = x } ≡ record s { incoming = record s.incoming { fresh = x.fresh } }) (sym p) refl

or_true : (old now : Bool) → now ≡ (old || true) → IsTrue now
or_true true now e = e
or_true false now e = e

pub pulls_ended : (answer : Result Step HearError) (piece : List ℕ) (s : Listening) (i : Incoming) (old now : Bool) → s.incoming.waiting ≡ [] → s.incoming.bad ≡ false → s.heard.last ≢ ship.Over → Pulls answer piece s.incoming i → now ≡ (old || is_ended answer)
    → IfOk answer (λ a. a ≡ Ended → IsIdle (record s { incoming = i }) × (s.heard.last ≢ ship.Over) × IsTrue now)
pulls_ended (Ok Received) piece s i old now none good going p e = λ wrong. let no : ⊥ = cc in absurd no
pulls_ended (Ok (Answered answer)) piece s i old now none good going p e = absurd p
pulls_ended (Ok Heard) piece s i old now none good going p e = absurd p
pulls_ended (Ok Waits) piece s i old now none good going p e = λ wrong. let no : ⊥ = cc in absurd no
pulls_ended (Ok Over) piece s i old now none good going p e = absurd p
pulls_ended (Ok Ended) piece s i old now none good going p e = λ _.
    (record { frames = ap (λ (x : Incoming). x.waiting) p.1 ∙ none; fresh = ap (λ (x : Incoming). x.fresh) p.1 ∙ p.2; good = ap (λ (x : Incoming). x.bad) p.1 ∙ good }, going, or_true old now e)
pulls_ended (Err x) piece s i old now none good going p e = tt

module _ (X : ℕ → Type 0) where
  pub pulls_good : (answer : Result Step HearError) (piece : List ℕ) (a b : Incoming) → Pulls answer piece a b → IfErr answer (λ e. (offset : ℕ) → e ≡ BadFrame offset → X offset)
  pulls_good (Ok a) piece i j p = tt
  pulls_good (Err Cut) piece i j p = λ offset e. let no : ⊥ = cc in absurd no
  pulls_good (Err (BadFrame at)) piece i j p = absurd p
  pulls_good (Err NoMemory) piece i j p = λ offset e. let no : ⊥ = cc in absurd no

module _ (X : Type 0) where
  pub pulls_on : (answer : Result Step HearError) (piece : List ℕ) (a b : Incoming) → Pulls answer piece a b → IfOk answer (λ x. x ≡ Over → X)
  pulls_on (Ok Received) piece i j p = λ e. let no : ⊥ = cc in absurd no
  pulls_on (Ok (Answered answer)) piece i j p = absurd p
  pulls_on (Ok Heard) piece i j p = absurd p
  pulls_on (Ok Waits) piece i j p = λ e. let no : ⊥ = cc in absurd no
  pulls_on (Ok Over) piece i j p = absurd p
  pulls_on (Ok Ended) piece i j p = λ e. let no : ⊥ = cc in absurd no
  pulls_on (Err e) piece i j p = tt

-- where nothing has come no byte was received
pub pulls_nothing : (answer : Result Step HearError) (piece : List ℕ) (a b : Incoming) (before after : List ℕ) → Pulls answer piece a b → after ≡ before ++ piece → IfOk answer (λ x. x ≡ Waits → after ≡ before)
pulls_nothing (Ok Received) piece i j before after p e = λ x. let no : ⊥ = cc in absurd no
pulls_nothing (Ok (Answered answer)) piece i j before after p e = absurd p
pulls_nothing (Ok Heard) piece i j before after p e = absurd p
pulls_nothing (Ok Waits) piece i j before after p e = λ x. e ∙ (ap (λ (l : List ℕ). before ++ l) p.0 ∙ append-nil before)
pulls_nothing (Ok Over) piece i j before after p e = absurd p
pulls_nothing (Ok Ended) piece i j before after p e = λ x. let no : ⊥ = cc in absurd no
pulls_nothing (Err e) piece i j before after p is = tt

pub no_frames : (l : List Frame) → (l ≢ [] → ⊥) → l ≡ []
no_frames [] not = refl
no_frames (f ∷ fs) not = absurd (not (λ e. let wrong : ⊥ = cc in wrong))

module _ (X Y : ℕ → Type 0) (weaker : (offset : ℕ) → X offset → Y offset) where
  pub bad_weaker : (answer : Result Step HearError) → IfErr answer (λ e. (offset : ℕ) → e ≡ BadFrame offset → X offset) → IfErr answer (λ e. (offset : ℕ) → e ≡ BadFrame offset → Y offset)
  bad_weaker (Ok a) h = tt
  bad_weaker (Err e) h = λ offset is. weaker offset (h offset is)
