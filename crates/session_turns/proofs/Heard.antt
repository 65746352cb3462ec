-- What a step of a Receiver Server leaves to the Update Process.
use Rattle.std.proofs.Common.{◌≡◌, ◌⊎◌, inl, inr, ℕ, ◌≤◌, false, List, [], ◌∷◌, ◌++◌, length, Option, None, Result, Ok, Err, OnOk, IfOk, IfErr, IsErrOf, refl, sym, ap, subst, ◌∙◌, arith, append_assoc, append-nil}
use Rattle.global_defs.specs.Entry.{Reign}
use Rattle.wire_defs.specs.Frames.{Frame, Hello, Resume, RollbackFirst, History, Entry, Bye, offset_after}
use Rattle.ship_defs.specs.Hearing.{unbegun, HasUnfit}
use Rattle.ship_defs.specs.Hearing.{Heard as Heards}
use Rattle.ship_defs.specs.Arrivals.{Arrival, arrived, arrivals, told_reign}
use Rattle.receiver_server.specs.Answers.{answer_frame}
use Rattle.receiver_server.specs.Listenings.{Listening, IsHearing, Hears, Does, IsUnfitBehind}
use Rattle.receiver_server.specs.declared.step.HearError.{HearError}
use Rattle.receiver_server.specs.declared.step.HearError.TheVariants as hear
use Rattle.receiver_server.specs.declared.step.Step.{Step}
use Rattle.receiver_server.specs.declared.step.Step.TheVariants.{Received, Answered, Heard, Waits, Over, Ended}
use Rattle.update_process.specs.Copies.{Copy, history_of}
use Rattle.update_process.specs.declared.update.UpdateError.{UpdateError}
use Rattle.update_process.specs.declared.update.UpdateError.TheVariants as update
use Rattle.update_process.specs.Updates.{IsSites}
use Rattle.session_turns.specs.declared.machines.TurnError.{TurnError}
use Rattle.session_turns.specs.declared.machines.Turned.{Turned}
use Rattle.session_turns.specs.declared.machines.Turned.TheVariants as turned
use Rattle.session_turns.specs.Following.{Followed, Awaits, Halts}
use Rattle.session_turns.specs.Turns.{HasFollowed, HasHalted, Comes, turned_of}

arrived_few : (at : ℕ) (reign : Option Reign) (f : Frame) → length (arrived at reign f) ≤ 1
arrived_few at reign (Hello version name history) = omega arith
arrived_few at reign (Resume n) = omega arith
arrived_few at reign (RollbackFirst n) = omega arith
arrived_few at reign (History r) = omega arith
arrived_few at reign (Entry n t) = omega arith
arrived_few at reign (Bye n) = omega arith

-- one more frame brings one more entry at most
one_more : (at : ℕ) (reign : Option Reign) (fs : List Frame) (f : Frame) → (left : List Arrival) × (arrivals at reign (fs ++ f ∷ []) ≡ arrivals at reign fs ++ left) × (length left ≤ 1)
one_more at reign [] f = (arrived at reign f, append-nil (arrived at reign f), arrived_few at reign f)
one_more at reign (g ∷ fs) f =
    let behind = offset_after at (g ∷ []) in
    let later = one_more behind (told_reign g) fs f in
    (later.0, ap (λ (l : List Arrival). arrived at reign g ++ l) later.1 ∙ sym (append_assoc (arrived at reign g) (arrivals behind (told_reign g) fs) later.0), later.2)

grown : (result : Result Step HearError) (before after : List Frame) → Hears result before after → (after ≡ before) ⊎ ((f : Frame) × (after ≡ before ++ f ∷ []))
grown (Ok Received) before after h = inl h
grown (Ok (Answered answer)) before after h = inr (answer_frame answer, h)
grown (Ok Heard) before after h = inr (h.0, h.2)
grown (Ok Waits) before after h = inl h
grown (Ok Over) before after h = inl h
grown (Ok Ended) before after h = inl h
grown (Err e) before after h = inl h

left_of : (before after : List Frame) → (after ≡ before) ⊎ ((f : Frame) × (after ≡ before ++ f ∷ [])) → (left : List Arrival) × (arrivals 0 None after ≡ arrivals 0 None before ++ left) × (length left ≤ 1)
left_of before after (inl same) = ([], ap (arrivals 0 None) same ∙ sym (append-nil (arrivals 0 None before)), omega arith)
left_of before after (inr more) =
    let one = one_more 0 None before more.0 in
    (one.0, ap (arrivals 0 None) more.1 ∙ one.1, one.2)

module _ (begun : Copy) (r now : Listening) (received later : List ℕ) (put taken more : List Arrival) (c : Copy) (h : HasFollowed begun r received put taken c) where
  module _ (result : Result Step HearError) (frames : List Frame) (hears : Hears result h.frames frames) (is : IsHearing (unbegun (history_of begun)) now later more frames) where
    -- the entry that was put waits to be applied
    pub awaits : Awaits begun more taken c
    awaits =
        let left = left_of h.frames frames (grown result h.frames frames hears) in
        record {
          has_fit = record { fit = h.fit; purpose = now.purpose; frames = frames; now = now.heard; admitted = is.admitted; arrive = is.put_is };
          left = left.0;
          is = is.put_is ∙ (left.1 ∙ ap (λ (l : List Arrival). l ++ left.0) (sym h.hears.put_is ∙ sym h.all));
          most = left.2;
          follows = subst (λ (l : List Arrival). Followed begun l c) (sym h.all) h.follows;
        }

    module _ (after out : List Arrival) (d : Copy) (same : after ≡ more) where
      followed_on : (out ≡ after) × Followed begun after d → HasFollowed begun now later after out d
      followed_on done = record {
        fit = h.fit;
        frames = frames;
        hears = subst (λ (l : List Arrival). IsHearing (unbegun (history_of begun)) now later l frames) (sym same) is;
        all = done.0;
        follows = done.1;
      }

      halted_on : (x : Arrival) → more ≡ taken ++ x ∷ [] → HasHalted begun now later after x c
      halted_on x one = record {
        fit = h.fit;
        frames = frames;
        hears = subst (λ (l : List Arrival). IsHearing (unbegun (history_of begun)) now later l frames) (sym same) is;
        applied = taken;
        is = same ∙ one;
        follows = subst (λ (l : List Arrival). Followed begun l c) (sym h.all) h.follows;
      }

      pub comes_of : {F : Type 0} (heard : Result Step HearError) (applied : Result (Unit {0}) (UpdateError F)) (offset : ℕ)
          → IfErr heard (λ e. (o : ℕ) → e ≡ hear.BadFrame o → HasUnfit now.purpose (unbegun (history_of begun)) later false o)
          → OnOk applied ((b : Copy) → Awaits b more taken c → (out ≡ after) × Followed b after d)
          → IfErr applied (λ e. (b : Copy) → Awaits b more taken c → (x : Arrival) × (more ≡ taken ++ x ∷ []) × Halts e x c d)
          → Comes (turned_of heard applied offset) begun now later after out d
      comes_of (Ok Received) (Ok u) offset bad done fails = inl (followed_on (done begun awaits), tt)
      comes_of (Ok (Answered answer)) (Ok u) offset bad done fails = inl (followed_on (done begun awaits), tt)
      comes_of (Ok Heard) (Ok u) offset bad done fails = inl (followed_on (done begun awaits), tt)
      comes_of (Ok Waits) (Ok u) offset bad done fails = inl (followed_on (done begun awaits), tt)
      comes_of (Ok Over) (Ok u) offset bad done fails = inl (followed_on (done begun awaits), tt)
      comes_of (Ok Ended) (Ok u) offset bad done fails = inl (followed_on (done begun awaits), tt)
      comes_of (Err hear.Cut) (Ok u) offset bad done fails = inl (followed_on (done begun awaits), tt)
      comes_of (Err (hear.BadFrame at)) (Ok u) offset bad done fails = inl (followed_on (done begun awaits), bad at refl)
      comes_of (Err hear.NoMemory) (Ok u) offset bad done fails = inl (followed_on (done begun awaits), tt)
      comes_of heard (Err (update.BadFrame at)) offset bad done fails = let x = fails begun awaits in inr (x.0, c, halted_on x.0 x.1, x.2)
      comes_of heard (Err (update.Site e)) offset bad done fails = let x = fails begun awaits in inr (x.0, c, halted_on x.0 x.1, x.2)

      -- where the receiving end was found cut nothing was put that wasn't applied
      pub whole_of : {F : Type 0} (heard : Result Step HearError) (applied : Result (Unit {0}) (UpdateError F)) (offset : ℕ)
          → OnOk applied ((b : Copy) → Awaits b more taken c → (out ≡ after) × Followed b after d)
          → IfOk (turned_of heard applied offset) (λ t. t ≡ turned.Cut → HasFollowed begun now later after out d)
      whole_of (Ok Received) (Ok u) offset done = λ e. absurd (cc)
      whole_of (Ok (Answered answer)) (Ok u) offset done = λ e. absurd (cc)
      whole_of (Ok Heard) (Ok u) offset done = λ e. absurd (cc)
      whole_of (Ok Waits) (Ok u) offset done = λ e. absurd (cc)
      whole_of (Ok Over) (Ok u) offset done = λ e. absurd (cc)
      whole_of (Ok Ended) (Ok u) offset done = λ e. absurd (cc)
      whole_of (Err hear.Cut) (Ok u) offset done = λ _. followed_on (done begun awaits)
      whole_of (Err (hear.BadFrame at)) (Ok u) offset done = λ e. absurd (cc)
      whole_of (Err hear.NoMemory) (Ok u) offset done = tt
      whole_of heard (Err (update.BadFrame at)) offset done = λ e. absurd (cc)
      whole_of heard (Err (update.Site e)) offset done = tt

-- bytes were received, and nothing was put that wasn't applied
pub received_on : (begun : Copy) (a b : Listening) (received later : List ℕ) (put taken more : List Arrival) (c : Copy) → HasFollowed begun a received put taken c
    → (frames : List Frame) → IsHearing (unbegun (history_of begun)) b later more frames → more ≡ put → HasFollowed begun b later more taken c
received_on begun a b received later put taken more c h frames is same = record {
  fit = h.fit;
  frames = frames;
  hears = is;
  all = h.all ∙ sym same;
  follows = subst (λ (l : List Arrival). Followed begun l c) (sym same) h.follows;
}

-- nothing has come, and nothing was applied
pub unmoved : (begun : Copy) (a b : Listening) (received : List ℕ) (put later taken out : List Arrival) (c : Copy) → b ≡ a → later ≡ put → out ≡ taken → HasFollowed begun a received put taken c → HasFollowed begun b received later out c
unmoved begun a b received put later taken out c r p t h =
    subst (λ (l : Listening). HasFollowed begun l received later out c) (sym r)
    (subst (λ (l : List Arrival). HasFollowed begun a received l out c) (sym p) (subst (λ (l : List Arrival). HasFollowed begun a received put l c) (sym t) h))

-- where a step has told a bad frame, it stands there still
pub unfit_of : (heard : Result Step HearError) (a b : Listening) (S : Type 0) (begun : Heards) (first received : List ℕ) (put : List Arrival) (frames : List Frame) → S → IsHearing begun a first put frames → Does heard a b
    → IfErr heard (λ e. (o : ℕ) → e ≡ hear.BadFrame o → S → (bg : Heards) (fs : List Frame) → IsHearing bg a first put fs → IsUnfitBehind a.purpose bg fs received false o)
    → IfErr heard (λ e. (o : ℕ) → e ≡ hear.BadFrame o → HasUnfit b.purpose begun received false o)
unfit_of (Ok s) a b S begun first received put frames shown h does bad = tt
unfit_of (Err hear.Cut) a b S begun first received put frames shown h does bad = λ o e. absurd (cc)
unfit_of (Err (hear.BadFrame at)) a b S begun first received put frames shown h does bad =
    λ o e. subst (λ (l : Listening). HasUnfit l.purpose begun received false o) (sym does) (bad o e shown begun frames h).0
unfit_of (Err hear.NoMemory) a b S begun first received put frames shown h does bad = λ o e. absurd (cc)

module _ {F : Type 0} (offset : ℕ) where
  pub going_of : (heard : Result Step HearError) (applied : Result (Unit {0}) (UpdateError F)) (P : Type 0) → OnOk applied P → IfErr applied (λ e. IsSites e ⊎ P) → OnOk (turned_of heard applied offset) P
  going_of (Ok Received) (Ok u) P going fails = going
  going_of (Ok (Answered answer)) (Ok u) P going fails = going
  going_of (Ok Heard) (Ok u) P going fails = going
  going_of (Ok Waits) (Ok u) P going fails = going
  going_of (Ok Over) (Ok u) P going fails = going
  going_of (Ok Ended) (Ok u) P going fails = going
  going_of (Err hear.Cut) (Ok u) P going fails = going
  going_of (Err (hear.BadFrame at)) (Ok u) P going fails = going
  going_of (Err hear.NoMemory) (Ok u) P going fails = tt
  going_of heard (Err (update.BadFrame at)) P going (inl s) = absurd s
  going_of heard (Err (update.BadFrame at)) P going (inr p) = p
  going_of heard (Err (update.Site e)) P going fails = tt

  -- a turn of one kind comes of a step of one kind
  pub over_of : (heard : Result Step HearError) (applied : Result (Unit {0}) (UpdateError F)) (P : Type 0) → IfOk heard (λ a. a ≡ Over → P) → IfOk (turned_of heard applied offset) (λ t. t ≡ turned.Over → P)
  over_of (Ok Received) (Ok u) P h = λ e. absurd (cc)
  over_of (Ok (Answered answer)) (Ok u) P h = λ e. absurd (cc)
  over_of (Ok Heard) (Ok u) P h = λ e. absurd (cc)
  over_of (Ok Waits) (Ok u) P h = λ e. absurd (cc)
  over_of (Ok Over) (Ok u) P h = λ e. h refl
  over_of (Ok Ended) (Ok u) P h = λ e. absurd (cc)
  over_of (Err hear.Cut) (Ok u) P h = λ e. absurd (cc)
  over_of (Err (hear.BadFrame at)) (Ok u) P h = λ e. absurd (cc)
  over_of (Err hear.NoMemory) (Ok u) P h = tt
  over_of heard (Err (update.BadFrame at)) P h = λ e. absurd (cc)
  over_of heard (Err (update.Site e)) P h = tt

  pub short_of : (heard : Result Step HearError) (applied : Result (Unit {0}) (UpdateError F)) (P : Type 0) → IfOk heard (λ a. a ≡ Ended → P) → IfOk (turned_of heard applied offset) (λ t. (at : ℕ) → t ≡ turned.Short at → (at ≡ offset) × P)
  short_of (Ok Received) (Ok u) P h = λ at e. absurd (cc)
  short_of (Ok (Answered answer)) (Ok u) P h = λ at e. absurd (cc)
  short_of (Ok Heard) (Ok u) P h = λ at e. absurd (cc)
  short_of (Ok Waits) (Ok u) P h = λ at e. absurd (cc)
  short_of (Ok Over) (Ok u) P h = λ at e. absurd (cc)
  short_of (Ok Ended) (Ok u) P h = λ at e. (cc, h refl)
  short_of (Err hear.Cut) (Ok u) P h = λ at e. absurd (cc)
  short_of (Err (hear.BadFrame o)) (Ok u) P h = λ at e. absurd (cc)
  short_of (Err hear.NoMemory) (Ok u) P h = tt
  short_of heard (Err (update.BadFrame o)) P h = λ at e. absurd (cc)
  short_of heard (Err (update.Site e)) P h = tt

  short_weaker : (r : Result Turned (TurnError F)) (P : Type 0) (Q : ℕ → Type 0) → (P → Q offset) → IfOk r (λ t. (at : ℕ) → t ≡ turned.Short at → (at ≡ offset) × P) → IfOk r (λ t. (at : ℕ) → t ≡ turned.Short at → Q at)
  short_weaker (Ok t) P Q weaker h = λ at e. let x = h at e in subst Q (sym x.0) (weaker x.1)
  short_weaker (Err e) P Q weaker h = tt

  -- the same of what stands where the next frame would begin
  pub short_at : (heard : Result Step HearError) (applied : Result (Unit {0}) (UpdateError F)) (P : Type 0) (Q : ℕ → Type 0) → (P → Q offset) → IfOk heard (λ a. a ≡ Ended → P)
      → IfOk (turned_of heard applied offset) (λ t. (at : ℕ) → t ≡ turned.Short at → Q at)
  short_at heard applied P Q weaker h = short_weaker (turned_of heard applied offset) P Q weaker (short_of heard applied P h)

  pub cut_of : (heard : Result Step HearError) (applied : Result (Unit {0}) (UpdateError F)) (P : Type 0) → (IsErrOf heard hear.Cut → P) → IfOk (turned_of heard applied offset) (λ t. t ≡ turned.Cut → P)
  cut_of (Ok Received) (Ok u) P h = λ e. absurd (cc)
  cut_of (Ok (Answered answer)) (Ok u) P h = λ e. absurd (cc)
  cut_of (Ok Heard) (Ok u) P h = λ e. absurd (cc)
  cut_of (Ok Waits) (Ok u) P h = λ e. absurd (cc)
  cut_of (Ok Over) (Ok u) P h = λ e. absurd (cc)
  cut_of (Ok Ended) (Ok u) P h = λ e. absurd (cc)
  cut_of (Err hear.Cut) (Ok u) P h = λ e. h refl
  cut_of (Err (hear.BadFrame o)) (Ok u) P h = λ e. absurd (cc)
  cut_of (Err hear.NoMemory) (Ok u) P h = tt
  cut_of heard (Err (update.BadFrame o)) P h = λ e. absurd (cc)
  cut_of heard (Err (update.Site e)) P h = tt
