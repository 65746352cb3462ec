-- A connection's ends while its primary ships behind the RESUME.
use Rattle.std.proofs.Common.{◌≡◌, ℕ, ◌+◌, IsTrue, List, [], Result, refl, sym, ap, subst, ◌∙◌, arith, append-nil}
use Rattle.global_defs.specs.Entry.{Reign}
use Rattle.wire_defs.specs.Frames.{Frame, Resume, spelled_frame}
use Rattle.wire_defs.specs.Links.{Linking, SameSending, SameReceiving, SendingLooked, ReceivingLooked, KnowAll}
use Rattle.wire_defs.proofs.Ends.{saw_on}
use Rattle.ship_defs.specs.Hearing.{Ships, unbegun}
use Rattle.ship_defs.specs.Arrivals.{Arrival}
use Rattle.source_server.specs.Sources.{resumed_at}
use Rattle.source_server.proofs.Made.{begins}
use Rattle.receiver_server.specs.Listenings.{Listening, IsHearing}
use Rattle.update_process.specs.Copies.{Copy, history_of}
use Rattle.session_handshake.specs.Exchanges.{Views, SameEnds, cuts_of}
use Rattle.session_handshake.specs.Connections.{IsOpen}
use Rattle.session_handshake.proofs.Turns.{ends_on}
use Rattle.session_turns.specs.Following.{Followed, IsFitCopy}
use Rattle.session_turns.specs.Progress.{CanMove}
use Rattle.session_turns.specs.Sessions.{CanGive, HasGiven}
use Rattle.session_turns.specs.Turns.{HasFollowed, Comes}
use Rattle.session_turns.specs.declared.machines.TurnError.{TurnError}
use Rattle.session_turns.specs.declared.machines.Turned.{Turned}
use Rattle.ship_session.specs.Ends.{HasGrown}
use Rattle.ship_session.proofs.Grown.{got_of}

-- ends that have looked are the same
pub looked_same : (v w : Views) → SendingLooked v.up_tx w.up_tx → ReceivingLooked v.up_rx w.up_rx → SendingLooked v.down_tx w.down_tx → ReceivingLooked v.down_rx w.down_rx → SameEnds v w
looked_same v w ut ur dt dr = record { up_tx = ut.same; up_rx = ur.same; down_tx = dt.same; down_rx = dr.same }

module _ (v w u : Views) (ut : SendingLooked v.up_tx w.up_tx) (ur : ReceivingLooked v.up_rx w.up_rx) (dt : SendingLooked v.down_tx w.down_tx) (dr : ReceivingLooked v.down_rx w.down_rx)
    (up : SameSending w.up_tx u.up_tx × SameReceiving w.down_rx u.down_rx) (down : SendingLooked w.down_tx u.down_tx × ReceivingLooked w.up_rx u.up_rx) where
  pub same_after : SameEnds v u
  same_after = ends_on v w u (looked_same v w ut ur dt dr) (record { up_tx = up.0; up_rx = down.1.same; down_tx = down.0.same; down_rx = up.1 })

  pub saw_after : ReceivingLooked v.up_rx u.up_rx
  saw_after = saw_on v.up_rx w.up_rx u.up_rx ur down.1

  -- only the two ends of the primary's direction can have been found cut
  pub cuts_after : cuts_of v ≡ 0 → cuts_of u ≡ u.up_tx.cuts + u.down_rx.cuts
  cuts_after zero = let a = ur.cuts in let b = dt.cuts in let c = down.0.cuts in let d = down.1.cuts in omega (arith, zero, a, b, c, d)

  pub none_before : cuts_of v ≡ 0 → (w.up_tx.cuts ≡ 0) × (w.down_rx.cuts ≡ 0)
  none_before zero = let a = ut.cuts in let b = dr.cuts in (omega (arith, zero, a), omega (arith, zero, b))

-- nothing has come behind the answer
pub followed_first : (begun : Copy) (r : Listening) (received : List ℕ) (put taken : List Arrival) (frames : List Frame) → IsFitCopy begun → IsHearing (unbegun (history_of begun)) r received [] frames → put ≡ [] → taken ≡ put
    → HasFollowed begun r received put taken begun
followed_first begun r received put taken frames fit h none all = record {
  fit = fit;
  frames = frames;
  hears = subst (λ (l : List Arrival). IsHearing (unbegun (history_of begun)) r received l frames) (sym none) h;
  all = all;
  follows = subst (λ (l : List Arrival). Followed begun l begun) (sym none) refl;
}

pub grown_first : (begun : Copy) (r : Listening) (received : List ℕ) (frames : List Frame) → IsFitCopy begun → r.purpose ≡ Ships → IsHearing (unbegun (history_of begun)) r received [] frames → HasGrown begun received begun
grown_first begun r received frames fit ships h = record { front = []; back = []; got = got_of begun r received [] frames fit ships h; fit = fit; sequence = sym (append-nil begun.sequence); reigns = sym (append-nil begun.reigns) }

-- nothing was sent behind the RESUME
pub given_first : (Is : ℕ → List ℕ → Type 0) (reigns : List Reign) (from size : ℕ) (sent : List ℕ) → sent ≡ spelled_frame (Resume from) → HasGiven Is from size (resumed_at reigns from) sent
given_first Is reigns from size sent is =
    subst (λ (l : List ℕ). HasGiven Is from size (resumed_at reigns from) l) (sym is)
    (record { entries = []; given = tt; made = record { shipped = begins reigns from; last = λ e. absurd (let no : ⊥ = cc in no) } })

-- all can move
pub can_move : (Ready : ℕ → Type 0) (most : ℕ) (reigns : List Reign) (from : ℕ) (Failed : Type 0) (a b : Linking) (s : ℕ) (v w : Views) → IsOpen a b s v → SendingLooked v.up_tx w.up_tx → ReceivingLooked v.down_rx w.down_rx → IsTrue b.told
    → KnowAll w.up_tx w.down_rx → CanGive Ready most (resumed_at reigns from) → (Failed → ⊥) → CanMove Ready most (resumed_at reigns from) Failed w.up_tx w.down_rx
can_move Ready most reigns from Failed a b s v w o ut dr told know gives never =
    let was = sym o.made.told ∙ told in
    let going = o.going was in
    record {
      told = (ut.same.told ∙ (o.told_tx.0 ∙ was), dr.same.told ∙ (o.told_rx.1 ∙ was));
      know = know;
      places = (let p = ut.same.places in omega (arith, p, going.1));
      gives = gives;
      failed = λ f. absurd (never f);
    }

-- what the machines came to, from behind the answer
pub comes_behind : (F : Type 0) (begun now : Copy) (receiver m r : Listening) (first was received : List ℕ) (put taken later out : List Arrival) (t : Result Turned (TurnError F)) → IsFitCopy begun → receiver.purpose ≡ Ships → m ≡ receiver
    → (frames : List Frame) × IsHearing (unbegun (history_of begun)) receiver first [] frames → was ≡ first → put ≡ [] → taken ≡ put → r.purpose ≡ m.purpose
    → ((from : Copy) → HasFollowed from m was put taken begun → Comes t from r received later out now) → Comes t begun r received later out now × (r.purpose ≡ Ships)
comes_behind F begun now receiver m r first was received put taken later out t fit ships same h is none all purpose run =
    let heard = subst (λ (s : Listening). IsHearing (unbegun (history_of begun)) s was [] h.0) (sym same) (subst (λ (l : List ℕ). IsHearing (unbegun (history_of begun)) receiver l [] h.0) (sym is) h.1) in
    (run begun (followed_first begun m was put taken h.0 fit heard none all), purpose ∙ (ap (λ (s : Listening). s.purpose) same ∙ ships))
