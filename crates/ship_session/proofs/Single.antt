-- What one connection of a session came to.
use Rattle.std.proofs.Common.{◌≡◌, ◌≢◌, inl, inr, ℕ, ◌+◌, ◌<◌, ◌≤◌, Bool, true, false, IsTrue, List, [], ◌∷◌, Option, Some, None, Result, Ok, Err, IfOk, refl, ap, subst, arith, if◌then◌else◌}
use Rattle.std.specs.Prelude.{count_by}
use Rattle.std.proofs.lemmas.List.Sums.{sum_by-cons}
use Rattle.global_defs.specs.Prefix as prefix
use Rattle.lineage_defs.specs.Histories.{BothHave, IsCommonOf, IsMatched}
use Rattle.wire_defs.specs.Links.{Past, was_cut}
use Rattle.wire_defs.specs.Frames as frames
use Rattle.wire_defs.specs.Frames.{Frame}
use Rattle.ship_defs.specs.Hearing.{Ships, Heard, Over, unbegun}
use Rattle.ship_defs.specs.Greeting.{IsHello, IsAnswer, GreetsWith, carried, greeting}
use Rattle.receiver_server.specs.Hearings.{behind}
use Rattle.receiver_server.specs.Listenings.{Listening, IsHearing, IsQuiet}
use Rattle.receiver_server.specs.declared.step.Handshake.{Handshake}
use Rattle.receiver_server.specs.declared.step.Handshake.TheVariants as handshake
use Rattle.receiver_server.specs.Answers.{answer_frame}
use Rattle.update_process.specs.Copies.{Copy}
use Rattle.session_handshake.specs.Exchanges.{Views, cuts_of}
use Rattle.session_handshake.specs.Connections.{past_of_views, IsAnsweredOver}
use Rattle.session_handshake.proofs.Greets.{not_cut, was_one, ends_answered}
use Rattle.session_handshake.proofs.Carried.{follows_on}
use Rattle.session_turns.specs.declared.machines.TurnError.{TurnError}
use Rattle.ship_session.specs.declared.end.SessionEnd.{SessionEnd}
use Rattle.ship_session.specs.declared.end.SessionEnd.TheVariants.{At, LinkCut, RollbackFirst, BadFrame, Failed}
use Rattle.ship_session.specs.Ends.{EndsAs, ShipsTo, IsShipEnd, MetOne}

one_if : (b : Bool) → (if b then 1 else 0) ≤ 1
one_if true = omega arith
one_if false = omega arith

-- of one connection one at most was cut
pub one_at_most : (p : Past) → count_by was_cut (p ∷ []) ≤ 1
one_at_most p = let is = sum_by-cons (λ (q : Past). if was_cut q then 1 else 0) p [] in let few = one_if (was_cut p) in omega (arith, is, few)

module _ {P : Type 0} (F : Type 0) (begun now : Copy) where
  not_link_cut : (e : SessionEnd P) → IsShipEnd (Some e) → e ≢ LinkCut
  not_link_cut (At n) is = λ x. let no : ⊥ = cc in no
  not_link_cut LinkCut is = absurd is
  not_link_cut (RollbackFirst n) is = absurd is
  not_link_cut (BadFrame offset) is = λ x. let no : ⊥ = cc in no
  not_link_cut (Failed error) is = λ x. let no : ⊥ = cc in no

  ends_met : (e : SessionEnd P) (p : Past) → ShipsTo {P = P} {F = F} (Ok (Some e)) begun now p.from_primary p.primary_ended → EndsAs e begun now p
  ends_met (At n) p x = x
  ends_met LinkCut p x = tt
  ends_met (RollbackFirst n) p x = absurd x
  ends_met (BadFrame offset) p x = inr x
  ends_met (Failed error) p x = x

  -- shipping over it
  pub met_shipped : (shown : Bool) (s : ℕ) (v : Views) (r : Result (Option (SessionEnd P)) (TurnError F)) → IfOk r (λ o. o ≡ None → cuts_of v ≡ 1) → IfOk r (λ o. (o ≡ None → ⊥) → cuts_of v ≡ 0) → IfOk r (λ o. IsShipEnd o)
      → (IsTrue shown → ShipsTo r begun now v.down_rx.received v.down_rx.closed) → MetOne shown r begun now (past_of_views s v ∷ [])
  met_shipped shown s v (Ok None) cut uncut is ships = (past_of_views s v, refl, was_one s v (cut refl))
  met_shipped shown s v (Ok (Some e)) cut uncut is ships = (past_of_views s v, refl, not_cut s v (uncut (λ x. let no : ⊥ = cc in no)), not_link_cut e is, λ y. ends_met e (past_of_views s v) (ships y))
  met_shipped shown s v (Err error) cut uncut is ships = omega arith

both_at : (theirs mine : prefix.History) (n : ℕ) → IsCommonOf n theirs mine → 0 < n → BothHave n theirs.reigns mine.reigns
both_at theirs mine n c some = elim c.same [
  | inl none ↦ absurd (omega (arith, none, some))
  | inr both ↦ both
]

-- where the common length is less than what the secondary has, its entries don't follow
pub not_common : (theirs mine : prefix.History) (t : ℕ) → IsCommonOf t theirs (carried mine) → t < mine.length → IsCommonOf mine.length theirs (carried mine) → ⊥
not_common theirs mine t c less all = c.greatest mine.length less all.in_first all.in_second (both_at theirs (carried mine) mine.length all (omega (arith, less)))

-- a RESUME is from behind what the secondary has
pub resumes_at : (theirs mine : prefix.History) (a : Handshake) (n : ℕ) → a ≡ handshake.Resume n → IsAnswer theirs (carried mine) (answer_frame a) → IsCommonOf mine.length theirs (carried mine) × (answer_frame a ≡ frames.Resume (mine.length + 1))
resumes_at theirs mine (handshake.Resume m) n is x = (x.0, ap (λ (k : ℕ). frames.Resume k) x.1)
resumes_at theirs mine (handshake.RollbackFirst m) n is x = absurd (let no : ⊥ = cc in no)

-- a RESUME is from a primary whose history goes on from the secondary's
pub resumes_matched : (name : List ℕ) (theirs mine : prefix.History) (a : Handshake) (n : ℕ) → a ≡ handshake.Resume n → IsHello (greeting name mine) → IsAnswer theirs (carried mine) (answer_frame a) → IsMatched theirs mine
resumes_matched name theirs mine (handshake.Resume m) n is hello x = (follows_on name theirs mine m hello x).0
resumes_matched name theirs mine (handshake.RollbackFirst m) n is hello x = absurd (let no : ⊥ = cc in no)

-- what a secondary heard where its entries aren't the primary's
pub rolls : (hist mine : prefix.History) (s : Listening) (p : Past) (a : Handshake) (n : ℕ) → a ≡ handshake.RollbackFirst n → mine ≡ hist → s.purpose ≡ Ships → s.heard ≡ behind Ships (unbegun mine) (answer_frame a) → (s.heard.last ≡ Over → IsQuiet s)
    → IsHearing (unbegun mine) s p.from_primary [] (answer_frame a ∷ []) → ((hello : Frame) × GreetsWith p.to_primary hello) → IsAnsweredOver Ships hist p (frames.RollbackFirst n)
rolls hist mine s p (handshake.Resume m) n is same ships heard quiet h hello = absurd (let no : ⊥ = cc in no)
rolls hist mine s p (handshake.RollbackFirst m) n is same ships heard quiet h hello =
    let number : m ≡ n = cc in
    let over : s.heard.last ≡ Over = ap (λ (x : Heard). x.last) heard in
    subst (λ (k : ℕ). IsAnsweredOver Ships hist p (frames.RollbackFirst k)) number
    (subst (λ (x : prefix.History). IsAnsweredOver Ships x p (frames.RollbackFirst m)) same (hello, ends_answered Ships mine s p.from_primary (handshake.RollbackFirst m) ships over (quiet over) h))

pub answers_roll : (theirs hist mine : prefix.History) (a : Handshake) (n : ℕ) → a ≡ handshake.RollbackFirst n → mine ≡ hist → IsAnswer theirs (carried mine) (answer_frame a) → IsAnswer theirs (carried hist) (frames.RollbackFirst n)
answers_roll theirs hist mine a n is same x =
    subst (λ (h : prefix.History). IsAnswer theirs (carried h) (frames.RollbackFirst n)) same (subst (λ (b : Handshake). IsAnswer theirs (carried mine) (answer_frame b)) is x)

module _ {P F : Type 0} where
  -- shipping tells no ROLLBACKFIRST
  pub no_rollback : (r : Result (Option (SessionEnd P)) (TurnError F)) (A : ℕ → Type 0) → IfOk r (λ o. IsShipEnd o) → IfOk r (λ o. (n : ℕ) → o ≡ Some (RollbackFirst n) → A n)
  no_rollback (Ok None) A is = λ n e. absurd (let no : ⊥ = cc in no)
  no_rollback (Ok (Some (At k))) A is = λ n e. absurd (let no : ⊥ = cc in no)
  no_rollback (Ok (Some LinkCut)) A is = absurd is
  no_rollback (Ok (Some (RollbackFirst k))) A is = absurd is
  no_rollback (Ok (Some (BadFrame offset))) A is = λ n e. absurd (let no : ⊥ = cc in no)
  no_rollback (Ok (Some (Failed error))) A is = λ n e. absurd (let no : ⊥ = cc in no)
  no_rollback (Err error) A is = tt

  -- a fact of a BYE, and another that holds whatever it answers
  pub with_matched : (r : Result (Option (SessionEnd P)) (TurnError F)) (A B : Type 0) → A → IfOk r (λ o. (n : ℕ) → o ≡ Some (At n) → B) → IfOk r (λ o. (n : ℕ) → o ≡ Some (At n) → A × B)
  with_matched (Ok o) A B a b = λ n is. (a, b n is)
  with_matched (Err error) A B a b = tt
