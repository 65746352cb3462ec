-- A session's connections, each but the last of which was cut.
use Rattle.std.proofs.Common.{◌≡◌, ◌↔◌, ℕ, ◌+◌, ◌<◌, ◌≤◌, Bool, false, IsTrue, List, [], ◌∷◌, ◌++◌, length, length-append, count_by, Result, Ok, Err, sym, ap, subst, ◌∙◌, arith}
use Rattle.std.specs.List.{AllByRecursion}
use Rattle.global_defs.specs.Prefix as prefix
use Rattle.wire_defs.specs.Links.{Linking, Past, was_cut, past_since}
use Rattle.ship_defs.specs.Hearing.{Asks}
use Rattle.receiver_server.specs.declared.step.Handshake.{Handshake}
use Rattle.receiver_server.specs.Answers.{answer_frame}
use Rattle.session_handshake.specs.declared.session.SessionError.{SessionError}
use Rattle.session_handshake.specs.declared.session.SessionError.TheVariants.{LinkCut, BadFrame}
use Rattle.session_handshake.specs.Connections.{WereMade, Met, IsAnsweredOver, IsBadOver}
use Rattle.session_handshake.proofs.Made.{made_on, since_is, count_append, count_none, count_still}

pub made_since : (a b : Linking) (s : ℕ) (over : List Past) → WereMade a b s over → WereMade a b s (past_since a b s)
made_since a b s over w = subst (λ (l : List Past). WereMade a b s l) (sym (since_is a b s over w)) w

module _ (a m b : Linking) (s : ℕ) (over last : List Past) (k : ℕ) (w : WereMade a m s over) (x : WereMade m b s last) (counted : count_by was_cut over ≡ k) (few : k < 4) (none : AllByRecursion (λ p. was_cut p ≡ false) last) where
  these : WereMade a b s (over ++ last)
  these = made_on a m b s over last w x

  pub made_all : WereMade a b s (past_since a b s)
  made_all = made_since a b s (over ++ last) these

  same : past_since a b s ≡ over ++ last
  same = since_is a b s (over ++ last) these

  pub three_at_most : count_by was_cut (past_since a b s) ≤ 3
  three_at_most = let e = ap (λ (l : List Past). count_by was_cut l) same in let n = count_still over last k counted none in omega (arith, e, n, few)

  pub no_link_cut : (r : Result Handshake SessionError) → (r ≡ Err LinkCut → ⊥) → (r ≡ Err LinkCut) ↔ (count_by was_cut (past_since a b s) ≡ 4)
  no_link_cut r not = (λ e. absurd (not e), λ four. let few_here = three_at_most in absurd (omega (arith, four, few_here)))

module _ (a m b : Linking) (s : ℕ) (over : List Past) (p : Past) (k : ℕ) (w : WereMade a m s over) (x : WereMade m b s (p ∷ [])) (counted : count_by was_cut over ≡ k) (few : k < 4) (uncut : was_cut p ≡ false) where
  here : past_since a b s ≡ over ++ p ∷ []
  here = since_is a b s (over ++ p ∷ []) (made_on a m b s over (p ∷ []) w x)

  pub met_answer : (shown : Bool) (mine : prefix.History) (h : Handshake) → (IsTrue shown → IsAnsweredOver Asks mine p (answer_frame h)) → Met shown mine (Ok h) (past_since a b s)
  met_answer shown mine h told = (over, p, here, uncut, three_at_most a m b s over (p ∷ []) k w x counted few (uncut, tt), told)

  pub met_bad : (shown : Bool) (mine : prefix.History) (offset : ℕ) → (IsTrue shown → IsBadOver Asks mine p offset) → Met shown mine (Err (BadFrame offset)) (past_since a b s)
  met_bad shown mine offset told = (over, p, here, uncut, three_at_most a m b s over (p ∷ []) k w x counted few (uncut, tt), told)

pub four_cut : (a b : Linking) (s : ℕ) (over : List Past) → WereMade a b s over → count_by was_cut over ≡ 4 → count_by was_cut (past_since a b s) ≡ 4
four_cut a b s over w four = ap (λ (l : List Past). count_by was_cut l) (since_is a b s over w) ∙ four

-- a session's connections by how many there are: each of the first ones was cut

module _ (a m b : Linking) (s : ℕ) (over last : List Past) (w : WereMade a m s over) (x : WereMade m b s last) (each : length over ≡ count_by was_cut over) where
  sizes_since : length (past_since a b s) + count_by was_cut last ≡ count_by was_cut (past_since a b s) + length last
  sizes_since =
      let is = since_is a b s (over ++ last) (made_on a m b s over last w x) in
      let size = ap (λ (l : List Past). length l) is ∙ length-append over last in
      let count = ap (λ (l : List Past). count_by was_cut l) is ∙ count_append over last in
      omega (arith, size, count, each)

  pub in_turn_since : length last ≤ 1 → length (past_since a b s) ≤ count_by was_cut (past_since a b s) + 1
  in_turn_since one = let sizes = sizes_since in omega (arith, sizes, one)

pub one_more_since : (a m b : Linking) (s : ℕ) (over : List Past) (p : Past) → WereMade a m s over → WereMade m b s (p ∷ []) → length over ≡ count_by was_cut over → was_cut p ≡ false
    → length (past_since a b s) ≡ count_by was_cut (past_since a b s) + 1
one_more_since a m b s over p w x each uncut =
    let sizes = sizes_since a m b s over (p ∷ []) w x each in
    let none = count_none (p ∷ []) (uncut, tt) in
    omega (arith, sizes, none)

pub as_many_since : (a b : Linking) (s : ℕ) (over : List Past) → WereMade a b s over → length over ≡ count_by was_cut over → length (past_since a b s) ≡ count_by was_cut (past_since a b s)
as_many_since a b s over w each =
    let is = since_is a b s over w in
    ap (λ (l : List Past). length l) is ∙ (each ∙ sym (ap (λ (l : List Past). count_by was_cut l) is))
