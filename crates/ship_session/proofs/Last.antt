-- A session by its last connection.
use Rattle.std.proofs.Common.{◌≡◌, ◌≢◌, ◌↔◌, ◌⊎◌, inl, inr, ℕ, ◌+◌, ◌<◌, ◌≤◌, Bool, false, IsTrue, List, [], ◌∷◌, ◌++◌, length, length-append, Option, Some, None, Ok, refl, sym, ap, subst, ◌∙◌, arith}
use Rattle.std.specs.Prelude.{count_by}
use Rattle.global_defs.specs.Entry.{Sequence}
use Rattle.global_defs.specs.Prefix as prefix
use Rattle.global_defs.specs.Prefix.{IsPrefix}
use Rattle.global_defs.specs.Rising.{StartsRise}
use Rattle.wire_defs.specs.Links.{Linking, Past, was_cut, past_since}
use Rattle.update_process.specs.Copies.{Copy}
use Rattle.session_handshake.specs.Connections.{WereMade}
use Rattle.session_handshake.proofs.Made.{made_on, since_is, count_append, count_still}
use Rattle.session_handshake.proofs.Sessions.{made_since}
use Rattle.ship_session.specs.declared.end.SessionEnd.{SessionEnd}
use Rattle.ship_session.specs.declared.end.SessionEnd.TheVariants.{At, LinkCut, RollbackFirst, BadFrame, Failed}
use Rattle.ship_session.proofs.Order.{joined_on, joined_whole}
use Rattle.ship_session.specs.Ends.{HasTaken, HasTakenAll, EndsAs, HasEnded, MetOne, Parts, ShipsNothing}

module _ (a m b : Linking) (s : ℕ) (over : List Past) (w : WereMade a m s over) (before k : ℕ) (counted : before + count_by was_cut over ≡ k) (few : k < 4) where
  module _ (last : List Past) (x : WereMade m b s last) where
    same : past_since a b s ≡ over ++ last
    same = since_is a b s (over ++ last) (made_on a m b s over last w x)

    pub all_made : WereMade a b s (past_since a b s)
    all_made = made_since a b s (over ++ last) (made_on a m b s over last w x)

    pub four_at_most : count_by was_cut last ≤ 1 → before + count_by was_cut (past_since a b s) ≤ 4
    four_at_most one = let e = ap (λ (l : List Past). count_by was_cut l) same in let n = count_append over last in omega (arith, e, n, counted, few, one)

  module _ (p : Past) (x : WereMade m b s (p ∷ [])) (uncut : was_cut p ≡ false) where
    pub three_at_most : before + count_by was_cut (past_since a b s) ≤ 3
    three_at_most = let e = ap (λ (l : List Past). count_by was_cut l) (same (p ∷ []) x) in let n = count_still over (p ∷ []) (count_by was_cut over) refl (uncut, tt) in omega (arith, e, n, counted, few)

    module _ {P : Type 0} where
      pub not_cut_off : (e : SessionEnd P) → e ≢ LinkCut → (e ≡ LinkCut) ↔ (before + count_by was_cut (past_since a b s) ≡ 4)
      not_cut_off e not = (λ x. absurd (not x), λ four. let most = three_at_most in absurd (omega (arith, four, most)))

      pub ended_so : (e : SessionEnd P) (old begun now : Copy) → IsPrefix old.sequence begun.sequence → EndsAs e begun now p → HasEnded e old now (past_since a b s)
      ended_so (At n) old begun now grown is = (begun, over, p, same (p ∷ []) x, grown, is)
      ended_so LinkCut old begun now grown is = tt
      ended_so (RollbackFirst n) old begun now grown is = (begun, over, p, same (p ∷ []) x, grown, is)
      ended_so (BadFrame offset) old begun now grown is = (begun, over, p, same (p ∷ []) x, grown, is)
      ended_so (Failed error) old begun now grown is = (begun, over, p, same (p ∷ []) x, grown, is)

-- each was cut, and with those before there are four
pub all_cut : (a b : Linking) (s : ℕ) (over : List Past) (before : ℕ) → WereMade a b s over → before + count_by was_cut over ≡ 4 → before + count_by was_cut (past_since a b s) ≡ 4
all_cut a b s over before w four = ap (λ (l : List Past). before + count_by was_cut l) (since_is a b s over w) ∙ four

-- what was taken over connections, and over one more

module _ (theirs : prefix.History) (all : Sequence) (rise : StartsRise 0 theirs.reigns) (old begun now : Copy) where
  pub taken_on : (begun ≡ old) ⊎ HasTaken theirs all old begun → (now ≡ begun) ⊎ HasTaken theirs all begun now → (now ≡ old) ⊎ HasTaken theirs all old now
  taken_on (inl same) (inl still) = inl (still ∙ same)
  taken_on (inl same) (inr more) = inr (subst (λ (c : Copy). HasTaken theirs all c now) same more)
  taken_on (inr some) (inl still) = inr (subst (λ (c : Copy). HasTaken theirs all old c) (sym still) some)
  taken_on (inr some) (inr more) = inr (some.0, joined_on theirs all rise old begun now some.1 more.1)

  pub taken_whole : (begun ≡ old) ⊎ HasTaken theirs all old begun → HasTakenAll theirs all begun now → HasTakenAll theirs all old now
  taken_whole (inl same) rest = subst (λ (c : Copy). HasTakenAll theirs all c now) same rest
  taken_whole (inr some) rest = (some.0, (joined_on theirs all rise old begun now some.1 rest.1.0, joined_whole theirs all rise old begun now some.1 rest.1.0 rest.1.1))

-- what a connection that told an end, or none, or failed, has met

module _ {P : Type 0} (F : Type 0) (shown : Bool) (begun now : Copy) (over : List Past) where
  abbrev Meets : Option (SessionEnd P) → Type 0
  Meets o = MetOne {P = P} {F = F} shown (Ok o) begun now over

  pub met_none : (o : Option (SessionEnd P)) → o ≡ None → Meets o → (p : Past) × (over ≡ p ∷ []) × IsTrue (was_cut p)
  met_none None is x = x
  met_none (Some e) is x = absurd (let no : ⊥ = cc in no)

  pub met_some : (o : Option (SessionEnd P)) (e : SessionEnd P) → o ≡ Some e → Meets o → (p : Past) × (over ≡ p ∷ []) × (was_cut p ≡ false) × (e ≢ LinkCut) × (IsTrue shown → EndsAs e begun now p)
  met_some None e is x = absurd (let no : ⊥ = cc in no)
  met_some (Some d) e is x = let same : d ≡ e = cc in (x.0, x.1, x.2, subst (λ (y : SessionEnd P). y ≢ LinkCut) same x.3, λ shows. subst (λ (y : SessionEnd P). EndsAs y begun now x.0) same (x.4 shows))

-- a site that parts from its primary
module _ {P : Type 0} (F : Type 0) (old now : Copy) where
  pub parts_none : (o : Option (SessionEnd P)) → o ≡ None → Parts {P = P} {F = F} (Ok o) old now → now ≡ old
  parts_none None is x = x
  parts_none (Some e) is x = absurd (let no : ⊥ = cc in no)

  parts_of : (e : SessionEnd P) → Parts {P = P} {F = F} (Ok (Some e)) old now → (now ≡ old) × ShipsNothing e
  parts_of (At n) x = absurd x
  parts_of LinkCut x = (x, tt)
  parts_of (RollbackFirst n) x = (x, tt)
  parts_of (BadFrame offset) x = (x, tt)
  parts_of (Failed error) x = absurd x

  pub parts_some : (o : Option (SessionEnd P)) (e : SessionEnd P) → o ≡ Some e → Parts {P = P} {F = F} (Ok o) old now → (now ≡ old) × ShipsNothing e
  parts_some None e is x = absurd (let no : ⊥ = cc in no)
  parts_some (Some d) e is x = let same : d ≡ e = cc in let y = parts_of d x in (y.0, subst (λ (z : SessionEnd P). ShipsNothing z) same y.1)

-- a sequence that has grown is no shorter
pub no_shorter : {X : Type 0} (a b : List X) → IsPrefix a b → length a ≤ length b
no_shorter a b p = let size = ap length p.1 in let parts = length-append a p.0 in omega (arith, size, parts)
