-- What a primary has sent and made, over the steps of its Source Server.
use Rattle.std.proofs.Common.{◌≡◌, ◌⊎◌, inl, inr, ℕ, ◌+◌, ◌-◌, ◌==◌, ◌<◌, ◌≤◌, Bool, true, false, IsTrue, refl, List, [], ◌∷◌, ◌++◌, length, sym, ap, subst, ◌∙◌, arith}
use Rattle.std.proofs.lemmas.Bool.Decides.{nat_tests}
use Rattle.wire_defs.specs.Frames.{Bye, spelled_frame}
use Rattle.source_server.specs.Sources.{Shipping, HasSent, HasTaken, Goes, HasShipped, CanShip}
use Rattle.source_server.proofs.Made.{stays, takes, ends, from_push, from_all}
use Rattle.session_turns.specs.Sessions.{HasMade, HasGiven, CanGive}

module _ (from size : ℕ) where
  pub given_kept : (Is All : ℕ → List ℕ → Type 0) (s : Shipping) (sent : List ℕ) → ((k : ℕ) (entry : List ℕ) → Is k entry → All k entry) → HasGiven Is from size s sent → HasGiven All from size s sent
  given_kept Is All s sent kept g = record { entries = g.entries; given = from_all Is All from g.entries kept g.given; made = g.made }

  pub given_made : (Is : ℕ → List ℕ → Type 0) (a b : Shipping) (sent : List ℕ) → ((given : List (List ℕ)) → HasMade from size a sent given → HasMade from size b sent given) → HasGiven Is from size a sent → HasGiven Is from size b sent
  given_made Is a b sent kept g = record { entries = g.entries; given = g.given; made = kept g.entries g.made }

  module _ (Is : ℕ → List ℕ → Type 0) (a b : Shipping) (sent now : List ℕ) where
    given_sent : HasSent a b sent now → HasGiven Is from size a sent → HasGiven Is from size b now
    given_sent more g = record {
      entries = g.entries;
      given = g.given;
      made = record {
        shipped = stays a b sent now from g.entries more g.made.shipped;
        last = λ e. ap (λ (s : Shipping). s.next) more.after ∙ g.made.last (sym (ap (λ (s : Shipping). s.ended) more.after) ∙ e);
      };
    }

    given_taken : (entry : List ℕ) → Is a.next entry → HasTaken entry a b sent now → HasGiven Is from size a sent → HasGiven Is from size b now
    given_taken entry is more g = record {
      entries = g.entries ++ entry ∷ [];
      given = from_push Is from g.entries entry g.given (subst (λ (n : ℕ). Is n entry) g.made.shipped.next is);
      made = record {
        shipped = takes entry a b sent now from g.entries more g.made.shipped;
        last = λ e. absurd (let no : false ≡ true = sym more.goes_on ∙ (sym (ap (λ (s : Shipping). s.ended) more.after) ∙ e) in cc);
      };
    }

    pub given_goes : Goes Is a b sent now → HasGiven Is from size a sent → HasGiven Is from size b now
    given_goes (inl more) g = given_sent more g
    given_goes (inr more) g = given_taken more.0 more.1 more.2 g

  made_ended : (a b : Shipping) (sent : List ℕ) (given : List (List ℕ)) → a.ended ≡ false → a.next ≡ size + 1 → b ≡ record a { ended = true; pending = a.pending ++ spelled_frame (Bye size) }
      → HasMade from size a sent given → HasMade from size b sent given
  made_ended a b sent given going next is g =
      let same : a.next - 1 ≡ size = omega (arith, next) in
      let then_is : b ≡ record a { ended = true; pending = a.pending ++ spelled_frame (Bye (a.next - 1)) } = is ∙ ap (λ (n : ℕ). record a { ended = true; pending = a.pending ++ spelled_frame (Bye n) }) (sym same) in
      record {
        shipped = subst (λ (s : Shipping). HasShipped s sent from given) (sym then_is) (ends a sent from given going g.shipped);
        last = λ _. ap (λ (s : Shipping). s.next) is ∙ next;
      }

  pub made_closed : (a b : Shipping) (sent : List ℕ) (given : List (List ℕ)) (made : Bool) → a.ended ≡ false → made ≡ (a.next == size + 1)
      → (IsTrue made → b ≡ record a { ended = true; pending = a.pending ++ spelled_frame (Bye size) }) → (made ≡ false → b ≡ a) → HasMade from size a sent given → HasMade from size b sent given
  made_closed a b sent given true going test some none g =
      let next : a.next ≡ size + 1 = grind (arith, nat_tests, test) in
      made_ended a b sent given going next (some refl) g
  made_closed a b sent given false going test some none g = subst (λ (s : Shipping). HasMade from size s sent given) (sym (none refl)) g

some_or_none : (xs : List ℕ) → (xs ≡ []) ⊎ (0 < length xs)
some_or_none [] = inl refl
some_or_none (x ∷ xs) = inr (omega arith)

past_or_within : (n size : ℕ) → n ≤ size + 1 → (n ≡ size + 1) ⊎ (n ≤ size)
past_or_within n size most = grind arith

can_ship_of : (Ready : ℕ → Type 0) (size : ℕ) (a b : Shipping) → CanGive Ready size a → b.next ≡ a.next → b.pending ≡ [] → a.next ≤ size → (ended : Bool) → b.ended ≡ ended → CanShip Ready b ⊎ (IsTrue b.ended × (b.pending ≡ []))
can_ship_of Ready size a b can same none within true is = inr (is, none)
can_ship_of Ready size a b can same none within false is =
    let few = can.few in
    inl (inr (is, omega (arith, few, within, same), subst (λ (n : ℕ). Ready n) (sym same) (can.ready a.next (omega arith) within)))

-- a Source Server that has closed behind its last entry can ship, or has ended
pub can_ship : (Ready : ℕ → Type 0) (size : ℕ) (a b : Shipping) → CanGive Ready size a → b.next ≡ a.next → (a.next ≡ size + 1 → IsTrue b.ended) → CanShip Ready b ⊎ (IsTrue b.ended × (b.pending ≡ []))
can_ship Ready size a b can same closed = elim (some_or_none b.pending) [
  | inr some ↦ inl (inl some)
  | inl none ↦ elim (past_or_within a.next size can.within) [
    | inl past ↦ inr (closed past, none)
    | inr within ↦ can_ship_of Ready size a b can same none within b.ended refl
  ]
]

-- what is to come can be given later too
pub gives_later : (Ready Later : ℕ → Type 0) (size : ℕ) (a b : Shipping) → ((n : ℕ) → Ready n → Later n) → CanGive Ready size a → a.next ≤ b.next → b.next ≤ size + 1 → CanGive Later size b
gives_later Ready Later size a b still can later within = record {
  few = can.few;
  within = within;
  ready = λ n from to. still n (can.ready n (omega (arith, from, later)) to);
}

pub gives_on : (Ready Later : ℕ → Type 0) (All : ℕ → List ℕ → Type 0) (size : ℕ) (a b c : Shipping) (sent now : List ℕ) → ((n : ℕ) → Ready n → Later n) → b.next ≡ a.next → (a.next ≡ size + 1 → IsTrue b.ended)
    → Goes All b c sent now → CanGive Ready size a → CanGive Later size c
gives_on Ready Later All size a b c sent now still same closed (inl more) can =
    let next : c.next ≡ b.next = ap (λ (s : Shipping). s.next) more.after in
    let within = can.within in
    gives_later Ready Later size a c still can (omega (arith, next, same)) (omega (arith, next, same, within))
gives_on Ready Later All size a b c sent now still same closed (inr more) can =
    let next : c.next ≡ b.next + 1 = ap (λ (s : Shipping). s.next) more.2.after in
    elim (past_or_within a.next size can.within) [
      | inl past ↦ absurd (let ended : b.ended ≡ true = closed past in let going : b.ended ≡ false = more.2.goes_on in let no : false ≡ true = sym going ∙ ended in let never : ⊥ = cc in never)
      | inr within ↦ gives_later Ready Later size a c still can (omega (arith, next, same)) (omega (arith, next, same, within))
    ]

-- no step changes the primary's reigns

pub goes_reigns : (Is : ℕ → List ℕ → Type 0) (a b : Shipping) (sent now : List ℕ) → Goes Is a b sent now → b.reigns ≡ a.reigns
goes_reigns Is a b sent now (inl more) = ap (λ (s : Shipping). s.reigns) more.after
goes_reigns Is a b sent now (inr more) = ap (λ (s : Shipping). s.reigns) more.2.after

pub end_reigns : (a b : Shipping) (size : ℕ) (made : Bool) → (IsTrue made → b ≡ record a { ended = true; pending = a.pending ++ spelled_frame (Bye size) }) → (made ≡ false → b ≡ a) → b.reigns ≡ a.reigns
end_reigns a b size true some none = ap (λ (s : Shipping). s.reigns) (some refl)
end_reigns a b size false some none = ap (λ (s : Shipping). s.reigns) (none refl)
