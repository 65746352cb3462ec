-- The steps of two runs.
use Rattle.std.proofs.Common.{◌≡◌, inl, inr, ℕ, zero, suc, ◌<◌, ◌≤◌, List, [], ◌∷◌, ◌++◌, length, take, replicate, Some, None, slice_get, refl, sym, ◌∙◌, ap, subst, arith}
use Rattle.global_defs.specs.declared.limits.TheConstants.{MOST_REIGNS}
use Rattle.global_defs.specs.Entry.{Update, Stamp, Sequence, Reign}
use Rattle.global_defs.specs.Serial.{entry_of, serial_at}
use Rattle.global_defs.specs.Prefix.{stamp_at}
use Rattle.global_defs.specs.Rising.{begun_by}
use Rattle.global_defs.specs.Beside.{At}
use Rattle.lineage_defs.specs.Histories.{BothHave, IsCommonOf}
use Rattle.lineage_defs.specs.Sites.{Role, Down, Primary, Following, Site, World, hardened_part, history, fresh}
use Rattle.lineage_defs.specs.Events.{Event, Decide, Harden, Send, Receive, Apply, Crash, Begin, Roll, Same, Keeps, picked_once, Decides, Hardens, reign_from, Adopts, IsLeft, drawn, Begins, Follows, Reaches}
use Rattle.lineage_defs.specs.Lineage.{IsFit}
use Rattle.lineage_defs.specs.Outcomes.{IsUnused}
use Rattle.lineage_defs.specs.Samples.{A, B, stamp, reign}
use Rattle.resync_core.specs.Rows.{made, serials_after_one, two_sites, switch_before, switch_after, crashed_a, switched_b, following_a, parted, parted_a, parted_b}
use Rattle.resync_core.proofs.Resting as resting
use Rattle.resync_core.proofs.SingleSteps as steps

-- at the first place of two, and at the second one
here : (P : Site → Site → Type 0) (a b new : Site) → P a new → At 0 P Same (a ∷ b ∷ []) (new ∷ b ∷ [])
here P a b new p = (p, (refl, tt))

there : (P : Site → Site → Type 0) (a b new : Site) → P b new → At 1 P Same (a ∷ b ∷ []) (a ∷ new ∷ [])
there P a b new p = (refl, (p, tt))

unchanged : (n : ℕ) (s : Site) → Keeps n s s.reigns s.cycle
unchanged n s = record { begun = refl; cycles = omega arith }

-- the site begins a reign
begins : (s : Site) → length (begun_by (length s.sequence) s.reigns) < MOST_REIGNS → Begins s (record s {
  hardened = length s.sequence;
  reigns = begun_by (length s.sequence) s.reigns ++ reign_from (suc (length s.sequence)) (drawn s) ∷ [];
  cycle = suc s.cycle;
  role = Primary (drawn s) (replicate 64 1);
})
begins s room = record { room = room; after = refl }

-- updater 1 appends an entry
decides : (s : Site) (of : Stamp) (next : List ℕ) (updates : List Update) → s.role ≡ Primary of next
    → Decides 1 s (record s { sequence = s.sequence ++ entry_of of 1 (serial_at next 1) updates ∷ []; role = Primary of (picked_once next 1) })
decides s of next updates role = record { stamp = of; serials = next; role = role; updater = (omega arith, omega arith); after = inr (updates, refl) }

is-left : (least n : ℕ) (s : Site) → least ≤ n → IsLeft least n s (record s { sequence = take n s.sequence; hardened = n; role = Down })
is-left least n s le = record { hardened = n; reigns = s.reigns; cycle = s.cycle; enough = le; most = omega arith; keeps = unchanged n s; after = refl }

-- The switch

other-name : (m n : ℕ) → (m ≡ n → ⊥) → m ∷ [] ≡ n ∷ [] → ⊥
other-name m n differ e = let same : m ≡ n = cc in differ same

unused-second : IsUnused B (fresh A ∷ [])
unused-second zero a at =
    let same : Some (fresh A) ≡ Some a = at in let is : fresh A ≡ a = cc in (
      (λ e. other-name 65 66 (λ k. omega arith) (ap (λ (s : Site). s.name) is ∙ e)),
      (λ n x has. let none : None ≡ Some x = subst (λ (s : Site). slice_get s.sequence n ≡ Some x) (sym is) has in cc),
    )
unused-second (suc i) a at = let none : None ≡ Some a = at in cc

pub start : IsFit two_sites
start = resting.made (fresh A ∷ []) B (resting.made [] A resting.empty (λ i a at. let none : None ≡ Some a = at in cc)) unused-second

abbrev first-a : Site
first-a = record { name = A; sequence = []; hardened = 0; reigns = reign A 1 1 ∷ []; cycle = 1; role = Primary (stamp A 1) (replicate 64 1) }

abbrev first-b : Site
first-b = record { name = B; sequence = []; hardened = 0; reigns = []; cycle = 0; role = Following A [] [] }

abbrev one-a : List Update → ℕ → Site
one-a one hardened = record { name = A; sequence = made A 1 1 one ∷ []; hardened = hardened; reigns = reign A 1 1 ∷ []; cycle = 1; role = Primary (stamp A 1) serials_after_one }

abbrev two-a : List Update → List Update → ℕ → Site
two-a one two hardened = record {
  name = A;
  sequence = made A 1 1 one ∷ made A 1 2 two ∷ [];
  hardened = hardened;
  reigns = reign A 1 1 ∷ [];
  cycle = 1;
  role = Primary (stamp A 1) (picked_once serials_after_one 1);
}

abbrev one-b : List Update → Role → Site
one-b one role = record { name = B; sequence = made A 1 1 one ∷ []; hardened = 1; reigns = reign A 1 1 ∷ []; cycle = 1; role = role }

abbrev second-b : List Update → Site
second-b one = record { name = B; sequence = made A 1 1 one ∷ []; hardened = 1; reigns = reign A 1 1 ∷ reign B 2 2 ∷ []; cycle = 2; role = Primary (stamp B 2) (replicate 64 1) }

abbrev made-b : List Update → List Update → Site
made-b one three = record (switched_b one three) { hardened = 1 }

-- the first entry is shipped
abbrev sent-one : List Update → Sequence
sent-one one = made A 1 1 one ∷ []

first-adopts : Adopts 0 (stamp A 1) [] (reign A 1 1 ∷ [])
first-adopts = inr ((λ e. cc), refl)

-- the switch's second reign
second-adopts : Adopts 1 (stamp B 2) (reign A 1 1 ∷ []) (reign A 1 1 ∷ reign B 2 2 ∷ [])
second-adopts = inr (
  (λ e.
      let stamps : Some (stamp A 1) ≡ Some (stamp B 2) = e in
      let same : stamp A 1 ≡ stamp B 2 = cc in
      let cycles : ◌≡◌ {A = ℕ} 1 2 = ap (λ (s : Stamp). s.cycle) same in
      omega arith),
  refl,
)

first-follows : Follows first-a (fresh B) first-b
first-follows = record { reigns = []; cycle = 0; matched = ([], refl); keeps = unchanged 0 (fresh B); after = refl }

ship-one : (one : List Update) (a : Site) (events : List Event) (v : World) → a.name ≡ A → slice_get (hardened_part a) 0 ≡ Some (made A 1 1 one)
    → Reaches (a ∷ one-b one (Following A (sent-one one) (sent-one one)) ∷ []) events v → Reaches (a ∷ first-b ∷ []) (Send 1 ∷ Receive 1 ∷ Apply 1 ∷ events) v
ship-one one a events v named has rest =
    steps.joined (a ∷ first-b ∷ []) (a ∷ one-b one (Following A (sent-one one) (sent-one one)) ∷ []) v (Send 1 ∷ Receive 1 ∷ Apply 1 ∷ []) events
    (subst (λ (n : List ℕ). Reaches (a ∷ first-b ∷ []) (Send 1 ∷ Receive 1 ∷ Apply 1 ∷ []) (a ∷ one-b one (Following n (sent-one one) (sent-one one)) ∷ [])) named
    (steps.carried (a ∷ first-b ∷ []) 1 0 a first-b (made A 1 1 one) (reign A 1 1 ∷ []) 1 refl refl (ap (λ (n : List ℕ). Following n [] []) (sym named)) has (omega arith) first-adopts (omega arith)))
    rest

pub switch-before : (one two three : List Update) → Reaches two_sites switch_before (crashed_a one two ∷ switched_b one three ∷ [])
switch-before one two three =
    let b0 : Site = fresh B in
    let b1 : Site = one-b one (Following A (sent-one one) (sent-one one)) in
    let b2 : Site = one-b one Down in (
      first-a ∷ b0 ∷ [],
      here Begins (fresh A) b0 first-a (begins (fresh A) (omega arith)),
      (
        first-a ∷ first-b ∷ [],
        (first-a, refl, there (Follows first-a) first-a b0 first-b first-follows),
        (
          one-a one 0 ∷ first-b ∷ [],
          here (Decides 1) first-a first-b (one-a one 0) (decides first-a (stamp A 1) (replicate 64 1) one refl),
          (
            one-a one 1 ∷ first-b ∷ [],
            here Hardens (one-a one 0) first-b (one-a one 1) refl,
            ship-one one (one-a one 1)
                (Crash 1 1 ∷ Decide 0 1 ∷ Harden 0 ∷ Crash 0 2 ∷ Begin 1 ∷ Decide 1 1 ∷ Harden 1 ∷ []) (crashed_a one two ∷ switched_b one three ∷ []) refl refl (
                  one-a one 1 ∷ b2 ∷ [],
                  (b1, refl, omega arith, (refl, (is-left 1 1 b1 (omega arith), tt))),
                  (
                    two-a one two 1 ∷ b2 ∷ [],
                    here (Decides 1) (one-a one 1) b2 (two-a one two 1) (decides (one-a one 1) (stamp A 1) serials_after_one two refl),
                    (
                      two-a one two 2 ∷ b2 ∷ [],
                      here Hardens (two-a one two 1) b2 (two-a one two 2) refl,
                      (
                        crashed_a one two ∷ b2 ∷ [],
                        (two-a one two 2, refl, omega arith, (is-left 2 2 (two-a one two 2) (omega arith), (refl, tt))),
                        (
                          crashed_a one two ∷ second-b one ∷ [],
                          there Begins (crashed_a one two) b2 (second-b one) (begins b2 (omega arith)),
                          (
                            crashed_a one two ∷ made-b one three ∷ [],
                            there (Decides 1) (crashed_a one two) (second-b one) (made-b one three) (decides (second-b one) (stamp B 2) (replicate 64 1) three refl),
                            (
                              crashed_a one two ∷ switched_b one three ∷ [],
                              there Hardens (crashed_a one two) (made-b one three) (switched_b one three) refl,
                              refl,
                            ),
                          ),
                        ),
                      ),
                    ),
                  ),
                ),
          ),
        ),
      ),
    )

-- two stamps of one number that differ in their cycles, or in their roots
differ : (n : ℕ) (xs ys : List Reign) (s t : Stamp) → stamp_at n xs ≡ Some s → stamp_at n ys ≡ Some t → (s ≡ t → ⊥) → BothHave n xs ys → ⊥
differ n xs ys s t first second other have =
    let same : Some s ≡ Some t = sym first ∙ have.1 ∙ sym have.2 ∙ second in other cc

pub switch-common : (one two three : List Update) → IsCommonOf 1 (history 2 (crashed_a one two)) (history 2 (switched_b one three))
switch-common one two three = record {
  in_first = omega arith;
  in_second = omega arith;
  same = inr (stamp A 1, refl, refl);
  greatest = λ n past low also have.
      let is : n ≡ 2 = omega arith in
      differ 2 (reign A 1 1 ∷ []) (reign A 1 1 ∷ reign B 2 2 ∷ []) (stamp A 1) (stamp B 2) refl refl
      (λ e. let cycles : 1 ≡ 2 = ap (λ (s : Stamp). s.cycle) e in absurd (omega arith))
      (subst (λ (k : ℕ). BothHave k (reign A 1 1 ∷ []) (reign A 1 1 ∷ reign B 2 2 ∷ [])) is have);
}

abbrev rolled-a : List Update → Role → Site
rolled-a one role = record { name = A; sequence = made A 1 1 one ∷ []; hardened = 1; reigns = reign A 1 1 ∷ []; cycle = 1; role = role }

pub switch-after : (one two three : List Update) → Reaches (crashed_a one two ∷ switched_b one three ∷ []) switch_after (following_a one three ∷ switched_b one three ∷ [])
switch-after one two three =
    let b : Site = switched_b one three in
    let a1 : Site = rolled-a one Down in
    let a2 : Site = rolled-a one (Following B (sent-one one) (sent-one one)) in (
      a1 ∷ b ∷ [],
      (crashed_a one two, refl, omega arith, (is-left 0 1 (crashed_a one two) (omega arith), (refl, tt))),
      (
        a2 ∷ b ∷ [],
        (b, refl, here (Follows b) a1 b a2 (record { reigns = reign A 1 1 ∷ []; cycle = 1; matched = (made B 2 1 three ∷ [], refl); keeps = unchanged 1 a1; after = refl })),
        steps.carried (a2 ∷ b ∷ []) 0 1 b a2 (made B 2 1 three) (reign A 1 1 ∷ reign B 2 2 ∷ []) 2 refl refl refl refl (omega arith)
            second-adopts (omega arith),
      ),
    )

-- The parting

abbrev both-b : List Update → List Update → Role → Site
both-b one two role = record { name = B; sequence = made A 1 1 one ∷ made A 1 2 two ∷ []; hardened = 2; reigns = reign A 1 1 ∷ []; cycle = 1; role = role }

abbrev second-a : List Update → Site
second-a one = record { name = A; sequence = made A 1 1 one ∷ []; hardened = 1; reigns = reign A 1 1 ∷ reign A 2 2 ∷ []; cycle = 2; role = Primary (stamp A 2) (replicate 64 1) }

abbrev made-a : List Update → List Update → Site
made-a one three = record (parted_a one three) { hardened = 1 }

abbrev third-b : List Update → List Update → Site
third-b one two = record {
  name = B;
  sequence = made A 1 1 one ∷ made A 1 2 two ∷ [];
  hardened = 2;
  reigns = reign A 1 1 ∷ reign B 2 3 ∷ [];
  cycle = 2;
  role = Primary (stamp B 2) (replicate 64 1);
}

abbrev more-b : List Update → List Update → List Update → ℕ → Site
more-b one two four hardened = record (parted_b one two four) { hardened = hardened; role = Primary (stamp B 2) serials_after_one }

abbrev sent-both : List Update → List Update → Sequence
sent-both one two = made A 1 1 one ∷ made A 1 2 two ∷ []

pub parting : (one two three four : List Update) → Reaches two_sites parted (parted_a one three ∷ parted_b one two four ∷ [])
parting one two three four =
    let b0 : Site = fresh B in
    let a2 : Site = two-a one two 2 in
    let b1 : Site = one-b one (Following A (sent-one one) (sent-one one)) in
    let b2 : Site = both-b one two (Following A (sent-both one two) (sent-both one two)) in
    let b3 : Site = both-b one two Down in
    let a3 : Site = crashed_a one two in
    let a4 : Site = rolled-a one Down in
    let a5 : Site = parted_a one three in (
      first-a ∷ b0 ∷ [],
      here Begins (fresh A) b0 first-a (begins (fresh A) (omega arith)),
      (
        first-a ∷ first-b ∷ [],
        (first-a, refl, there (Follows first-a) first-a b0 first-b first-follows),
        (
          one-a one 0 ∷ first-b ∷ [],
          here (Decides 1) first-a first-b (one-a one 0) (decides first-a (stamp A 1) (replicate 64 1) one refl),
          (
            two-a one two 0 ∷ first-b ∷ [],
            here (Decides 1) (one-a one 0) first-b (two-a one two 0) (decides (one-a one 0) (stamp A 1) serials_after_one two refl),
            (
              a2 ∷ first-b ∷ [],
              here Hardens (two-a one two 0) first-b a2 refl,
              ship-one one a2
                  (Send 1 ∷ Receive 1 ∷ Apply 1 ∷ Crash 1 2 ∷ Crash 0 2 ∷ Roll 0 1 ∷ Begin 0 ∷ Decide 0 1 ∷ Harden 0 ∷ Begin 1 ∷ Decide 1 1 ∷ Harden 1 ∷ Crash 1 3 ∷ [])
                  (a5 ∷ parted_b one two four ∷ []) refl refl
                  (steps.joined (a2 ∷ b1 ∷ []) (a2 ∷ b2 ∷ []) (a5 ∷ parted_b one two four ∷ []) (Send 1 ∷ Receive 1 ∷ Apply 1 ∷ [])
                  (Crash 1 2 ∷ Crash 0 2 ∷ Roll 0 1 ∷ Begin 0 ∷ Decide 0 1 ∷ Harden 0 ∷ Begin 1 ∷ Decide 1 1 ∷ Harden 1 ∷ Crash 1 3 ∷ [])
                  (steps.carried (a2 ∷ b1 ∷ []) 1 0 a2 b1 (made A 1 2 two) (reign A 1 1 ∷ []) 1 refl refl refl refl (omega arith) (inl (refl, refl)) (omega arith)) (
                    a2 ∷ b3 ∷ [],
                    (b2, refl, omega arith, (refl, (is-left 2 2 b2 (omega arith), tt))),
                    (
                      a3 ∷ b3 ∷ [],
                      (a2, refl, omega arith, (is-left 2 2 a2 (omega arith), (refl, tt))),
                      (
                        a4 ∷ b3 ∷ [],
                        (a3, refl, omega arith, (is-left 0 1 a3 (omega arith), (refl, tt))),
                        (
                          second-a one ∷ b3 ∷ [],
                          here Begins a4 b3 (second-a one) (begins a4 (omega arith)),
                          (
                            made-a one three ∷ b3 ∷ [],
                            here (Decides 1) (second-a one) b3 (made-a one three) (decides (second-a one) (stamp A 2) (replicate 64 1) three refl),
                            (
                              a5 ∷ b3 ∷ [],
                              here Hardens (made-a one three) b3 a5 refl,
                              (
                                a5 ∷ third-b one two ∷ [],
                                there Begins a5 b3 (third-b one two) (begins b3 (omega arith)),
                                (
                                  a5 ∷ more-b one two four 2 ∷ [],
                                  there (Decides 1) a5 (third-b one two) (more-b one two four 2) (decides (third-b one two) (stamp B 2) (replicate 64 1) four refl),
                                  (
                                    a5 ∷ more-b one two four 3 ∷ [],
                                    there Hardens a5 (more-b one two four 2) (more-b one two four 3) refl,
                                    (
                                      a5 ∷ parted_b one two four ∷ [],
                                      (more-b one two four 3, refl, omega arith, (refl, (is-left 3 3 (more-b one two four 3) (omega arith), tt))),
                                      refl,
                                    ),
                                  ),
                                ),
                              ),
                            ),
                          ),
                        ),
                      ),
                    ),
                  )),
            ),
          ),
        ),
      ),
    )

pub parting-common : (one two three four : List Update) → IsCommonOf 1 (history 2 (parted_a one three)) (history 3 (parted_b one two four))
parting-common one two three four = record {
  in_first = omega arith;
  in_second = omega arith;
  same = inr (stamp A 1, refl, refl);
  greatest = λ n past low also have.
      let is : n ≡ 2 = omega arith in
      differ 2 (reign A 1 1 ∷ reign A 2 2 ∷ []) (reign A 1 1 ∷ reign B 2 3 ∷ []) (stamp A 2) (stamp A 1) refl refl
      (λ e. let cycles : 2 ≡ 1 = ap (λ (s : Stamp). s.cycle) e in absurd (omega arith))
      (subst (λ (k : ℕ). BothHave k (reign A 1 1 ∷ reign A 2 2 ∷ []) (reign A 1 1 ∷ reign B 2 3 ∷ [])) is have);
}
