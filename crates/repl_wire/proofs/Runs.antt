-- A scan over many bytes.
use Rattle.std.proofs.Common.{◌≡◌, ℕ, zero, suc, ◌+◌, ◌-◌, ◌<◌, ◌≤◌, List, [], ◌∷◌, ◌++◌, length, take, drop, get_or, Bool, refl, sym, ap, ◌∙◌, subst, arith, append_assoc, append-nil, length-append, inl, inr}
use Rattle.std.proofs.Math.Seq.{drop-cons, take-append-add}
use Rattle.std.proofs.lemmas.Bool.{cases_lt}
use Rattle.std.proofs.lemmas.List.{take_more, take_all, take-append-drop, length-take}
use Rattle.repl_wire.specs.declared.field.Part.{Part}
use Rattle.repl_wire.specs.declared.field.Part.TheVariants.{Byte, Number, Name, Key, Value, Whole}
use Rattle.repl_wire.specs.declared.field.Scan.{Scan}
use Rattle.repl_wire.specs.Layout.{Rest, Numbered, Named, Skipped}
use Rattle.repl_wire.specs.Scans.{Awaits, Accepts, Completing, Fits, IsSound}
use Rattle.repl_wire.specs.Feeds.{Running, Runs, Passes}
use Rattle.repl_wire.specs.declared.run.Ran.TheVariants.{Open, Bad}

number_none : (missing n : ℕ) (K : ℕ → Rest) → 1 ≤ missing → Numbered missing n K [] → ⊥
number_none zero n K some h = absurd (omega arith)
number_none (suc r) n K some h = h

name_none : (first : Bool) (missing : ℕ) (K : Rest) → 1 ≤ missing → Named first missing K [] → ⊥
name_none first zero K some h = absurd (omega arith)
name_none first (suc n) K some h = h

value_none : (missing : ℕ) (K : Rest) → 1 ≤ missing → Skipped missing K [] → ⊥
value_none zero K some h = absurd (omega arith)
value_none (suc n) K some h = h

-- a frame that isn't whole is completed by some byte
part_not_done : (part : Part) (left items : ℕ) → Fits part left items → (part ≡ Whole → ⊥) → Accepts part left items [] → ⊥
part_not_done (Byte field) left items f open_ h = h
part_not_done (Number field front) left items f open_ h = number_none front.missing front.value _ f.0.some h
part_not_done (Name first missing site) left items f open_ h = name_none first missing _ f.0 h
part_not_done (Key set prefix) left items f open_ h =
    let some = f.0.some in
    let e = ap length h.is ∙ length-append h.front h.back in
    omega (arith, h.here.1)
part_not_done (Value missing) left items f open_ h = value_none missing _ f.0 h
part_not_done Whole left items f open_ h = open_ refl

pub not_done : (s : Scan) → IsSound s → (s.part ≡ Whole → ⊥) → Completing s [] → ⊥
not_done s f open_ h = part_not_done s.part s.left s.items f open_ h

pub done : (s : Scan) → s.part ≡ Whole → Completing s []
done s e = subst (λ (p : Part). Accepts p s.left s.items []) (sym e) refl

pub running_begun : (s : Scan) (bytes : List ℕ) → IsSound s → (s.part ≡ Whole → ⊥) → Running s (Completing s) bytes 0
running_begun s bytes f open_ = record {
  awaits = record { sound = f; only = λ w h. h; each = λ w h. h };
  open_ = open_;
  none = λ m small h. let e : m ≡ 0 = omega arith in not_done s f open_ (subst (λ (k : ℕ). Completing s (take k bytes)) e h);
}

module _ (s next : Scan) (K : Rest) (bytes : List ℕ) (i : ℕ) (running : Running s K bytes i) (within : i < length bytes) (one : Awaits next (λ w. Completing s (get_or bytes i 0 ∷ w))) where
  joined : (w : List ℕ) → take (i + 1) bytes ++ w ≡ take i bytes ++ get_or bytes i 0 ∷ w
  joined w = ap (λ (l : List ℕ). l ++ w) (take_more bytes i 0 within) ∙ append_assoc (take i bytes) (get_or bytes i 0 ∷ []) w

  next_awaits : Awaits next (λ w. K (take (i + 1) bytes ++ w))
  next_awaits = record {
    sound = one.sound;
    only = λ w h. subst K (sym (joined w)) (running.awaits.only (get_or bytes i 0 ∷ w) (one.only w h));
    each = λ w h. one.each w (running.awaits.each (get_or bytes i 0 ∷ w) (subst K (joined w) h));
  }

  pub running_on : (next.part ≡ Whole → ⊥) → Running next K bytes (i + 1)
  running_on open_ = record {
    awaits = next_awaits;
    open_ = open_;
    none = λ m small h. elim (cases_lt i m) as (λ _. ⊥) [
      | inl past ↦ let e : m ≡ i + 1 = omega arith in
          not_done next one.sound open_ (next_awaits.each [] (subst K (sym (append-nil (take (i + 1) bytes))) (subst (λ (k : ℕ). K (take k bytes)) e h)))
      | inr there ↦ running.none m there h
    ];
  }

  pub running_whole : next.part ≡ Whole → K (take (i + 1) bytes)
  running_whole e = subst K (append-nil (take (i + 1) bytes)) (next_awaits.only [] (done next e))

pub running_bad : (s : Scan) (K : Rest) (bytes : List ℕ) (i : ℕ) → Running s K bytes i → i < length bytes → ((w : List ℕ) → Completing s (get_or bytes i 0 ∷ w) → ⊥) → Runs Bad K bytes
running_bad s K bytes i running within none = (no_more, no_front)
  where
    b : ℕ
    b = get_or bytes i 0

    behind : List ℕ
    behind = drop (suc i) bytes

    cut : bytes ≡ take i bytes ++ get_or bytes i 0 ∷ drop (suc i) bytes
    cut = sym (take-append-drop i bytes) ∙ ap (λ (l : List ℕ). take i bytes ++ l) (drop-cons bytes i 0 within)

    never : (w : List ℕ) → K (take i bytes ++ get_or bytes i 0 ∷ w) → ⊥
    never w h = none w (running.awaits.each (get_or bytes i 0 ∷ w) h)

    no_more : (w : List ℕ) → K (bytes ++ w) → ⊥
    no_more w h = never (drop (suc i) bytes ++ w) (subst K (ap (λ (l : List ℕ). l ++ w) cut ∙ append_assoc (take i bytes) (get_or bytes i 0 ∷ drop (suc i) bytes) w) h)

    front_is : (k : ℕ) → take (i + suc k) bytes ≡ take i bytes ++ get_or bytes i 0 ∷ take k (drop (suc i) bytes)
    front_is k =
        let long : length (take i bytes) ≡ i = omega (arith, length-take i bytes) in
        ap (λ (l : List ℕ). take (i + suc k) l) cut
        ∙ ap (λ (n : ℕ). take (n + suc k) (take i bytes ++ get_or bytes i 0 ∷ drop (suc i) bytes)) (sym long)
        ∙ take-append-add (take i bytes) (get_or bytes i 0 ∷ drop (suc i) bytes) (suc k)

    no_front : (m : ℕ) → m ≤ length bytes → K (take m bytes) → ⊥
    no_front m small h = elim (cases_lt i m) as (λ _. ⊥) [
      | inl past ↦ let e : m ≡ i + suc (m - i - 1) = omega arith in never (take (m - i - 1) (drop (suc i) bytes)) (subst K (front_is (m - i - 1)) (subst (λ (k : ℕ). K (take k bytes)) e h))
      | inr there ↦ running.none m there h
    ]

pub running_ended : (s : Scan) (K : Rest) (bytes : List ℕ) (i : ℕ) → Running s K bytes i → length bytes ≤ i → Runs (Open s) K bytes
running_ended s K bytes i running ended =
    let e = take_all i bytes ended in (
      record {
        sound = running.awaits.sound;
        only = λ w h. subst (λ (l : List ℕ). K (l ++ w)) e (running.awaits.only w h);
        each = λ w h. running.awaits.each w (subst (λ (l : List ℕ). K (l ++ w)) (sym e) h);
      },
      running.open_,
    )

-- a scan in a value
abbrev value_scan : (missing left items : ℕ) → Scan
value_scan missing left items = record { part = Value missing; left = left; items = items }

-- a byte of a value, and not its last one, leads on
value_step : (more left items : ℕ) (K : Rest) (bytes : List ℕ) (i : ℕ) → Running (value_scan (suc (suc more)) left items) K bytes i → i < length bytes → Running (value_scan (suc more) left items) K bytes (i + 1)
value_step more left items K bytes i running within =
    running_on (value_scan (suc (suc more)) left items) (value_scan (suc more) left items) K bytes i running within
    (record { sound = (omega arith, running.awaits.sound.1); only = λ w h. h; each = λ w h. h })
    (λ e. absurd (value_open (suc more) e))
  where
    value_open : (n : ℕ) → Value n ≡ Whole → ⊥
    value_open n e = cc

value_on : (count missing left items : ℕ) (K : Rest) (bytes : List ℕ) (i : ℕ) → count < missing → i + count ≤ length bytes → Running (value_scan missing left items) K bytes i
    → Running (value_scan (missing - count) left items) K bytes (i + count)
value_on zero missing left items K bytes i less inside running =
    let same : missing ≡ missing - 0 = omega arith in
    let here : i ≡ i + 0 = omega arith in
    subst (λ (n : ℕ). Running (value_scan (missing - 0) left items) K bytes n) here (subst (λ (n : ℕ). Running (value_scan n left items) K bytes i) same running)
value_on (suc count) zero left items K bytes i less inside running = absurd (omega arith)
value_on (suc count) (suc zero) left items K bytes i less inside running = absurd (omega arith)
value_on (suc count) (suc (suc more)) left items K bytes i less inside running =
    let next = value_step more left items K bytes i running (omega arith) in
    let behind = value_on count (suc more) left items K bytes (i + 1) (omega arith) (omega arith) next in
    let same : suc more - count ≡ suc (suc more) - suc count = omega arith in
    let here : i + 1 + count ≡ i + suc count = omega arith in
    subst (λ (n : ℕ). Running (value_scan (suc (suc more) - suc count) left items) K bytes n) here (subst (λ (n : ℕ). Running (value_scan n left items) K bytes (i + 1 + count)) same behind)

pub passes_on : (s t : Scan) (K : Rest) (bytes : List ℕ) (i count : ℕ) → Running s K bytes i → i + count ≤ length bytes → Passes s count t → Running t K bytes (i + count)
passes_on s t K bytes i count running inside passes = elim passes [
  | inl none ↦
      let here : i ≡ i + count = omega (arith, none.0) in
      subst (λ (n : ℕ). Running t K bytes n) here (subst (λ (x : Scan). Running x K bytes i) (sym none.1) running)
  | inr some ↦
      let is : s ≡ value_scan some.0 s.left s.items = ap (λ (p : Part). record { part = p; left = s.left; items = s.items }) some.1 in
      subst (λ (x : Scan). Running x K bytes (i + count)) (sym some.3) (value_on count some.0 s.left s.items K bytes i some.2 inside (subst (λ (x : Scan). Running x K bytes i) is running))
]
