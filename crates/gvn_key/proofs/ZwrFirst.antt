-- The first fault's place: some text in ZWR form begins with all before it, and none with more.
use Rattle.std.proofs.Common.{◌≡◌, ℕ, suc, ◌+◌, ◌-◌, ◌<◌, ◌≤◌, Bool, true, false, ◌&&◌, ◌==◌, nat_lt, List, [], ◌∷◌, ◌++◌, length, map, take, refl, ap, sym, subst, IfErr, ◌∙◌, arith, append_assoc, inl, inr}
use Rattle.std.specs.List.{join_with_byte}
use Rattle.std.specs.Fmt.{decimal}
use Rattle.std.specs.declared.result.Result.{Result}
use Rattle.std.specs.declared.result.Result.TheVariants.{Ok, Err}
use Rattle.std.proofs.lemmas.List.{append-nil}
use Rattle.std.proofs.Math.ListN.{length-append}
use Rattle.std.proofs.Math.Seq.{take-append_seam, take-append-add}
use Rattle.std.proofs.lemmas.Bool.{and_from, lt-ltb, cases_Bool}
use Rattle.gvn_key.specs.ZwrText.{quoted, IsZwr, one, is_whole, IsFront, IsFirstFault, TellsPlace, Scanned, scan, step, onward, emitted, told, fault_at, lacks_piece, read_whole, zwr_reading, ReadsZwr}
use Rattle.gvn_key.proofs.ZwrLaws.{behind, zwr_complete}
use Rattle.gvn_key.proofs.ZwrFound.{nothing, IsRest, start, quotes, closed, dollar, paren, first, number, done, Moves, moves, IsGood, good, back, from_start, ended}
use Rattle.gvn_key.specs.declared.reader.State.{State}
use Rattle.gvn_key.specs.declared.reader.State.TheVariants.{Start, Quotes, Closed, Dollar, Paren, First, Number, Done}
use Rattle.gvn_key.specs.declared.reader.Effect.{Effect}
use Rattle.gvn_key.specs.declared.reader.Effect.TheVariants.{Stop, Silent, Emit}
use Rattle.gvn_key.specs.declared.reader.ZwrError.{ZwrError}
use Rattle.gvn_key.specs.declared.reader.ZwrError.TheVariants.{BadQuote, BadChar, NoMemory}

abbrev IsStuck : State → List ℕ → Type 0
IsStuck s [] = Unit {0}
IsStuck s (b ∷ bs) = step s b ≡ Stop

-- what a reader read, which it reads again whatever follows, and where it stopped
record Reaches (s : State) (text : List ℕ) (r : Scanned) : Type 0 where
  pub front : List ℕ
  pub whole : text ≡ front ++ r.left
  pub again : (more : List ℕ) → scan s (front ++ more) ≡ behind r.value (scan r.state more)
  pub in_range : IsGood r.state
  pub viable : (l v : List ℕ) → IsRest r.state l v → IsRest s (front ++ l) (r.value ++ v)
  pub stuck : IsStuck r.state r.left

reaches_at : (s : State) (b : ℕ) (bs : List ℕ) (e : Effect) → step s b ≡ e → Moves s b e → IsGood s → ((t : State) → IsGood t → Reaches t bs (scan t bs))
    → Reaches s (b ∷ bs) (onward e (record { value = []; state = s; left = b ∷ bs }) (λ t. scan t bs))
reaches_at s b bs Stop is m g next = record { front = []; whole = refl; again = λ more. refl; in_range = g; viable = λ l v r. r; stuck = is }
reaches_at s b bs (Silent t) is m g next =
    let r = next t (good m) in
    record {
      front = b ∷ r.front;
      whole = ap (λ x. b ∷ x) r.whole;
      again = λ more. ap (λ e. onward e (record { value = []; state = s; left = b ∷ (r.front ++ more) }) (λ u. scan u (r.front ++ more))) is ∙ r.again more;
      in_range = r.in_range;
      viable = λ l v q. back g m (r.front ++ l) ((scan t bs).value ++ v) (r.viable l v q);
      stuck = r.stuck;
    }
reaches_at s b bs (Emit t c) is m g next =
    let r = next t (good m) in
    record {
      front = b ∷ r.front;
      whole = ap (λ x. b ∷ x) r.whole;
      again = λ more. ap (λ e. onward e (record { value = []; state = s; left = b ∷ (r.front ++ more) }) (λ u. scan u (r.front ++ more))) is ∙ ap (emitted c) (r.again more);
      in_range = r.in_range;
      viable = λ l v q. back g m (r.front ++ l) ((scan t bs).value ++ v) (r.viable l v q);
      stuck = r.stuck;
    }

reaches : (s : State) (text : List ℕ) → IsGood s → Reaches s text (scan s text)
reaches s [] g = record { front = []; whole = refl; again = λ more. refl; in_range = g; viable = λ l v r. r; stuck = tt }
reaches s (b ∷ bs) g = reaches_at s b bs (step s b) refl (moves s b) g (λ t h. reaches t bs h)

-- each state can still end well

completion : (s : State) → IsGood s → (l : List ℕ) × (v : List ℕ) × IsRest s l v
completion Start g = (34 ∷ 34 ∷ [], [], start (one (quoted [] refl)))
completion Quotes g = (34 ∷ [], [], quotes [] refl nothing)
completion Closed g = ([], [], closed nothing)
completion Done g = ([], [], done nothing)
completion First g = (join_with_byte 44 (map decimal (0 ∷ [])) ++ (41 ∷ []), 0 ∷ [], first 0 [] refl nothing)
completion Paren g = (40 ∷ (join_with_byte 44 (map decimal (0 ∷ [])) ++ (41 ∷ [])), 0 ∷ [], paren (first 0 [] refl nothing))
completion Dollar g = (67 ∷ 40 ∷ (join_with_byte 44 (map decimal (0 ∷ [])) ++ (41 ∷ [])), 0 ∷ [], dollar (paren (first 0 [] refl nothing)))
completion (Number n) g = (41 ∷ [], n ∷ [], number n n [] [] (sym (append-nil (decimal n))) (and_from (nat_lt n 256) true (lt-ltb n 256 g) refl) nothing)

-- the place of what is left
at_length : (front left text : List ℕ) → text ≡ front ++ left → length text - length left ≡ length front
at_length front left text e = omega (arith, ap length e, length-append front left)

viable_front : (text : List ℕ) → IsFront (take (length text - length (scan Start text).left) text)
viable_front text =
    let r = reaches Start text tt in
    let c = completion (scan Start text).state r.in_range in
    let e : take (length text - length (scan Start text).left) text ≡ r.front =
    ap (λ n. take n text) (at_length r.front (scan Start text).left text r.whole) ∙ ap (take (length r.front)) r.whole ∙ take-append_seam r.front (scan Start text).left in
    record { rest = c.0; value = (scan Start text).value ++ c.1; is = subst (λ x. IsZwr (x ++ c.0) ((scan Start text).value ++ c.1)) (sym e) (from_start (r.viable c.0 c.1 c.2)) }

-- with a byte that can't stand there, no text goes on

cons_left : (s : State) (b : ℕ) (x : List ℕ) → step s b ≡ Stop → (scan s (b ∷ x)).left ≡ b ∷ x
cons_left s b x e = ap (λ f. (onward f (record { value = []; state = s; left = b ∷ x }) (λ t. scan t x)).left) e

no_text : (text front value : List ℕ) (state : State) (b : ℕ) (x v : List ℕ) → ((more : List ℕ) → scan Start (front ++ more) ≡ behind value (scan state more)) → step state b ≡ Stop
    → IsZwr (front ++ (b ∷ x)) v → ⊥
no_text text front value state b x v again stop z =
    let t = ended (length (front ++ (b ∷ x))) (scan Start (front ++ (b ∷ x))) v (zwr_complete (front ++ (b ∷ x)) v z) in
    let left : b ∷ x ≡ [] = sym (cons_left state b x stop) ∙ sym (ap (λ s. s.left) (again (b ∷ x))) ∙ t.1 in
    cc

dead_at : (text front left value : List ℕ) (state : State) (n : ℕ) → text ≡ front ++ left → ((more : List ℕ) → scan Start (front ++ more) ≡ behind value (scan state more)) → IsStuck state left
    → length front < n → n ≤ length text → IsFront (take n text) → ⊥
dead_at text front [] value state n whole again stuck more within f = omega (arith, ap length whole, length-append {A = ℕ} front [])
dead_at text front (b ∷ rest) value state n whole again stuck more within f =
    let j : ℕ = n - length front - 1 in
    let e : n ≡ length front + suc j = omega arith in
    let cut : take n text ≡ front ++ (b ∷ take j rest) = (λ i. take (e i) (whole i)) ∙ take-append-add front (b ∷ rest) (suc j) in
    no_text text front value state b (take j rest ++ f.rest) f.value again stuck
    (subst (λ y. IsZwr y f.value) (append_assoc front (b ∷ take j rest) f.rest) (subst (λ y. IsZwr (y ++ f.rest) f.value) cut f.is))

pub first_fault : (text : List ℕ) → IsFirstFault text (length text - length (scan Start text).left)
first_fault text =
    let r = reaches Start text tt in
    let at = at_length r.front (scan Start text).left text r.whole in
    record {
      begins = viable_front text;
      no_more = λ n more within f. dead_at text r.front (scan Start text).left (scan Start text).value (scan Start text).state n r.whole r.again r.stuck (omega (arith, at)) within f;
    }

-- the place that is told

told_place : (at len : ℕ) → at ≤ len → len < 4294967296 → told at ≡ at
told_place at len h small = omega arith

fault_tells : (text : List ℕ) (at : ℕ) (lacking : Bool) → IsFirstFault text at → told at ≡ at → TellsPlace text (fault_at at lacking)
fault_tells text at true f e = subst (IsFirstFault text) (sym e) f
fault_tells text at false f e = subst (IsFirstFault text) (sym e) f

whole_tells : (text : List ℕ) (r : Scanned) (f : ZwrError) → length text < 4294967296 → IsFirstFault text (length text - length r.left) → read_whole (length text) r ≡ Err f → TellsPlace text f
whole_tells text r f small fault e = elim (cases_Bool (is_whole r.state && length r.left == 0)) [
  | inl h ↦ absurd (cc (rw h at e))
  | inr h ↦
      let at : ℕ = length text - length r.left in
      let is : fault_at at (lacks_piece r.state r.left) ≡ f = cc (rw h at e) in
      subst (TellsPlace text) is (fault_tells text at (lacks_piece r.state r.left) fault (told_place at (length text) (omega arith) small))
]

pub place_told : (text : List ℕ) (r : Result (List ℕ) ZwrError) → ReadsZwr (zwr_reading text) r → length text < 4294967296 → IfErr r (TellsPlace text)
place_told text (Ok v) h small = tt
place_told text (Err (BadQuote at)) h small = whole_tells text (scan Start text) (BadQuote at) small (first_fault text) h
place_told text (Err (BadChar at)) h small = whole_tells text (scan Start text) (BadChar at) small (first_fault text) h
place_told text (Err NoMemory) h small = tt
