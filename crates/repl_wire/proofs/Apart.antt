-- No frame's bytes begin another's, and a frame is told by its bytes.
use Rattle.std.proofs.Common.{◌≡◌, ℕ, zero, suc, ◌+◌, ◌*◌, ◌^◌, ◌<◌, ◌≤◌, List, [], ◌∷◌, ◌++◌, length, true, refl, sym, ap, ◌∙◌, subst, arith, append_assoc, inl, inr}
use Rattle.std.specs.Prelude.{◌⊎◌}
use Rattle.std.specs.Int.{to_be_bytes, w16, w32, w64, bytes_high_first, byte_at}
use Rattle.std.specs.List.{flat_map, AllByRecursion}
use Rattle.std.proofs.lemmas.Nat.{div-add-mod', mod_below}
use Rattle.global_defs.specs.Key.{Key}
use Rattle.global_defs.specs.Valid.{is_key}
use Rattle.global_defs.specs.Encoded.{encoded}
use Rattle.global_defs.proofs.KeyOrder.{key_injective}
use Rattle.global_defs.specs.Entry.{Update, Set, Kill, ZKill, Transaction, Reign}
use Rattle.global_defs.specs.Fields.{short, long, spelled_update, IsUpdate, IsReign}
use Rattle.wire_defs.specs.Frames.{Frame, Hello, Resume, RollbackFirst, History, Entry, Bye, spelled_reign, spelled_frame, frame_body, frame_type, entry_bytes, IsFrame, HasFields}
use Rattle.repl_wire.specs.Fronts.{unit}
use Rattle.repl_wire.specs.Layout.{Rest, Numbered}
use Rattle.repl_wire.proofs.Digits.{unit_pos}
use Rattle.repl_wire.proofs.Numbers.{spelt_to, high_byte}

-- one list begins with the other
abbrev pub Splits : (a b c d : List ℕ) → Type 0
Splits a b c d = ((x : List ℕ) × (c ≡ a ++ x) × (b ≡ x ++ d)) ⊎ ((x : List ℕ) × (a ≡ c ++ x) × (d ≡ x ++ b))

pub split : (a b c d : List ℕ) → a ++ b ≡ c ++ d → Splits a b c d
split [] b c d e = inl (c, refl, e)
split (x ∷ a) b [] d e = inr (x ∷ a, refl, sym e)
split (x ∷ a) b (y ∷ c) d e =
    let head : x ≡ y = cc in
    let tail : a ++ b ≡ c ++ d = cc in
    elim (split a b c d tail) as (λ _. Splits (x ∷ a) b (y ∷ c) d) [
      | inl s ↦ inl (s.0, ap (λ (z : ℕ). z ∷ c) (sym head) ∙ ap (λ (l : List ℕ). x ∷ l) s.1, s.2)
      | inr s ↦ inr (s.0, ap (λ (z : ℕ). z ∷ a) head ∙ ap (λ (l : List ℕ). y ∷ l) s.1, s.2)
    ]

-- fronts of one length
pub same_length : (a b x y : List ℕ) → a ++ x ≡ b ++ y → length a ≡ length b → (a ≡ b) × (x ≡ y)
same_length [] [] x y e l = (refl, e)
same_length [] (b ∷ bs) x y e l = absurd (omega arith)
same_length (a ∷ xs) [] x y e l = absurd (omega arith)
same_length (a ∷ xs) (b ∷ bs) x y e l =
    let head : a ≡ b = cc in
    let tail : xs ++ x ≡ bs ++ y = cc in
    let s = same_length xs bs x y tail (omega arith) in
    (ap (λ (z : ℕ). z ∷ xs) head ∙ ap (λ (t : List ℕ). b ∷ t) s.0, s.1)

-- a number behind its bytes
spelt_at : (r v n : ℕ) (K : ℕ → Rest) (rest : List ℕ) → v * unit r ≤ n → n < (v + 1) * unit r → Numbered r v K (bytes_high_first r n ++ rest) → K n rest
spelt_at zero v n K rest from below h = let e : v ≡ n = omega (arith, from, below) in subst (λ (m : ℕ). K m rest) e h
spelt_at (suc r) v n K rest from below h =
    let high = high_byte r v n from below in
    let pos = unit_pos r in
    let q = div-add-mod' n (unit r) in
    let m = mod_below n (unit r) pos in
    let scaled = ap (λ (x : ℕ). x * unit r) high in
    spelt_at r (v * 256 + byte_at r n) n K rest (omega (arith, scaled, q)) (omega (arith, scaled, q, m)) h.1

pub number_one : (r n m : ℕ) (x y : List ℕ) → n < unit r → m < unit r → bytes_high_first r n ++ x ≡ bytes_high_first r m ++ y → (n ≡ m) × (x ≡ y)
number_one r n m x y a b e =
    let K : ℕ → Rest = λ k w. (n ≡ k) × (x ≡ w) in
    spelt_at r 0 m K y (omega arith) (omega (arith, b)) (subst (λ (w : List ℕ). Numbered r 0 K w) e (spelt_to r 0 n K x (omega arith) (omega (arith, a)) (refl, refl)))

pub short_one : (a b x y : List ℕ) → short a ++ x ≡ short b ++ y → (a ≡ b) × (x ≡ y)
short_one a b x y e = let head : length a ≡ length b = cc in let tail : a ++ x ≡ b ++ y = cc in same_length a b x y tail head

pub long_one : (a b x y : List ℕ) → length a < 2 ^ 16 → length b < 2 ^ 16 → long a ++ x ≡ long b ++ y → (a ≡ b) × (x ≡ y)
long_one a b x y s t e =
    let n = number_one 2 (length a) (length b) (a ++ x) (b ++ y) (omega arith) (omega arith) (sym (append_assoc (bytes_high_first 2 (length a)) a x) ∙ e ∙ append_assoc (bytes_high_first 2 (length b)) b y) in
    same_length a b x y n.1 n.0

regrouped : (a b c x : List ℕ) → (a ++ b ++ c) ++ x ≡ a ++ (b ++ (c ++ x))
regrouped a b c x = append_assoc (a ++ b) c x ∙ append_assoc a b (c ++ x)

pub reign_one : (r s : Reign) (x y : List ℕ) → IsReign r → IsReign s → spelled_reign r ++ x ≡ spelled_reign s ++ y → (r ≡ s) × (x ≡ y)
reign_one r s x y f g e =
    let root = short_one r.stamp.root s.stamp.root (to_be_bytes w32 r.stamp.cycle ++ (to_be_bytes w64 r.start ++ x)) (to_be_bytes w32 s.stamp.cycle ++ (to_be_bytes w64 s.start ++ y))
    (sym (regrouped (short r.stamp.root) (to_be_bytes w32 r.stamp.cycle) (to_be_bytes w64 r.start) x) ∙ e ∙ regrouped (short s.stamp.root) (to_be_bytes w32 s.stamp.cycle) (to_be_bytes w64 s.start) y) in
    let fc = f.stamp.cycle in
    let gc = g.stamp.cycle in
    let fs = f.start in
    let gs = g.start in
    let cycle = number_one 4 r.stamp.cycle s.stamp.cycle (to_be_bytes w64 r.start ++ x) (to_be_bytes w64 s.start ++ y) (omega (arith, fc.1)) (omega (arith, gc.1)) root.1 in
    let start = number_one 8 r.start s.start x y (omega (arith, fs.1)) (omega (arith, gs.1)) cycle.1 in
    ((λ i. record { stamp = record { root = root.0 i; cycle = cycle.0 i }; start = start.0 i }), start.1)

-- lists of one length

module _ {X : Type 0} (Form : X → Type 0) (spelled : X → List ℕ) (one : (a b : X) (x y : List ℕ) → Form a → Form b → spelled a ++ x ≡ spelled b ++ y → (a ≡ b) × (x ≡ y)) where
  pub all_one : (xs bs : List X) (x y : List ℕ) → AllByRecursion Form xs → AllByRecursion Form bs → length xs ≡ length bs → flat_map spelled xs ++ x ≡ flat_map spelled bs ++ y → (xs ≡ bs) × (x ≡ y)
  all_one [] [] x y f g l e = (refl, e)
  all_one [] (b ∷ bs) x y f g l e = absurd (omega arith)
  all_one (a ∷ xs) [] x y f g l e = absurd (omega arith)
  all_one (a ∷ xs) (b ∷ bs) x y f g l e =
      let head = one a b (flat_map spelled xs ++ x) (flat_map spelled bs ++ y) f.0 g.0 (sym (append_assoc (spelled a) (flat_map spelled xs) x) ∙ e ∙ append_assoc (spelled b) (flat_map spelled bs) y) in
      let tail = all_one xs bs x y f.1 g.1 (omega arith) head.1 in
      ((λ i. head.0 i ∷ tail.0 i), tail.1)

-- updates

tagged : {m n : ℕ} {a b : List ℕ} → m ∷ a ≡ n ∷ b → a ≡ b
tagged e = cc

key_one : (k l : Key) (x y : List ℕ) → is_key k ≡ true → is_key l ≡ true → short (encoded k) ++ x ≡ short (encoded l) ++ y → (k ≡ l) × (x ≡ y)
key_one k l x y f g e = let s = short_one (encoded k) (encoded l) x y e in (key_injective k l f g s.0, s.1)

pub update_one : (u v : Update) (x y : List ℕ) → IsUpdate u → IsUpdate v → spelled_update u ++ x ≡ spelled_update v ++ y → (u ≡ v) × (x ≡ y)
update_one (Set k a) (Set l b) x y f g e =
    let key = key_one k l (long a ++ x) (long b ++ y) f.0 g.0 (sym (append_assoc (short (encoded k)) (long a) x) ∙ tagged e ∙ append_assoc (short (encoded l)) (long b) y) in
    let most = f.1 in
    let least = g.1 in
    let value = long_one a b x y (omega arith) (omega arith) key.1 in
    ((λ i. Set (key.0 i) (value.0 i)), value.1)
update_one (Kill k) (Kill l) x y f g e = let key = key_one k l x y f g (tagged e) in (ap Kill key.0, key.1)
update_one (ZKill k) (ZKill l) x y f g e = let key = key_one k l x y f g (tagged e) in (ap ZKill key.0, key.1)
update_one (Set k a) (Kill l) x y f g e = absurd (cc)
update_one (Set k a) (ZKill l) x y f g e = absurd (cc)
update_one (Kill k) (Set l b) x y f g e = absurd (cc)
update_one (Kill k) (ZKill l) x y f g e = absurd (cc)
update_one (ZKill k) (Set l b) x y f g e = absurd (cc)
update_one (ZKill k) (Kill l) x y f g e = absurd (cc)

-- bodies

alone_one : (n m : ℕ) → n < 2 ^ 64 → m < 2 ^ 64 → to_be_bytes w64 n ≡ to_be_bytes w64 m → n ≡ m
alone_one n m a b e = (number_one 8 n m [] [] (omega arith) (omega arith) (ap (λ (l : List ℕ). l ++ []) e)).0

hello_regrouped : (a b c d : List ℕ) → a ++ b ++ c ++ d ≡ a ++ (b ++ (c ++ d))
hello_regrouped a b c d = append_assoc (a ++ b) c d ∙ append_assoc a b (c ++ d)

pub body_one : (f g : Frame) → HasFields f → HasFields g → frame_type f ≡ frame_type g → frame_body f ≡ frame_body g → f ≡ g
body_one (Hello v n h) (Hello w m k) f g t e =
    let version : v ≡ w = cc in
    let name = short_one n m (to_be_bytes w64 h.length ++ (to_be_bytes w32 (length h.reigns) ++ flat_map spelled_reign h.reigns)) (to_be_bytes w64 k.length ++ (to_be_bytes w32 (length k.reigns) ++ flat_map spelled_reign k.reigns))
    (sym (hello_regrouped (short n) (to_be_bytes w64 h.length) (to_be_bytes w32 (length h.reigns)) (flat_map spelled_reign h.reigns)) ∙ tagged e ∙ hello_regrouped (short m) (to_be_bytes w64 k.length) (to_be_bytes w32 (length k.reigns)) (flat_map spelled_reign k.reigns)) in
    let a = f.2 in
    let b = g.2 in
    let c = f.3 in
    let d = g.3 in
    let size = number_one 8 h.length k.length (to_be_bytes w32 (length h.reigns) ++ flat_map spelled_reign h.reigns) (to_be_bytes w32 (length k.reigns) ++ flat_map spelled_reign k.reigns) (omega arith) (omega arith) name.1 in
    let count = number_one 4 (length h.reigns) (length k.reigns) (flat_map spelled_reign h.reigns) (flat_map spelled_reign k.reigns) (omega arith) (omega arith) size.1 in
    let reigns = all_one IsReign spelled_reign reign_one h.reigns k.reigns [] [] f.4 g.4 count.0 (ap (λ (l : List ℕ). l ++ []) count.1) in
    (λ i. Hello (version i) (name.0 i) (record { length = size.0 i; reigns = reigns.0 i }))
body_one (Resume n) (Resume m) f g t e = let a = f.1 in let b = g.1 in ap Resume (alone_one n m (omega arith) (omega arith) e)
body_one (RollbackFirst n) (RollbackFirst m) f g t e = let a = f.1 in let b = g.1 in ap RollbackFirst (alone_one n m (omega arith) (omega arith) e)
body_one (History r) (History s) f g t e = ap History (reign_one r s [] [] f g (ap (λ (l : List ℕ). l ++ []) e)).0
body_one (Entry n a) (Entry m b) f g t e =
    let number = number_one 8 n m (a.origin.updater ∷ (to_be_bytes w32 a.origin.serial ++ (to_be_bytes w16 (length a.updates) ++ flat_map spelled_update a.updates))) (b.origin.updater ∷ (to_be_bytes w32 b.origin.serial ++ (to_be_bytes w16 (length b.updates) ++ flat_map spelled_update b.updates)))
    (let s = f.0.1 in omega arith) (let s = g.0.1 in omega arith)
    (sym (entry_regrouped n a) ∙ e ∙ entry_regrouped m b) in
    let updater : a.origin.updater ≡ b.origin.updater = cc (number.1) in
    let serial = number_one 4 a.origin.serial b.origin.serial (to_be_bytes w16 (length a.updates) ++ flat_map spelled_update a.updates) (to_be_bytes w16 (length b.updates) ++ flat_map spelled_update b.updates)
    (let s = f.1.origin.serial.1 in omega arith) (let s = g.1.origin.serial.1 in omega arith) (tagged number.1) in
    let few = f.1.few in
    let few_too = g.1.few in
    let count = number_one 2 (length a.updates) (length b.updates) (flat_map spelled_update a.updates) (flat_map spelled_update b.updates) (omega arith) (omega arith) serial.1 in
    let updates = all_one IsUpdate spelled_update update_one a.updates b.updates [] [] f.1.each g.1.each count.0 (ap (λ (l : List ℕ). l ++ []) count.1) in
    (λ i. Entry (number.0 i) (record { origin = record { updater = updater i; serial = serial.0 i }; updates = updates.0 i }))
  where
    entry_regrouped : (n : ℕ) (a : Transaction) → entry_bytes n a ≡ to_be_bytes w64 n ++ (a.origin.updater ∷ (to_be_bytes w32 a.origin.serial ++ (to_be_bytes w16 (length a.updates) ++ flat_map spelled_update a.updates)))
    entry_regrouped n a = append_assoc (to_be_bytes w64 n ++ a.origin.updater ∷ to_be_bytes w32 a.origin.serial) (to_be_bytes w16 (length a.updates)) (flat_map spelled_update a.updates)
        ∙ append_assoc (to_be_bytes w64 n) (a.origin.updater ∷ to_be_bytes w32 a.origin.serial) (to_be_bytes w16 (length a.updates) ++ flat_map spelled_update a.updates)
body_one (Bye n) (Bye m) f g t e = ap Bye (alone_one n m (omega arith) (omega arith) e)
body_one f g a b t e = absurd (omega arith)

-- frames

pub body_length_one : (f g : Frame) (x y : List ℕ) → IsFrame f → IsFrame g → spelled_frame f ++ x ≡ spelled_frame g ++ y → (frame_type f ≡ frame_type g) × (length (frame_body f) ≡ length (frame_body g)) × (frame_body f ++ x ≡ frame_body g ++ y)
body_length_one f g x y a b e =
    let kind : frame_type f ≡ frame_type g = cc in
    let fs = a.short in
    let gs = b.short in
    let n = number_one 4 (length (frame_body f)) (length (frame_body g)) (frame_body f ++ x) (frame_body g ++ y) (omega arith) (omega arith)
    (sym (append_assoc (to_be_bytes w32 (length (frame_body f))) (frame_body f) x) ∙ tagged e ∙ append_assoc (to_be_bytes w32 (length (frame_body g))) (frame_body g) y) in
    (kind, n.0, n.1)

pub frame_one : (f g : Frame) (x y : List ℕ) → IsFrame f → IsFrame g → spelled_frame f ++ x ≡ spelled_frame g ++ y → (f ≡ g) × (x ≡ y)
frame_one f g x y a b e =
    let h = body_length_one f g x y a b e in
    let s = same_length (frame_body f) (frame_body g) x y h.2 h.1 in
    (body_one f g a.fields b.fields h.0 s.0, s.1)
