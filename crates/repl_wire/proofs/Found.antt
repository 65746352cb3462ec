-- What readers find in a frame's bytes.
use Rattle.std.proofs.Common.{◌≡◌, ℕ, ◌+◌, ◌<◌, ◌^◌, List, [], ◌∷◌, ◌++◌, length, Option, Some, None, refl, sym, ap, ◌∙◌, subst, arith, append_assoc, append-nil, length-append}
use Rattle.std.specs.Prelude.{unwrap_or, is_some}
use Rattle.std.proofs.lemmas.Bool.{false≢true}
use Rattle.std.specs.Int.{to_be_bytes, w16, w32, w64}
use Rattle.std.specs.List.{flat_map, AllByRecursion}
use Rattle.global_defs.specs.declared.limits.TheConstants.{NUMBERS_END}
use Rattle.global_defs.specs.Entry.{Update, Transaction, Reign}
use Rattle.global_defs.specs.Fields.{short, spelled_update, IsUpdate, IsSiteName, IsReign}
use Rattle.global_defs.specs.Prefix as prefix
use Rattle.wire_defs.specs.Frames.{Frame, Hello, Entry, Bye, HasFields, spelled_reign, entry_bytes, frame_body, frame_type}
use Rattle.repl_fields.specs.Reading.{ReadsField}
use Rattle.repl_wire.specs.Finds.{Finds}

-- what reads a field finds it
pub finds : {X : Type 0} (Form Wide : X → Type 0) (spelled : X → List ℕ) (bytes : List ℕ) (found : Option (X × List ℕ)) → ((x : X) → Form x → Wide x) → ReadsField Wide spelled bytes found → Finds Form spelled bytes found
finds Form Wide spelled bytes None wide read x rest form e = absurd (read x rest (wide x form) e)
finds Form Wide spelled bytes (Some p) wide read x rest form e = let s = read.2 x rest (wide x form) e in λ i. Some (sym s.0 i, sym s.1 i)

site_length : (s : List ℕ) → IsSiteName s → length s < 256
site_length [] f = absurd f
site_length (b ∷ bs) f = omega (arith, f.2)

pub short_name : (s : List ℕ) → IsSiteName s → length s < 2 ^ 8
short_name s f = site_length s f

pub reign_parts : (bytes : List ℕ) (r : Reign) (rest : List ℕ) → bytes ≡ spelled_reign r ++ rest → bytes ≡ short r.stamp.root ++ (to_be_bytes w32 r.stamp.cycle ++ (to_be_bytes w64 r.start ++ rest))
reign_parts bytes r rest e = e ∙ append_assoc (short r.stamp.root ++ to_be_bytes w32 r.stamp.cycle) (to_be_bytes w64 r.start) rest ∙ append_assoc (short r.stamp.root) (to_be_bytes w32 r.stamp.cycle) (to_be_bytes w64 r.start ++ rest)

pub hello_parts : (bytes : List ℕ) (v : ℕ) (n : List ℕ) (h : prefix.History) → bytes ≡ frame_body (Hello v n h) → bytes ≡ v ∷ (short n ++ (to_be_bytes w64 h.length ++ (to_be_bytes w32 (length h.reigns) ++ flat_map spelled_reign h.reigns)))
hello_parts bytes v n h e = e ∙ append_assoc (v ∷ short n ++ to_be_bytes w64 h.length) (to_be_bytes w32 (length h.reigns)) (flat_map spelled_reign h.reigns)
    ∙ append_assoc (v ∷ short n) (to_be_bytes w64 h.length) (to_be_bytes w32 (length h.reigns) ++ flat_map spelled_reign h.reigns)

pub entry_parts : (bytes : List ℕ) (n : ℕ) (t : Transaction) → bytes ≡ entry_bytes n t → bytes ≡ to_be_bytes w64 n ++ (t.origin.updater ∷ (to_be_bytes w32 t.origin.serial ++ (to_be_bytes w16 (length t.updates) ++ flat_map spelled_update t.updates)))
entry_parts bytes n t e = e ∙ append_assoc (to_be_bytes w64 n ++ t.origin.updater ∷ to_be_bytes w32 t.origin.serial) (to_be_bytes w16 (length t.updates)) (flat_map spelled_update t.updates)
    ∙ append_assoc (to_be_bytes w64 n) (t.origin.updater ∷ to_be_bytes w32 t.origin.serial) (to_be_bytes w16 (length t.updates) ++ flat_map spelled_update t.updates)

-- a reign without its cycle, or its start

pub no_cycle : (bytes root behind : List ℕ) → ReadsField (λ (s : List ℕ). length s < 256) short bytes (Some (root, behind)) → ReadsField (λ (n : ℕ). n < 2 ^ 32) (to_be_bytes w32) behind None → Finds IsReign spelled_reign bytes None
no_cycle bytes root behind a b x rest f e =
    let cycle = f.stamp.cycle in
    let s = a.2 x.stamp.root (to_be_bytes w32 x.stamp.cycle ++ (to_be_bytes w64 x.start ++ rest)) (site_length x.stamp.root f.stamp.root) (reign_parts bytes x rest e) in
    absurd (b x.stamp.cycle (to_be_bytes w64 x.start ++ rest) (omega (arith, cycle.1)) (sym s.1))

pub no_start : (bytes root behind : List ℕ) (n : ℕ) (last : List ℕ) → ReadsField (λ (s : List ℕ). length s < 256) short bytes (Some (root, behind)) → ReadsField (λ (n : ℕ). n < 2 ^ 32) (to_be_bytes w32) behind (Some (n, last))
    → ReadsField (λ (n : ℕ). n < 2 ^ 64) (to_be_bytes w64) last None → Finds IsReign spelled_reign bytes None
no_start bytes root behind n last a b c x rest f e =
    let cycle = f.stamp.cycle in
    let start = f.start in
    let s = a.2 x.stamp.root (to_be_bytes w32 x.stamp.cycle ++ (to_be_bytes w64 x.start ++ rest)) (site_length x.stamp.root f.stamp.root) (reign_parts bytes x rest e) in
    let t = b.2 x.stamp.cycle (to_be_bytes w64 x.start ++ rest) (omega (arith, cycle.1)) (sym s.1) in
    absurd (c x.start rest (omega (arith, start.1)) (sym t.1))

some_of : {X : Type 0} (p q : X × List ℕ) → Some p ≡ Some q → p ≡ q
some_of {X} p q e = ap (λ (o : Option (X × List ℕ)). unwrap_or o p) e

none_of : {X : Type 0} (q : X × List ℕ) (o : Option (X × List ℕ)) → o ≡ None → o ≡ Some q → ⊥
none_of {X} q o n e = false≢true (sym (ap (λ (x : Option (X × List ℕ)). is_some x) n) ∙ ap (λ (x : Option (X × List ℕ)). is_some x) e)

pub none_some : {X : Type 0} (x : X) (o : Option X) → o ≡ None → o ≡ Some x → ⊥
none_some {X} x o n e = false≢true (sym (ap (λ (y : Option X). is_some y) n) ∙ ap (λ (y : Option X). is_some y) e)

pub head_of : (o a b c p q r s : List ℕ) (u : ℕ) → p ≡ o ++ a → q ≡ p ++ u ∷ [] → r ≡ q ++ b → s ≡ r ++ c → s ≡ o ++ (a ++ u ∷ b ++ c)
head_of o a b c p q r s u e f g h = h ∙ ap (λ (l : List ℕ). l ++ c) (g ∙ ap (λ (l : List ℕ). l ++ b) (f ∙ ap (λ (l : List ℕ). l ++ u ∷ []) e)
    ∙ append_assoc (o ++ a) (u ∷ []) b ∙ append_assoc o a (u ∷ b)) ∙ append_assoc o (a ++ u ∷ b) c

-- lists

-- These were read at the front of a list of that length, whatever the whole list is.
pub record ReadSoFar {X : Type 0} (Form : X → Type 0) (spelled : X → List ℕ) (bytes : List ℕ) (count : ℕ) (made : List X) (rest : List ℕ) : Type 0 where
  pub goes_on : (xs : List X) → AllByRecursion Form xs → length xs ≡ count → bytes ≡ flat_map spelled xs → (more : List X) × (xs ≡ made ++ more) × AllByRecursion Form more × (rest ≡ flat_map spelled more)

module _ {X : Type 0} (Form : X → Type 0) (spelled : X → List ℕ) (bytes : List ℕ) (count : ℕ) where
  pub so_far_begun : ReadSoFar Form spelled bytes count [] bytes
  so_far_begun = record { goes_on = λ xs a l e. (xs, refl, a, e) }

  pub so_far_more : (made : List X) (rest : List ℕ) (x : X) (behind : List ℕ) → length made < count → ReadSoFar Form spelled bytes count made rest → Finds Form spelled rest (Some (x, behind)) → ReadSoFar Form spelled bytes count (made ++ x ∷ []) behind
  so_far_more made rest x behind less r found = record { goes_on = λ xs a l e. let g = r.goes_on xs a l e in by_more xs l g.0 g.1 g.2 g.3 }
    where
      by_more : (xs : List X) → length xs ≡ count → (more : List X) → xs ≡ made ++ more → AllByRecursion Form more → rest ≡ flat_map spelled more → (m : List X) × (xs ≡ (made ++ x ∷ []) ++ m) × AllByRecursion Form m × (behind ≡ flat_map spelled m)
      by_more xs l [] cut a e = let size = ap length cut in let none = ap length (append-nil made) in absurd (omega arith)
      by_more xs l (y ∷ ys) cut a e =
          let p : (x, behind) ≡ (y, flat_map spelled ys) = some_of (x, behind) (y, flat_map spelled ys) (found y (flat_map spelled ys) a.0 e) in
          let same : x ≡ y = ap (λ (q : X × List ℕ). q.0) p in
          let tail : behind ≡ flat_map spelled ys = ap (λ (q : X × List ℕ). q.1) p in
          (ys, cut ∙ ap (λ (z : X). made ++ z ∷ ys) (sym same) ∙ sym (append_assoc made (x ∷ []) ys), a.1, tail)

  pub so_far_none : (made : List X) (rest : List ℕ) → length made < count → ReadSoFar Form spelled bytes count made rest → Finds Form spelled rest None → (xs : List X) → AllByRecursion Form xs → length xs ≡ count → bytes ≡ flat_map spelled xs → ⊥
  so_far_none made rest less r found xs a l e = let g = r.goes_on xs a l e in by_more g.0 g.1 g.2 g.3
    where
      by_more : (more : List X) → xs ≡ made ++ more → AllByRecursion Form more → rest ≡ flat_map spelled more → ⊥
      by_more [] cut a e = let size = ap length cut in let none = ap length (append-nil made) in omega arith
      by_more (y ∷ ys) cut a e = none_of (y, flat_map spelled ys) None refl (found y (flat_map spelled ys) a.0 e)

  pub so_far_all : (made : List X) (rest : List ℕ) → length made ≡ count → ReadSoFar Form spelled bytes count made rest → (xs : List X) → AllByRecursion Form xs → length xs ≡ count → bytes ≡ flat_map spelled xs → made ≡ xs
  so_far_all made rest whole r xs a l e = let g = r.goes_on xs a l e in by_more g.0 g.1
    where
      by_more : (more : List X) → xs ≡ made ++ more → made ≡ xs
      by_more [] cut = sym (cut ∙ append-nil made)
      by_more (y ∷ ys) cut = let size = ap length cut ∙ length-append made (y ∷ ys) in absurd (omega arith)

  -- one more, and how many there are
  pub so_far_step : (made later : List X) (n : ℕ) (rest : List ℕ) (x : X) (behind : List ℕ) → length made ≡ n → n < count → ReadSoFar Form spelled bytes count made rest → Finds Form spelled rest (Some (x, behind)) → later ≡ made ++ x ∷ []
      → (length later ≡ n + 1) × ReadSoFar Form spelled bytes count later behind
  so_far_step made later n rest x behind size less r found push =
      let one = ap length push ∙ length-append made (x ∷ []) in
      (omega arith, subst (λ (l : List X). ReadSoFar Form spelled bytes count l behind) (sym push) (so_far_more made rest x behind (omega arith) r found))

-- the fields of a HELLO, one after another

module _ (bytes r1 r2 : List ℕ) (v : ℕ) (n : List ℕ) (a : ReadsField (λ (k : ℕ). k < 256) (λ (k : ℕ). k ∷ []) bytes (Some (v, r1))) (b : ReadsField (λ (s : List ℕ). length s < 256) short r1 (Some (n, r2))) where
  pub hello_name : (w : ℕ) (m : List ℕ) (h : prefix.History) → HasFields (Hello w m h) → bytes ≡ frame_body (Hello w m h) → (w ≡ v) × (m ≡ n) × (to_be_bytes w64 h.length ++ (to_be_bytes w32 (length h.reigns) ++ flat_map spelled_reign h.reigns) ≡ r2)
  hello_name w m h f e =
      let one = f.0 in
      let s = a.2 w (short m ++ (to_be_bytes w64 h.length ++ (to_be_bytes w32 (length h.reigns) ++ flat_map spelled_reign h.reigns))) (omega arith) (hello_parts bytes w m h e) in
      let t = b.2 m (to_be_bytes w64 h.length ++ (to_be_bytes w32 (length h.reigns) ++ flat_map spelled_reign h.reigns)) (site_length m f.1) (sym s.1) in
      (s.0, t.0, t.1)

  module _ (l : ℕ) (r3 : List ℕ) (c : ReadsField (λ (k : ℕ). k < 2 ^ 64) (to_be_bytes w64) r2 (Some (l, r3))) where
    pub hello_length : (w : ℕ) (m : List ℕ) (h : prefix.History) → HasFields (Hello w m h) → bytes ≡ frame_body (Hello w m h) → (h.length ≡ l) × (to_be_bytes w32 (length h.reigns) ++ flat_map spelled_reign h.reigns ≡ r3)
    hello_length w m h f e = let small = f.2 in c.2 h.length (to_be_bytes w32 (length h.reigns) ++ flat_map spelled_reign h.reigns) (omega arith) (sym (hello_name w m h f e).2)

    module _ (k : ℕ) (r4 : List ℕ) (d : ReadsField (λ (k : ℕ). k < 2 ^ 32) (to_be_bytes w32) r3 (Some (k, r4))) where
      pub hello_count : (w : ℕ) (m : List ℕ) (h : prefix.History) → HasFields (Hello w m h) → bytes ≡ frame_body (Hello w m h) → (length h.reigns ≡ k) × (flat_map spelled_reign h.reigns ≡ r4)
      hello_count w m h f e = d.2 (length h.reigns) (flat_map spelled_reign h.reigns) f.3 (sym (hello_length w m h f e).1)

      pub hello_reigns : (found : Option (List Reign)) → ((rs : List Reign) → AllByRecursion IsReign rs → length rs ≡ k → r4 ≡ flat_map spelled_reign rs → found ≡ Some rs)
          → (w : ℕ) (m : List ℕ) (h : prefix.History) → HasFields (Hello w m h) → bytes ≡ frame_body (Hello w m h) → found ≡ Some h.reigns
      hello_reigns found all w m h f e = let c = hello_count w m h f e in all h.reigns f.4 c.0 (sym c.1)

      pub hello_whole : (rs : List Reign) → ((xs : List Reign) → AllByRecursion IsReign xs → length xs ≡ k → r4 ≡ flat_map spelled_reign xs → Some rs ≡ Some xs) → (made : List ℕ) → made ≡ n
          → (w : ℕ) (m : List ℕ) (h : prefix.History) → HasFields (Hello w m h) → bytes ≡ frame_body (Hello w m h) → Some (Hello v made (record { length = l; reigns = rs })) ≡ Some (Hello w m h)
      hello_whole rs all made same w m h f e =
          let name = hello_name w m h f e in
          let size = hello_length w m h f e in
          let reigns : rs ≡ h.reigns = ap (λ (o : Option (List Reign)). unwrap_or o rs) (hello_reigns (Some rs) all w m h f e) in
          λ i. Some (Hello (sym name.0 i) ((same ∙ sym name.1) i) (record { length = sym size.0 i; reigns = reigns i }))

-- the fields of an entry, one after another

module _ (bytes r1 r2 : List ℕ) (n u : ℕ) (a : ReadsField (λ (k : ℕ). k < 2 ^ 64) (to_be_bytes w64) bytes (Some (n, r1))) (b : ReadsField (λ (k : ℕ). k < 256) (λ (k : ℕ). k ∷ []) r1 (Some (u, r2))) where
  entry_updater : (m : ℕ) (t : Transaction) → HasFields (Entry m t) → bytes ≡ entry_bytes m t → to_be_bytes w32 t.origin.serial ++ (to_be_bytes w16 (length t.updates) ++ flat_map spelled_update t.updates) ≡ r2
  entry_updater m t f e =
      let small = f.0.1 in
      let least = f.1.origin.updater.1 in
      let s = a.2 m (t.origin.updater ∷ (to_be_bytes w32 t.origin.serial ++ (to_be_bytes w16 (length t.updates) ++ flat_map spelled_update t.updates))) (omega arith) (entry_parts bytes m t e) in
      (b.2 t.origin.updater (to_be_bytes w32 t.origin.serial ++ (to_be_bytes w16 (length t.updates) ++ flat_map spelled_update t.updates)) (omega arith) (sym s.1)).1

  pub entry_no_serial : ReadsField (λ (k : ℕ). k < 2 ^ 32) (to_be_bytes w32) r2 None → (m : ℕ) (t : Transaction) → HasFields (Entry m t) → bytes ≡ entry_bytes m t → ⊥
  entry_no_serial c m t f e = c t.origin.serial (to_be_bytes w16 (length t.updates) ++ flat_map spelled_update t.updates) f.1.origin.serial.1 (sym (entry_updater m t f e))

  pub entry_no_count : (s : ℕ) (r3 : List ℕ) → ReadsField (λ (k : ℕ). k < 2 ^ 32) (to_be_bytes w32) r2 (Some (s, r3)) → ReadsField (λ (k : ℕ). k < 2 ^ 16) (to_be_bytes w16) r3 None → (m : ℕ) (t : Transaction) → HasFields (Entry m t) → bytes ≡ entry_bytes m t → ⊥
  entry_no_count s r3 c d m t f e =
      let few = f.1.few in
      d (length t.updates) (flat_map spelled_update t.updates) (omega arith) (sym (c.2 t.origin.serial (to_be_bytes w16 (length t.updates) ++ flat_map spelled_update t.updates) f.1.origin.serial.1 (sym (entry_updater m t f e))).1)

-- a frame of a type

pub of_hello : (body : List ℕ) (kind : ℕ) (found : Option Frame) → kind ≡ 1 → ((w : ℕ) (m : List ℕ) (h : prefix.History) → HasFields (Hello w m h) → body ≡ frame_body (Hello w m h) → found ≡ Some (Hello w m h))
    → (f : Frame) → HasFields f → kind ≡ frame_type f → body ≡ frame_body f → found ≡ Some f
of_hello body kind found is all (Hello w m h) f t e = all w m h f e
of_hello body kind found is all g f t e = absurd (omega arith)

pub of_bye : (body : List ℕ) (kind : ℕ) (found : Option Frame) → kind ≡ 6 → ((n : ℕ) → n < NUMBERS_END → body ≡ to_be_bytes w64 n → found ≡ Some (Bye n))
    → (f : Frame) → HasFields f → kind ≡ frame_type f → body ≡ frame_body f → found ≡ Some f
of_bye body kind found is all (Bye n) f t e = all n f e
of_bye body kind found is all g f t e = absurd (omega arith)

-- updates are found
pub update_found : (bytes : List ℕ) (found : Option (Update × List ℕ)) → ReadsField IsUpdate spelled_update bytes found → Finds IsUpdate spelled_update bytes found
update_found bytes found read = finds IsUpdate IsUpdate spelled_update bytes found (λ _ f. f) read
