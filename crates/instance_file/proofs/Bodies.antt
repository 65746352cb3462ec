-- Records as their kind and then fields.
use Rattle.std.proofs.Common.{◌≡◌, ℕ, ◌≤◌, Bool, List, [], ◌∷◌, ◌++◌, length, flat_map, arith, Option, Some, None, refl, ap, sym, ◌∙◌, subst, append_assoc, append-nil}
use Rattle.std.specs.Prelude.{All, map}
use Rattle.std.specs.List.{AllByRecursion}
use Rattle.std.proofs.lemmas.List.Elements.{All-from_recursion}
use Rattle.std.specs.Int.{to_be_bytes, w32, w64}
use Rattle.std.specs.Option.{option_map}
use Rattle.global_defs.specs.declared.limits.TheConstants.{MOST_REGIONS}
use Rattle.global_defs.specs.Entry.{Reign}
use Rattle.global_defs.specs.Fields.{short, IsReign}
use Rattle.global_defs.specs.Region.{Region}
use Rattle.gvn_model.specs.Regions.{named_region}
use Rattle.repl_fields.specs.Reading.{ReadsField}
use Rattle.journal_defs.specs.Instance.{InstanceRecord, Create, Reigned, Cut, Map, Mode, IsInForm, IsInstanceBody, spelled_record, spelled_region}
use Rattle.instance_file.specs.Fields.{IsRegion, AreRegions}
use Rattle.repl_fields.proofs.Chains.{Field, Reads, byte, word, double, site, and, none_as, out_as, some_as}
use Rattle.repl_fields.proofs.Tagged.{tail}

-- a record of one kind as its field behind the kind
module _ {X : Type 0} (f : Field X) (kind : ℕ) (of : X → InstanceRecord) (same : (x : X) → spelled_record (of x) ≡ kind ∷ f.spelled x)
    (into : (x : X) → f.has x → IsInForm (of x)) (out : (x : X) → IsInForm (of x) → f.has x)
    (only : (z : InstanceRecord) (r rest : List ℕ) → kind ∷ r ≡ spelled_record z ++ rest → (x : X) × (z ≡ of x)) where
  behind_kind : (z : InstanceRecord) (x : X) (r rest : List ℕ) → z ≡ of x → kind ∷ r ≡ spelled_record z ++ rest → r ≡ f.spelled x ++ rest
  behind_kind z x r rest is e = tail (e ∙ ap (λ w. spelled_record w ++ rest) is ∙ ap (λ s. s ++ rest) (same x))

  tagged : (r : List ℕ) (p : Option (X × List ℕ)) → Reads f r p → ReadsField IsInForm spelled_record (kind ∷ r) (option_map (λ q. (of q.0, q.1)) p)
  tagged r None none = λ z rest form e.
      let x = only z r rest e in
      none x.0 rest (out x.0 (subst IsInForm x.1 form)) (behind_kind z x.0 r rest x.1 e)
  tagged r (Some q) read = (
    into q.0 read.0,
    ap (λ t. kind ∷ t) read.1 ∙ ap (λ s. s ++ q.1) (sym (same q.0)),
    λ z rest form e.
        let x = only z r rest e in
        let both = read.2 x.0 rest (out x.0 (subst IsInForm x.1 form)) (behind_kind z x.0 r rest x.1 e) in
        (x.1 ∙ ap of both.0, both.1),
  )

create_only : (z : InstanceRecord) (r rest : List ℕ) → 1 ∷ r ≡ spelled_record z ++ rest → (t : List ℕ × List Region) × (z ≡ Create t.0 t.1)
create_only (Create name regions) r rest e = ((name, regions), refl)
create_only (Reigned x) r rest e = absurd cc
create_only (Cut n g) r rest e = absurd cc
create_only (Map region star name) r rest e = absurd cc
create_only (Mode region before) r rest e = absurd cc

reign_only : (z : InstanceRecord) (r rest : List ℕ) → 2 ∷ r ≡ spelled_record z ++ rest → (x : Reign) × (z ≡ Reigned x)
reign_only (Reigned x) r rest e = (x, refl)
reign_only (Create name regions) r rest e = absurd cc
reign_only (Cut n g) r rest e = absurd cc
reign_only (Map region star name) r rest e = absurd cc
reign_only (Mode region before) r rest e = absurd cc

cut_only : (z : InstanceRecord) (r rest : List ℕ) → 3 ∷ r ≡ spelled_record z ++ rest → (t : ℕ × ℕ) × (z ≡ Cut t.0 t.1)
cut_only (Cut n g) r rest e = ((n, g), refl)
cut_only (Create name regions) r rest e = absurd cc
cut_only (Reigned x) r rest e = absurd cc
cut_only (Map region star name) r rest e = absurd cc
cut_only (Mode region before) r rest e = absurd cc

-- CUT: length, generation
abbrev pub cut_fields : Field (ℕ × ℕ)
cut_fields = and double word

abbrev cut : Field (ℕ × ℕ)
cut = record { has = λ t. IsInForm (Cut t.0 t.1); spelled = cut_fields.spelled }

cut_has : (t : ℕ × ℕ) → IsInForm (Cut t.0 t.1) → cut_fields.has t
cut_has t h = (omega (arith, h.0), omega (arith, h.2))

pub no_cut : (bytes : List ℕ) → Reads cut_fields bytes None → ReadsField IsInForm spelled_record (3 ∷ bytes) None
no_cut bytes none = tagged cut 3 (λ t. Cut t.0 t.1) (λ t. refl) (λ t h. h) (λ t h. h) cut_only bytes None (none_as cut_fields cut (λ t. t) (λ t. t) (λ t. refl) (λ t. refl) cut_has bytes none)

-- REIGN: root, cycle, start
abbrev pub times : Field (ℕ × ℕ)
times = and word double

abbrev pub reign_fields : Field (List ℕ × (ℕ × ℕ))
reign_fields = and site times

abbrev reign : Field Reign
reign = record { has = IsReign; spelled = λ r. short r.stamp.root ++ (to_be_bytes w32 r.stamp.cycle ++ to_be_bytes w64 r.start) }

abbrev reign_of : List ℕ × (ℕ × ℕ) → Reign
reign_of t = record { stamp = record { root = t.0; cycle = t.1.0 }; start = t.1.1 }

abbrev of_reign : Reign → List ℕ × (ℕ × ℕ)
of_reign r = (r.stamp.root, (r.stamp.cycle, r.start))

reign_has : (r : Reign) → IsReign r → reign_fields.has (of_reign r)
reign_has r h = (h.stamp.root, (h.stamp.cycle.1, omega (arith, h.start.1)))

pub no_reign : (bytes : List ℕ) → Reads reign_fields bytes None → ReadsField IsInForm spelled_record (2 ∷ bytes) None
no_reign bytes none = tagged reign 2 Reigned (λ r. refl) (λ r h. h) (λ r h. h) reign_only bytes None (none_as reign_fields reign reign_of of_reign (λ r. refl) (λ r. refl) reign_has bytes none)

pub bad_reign : (bytes : List ℕ) (x : Reign) (s : List ℕ) → Reads reign_fields bytes (Some (of_reign x, s)) → (IsReign x → ⊥) → ReadsField IsInForm spelled_record (2 ∷ bytes) None
bad_reign bytes x s read bad = tagged reign 2 Reigned (λ r. refl) (λ r h. h) (λ r h. h) reign_only bytes None
    (out_as reign_fields reign reign_of of_reign (λ r. refl) (λ r. refl) reign_has bytes (of_reign x) s read (λ k is good. bad (subst IsReign (ap reign_of is) good)))

pub some_reign : (bytes : List ℕ) (x : Reign) (s : List ℕ) → Reads reign_fields bytes (Some (of_reign x, s)) → IsReign x → ReadsField IsInForm spelled_record (2 ∷ bytes) (Some (Reigned x, s))
some_reign bytes x s read good = tagged reign 2 Reigned (λ r. refl) (λ r h. h) (λ r h. h) reign_only bytes (Some (x, s))
    (some_as reign_fields reign reign_of of_reign (λ r. refl) (λ r. refl) reign_has bytes x s read good)

-- CREATE: version, name, count, regions
abbrev pub counted : Field (List ℕ × ℕ)
counted = and site byte

abbrev pub head : Field (ℕ × (List ℕ × ℕ))
head = and byte counted

abbrev create : Field (List ℕ × List Region)
create = record { has = λ t. IsInForm (Create t.0 t.1); spelled = λ t. 1 ∷ (short t.0 ++ length t.1 ∷ flat_map spelled_region t.1) }

abbrev head_in : List ℕ × List Region → ℕ × (List ℕ × ℕ)
head_in t = (1, (t.0, length t.1))

head_good : (t : List ℕ × List Region) → IsInForm (Create t.0 t.1) → head.has (head_in t)
head_good t h = (omega arith, (h.0, omega (arith, h.2)))

head_split : (t : List ℕ × List Region) (rest : List ℕ) → create.spelled t ++ rest ≡ head.spelled (head_in t) ++ (flat_map spelled_region t.1 ++ rest)
head_split t rest = ap (λ s. 1 ∷ s) (append_assoc (short t.0) (length t.1 ∷ flat_map spelled_region t.1) rest ∙ sym (append_assoc (short t.0) (length t.1 ∷ []) (flat_map spelled_region t.1 ++ rest)))

pub no_head : (bytes : List ℕ) → Reads head bytes None → ReadsField IsInForm spelled_record (1 ∷ bytes) None
no_head bytes none = tagged create 1 (λ t. Create t.0 t.1) (λ t. refl) (λ t h. h) (λ t h. h) create_only bytes None
    (λ t rest form e. none (head_in t) (flat_map spelled_region t.1 ++ rest) (head_good t form) (e ∙ head_split t rest))

module _ (bytes name : List ℕ) (version n : ℕ) (r : List ℕ) (first : Reads head bytes (Some ((version, (name, n)), r))) where
  one_head : (t : List ℕ × List Region) (rest : List ℕ) → IsInForm (Create t.0 t.1) → bytes ≡ create.spelled t ++ rest
      → (1 ≡ version) × (t.0 ≡ name) × (length t.1 ≡ n) × (r ≡ flat_map spelled_region t.1 ++ rest)
  one_head t rest form e =
      let same : (head_in t ≡ (version, (name, n))) × (flat_map spelled_region t.1 ++ rest ≡ r) = first.2 (head_in t) (flat_map spelled_region t.1 ++ rest) (head_good t form) (e ∙ head_split t rest) in
      (ap (λ u. u.0) same.0, ap (λ u. u.1.0) same.0, ap (λ u. u.1.1) same.0, sym same.1)

  -- another version, or another count
  pub bad_head : ((1 ≡ version) → (1 ≤ n) → (n ≤ MOST_REGIONS) → ⊥) → ReadsField IsInForm spelled_record (1 ∷ bytes) None
  bad_head bad = tagged create 1 (λ t. Create t.0 t.1) (λ t. refl) (λ t h. h) (λ t h. h) create_only bytes None
      (λ t rest form e. let o = one_head t rest form e in bad o.0 (omega (arith, o.2, form.1)) (omega (arith, o.2, form.2)))

  create_read : (p : Option (List Region × List ℕ)) → 1 ≡ version → 1 ≤ n → n ≤ MOST_REGIONS → ReadsField (AreRegions n) (flat_map spelled_region) r p → Reads create bytes (option_map (λ q. ((name, q.0), q.1)) p)
  create_read None is some few none = λ t rest form e. let o = one_head t rest form e in none t.1 rest (record { many = o.2; each = form.3 }) o.3
  create_read (Some q) is some few second = (
    (first.0.1.0, omega (arith, second.0.many, some), omega (arith, second.0.many, few), second.0.each),
    first.1 ∙ ap (λ v. v ∷ (short name ++ n ∷ []) ++ r) (sym is) ∙ ap (λ s. 1 ∷ (short name ++ n ∷ []) ++ s) second.1
        ∙ ap (λ k. 1 ∷ (short name ++ k ∷ []) ++ (flat_map spelled_region q.0 ++ q.1)) (sym second.0.many) ∙ sym (head_split (name, q.0) q.1),
    λ t rest form e.
        let o = one_head t rest form e in
        let later = second.2 t.1 rest (record { many = o.2; each = form.3 }) o.3 in
        ((λ i. (o.1 i, later.0 i)), later.1),
  )

  pub regions_read : (p : Option (List Region × List ℕ)) → 1 ≡ version → 1 ≤ n → n ≤ MOST_REGIONS → ReadsField (AreRegions n) (flat_map spelled_region) r p
      → ReadsField IsInForm spelled_record (1 ∷ bytes) (option_map (λ q. (Create name q.0, q.1)) p)
  regions_read None is some few second = tagged create 1 (λ t. Create t.0 t.1) (λ t. refl) (λ t h. h) (λ t h. h) create_only bytes None (create_read None is some few second)
  regions_read (Some q) is some few second =
      tagged create 1 (λ t. Create t.0 t.1) (λ t. refl) (λ t h. h) (λ t h. h) create_only bytes (Some ((name, q.0), q.1)) (create_read (Some q) is some few second)

-- whole bodies
pub no_body : (body : List ℕ) → ReadsField IsInForm spelled_record body None → (r : InstanceRecord) → IsInstanceBody body r → ⊥
no_body body none r is = none r [] is.form (is.spelled ∙ sym (append-nil (spelled_record r)))

pub longer_body : (body : List ℕ) (q : InstanceRecord) (rest : List ℕ) → ReadsField IsInForm spelled_record body (Some (q, rest)) → (length rest ≡ 0 → ⊥) → (r : InstanceRecord) → IsInstanceBody body r → ⊥
longer_body body q rest read more r is = more (ap length (sym (read.2 r [] is.form (is.spelled ∙ sym (append-nil (spelled_record r)))).1))

-- regions in the code
each : (xs : List (List ℕ × Bool)) → AllByRecursion IsRegion (map named_region xs) → AllByRecursion (λ r. IsRegion (named_region r)) xs
each [] all = tt
each (x ∷ xs) all = (all.0, each xs all.1)

pub each_region : (xs : List (List ℕ × Bool)) → AllByRecursion IsRegion (map named_region xs) → All (λ r. IsRegion (named_region r)) xs
each_region xs all = All-from_recursion (λ r. IsRegion (named_region r)) xs (each xs all)
