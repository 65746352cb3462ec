-- The columns of a table.
use Rattle.std.proofs.Common.{◌≡◌, ℕ, ◌≤◌, ◌==◌, ◌&&◌, Bool, true, false, List, [], ◌++◌, length, map, drop, get_or, Option, Some, None, refl, sym, ◌∙◌, ap, arith, if◌then◌else◌}
use Rattle.std.proofs.lemmas.Bool.Decides.{nat_tests}
use Rattle.std.proofs.lemmas.Simd.{map-map}
use Rattle.std.proofs.lemmas.List.{append-nil, drop_all}
use Rattle.std.proofs.Math.ListN.{get_or-map}
use Rattle.journal_defs.specs.Journal.{JournalRecord, Pini, Epoch, Pblk, Tcom, Part}
use Rattle.journal_defs.specs.Instance.{InstanceRecord}
use Rattle.journal_defs.specs.Surviving.{survives}
use Rattle.journal_defs.specs.Sequence.{Placed, part_in, part_of}
use Rattle.mupip_recover.specs.Parts.{surviving_in, if_numbered}

at_number : (rs : List InstanceRecord) (g n : ℕ) (p : Part) (same kept : Bool) → (p.number == n) ≡ same → survives rs g p.number ≡ kept
    → (if p.number == n && survives rs g n then Some p else None) ≡ (if same && kept then Some p else None)
at_number rs g n p false kept is h = rw is refl
at_number rs g n p true kept is h =
    let number : p.number ≡ n = grind (arith, nat_tests) in
    let there : survives rs g n ≡ kept = ap (survives rs g) (sym number) ∙ h in
    rw (is, there) refl

not_numbered : (b : Bool) (p : Part) → (if b && false then Some p else None) ≡ None
not_numbered true p = refl
not_numbered false p = refl

numbered : (b : Bool) (p : Part) → (if b && true then Some p else None) ≡ (if b then Some p else None)
numbered true p = refl
numbered false p = refl

by_survival : (rs : List InstanceRecord) (g n : ℕ) (p : Part) (kept : Bool) → survives rs g p.number ≡ kept → part_in rs n g (Tcom p) ≡ if_numbered n (if kept then Some p else None)
by_survival rs g n p true h = at_number rs g n p (p.number == n) true refl h ∙ numbered (p.number == n) p
by_survival rs g n p false h = at_number rs g n p (p.number == n) false refl h ∙ not_numbered (p.number == n) p

-- a part that survives counts for its number alone, and one that doesn't for none
pub counts_for : (rs : List InstanceRecord) (n g : ℕ) (what : JournalRecord) (o : Option Part) → o ≡ surviving_in rs g what → part_in rs n g what ≡ if_numbered n o
counts_for rs n g (Tcom p) o is = by_survival rs g n p (survives rs g p.number) refl ∙ ap (if_numbered n) (sym is)
counts_for rs n g (Pini s) o is = ap (if_numbered n) (sym is)
counts_for rs n g (Epoch m) o is = ap (if_numbered n) (sym is)
counts_for rs n g (Pblk b) o is = ap (if_numbered n) (sym is)

-- the parts of a number by region
pub by_region : {J P : Type 0} (items : J → List P) (value : P → Placed) (rs : List InstanceRecord) (n : ℕ) (js : List J) (r : ℕ)
    → get_or (map (λ j. part_of rs n (map value (items j))) js) r None ≡ part_of rs n (map value (get_or (map items js) r []))
by_region items value rs n js r =
    ap (λ (l : List (Option Part)). get_or l r None) (sym (map-map (λ ps. part_of rs n (map value ps)) items js))
    ∙ get_or-map (λ ps. part_of rs n (map value ps)) (map items js) r []

-- where nothing is left of a list that was gone through
pub all_seen : {X Y : Type 0} (f : X → Y) (front ys : List Y) (xs : List X) (i : ℕ) → length xs ≤ i → front ++ map f (drop i xs) ≡ ys → front ≡ ys
all_seen {X = X} f front ys xs i past h = sym (append-nil front) ∙ ap (λ (l : List X). front ++ map f l) (sym (drop_all i xs past)) ∙ h
