-- The patterns of an instance file, record by record.
use Rattle.std.proofs.Common.{◌≡◌, ℕ, ◌+◌, ◌<◌, List, [], ◌∷◌, ◌++◌, length, map, take, drop, get_or, sym, ◌∙◌, ap, subst}
use Rattle.std.specs.List.{AllByRecursion}
use Rattle.std.proofs.lemmas.List.{map-append, take_more, take-append-drop}
use Rattle.std.proofs.lemmas.List.Elements.{filter_map-append}
use Rattle.journal_defs.specs.Directory.{Pattern, pattern_in, patterns}
use Rattle.instance_file.specs.declared.record.InstanceRecord as code
use Rattle.instance_file.specs.Values.{record_value}
use Rattle.block_laws.proofs.ModeSteps.{all_behind}

all_before : {X : Type 0} (P : X → Type 0) (xs ys : List X) → AllByRecursion P (xs ++ ys) → AllByRecursion P xs
all_before P [] ys all = tt
all_before P (x ∷ xs) ys all = (all.0, all_before P xs ys all.1)

all_both : {X : Type 0} (P : X → Type 0) (xs ys : List X) → AllByRecursion P xs → AllByRecursion P ys → AllByRecursion P (xs ++ ys)
all_both P [] ys xs-all ys-all = ys-all
all_both P (x ∷ xs) ys xs-all ys-all = (xs-all.0, all_both P xs ys xs-all.1 ys-all)

abbrev of : List code.InstanceRecord → List Pattern
of xs = patterns (map record_value xs)

patterns_both : (xs ys : List code.InstanceRecord) → of (xs ++ ys) ≡ of xs ++ of ys
patterns_both xs ys = ap patterns (map-append record_value xs ys) ∙ filter_map-append pattern_in (map record_value xs) (map record_value ys)

-- one record more
pub patterns_more : (xs : List code.InstanceRecord) (i : ℕ) (x : code.InstanceRecord) → i < length xs → x ≡ get_or xs i x → of (take (i + 1) xs) ≡ of (take i xs) ++ patterns (record_value x ∷ [])
patterns_more xs i x inside is =
    ap of (take_more xs i x inside ∙ ap (λ (y : code.InstanceRecord). take i xs ++ y ∷ []) (sym is))
    ∙ patterns_both (take i xs) (x ∷ [])

-- what holds of each pattern holds of those of a record
pub all_in : (P : Pattern → Type 0) (xs : List code.InstanceRecord) (i : ℕ) (x : code.InstanceRecord) → i < length xs → x ≡ get_or xs i x → AllByRecursion P (of xs) → AllByRecursion P (patterns (record_value x ∷ []))
all_in P xs i x inside is all =
    all_behind P (of (take i xs)) (patterns (record_value x ∷ []))
    (subst (AllByRecursion P) (patterns_more xs i x inside is)
    (all_before P (of (take (i + 1) xs)) (of (drop (i + 1) xs))
    (subst (AllByRecursion P) (ap of (sym (take-append-drop (i + 1) xs)) ∙ patterns_both (take (i + 1) xs) (drop (i + 1) xs)) all)))

pub all_more : (P : Pattern → Type 0) (xs : List code.InstanceRecord) (i : ℕ) (x : code.InstanceRecord) → i < length xs → x ≡ get_or xs i x → AllByRecursion P (of (take i xs)) → AllByRecursion P (patterns (record_value x ∷ [])) → AllByRecursion P (of (take (i + 1) xs))
all_more P xs i x inside is before here = subst (AllByRecursion P) (sym (patterns_more xs i x inside is)) (all_both P (of (take i xs)) (patterns (record_value x ∷ [])) before here)
