-- Levels, and the text above their last subscripts.
use Rattle.std.proofs.Common.{◌≡◌, ◌≢◌, ℕ, zero, suc, ◌-◌, ◌<◌, false, List, [], ◌∷◌, ◌++◌, length, take, drop, get_or, Option, Some, refl, ap, sym, ◌∙◌, arith, append_assoc, length-append, ◌==◌}
use Rattle.std.specs.List.{flat_map}
use Rattle.std.proofs.Math.Seq.{take-append_seam}
use Rattle.std.proofs.lemmas.Bool.{ne_eqb}
use Rattle.global_defs.specs.Key.{Key, Sub, Text, sub_of}
use Rattle.global_defs.specs.Evaluation.{first_sub}
use Rattle.global_defs.specs.NodeText.{node_text, sub_text, sub_bytes}
use Rattle.global_defs.proofs.Numerals.{sub_bytes_back}
use Rattle.gvn_key.specs.Faults.{front_of}
use Rattle.script_defs.specs.Parts.{level_of}
use Rattle.script_defs.specs.Statements.{behind_subs, text_above}

-- a node's text without its bracket, and a comma

all_but_last : (w : List ℕ) (b : ℕ) → take (length (w ++ (b ∷ [])) - 1) (w ++ (b ∷ [])) ≡ w
all_but_last w b =
    let less : length (w ++ (b ∷ [])) - 1 ≡ length w = omega (arith, length-append w (b ∷ [])) in
    ap (λ n. take n (w ++ (b ∷ []))) less ∙ take-append_seam w (b ∷ [])

above_is : (name : List ℕ) (subs : List Sub) → (length subs == 0) ≡ false
    → take (length (node_text (record { name = name; subs = subs })) - 1) (node_text (record { name = name; subs = subs })) ++ (44 ∷ []) ≡ (94 ∷ name) ++ behind_subs subs
above_is name [] h = cc
above_is name (s ∷ ss) h =
    let f : List ℕ = (40 ∷ sub_text s) ++ flat_map (λ t. 44 ∷ sub_text t) ss in
    let w : List ℕ = (94 ∷ name) ++ f in
    ap (λ t. take (length t - 1) t ++ (44 ∷ [])) (sym (append_assoc (94 ∷ name) f (41 ∷ [])))
    ∙ ap (λ t. t ++ (44 ∷ [])) (all_but_last w 41)
    ∙ append_assoc (94 ∷ name) f (44 ∷ [])

pub above_written : (key : Key) (t : List ℕ) → (length key.subs == 0) ≡ false → t ≡ node_text key → take (length t - 1) t ++ (44 ∷ []) ≡ text_above key
above_written key t some e = ap (λ x. take (length x - 1) x ++ (44 ∷ [])) e ∙ above_is key.name key.subs some

pub four_pieces : (o w a s e : List ℕ) → (((o ++ w) ++ a) ++ s) ++ e ≡ o ++ (w ++ (a ++ (s ++ e)))
four_pieces o w a s e = append_assoc ((o ++ w) ++ a) s e ∙ append_assoc (o ++ w) a (s ++ e) ∙ append_assoc o w (a ++ (s ++ e))

-- a level by its parts

subs_at : (ss : List Sub) (n : ℕ) (d : Sub) → n < length ss → first_sub (drop n ss) ≡ Some (get_or ss n d)
subs_at [] n d h = absurd (omega arith)
subs_at (s ∷ ss) zero d h = refl
subs_at (s ∷ ss) (suc n) d h = subs_at ss n d (omega arith)

pub last_there : (subs : List Sub) (o : Option Sub) → length subs ≢ 0 → o ≡ first_sub (drop (length subs - 1) subs) → o ≡ Some (get_or subs (length subs - 1) (Text []))
last_there subs o some e = e ∙ subs_at subs (length subs - 1) (Text []) (omega arith)

pub level_made : (key above : Key) (last : List ℕ) → length key.subs ≢ 0 → above ≡ front_of (length key.subs - 1) key → Some (sub_of last) ≡ first_sub (drop (length key.subs - 1) key.subs)
    → level_of key ≡ Some (above, last)
level_made key above last some made e =
    let whole : sub_of last ≡ get_or key.subs (length key.subs - 1) (Text []) = let there = last_there key.subs (Some (sub_of last)) some e in cc in
    let bytes : sub_bytes (get_or key.subs (length key.subs - 1) (Text [])) ≡ last = ap sub_bytes (sym whole) ∙ sub_bytes_back last in
    rw (ne_eqb (length key.subs) 0 some) (λ i. Some (sym made i, bytes i))
