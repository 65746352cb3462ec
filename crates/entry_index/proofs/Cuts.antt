-- Pieces of files.
use Rattle.std.proofs.Common.{◌≡◌, ℕ, ◌+◌, ◌-◌, ◌≤◌, List, [], ◌++◌, length, take, drop, Option, Some, None, IfSome, Bor, ap, sym, ◌∙◌, arith}
use Rattle.std.proofs.lemmas.List.{take-take, drop-take, drop-drop, drop_all, take_all, length-take, length-drop, take-append-le, append-nil, take_at}
use Rattle.std.proofs.lemmas.List.Edits.{take-paste}
use Rattle.std.proofs.Math.Seq.{paste, take-add}
use Rattle.std.specs.List.{copy_within}
use Rattle.disk_defs.specs.Disk.{Files}
use Rattle.entry_index.specs.Pieces.{IsPieceOf, HasBytes, BeginsWithBody, IsBodyOf}
use Rattle.entry_index.specs.declared.pieces.Pieces.{Pieces}

part_of_piece : (file piece : List ℕ) (start at n : ℕ) → piece ≡ take (length piece) (drop start file) → start ≤ at → at + n ≤ start + length piece → take n (drop (at - start) piece) ≡ take n (drop at file)
part_of_piece file piece start at n is from to =
    let off = at - start in
    let whole : off + (length piece - off) ≡ length piece = omega (arith, from, to) in
    let place : start + off ≡ at = omega (arith, from) in
    ap (λ (l : List ℕ). take n (drop off l)) (is ∙ ap (λ (k : ℕ). take k (drop start file)) (sym whole))
    ∙ ap (λ (l : List ℕ). take n l) (drop-take off (length piece - off) (drop start file))
    ∙ take-take n (length piece - off) (drop off (drop start file)) (omega (arith, from, to))
    ∙ ap (λ (l : List ℕ). take n l) (drop-drop off start file ∙ ap (λ (k : ℕ). drop k file) place)

-- bytes that are at hand are those of the file
pub shown_is : (p : Pieces) (files : Files) (at n : ℕ) → HasBytes p at n → IsPieceOf p files → take n (drop (at - p.start) p.bytes.items) ≡ take n (drop at (files p.file))
shown_is p files at n has is = part_of_piece (files p.file) p.bytes.items p.start at n is.bytes has.from has.to

-- bytes of a file from a place on that begin with a body
pub body_of_part : (file bytes body : List ℕ) (at : ℕ) → bytes ≡ take (length bytes) (drop at file) → BeginsWithBody bytes body → IsBodyOf file at body
body_of_part file bytes body at is b =
    let n = length body in
    let none : at - at ≡ 0 = omega arith in
    let one : at + 1 - at ≡ 1 = omega arith in
    let five : at + 5 - at ≡ 5 = omega arith in
    let gate : take 1 (drop (at - at) bytes) ≡ take 1 (drop at file) = part_of_piece file bytes at at 1 is (omega arith) (omega (arith, b.inside)) in
    let head : take 4 (drop (at + 1 - at) bytes) ≡ take 4 (drop (at + 1) file) = part_of_piece file bytes at (at + 1) 4 is (omega arith) (omega (arith, b.inside, b.not_empty)) in
    let shown : take n (drop (at + 5 - at) bytes) ≡ take n (drop (at + 5) file) = part_of_piece file bytes at (at + 5) n is (omega arith) (omega (arith, b.inside)) in
    record {
      has = record {
        gate = sym gate ∙ ap (λ (k : ℕ). take 1 (drop k bytes)) none ∙ b.gate;
        head = sym head ∙ ap (λ (k : ℕ). take 4 (drop k bytes)) one ∙ b.head;
        not_empty = b.not_empty;
        not_long = b.not_long;
        inside = omega (arith, b.inside, ap length is, length-take (length bytes) (drop at file), length-drop at file);
      };
      shown = b.shown ∙ sym (ap (λ (k : ℕ). take n (drop k bytes)) five) ∙ shown;
    }

-- the bytes at hand from a place on
pub rest_is : (p : Pieces) (files : Files) (at : ℕ) (rest : List ℕ) → p.start ≤ at → at - p.start ≤ length p.bytes.items → rest ≡ drop (at - p.start) p.bytes.items → IsPieceOf p files → rest ≡ take (length rest) (drop at (files p.file))
rest_is p files at rest from inside is piece =
    let n = length rest in
    let long : n ≡ length p.bytes.items - (at - p.start) = ap length is ∙ length-drop (at - p.start) p.bytes.items in
    sym (take_all n rest (omega arith)) ∙ ap (take n) is ∙ shown_is p files at n (record { from = from; to = omega (arith, long, from, inside) }) piece

-- so a body that is told of these bytes stands there
pub body_at_part : (p : Pieces) (at : ℕ) (rest : List ℕ) → p.start ≤ at → at - p.start ≤ length p.bytes.items → rest ≡ drop (at - p.start) p.bytes.items → (found : Option (Bor (List ℕ)))
    → IfSome found (λ body. BeginsWithBody rest body.now) → IfSome found (λ body. (files : Files) → IsPieceOf p files → IsBodyOf (files p.file) at body.now)
body_at_part p at rest from inside is None begins = tt
body_at_part p at rest from inside is (Some body) begins = λ files piece. body_of_part (files p.file) rest body.now at (rest_is p files at rest from inside is piece) begins

-- bytes that are at hand and were moved to the front are those of the file
pub kept_is : (p : Pieces) (files : Files) (at n : ℕ) → HasBytes p at n → IsPieceOf p files → take n (copy_within p.bytes.items (at - p.start) (at - p.start + n) 0) ≡ take n (drop at (files p.file))
kept_is p files at n has is =
    let xs = p.bytes.items in
    let off = at - p.start in
    let many : off + n - off ≡ n = omega arith in
    let none : n ≡ 0 + n = omega arith in
    let long : n ≤ length (drop off xs) = omega (arith, has.from, has.to, length-drop off xs) in
    ap (λ (k : ℕ). take n (paste xs 0 (drop off xs) k)) many
    ∙ ap (λ (k : ℕ). take k (paste xs 0 (drop off xs) n)) none
    ∙ take-paste xs 0 (drop off xs) n (omega arith) long
    ∙ shown_is p files at n has is

-- a list that was made longer or shorter has the same bytes at the front
pub front_stays : (into more : List ℕ) (held many : ℕ) → held ≤ many → held ≤ length into → take held (take many into ++ more) ≡ take held into
front_stays into more held many fewer there =
    take-append-le held (take many into) more (omega (arith, fewer, there, length-take many into))
    ∙ take-take held many into fewer

-- Bytes of a file that stand at the front, and those that were read behind them.
joined_is : (file grown read : List ℕ) (at held many : ℕ) → held ≤ many → at + many ≤ length file → length grown ≡ many → take held grown ≡ take held (drop at file) → read ≡ take (length (take (length grown - held) (drop held grown))) (drop (at + held) file) → take held grown ++ (read ++ drop (length grown - held) (drop held grown)) ≡ take many (drop at file)
joined_is file grown read at held many fewer inside long stands read_is =
    let whole : held + (many - held) ≡ many = omega (arith, fewer) in
    let behind : length (take (length grown - held) (drop held grown)) ≡ many - held = omega (arith, long, length-take (length grown - held) (drop held grown), length-drop held grown) in
    let rest : drop (at + held) file ≡ drop held (drop at file) = sym (drop-drop held at file) in
    let part : read ≡ take (many - held) (drop held (drop at file)) = read_is ∙ ap (λ (k : ℕ). take k (drop (at + held) file)) behind ∙ ap (λ (l : List ℕ). take (many - held) l) rest in
    let none : drop (length grown - held) (drop held grown) ≡ [] = drop_all (length grown - held) (drop held grown) (omega (arith, length-drop held grown)) in
    ap (λ (l : List ℕ). take held grown ++ (read ++ l)) none
    ∙ ap (λ (l : List ℕ). take held grown ++ l) (append-nil read)
    ∙ ap (λ (l : List ℕ). l ++ read) stands
    ∙ ap (λ (l : List ℕ). take held (drop at file) ++ l) part
    ∙ sym (take-add held (many - held) (drop at file))
    ∙ ap (λ (k : ℕ). take k (drop at file)) whole

filled_is : (file grown read more : List ℕ) (at held many size : ℕ) → held ≤ many → at + many ≤ length file → size ≡ many → length grown ≡ many → take held grown ≡ take held (drop at file) → read ≡ take (length (take (length grown - held) (drop held grown))) (drop (at + held) file) → take size ((take held grown ++ (read ++ drop (length grown - held) (drop held grown))) ++ more) ≡ take many (drop at file)
filled_is file grown read more at held many size fewer inside all long stands read_is =
    let joined = joined_is file grown read at held many fewer inside long stands read_is in
    let whole : length (take many (drop at file)) ≡ size = omega (arith, inside, all, length-take many (drop at file), length-drop at file) in
    ap (λ (l : List ℕ). take size (l ++ more)) joined ∙ take_at (take many (drop at file)) more size whole

-- the same of a disk that may tell nothing: `grown` lends its part behind the bytes that stand, which becomes `read`
pub told_filled : (o : Option Files) (file : ℕ) (grown read more : List ℕ) (at held many size : ℕ) → held ≤ many → size ≡ many → length grown ≡ many → IfSome o (λ files. at + many ≤ length (files file)) → IfSome o (λ files. take held grown ≡ take held (drop at (files file)))
    → IfSome o (λ files. read ≡ take (length (take (length grown - held) (drop held grown))) (drop (at + held) (files file))) → IfSome o (λ files. take size ((take held grown ++ (read ++ drop (length grown - held) (drop held grown))) ++ more) ≡ take many (drop at (files file)))
told_filled None file grown read more at held many size fewer all long inside stands read_is = tt
told_filled (Some files) file grown read more at held many size fewer all long inside stands read_is = filled_is (files file) grown read more at held many size fewer inside all long stands read_is
