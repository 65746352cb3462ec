-- Bodies have one reading.
use Rattle.std.proofs.Common.{◌≡◌, inl, inr, ℕ, zero, suc, ◌+◌, ◌≤◌, ◌<◌, ◌^◌, Bool, true, false, List, [], ◌∷◌, ◌++◌, length, map, flat_map, Some, refl, sym, ◌∙◌, ap, subst, arith, append_assoc}
use Rattle.std.proofs.Math.Path.{fun_ext}
use Rattle.std.proofs.lemmas.Bool.{cases_lt}
use Rattle.std.proofs.lemmas.Nat.{from_be_bytes-to_be_bytes_2, from_be_bytes-to_be_bytes_4, from_be_bytes-to_be_bytes_8}
use Rattle.std.specs.Int.{from_be_bytes, to_be_bytes, w16, w32, w64}
use Rattle.std.specs.List.{AllByRecursion, AllZip}
use Rattle.disk_defs.specs.Disk.{Files}
use Rattle.disk_defs.specs.Gates.{Body, records}
use Rattle.global_defs.specs.Encoded.{encoded}
use Rattle.global_defs.specs.Entry.{Update, Set, Kill, ZKill, Sequence}
use Rattle.global_defs.specs.Fields.{flag, short, long, spelled_update, IsUpdate}
use Rattle.global_defs.specs.Region.{Region}
use Rattle.journal_defs.specs.Journal.{JournalRecord, Pini, Epoch, Pblk, Tcom, Item, Part, spelled_item, Rise, IsItem, IsJournalBody}
use Rattle.journal_defs.specs.Instance.{InstanceRecord, Create, Reigned, Cut, Map, Mode, spelled_region, IsInstanceBody, generation, regions}
use Rattle.journal_defs.specs.Sequence.{Placed, Records, IsSequence}
use Rattle.journal_defs.specs.Stands.{Holds, IsJournal, last_began, in_generation, AreRecords, Stands}
use Rattle.journal_defs.specs.Numbers.{journal_file}
use Rattle.journal_defs.specs.Journal as journal
use Rattle.journal_defs.specs.Instance as instance
use Rattle.journal_laws.proofs.Runs as runs
use Rattle.journal_laws.proofs.Keys.{cons_one, apart, keys_apart}

pub split_front : (a b x y : List ℕ) → length a ≡ length b → a ++ x ≡ b ++ y → (a ≡ b) × (x ≡ y)
split_front [] [] x y same h = (refl, h)
split_front [] (b ∷ bs) x y same h = absurd (omega arith)
split_front (a ∷ us) [] x y same h = absurd (omega arith)
split_front (a ∷ us) (b ∷ bs) x y same h =
    let both = cons_one a b (us ++ x) (bs ++ y) h in
    let rest = split_front us bs x y (omega arith) both.1 in
    (let p : a ≡ b = both.0 in let q : us ≡ bs = rest.0 in cc, rest.1)

pub w16_one : (n m : ℕ) (x y : List ℕ) → n < 2 ^ 16 → m < 2 ^ 16 → to_be_bytes w16 n ++ x ≡ to_be_bytes w16 m ++ y → (n ≡ m) × (x ≡ y)
w16_one n m x y p q h =
    let both = split_front (to_be_bytes w16 n) (to_be_bytes w16 m) x y refl h in
    (sym (from_be_bytes-to_be_bytes_2 n p) ∙ ap (from_be_bytes w16) both.0 ∙ from_be_bytes-to_be_bytes_2 m q, both.1)

pub w32_one : (n m : ℕ) (x y : List ℕ) → n < 2 ^ 32 → m < 2 ^ 32 → to_be_bytes w32 n ++ x ≡ to_be_bytes w32 m ++ y → (n ≡ m) × (x ≡ y)
w32_one n m x y p q h =
    let both = split_front (to_be_bytes w32 n) (to_be_bytes w32 m) x y refl h in
    (sym (from_be_bytes-to_be_bytes_4 n p) ∙ ap (from_be_bytes w32) both.0 ∙ from_be_bytes-to_be_bytes_4 m q, both.1)

w64_one : (n m : ℕ) (x y : List ℕ) → n < 2 ^ 64 → m < 2 ^ 64 → to_be_bytes w64 n ++ x ≡ to_be_bytes w64 m ++ y → (n ≡ m) × (x ≡ y)
w64_one n m x y p q h =
    let both = split_front (to_be_bytes w64 n) (to_be_bytes w64 m) x y refl h in
    (sym (from_be_bytes-to_be_bytes_8 n p) ∙ ap (from_be_bytes w64) both.0 ∙ from_be_bytes-to_be_bytes_8 m q, both.1)

pub short_one : (a b x y : List ℕ) → short a ++ x ≡ short b ++ y → (a ≡ b) × (x ≡ y)
short_one a b x y h = let both = cons_one (length a) (length b) (a ++ x) (b ++ y) h in split_front a b x y both.0 both.1

pub long_one : (a b x y : List ℕ) → length a < 2 ^ 16 → length b < 2 ^ 16 → long a ++ x ≡ long b ++ y → (a ≡ b) × (x ≡ y)
long_one a b x y p q h = let both = w16_one (length a) (length b) (a ++ x) (b ++ y) p q h in split_front a b x y both.0 both.1

flag_one : (a b : Bool) → flag a ≡ flag b → a ≡ b
flag_one true true h = refl
flag_one false false h = refl
flag_one true false h = absurd (omega arith)
flag_one false true h = absurd (omega arith)

-- instance records
region_one : (r q : Region) (x y : List ℕ) → spelled_region r ++ x ≡ spelled_region q ++ y → (r ≡ q) × (x ≡ y)
region_one r q x y h =
    let front = short_one r.name q.name (flag r.before ∷ x) (flag q.before ∷ y) (sym (append_assoc (short r.name) (flag r.before ∷ []) x) ∙ h ∙ append_assoc (short q.name) (flag q.before ∷ []) y) in
    let rest = cons_one (flag r.before) (flag q.before) x y front.1 in
    let before = flag_one r.before q.before rest.0 in
    ((λ i. record { name = front.0 i; before = before i }), rest.1)

regions_one : (rs qs : List Region) → length rs ≡ length qs → flat_map spelled_region rs ≡ flat_map spelled_region qs → rs ≡ qs
regions_one [] [] same h = refl
regions_one [] (q ∷ qs) same h = absurd (omega arith)
regions_one (r ∷ rs) [] same h = absurd (omega arith)
regions_one (r ∷ rs) (q ∷ qs) same h =
    let both = region_one r q (flat_map spelled_region rs) (flat_map spelled_region qs) h in
    let rest : rs ≡ qs = regions_one rs qs (omega arith) both.1 in
    let first : r ≡ q = both.0 in
    cc

instance_one : (r q : InstanceRecord) → instance.IsInForm r → instance.IsInForm q → instance.spelled_record r ≡ instance.spelled_record q → r ≡ q
instance_one (Create n rs) (Create m qs) p k h =
    let front = short_one n m (length rs ∷ flat_map spelled_region rs) (length qs ∷ flat_map spelled_region qs)
    (cons_one 1 1 (short n ++ length rs ∷ flat_map spelled_region rs) (short m ++ length qs ∷ flat_map spelled_region qs)
    (cons_one 1 1 (1 ∷ short n ++ length rs ∷ flat_map spelled_region rs) (1 ∷ short m ++ length qs ∷ flat_map spelled_region qs) h).1).1 in
    let rest = cons_one (length rs) (length qs) (flat_map spelled_region rs) (flat_map spelled_region qs) front.1 in
    let names : n ≡ m = front.0 in
    let all : rs ≡ qs = regions_one rs qs rest.0 rest.1 in
    cc
instance_one (Reigned r) (Reigned q) p k h =
    let tail = cons_one 2 2 (short r.stamp.root ++ (to_be_bytes w32 r.stamp.cycle ++ to_be_bytes w64 r.start)) (short q.stamp.root ++ (to_be_bytes w32 q.stamp.cycle ++ to_be_bytes w64 q.start)) h in
    let root = short_one r.stamp.root q.stamp.root (to_be_bytes w32 r.stamp.cycle ++ to_be_bytes w64 r.start) (to_be_bytes w32 q.stamp.cycle ++ to_be_bytes w64 q.start) tail.1 in
    let cycle = w32_one r.stamp.cycle q.stamp.cycle (to_be_bytes w64 r.start) (to_be_bytes w64 q.start) p.stamp.cycle.1 k.stamp.cycle.1 root.1 in
    let start = w64_one r.start q.start [] [] (omega (arith, p.start.1)) (omega (arith, k.start.1)) cycle.1 in
    λ i. Reigned (record { stamp = record { root = root.0 i; cycle = cycle.0 i }; start = start.0 i })
instance_one (Cut n g) (Cut m f) p k h =
    let tail = cons_one 3 3 (to_be_bytes w64 n ++ to_be_bytes w32 g) (to_be_bytes w64 m ++ to_be_bytes w32 f) h in
    let first = w64_one n m (to_be_bytes w32 g) (to_be_bytes w32 f) (omega (arith, p.0)) (omega (arith, k.0)) tail.1 in
    let second = w32_one g f [] [] (omega (arith, p.2)) (omega (arith, k.2)) first.1 in
    let a : n ≡ m = first.0 in
    let b : g ≡ f = second.0 in
    cc
instance_one (Map r s n) (Map q t m) p k h =
    let one = cons_one 4 4 (r ∷ flag s ∷ short n) (q ∷ flag t ∷ short m) h in
    let two = cons_one r q (flag s ∷ short n) (flag t ∷ short m) one.1 in
    let three = cons_one (flag s) (flag t) (short n) (short m) two.1 in
    let name = cons_one (length n) (length m) n m three.1 in
    let a : r ≡ q = two.0 in
    let b : s ≡ t = flag_one s t three.0 in
    let c : n ≡ m = name.1 in
    cc
instance_one (Mode r b) (Mode q c) p k h =
    let one = cons_one 5 5 (r ∷ flag b ∷ []) (q ∷ flag c ∷ []) h in
    let two = cons_one r q (flag b ∷ []) (flag c ∷ []) one.1 in
    let a : r ≡ q = two.0 in
    let d : b ≡ c = flag_one b c (cons_one (flag b) (flag c) [] [] two.1).0 in
    cc
instance_one (Create n rs) (Reigned q) p k h = absurd (apart _ _ _ _ (λ e. omega arith) h)
instance_one (Create n rs) (Cut m f) p k h = absurd (apart _ _ _ _ (λ e. omega arith) h)
instance_one (Create n rs) (Map q t m) p k h = absurd (apart _ _ _ _ (λ e. omega arith) h)
instance_one (Create n rs) (Mode q c) p k h = absurd (apart _ _ _ _ (λ e. omega arith) h)
instance_one (Reigned r) (Create m qs) p k h = absurd (apart _ _ _ _ (λ e. omega arith) h)
instance_one (Reigned r) (Cut m f) p k h = absurd (apart _ _ _ _ (λ e. omega arith) h)
instance_one (Reigned r) (Map q t m) p k h = absurd (apart _ _ _ _ (λ e. omega arith) h)
instance_one (Reigned r) (Mode q c) p k h = absurd (apart _ _ _ _ (λ e. omega arith) h)
instance_one (Cut n g) (Create m qs) p k h = absurd (apart _ _ _ _ (λ e. omega arith) h)
instance_one (Cut n g) (Reigned q) p k h = absurd (apart _ _ _ _ (λ e. omega arith) h)
instance_one (Cut n g) (Map q t m) p k h = absurd (apart _ _ _ _ (λ e. omega arith) h)
instance_one (Cut n g) (Mode q c) p k h = absurd (apart _ _ _ _ (λ e. omega arith) h)
instance_one (Map r s n) (Create m qs) p k h = absurd (apart _ _ _ _ (λ e. omega arith) h)
instance_one (Map r s n) (Reigned q) p k h = absurd (apart _ _ _ _ (λ e. omega arith) h)
instance_one (Map r s n) (Cut m f) p k h = absurd (apart _ _ _ _ (λ e. omega arith) h)
instance_one (Map r s n) (Mode q c) p k h = absurd (apart _ _ _ _ (λ e. omega arith) h)
instance_one (Mode r b) (Create m qs) p k h = absurd (apart _ _ _ _ (λ e. omega arith) h)
instance_one (Mode r b) (Reigned q) p k h = absurd (apart _ _ _ _ (λ e. omega arith) h)
instance_one (Mode r b) (Cut m f) p k h = absurd (apart _ _ _ _ (λ e. omega arith) h)
instance_one (Mode r b) (Map q t m) p k h = absurd (apart _ _ _ _ (λ e. omega arith) h)

pub instance_body : (body : List ℕ) (r q : InstanceRecord) → IsInstanceBody body r → IsInstanceBody body q → r ≡ q
instance_body body r q h k = instance_one r q h.form k.form (sym h.spelled ∙ k.spelled)

-- journal records
update_one : (u v : Update) (x y : List ℕ) → IsUpdate u → IsUpdate v → spelled_update u ++ x ≡ spelled_update v ++ y → (u ≡ v) × (x ≡ y)
update_one (Set k a) (Set l b) x y p q h =
    let tail = cons_one 1 1 ((short (encoded k) ++ long a) ++ x) ((short (encoded l) ++ long b) ++ y) h in
    let front = short_one (encoded k) (encoded l) (long a ++ x) (long b ++ y) (sym (append_assoc (short (encoded k)) (long a) x) ∙ tail.1 ∙ append_assoc (short (encoded l)) (long b) y) in
    let rest = long_one a b x y (omega (arith, p.1)) (omega (arith, q.1)) front.1 in
    let key : k ≡ l = keys_apart k l p.0 q.0 front.0 in
    let value : a ≡ b = rest.0 in
    (cc, rest.1)
update_one (Kill k) (Kill l) x y p q h =
    let tail = cons_one 2 2 (short (encoded k) ++ x) (short (encoded l) ++ y) h in
    let front = short_one (encoded k) (encoded l) x y tail.1 in
    let key : k ≡ l = keys_apart k l p q front.0 in
    (cc, front.1)
update_one (ZKill k) (ZKill l) x y p q h =
    let tail = cons_one 3 3 (short (encoded k) ++ x) (short (encoded l) ++ y) h in
    let front = short_one (encoded k) (encoded l) x y tail.1 in
    let key : k ≡ l = keys_apart k l p q front.0 in
    (cc, front.1)
update_one (Set k a) (Kill l) x y p q h = absurd (apart _ _ _ _ (λ e. omega arith) h)
update_one (Set k a) (ZKill l) x y p q h = absurd (apart _ _ _ _ (λ e. omega arith) h)
update_one (Kill k) (Set l b) x y p q h = absurd (apart _ _ _ _ (λ e. omega arith) h)
update_one (Kill k) (ZKill l) x y p q h = absurd (apart _ _ _ _ (λ e. omega arith) h)
update_one (ZKill k) (Set l b) x y p q h = absurd (apart _ _ _ _ (λ e. omega arith) h)
update_one (ZKill k) (Kill l) x y p q h = absurd (apart _ _ _ _ (λ e. omega arith) h)

-- positions that rise below a count are few
few_items : (low count : ℕ) (xs : List Item) → low ≤ count → Rise low xs → AllByRecursion (IsItem count) xs → low + length xs ≤ count
few_items low count [] fits rise items = omega arith
few_items low count (x ∷ xs) fits rise items =
    let here : x.position < count = items.0.position in
    let more = few_items (x.position + 1) count xs (omega arith) rise.1 items.1 in
    omega (arith, rise.0, more)

items_one : (count : ℕ) (is js : List Item) → count ≤ 256 → AllByRecursion (IsItem count) is → AllByRecursion (IsItem count) js → length is ≡ length js → flat_map spelled_item is ≡ flat_map spelled_item js → is ≡ js
items_one count [] [] few p q same h = refl
items_one count [] (j ∷ js) few p q same h = absurd (omega arith)
items_one count (i ∷ is) [] few p q same h = absurd (omega arith)
items_one count (i ∷ is) (j ∷ js) few p q same h =
    let tail = cons_one 4 4 (to_be_bytes w16 i.position ++ (spelled_update i.update ++ flat_map spelled_item is)) (to_be_bytes w16 j.position ++ (spelled_update j.update ++ flat_map spelled_item js)) h in
    let place = w16_one i.position j.position (spelled_update i.update ++ flat_map spelled_item is) (spelled_update j.update ++ flat_map spelled_item js) (omega (arith, few, p.0.position)) (omega (arith, few, q.0.position)) tail.1 in
    let update = update_one i.update j.update (flat_map spelled_item is) (flat_map spelled_item js) p.0.update q.0.update place.1 in
    let rest : is ≡ js = items_one count is js few p.1 q.1 (omega arith) update.1 in
    let first : i ≡ j = (λ d. record { position = place.0 d; update = update.0 d }) in
    cc

part_one : (a b : Part) → journal.IsPart a → journal.IsPart b → journal.spelled_record (Tcom a) ≡ journal.spelled_record (Tcom b) → a ≡ b
part_one a b p q h =
    let tail = cons_one 5 5 (to_be_bytes w64 a.number ++ a.mask ∷ a.origin.updater ∷ to_be_bytes w32 a.origin.serial ++ to_be_bytes w16 a.count ++ to_be_bytes w16 (length a.items) ++ flat_map spelled_item a.items)
    (to_be_bytes w64 b.number ++ b.mask ∷ b.origin.updater ∷ to_be_bytes w32 b.origin.serial ++ to_be_bytes w16 b.count ++ to_be_bytes w16 (length b.items) ++ flat_map spelled_item b.items) h in
    let number = w64_one a.number b.number (a.mask ∷ a.origin.updater ∷ to_be_bytes w32 a.origin.serial ++ to_be_bytes w16 a.count ++ to_be_bytes w16 (length a.items) ++ flat_map spelled_item a.items)
    (b.mask ∷ b.origin.updater ∷ to_be_bytes w32 b.origin.serial ++ to_be_bytes w16 b.count ++ to_be_bytes w16 (length b.items) ++ flat_map spelled_item b.items) (omega (arith, p.number.1)) (omega (arith, q.number.1)) tail.1 in
    let mask = cons_one a.mask b.mask (a.origin.updater ∷ to_be_bytes w32 a.origin.serial ++ to_be_bytes w16 a.count ++ to_be_bytes w16 (length a.items) ++ flat_map spelled_item a.items)
    (b.origin.updater ∷ to_be_bytes w32 b.origin.serial ++ to_be_bytes w16 b.count ++ to_be_bytes w16 (length b.items) ++ flat_map spelled_item b.items) number.1 in
    let updater = cons_one a.origin.updater b.origin.updater (to_be_bytes w32 a.origin.serial ++ to_be_bytes w16 a.count ++ to_be_bytes w16 (length a.items) ++ flat_map spelled_item a.items)
    (to_be_bytes w32 b.origin.serial ++ to_be_bytes w16 b.count ++ to_be_bytes w16 (length b.items) ++ flat_map spelled_item b.items) mask.1 in
    let serial = w32_one a.origin.serial b.origin.serial (to_be_bytes w16 a.count ++ to_be_bytes w16 (length a.items) ++ flat_map spelled_item a.items)
    (to_be_bytes w16 b.count ++ to_be_bytes w16 (length b.items) ++ flat_map spelled_item b.items) (omega (arith, p.origin.serial.1)) (omega (arith, q.origin.serial.1)) updater.1 in
    let count = w16_one a.count b.count (to_be_bytes w16 (length a.items) ++ flat_map spelled_item a.items) (to_be_bytes w16 (length b.items) ++ flat_map spelled_item b.items)
    (omega (arith, p.count.1)) (omega (arith, q.count.1)) serial.1 in
    let size = w16_one (length a.items) (length b.items) (flat_map spelled_item a.items) (flat_map spelled_item b.items) (omega (arith, p.count.1, few_items 0 a.count a.items (omega arith) p.rise p.items)) (omega (arith, q.count.1, few_items 0 b.count b.items (omega arith) q.rise q.items)) count.1 in
    let theirs : AllByRecursion (IsItem a.count) b.items = subst (λ (c : ℕ). AllByRecursion (IsItem c) b.items) (sym count.0) q.items in
    let items = items_one a.count a.items b.items p.count.1 p.items theirs size.0 size.1 in
    λ d. record { number = number.0 d; mask = mask.0 d; origin = record { updater = updater.0 d; serial = serial.0 d }; count = count.0 d; items = items d }

journal_one : (r q : JournalRecord) → journal.IsInForm r → journal.IsInForm q → journal.spelled_record r ≡ journal.spelled_record q → r ≡ q
journal_one (Pini s) (Pini t) p k h =
    let one = cons_one 1 1 (1 ∷ s.region ∷ flag s.before ∷ to_be_bytes w32 s.generation ++ to_be_bytes w32 s.previous) (1 ∷ t.region ∷ flag t.before ∷ to_be_bytes w32 t.generation ++ to_be_bytes w32 t.previous) h in
    let two = cons_one 1 1 (s.region ∷ flag s.before ∷ to_be_bytes w32 s.generation ++ to_be_bytes w32 s.previous) (t.region ∷ flag t.before ∷ to_be_bytes w32 t.generation ++ to_be_bytes w32 t.previous) one.1 in
    let region = cons_one s.region t.region (flag s.before ∷ to_be_bytes w32 s.generation ++ to_be_bytes w32 s.previous) (flag t.before ∷ to_be_bytes w32 t.generation ++ to_be_bytes w32 t.previous) two.1 in
    let mode = cons_one (flag s.before) (flag t.before) (to_be_bytes w32 s.generation ++ to_be_bytes w32 s.previous) (to_be_bytes w32 t.generation ++ to_be_bytes w32 t.previous) region.1 in
    let generation = w32_one s.generation t.generation (to_be_bytes w32 s.previous) (to_be_bytes w32 t.previous) (omega (arith, p.generation.1)) (omega (arith, k.generation.1)) mode.1 in
    let previous = w32_one s.previous t.previous [] [] (omega (arith, p.generation.1, p.previous)) (omega (arith, k.generation.1, k.previous)) generation.1 in
    let before = flag_one s.before t.before mode.0 in
    λ d. Pini (record { region = region.0 d; before = before d; generation = generation.0 d; previous = previous.0 d })
journal_one (Epoch m) (Epoch n) p k h =
    let one = cons_one 2 2 (flag m.closing ∷ to_be_bytes w64 m.number ++ to_be_bytes w32 m.blocks) (flag n.closing ∷ to_be_bytes w64 n.number ++ to_be_bytes w32 n.blocks) h in
    let kind = cons_one (flag m.closing) (flag n.closing) (to_be_bytes w64 m.number ++ to_be_bytes w32 m.blocks) (to_be_bytes w64 n.number ++ to_be_bytes w32 n.blocks) one.1 in
    let number = w64_one m.number n.number (to_be_bytes w32 m.blocks) (to_be_bytes w32 n.blocks) (omega (arith, p.0)) (omega (arith, k.0)) kind.1 in
    let blocks = w32_one m.blocks n.blocks [] [] p.1 k.1 number.1 in
    let closing = flag_one m.closing n.closing kind.0 in
    λ d. Epoch (record { closing = closing d; number = number.0 d; blocks = blocks.0 d })
journal_one (Pblk a) (Pblk b) p k h =
    let one = cons_one 3 3 (to_be_bytes w32 a.block ++ a.bytes) (to_be_bytes w32 b.block ++ b.bytes) h in
    let block = w32_one a.block b.block a.bytes b.bytes p.0 k.0 one.1 in
    λ d. Pblk (record { block = block.0 d; bytes = block.1 d })
journal_one (Tcom a) (Tcom b) p k h = ap (λ (x : Part). Tcom x) (part_one a b p k h)
journal_one (Pini s) (Epoch n) p k h = absurd (apart _ _ _ _ (λ e. omega arith) h)
journal_one (Pini s) (Pblk b) p k h = absurd (apart _ _ _ _ (λ e. omega arith) h)
journal_one (Pini s) (Tcom b) p k h = absurd (apart _ _ _ _ (λ e. omega arith) h)
journal_one (Epoch m) (Pini t) p k h = absurd (apart _ _ _ _ (λ e. omega arith) h)
journal_one (Epoch m) (Pblk b) p k h = absurd (apart _ _ _ _ (λ e. omega arith) h)
journal_one (Epoch m) (Tcom b) p k h = absurd (apart _ _ _ _ (λ e. omega arith) h)
journal_one (Pblk a) (Pini t) p k h = absurd (apart _ _ _ _ (λ e. omega arith) h)
journal_one (Pblk a) (Epoch n) p k h = absurd (apart _ _ _ _ (λ e. omega arith) h)
journal_one (Pblk a) (Tcom b) p k h = absurd (apart _ _ _ _ (λ e. omega arith) h)
journal_one (Tcom a) (Pini t) p k h = absurd (apart _ _ _ _ (λ e. omega arith) h)
journal_one (Tcom a) (Epoch n) p k h = absurd (apart _ _ _ _ (λ e. omega arith) h)
journal_one (Tcom a) (Pblk b) p k h = absurd (apart _ _ _ _ (λ e. omega arith) h)

pub journal_body : (body : List ℕ) (r q : JournalRecord) → IsJournalBody body r → IsJournalBody body q → r ≡ q
journal_body body r q h k = journal_one r q h.form k.form (sym h.spelled ∙ k.spelled)

-- files
zip_one : {R : Type 0} (P : Body → R → Type 0) (bs : List Body) (rs qs : List R) → ((b : Body) (r q : R) → P b r → P b q → r ≡ q) → AllZip P bs rs → AllZip P bs qs → rs ≡ qs
zip_one P [] [] [] one h k = refl
zip_one P [] (r ∷ rs) qs one h k = absurd h
zip_one P [] [] (q ∷ qs) one h k = absurd k
zip_one P (b ∷ bs) [] qs one h k = absurd h
zip_one P (b ∷ bs) (r ∷ rs) [] one h k = absurd k
zip_one P (b ∷ bs) (r ∷ rs) (q ∷ qs) one h k =
    let first : r ≡ q = one b r q h.0 k.0 in
    let rest : rs ≡ qs = zip_one P bs rs qs one h.1 k.1 in
    cc

pub holds_one : {R : Type 0} (P : Body → R → Type 0) (file : List ℕ) (rs qs : List R) → ((b : Body) (r q : R) → P b r → P b q → r ≡ q) → Holds P file rs → Holds P file qs → rs ≡ qs
holds_one P file rs qs one h k =
    let same : h.0 ≡ k.0 = (let a : records file ≡ Some h.0 = h.1 in let b : records file ≡ Some k.0 = k.1 in cc) in
    zip_one P k.0 rs qs one (subst (λ (bs : List Body). AllZip P bs rs) same h.2) k.2

pub journals_one : (files : Files) (r g : ℕ) (l m : ℕ) (js ks : List Placed) → IsJournal files r g l js → IsJournal files r g m ks → (l ≡ m) × (js ≡ ks)
journals_one files r zero l m js ks h k = (h.0 ∙ sym k.0, h.1 ∙ sym k.1)
journals_one files r (suc g) l m js ks h k =
    let older = journals_one files r g h.0 k.0 h.1 k.1 h.3 k.3 in
    let newer : h.2 ≡ k.2 = holds_one IsJournalBody (files (journal_file (suc g) r)) h.2 k.2 (λ b x y p q. journal_body b x y p q) h.4 k.4 in
    let last : l ≡ last_began h.0 (suc g) h.2 = h.6 in
    let last2 : m ≡ last_began k.0 (suc g) k.2 = k.6 in
    let a : h.0 ≡ k.0 = older.0 in
    let b : h.1 ≡ k.1 = older.1 in
    let c : js ≡ h.1 ++ map (in_generation (suc g)) h.2 = h.7 in
    let d : ks ≡ k.1 ++ map (in_generation (suc g)) k.2 = k.7 in
    (cc, cc)

pub records_one : (files : Files) (s u : Records) → AreRecords files s → AreRecords files u → s ≡ u
records_one files s u h k = λ i. record { instance = same i; journal = fun_ext each i }
  where
    same : s.instance ≡ u.instance
    same = holds_one IsInstanceBody (files 0) s.instance u.instance instance_body h.instance.bodies k.instance.bodies

    each : (r : ℕ) → s.journal r ≡ u.journal r
    each r = elim (cases_lt r (length (regions s.instance))) [
      | inl here ↦
          let mine = h.journals r here in
          let theirs = k.journals r (subst (λ (l : List InstanceRecord). r < length (regions l)) same here) in
          (journals_one files r (generation s.instance) mine.0 theirs.0 (s.journal r) (u.journal r) mine.1 (subst (λ (l : List InstanceRecord). IsJournal files r (generation l) theirs.0 (u.journal r)) (sym same) theirs.1)).1
      | inr past ↦ h.no_more r past ∙ sym (k.no_more r (subst (λ (l : List InstanceRecord). length (regions l) ≤ r) same past))
    ]

pub sequence_one : (files : Files) (a b : Sequence) → Stands files a → Stands files b → a ≡ b
sequence_one files a b h k =
    let same = records_one files h.records k.records h.held k.held in
    runs.one k.records a b (subst (λ (s : Records). IsSequence s a) same h.sequence) k.sequence
