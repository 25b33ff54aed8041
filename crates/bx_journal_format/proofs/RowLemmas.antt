-- Rows of 16 have the bytes of their runs.
use Rattle.std.proofs.Common.{◌≡◌, ℕ, zero, suc, ◌+◌, ◌-◌, ◌*◌, ◌/◌, ◌<◌, ◌≤◌, min, List, [], ◌∷◌, ◌++◌, length, take, drop, get_or, refl, ap, sym, ◌∙◌, arith, length-take, length-drop, get_or-take, get_or-drop, Option, Some, None, map}
use Rattle.std.specs.Prelude.{◌&&◌, nat_le, nat_lt, if◌then◌else◌, slice_index, unwrap_or, flat_map}
use Rattle.std.specs.Option.{option_or}
use Rattle.std.specs.List.{range_with_len}
use Rattle.std.proofs.lemmas.Grind.{common_steps}
use Rattle.bx_journal_format.specs.Kept.{Run}
use Rattle.bx_image.specs.Image.{image_of, end_of}
use Rattle.bx_image.specs.Change.{byte_in, restore, AllWithin, Covers, AreBytes, HaveBytes}
use Rattle.bx_image.specs.private.Change.{byte_of}
use Rattle.bx_journal_format.specs.Entry.{rows, row}

pub or_none : {A : Type 0} (o : Option A) → option_or o None ≡ o
or_none None = refl
or_none (Some x) = refl

pub or_assoc : {A : Type 0} (a b c : Option A) → option_or (option_or a b) c ≡ option_or a (option_or b c)
or_assoc None b c = refl
or_assoc (Some x) b c = refl

pub byte_in-append : (a b : List Run) (i : ℕ) → byte_in (a ++ b) i ≡ option_or (byte_in b i) (byte_in a i)
unfolding byte_in
byte_in-append [] b i = sym (or_none (byte_in b i))
byte_in-append (p ∷ a) b i = ap (λ o. option_or o (byte_of p i)) (byte_in-append a b i) ∙ or_assoc (byte_in b i) (byte_in a i) (byte_of p i)

-- the bytes of a run from one offset up to another
abbrev part : Run → ℕ → ℕ → ℕ → Option ℕ
part p from to i = if nat_le (p.at + from) i && nat_lt i (p.at + to) then Some (slice_index p.bytes (i - p.at)) else None

pub either : (A : Type 0) (a b c d e f : ℕ) (i : ℕ) (v w : A) → c ≡ b → e ≡ a → f ≡ d → a ≤ b → (b ≤ d) → ((a ≤ i → i < b → w ≡ v))
    → option_or (if nat_le c i && nat_lt i d then Some v else None) (if nat_le a i && nat_lt i b then Some w else None) ≡ (if nat_le e i && nat_lt i f then Some v else None)
either A a b c d e f i v w = grind (arith, common_steps)

row_at : (bytes : List ℕ) (k i : ℕ) → i < 16 → get_or (take 16 (drop k bytes)) i 0 ≡ get_or bytes (k + i) 0
row_at bytes k i h = get_or-take 16 (drop k bytes) i 0 h ∙ get_or-drop k bytes i 0

row_len : (bytes : List ℕ) (k : ℕ) → length (take 16 (drop k bytes)) ≡ min 16 (length bytes - k)
row_len bytes k = length-take 16 (drop k bytes) ∙ ap (min 16) (length-drop k bytes)

pub test_at : (A : Type 0) (a b c d i : ℕ) (v w : A) → a ≡ c → ((a ≤ i) → i < b → i < d) → ((a ≤ i) → i < d → i < b) → (a ≤ i → i < b → v ≡ w)
    → (if nat_le a i && nat_lt i b then Some v else None) ≡ (if nat_le c i && nat_lt i d then Some w else None)
test_at A a b c d i v w = grind (arith, common_steps)

row_byte : (p : Run) (j i : ℕ) → byte_of (row p j) i ≡ part p (16 * j) (min (16 * (j + 1)) (length p.bytes)) i
row_byte p j i =
    let len : length (take 16 (drop (16 * j) p.bytes)) ≡ min 16 (length p.bytes - 16 * j) = row_len p.bytes (16 * j) in
    test_at ℕ (p.at + 16 * j) (p.at + 16 * j + length (take 16 (drop (16 * j) p.bytes))) (p.at + 16 * j) (p.at + min (16 * (j + 1)) (length p.bytes)) i
    (slice_index (take 16 (drop (16 * j) p.bytes)) (i - (p.at + 16 * j))) (slice_index p.bytes (i - p.at)) refl
    (λ below above. omega arith) (λ below above. omega arith)
    (λ below above. row_at p.bytes (16 * j) (i - (p.at + 16 * j)) (omega arith) ∙ ap (λ k. get_or p.bytes k 0) (omega arith))

rows_byte_from : (p : Run) (k j i : ℕ) → 16 * j ≤ length p.bytes → 16 * (j + k) < length p.bytes + 16 → byte_in (map (row p) (range_with_len j k)) i ≡ part p (16 * j) (min (16 * (j + k)) (length p.bytes)) i
unfolding byte_in
rows_byte_from p zero j i h last = nothing (p.at + 16 * j) (p.at + min (16 * (j + 0)) (length p.bytes)) (slice_index p.bytes (i - p.at)) (omega arith)
  where
    nothing : (a b v : ℕ) → b ≤ a → None ≡ (if nat_le a i && nat_lt i b then Some v else None)
    nothing a b v h = grind (arith, common_steps)
rows_byte_from p (suc zero) j i h last = row_byte p j i
rows_byte_from p (suc (suc k)) j i h last =
    rw (rows_byte_from p (suc k) (j + 1) i (omega arith) (omega arith), row_byte p j i)
    (either ℕ (p.at + 16 * j) (p.at + min (16 * (j + 1)) (length p.bytes)) (p.at + 16 * (j + 1)) (p.at + min (16 * (j + 1 + suc k)) (length p.bytes)) (p.at + 16 * j) (p.at + min (16 * (j + suc (suc k))) (length p.bytes)) i
    (slice_index p.bytes (i - p.at)) (slice_index p.bytes (i - p.at)) (omega arith) refl (omega arith) (omega arith) (omega arith) (λ below above. refl))

pub rows_byte : (p : Run) (i : ℕ) → byte_in (rows p) i ≡ byte_of p i
unfolding rows
rows_byte p i = rows_byte_from p ((length p.bytes + 15) / 16) 0 i (omega arith) (omega arith)
    ∙ test_at ℕ (p.at + 16 * 0) (p.at + min (16 * (0 + (length p.bytes + 15) / 16)) (length p.bytes)) p.at (p.at + length p.bytes) i
    (slice_index p.bytes (i - p.at)) (slice_index p.bytes (i - p.at)) (omega arith) (λ below above. omega arith) (λ below above. omega arith) (λ below above. refl)

pub all_rows_byte : (runs : List Run) (i : ℕ) → byte_in (flat_map rows runs) i ≡ byte_in runs i
unfolding byte_in
all_rows_byte [] i = refl
all_rows_byte (p ∷ runs) i = byte_in-append (rows p) (flat_map rows runs) i ∙ ap (λ o. option_or o (byte_in (rows p) i)) (all_rows_byte runs i) ∙ ap (option_or (byte_in runs i)) (rows_byte p i)

map_same : {A B : Type 0} (f g : A → B) (xs : List A) → ((x : A) → f x ≡ g x) → map f xs ≡ map g xs
map_same f g [] h = refl
map_same f g (x ∷ xs) h = rw (h x) (ap (λ ys. g x ∷ ys) (map_same f g xs h))

pub restore_same : (len : ℕ) (a b : List Run) (y : List ℕ) → ((i : ℕ) → byte_in a i ≡ byte_in b i) → restore (record { len = len; runs = a }) y ≡ restore (record { len = len; runs = b }) y
unfolding restore image_of
restore_same len a b y h = map_same (λ i. unwrap_or (byte_in a i) (slice_index y i)) (λ i. unwrap_or (byte_in b i) (slice_index y i)) (range_with_len 0 len) (λ i. ap (λ o. unwrap_or o (slice_index y i)) (h i))

pub covers_same : (len : ℕ) (a b : List Run) (y : List ℕ) → ((i : ℕ) → byte_in a i ≡ byte_in b i) → Covers (record { len = len; runs = b }) y → Covers (record { len = len; runs = a }) y
covers_same len a b y h covers i below none = covers i below (sym (h i) ∙ none)

-- rows of an entry of this length
abbrev pub AreRows : ℕ → List Run → Type 0
AreRows len [] = Unit {0}
AreRows len (p ∷ ps) = (0 < length p.bytes) × (length p.bytes ≤ 16) × (p.at + length p.bytes ≤ len) × AreBytes p.bytes × AreRows len ps

rows-append : (len : ℕ) (a b : List Run) → AreRows len a → AreRows len b → AreRows len (a ++ b)
rows-append len [] b h k = k
rows-append len (p ∷ a) b h k = (h.0, h.1, h.2, h.3, rows-append len a b h.4 k)

take_bytes : (n : ℕ) (bytes : List ℕ) → AreBytes bytes → AreBytes (take n bytes)
take_bytes zero bytes h = tt
take_bytes (suc n) [] h = tt
take_bytes (suc n) (b ∷ bytes) h = (h.0, take_bytes n bytes h.1)

drop_bytes : (n : ℕ) (bytes : List ℕ) → AreBytes bytes → AreBytes (drop n bytes)
drop_bytes zero bytes h = h
drop_bytes (suc n) [] h = tt
drop_bytes (suc n) (b ∷ bytes) h = drop_bytes n bytes h.1

rows_from_are : (len : ℕ) (p : Run) → AreBytes p.bytes → p.at + length p.bytes ≤ len → (k j : ℕ) → (16 * (j + k) < length p.bytes + 16) → AreRows len (map (row p) (range_with_len j k))
rows_from_are len p bytes within zero j h = tt
rows_from_are len p bytes within (suc k) j h =
    let size : length (take 16 (drop (16 * j) p.bytes)) ≡ min 16 (length p.bytes - 16 * j) = row_len p.bytes (16 * j) in
    (omega arith, omega arith, omega arith, take_bytes 16 (drop (16 * j) p.bytes) (drop_bytes (16 * j) p.bytes bytes), rows_from_are len p bytes within k (j + 1) (omega arith))

rows_of_are : (len at : ℕ) (bytes : List ℕ) → AreBytes bytes → end_of at bytes ≤ len → AreRows len (rows (record { at = at; bytes = bytes }))
unfolding rows
rows_of_are len at [] are h = tt
rows_of_are len at (b ∷ bytes) are h = rows_from_are len (record { at = at; bytes = b ∷ bytes }) are h ((length (b ∷ bytes) + 15) / 16) 0 (omega arith)

rows_are : (len : ℕ) (p : Run) → AreBytes p.bytes → end_of p.at p.bytes ≤ len → AreRows len (rows p)
rows_are len p are h = rows_of_are len p.at p.bytes are h

pub all_rows_are : (len : ℕ) (runs : List Run) → AllWithin len runs → HaveBytes runs → AreRows len (flat_map rows runs)
all_rows_are len [] h are = tt
all_rows_are len (p ∷ runs) h are = rows-append len (rows p) (flat_map rows runs) (rows_are len p are.0 h.0) (all_rows_are len runs h.1 are.1)
