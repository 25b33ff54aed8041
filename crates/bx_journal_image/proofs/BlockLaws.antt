-- Which image is refused by its blocks.
use Rattle.std.proofs.Common.{◌≡◌, ◌⊎◌, inl, inr, suc, zero, add-one, ℕ, ◌+◌, ◌-◌, ◌*◌, ◌/◌, ◌%◌, ◌<◌, ◌≤◌, Bool, true, false, Option, None, Some, List, [], ◌∷◌, ◌++◌, length, take, drop, get_or, ap, refl, sym, ◌∙◌, arith, subst, if◌then◌else◌}
use Rattle.std.specs.Prelude.{nat_le, nat_lt}
use Rattle.std.proofs.lemmas.Bool.{and_parts, and_from, or_parts, leb-true, ltb-true, lt-ltb, false_from_ne_true, cases_lt}
use Rattle.std.proofs.lemmas.List.{ext_get_or, get_or-take, get_or-drop, length-take, length-drop}
use Rattle.std.proofs.lemmas.Nat.{mul-le}
use Rattle.std.proofs.lemmas.Grind.{common_steps}
use Rattle.bx_journal_image.proofs.BlockLemmas.{struck_both}
use Rattle.bx_journal_image.specs.declared.judging.judge.Verdict.{Verdict}
use Rattle.bx_journal_image.specs.declared.judging.judge.Verdict.TheVariants.{Same, Other, Untold}
use Rattle.bx_journal_image.specs.declared.line.ranges.Range.{Range}
use Rattle.bx_journal_image.specs.declared.line.form.ImageLine.{ImageLine}
use Rattle.bx_journal_image.specs.Blocks.{AreTrueMarks, AreRead, AreStruck, DiffersWithin, HasOtherOutside, IsInBlock, IsJudged, IsMarkOf, IsOther, IsBlockThere, block, block_at, block_digest, block_len, is_in, is_in_one, is_one_touched, is_touched, mark_at, spread_at, short_digest}

-- a byte of a block is in a range only if that touches the block
in_touched : (n i k : ℕ) (r : Range) → k < block_len n → is_in r (block_at n i + k) ≡ true → is_touched n r i ≡ true
in_touched n i k r below is =
    let parts = and_parts (nat_le r.at (block_at n i + k)) (nat_lt (block_at n i + k) (r.at + r.count)) is in
    let low : r.at ≤ block_at n i + k = leb-true r.at (block_at n i + k) parts.0 in
    let high : block_at n i + k < r.at + r.count = ltb-true (block_at n i + k) (r.at + r.count) parts.1 in
    and_from (nat_lt r.at (block_at n i + block_len n)) (nat_lt (block_at n i) (r.at + r.count))
    (lt-ltb r.at (block_at n i + block_len n) (omega (arith, low, below))) (lt-ltb (block_at n i) (r.at + r.count) (omega (arith, high)))

-- and in none of ranges that don't
none_in : (n i k : ℕ) (ranges : List Range) → k < block_len n → is_one_touched n ranges i ≡ false → is_in_one ranges (block_at n i + k) ≡ false
none_in n i k [] below none = refl
none_in n i k (r ∷ ranges) below none =
    let parts = or_parts (is_touched n r i) (is_one_touched n ranges i) none in
    let here : is_in r (block_at n i + k) ≡ false = false_from_ne_true (is_in r (block_at n i + k)) (λ is. wrong (sym parts.0 ∙ in_touched n i k r below is)) in
    rw (here, none_in n i k ranges below parts.1) refl
  where
    wrong : false ≡ true → ⊥
    wrong e = absurd (cc)

-- a block that no range touches is the same
same_block : (x y : List ℕ) (ranges : List Range) (i : ℕ) → IsBlockThere (length x) i x → IsBlockThere (length x) i y → DiffersWithin ranges x y
    → is_one_touched (length x) ranges i ≡ false → block (length x) i y ≡ block (length x) i x
same_block x y ranges i mine there differs none = ext_get_or 0 (take s (drop at y)) (take s (drop at x)) (long y there ∙ sym (long x mine)) each
  where
    s : ℕ
    s = block_len (length x)

    at : ℕ
    at = block_at (length x) i

    long : (z : List ℕ) → IsBlockThere (length x) i z → length (take s (drop at z)) ≡ s
    long z fits = omega (arith, length-take s (drop at z), length-drop at z, fits)

    each : (k : ℕ) → k < length (take s (drop at y)) → get_or (take s (drop at y)) k 0 ≡ get_or (take s (drop at x)) k 0
    each k below =
        let inside : k < s = omega (arith, below, long y there) in
        get_or-take s (drop at y) k 0 inside ∙ get_or-drop at y k 0 ∙ differs (at + k) (omega (arith, inside, mine)) (omega (arith, inside, there)) (none_in (length x) i k ranges inside none)
        ∙ sym (get_or-take s (drop at x) k 0 inside ∙ get_or-drop at x k 0)

-- a place is within the room
place_within : (room i : ℕ) → i < 32 → spread_at room i ≤ room
place_within room i few =
    let whole : room / 31 * i ≤ room / 31 * 31 = mul-le (room / 31) i (room / 31) 31 (omega arith) (omega (arith, few)) in
    let part : room % 31 * i ≤ room % 31 * 31 = mul-le (room % 31) i (room % 31) 31 (omega arith) (omega (arith, few)) in
    omega (arith, whole, part)

size_within : (n : ℕ) → block_len n ≤ n
size_within n = grind (arith, common_steps)

-- each block of an image is there
pub block_within : (n i : ℕ) → i < 32 → block_at n i + block_len n ≤ n
block_within n i few = omega (arith, place_within (n - block_len n) i few, size_within n)

-- a mark that is left
left_of : (b : Bool) (m : Option ℕ) (d : ℕ) → (if b then None else m) ≡ Some d → (b ≡ false) × (m ≡ Some d)
left_of true m d is = absurd (none_some d is)
  where
    none_some : (d : ℕ) → None ≡ Some d → ⊥
    none_some d e = absurd (cc)
left_of false m d is = (refl, is)

pub right_image : (x y : List ℕ) (ranges : List Range) (marks kept : List (Option ℕ)) → AreTrueMarks x marks → AreStruck (length x) ranges marks kept
    → DiffersWithin ranges x y → AreRead 32 (length x) kept y Other → ⊥
right_image x y ranges marks kept right struck differs other =
    let i = other.i in
    let d = other.read.0 in
    let left = left_of (is_one_touched (length x) ranges i) (mark_at marks i) d (sym (struck i other.block) ∙ other.read.1) in
    let told : d ≡ block_digest (length x) i x = subst (IsMarkOf x i) left.1 (right i other.block) in
    other.read.3 (ap short_digest (same_block x y ranges i (block_within (length x) i other.block) other.read.2 differs left.0) ∙ sym told)

pub right_line : (x y : List ℕ) (ranges : List Range) (line : ImageLine) (kept : List (Option ℕ)) → line.length ≡ length x → AreTrueMarks x line.marks
    → AreStruck line.length ranges line.marks kept → DiffersWithin ranges x y → line.least ≤ length y → length y ≤ line.most → IsJudged line kept y Other → ⊥
right_line x y ranges line kept long right struck differs least most (inl short) = omega (arith, short, least)
right_line x y ranges line kept long right struck differs least most (inr (inl over)) = omega (arith, over, most)
right_line x y ranges line kept long right struck differs least most (inr (inr other)) =
    right_image x y ranges line.marks kept right (subst (λ (n : ℕ). AreStruck n ranges line.marks kept) long struck) differs
    (subst (λ (n : ℕ). AreRead 32 n kept y Other) long other)

kept_known : (line : ImageLine) (ranges : List Range) (kept : List (Option ℕ)) (y : List ℕ) → AreStruck line.length ranges line.marks kept → (other : HasOtherOutside line ranges y)
    → mark_at kept other.i ≡ Some other.d
kept_known line ranges kept y struck other = struck other.i other.block ∙ ap (λ (b : Bool). if b then None else mark_at line.marks other.i) other.untouched ∙ other.known

read_other : (line : ImageLine) (y : List ℕ) (ranges : List Range) (kept : List (Option ℕ)) (verdict : Verdict) → AreStruck line.length ranges line.marks kept
    → HasOtherOutside line ranges y → AreRead 32 line.length kept y verdict → verdict ≡ Other
read_other line y ranges kept Other struck other read = refl
read_other line y ranges kept Same struck other read = absurd (other.differs (read.0 other.i other.d other.block (kept_known line ranges kept y struck other) other.there))
read_other line y ranges kept Untold struck other read = absurd (none_some other.d (sym (read other.i other.block other.there) ∙ kept_known line ranges kept y struck other))
  where
    none_some : (d : ℕ) → None ≡ Some d → ⊥
    none_some d e = absurd (cc)

pub another : (line : ImageLine) (y : List ℕ) (ranges : List Range) (kept : List (Option ℕ)) (verdict : Verdict) → AreStruck line.length ranges line.marks kept
    → IsOther line ranges y → IsJudged line kept y verdict → verdict ≡ Other
another line y ranges kept Other struck other judged = refl
another line y ranges kept Same struck (inl short) judged = absurd (omega (arith, short, judged.0))
another line y ranges kept Same struck (inr (inl over)) judged = absurd (omega (arith, over, judged.1))
another line y ranges kept Same struck (inr (inr other)) judged = read_other line y ranges kept Same struck other judged.2
another line y ranges kept Untold struck (inl short) judged = absurd (omega (arith, short, judged.0))
another line y ranges kept Untold struck (inr (inl over)) judged = absurd (omega (arith, over, judged.1))
another line y ranges kept Untold struck (inr (inr other)) judged = read_other line y ranges kept Untold struck other judged.2

-- blocks of s bytes stand so close that none is left out between two
more : (q i : ℕ) → q * (i + 1) ≡ q * i + q
more q i = omega arith

-- a step: whole parts, and a rest that is rounded
step : (q m p i s room : ℕ) → p ≡ m * i → room ≡ q * 31 + m → m < 31 → room ≤ s * 31 → q * (i + 1) + (m * (i + 1)) / 31 ≤ q * i + p / 31 + s
step q m p i s room product parts small fits = omega (arith, more q i, more m i, product, parts, small, fits)

close : (n i : ℕ) → n < 131072 → i < 31 → block_at n (i + 1) ≤ block_at n i + block_len n
close n i small few =
    let room = n - block_len n in
    let size : block_len n ≡ (n + 31) / 32 = grind (arith, common_steps) in
    let fits : room ≤ block_len n * 31 = omega (arith, size) in
    step (room / 31) (room % 31) (room % 31 * i) i (block_len n) room refl (omega arith) (omega arith) fits

ends : (n : ℕ) → block_at n 31 + block_len n ≡ n
ends n = omega (arith, size_within n)

begins : (n : ℕ) → block_at n 0 ≡ 0
begins n = omega arith

-- a block more
one_more : (n a k : ℕ) → k + 1 < 32 → a < block_at n (k + 1) + block_len n → (a < block_at n (k + 1) → IsInBlock n a) → IsInBlock n a
one_more n a k few below before = at (cases_lt a (block_at n (k + 1)))
  where
    at : (a < block_at n (k + 1)) ⊎ (block_at n (k + 1) ≤ a) → IsInBlock n a
    at (inl is) = before is
    at (inr begun) = record { i = k + 1; block = few; begins = begun; ends = below }

-- the last of the first blocks that begins no later
found : (n a k : ℕ) → n < 131072 → k < 32 → a < block_at n k + block_len n → IsInBlock n a
found n a zero small few below = record { i = 0; block = omega arith; begins = omega (arith, begins n); ends = below }
found n a (suc k) small few below =
    one_more n a k (omega (arith, few)) (rw (← add-one k) at below) (λ before. found n a k small (omega (arith, few)) (omega (arith, before, close n k small (omega (arith, few)))))

pub whole : (n a : ℕ) → n < 131072 → a < n → IsInBlock n a
whole n a small below = found n a 31 small (omega arith) (omega (arith, below, ends n))

pub behind_steps : (x y : List ℕ) (before touched : List Range) (marks kept : List (Option ℕ)) (line : ImageLine) → line.length ≡ length x → AreTrueMarks x marks
    → AreStruck line.length before marks line.marks → AreStruck line.length touched line.marks kept → DiffersWithin (before ++ touched) x y
    → line.least ≤ length y → length y ≤ line.most → IsJudged line kept y Other → ⊥
behind_steps x y before touched marks kept line long right first second differs least most judged =
    right_line x y (before ++ touched) (record line { marks = marks }) kept long right both differs least most judged
  where
    both : AreStruck line.length (before ++ touched) marks kept
    both p block =
        second p block ∙ ap (λ (m : Option ℕ). if is_one_touched line.length touched p then None else m) (first p block) ∙ struck_both line.length p before touched (mark_at marks p)
