use Rattle.std.proofs.Common.{◌≡◌, ℕ, ◌+◌, ◌-◌, ◌*◌, ◌/◌, ◌<◌, ◌≤◌, length, take, drop, min, arith, sym, ap, ◌∙◌}
use Rattle.std.specs.List.{flat_map}
use Rattle.std.proofs.lemmas.Slice.{take-put_mid}
use Rattle.std.proofs.lemmas.List.{length-take-le, length-drop}
use Rattle.std.proofs.Math.Nat.{mul-div-le, mul-le-mul_left}
use Rattle.bx_text.proofs.FieldLemmas.{div_mono}
use Rattle.bx_dump.specs.private.Xxd.{cell_of, cell_width, columns_line}
use Rattle.bx_dump_columns.proofs.LinesLemmas.{cells_part, lines_next_at, lines_zero}
use Rattle.bx_dump.proofs.ColumnsLemmas.{digits_even}
use Rattle.bx_dump.proofs.xxd.columns.put_full.Goals as goal

-- whole lines are within the bytes, the digits and the text
within_bytes : (n cols k : ℕ) → k < n / cols → cols * k + cols ≤ n
within_bytes n cols k below = omega (arith, mul-div-le n cols, mul-le-mul_left {m = k + 1} {n = n / cols} cols (omega arith))

text_fits : (n cols size more room : ℕ) → 0 < cols → size ≤ more → more * ((n + cols - 1) / cols) ≤ room → size * (n / cols) ≤ room
text_fits n cols size more room pos le fits =
    let count : n / cols ≤ (n + cols - 1) / cols = div_mono n (n + cols - 1) cols pos (omega arith) in
    let a : size * (n / cols) ≤ size * ((n + cols - 1) / cols) = mul-le-mul_left {m = n / cols} {n = (n + cols - 1) / cols} size count in
    let b : (n + cols - 1) / cols * size ≤ (n + cols - 1) / cols * more = mul-le-mul_left {m = size} {n = more} ((n + cols - 1) / cols) le in
    omega arith

line_fits : (n cols field k room : ℕ) → 0 < cols → k < n / cols → (field + cols + 26) * ((n + cols - 1) / cols) ≤ room → (field + cols + 12) * k + (field + cols + 12) ≤ room
line_fits n cols field k room pos below fits =
    let all : (field + cols + 12) * (n / cols) ≤ room = text_fits n cols (field + cols + 12) (field + cols + 26) room pos (omega arith) fits in
    let a : (field + cols + 12) * (k + 1) ≤ (field + cols + 12) * (n / cols) = mul-le-mul_left {m = k + 1} {n = n / cols} (field + cols + 12) (omega arith) in
    omega arith

pub loop-k-init : goal.loop-k-init
loop-k-init c =
    let p = c.args.form.now in
    let none : (c.args.sizes.field + c.args.sizes.cols + 12) * 0 ≡ 0 = omega arith in
    ap (λ n. take n c.args.text.now) none ∙ lines_zero (columns_line p.digits p.cols p.group) p.cols c.args.at c.args.bytes.now p.some

pub overflow_mul-size : goal.overflow_mul-size
overflow_mul-size c =
    omega (arith, line_fits (length c.args.bytes.now) c.args.sizes.cols c.args.sizes.field c.loop-k.k (length c.args.text.now) (omega (arith, c.args.form.now.some, c.requires.cols)) c.loop-k-test.true c.requires.room)

pub overflow_mul-size-in-loop-k : goal.overflow_mul-size-in-loop-k
overflow_mul-size-in-loop-k c = overflow_mul-size c

pub overflow_add-size-in-loop-k : goal.overflow_add-size-in-loop-k
overflow_add-size-in-loop-k c =
    omega (arith, line_fits (length c.args.bytes.now) c.args.sizes.cols c.args.sizes.field c.loop-k.k (length c.args.text.now) (omega (arith, c.args.form.now.some, c.requires.cols)) c.loop-k-test.true c.requires.room)

pub slice_bounds-put_fixed-end : goal.slice_bounds-put_fixed-end
slice_bounds-put_fixed-end c =
    let fits = line_fits (length c.args.bytes.now) c.args.sizes.cols c.args.sizes.field c.loop-k.k (length c.args.text.now) (omega (arith, c.args.form.now.some, c.requires.cols)) c.loop-k-test.true c.requires.room in
    let here : (c.args.sizes.field + c.args.sizes.cols + 12) * c.loop-k.k + (c.args.sizes.field + c.args.sizes.cols + 12) ≤ length c.loop-k.text = omega (arith, c.loop-k.auto.text) in
    here

pub overflow_mul-cols : goal.overflow_mul-cols
overflow_mul-cols c = omega (arith, within_bytes (length c.args.bytes.now) c.args.sizes.cols c.loop-k.k c.loop-k-test.true)

pub overflow_cast-cols : goal.overflow_cast-cols
overflow_cast-cols c = omega (arith, within_bytes (length c.args.bytes.now) c.args.sizes.cols c.loop-k.k c.loop-k-test.true, c.requires.address)

pub overflow_add-at : goal.overflow_add-at
overflow_add-at c = omega (arith, within_bytes (length c.args.bytes.now) c.args.sizes.cols c.loop-k.k c.loop-k-test.true, c.requires.address)

pub overflow_mul-cols-in-loop-k : goal.overflow_mul-cols-in-loop-k
overflow_mul-cols-in-loop-k c = overflow_mul-cols c

pub overflow_mul-cols-in-loop-k-2 : goal.overflow_mul-cols-in-loop-k-2
overflow_mul-cols-in-loop-k-2 c = overflow_mul-cols c

pub slice_bounds-put_fixed-end-in-loop-k : goal.slice_bounds-put_fixed-end-in-loop-k
slice_bounds-put_fixed-end-in-loop-k c =
    let inside : c.args.sizes.cols * c.loop-k.k + c.args.sizes.cols ≤ length c.args.bytes.now = within_bytes (length c.args.bytes.now) c.args.sizes.cols c.loop-k.k c.loop-k-test.true in
    inside

pub overflow_add-cols : goal.overflow_add-cols
overflow_add-cols c = omega (arith, within_bytes (length c.args.bytes.now) c.args.sizes.cols c.loop-k.k c.loop-k-test.true)

-- where its digits stand
digits_fit : (n cols k w wide room : ℕ) → wide ≡ w * cols → k < n / cols → room ≡ w * n → wide * k + wide ≤ room
digits_fit n cols k w wide room is below all =
    let inside : w * (cols * k + cols) ≤ w * n = mul-le-mul_left {m = cols * k + cols} {n = n} w (within_bytes n cols k below) in
    let place : wide * k ≡ w * cols * k = ap (λ m. m * k) is in
    omega arith

pub overflow_mul-wide : goal.overflow_mul-wide
overflow_mul-wide c =
    let w = cell_width c.args.form.now.digits in
    let fits = digits_fit (length c.args.bytes.now) c.args.sizes.cols c.loop-k.k w c.args.sizes.wide (length c.args.cells.now) (c.requires.wide ∙ ap (λ m. w * m) (sym c.requires.cols)) c.loop-k-test.true c.requires.long in
    omega (arith, fits)

pub overflow_mul-wide-in-loop-k : goal.overflow_mul-wide-in-loop-k
overflow_mul-wide-in-loop-k c = overflow_mul-wide c

pub overflow_add-wide : goal.overflow_add-wide
overflow_add-wide c =
    let w = cell_width c.args.form.now.digits in
    let fits = digits_fit (length c.args.bytes.now) c.args.sizes.cols c.loop-k.k w c.args.sizes.wide (length c.args.cells.now) (c.requires.wide ∙ ap (λ m. w * m) (sym c.requires.cols)) c.loop-k-test.true c.requires.long in
    omega (arith, fits)

pub slice_bounds-put_fixed-end-in-loop-k-2 : goal.slice_bounds-put_fixed-end-in-loop-k-2
slice_bounds-put_fixed-end-in-loop-k-2 c =
    let w = cell_width c.args.form.now.digits in
    digits_fit (length c.args.bytes.now) c.args.sizes.cols c.loop-k.k w c.args.sizes.wide (length c.args.cells.now) (c.requires.wide ∙ ap (λ m. w * m) (sym c.requires.cols)) c.loop-k-test.true c.requires.long

pub put_fixed-requires-clause-cells : goal.put_fixed-requires-clause-cells
put_fixed-requires-clause-cells c =
    let p = c.args.form.now in
    let w = cell_width p.digits in
    let cols = c.args.sizes.cols in
    let k = c.loop-k.k in
    let wide : c.args.sizes.wide ≡ w * cols = c.requires.wide ∙ ap (λ m. w * m) (sym c.requires.cols) in
    let place : c.args.sizes.wide * k ≡ w * (cols * k) = ap (λ m. m * k) wide ∙ omega arith in
    let one : c.args.sizes.wide * k + c.args.sizes.wide - c.args.sizes.wide * k ≡ c.args.sizes.wide = omega arith in
    let two : cols * k + cols - cols * k ≡ cols = omega arith in
    let many : c.args.sizes.wide * k + c.args.sizes.wide - c.args.sizes.wide * k ≡ w * (cols * k + cols - cols * k) = one ∙ wide ∙ ap (λ m. w * m) (sym two) in
    ap (λ t. take (c.args.sizes.wide * k + c.args.sizes.wide - c.args.sizes.wide * k) (drop (c.args.sizes.wide * k) t)) c.requires.cells
    ∙ ap (λ m. take (c.args.sizes.wide * k + c.args.sizes.wide - c.args.sizes.wide * k) (drop m (flat_map (cell_of p.digits) c.args.bytes.now))) place
    ∙ cells_part (cell_of p.digits) w (digits_even p.digits) (cols * k) (cols * k + cols - cols * k) (c.args.sizes.wide * k + c.args.sizes.wide - c.args.sizes.wide * k) c.args.bytes.now many

pub loop-k-preserved : goal.loop-k-preserved
loop-k-preserved c =
    let p = c.args.form.now in
    let line = columns_line p.digits p.cols p.group in
    let cols = c.args.sizes.cols in
    let n = length c.args.bytes.now in
    let k = c.loop-k.k in
    let size = c.args.sizes.field + cols + 12 in
    let a = size * k in
    let above : 0 < cols = omega (arith, p.some, c.requires.cols) in
    let fits = line_fits n cols c.args.sizes.field k (length c.args.text.now) above c.loop-k-test.true c.requires.room in
    let room : a + size ≤ length c.loop-k.text = omega (arith, c.loop-k.auto.text) in
    let same : a + size - a ≡ size = omega arith in
    let len : length c.put_fixed.new.line ≡ size =
    c.put_fixed.auto.line ∙ length-take-le (a + size - a) (drop a c.loop-k.text) (omega (arith, length-drop a c.loop-k.text)) ∙ same in
    let inside = within_bytes n cols k c.loop-k-test.true in
    let more = take-put_mid a (a + size - a) c.loop-k.text c.put_fixed.new.line (size * (k + 1)) (omega arith) (omega arith) in
    let begin : cols * k ≡ p.cols * k = ap (λ m. m * k) c.requires.cols in
    let cut : cols * k + cols - cols * k ≡ min (cols * k + p.cols) n - cols * k = omega (arith, c.requires.cols) in
    let after = c.put_fixed.ensures ∙ ap (λ m. line (c.args.at + cols * k) (take m (drop (cols * k) c.args.bytes.now))) cut in
    let pos : 0 < p.cols = p.some in
    more ∙ lines_next_at line p.cols c.args.at k (cols * k) c.args.bytes.now _ _ pos begin (omega (arith, inside, pos, c.requires.cols)) c.loop-k.invariant after

pub returns-clause-most : goal.returns-clause-most
returns-clause-most c =
    let lines = length c.args.bytes.now / c.args.sizes.cols in
    let less : c.args.sizes.field + c.args.sizes.cols + 12 ≤ c.args.form.now.field + c.args.form.now.cols + 26 = omega (arith, c.requires.field, c.requires.cols) in
    omega (arith, mul-le-mul_left {m = c.args.sizes.field + c.args.sizes.cols + 12} {n = c.args.form.now.field + c.args.form.now.cols + 26} lines less)

pub overflow_mul-result : goal.overflow_mul-result
overflow_mul-result c =
    let size = c.args.sizes.field + c.args.sizes.cols + 12 in
    let fits = text_fits (length c.args.bytes.now) c.args.sizes.cols size (c.args.sizes.field + c.args.sizes.cols + 26) (length c.args.text.now) (omega (arith, c.args.form.now.some, c.requires.cols)) (omega arith) c.requires.room in
    omega (arith, fits)
