use Rattle.std.proofs.Common.{◌≡◌, ◌+◌, ◌-◌, ◌*◌, ◌/◌, ◌<◌, ◌≤◌, ℕ, true, false, ◌++◌, length, min, take, drop, arith, sym, ap, subst, ◌∙◌, cond}
use Rattle.std.specs.Prelude.{nat_lt}
use Rattle.std.proofs.lemmas.List.{length-drop, length-take-le, take-take}
use Rattle.std.proofs.Math.Nat.{mul-div-le, mul-le-mul_left}
use Rattle.bx_text.proofs.KnownLemmas.{take-put_mid_more}
use Rattle.bx_dump.specs.private.Zeros.{row_room, PutsRows}
use Rattle.bx_dump.proofs.ZerosLemmas.{cancel_lines, lines_left, row_room_most, rows_next, rows_none, whole_lines}
use Rattle.bx_dump.proofs.xxd.zeros.put_rows.Goals as goal

-- the room that is left
room_left : (room done count used row text : ℕ) → done ≤ count → used + row ≤ room * (done + 1) → room * (count + 1) ≤ text → row + room * (count - done) ≤ text - used
room_left room done count used row text le so_far fits =
    let parts : room * (count + 1) ≡ room * (done + 1) + room * (count - done) = ap (λ j. room * j) (split done count le) ∙ omega arith in
    omega arith
  where
    split : (a b : ℕ) → a ≤ b → b + 1 ≡ a + 1 + (b - a)
    split a b le = omega arith

pub loop-done-init : goal.loop-done-init
loop-done-init g c =
    let C = g.F.LineForm.cols c.args.form.now in
    let R = g.F.LineForm.room c.args.form.now in
    record {
      inside = omega arith;
      few = c.requires.few;
      room = omega (arith, row_room_most R c.args.zeros.now);
      text = rows_none (g.F.LineForm.line c.args.form.now) C c.args.zeros.now c.args.at (take (C * 0) c.args.bytes.now);
    }

pub put_row-row-requires-clause-room : goal.put_row-row-requires-clause-room
put_row-row-requires-clause-room g c =
    let C = g.F.LineForm.cols c.args.form.now in
    let R = g.F.LineForm.room c.args.form.now in
    let bytes = c.args.bytes.now in
    let value = c.line_len-cols.ensures.value in
    let pos = rw value at c.line_len-cols.ensures.some in
    let before = rw value at c.loop-done.invariant in
    let done = c.loop-done.done in
    let used = c.loop-done.used in
    let count = length bytes / C in
    let fits : C * count ≤ length bytes = mul-div-le (length bytes) C in
    let size = lines_left C done count bytes pos before.inside fits in
    let left : length (take (C * count - C * done) (drop (C * done) bytes)) / C ≡ count - done = ap (λ t. t / C) size ∙ whole_lines C (count - done) pos in
    let text : length (take (length c.loop-done.text - used) (drop used c.loop-done.text)) ≡ length c.loop-done.text - used =
    length-take-le (length c.loop-done.text - used) (drop used c.loop-done.text) (omega (arith, length-drop used c.loop-done.text)) in
    rw (value, left, text) (room_left R done count used (row_room R c.loop-done.zeros) (length c.loop-done.text) before.inside before.room (omega (arith, c.loop-done.auto.text, c.requires.room)))

pub loop-done-preserved : goal.loop-done-preserved
loop-done-preserved g c =
    let C = g.F.LineForm.cols c.args.form.now in
    let R = g.F.LineForm.room c.args.form.now in
    let bytes = c.args.bytes.now in
    let value = c.line_len-cols.ensures.value in
    let pos = rw value at c.line_len-cols.ensures.some in
    let before = rw value at c.loop-done.invariant in
    let next = rw value at c.put_row-row.ensures in
    let done = c.loop-done.done in
    let used = c.loop-done.used in
    let lines = c.put_row-row.result.lines in
    let count = length bytes / C in
    let fits : C * count ≤ length bytes = mul-div-le (length bytes) C in
    let size = lines_left C done count bytes pos before.inside fits in
    let some : lines ≤ count - done = cancel_lines C lines (count - done) pos (omega (arith, next.inside, size)) in
    let near : C * lines ≤ C * (count - done) = mul-le-mul_left {m = lines} {n = count - done} C some in
    let long : C * count - C * done ≡ C * (count - done) = rest_is C done count before.inside in
    let ys : take (C * lines) (take (C * count - C * done) (drop (C * done) bytes)) ≡ take (C * lines) (drop (C * done) bytes) = take-take (C * lines) (C * count - C * done) (drop (C * done) bytes) (omega arith) in
    let place : c.args.at + C * done ≡ c.args.at + C * done = omega arith in
    let total : R * (count + 1) ≤ length c.loop-done.text = omega (arith, c.loop-done.auto.text, c.requires.room) in
    let left = room_left R done count used (row_room R c.loop-done.zeros) (length c.loop-done.text) before.inside before.room total in
    let most : R * lines ≤ R * (count - done) = mul-le-mul_left {m = lines} {n = count - done} R some in
    let fit : used ≤ length c.loop-done.text = used_fits R done count used (row_room R c.loop-done.zeros) (length c.loop-done.text) before.inside before.room total in
    let room : length c.put_row-row.new.text ≡ length c.loop-done.text - used =
    c.put_row-row.auto.text ∙ length-take-le (length c.loop-done.text - used) (drop used c.loop-done.text) (omega (arith, length-drop used c.loop-done.text)) in
    let more = take-put_mid_more c.loop-done.text c.put_row-row.new.text used (length c.loop-done.text - used) c.put_row-row.result.used (omega (arith, fit)) (omega (arith, room, next.most, left, most)) in
    record {
      inside = rw value (omega (arith, some, before.inside));
      few = next.few;
      room = omega (arith, next.most, before.room);
      text = rw more (rows_next (g.F.LineForm.line c.args.form.now) C done lines c.args.zeros.now c.loop-done.zeros c.put_row-row.new.zeros c.args.at (c.args.at + C * done) bytes _ _ _ place ys before.text next.text);
    }
  where
    rest_is : (n a b : ℕ) → a ≤ b → n * b - n * a ≡ n * (b - a)
    rest_is n a b le =
        let e : a + (b - a) ≡ b = omega arith in
        let near : n * a ≤ n * b = mul-le-mul_left {m = a} {n = b} n le in
        omega (arith, ap (λ j. n * j) e)

    used_fits : (room done count used row text : ℕ) → done ≤ count → used + row ≤ room * (done + 1) → room * (count + 1) ≤ text → used ≤ text
    used_fits room done count used row text le so_far fits =
        let near : room * (done + 1) ≤ room * (count + 1) = mul-le-mul_left {m = done + 1} {n = count + 1} room (omega arith) in
        omega arith

-- both fit the text
both_fit : (room done count used row lines more text : ℕ) → done ≤ count → lines ≤ count - done → used + row ≤ room * (done + 1) → room * (count + 1) ≤ text → more ≤ row + room * lines → used + more ≤ text
both_fit room done count used row lines more text le few so_far fits next =
    let near : room * (done + 1 + lines) ≤ room * (count + 1) = mul-le-mul_left {m = done + 1 + lines} {n = count + 1} room (omega arith) in
    omega arith

pub overflow_add-used : goal.overflow_add-used
overflow_add-used g c =
    let C = g.F.LineForm.cols c.args.form.now in
    let R = g.F.LineForm.room c.args.form.now in
    let bytes = c.args.bytes.now in
    let value = c.line_len-cols.ensures.value in
    let pos = rw value at c.line_len-cols.ensures.some in
    let before = rw value at c.loop-done.invariant in
    let next = rw value at c.put_row-row.ensures in
    let done = c.loop-done.done in
    let used = c.loop-done.used in
    let lines = c.put_row-row.result.lines in
    let count = length bytes / C in
    let size = lines_left C done count bytes pos before.inside (mul-div-le (length bytes) C) in
    let some : lines ≤ count - done = cancel_lines C lines (count - done) pos (omega (arith, next.inside, size)) in
    let few : used + c.put_row-row.result.used ≤ length c.args.text.now =
    both_fit R done count used (row_room R c.loop-done.zeros) lines c.put_row-row.result.used (length c.args.text.now) before.inside some before.room c.requires.room (omega (arith, next.most)) in
    omega arith

pub returns-clause-text : goal.returns-clause-text
returns-clause-text g c =
    let C = g.F.LineForm.cols c.args.form.now in
    let value = c.line_len-cols.ensures.value in
    let before = rw value at c.loop-done.invariant in
    let test = rw value at c.loop-done-test.false in
    let all : c.loop-done.done ≡ length c.args.bytes.now / C = omega (arith, before.inside, test) in
    rw (← all) before.text
