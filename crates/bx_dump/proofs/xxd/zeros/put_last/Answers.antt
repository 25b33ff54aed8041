use Rattle.std.proofs.Common.{◌≡◌, ◌+◌, ◌-◌, ◌*◌, ◌/◌, ◌<◌, ◌≤◌, ℕ, List, ◌++◌, length, min, take, drop, arith, sym, ap, ◌∙◌}
use Rattle.std.proofs.lemmas.List.{length-drop, length-take-le, take-take, take_rest}
use Rattle.std.proofs.Math.Seq.{take-append-add}
use Rattle.bx_dump.specs.private.Zeros.{row_end, row_room, PutsRows}
use Rattle.bx_dump_columns.specs.Lines.{in_lines}
use Rattle.bx_dump.proofs.ZerosLemmas.{last_above, last_below, last_count, last_one, put_last, row_room_most, whole_lines}
use Rattle.bx_dump.proofs.xxd.zeros.put_last.Goals as goal

-- the room for the lines, and for one more behind them
room_first : (room full text : ℕ) → room * (full + 1 + 2) ≤ text → room * (full + 1) ≤ text
room_first room full text fits = omega arith

room_last : (room full used row text : ℕ) → row ≤ room → room * (full + 1 + 2) ≤ text → used + row ≤ room * (full + 1) → row + room ≤ text - used
room_last room full used row text le fits most = omega arith

pub put_rows-used-requires-clause-room : goal.put_rows-used-requires-clause-room
put_rows-used-requires-clause-room g c =
    let C = g.F.LineForm.cols c.args.form.now in
    let R = g.F.LineForm.room c.args.form.now in
    let bytes = c.args.bytes.now in
    let L = length bytes in
    let value = c.line_len-cols.ensures.value in
    let pos = rw value at c.line_len-cols.ensures.some in
    let full = (L - 1) / C in
    let size : length (take (C * full) bytes) ≡ C * full = length-take-le (C * full) bytes (omega (arith, last_above L C pos c.requires.some)) in
    let lines : length (take (C * full) bytes) / C ≡ full = ap (λ t. t / C) size ∙ whole_lines C full pos in
    let room = rw (last_count L C pos c.requires.some) at c.requires.room in
    rw (value, lines) (room_first R full (length c.args.text.now) room)

pub split_at_mut-rest-requires : goal.split_at_mut-rest-requires
split_at_mut-rest-requires g c =
    let C = g.F.LineForm.cols c.args.form.now in
    let R = g.F.LineForm.room c.args.form.now in
    let bytes = c.args.bytes.now in
    let L = length bytes in
    let value = c.line_len-cols.ensures.value in
    let pos = rw value at c.line_len-cols.ensures.some in
    let full = (L - 1) / C in
    let size : length (take (C * full) bytes) ≡ C * full = length-take-le (C * full) bytes (omega (arith, last_above L C pos c.requires.some)) in
    let lines : length (take (C * full) bytes) / C ≡ full = ap (λ t. t / C) size ∙ whole_lines C full pos in
    let room = rw (last_count L C pos c.requires.some) at c.requires.room in
    let most = rw (value, lines) at c.put_rows-used.ensures.most in
    omega (arith, most, room_first R full (length c.args.text.now) room, c.put_rows-used.auto.text)

pub put_shown-requires-clause-room : goal.put_shown-requires-clause-room
put_shown-requires-clause-room g c =
    let C = g.F.LineForm.cols c.args.form.now in
    let R = g.F.LineForm.room c.args.form.now in
    let bytes = c.args.bytes.now in
    let L = length bytes in
    let value = c.line_len-cols.ensures.value in
    let pos = rw value at c.line_len-cols.ensures.some in
    let full = (L - 1) / C in
    let size : length (take (C * full) bytes) ≡ C * full = length-take-le (C * full) bytes (omega (arith, last_above L C pos c.requires.some)) in
    let lines : length (take (C * full) bytes) / C ≡ full = ap (λ t. t / C) size ∙ whole_lines C full pos in
    let room = rw (last_count L C pos c.requires.some) at c.requires.room in
    let most = rw (value, lines) at c.put_rows-used.ensures.most in
    let tail : length (take (L - C * full) (drop (C * full) bytes)) ≡ L - C * full = ap length (take_rest bytes (C * full)) ∙ length-drop (C * full) bytes in
    let one : R * ((L - C * full + C - 1) / C) ≡ R = last_one L C R pos c.requires.some in
    let zeros = c.put_rows-used.new.zeros in
    rw (value, tail, one) (omega (arith, room_last R full c.put_rows-used.result (row_room R zeros) (length c.args.text.now) (row_room_most R zeros) room most, c.split_at_mut-rest.ensures.back_len, c.put_rows-used.auto.text))

fits_both : (room full used row shown text : ℕ) → room * (full + 1 + 2) ≤ text → used + row ≤ room * (full + 1) → shown ≤ row + room → used + shown ≤ text
fits_both room full used row shown text fits most last = omega arith

pub returns-clause-within : goal.returns-clause-within
returns-clause-within g c =
    let C = g.F.LineForm.cols c.args.form.now in
    let R = g.F.LineForm.room c.args.form.now in
    let bytes = c.args.bytes.now in
    let L = length bytes in
    let value = c.line_len-cols.ensures.value in
    let pos = rw value at c.line_len-cols.ensures.some in
    let full = (L - 1) / C in
    let size : length (take (C * full) bytes) ≡ C * full = length-take-le (C * full) bytes (omega (arith, last_above L C pos c.requires.some)) in
    let lines : length (take (C * full) bytes) / C ≡ full = ap (λ t. t / C) size ∙ whole_lines C full pos in
    let room = rw (last_count L C pos c.requires.some) at c.requires.room in
    let most = rw (value, lines) at c.put_rows-used.ensures.most in
    let tail : length (take (L - C * full) (drop (C * full) bytes)) ≡ L - C * full = ap length (take_rest bytes (C * full)) ∙ length-drop (C * full) bytes in
    let one : R * ((L - C * full + C - 1) / C) ≡ R = last_one L C R pos c.requires.some in
    let shown = rw (value, tail, one) at c.put_shown.ensures.most in
    fits_both R full c.put_rows-used.result (row_room R c.put_rows-used.new.zeros) c.put_shown.result (length c.args.text.now) room most shown

pub overflow_add-result : goal.overflow_add-result
overflow_add-result g c =
    let C = g.F.LineForm.cols c.args.form.now in
    let R = g.F.LineForm.room c.args.form.now in
    let bytes = c.args.bytes.now in
    let L = length bytes in
    let value = c.line_len-cols.ensures.value in
    let pos = rw value at c.line_len-cols.ensures.some in
    let full = (L - 1) / C in
    let size : length (take (C * full) bytes) ≡ C * full = length-take-le (C * full) bytes (omega (arith, last_above L C pos c.requires.some)) in
    let lines : length (take (C * full) bytes) / C ≡ full = ap (λ t. t / C) size ∙ whole_lines C full pos in
    let room = rw (last_count L C pos c.requires.some) at c.requires.room in
    let most = rw (value, lines) at c.put_rows-used.ensures.most in
    let tail : length (take (L - C * full) (drop (C * full) bytes)) ≡ L - C * full = ap length (take_rest bytes (C * full)) ∙ length-drop (C * full) bytes in
    let one : R * ((L - C * full + C - 1) / C) ≡ R = last_one L C R pos c.requires.some in
    let shown = rw (value, tail, one) at c.put_shown.ensures.most in
    let few = fits_both R full c.put_rows-used.result (row_room R c.put_rows-used.new.zeros) c.put_shown.result (length c.args.text.now) room most shown in
    omega (arith, few)

pub returns-clause-text : goal.returns-clause-text
returns-clause-text g c xs m start has place =
    let C = g.F.LineForm.cols c.args.form.now in
    let line = g.F.LineForm.line c.args.form.now in
    let bytes = c.args.bytes.now in
    let L = length bytes in
    let value = c.line_len-cols.ensures.value in
    let pos = rw value at c.line_len-cols.ensures.some in
    let full = (L - 1) / C in
    let above = last_above L C pos c.requires.some in
    let below = last_below L C pos c.requires.some in
    let size : length (take (C * full) bytes) ≡ C * full = length-take-le (C * full) bytes (omega (arith, above)) in
    let lines : length (take (C * full) bytes) / C ≡ full = ap (λ t. t / C) size ∙ whole_lines C full pos in
    let cut : take (C * full) (take (C * full) bytes) ≡ take (C * full) bytes = take-take (C * full) (C * full) bytes (omega arith) in
    let new = c.put_rows-used.new.zeros in
    let first = take c.put_rows-used.result c.put_rows-used.new.text in
    let second = take c.put_shown.result c.put_shown.new.text in
    let rows : PutsRows line C full c.args.zeros.now new c.args.at (take (C * full) bytes) first = rw (value, lines, cut) at c.put_rows-used.ensures.text in
    let puts : PutsRows line C full c.args.zeros.now new (start + length xs) (take (C * full) bytes) first = rw place at rows in
    let tail : take (L - C * full) (drop (C * full) bytes) ≡ drop (C * full) bytes = take_rest bytes (C * full) in
    let shown : second ≡ row_end line C (c.args.at + C * full) new ++ in_lines line C (c.args.at + C * full) (drop (C * full) bytes) = rw (value, tail) at c.put_shown.ensures.text in
    let is : second ≡ row_end line C (start + length xs + C * full) new ++ in_lines line C (start + length xs + C * full) (drop (C * full) bytes) = rw place at shown in
    let front = c.split_at_mut-rest.result.0.now in
    let more = c.put_shown.new.text in
    let text : take (c.put_rows-used.result + c.put_shown.result) (front ++ more) ≡ first ++ second =
    ap (λ n. take (n + c.put_shown.result) (front ++ more)) (sym c.split_at_mut-rest.ensures.front_len)
    ∙ take-append-add front more c.put_shown.result
    ∙ ap (λ t. t ++ second) c.split_at_mut-rest.ensures.front in
    rw text (put_last line C start pos xs m has.0 full c.args.zeros.now new bytes first second has above below puts is)
