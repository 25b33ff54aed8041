use Rattle.std.proofs.Common.{◌≡◌, ◌<◌, ◌+◌, ◌∙◌, List, ℕ, length, subst, arith}
use Rattle.std.specs.List.{flat_map}
use Rattle.std.specs.Io.KnownBytes.{Appends}
use Rattle.std.specs.Prelude.{IfErr, OnOk}
use Rattle.std.proofs.lemmas.Bool.Decides.{nat_tests}
use Rattle.bx_read.specs.private.Window.{newlines}
use Rattle.bx_patch.specs.Diff.{counted}
use Rattle.bx_patch.specs.Text.{signed_line_text}
use Rattle.bx_patch.specs.private.Diff.{PutsPart}
use Rattle.bx_patch.proofs.WritingLemmas.{HasBegun, IfErr-map, OnOk-three, part_behind, part_longer, put_more, text_failed}
use Rattle.bx_patch.proofs.diff.writing.put_text.Goals as goal

pub returns-in-Ok-clause-put : goal.returns-in-Ok-clause-put
returns-in-Ok-clause-put g c = λ lines more first text put.
    let len : 0 < length c.as_slice.result.now = grind (arith, nat_tests, c.if-is_empty.false, c.is_empty.ensures) in
    let some : 0 < length (flat_map signed_line_text more) = subst (λ (t : List ℕ). 0 < length t) (c.as_slice.ensures.value ∙ text) len in
    let same = c.in-Ok.ensures.text ∙ text in
    let out = g.W.Write.contents c.begin.new.out in
    let after = subst (λ (t : List ℕ). OnOk c.put_lines.result (Appends out (g.W.Write.contents c.put_lines.new.out) t)) same c.put_lines.ensures.put in
    let number = subst (λ (t : List ℕ). OnOk c.put_lines.result (c.put_lines.new.writing.number ≡ counted (c.begin.new.writing.number + newlines t))) same c.put_lines.ensures.number in
    let count = subst (λ (t : List ℕ). OnOk c.put_lines.result (c.put_lines.new.writing.written ≡ counted (c.begin.new.writing.written + length t))) same c.put_lines.ensures.count in
    let begun : HasBegun c.args.head.now lines c.begin.new.writing.number c.begin.new.writing.written first out =
    record { put = c.in-Ok.ensures.put lines first put; number_is = c.in-Ok.ensures.number lines first put; count = c.in-Ok.ensures.count lines first put } in
    OnOk-three c.put_lines.result
    (λ put_on number_on count_on. put_more c.args.head.now lines more c.begin.new.writing.number c.put_lines.new.writing.number c.begin.new.writing.written c.put_lines.new.writing.written first out _ some
    begun (record { put = put_on; number_is = number_on; count = count_on })) after number count

pub returns-in-Ok-clause-part : goal.returns-in-Ok-clause-part
returns-in-Ok-clause-part g c = λ lines more first text put.
    let len : 0 < length c.as_slice.result.now = grind (arith, nat_tests, c.if-is_empty.false, c.is_empty.ensures) in
    let some : 0 < length (flat_map signed_line_text more) = subst (λ (t : List ℕ). 0 < length t) (c.as_slice.ensures.value ∙ text) len in
    let same = c.in-Ok.ensures.text ∙ text in
    let out = g.W.Write.contents c.begin.new.out in
    let part = subst (λ (t : List ℕ). IfErr c.put_lines.result (PutsPart c.begin.new.writing.written out (g.W.Write.contents c.put_lines.new.out) t)) same c.put_lines.ensures.part in
    IfErr-map c.put_lines.result
    (λ fault failed. text_failed fault c.args.head.now lines more first _ some
    (part_behind fault first out _ _ (flat_map signed_line_text more) c.begin.new.writing.written (c.in-Ok.ensures.put lines first put) (c.in-Ok.ensures.count lines first put) failed)) part

pub returns-in-Err-clause-part : goal.returns-in-Err-clause-part
returns-in-Err-clause-part g c = λ lines more first text put.
    let len : 0 < length c.as_slice.result.now = grind (arith, nat_tests, c.if-is_empty.false, c.is_empty.ensures) in
    let some : 0 < length (flat_map signed_line_text more) = subst (λ (t : List ℕ). 0 < length t) (c.as_slice.ensures.value ∙ text) len in
    text_failed c.in-Err.fault c.args.head.now lines more first _ some (part_longer c.in-Err.fault first _ _ (flat_map signed_line_text more) (c.in-Err.ensures.part lines first put))
