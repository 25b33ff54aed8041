use Rattle.std.proofs.Common.{◌≡◌, ◌<◌, ◌∙◌, ◌+◌, [], ℕ, length, replicate, sym, ap, arith}
use Rattle.std.proofs.lemmas.Bool.{eqb-true, eqb-false}
use Rattle.bx_text.proofs.KnownLemmas.{Appends-nil, Appends-trans}
use Rattle.bx_read_stream.proofs.PlainLemmas.{place_nothing, place_first, length_first, bytes_fail, zeros_fail}
use Rattle.bx_read_stream.proofs.plain.write_at.Goals as goal

pub returns-then-is_empty-clause-ok : goal.returns-then-is_empty-clause-ok
returns-then-is_empty-clause-ok g c =
    rw (place_nothing c.args.at c.args.bytes.now (eqb-true (length c.args.bytes.now) 0 (sym c.is_empty.ensures ∙ c.if-is_empty.true))) (Appends-nil _)

pub returns-then-is_empty-clause-count : goal.returns-then-is_empty-clause-count
returns-then-is_empty-clause-count g c =
    ap length (place_nothing c.args.at c.args.bytes.now (eqb-true (length c.args.bytes.now) 0 (sym c.is_empty.ensures ∙ c.if-is_empty.true)))

pub returns-in-Err-clause-err : goal.returns-in-Err-clause-err
returns-in-Err-clause-err g c =
    let other = eqb-false (length c.args.bytes.now) 0 (sym c.is_empty.ensures ∙ c.if-is_empty.false) in
    zeros_fail _ _ c.args.at c.args.bytes.now c.in-Err.fault (omega (arith, other)) c.in-Err.ensures.err

pub returns-in-Ok-emit_after-clause-ok : goal.returns-in-Ok-emit_after-clause-ok
returns-in-Ok-emit_after-clause-ok g c =
    let other = eqb-false (length c.args.bytes.now) 0 (sym c.is_empty.ensures ∙ c.if-is_empty.false) in
    rw (place_first c.args.at c.args.bytes.now (omega (arith, other)))
    (Appends-trans _ _ _ (replicate {A = ℕ} c.args.at 0) c.args.bytes.now c.in-Ok.ensures.ok c.in-Ok-emit_after.ensures.ok)

pub returns-in-Ok-emit_after-clause-count : goal.returns-in-Ok-emit_after-clause-count
returns-in-Ok-emit_after-clause-count g c =
    let other = eqb-false (length c.args.bytes.now) 0 (sym c.is_empty.ensures ∙ c.if-is_empty.false) in
    length_first c.args.at c.args.bytes.now (omega (arith, other))

pub returns-in-Err-emit_after-clause-err : goal.returns-in-Err-emit_after-clause-err
returns-in-Err-emit_after-clause-err g c =
    let other = eqb-false (length c.args.bytes.now) 0 (sym c.is_empty.ensures ∙ c.if-is_empty.false) in
    bytes_fail _ _ _ c.args.at c.args.bytes.now c.in-Err-emit_after.fault (omega (arith, other)) c.in-Ok.ensures.ok c.in-Err-emit_after.ensures.err
