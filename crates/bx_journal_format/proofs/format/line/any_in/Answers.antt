use Rattle.std.proofs.Common.{◌≡◌, ℕ, List, Some, take, sym, ◌∙◌, ap, arith, length-take}
use Rattle.std.proofs.lemmas.List.{take-take}
use Rattle.bx_journal_format.proofs.SavedLines.{saved_by, saved_stops, saved_none, piece_by}
use Rattle.bx_journal_format.proofs.format.line.any_in.Goals as goal

pub returns-in_default : goal.returns-in_default
returns-in_default c = saved_none c.args.len c.args.line.now c.in_default.ensures.piece

pub returns-then-count-gt16 : goal.returns-then-count-gt16
returns-then-count-gt16 c =
    saved_stops c.args.len c.args.line.now _ (piece_by c.args.line.now c.in-Ok.read.hex.now _ c.in-Ok.read.at c.in-Ok.ensures.piece c.decode-count.ensures.bytes) (λ h. absurd (omega (arith, h, length-take c.decode-count.result c.decode-count.new.out)))

pub returns : goal.returns
returns c =
    let front : take c.decode-count.result c.copy_from_slice.new.self ≡ take c.decode-count.result c.decode-count.new.out =
    ap (take c.decode-count.result) c.copy_from_slice.ensures.after ∙ take-take c.decode-count.result 16 c.decode-count.new.out (omega arith) in
    saved_by c.args.len c.args.line.now _ c.within.result
    (piece_by c.args.line.now c.in-Ok.read.hex.now _ c.in-Ok.read.at c.in-Ok.ensures.piece c.decode-count.ensures.bytes ∙ ap (λ (bytes : List ℕ). Some (record { at = c.in-Ok.read.at; bytes = bytes })) (sym front))
    (omega arith) (omega arith) c.within.ensures
