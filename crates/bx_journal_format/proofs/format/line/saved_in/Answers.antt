use Rattle.std.proofs.Common.{◌≡◌, List, Some, length, sym, ◌∙◌, ap, arith, ℕ}
use Rattle.std.proofs.lemmas.List.{take_all}
use Rattle.bx_journal_format.proofs.SavedLines.{saved_by}
use Rattle.bx_journal_format.proofs.format.line.saved_in.Goals as goal

pub returns-in-Some : goal.returns-in-Some
returns-in-Some c =
    let long : length c.in-Some.full.bytes ≡ 16 = omega arith in
    saved_by c.args.len c.args.line.now _ c.within.result (c.in-Some.ensures ∙ ap (λ (bytes : List ℕ). Some (record { at = c.in-Some.full.at; bytes = bytes })) (sym (take_all 16 c.in-Some.full.bytes (omega arith)))) (omega arith) (omega arith) c.within.ensures
