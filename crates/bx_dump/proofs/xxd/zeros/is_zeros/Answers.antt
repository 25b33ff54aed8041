use Rattle.std.proofs.Common.{rules, ◌≡◌, ℕ, ◌≤◌, length, take, replicate, ap, sym, ◌∙◌, arith}
use Rattle.std.specs.Prelude.{bytes_eq}
use Rattle.bx_dump.specs.Zeros.{all_zeros}
use Rattle.bx_dump.proofs.ZerosLemmas.{zeros_front}
use Rattle.bx_dump.proofs.xxd.zeros.is_zeros.Goals as goal

pub returns : goal.returns
returns c =
    let line = c.args.line.now in
    let same : bytes_eq line (take (length line) c.blank-zeros.result) ≡ all_zeros line = ap (λ t. bytes_eq line (take (length line) t)) c.blank-zeros.ensures ∙ zeros_front line 256 c.requires in
    rw same at c.eq.ensures
