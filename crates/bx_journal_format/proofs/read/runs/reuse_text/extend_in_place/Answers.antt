use Rattle.std.proofs.Common.{◌≡◌, ◌+◌, ◌*◌, ◌++◌, List, ℕ, length, take, drop, ap, sym, ◌∙◌, subst, arith}
use Rattle.bx_journal_format.specs.read.Followed.{GoesOnBy, with_last}
use Rattle.bx_journal_format.proofs.OverLemmas.{over_whole}
use Rattle.bx_journal_format.proofs.read.runs.reuse_text.extend_in_place.Goals as goal

pub returns-clause-goes_on : goal.returns-clause-goes_on
returns-clause-goes_on g c front =
    let count = c.put_run-count.result in
    let old : List ℕ = c.args.text.bytes.items in
    let held : List ℕ = c.put_run-count.new.text in
    let first : List ℕ = c.as_slice.result.now in
    let same : length held ≡ length old = c.put_run-count.ensures.same_length ∙ ap length c.as_mut_slice.ensures.value in
    let all : take c.args.text.bytes.len (held ++ drop (length held) old) ≡ held = over_whole c.args.text.bytes.len old held same (omega (arith, c.args.text.bytes.ok.0, c.args.text.bytes.ok.1)) in
    let size : c.len-size.result + 16 * count ≡ length first + 16 * count = omega (arith, c.len-size.ensures, ap length c.as_slice.ensures.value, c.args.bytes.ok.0, c.args.bytes.ok.1) in
    let run : take (length first + 16 * count) held ≡ c.in_ok-bytes.field-0.bytes.items = sym (c.in_ok-bytes.ensures.bytes ∙ ap (take (c.len-size.result + 16 * count)) all ∙ ap (λ n. take n held) size) in
    subst (λ rest. GoesOnBy c.args.len (drop c.args.text.from rest) (with_last front c.args.at c.args.bytes.items) (with_last front c.args.at c.in_ok-bytes.field-0.bytes.items) count) c.as_mut_slice.ensures.value
    (subst (λ bytes. GoesOnBy c.args.len (drop c.args.text.from c.as_mut_slice.result.now) (with_last front c.args.at bytes) (with_last front c.args.at c.in_ok-bytes.field-0.bytes.items) count) c.as_slice.ensures.value
    (subst (λ bytes. GoesOnBy c.args.len (drop c.args.text.from c.as_mut_slice.result.now) (with_last front c.args.at first) (with_last front c.args.at bytes) count) run (c.put_run-count.ensures.goes_on front)))
