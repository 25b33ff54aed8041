use Rattle.std.proofs.Common.{◌≡◌, ◌+◌, ◌<◌, length, drop, sym, ◌∙◌, arith}
use Rattle.std.specs.List.{prefix_len}
use Rattle.std.proofs.lemmas.List.{length-drop, take_rest}
use Rattle.bx_text.specs.Ascii.{is_printable}
use Rattle.bx_dump.proofs.FirstLemmas.{first_run, first_short, first_long}
use Rattle.bx_dump.proofs.strings.dump.put_first.Goals as goal

pub returns-then-run-least-clause-text : goal.returns-then-run-least-clause-text
returns-then-run-least-clause-text c =
    let bytes = c.args.bytes.now in
    let quiet = c.skippable_len-quiet.result in
    let run = c.printable_len-run.result in
    let all = take_rest bytes quiet in
    let is : run ≡ prefix_len is_printable (drop quiet bytes) = rw all at c.printable_len-run.ensures.value in
    let inside : quiet + run < length bytes = omega (arith, rw all at c.printable_len-run.ensures.within, rw all at c.if-run-rest.false, length-drop quiet bytes, c.skippable_len-quiet.ensures.within) in
    sym (first_short c.args.least c.args.offsets c.args.at quiet run bytes c.requires.some c.skippable_len-quiet.ensures.quiet inside is (omega (arith, c.if-run-least.true)))

pub returns-then-run-least-clause-none : goal.returns-then-run-least-clause-none
returns-then-run-least-clause-none c =
    let bytes = c.args.bytes.now in
    let quiet = c.skippable_len-quiet.result in
    let run = c.printable_len-run.result in
    let all = take_rest bytes quiet in
    let is : run ≡ prefix_len is_printable (drop quiet bytes) = rw all at c.printable_len-run.ensures.value in
    let inside : quiet + run < length bytes = omega (arith, rw all at c.printable_len-run.ensures.within, rw all at c.if-run-rest.false, length-drop quiet bytes, c.skippable_len-quiet.ensures.within) in
    first_run c.args.least c.args.offsets c.args.at quiet run bytes c.requires.some c.skippable_len-quiet.ensures.quiet inside is

pub returns-clause-text : goal.returns-clause-text
returns-clause-text c =
    let bytes = c.args.bytes.now in
    let quiet = c.skippable_len-quiet.result in
    let run = c.printable_len-run.result in
    let all = take_rest bytes quiet in
    let is : run ≡ prefix_len is_printable (drop quiet bytes) = rw all at c.printable_len-run.ensures.value in
    let inside : quiet + run < length bytes = omega (arith, rw all at c.printable_len-run.ensures.within, rw all at c.if-run-rest.false, length-drop quiet bytes, c.skippable_len-quiet.ensures.within) in
    (rw all at c.put_line-used.ensures.text)
    ∙ sym (first_long c.args.least c.args.offsets c.args.at quiet run bytes c.requires.some c.skippable_len-quiet.ensures.quiet inside is (omega (arith, c.if-run-least.false)))

pub returns-clause-none : goal.returns-clause-none
returns-clause-none c =
    let bytes = c.args.bytes.now in
    let quiet = c.skippable_len-quiet.result in
    let run = c.printable_len-run.result in
    let all = take_rest bytes quiet in
    let is : run ≡ prefix_len is_printable (drop quiet bytes) = rw all at c.printable_len-run.ensures.value in
    let inside : quiet + run < length bytes = omega (arith, rw all at c.printable_len-run.ensures.within, rw all at c.if-run-rest.false, length-drop quiet bytes, c.skippable_len-quiet.ensures.within) in
    first_run c.args.least c.args.offsets c.args.at quiet run bytes c.requires.some c.skippable_len-quiet.ensures.quiet inside is
