use Rattle.std.proofs.Common.{◌<◌, [], length, get_or, arith}
use Rattle.std.proofs.lemmas.Option.{slice_get-get_or}
use Rattle.bx_dd.proofs.OperandsLemmas.{fault_here, fault_later}
use Rattle.bx_dd.proofs.operands.first_fault.Goals as goal

pub returns-in-Some : goal.returns-in-Some
returns-in-Some g c =
    let words = c.args.words.now in
    let i = c.loop-i.i in
    let inside : i < length words = omega arith in
    let word = get_or words i [] in
    let is = slice_get-get_or words i [] inside in
    fault_here words i inside word is c.loop-i.invariant c.in-Some.fault (c.in-Some.ensures word is)

pub loop-i-preserved : goal.loop-i-preserved
loop-i-preserved g c =
    let words = c.args.words.now in
    let i = c.loop-i.i in
    let inside : i < length words = omega arith in
    let word = get_or words i [] in
    let is = slice_get-get_or words i [] inside in
    fault_later words i inside word is c.loop-i.invariant (c.in-None.ensures word is)
