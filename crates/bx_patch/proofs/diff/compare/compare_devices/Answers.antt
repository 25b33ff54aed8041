use Rattle.std.proofs.Common.{arith}
use Rattle.bx_patch.specs.Text.{headed, patch_lines}
use Rattle.bx_patch.proofs.CountLemmas.{number_is}
use Rattle.bx_patch.proofs.WritingLemmas.{IfErr-map, OnOk-map, ended_failed, ended_put, never_ended}
use Rattle.bx_patch.proofs.diff.compare.compare_devices.Goals as goal

pub returns-in-Err-clause-part : goal.returns-in-Err-clause-part
returns-in-Err-clause-part g c = λ faithful new_is known.
    let place = c.args.walk.place in
    let lines = patch_lines place.extent (g.D.Device.image c.args.old.now) (g.E.Device.image c.args.new.now) in
    never_ended c.in-Err.fault (headed place.head.now lines) (g.W.Write.contents c.args.out.now) _ (c.in-Err.ensures.part faithful new_is known)

pub returns-in-Ok-clause-text : goal.returns-in-Ok-clause-text
returns-in-Ok-clause-text g c = λ faithful new_is known.
    let place = c.args.walk.place in
    let x = g.D.Device.image c.args.old.now in
    let y = g.E.Device.image c.args.new.now in
    let lines = patch_lines place.extent x y in
    let number = c.compare_lines.new.writing.number in
    let put = c.in-Ok.ensures.put faithful new_is known in
    let is = number_is place.extent place.head.now x y number c.requires.head (omega (arith, c.requires.small, c.requires.old_len faithful, c.requires.new_len new_is)) put.number_is in
    OnOk-map c.put_end.result
    (ended_put place.head.now lines number c.compare_lines.new.writing.written (g.W.Write.contents c.args.out.now) (g.W.Write.contents c.compare_lines.new.out) (g.W.Write.contents c.put_end.new.out) put is)
    c.put_end.ensures.put

pub returns-in-Ok-clause-part : goal.returns-in-Ok-clause-part
returns-in-Ok-clause-part g c = λ faithful new_is known.
    let place = c.args.walk.place in
    let x = g.D.Device.image c.args.old.now in
    let y = g.E.Device.image c.args.new.now in
    let lines = patch_lines place.extent x y in
    let number = c.compare_lines.new.writing.number in
    let put = c.in-Ok.ensures.put faithful new_is known in
    let is = number_is place.extent place.head.now x y number c.requires.head (omega (arith, c.requires.small, c.requires.old_len faithful, c.requires.new_len new_is)) put.number_is in
    IfErr-map c.put_end.result
    (λ fault. ended_failed fault place.head.now lines number c.compare_lines.new.writing.written (g.W.Write.contents c.args.out.now) (g.W.Write.contents c.compare_lines.new.out) (g.W.Write.contents c.put_end.new.out) put is)
    c.put_end.ensures.part
