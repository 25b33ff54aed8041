use Rattle.std.proofs.Common.{◌≡◌, ◌+◌, ◌*◌, subst, arith}
use Rattle.bx_journal_format.specs.Parsed.{IsReadTo, entries_onto}
use Rattle.bx_journal_format.proofs.read.runs.extend.go_on.Goals.{in-Saving+in_ok-extend_last, in_default}
use Rattle.bx_journal_format.proofs.read.runs.extend.go_on.Goals as goal

pub returns-clause-read : goal.returns-clause-read
returns-clause-read g c text older es at line read rest = elim c.match-stage.branch [
  | in-Saving+in_ok-extend_last w ↦
      let r = subst (λ s. IsReadTo text older es s at line) w.in-Saving.is read in
      let m = r.marked in
      let s = w.in_ok-extend_last.ensures.goes_on.leads text (entries_onto older es) _ at line rest (record { mark = r.mark; counted = r.counted }) in
      rw (w.stage-is, w.count-is) (record { mark = s.mark; marked = (m.0, m.1, omega (arith, m.2), m.3); counted = s.counted })
  | in_default w ↦
      let same : at + 68 * 0 ≡ at = omega arith in
      let count : line + 0 ≡ line = omega arith in
      rw (w.stage-is, w.count-is, same, count) read
]
