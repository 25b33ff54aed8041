use Rattle.std.proofs.Common.{◌≡◌, ◌+◌, ◌*◌, suc, length, take, refl, subst, arith}
use Rattle.bx_journal_format.specs.Text.{split}
use Rattle.bx_journal_format.specs.read.Lines.{IsReadAt}
use Rattle.bx_journal_format.specs.Parsed.{entries_onto}
use Rattle.bx_journal_format.proofs.read.lines.go_on_in.Goals.{in-Saving+in_ok-gathered, in_default}
use Rattle.bx_journal_format.proofs.read.lines.go_on_in.Goals as goal

pub returns-clause-read : goal.returns-clause-read
returns-clause-read g c text older es at read rest = elim c.match-stage.branch [
  | in-Saving+in_ok-gathered w ↦
      let r = subst (λ s. IsReadAt text older es s at) w.in-Saving.is read in
      let m = r.marked in
      let s = w.in_ok-gathered.ensures.goes_on.leads text (entries_onto older es) _ at (suc (length (split (take at text)).lines)) rest (record { mark = r.mark; counted = refl }) in
      rw (w.stage-is, w.gathered-is) (record { mark = s.mark; marked = (m.0, m.1, omega (arith, m.2), m.3) })
  | in_default w ↦
      let same : at + 68 * 0 ≡ at = omega arith in
      rw (w.stage-is, w.gathered-is, same) read
]
