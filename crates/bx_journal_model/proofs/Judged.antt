-- A text that is accepted is damaged nowhere.
use Rattle.std.proofs.Common.{ℕ, List, length, sym, subst, inl, inr}
use Rattle.std.proofs.lemmas.Bool.{cases_lt}
use Rattle.bx_journal_format.specs.Text.{IsAccepted, IsDamagedAt, split, start}
use Rattle.bx_journal_format.proofs.Damage.{front_read, accepts, first_all}

pub undamaged : (text : List ℕ) (m : ℕ) → IsAccepted text → IsDamagedAt text m → ⊥
undamaged text m read damage =
    elim (cases_lt (length (split text).lines) m) [
      | inl behind ↦ damage.damaged (subst IsAccepted (sym (first_all m text behind)) read)
      | inr within ↦
          let f = front_read m (split text).lines start read.0 read.1.lines in
          damage.damaged (accepts m text f.0 within f.1)
    ]
