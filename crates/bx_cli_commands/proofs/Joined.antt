-- A dump whose lines were joined makes the change that its lines make.
use Rattle.std.proofs.Common.{◌≡◌, ◌⊎◌, ⊎_elim, inl, inr, ℕ, ◌+◌, Bool, true, false, eqb, Result, Ok, Err, List, [], ◌∷◌, length, map, refl, ap, ◌∙◌, arith}
use Rattle.std.specs.Prelude.{IfOk, IfErr, Option, None}
use Rattle.std.proofs.lemmas.Bool.{eqb-true}
use Rattle.bx_text.specs.declared.owned.pieces.Piece.{Piece}
use Rattle.bx_image.specs.declared.change.Change.{Change}
use Rattle.bx_image.specs.declared.change.TheConstants.{MAX_LEN}
use Rattle.bx_image.specs.Joined.{IsInFront, AreJoined, IsSameChange}
use Rattle.bx_image.proofs.JoinedLemmas.{joined_is_same}
use Rattle.bx_read.specs.declared.fault.ReadFault.{ReadFault}
use Rattle.bx_read.specs.declared.fault.ReadFault.TheVariants.{NoMemory as ReadNoMemory}
use Rattle.bx_read.specs.Runs.{with_piece, joined}
use Rattle.bx_read.specs.Text.{dump_pieces}
use Rattle.bx_dd.specs.declared.counts.Counts.{Counts}
use Rattle.bx_journal.specs.Images.{Images, change_to}
use Rattle.bx_journal.specs.Machine.{top}
use Rattle.bx_journal.specs.SessionFault.{SessionFault}
use Rattle.bx_journal.specs.SessionFault.TheVariants.{NoMemory, TooLarge, DeviceFailed, Damaged, TooFew, JournalFull, Interrupted, Broken, LengthDiffers, NothingToRedo, RedoDamaged}
use Rattle.bx_cli_commands.specs.declared.command.Reply.{Reply}
use Rattle.bx_cli_commands.specs.Command.{dump_change}
use Rattle.bx_cli_commands.specs.Run.{ReadStep, ChangeStep, DumpStep}
use Rattle.bx_cli_commands.specs.Standing.{Standing, PerformUp}
use Rattle.bx_cli_commands.proofs.Stands.{read_step}

module _ (A : Type 0) (offset : ℕ) where
  abbrev write : ℕ × List ℕ → Piece A
  write piece = record { at = piece.0 + offset; bytes = piece.1 }

  in_front : (piece : ℕ × List ℕ) (runs : List (ℕ × List ℕ)) → IsInFront (write piece) (map write runs) (map write (with_piece piece runs))
  in_front piece [] = inl refl
  in_front piece (run ∷ runs) = go (eqb run.0 (piece.0 + length piece.1)) refl
    where
      go : (b : Bool) → eqb run.0 (piece.0 + length piece.1) ≡ b → IsInFront (write piece) (map write (run ∷ runs)) (map write (with_piece piece (run ∷ runs)))
      go true e =
          let ends : run.0 ≡ piece.0 + length piece.1 = eqb-true run.0 (piece.0 + length piece.1) e in
          let place : run.0 + offset ≡ piece.0 + offset + length piece.1 = omega arith in
          let here : ℕ → Piece A = λ at. record { at = at; bytes = run.1 } in
          rw e (inr (run.1, map write runs, ap (λ at. here at ∷ map write runs) place, refl))
      go false e = rw e (inl refl)

  runs_joined : (pieces : List (ℕ × List ℕ)) → AreJoined (map write (joined pieces)) (map write pieces)
  runs_joined [] = refl
  runs_joined (piece ∷ pieces) = (map write (joined pieces), runs_joined pieces, in_front piece (joined pieces))

  pub dump_joined : (pieces : List (ℕ × List ℕ)) → IsSameChange {A = A} (dump_change offset (joined pieces)) (dump_change offset pieces)
  dump_joined pieces = joined_is_same A (dump_change offset (joined pieces)) (dump_change offset pieces) refl (runs_joined pieces)

-- a step by a change is one by the same change
perform_same : {A : Type 0} (c d : Change A) (old : Images) (r : Result ℕ SessionFault) (after : Standing) → IsSameChange c d → PerformUp c old r after → PerformUp d old r after
perform_same c d old (Ok n) after same (new, is, (room, fit, number, stack), undone) =
    (new, is, (room, (same.same_fit (length (top old.stack)) MAX_LEN).0 fit, number, stack ∙ ap (λ x. x ∷ old.stack) (same.same_effect (top old.stack))), undone)
perform_same c d old (Err DeviceFailed) after same step = step
perform_same c d old (Err JournalFull) after same step = step
perform_same c d old (Err Interrupted) after same (inl before, fit) = (inl before, (same.same_fit (length (top old.stack)) MAX_LEN).0 fit)
perform_same c d old (Err Interrupted) after same (inr changed, fit) =
    (inr (changed ∙ ap (λ x. Standing.Down (change_to x old)) (same.same_effect (top old.stack))), (same.same_fit (length (top old.stack)) MAX_LEN).0 fit)
perform_same c d old (Err NoMemory) after same (is, room, fit) = (is, room, (same.same_fit (length (top old.stack)) MAX_LEN).0 fit)
perform_same c d old (Err TooLarge) after same (is, (room, large, stack)) =
    (is, (room, λ fit. large ((same.same_fit (length (top old.stack)) MAX_LEN).1 fit), stack))
perform_same c d old (Err (Damaged line)) after same step = step
perform_same c d old (Err (TooFew have)) after same step = step
perform_same c d old (Err Broken) after same step = step
perform_same c d old (Err (LengthDiffers expected)) after same step = step
perform_same c d old (Err (NothingToRedo have)) after same step = step
perform_same c d old (Err (RedoDamaged line)) after same step = step

change_same : {A : Type 0} (before : Standing) (c d : Change A) (counts : Option Counts) (reply : Reply) (after : Standing) → IsSameChange c d → ChangeStep before c counts reply after → ChangeStep before d counts reply after
change_same (Standing.Up old) c d counts reply after same (r, told, step) = (r, told, perform_same c d old r after same step)
change_same (Standing.Down old) c d counts reply after same step = step

read_same : {A B : Type 0} (make other : B → Change A) (answer : Result B ReadFault) (before after : Standing) (reply : Reply) →
    ((v : B) → IsSameChange (make v) (other v)) → ReadStep before make answer reply after → ReadStep before other answer reply after
read_same make other (Ok v) before after reply same step = change_same before (make v) (other v) None reply after (same v) step
read_same make other (Err e) before after reply same step = step

-- a dump that was read as runs, or refused
pub dump_step : {A : Type 0} (text : List ℕ) (offset : ℕ) (read : Result (Change A) ReadFault) (before after : Standing) (reply : Reply) →
    IfOk read (λ c. (pieces : List (ℕ × List ℕ)) × (dump_pieces text ≡ Ok pieces) × (c ≡ dump_change offset (joined pieces))) →
    IfErr read (λ e. (e ≡ ReadNoMemory) ⊎ (dump_pieces text ≡ Err e)) →
    ReadStep before (λ c. c) read reply after → DumpStep A before text offset reply after
dump_step {A = A} text offset read before after reply made fault step = ⊎_elim
    (λ none. inl none)
    (λ same. inr (read_same (λ pieces. dump_change {A = A} offset (joined pieces)) (dump_change {A = A} offset) (dump_pieces text) before after reply (dump_joined A offset) same))
    (read_step (λ pieces. dump_change {A = A} offset (joined pieces)) (dump_pieces text) read before after reply made fault step)
