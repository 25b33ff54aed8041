-- What a line does, from what the tests on it say.
use Rattle.std.proofs.Common.{◌≡◌, ℕ, suc, Bool, true, false, List, ◌∷◌, length, refl, Option, Some, None, arith}
use Rattle.std.specs.Str.{bytes_eq}
use Rattle.bx_journal_format.specs.Kept.{Run, Kept, with_run}
use Rattle.bx_journal_format.specs.declared.format.version.Version.{Version}
use Rattle.bx_journal_format.specs.Line.{after_in, save_line, saved_in}
use Rattle.bx_journal_format.specs.Text.{Entry, Stage, Between, Saving, Ending, begins, next_at}
use Rattle.std.specs.Prelude.{◌<◌, ◌≤◌, nat_lt}
use Rattle.std.proofs.lemmas.Grind.{common_steps}
use Rattle.bx_journal_format.specs.declared.format.version.Version.TheVariants.{First, Second}

module _ (es : List Entry) (n : ℕ) (v : Version) (s : Kept) (line : List ℕ) (e : suc (length es) ≡ n) where
  pub saves : bytes_eq line (save_line n) ≡ true → next_at es (Saving v s) line ≡ Some (record { entries = es; stage = Ending v s })
  unfolding next_at
  saves is = rw (e, is) refl

  pub adds : (p : Run) → bytes_eq line (save_line n) ≡ false → saved_in s.len line ≡ Some p → next_at es (Saving v s) line ≡ Some (record { entries = es; stage = Saving v (record { len = s.len; runs = with_run s.runs p }) })
  unfolding next_at
  adds p is piece = rw (e, is, piece) refl

  pub stops : bytes_eq line (save_line n) ≡ false → saved_in s.len line ≡ None → next_at es (Saving v s) line ≡ None
  unfolding next_at
  stops is none = rw (e, is, none) refl

  pub ends : (after : Option ℕ) → after_in v n line ≡ Some after → next_at es (Ending v s) line ≡ Some (record { entries = record { saved = s; after = after } ∷ es; stage = Between })
  unfolding next_at
  ends after is = rw (e, is) refl

  pub goes_on : after_in v n line ≡ None → next_at es (Ending v s) line ≡ None
  unfolding next_at
  goes_on none = rw (e, none) refl

room_test : (es : List Entry) (n : ℕ) (full : Bool) → suc (length es) ≡ n → (full ≡ true → n ≤ 65535) → (full ≡ false → 65535 < n) → nat_lt (length es) 65535 ≡ full
room_test es n true e h k = let most : n ≤ 65535 = h refl in let room : length es < 65535 = omega arith in grind (arith, common_steps)
room_test es n false e h k = let most : 65535 < n = k refl in let room : 65535 ≤ length es = omega arith in grind (arith, common_steps)

pub start_full : (es : List Entry) (n : ℕ) (line : List ℕ) → suc (length es) ≡ n → 65535 < n → next_at es Between line ≡ None
unfolding next_at
start_full es n line e full = rw (room_test es n false e (λ h. absurd (cc)) (λ h. full)) refl

pub start_first : (es : List Entry) (n : ℕ) (line : List ℕ) (s : Stage) → suc (length es) ≡ n → n ≤ 65535 → begins es First line ≡ Some s → next_at es Between line ≡ Some (record { entries = es; stage = s })
unfolding next_at
start_first es n line s e room is = rw (room_test es n true e (λ h. room) (λ h. absurd (cc)), is) refl

pub start_second : (es : List Entry) (n : ℕ) (line : List ℕ) (s : Stage) → suc (length es) ≡ n → n ≤ 65535 → begins es First line ≡ None → begins es Second line ≡ Some s → next_at es Between line ≡ Some (record { entries = es; stage = s })
unfolding next_at
start_second es n line s e room none is = rw (room_test es n true e (λ h. room) (λ h. absurd (cc)), none, is) refl

pub start_stops : (es : List Entry) (n : ℕ) (line : List ℕ) → suc (length es) ≡ n → n ≤ 65535 → begins es First line ≡ None → begins es Second line ≡ None → next_at es Between line ≡ None
unfolding next_at
start_stops es n line e room none is = rw (room_test es n true e (λ h. room) (λ h. absurd (cc)), none, is) refl
