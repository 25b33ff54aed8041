-- Calls that only look at three devices.
use Rattle.std.proofs.Common.{◌≡◌, ◌⊎◌, ◌∙◌, ◌↔◌, ◌<◌, ◌≤◌, ◌+◌, ◌^◌, ℕ, true, false, List, [], ◌∷◌, ◌++◌, length, length-append, Option, Some, None, refl, sym, ap, subst, inl, inr, arith}
use Rattle.std.specs.Prelude.{Result, Ok, Err, IfOk, IfSome, codes, drop, is_some, slice_index, take}
use Rattle.bx_journal_format.specs.Hex.{hex_digits}
use Rattle.bx_journal_format.proofs.HexLemmas.{length-hex_digits}
use Rattle.bx_image.specs.declared.device.Device.{Ghosts as DeviceViews}
use Rattle.bx_journal_store.specs.declared.store.TextStore.{Ghosts as StoreViews}
use Rattle.bx_journal_format.specs.Shown.{shown}
use Rattle.bx_journal_format.specs.Text.{IsAccepted, IsDamagedAt}
use Rattle.bx_journal_model.specs.Fault.{DeviceFault}
use Rattle.bx_journal_read.specs.scan.Recovery.{FindFault}
use Rattle.bx_journal_model.proofs.Judged.{undamaged}
use Rattle.bx_journal_format.specs.Text.{Between, Reads}
use Rattle.bx_journal_format.proofs.CleanLemmas.{clean_shown}
use Rattle.bx_journal.specs.Phase.{IsAtRest}
use Rattle.bx_journal.specs.Calls.{AfterFault}
use Rattle.bx_journal.specs.Devices.{Devices}
use Rattle.bx_journal.specs.SessionFault.{SessionFault}
use Rattle.bx_journal.specs.SessionFault.TheVariants.{NoMemory, DeviceFailed, Damaged, Interrupted}
use Rattle.bx_cli_commands.specs.declared.fault.Fault.TheVariants.{Session}
use Rattle.bx_run_session.specs.session.Contents.{AreFaithful, Contents}
use Rattle.bx_journal.specs.Direction.{Direction}
use Rattle.bx_journal_image.specs.declared.advice.Standing.{Standing}
use Rattle.bx_journal_image.specs.declared.finding.rest.AtRest.{AtRest}
use Rattle.bx_journal_image.specs.declared.line.form.ImageLine.{ImageLine}
use Rattle.bx_journal_image.specs.declared.sealing.seal.Span.{Span}
use Rattle.bx_journal_image.specs.Seal.{IsInSpan, IsSealOf}
use Rattle.bx_journal_image.specs.Unfinished.{IsOpenJudged}
use Rattle.bx_journal_image.specs.declared.judging.judge.Verdict.{Verdict}
use Rattle.bx_journal_image.specs.Ranges.{EndsIn, ending_line}
use Rattle.bx_run_session.specs.declared.session.looked.Ready.{Ready}
use Rattle.bx_run_session.specs.declared.session.looked.Looked.{Looked}
use Rattle.bx_run_session.specs.declared.session.looked.Looked.TheVariants.{Another, Goes}
use Rattle.bx_run_session.specs.declared.session.task.Task.{Task}
use Rattle.bx_run_session.specs.declared.session.terms.Terms.{Terms}
use Rattle.bx_run_session.specs.session.Guarded.{EndsLine, IsFoundAtRest, IsJudgedBeside, IsKeptOff, IsLineOn, IsLookedAt, IsReadyBehind, IsSure, LookAt, is_kept_off}

-- of a text that is accepted a fault of reading is a device's
pub finds_device : (faithful : Type 0) (text : List ℕ) (e : SessionFault) → faithful → IsAccepted text → FindFault faithful text e → DeviceFault e
finds_device faithful text (Damaged line) h accepted is = absurd (undamaged text line accepted (is h))
finds_device faithful text NoMemory h accepted is = is
finds_device faithful text DeviceFailed h accepted is = is
finds_device faithful text e h accepted is = absurd is

-- behind a fault of reading all is as it was
pub after_finding : (faithful : Type 0) (text : List ℕ) (A B : Type 0) (e : SessionFault) → FindFault faithful text e → B → AfterFault e A B
after_finding faithful text A B Interrupted is same = absurd is
after_finding faithful text A B e is same = same

pub finds_whole : (faithful : Type 0) (text : List ℕ) (e : SessionFault) → FindFault faithful text e → Session e ≡ Session Interrupted → ⊥
finds_whole faithful text Interrupted is same = is
finds_whole faithful text e is same = cc

-- a fault of reading a text that is as it was
pub finds_back : (faithful now : Type 0) (text left : List ℕ) (e : SessionFault) → (faithful → now) → (faithful → left ≡ text) → FindFault now left e → FindFault faithful text e
finds_back faithful now text left (Damaged line) on same is = λ h. subst (λ t. IsDamagedAt t line) (same h) (is (on h))
finds_back faithful now text left NoMemory on same is = is
finds_back faithful now text left DeviceFailed on same is = is
finds_back faithful now text left e on same is = absurd is

-- a journal at rest is accepted
pub rest_accepted : (text x : List ℕ) (stack : List (List ℕ)) → IsAtRest text x stack → IsAccepted (shown text)
rest_accepted text x stack rest =
    let same : shown text ≡ text = clean_shown text rest.stands.entries (record { reads = rest.stands.reads; whole = rest.stands.whole }) in (
      record { entries = rest.stands.entries; stage = Between },
      subst (λ s. Reads s (record { entries = rest.stands.entries; stage = Between })) (sym same) rest.stands.reads,
    )

module _ {D T : Type 0} (d : DeviceViews D) (t : StoreViews T) where
  pub look_still : (x : Devices D T) → LookAt d t x x
  look_still x = record {
    same = λ faithful. refl;
    journal_same = λ faithful. refl;
    before = record { image_before = λ h c there. there; journal_before = λ h c there. there; redo_before = λ h c there. there };
    faith = ((λ h. h, λ h. h), (λ h. h, λ h. h), (λ h. h, λ h. h));
  }

  pub faithful_on : (old new : Devices D T) → LookAt d t old new → AreFaithful d t old → AreFaithful d t new
  faithful_on old new looks faithful = (looks.faith.0.1 faithful.0, looks.faith.1.1 faithful.1, looks.faith.2.1 faithful.2)

-- the line before one step
pub line_of_one : (r : Result ImageLine SessionFault) (old : Contents) (found : Option AtRest) (now told : Standing) (others : ℕ) (span : Span)
    (way : Option Direction) (Known : AtRest → Span → Type 0) → way ≡ None → now ≡ told → IfSome found (λ f. IsInSpan span f.standing.length × Known f span)
    → IfOk r (IsSealOf old.image now others span) → IfOk r (IsLineOn way Known old found told others)
line_of_one (Ok line) old found now told others span way Known one is spans seal =
    rw one (span, spans, subst (λ (s : Standing). IsSealOf old.image s others span line) is seal)
line_of_one (Err e) old found now told others span way Known one is spans seal = tt

-- what was judged kept the task off, or not
pub kept_off : (terms : Terms) (old : Contents) (verdict : Option Verdict) → IsJudgedBeside terms.line old.journal old.image verdict
    → is_kept_off terms verdict ≡ true → IsKeptOff terms old
kept_off terms old None judged off = absurd (let wrong : false ≡ true = off in cc)
kept_off terms old (Some verdict) judged off = record { verdict = Some verdict; judged = judged; off = off }

pub sure_of : (terms : Terms) (old : Contents) (verdict : Option Verdict) → IsJudgedBeside terms.line old.journal old.image verdict
    → is_kept_off terms verdict ≡ false → IsAccepted (shown old.journal) → IsSure terms old
sure_of terms old None judged on accepted = record { verdict = None; judged = judged accepted; on = on }
sure_of terms old (Some verdict) judged on accepted = record { verdict = Some verdict; judged = judged; on = on }

-- what was found at rest
pub looked_at_rest : {R : Type 0} (r : Result Looked SessionFault) (terms : Terms) (old : Contents) (task : Task R) → (IsAccepted (shown old.journal) → IsSure terms old)
    → IfOk r (IsFoundAtRest terms old task) → IfOk r (IsLookedAt terms old task)
looked_at_rest (Ok Another) terms old task sure found = inr found
looked_at_rest (Ok (Goes ready)) terms old task sure found = (sure, inr found)
looked_at_rest (Err e) terms old task sure found = tt

ending_long : (n after : ℕ) → length (ending_line n after) ≡ 32
unfolding ending_line
ending_long n after =
    let first = length-hex_digits 8 n in
    let second = length-hex_digits 16 after in
    omega (
      arith,
      first,
      second,
      length-append (codes "done2 " ++ hex_digits 8 n ++ (codes " " ++ hex_digits 16 after)) (codes "\n"),
      length-append (codes "done2 " ++ hex_digits 8 n) (codes " " ++ hex_digits 16 after),
      length-append (codes "done2 ") (hex_digits 8 n),
      length-append (codes " ") (hex_digits 16 after),
    )

none_before : (front end line : List ℕ) → line ≡ front ++ end → length line ≡ 32 → length end ≡ 32 → front ≡ []
none_before [] end line is long other = refl
none_before (b ∷ front) end line is long other = absurd (let all = ap length is in let both = length-append (b ∷ front) end in omega (arith, all, both, long, other))

-- bytes by the first of them and the others
pub behind_first : (bytes front back : List ℕ) → front ≡ take 1 bytes → back ≡ drop 1 bytes → length bytes ≡ 33 → slice_index front 0 ≡ 10 → bytes ≡ 10 ∷ back
behind_first [] front back first rest long is = absurd (omega (arith, long))
behind_first (b ∷ bytes) front back first rest long is =
    let head : b ≡ 10 = ap (λ (s : List ℕ). slice_index s 0) (sym first) ∙ is in
    ap (λ n. n ∷ bytes) head ∙ ap (λ s. 10 ∷ s) (sym rest)

-- the last bytes of a text that ends an entry
pub ends_line : (bytes line : List ℕ) (number : Option ℕ) → bytes ≡ 10 ∷ line → length bytes ≡ 33 → IfSome number (λ n. EndsIn line n)
    → is_some number ≡ true → EndsLine bytes
ends_line bytes line None is long ends some = absurd (let wrong : false ≡ true = some in cc)
ends_line bytes line (Some n) is long ends some =
    let all = ap length is in
    let less : length line ≡ 32 = omega (arith, all, long) in
    let none : ends.front ≡ [] = none_before ends.front (ending_line n ends.after) line ends.is less (ending_long n ends.after) in
    record { front = []; number = n; after = ends.after; is = is ∙ ap (λ t. 10 ∷ t) (ends.is ∙ ap (λ f. f ++ ending_line n ends.after) none) }

-- what was found behind a stop
pub looked_behind : {R : Type 0} (ready : Ready) (terms : Terms) (old : Contents) (task : Task R) (verdict : Verdict) → is_kept_off terms (Some verdict) ≡ false
    → IsOpenJudged terms.line old.journal old.image verdict → IsReadyBehind terms old task verdict ready → IsLookedAt terms old task (Goes ready)
looked_behind ready terms old task verdict on judged is = (sure_of terms old (Some verdict) judged on, inl (verdict, judged, is))
