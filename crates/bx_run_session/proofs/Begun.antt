-- Tasks on named files that aren't begun.
use Rattle.std.proofs.Common.{◌≡◌, ◌⊎◌, ◌∙◌, ◌<◌, ℕ, Bool, true, false, Option, Some, None, List, refl, sym, ap, subst, inl, inr}
use Rattle.std.specs.Prelude.{IfSome, not, ◌&&◌}
use Rattle.std.specs.Option.{unwrap_or}
use Rattle.bx_image.specs.declared.device.Device.{Ghosts as DeviceViews}
use Rattle.bx_journal_store.specs.declared.store.TextStore.{Ghosts as StoreViews}
use Rattle.bx_journal.specs.Devices.{Devices}
use Rattle.bx_journal.specs.RecoveryOutcome.{RecoveryOutcome}
use Rattle.bx_cli_commands.specs.Refusal.{IsWholeRefusal}
use Rattle.bx_cli_commands.specs.declared.command.Reply.{Reply}
use Rattle.bx_cli_commands.specs.declared.command.Reply.TheVariants.{Refused}
use Rattle.bx_cli_commands.specs.declared.fault.Fault.TheVariants.{OpenFailed}
use Rattle.bx_world.specs.World.{SystemState}
use Rattle.bx_world.specs.files.Files.{IsOpenUnder, LeavesFiles}
use Rattle.bx_world.specs.files.Reasons.{MayRefuseOpening}
use Rattle.bx_world.specs.declared.files.guard.Guard.{Guard}
use Rattle.bx_world.specs.declared.files.names.Names.{Names}
use Rattle.bx_world.specs.declared.files.unopened.OpenError.{OpenError}
use Rattle.bx_run_session.specs.declared.session.guarded.Ended.{Ended}
use Rattle.bx_run_session.specs.declared.session.task.Task.{Task}
use Rattle.bx_journal.specs.Images.{Images}
use Rattle.bx_journal.specs.Phase.{IsAtRest}
use Rattle.bx_journal.specs.Redo.{IsClean}
use Rattle.bx_journal_image.specs.declared.finding.rest.AtRest.{AtRest}
use Rattle.bx_journal_image.specs.declared.judging.judge.Verdict.{Verdict}
use Rattle.bx_journal_image.specs.declared.line.form.ImageLine.{ImageLine}
use Rattle.bx_journal_image.specs.Unfinished.{IsUnfinishedJudged}
use Rattle.bx_cli_commands.specs.declared.command.Command.TheVariants.{Undo}
use Rattle.bx_run_session.specs.declared.session.task.Task.TheVariants.{Run}
use Rattle.bx_run_session.specs.declared.session.terms.Terms.{Terms}
use Rattle.bx_run_session.specs.session.Contents.{Contents, Holds}
use Rattle.bx_run_session.specs.session.Guarded.{WasJudged, another, is_kept_off, is_other}
use Rattle.bx_run_session.specs.session.Named.{IsUnrecovered, MayRefuseTask, NothingDone, contents_of, is_missing}
use Rattle.bx_run_session.specs.session.Ran.{IsUnbegun}

-- what is said of a task that isn't begun, without its devices
pub unbegun_as : {D T : Type 0} (d : DeviceViews D) (t : StoreViews T) (old : Devices D T) (ended : Ended D T) (u : Option OpenError)
    → IfSome u (IsUnbegun d t old ended) → IfSome u (λ u. (u ≡ another) × (ended.reply ≡ Refused OpenFailed) × (ended.how ≡ None))
unbegun_as d t old ended None un = tt
unbegun_as d t old ended (Some u) un = (un.why, un.reply_is, un.how_is)

-- a task that wasn't refused was begun
pub begun : (u : Option OpenError) (reply : Reply) (how : Option RecoveryOutcome) → IfSome u (λ u. (u ≡ another) × (reply ≡ Refused OpenFailed) × (how ≡ None))
    → (IsWholeRefusal reply → ⊥) → u ≡ None
begun None reply how un stopped = refl
begun (Some u) reply how un stopped = absurd (stopped (subst IsWholeRefusal (sym un.1) (λ wrong. cc)))

-- one that wasn't begun leaves all files
pub nothing_done : (u : Option OpenError) (reply : Reply) (how : Option RecoveryOutcome) (old new : SystemState)
    → IfSome u (λ u. (u ≡ another) × (reply ≡ Refused OpenFailed) × (how ≡ None)) → (IsWholeRefusal reply → IsUnrecovered how → LeavesFiles old new)
    → IfSome u (λ _. NothingDone reply how old new)
nothing_done None reply how old new un left = tt
nothing_done (Some u) reply how old new un left =
    (un.1, un.2, left (subst IsWholeRefusal (sym un.1) (λ wrong. cc)) (subst IsUnrecovered (sym un.2) tt))

-- why it wasn't
pub why_unbegun : {R : Type 0} (guard : Guard) (makes : Bool) (note : List ℕ) (task : Task R) (names : Names) (counted : Type 0) (w : SystemState) (u : Option OpenError)
    (reply : Reply) (how : Option RecoveryOutcome) → IfSome u (λ u. (u ≡ another) × (reply ≡ Refused OpenFailed) × (how ≡ None))
    → WasJudged guard (is_missing names.image w) note (contents_of names w) task u how → IfSome u (MayRefuseTask guard makes note task names counted w)
why_unbegun guard makes note task names counted w None reply how un judged = tt
why_unbegun guard makes note task names counted w (Some u) reply how un judged =
    inr (un.0, record { terms = judged.terms; told = judged.told; why = judged.refused (ap Some un.0) })

-- opening tells nothing of another image
pub never_another : (names : Names) (mounted makes : Bool) (counted : Type 0) (w : SystemState) (u : OpenError) → MayRefuseOpening names mounted makes counted w u
    → u ≡ another → ⊥
never_another names mounted makes counted w u why is = subst (MayRefuseOpening names mounted makes counted w) is why

pub unopened_judged : {R : Type 0} (guard : Guard) (makes : Bool) (missing : Bool) (note : List ℕ) (old : Contents) (task : Task R) (names : Names) (counted : Type 0)
    (w : SystemState) (u : OpenError) → MayRefuseOpening names guard.mounted makes counted w u → WasJudged guard missing note old task (Some u) None
unopened_judged guard makes missing note old task names counted w u why = record {
  terms = record { guard = guard; missing = missing; line = None; unread = true };
  told = record { guard_is = refl; missing_is = refl; line_is = λ wrong. absurd (let no : true ≡ false = wrong in cc) };
  opened = tt;
  refused = λ is. absurd (never_another names guard.mounted makes counted w u why (ap (λ (o : Option OpenError). unwrap_or o u) is));
}

-- a file was made exactly where its name was missing
pub made_missing : (name : List ℕ) (made : Bool) (n : ℕ) (old mid : SystemState) → IsOpenUnder name made n old mid → made ≡ is_missing name old
made_missing name true n old mid under = let was : old.named name ≡ None = under.was in rw was refl
made_missing name false n old mid under = let was : old.named name ≡ Some n = under.was in rw was refl

-- an undo of no change
abbrev undo_none : {R : Type 0} → Task R
undo_none = Run (Undo 0)

-- nothing is unfinished in files that hold images
rest_clean : (text x : List ℕ) (stack : List (List ℕ)) → IsAtRest text x stack → IsClean text
rest_clean text x stack rest = (rest.stands.entries, record { reads = rest.stands.reads; whole = rest.stands.whole })

none_kept : (terms : Terms) (c : Contents) (s : Images) (verdict : Option Verdict) → Holds c s → IsUnfinishedJudged terms.line c.journal c.image verdict
    → is_kept_off terms verdict ≡ true → ⊥
none_kept terms c s None holds judged off = (let wrong : false ≡ true = off in cc)
none_kept terms c s (Some verdict) holds judged off = judged.unfinished.unfinished (rest_clean c.journal c.image s.stack holds.0)

never_both : (b : Bool) → (b && false) ≡ true → ⊥
never_both true is = (let wrong : false ≡ true = is in cc)
never_both false is = (let wrong : false ≡ true = is in cc)

none_moved_off : (R : Type 0) (terms : Terms) (line : Option ImageLine) (found : Option AtRest) → terms.line ≡ line → is_other terms found (undo_none {R = R}) ≡ true → ⊥
none_moved_off R terms None found is off = (let wrong : false ≡ true = rw is at off in cc)
none_moved_off R terms (Some line) None is off = (let wrong : false ≡ true = rw is at off in cc)
none_moved_off R terms (Some line) (Some found) is off = never_both (not terms.guard.anyway) (rw is at off)

-- and so an undo of no change isn't refused for another image there
pub none_other : {R : Type 0} (guard : Guard) (missing : Bool) (note : List ℕ) (c : Contents) (u : Option OpenError) (how : Option RecoveryOutcome) (s : Images)
    → WasJudged guard missing note c (undo_none {R = R}) u how → Holds c s → u ≡ Some another → ⊥
none_other {R = R} guard missing note c u how s judged holds other = elim (judged.refused other) [
  | inl kept ↦ none_kept judged.terms c s kept.verdict holds kept.judged kept.off
  | inr moved ↦ none_moved_off R judged.terms judged.terms.line moved.found refl moved.off
]
