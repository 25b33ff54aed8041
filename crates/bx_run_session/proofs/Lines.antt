-- A line that is written in parts, behind what a command made of files.
use Rattle.std.proofs.Common.{◌≡◌, ◌∙◌, ◌++◌, ◌≤◌, ◌+◌, ℕ, zero, suc, List, [], Option, Some, None, take, length, refl, sym, ap, subst, inl, inr, append_assoc, append-nil, length-append, arith}
use Rattle.std.specs.Prelude.{Result, Ok, Err, OnOk, OnErr, IfOk, IfErr, IfSome}
use Rattle.std.specs.Option.{option_map_or}
use Rattle.std.specs.Result.{MatchResult}
use Rattle.bx_image.specs.Power.{NoMore}
use Rattle.bx_world.specs.World.{KeepsFiles, SystemState, Trio, held}
use Rattle.bx_world.specs.files.Files.{LeadsToMade, LeavesFiles}
use Rattle.bx_world.specs.declared.files.names.Names.{Names}
use Rattle.bx_world.specs.declared.files.unopened.OpenError.{OpenError}
use Rattle.bx_journal.specs.Calls.{AfterFault}
use Rattle.bx_journal.specs.RecoveryOutcome.{RecoveryOutcome}
use Rattle.bx_journal.specs.Images.{Images}
use Rattle.bx_journal.specs.Direction.{Direction}
use Rattle.bx_journal.specs.SessionFault.TheVariants.{Interrupted}
use Rattle.bx_journal.specs.Redo.{recovered_as}
use Rattle.bx_cli_commands.specs.declared.command.Reply.{Reply}
use Rattle.bx_cli_commands.specs.declared.fault.Fault.{Fault}
use Rattle.bx_cli_commands.specs.declared.fault.Fault.TheVariants.{OpenFailed, Session}
use Rattle.bx_run_session.specs.session.Contents.{StayOnDisk, Contents, FindsIn, FoundIn, Holds, Spared, StandsIn, TellsUnfinished}
use Rattle.bx_run_session.specs.session.Moves.{Course, HasMoved, IsMidway, IsMoved, IsUnwritten, LosesLine, MovedFound, MovedRead, Moves, MovesFound, MovesRead, RefusesRecovered, RefusesMove, SparesMove, StopsRecovered, StopsLine, StopsMove, StopsPart, SurvivesMoved, TellsRecovered, number_line, recovered_line, stepped}
use Rattle.bx_run_session.specs.session.Named.{AreNotLeft, IsNamedBy, IsUnrecovered, KeepsOthers, LeadTo, LeavesRefused, NothingDone, contents_of}

-- the first part couldn't be written
pub stops_first : (first second old new : List ℕ) (e : Fault) → StopsPart 0 first old new e → StopsLine (first ++ second) old new e
stops_first first second old new e stops = record {
  front = stops.2.front;
  rest = stops.2.rest ++ second;
  told = stops.0;
  whole = ap (λ xs. xs ++ second) stops.2.whole ∙ append_assoc stops.2.front stops.2.rest second;
  output = stops.2.output;
  least = stops.2.least;
  fault = let none : 0 + stops.0 ≡ stops.0 = omega arith in rw none at stops.1;
}

-- the first part is written, and the second couldn't be
stops_second : (before : ℕ) (first second old mid new : List ℕ) (e : Fault) → mid ≡ old ++ first → before ≤ length first
    → StopsPart before second mid new e → StopsLine (first ++ second) old new e
stops_second before first second old mid new e is least stops = record {
  front = first ++ stops.2.front;
  rest = stops.2.rest;
  told = before + stops.0;
  whole = ap (λ xs. first ++ xs) stops.2.whole ∙ sym (append_assoc first stops.2.front stops.2.rest);
  output = stops.2.output ∙ ap (λ xs. xs ++ stops.2.front) is ∙ append_assoc old first stops.2.front;
  least = let both = length-append first stops.2.front in let more = stops.2.least in omega (arith, least, more, both);
  fault = stops.1;
}

-- the same, whatever is answered
pub after_first : {V : Type 0} (r : Result V Fault) (before : ℕ) (first second old mid new : List ℕ) → mid ≡ old ++ first → before ≤ length first
    → IfErr r (StopsPart before second mid new) → IfErr r (StopsLine (first ++ second) old new)
after_first (Ok v) before first second old mid new is least more = tt
after_first (Err e) before first second old mid new is least more = stops_second before first second old mid new e is least more

held_kept : (mid new : SystemState) (name : List ℕ) → KeepsFiles mid new → held new name ≡ held mid name
held_kept mid new name keeps = at_name (mid.named name) (keeps.named name)
  where
    at_name : (o : Option ℕ) → new.named name ≡ o → held new name ≡ option_map_or mid.bytes o []
    at_name None is = rw is refl
    at_name (Some n) is = rw is (keeps.bytes n)

pub contents_kept : (names : Names) (mid new : SystemState) → KeepsFiles mid new → contents_of names new ≡ contents_of names mid
contents_kept names mid new keeps =
    rw (held_kept mid new names.image keeps, held_kept mid new names.journal keeps, held_kept mid new names.redo keeps) refl

module _ (names : Names) (k : ℕ) (course : Course) (left : ℕ) (old mid new : SystemState) where
  -- the number of changes that were moved is written
  pub written : {V : Type 0} (r : Result V Fault) → IsMoved k course left (contents_of names mid) → KeepsFiles mid new → mid.output ≡ old.output
      → OnOk r (new.output ≡ mid.output ++ number_line left) → OnOk r (Moves names k course old new)
  written (Ok v) moved keeps silent line = record {
    enough = moved.enough;
    files = subst (λ c. Holds c (course.moved k)) (sym (contents_kept names mid new keeps)) moved.files;
    output = line ∙ ap (λ xs. xs ++ number_line left) silent ∙ ap (λ n. old.output ++ number_line n) moved.left_is;
  }
  written (Err e) moved keeps silent line = tt

  -- it couldn't be written
  pub lost_line : (e : Fault) → IsMoved k course left (contents_of names mid) → KeepsFiles mid new → mid.output ≡ old.output
      → StopsLine (number_line left) mid.output new.output e → LosesLine names k course old new e
  lost_line e moved keeps silent line = record {
    enough = moved.enough;
    files = subst (λ c. Holds c (course.moved k)) (sym (contents_kept names mid new keeps)) moved.files;
    line = record {
      front = line.front;
      rest = line.rest;
      told = line.told;
      whole = ap number_line (sym moved.left_is) ∙ line.whole;
      output = line.output ∙ ap (λ xs. xs ++ line.front) silent;
      least = line.least;
      fault = line.fault;
    };
  }

  pub unwritten : {V : Type 0} (u : Option OpenError) (r : Result V Fault) → IsMoved k course left (contents_of names mid) → KeepsFiles mid new → mid.output ≡ old.output
      → IfErr r (StopsLine (number_line left) mid.output new.output) → IfErr r (StopsMove names k course u old new)
  unwritten u (Ok v) moved keeps silent line = tt
  unwritten u (Err e) moved keeps silent line = inr (lost_line e moved keeps silent line)

-- a moving of changes that was refused tells of no write
refused_written : (names : Names) (k : ℕ) (course : Course) (u : Option OpenError) (old new : SystemState) (e : Fault)
    → RefusesMove names k course u old new e → IsUnwritten e → ⊥
refused_written names k course u old new e refuses is = (subst (RefusesMove names k course u old new) is.1 refuses).0

-- one that tells of a write was done, and the write failed
pub failed_behind : (names : Names) (k : ℕ) (course : Course) (u : Option OpenError) (old mid told new : SystemState) (Failed : Type 0)
    (standing : Result ℕ Fault) (r : Result Unit Fault) → IfErr standing (RefusesMove names k course u old mid) → IfOk standing (λ left. OnErr r Failed)
    → IfErr standing (λ e. (r ≡ Err e) × (new ≡ told)) → IfErr r (λ e. IsUnwritten e → Failed)
failed_behind names k course u old mid told new Failed (Ok left) (Ok v) refuses failed refused = tt
failed_behind names k course u old mid told new Failed (Ok left) (Err e) refuses failed refused = λ is. failed
failed_behind names k course u old mid told new Failed (Err e) r refuses failed refused =
    rw refused.0 (λ is. absurd (refused_written names k course u old mid e refuses is))

-- of files that hold images nothing is said
take_none : (n : ℕ) → ◌≡◌ {A = List ℕ} (take n []) []
take_none zero = refl
take_none (suc n) = refl

unrecovered_line : (how : Option RecoveryOutcome) → IsUnrecovered how → recovered_line how ≡ []
unrecovered_line None is = refl
unrecovered_line (Some h) is = rw is refl

silent_line : (how : Option RecoveryOutcome) (old new : List ℕ) → IsUnrecovered how → TellsRecovered how old new → new ≡ old
silent_line how old new is tells =
    tells.1 ∙ ap (λ xs. old ++ take tells.0 xs) (unrecovered_line how is) ∙ ap (λ xs. old ++ xs) (take_none tells.0) ∙ append-nil old

-- what is said, where nothing else is written to standard error
pub tells_alone : (how : Option RecoveryOutcome) (old mid told new : List ℕ) → mid ≡ old → TellsRecovered how mid told → new ≡ told → TellsRecovered how old new
tells_alone how old mid told new before tells behind = (tells.0, behind ∙ tells.1 ∙ ap (λ xs. xs ++ take tells.0 (recovered_line how)) before)

-- two steps that leave files
pub keeps_then : (old mid new : SystemState) → KeepsFiles old mid → KeepsFiles mid new → KeepsFiles old new
keeps_then old mid new first second = record {
  named = λ m. second.named m ∙ first.named m;
  is_link = λ m. second.is_link m ∙ first.is_link m;
  bytes = λ i. second.bytes i ∙ first.bytes i;
  stat = λ i. second.stat i ∙ first.stat i;
  caller = second.caller ∙ first.caller;
  there = second.there ∙ first.there;
  before = second.before ∙ first.before;
  lent = second.lent ∙ first.lent;
  stuck = second.stuck ∙ first.stuck;
}

-- files that were left, and then were kept, and nothing was written
leaves_kept : (old mid new : SystemState) → LeavesFiles old mid → KeepsFiles mid new → new.output ≡ mid.output → new.errors ≡ mid.errors → LeavesFiles old new
leaves_kept old mid new left keeps output errors = record {
  bytes = λ i below. keeps.bytes i ∙ left.bytes i below;
  stat = λ i below. keeps.stat i ∙ left.stat i below;
  named = λ stuck m. keeps.named m ∙ left.named (sym keeps.stuck ∙ stuck) m;
  still = λ m n named. keeps.named m ∙ left.still m n named;
  stuck = let least = left.stuck in let same = keeps.stuck in omega (arith, least, same);
  streams = record {
    is_link = λ m. keeps.is_link m ∙ left.streams.is_link m;
    caller = keeps.caller ∙ left.streams.caller;
    output = output ∙ left.streams.output;
    errors = errors ∙ left.streams.errors;
    before = keeps.before ∙ left.streams.before;
    lent = keeps.lent ∙ left.streams.lent;
  };
}

-- a name leads to one of the three still
led_still : {o : Option ℕ} (names : Names) (m : List ℕ) (mid new : SystemState) → KeepsFiles mid new → LeadsToMade (IsNamedBy names mid) o (mid.named m)
    → LeadsToMade (IsNamedBy names new) o (new.named m)
led_still names m mid new keeps made = elim made [
  | inl same ↦ inl (keeps.named m ∙ same)
  | inr is_new ↦ inr (is_new.0, is_new.1, led_on is_new.0 is_new.2, keeps.named m ∙ is_new.3)
]
  where
    led_on : (n : ℕ) → IsNamedBy names mid n → IsNamedBy names new n
    led_on n is = elim is [
      | inl image ↦ inl (keeps.named names.image ∙ image)
      | inr text ↦ elim text [
        | inl journal ↦ inr (inl (keeps.named names.journal ∙ journal))
        | inr redo ↦ inr (inr (keeps.named names.redo ∙ redo))
      ]
    ]

-- no other file was changed, and then all were kept
-- texts that were missing aren't left
pub not_left_kept : (names : Names) (old mid new : SystemState) → AreNotLeft names old mid mid → KeepsFiles mid new → AreNotLeft names old new new
not_left_kept names old mid new left keeps = record {
  journal = λ missing stuck empty.
      keeps.named names.journal ∙ left.journal missing (sym keeps.stuck ∙ stuck) (sym (held_kept mid new names.journal keeps) ∙ empty);
  redo = λ missing stuck empty. keeps.named names.redo ∙ left.redo missing (sym keeps.stuck ∙ stuck) (sym (held_kept mid new names.redo keeps) ∙ empty);
}

pub others_kept : (names : Names) (old mid new : SystemState) → KeepsOthers names old mid → KeepsFiles mid new → KeepsOthers names old new
others_kept names old mid new others keeps = record {
  bytes = λ n below image journal redo. keeps.bytes n ∙ others.bytes n below image journal redo;
  stat = λ n below. keeps.stat n ∙ others.stat n below;
  named = λ m n named. keeps.named m ∙ others.named m n named;
  made = λ stuck m. led_still names m mid new keeps (others.made (sym keeps.stuck ∙ stuck) m);
  stuck = let least = others.stuck in let same = keeps.stuck in omega (arith, least, same);
}

-- files that weren't opened
pub unopened_kept : {V W : Type 0} (u : Option OpenError) (how : Option RecoveryOutcome) (standing : Result V Fault) (r : Result W Fault) (old mid told new : SystemState)
    → IfSome u (λ _. (standing ≡ Err OpenFailed) × (how ≡ None) × LeavesFiles old mid) → KeepsFiles mid told → told.output ≡ mid.output
    → TellsRecovered how mid.errors told.errors → IfErr standing (λ e. (r ≡ Err e) × (new ≡ told))
    → IfSome u (λ _. (r ≡ Err OpenFailed) × (how ≡ None) × LeavesFiles old new)
unopened_kept None how standing r old mid told new none keeps output tells refused = tt
unopened_kept (Some u) how standing r old mid told new none keeps output tells refused =
    let is = rw none.0 at refused in
    let unrecovered : IsUnrecovered how = rw none.1 tt in
    let left = leaves_kept old mid told none.2 keeps output (silent_line how mid.errors told.errors unrecovered tells) in
    (is.0, none.1, subst (λ w. LeavesFiles old w) (sym is.1) left)

module _ (names : Names) (k : ℕ) (course : Course) (old mid told new : SystemState) where
  -- moved, and the number written behind the line on what was recovered
  pub done_behind : (standing : Result ℕ Fault) (r : Result Unit Fault) → IfOk standing (λ left. IsMoved k course left (contents_of names mid))
      → KeepsFiles mid told → KeepsFiles told new → mid.output ≡ old.output → told.output ≡ mid.output
      → IfOk standing (λ left. OnOk r (new.output ≡ told.output ++ number_line left)) → IfErr standing (λ e. (r ≡ Err e) × (new ≡ told))
      → OnOk r (Moves names k course old new)
  done_behind (Ok left) r moved first second before between line refused =
      written names k course left old told new r (subst (IsMoved k course left) (sym (contents_kept names mid told first)) moved) second
      (between ∙ before) line
  done_behind (Err e) r moved first second before between line refused = rw refused.0 tt

  refuses_kept : (u : Option OpenError) (e : Fault) → RefusesMove names k course u old mid e → KeepsFiles mid told → told.output ≡ mid.output
      → told.errors ≡ mid.errors → RefusesMove names k course u old told e
  refuses_kept u (Session Interrupted) refuses keeps output errors =
      (refuses.0, refuses.1, subst (λ c. FindsIn c (course.moved refuses.0)) (sym (contents_kept names mid told keeps)) refuses.2)
  refuses_kept u e refuses keeps output errors = (refuses.0, leaves_kept old mid told refuses.1 keeps output errors)

  -- stopped
  pub stopped_behind : (u : Option OpenError) (how : Option RecoveryOutcome) (standing : Result ℕ Fault) (r : Result Unit Fault) → IsUnrecovered how
      → IfOk standing (λ left. IsMoved k course left (contents_of names mid)) → IfErr standing (RefusesMove names k course u old mid)
      → KeepsFiles mid told → KeepsFiles told new → mid.output ≡ old.output → told.output ≡ mid.output → TellsRecovered how mid.errors told.errors
      → IfOk standing (λ left. IfErr r (StopsLine (number_line left) told.output new.output)) → IfErr standing (λ e. (r ≡ Err e) × (new ≡ told))
      → IfErr r (StopsMove names k course u old new)
  stopped_behind u how (Ok left) r is moved refuses first second before between tells line refused =
      unwritten names k course left old told new u r (subst (IsMoved k course left) (sym (contents_kept names mid told first)) moved) second
      (between ∙ before) line
  stopped_behind u how (Err e) r is moved refuses first second before between tells line refused =
      rw (refused.0, refused.1) (inl (refuses_kept u e refuses first between (silent_line _ _ _ is tells), between ∙ before))

  -- the same from images that opening found
  found_told : (standing : Result ℕ Fault) (r : Result Unit Fault)
      → MatchResult standing (λ left. IsMoved k course left (contents_of names mid)) (RefusesRecovered k course (contents_of names mid))
      → KeepsFiles mid told → KeepsFiles told new → mid.output ≡ old.output → told.output ≡ mid.output
      → IfOk standing (λ left. OnOk r (new.output ≡ told.output ++ number_line left))
      → IfOk standing (λ left. IfErr r (StopsLine (number_line left) told.output new.output)) → IfErr standing (λ e. (r ≡ Err e) × (new ≡ told))
      → MatchResult r (λ _. Moves names k course old new) (StopsRecovered names k course old new)
  found_told (Ok left) (Ok v) moved first second before between line lost refused =
      written names k course left old told new {V = Unit {0}} (Ok v) (subst (IsMoved k course left) (sym (contents_kept names mid told first)) moved) second
      (between ∙ before) line
  found_told (Ok left) (Err e) moved first second before between line lost refused =
      inr (lost_line names k course left old told new e (subst (IsMoved k course left) (sym (contents_kept names mid told first)) moved) second
      (between ∙ before) lost)
  found_told (Err e) r moved first second before between line lost refused =
      rw (refused.0, refused.1) (inl (subst (λ c. RefusesRecovered k course c e) (sym (contents_kept names mid told first)) moved, between ∙ before))

pub found_behind : (names : Names) (k : ℕ) (way : Direction) (s : Images) (how : Option RecoveryOutcome) (old mid told new : SystemState) (standing : Result ℕ Fault)
    (r : Result Unit Fault) → MovedFound k way s how standing (contents_of names mid)
    → KeepsFiles mid told → KeepsFiles told new → mid.output ≡ old.output → told.output ≡ mid.output
    → IfOk standing (λ left. OnOk r (new.output ≡ told.output ++ number_line left))
    → IfOk standing (λ left. IfErr r (StopsLine (number_line left) told.output new.output)) → IfErr standing (λ e. (r ≡ Err e) × (new ≡ told))
    → MovesFound names k way s how r old new
found_behind names k way s (Some h) old mid told new standing r moved first second before between line lost refused =
    found_told names k (stepped way (recovered_as h s)) old mid told new standing r moved first second before between line lost refused
found_behind names k way s None old mid told new standing r moved first second before between line lost refused =
    let no = subst (λ (o : Result ℕ Fault). IfErr o (λ e. (r ≡ Err e) × (new ≡ told))) moved.1 refused in
    let same : contents_of names new ≡ contents_of names mid = contents_kept names told new second ∙ contents_kept names mid told first in (
      (moved.0, no.0, subst (λ c. AfterFault moved.0 (FoundIn c (record { stack = s.stack; undone = [] })) (FoundIn c s)) (sym same) moved.2),
      ap (λ (w : SystemState). w.output) no.1 ∙ between ∙ before,
    )

-- and of what opening took, whatever it held
read_told : (names : Names) (k : ℕ) (way : Direction) (h : RecoveryOutcome) (old mid told new : SystemState) (standing : Result ℕ Fault) (r : Result Unit Fault)
    → IfOk standing (λ left. MovedRead k way h left (contents_of names old) (contents_of names mid))
    → KeepsFiles mid told → KeepsFiles told new → mid.output ≡ old.output → told.output ≡ mid.output
    → IfOk standing (λ left. OnOk r (new.output ≡ told.output ++ number_line left)) → IfErr standing (λ e. (r ≡ Err e) × (new ≡ told))
    → OnOk r (MovesRead names k way h old new)
read_told names k way h old mid told new (Ok left) (Ok v) moved first second before between line refused = record {
  before = moved.before;
  read = moved.read;
  enough = moved.enough;
  files = subst (λ c. StandsIn c ((stepped way moved.before).moved k))
      (sym (contents_kept names told new second ∙ contents_kept names mid told first)) moved.ends;
  output = line ∙ ap (λ xs. xs ++ number_line left) (between ∙ before) ∙ ap (λ n. old.output ++ number_line n) moved.left_is;
}
read_told names k way h old mid told new (Ok left) (Err e) moved first second before between line refused = tt
read_told names k way h old mid told new (Err e) r moved first second before between line refused = rw refused.0 tt

pub read_behind : (names : Names) (k : ℕ) (way : Direction) (how : Option RecoveryOutcome) (old mid told new : SystemState) (standing : Result ℕ Fault) (r : Result Unit Fault)
    → IfSome how (λ h. IfOk standing (λ left. MovedRead k way h left (contents_of names old) (contents_of names mid)))
    → KeepsFiles mid told → KeepsFiles told new → mid.output ≡ old.output → told.output ≡ mid.output
    → IfOk standing (λ left. OnOk r (new.output ≡ told.output ++ number_line left)) → IfErr standing (λ e. (r ≡ Err e) × (new ≡ told))
    → IfSome how (λ h. OnOk r (MovesRead names k way h old new))
read_behind names k way None old mid told new standing r moved first second before between line refused = tt
read_behind names k way (Some h) old mid told new standing r moved first second before between line refused =
    read_told names k way h old mid told new standing r moved first second before between line refused

-- what is on the disk
pub settled_kept : (names : Names) (mid new : SystemState) (image journal redo now_image now_journal now_redo : List ℕ → Type 0) → KeepsFiles mid new
    → NoMore image now_image → NoMore journal now_journal → NoMore redo now_redo → StayOnDisk (contents_of names mid) image journal redo
    → StayOnDisk (contents_of names new) now_image now_journal now_redo
settled_kept names mid new image journal redo now_image now_journal now_redo keeps first second third settled =
    subst (λ c. StayOnDisk c now_image now_journal now_redo) (sym (contents_kept names mid new keeps)) (record {
      image = λ x there. settled.image x (first x there);
      journal = λ x there. settled.journal x (second x there);
      redo = λ x there. settled.redo x (third x there);
    })

-- what is found after a loss of power
pub moved_less : (k : ℕ) (way : Direction) (s : Images) (how : Option RecoveryOutcome) (image journal redo now_image now_journal now_redo : List ℕ → Type 0)
    → NoMore image now_image → NoMore journal now_journal → NoMore redo now_redo → SurvivesMoved k way s how image journal redo
    → SurvivesMoved k way s how now_image now_journal now_redo
moved_less k way s (Some h) image journal redo now_image now_journal now_redo first second third survives =
    λ x text redo_text there text_there redo_there. survives x text redo_text (first x there) (second text text_there) (third redo_text redo_there)
moved_less k way s None image journal redo now_image now_journal now_redo first second third survives =
    λ x text redo_text there text_there redo_there. survives x text redo_text (first x there) (second text text_there) (third redo_text redo_there)

-- files that were left, where nothing was recovered and so nothing is said of it
pub leaves_silent : (how : Option RecoveryOutcome) (old mid new : SystemState) → IsUnrecovered how → LeavesFiles old mid → KeepsFiles mid new → new.output ≡ mid.output
    → TellsRecovered how mid.errors new.errors → LeavesFiles old new
leaves_silent how old mid new is left keeps output tells = leaves_kept old mid new left keeps output (silent_line how mid.errors new.errors is tells)

-- and so files of a task that was refused, whatever they hold
pub refused_kept : (u : Option OpenError) (how : Option RecoveryOutcome) (names : Names) (old mid new : SystemState) → LeavesRefused names u how old mid → KeepsFiles mid new
    → new.output ≡ mid.output → TellsRecovered how mid.errors new.errors → LeavesRefused names u how old new
refused_kept u how names old mid new left keeps output tells = record {
  files = λ is. leaves_silent how old mid new is (left.files is) keeps output tells;
  contents = λ opened. subst (Spared how (contents_of names old)) (sym (contents_kept names mid new keeps)) (left.contents opened);
}

pub spares_behind : (names : Names) (u : Option OpenError) (how : Option RecoveryOutcome) (old mid told new : SystemState) (standing : Result ℕ Fault) (r : Result Unit Fault)
    → IfErr standing (SparesMove names u how old mid) → KeepsFiles mid told → told.output ≡ mid.output → TellsRecovered how mid.errors told.errors
    → IfOk standing (λ left. IfErr r (StopsLine (number_line left) told.output new.output)) → IfErr standing (λ e. (r ≡ Err e) × (new ≡ told))
    → IfErr r (SparesMove names u how old new)
spares_behind names u how old mid told new (Ok left) (Ok v) spares keeps output tells lost refused = tt
spares_behind names u how old mid told new (Ok left) (Err e) spares keeps output tells lost refused =
    λ whole. absurd (whole (subst IsMidway (sym lost.fault) tt))
spares_behind names u how old mid told new (Err e) r spares keeps output tells lost refused =
    rw (refused.0, refused.1) (λ whole. refused_kept u how names old mid told (spares whole) keeps output tells)

-- files that weren't opened, where nothing is said
pub nothing_kept : (u : Option OpenError) (reply : Reply) (how : Option RecoveryOutcome) (old mid new : SystemState) → IfSome u (λ _. NothingDone reply how old mid)
    → KeepsFiles mid new → new.output ≡ mid.output → TellsRecovered how mid.errors new.errors → IfSome u (λ _. NothingDone reply how old new)
nothing_kept None reply how old mid new none keeps output tells = tt
nothing_kept (Some u) reply how old mid new none keeps output tells =
    let unrecovered : IsUnrecovered how = rw none.1 tt in
    (none.0, none.1, leaves_silent how old mid new unrecovered none.2 keeps output tells)

-- names lead to the files that they led to
pub leads_back : (names : Names) (t : Trio) (mid new : SystemState) → KeepsFiles mid new → LeadTo names t new → LeadTo names t mid
leads_back names t mid new keeps leads = record {
  image = sym (keeps.named names.image) ∙ leads.image;
  journal = sym (keeps.named names.journal) ∙ leads.journal;
  redo = sym (keeps.named names.redo) ∙ leads.redo;
}

-- changes that were moved before their number was to be written
pub moved_before : (standing : Result ℕ Fault) (r : Result Unit Fault) (told new : SystemState) → IfErr standing (λ e. (r ≡ Err e) × (new ≡ told))
    → HasMoved r → HasMoved standing
moved_before (Ok left) r told new refused has = tt
moved_before (Err e) r told new refused has = subst HasMoved refused.0 has

-- and behind that
pub moved_behind : (standing : Result ℕ Fault) (r : Result Unit Fault) (told new : SystemState) (line : ℕ → List ℕ)
    → IfOk standing (λ left. IfErr r (StopsLine (line left) told.output new.output)) → IfErr standing (λ e. (r ≡ Err e) × (new ≡ told))
    → HasMoved standing → HasMoved r
moved_behind (Ok left) (Ok v) told new line lost refused has = tt
moved_behind (Ok left) (Err e) told new line lost refused has = subst IsMidway (sym lost.fault) tt
moved_behind (Err e) r told new line lost refused has = rw refused.0 has

some_behind : (standing : Result ℕ Fault) (r : Result Unit Fault) (told new : SystemState) (P : Type 0) → IfErr standing (λ e. (r ≡ Err e) × (new ≡ told))
    → OnOk standing P → OnOk r P
some_behind (Ok left) (Ok v) told new P refused some = some
some_behind (Ok left) (Err e) told new P refused some = tt
some_behind (Err e) r told new P refused some = rw refused.0 tt

-- what was unfinished is said, whether the number is written or not
pub tells_behind : (c : Contents) (how : Option RecoveryOutcome) (standing : Result ℕ Fault) (r : Result Unit Fault) (told new : SystemState)
    → IfErr standing (λ e. (r ≡ Err e) × (new ≡ told)) → TellsUnfinished c how standing → TellsUnfinished c how r
tells_behind c how standing r told new refused tells = record {
  told = tells.told;
  none = tells.none;
  some = some_behind standing r told new (how ≡ None → ⊥) refused tells.some;
}
