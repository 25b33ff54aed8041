-- The patch that a change of a named image would be.
use Rattle.std.proofs.Common.{arith, ◌≡◌, ◌⊎◌, ◌∙◌, ℕ, Bool, List, [], ◌∷◌, length, Option, None, Some, Result, Ok, Err, refl, inl, inr, subst}
use Rattle.std.specs.Option.{option_map_or}
use Rattle.std.specs.Result.{IfErr, MatchResult, OnOk}
use Rattle.std.specs.Io.KnownBytes.{Appends}
use Rattle.std.proofs.KnownBytes.{Appends-nil}
use Rattle.std.proofs.lemmas.Result.{MatchResult-weaker}
use Rattle.bx_image.specs.Change.{Fits, effect}
use Rattle.bx_image.specs.declared.change.TheConstants.{MAX_LEN}
use Rattle.bx_image.specs.declared.device.ImageFault.{ImageFault}
use Rattle.bx_image.specs.declared.device.ImageFault.TheVariants as image
use Rattle.bx_image.specs.declared.change.Change.{Change}
use Rattle.bx_dd.specs.declared.counts.Counts.{Counts}
use Rattle.bx_patch.proofs.WritingLemmas.{text_some}
use Rattle.bx_patch.specs.Diff.{AreShort, IsFaultFor, TellsWritten, WritesPrefix}
use Rattle.bx_patch.specs.Text.{patch_text}
use Rattle.bx_patch.specs.declared.diff.fault.DiffFault.{DiffFault}
use Rattle.bx_patch.specs.declared.diff.fault.DiffFault.TheVariants.{NewFailed, NoMemory, TooLarge}
use Rattle.bx_patch.specs.declared.diff.row.Extent.TheVariants.{Bytes}
use Rattle.bx_patch.specs.preview.Changed.{FitInTurn, effects}
use Rattle.bx_world.specs.World.{MayBeRead, SystemState, held, stat_named}
use Rattle.bx_run_session.specs.preview.Previews.{MakesFirst, StopsChange, StopsPreview, WritesChange, WritesPreview, has_fixed_length}
use Rattle.bx_run_session.specs.preview.Proposed.{IsCompared, IsFitting, unchanged_for}
use Rattle.bx_run_session.specs.declared.session.task.Task.{Task}
use Rattle.bx_run_session.specs.declared.preview.error.PreviewError.{PreviewError}
use Rattle.bx_run_session.specs.declared.preview.error.PreviewError.TheVariants.{Refused, Stopped, Unfitting, Unopened}

-- behind a change alone stands what it makes
behind : {A : Type 0} (change : Change A) (x : List ℕ) → effects (change ∷ []) x ≡ effect change x
unfolding effects
behind change x = refl

fits_alone : {A : Type 0} (change : Change A) (x : List ℕ) → Fits change (length x) MAX_LEN → FitInTurn (change ∷ []) x MAX_LEN
unfolding FitInTurn
fits_alone change x fits = (fits, tt)

-- nothing is a prefix of a text
nothing_of : (old : Option (List ℕ)) (x y : List ℕ) (fault : DiffFault) → TellsWritten 0 fault → WritesPrefix old old (patch_text Bytes x y) fault
nothing_of old x y fault tells = ([], patch_text Bytes x y, refl, text_some Bytes x y, Appends-nil old, tells)

-- Of two devices that have an image, the second one behind a change.
module _ {A : Type 0} (change : Change A) (x : List ℕ) where
  -- there is no image behind the change
  pub unchanged : (old : Option (List ℕ)) (again : List ℕ) (changes : List (Change A)) → again ≡ x → changes ≡ change ∷ [] → (fault : ImageFault)
      → (fault ≡ image.DeviceFailed) ⊎ ((fault ≡ image.TooLarge) × (FitInTurn changes again MAX_LEN → ⊥))
      → IsCompared change x (Err (unchanged_for fault)) old old
  unchanged old again changes again_is changes_are fault (inl is) = rw is (nothing_of old x (effect change x) NewFailed tt, λ _. tt)
  unchanged old again changes again_is changes_are fault (inr is) =
      rw is.0 (
        nothing_of old x (effect change x) TooLarge tt,
        λ makeable. absurd (is.1 (rw (changes_are, again_is) (fits_alone change x makeable.0))),
      )

  -- there is no memory for the change
  pub unlisted : (old : Option (List ℕ)) (fault : DiffFault) → fault ≡ NoMemory → IsCompared change x (Err fault) old old
  unlisted old fault is = rw is (nothing_of old x (effect change x) NoMemory tt, λ makeable. omega (arith, makeable.0.len_fits, makeable.1))

  -- both are compared
  pub compared : (old new : Option (List ℕ)) (first again second : List ℕ) (changes : List (Change A)) → first ≡ x → again ≡ x → changes ≡ change ∷ []
      → second ≡ effects changes again → (outcome : Result (Unit {0}) DiffFault)
      → OnOk outcome (Appends old new (patch_text Bytes first second)) → IfErr outcome (WritesPrefix old new (patch_text Bytes first second))
      → MatchResult outcome (λ _. AreShort first second) (IsFaultFor first second) → IsCompared change x outcome old new
  compared old new first again second changes first_is again_is changes_are second_is outcome text part fault = by_outcome outcome text part fault
    where
      made : second ≡ effect change x
      made = second_is ∙ (rw (changes_are, again_is) (behind change x))

      by_outcome : (outcome : Result (Unit {0}) DiffFault)
          → OnOk outcome (Appends old new (patch_text Bytes first second)) → IfErr outcome (WritesPrefix old new (patch_text Bytes first second))
          → MatchResult outcome (λ _. AreShort first second) (IsFaultFor first second) → IsCompared change x outcome old new
      by_outcome (Ok done) text part fault =
          let one = subst (λ (u : List ℕ). Appends old new (patch_text Bytes u second)) first_is text in
          subst (λ (u : List ℕ). Appends old new (patch_text Bytes x u)) made one
      by_outcome (Err e) text part fault =
          let one = subst (λ (u : List ℕ). WritesPrefix old new (patch_text Bytes u second) e) first_is part in
          let two = subst (λ (u : List ℕ). IsFaultFor u second e) first_is fault in (
            subst (λ (u : List ℕ). WritesPrefix old new (patch_text Bytes x u) e) made one,
            λ makeable. subst (λ (u : List ℕ). IsFaultFor x u e) made two,
          )

-- a fault cuts the patch of what is made of an image
pub cut_behind : {R A : Type 0} (remaining : R → Option (List ℕ)) (task : Task R) (keeps : Bool) (x z : List ℕ) (change : Change A) (counts : Option Counts)
    (old new : Option (List ℕ)) (outcome : Result (Unit {0}) DiffFault) (fault : DiffFault) → z ≡ x → outcome ≡ Err fault
    → MakesFirst remaining task x counts (effect change x) → IsFitting change keeps x → IsCompared change z outcome old new
    → StopsChange remaining task keeps x old new (Stopped fault)
cut_behind remaining task keeps x z change counts old new outcome fault same is makes fits compared =
    let one = subst (λ (u : List ℕ). IsCompared change u outcome old new) same compared in
    let two = subst (λ (o : Result (Unit {0}) DiffFault). IsCompared change x o old new) is one in
    inr (counts, effect change x, makes, fits.1, two.0, two.1 fits.0)

-- a name that leads to no file holds nothing
pub held_none : (w : SystemState) (name : List ℕ) → stat_named w name ≡ None → [] ≡ held w name
held_none w name missing = nothing (w.named name) missing
  where
    nothing : (n : Option ℕ) → option_map_or (λ n. Some (w.stat n)) n None ≡ None → [] ≡ option_map_or w.bytes n []
    nothing None e = refl
    nothing (Some n) e = absurd (let wrong : Some (w.stat n) ≡ None = e in cc)

-- and it may be read
pub may_none : (w : SystemState) (name : List ℕ) → stat_named w name ≡ None → MayBeRead w name
may_none w name missing n leads = absurd (let wrong : Some (w.stat n) ≡ None = rw leads at missing in cc)

-- what is said of the bytes of a file is said of its name
module _ {R : Type 0} (remaining : R → Option (List ℕ)) (name : List ℕ) (task : Task R) (counted : Type 0) (w : SystemState) (x : List ℕ)
    (keeps : Bool) (may : MayBeRead w name) (keeps_is : keeps ≡ has_fixed_length (stat_named w name)) (x_is : x ≡ held w name) (old new : Option (List ℕ)) where
  stopped : (why : PreviewError) → StopsChange remaining task (has_fixed_length (stat_named w name)) (held w name) old new why
      → StopsPreview remaining name task counted w old new why
  stopped (Unopened why) (inl not) = absurd not.0
  stopped (Unopened why) (inr not) = absurd not
  stopped (Refused fault) is = (may, is)
  stopped (Unfitting has wanted) is = (may, is)
  stopped (Stopped fault) is = (may, is)

  pub named : (outcome : Result (Option Counts) PreviewError)
      → MatchResult outcome (λ counts. WritesChange remaining task keeps x counts old new) (StopsChange remaining task keeps x old new)
      → MatchResult outcome (λ counts. WritesPreview remaining name task w counts old new) (StopsPreview remaining name task counted w old new)
  named outcome does =
      let P : Bool → Type 0 = λ k. MatchResult outcome (λ counts. WritesChange remaining task k x counts old new) (StopsChange remaining task k x old new) in
      let Q : List ℕ → Type 0 = λ u. MatchResult outcome (λ counts. WritesChange remaining task (has_fixed_length (stat_named w name)) u counts old new)
      (StopsChange remaining task (has_fixed_length (stat_named w name)) u old new) in
      MatchResult-weaker outcome (subst Q x_is (subst P keeps_is does)) (λ counts is. (may, is)) stopped
