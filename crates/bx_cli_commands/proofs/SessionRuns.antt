-- Runs of commands on a session: how a loop makes one, and what follows from one.
use Rattle.std.proofs.Common.{◌≡◌, ◌⊎◌, inl, inr, ◌∙◌, ◌<◌, ◌≤◌, ◌+◌, ℕ, zero, suc, Bool, true, false, cond, Option, List, [], ◌∷◌, ◌++◌, length, get_or, set, take, drop, refl, sym, ap, subst, arith, All}
use Rattle.std.specs.Prelude.{count_by}
use Rattle.std.proofs.lemmas.List.{append_assoc, append-nil, drop_more, drop-set-lt, take_all, drop_all, take_more_set}
use Rattle.std.proofs.lemmas.List.Elements.{All-cons, All-nil}
use Rattle.std.proofs.lemmas.List.Sums.{sum_by-cons}
use Rattle.bx_image.specs.declared.device.Device.{Ghosts as DeviceViews}
use Rattle.bx_journal_store.specs.declared.store.TextStore.{Ghosts as StoreViews}
use Rattle.bx_journal.specs.Power.{Found, NothingNew, Survive}
use Rattle.bx_journal.specs.Session.{IsRedoSame, IsUnfailed}
use Rattle.bx_journal.specs.SessionView.{SessionView}
use Rattle.bx_cli_commands.specs.declared.command.Command.{Command}
use Rattle.bx_cli_commands.specs.declared.command.Command.TheVariants.{Revert, RevertPlain, Dd, Copy, Patch, Undo, Redo}
use Rattle.bx_cli_commands.specs.declared.command.Reply.{Reply}
use Rattle.bx_cli_commands.specs.Obeys.{Obeys}
use Rattle.bx_cli_commands.specs.Power.{FindsEnd, IsAt, RunFinds, images_of}
use Rattle.bx_cli_commands.specs.Refusal.{IsOwnRefusal, IsWholeRefusal, KeepsImageAndJournal}
use Rattle.bx_cli_commands.specs.Run.{is_failure, CommandRun, CommandStep, StackRun, Unfailed}
use Rattle.bx_cli_commands.proofs.RunStated.{CountsOn}
use Rattle.bx_cli_commands.specs.SessionRun.{SessionRun, SessionStep}
use Rattle.bx_cli_commands.specs.Tells.{Tells}
use Rattle.bx_cli_commands.specs.Standing.{CountsBy, HoldsAt, LeadsOn, Shows, Standing}
use Rattle.bx_cli_commands.proofs.Obeys.{obeys_next}
use Rattle.bx_cli_commands.proofs.Refusals.{nothing_new_here, nothing_new_on, redo_same_here, redo_same_on, same_here, same_on}
use Rattle.bx_cli_commands.proofs.Steps.{true_is_not_false}
use Rattle.bx_cli_commands.proofs.Stopped.{all_whole_or, run_down, run_stays, step_stays, whole_or}
use Rattle.bx_cli_commands.proofs.Unfailed.{all_tail}

module _ {S C : Type 0} (Step : S → C → C → Reply → S → Type 0) where
  -- each run of what is ahead makes a run of the whole list
  pub record LeadsTo (first : S) (whole done : List C) (replies : List Reply) (now : S) (ahead : List C) : Type 0 where
    pub joins : (left : List C) (qs : List Reply) (new : S) → SessionRun Step now ahead left qs new → SessionRun Step first whole (done ++ left) (replies ++ qs) new

  pub leads_none : (s : S) (whole : List C) → LeadsTo s whole (take 0 whole) [] s (drop 0 whole)
  leads_none s whole = record { joins = λ left qs new run. run }

  -- one command more
  pub leads_more : (first now next : S) (whole list : List C) (replies : List Reply) (i : ℕ) (d new : C) (reply : Reply)
      → i < length list → Step now (get_or list i d) new reply next
      → LeadsTo first whole (take i list) replies now (drop i list)
      → LeadsTo first whole (take (i + 1) (set list i new)) (replies ++ reply ∷ []) next (drop (i + 1) (set list i new))
  leads_more first now next whole list replies i d new reply within step leads = record {
    joins = λ left qs after run.
        let Rest : List C → Type 0 = λ rest. SessionRun Step next rest left qs after in
        let tail = subst Rest (drop-set-lt (i + 1) list i new (omega arith)) run in
        let Ahead : List C → Type 0 = λ ahead. SessionRun Step now ahead (new ∷ left) (reply ∷ qs) after in
        let joined = leads.joins (new ∷ left) (reply ∷ qs) after (subst Ahead (sym (drop_more list i d within)) (next, step, tail)) in
        let Replies : List Reply → Type 0 = λ ps. SessionRun Step first whole (take i list ++ new ∷ left) ps after in
        let Done : List C → Type 0 = λ done. SessionRun Step first whole done ((replies ++ reply ∷ []) ++ qs) after in
        let done : take (i + 1) (set list i new) ++ left ≡ take i list ++ new ∷ left =
        ap (λ xs. xs ++ left) (take_more_set list i new within) ∙ append_assoc (take i list) (new ∷ []) left in
        subst Done (sym done) (subst Replies (sym (append_assoc replies (reply ∷ []) qs)) joined);
  }

  -- at the end of the list
  pub leads_all : (first now : S) (whole list : List C) (replies : List Reply) (i : ℕ) → length list ≤ i
      → LeadsTo first whole (take i list) replies now (drop i list) → SessionRun Step first whole list replies now
  leads_all first now whole list replies i all leads =
      let Ahead : List C → Type 0 = λ ahead. SessionRun Step now ahead [] [] now in
      let run = leads.joins [] [] now (subst Ahead (sym (drop_all i list all)) refl) in
      let Done : List C → Type 0 = λ done. SessionRun Step first whole done (replies ++ []) now in
      let Replies : List Reply → Type 0 = λ ps. SessionRun Step first whole list ps now in
      subst Replies (append-nil replies) (subst Done (append-nil (take i list) ∙ take_all i list all) run)

  -- what holds of no command, and of one more in front, holds of a run
  run_induction : (P : S → List C → List Reply → S → Type 0) → ((s : S) → P s [] [] s)
      → ((old now new : S) (c left : C) (list : List C) (p : Reply) (replies : List Reply) → Step old c left p now → P now list replies new
      → P old (c ∷ list) (p ∷ replies) new)
      → (old new : S) (list left : List C) (replies : List Reply) → SessionRun Step old list left replies new → P old list replies new
  run_induction P none more old new [] [] [] is = let Ends : S → Type 0 = λ s. P old [] [] s in subst Ends (sym is) (none old)
  run_induction P none more old new (c ∷ list) (d ∷ left) (p ∷ replies) (now, step, rest) =
      more old now new c d list p replies step (run_induction P none more now new list left replies rest)
  run_induction P none more old new [] [] (p ∷ replies) run = absurd run
  run_induction P none more old new [] (d ∷ left) replies run = absurd run
  run_induction P none more old new (c ∷ list) [] replies run = absurd run
  run_induction P none more old new (c ∷ list) (d ∷ left) [] run = absurd run

-- the three devices are faithful
abbrev AreFaithful : {D T : Type 0} → DeviceViews D → StoreViews T → SessionView D T → Type 0
AreFaithful d t s = d.faithful s.image × t.faithful s.journal × t.faithful s.redo

-- P holds of the first element
all_head : {X : Type 0} (P : X → Type 0) (x : X) (xs : List X) → All P (x ∷ xs) → P x
all_head P x xs all = all 0 x (omega arith)

-- 1 for a failure
abbrev weight : Reply → ℕ
weight p = cond (is_failure p) 1 0

no_weight : (p : Reply) → weight p ≡ 0 → Unfailed p
no_weight p = at (is_failure p)
  where
    at : (b : Bool) → cond b (suc 0) 0 ≡ zero → b ≡ false
    at true none = absurd (omega arith)
    at false none = refl

-- where no reply is counted, none tells of a failure
none_failed : (replies : List Reply) → count_by is_failure replies ≡ 0 → All Unfailed replies
none_failed [] none = All-nil Unfailed
none_failed (p ∷ replies) none =
    let all = sym (sum_by-cons weight p replies) ∙ none in
    All-cons Unfailed p replies (no_weight p (omega arith)) (none_failed replies (omega arith))

module _ {D T : Type 0} (d : DeviceViews D) (t : StoreViews T) where
  pub unfailed_of : (old new : SessionView D T) (replies : List Reply) → CountsBy d t old new (count_by is_failure replies)
      → IsUnfailed d.failures t.failures old new → All Unfailed replies
  unfailed_of old new replies told same =
      let rise = told.rise in let device = same.0 in let store = same.1 in let redo = same.2 in
      none_failed replies (omega arith)

  -- the counts of some commands, and of one more
  pub counts_none : (s : SessionView D T) → CountsOn d t s s 0
  counts_none s = (0, omega arith, record { image_least = omega arith; journal_least = omega arith; redo_least = omega arith; rise = omega arith })

  pub counts_more : (first now next : SessionView D T) (i : ℕ) (reply : Reply) → CountsOn d t first now i → CountsBy d t now next (weight reply)
      → CountsOn d t first next (i + 1)
  counts_more first now next i reply (failed, few, on) by =
      let small = bit (is_failure reply) in (
        failed + weight reply,
        omega arith,
        record {
          image_least = let a = on.image_least in let b = by.image_least in omega arith;
          journal_least = let a = on.journal_least in let b = by.journal_least in omega arith;
          redo_least = let a = on.redo_least in let b = by.redo_least in omega arith;
          rise = let a = on.rise in let b = by.rise in omega arith;
        },
      )
    where
      bit : (b : Bool) → cond b (suc 0) 0 ≤ suc 0
      bit true = omega arith
      bit false = omega arith

  pub counts_all : (first now : SessionView D T) (i n : ℕ) → i ≤ n → CountsOn d t first now i → CountsOn d t first now n
  counts_all first now i n within (failed, few, on) = (failed, omega arith, on)

module _ {D T : Type 0} (d : DeviceViews D) (t : StoreViews T) where
  -- what is found behind commands that were all refused was to be found before them
  abbrev Refuses : SessionView D T → List Reply → SessionView D T → Type 0
  Refuses old replies new = All IsWholeRefusal replies → NothingNew d t old new

  holds_faithful : (s : SessionView D T) (standing : Standing) → HoldsAt d t s standing → AreFaithful d t s
  holds_faithful s (Standing.Up images) h = (h.0, h.1, h.2)
  holds_faithful s (Standing.Down images) h = (h.0, h.1, h.2)

  is_at : (s : SessionView D T) (standing : Standing) → HoldsAt d t s standing → IsAt d t s standing
  is_at s (Standing.Up images) h = h
  is_at s (Standing.Down images) h = h.3.0

module _ {D T R A : Type 0} (d : DeviceViews D) (t : StoreViews T) (remaining : R → Option (List ℕ)) where
  -- whatever is left of it, a command obeys its step
  pub obeys_command : (old new : SessionView D T) (c left : Command R A) (reply : Reply) → SessionStep (Obeys d t) Tells remaining old c left reply new
      → Obeys d t old new reply (λ before. CommandStep remaining before c)
  obeys_command old new (Dd operands input) (Dd words rest) reply step =
      obeys_next d t (λ before after dd. (remaining rest, (step.2.0, (step.2.1, dd)))) step.2.2
  obeys_command old new (Dd operands input) (Revert text_ offset) reply step = step.2
  obeys_command old new (Dd operands input) (RevertPlain text_ at_) reply step = step.2
  obeys_command old new (Dd operands input) (Copy plan rest) reply step = step.2
  obeys_command old new (Dd operands input) (Patch patch) reply step = step.2
  obeys_command old new (Dd operands input) (Undo k) reply step = step.2
  obeys_command old new (Dd operands input) (Redo j) reply step = step.2
  obeys_command old new (Copy plan input) (Copy same rest) reply step =
      obeys_next d t (λ before after dd. (remaining rest, (step.2.0, (step.2.1, dd)))) step.2.2
  obeys_command old new (Copy plan input) (Dd words rest) reply step = step.2
  obeys_command old new (Copy plan input) (Revert text_ offset) reply step = step.2
  obeys_command old new (Copy plan input) (RevertPlain text_ at_) reply step = step.2
  obeys_command old new (Copy plan input) (Patch patch) reply step = step.2
  obeys_command old new (Copy plan input) (Undo k) reply step = step.2
  obeys_command old new (Copy plan input) (Redo j) reply step = step.2
  obeys_command old new (Patch patch) (Patch rest) reply step = step.2
  obeys_command old new (Patch patch) (Dd words rest) reply step = step.2
  obeys_command old new (Patch patch) (Copy plan rest) reply step = step.2
  obeys_command old new (Patch patch) (Revert text_ offset) reply step = step.2
  obeys_command old new (Patch patch) (RevertPlain text_ at_) reply step = step.2
  obeys_command old new (Patch patch) (Undo k) reply step = step.2
  obeys_command old new (Patch patch) (Redo j) reply step = step.2
  obeys_command old new (Revert text_ offset) left reply step = step.2
  obeys_command old new (RevertPlain text_ at_) left reply step = step.2
  obeys_command old new (Undo k) left reply step = step.2
  obeys_command old new (Redo j) left reply step = step.2

  abbrev Step : SessionView D T → Command R A → Command R A → Reply → SessionView D T → Type 0
  Step old c left reply new = SessionStep (Obeys d t) Tells remaining old c left reply new

  abbrev Runs : SessionView D T → List (Command R A) → List (Command R A) → List Reply → SessionView D T → Type 0
  Runs old list left replies new = SessionRun Step old list left replies new

  -- from where the session stands
  pub run_of : (old new : SessionView D T) (list left : List (Command R A)) (replies : List Reply) → Runs old list left replies new
      → LeadsOn (HoldsAt d t) (λ start. CommandRun remaining start list replies) old new
  run_of = run_induction Step
      (λ old list replies new. LeadsOn (HoldsAt d t) (λ start. CommandRun remaining start list replies) old new)
      (λ s start h. (start, h, refl))
      (λ old now new c left list p replies step later start h.
      let made = (obeys_command old now c left p step).step start h in
      let rest = later made.0 made.1 in
      (rest.0, rest.1, (made.0, made.2, rest.2)))

  -- from the images that faithful devices stand for, where no reply tells of a failure
  pub stacks_of : (old new : SessionView D T) (list left : List (Command R A)) (replies : List Reply) → Runs old list left replies new
      → AreFaithful d t old → All Unfailed replies → LeadsOn (Shows d.image t.text) (λ start. StackRun remaining start list replies) old new
  stacks_of = run_induction Step
      (λ old list replies new. AreFaithful d t old → All Unfailed replies → LeadsOn (Shows d.image t.text) (λ start. StackRun remaining start list replies) old new)
      (λ s faithful all start shows. (start, shows, refl))
      (λ old now new c left list p replies step later faithful all start shows.
      let obeys = obeys_command old now c left p step in
      let unfailed = all_head Unfailed p replies all in
      let made = obeys.stands faithful.0 faithful.1 faithful.2 unfailed start shows in
      let rest = later (obeys.image_faith.1 faithful.0, obeys.journal_faith.1 faithful.1, obeys.redo_faith.1 faithful.2) (all_tail Unfailed p replies all) made.0 made.1 in
      (rest.0, rest.1, (made.0, (made.2, unfailed), rest.2)))

  pub counts_once : (old new : SessionView D T) (c left : Command R A) (reply : Reply) → SessionStep (Obeys d t) Tells remaining old c left reply new
      → CountsBy d t old new (weight reply)
  counts_once old new c left reply step = (obeys_command old new c left reply step).counts

  -- as many replies tell of a failure as the counts rose by
  pub told_of : (old new : SessionView D T) (list left : List (Command R A)) (replies : List Reply) → Runs old list left replies new
      → CountsBy d t old new (count_by is_failure replies)
  told_of = run_induction Step (λ old list replies new. CountsBy d t old new (count_by is_failure replies))
      (λ s. record { image_least = omega arith; journal_least = omega arith; redo_least = omega arith; rise = omega arith })
      (λ old now new c left list p replies step later.
      let once = (obeys_command old now c left p step).counts in
      let all = sum_by-cons weight p replies in
      record {
        image_least = let a = once.image_least in let b = later.image_least in omega arith;
        journal_least = let a = once.journal_least in let b = later.journal_least in omega arith;
        redo_least = let a = once.redo_least in let b = later.redo_least in omega arith;
        rise = let a = once.rise in let b = later.rise in omega arith;
      })

  -- where all are refused
  pub own_of : (old new : SessionView D T) (list left : List (Command R A)) (replies : List Reply) → Runs old list left replies new
      → All IsOwnRefusal replies → new ≡ old
  own_of = run_induction Step (λ old list replies new. All IsOwnRefusal replies → new ≡ old)
      (λ s all. refl)
      (λ old now new c left list p replies step later all.
      later (all_tail IsOwnRefusal p replies all) ∙ (obeys_command old now c left p step).own (all_head IsOwnRefusal p replies all))

  pub same_of : (old new : SessionView D T) (list left : List (Command R A)) (replies : List Reply) → Runs old list left replies new
      → All IsWholeRefusal replies → KeepsImageAndJournal d t old new
  same_of = run_induction Step (λ old list replies new. All IsWholeRefusal replies → KeepsImageAndJournal d t old new)
      (λ s all device store. same_here d.image t.text s)
      (λ old now new c left list p replies step later all device store.
      let obeys = obeys_command old now c left p step in
      same_on d.image t.text old now new (obeys.same (all_head IsWholeRefusal p replies all) device store)
      (later (all_tail IsWholeRefusal p replies all) (obeys.image_faith.1 device) (obeys.journal_faith.1 store)))

  pub redo_same_of : (old new : SessionView D T) (list left : List (Command R A)) (replies : List Reply) → Runs old list left replies new
      → t.faithful old.redo → All IsWholeRefusal replies → IsRedoSame t.text old new
  redo_same_of = run_induction Step (λ old list replies new. t.faithful old.redo → All IsWholeRefusal replies → IsRedoSame t.text old new)
      (λ s redo all. redo_same_here t.text s)
      (λ old now new c left list p replies step later redo all.
      let obeys = obeys_command old now c left p step in
      redo_same_on t.text old now new (obeys.redo_same redo (all_head IsWholeRefusal p replies all))
      (later (obeys.redo_faith.1 redo) (all_tail IsWholeRefusal p replies all)))

  abbrev Finds : SessionView D T → List (Command R A) → List Reply → SessionView D T → Type 0
  Finds old list replies new = RunFinds d t remaining old list replies new

  abbrev Goes : SessionView D T → List (Command R A) → List Reply → SessionView D T → Type 0
  Goes old list replies new = LeadsOn (HoldsAt d t) (λ start. CommandRun remaining start list replies) old new

  -- behind a refusal
  survives_refused : (old now new : SessionView D T) (c left : Command R A) (list : List (Command R A)) (p : Reply) (replies : List Reply) → Step old c left p now
      → IsWholeRefusal p → Finds now list replies new → Finds old (c ∷ list) (p ∷ replies) new
  survives_refused old now new c left list p replies step whole later before h first x text redo there text_there redo_there =
      let obeys = obeys_command old now c left p step in
      let made = obeys.step before h in
      let stays : made.0 ≡ before = step_stays remaining before made.0 c p whole made.2 in
      let Holds : Standing → Type 0 = λ s. HoldsAt d t now s in
      let Steps : Standing → Type 0 = λ s. CommandStep remaining before c p s in
      let nothing = obeys.found_before whole in
      let faithful = holds_faithful d t old before h in
      let found = later before (subst Holds stays made.1)
      (λ all y u s y_there u_there s_there.
      first (All-cons IsWholeRefusal p replies whole all) y u s (nothing.image_before faithful.0 y y_there) (nothing.journal_before faithful.1 u u_there) (nothing.redo_before faithful.2 s s_there))
      x text redo there text_there redo_there in
      (found.0, (before, subst Steps stays made.2, found.1), found.2, found.3)

  -- refusals keep the end of a command that was made, or stopped
  ends_kept : (now new : SessionView D T) (place last : Standing) (list : List (Command R A)) (replies : List Reply) → All IsWholeRefusal replies → Goes now list replies new
      → HoldsAt d t now place → IsAt d t now last → CommandRun remaining last list replies last × IsAt d t new last
  ends_kept now new place (Standing.Up images) list replies all goes holds is_at =
      let made = goes (Standing.Up images) is_at in
      let stays = run_stays remaining (Standing.Up images) made.0 list replies all made.2 in
      let Run : Standing → Type 0 = λ s. CommandRun remaining (Standing.Up images) list replies s in
      let Holds : Standing → Type 0 = λ s. HoldsAt d t new s in
      (subst Run stays made.2, subst Holds stays made.1)
  ends_kept now new (Standing.Up found) (Standing.Down images) list replies all goes holds is_at = absurd (true_is_not_false (sym is_at ∙ holds.3.0.whole))
  ends_kept now new (Standing.Down found) (Standing.Down images) list replies all goes holds is_at =
      let made = goes (Standing.Down found) holds in
      let down = run_down remaining found made.0 list replies made.2 in
      let Holds : Standing → Type 0 = λ s. HoldsAt d t new s in
      (down.1 images, (subst Holds down.0 made.1).3.0)

  -- behind a command that was made, or stopped
  survives_made : (old now new : SessionView D T) (c left : Command R A) (list : List (Command R A)) (p : Reply) (replies : List Reply) → Step old c left p now
      → (IsWholeRefusal p → ⊥) → Goes now list replies new → Refuses d t now replies new → Finds now list replies new → Finds old (c ∷ list) (p ∷ replies) new
  survives_made old now new c left list p replies step stopped goes refuses later before h first x text redo there text_there redo_there =
      let obeys = obeys_command old now c left p step in
      let made = obeys.step before h in
      elim (all_whole_or replies) as (λ _. (after : Standing) × CommandRun remaining before (c ∷ list) (p ∷ replies) after × Found text x redo (images_of after) × IsAt d t new after) [
        | inl all ↦
            let nothing = refuses all in
            let faithful = holds_faithful d t now made.0 made.1 in
            let found = obeys.finds stopped before h x text redo (nothing.image_before faithful.0 x there) (nothing.journal_before faithful.1 text text_there) (nothing.redo_before faithful.2 redo redo_there) in
            let kept = ends_kept now new made.0 found.0 list replies all goes made.1 found.3 in
            (found.0, (found.0, found.1, kept.0), found.2, kept.1)
        | inr some ↦
            let found = later made.0 made.1 (λ all. absurd (some all)) x text redo there text_there redo_there in
            (found.0, (made.0, made.2, found.1), found.2, found.3)
      ]

  abbrev All3 : SessionView D T → List (Command R A) → List Reply → SessionView D T → Type 0
  All3 old list replies new = Goes old list replies new × Refuses d t old replies new × Finds old list replies new

  runs_survive : (old new : SessionView D T) (list left : List (Command R A)) (replies : List Reply) → Runs old list left replies new → All3 old list replies new
  runs_survive = run_induction Step All3
      (λ s. ((λ start h. (start, h, refl)), (λ all. nothing_new_here d t s), (λ start h first x text redo there text_there redo_there. (start, refl, first (All-nil IsWholeRefusal) x text redo there text_there redo_there, is_at d t s start h))))
      (λ old now new c left list p replies step later.
      let obeys = obeys_command old now c left p step in (
        (λ start h.
            let made = obeys.step start h in
            let rest = later.0 made.0 made.1 in
            (rest.0, rest.1, (made.0, made.2, rest.2))),
        (λ all.
            nothing_new_on d t old now new obeys.image_faith obeys.journal_faith obeys.redo_faith (obeys.found_before (all_head IsWholeRefusal p replies all))
            (later.1 (all_tail IsWholeRefusal p replies all))),
        elim (whole_or p) as (λ _. Finds old (c ∷ list) (p ∷ replies) new) [
          | inl whole ↦ survives_refused old now new c left list p replies step whole later.2
          | inr stopped ↦ survives_made old now new c left list p replies step stopped later.0 later.1 later.2
        ],
      ))

  -- whatever is found is an end of the run
  pub survives_of : (old new : SessionView D T) (list left : List (Command R A)) (replies : List Reply) → Runs old list left replies new → Finds old list replies new
  survives_of old new list left replies run = (runs_survive old new list left replies run).2
