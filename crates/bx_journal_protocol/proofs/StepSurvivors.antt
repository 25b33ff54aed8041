-- What is found after a loss of power inside a step.
use Rattle.std.proofs.Common.{◌≡◌, ℕ, zero, suc, ◌+◌, ◌-◌, ◌<◌, ◌≤◌, ◌⊎◌, inl, inr, false, List, [], ◌∷◌, ◌++◌, length, length-append, length-take, min, take, drop, slice_index, refl, ap, sym, subst, ◌∙◌, arith, append-nil, Result, Ok, Err, Some}
use Rattle.std.specs.Prelude.{OnErr}
use Rattle.std.proofs.lemmas.List.{places}
use Rattle.std.proofs.Math.Seq.{take-append-add, drop-append_seam}
use Rattle.bx_image.specs.Power.{Only, NoMore, IsFaded, AllFade, FadesBehind, FadesFrom}
use Rattle.bx_journal_format.specs.Kept.{Kept}
use Rattle.bx_journal_format.specs.Shown.{before_zero, has_end, shown}
use Rattle.bx_journal_format.specs.read.Faded.{HasFirst, IsCalm}
use Rattle.bx_journal_format.proofs.ShownLemmas.{IsLeft, begun_left, calm_left, left_of_plain, shown_front, shown_left, plain_shown}
use Rattle.bx_journal_format.proofs.RestLemmas.{sound_plain, unfinished_calm}
use Rattle.bx_journal_format.specs.declared.format.version.Version.{Version}
use Rattle.bx_journal_format.specs.declared.format.version.Version.TheVariants.{Second}
use Rattle.bx_journal_model.specs.Phase.{IsAtRest, IsOpen}
use Rattle.bx_image.specs.declared.device.Device.{Ghosts as DeviceViews}
use Rattle.bx_journal_store.specs.declared.store.TextStore.{Ghosts as StoreViews}
use Rattle.bx_journal_model.specs.declared.devices.Devices.{Devices}
use Rattle.bx_journal_protocol.specs.protocol.Written.{AreSettled}
use Rattle.bx_journal_format.proofs.CalmLemmas.{head_calm, end_calm, short_plain, ending_calm, tail_calm}
use Rattle.bx_journal_format.proofs.RowLemmas.{all_rows_are}
use Rattle.bx_journal_model.specs.Stack.{Recovers, image_at}
use Rattle.bx_journal_model.specs.Step.{StartsEntry, EndsEntry, HasTail, TakesBack}
use Rattle.bx_journal_model.specs.Redo.{RecoversOpen, IsClean, IsRedoOf, Finds}
use Rattle.bx_journal_model.specs.Images.{Images}
use Rattle.bx_journal_model.specs.Machine.{changes_of}
use Rattle.bx_journal_model.specs.Power.{Found}
use Rattle.bx_journal_format.proofs.CleanLemmas.{clean_shown}
use Rattle.bx_journal_protocol.proofs.TurnLemmas.{rest_is_found}
use Rattle.bx_journal_protocol.proofs.ChangeSteps.{head_ok, head_fault, end_ok}
use Rattle.bx_journal_protocol.proofs.EndLineLemmas.{end_is_sharp, cut_is_sharp}
use Rattle.bx_journal_model.proofs.Tails.{joined_rest, rest_plain, tail_fault}
use Rattle.bx_journal_store.specs.Store.{IsCutInPart}
use Rattle.bx_journal_format.specs.Text.{Entry, Stage, Between, Ending, Reading, after_lines, split, start}

-- a text that is on the disk, with bytes that may come behind it
pub sure_front : (x b : List ℕ) → IsFaded (length x) (x ++ b) x
sure_front x b = record {
  kept = omega arith;
  no_longer = omega (arith, length-append x b);
  front = λ i h. grind (arith, places);
  bytes = λ i h. inl (grind (arith, places));
}

-- what is left of a text that was on the disk, and of bytes behind it
pub left_behind : (x b : List ℕ) (P Q : List ℕ → Type 0) → Only x P → FadesBehind x b P Q → AllFade (length x) (x ++ b) Q
left_behind x b P Q only fades c there =
    let T : List ℕ → Type 0 = λ w. IsFaded (length x) w c in
    subst T (append-nil (x ++ b)) (fades.fade (length x) [] (λ d before. let U : List ℕ → Type 0 = λ w. IsFaded (length x) (x ++ b ++ []) w in
    subst U (sym (only d before)) (let V : List ℕ → Type 0 = λ w. IsFaded (length x) w x in subst V (sym (append-nil (x ++ b))) (sure_front x b))) c there)

-- a front that has the whole text
front_is : (x b : List ℕ) (k : ℕ) → length x ≤ k → take k (x ++ b) ≡ x ++ take (k - length x) b
front_is x b k least = ap (λ n. take n (x ++ b)) (let e : k ≡ length x + (k - length x) = omega (arith, least) in e) ∙ take-append-add x b (k - length x)

-- where a byte of what is left of a text is sure, its first one is
less : (n : ℕ) (text c : List ℕ) → 0 < n → IsFaded n text c → IsFaded 1 text c
less n text c some fades = record { kept = omega (arith, some, fades.kept); no_longer = fades.no_longer; front = λ i h. fades.front i (omega (arith, h, some)); bytes = fades.bytes }

-- a text that ends with a save line has bytes
ending_lines : (lines : List (List ℕ)) (es : List Entry) (v : Version) (s : Kept) → after_lines start lines ≡ Some (record { entries = es; stage = Ending v s }) → lines ≡ [] → ⊥
unfolding after_lines
ending_lines [] es v s is none =
    let same : start ≡ record { entries = es; stage = Ending v s } = cc in
    let stage : Between ≡ Ending v s = ap (λ (r : Reading). r.stage) same in cc
ending_lines (l ∷ lines) es v s is none = let e : l ∷ lines ≡ [] = none in cc

ending_some : (text : List ℕ) (es : List Entry) (v : Version) (s : Kept) → after_lines start (split text).lines ≡ Some (record { entries = es; stage = Ending v s }) → 0 < length text
unfolding split
ending_some [] es v s is = absurd (ending_lines [] es v s is refl)
ending_some (b ∷ text) es v s is = omega arith

ending_at : (n : ℕ) (text : List ℕ) (es : List Entry) (v : Version) (s : Kept) → after_lines start (split (take n text)).lines ≡ Some (record { entries = es; stage = Ending v s }) → 0 < n
ending_at n text es v s is = omega (arith, ending_some (take n text) es v s is, length-take n text)

open_some : (v : Version) (s : Kept) (text x : List ℕ) (stack : List (List ℕ)) → IsOpen v s text x stack → 0 < length text
open_some v s text x stack o = ending_some text o.entries v s o.reads.lines

-- what is left of a text at rest and the head of an entry behind it
pub head_survives : (text head x c : List ℕ) (stack : List (List ℕ)) (s : Kept) → StartsEntry text x stack s head → IsFaded (length text) (text ++ head) c → HasFirst (text ++ head) c → Recovers (shown c) x stack
head_survives text head x c stack s starts fades first =
    let opened = head_ok text (text ++ head) x stack s head starts refl in
    let no_end : has_end head ≡ false = ap has_end starts.head_is ∙ head_calm (length stack) s starts.fits (all_rows_are s.len s.runs starts.kept.within starts.kept.bytes) in
    let calm : IsCalm (length text) (text ++ head) = record {
      no_end = ap has_end (drop-append_seam text head) ∙ no_end;
      plain = short_plain (text ++ head) opened.sound.short opened.whole;
    } in
    let shows = shown_front (length text) (text ++ head) c calm fades first in
    head_fault text (shown c) x stack s head starts (shows.count - length text, shows.is ∙ front_is text head shows.count shows.least)

-- what is left of an open text and the end of its entry behind it
pub end_survives : (text line x c : List ℕ) (stack : List (List ℕ)) (s : Kept) → EndsEntry text x stack s line → IsFaded (length text) (text ++ line) c
    → RecoversOpen (shown c) x stack ⊎ Recovers (shown c) x (x ∷ stack)
end_survives text line x c stack s ends fades =
    let rests = end_ok text (text ++ line) x stack s line ends refl in
    let calm : IsCalm (length text) (text ++ line) = record {
      no_end = ap has_end (drop-append_seam text line ∙ ends.end_is) ∙ end_calm (length stack) (length x);
      plain = short_plain (text ++ line) rests.sound.short rests.stands.whole;
    } in
    let some : 0 < length text = open_some Second s text x stack ends.unfinished in
    let shows = shown_front (length text) (text ++ line) c calm fades (inl (less (length text) (text ++ line) c some fades)) in
    end_is_sharp text (shown c) x stack s line ends (shows.count - length text, shows.is ∙ front_is text line shows.count shows.least)

-- an open text is read as it is
pub open_shown : (v : Version) (s : Kept) (text x : List ℕ) (stack : List (List ℕ)) → IsOpen v s text x stack → shown text ≡ text
open_shown v s text x stack o = plain_shown text (short_plain text o.sound.short o.whole)

pub rest_shown : (text x : List ℕ) (stack : List (List ℕ)) → IsAtRest text x stack → shown text ≡ text
rest_shown text x stack rest = plain_shown text (short_plain text rest.sound.short rest.stands.whole)

-- three devices at rest and on the disk are found as they are
pub found_at_rest : (text x r new y redo : List ℕ) (s : Images) → IsAtRest text x s.stack → IsRedoOf r x (changes_of s.stack) s.undone → y ≡ x → new ≡ text → redo ≡ r
    → Finds (shown new) y redo s
found_at_rest text x r new y redo s rest undone same is redo_is =
    let found : Finds text x r s = rest_is_found text x r s (record { rest = rest; undone = undone }) in
    let T : List ℕ → Type 0 = λ w. Finds w x r s in
    let U : List ℕ → Type 0 = λ w. Finds (shown new) w r s in
    let V : List ℕ → Type 0 = λ w. Finds (shown new) y w s in
    subst V (sym redo_is) (subst U (sym same) (subst T (sym (ap shown is ∙ rest_shown text x s.stack rest)) found))

-- what is left of a text that was on the disk, and is cut
pub left_of : (x : List ℕ) (n : ℕ) (P Q : List ℕ → Type 0) → n ≤ length x → Only x P → FadesFrom n P Q → AllFade n x Q
left_of x n P Q fits only fades c there =
    let sure : AllFade (length x) x P = λ d before. let U : List ℕ → Type 0 = λ w. IsFaded (length x) x w in
    subst U (sym (only d before)) (let V : List ℕ → Type 0 = λ w. IsFaded (length x) w x in subst V (append-nil x) (sure_front x [])) in
    let fewer = fades.fade (length x) x sure c there in
    record {
      kept = omega (arith, fewer.kept);
      no_longer = fewer.no_longer;
      front = λ i h. fewer.front i (omega arith);
      bytes = fewer.bytes;
    }

-- a front of a text is what a cut leaves of it that stopped
pub partly_cut : (text new : List ℕ) (n k : ℕ) → n ≤ k → k ≤ length text → new ≡ take k text → IsCutInPart n text new
partly_cut text new n k least most is =
    let long : length new ≡ k = ap length is ∙ length-take k text ∙ (let e : min k (length text) ≡ k = omega (arith, most) in e) in
    record { no_shorter = omega (arith, long); front = is ∙ ap (λ m. take m text) (sym long) }

pub cut_survives : (text x c : List ℕ) (below : List (List ℕ)) (v : Version) (e : Entry) (begins saved : ℕ) → TakesBack text x below v e begins saved → IsFaded saved text c
    → Recovers (shown c) x (x ∷ below) ⊎ RecoversOpen (shown c) x below
cut_survives text x c below v e begins saved t fades =
    let q : Reading = record { entries = t.rest.stands.entries; stage = Between } in
    let calm : IsCalm saved text = record {
      no_end = ending_calm text saved t.entries v e.saved q t.marks.saving t.rest.stands.reads.lines t.rest.stands.whole (ap length t.newest);
      plain = short_plain text t.rest.sound.short t.rest.stands.whole;
    } in
    let some : 0 < saved = ending_at saved text t.entries v e.saved t.marks.saving.lines in
    let shows = shown_front saved text c calm fades (inl (less saved text c some fades)) in
    cut_is_sharp text (shown c) x below v e begins saved t (partly_cut text (shown c) saved shows.count shows.least shows.most shows.is)

pub tail_survives : (text x c : List ℕ) (stack : List (List ℕ)) (es : List Entry) (stage : Stage) (n : ℕ) → HasTail text x stack es stage n → (split text).rest ≡ [] → image_at stage x ≡ x
    → IsFaded n text c → HasFirst text c → Recovers (shown c) x stack
tail_survives text x c stack es stage n t whole same fades first =
    let calm : IsCalm n text = record {
      no_end = tail_calm text n (record { entries = es; stage = Between }) (record { entries = es; stage = stage }) t.mark t.reads.lines whole refl;
      plain = short_plain text t.sound.short whole;
    } in
    let shows = shown_front n text c calm fades first in
    tail_fault text (shown c) x stack es stage n t same (partly_cut text (shown c) n shows.count shows.least shows.most shows.is)

-- what is left of a text with zeros, whose unfinished end is cut off
pub tail_left : (text x c : List ℕ) (stack : List (List ℕ)) (es : List Entry) (stage : Stage) (n : ℕ) → HasTail (shown text) x stack es stage n → image_at stage x ≡ x → IsFaded n text c → HasFirst text c → Recovers (shown c) x stack
tail_left text x c stack es stage n t same fades first =
    let q : Reading = record { entries = es; stage = stage } in
    let is : IsLeft text = left_of_plain text (sound_plain (shown text) (record { entries = es; stage = stage }) (joined_rest (shown text)) t.sound.short t.reads) in
    let within : n ≤ length (before_zero text) = omega (arith, t.mark.within, ap length is.is) in
    let calm : has_end (drop n (shown text)) ≡ false =
    unfinished_calm (shown text) n (record { entries = es; stage = Between }) (record { entries = es; stage = stage }) t.mark t.reads.lines refl (joined_rest (drop n (shown text))) (rest_plain (drop n (shown text))) in
    let behind : has_end (drop n text) ≡ false = calm_left n text is within (ap (λ s. has_end (drop n s)) (sym is.is) ∙ calm) in
    let shows = shown_left n text c is.left behind within fades (begun_left text c is.begun first) in
    tail_fault (shown text) (shown c) x stack es stage n t same
    (partly_cut (shown text) (shown c) n shows.count shows.least (omega (arith, shows.most, ap length is.is)) (shows.is ∙ ap (take shows.count) (sym is.is)))

-- what a cut leaves that stopped
pub partly_faded : (n : ℕ) (text new : List ℕ) → IsCutInPart n text new → IsFaded n text new
partly_faded n text new part =
    let short : length new ≤ length text = omega (arith, ap length part.front ∙ length-take (length new) text) in
    let same : (i : ℕ) → i < length new → slice_index new i ≡ slice_index text i = λ i h. ap (λ t. slice_index t i) part.front ∙ index_take (length new) text i h in
    record {
      kept = part.no_shorter;
      no_longer = short;
      front = λ i h. same i (omega (arith, h, part.no_shorter));
      bytes = λ i h. inl (same i h);
    }
  where
    index_take : (k : ℕ) (t : List ℕ) (i : ℕ) → i < k → slice_index (take k t) i ≡ slice_index t i
    index_take zero t i h = absurd (omega (arith, h))
    index_take (suc k) [] i h = refl
    index_take (suc k) (b ∷ t) zero h = refl
    index_take (suc k) (b ∷ t) (suc i) h = index_take k t i (omega (arith, h))

-- a look at the device leaves all on the disk
pub looked_at : {D T : Type 0} (d : DeviceViews D) (t : StoreViews T) (x : Devices D T) (device : D) → d.image device ≡ d.image x.image
    → NoMore (d.survives x.image) (d.survives device) → AreSettled d t x → AreSettled d t (record { image = device; journal = x.journal; redo = x.redo })
looked_at d t x device same less on = record {
  image = λ c there. on.image c (less c there) ∙ sym same;
  journal = on.journal;
  redo = on.redo;
}

pub survive_err : {T E : Type 0} (r : Result T E) (F : List ℕ → List ℕ → List ℕ → Type 0) (A B C : List ℕ → Type 0) → ((y new redo : List ℕ) → A y → B new → C redo → F y new redo)
    → OnErr r ((y new redo : List ℕ) → A y → B new → C redo → F y new redo)
survive_err (Ok v) F A B C f = tt
survive_err (Err e) F A B C f = f

-- what opening finds of a text as it is shown it finds of the text
pub found_of : (text x redo : List ℕ) (s : Images) → Finds (shown text) x redo s → Found text x redo s
found_of text x redo s finds = record {
  recovers = finds.recovers;
  undone = λ clean. finds.undone (subst IsClean (sym (clean_shown text clean.0 clean.1)) clean);
}

pub found_either : (text x redo : List ℕ) (s u : Images) → Finds (shown text) x redo s ⊎ Finds (shown text) x redo u → Found text x redo s ⊎ Found text x redo u
found_either text x redo s u (inl f) = inl (found_of text x redo s f)
found_either text x redo s u (inr f) = inr (found_of text x redo u f)

pub found_some : (text x redo : List ℕ) (step : ℕ → Images → Images) (k : ℕ) (s : Images) → (i : ℕ) × (i ≤ k) × Finds (shown text) x redo (step i s) → (i : ℕ) × (i ≤ k) × Found text x redo (step i s)
found_some text x redo step k s (i, few, f) = (i, few, found_of text x redo (step i s) f)
