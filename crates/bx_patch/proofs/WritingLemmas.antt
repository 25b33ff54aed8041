-- Lines that are written behind others, and what a failed write leaves.
use Rattle.std.proofs.Common.{◌≡◌, ℕ, ◌+◌, ◌^◌, ◌<◌, ◌≤◌, true, false, Option, Result, Ok, Err, OnOk, List, [], ◌∷◌, ◌++◌, length, take, drop, refl, sym, ap, subst, ◌∙◌, append_assoc, append-nil, arith}
use Rattle.std.specs.Prelude.{IfErr, codes}
use Rattle.std.specs.List.{flat_map}
use Rattle.std.specs.Io.KnownBytes.{Appends}
use Rattle.std.proofs.lemmas.List.{length-append, length-drop, length-take, take-append-drop}
use Rattle.bx_text.proofs.KnownLemmas.{Appends-nil, Appends-trans}
use Rattle.bx_text.specs.Writing.{WritesFront}
use Rattle.bx_text.specs.declared.fault.IoFault.TheVariants.{WriteFailed as FrontFailed}
use Rattle.bx_patch.specs.declared.diff.fault.DiffFault.{DiffFault}
use Rattle.bx_patch.specs.declared.diff.fault.DiffFault.TheVariants.{NoMemory, TooLarge, OldFailed, NewFailed, WriteFailed}
use Rattle.bx_read.specs.Text.{lines_of}
use Rattle.bx_read.specs.private.Window.{newlines}
use Rattle.bx_patch.specs.Text.{PatchLine, patch_end, with_end, headed, length_text, patch_lines, patch_text, signed_line_text}
use Rattle.bx_patch.specs.declared.diff.row.Extent.{Extent}
use Rattle.bx_patch.specs.Diff.{AreShort, IsFaultFor, TellsWritten, WritesPrefix, counted}
use Rattle.bx_patch.specs.private.Diff.{HasPut, IsLate, IsUntold, PutsPart, WritesUpTo}
use Rattle.bx_patch.proofs.CountLemmas.{newlines_both}
use Rattle.bx_patch.proofs.PushLemmas.{flat_more}

-- more lines behind the ones that were written
headed_more : (head : List ℕ) (lines more : List PatchLine) → 0 < length (flat_map signed_line_text more) →
    headed head (lines ++ more) ≡ (head ++ flat_map signed_line_text lines) ++ flat_map signed_line_text more
headed_more head [] [] some = absurd (omega arith)
headed_more head [] (l ∷ more) some = ap (λ h. h ++ flat_map signed_line_text (l ∷ more)) (sym (append-nil head))
headed_more head (l ∷ lines) more some =
    ap (λ t. head ++ t) (flat_more signed_line_text (l ∷ lines) more) ∙ sym (append_assoc head (flat_map signed_line_text (l ∷ lines)) (flat_map signed_line_text more))

-- a line has a text
pub no_more : (more : List PatchLine) → length (flat_map signed_line_text more) ≡ 0 → more ≡ []
no_more [] none = refl
no_more (l ∷ more) none = absurd (omega arith)

pub put_none : (head : List ℕ) (lines more : List PatchLine) (number written : ℕ) (first now : Option (List ℕ)) → length (flat_map signed_line_text more) ≡ 0 →
    HasPut head lines number written first now → HasPut head (lines ++ more) number written first now
put_none head lines more number written first now none put =
    let same : lines ≡ lines ++ more = sym (append-nil lines) ∙ ap (λ m. lines ++ m) (sym (no_more more none)) in
    subst (λ (ls : List PatchLine). HasPut head ls number written first now) same put

-- behind the first line, which is written
pub begun_put : (head : List ℕ) (lines : List PatchLine) (number written : ℕ) (first now : Option (List ℕ)) → 0 < written →
    HasPut head lines number written first now → Appends first now (head ++ flat_map signed_line_text lines)
begun_put head [] number written first now is put = absurd (omega (arith, is, put.count))
begun_put head (l ∷ lines) number written first now is put = put.put

pub begun_count : (head : List ℕ) (lines : List PatchLine) (number written : ℕ) (first now : Option (List ℕ)) → 0 < written →
    HasPut head lines number written first now → written ≡ counted (length (head ++ flat_map signed_line_text lines))
begun_count head [] number written first now is put = absurd (omega (arith, is, put.count))
begun_count head (l ∷ lines) number written first now is put = put.count

pub begun_number : (head : List ℕ) (lines : List PatchLine) (number written : ℕ) (first now : Option (List ℕ)) → 0 < written →
    HasPut head lines number written first now → number ≡ counted (newlines (head ++ flat_map signed_line_text lines))
begun_number head [] number written first now is put = absurd (omega (arith, is, put.count))
begun_number head (l ∷ lines) number written first now is put = put.number_is

-- and lines that were written have some bytes
no_bytes_yet : (head : List ℕ) (l : PatchLine) (lines : List PatchLine) (number written : ℕ) (first now : Option (List ℕ)) → written ≤ 0 →
    HasPut head (l ∷ lines) number written first now → ⊥
no_bytes_yet head l lines number written first now is put = absurd (omega (arith, is, put.count, length-append head (flat_map signed_line_text (l ∷ lines))))

pub begins_put : (head : List ℕ) (lines : List PatchLine) (number written : ℕ) (first mid now : Option (List ℕ)) → written ≤ 0 →
    HasPut head lines number written first mid → Appends mid now head → Appends first now (head ++ flat_map signed_line_text lines)
begins_put head [] number written first mid now is put more =
    subst (Appends first now) (sym (append-nil head)) (Appends-trans first mid now [] head put.put more)
begins_put head (l ∷ lines) number written first mid now is put more = absurd (no_bytes_yet head l lines number written first mid is put)

pub begins_count : (head : List ℕ) (lines : List PatchLine) (number written next : ℕ) (first mid : Option (List ℕ)) → written ≤ 0 →
    HasPut head lines number written first mid → next ≡ counted (written + length head) → next ≡ counted (length (head ++ flat_map signed_line_text lines))
begins_count head [] number written next first mid is put count =
    omega (arith, count, put.count, ap length (append-nil head))
begins_count head (l ∷ lines) number written next first mid is put count = absurd (no_bytes_yet head l lines number written first mid is put)

pub begins_number : (head : List ℕ) (lines : List PatchLine) (number written next : ℕ) (first mid : Option (List ℕ)) → written ≤ 0 →
    HasPut head lines number written first mid → next ≡ newlines head → next < 2 ^ 64 → next ≡ counted (newlines (head ++ flat_map signed_line_text lines))
begins_number head [] number written next first mid is put count fits =
    omega (arith, count, fits, ap newlines (append-nil head))
begins_number head (l ∷ lines) number written next first mid is put count fits = absurd (no_bytes_yet head l lines number written first mid is put)

-- the first line and some lines, which were counted
pub record HasBegun (head : List ℕ) (lines : List PatchLine) (number written : ℕ) (first now : Option (List ℕ)) : Type 0 where
  pub put : Appends first now (head ++ flat_map signed_line_text lines)
  pub number_is : number ≡ counted (newlines (head ++ flat_map signed_line_text lines))
  pub count : written ≡ counted (length (head ++ flat_map signed_line_text lines))

-- more lines were written behind them
pub record HasAdded (more : List PatchLine) (number next written after : ℕ) (mid now : Option (List ℕ)) : Type 0 where
  pub put : Appends mid now (flat_map signed_line_text more)
  pub number_is : next ≡ counted (number + newlines (flat_map signed_line_text more))
  pub count : after ≡ counted (written + length (flat_map signed_line_text more))

pub put_more : (head : List ℕ) (lines more : List PatchLine) (number next written after : ℕ) (first mid now : Option (List ℕ)) →
    0 < length (flat_map signed_line_text more) → HasBegun head lines number written first mid → HasAdded more number next written after mid now →
    HasPut head (lines ++ more) next after first now
put_more head lines more number next written after first mid now some has add =
    let done = head ++ flat_map signed_line_text lines in
    let text = flat_map signed_line_text more in
    let all = headed_more head lines more some in
    record {
      put = subst (Appends first now) (sym all) (Appends-trans first mid now done text has.put add.put);
      number_is = omega (arith, has.number_is, add.number_is, newlines_both done text, ap newlines all);
      count = omega (arith, has.count, add.count, length-append done text, ap length all);
    }

-- a prefix of a text is one of a longer text
pub part_longer : (fault : DiffFault) (old new : Option (List ℕ)) (text more : List ℕ) → WritesUpTo old new text fault → WritesUpTo old new (text ++ more) fault
part_longer fault old new text more part =
    (part.0, part.1 ++ more, ap (λ t. t ++ more) part.2 ∙ append_assoc part.0 part.1 more, part.3, part.4)

-- what a fault tells behind bytes that were counted
tells_behind : (fault : DiffFault) (written n m : ℕ) → written ≡ counted n → TellsWritten (written + m) fault → TellsWritten (n + m) fault
tells_behind NoMemory written n m e tells = tt
tells_behind TooLarge written n m e tells = tt
tells_behind OldFailed written n m e tells = tt
tells_behind NewFailed written n m e tells = tt
tells_behind (WriteFailed k) written n m e tells = omega (arith, tells, e)

-- a prefix behind what was written
pub prefix_behind : (fault : DiffFault) (first mid now : Option (List ℕ)) (before text : List ℕ) (written : ℕ) → Appends first mid before →
    written ≡ counted (length before) → PutsPart written mid now text fault → WritesPrefix first now (before ++ text) fault
prefix_behind fault first mid now before text written put count part = (
  before ++ part.0,
  part.1,
  ap (λ t. before ++ t) part.2 ∙ sym (append_assoc before part.0 part.1),
  part.3,
  Appends-trans first mid now before part.0 put part.4,
  subst (λ (n : ℕ). TellsWritten n fault) (sym (length-append before part.0)) (tells_behind fault written (length before) (length part.0) count part.5),
)

pub part_behind : (fault : DiffFault) (first mid now : Option (List ℕ)) (before text : List ℕ) (written : ℕ) → Appends first mid before →
    written ≡ counted (length before) → PutsPart written mid now text fault → WritesUpTo first now (before ++ text) fault
part_behind fault first mid now before text written put count part =
    let is = prefix_behind fault first mid now before text written put count part in
    (is.0, is.1, is.2, is.4, is.5)

-- a write that failed behind n bytes
pub put_failed : (n told before : ℕ) (old new : Option (List ℕ)) (bytes : List ℕ) → told ≡ counted (before + n) → WritesFront 0 old new bytes (FrontFailed n) →
    PutsPart before old new bytes (WriteFailed told)
put_failed n told before old new bytes e is = (
  take is.0 bytes,
  drop is.0 bytes,
  sym (take-append-drop is.0 bytes),
  omega (arith, is.2, length-drop {A = ℕ} is.0 bytes),
  is.3,
  omega (arith, e, is.1, is.2, length-take {A = ℕ} is.0 bytes),
)

pub begin_failed : (fault : DiffFault) (head : List ℕ) (lines : List PatchLine) (number written : ℕ) (first mid now : Option (List ℕ)) → written ≤ 0 →
    HasPut head lines number written first mid → PutsPart written mid now head fault → WritesUpTo first now (head ++ flat_map signed_line_text lines) fault
begin_failed fault head [] number written first mid now is put part =
    subst (λ (t : List ℕ). WritesUpTo first now t fault) (sym (append-nil head)) (part_behind fault first mid now [] head written put.put put.count part)
begin_failed fault head (l ∷ lines) number written first mid now is put part = absurd (no_bytes_yet head l lines number written first mid is put)

pub text_failed : (fault : DiffFault) (head : List ℕ) (lines more : List PatchLine) (first now : Option (List ℕ)) → 0 < length (flat_map signed_line_text more) →
    WritesUpTo first now ((head ++ flat_map signed_line_text lines) ++ flat_map signed_line_text more) fault → WritesUpTo first now (headed head (lines ++ more)) fault
text_failed fault head lines more first now some part =
    subst (λ (t : List ℕ). WritesUpTo first now t fault) (sym (headed_more head lines more some)) part

-- lines that were written are a prefix of those and more
pub lines_part : (fault : DiffFault) (head : List ℕ) (lines more : List PatchLine) (number written : ℕ) (first now : Option (List ℕ)) → IsUntold fault →
    HasPut head lines number written first now → WritesUpTo first now (headed head (lines ++ more)) fault
lines_part fault head [] more number written first now tells put = ([], headed head more, refl, put.put, tells 0)
lines_part fault head (l ∷ lines) more number written first now tells put =
    let done = head ++ flat_map signed_line_text (l ∷ lines) in (
      done,
      flat_map signed_line_text more,
      ap (λ t. head ++ t) (flat_more signed_line_text (l ∷ lines) more) ∙ sym (append_assoc head (flat_map signed_line_text (l ∷ lines)) (flat_map signed_line_text more)),
      put.put,
      tells (length done),
    )

pub headed_prefix : (fault : DiffFault) (head : List ℕ) (lines more : List PatchLine) (first now : Option (List ℕ)) → WritesUpTo first now (headed head lines) fault →
    WritesUpTo first now (headed head (lines ++ more)) fault
headed_prefix fault head [] more first now part = empty part.0 part.1 part.2 part.3 part.4
  where
    empty : (a b : List ℕ) → [] ≡ a ++ b → Appends first now a → TellsWritten (length a) fault → WritesUpTo first now (headed head more) fault
    empty [] b e put tells = ([], headed head more, refl, put, tells)
    empty (x ∷ a) b e put tells = absurd (omega (arith, ap length e))
headed_prefix fault head (l ∷ lines) more first now part =
    subst (λ (t : List ℕ). WritesUpTo first now t fault)
    (append_assoc head (flat_map signed_line_text (l ∷ lines)) (flat_map signed_line_text more) ∙ ap (λ t. head ++ t) (sym (flat_more signed_line_text (l ∷ lines) more)))
    (part_longer fault first now (head ++ flat_map signed_line_text (l ∷ lines)) (flat_map signed_line_text more) part)

pub nothing_written : (fault : DiffFault) (now : Option (List ℕ)) (text : List ℕ) → 0 < length text → IsUntold fault → WritesPrefix now now text fault
nothing_written fault now text some tells = ([], text, refl, some, Appends-nil now, tells 0)

pub memory_untold : (fault : DiffFault) → fault ≡ NoMemory → IsUntold fault
memory_untold fault e = subst IsUntold (sym e) (λ n. tt)

-- the last line, with its newline
abbrev last_of : ℕ → List ℕ
last_of n = patch_end n ++ codes "\n"

-- it is written behind all others
pub ended_some : (lines : List ℕ) → 0 < length (with_end lines)
ended_some lines = omega (arith, length-append lines (last_of (length (lines_of lines))))

pub text_some : (extent : Extent) (x y : List ℕ) → 0 < length (patch_text extent x y)
text_some extent x y = ended_some (headed (length_text (length x) (length y) ++ codes "\n") (patch_lines extent x y))

pub ended_put : (head : List ℕ) (lines : List PatchLine) (number written : ℕ) (first mid now : Option (List ℕ)) → HasPut head lines number written first mid →
    number ≡ length (lines_of (headed head lines)) → Appends mid now (last_of number) → Appends first now (with_end (headed head lines))
ended_put head lines number written first mid now put is more =
    subst (λ (n : ℕ). Appends first now (headed head lines ++ last_of n)) is (Appends-trans first mid now (headed head lines) (last_of number) put.put more)

pub ended_failed : (fault : DiffFault) (head : List ℕ) (lines : List PatchLine) (number written : ℕ) (first mid now : Option (List ℕ)) →
    HasPut head lines number written first mid → number ≡ length (lines_of (headed head lines)) → PutsPart written mid now (last_of number) fault →
    WritesPrefix first now (with_end (headed head lines)) fault
ended_failed fault head lines number written first mid now put is part =
    subst (λ (n : ℕ). WritesPrefix first now (headed head lines ++ last_of n) fault) is
    (prefix_behind fault first mid now (headed head lines) (last_of number) written put.put put.count part)

-- and isn't written behind a part of them
pub never_ended : (fault : DiffFault) (lines : List ℕ) (first now : Option (List ℕ)) → WritesUpTo first now lines fault → WritesPrefix first now (with_end lines) fault
never_ended fault lines first now part =
    let last = last_of (length (lines_of lines)) in (
      part.0,
      part.1 ++ last,
      ap (λ t. t ++ last) part.2 ∙ append_assoc part.0 part.1 last,
      omega (arith, length-append part.1 last),
      part.3,
      part.4,
    )

-- whether two lists are too large is known before they are compared
pub late_fault : (fault : DiffFault) (x y : List ℕ) → IsLate fault → AreShort x y → IsFaultFor x y fault
late_fault NoMemory x y late short = short
late_fault TooLarge x y late short = let e : true ≡ false = late in cc
late_fault OldFailed x y late short = tt
late_fault NewFailed x y late short = tt
late_fault (WriteFailed n) x y late short = short

pub OnOk-three : {T E P Q R S : Type 0} (r : Result T E) → (P → Q → R → S) → OnOk r P → OnOk r Q → OnOk r R → OnOk r S
OnOk-three (Ok t) f p q s = f p q s
OnOk-three (Err e) f p q s = tt

pub OnOk-map : {T E P Q : Type 0} (r : Result T E) → (P → Q) → OnOk r P → OnOk r Q
OnOk-map (Ok t) f p = f p
OnOk-map (Err e) f p = tt

pub IfErr-map : {T E : Type 0} {P Q : E → Type 0} (r : Result T E) → ((e : E) → P e → Q e) → IfErr r P → IfErr r Q
IfErr-map (Ok t) f p = tt
IfErr-map (Err e) f p = f e p
