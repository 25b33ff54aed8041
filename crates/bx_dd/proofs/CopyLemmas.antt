-- What was read of an input, and what went out of it.
use Rattle.std.proofs.Common.{◌≡◌, ℕ, ◌+◌, ◌-◌, ◌*◌, ◌/◌, ◌%◌, ◌^◌, ◌<◌, ◌≤◌, max, Bool, true, false, cond, List, [], ◌++◌, length, take, drop, Option, None, Some, refl, sym, ap, ◌∙◌, arith, append_assoc, append-nil, subst, ◌⊎◌, inl, inr, drop_of_length-le}
use Rattle.std.specs.Prelude.{◌||◌, ◌==◌}
use Rattle.std.proofs.Math.Nat.{div-add-mod, mod-eq_of_lt, mul-add-mod_self_left}
use Rattle.std.proofs.lemmas.List.{length-append, length-drop, length-take, take-append-le, take_all, length-take-le, drop-append-le}
use Rattle.std.specs.Io.KnownBytes.{Appends, Consumes, IsAtEnd}
use Rattle.bx_text.proofs.KnownLemmas.{Appends-nil, Consumes-nil, Consumes-trans}
use Rattle.bx_text.proofs.StreamLemmas.{read_within}
use Rattle.bx_text.specs.Stream.{IsReadCause}
use Rattle.bx_text.specs.private.Stream.{StopsAfter}
use Rattle.bx_text.specs.Writing.{WritesFront}
use Rattle.bx_text.specs.declared.fault.IoFault.{IoFault}
use Rattle.bx_text.specs.declared.fault.IoFault.TheVariants.{NoMemory, ReadFailed, WriteFailed, InputTooLong, SkipPastEnd}
use Rattle.bx_dd.specs.declared.convert.records.Tail.{Tail}
use Rattle.bx_dd.specs.declared.counts.Counts.{Counts}
use Rattle.bx_dd.specs.declared.operands.plan.Plan.{Plan}
use Rattle.bx_dd.specs.Counting.{counts_of}
use Rattle.bx_dd.specs.Plan.{plan_form}
use Rattle.bx_dd.specs.Transfer.{output_of, selected_by}
use Rattle.bx_dd.specs.private.Transfer.{IsReadOut, ReadsNoMore, selected}
use Rattle.bx_dd.specs.declared.form.Form.{Form}
use Rattle.bx_dd.specs.declared.form.Shape.{Shape}
use Rattle.bx_dd.specs.declared.form.Shape.TheVariants.{Flat, Block, Unblock}
use Rattle.bx_dd.specs.Output.{converted, cut_records, turned_blocks, shaped}
use Rattle.bx_dd.specs.private.Output.{fitted, line_of}
use Rattle.bx_dd.specs.private.Standing.{HasSizes, last_of}
use Rattle.bx_dd.specs.Streaming.{IsCopy, IsCopyAhead, IsCopyFault, StopsCopy}
use Rattle.bx_dd.specs.private.Streaming.{CopiesRest, Flows, Goes, Output, Staged, StopsFlow, StopsPass, StopsStage, most_of, unit_of, written_by}
use Rattle.bx_dd.proofs.ConvertLemmas.{joined_none}
use Rattle.bx_dd.proofs.RecordsLemmas.{Stands_last, Stands_none, cut_nil, shaped_nil, take_nil}
use Rattle.bx_dd.proofs.TransferLemmas.{asked_skip, drop_read}
use Rattle.bx_dd.proofs.StreamLemmas.{Goes-nil, front_more}
use Rattle.bx_dd.proofs.FlowLemmas.{stands_front}
use Rattle.bx_dd.proofs.UnitLemmas.{joined_units}

unit_pos : (w : Bool) (ibs : ℕ) → 0 < ibs → 0 < cond w ibs 1
unit_pos true ibs pos = pos
unit_pos false ibs pos = omega arith

pub unit_some : (form : Form) → 0 < form.ibs → 0 < unit_of form
unit_some form pos = unit_pos (form.swab || form.sync) form.ibs pos

-- whole units, and whole units
pub sum_whole : (a b n : ℕ) → 0 < n → a % n ≡ 0 → b % n ≡ 0 → (a + b) % n ≡ 0
sum_whole a b n pos p q =
    let e : a + b ≡ n * (a / n + b / n) + 0 = omega (arith, div-add-mod a n, div-add-mod b n) in
    ap (λ k. k % n) e ∙ mul-add-mod_self_left n (a / n + b / n) 0 ∙ mod-eq_of_lt pos

pub less_whole : (got n : ℕ) → 0 < n → (got - got % n) % n ≡ 0
less_whole got n pos =
    let e : got - got % n ≡ n * (got / n) + 0 = omega (arith, div-add-mod got n) in
    ap (λ k. k % n) e ∙ mul-add-mod_self_left n (got / n) 0 ∙ mod-eq_of_lt pos

pub drop_front : (n : ℕ) (xs ys : List ℕ) → length xs ≡ n → drop n (xs ++ ys) ≡ ys
drop_front n xs ys e = drop-append-le n xs ys (omega arith) ∙ ap (λ l. l ++ ys) (drop_of_length-le xs (omega arith))

-- what the end of the input gives of a record is no longer than that may be, but for a newline
fitted_few : (n : ℕ) (line : List ℕ) → length (fitted n line) ≤ n
unfolding fitted
fitted_few n line = omega (arith, length-take {A = ℕ})

line_few : (piece : List ℕ) → length (line_of piece) ≤ length piece + 1
unfolding line_of
line_few piece = omega (arith, length-append {A = ℕ}, length-take {A = ℕ})

one_few : (b : Bool) (xs : List ℕ) (n : ℕ) → length xs ≤ n → length (cond b [] xs) ≤ n
one_few true xs n few = omega arith
one_few false xs n few = few

last_few : (shape : Shape) (size : ℕ) (kept : List ℕ) → length kept ≤ size → length (last_of shape size kept) ≤ size + 1
last_few Flat size kept few = omega arith
last_few Block size kept few = one_few (length kept == 0) (fitted size kept) (size + 1) (omega (arith, fitted_few size kept))
last_few Unblock size kept few = one_few (length kept == 0) (line_of kept) (size + 1) (omega (arith, line_few kept))

-- reading is no more than these bytes ahead of a failed write
pub ahead_of : (ibs : ℕ) (output : List ℕ → List ℕ) (input front last : List ℕ) (k : ℕ) (e : IoFault) → input ≡ front ++ last → length last ≤ max (2 ^ 24) ibs → length (output front) ≤ k + 2 ^ 25 → k ≤ written_by e →
    IsCopyAhead ibs output input e
ahead_of ibs output input front last k (WriteFailed n) is few near grows = (front, last, is, few, omega arith)
ahead_of ibs output input front last k NoMemory is few near grows = tt
ahead_of ibs output input front last k ReadFailed is few near grows = tt
ahead_of ibs output input front last k InputTooLong is few near grows = tt
ahead_of ibs output input front last k SkipPastEnd is few near grows = tt

read_ahead : (ibs : ℕ) (output : List ℕ → List ℕ) (input : List ℕ) (e : IoFault) (wanted room n : ℕ) → IsReadCause e wanted room n → IsCopyAhead ibs output input e
read_ahead ibs output input ReadFailed wanted room n p = tt
read_ahead ibs output input InputTooLong wanted room n p = tt
read_ahead ibs output input NoMemory wanted room n p = tt
read_ahead ibs output input (WriteFailed m) wanted room n p = absurd p
read_ahead ibs output input SkipPastEnd wanted room n p = tt

-- nothing was read
pub stage_start : (form : Form) (out : Output) → HasSizes form → out.waits ≡ [] → out.kept ≡ [] → out.written ≡ 0 → Staged form out.now [] [] out (record { over = false; cut = 0 })
stage_start form out sizes a b e = record {
  done = [];
  parts = refl;
  whole = mod-eq_of_lt (unit_some form sizes.some_ibs);
  flows = record { text = []; stands = rw (joined_none form sizes.some_ibs, b) (Stands_none form.shape form.cbs sizes.some_cbs); goes = rw (a, e) (Goes-nil out.now) };
}

module _ {form : Form} {s : Option (List ℕ)} {input pending : List ℕ} {out : Output} {tail : Tail} (stage : Staged form s input pending out tail) where
  -- bytes were read
  pub stage_read : (chunk next : List ℕ) → next ≡ pending ++ chunk → Staged form s (input ++ chunk) next out tail
  stage_read chunk next is = record {
    done = stage.done;
    parts = ap (λ l. l ++ chunk) stage.parts ∙ append_assoc stage.done pending chunk ∙ ap (λ l. stage.done ++ l) (sym is);
    whole = stage.whole;
    flows = stage.flows;
  }

  -- what was written of the units is no less than what they give, but for what waits and the end of a record
  pub stage_near : HasSizes form → length out.waits ≤ 131072 → length out.kept ≤ form.cbs → length (converted form stage.done) ≤ out.written + 2 ^ 25
  stage_near sizes near room =
      let goes = stage.flows.goes in
      let end = last_of form.shape form.cbs out.kept in
      let last = Stands_last form.shape form.cbs (turned_blocks form stage.done) stage.flows.text out.kept tail.over tail.cut sizes.some_cbs stage.flows.stands in
      omega (arith, ap length last.0, length-append stage.flows.text end, ap length goes.all, length-append goes.out out.waits, goes.count, last_few form.shape form.cbs out.kept room, sizes.few_cbs)

  -- what waited went out
  pub stage_sent : (m : Option (List ℕ)) (next : List ℕ) (j : ℕ) → Goes s m next j stage.flows.text →
      Staged form s input pending (record { now = m; waits = next; written = j; kept = out.kept }) tail
  stage_sent m next j goes = record {
    done = stage.done;
    parts = stage.parts;
    whole = stage.whole;
    flows = record { text = stage.flows.text; stands = stage.flows.stands; goes = goes };
  }

  -- all that follows, converted
  joined_all : (more : List ℕ) → 0 < form.ibs → turned_blocks form (input ++ more) ≡ turned_blocks form stage.done ++ turned_blocks form (pending ++ more)
  joined_all more pos =
      ap (turned_blocks form) (ap (λ l. l ++ more) stage.parts ∙ append_assoc stage.done pending more) ∙ joined_units form stage.done (pending ++ more) pos stage.whole

  pub stage_front : (more : List ℕ) → HasSizes form → (rest : List ℕ) × (converted form (input ++ more) ≡ stage.flows.text ++ rest)
  stage_front more sizes =
      let front = stands_front form.shape form.cbs (turned_blocks form stage.done) stage.flows.text out.kept tail.over tail.cut sizes.some_cbs stage.flows.stands (turned_blocks form (pending ++ more)) in
      (front.0, ap (shaped form.shape form.cbs) (joined_all more sizes.some_ibs) ∙ front.1)

  -- a write of what waits failed
  pub stage_unsent : (m : Option (List ℕ)) (e : IoFault) → HasSizes form → WritesFront 0 s m stage.flows.text e → WritesFront 0 s m (converted form input) e
  stage_unsent m e sizes stop =
      let front = stage_front [] sizes in
      let same : stage.flows.text ++ front.0 ≡ converted form input = sym front.1 ∙ ap (converted form) (append-nil input) in
      subst (λ (l : List ℕ). WritesFront 0 s m l e) same (front_more 0 s m stage.flows.text front.0 e stop)

  module _ (units rest : List ℕ) (is : pending ≡ units ++ rest) (whole : length units % unit_of form ≡ 0) (sizes : HasSizes form) where
    done_units : input ≡ (stage.done ++ units) ++ rest
    done_units = stage.parts ∙ ap (λ l. stage.done ++ l) is ∙ sym (append_assoc stage.done units rest)

    both : length (stage.done ++ units) % unit_of form ≡ 0
    both = ap (λ j. j % unit_of form) (length-append stage.done units) ∙ sum_whole (length stage.done) (length units) (unit_of form) (unit_some form sizes.some_ibs) stage.whole whole

    joined_both : turned_blocks form (stage.done ++ units) ≡ turned_blocks form stage.done ++ turned_blocks form units
    joined_both = joined_units form stage.done units sizes.some_ibs stage.whole

    -- units were converted
    pub stage_pass : {next : Output} {after : Tail} (put : List ℕ) → put ≡ turned_blocks form units → Flows form.shape form.cbs s (turned_blocks form stage.done ++ put) next after →
        Staged form s input rest next after
    stage_pass {next} {after} put same flows = record {
      done = stage.done ++ units;
      parts = done_units;
      whole = both;
      flows = subst (λ (z : List ℕ). Flows form.shape form.cbs s z next after) (ap (λ l. turned_blocks form stage.done ++ l) same ∙ sym joined_both) flows;
    }

    pub stage_stops : (m : Option (List ℕ)) (put : List ℕ) (e : IoFault) → put ≡ turned_blocks form units → StopsFlow form.shape form.cbs s m (turned_blocks form stage.done ++ put) e → StopsStage form s m input e
    stage_stops m put e same stop more =
        let all : turned_blocks form (input ++ more) ≡ (turned_blocks form stage.done ++ put) ++ turned_blocks form (rest ++ more) =
        ap (turned_blocks form) (ap (λ l. l ++ more) done_units ∙ append_assoc (stage.done ++ units) rest more) ∙ joined_units form (stage.done ++ units) (rest ++ more) sizes.some_ibs both
        ∙ ap (λ l. l ++ turned_blocks form (rest ++ more)) (joined_both ∙ ap (λ l. turned_blocks form stage.done ++ l) (sym same)) in
        subst (λ (l : List ℕ). WritesFront 0 s m (shaped form.shape form.cbs l) e) (sym all) (stop (turned_blocks form (rest ++ more)))

read_cause : (e : IoFault) (wanted room total n w size : ℕ) → total + room ≡ 2 ^ 40 → IsReadCause e wanted room n → IsCopyFault e (total + n) w size
read_cause ReadFailed wanted room total n w size is p = omega (arith, p.1)
read_cause InputTooLong wanted room total n w size is p = omega (arith, p.1)
read_cause NoMemory wanted room total n w size is p = absurd p
read_cause (WriteFailed m) wanted room total n w size is p = absurd p
read_cause SkipPastEnd wanted room total n w size is p = absurd p

-- the lengths of a buffer's part that was read into, and of the input with what was read
pub read_sizes : (buf new input : List ℕ) (have want n : ℕ) → have + want ≤ length buf → length new ≡ length (take (have + want - have) (drop have buf)) → n ≤ length new →
    (length new ≡ want) × (length (input ++ take n new) ≡ length input + n)
read_sizes buf new input have want n fits is got =
    let same : have + want - have ≡ want = omega arith in (
      is ∙ length-take-le (have + want - have) (drop have buf) (omega (arith, length-drop have buf)) ∙ same,
      omega (arith, length-append input (take n new), length-take-le n new got),
    )

-- a read failed
pub read_stops : (form : Form) (r0 r1 r2 s : Option (List ℕ)) (input pending : List ℕ) (put : Output) (tail : Tail) (most before wanted room : ℕ) (e : IoFault) → HasSizes form →
    Staged form s input pending put tail → Consumes r0 r1 input → StopsAfter r1 r2 wanted room e → length input + wanted ≤ most → before + length input + room ≡ 2 ^ 40 →
    StopsPass form most before r0 r2 s put.now e
read_stops form r0 r1 r2 s input pending put tail most before wanted room e sizes stage reads stop few all =
    let front = stage_front stage stop.0 sizes in
    let goes = stage.flows.goes in
    let whole = input ++ stop.0 in
    let out = goes.out in
    let is : converted form whole ≡ out ++ (put.waits ++ front.0) = front.1 ∙ ap (λ l. l ++ front.0) goes.all ∙ append_assoc out put.waits front.0 in
    let long : length whole ≡ length input + length stop.0 = length-append input stop.0 in
    let total : before + length whole ≡ before + length input + length stop.0 = omega (arith, long) in
    record {
      input = whole;
      written = length out;
      consumed = Consumes-trans r0 r1 r2 input stop.0 reads stop.1;
      within = omega (arith, long, few, read_within e wanted room (length stop.0) stop.2);
      appended = let part : take (length out) (converted form whole) ≡ out = ap (take (length out)) is ∙ take-append-le (length out) out (put.waits ++ front.0) (omega arith) ∙ take_all (length out) out (omega arith) in rw part goes.went;
      cause = rw total (read_cause e wanted room (before + length input) (length stop.0) (length out) (length (converted form whole)) all stop.2);
      ahead = read_ahead form.ibs (converted form) whole e wanted room (length stop.0) stop.2;
    }

-- a write failed
pub write_stops : (form : Form) (r0 r1 s n : Option (List ℕ)) (input : List ℕ) (most before : ℕ) (e : IoFault) → Consumes r0 r1 input → length input ≤ most → before + length input ≤ 2 ^ 40 →
    IsCopyAhead form.ibs (converted form) input e → WritesFront 0 s n (converted form input) e → StopsPass form most before r0 r1 s n e
write_stops form r0 r1 s n input most before (WriteFailed m) reads within few ahead stop = record {
  input = input;
  written = stop.0;
  consumed = reads;
  within = within;
  appended = stop.3;
  cause = (omega (arith, stop.1), stop.2, few);
  ahead = ahead;
}
write_stops form r0 r1 s n input most before NoMemory reads within few ahead stop = absurd stop
write_stops form r0 r1 s n input most before ReadFailed reads within few ahead stop = absurd stop
write_stops form r0 r1 s n input most before InputTooLong reads within few ahead stop = absurd stop
write_stops form r0 r1 s n input most before SkipPastEnd reads within few ahead stop = absurd stop

-- the input ended
module _ {form : Form} {s : Option (List ℕ)} {input pending : List ℕ} {out : Output} {tail : Tail} (stage : Staged form s input pending out tail) (sizes : HasSizes form) (put : List ℕ) (is : put ≡ turned_blocks form pending) where
  joined_input : turned_blocks form stage.done ++ put ≡ turned_blocks form input
  joined_input = ap (λ l. turned_blocks form stage.done ++ l) is ∙ sym (ap (turned_blocks form) stage.parts ∙ joined_units form stage.done pending sizes.some_ibs stage.whole)

  pub stage_end : {next : Output} {after : Tail} → Flows form.shape form.cbs s (turned_blocks form stage.done ++ put) next after → Flows form.shape form.cbs s (turned_blocks form input) next after
  stage_end {next} {after} flows = subst (λ (z : List ℕ). Flows form.shape form.cbs s z next after) joined_input flows

  pub stage_end_stops : (m : Option (List ℕ)) (e : IoFault) → StopsFlow form.shape form.cbs s m (turned_blocks form stage.done ++ put) e → WritesFront 0 s m (converted form input) e
  stage_end_stops m e stop =
      subst (λ (z : List ℕ). WritesFront 0 s m (shaped form.shape form.cbs z) e) (append-nil (turned_blocks form stage.done ++ put) ∙ joined_input) (stop [])

-- all went out
pub goes_all : (s n : Option (List ℕ)) (waits text whole : List ℕ) (k : ℕ) → waits ≡ [] → text ≡ whole → Goes s n waits k text → Appends s n whole × (k ≡ length whole)
goes_all s n waits text whole k none is g =
    let same : g.out ≡ whole = sym (append-nil g.out) ∙ ap (λ l. g.out ++ l) (sym none) ∙ sym g.all ∙ is in
    (subst (λ (l : List ℕ). Appends s n l) same g.went, g.count ∙ ap length same)

-- ---- the input that a plan selects

module _ {A : Type 0} (plan : Plan A) (skipped input : List ℕ) (len : length skipped ≡ plan.skip * plan.ibs) (few : length input ≤ most_of plan.count plan.ibs) where
  chosen : (count : Option ℕ) → length input ≤ most_of count plan.ibs → selected plan.ibs plan.skip count (skipped ++ input) ≡ input
  chosen None fits = drop_read (plan.skip * plan.ibs) skipped input (inl len)
  chosen (Some n) fits = ap (take (n * plan.ibs)) (drop_read (plan.skip * plan.ibs) skipped input (inl len)) ∙ take_all (n * plan.ibs) input (omega (arith, fits))

  chosen_by : selected_by plan (skipped ++ input) ≡ input
  chosen_by = chosen plan.count few

-- behind what was skipped, reading is as far ahead
rest_ahead : {A : Type 0} (plan : Plan A) (skipped input : List ℕ) → length skipped ≡ plan.skip * plan.ibs → length input ≤ most_of plan.count plan.ibs →
    (e : IoFault) → IsCopyAhead plan.ibs (converted (plan_form plan)) input e → IsCopyAhead plan.ibs (output_of plan) (skipped ++ input) e
rest_ahead plan skipped input len few (WriteFailed n) (front, last, is, small, near) =
    let fits : length front ≤ most_of plan.count plan.ibs = omega (arith, few, ap length is, length-append front last) in
    let same : converted (plan_form plan) front ≡ output_of plan (skipped ++ front) = ap (converted (plan_form plan)) (sym (chosen_by plan skipped front len fits)) in (
      skipped ++ front,
      last,
      ap (λ l. skipped ++ l) is ∙ sym (append_assoc skipped front last),
      small,
      subst (λ (l : List ℕ). length l ≤ n + 2 ^ 25) same near,
    )
rest_ahead plan skipped input len few NoMemory p = tt
rest_ahead plan skipped input len few ReadFailed p = tt
rest_ahead plan skipped input len few InputTooLong p = tt
rest_ahead plan skipped input len few SkipPastEnd p = tt

module _ {A : Type 0} (plan : Plan A) (skipped input : List ℕ) (len : length skipped ≡ plan.skip * plan.ibs) (few : length input ≤ most_of plan.count plan.ibs) where
  selects : selected_by plan (skipped ++ input) ≡ input
  selects = chosen_by plan skipped input len few

  asked : (count : Option ℕ) → length input ≤ most_of count plan.ibs → ReadsNoMore plan.ibs plan.skip count (skipped ++ input)
  asked None fits = tt
  asked (Some n) fits = omega (arith, length-append skipped input, len, fits)

  read_out : (r : Option (List ℕ)) (count : Option ℕ) → length input ≤ most_of count plan.ibs → (length input ≡ most_of count plan.ibs) ⊎ IsAtEnd r → length input ≤ 2 ^ 40 →
      IsReadOut r plan.ibs plan.skip count (skipped ++ input)
  read_out r None fits (inl all) small = absurd (omega arith)
  read_out r (Some n) fits (inl all) small = inr (omega (arith, length-append skipped input, len, all))
  read_out r count fits (inr end) small = inl end

  pub copied : (r0 r1 r2 w0 w1 : Option (List ℕ)) (counts : Counts) → Consumes r0 r1 skipped → Consumes r1 r2 input → (length input ≡ most_of plan.count plan.ibs) ⊎ IsAtEnd r2 →
      plan.skip * plan.ibs + length input ≤ 2 ^ 40 → Appends w0 w1 (converted (plan_form plan) input) → counts ≡ counts_of (plan_form plan) input → IsCopy plan r0 r2 w0 w1 counts
  copied r0 r1 r2 w0 w1 counts skips reads ends small put counted = (
    converted (plan_form plan) input,
    put,
    record {
      read = (skipped ++ input, Consumes-trans r0 r1 r2 skipped input skips reads, asked plan.count few);
      ends = read_out r2 plan.count few ends (omega arith);
      few = omega (arith, length-append skipped input, len);
      made = ap (converted (plan_form plan)) (sym selects);
      counted = counted ∙ ap (counts_of (plan_form plan)) (sym selects);
    },
  )

  pub stopped : (r0 r1 r2 w0 w1 : Option (List ℕ)) (e : IoFault) (before written : ℕ) → before ≡ plan.skip * plan.ibs → Consumes r0 r1 skipped → Consumes r1 r2 input →
      Appends w0 w1 (take written (converted (plan_form plan) input)) →
      IsCopyFault e (before + length input) written (length (converted (plan_form plan) input)) → IsCopyAhead plan.ibs (converted (plan_form plan)) input e → StopsCopy plan r0 r2 w0 w1 e
  stopped r0 r1 r2 w0 w1 e before written is skips reads put cause ahead =
      let total : before + length input ≡ length (skipped ++ input) = omega (arith, length-append skipped input, len, is) in record {
        read = (skipped ++ input, Consumes-trans r0 r1 r2 skipped input skips reads, asked plan.count few);
        written = written;
        appended = subst (λ (l : List ℕ). Appends w0 w1 (take written (converted (plan_form plan) l))) (sym selects) put;
        cause = subst (λ (l : List ℕ). IsCopyFault e (length (skipped ++ input)) written (length (converted (plan_form plan) l))) (sym selects)
            (subst (λ (t : ℕ). IsCopyFault e t written (length (converted (plan_form plan) input))) total cause);
        ahead = rest_ahead plan skipped input len few e ahead;
      }

-- the input ended among the bytes that are skipped
pub converted_none : (form : Form) → HasSizes form → converted form [] ≡ []
converted_none form sizes = ap (shaped form.shape form.cbs) (joined_none form sizes.some_ibs) ∙ shaped_nil form.shape form.cbs sizes.some_cbs

pub cut_none : (form : Form) → 0 < form.ibs → cut_records form.shape form.cbs (turned_blocks form []) ≡ 0
cut_none form pos = ap (cut_records form.shape form.cbs) (joined_none form pos) ∙ cut_nil form.shape form.cbs

module _ {A : Type 0} (plan : Plan A) (input : List ℕ) (few : length input ≤ plan.skip * plan.ibs) where
  nothing : (count : Option ℕ) → selected plan.ibs plan.skip count input ≡ []
  nothing None = drop_of_length-le input few
  nothing (Some n) = ap (take (n * plan.ibs)) (drop_of_length-le input few) ∙ take_nil (n * plan.ibs)

  pub copied_none : (r0 r1 w : Option (List ℕ)) (counts : Counts) → HasSizes (plan_form plan) → Consumes r0 r1 input → IsAtEnd r1 → length input ≤ 2 ^ 40 → counts ≡ counts_of (plan_form plan) [] →
      IsCopy plan r0 r1 w w counts
  copied_none r0 r1 w counts sizes reads end small counted = (
    [],
    Appends-nil w,
    record {
      read = (input, reads, asked_skip plan.ibs plan.skip (length input) plan.count few);
      ends = inl end;
      few = small;
      made = sym (ap (converted (plan_form plan)) (nothing plan.count) ∙ converted_none (plan_form plan) sizes);
      counted = counted ∙ ap (counts_of (plan_form plan)) (sym (nothing plan.count));
    },
  )

skip_fault : (e : IoFault) (wanted n size : ℕ) → IsReadCause e wanted (2 ^ 40) n → IsCopyFault e n 0 size
skip_fault ReadFailed wanted n size p = omega (arith, p.1)
skip_fault InputTooLong wanted n size p = omega (arith, p.1)
skip_fault NoMemory wanted n size p = absurd p
skip_fault (WriteFailed m) wanted n size p = absurd p
skip_fault SkipPastEnd wanted n size p = absurd p

pub stopped_skip : {A : Type 0} (plan : Plan A) (r0 r1 w : Option (List ℕ)) (e : IoFault) → StopsAfter r0 r1 (plan.skip * plan.ibs) (2 ^ 40) e → StopsCopy plan r0 r1 w w e
stopped_skip plan r0 r1 w e stop = record {
  read = (
    stop.0,
    stop.1,
    asked_skip plan.ibs plan.skip (length stop.0) plan.count (read_within e (plan.skip * plan.ibs) (2 ^ 40) (length stop.0) stop.2),
  );
  written = 0;
  appended = Appends-nil w;
  cause = skip_fault e (plan.skip * plan.ibs) (length stop.0) (length (output_of plan stop.0)) stop.2;
  ahead = read_ahead plan.ibs (output_of plan) stop.0 e (plan.skip * plan.ibs) (2 ^ 40) (length stop.0) stop.2;
}

-- the rest of an input, behind what was skipped
module _ {A : Type 0} (plan : Plan A) (form : Form) (most before : ℕ) (r0 r1 r2 w0 w1 : Option (List ℕ)) (skipped : List ℕ) (is_form : form ≡ plan_form plan) (is_most : most ≡ most_of plan.count plan.ibs) (is_before : before ≡ plan.skip * plan.ibs) (len : length skipped ≡ plan.skip * plan.ibs) (skips : Consumes r0 r1 skipped) where
  pub copied_rest : (counts : Counts) → CopiesRest form most before r1 r2 w0 w1 counts → IsCopy plan r0 r2 w0 w1 counts
  copied_rest counts rest =
      copied plan skipped rest.input len (subst (λ (m : ℕ). length rest.input ≤ m) is_most rest.within) r0 r1 r2 w0 w1 counts skips rest.consumed
      (subst (λ (m : ℕ). (length rest.input ≡ m) ⊎ IsAtEnd r2) is_most rest.ends) (omega (arith, rest.few, is_before))
      (subst (λ (f : Form). Appends w0 w1 (converted f rest.input)) is_form rest.appended) (rest.counted ∙ ap (λ f. counts_of f rest.input) is_form)

  pub stopped_rest : (e : IoFault) → StopsPass form most before r1 r2 w0 w1 e → StopsCopy plan r0 r2 w0 w1 e
  stopped_rest e stop =
      stopped plan skipped stop.input len (subst (λ (m : ℕ). length stop.input ≤ m) is_most stop.within) r0 r1 r2 w0 w1 e before stop.written is_before skips stop.consumed
      (subst (λ (f : Form). Appends w0 w1 (take stop.written (converted f stop.input))) is_form stop.appended)
      (subst (λ (f : Form). IsCopyFault e (before + length stop.input) stop.written (length (converted f stop.input))) is_form stop.cause)
      (subst (λ (f : Form). IsCopyAhead f.ibs (converted f) stop.input e) is_form stop.ahead)

-- want of memory, before anything is read
pub stopped_none : {A : Type 0} (plan : Plan A) (r w : Option (List ℕ)) → StopsCopy plan r r w w NoMemory
stopped_none plan r w = record {
  read = ([], Consumes-nil r, asked_skip plan.ibs plan.skip 0 plan.count (omega arith));
  written = 0;
  appended = Appends-nil w;
  cause = (refl, refl);
  ahead = tt;
}
