-- The same by the page, the bytes kept, and where the records end.
use Rattle.std.specs.Prelude.{◌≡◌, ◌≢◌, ℕ, ◌+◌, ◌^◌, ◌≤◌, max, ◌⊎◌, if◌then◌else◌, List, [], ◌++◌, length, take, Vec, vec_capacity, Option, IfOk, IfErr, OnOk}
use Rattle.std.specs.Io.KnownBytes.{Appends, Consumes, IsAtEnd}
use Rattle.std.specs.declared.result.Result.{Result}
use Rattle.bx_text.specs.declared.fault.IoFault.{IoFault}
use Rattle.bx_text.specs.Writing.{WritesFront}
use Rattle.bx_dd.specs.declared.form.Form.{Form}
use Rattle.bx_dd.specs.declared.form.Shape.{Shape}
use Rattle.bx_dd.specs.declared.form.Shape.TheVariants.{Flat}
use Rattle.bx_dd.specs.declared.convert.records.Tail.{Tail}
use Rattle.bx_dd.specs.declared.stream.copy.Task.{Task}
use Rattle.bx_dd.specs.declared.stream.copy.Turn.{Turn}
use Rattle.bx_dd.specs.declared.stream.copy.Waiting.{Waiting}
use Rattle.bx_dd.specs.declared.counts.Counts.{Counts}
use Rattle.bx_dd.specs.declared.page.Page.{Page}
use Rattle.bx_dd.specs.Counting.{counts_of}
use Rattle.bx_dd.specs.Output.{converted, cut_records, turned_blocks}
use Rattle.bx_dd.specs.Standing.{Stands}
use Rattle.bx_dd.specs.private.Standing.{HasSizes}
use Rattle.bx_dd.specs.private.Streaming.{Flows, Goes, Output, Staged, StopsFlow, StopsStage, unit_of}

-- of a text, a part went out and the rest waits in the page
abbrev pub GoesBy : {A : Type 0} → Option (List ℕ) → Option (List ℕ) → Page A → List ℕ → Type 0
GoesBy start now page text = Goes start now page.bytes.items page.written text

-- Bytes were put behind whatever text stands so.
abbrev pub Puts : {A V E : Type 0} → Option (List ℕ) → Option (List ℕ) → Page A → Page A → List ℕ → Result V E → Type 0
Puts w0 w1 page0 page1 bytes outcome =
    (start : Option (List ℕ)) (text : List ℕ) → GoesBy start w0 page0 text → OnOk outcome (GoesBy start w1 page1 (text ++ bytes))

-- A front of that went out.
abbrev pub StopsPut : {A V : Type 0} → Option (List ℕ) → Option (List ℕ) → Page A → List ℕ → Result V IoFault → Type 0
StopsPut w0 w1 page0 bytes outcome =
    (start : Option (List ℕ)) (text : List ℕ) → GoesBy start w0 page0 text → IfErr outcome (WritesFront 0 start w1 (text ++ bytes))

-- What waited went out, whatever text stood so.
abbrev pub Flushes : {A V E : Type 0} → Option (List ℕ) → Option (List ℕ) → Page A → Page A → Result V E → Type 0
Flushes w0 w1 page0 page1 outcome = (start : Option (List ℕ)) (text : List ℕ) → GoesBy start w0 page0 text → OnOk outcome (GoesBy start w1 page1 text)

-- A front of it went out.
abbrev pub StopsFlush : {A V : Type 0} → Option (List ℕ) → Option (List ℕ) → Page A → Result V IoFault → Type 0
StopsFlush w0 w1 page0 outcome = (start : Option (List ℕ)) (text : List ℕ) → GoesBy start w0 page0 text → IfErr outcome (WritesFront 0 start w1 text)

-- an output by its writer's contents, its page, and what is kept
abbrev pub output : {A B : Type 0} → Option (List ℕ) → Page A → Vec ℕ B → Output
output now page held = record { now = now; waits = page.bytes.items; written = page.written; kept = held.items }

-- More bytes flow behind whatever bytes do.
abbrev pub Pushes : Shape → ℕ → Output → Output → Tail → List ℕ → Result Tail IoFault → Type 0
Pushes shape size out0 out1 tail bytes outcome =
    (z : List ℕ) (start : Option (List ℕ)) → Flows shape size start z out0 tail → IfOk outcome (Flows shape size start (z ++ bytes) out1)

-- A front of what is written of them and of whatever follows went out.
abbrev pub StopsPush : {V : Type 0} → Shape → ℕ → Output → Option (List ℕ) → Tail → List ℕ → Result V IoFault → Type 0
StopsPush shape size out0 now tail bytes outcome =
    (z : List ℕ) (start : Option (List ℕ)) → Flows shape size start z out0 tail → IfErr outcome (StopsFlow shape size start now (z ++ bytes))

-- More bytes flow behind whatever bytes do, and no more records are cut.
abbrev pub PushesPieces : {V E : Type 0} → Shape → ℕ → Output → Output → List ℕ → Result V E → Type 0
PushesPieces shape size out0 out1 bytes outcome = (tail : Tail) (z : List ℕ) (start : Option (List ℕ)) → Flows shape size start z out0 tail →
    OnOk outcome (Flows shape size start (z ++ bytes) out1 tail)

-- A front of what is written of them and of whatever follows went out.
abbrev pub StopsPieces : {V : Type 0} → Shape → ℕ → Output → Option (List ℕ) → List ℕ → Result V IoFault → Type 0
StopsPieces shape size out0 now bytes outcome = (tail : Tail) → StopsPush shape size out0 now tail bytes outcome

-- the output of a copy by its writer's contents and what waits
abbrev pub output_with : {A : Type 0} → Option (List ℕ) → Waiting A → Output
output_with now waiting = output now waiting.page waiting.held

-- A copy may begin: a unit has room in the buffer, a record in what is kept, and nothing is kept or waits.
pub record IsFresh {A : Type 0} (form : Form) (limit : ℕ) (buf : List ℕ) (waiting : Waiting A) : Type 0 where
  pub sizes : HasSizes form
  pub most : limit ≡ 2 ^ 40
  pub inside : unit_of form ≤ length buf
  pub few : length buf ≤ max (2 ^ 24) form.ibs
  pub none : (waiting.held.items ≡ []) × (waiting.page.bytes.items ≡ []) × (waiting.page.written ≡ 0)
  pub room : form.shape ≢ Flat → form.cbs ≤ vec_capacity waiting.held

-- The rest of an input was read, as much of it as the task asks for, and stands converted.
pub record Passes (task : Task) (r0 r1 start : Option (List ℕ)) (buf : List ℕ) (out : Output) (turn : Turn) : Type 0 where
  pub input : List ℕ
  pub consumed : Consumes r0 r1 input
  pub within : length input ≤ task.most
  pub ends : (length input ≡ task.most) ⊎ IsAtEnd r1
  pub read : turn.read ≡ length input
  pub stage : Staged task.form start input (take turn.have buf) out turn.tail

-- Whatever stood so, a front of all that is written of the input went out.
abbrev pub StopsStageOf : {V : Type 0} → Form → Output → Option (List ℕ) → List ℕ → Tail → Result V IoFault → Type 0
StopsStageOf form out0 now pending tail outcome =
    (input : List ℕ) (start : Option (List ℕ)) → Staged form start input pending out0 tail → IfErr outcome (StopsStage form start now input)

-- More was read, whatever stood so: of all of it whole units flow, and the rest is pending.
abbrev pub TakesTurn : {E : Type 0} → Form → Output → Output → List ℕ → List ℕ → Turn → Result Turn E → Type 0
TakesTurn form out0 out1 before after turn outcome =
    (input : List ℕ) (start : Option (List ℕ)) → Staged form start input (take turn.have before) out0 turn.tail →
    IfOk outcome (λ t. Staged form start input (take t.have after) out1 t.tail)

-- All that is written of the input went out, whatever stood so, and is counted.
abbrev pub Finishes : {E : Type 0} → Form → Output → Output → List ℕ → Tail → Result Tail E → Type 0
Finishes form out0 out1 pending tail outcome =
    (input : List ℕ) (start : Option (List ℕ)) → Staged form start input pending out0 tail →
    IfOk outcome (λ t. Appends start out1.now (converted form input) × (out1.written ≡ length (converted form input))
    × ((if t.over then t.cut + 1 else t.cut) ≡ cut_records form.shape form.cbs (turned_blocks form input)))

-- A front of it went out.
abbrev pub StopsFinish : {V : Type 0} → Form → Output → Option (List ℕ) → List ℕ → Tail → Result V IoFault → Type 0
StopsFinish form out0 now pending tail outcome = (input : List ℕ) (start : Option (List ℕ)) → Staged form start input pending out0 tail →
    IfErr outcome (WritesFront 0 start now (converted form input))

-- These are the counts of any input of `read` bytes with an output of `written` bytes and as many cut records as `tail` says.
abbrev pub CountsAll : Form → ℕ → ℕ → Tail → Counts → Type 0
CountsAll form read written tail counts =
    (input : List ℕ) → read ≡ length input → written ≡ length (converted form input) →
    (if tail.over then tail.cut + 1 else tail.cut) ≡ cut_records form.shape form.cbs (turned_blocks form input) →
    counts ≡ counts_of form input

-- Bytes are put into records behind whatever bytes stand so.
abbrev pub Takes : {E : Type 0} → Form → List ℕ → List ℕ → List ℕ → List ℕ → Tail → List ℕ → Result Tail E → Type 0
Takes form out0 out1 kept0 kept1 tail bytes outcome =
    (z : List ℕ) → Stands form.shape form.cbs z out0 kept0 tail.over tail.cut →
    IfOk outcome (λ t. Stands form.shape form.cbs (z ++ bytes) out1 kept1 t.over t.cut)

-- what is kept has room, and no more records were cut than a block has bytes, and of a whole block no more than it has
abbrev pub TakesWithin : Form → List ℕ → Tail → ℕ → Tail → Type 0
TakesWithin form kept tail n t = (length kept ≤ form.cbs) × (t.cut ≤ tail.cut + form.ibs) × (n ≡ form.ibs → t.cut ≤ tail.cut + n)
