-- Where a conversion stands once some blocks were given to it.
use Rattle.std.specs.Prelude.{ℕ, ◌-◌, ◌<◌, ◌≤◌, ◌≢◌, ◌==◌, Bool, if◌then◌else◌, List, [], ◌++◌, length, take, drop, slice_index}
use Rattle.bx_dd.specs.Standing.{Stands}
use Rattle.bx_dd.specs.declared.form.Shape.{Shape}
use Rattle.bx_dd.specs.declared.form.Shape.TheVariants.{Flat, Block, Unblock}
use Rattle.bx_dd.specs.Output.{unfinished}
use Rattle.bx_dd.specs.private.Output.{fitted, line_of}
use Rattle.bx_dd.specs.declared.form.Form.{Form}

-- the bytes of the records that are finished
abbrev pub finished : Shape → ℕ → List ℕ → List ℕ
finished shape size bytes = take (length bytes - unfinished shape size bytes) bytes

-- the bytes after them
abbrev pub record_rest : Shape → ℕ → List ℕ → List ℕ
record_rest shape size bytes = drop (length bytes - unfinished shape size bytes) bytes

-- what the end of the input gives of a record that was kept
abbrev pub last_of : Shape → ℕ → List ℕ → List ℕ
last_of Flat size kept = []
last_of Block size kept = if length kept == 0 then [] else fitted size kept
last_of Unblock size kept = if length kept == 0 then [] else line_of kept

-- the sizes that a form may have
pub record HasSizes (form : Form) : Type 0 where
  pub some_ibs : 0 < form.ibs
  pub few_ibs : form.ibs ≤ 1099511627775
  pub some_obs : 0 < form.obs
  pub some_cbs : form.shape ≢ Flat → 0 < form.cbs
  pub few_cbs : form.cbs ≤ 16777216

-- Bytes without a newline are kept behind whatever bytes stand so.
abbrev pub HoldsText : ℕ → List ℕ → List ℕ → Bool → Bool → List ℕ → Type 0
HoldsText size kept0 kept1 over0 over1 text =
    (z out : List ℕ) (cut : ℕ) → ((k : ℕ) → k < length text → slice_index text k ≢ 10) →
    Stands Block size z out kept0 over0 cut → Stands Block size (z ++ text) out kept1 over1 cut
