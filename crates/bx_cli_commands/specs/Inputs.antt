-- What the input of a job asks of its image.
use Rattle.std.specs.Prelude.{◌≡◌, ◌⊎◌, ℕ, Bool, true, false, List, Result, Ok, Err}
use Rattle.bx_image.specs.declared.change.Change.{Change}
use Rattle.bx_patch.specs.declared.read.fault.PatchFault.TheVariants as of_patch
use Rattle.bx_patch.specs.Fault.{IsFaultOfPatch}
use Rattle.bx_patch.specs.Grammar.{IsPatch}
use Rattle.bx_patch.specs.Patch.{Asked, TurnsRound, reversed}
use Rattle.bx_read.specs.declared.fault.ReadFault.{ReadFault}
use Rattle.bx_cli_commands.specs.declared.command.Reply.{Reply}
use Rattle.bx_cli_commands.specs.declared.fault.Fault.{Fault}
use Rattle.bx_cli_commands.specs.declared.fault.Fault.TheVariants.{NotReversible, Patch}
use Rattle.bx_cli_commands.specs.declared.reading.Form.{Form}
use Rattle.bx_cli_commands.specs.declared.reading.Form.TheVariants.{Dump, Plain}
use Rattle.bx_cli_commands.specs.Reading.{IsSomeChangeOf, IsTextFault}
use Rattle.bx_cli_commands.specs.Run.{DumpStep, PlainStep, ReadStep}
use Rattle.bx_cli_commands.specs.Standing.{Standing}

-- how a job's dump is written
abbrev pub form_by : Bool → Form
form_by true = Plain
form_by false = Dump

-- what a text asks of an image, where `plain` says whether it is plain hexadecimal and `at` is its place or is added to its addresses: a change that
-- writes something; or the text has this fault
abbrev pub AsksByDump : {A : Type 0} → Bool → ℕ → List ℕ → Result (Change A) ReadFault → Type 0
AsksByDump plain at text (Ok change) = IsSomeChangeOf (form_by plain) text at change
AsksByDump plain at text (Err fault) = IsTextFault (form_by plain) text fault

-- what is asked is what the patch asks, or where it is turned that the other way round
abbrev pub IsTurnedBy : Bool → Asked → Asked → Type 0
IsTurnedBy true p asked = TurnsRound p × (asked ≡ reversed p)
IsTurnedBy false p asked = asked ≡ p

-- the text is a patch that asks this of an image, or where it is turned this the other way round
abbrev pub AsksByPatch : Bool → List ℕ → Asked → Type 0
AsksByPatch turned text asked = (p : Asked) × IsPatch text p × IsTurnedBy turned p asked

-- why a text asks nothing: it is no patch, or memory was refused; or it is to be turned round, and can't be
abbrev pub RefusesPatch : Bool → List ℕ → Fault → Type 0
RefusesPatch turned text (Patch e) = (e ≡ of_patch.NoMemory) ⊎ IsFaultOfPatch text e
RefusesPatch turned text NotReversible = (turned ≡ true) × ((p : Asked) × IsPatch text p × (TurnsRound p → ⊥))
RefusesPatch turned text fault = ⊥

-- a text is put onto the image: a dump, or plain hexadecimal from a place on
abbrev pub PutStep : (A : Type 0) → Bool → ℕ → Standing → List ℕ → Reply → Standing → Type 0
PutStep A true at before text reply after = PlainStep A before text at reply after
PutStep A false at before text reply after = DumpStep A before text at reply after

-- The bytes of a text are what is written onto the image: the step by what was read of a job's dump is the one that puts the text onto it.
abbrev pub DumpIsPut : Type 0 → Type 0
DumpIsPut A = (plain : Bool) (at : ℕ) (text : List ℕ) (read : Result (Change A) ReadFault) (before after : Standing) (reply : Reply)
    → AsksByDump plain at text read → ReadStep before (λ c. c) read reply after → PutStep A plain at before text reply after
