-- What a plan says of its input and output.
use Rattle.std.specs.Prelude.{ℕ, ◌*◌, if◌then◌else◌, List, [], ◌∷◌, None, Some}
use Rattle.bx_image.specs.declared.change.Change.{Change}
use Rattle.bx_dd.specs.declared.form.Form.{Form}
use Rattle.bx_dd.specs.declared.operands.plan.Plan.{Plan}

-- its sizes and conversions
abbrev pub plan_form : {A : Type 0} → Plan A → Form
plan_form plan = record { ibs = plan.ibs; obs = plan.obs; cbs = plan.cbs; swab = plan.swab; sync = plan.sync; letters = plan.letters; shape = plan.shape }

-- the change that puts these bytes in their place: the image ends there first, unless it is to keep its tail
abbrev pub change_of : {A P : Type 0} → Plan P → List ℕ → Change A
change_of plan out = let at = plan.seek * plan.obs in record { base = if plan.notrunc then None else Some at; writes = record { at = at; bytes = out } ∷ [] }
