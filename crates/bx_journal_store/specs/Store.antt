-- What a call of a text store that failed may leave.
use Rattle.std.specs.Prelude.{◌≡◌, ◌⊎◌, ◌≤◌, ℕ, Bool, true, false, Result, Ok, Err, List, [], ◌++◌, length, take}
use Rattle.bx_journal_store.specs.declared.fault.TextFault.{TextFault}
use Rattle.bx_journal_store.specs.declared.fault.TextFault.TheVariants.{DeviceFailed, NoMemory}

-- whether a reading was stopped by its device
abbrev pub text_has_failed : {T : Type 0} → Result T TextFault → Bool
text_has_failed (Ok v) = false
text_has_failed (Err DeviceFailed) = true
text_has_failed (Err NoMemory) = false

-- after a failed append: a front of the bytes was added
abbrev pub IsPartlyAppended : List ℕ → List ℕ → List ℕ → Type 0
IsPartlyAppended bytes old new = (k : ℕ) × (new ≡ old ++ take k bytes)

-- after a failed cut to n bytes: a front of the text that is no shorter than that
pub record IsCutInPart (n : ℕ) (old new : List ℕ) : Type 0 where
  pub no_shorter : n ≤ length new
  pub front : new ≡ take (length new) old

-- whatever is found now was found before, or is empty
abbrev pub MayEmpty : (List ℕ → Type 0) → (List ℕ → Type 0) → Type 0
MayEmpty old new = (c : List ℕ) → new c → old c ⊎ (c ≡ [])
