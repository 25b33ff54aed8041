-- Memory that is lacking behind a look at a device.
use Rattle.std.proofs.Common.{◌≡◌, ℕ, List, Result, Ok, Err, refl, sym, subst}
use Rattle.std.specs.Prelude.{IfErr, IsErrAnd}
use Rattle.bx_journal_model.specs.declared.fault.SessionFault.{SessionFault}
use Rattle.bx_journal_model.specs.declared.fault.SessionFault.TheVariants.{NoMemory}
use Rattle.bx_journal_model.specs.Looking.{FaultCounts, LooksAt}

-- the device stays as the look left it
pub lacks_behind : {D X R : Type 0} (faithful : D → Type 0) (view : D → List ℕ) (failures : D → ℕ) (old new : D) (x : X) → LooksAt {R = X} faithful view failures (Ok x) old new
    → (r : Result R SessionFault) → IsErrAnd r (λ e. e ≡ NoMemory) → LooksAt faithful view failures r old new
lacks_behind faithful view failures old new x looks (Ok v) is = absurd is
lacks_behind faithful view failures old new x looks (Err e) is = record {
  same = looks.same;
  faith = looks.faith;
  no_failure = tt;
  counts = subst (λ f. FaultCounts f (failures old) 0 (failures new) 0) (sym is) (looks.no_failure, refl);
}

-- before any look it is as it was
pub lacks_before : {D R : Type 0} (faithful : D → Type 0) (view : D → List ℕ) (failures : D → ℕ) (d : D) (r : Result R SessionFault) → IsErrAnd r (λ e. e ≡ NoMemory) → LooksAt faithful view failures r d d
lacks_before faithful view failures d r is =
    lacks_behind {X = Unit {0}} faithful view failures d d tt (record { same = λ h. refl; faith = (λ h. h, λ h. h); no_failure = refl; counts = tt }) r is

-- the same fault, or none, with another answer
pub fails_alike : {D X R : Type 0} (faithful : D → Type 0) (view : D → List ℕ) (failures : D → ℕ) (old new : D) (fault : SessionFault) → LooksAt {R = X} faithful view failures (Err fault) old new
    → (r : Result R SessionFault) → IsErrAnd r (λ e. e ≡ fault) → LooksAt faithful view failures r old new
fails_alike faithful view failures old new fault looks (Ok v) is = absurd is
fails_alike faithful view failures old new fault looks (Err e) is = record {
  same = looks.same;
  faith = looks.faith;
  no_failure = tt;
  counts = subst (λ f. FaultCounts f (failures old) 0 (failures new) 0) (sym is) looks.counts;
}

pub ends_alike : {D X R : Type 0} (faithful : D → Type 0) (view : D → List ℕ) (failures : D → ℕ) (old new : D) (x : X) (y : R) → LooksAt {R = X} faithful view failures (Ok x) old new
    → LooksAt {R = R} faithful view failures (Ok y) old new
ends_alike faithful view failures old new x y looks = record { same = looks.same; faith = looks.faith; no_failure = looks.no_failure; counts = tt }

pub lacks_handed : {D X R : Type 0} (faithful : D → Type 0) (view : D → List ℕ) (failures : D → ℕ) (old new : D) (x : X) (fault : SessionFault) → LooksAt {R = X} faithful view failures (Ok x) old new
    → (r : Result R SessionFault) → IsErrAnd r (λ e. e ≡ fault) → fault ≡ NoMemory → LooksAt faithful view failures r old new
lacks_handed faithful view failures old new x fault looks r is lacks = lacks_behind faithful view failures old new x looks r (subst (λ f. IsErrAnd r (λ e. e ≡ f)) lacks is)

-- what is done behind the look takes memory, or lacks it
pub takes_behind : {D X R : Type 0} (faithful : D → Type 0) (view : D → List ℕ) (failures : D → ℕ) (old new : D) (x : X) → LooksAt {R = X} faithful view failures (Ok x) old new
    → (r : Result R SessionFault) → IfErr r (λ e. e ≡ NoMemory) → LooksAt faithful view failures r old new
takes_behind faithful view failures old new x looks (Ok y) is = ends_alike faithful view failures old new x y looks
takes_behind faithful view failures old new x looks (Err e) is = lacks_behind faithful view failures old new x looks (Err e) is
