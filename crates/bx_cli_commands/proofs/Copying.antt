-- What dd makes of an input, from what its parts answer.
use Rattle.std.proofs.Common.{◌≡◌, ◌+◌, ◌*◌, ◌^◌, ◌≤◌, inl, inr, ℕ, Option, None, Some, Result, Ok, Err, IfOk, IfErr, List, [], refl, sym, subst, arith}
use Rattle.std.specs.Prelude.{IfSome, IsOkUnless, OnErr, codes}
use Rattle.bx_text.proofs.KnownLemmas.{Consumes-nil}
use Rattle.bx_dd.specs.declared.fault.DdFault.{DdFault}
use Rattle.bx_dd.specs.declared.fault.DdFault.TheVariants.{NoMemory}
use Rattle.bx_dd.specs.declared.operands.plan.Plan.{Plan}
use Rattle.bx_dd.specs.Operands.{operands_fault, block_size, number_given, number_or}
use Rattle.bx_dd.specs.Parsing.{IsPlanOf}
use Rattle.bx_dd.specs.Transfer.{HasStopped, ReadsWithin}
use Rattle.bx_dd.proofs.TransferLemmas.{stopped_memory}
use Rattle.bx_cli_commands.specs.Copy.{MakesCopy, MakesBy, ReadsAsked, StopsMaking, CopiesBy}
use Rattle.bx_cli_commands.specs.declared.changes.DdChange.{DdChange}

-- want of memory before anything was read
pub stops_at_once : (fault : Option DdFault) (old : Option (List ℕ)) (e : DdFault) → e ≡ NoMemory → StopsMaking fault old old e
stops_at_once None old e is = stopped_memory old old [] (2 ^ 40) e (Consumes-nil old) (omega arith) is
stops_at_once (Some fault) old e is = (inr is, refl)

-- nothing was read
none_within : (ibs skip : ℕ) (count : Option ℕ) → IfSome count (λ n. 0 ≤ (skip + n) * ibs)
none_within ibs skip None = tt
none_within ibs skip (Some n) = omega arith

none_asked : (words : List (List ℕ)) (old : Option (List ℕ)) → ReadsAsked words old old
none_asked words old = ([], Consumes-nil old, none_within (block_size (codes "ibs") words) (number_or 0 (codes "skip") words) (number_given (codes "count") words))

-- what the plan of the operands asks for
plan_asked : {P : Type 0} (words : List (List ℕ)) (old left : Option (List ℕ)) (plan : Plan P) → IsPlanOf words plan → ReadsWithin plan old left → ReadsAsked words old left
plan_asked words old left plan asked (input, consumed, within) = (input, consumed, rw (← asked.ibs, ← asked.skip, ← asked.count) within)

-- the operands were refused
stops_operands : (P : Type 0) (fault : Option DdFault) (old : Option (List ℕ)) (e : DdFault)
    → IfSome fault (λ f. let r : Result P DdFault = Err e in r ≡ Err f)
    → (fault ≡ None → let r : Result P DdFault = Err e in IsOkUnless r NoMemory)
    → StopsMaking fault old old e
stops_operands P (Some fault) old e refused accepted = (inl (cc refused), refl)
stops_operands P None old e refused accepted = stops_at_once None old e (accepted refl)

pub stops_parse : (P : Type 0) (words : List (List ℕ)) (old : Option (List ℕ)) (e : DdFault)
    → IfSome (operands_fault words) (λ f. let r : Result P DdFault = Err e in r ≡ Err f)
    → (operands_fault words ≡ None → let r : Result P DdFault = Err e in IsOkUnless r NoMemory)
    → StopsMaking (operands_fault words) old old e × ReadsAsked words old old
stops_parse P words old e refused accepted = (stops_operands P (operands_fault words) old e refused accepted, none_asked words old)

-- want of memory before the operands are read
pub makes_at_once : (A : Type 0) (words : List (List ℕ)) (old : Option (List ℕ)) (e : DdFault) → e ≡ NoMemory → MakesCopy {A = A} words old old (Err e)
makes_at_once A words old e is = (stops_at_once (operands_fault words) old e is, none_asked words old)

-- the operands were accepted
pub none_of : {P : Type 0} (fault : Option DdFault) (plan : P) → IfSome fault (λ f. let r : Result P DdFault = Ok plan in r ≡ Err f) → fault ≡ None
none_of None plan refused = refl
none_of (Some fault) plan refused = cc refused

-- what the plan of the operands makes
pub makes_of : {A : Type 0} (words : List (List ℕ)) (old left : Option (List ℕ)) (plan : Plan A) (r : Result (DdChange A) DdFault)
    → operands_fault words ≡ None → IsPlanOf words plan → IfOk r (CopiesBy plan old left) → IfErr r (HasStopped old left (2 ^ 40)) → OnErr r (ReadsWithin plan old left)
    → MakesCopy words old left r
makes_of words old left plan (Ok made) none asked ok err within = (none, (plan, asked, ok))
makes_of words old left plan (Err e) none asked ok err within =
    let Stops : Option DdFault → Type 0 = λ f. StopsMaking f old left e in
    (subst Stops (sym none) err, plan_asked words old left plan asked within)

-- what a plan makes
pub makes_by : {A : Type 0} (plan : Plan A) (old left : Option (List ℕ)) (r : Result (DdChange A) DdFault)
    → IfOk r (CopiesBy plan old left) → IfErr r (HasStopped old left (2 ^ 40)) → OnErr r (ReadsWithin plan old left) → MakesBy plan old left r
makes_by plan old left (Ok made) ok err within = ok
makes_by plan old left (Err e) ok err within = (err, within)
