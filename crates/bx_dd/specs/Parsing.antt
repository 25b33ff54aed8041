-- The plan that operands ask for.
use Rattle.std.specs.Prelude.{◌≡◌, if◌then◌else◌, List, ℕ, codes}
use Rattle.bx_dd.specs.declared.form.Letters.TheVariants.{Keep, Upper, Lower}
use Rattle.bx_dd.specs.declared.form.Shape.TheVariants.{Flat, Block, Unblock}
use Rattle.bx_dd.specs.declared.operands.plan.Plan.{Plan}
use Rattle.bx_dd.specs.Operands.{given, number_given, number_or, block_size, converts, is_quiet}

-- the operands are accepted, and this is what they ask for
pub record IsPlanOf {A : Type 0} (words : List (List ℕ)) (plan : Plan A) : Type 0 where
  pub input : plan.input ≡ given (codes "if") words
  pub output : plan.output ≡ given (codes "of") words
  pub ibs : plan.ibs ≡ block_size (codes "ibs") words
  pub obs : plan.obs ≡ block_size (codes "obs") words
  pub cbs : plan.cbs ≡ number_or 0 (codes "cbs") words
  pub skip : plan.skip ≡ number_or 0 (codes "skip") words
  pub seek : plan.seek ≡ number_or 0 (codes "seek") words
  pub count : plan.count ≡ number_given (codes "count") words
  pub swab : plan.swab ≡ converts (codes "swab") words
  pub sync : plan.sync ≡ converts (codes "sync") words
  pub notrunc : plan.notrunc ≡ converts (codes "notrunc") words
  pub quiet : plan.quiet ≡ is_quiet words
  pub letters : plan.letters ≡ (if converts (codes "ucase") words then Upper else if converts (codes "lcase") words then Lower else Keep)
  pub shape : plan.shape ≡ (if converts (codes "block") words then Block else if converts (codes "unblock") words then Unblock else Flat)
