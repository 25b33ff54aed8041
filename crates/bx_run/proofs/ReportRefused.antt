-- An image that isn't opened a second time.
use Rattle.std.proofs.Common.{◌≡◌, None, sym, subst}
use Rattle.bx_world.specs.World.{SystemState}
use Rattle.bx_world.specs.files.Reading.{IsUnfitToRead, MayRefuseReading, MayRefuseToRead}
use Rattle.bx_world.specs.files.Reasons.{IsRefusedFile, NoneUnfit}
use Rattle.bx_world.specs.declared.files.names.Names.{Names}
use Rattle.bx_world.specs.declared.files.unopened.OpenError.{OpenError}
use Rattle.bx_world.specs.declared.files.unopened.FileRole.{FileRole}
use Rattle.bx_world.specs.declared.files.unopened.FileRole.TheVariants.{Image}
use Rattle.bx_world.proofs.FileReasons.{reason_weaker}

-- the reason is one for which reading may be refused
pub again_refused : (names : Names) (counted fewer : Type 0) (old mid : SystemState) (u : OpenError) → mid ≡ old → (fewer → counted)
    → IsRefusedFile Image (mid.named names.image ≡ None) NoneUnfit ⊥ fewer u → MayRefuseReading names counted old u
again_refused names counted fewer old mid u same more is =
    subst (λ (which : FileRole). MayRefuseToRead names counted old which u.why) (sym is.0)
    (reason_weaker (mid.named names.image ≡ None) (old.named names.image ≡ None) ⊥ ⊥ fewer counted NoneUnfit (IsUnfitToRead old names.image) u.why
    (λ missing. subst (λ (w : SystemState). w.named names.image ≡ None) same missing) (λ unfit wrong. absurd wrong) (λ wrong. wrong) more is.1)
