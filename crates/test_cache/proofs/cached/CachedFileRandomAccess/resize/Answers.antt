use Rattle.std.proofs.Common.{◌↔◌, List, ℕ, rules}
use Rattle.bx_image.proofs.Files.{IsCutOnTheWay_none}
use Rattle.test_cache.specs.Cached.{MayBeResized}
use Rattle.test_cache.specs.Files.{IsUnchanged, content, found}
use Rattle.test_cache.proofs.Losses.{FadesFrom_resized, Follows_resized}
use Rattle.test_cache.proofs.cached.CachedFileRandomAccess.resize.Goals as goal

pub returns-in-Ok-clause-survives : goal.returns-in-Ok-clause-survives
returns-in-Ok-clause-survives c faithful =
    let step : (x : List ℕ) → found c.resize_to.new.self x ↔ MayBeResized c.args.n (content c.args.self.now) (found c.args.self.now) x = search rules in
    Follows_resized c.args.n (content c.args.self.now) (found c.args.self.now) (found c.resize_to.new.self) (λ x there. (step x).0 there)

pub returns-in-Ok-clause-fades : goal.returns-in-Ok-clause-fades
returns-in-Ok-clause-fades c faithful fits =
    let step : (x : List ℕ) → found c.resize_to.new.self x ↔ MayBeResized c.args.n (content c.args.self.now) (found c.args.self.now) x = search rules in
    FadesFrom_resized c.args.n (content c.args.self.now) (found c.args.self.now) (found c.resize_to.new.self) (λ x there. (step x).0 there) fits

pub returns-in-Err-clause-content : goal.returns-in-Err-clause-content
returns-in-Err-clause-content c faithful =
    let stays : IsUnchanged c.args.self.now c.resize_to.new.self = search rules in
    IsCutOnTheWay_none c.args.n _ _ stays.now
