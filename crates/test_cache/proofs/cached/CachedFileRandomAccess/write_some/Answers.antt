use Rattle.std.proofs.Common.{◌↔◌, List, ℕ, rules}
use Rattle.bx_image.proofs.Files.{IsFrontPlaced_none}
use Rattle.test_cache.specs.Cached.{MayBeWritten}
use Rattle.test_cache.specs.Files.{IsUnchanged, content, found}
use Rattle.test_cache.proofs.Losses.{FadesBehind_written, Follows_written}
use Rattle.test_cache.proofs.cached.CachedFileRandomAccess.write_some.Goals as goal

pub returns-in-Ok-clause-survives : goal.returns-in-Ok-clause-survives
returns-in-Ok-clause-survives c faithful =
    let step : (x : List ℕ) → found c.write.new.self x ↔ MayBeWritten c.args.at c.args.bytes.now (content c.args.self.now) (found c.args.self.now) x = search rules in
    Follows_written c.args.at c.args.bytes.now (content c.args.self.now) (found c.args.self.now) (found c.write.new.self) (λ x there. (step x).0 there)

pub returns-in-Ok-clause-fades : goal.returns-in-Ok-clause-fades
returns-in-Ok-clause-fades c faithful is =
    let step : (x : List ℕ) → found c.write.new.self x ↔ MayBeWritten c.args.at c.args.bytes.now (content c.args.self.now) (found c.args.self.now) x = search rules in
    FadesBehind_written c.args.at c.args.bytes.now (content c.args.self.now) (found c.args.self.now) (found c.write.new.self) (λ x there. (step x).0 there) is

pub returns-in-Err-clause-content : goal.returns-in-Err-clause-content
returns-in-Err-clause-content c faithful =
    let stays : IsUnchanged c.args.self.now c.write.new.self = search rules in
    IsFrontPlaced_none c.args.at c.args.bytes.now _ _ stays.now
