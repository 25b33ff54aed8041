use Rattle.std.proofs.Common.{◌↔◌, List, ℕ, subst}
use Rattle.std.specs.Prelude.{OnOk}
use Rattle.test_cache.specs.Cached.{MayBeWritten}
use Rattle.test_cache.specs.Files.{content, found}
use Rattle.test_cache.proofs.cached.CachedFile.write.Goals as goal

pub returns-clause-found : goal.returns-clause-found
returns-clause-found c =
    let T : List ℕ → Type 0 = λ bytes.
    OnOk c.add.result ((x : List ℕ) → found c.add.new.self x ↔ MayBeWritten c.args.at bytes (content c.args.self.now) (found c.args.self.now) x) in
    subst T c.in_ok-from_slice.ensures.items c.add.ensures.found
