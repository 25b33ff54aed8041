use Rattle.std.proofs.Common.{◌≡◌, ◌↔◌, ◌⊎◌, List, ◌∷◌, subst, sym, rules}
use Rattle.test_cache.specs.Cached.{MayBeFound, MayFollow}
use Rattle.test_cache.specs.Files.{content, found}
use Rattle.test_cache.specs.declared.unsynced.Unsynced.{Unsynced}
use Rattle.test_cache.proofs.Losses.{found_behind}
use Rattle.test_cache.proofs.cached.CachedFile.add.Goals as goal

pub returns-clause-found : goal.returns-clause-found
returns-clause-found c = λ x.
    let one_more : c.insert.new.self.items ≡ c.args.change ∷ c.args.self.now.unsynced.items = search rules in
    let T : List Unsynced → Type 0 = λ changes.
    ((x ≡ c.args.now.items) ⊎ MayBeFound c.args.self.now.synced.items changes x) ↔ MayFollow c.args.change (content c.args.self.now) (found c.args.self.now) x in
    subst T (sym one_more) (found_behind c.args.change c.args.self.now.synced.items c.args.self.now.unsynced.items c.args.self.now.now.items c.args.now.items x c.args.self.now.same c.requires)
