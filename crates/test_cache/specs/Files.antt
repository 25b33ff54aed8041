-- What callers see of a file behind a cache.
use Rattle.std.specs.Prelude.{◌≡◌, ◌⊎◌, List, ℕ}
use Rattle.test_cache.specs.Cached.{MayBeFound}
use Rattle.test_cache.specs.declared.cached.CachedFile.{CachedFile}

-- its bytes
abbrev pub content : CachedFile → List ℕ
content f = f.now.items

-- what may be found of it after a loss of power: what it has, and whatever may come of its changes since the last sync
abbrev pub found : CachedFile → List ℕ → Type 0
found f c = (c ≡ f.now.items) ⊎ MayBeFound f.synced.items f.unsynced.items c

-- after a call that did nothing
pub record IsUnchanged (old new : CachedFile) : Type 0 where
  pub now : new.now.items ≡ old.now.items
  pub synced : new.synced.items ≡ old.synced.items
  pub unsynced : new.unsynced.items ≡ old.unsynced.items
