use Rattle.std.specs.Prelude.{ℕ, List}
use Rattle.bx_journal_store.specs.declared.memory.MemText.{MemText}

-- the bytes of a text in memory
abbrev pub memory_text : {A : Type 0} → MemText A → List ℕ
memory_text m = m.bytes.items
