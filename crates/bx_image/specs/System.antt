-- Calls of the system.
use Rattle.std.specs.Prelude.{ℕ, List, codes}
use Rattle.bx_image.specs.declared.device.system.Operation.{Operation}
use Rattle.bx_image.specs.declared.device.system.Operation.TheVariants.{Size, Read, Write, Resize, Sync}

-- what the system calls an operation
abbrev pub name_of : Operation → List ℕ
name_of Size = codes "lseek"
name_of Read = codes "pread"
name_of Write = codes "pwrite"
name_of Resize = codes "ftruncate"
name_of Sync = codes "fsync"
