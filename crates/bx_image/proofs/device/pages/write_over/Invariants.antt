use Rattle.std.proofs.Common.{◌≡◌, ◌≤◌, ◌-◌, length, take, vec_len}
use Rattle.bx_image.specs.Pages.{byte_at}
use Rattle.bx_image.specs.private.Pages.{IsWrittenOver}
use Rattle.bx_image.proofs.device.pages.write_over.Given as goal

-- a front was written
abbrev pub invariant-loop-done : goal.invariant-loop-done
invariant-loop-done g l = record {
  within : l.done ≤ length l.bytes;
  len : vec_len l.pages ≡ vec_len l.initial.pages;
  bytes : IsWrittenOver l.at (take l.done l.bytes) (byte_at l.initial.pages.items (λ p. p.value)) (byte_at l.pages.items (λ p. p.value));
}

abbrev pub decreases-loop-done : goal.decreases-loop-done
decreases-loop-done g l = length l.bytes - l.done
