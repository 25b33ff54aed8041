use Rattle.std.proofs.Common.{◌≡◌, ℕ, ◌+◌, ◌<◌, ◌≤◌, ◌-◌, length, slice_index}
use Rattle.bx_image.specs.Pages.{byte_at}
use Rattle.bx_image.proofs.device.pages.read_from.Given as goal

-- a front was read
abbrev pub invariant-loop-done : goal.invariant-loop-done
invariant-loop-done g l = record {
  within : l.done ≤ length l.buf;
  bytes : (j : ℕ) → j < l.done → slice_index l.buf j ≡ byte_at l.pages.items (λ p. p.value) (l.at + j);
}

abbrev pub decreases-loop-done : goal.decreases-loop-done
decreases-loop-done g l = length l.buf - l.done
