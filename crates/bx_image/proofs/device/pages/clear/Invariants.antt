use Rattle.std.proofs.Common.{◌≡◌, ◌≤◌, ◌-◌, vec_len}
use Rattle.bx_image.specs.Pages.{byte_at}
use Rattle.bx_image.specs.private.Pages.{IsCleared}
use Rattle.bx_image.proofs.device.pages.clear.Given as goal

-- zeros stand up to here
abbrev pub invariant-loop-done : goal.invariant-loop-done
invariant-loop-done g l = record {
  least : l.from ≤ l.done;
  most : l.done ≤ l.to;
  len : vec_len l.pages ≡ vec_len l.initial.pages;
  bytes : IsCleared l.from l.done (byte_at l.initial.pages.items (λ p. p.value)) (byte_at l.pages.items (λ p. p.value));
}

abbrev pub decreases-loop-done : goal.decreases-loop-done
decreases-loop-done g l = l.to - l.done
