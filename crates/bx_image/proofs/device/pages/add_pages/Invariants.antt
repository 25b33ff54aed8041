use Rattle.std.proofs.Common.{◌≡◌, ◌≤◌, ℕ, max, take, vec_len}
use Rattle.bx_image.specs.Pages.{byte_at}
use Rattle.bx_image.proofs.device.pages.add_pages.Given as goal

-- pages of zeros were added
abbrev pub invariant-loop : goal.invariant-loop
invariant-loop g l = record {
  held : l.held ≡ vec_len l.fn.pages;
  front : take l.held l.pages.items ≡ l.fn.pages.items;
  len : vec_len l.pages ≡ l.counter;
  most : l.counter ≤ max l.count l.held;
  bytes : (i : ℕ) → byte_at l.pages.items (λ p. p.value) i ≡ byte_at l.fn.pages.items (λ p. p.value) i;
}
