-- A text that only grows.
use Rattle.std.proofs.Common.{◌≡◌, ℕ, List, [], ◌++◌, ap, sym, ◌∙◌, append_assoc, append-nil}
use Rattle.bx_journal_format.specs.Text.{IsPrefix}

pub prefix_self : (a : List ℕ) → IsPrefix a a
prefix_self a = ([], sym (append-nil a))

-- it goes on with more
pub prefix_by : (a : List ℕ) {b c : List ℕ} (d : List ℕ) → IsPrefix a b → c ≡ b ++ d → IsPrefix a c
prefix_by a d p is = (p.0 ++ d, is ∙ ap (λ t. t ++ d) p.1 ∙ append_assoc a p.0 d)

pub prefix_is : (a : List ℕ) {b c : List ℕ} → IsPrefix a b → c ≡ b → IsPrefix a c
prefix_is a p is = (p.0, is ∙ p.1)

-- and twice
pub prefix_then : (a b c : List ℕ) → IsPrefix a b → IsPrefix b c → IsPrefix a c
prefix_then a b c p q = prefix_by a q.0 p q.1
