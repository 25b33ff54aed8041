use Rattle.std.proofs.Common.{◌≡◌, ℕ, ◌+◌, ◌-◌, true, false, nat_lt, if◌then◌else◌, List, length, ap, sym, ◌∙◌, arith}
use Rattle.bx_image.specs.declared.device.fuse.Part.TheVariants.{Nothing}
use Rattle.bx_image.specs.private.Fuse.{reached}
use Rattle.bx_image.specs.Image.{cut}
use Rattle.bx_image.proofs.Devices.{IsPartlyCut_either}
use Rattle.bx_image.proofs.Files.{cut_self}
use Rattle.bx_image.proofs.device.fuse.cut_partly.Goals as goal

stays : (m n : ℕ) → reached Nothing m n ≡ m
stays m n = elim (nat_lt m n) as (λ b. (if b then m + 0 else m - 0) ≡ m) [ true ↦ omega arith | false ↦ omega arith ]

nothing_cut : (x : List ℕ) (n : ℕ) → x ≡ cut x (reached Nothing (length x) n)
nothing_cut x n = sym (ap (cut x) (stays (length x) n) ∙ cut_self x)

pub returns-in-Nothing-clause-part : goal.returns-in-Nothing-clause-part
returns-in-Nothing-clause-part g c faithful = rw c.in-Nothing.is (nothing_cut _ c.args.n)

pub returns-in-All-clause-cut : goal.returns-in-All-clause-cut
returns-in-All-clause-cut g c faithful =
    IsPartlyCut_either c.set_len.result c.args.n c.args.n _ _ (omega arith) (omega arith) (c.set_len.ensures.ok faithful) (c.set_len.ensures.failed faithful)
