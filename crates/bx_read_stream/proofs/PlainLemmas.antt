-- Bytes at a place of nothing.
use Rattle.std.proofs.Common.{◌≡◌, ℕ, ◌+◌, ◌<◌, List, [], ◌∷◌, ◌++◌, length, replicate, Option, refl, sym, ap, ◌∙◌, arith}
use Rattle.std.proofs.lemmas.List.{length-append, length-replicate}
use Rattle.std.specs.Io.KnownBytes.{Appends}
use Rattle.bx_text.proofs.KnownLemmas.{Appends-nil}
use Rattle.bx_text.specs.Writing.{WritesFront}
use Rattle.bx_text.specs.declared.fault.IoFault.{IoFault}
use Rattle.bx_image.specs.Image.{place}
use Rattle.bx_image.proofs.Edits.{place_none}
use Rattle.bx_read_stream.specs.Writing.{FailsIn}
use Rattle.bx_read_stream.specs.private.Blocks.{IsPending}
use Rattle.bx_read_stream.proofs.BlocksLemmas.{flush_fails, fails_longer}
use Rattle.bx_read_stream.proofs.ImageLemmas.{place_gap}

-- nothing was put
pub nothing_pending : (w : Option (List ℕ)) (sent : ℕ) (pending : List ℕ) → sent ≡ 0 → pending ≡ [] → IsPending w w sent pending []
nothing_pending w sent pending none empty = record { out = []; appended = Appends-nil w; counted = sym none; whole = empty }

pub place_nothing : (at : ℕ) (bytes : List ℕ) → length bytes ≡ 0 → place [] at bytes ≡ []
place_nothing at [] none = place_none [] at
place_nothing at (b ∷ bytes) none = absurd (omega arith)

pub place_first : (at : ℕ) (bytes : List ℕ) → 0 < length bytes → place [] at bytes ≡ replicate at 0 ++ bytes
place_first at bytes some =
    let same : at ≡ 0 + at = omega arith in
    ap (λ n. place [] n bytes) same ∙ place_gap [] at bytes some

-- zeros that were written, and bytes that were not
pub bytes_fail : (w0 w1 w2 : Option (List ℕ)) (at : ℕ) (bytes : List ℕ) (e : IoFault) → 0 < length bytes → Appends w0 w1 (replicate at 0) → WritesFront at w1 w2 bytes e
    → FailsIn w0 w2 (place [] at bytes) e
bytes_fail w0 w1 w2 at bytes e some zeros fails =
    rw (place_first at bytes some)
    (flush_fails w0 w1 w2 at bytes (replicate at 0 ++ bytes) e (record { out = replicate at 0; appended = zeros; counted = length-replicate {A = ℕ} at 0; whole = refl }) fails)

pub zeros_fail : (w0 w1 : Option (List ℕ)) (at : ℕ) (bytes : List ℕ) (e : IoFault) → 0 < length bytes → FailsIn w0 w1 (replicate at 0) e → FailsIn w0 w1 (place [] at bytes) e
zeros_fail w0 w1 at bytes e some fails = rw (place_first at bytes some) (fails_longer w0 w1 (replicate at 0) bytes e fails)

pub length_first : (at : ℕ) (bytes : List ℕ) → 0 < length bytes → length (place [] at bytes) ≡ at + length bytes
length_first at bytes some = omega (arith, ap length (place_first at bytes some), length-append (replicate at 0) bytes, length-replicate {A = ℕ} at 0)
