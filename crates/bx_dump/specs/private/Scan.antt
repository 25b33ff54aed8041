-- The text of strings as far as it is known behind each byte. `run` is what stands printable right before place `at`.
use Rattle.std.specs.Prelude.{◌≡◌, ◌<◌, ◌≤◌, ℕ, ◌+◌, ◌-◌, ◌==◌, true, false, nat_le, nat_lt, if◌then◌else◌, List, [], ◌∷◌, ◌++◌, length, take, codes}
use Rattle.bx_dump_columns.specs.declared.od.options.Address.{Address}
use Rattle.bx_text.specs.Ascii.{is_printable}
use Rattle.bx_dump_columns.specs.Places.{place_text}

-- what is known with one more byte of a run: all of it once it is long enough, then each byte
abbrev pub grown_text : ℕ → Address → ℕ → List ℕ → ℕ → List ℕ
grown_text least offsets at run b =
    if nat_lt (length run) least
    then (if length run + 1 == least then place_text offsets (at - length run) ++ (run ++ b ∷ []) else [])
    else b ∷ []

-- what ends a run: a newline, where it was written
abbrev pub end_of_run : ℕ → List ℕ → List ℕ
end_of_run least run = if nat_le least (length run) then codes "\n" else []

unfoldable pub scan_text : ℕ → Address → ℕ → List ℕ → List ℕ → List ℕ
scan_text least offsets at run [] = []
scan_text least offsets at run (b ∷ bs) =
    if is_printable b
    then grown_text least offsets at run b ++ scan_text least offsets (at + 1) (run ++ b ∷ []) bs
    else end_of_run least run ++ scan_text least offsets (at + 1) [] bs

-- what stands printable at the end
unfoldable pub scan_run : List ℕ → List ℕ → List ℕ
scan_run run [] = run
scan_run run (b ∷ bs) = if is_printable b then scan_run (run ++ b ∷ []) bs else scan_run [] bs

-- bytes that all print, and bytes that all do not
abbrev pub AllPrint : List ℕ → Type 0
AllPrint [] = Unit {0}
AllPrint (b ∷ bs) = (is_printable b ≡ true) × AllPrint bs

abbrev pub NonePrints : List ℕ → Type 0
NonePrints [] = Unit {0}
NonePrints (b ∷ bs) = (is_printable b ≡ false) × NonePrints bs

-- the last byte, if there is one, doesn't print
abbrev pub EndsQuiet : List ℕ → Type 0
EndsQuiet [] = Unit {0}
EndsQuiet (b ∷ []) = is_printable b ≡ false
EndsQuiet (b ∷ c ∷ bs) = EndsQuiet (c ∷ bs)

-- behind a byte that doesn't print, nothing is known of these, and no run is left
pub record IsQuiet (least : ℕ) (bytes : List ℕ) : Type 0 where
  pub text : (offsets : Address) (at : ℕ) → scan_text least offsets at [] bytes ≡ []
  pub run : scan_run [] bytes ≡ []

-- a run as it is kept: its bytes while it is short, and that it is long enough from then on
pub record IsKept (least count : ℕ) (kept run : List ℕ) : Type 0 where
  pub most : count ≤ least
  pub short : count < least → (length run ≡ count) × (take count kept ≡ run)
  pub long : least ≤ count → least ≤ length run

-- how many bytes of a run are kept and not yet written
abbrev pub pending : ℕ → ℕ → ℕ
pending least count = if nat_lt count least then count else 0
