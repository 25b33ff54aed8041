-- Dumps of what stands behind bytes that were passed, as a seek passes them.
use Rattle.std.specs.Prelude.{◌≡◌, ℕ, ◌+◌, ◌-◌, ◌≤◌, List, ◌++◌, length}
use Rattle.bx_dump.specs.Hexdump.{hexdump_of}
use Rattle.bx_dump.specs.OdDump.{od_of}
use Rattle.bx_dump.specs.Pages.{Dump, bytes_dumped}
use Rattle.bx_dump.specs.Styles.{xxd_of}
use Rattle.bx_dump.specs.declared.hexdump.options.HexdumpOptions.{HexdumpOptions}
use Rattle.bx_dump.specs.declared.od.options.OdOptions.{OdOptions}
use Rattle.bx_dump.specs.declared.xxd.options.XxdOptions.{XxdOptions}
use Rattle.bx_dump.specs.declared.xxd.options.XxdStyle.{XxdStyle}

-- the text that a dump makes of an input
abbrev pub text_of : Dump → List ℕ → List ℕ
text_of d input = d.text (bytes_dumped d.skip d.limit input)

-- the dump of what stands behind n of the bytes to skip: its text is the same, and n fewer are skipped
abbrev pub behind : ℕ → Dump → Dump
behind n d = record { text = d.text; skip = d.skip - n; limit = d.limit; held = d.held }

-- The dump of what stands behind some bytes is the dump of the whole input that skips them.
abbrev pub DumpsBehind : Type 0
DumpsBehind = (d : Dump) (front input : List ℕ) → length front ≤ d.skip → text_of (behind (length front) d) input ≡ text_of d (front ++ input)

-- The rest of od's options behind n of the bytes to skip: n fewer are skipped, and the first address is n more.
pub record IsOdRest (n : ℕ) (whole rest : OdOptions) : Type 0 where
  pub skip : rest.skip + n ≡ whole.skip
  pub first : rest.first ≡ whole.first + n
  pub shown : (rest.address ≡ whole.address) × (rest.kind ≡ whole.kind) × (rest.limit ≡ whole.limit) × (rest.all ≡ whole.all)
  pub laid : (rest.endian ≡ whole.endian) × (rest.width ≡ whole.width)
  pub rows : (rest.text ≡ whole.text) × (rest.below ≡ whole.below)

-- the same of hexdump's
pub record IsHexdumpRest (n : ℕ) (whole rest : HexdumpOptions) : Type 0 where
  pub skip : rest.skip + n ≡ whole.skip
  pub first : rest.first ≡ whole.first + n
  pub shown : (rest.limit ≡ whole.limit) × (rest.all ≡ whole.all)

-- The same of xxd's, which adds n to each address.
pub record IsXxdRest (n : ℕ) (whole rest : XxdOptions) : Type 0 where
  pub seek : rest.seek + n ≡ whole.seek
  pub shift : rest.shift ≡ whole.shift + n
  pub shown : (rest.cols ≡ whole.cols) × (rest.group ≡ whole.group) × (rest.limit ≡ whole.limit) × (rest.upper ≡ whole.upper)
      × (rest.autoskip ≡ whole.autoskip)

-- The rest of the options asks for the dump of what stands behind n bytes.
abbrev pub RestAsksBehind : Type 0
RestAsksBehind = (n : ℕ) →
    ((whole rest : OdOptions) → IsOdRest n whole rest → od_of rest ≡ behind n (od_of whole))
    × ((whole rest : HexdumpOptions) → IsHexdumpRest n whole rest → hexdump_of rest ≡ behind n (hexdump_of whole))
    × ((style : XxdStyle) (whole rest : XxdOptions) → IsXxdRest n whole rest → xxd_of style rest ≡ behind n (xxd_of style whole))
