-- Dumps of what stands behind bytes that were passed.
use Rattle.std.proofs.Common.{◌≡◌, ℕ, ◌+◌, ◌-◌, ◌≤◌, Bool, true, false, List, ◌++◌, length, drop, Option, None, Some, refl, sym, ap, ◌∙◌, arith}
use Rattle.std.proofs.lemmas.List.{drop-drop, drop_at}
use Rattle.bx_dump.specs.Behind.{behind, DumpsBehind, IsOdRest, IsHexdumpRest, IsXxdRest, RestAsksBehind}
use Rattle.bx_dump.specs.Hexdump.{hexdump_of}
use Rattle.bx_dump.specs.OdDump.{od_of}
use Rattle.bx_dump.specs.Pages.{Dump}
use Rattle.bx_dump.specs.Styles.{group_of, kept_by, held_of, include_items, lines_by, styled, xxd_of}
use Rattle.bx_dump.specs.Xxd.{behind_address, bits_columns, bits_line, byte_columns, words_line}
use Rattle.bx_dump_columns.specs.Words.{decimal_at}
use Rattle.bx_dump_columns.specs.Lines.{in_lines}
use Rattle.bx_text.specs.Dump.{dump_line}
use Rattle.bx_dump.specs.private.Pages.{limited_to}
use Rattle.bx_dump.specs.private.Rows.{plain_line}
use Rattle.bx_dump.specs.private.Styles.{named_text, unbroken_text}
use Rattle.bx_dump.specs.declared.hexdump.options.HexdumpOptions.{HexdumpOptions}
use Rattle.bx_dump.specs.declared.od.options.OdOptions.{OdOptions}
use Rattle.bx_dump.specs.declared.xxd.options.XxdOptions.{XxdOptions}
use Rattle.bx_dump.specs.declared.xxd.options.XxdStyle.{XxdStyle}
use Rattle.bx_dump.specs.declared.xxd.options.XxdStyle.TheVariants.{Normal, Plain, Bits, Include, Unbroken, Decimal, Words}

-- what stands behind the front of an input
past : (front input : List ℕ) (skip : ℕ) → length front ≤ skip → drop (skip - length front) input ≡ drop skip (front ++ input)
past front input skip le =
    let rest : length front + (skip - length front) ≡ skip = omega arith in
    ap (drop (skip - length front)) (sym (drop_at front input (length front) refl))
    ∙ drop-drop (skip - length front) (length front) (front ++ input)
    ∙ ap (λ n. drop n (front ++ input)) rest

pub dumps_behind : DumpsBehind
dumps_behind d front input le = ap (λ xs. d.text (limited_to d.limit xs)) (past front input d.skip le)

pub od_rest : (n : ℕ) (whole rest : OdOptions) → IsOdRest n whole rest → od_of rest ≡ behind n (od_of whole)
od_rest n whole rest is =
    let start : rest.first + rest.skip ≡ whole.first + whole.skip = omega (arith, is.skip, is.first) in
    let skip : rest.skip ≡ whole.skip - n = omega (arith, is.skip) in
    rw (start, skip, is.shown.0, is.shown.1, is.shown.2, is.shown.3, is.laid.0, is.laid.1, is.rows.0, is.rows.1) refl

pub hexdump_rest : (n : ℕ) (whole rest : HexdumpOptions) → IsHexdumpRest n whole rest → hexdump_of rest ≡ behind n (hexdump_of whole)
hexdump_rest n whole rest is =
    let start : rest.first + rest.skip ≡ whole.first + whole.skip = omega (arith, is.skip, is.first) in
    let skip : rest.skip ≡ whole.skip - n = omega (arith, is.skip) in
    rw (start, skip, is.shown.0, is.shown.1) refl

-- a dump by its parts
same_dump : (f g : List ℕ → List ℕ) (a b : ℕ) (l m : Option ℕ) (h k : ℕ) → f ≡ g → a ≡ b → l ≡ m → h ≡ k →
    ◌≡◌ {A = Dump} (record { text = f; skip = a; limit = l; held = h }) (record { text = g; skip = b; limit = m; held = k })
same_dump f g a b l m h k p q r e = rw (p, q, r, e) refl

-- the text in each style, of what it needs of the options
normal_text : Bool → ℕ → ℕ → Bool → ℕ → List ℕ → List ℕ
normal_text skips cols group upper start bytes = lines_by skips (dump_line upper cols (group_of cols group)) cols start bytes

binary_text : Bool → ℕ → ℕ → ℕ → List ℕ → List ℕ
binary_text skips cols group start bytes = lines_by skips (bits_line cols (group_of cols group)) cols start bytes

digits_text : Bool → ℕ → List ℕ → List ℕ
digits_text upper cols bytes = in_lines (plain_line upper) cols 0 bytes

decimal_hex_text : Bool → ℕ → ℕ → Bool → ℕ → List ℕ → List ℕ
decimal_hex_text skips cols group upper start bytes = lines_by skips (λ at line. decimal_at at ++ behind_address (byte_columns upper cols (group_of cols group) line) line) cols start bytes

decimal_bits_text : Bool → ℕ → ℕ → ℕ → List ℕ → List ℕ
decimal_bits_text skips cols group start bytes = lines_by skips (λ at line. decimal_at at ++ behind_address (bits_columns cols (group_of cols group) line) line) cols start bytes

numbers_text : Bool → Bool → ℕ → ℕ → Bool → ℕ → List ℕ → List ℕ
numbers_text skips decimal cols group upper start bytes = lines_by skips (words_line decimal upper cols (group_of cols group)) cols start bytes

same_decimal_hex : (x y : Bool) (a b c d s t : ℕ) (u v : Bool) → x ≡ y → a ≡ b → c ≡ d → u ≡ v → s ≡ t → decimal_hex_text x a c u s ≡ decimal_hex_text y b d v t
same_decimal_hex x y a b c d s t u v z p q r e = cc

same_decimal_bits : (x y : Bool) (a b c d s t : ℕ) → x ≡ y → a ≡ b → c ≡ d → s ≡ t → decimal_bits_text x a c s ≡ decimal_bits_text y b d t
same_decimal_bits x y a b c d s t z p q e = cc

same_numbers : (x y decimal : Bool) (a b c d s t : ℕ) (u v : Bool) → x ≡ y → a ≡ b → c ≡ d → u ≡ v → s ≡ t → numbers_text x decimal a c u s ≡ numbers_text y decimal b d v t
same_numbers x y decimal a b c d s t u v z p q r e = cc

same_normal : (x y : Bool) (a b c d s t : ℕ) (u v : Bool) → x ≡ y → a ≡ b → c ≡ d → u ≡ v → s ≡ t → normal_text x a c u s ≡ normal_text y b d v t
same_normal x y a b c d s t u v z p q r e = cc

same_binary : (x y : Bool) (a b c d s t : ℕ) → x ≡ y → a ≡ b → c ≡ d → s ≡ t → binary_text x a c s ≡ binary_text y b d t
same_binary x y a b c d s t z p q e = cc

same_digits : (a b : ℕ) (u v : Bool) → a ≡ b → u ≡ v → digits_text u a ≡ digits_text v b
same_digits a b u v p q = cc

same_text : (n : ℕ) (style : XxdStyle) (whole rest : XxdOptions) → IsXxdRest n whole rest → styled style rest ≡ styled style whole
unfolding normal_text binary_text digits_text decimal_hex_text decimal_bits_text numbers_text
same_text n Normal whole rest is =
    let start : rest.seek + rest.shift ≡ whole.seek + whole.shift = omega (arith, is.seek, is.shift) in
    same_normal rest.autoskip whole.autoskip rest.cols whole.cols rest.group whole.group _ _ rest.upper whole.upper is.shown.4 is.shown.0 is.shown.1 is.shown.3 start
same_text n Bits whole rest is =
    let start : rest.seek + rest.shift ≡ whole.seek + whole.shift = omega (arith, is.seek, is.shift) in
    same_binary rest.autoskip whole.autoskip rest.cols whole.cols rest.group whole.group _ _ is.shown.4 is.shown.0 is.shown.1 start
same_text n Plain whole rest is = same_digits rest.cols whole.cols rest.upper whole.upper is.shown.0 is.shown.3
same_text n (Decimal false) whole rest is =
    let start : rest.seek + rest.shift ≡ whole.seek + whole.shift = omega (arith, is.seek, is.shift) in
    same_decimal_hex rest.autoskip whole.autoskip rest.cols whole.cols rest.group whole.group _ _ rest.upper whole.upper is.shown.4 is.shown.0 is.shown.1 is.shown.3 start
same_text n (Decimal true) whole rest is =
    let start : rest.seek + rest.shift ≡ whole.seek + whole.shift = omega (arith, is.seek, is.shift) in
    same_decimal_bits rest.autoskip whole.autoskip rest.cols whole.cols rest.group whole.group _ _ is.shown.4 is.shown.0 is.shown.1 start
same_text n (Words decimal) whole rest is =
    let start : rest.seek + rest.shift ≡ whole.seek + whole.shift = omega (arith, is.seek, is.shift) in
    same_numbers rest.autoskip whole.autoskip decimal rest.cols whole.cols rest.group whole.group _ _ rest.upper whole.upper is.shown.4 is.shown.0 is.shown.1 is.shown.3 start
same_text n Unbroken whole rest is = ap unbroken_text is.shown.3
same_text n (Include None) whole rest is = ap include_items is.shown.0
same_text n (Include (Some name)) whole rest is = ap (named_text name.now) is.shown.0

same_held : (style : XxdStyle) (whole rest : XxdOptions) → rest.autoskip ≡ whole.autoskip → held_of style rest ≡ held_of style whole
same_held Normal whole rest e = ap kept_by e
same_held Bits whole rest e = ap kept_by e
same_held Plain whole rest e = refl
same_held (Decimal bits) whole rest e = ap kept_by e
same_held (Words decimal) whole rest e = ap kept_by e
same_held Unbroken whole rest e = refl
same_held (Include name) whole rest e = refl

pub xxd_rest : (n : ℕ) (style : XxdStyle) (whole rest : XxdOptions) → IsXxdRest n whole rest → xxd_of style rest ≡ behind n (xxd_of style whole)
xxd_rest n style whole rest is =
    same_dump (styled style rest) (styled style whole) rest.seek (whole.seek - n) rest.limit whole.limit (held_of style rest) (held_of style whole)
    (same_text n style whole rest is) (omega (arith, is.seek)) is.shown.2 (same_held style whole rest is.shown.4)

pub rest_asks_behind : RestAsksBehind
rest_asks_behind n = (od_rest n, hexdump_rest n, xxd_rest n)
