-- Rows, by computation.
use Rattle.std.proofs.Common.{◌≡◌, [], ◌∷◌, replicate, refl, true, false}
use Rattle.std.specs.Prelude.{codes}
use Rattle.std.specs.Fmt.{digits}
use Rattle.bx_dump.specs.Hexdump.{hexdump_text}
use Rattle.bx_dump.specs.Od.{od_line, od_rows, od_text}
use Rattle.bx_dump_columns.specs.declared.od.options.Address.TheVariants.{Octal, Decimal, Hexadecimal, Without}
use Rattle.bx_dump_columns.specs.declared.od.options.Endian.TheVariants.{Little, Big}
use Rattle.bx_dump_columns.specs.declared.od.options.NumForm.TheVariants as form
use Rattle.bx_dump_columns.specs.declared.od.options.Size.TheVariants.{One, Two, Four, Eight}
use Rattle.bx_dump_columns.specs.declared.od.options.Kind.TheVariants.{Chars, Number}

zeros_48 : hexdump_text false 0 (replicate 48 0) ≡ codes "00000000  00 00 00 00 00 00 00 00  00 00 00 00 00 00 00 00  |................|\n*\n00000030\n"
unfolding digits
zeros_48 = refl

none : hexdump_text false 0 [] ≡ []
none = refl

hello : hexdump_text false 0 (codes "Hello World\n") ≡ codes "00000000  48 65 6c 6c 6f 20 57 6f  72 6c 64 0a              |Hello World.|\n0000000c\n"
unfolding digits
hello = refl

od_x2 : od_text Octal (od_line Octal (Number form.Hexadecimal Two) Little) 16 false 0 (65 ∷ 66 ∷ 10 ∷ []) ≡ codes "0000000 4241 000a\n0000003\n"
unfolding digits
od_x2 = refl

od_none : od_text Octal (od_line Octal (Number form.Octal Two) Little) 16 false 0 [] ≡ codes "0000000\n"
unfolding digits
od_none = refl

od_skipped : od_text Octal (od_line Octal (Number form.Octal Two) Little) 16 false 3 [] ≡ codes "0000003\n"
unfolding digits
od_skipped = refl

od_chars : od_text Octal (od_line Octal Chars Little) 16 false 0 (72 ∷ 105 ∷ 10 ∷ 0 ∷ 92 ∷ 127 ∷ []) ≡ codes "0000000   H   i  \\n  \\0   \\ 177\n0000006\n"
unfolding digits
od_chars = refl

od_d1 : od_text Octal (od_line Octal (Number form.Signed One) Little) 16 false 0 (255 ∷ 128 ∷ []) ≡ codes "0000000   -1 -128\n0000002\n"
unfolding digits
od_d1 = refl

od_part : od_text Decimal (od_line Decimal (Number form.Unsigned One) Little) 16 false 1 (66 ∷ 67 ∷ []) ≡ codes "0000001  66  67\n0000003\n"
unfolding digits
od_part = refl

od_33_zeros : od_text Hexadecimal (od_line Hexadecimal (Number form.Hexadecimal One) Little) 16 false 0 (replicate 33 0) ≡ codes "000000 00 00 00 00 00 00 00 00 00 00 00 00 00 00 00 00\n*\n000020 00\n000021\n"
unfolding digits
od_33_zeros = refl

od_d4 : od_text Octal (od_line Octal (Number form.Signed Four) Little) 16 false 0 (255 ∷ 255 ∷ 255 ∷ []) ≡ codes "0000000    16777215\n0000003\n"
unfolding digits
od_d4 = refl

od_o8 : od_text Octal (od_line Octal (Number form.Octal Eight) Little) 16 false 0 (replicate 8 255) ≡ codes "0000000 1777777777777777777777\n0000010\n"
unfolding digits
od_o8 = refl

od_bare : od_text Without (od_line Without (Number form.Hexadecimal One) Little) 16 false 0 (codes "AB") ≡ codes " 41 42\n"
unfolding digits
od_bare = refl

od_x : od_text Octal (od_line Octal (Number form.Hexadecimal Two) Little) 16 false 0 (codes "AB") ≡ codes "0000000 4241\n0000002\n"
unfolding digits
od_x = refl

od_big : od_text Octal (od_line Octal (Number form.Hexadecimal Four) Big) 16 false 0 (codes "abcde") ≡ codes "0000000 61626364 65000000\n0000005\n"
unfolding digits
od_big = refl

od_wide : od_text Octal (od_line Octal (Number form.Hexadecimal Two) Little) 4 false 0 (codes "abcdabcdabcdef") ≡ codes "0000000 6261 6463\n*\n0000014 6665\n0000016\n"
unfolding digits
od_wide = refl

od_two : od_text Octal (od_rows Octal Little 4 (record { kind = Number form.Hexadecimal One; text = false }) (record { kind = Chars; text = true } ∷ [])) 4 false 0 (codes "Hi!\n?")
    ≡ codes "0000000  48  69  21  0a\n          H   i   !  \\n  >Hi!.<\n0000004  3f\n          ?              >?<\n0000005\n"
unfolding digits
od_two = refl
