-- The definitions at work on the RISC-V word "beq x1, x2, +8", whose offset counts halves and is scattered.
use Rattle.std.proofs.Common.{◌≡◌, List, [], ◌∷◌, refl}
use Rattle.rb_bits.specs.Words.{mask_of, take_of, put_of}
use Rattle.rb_bits.specs.LittleEndian.{from_le_bytes, to_le_bytes}
use Rattle.rb_bits.specs.Slices.{gather_of, scatter_of}
use Rattle.rb_bits.specs.declared.slices.Slice.{Slice}

opcode : take_of 0x208463 0 7 ≡ 99
opcode = refl

first_register : take_of 0x208463 15 5 ≡ 1
first_register = refl

second_register : take_of 0x208463 20 5 ≡ 2
second_register = refl

other_register : put_of 0x208463 20 5 31 ≡ 0x1f08463
other_register = refl

low_byte : mask_of 0 8 ≡ 0xff
low_byte = refl

top_bit : mask_of 63 1 ≡ 0x8000000000000000
top_bit = refl

abbrev branch : List Slice
branch =
    record { o = 8; a = 0; l = 4 }
    ∷ record { o = 25; a = 4; l = 6 }
    ∷ record { o = 7; a = 10; l = 1 }
    ∷ record { o = 31; a = 11; l = 1 } ∷ []

offset : gather_of 0x208463 branch ≡ 4
offset = refl

-- all bits of the offset 1, and again the offset 4
far_back : scatter_of 0x208463 branch 0xfff ≡ 0xfe208fe3
far_back = refl

and_again : scatter_of 0xfe208fe3 branch 4 ≡ 0x208463
and_again = refl

lowest_first : from_le_bytes (0x63 ∷ 0x84 ∷ 0x20 ∷ 0 ∷ []) ≡ 0x208463
lowest_first = refl

as_bytes : to_le_bytes 4 0x208463 ≡ 0x63 ∷ 0x84 ∷ 0x20 ∷ 0 ∷ []
as_bytes = refl
