-- The definitions at work on small regions.
use Rattle.std.proofs.Common.{◌≡◌, [], ◌∷◌, Ok, Err, refl}
use Rattle.rb_bytes.specs.Memory.{Memory, empty_memory, place_of, load_of, store_of}
use Rattle.rb_bytes.specs.declared.fault.Trap.TheVariants.{Astray, Unwritten}

-- a region of 80 bytes with blocks of 1 and of 4 bytes
abbrev two_blocks : Memory
two_blocks = (place_of (place_of (empty_memory 80) 1 1).1 4 4).1

first_address : (place_of (empty_memory 80) 1 1).0 ≡ Ok 64
first_address = refl

next_multiple : (place_of (place_of (empty_memory 80) 1 1).1 4 4).0 ≡ Ok 68
next_multiple = refl

blocks_are : two_blocks.blocks ≡ (64, 1) ∷ (68, 4) ∷ []
blocks_are = refl

next_is : two_blocks.next ≡ 72
next_is = refl

-- 9 bytes don't fit in the 8 that are left, and nothing changes
too_much : place_of two_blocks 9 1 ≡ (Err (record { next = 72; size = 9; align = 1; limit = 80 }), two_blocks)
too_much = refl

-- a word of two bytes, the lowest first
stored : Memory
unfolding store_of
stored = (store_of two_blocks 68 1 16 0xaabbcc).1

loaded : load_of stored 68 1 16 ≡ Ok 0xbbcc
unfolding store_of load_of stored
loaded = refl

low_byte : load_of stored 68 1 8 ≡ Ok 0xcc
unfolding store_of load_of stored
low_byte = refl

-- the first byte that was never written is at 71
unwritten : load_of stored 68 2 16 ≡ Err (Unwritten 71)
unfolding store_of load_of stored
unwritten = refl

-- the block of 68 has no fifth byte, and no block begins at 69
past_the_end : load_of stored 68 1 32 ≡ Err (Astray 68 1)
unfolding store_of load_of stored
past_the_end = refl

no_block : load_of stored 69 0 8 ≡ Err (Astray 69 0)
unfolding store_of load_of stored
no_block = refl

-- a store past the end changes nothing
not_stored : store_of two_blocks 68 3 16 7 ≡ (Err (Astray 68 3), two_blocks)
unfolding store_of
not_stored = refl
