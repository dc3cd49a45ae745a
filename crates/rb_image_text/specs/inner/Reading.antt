-- Reading an image's text byte by byte. A spot is where reading stands between two bytes, with what is read in part
-- there. A move is what one byte more does at a spot: it leads to a spot, makes a root word or a block whole, or is
-- refused.
use Rattle.std.specs.Prelude.{◌≡◌, ℕ, ◌+◌, ◌-◌, ◌*◌, ◌^◌, ◌<◌, List, [], ◌∷◌, ◌++◌, length, codes, Bool, true, false, ◌&&◌, ◌==◌, nat_le, nat_lt, slice_index, if◌then◌else◌, Option, Some, None, Result, Ok, Err}
use Rattle.rb_bytes.specs.Memory.{most_block}
use Rattle.rb_image_text.specs.Stopping.{IsTextOf, StopsAt}
use Rattle.rb_image_text.specs.declared.image.ImageBlock.{ImageBlock}
use Rattle.rb_image_text.specs.declared.image.Image.{Image}
use Rattle.rb_image_text.specs.declared.spot.Spot.{Spot}
use Rattle.rb_image_text.specs.declared.spot.Spot.TheVariants.{Root, Prefix, Word, Line, Address, Sizing, Size, Bytes, Half}
use Rattle.rb_image_text.specs.declared.spot.Move.{Move}
use Rattle.rb_image_text.specs.declared.spot.Move.TheVariants as move
use Rattle.rb_image_text.specs.declared.step.Reader.{Reader}
use Rattle.rb_image_text.specs.declared.fault.ImageFault.{ImageFault}
use Rattle.rb_image_text.specs.declared.fault.ImageFault.TheVariants.{ImageSyntax, Memory}

-- digits -----------------------------------------------------------------------------------------

-- the number that a byte writes as a hexadecimal digit in lower case; None for any other byte
abbrev pub hex_of : ℕ → Option ℕ
hex_of b =
    if nat_le 48 b && nat_le b 57 then Some (b - 48)
    else (if nat_le 97 b && nat_le b 102 then Some (b - 97 + 10) else None)

-- the number that a byte writes as a decimal digit; None for any other byte
abbrev pub digit_of : ℕ → Option ℕ
digit_of b = if nat_le 48 b && nat_le b 57 then Some (b - 48) else None

-- what one byte does ---------------------------------------------------------------------------------

-- the move of byte b within a fixed word of which `read` bytes are read: to `next` where b is the word's next byte,
-- else refused
abbrev pub key_move : List ℕ → ℕ → ℕ → Spot → Move
key_move word read b next = if b == slice_index word read then move.To next else move.Refused

-- the move of a byte behind the word `root`: a blank leads to a root word, a line feed to a line, any other is
-- refused
abbrev pub root_end : ℕ → Move
root_end b = if b == 32 then move.To (Prefix 0) else (if b == 10 then move.To (Line 0) else move.Refused)

-- the move of byte b where `read` bytes of the word `root` are read; behind all four a blank or a line feed must
-- stand
abbrev pub root_step : ℕ → ℕ → Move
root_step read b = if nat_lt read 4 then key_move (codes "root") read b (Root (read + 1)) else root_end b

-- the move by the first digit of a root word; refused at None, a byte that is no digit
abbrev pub first_hex : Option ℕ → Move
first_hex None = move.Refused
first_hex (Some d) = move.To (Word d)

-- the move of byte b where `read` bytes of the `0x` of a root word are read; behind both the word's first digit must
-- stand
abbrev pub prefix_step : ℕ → ℕ → Move
prefix_step read b = if nat_lt read 2 then key_move (codes "0x") read b (Prefix (read + 1)) else first_hex (hex_of b)

-- the move by one more digit of a root word, behind digits of the number w; refused at None, a byte that is no digit,
-- behind a 0, and where the word would have more than 64 bits
abbrev pub more_hex : ℕ → Option ℕ → Move
more_hex w None = move.Refused
more_hex w (Some d) = if nat_lt 0 w && nat_lt w (2 ^ 60) then move.To (Word (w * 16 + d)) else move.Refused

-- the move of byte b behind digits of the number w of a root word: a blank or a line feed ends the word, a digit goes
-- on with it
abbrev pub word_step : ℕ → ℕ → Move
word_step w b =
    if b == 32 then move.Word w (Prefix 0) else (if b == 10 then move.Word w (Line 0) else more_hex w (hex_of b))

-- the move by the first digit of a block's address; refused at None, a byte that is no digit
abbrev pub first_address : Option ℕ → Move
first_address None = move.Refused
first_address (Some d) = move.To (Address d)

-- the move of byte b where `read` bytes of a line's `block ` are read; behind all six the first digit of an address
-- must stand
abbrev pub line_step : ℕ → ℕ → Move
line_step read b =
    if nat_lt read 6 then key_move (codes "block ") read b (Line (read + 1)) else first_address (digit_of b)

-- the move by one more digit of a block's address, behind digits of the number n; refused at None, a byte that is no
-- digit, behind a 0, and where the address would have more than 64 bits
abbrev pub more_address : ℕ → Option ℕ → Move
more_address n None = move.Refused
more_address n (Some d) =
    if nat_lt 0 n && nat_lt (n * 10 + d) (2 ^ 64) then move.To (Address (n * 10 + d)) else move.Refused

-- the move of byte b behind digits of the number n of a block's address: a blank ends the address, a digit goes on
-- with it
abbrev pub address_step : ℕ → ℕ → Move
address_step n b = if b == 32 then move.To (Sizing n) else more_address n (digit_of b)

-- the move by the first digit of the size of a block at address n; refused at None, a byte that is no digit, and at 0
abbrev pub first_size : ℕ → Option ℕ → Move
first_size n None = move.Refused
first_size n (Some d) = if nat_lt 0 d then move.To (Size n d) else move.Refused

-- the move of byte b where the size of a block at address n is to begin: it must be a digit, and not 0
abbrev pub sizing_step : ℕ → ℕ → Move
sizing_step n b = first_size n (digit_of b)

-- the move by one more digit of the size of a block at address n, behind digits of the number s; refused at None, a
-- byte that is no digit, and where the size would be over `most_block`
abbrev pub more_size : ℕ → ℕ → Option ℕ → Move
more_size n s None = move.Refused
more_size n s (Some d) = if nat_le (s * 10 + d) most_block then move.To (Size n (s * 10 + d)) else move.Refused

-- a block at address n of which no byte is read yet
abbrev pub empty_at : ℕ → ImageBlock
empty_at n = record { at = n; bytes = [] }

-- the move of byte b behind digits of the number s of the size of a block at address n: a blank ends the size, a
-- digit goes on with it
abbrev pub size_step : ℕ → ℕ → ℕ → Move
size_step n s b = if b == 32 then move.To (Bytes (empty_at n) s) else more_size n s (digit_of b)

-- the move by the upper digit of the next byte of a block that is to have s bytes; refused at None, a byte that is no
-- digit
abbrev pub upper_half : ImageBlock → ℕ → Option ℕ → Move
upper_half block s None = move.Refused
upper_half block s (Some d) = move.To (Half block s d)

-- the move of byte b behind whole bytes of a block that is to have s: where some are wanting, b must be the next
-- one's upper digit, else the line feed that ends the block
abbrev pub bytes_step : ImageBlock → ℕ → ℕ → Move
bytes_step block s b =
    if nat_lt (length block.bytes) s then upper_half block s (hex_of b)
    else (if b == 10 then move.Block block else move.Refused)

-- a block with byte b behind its others
abbrev pub with_byte : ImageBlock → ℕ → ImageBlock
with_byte block b = record block { bytes = block.bytes ++ b ∷ [] }

-- the move by the lower digit of a byte of a block that is to have s bytes, behind its upper digit: the byte is put
-- to the block; refused at None, a byte that is no digit
abbrev pub lower_half : ImageBlock → ℕ → ℕ → Option ℕ → Move
lower_half block s upper None = move.Refused
lower_half block s upper (Some d) = move.To (Bytes (with_byte block (upper * 16 + d)) s)

-- the move of byte b behind the upper digit of a byte of a block that is to have s bytes: b must be the lower digit
abbrev pub half_step : ImageBlock → ℕ → ℕ → ℕ → Move
half_step block s upper b = lower_half block s upper (hex_of b)

-- the move of a byte at a spot
abbrev pub step : Spot → ℕ → Move
step (Root read) b = root_step read b
step (Prefix read) b = prefix_step read b
step (Word w) b = word_step w b
step (Line read) b = line_step read b
step (Address n) b = address_step n b
step (Sizing n) b = sizing_step n b
step (Size n s) b = size_step n s b
step (Bytes block s) b = bytes_step block s b
step (Half block s upper) b = half_step block s upper b

-- the upper half of a byte that a spot holds is the number of one digit; other spots hold none
abbrev pub IsHalved : Spot → Type 0
IsHalved (Half block s upper) = upper < 16
IsHalved spot = Unit {0}

-- what all bytes do -----------------------------------------------------------------------------------

-- the reader before the first byte: nothing is read
abbrev pub start : Reader
start = record { root = []; blocks = []; spot = Root 0 }

-- the reader behind a move, with the root word or the block that the move makes whole; None where the move is refused
abbrev pub reader_behind : Reader → Move → Option Reader
reader_behind r (move.To spot) = Some (record r { spot = spot })
reader_behind r (move.Word w spot) = Some (record r { root = r.root ++ w ∷ []; spot = spot })
reader_behind r (move.Block block) = Some (record r { blocks = r.blocks ++ block ∷ []; spot = Line 0 })
reader_behind r move.Refused = None

-- the reader after one byte more, or None where no text goes on so
abbrev pub feed : Reader → ℕ → Option Reader
feed r b = reader_behind r (step r.spot b)

-- the reader after one byte more; None where there was none, or the byte is refused
abbrev pub then_feed : Option Reader → ℕ → Option Reader
then_feed None b = None
then_feed (Some r) b = feed r b

-- the reader after all bytes of a list; None where there was none before them, or one of them is refused
abbrev pub run : Option Reader → List ℕ → Option Reader
run o [] = o
run o (b ∷ bs) = run (then_feed o b) bs

-- whether a text may end at a spot: only at the beginning of a line behind that of the root words
abbrev pub is_done : Spot → Bool
is_done (Line read) = read == 0
is_done spot = false

-- the image that a reader has read: its whole root words and its whole blocks
abbrev pub image_of : Reader → Image
image_of r = record { root = r.root; blocks = r.blocks }

-- `o`, what a byte leads to, fits the answer whether the byte was read: it is the reader r where it was, else None
abbrev pub IsFed : Option Reader → Reader → Bool → Type 0
IsFed o r true = o ≡ Some r
IsFed o r false = o ≡ None

-- the answer to reading all bytes is the reader after them, or the byte at which they stop being a text; or want of
-- memory, which says nothing of them
abbrev pub IsRun : List ℕ → Result Reader ImageFault → Type 0
IsRun bytes (Ok r) = run (Some start) bytes ≡ Some r
IsRun bytes (Err (ImageSyntax at)) = StopsAt bytes at
IsRun bytes (Err Memory) = Unit {0}
IsRun bytes (Err fault) = ⊥

-- the answer is the image whose text the bytes are, or the byte at which they stop being one; or want of memory,
-- which says nothing of them
abbrev pub IsImageReading : List ℕ → Result Image ImageFault → Type 0
IsImageReading bytes (Ok i) = IsTextOf bytes i
IsImageReading bytes (Err (ImageSyntax at)) = StopsAt bytes at
IsImageReading bytes (Err Memory) = Unit {0}
IsImageReading bytes (Err fault) = ⊥
