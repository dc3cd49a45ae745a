-- Images as text: a line of root words, and a line a block. An image is root words, those of a value, and blocks of a
-- memory, each given by its address in bytes and by its bytes. Each byte of a text is the code of a character.
use Rattle.std.specs.Prelude.{ℕ, ◌/◌, ◌%◌, List, [], ◌∷◌, ◌++◌, length, codes, false}
use Rattle.std.specs.Fmt.{decimal, digits, digit_glyph}
use Rattle.std.specs.List.{flat_map}
use Rattle.rb_image_text.specs.declared.image.ImageBlock.{ImageBlock}
use Rattle.rb_image_text.specs.declared.image.Image.{Image}

-- the byte of the hexadecimal digit of a number below 16, in lower case
abbrev pub hex_digit : ℕ → ℕ
hex_digit d = digit_glyph false d

-- a number in lower-case hexadecimal, without leading zeros
abbrev pub hexadecimal : ℕ → List ℕ
hexadecimal n = digits 16 false n

-- a root word in the text of an image: a blank, `0x`, and the word in hexadecimal
abbrev pub root_word_text : ℕ → List ℕ
root_word_text w = codes " 0x" ++ hexadecimal w

-- root words in the text of an image, each behind a blank; nothing where there is none
abbrev pub words_text : List ℕ → List ℕ
words_text ws = flat_map root_word_text ws

-- a byte of a block as two hexadecimal digits, the upper one first
abbrev pub byte_text : ℕ → List ℕ
byte_text b = hex_digit (b / 16) ∷ hex_digit (b % 16) ∷ []

-- the bytes of a block, each as two hexadecimal digits, with nothing between
abbrev pub bytes_text : List ℕ → List ℕ
bytes_text bs = flat_map byte_text bs

-- the first line of an image's text: `root`, the root words, each behind a blank, and a line feed
abbrev pub root_text : List ℕ → List ℕ
root_text ws = codes "root" ++ (words_text ws ++ codes "\n")

-- the line of a block: `block`, its address and the number of its bytes in decimal, and its bytes, with one blank
-- between each two of these; then a line feed
abbrev pub block_text : ImageBlock → List ℕ
block_text b =
    codes "block " ++ (decimal b.at ++ (codes " " ++ (decimal (length b.bytes)
    ++ (codes " " ++ (bytes_text b.bytes ++ codes "\n")))))

-- the lines of blocks, one after the other
abbrev pub blocks_text : List ImageBlock → List ℕ
blocks_text bs = flat_map block_text bs

-- the text of an image: the line of its root words, and a line for each block, in their order
abbrev pub image_text : Image → List ℕ
image_text i = root_text i.root ++ blocks_text i.blocks
