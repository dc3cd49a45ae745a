-- What stands at a site of an image. A site says where bits are: a range of a root word, or of a word of a block.
-- `place` is the number of a root word, at base 0, or a byte in the block that begins at the base.
use Rattle.std.specs.Prelude.{unwrap_or}
use Rattle.rb_image_text.specs.declared.image.Image.{Image}
use Rattle.rb_image.specs.declared.kept.Kept.{Kept}
use Rattle.rb_image.specs.declared.site.Site.{Site}
use Rattle.rb_image.specs.Splits.{range_of}
use Rattle.rb_image.specs.WordReads.{read_of}

-- the word of which a site is a range, with where it is kept; its number is 0 where there is no such word
abbrev pub word_there : Image → Site → Kept
word_there image s =
    record { number = unwrap_or (read_of image s.base s.place s.width) 0; base = s.base; place = s.place }

-- the bits at a site, and where they are kept; the number 0 where there is no such word
abbrev pub kept_of : Image → Site → Kept
kept_of image s = range_of (word_there image s) s.o s.l
