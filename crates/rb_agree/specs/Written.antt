-- The items of a leaf, as values of a program, and how they are shown, that is, turned into the items of which the
-- rules speak. An item is a word with its parts, or a field whose words stand inline; a part is `l` bits of its word
-- from bit `o` on. A path is the field numbers from the root of the leaf's provenance.
use Rattle.std.specs.Prelude.{List, map}
use Rattle.rb_layout.specs.Items as I
use Rattle.rb_agree.specs.declared.items.Content.{Content}
use Rattle.rb_agree.specs.declared.items.Content.TheVariants.{Number, Whole, Slice, WordOf, Address}
use Rattle.rb_agree.specs.declared.items.Written.{Written}
use Rattle.rb_agree.specs.declared.items.Item.{Item}
use Rattle.rb_agree.specs.declared.items.Item.TheVariants.{Parts, Field}

-- what a part is written to hold, as the rules speak of it
abbrev pub shown_content : Content → I.Content
shown_content (Number c) = I.Number c
shown_content (Whole path) = I.Whole path
shown_content (Slice path a k) = I.Slice path a k
shown_content (WordOf path j) = I.WordOf path j
shown_content (Address align) = I.Address align

-- a part as it is written, as the rules speak of it
abbrev pub shown_part : Written → I.WrittenPart
shown_part w = record { o = w.o; l = w.l; content = shown_content w.content }

-- an item as it is written, as the rules speak of it
abbrev pub shown_item : Item → I.Item
shown_item (Parts width parts) = I.AWord width (map shown_part parts)
shown_item (Field path) = I.AField path

-- items as they are written, as the rules speak of them, in order
abbrev pub shown_items : List Item → List I.Item
shown_items items = map shown_item items
