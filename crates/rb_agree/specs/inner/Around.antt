-- The parts of a leaf's words as they are declared: what each is written to hold, and the items behind it, if it is a
-- pointer. An item is a word with its parts, or a field whose words stand inline; a part is some bits of its word.
use Rattle.std.specs.Prelude.{List}
use Rattle.rb_core.specs.declared.layout_decl.LayItem.TheFolds.{fold-PartKind, fold-PartDecl}
use Rattle.rb_core.specs.declared.layout_decl.PartKind.{PartKind}
use Rattle.rb_core.specs.declared.layout_decl.PartDecl.{PartDecl}
use Rattle.rb_layout.specs.Items.{Around, items_step, content_step, written_part_step}
use Rattle.rb_layout.specs.Items as I

-- what a part of this kind is written to hold, and the items behind it, if it is a pointer
abbrev pub kind_around : PartKind → Around I.Content
kind_around =
    fold-PartKind (List I.Item) (Around I.Content) (Around I.WrittenPart) items_step content_step written_part_step

-- a part as it is written, and the items behind it, if it is a pointer
abbrev pub part_around : PartDecl → Around I.WrittenPart
part_around =
    fold-PartDecl (List I.Item) (Around I.Content) (Around I.WrittenPart) items_step content_step written_part_step

-- what a part of this kind is written to hold
abbrev pub content_of : PartKind → I.Content
content_of kind = (kind_around kind).it

-- a part as it is written, without the items behind it
abbrev pub written_part : PartDecl → I.WrittenPart
written_part p = (part_around p).it

-- the items behind a part that is a pointer; none behind another part
abbrev pub inside_of : PartDecl → List I.Item
inside_of p = (part_around p).inside
