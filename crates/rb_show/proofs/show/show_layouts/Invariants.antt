use Rattle.std.proofs.Common.{◌≡◌, take}
use Rattle.rb_show.specs.Lines.{layouts_text}
use Rattle.rb_show.proofs.show.show_layouts.Given as goal

abbrev pub invariant-loop-layout : goal.invariant-loop-layout
invariant-loop-layout l = l.text.items ≡ layouts_text l.types (take l.layout-index l.layout-items)
