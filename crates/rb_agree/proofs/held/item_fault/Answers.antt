use Rattle.std.proofs.Common.{List, ap, sym, ◌∙◌}
use Rattle.std.specs.List.{flat_map}
use Rattle.rb_layout.specs.Items.{item_paths}
use Rattle.rb_layout.specs.Positions.{open_positions}
use Rattle.rb_agree.specs.declared.items.Item.{Item}
use Rattle.rb_agree.specs.declared.items.Written.{Written}
use Rattle.rb_agree.specs.Written.{shown_item}
use Rattle.rb_agree.specs.inner.Held.{part_paths}
use Rattle.rb_agree.proofs.Holding.{path-found, paths-found, word-paths}
use Rattle.rb_agree.proofs.held.item_fault.Goals as goal

pub returns-in-Field : goal.returns-in-Field
returns-in-Field c =
    path-found (open_positions c.args.types.now c.args.prov.now) c.in-Field.path (item_paths (shown_item c.args.item.now))
    (ap (λ (x : Item). item_paths (shown_item x)) c.in-Field.is) c.path_fault.result c.path_fault.ensures

pub returns-in-Parts : goal.returns-in-Parts
returns-in-Parts c =
    paths-found (open_positions c.args.types.now c.args.prov.now) (flat_map part_paths c.as_slice.result.now) (item_paths (shown_item c.args.item.now))
    (ap (λ (ws : List Written). flat_map part_paths ws) c.as_slice.ensures ∙ word-paths c.in-Parts.parts ∙ sym (ap (λ (x : Item). item_paths (shown_item x)) c.in-Parts.is))
    c.parts_fault.result c.parts_fault.ensures
