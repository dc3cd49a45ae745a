use Rattle.std.proofs.Common.{◌∙◌, ◌++◌, ap, refl}
use Rattle.std.specs.List.{flat_map}
use Rattle.rb_layout.specs.Splits.{routes_of}
use Rattle.rb_show.specs.inner.Ways.{way_lines}
use Rattle.rb_show.proofs.Leading.{routes-shown}
use Rattle.rb_core.proofs.TextLemmas.{two}
use Rattle.rb_show.proofs.show.push_lines.Goals as goal

pub returns : goal.returns
returns c =
    let types = c.args.types.now in
    let layout = c.args.layout.now in
    two _ _ _ _ _ _ c.in_ok-push_type_line.ensures refl
    ((rw c.as_slice.ensures at c.in_ok-push_leaves.ensures)
    ∙ ap (λ ways. c.push_type_line.new.text.items ++ flat_map (way_lines types layout.leaves) ways) c.in_ok-ways.ensures
    ∙ ap (λ t. c.push_type_line.new.text.items ++ t) (routes-shown types layout.leaves (routes_of layout.tree)))
