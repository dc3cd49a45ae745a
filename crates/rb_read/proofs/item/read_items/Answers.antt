use Rattle.std.proofs.Common.{rules}
use Rattle.rb_core.specs.Limits.{most_levels}
use Rattle.rb_read.specs.inner.Reading.{begins_item, file_item, file_items}
use Rattle.rb_read.proofs.item.read_items.Goals as goal

pub returns : goal.returns
unfolding file_items
returns c = c.read_each.ensures begins_item (file_item most_levels c.args.total) (λ ps r h. search rules) (λ ps r h. search rules)
