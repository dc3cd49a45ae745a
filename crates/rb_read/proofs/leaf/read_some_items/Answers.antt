use Rattle.std.proofs.Common.{rules}
use Rattle.rb_syntax.specs.Tokens.{tokens}
use Rattle.rb_read.specs.inner.Gives.{Gives}
use Rattle.rb_read.specs.inner.Reading.{pointer_tree, item_one, lay_item_tree}
use Rattle.rb_read.proofs.Pointers.{gives-item}
use Rattle.rb_read.proofs.leaf.read_some_items.Goals as goal

pub returns : goal.returns
returns c =
    c.read_some_closed.ensures (λ us. lay_item_tree c.args.levels us) (λ ps r h.
    let k : Gives (λ x. (x.0, tokens x.1.now)) r (item_one (pointer_tree c.args.levels) (tokens ps.now)) = search rules in
    gives-item r c.args.levels (tokens ps.now) k)
