use Rattle.std.proofs.Common.{rules}
use Rattle.rb_syntax.specs.Tokens.{tokens}
use Rattle.rb_read.specs.inner.Gives.{Gives}
use Rattle.rb_read.specs.inner.Reading.{part, pointer_tree, item_one, lay_item_tree}
use Rattle.rb_read.proofs.Pointers.{gives-item}
use Rattle.rb_read.proofs.leaf.+leaf.Goals as goal

pub read_parts-returns : goal.read_parts-returns
read_parts-returns t c = c.read_any_closed.ensures (part (pointer_tree c.args.levels)) (λ ps r h. search rules)

pub read_items-returns : goal.read_items-returns
read_items-returns t c =
    c.read_any_closed.ensures (λ us. lay_item_tree c.args.levels us) (λ ps r h.
    let k : Gives (λ x. (x.0, tokens x.1.now)) r (item_one (pointer_tree c.args.levels) (tokens ps.now)) = search rules in
    gives-item r c.args.levels (tokens ps.now) k)
