use Rattle.std.proofs.Common.{◌∙◌}
use Rattle.rb_coding.specs.inner.Nodes.{subs_of}
use Rattle.rb_coding.proofs.PlaceLemmas.{root_same}
use Rattle.rb_coding.proofs.blocks.leaf_words.Goals as goal

pub returns : goal.returns
returns g c =
    let p = rw c.as_slice.ensures at c.in-Ok.ensures in
    let w = rw (c.as_slice-root.ensures, c.as_slice-2.ensures) at c.in_ok-pack_all.ensures in
    (p.0, p.2, p.3, w ∙ root_same (subs_of c.args.table.now c.args.nodes.now c.args.node) c.in-Ok.addresses p.0 c.args.leaf.now.root p.1)
