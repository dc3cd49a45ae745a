use Rattle.rb_show.proofs.leaf.push_leaf.Goals as goal

pub push_blocks-requires : goal.push_blocks-requires
push_blocks-requires c = rw c.as_slice-2.ensures c.requires
