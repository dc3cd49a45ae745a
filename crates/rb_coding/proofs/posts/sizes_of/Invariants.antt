use Rattle.std.proofs.Common.{◌≡◌, List, map, take, true}
use Rattle.rb_core.specs.declared.types.Ty.{Ty}
use Rattle.rb_core.specs.declared.types.DataDecl.{DataDecl}
use Rattle.rb_core.specs.Values.{is_of_type, node_count}
use Rattle.rb_values.specs.Nodes.{posts}
use Rattle.rb_coding.proofs.posts.sizes_of.Given as goal

abbrev pub invariant-loop-node : goal.invariant-loop-node
invariant-loop-node l = (types : List DataDecl) (ty : Ty) → is_of_type types l.value ty ≡ true → l.sizes ≡ map node_count (take l.node (posts l.value))
