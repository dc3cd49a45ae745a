-- What descends represents.
use Rattle.std.proofs.Common.{ℕ, false, List}
use Rattle.rb_core.specs.declared.types.DataDecl.{DataDecl}
use Rattle.rb_core.specs.declared.types.Ty.{Ty}
use Rattle.rb_core.specs.declared.value.Value.{Value}
use Rattle.rb_bytes.specs.Memory.{Memory}
use Rattle.rb_layout.specs.declared.layout.Layout.{Layout}
use Rattle.rb_rel.specs.Relation.{Represents}
use Rattle.rb_rel.specs.Relation as R
use Rattle.rb_image.specs.Falling.{Descends, built, number}

pub Descends-represents : {types : List DataDecl} {layouts : List Layout} {m : Memory} {ty : Ty} {v : Value} {ws : List ℕ} {from : ℕ → ℕ}
    → Descends types layouts m ty v ws from → Represents types layouts m false ty v ws
Descends-represents (number bits x from lt) = R.number bits x lt
Descends-represents (built t v ws from b inner falls kept below) = R.built t v ws b (λ k o e. Descends-represents (below k o e))
