-- Links of tests: of a value that begins with a constructor only the constructor counts.
use Rattle.std.proofs.Common.{◌≡◌, ℕ, List, [], ◌∷◌, Option, Some, refl, ap, ◌∙◌}
use Rattle.std.specs.Prelude.{if◌then◌else◌}
use Rattle.rb_core.specs.declared.value.Value.{Value}
use Rattle.rb_core.specs.declared.value.Value.TheOpen as V
use Rattle.rb_matrix.specs.declared.matrix.Head.{Head}
use Rattle.rb_matrix.specs.declared.matrix.Head.TheVariants as H
use Rattle.rb_matrix.specs.Heads.{layer_begins}
use Rattle.rb_decide.specs.declared.decision_graph.GraphArm.{GraphArm}
use Rattle.rb_facts.specs.Links.{take_link}

-- only the constructor counts
head_same : (h : Head) (c : ℕ) (us : List Value) → layer_begins h (V.Con c us) ≡ layer_begins h (V.Con c [])
head_same (H.Num n) c us = refl
head_same (H.Con d) c us = refl

pub link_same : (arms : List GraphArm) (other : Option ℕ) (c : ℕ) (us : List Value) → take_link arms other (V.Con c us) ≡ take_link arms other (V.Con c [])
link_same [] other c us = refl
link_same (a ∷ arms) other c us =
    ap (λ u. if u then Some a.under else take_link arms other (V.Con c us)) (head_same a.head c us) ∙ ap (λ r. if layer_begins a.head (V.Con c []) then Some a.under else r) (link_same arms other c us)
