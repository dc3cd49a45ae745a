use Rattle.std.proofs.Common.{ℕ, List, sym, subst}
use Rattle.rb_layout.specs.A9.{Flattens}
use Rattle.rb_agree.specs.Graphs.{IsGraphOf}
use Rattle.rb_agree.proofs.rules.flat_cycle.Goals as goal

pub flattening_fault-requires : goal.flattening_fault-requires
flattening_fault-requires c = subst (λ (g : List (List ℕ)). IsGraphOf (Flattens c.args.layouts.now) g) (sym c.as_slice.ensures) c.requires.flattened
