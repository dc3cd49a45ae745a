-- Nodes that are not there.
use Rattle.std.proofs.Common.{◌≡◌, ℕ, ◌≤◌, List, [], length, sym, ap, ◌∙◌}
use Rattle.std.proofs.lemmas.List.{get_or_past}
use Rattle.rb_core.specs.declared.value.Value.{Value, Num}
use Rattle.rb_core.specs.Values.{subs}
use Rattle.rb_core.proofs.ValueLaws.{subs-Num}
use Rattle.rb_values.specs.Nodes.{at}
use Rattle.rb_coding.specs.inner.Nodes.{arity_of}

pub no_subs : (nodes : List Value) (node : ℕ) → length nodes ≤ node → subs (at nodes node) ≡ []
no_subs nodes node le = ap subs (get_or_past nodes node (Num 0) le) ∙ subs-Num 0

pub no_arity : (nodes : List Value) (node : ℕ) → length nodes ≤ node → 0 ≡ arity_of nodes node
no_arity nodes node le = sym (ap length (no_subs nodes node le))
