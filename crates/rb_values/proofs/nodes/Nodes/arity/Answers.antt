use Rattle.std.proofs.Common.{length, ◌∙◌, ap, sym}
use Rattle.rb_core.specs.Values.{subs}
use Rattle.rb_core.proofs.ValueLaws as eqs
use Rattle.rb_values.proofs.nodes.Nodes.arity.Goals as goal

pub returns-in-Num : goal.returns-in-Num
returns-in-Num c = ap (λ vs. length vs) (sym (ap subs c.in-Num.ensures ∙ eqs.subs-Num c.in-Num.field-0))
