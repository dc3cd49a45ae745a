use Rattle.rb_layout.specs.Flattening.{flat_layouts}
use Rattle.rb_image.proofs.SpanRecursion.{spans_recur}
use Rattle.rb_image.proofs.laws.spans_recur.Goals as goal

pub returns : goal.returns
returns c = λ p agrees t. spans_recur (flat_layouts p) agrees.a9 t
