use Rattle.std.proofs.Common.{◌≡◌, ◌++◌, ℕ, List, ap, ◌∙◌, append_assoc}
use Rattle.std.specs.Prelude.{codes}
use Rattle.rb_show.specs.Refusals.{unit_of_field}
use Rattle.rb_show.proofs.evidence.push_twice_held.Goals as goal

pub returns : goal.returns
returns c =
    let old = c.args.text.now.items in
    let unit = unit_of_field c.args.types.now c.args.leaves.now c.args.leaf c.args.path.now c.args.number in
    let first : c.push_unit.new.text.items ≡ old ++ unit = rw c.as_slice.ensures at c.in_ok-push_unit.ensures in
    c.in_ok-push.ensures.ok ∙ ap (λ (l : List ℕ). l ++ codes " held twice") first ∙ append_assoc old unit (codes " held twice")
