use Rattle.std.proofs.Common.{◌∙◌, rules, ap}
use Rattle.std.specs.Prelude.{slice_index}
use Rattle.rb_trim.proofs.moving.name.Goals as goal

pub returns : goal.returns
returns c = record {
  same = λ s s' m agree hold.
      ap (λ n. slice_index s' n) c.name_at-new.ensures
      ∙ agree c.source-from.result (c.is_read.ensures.0 (search rules))
      ∙ c.source-from.ensures s m hold;
}
