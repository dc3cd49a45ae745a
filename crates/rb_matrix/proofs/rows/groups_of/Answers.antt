use Rattle.std.proofs.Common.{◌≡◌, ◌<◌, ◌∙◌, [], length, get_or, refl, sym, ap, arith}
use Rattle.std.proofs.lemmas.Option.{slice_get_read, get_or_from_slice_get}
use Rattle.rb_matrix.specs.inner.Groups.{row_key}
use Rattle.rb_matrix.proofs.Grouping.{first-more}
use Rattle.rb_matrix.proofs.rows.groups_of.Goals as goal

pub loop-number-preserved : goal.loop-number-preserved
loop-number-preserved c =
    let rows = c.args.rows.now in let i = c.loop-number.number in let r = c.index-rows-number.result in
    let within : i < length rows = omega (arith, c.loop-number-test.true) in
    let row : get_or rows i [] ≡ r = get_or_from_slice_get rows i r [] (slice_get_read rows (length rows) i r refl within c.index-rows-number.is) in
    first-more rows i c.loop-number.groups c.add.new.self within c.loop-number.invariant c.key.result (c.key.ensures ∙ ap row_key (sym row)) c.in_ok-add.ensures
