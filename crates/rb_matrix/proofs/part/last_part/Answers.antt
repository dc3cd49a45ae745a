use Rattle.std.proofs.Common.{length, refl, sym, ap, ◌∙◌}
use Rattle.std.proofs.lemmas.Result.{IfOk-weaker}
use Rattle.std.specs.Option.{option_copied}
use Rattle.rb_matrix.specs.inner.Problems.{with_column, IsPartAt, IsSpecialized}
use Rattle.rb_matrix.proofs.Parts.{no-fields}
use Rattle.rb_matrix.proofs.Splits.{specialized-part}
use Rattle.rb_matrix.proofs.part.last_part.Goals as goal

pub returns-in_default : goal.returns-in_default
returns-in_default c =
    no-fields c.args.types.now c.args.ty c.args.head c.args.behind.tys c.args.behind.wanted c.args.behind.unwanted
    (sym c.head_fields.ensures ∙ ap option_copied c.in_default.is)

pub returns : goal.returns
returns c =
    let at = sym c.head_fields.ensures ∙ ap option_copied c.in-Some.is in
    let types = c.args.types.now in let ty = c.args.ty in let h = c.args.head in let fs = c.in-Some.fields.now in
    let p = with_column ty c.args.behind in let q = c.unfold_columns.new.self in let made = c.in_ok-unfold_columns.ensures in
    IfOk-weaker c.specialized.result (IsSpecialized h (length fs) q) (IsPartAt types ty c.args.behind.tys p h)
    (specialized-part types ty c.args.behind.tys p refl h fs at q made.tys made.wanted made.unwanted made.steps c.requires.inhabited c.requires.lives c.requires.stands)
    c.specialized.ensures
